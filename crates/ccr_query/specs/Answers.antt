-- What one shard answers to a search.
use Rattle.std.specs.Prelude.{ℕ, Bool, List}
use Rattle.ccr_query.specs.declared.answers.Hit.{Hit}

pub record HitsOfShard : Type 0 where
  pub count : ℕ
  pub gap : Bool
  pub hits : List Hit
