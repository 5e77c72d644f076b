-- A reader or a writer, and how many of its calls have failed.
use Rattle.std.specs.Prelude.{ℕ}

pub record Adapter (H : Type 0) : Type 0 where
  pub handle : H
  pub faults : ℕ
