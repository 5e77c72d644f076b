-- One worker more is hired, and one gives back what it has.
use Rattle.std.proofs.Common.{◌≡◌, ℕ, ◌+◌, ◌≤◌, List, [], ◌∷◌, subst, sym}
use Rattle.ccr_cell.specs.declared.pass.Ticket.{Ticket}
use Rattle.ccr_cell.specs.declared.cell.Cell.{Cell}
use Rattle.ccr_workers.specs.Lists.{Each}
use Rattle.ccr_workers.specs.Settles.{IsOnlyPass}
use Rattle.ccr_workers.specs.Lending.{Went, Halved}
use Rattle.ccr_workers.proofs.Lists.{each_then}
use Rattle.ccr_workers.proofs.Growing.{lent_more, went_then}

module _ {X S V R E N : Type 0} (start : X → S) (chosen : S → List E → E → Type 0) where
  pub each_lent : (n m : ℕ) (cells : List (Cell X S V R E N)) (ps qs rs : List (Ticket X S E)) → n + 2 ≤ 4294967296 → m ≡ n + 1 → Each (IsOnlyPass start) cells ps
      → Each (Went chosen n 0) ps qs → Each Halved qs rs → Each (Went chosen m 0) ps rs
  each_lent n m [] [] [] [] few more only lent halved = tt
  each_lent n m [] [] [] (r ∷ rs) few more only lent halved = absurd halved
  each_lent n m [] [] (q ∷ qs) rs few more only lent halved = absurd lent
  each_lent n m [] (p ∷ ps) qs rs few more only lent halved = absurd only
  each_lent n m (c ∷ cells) [] qs rs few more only lent halved = absurd only
  each_lent n m (c ∷ cells) (p ∷ ps) [] rs few more only lent halved = absurd lent
  each_lent n m (c ∷ cells) (p ∷ ps) (q ∷ qs) [] few more only lent halved = absurd halved
  each_lent n m (c ∷ cells) (p ∷ ps) (q ∷ qs) (r ∷ rs) few more only lent halved = (
    subst (λ k. Went chosen k 0 p r) (sym more) (lent_more chosen n p q r only.0.alone few lent.0 halved.0),
    each_lent n m cells ps qs rs few more only.1 lent.1 halved.1,
  )

module _ {X S E : Type 0} (chosen : S → List E → E → Type 0) where
  pub each_back : (n m : ℕ) (ps qs rs : List (Ticket X S E)) → n + 1 ≡ m → Each (Went chosen 0 n) ps qs → Each (Went chosen 0 1) qs rs → Each (Went chosen 0 m) ps rs
  each_back n m ps qs rs more one two = subst (λ k. Each (Went chosen 0 k) ps rs) more
      (each_then (Went chosen 0 n) (Went chosen 0 1) (Went chosen 0 (n + 1)) (λ p q r a b. went_then chosen 0 n 0 1 p q r a b) ps qs rs one two)
