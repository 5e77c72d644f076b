-- Parts that were appended one after the other.
use Rattle.std.proofs.Common.{◌≡◌, ◌++◌, List, ℕ, ap, ◌∙◌, append_assoc}

pub appends : (old a b x y : List ℕ) → a ≡ old ++ x → b ≡ a ++ y → b ≡ old ++ (x ++ y)
appends old a b x y one two = two ∙ ap (λ (l : List ℕ). l ++ y) one ∙ append_assoc old x y
