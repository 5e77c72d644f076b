-- What a reply leaves to its read.
use Rattle.std.proofs.Common.{◌≡◌, ℕ, ◌-◌, Bool, true, false, nat_lt, if◌then◌else◌, List, Option, Some, None, refl, sym, ◌∙◌, ap}
use Rattle.ccr_op.specs.Operation.{Operation}
use Rattle.ccr_model.specs.Requests.{held_back}
use Rattle.ccr_model.specs.Tasks.{Read, changed_read, without_read, rest_from, reads_after}

abbrev pub rest_if_any : Read → List Operation → Option ℕ
rest_if_any r ops = if nat_lt (rest_from r ops) r.to then Some (rest_from r ops) else None

abbrev pub held_for : ℕ → ℕ → Read → Read
held_for from asked own = record own { from = from; asked = asked; progress = held_back }

some_rest : (a b : ℕ) → Some a ≡ Some b → a ≡ b
some_rest a b is = cc

-- the two outcomes, at a first number that is left
outcome : (b : Bool) (rest from to request : ℕ) (reads : List Read) → (if b then Some rest else None) ≡ Some from
    → changed_read request (held_for from (to - from)) reads ≡ (if b then changed_read request (held_for rest (to - rest)) reads else without_read request reads)
outcome true rest from to request reads is = ap (λ (n : ℕ). changed_read request (held_for n (to - n)) reads) (sym (some_rest rest from is))
outcome false rest from to request reads is = absurd (cc)

none_left : (b : Bool) (rest to request : ℕ) (reads : List Read) → (if b then Some rest else None) ≡ None
    → without_read request reads ≡ (if b then changed_read request (held_for rest (to - rest)) reads else without_read request reads)
none_left true rest to request reads is = absurd (cc)
none_left false rest to request reads is = refl

pub after-some : (r : Read) (ops : List Operation) (reads new : List Read) (from request to asked : ℕ) → new ≡ changed_read request (held_for from asked) reads → request ≡ r.request → to ≡ r.to → asked ≡ to - from
    → rest_if_any r ops ≡ Some from → new ≡ reads_after r ops reads
after-some r ops reads new from request to asked is number end size left =
    is ∙ (ap (λ (n : ℕ). changed_read n (held_for from asked) reads) number
    ∙ (ap (λ (n : ℕ). changed_read r.request (held_for from n) reads) (size ∙ ap (λ (n : ℕ). n - from) end)
    ∙ outcome (nat_lt (rest_from r ops) r.to) (rest_from r ops) from r.to r.request reads left))

pub after-none : (r : Read) (ops : List Operation) (reads new : List Read) (request : ℕ) → new ≡ without_read request reads → request ≡ r.request → rest_if_any r ops ≡ None → new ≡ reads_after r ops reads
after-none r ops reads new request is number left =
    is ∙ (ap (λ (n : ℕ). without_read n reads) number ∙ none_left (nat_lt (rest_from r ops) r.to) (rest_from r ops) r.to r.request reads left)
