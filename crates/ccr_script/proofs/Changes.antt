-- The changes of a generated script, one by one.
use Rattle.std.proofs.Common.{◌≡◌, ℕ, suc, ◌+◌, ◌-◌, ◌/◌, ◌<◌, ◌≤◌, List, [], ◌∷◌, ◌++◌, refl, sym, ap, ◌∙◌, append_assoc, arith}
use Rattle.std.proofs.lemmas.List.{append-nil}
use Rattle.ccr_script.specs.declared.commands.Command.{Command}
use Rattle.ccr_script.specs.Generated.{before, change, changes, next}

pub changes_more : (done : List Command) (writes i x : ℕ) → i < writes
    → ((done ++ before i writes) ++ (change i (next x / 65536) writes ∷ [])) ++ changes writes (writes - (i + 1)) (i + 1) (next x) ≡ done ++ changes writes (writes - i) i x
changes_more done writes i x h =
    let e : writes - i ≡ suc (writes - (i + 1)) = omega (arith, h) in
    let one = change i (next x / 65536) writes in
    rw e (append_assoc (done ++ before i writes) (one ∷ []) (changes writes (writes - (i + 1)) (i + 1) (next x))
    ∙ append_assoc done (before i writes) (one ∷ changes writes (writes - (i + 1)) (i + 1) (next x)))

pub changes_all : (done : List Command) (writes i x : ℕ) → writes ≤ i → done ++ changes writes (writes - i) i x ≡ done
changes_all done writes i x h =
    let e : writes - i ≡ 0 = omega (arith, h) in rw e (append-nil done)

pub ruleset change_rules = (changes_more, changes_all)
