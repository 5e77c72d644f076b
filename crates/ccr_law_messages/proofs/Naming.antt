-- The UUID of a follower's number names that follower alone.
use Rattle.std.specs.Prelude.{slice_get}
use Rattle.std.specs.Str.{bytes_eq}
use Rattle.std.proofs.Common.{◌≡◌, ℕ, zero, suc, ◌+◌, ◌<◌, ◌≤◌, Bool, true, false, if◌then◌else◌, Some, List, [], ◌∷◌, length, refl, sym, ◌∙◌, ap, subst, arith}
use Rattle.std.proofs.lemmas.Slice.Eq.{bytes_eq-Decides}
use Rattle.ccr_model.specs.Followers.{Follower, uuid_of}
use Rattle.ccr_model.specs.World.{follower_from, follower_of, most_followers}
use Rattle.ccr_law_base.proofs.Lists.{get_within}

after-0 : (f : ℕ) → 0 < f → f < 9 → bytes_eq (uuid_of 0) (uuid_of f) ≡ false
after-0 zero less few = absurd (omega arith)
after-0 (suc zero) less few = refl
after-0 (suc (suc zero)) less few = refl
after-0 (suc (suc (suc zero))) less few = refl
after-0 (suc (suc (suc (suc zero)))) less few = refl
after-0 (suc (suc (suc (suc (suc zero))))) less few = refl
after-0 (suc (suc (suc (suc (suc (suc zero)))))) less few = refl
after-0 (suc (suc (suc (suc (suc (suc (suc zero))))))) less few = refl
after-0 (suc (suc (suc (suc (suc (suc (suc (suc zero)))))))) less few = refl
after-0 (suc (suc (suc (suc (suc (suc (suc (suc (suc f))))))))) less few = absurd (omega arith)

after-1 : (f : ℕ) → 1 < f → f < 9 → bytes_eq (uuid_of 1) (uuid_of f) ≡ false
after-1 zero less few = absurd (omega arith)
after-1 (suc zero) less few = absurd (omega arith)
after-1 (suc (suc zero)) less few = refl
after-1 (suc (suc (suc zero))) less few = refl
after-1 (suc (suc (suc (suc zero)))) less few = refl
after-1 (suc (suc (suc (suc (suc zero))))) less few = refl
after-1 (suc (suc (suc (suc (suc (suc zero)))))) less few = refl
after-1 (suc (suc (suc (suc (suc (suc (suc zero))))))) less few = refl
after-1 (suc (suc (suc (suc (suc (suc (suc (suc zero)))))))) less few = refl
after-1 (suc (suc (suc (suc (suc (suc (suc (suc (suc f))))))))) less few = absurd (omega arith)

after-2 : (f : ℕ) → 2 < f → f < 9 → bytes_eq (uuid_of 2) (uuid_of f) ≡ false
after-2 zero less few = absurd (omega arith)
after-2 (suc zero) less few = absurd (omega arith)
after-2 (suc (suc zero)) less few = absurd (omega arith)
after-2 (suc (suc (suc zero))) less few = refl
after-2 (suc (suc (suc (suc zero)))) less few = refl
after-2 (suc (suc (suc (suc (suc zero))))) less few = refl
after-2 (suc (suc (suc (suc (suc (suc zero)))))) less few = refl
after-2 (suc (suc (suc (suc (suc (suc (suc zero))))))) less few = refl
after-2 (suc (suc (suc (suc (suc (suc (suc (suc zero)))))))) less few = refl
after-2 (suc (suc (suc (suc (suc (suc (suc (suc (suc f))))))))) less few = absurd (omega arith)

after-3 : (f : ℕ) → 3 < f → f < 9 → bytes_eq (uuid_of 3) (uuid_of f) ≡ false
after-3 zero less few = absurd (omega arith)
after-3 (suc zero) less few = absurd (omega arith)
after-3 (suc (suc zero)) less few = absurd (omega arith)
after-3 (suc (suc (suc zero))) less few = absurd (omega arith)
after-3 (suc (suc (suc (suc zero)))) less few = refl
after-3 (suc (suc (suc (suc (suc zero))))) less few = refl
after-3 (suc (suc (suc (suc (suc (suc zero)))))) less few = refl
after-3 (suc (suc (suc (suc (suc (suc (suc zero))))))) less few = refl
after-3 (suc (suc (suc (suc (suc (suc (suc (suc zero)))))))) less few = refl
after-3 (suc (suc (suc (suc (suc (suc (suc (suc (suc f))))))))) less few = absurd (omega arith)

after-4 : (f : ℕ) → 4 < f → f < 9 → bytes_eq (uuid_of 4) (uuid_of f) ≡ false
after-4 zero less few = absurd (omega arith)
after-4 (suc zero) less few = absurd (omega arith)
after-4 (suc (suc zero)) less few = absurd (omega arith)
after-4 (suc (suc (suc zero))) less few = absurd (omega arith)
after-4 (suc (suc (suc (suc zero)))) less few = absurd (omega arith)
after-4 (suc (suc (suc (suc (suc zero))))) less few = refl
after-4 (suc (suc (suc (suc (suc (suc zero)))))) less few = refl
after-4 (suc (suc (suc (suc (suc (suc (suc zero))))))) less few = refl
after-4 (suc (suc (suc (suc (suc (suc (suc (suc zero)))))))) less few = refl
after-4 (suc (suc (suc (suc (suc (suc (suc (suc (suc f))))))))) less few = absurd (omega arith)

after-5 : (f : ℕ) → 5 < f → f < 9 → bytes_eq (uuid_of 5) (uuid_of f) ≡ false
after-5 zero less few = absurd (omega arith)
after-5 (suc zero) less few = absurd (omega arith)
after-5 (suc (suc zero)) less few = absurd (omega arith)
after-5 (suc (suc (suc zero))) less few = absurd (omega arith)
after-5 (suc (suc (suc (suc zero)))) less few = absurd (omega arith)
after-5 (suc (suc (suc (suc (suc zero))))) less few = absurd (omega arith)
after-5 (suc (suc (suc (suc (suc (suc zero)))))) less few = refl
after-5 (suc (suc (suc (suc (suc (suc (suc zero))))))) less few = refl
after-5 (suc (suc (suc (suc (suc (suc (suc (suc zero)))))))) less few = refl
after-5 (suc (suc (suc (suc (suc (suc (suc (suc (suc f))))))))) less few = absurd (omega arith)

after-6 : (f : ℕ) → 6 < f → f < 9 → bytes_eq (uuid_of 6) (uuid_of f) ≡ false
after-6 zero less few = absurd (omega arith)
after-6 (suc zero) less few = absurd (omega arith)
after-6 (suc (suc zero)) less few = absurd (omega arith)
after-6 (suc (suc (suc zero))) less few = absurd (omega arith)
after-6 (suc (suc (suc (suc zero)))) less few = absurd (omega arith)
after-6 (suc (suc (suc (suc (suc zero))))) less few = absurd (omega arith)
after-6 (suc (suc (suc (suc (suc (suc zero)))))) less few = absurd (omega arith)
after-6 (suc (suc (suc (suc (suc (suc (suc zero))))))) less few = refl
after-6 (suc (suc (suc (suc (suc (suc (suc (suc zero)))))))) less few = refl
after-6 (suc (suc (suc (suc (suc (suc (suc (suc (suc f))))))))) less few = absurd (omega arith)

after-7 : (f : ℕ) → 7 < f → f < 9 → bytes_eq (uuid_of 7) (uuid_of f) ≡ false
after-7 zero less few = absurd (omega arith)
after-7 (suc zero) less few = absurd (omega arith)
after-7 (suc (suc zero)) less few = absurd (omega arith)
after-7 (suc (suc (suc zero))) less few = absurd (omega arith)
after-7 (suc (suc (suc (suc zero)))) less few = absurd (omega arith)
after-7 (suc (suc (suc (suc (suc zero))))) less few = absurd (omega arith)
after-7 (suc (suc (suc (suc (suc (suc zero)))))) less few = absurd (omega arith)
after-7 (suc (suc (suc (suc (suc (suc (suc zero))))))) less few = absurd (omega arith)
after-7 (suc (suc (suc (suc (suc (suc (suc (suc zero)))))))) less few = refl
after-7 (suc (suc (suc (suc (suc (suc (suc (suc (suc f))))))))) less few = absurd (omega arith)

-- an earlier number has another UUID
pub differs : (k f : ℕ) → k < f → f < 9 → bytes_eq (uuid_of k) (uuid_of f) ≡ false
differs zero f less few = after-0 f less few
differs (suc zero) f less few = after-1 f less few
differs (suc (suc zero)) f less few = after-2 f less few
differs (suc (suc (suc zero))) f less few = after-3 f less few
differs (suc (suc (suc (suc zero)))) f less few = after-4 f less few
differs (suc (suc (suc (suc (suc zero))))) f less few = after-5 f less few
differs (suc (suc (suc (suc (suc (suc zero)))))) f less few = after-6 f less few
differs (suc (suc (suc (suc (suc (suc (suc zero))))))) f less few = after-7 f less few
differs (suc (suc (suc (suc (suc (suc (suc (suc k)))))))) f less few = absurd (omega arith)

same : (f : ℕ) → bytes_eq (uuid_of f) (uuid_of f) ≡ true
same f = (bytes_eq-Decides (uuid_of f) (uuid_of f)).1 refl

named-from : (followers : List Follower) (k j f : ℕ) (s : Follower) → f ≡ k + j → f < 8 → slice_get followers j ≡ Some s → follower_from k followers (uuid_of f) ≡ Some f
named-from [] k j f s is few at = absurd cc
named-from (x ∷ followers) k zero f s is few at =
    let here : k ≡ f = omega arith in
    let passes : bytes_eq (uuid_of k) (uuid_of f) ≡ true = subst (λ (m : ℕ). bytes_eq (uuid_of m) (uuid_of f) ≡ true) (sym here) (same f) in
    ap (λ (b : Bool). if b then Some k else follower_from (k + 1) followers (uuid_of f)) passes ∙ ap (λ (m : ℕ). Some m) here
named-from (x ∷ followers) k (suc j) f s is few at =
    ap (λ (b : Bool). if b then Some k else follower_from (k + 1) followers (uuid_of f)) (differs k f (omega arith) (omega arith)) ∙ named-from followers (k + 1) j f s (omega arith) few at

-- the follower at a place is the one that its UUID names
pub named-at : (followers : List Follower) (f : ℕ) (s : Follower) → length followers ≤ most_followers → slice_get followers f ≡ Some s → follower_of followers (uuid_of f) ≡ Some f
named-at followers f s few at =
    let below : f < length followers = get_within followers f s at in
    named-from followers 0 f f s (omega arith) (omega arith) at
