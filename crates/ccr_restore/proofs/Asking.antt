-- The request of a number among those that are outstanding.
use Rattle.std.proofs.Common.{◌≡◌, ℕ, zero, suc, ◌+◌, ◌<◌, ◌≤◌, ◌==◌, Bool, true, false, if◌then◌else◌, List, [], ◌∷◌, ◌++◌, length, take, drop, get_or, set, filter, map, refl, sym, ◌∙◌, ap, add-one, arith}
use Rattle.std.specs.Prelude.{filter_map, Option}
use Rattle.ccr_model.specs.Requests.{Progress, is_sent}
use Rattle.ccr_model.specs.Restores.{ChunkAsked, changed_ask, without_ask}
use Rattle.ccr_model.specs.Settling.{least_of, time_of}
use Rattle.ccr_restore.specs.Asks.{first_of}
use Rattle.ccr_restore.proofs.Steps.{drop_none}

abbrev pub sent_of : List ChunkAsked → List ℕ
sent_of asks = map {A = ChunkAsked} {B = ℕ} (λ a. a.request) (filter (λ a. is_sent a.progress) asks)

abbrev pub least_in : List ChunkAsked → Option ℕ
least_in asks = least_of (filter_map time_of (map {A = ChunkAsked} {B = Progress} (λ a. a.progress) asks))

removed : (request n : ℕ) (b : Bool) (a : ChunkAsked) (rest without : List ChunkAsked) → (b ≡ false → take n rest ++ drop (suc n) rest ≡ without)
    → take (if b then 0 else n + 1) (a ∷ rest) ++ drop (suc (if b then 0 else n + 1)) (a ∷ rest) ≡ (if b then rest else a ∷ without)
removed request n true a rest without later = drop_none rest
removed request n false a rest without later =
    ap (λ (m : ℕ). take m (a ∷ rest) ++ drop (suc m) (a ∷ rest)) (add-one n) ∙ ap (λ (asks : List ChunkAsked). a ∷ asks) (later refl)

pub without-first : (request : ℕ) (asks : List ChunkAsked) → first_of request asks < length asks → take (first_of request asks) asks ++ drop (suc (first_of request asks)) asks ≡ without_ask request asks
without-first request [] lt = absurd (omega arith)
without-first request (a ∷ rest) lt =
    removed request (first_of request rest) (a.request == request) a rest (without_ask request rest)
    (λ isnt. without-first request rest (below isnt))
  where
    below : (a.request == request) ≡ false → first_of request rest < length rest
    below isnt =
        let one : first_of request (a ∷ rest) ≡ first_of request rest + 1 = ap (λ (b : Bool). if b then 0 else first_of request rest + 1) isnt in
        omega arith

none_removed : (request : ℕ) (b : Bool) (a : ChunkAsked) (rest without : List ChunkAsked) (n : ℕ) → length (a ∷ rest) ≤ (if b then 0 else n + 1) → (length rest ≤ n → rest ≡ without)
    → a ∷ rest ≡ (if b then rest else a ∷ without)
none_removed request true a rest without n le later = absurd (omega arith)
none_removed request false a rest without n le later = ap (λ (asks : List ChunkAsked). a ∷ asks) (later (omega arith))

pub without-none : (request : ℕ) (asks : List ChunkAsked) → length asks ≤ first_of request asks → asks ≡ without_ask request asks
without-none request [] le = refl
without-none request (a ∷ rest) le = none_removed request (a.request == request) a rest (without_ask request rest) (first_of request rest) le (without-none request rest)

changed : (change : ChunkAsked → ChunkAsked) (n : ℕ) (b : Bool) (a d : ChunkAsked) (rest changed_rest : List ChunkAsked) → (b ≡ false → set rest n (change (get_or rest n d)) ≡ changed_rest)
    → set (a ∷ rest) (if b then 0 else n + 1) (change (get_or (a ∷ rest) (if b then 0 else n + 1) d)) ≡ (if b then change a ∷ rest else a ∷ changed_rest)
changed change n true a d rest changed_rest later = refl
changed change n false a d rest changed_rest later =
    ap (λ (m : ℕ). set (a ∷ rest) m (change (get_or (a ∷ rest) m d))) (add-one n) ∙ ap (λ (asks : List ChunkAsked). a ∷ asks) (later refl)

pub changed-first : (request : ℕ) (change : ChunkAsked → ChunkAsked) (asks : List ChunkAsked) (d : ChunkAsked) → first_of request asks < length asks
    → set asks (first_of request asks) (change (get_or asks (first_of request asks) d)) ≡ changed_ask request change asks
changed-first request change [] d lt = absurd (omega arith)
changed-first request change (a ∷ rest) d lt =
    changed change (first_of request rest) (a.request == request) a d rest (changed_ask request change rest)
    (λ isnt. changed-first request change rest d (below isnt))
  where
    below : (a.request == request) ≡ false → first_of request rest < length rest
    below isnt =
        let one : first_of request (a ∷ rest) ≡ first_of request rest + 1 = ap (λ (b : Bool). if b then 0 else first_of request rest + 1) isnt in
        omega arith

none_changed : (change : ChunkAsked → ChunkAsked) (b : Bool) (a : ChunkAsked) (rest changed_rest : List ChunkAsked) (n : ℕ) → length (a ∷ rest) ≤ (if b then 0 else n + 1) → (length rest ≤ n → rest ≡ changed_rest)
    → a ∷ rest ≡ (if b then change a ∷ rest else a ∷ changed_rest)
none_changed change true a rest changed_rest n le later = absurd (omega arith)
none_changed change false a rest changed_rest n le later = ap (λ (asks : List ChunkAsked). a ∷ asks) (later (omega arith))

pub changed-none : (request : ℕ) (change : ChunkAsked → ChunkAsked) (asks : List ChunkAsked) → length asks ≤ first_of request asks → asks ≡ changed_ask request change asks
changed-none request change [] le = refl
changed-none request change (a ∷ rest) le = none_changed change (a.request == request) a rest (changed_ask request change rest) (first_of request rest) le (changed-none request change rest)
