-- One of several worlds changes, or is read.
use Rattle.std.specs.Prelude.{slice_get, slice_set, Result, Ok, Err, IfOk, OnErr, Option, Some, None}
use Rattle.std.specs.Option.{option_map}
use Rattle.std.specs.declared.alloc.AllocError.{AllocError}
use Rattle.std.proofs.Common.{◌≡◌, ℕ, zero, suc, ◌+◌, ◌<◌, Bool, true, List, [], ◌∷◌, ◌++◌, length, map, refl, ap, sym, subst, ◌∙◌, arith, get_or}
use Rattle.ccr_journal.specs.declared.events.Event.{Event}
use Rattle.ccr_journal.specs.declared.journals.Entry.{Entry}
use Rattle.ccr_journal.specs.declared.replies.Reply.{Reply}
use Rattle.ccr_model.specs.Settling.{Note, note_of}
use Rattle.ccr_shard_world.specs.Recorded.{Recorded}
use Rattle.ccr_deeds.specs.Logs.{Log, extended, entered, state_of, IsNoteOf}
use Rattle.ccr_worlds.specs.Fated.{log_of}

entered_at : {X : Type 0} (f : X → Log) (xs : List X) (i : ℕ) (d x y : X) (es : List Entry) → i < length xs → x ≡ get_or xs i d → f y ≡ extended (f x) es
    → map f (slice_set xs i y) ≡ entered (map f xs) i es
entered_at f [] i d x y es within is grows = absurd (omega arith)
entered_at f (z ∷ xs) zero d x y es within is grows = ap (λ l. l ∷ map f xs) (grows ∙ ap (λ w. extended (f w) es) is)
entered_at f (z ∷ xs) (suc i) d x y es within is grows = ap (λ ls. f z ∷ ls) (entered_at f xs i d x y es (omega arith) is grows)

same_at : {X : Type 0} (f : X → Log) (xs : List X) (i : ℕ) (d x y : X) → i < length xs → x ≡ get_or xs i d → f y ≡ f x → map f (slice_set xs i y) ≡ map f xs
same_at f [] i d x y within is same = absurd (omega arith)
same_at f (z ∷ xs) zero d x y within is same = ap (λ l. l ∷ map f xs) (same ∙ ap f is)
same_at f (z ∷ xs) (suc i) d x y within is same = ap (λ ls. f z ∷ ls) (same_at f xs i d x y (omega arith) is same)

map_length : {X : Type 0} (f : X → Log) (xs : List X) → length (map f xs) ≡ length xs
map_length f [] = refl
map_length f (x ∷ xs) = ap suc (map_length f xs)

pub below : {X : Type 0} (f : X → Log) (xs : List X) (i : ℕ) → i < length (map f xs) → i < length xs
below f xs i h = let same = map_length f xs in omega arith

-- each reply of an event is entered, and want of memory leaves the journals as they are
pub set_ok : {X : Type 0} (f : X → Log) (xs : List X) (i : ℕ) (d x y : X) (e : Event) (r : Result Reply AllocError) → i < length (map f xs) → x ≡ get_or xs i d
    → IfOk r (λ reply. f y ≡ extended (f x) (record { event = e; reply = reply } ∷ []))
    → IfOk r (λ reply. map f (slice_set xs i y) ≡ entered (map f xs) i (record { event = e; reply = reply } ∷ []))
set_ok f xs i d x y e (Ok reply) within is grows = entered_at f xs i d x y (record { event = e; reply = reply } ∷ []) (below f xs i within) is grows
set_ok f xs i d x y e (Err why) within is grows = tt

pub set_err : {X : Type 0} (f : X → Log) (xs : List X) (i : ℕ) (d x y : X) (r : Result Reply AllocError) → i < length (map f xs) → x ≡ get_or xs i d
    → OnErr r (f y ≡ f x) → OnErr r (map f (slice_set xs i y) ≡ map f xs)
set_err f xs i d x y (Ok reply) within is same = tt
set_err f xs i d x y (Err why) within is same = same_at f xs i d x y (below f xs i within) is same

pub ok_log : (r0 r1 : Recorded) (event : Event) (r : Result Reply AllocError) → IfOk r (λ reply. r1 ≡ record r0 { journal = r0.journal ++ record { event = event; reply = reply } ∷ [] })
    → IfOk r (λ reply. log_of r1 ≡ extended (log_of r0) (record { event = event; reply = reply } ∷ []))
ok_log r0 r1 event (Ok reply) e = ap log_of e
ok_log r0 r1 event (Err why) e = tt

pub err_log : (r0 r1 : Recorded) (r : Result Reply AllocError) → OnErr r (r1 ≡ record r0 { broken = true }) → OnErr r (log_of r1 ≡ log_of r0)
err_log r0 r1 (Ok reply) e = tt
err_log r0 r1 (Err why) e = ap log_of e

-- what is read of the world at a place
get_map : {X : Type 0} (f : X → Log) (xs : List X) (i : ℕ) (d x : X) → i < length xs → x ≡ get_or xs i d → slice_get (map f xs) i ≡ Some (f x)
get_map f [] i d x within is = absurd (omega arith)
get_map f (z ∷ xs) zero d x within is = ap (λ w. Some (f w)) (sym is)
get_map f (z ∷ xs) (suc i) d x within is = get_map f xs i d x (omega arith) is

pub note_at : {X : Type 0} (f : X → Log) (xs : List X) (i of : ℕ) (d x : X) (note : Note) → i < length (map f xs) → x ≡ get_or xs i d → note ≡ note_of (state_of (f x)) of
    → IsNoteOf (map f xs) i of note
note_at f xs i of d x note within is told =
    ap (option_map (λ (log : Log). note_of (state_of log) of)) (get_map f xs i d x (below f xs i within) is) ∙ ap Some (sym told)
