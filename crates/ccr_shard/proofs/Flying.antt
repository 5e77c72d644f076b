-- frames that spell messages
use Rattle.std.proofs.Common.{◌≡◌, ℕ, zero, suc, List, [], ◌∷◌, ◌++◌, Result, Ok, Option, Some, None, take, drop, refl, ap, subst, sym, ◌∙◌}
use Rattle.std.specs.Prelude.{remove, map, slice_get, is_some, MatchOption, MatchBool}
use Rattle.std.specs.Option.{option_map}
use Rattle.std.specs.List.{AllByRecursion}
use Rattle.std.specs.Result.{result_unwrap_or}
use Rattle.std.proofs.lemmas.Option.{slice_get-map}
use Rattle.ccr_wire.specs.Message.{Frame, HasSpelling}
use Rattle.ccr_wire.specs.Spelling.{spelling}
use Rattle.ccr_wire.specs.Reading.{message_of}
use Rattle.ccr_wire.specs.declared.bad_frame.BadFrame.{BadFrame}
use Rattle.ccr_wire.specs.declared.content.Content.TheVariants.{SessionOpen}
use Rattle.ccr_wire.proofs.MessageLaws.{all_again}
use Rattle.ccr_shard.specs.InFlight.{message_in, IsSpelled}

-- what was read is the message that the bytes spell
message_in-read : (bytes : List ℕ) (m : Frame) → message_of bytes ≡ Ok m → message_in bytes ≡ m
message_in-read bytes m is = ap (λ (r : Result Frame BadFrame). result_unwrap_or r (record { follower = []; request = 0; content = SessionOpen })) is

message_in-spelling : (m : Frame) → HasSpelling m → message_in (spelling m) ≡ m
message_in-spelling m fits = message_in-read (spelling m) m (all_again m fits)

IsSpelled-spelling : (m : Frame) → HasSpelling m → IsSpelled (spelling m)
IsSpelled-spelling m fits = record {
  fits = subst HasSpelling (sym (message_in-spelling m fits)) fits;
  spelled = ap spelling (sym (message_in-spelling m fits));
}

All-push : {X : Type 0} (P : X → Type 0) (xs : List X) (x : X) → AllByRecursion P xs → P x → AllByRecursion P (xs ++ x ∷ [])
All-push P [] x all here = (here, tt)
All-push P (y ∷ xs) x all here = (all.0, All-push P xs x all.1 here)

-- one more frame that spells a message
pub sent-spelled : (frames new : List (List ℕ)) (frame : List ℕ) (m : Frame) → AllByRecursion IsSpelled frames → frame ≡ spelling m → HasSpelling m
    → new ≡ frames ++ frame ∷ [] → AllByRecursion IsSpelled new
sent-spelled frames new frame m all is fits e =
    subst (AllByRecursion IsSpelled) (sym e) (All-push IsSpelled frames frame all (subst IsSpelled (sym is) (IsSpelled-spelling m fits)))

map-both : {X Y : Type 0} (f : X → Y) (xs ys : List X) → map f (xs ++ ys) ≡ map f xs ++ map f ys
map-both f [] ys = refl
map-both f (x ∷ xs) ys = ap (λ zs. f x ∷ zs) (map-both f xs ys)

pub sent-messages : (frames new : List (List ℕ)) (messages : List Frame) (frame : List ℕ) (m : Frame) → map message_in frames ≡ messages → frame ≡ spelling m → HasSpelling m
    → new ≡ frames ++ frame ∷ [] → map message_in new ≡ messages ++ m ∷ []
sent-messages frames new messages frame m seen is fits e =
    ap (map message_in) e ∙ map-both message_in frames (frame ∷ [])
    ∙ ap (λ (x : Frame). map message_in frames ++ x ∷ []) (ap message_in is ∙ message_in-spelling m fits)
    ∙ ap (λ (ms : List Frame). ms ++ m ∷ []) seen

map-take : {X Y : Type 0} (f : X → Y) (xs : List X) (n : ℕ) → map f (take n xs) ≡ take n (map f xs)
map-take f [] zero = refl
map-take f [] (suc n) = refl
map-take f (x ∷ xs) zero = refl
map-take f (x ∷ xs) (suc n) = ap (λ ys. f x ∷ ys) (map-take f xs n)

map-drop : {X Y : Type 0} (f : X → Y) (xs : List X) (n : ℕ) → map f (drop n xs) ≡ drop n (map f xs)
map-drop f [] zero = refl
map-drop f [] (suc n) = refl
map-drop f (x ∷ xs) zero = refl
map-drop f (x ∷ xs) (suc n) = map-drop f xs n

-- the messages without one are those of the frames without one
pub map-remove : (frames : List (List ℕ)) (at : ℕ) → map message_in (remove frames at) ≡ remove (map message_in frames) at
map-remove frames at =
    map-both message_in (take at frames) (drop (suc at) frames)
    ∙ ap (λ (ms : List Frame). ms ++ map message_in (drop (suc at) frames)) (map-take message_in frames at)
    ∙ ap (λ (ms : List Frame). take at (map message_in frames) ++ ms) (map-drop message_in frames (suc at))

-- the frame at a place spells the message at that place
pub message_at : (frames : List (List ℕ)) (messages : List Frame) (at : ℕ) (frame : List ℕ) (m : Frame) → map message_in frames ≡ messages
    → Some frame ≡ slice_get frames at → m ≡ message_in frame → slice_get messages at ≡ Some m
message_at frames messages at frame m seen there is =
    ap (λ (ms : List Frame). slice_get ms at) (sym seen) ∙ slice_get-map message_in frames at
    ∙ ap (option_map {T = List ℕ} {U = Frame} message_in) (sym there) ∙ ap (λ (x : Frame). Some x) (sym is)

-- what is left once the frame at a place was taken out
pub taken_out : (frames new : List (List ℕ)) (messages : List Frame) (at : ℕ) → map message_in frames ≡ messages → new ≡ remove frames at
    → map message_in new ≡ remove messages at
taken_out frames new messages at seen after = ap (map message_in) after ∙ map-remove frames at ∙ ap (λ (ms : List Frame). remove ms at) seen

pub lost : (frames new : List (List ℕ)) (messages : List Frame) (at : ℕ) (r : Option (List ℕ)) → map message_in frames ≡ messages
    → MatchOption r (new ≡ frames) (λ _. new ≡ remove frames at) → MatchBool (is_some r) (map message_in new ≡ remove messages at) (map message_in new ≡ messages)
lost frames new messages at None seen after = ap (map message_in) after ∙ seen
lost frames new messages at (Some frame) seen after = taken_out frames new messages at seen after
