-- The picks in a journal are those of the policy that was handed in.
use Rattle.std.specs.Prelude.{slice_get, slice_set, Option, Some, None, Result, Ok, Err, IfOk, OnOk, OnErr, option_to_list}
use Rattle.std.specs.declared.alloc.AllocError.{AllocError}
use Rattle.std.proofs.Common.{◌≡◌, ℕ, zero, suc, ◌+◌, ◌-◌, ◌<◌, ◌≤◌, Bool, true, false, List, [], ◌∷◌, ◌++◌, length, map, reverse, get_or, refl, ap, sym, subst, ◌∙◌, arith}
use Rattle.std.proofs.lemmas.List.{append_assoc, append-nil, reverse-append}
use Rattle.ccr_policy.specs.declared.PartSize.{PartSize}
use Rattle.ccr_journal.specs.declared.events.Event.{Event}
use Rattle.ccr_journal.specs.declared.journals.Entry.{Entry}
use Rattle.ccr_journal.specs.declared.replies.Reply.{Reply}
use Rattle.ccr_journal.specs.declared.replies.Reply.TheVariants as replies
use Rattle.ccr_model.specs.Leaders.{Start}
use Rattle.ccr_model.specs.World.{State, start_state}
use Rattle.ccr_model.specs.Step.{outcome_at, state_after, IsLegal}
use Rattle.ccr_model.specs.Policies.{merged_sizes, sizes_seen, picks_of, IsPicked, ArePicked, KeepsFate}
use Rattle.ccr_law_base.proofs.Journals.{legal-rest}
use Rattle.ccr_law_reached.specs.Reached.{IsPossible}
use Rattle.ccr_shard_world.specs.Recorded.{Recorded, state_of}
use Rattle.ccr_deeds.specs.Logs.{Log, extended, new_log}
use Rattle.ccr_worlds.specs.Fated.{Fate, Standing, Fated, AreLeft, AreFated, PicksAreHanded, log_of, standing_of}
use Rattle.ccr_worlds.proofs.Quiet.{WentOn, quiet_picked, quiet_sizes}

-- ---- policies that pick the same

IsPicked-same : (f g : Fate) (s : State) (event : Event) (reply : Reply) → ((seen : List (List PartSize)) → f seen ≡ g seen) → IsPicked f s event reply → IsPicked g s event reply
IsPicked-same f g s event (replies.Merged floor dropped picks) same p = p ∙ same (merged_sizes s event (replies.Merged floor dropped picks))
IsPicked-same f g s event _ same p = tt

ArePicked-same : (f g : Fate) (s : State) (entries : List Entry) → ((seen : List (List PartSize)) → f seen ≡ g seen) → ArePicked f s entries → ArePicked g s entries
ArePicked-same f g s [] same are = tt
ArePicked-same f g s (e ∷ entries) same are = (
  IsPicked-same f g s e.event e.reply same are.0,
  ArePicked-same (λ seen. f (merged_sizes s e.event e.reply ++ seen)) (λ seen. g (merged_sizes s e.event e.reply ++ seen)) (outcome_at s e).next entries
      (λ seen. same (merged_sizes s e.event e.reply ++ seen)) are.1,
)

-- ---- a journal that goes on

ArePicked-append : (fate : Fate) (s : State) (entries more : List Entry) → ArePicked fate s entries
    → ArePicked (λ seen. fate (sizes_seen s entries ++ seen)) (state_after s entries) more → ArePicked fate s (entries ++ more)
ArePicked-append fate s [] more are rest = rest
ArePicked-append fate s (e ∷ entries) more are rest =
    let shown = merged_sizes s e.event e.reply in
    let later = sizes_seen (outcome_at s e).next entries in (
      are.0,
      ArePicked-append (λ seen. fate (shown ++ seen)) (outcome_at s e).next entries more are.1
          (ArePicked-same (λ seen. fate ((shown ++ later) ++ seen)) (λ seen. fate (shown ++ (later ++ seen))) (state_after (outcome_at s e).next entries) more
          (λ seen. ap fate (append_assoc shown later seen)) rest),
    )

sizes_seen-append : (s : State) (entries more : List Entry) → sizes_seen s (entries ++ more) ≡ sizes_seen s entries ++ sizes_seen (state_after s entries) more
sizes_seen-append s [] more = refl
sizes_seen-append s (e ∷ entries) more =
    ap (λ (sizes : List (List PartSize)). merged_sizes s e.event e.reply ++ sizes) (sizes_seen-append (outcome_at s e).next entries more)
    ∙ sym (append_assoc (merged_sizes s e.event e.reply) (sizes_seen (outcome_at s e).next entries) (sizes_seen (state_after (outcome_at s e).next entries) more))

-- an event that happened keeps what is said of the handed-in policy
Fated-push : (first : Fate) (s : Standing) (latter : Fate) (event : Event) (reply : Reply) → Fated first s → s.broken ≡ false
    → IsPicked s.fate (state_after (start_state s.log.start) s.log.entries) event reply
    → ((seen : List (List PartSize)) → latter seen ≡ s.fate (merged_sizes (state_after (start_state s.log.start) s.log.entries) event reply ++ seen))
    → Fated first (record { log = extended s.log (record { event = event; reply = reply } ∷ []); broken = false; fate = latter })
Fated-push first s latter event reply f whole picks keeps =
    let begun = start_state s.log.start in
    let entry : Entry = record { event = event; reply = reply } in
    let shown = merged_sizes (state_after begun s.log.entries) event reply in
    let all = sizes_seen begun s.log.entries in
    let grown : sizes_seen begun (s.log.entries ++ entry ∷ []) ≡ all ++ shown =
    sizes_seen-append begun s.log.entries (entry ∷ []) ∙ ap (λ (sizes : List (List PartSize)). all ++ sizes) (append-nil shown) in
    record {
      picked = ArePicked-append first begun s.log.entries (entry ∷ []) f.picked
          (IsPicked-same s.fate (λ seen. first (all ++ seen)) (state_after begun s.log.entries) event reply (f.later whole) picks, tt);
      later = λ _ seen.
          keeps seen ∙ f.later whole (shown ++ seen) ∙ ap first (sym (append_assoc all shown seen)) ∙ ap (λ (sizes : List (List PartSize)). first (sizes ++ seen)) (sym grown);
    }

-- want of memory breaks the world and leaves its journal
Fated-broken : (first : Fate) (s : Standing) (latter : Fate) → Fated first s → Fated first (record { log = s.log; broken = true; fate = latter })
Fated-broken first s latter f = record { picked = f.picked; later = λ e. absurd cc }

-- entries of which none is a merge leave the policy as it was
Fated-quiet : (first : Fate) (s : Standing) (broken : Bool) (new : List Entry) → Fated first s → WentOn s.log.start s.log.entries new → IsLegal (start_state s.log.start) new
    → (broken ≡ false → s.broken ≡ false) → Fated first (record { log = record { start = s.log.start; entries = new }; broken = broken; fate = s.fate })
Fated-quiet first s broken new f on legal whole =
    let begun = start_state s.log.start in
    let all = sizes_seen begun s.log.entries in
    let stays : sizes_seen begun (s.log.entries ++ on.added) ≡ all =
    sizes_seen-append begun s.log.entries on.added
    ∙ ap (λ (sizes : List (List PartSize)). all ++ sizes) (quiet_sizes (state_after begun s.log.entries) on.added on.quiet)
    ∙ append-nil all in
    let rest : IsLegal (state_after begun s.log.entries) on.added = legal-rest begun s.log.entries on.added (subst (IsLegal begun) on.grew legal) in
    subst (λ (es : List Entry). Fated first (record { log = record { start = s.log.start; entries = es }; broken = broken; fate = s.fate })) (sym on.grew) (record {
      picked = ArePicked-append first begun s.log.entries on.added f.picked
          (quiet_picked (λ seen. first (all ++ seen)) (state_after begun s.log.entries) on.added on.quiet rest);
      later = λ is seen. f.later (whole is) seen ∙ ap (λ (sizes : List (List PartSize)). first (sizes ++ seen)) (sym stays);
    })

-- ---- one world

-- an event, or want of memory, takes a world from the one record and policy to the other
pub fated_step : {B : Type 0} (fate : B → Fate) (first : Fate) (r0 r1 : Recorded) (p0 p1 : Option B) (event : Event) (r : Result Reply AllocError)
    → IfOk r (λ reply. r1 ≡ record r0 { journal = r0.journal ++ record { event = event; reply = reply } ∷ [] })
    → IfOk r (λ reply. KeepsFate fate p0 p1 (state_of r0) event reply) → OnOk r (r0.broken ≡ false) → OnErr r (r1 ≡ record r0 { broken = true })
    → Fated first (standing_of fate r0 p0) → Fated first (standing_of fate r1 p1)
fated_step fate first r0 r1 p0 p1 event (Ok reply) grows keeps whole breaks f =
    subst (λ (x : Recorded). Fated first (standing_of fate x p1)) (sym grows)
    (subst (λ b. Fated first (record { log = extended (log_of r0) (record { event = event; reply = reply } ∷ []); broken = b; fate = picks_of fate p1 })) (sym whole)
    (Fated-push first (standing_of fate r0 p0) (picks_of fate p1) event reply f whole keeps.0 keeps.1))
fated_step fate first r0 r1 p0 p1 event (Err why) grows keeps whole breaks f =
    subst (λ (x : Recorded). Fated first (standing_of fate x p1)) (sym breaks) (Fated-broken first (standing_of fate r0 p0) (picks_of fate p1) f)

-- settling takes a world from the one record to the other, and leaves its policy
pub fated_run : {B : Type 0} (fate : B → Fate) (first : Fate) (r0 r1 : Recorded) (p0 p1 : Option B) → WentOn r0.start r0.journal r1.journal → r1.start ≡ r0.start → p1 ≡ p0
    → IsPossible r1.start r1.journal → (r1.broken ≡ false → r0.broken ≡ false) → Fated first (standing_of fate r0 p0) → Fated first (standing_of fate r1 p1)
fated_run {B = B} fate first r0 r1 p0 p1 on same kept possible whole f =
    subst (λ (p : Option B). Fated first (standing_of fate r1 p)) (sym kept)
    (subst (λ (start : Start). Fated first (record { log = record { start = start; entries = r1.journal }; broken = r1.broken; fate = picks_of fate p0 })) (sym same)
    (Fated-quiet first (standing_of fate r0 p0) r1.broken r1.journal f on (subst (λ (start : Start). IsLegal (start_state start) r1.journal) same possible.legal) whole))

-- ---- several worlds

pub fated_set : {X : Type 0} (standing : X → Standing) (fates : ℕ → Fate) (n : ℕ) (xs : List X) (left : List Fate) (i : ℕ) (d x y : X) → i < length xs → x ≡ get_or xs i d
    → ((first : Fate) → Fated first (standing x) → Fated first (standing y)) → AreFated fates n (map standing xs) left → AreFated fates n (map standing (slice_set xs i y)) left
fated_set standing fates n [] left i d x y within is keeps are = absurd (omega arith)
fated_set standing fates n (z ∷ xs) left zero d x y within is keeps are = (keeps (fates n) (subst (λ w. Fated (fates n) (standing w)) (sym is) are.0), are.1)
fated_set standing fates n (z ∷ xs) left (suc i) d x y within is keeps are = (are.0, fated_set standing fates (n + 1) xs left i d x y (omega arith) is keeps are.1)

pub picks_told : {X : Type 0} (standing : X → Standing) (log : X → Log) → ((x : X) → (standing x).log ≡ log x) → (fates : ℕ → Fate) (n : ℕ) (xs : List X) (left : List Fate)
    → AreFated fates n (map standing xs) left → PicksAreHanded fates n (map log xs)
picks_told standing log same fates n [] left are = tt
picks_told standing log same fates n (x ∷ xs) left are = (
  subst (λ (l : Log). ArePicked (fates n) (start_state l.start) l.entries) (same x) are.0.picked,
  picks_told standing log same fates (n + 1) xs left are.1,
)

-- ---- one world more

-- a world that was just made picks as its policy does
new_fated : (first : Fate) (s : Standing) (start : Start) → s.log ≡ new_log start → ((seen : List (List PartSize)) → s.fate seen ≡ first seen) → Fated first s
new_fated first s start is same = record {
  picked = subst (λ (l : Log). ArePicked first (start_state l.start) l.entries) (sym is) tt;
  later = λ _ seen. same seen ∙ ap (λ (l : Log). first (sizes_seen (start_state l.start) l.entries ++ seen)) (sym is);
}

-- it takes the first of the policies that are left, and none where none is left
made_at : {B : Type 0} (fate : B → Fate) (fates : ℕ → Fate) (n : ℕ) (s : Standing) (start : Start) (policy : Option B) (rest : List B) → s.log ≡ new_log start
    → s.fate ≡ picks_of fate policy → (policy ≡ None → rest ≡ []) → AreLeft fates n (map fate (option_to_list policy ++ rest)) → AreFated fates n (s ∷ []) (map fate rest)
made_at {B = B} fate fates n s start None rest is picks none are =
    let gone : rest ≡ [] = none refl in
    let left : AreLeft fates n [] = subst (λ (bs : List B). AreLeft fates n (map fate bs)) gone are in (
      new_fated (fates n) s start is (λ seen. ap (λ (f : Fate). f seen) picks ∙ sym (left n (omega arith) seen)),
      subst (λ (bs : List B). AreLeft fates (n + 1) (map fate bs)) (sym gone) (λ m le. left m (omega arith)),
    )
made_at fate fates n s start (Some b) rest is picks none are = (new_fated (fates n) s start is (λ seen. ap (λ (f : Fate). f seen) picks ∙ are.0 seen), are.1)

pub fated_made : {B : Type 0} (fate : B → Fate) (fates : ℕ → Fate) (n : ℕ) (ss : List Standing) (s : Standing) (start : Start) (policy : Option B) (rest : List B) → s.log ≡ new_log start
    → s.fate ≡ picks_of fate policy → (policy ≡ None → rest ≡ []) → AreFated fates n ss (map fate (option_to_list policy ++ rest)) → AreFated fates n (ss ++ s ∷ []) (map fate rest)
fated_made fate fates n [] s start policy rest is picks none are = made_at fate fates n s start policy rest is picks none are
fated_made fate fates n (x ∷ ss) s start policy rest is picks none are = (are.0, fated_made fate fates (n + 1) ss s start policy rest is picks none are.1)
