-- The claims on the followers' bootstraps hold at the start, each event keeps them, and what they say of the files that a bootstrap ends with.
use Rattle.std.specs.List.{AllByRecursion, list_any}
use Rattle.std.specs.Prelude.{find, slice_get, remove, IfSome}
use Rattle.std.specs.Option.{option_map, option_map_or, option_and_then}
use Rattle.std.proofs.Common.{◌≡◌, ℕ, ◌≤◌, ◌==◌, ◌||◌, ◌⊎◌, inl, inr, Bool, true, false, if◌then◌else◌, Option, Some, None, List, [], ◌∷◌, ◌++◌, length, take, refl, sym, ◌∙◌, ap, subst}
use Rattle.std.proofs.Math.Seq.{take-length}
use Rattle.ccr_wire.specs.Message.{Frame, kind_of_content}
use Rattle.ccr_journal.specs.Params.{AreInRange}
use Rattle.ccr_journal.specs.declared.params.ParamValues.{ParamValues}
use Rattle.ccr_journal.specs.declared.sides.Side.TheVariants as sides
use Rattle.ccr_journal.specs.declared.events.Event.{Event}
use Rattle.ccr_journal.specs.declared.events.Event.TheVariants as events
use Rattle.ccr_model.specs.Outcomes.{Outcome}
use Rattle.ccr_model.specs.Operations.{is_empty}
use Rattle.ccr_model.specs.Copies.{Copy, copy_of}
use Rattle.ccr_model.specs.Leaders.{Start, Session, session_of}
use Rattle.ccr_model.specs.LeaderFrames.{chunk_of}
use Rattle.ccr_model.specs.Requests.{Sending}
use Rattle.ccr_model.specs.Restores.{Restore, Stage, leasing, opening, fetching, Fetch, ChunkAsked, Chunk, places_of, bytes_at, files_of, is_complete, ask_sent, ends_restore, restore_hears}
use Rattle.ccr_model.specs.Followers.{Follower, Work, restoring, replicating, new_follower}
use Rattle.ccr_model.specs.FollowerRows.{follower_receive_row, sent_write, task_of, lose_row, tick_row, follower_clock_row, lose_write_row, take_row, apply_row, written_row, renew_row, pause_row, resume_row, restart_row, unfollow_row, follower_add_copy_row, follower_replicate, follower_ack, follower_sync, follower_promote, follower_fail_copy, follower_flush, follower_merge, follower_status_row}
use Rattle.ccr_model.specs.World.{State, for_follower, goes_to_leader, follower_of, at_named_follower, taken_by_receiver, deliver_row, follow_row, same_name, search_row}
use Rattle.ccr_model.specs.Step.{step}
use Rattle.ccr_model.specs.Past.{Past, start_past, line_of}
use Rattle.ccr_model.specs.FrameFacts.{AreTrueFrames, IsTrueStage, IsTrueWork, ops_of_session, IsTrueFrame, IsTrueContent, IsAsOpened, IsPartOf, IsWholePart, Fetching, fetching_at, fetching_in, fetching_of}
use Rattle.ccr_law_base.specs.Events.{past_by}
use Rattle.ccr_law_base.proofs.Cases.{on_if, on_guards}
use Rattle.ccr_law_base.proofs.Lists.{All-weaker, All-at, some_equal, find-front}
use Rattle.ccr_law_stores.specs.TrueStores.{IsTrueHistory}
use Rattle.ccr_law_followers.specs.TrueCopies.{FetchesTruly, all_in}
use Rattle.ccr_law_followers.specs.Fetches.{is_part, is_covered, FetchOk, StageOk, RestoreOk, WorkOk, IsWholeFetch, HasTrueFetches, SessionsHold, HasGoodRanges}
use Rattle.ccr_law_followers.proofs.Join.{set_at}
use Rattle.ccr_law_followers.proofs.Events.{push_new, push_old, drop_same, woken_same, search_same, searched_same}
use Rattle.ccr_law_followers.proofs.Files.{fetched}
use Rattle.ccr_law_followers.proofs.Restoring.{SaysTruly, restore-hears}
use Rattle.ccr_law_followers.proofs.OwnHistory.{IsOwn, own-history}
use Rattle.ccr_law_followers.proofs.FetchRows.{WorkAfter, lose_work, tick_work, clock_work, lose_write_work, take_work, apply_work, written_work, add_copy_work, renew_work, pause_work, resume_work, restart_work, unfollow_work, status_work, receive_work}
use Rattle.std.proofs.lemmas.Bool.{and_parts, eqb-true}

-- ---- more sessions

pub work-later : (sessions more : List Session) (work : Work) → WorkOk sessions work → WorkOk (sessions ++ more) work
work-later sessions more (replicating t) ok = tt
work-later sessions more (restoring r) ok = record { some = ok.some; stage = by_stage r.stage ok.stage }
  where
    by_stage : (stage : Stage) → StageOk sessions r.chunk_size r.next_request stage → StageOk (sessions ++ more) r.chunk_size r.next_request stage
    by_stage (leasing a) is = tt
    by_stage (opening a) is = tt
    by_stage (fetching f) is = record {
      session = is.session;
      is_opened = find-front (λ (s : Session). s.number == f.session) sessions more is.session is.is_opened;
      same_count = is.same_count;
      same_sizes = is.same_sizes;
      whole = is.whole;
      covered = is.covered;
      apart = is.apart;
      drawn = is.drawn;
    }

-- ---- all followers

-- the followers after an event, over the sessions before it
abbrev pub WorksAfter : Past → Outcome State → Type 0
WorksAfter p o = (f : ℕ) (new : Follower) → slice_get o.next.followers f ≡ Some new → WorkOk p.opened new.work

pub works_same : (p : Past) (o : Outcome State) → o.next.followers ≡ p.state.followers → HasTrueFetches p → WorksAfter p o
works_same p o same ok f new at = ok f new (ap (λ (xs : List Follower). slice_get xs f) (sym same) ∙ at)

pub works_one : (p : Past) (flight : List Frame) (f : ℕ) (row : Follower → Outcome Follower) (found : Option Follower) → slice_get p.state.followers f ≡ found
    → ((s : Follower) → slice_get p.state.followers f ≡ Some s → WorkOk p.opened s.work → WorkAfter p.opened (row s)) → HasTrueFetches p
    → WorksAfter p (for_follower (record p.state { flight = flight }) f row found)
works_one p flight f row None is rows ok = works_same p (for_follower (record p.state { flight = flight }) f row None) refl ok
works_one p flight f row (Some x) is rows ok = λ k new at. by_place k new (set_at p.state.followers f (row x).next k new at)
  where
    by_place : (k : ℕ) (new : Follower) → (((f == k) ≡ true) × ((row x).next ≡ new)) ⊎ (((f == k) ≡ false) × (slice_get p.state.followers k ≡ Some new)) → WorkOk p.opened new.work
    by_place k new (inl own) = subst (λ (y : Follower). WorkOk p.opened y.work) own.1 (rows x is (ok f x is))
    by_place k new (inr other) = ok k new other.1

-- ---- messages

pub fetching_is : (s : Follower) (request : ℕ) (r : Restore) (f : Fetch) (a : ChunkAsked) → s.work ≡ restoring r → r.stage ≡ fetching f → ask_sent f request ≡ Some a
    → fetching_in s.work request ≡ Some (record { restore = r; fetch = f; ask = a })
fetching_is s request r f a work stage found =
    ap (λ (w : Work). fetching_in w request) work
    ∙ (ap (λ (st : Stage). fetching_at r st request) stage ∙ ap (λ (o : Option ChunkAsked). option_map {T = ChunkAsked} {U = Fetching} (λ x. record { restore = r; fetch = f; ask = x }) o) found)

pub named_is : (p : Past) (uuid : List ℕ) (request f : ℕ) (s : Follower) → follower_of p.state.followers uuid ≡ Some f → slice_get p.state.followers f ≡ Some s
    → fetching_of p.state uuid request ≡ fetching_in s.work request
named_is p uuid request f s named there =
    ap (λ (o : Option ℕ). option_and_then (λ (x : Follower). fetching_in x.work request) (option_and_then (slice_get p.state.followers) o)) named
    ∙ ap (λ (o : Option Follower). option_and_then (λ (x : Follower). fetching_in x.work request) o) there

-- a message in flight says to the follower that it names what is true
pub says_truly : (p : Past) (at f : ℕ) (m : Frame) (s : Follower) (r : Restore) → AreTrueFrames p → slice_get p.state.flight at ≡ Some m
    → follower_of p.state.followers m.follower ≡ Some f → slice_get p.state.followers f ≡ Some s → s.work ≡ restoring r → SaysTruly p.opened r m
says_truly p at f m s r frames in_flight named there work = record {
  opens = λ number history count sizes is.
      let says : IsAsOpened p number history count sizes = subst (IsTrueContent p m.follower m.request) is content in
      record { session = says.session; is_opened = says.opened; same_count = says.same_count; same_sizes = says.same_sizes };
  brings = λ fetch a number file offset bytes stage found is session opened.
      let says : IsPartOf p number file offset bytes × IfSome (fetching_of p.state m.follower m.request) (IsWholePart p number file offset bytes)
      = subst (IsTrueContent p m.follower m.request) is content in
      let whole : IsWholePart p number file offset bytes (record { restore = r; fetch = fetch; ask = a })
      = subst (λ (o : Option Fetching). IfSome o (IsWholePart p number file offset bytes))
      (named_is p m.follower m.request f s named there ∙ fetching_is s m.request r fetch a work stage found) says.1 in
      let same : session_of p.opened number ≡ Some session = ap (session_of p.opened) whole.0.same_session ∙ opened in
      let part : bytes ≡ chunk_of session file offset r.chunk_size
      = subst (λ (o : Option Session). IfSome o (λ opened. bytes ≡ chunk_of opened file offset r.chunk_size)) same whole.1 in
      part ∙ (ap (λ (n : ℕ). chunk_of session n offset r.chunk_size) whole.0.same_file ∙ ap (λ (n : ℕ). chunk_of session a.file n r.chunk_size) whole.0.same_offset);
}
  where
    content : IsTrueContent p m.follower m.request m.content
    content = (All-at (IsTrueFrame p) p.state.flight at m frames.flight in_flight).content

pub named_work : (p : Past) (at : ℕ) (m : Frame) (flight : List Frame) (named : Option ℕ) → AreTrueFrames p → slice_get p.state.flight at ≡ Some m
    → follower_of p.state.followers m.follower ≡ named → HasTrueFetches p → WorksAfter p (at_named_follower (record p.state { flight = flight }) m named)
named_work p at m flight None frames there is ok = works_same p (at_named_follower (record p.state { flight = flight }) m None) refl ok
named_work p at m flight (Some f) frames there is ok =
    works_one p flight f (λ x. follower_receive_row x m) (slice_get p.state.followers f) refl
    (λ s found own. receive_work p.opened s m (λ r work. says_truly p at f m s r frames there is found work) own) ok

pub taken_work : (p : Past) (at copy : ℕ) (m : Frame) (flight : List Frame) → AreTrueFrames p → slice_get p.state.flight at ≡ Some m → HasTrueFetches p
    → WorksAfter p (taken_by_receiver (record p.state { flight = flight }) copy m)
taken_work p at copy m flight frames there ok =
    on_if (WorksAfter p) (goes_to_leader (kind_of_content m.content)) _ _ (λ is f new at. ok f new at)
    (λ isnt. named_work p at m flight (follower_of p.state.followers m.follower) frames there refl ok)

pub deliver_work : (p : Past) (at copy : ℕ) (keep : Bool) (m : Option Frame) (c : Option Copy) → AreTrueFrames p → slice_get p.state.flight at ≡ m → HasTrueFetches p
    → WorksAfter p (deliver_row p.state at copy keep m c)
unfolding deliver_row
deliver_work p at copy keep None c frames is ok = λ f new at. ok f new at
deliver_work p at copy keep (Some m) None frames is ok = λ f new at. ok f new at
deliver_work p at copy keep (Some m) (Some c) frames is ok =
    on_if (λ (t : State). WorksAfter p (taken_by_receiver t copy m)) keep p.state (record p.state { flight = remove p.state.flight at })
    (λ stays. taken_work p at copy m p.state.flight frames is ok) (λ leaves. taken_work p at copy m (remove p.state.flight at) frames is ok)

-- ---- new followers

pub follow_work : (p : Past) (params : ParamValues) (copies : ℕ) (name : List ℕ) (found : Option ℕ) → AreInRange params → HasTrueFetches p
    → WorksAfter p (follow_row p.state params copies name found)
unfolding follow_row
follow_work p params copies name (Some f) range ok = λ f new at. ok f new at
follow_work p params copies name None range ok =
    on_guards (WorksAfter p) p.state _ _ (λ why f new at. ok f new at)
    (λ tests f new at. by_old f new at (slice_get p.state.followers f) refl)
  where
    by_old : (f : ℕ) (new : Follower) → slice_get (p.state.followers ++ (new_follower (length p.state.followers) params copies name p.state.leader.history p.state.leader.start.retention).next ∷ []) f ≡ Some new
        → (old : Option Follower) → slice_get p.state.followers f ≡ old → WorkOk p.opened new.work
    by_old f new at None none =
        subst (λ (x : Follower). WorkOk p.opened x.work)
        (push_new p.state.followers (new_follower (length p.state.followers) params copies name p.state.leader.history p.state.leader.start.retention).next f new none at)
        (record { some = range.chunk_size.some; stage = tt })
    by_old f new at (Some s) is =
        let same : s ≡ new = some_equal s new (sym (push_old p.state.followers (new_follower (length p.state.followers) params copies name p.state.leader.history p.state.leader.start.retention).next f s is) ∙ at) in
        subst (λ (x : Follower). WorkOk p.opened x.work) same (ok f s is)

-- ---- each event

pub works-after : (p : Past) (event : Event) (picks : List ℕ) → AreTrueFrames p → HasGoodRanges event → HasTrueFetches p → WorksAfter p (step p.state event picks)
works-after p (events.Write request) picks frames range ok = λ f new at. ok f new at
works-after p (events.Replicate sides.Leader copy seq) picks frames range ok = λ f new at. ok f new at
works-after p (events.Replicate (sides.Follower f) copy seq) picks frames range ok =
    works_one p p.state.flight f (λ x. follower_replicate x copy seq) (slice_get p.state.followers f) refl (λ s at is. is) ok
works-after p (events.Ack sides.Leader copy) picks frames range ok = λ f new at. ok f new at
works-after p (events.Ack (sides.Follower f) copy) picks frames range ok = works_one p p.state.flight f (λ x. follower_ack x copy) (slice_get p.state.followers f) refl (λ s at is. is) ok
works-after p (events.Sync sides.Leader copy) picks frames range ok = λ f new at. ok f new at
works-after p (events.Sync (sides.Follower f) copy) picks frames range ok = works_one p p.state.flight f (λ x. follower_sync x copy) (slice_get p.state.followers f) refl (λ s at is. is) ok
works-after p (events.Promote sides.Leader copy) picks frames range ok = λ f new at. ok f new at
works-after p (events.Promote (sides.Follower f) copy) picks frames range ok = works_one p p.state.flight f (λ x. follower_promote x copy) (slice_get p.state.followers f) refl (λ s at is. is) ok
works-after p (events.ForcePromote copy) picks frames range ok = λ f new at. ok f new at
works-after p (events.Resync copy) picks frames range ok = λ f new at. ok f new at
works-after p (events.FailCopy sides.Leader copy) picks frames range ok = λ f new at. ok f new at
works-after p (events.FailCopy (sides.Follower f) copy) picks frames range ok =
    works_one p p.state.flight f (λ x. follower_fail_copy x copy) (slice_get p.state.followers f) refl (λ s at is. is) ok
works-after p (events.AddCopy sides.Leader) picks frames range ok = λ f new at. ok f new at
works-after p (events.AddCopy (sides.Follower f)) picks frames range ok =
    works_one p p.state.flight f follower_add_copy_row (slice_get p.state.followers f) refl (λ s at is. add_copy_work p.opened s is) ok
works-after p (events.Flush sides.Leader copy) picks frames range ok = λ f new at. ok f new at
works-after p (events.Flush (sides.Follower f) copy) picks frames range ok = works_one p p.state.flight f (λ x. follower_flush x copy) (slice_get p.state.followers f) refl (λ s at is. is) ok
works-after p (events.Merge sides.Leader copy) picks frames range ok = λ f new at. ok f new at
works-after p (events.Merge (sides.Follower f) copy) picks frames range ok =
    works_one p p.state.flight f (λ x. follower_merge x copy picks) (slice_get p.state.followers f) refl (λ s at is. is) ok
works-after p (events.Clock sides.Leader now) picks frames range ok = λ f new at. ok f new at
works-after p (events.Clock (sides.Follower f) now) picks frames range ok =
    works_one p p.state.flight f (λ x. follower_clock_row x now) (slice_get p.state.followers f) refl (λ s at is. clock_work p.opened s now is) ok
works-after p events.Expire picks frames range ok = λ f new at. ok f new at
works-after p events.CloseSessions picks frames range ok = λ f new at. ok f new at
works-after p (events.Tick f) picks frames range ok = works_one p p.state.flight f tick_row (slice_get p.state.followers f) refl (λ s at is. tick_work p.opened s is) ok
works-after p (events.Deliver at copy keep) picks frames range ok =
    deliver_work p at copy keep (slice_get p.state.flight at) (copy_of p.state.leader.copies copy) frames refl ok
works-after p (events.Drop at) picks frames range ok = works_same p (step p.state (events.Drop at) picks) (drop_same p.state at (slice_get p.state.flight at)) ok
works-after p (events.Wake f at) picks frames range ok = works_same p (step p.state (events.Wake f at) picks) (woken_same p.state f at (slice_get p.state.followers f)) ok
works-after p (events.Lose f at) picks frames range ok =
    works_one p p.state.flight f (λ x. lose_row x at) (slice_get p.state.followers f) refl (λ s there is. lose_work p.opened s at is) ok
works-after p (events.LoseWrite f write) picks frames range ok =
    works_one p p.state.flight f (λ x. lose_write_row x write (sent_write x.work write)) (slice_get p.state.followers f) refl
    (λ s at is. lose_write_work p.opened s write (sent_write s.work write) is) ok
works-after p (events.Take f write) picks frames range ok =
    works_one p p.state.flight f (λ x. take_row x write (sent_write x.work write)) (slice_get p.state.followers f) refl
    (λ s at is. take_work p.opened s write (sent_write s.work write) is) ok
works-after p (events.Apply f epoch write batch) picks frames range ok =
    works_one p p.state.flight f (λ x. apply_row x epoch write batch (sent_write x.work write)) (slice_get p.state.followers f) refl
    (λ s at is. apply_work p.opened s epoch write batch (sent_write s.work write) is) ok
works-after p (events.Written f write) picks frames range ok =
    works_one p p.state.flight f (λ x. written_row x write (sent_write x.work write)) (slice_get p.state.followers f) refl
    (λ s at is. written_work p.opened s write (sent_write s.work write) is) ok
works-after p (events.Renew f) picks frames range ok =
    works_one p p.state.flight f (λ x. renew_row x (task_of x.work)) (slice_get p.state.followers f) refl (λ s at is. renew_work p.opened s (task_of s.work) is) ok
works-after p (events.Follow params copies name) picks frames range ok = follow_work p params copies name (same_name p.state.followers name) range ok
works-after p (events.Pause f) picks frames range ok =
    works_one p p.state.flight f (λ x. pause_row x (task_of x.work)) (slice_get p.state.followers f) refl (λ s at is. pause_work p.opened s (task_of s.work) is) ok
works-after p (events.Resume f) picks frames range ok =
    works_one p p.state.flight f (λ x. resume_row x (task_of x.work)) (slice_get p.state.followers f) refl (λ s at is. resume_work p.opened s (task_of s.work) is) ok
works-after p (events.Restart f) picks frames range ok =
    works_one p p.state.flight f (λ x. restart_row x (task_of x.work)) (slice_get p.state.followers f) refl (λ s at is. restart_work p.opened s (task_of s.work) is) ok
works-after p (events.Unfollow f) picks frames range ok =
    works_one p p.state.flight f (λ x. unfollow_row x (task_of x.work)) (slice_get p.state.followers f) refl (λ s at is. unfollow_work p.opened s (task_of s.work) is) ok
works-after p (events.Search sides.Leader copy request) picks frames range ok =
    works_same p (step p.state (events.Search sides.Leader copy request) picks) (search_same p.state copy request.query request.sort (copy_of p.state.leader.copies copy)) ok
works-after p (events.Search (sides.Follower f) copy request) picks frames range ok =
    works_same p (step p.state (events.Search (sides.Follower f) copy request) picks) (searched_same p.state f (search_row p.state copy request.query request.sort) copy (slice_get p.state.followers f) (search_same p.state copy request.query request.sort)) ok
works-after p (events.Status sides.Leader) picks frames range ok = λ f new at. ok f new at
works-after p (events.Status (sides.Follower f)) picks frames range ok =
    works_one p p.state.flight f follower_status_row (slice_get p.state.followers f) refl (λ s at is. status_work p.opened s is) ok
works-after p events.Settle picks frames range ok = on_guards (WorksAfter p) p.state _ _ (λ why f new at. ok f new at) (λ tests f new at. ok f new at)

pub fetches-start : (start : Start) → HasTrueFetches (start_past start)
fetches-start start f s at = cc

pub fetches-keep : (p : Past) (event : Event) (picks : List ℕ) → AreTrueFrames p → HasGoodRanges event → HasTrueFetches p → HasTrueFetches (past_by p event picks)
fetches-keep p event picks frames range ok f new at = work-later p.opened _ new.work (works-after p event picks frames range ok f new at)

-- ---- the end of a bootstrap

pub part_there : (session : Session) (size : ℕ) (place : ℕ × ℕ) (chunks : List Chunk) → AllByRecursion (λ (c : Chunk). c.bytes ≡ chunk_of session c.file c.offset size) chunks
    → list_any (is_part place) chunks ≡ true → bytes_at chunks place ≡ chunk_of session place.0 place.1 size
part_there session size place [] whole there = cc
part_there session size place (c ∷ chunks) whole there =
    (elim (is_part place c) as (λ b. is_part place c ≡ b → (b || list_any (is_part place) chunks) ≡ true
    → option_map_or (λ (x : Chunk). x.bytes) (if b then Some c else find (is_part place) chunks) [] ≡ chunk_of session place.0 place.1 size) [
      | true ↦ λ is all.
          let file : c.file ≡ place.0 = eqb-true c.file place.0 (and_parts (c.file == place.0) (c.offset == place.1) is).0 in
          let offset : c.offset ≡ place.1 = eqb-true c.offset place.1 (and_parts (c.file == place.0) (c.offset == place.1) is).1 in
          whole.0 ∙ (ap (λ (n : ℕ). chunk_of session n c.offset size) file ∙ ap (λ (n : ℕ). chunk_of session place.0 n size) offset)
      | false ↦ λ isnt rest. part_there session size place chunks whole.1 rest
    ]) refl there

pub none_asked : (asks : List ChunkAsked) → is_empty asks ≡ true → asks ≡ []
none_asked [] is = refl
none_asked (a ∷ asks) is = cc

pub whole_fetch : (sessions : List Session) (size next : ℕ) (f : Fetch) → 1 ≤ size → (ok : FetchOk sessions size next f) → is_complete size f ≡ true → IsWholeFetch ok.session size f
whole_fetch sessions size next f some ok complete =
    let both : (is_empty f.asks ≡ true) × ((f.asked == length (places_of size f.sizes)) ≡ true) = and_parts (is_empty f.asks) (f.asked == length (places_of size f.sizes)) complete in
    let none : f.asks ≡ [] = none_asked f.asks both.0 in
    let every : take f.asked (places_of size f.sizes) ≡ places_of size f.sizes
    = ap (λ (n : ℕ). take n (places_of size f.sizes)) (eqb-true f.asked (length (places_of size f.sizes)) both.1) ∙ take-length (places_of size f.sizes) in
    record {
      some = some;
      same_sizes = ok.same_sizes;
      all = All-weaker (λ (place : ℕ × ℕ). is_covered [] f.chunks place ≡ true) (λ (place : ℕ × ℕ). bytes_at f.chunks place ≡ chunk_of ok.session place.0 place.1 size)
          (λ place is. part_there ok.session size place f.chunks ok.whole is) (places_of size f.sizes)
          (subst (λ (asks : List ChunkAsked). AllByRecursion (λ (place : ℕ × ℕ). is_covered asks f.chunks place ≡ true) (places_of size f.sizes)) none
          (subst (AllByRecursion (λ (place : ℕ × ℕ). is_covered f.asks f.chunks place ≡ true)) every ok.covered));
    }

stage-own : (p : Past) (history : List ℕ) (stage : Stage) → IsTrueStage p history stage → IsOwn p.opened_in history stage
stage-own p history (leasing a) true_of = tt
stage-own p history (opening a) true_of = tt
stage-own p history (fetching f) true_of = sym true_of.session.same_history ∙ true_of.same_history

-- the session that a bootstrap fetches after a message was opened in the history that its follower follows
pub fetch-own : (p : Past) → AreTrueFrames p → (at f : ℕ) (m : Frame) (s : Follower) → slice_get p.state.flight at ≡ Some m → slice_get p.state.followers f ≡ Some s
    → (r : Restore) (done : Sending Restore) (fetch : Fetch) → s.work ≡ restoring r → restore_hears r s.now m ≡ Some done → done.next.stage ≡ fetching fetch → ends_restore r m ≡ false
    → p.opened_in fetch.session ≡ s.history
fetch-own p frames at f m s in_flight there r done fetch work came stage other =
    let works : IsTrueWork p s.history (restoring r)
    = subst (IsTrueWork p s.history) work (All-at (λ (x : Follower). IsTrueWork p x.history x.work) p.state.followers f s frames.works there) in
    let own_stage : IsOwn p.opened_in s.history r.stage = stage-own p s.history r.stage works.1 in
    let content : IsTrueContent p m.follower m.request m.content = (All-at (IsTrueFrame p) p.state.flight at m frames.flight in_flight).content in
    subst (IsOwn p.opened_in s.history) stage (own-history p.opened_in s.history r s.now m works.0 own_stage
    (λ number history count sizes is. (subst (IsTrueContent p m.follower m.request) is content).same_history) other done came)

-- the files that a bootstrap ends with serve for the line's operations below the session's count
pub fetches-true : (p : Past) → AreTrueFrames p → SessionsHold p → HasTrueFetches p → FetchesTruly p
fetches-true p frames hold ok at f m s in_flight named there r done fetch work came stage other complete =
    let after : RestoreOk p.opened done.next
    = restore-hears p.opened r s.now m (subst (WorkOk p.opened) work (ok f s there)) (says_truly p at f m s r frames in_flight named there work) done came in
    let own : FetchOk p.opened done.next.chunk_size done.next.next_request fetch = subst (StageOk p.opened done.next.chunk_size done.next.next_request) stage after.stage in
    let own_history : p.opened_in fetch.session ≡ s.history = fetch-own p frames at f m s in_flight there r done fetch work came stage other in
    subst (λ (n : ℕ). IsTrueHistory (line_of p s.history) n (all_in (files_of done.next.chunk_size fetch))) (sym own.same_count)
    (subst (IsTrueHistory (line_of p s.history) own.session.count)
    (sym (fetched own.session done.next.chunk_size fetch (whole_fetch p.opened done.next.chunk_size done.next.next_request fetch after.some own complete)))
    (subst (λ (history : List ℕ). IsTrueHistory (line_of p history) own.session.count (ops_of_session own.session)) own_history (hold fetch.session own.session own.is_opened)))
