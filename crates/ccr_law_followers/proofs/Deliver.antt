-- A delivered message: which followers it changes, and the end of a bootstrap.
use Rattle.std.specs.Prelude.{nat_lt, slice_get, slice_set, remove}
use Rattle.std.proofs.Common.{◌≡◌, ℕ, ◌≤◌, ◌==◌, ◌&&◌, ◌⊎◌, inl, inr, Bool, true, false, not, if◌then◌else◌, Option, Some, None, List, length, refl, sym, ◌∙◌, ap, subst, arith, max, map}
use Rattle.ccr_op.specs.Operation.{Operation}
use Rattle.ccr_wire.specs.Message.{Frame, kind_of_content}
use Rattle.ccr_journal.specs.declared.events.Event.TheVariants as events
use Rattle.ccr_journal.specs.declared.replies.Reply.{Reply}
use Rattle.ccr_model.specs.Outcomes.{Outcome}
use Rattle.ccr_model.specs.Given.{front_of}
use Rattle.ccr_model.specs.Copies.{Copy, Replica, Copies}
use Rattle.ccr_model.specs.Restores.{Restore, Fetch, files_of}
use Rattle.ccr_model.specs.Followers.{Follower, restored, bootstrapped}
use Rattle.ccr_model.specs.FollowerRows.{is_bootstrapping, follower_receive_row}
use Rattle.ccr_model.specs.World.{State, for_follower, goes_to_leader, follower_of, at_named_follower, taken_by_receiver, deliver_row}
use Rattle.ccr_model.specs.Past.{Line, Past, FollowerPast, WrittenBatch, ends_bootstrap, line_of}
use Rattle.ccr_law_base.proofs.Cases.{on_if}
use Rattle.ccr_law_copies.specs.Cores.{IsCore, IsLine}
use Rattle.ccr_law_base.proofs.Lists.{some_equal}
use Rattle.ccr_law_copies.proofs.Replicas.{least_known-primary}
use Rattle.ccr_law_copies.proofs.LeaderEvents.{line-is}
use Rattle.ccr_law_stores.specs.TrueStores.{IsTrueHistory}
use Rattle.ccr_law_followers.specs.TrueCopies.{FollowerOk, HasTrueCopies, FetchesTruly, IsNew, all_in}
use Rattle.ccr_law_followers.proofs.One.{copy-empty}
use Rattle.ccr_law_followers.proofs.Several.{copies-bare, copies-restored, restored_replica}
use Rattle.ccr_law_followers.proofs.After.{OkOf, OkAfter, Keeps, kept, unended}
use Rattle.ccr_law_followers.proofs.Quiet.{same, Stops, Ends, Hears, receive_hears}
use Rattle.ccr_law_followers.proofs.Join.{set_at, set_none, none_set, After, join}
use Rattle.std.proofs.lemmas.Bool.Decides.{nat_tests}
use Rattle.std.proofs.lemmas.Bool.{eqb-true}

-- ---- the end of a bootstrap

pub ended : (line : Line) (f : ℕ) (past : FollowerPast) (at copy : ℕ) (keep : Bool) (reply : Reply) (s : Follower) (r : Restore) (fetch : Fetch)
    → is_bootstrapping s.work ≡ true → line.cut ≤ length line.ops → ((n : ℕ) (op : Operation) → slice_get line.ops n ≡ Some op → op.seq ≡ n)
    → IsTrueHistory line fetch.count (all_in (files_of r.chunk_size fetch)) → OkOf line past s
    → OkAfter line f past (events.Deliver at copy keep) reply s (bootstrapped s r fetch).next
ended line f past at copy keep reply s r fetch bootstrapping full numbered history ok =
    let new : IsNew past.given past.restored past.written = ok.fresh bootstrapping in
    let ends : ends_bootstrap s (bootstrapped s r fetch).next ≡ true = ap (λ (b : Bool). b && true) bootstrapping in
    let known : s.copies.primary.global ≡ 0
    = copy-empty line (past.given s.copies.primary.number) past.restored past.written s.copies.next s.copies.primary (new.none s.copies.primary.number) ok.copies.own in
    record {
      ok = subst (λ (b : Bool). FollowerOk line (if b then (λ own. front_of fetch.count line.ops) else past.given) (if b then fetch.count else past.restored) past.written false
          (restored fetch.count (files_of r.chunk_size fetch) s.copies)) (sym ends)
          (subst (λ (w : List WrittenBatch). FollowerOk line (λ own. front_of fetch.count line.ops) fetch.count w false (restored fetch.count (files_of r.chunk_size fetch) s.copies)) (sym new.unwritten)
          (record {
            copies = copies-restored line past.given past.restored past.written s.copies fetch.count (files_of r.chunk_size fetch) full (λ n op lt is. numbered n op is) history new ok.copies;
            counted = omega (arith, least_known-primary (max 0 fetch.count) (map {A = Replica} {B = Replica} (restored_replica fetch.count (files_of r.chunk_size fetch)) s.copies.replicas));
            fresh = λ is. cc;
          }));
      rises = omega arith;
      stays = refl;
    }

-- a bootstrap that ends without a task gives nothing
pub stopped_ok : (line : Line) (f : ℕ) (past : FollowerPast) (at copy : ℕ) (keep : Bool) (reply : Reply) (s new : Follower) → Stops s new → OkOf line past s
    → OkAfter line f past (events.Deliver at copy keep) reply s new
stopped_ok line f past at copy keep reply s new stops ok =
    let fresh : IsNew past.given past.restored past.written = ok.fresh stops.was in
    let ends : ends_bootstrap s new ≡ true = ap (λ (b : Bool). is_bootstrapping s.work && not b) stops.is ∙ ap (λ (b : Bool). b && true) stops.was in
    let known : s.copies.primary.global ≡ 0
    = copy-empty line (past.given s.copies.primary.number) past.restored past.written s.copies.next s.copies.primary (fresh.none s.copies.primary.number) ok.copies.own in
    record {
      ok = subst (λ (b : Bool). FollowerOk line (if b then (λ own. front_of new.copies.primary.global line.ops) else past.given) (if b then new.copies.primary.global else past.restored)
          past.written (is_bootstrapping new.work) new.copies) (sym ends)
          (subst (λ (t : Copies). FollowerOk line (λ own. front_of t.primary.global line.ops) t.primary.global past.written (is_bootstrapping new.work) t) (sym stops.copies)
          (record {
            copies = copies-bare line past.given (λ own. front_of s.copies.primary.global line.ops) past.restored s.copies.primary.global past.written s.copies fresh.none
                (λ own n. let out : nat_lt n s.copies.primary.global ≡ false = grind (arith, nat_tests, known) in ap (λ (b : Bool). if b then slice_get line.ops n else None) out) known ok.copies;
            counted = ok.counted;
            fresh = λ is. cc;
          }));
      rises = subst (λ (t : Copies). s.copies.primary.global ≤ t.primary.global) (sym stops.copies) (omega arith);
      stays = stops.history;
    }

-- ---- which followers change

-- a message in flight brought the last part of a follower's files
pub record Came (p : Past) (at f : ℕ) (s new : Follower) : Type 0 where
  pub message : Frame
  pub in_flight : slice_get p.state.flight at ≡ Some message
  pub named : follower_of p.state.followers message.follower ≡ Some f
  pub ends : Ends s message new

pub record Moves (p : Past) (at : ℕ) (o : Outcome State) : Type 0 where
  pub each : (f : ℕ) (s new : Follower) → slice_get p.state.followers f ≡ Some s → slice_get o.next.followers f ≡ Some new → Keeps s new ⊎ (Stops s new ⊎ Came p at f s new)
  pub none_new : (f : ℕ) (x : Follower) → slice_get p.state.followers f ≡ None → slice_get o.next.followers f ≡ Some x → ⊥
  pub gone : (f : ℕ) → slice_get o.next.followers f ≡ None → slice_get p.state.followers f ≡ None

pub contrary : (o : Option Follower) (new : Follower) → o ≡ None → o ≡ Some new → ⊥
contrary o new none some = cc

pub moves_same : (p : Past) (at : ℕ) (o : Outcome State) → o.next.followers ≡ p.state.followers → Moves p at o
moves_same p at o is = record {
  each = λ f s new old now.
      let e : s ≡ new = some_equal s new (sym old ∙ (ap (λ (xs : List Follower). slice_get xs f) (sym is) ∙ now)) in
      inl (subst (Keeps s) e (same s));
  none_new = λ f x none now. contrary (slice_get p.state.followers f) x none (ap (λ (xs : List Follower). slice_get xs f) (sym is) ∙ now);
  gone = λ f none. ap (λ (xs : List Follower). slice_get xs f) (sym is) ∙ none;
}

pub follower_moves : (p : Past) (at : ℕ) (m : Frame) (flight : List Frame) (f : ℕ) → slice_get p.state.flight at ≡ Some m → follower_of p.state.followers m.follower ≡ Some f
    → (found : Option Follower) → slice_get p.state.followers f ≡ found
    → Moves p at (for_follower (record p.state { flight = flight }) f (λ follower. follower_receive_row follower m) found)
follower_moves p at m flight f there named None is = moves_same p at _ refl
follower_moves p at m flight f there named (Some x) is = record {
  each = λ k s new old now. by_place k s new old (set_at p.state.followers f (follower_receive_row x m).next k new now);
  none_new = λ k y none now.
      contrary (slice_get (slice_set p.state.followers f (follower_receive_row x m).next) k) y (none_set p.state.followers f (follower_receive_row x m).next k none) now;
  gone = λ k none. set_none p.state.followers f (follower_receive_row x m).next k none;
}
  where
    heard : (k : ℕ) (s new : Follower) → f ≡ k → x ≡ s → (follower_receive_row x m).next ≡ new → Hears x m (follower_receive_row x m).next → Keeps s new ⊎ (Stops s new ⊎ Came p at k s new)
    heard k s new place old now (inl keeps) = inl (subst (λ (y : Follower). Keeps y new) old (subst (Keeps x) now keeps))
    heard k s new place old now (inr (inl stops)) = inr (inl (subst (λ (y : Follower). Stops y new) old (subst (Stops x) now stops)))
    heard k s new place old now (inr (inr ends)) =
        inr (inr record {
          message = m;
          in_flight = there;
          named = named ∙ ap (λ (n : ℕ). Some n) place;
          ends = subst (λ (y : Follower). Ends y m new) old (subst (Ends x m) now ends);
        })

    by_place : (k : ℕ) (s new : Follower) → slice_get p.state.followers k ≡ Some s
        → (((f == k) ≡ true) × ((follower_receive_row x m).next ≡ new)) ⊎ (((f == k) ≡ false) × (slice_get p.state.followers k ≡ Some new)) → Keeps s new ⊎ (Stops s new ⊎ Came p at k s new)
    by_place k s new old (inl own) =
        let e : f ≡ k = eqb-true f k own.0 in
        heard k s new e (some_equal x s (sym is ∙ (ap (slice_get p.state.followers) e ∙ old))) own.1 (receive_hears x m)
    by_place k s new old (inr other) = inl (subst (Keeps s) (some_equal s new (sym old ∙ other.1)) (same s))

pub named_moves : (p : Past) (at : ℕ) (m : Frame) (flight : List Frame) → slice_get p.state.flight at ≡ Some m → (named : Option ℕ) → follower_of p.state.followers m.follower ≡ named
    → Moves p at (at_named_follower (record p.state { flight = flight }) m named)
named_moves p at m flight there None is = moves_same p at _ refl
named_moves p at m flight there (Some f) is = follower_moves p at m flight f there is (slice_get p.state.followers f) refl

pub taken_moves : (p : Past) (at copy : ℕ) (m : Frame) (flight : List Frame) → slice_get p.state.flight at ≡ Some m
    → Moves p at (taken_by_receiver (record p.state { flight = flight }) copy m)
taken_moves p at copy m flight there =
    on_if (Moves p at) (goes_to_leader (kind_of_content m.content)) _ _ (λ is. moves_same p at _ refl)
    (λ isnt. named_moves p at m flight there (follower_of p.state.followers m.follower) refl)

pub deliver_moves : (p : Past) (at copy : ℕ) (keep : Bool) (m : Option Frame) (c : Option Copy) → slice_get p.state.flight at ≡ m → Moves p at (deliver_row p.state at copy keep m c)
unfolding deliver_row
deliver_moves p at copy keep None c is = moves_same p at _ refl
deliver_moves p at copy keep (Some m) None is = moves_same p at _ refl
deliver_moves p at copy keep (Some m) (Some c) is =
    on_if (λ (t : State). Moves p at (taken_by_receiver t copy m)) keep p.state (record p.state { flight = remove p.state.flight at })
    (λ stays. taken_moves p at copy m p.state.flight is) (λ leaves. taken_moves p at copy m (remove p.state.flight at) is)

-- ---- the event

pub delivered : (p : Past) (at copy : ℕ) (keep : Bool) (o : Outcome State) → IsCore p → FetchesTruly p → HasTrueCopies p
    → Moves p at o → After p (events.Deliver at copy keep) o
delivered p at copy keep o core fetches ok moves = join p (events.Deliver at copy keep) o ok record {
  each = λ f s new old now before. by_move f s new old before (moves.each f s new old now);
  new = λ f new none now. absurd (moves.none_new f new none now);
  gone = moves.gone;
}
  where
    by_move : (f : ℕ) (s new : Follower) → slice_get p.state.followers f ≡ Some s → OkOf (line_of p s.history) (p.followers f) s
        → Keeps s new ⊎ (Stops s new ⊎ Came p at f s new) → OkAfter (line_of p s.history) f (p.followers f) (events.Deliver at copy keep) o.reply s new
    by_move f s new old before (inl keeps) =
        kept (line_of p s.history) f (p.followers f) (events.Deliver at copy keep) o.reply s new
        (ap (λ (b : Bool). if b then (λ own. front_of new.copies.primary.global (line_of p s.history).ops) else (p.followers f).given) (unended s new keeps.work)) refl
        keeps before
    by_move f s new old before (inr (inl stops)) = stopped_ok (line_of p s.history) f (p.followers f) at copy keep o.reply s new stops before
    by_move f s new old before (inr (inr came)) =
        let done = came.ends.done in
        let line : IsLine (line_of p s.history) = line-is p core s.history in
        subst (λ (x : Follower). OkAfter (line_of p s.history) f (p.followers f) (events.Deliver at copy keep) o.reply s x) (sym came.ends.is)
        (ended (line_of p s.history) f (p.followers f) at copy keep o.reply s done.next came.ends.fetch (ap is_bootstrapping came.ends.work) line.full line.numbered
        (fetches at f came.message s came.in_flight came.named old came.ends.restore done came.ends.fetch came.ends.work came.ends.hears came.ends.stage came.ends.other came.ends.whole)
        before)
