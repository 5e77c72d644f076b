-- The claims on the followers' copies hold at the start, and each event keeps them.
use Rattle.std.specs.Prelude.{slice_get}
use Rattle.std.specs.Option.{option_map_or}
use Rattle.std.proofs.Common.{◌≡◌, ℕ, zero, suc, ◌==◌, Bool, false, if◌then◌else◌, Option, Some, None, List, [], ◌∷◌, ◌++◌, length, refl, sym, ◌∙◌, ap, subst}
use Rattle.ccr_op.specs.Operation.{Operation}
use Rattle.ccr_query.specs.Queries.{Tree}
use Rattle.ccr_query.specs.declared.sorting.SortKey.{SortKey}
use Rattle.ccr_wire.specs.Message.{Frame}
use Rattle.ccr_journal.specs.Params.{IsCopyCount}
use Rattle.ccr_journal.specs.declared.params.ParamValues.{ParamValues}
use Rattle.ccr_journal.specs.declared.sides.Side.TheVariants as sides
use Rattle.ccr_journal.specs.declared.events.Event.{Event}
use Rattle.ccr_journal.specs.declared.events.Event.TheVariants as events
use Rattle.ccr_journal.specs.declared.replies.Reply.{Reply}
use Rattle.ccr_journal.specs.declared.replies.Reply.TheVariants as replies
use Rattle.ccr_journal.specs.declared.replies.Refusal.TheVariants.{NoFollower}
use Rattle.ccr_model.specs.Outcomes.{Outcome, refused}
use Rattle.ccr_model.specs.Copies.{Copy, copy_of, replica_of}
use Rattle.ccr_model.specs.Given.{none_given, gave, gaining, gaining_batch}
use Rattle.ccr_model.specs.Leaders.{Start}
use Rattle.ccr_model.specs.Followers.{Follower, new_follower}
use Rattle.ccr_model.specs.FollowerRows.{is_bootstrapping, Sent, sent_write, task_of, lose_row, tick_row, follower_clock_row, lose_write_row, take_row, apply_row, written_row, renew_row, pause_row, resume_row, restart_row, unfollow_row, follower_add_copy_row, follower_replicate, follower_ack, follower_sync, follower_promote, follower_fail_copy, follower_flush, follower_merge, follower_status_row}
use Rattle.ccr_model.specs.World.{State, with_new_follower, drop_row, follow_row, same_name, search_row}
use Rattle.ccr_model.specs.Step.{step, woken}
use Rattle.ccr_model.specs.Past.{Line, Past, start_past, line_of}
use Rattle.ccr_law_base.specs.Events.{past_by}
use Rattle.ccr_law_base.proofs.Cases.{on_guards}
use Rattle.ccr_law_copies.specs.Cores.{IsCore, HasOnward}
use Rattle.ccr_law_base.proofs.Lists.{some_equal}
use Rattle.ccr_law_copies.proofs.Replicas.{least_known-primary}
use Rattle.ccr_law_followers.specs.TrueCopies.{FollowerOk, HasTrueCopies, HasCommittedBatches, WritesCommitted, FetchesTruly, HasGoodCount, Rises}
use Rattle.ccr_law_followers.proofs.Several.{copies-fresh}
use Rattle.ccr_law_followers.proofs.After.{OkAfter, kept}
use Rattle.ccr_law_followers.proofs.Rows.{replicate_ok, ack_ok, sync_ok, promote_ok, fail_copy_ok, add_copy_ok, flush_ok, merge_ok}
use Rattle.ccr_law_followers.proofs.Writes.{apply_ok, written_ok}
use Rattle.ccr_law_followers.proofs.Quiet.{lose_keeps, tick_keeps, clock_keeps, lose_write_keeps, take_keeps, renew_keeps, pause_keeps, resume_keeps, restart_keeps, unfollow_keeps, status_keeps}
use Rattle.ccr_law_followers.proofs.Join.{After, IsAside, aside_ok, join, goes_on, unmoved, one_moved}
use Rattle.ccr_law_followers.proofs.Deliver.{deliver_moves, delivered}

-- ---- other followers

pub aside_replicate : (f k copy seq : ℕ) (reply : Reply) → (f == k) ≡ false → IsAside k (events.Replicate (sides.Follower f) copy seq) reply
aside_replicate f k copy seq replies.Done isnt = record {
  given = λ s line given. ap (λ (b : Bool). if b then gave given copy (gaining (given copy) seq (slice_get line seq)) else given) isnt;
  written = λ s written. refl;
}
aside_replicate f k copy seq _ isnt = record { given = λ s line given. refl; written = λ s written. refl }

pub aside_apply : (f k epoch write : ℕ) (batch : List Operation) (reply : Reply) → (f == k) ≡ false → IsAside k (events.Apply f epoch write batch) reply
aside_apply f k epoch write batch (replies.Applied count) isnt = record {
  given = λ s line given.
      ap (λ (b : Bool). if b then gave given s.copies.primary.number (gaining_batch (given s.copies.primary.number) batch line) else given) isnt;
  written = λ s written. refl;
}
aside_apply f k epoch write batch _ isnt = record { given = λ s line given. refl; written = λ s written. refl }

pub aside_add : (f k : ℕ) (reply : Reply) → (f == k) ≡ false → IsAside k (events.AddCopy (sides.Follower f)) reply
aside_add f k (replies.Added copy) isnt = record {
  given = λ s line given. ap (λ (b : Bool). if b then gave given copy (given s.copies.primary.number) else given) isnt;
  written = λ s written. refl;
}
aside_add f k _ isnt = record { given = λ s line given. refl; written = λ s written. refl }

pub aside_written : (f k write : ℕ) (reply : Reply) → (f == k) ≡ false → IsAside k (events.Written f write) reply
aside_written f k write replies.Done isnt = record {
  given = λ s line given. refl;
  written = λ s written.
      ap (λ (b : Bool). if b then option_map_or (λ (sent : Sent). written ++ record { epoch = s.epoch; batch = sent.write.batch } ∷ []) (sent_write s.work write) written else written) isnt;
}
aside_written f k write _ isnt = record { given = λ s line given. refl; written = λ s written. refl }

-- ---- new followers

pub push_old : (xs : List Follower) (x : Follower) (f : ℕ) (s : Follower) → slice_get xs f ≡ Some s → slice_get (xs ++ x ∷ []) f ≡ Some s
push_old [] x f s at = cc
push_old (y ∷ xs) x zero s at = at
push_old (y ∷ xs) x (suc f) s at = push_old xs x f s at

pub push_new : (xs : List Follower) (x : Follower) (f : ℕ) (s : Follower) → slice_get xs f ≡ None → slice_get (xs ++ x ∷ []) f ≡ Some s → x ≡ s
push_new [] x zero s none at = some_equal x s at
push_new [] x (suc f) s none at = cc
push_new (y ∷ xs) x zero s none at = cc
push_new (y ∷ xs) x (suc f) s none at = push_new xs x f s none at

pub push_none : (xs : List Follower) (x : Follower) (f : ℕ) → slice_get (xs ++ x ∷ []) f ≡ None → slice_get xs f ≡ None
push_none [] x f none = refl
push_none (y ∷ xs) x zero none = cc
push_none (y ∷ xs) x (suc f) none = push_none xs x f none

pub new_ok : (line : Line) (f : ℕ) (params : ParamValues) (copies : ℕ) (name history : List ℕ) (retention : ℕ) → IsCopyCount copies
    → FollowerOk line none_given 0 [] (is_bootstrapping (new_follower f params copies name history retention).next.work) (new_follower f params copies name history retention).next.copies
new_ok line f params copies name history retention count = record {
  copies = copies-fresh line copies count;
  counted = least_known-primary 0 _;
  fresh = λ is. record { none = λ copy n. refl; from_empty = refl; unwritten = refl };
}

pub follow_after : (p : Past) (params : ParamValues) (copies : ℕ) (name : List ℕ) (found : Option ℕ) → IsCopyCount copies → HasTrueCopies p
    → After p (events.Follow params copies name) (follow_row p.state params copies name found)
unfolding follow_row
follow_after p params copies name (Some f) count ok =
    unmoved p (events.Follow params copies name) _ refl (λ k s at. record { given = λ s line given. refl; written = λ s written. refl }) ok
follow_after p params copies name None count ok =
    on_guards (After p (events.Follow params copies name)) p.state _ _
    (λ why. unmoved p (events.Follow params copies name) _ refl (λ k s at. record { given = λ s line given. refl; written = λ s written. refl }) ok)
    (λ tests. join p (events.Follow params copies name) (with_new_follower p.state params copies name) ok record {
      each = λ f s new at there before.
          let same : s ≡ new = some_equal s new (sym (push_old p.state.followers (new_follower (length p.state.followers) params copies name p.state.leader.history p.state.leader.start.retention).next f s at) ∙ there) in
          subst (λ (x : Follower). OkAfter (line_of p s.history) f (p.followers f)
          (events.Follow params copies name) replies.Done s x) same
          (aside_ok (line_of p s.history) f (p.followers f) (events.Follow params copies name) replies.Done s
          (record { given = λ s line given. refl; written = λ s written. refl }) before);
      new = λ f new none there.
          subst (λ (x : Follower). FollowerOk (line_of p x.history) none_given 0 [] (is_bootstrapping x.work) x.copies)
          (push_new p.state.followers (new_follower (length p.state.followers) params copies name p.state.leader.history p.state.leader.start.retention).next f new none there)
          (new_ok (line_of p p.state.leader.history) (length p.state.followers) params copies name p.state.leader.history p.state.leader.start.retention count);
      gone = λ f none. push_none p.state.followers (new_follower (length p.state.followers) params copies name p.state.leader.history p.state.leader.start.retention).next f none;
    })

-- ---- events that change no follower

abbrev pub KeepsFollowers : State → Outcome State → Type 0
KeepsFollowers s o = o.next.followers ≡ s.followers

pub drop_same : (s : State) (at : ℕ) (m : Option Frame) → KeepsFollowers s (drop_row s at m)
unfolding drop_row
drop_same s at None = refl
drop_same s at (Some m) = refl

pub woken_same : (s : State) (f at : ℕ) (found : Option Follower) → KeepsFollowers s (woken s f at found)
woken_same s f at None = refl
woken_same s f at (Some x) = refl

pub search_same : (s : State) (copy : ℕ) (query : Tree) (sort : List SortKey) (c : Option Copy) → KeepsFollowers s (search_row s copy query sort c)
unfolding search_row
search_same s copy query sort None = refl
search_same s copy query sort (Some c) = refl

pub searched_same : (s : State) (f : ℕ) (row : Option Copy → Outcome State) (copy : ℕ) (found : Option Follower) → ((c : Option Copy) → KeepsFollowers s (row c))
    → KeepsFollowers s (elim found as (λ _. Outcome State) [ None ↦ refused s (NoFollower f) | Some follower ↦ row (copy_of follower.copies copy) ])
searched_same s f row copy None keeps = refl
searched_same s f row copy (Some x) keeps = keeps (copy_of x.copies copy)

-- ---- each event

-- what is taken of a place
pub record Given (p : Past) (event : Event) : Type 0 where
  pub core : IsCore p
  pub writes : WritesCommitted p
  pub fetches : FetchesTruly p
  pub count : HasGoodCount event

pub after : (p : Past) (event : Event) (picks : List ℕ) → Given p event → HasTrueCopies p → After p event (step p.state event picks)
after p (events.Write request) picks g ok =
    unmoved p (events.Write request) _ refl (λ k s at. record { given = λ s line given. refl; written = λ s written. refl }) ok
after p (events.Replicate sides.Leader copy seq) picks g ok =
    unmoved p (events.Replicate sides.Leader copy seq) _ refl (λ k s at. record { given = λ s line given. refl; written = λ s written. refl }) ok
after p (events.Replicate (sides.Follower f) copy seq) picks g ok =
    one_moved p (events.Replicate (sides.Follower f) copy seq) f (λ x. follower_replicate x copy seq) (slice_get p.state.followers f) refl
    (λ k reply isnt. aside_replicate f k copy seq reply isnt)
    (λ line s at on is. replicate_ok line f (p.followers f) s copy seq (replica_of s.copies copy) refl is) ok
after p (events.Ack sides.Leader copy) picks g ok =
    unmoved p (events.Ack sides.Leader copy) _ refl (λ k s at. record { given = λ s line given. refl; written = λ s written. refl }) ok
after p (events.Ack (sides.Follower f) copy) picks g ok =
    one_moved p (events.Ack (sides.Follower f) copy) f (λ x. follower_ack x copy) (slice_get p.state.followers f) refl
    (λ k reply isnt. record { given = λ s line given. refl; written = λ s written. refl })
    (λ line s at on is. ack_ok line f (p.followers f) s copy (replica_of s.copies copy) refl is) ok
after p (events.Sync sides.Leader copy) picks g ok =
    unmoved p (events.Sync sides.Leader copy) _ refl (λ k s at. record { given = λ s line given. refl; written = λ s written. refl }) ok
after p (events.Sync (sides.Follower f) copy) picks g ok =
    one_moved p (events.Sync (sides.Follower f) copy) f (λ x. follower_sync x copy) (slice_get p.state.followers f) refl
    (λ k reply isnt. record { given = λ s line given. refl; written = λ s written. refl })
    (λ line s at on is. sync_ok line f (p.followers f) s copy (replica_of s.copies copy) refl is) ok
after p (events.Promote sides.Leader copy) picks g ok =
    unmoved p (events.Promote sides.Leader copy) _ refl (λ k s at. record { given = λ s line given. refl; written = λ s written. refl }) ok
after p (events.Promote (sides.Follower f) copy) picks g ok =
    one_moved p (events.Promote (sides.Follower f) copy) f (λ x. follower_promote x copy) (slice_get p.state.followers f) refl
    (λ k reply isnt. record { given = λ s line given. refl; written = λ s written. refl })
    (λ line s at on is. promote_ok line f (p.followers f) s copy (replica_of s.copies copy) refl is) ok
after p (events.ForcePromote copy) picks g ok =
    unmoved p (events.ForcePromote copy) _ refl (λ k s at. record { given = λ s line given. refl; written = λ s written. refl }) ok
after p (events.Resync copy) picks g ok =
    unmoved p (events.Resync copy) _ refl (λ k s at. record { given = λ s line given. refl; written = λ s written. refl }) ok
after p (events.FailCopy sides.Leader copy) picks g ok =
    unmoved p (events.FailCopy sides.Leader copy) _ refl (λ k s at. record { given = λ s line given. refl; written = λ s written. refl }) ok
after p (events.FailCopy (sides.Follower f) copy) picks g ok =
    one_moved p (events.FailCopy (sides.Follower f) copy) f (λ x. follower_fail_copy x copy) (slice_get p.state.followers f) refl
    (λ k reply isnt. record { given = λ s line given. refl; written = λ s written. refl })
    (λ line s at on is. fail_copy_ok line f (p.followers f) s copy (replica_of s.copies copy) is) ok
after p (events.AddCopy sides.Leader) picks g ok =
    unmoved p (events.AddCopy sides.Leader) _ refl (λ k s at. record { given = λ s line given. refl; written = λ s written. refl }) ok
after p (events.AddCopy (sides.Follower f)) picks g ok =
    one_moved p (events.AddCopy (sides.Follower f)) f follower_add_copy_row (slice_get p.state.followers f) refl
    (λ k reply isnt. aside_add f k reply isnt)
    (λ line s at on is. add_copy_ok line f (p.followers f) s is) ok
after p (events.Flush sides.Leader copy) picks g ok =
    unmoved p (events.Flush sides.Leader copy) _ refl (λ k s at. record { given = λ s line given. refl; written = λ s written. refl }) ok
after p (events.Flush (sides.Follower f) copy) picks g ok =
    one_moved p (events.Flush (sides.Follower f) copy) f (λ x. follower_flush x copy) (slice_get p.state.followers f) refl
    (λ k reply isnt. record { given = λ s line given. refl; written = λ s written. refl })
    (λ line s at on is. flush_ok line f (p.followers f) s copy (copy_of s.copies copy) is) ok
after p (events.Merge sides.Leader copy) picks g ok =
    unmoved p (events.Merge sides.Leader copy) _ refl (λ k s at. record { given = λ s line given. refl; written = λ s written. refl }) ok
after p (events.Merge (sides.Follower f) copy) picks g ok =
    one_moved p (events.Merge (sides.Follower f) copy) f (λ x. follower_merge x copy picks) (slice_get p.state.followers f) refl
    (λ k reply isnt. record { given = λ s line given. refl; written = λ s written. refl })
    (λ line s at on is. merge_ok line f (p.followers f) s copy picks (copy_of s.copies copy) is) ok
after p (events.Clock sides.Leader now) picks g ok =
    unmoved p (events.Clock sides.Leader now) _ refl (λ k s at. record { given = λ s line given. refl; written = λ s written. refl }) ok
after p (events.Clock (sides.Follower f) now) picks g ok =
    one_moved p (events.Clock (sides.Follower f) now) f (λ x. follower_clock_row x now) (slice_get p.state.followers f) refl
    (λ k reply isnt. record { given = λ s line given. refl; written = λ s written. refl })
    (λ line s at on is. kept line f (p.followers f) (events.Clock (sides.Follower f) now) (follower_clock_row s now).reply s (follower_clock_row s now).next refl refl (clock_keeps s now) is)
    ok
after p events.Expire picks g ok = unmoved p events.Expire _ refl (λ k s at. record { given = λ s line given. refl; written = λ s written. refl }) ok
after p events.CloseSessions picks g ok = unmoved p events.CloseSessions _ refl (λ k s at. record { given = λ s line given. refl; written = λ s written. refl }) ok
after p (events.Tick f) picks g ok =
    one_moved p (events.Tick f) f tick_row (slice_get p.state.followers f) refl
    (λ k reply isnt. record { given = λ s line given. refl; written = λ s written. refl })
    (λ line s at on is. kept line f (p.followers f) (events.Tick f) (tick_row s).reply s (tick_row s).next refl refl (tick_keeps s) is) ok
after p (events.Deliver at copy keep) picks g ok =
    delivered p at copy keep (step p.state (events.Deliver at copy keep) picks) g.core g.fetches ok
    (deliver_moves p at copy keep (slice_get p.state.flight at) (copy_of p.state.leader.copies copy) refl)
after p (events.Drop at) picks g ok =
    unmoved p (events.Drop at) _ (drop_same p.state at (slice_get p.state.flight at)) (λ k s there. record { given = λ s line given. refl; written = λ s written. refl }) ok
after p (events.Wake f at) picks g ok =
    unmoved p (events.Wake f at) _ (woken_same p.state f at (slice_get p.state.followers f)) (λ k s there. record { given = λ s line given. refl; written = λ s written. refl }) ok
after p (events.Lose f at) picks g ok =
    one_moved p (events.Lose f at) f (λ x. lose_row x at) (slice_get p.state.followers f) refl
    (λ k reply isnt. record { given = λ s line given. refl; written = λ s written. refl })
    (λ line s there on is. kept line f (p.followers f) (events.Lose f at) (lose_row s at).reply s (lose_row s at).next refl refl (lose_keeps s at) is) ok
after p (events.LoseWrite f write) picks g ok =
    one_moved p (events.LoseWrite f write) f (λ x. lose_write_row x write (sent_write x.work write)) (slice_get p.state.followers f) refl
    (λ k reply isnt. record { given = λ s line given. refl; written = λ s written. refl })
    (λ line s at on is. kept line f (p.followers f) (events.LoseWrite f write) (lose_write_row s write (sent_write s.work write)).reply s (lose_write_row s write (sent_write s.work write)).next
    refl refl (lose_write_keeps s write (sent_write s.work write) refl) is) ok
after p (events.Take f write) picks g ok =
    one_moved p (events.Take f write) f (λ x. take_row x write (sent_write x.work write)) (slice_get p.state.followers f) refl
    (λ k reply isnt. record { given = λ s line given. refl; written = λ s written. refl })
    (λ line s at on is. kept line f (p.followers f) (events.Take f write) (take_row s write (sent_write s.work write)).reply s (take_row s write (sent_write s.work write)).next
    refl refl (take_keeps s write (sent_write s.work write)) is) ok
after p (events.Apply f epoch write batch) picks g ok =
    one_moved p (events.Apply f epoch write batch) f (λ x. apply_row x epoch write batch (sent_write x.work write)) (slice_get p.state.followers f) refl
    (λ k reply isnt. aside_apply f k epoch write batch reply isnt)
    (λ line s at on is. apply_ok line f (p.followers f) s epoch write batch (sent_write s.work write) refl (subst (λ (l : Line). HasCommittedBatches l s.work) (sym on) (g.writes f s at)) is) ok
after p (events.Written f write) picks g ok =
    one_moved p (events.Written f write) f (λ x. written_row x write (sent_write x.work write)) (slice_get p.state.followers f) refl
    (λ k reply isnt. aside_written f k write reply isnt)
    (λ line s at on is. written_ok line f (p.followers f) s write (sent_write s.work write) refl is) ok
after p (events.Renew f) picks g ok =
    one_moved p (events.Renew f) f (λ x. renew_row x (task_of x.work)) (slice_get p.state.followers f) refl
    (λ k reply isnt. record { given = λ s line given. refl; written = λ s written. refl })
    (λ line s at on is. kept line f (p.followers f) (events.Renew f) (renew_row s (task_of s.work)).reply s (renew_row s (task_of s.work)).next refl refl
    (renew_keeps s (task_of s.work) refl) is) ok
after p (events.Follow params copies name) picks g ok = follow_after p params copies name (same_name p.state.followers name) g.count ok
after p (events.Pause f) picks g ok =
    one_moved p (events.Pause f) f (λ x. pause_row x (task_of x.work)) (slice_get p.state.followers f) refl
    (λ k reply isnt. record { given = λ s line given. refl; written = λ s written. refl })
    (λ line s at on is. kept line f (p.followers f) (events.Pause f) (pause_row s (task_of s.work)).reply s (pause_row s (task_of s.work)).next refl refl
    (pause_keeps s (task_of s.work) refl) is) ok
after p (events.Resume f) picks g ok =
    one_moved p (events.Resume f) f (λ x. resume_row x (task_of x.work)) (slice_get p.state.followers f) refl
    (λ k reply isnt. record { given = λ s line given. refl; written = λ s written. refl })
    (λ line s at on is. kept line f (p.followers f) (events.Resume f) (resume_row s (task_of s.work)).reply s (resume_row s (task_of s.work)).next refl refl
    (resume_keeps s (task_of s.work) refl) is) ok
after p (events.Restart f) picks g ok =
    one_moved p (events.Restart f) f (λ x. restart_row x (task_of x.work)) (slice_get p.state.followers f) refl
    (λ k reply isnt. record { given = λ s line given. refl; written = λ s written. refl })
    (λ line s at on is. kept line f (p.followers f) (events.Restart f) (restart_row s (task_of s.work)).reply s (restart_row s (task_of s.work)).next refl refl
    (restart_keeps s (task_of s.work) refl) is) ok
after p (events.Unfollow f) picks g ok =
    one_moved p (events.Unfollow f) f (λ x. unfollow_row x (task_of x.work)) (slice_get p.state.followers f) refl
    (λ k reply isnt. record { given = λ s line given. refl; written = λ s written. refl })
    (λ line s at on is. kept line f (p.followers f) (events.Unfollow f) (unfollow_row s (task_of s.work)).reply s (unfollow_row s (task_of s.work)).next refl refl
    (unfollow_keeps s (task_of s.work) refl) is) ok
after p (events.Search sides.Leader copy request) picks g ok =
    unmoved p (events.Search sides.Leader copy request) _ (search_same p.state copy request.query request.sort (copy_of p.state.leader.copies copy))
    (λ k s at. record { given = λ s line given. refl; written = λ s written. refl }) ok
after p (events.Search (sides.Follower f) copy request) picks g ok =
    unmoved p (events.Search (sides.Follower f) copy request) _
    (searched_same p.state f (search_row p.state copy request.query request.sort) copy (slice_get p.state.followers f) (search_same p.state copy request.query request.sort))
    (λ k s at. record { given = λ s line given. refl; written = λ s written. refl }) ok
after p (events.Status sides.Leader) picks g ok =
    unmoved p (events.Status sides.Leader) _ refl (λ k s at. record { given = λ s line given. refl; written = λ s written. refl }) ok
after p (events.Status (sides.Follower f)) picks g ok =
    one_moved p (events.Status (sides.Follower f)) f follower_status_row (slice_get p.state.followers f) refl
    (λ k reply isnt. record { given = λ s line given. refl; written = λ s written. refl })
    (λ line s at on is. kept line f (p.followers f) (events.Status (sides.Follower f)) (follower_status_row s).reply s (follower_status_row s).next refl refl (status_keeps s) is) ok
after p events.Settle picks g ok =
    on_guards (After p events.Settle) p.state _ _
    (λ why. unmoved p events.Settle _ refl (λ k s at. record { given = λ s line given. refl; written = λ s written. refl }) ok)
    (λ tests. unmoved p events.Settle _ refl (λ k s at. record { given = λ s line given. refl; written = λ s written. refl }) ok)

-- ---- the start, and every event

pub followers-start : (start : Start) → HasTrueCopies (start_past start)
followers-start start = record { made = λ f s at. cc; unmade = λ f none. refl }

pub followers-keep : (p : Past) (event : Event) (picks : List ℕ) → IsCore p → HasOnward p (past_by p event picks) → WritesCommitted p → FetchesTruly p → HasGoodCount event → HasTrueCopies p
    → HasTrueCopies (past_by p event picks)
followers-keep p event picks core onward writes fetches count ok =
    goes_on p (past_by p event picks) onward (after p event picks (record { core = core; writes = writes; fetches = fetches; count = count }) ok).ok

pub counts-rise : (p : Past) (event : Event) (picks : List ℕ) → IsCore p → WritesCommitted p → FetchesTruly p → HasGoodCount event → HasTrueCopies p
    → Rises p.state (step p.state event picks).next
counts-rise p event picks core writes fetches count ok = (after p event picks (record { core = core; writes = writes; fetches = fetches; count = count }) ok).rises
