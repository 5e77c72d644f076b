-- Settling by the delivery of a lease's removal lowers the measure.
use Rattle.std.specs.Prelude.{slice_get, remove}
use Rattle.std.proofs.Common.{◌≡◌, ℕ, ◌+◌, ◌≤◌, ◌<◌, ◌==◌, true, false, if◌then◌else◌, inl, inr, Option, Some, None, List, ◌++◌, refl, sym, subst, arith}
use Rattle.ccr_lease.specs.Leases.{Collection, lease_of, without}
use Rattle.ccr_lease.specs.declared.retention.Lease.{Lease}
use Rattle.ccr_wire.specs.Message.{Frame}
use Rattle.ccr_wire.specs.declared.kind.LeaseResult.TheVariants as results
use Rattle.ccr_wire.specs.declared.content.Content.{Content}
use Rattle.ccr_wire.specs.declared.content.Content.TheVariants as contents
use Rattle.ccr_journal.specs.declared.replies.Heard.{Heard as Hearing}
use Rattle.ccr_journal.specs.declared.replies.Heard.TheVariants as heard
use Rattle.ccr_journal.specs.declared.events.Event.TheVariants as events
use Rattle.ccr_model.specs.Copies.{Copy, Copies, copy_of}
use Rattle.ccr_model.specs.LeaderFrames.{hears, answer_to, with_leases, lease_remove_row}
use Rattle.ccr_model.specs.World.{State, deliver_row}
use Rattle.ccr_model.specs.Step.{step}
use Rattle.ccr_law_base.proofs.Lists.{All-append}
use Rattle.ccr_law_settling.specs.Measure.{passing, over_followers, is_idle_content, rank_of, lacking_of, IsLower}
use Rattle.ccr_law_settling.proofs.Measure.Totals.{le_itself}
use Rattle.ccr_law_settling.proofs.Measure.Flights.{IsPlain, ranks_more, idle_more}
use Rattle.ccr_law_settling.proofs.Measure.Syncing.{answers_of, plain_answers, busy_answers}
use Rattle.ccr_law_settling.proofs.Measure.Taken.{total_remove, ranks_left}
use Rattle.ccr_law_settling.proofs.Measure.Delivering.{taken, primary_found}

-- a message that counts among those that bring nothing is taken, the leader's leases change, and it is answered
leases_lower : (count_of : List ℕ → ℕ) (s : State) (at : ℕ) (m : Frame) (leases : Collection) (what : Hearing) (follower : List ℕ) (request : ℕ) (content : Content) → slice_get s.flight at ≡ Some m
    → is_idle_content m.content ≡ true → IsPlain s.leader.sessions (record { follower = follower; request = request; content = content }) → is_idle_content content ≡ false
    → IsLower count_of (taken s at (hears what (with_leases s.leader leases) (answer_to follower request content))).next s
leases_lower count_of s at m leases what follower request content found idle plain busy =
    inr (
      (let more : over_followers (λ f own. rank_of (rest ++ all) s.leader.sessions f own.work) 0 s.followers ≤ over_followers (λ f own. rank_of rest s.leader.sessions f own.work) 0 s.followers
          = ranks_more rest all s.leader.sessions s.followers (All-append (IsPlain s.leader.sessions) sent answers (plain, tt) (plain_answers s.leader.sessions copies s.leader.kept)) in
          let left : over_followers (λ f own. rank_of rest s.leader.sessions f own.work) 0 s.followers ≤ over_followers (λ f own. rank_of s.flight s.leader.sessions f own.work) 0 s.followers
          = ranks_left s.flight at s.leader.sessions s.followers in
          omega arith),
      inr (
        le_itself (lacking_of count_of s),
        inl (
            let same : passing (λ (x : Frame). is_idle_content x.content) (rest ++ all) ≡ passing (λ (x : Frame). is_idle_content x.content) rest
            = idle_more rest all (All-append (λ (x : Frame). is_idle_content x.content ≡ false) sent answers (busy, tt) (busy_answers copies s.leader.kept)) in
            let one : passing (λ (x : Frame). is_idle_content x.content) rest + (if is_idle_content m.content then 1 else 0) ≡ passing (λ (x : Frame). is_idle_content x.content) s.flight
            = total_remove (λ (x : Frame). if is_idle_content x.content then 1 else 0) s.flight at m found in
            let counts : (if is_idle_content m.content then 1 else 0) ≡ 1 = rw idle refl in
            less _ _ _ _ _ same one counts
            ),
      ),
    )
  where
    copies : Copies
    copies = (with_leases s.leader leases).copies

    sent : List Frame
    sent = answer_to follower request content

    answers : List Frame
    answers = answers_of copies s.leader.kept

    all : List Frame
    all = sent ++ answers

    rest : List Frame
    rest = remove s.flight at

    less : (a b c one followers : ℕ) → a ≡ b → b + one ≡ c → one ≡ 1 → a + followers < c + followers
    less a b c one followers same sum counts = omega arith

removal_lower : (count_of : List ℕ → ℕ) (s : State) (at : ℕ) (m : Frame) (follower : List ℕ) (request : ℕ) (id : List ℕ) (o : Option Lease) → slice_get s.flight at ≡ Some m → is_idle_content m.content ≡ true
    → IsLower count_of (taken s at (lease_remove_row s.leader follower request id o)).next s
unfolding lease_remove_row
removal_lower count_of s at m follower request id None found idle =
    leases_lower count_of s at m s.leader.copies.primary.leases (heard.Lease results.NotFound 0) follower request (contents.LeaseAnswer results.NotFound 0) found idle (record { opens = refl; gone = refl }) refl
removal_lower count_of s at m follower request id (Some kept) found idle =
    leases_lower count_of s at m (record { term = s.leader.copies.primary.leases.term; version = s.leader.copies.primary.leases.version + 1; leases = without id s.leader.copies.primary.leases.leases })
    (heard.Lease results.Ok kept.number) follower request (contents.LeaseAnswer results.Ok kept.number) found idle (record { opens = refl; gone = refl }) refl

pub removal_delivered : (count_of : List ℕ → ℕ) (s : State) (at copy : ℕ) (picks : List ℕ) (follower : List ℕ) (request : ℕ) (id : List ℕ)
    → slice_get s.flight at ≡ Some (record { follower = follower; request = request; content = contents.LeaseRemove id })
    → (copy == s.leader.copies.primary.number) ≡ true → IsLower count_of (step s (events.Deliver at copy false) picks).next s
unfolding deliver_row
removal_delivered count_of s at copy picks follower request id found own =
    subst (λ (o : Option Frame). IsLower count_of (deliver_row s at copy false o (copy_of s.leader.copies copy)).next s) (sym found)
    (subst (λ (o : Option Copy). IsLower count_of (deliver_row s at copy false (Some m) o).next s) (sym (primary_found s.leader.copies copy own))
    (removal_lower count_of s at m follower request id (lease_of id s.leader.copies.primary.leases.leases) found refl))
  where
    m : Frame
    m = record { follower = follower; request = request; content = contents.LeaseRemove id }
