use Rattle.std.specs.Prelude.{filter}
use Rattle.std.proofs.Common.{◌≡◌, ℕ, Bool, not, List, ◌++◌, map, sym, ◌∙◌, ap, subst}
use Rattle.ccr_wire.specs.Message.{Frame}
use Rattle.ccr_journal.specs.declared.replies.Heard.TheVariants as heard
use Rattle.ccr_model.specs.Copies.{has_lease, not_ready}
use Rattle.ccr_model.specs.Leaders.{KeptRequest, Leader}
use Rattle.ccr_model.specs.LeaderRows.{all_hold, lease_answer, settling_requests, with_copies}
use Rattle.ccr_model.specs.LeaderFrames.{hears, lease_add_row}
use Rattle.ccr_law_settling_grounds.specs.Parked.{AreKeptRightly}
use Rattle.ccr_leader.proofs.Asked.{add-row, same-new_lease, still-kept, unready-row}
use Rattle.ccr_leader.proofs.Due.{left-kept}
use Rattle.ccr_copies.specs.Changes.{with_new_lease as copies_with_new_lease}
use Rattle.ccr_leader.proofs.leader.Leader.hear_lease_add.Goals as goal

pub returns-in-Some-clause-ok : goal.returns-in-Some-clause-ok
returns-in-Some-clause-ok c =
    let old : Leader = record {
      start = c.self.inside.start;
      history = c.self.inside.history;
      copies = c.self.inside.copies;
      stale = c.self.inside.stale;
      now = c.self.inside.now;
      next_session = c.self.inside.sessions.next;
      sessions = c.self.inside.sessions.sessions;
      kept = c.self.inside.kept;
      polls = c.self.inside.polls;
    } in
    subst (λ (l : Leader). settling_requests (lease_add_row l c.args.follower.now c.args.request c.args.id.now (not_ready l.copies)) ≡ hears (heard.NotReady c.in-Some.copy) l c.in_ok-sent.sent) c.self.view_is
    (unready-row old c.args.follower.now c.args.request c.args.id.now (not_ready old.copies) c.in-Some.copy c.in_ok-sent.sent (sym c.in-Some.ensures) c.in_ok-sent.ensures
    (subst (λ (l : Leader). AreKeptRightly l.copies l.kept) (sym c.self.view_is) c.requires))

pub answer_where_new-requires : goal.answer_where_new-requires
answer_where_new-requires c = λ there.
    let old : Leader = record {
      start = c.self.inside.start;
      history = c.self.inside.history;
      copies = c.self.inside.copies;
      stale = c.self.inside.stale;
      now = c.self.inside.now;
      next_session = c.self.inside.sessions.next;
      sessions = c.self.inside.sessions.sessions;
      kept = c.self.inside.kept;
      polls = c.self.inside.polls;
    } in
    let k : KeptRequest = record { follower = c.args.follower.now; request = c.args.request; id = c.in_ok-id.id; existed = c.in_ok-existed.existed } in
    subst (λ (l : Leader). AreKeptRightly l.copies l.kept) (sym c.self-2.view_is)
    (still-kept old (with_copies old c.add_lease.new.self) k c.in_ok-told.told c.answer_or_keep.new.self c.answer_or_keep.new.sent
    (same-new_lease old c.in_ok-id.id c.add_lease.new.self (c.in_ok-existed.ensures.ok ∙ ap (λ (i : List ℕ). copies_with_new_lease i old.now old.copies) (sym c.in_ok-id.ensures)))
    (ap (λ (i : List ℕ). has_lease i old.copies.primary) c.in_ok-id.ensures ∙ (sym c.in_ok-existed.ensures.existed ∙ there))
    (subst (λ (l : Leader). AreKeptRightly l.copies l.kept) (sym c.self.view_is) c.requires) c.in_ok-told.ensures)

pub invariant_of-self-3 : goal.invariant_of-self-3
invariant_of-self-3 c = λ is. left-kept c.self-2.inside.copies c.self-2.inside.kept c.answer_where_new.new.kept c.in_ok-answer_where_new.ensures.kept

pub returns-clause-ok : goal.returns-clause-ok
returns-clause-ok c =
    let old : Leader = record {
      start = c.self.inside.start;
      history = c.self.inside.history;
      copies = c.self.inside.copies;
      stale = c.self.inside.stale;
      now = c.self.inside.now;
      next_session = c.self.inside.sessions.next;
      sessions = c.self.inside.sessions.sessions;
      kept = c.self.inside.kept;
      polls = c.self.inside.polls;
    } in
    let k : KeptRequest = record { follower = c.args.follower.now; request = c.args.request; id = c.in_ok-id.id; existed = c.in_ok-existed.existed } in
    let asked : k ≡ record { follower = c.args.follower.now; request = c.args.request; id = c.args.id.now; existed = has_lease c.args.id.now old.copies.primary } =
    ap (λ (i : List ℕ). record { follower = c.args.follower.now; request = c.args.request; id = i; existed = c.in_ok-existed.existed }) c.in_ok-id.ensures
    ∙ ap (λ (b : Bool). record { follower = c.args.follower.now; request = c.args.request; id = c.args.id.now; existed = b }) c.in_ok-existed.ensures.existed in
    let next : Leader = c.answer_or_keep.new.self in
    subst (λ (l : Leader). settling_requests (lease_add_row l c.args.follower.now c.args.request c.args.id.now (not_ready l.copies))
    ≡ hears c.in_ok-told.told (record next { kept = c.answer_where_new.new.kept }) c.answer_where_new.new.sent) c.self.view_is
    (add-row old (with_copies old c.add_lease.new.self) c.args.follower.now c.args.request c.args.id.now k (not_ready old.copies) c.in_ok-told.told next c.answer_or_keep.new.sent
    c.answer_where_new.new.sent c.answer_where_new.new.kept (sym c.in_default.ensures) (same-new_lease old c.args.id.now c.add_lease.new.self c.in_ok-existed.ensures.ok) asked c.in_ok-told.ensures
    (subst (λ (l : Leader). c.answer_where_new.new.sent ≡ c.answer_or_keep.new.sent ++ map {A = KeptRequest} {B = Frame} (lease_answer l.copies) (filter (λ q. all_hold q.id l.copies) l.kept))
    c.self-2.view_is c.in_ok-answer_where_new.ensures.sent)
    (subst (λ (l : Leader). c.answer_where_new.new.kept ≡ filter (λ q. not (all_hold q.id l.copies)) l.kept) c.self-2.view_is c.in_ok-answer_where_new.ensures.kept))
    ∙ ap (λ (l : Leader). hears c.in_ok-told.told (record l { kept = c.answer_where_new.new.kept }) c.answer_where_new.new.sent) (sym c.self-2.view_is)
