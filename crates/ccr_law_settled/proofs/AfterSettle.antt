-- Where a world is settled, each search of a copy of the leader, and of a copy of an active follower, answers over the whole line.
use Rattle.std.specs.List.{AllByRecursion, list_all}
use Rattle.std.specs.Option.{option_map}
use Rattle.std.specs.Prelude.{IfSome, slice_get, find, is_none}
use Rattle.std.specs.Str.{bytes_eq}
use Rattle.std.proofs.Common.{◌≡◌, ℕ, ◌^◌, ◌<◌, ◌≤◌, ◌==◌, ◌&&◌, ◌||◌, nat_le, Bool, true, false, not, if◌then◌else◌, Option, Some, None, List, [], ◌∷◌, ◌++◌, length, refl, sym, ◌∙◌, ap, subst, arith}
use Rattle.std.proofs.lemmas.Bool.{and_parts, eqb-true, not-false}
use Rattle.ccr_op.specs.Operation.{Operation}
use Rattle.ccr_tracker.specs.Numbers.{Numbers, IsCanonical}
use Rattle.ccr_query.specs.Queries.{Tree}
use Rattle.ccr_query.specs.declared.sorting.SortKey.{SortKey}
use Rattle.ccr_journal.specs.declared.sides.Side.TheVariants as sides
use Rattle.ccr_journal.specs.declared.sides.Phase.TheVariants as phases
use Rattle.ccr_journal.specs.declared.events.Event.{Event}
use Rattle.ccr_journal.specs.declared.events.Event.TheVariants as events
use Rattle.ccr_journal.specs.declared.journals.Entry.{Entry}
use Rattle.ccr_journal.specs.declared.replies.Reply.{Reply}
use Rattle.ccr_journal.specs.declared.replies.Reply.TheVariants as replies
use Rattle.ccr_journal.specs.declared.replies.Refusal.TheVariants.{NoFollower, NotSettled}
use Rattle.ccr_model.specs.Outcomes.{Outcome, refused, answered, guarded}
use Rattle.ccr_model.specs.Copies.{Copy, Replica, Copies, all_copies, copy_of, replica_of, not_ready}
use Rattle.ccr_model.specs.Tasks.{is_active}
use Rattle.ccr_model.specs.Operations.{is_empty}
use Rattle.ccr_model.specs.Leaders.{Start}
use Rattle.ccr_model.specs.Followers.{Follower, Work, restoring, replicating, phase_of_work}
use Rattle.ccr_model.specs.World.{State, start_state, search_row}
use Rattle.ccr_model.specs.Searches.{search_of}
use Rattle.ccr_model.specs.Fit.{IsFitEvent}
use Rattle.ccr_model.specs.CopyFacts.{IsLineCopy}
use Rattle.ccr_model.specs.Settled.{is_whole, is_follower_settled, is_settled}
use Rattle.ccr_model.specs.Step.{step, picks_in, outcome_at, state_after, IsLegal}
use Rattle.ccr_model.specs.Past.{Line, Past, FollowerPast, line_of}
use Rattle.ccr_law_base.specs.Events.{IsLegalAt}
use Rattle.ccr_law_base.proofs.Lists.{All-both, All-find, All-map, All-map_back, All-at, All-weaker, All-append_front, find_none, some_equal}
use Rattle.ccr_law_base.proofs.Journals.{legal-front}
use Rattle.ccr_law_copies.specs.Cores.{IsReplica}
use Rattle.ccr_law_copies.proofs.LeaderEvents.{core_primary_copy, core_replica}
use Rattle.ccr_law_leases.proofs.Finding.{All-pass}
use Rattle.ccr_law_stores.specs.SearchPlaces.{HoldsForLeader, HoldsForFollower, AreSearchable}
use Rattle.ccr_law_stores.proofs.SearchPlaces.{searched_of}
use Rattle.ccr_law.specs.Parts.{IsWhole}
use Rattle.ccr_law.proofs.Whole.{whole-searchable}
use Rattle.ccr_law_reached.specs.Reached.{IsPossible}
use Rattle.ccr_law_settled.specs.WhenSettled.{AnswersAt, AnswersWhole, stays_settled, ends_settled}
use Rattle.ccr_law_settled.proofs.WholeCopies.{SearchesAll, leader_copy_all, follower_copy_all}

-- ---- what is settled

-- the parts of the test
pub record IsSettledState (s : State) : Type 0 where
  pub ready : is_none (not_ready s.leader.copies) ≡ true
  pub whole : list_all (is_whole s.leader.copies.primary.seen.count) (all_copies s.leader.copies) ≡ true
  pub followers : list_all (is_follower_settled s.leader.history s.leader.copies.primary.seen.count) s.followers ≡ true

pub settled_parts : (s : State) → is_settled s ≡ true → IsSettledState s
settled_parts s settled =
    let count : ℕ = s.leader.copies.primary.seen.count in
    let all : Bool = list_all (is_whole count) (all_copies s.leader.copies) in
    let rest : Bool = list_all (is_follower_settled s.leader.history count) s.followers in
    let most = and_parts (is_none (not_ready s.leader.copies) && all && is_empty s.flight) rest settled in
    let copies = and_parts (is_none (not_ready s.leader.copies)) all (and_parts (is_none (not_ready s.leader.copies) && all) (is_empty s.flight) most.0).0 in
    record { ready = copies.0; whole = copies.1; followers = most.1 }

-- each replica was resynced and acked
pub all_ready : (s : Copies) → is_none (not_ready s) ≡ true → AllByRecursion (λ (r : Replica). (r.resynced && r.acked) ≡ true) s.replicas
all_ready s none =
    All-weaker (λ (r : Replica). not (r.resynced && r.acked) ≡ false) (λ (r : Replica). (r.resynced && r.acked) ≡ true)
    (λ r isnt. not-false (r.resynced && r.acked) isnt) s.replicas
    (find_none (λ (r : Replica). not (r.resynced && r.acked)) s.replicas (by_found (find (λ (r : Replica). not (r.resynced && r.acked)) s.replicas) refl))
  where
    by_found : (o : Option Replica) → find (λ (r : Replica). not (r.resynced && r.acked)) s.replicas ≡ o → o ≡ None
    by_found None is = refl
    by_found (Some r) is = absurd cc

pub whole_global : (count : ℕ) (c : Copy) → is_whole count c ≡ true → c.global ≡ count
whole_global count c whole = eqb-true c.global count (and_parts (nat_le count c.seen.count) (c.global == count) whole).1

-- what holds of all copies holds of the copy of a number
copy_at : (P : Copy → Type 0) (s : Copies) (copy : ℕ) (c : Copy) → AllByRecursion P (all_copies s) → copy_of s copy ≡ Some c → P c
copy_at P s copy c all is = by_test (s.primary.number == copy) is
  where
    by_found : (o : Option Replica) → replica_of s copy ≡ o → option_map {T = Replica} {U = Copy} (λ r. r.copy) o ≡ Some c → P c
    by_found None found at = absurd cc
    by_found (Some r) found at =
        subst P (some_equal r.copy c at)
        (All-find (λ (x : Replica). P x.copy) (λ (x : Replica). x.copy.number == copy) s.replicas r (All-map_back P (λ (x : Replica). x.copy) s.replicas all.1) found).0

    by_test : (b : Bool) → (if b then Some s.primary else option_map {T = Replica} {U = Copy} (λ r. r.copy) (replica_of s copy)) ≡ Some c → P c
    by_test true at = subst P (some_equal s.primary c at) all.0
    by_test false at = by_found (replica_of s copy) refl at

-- ---- the leader's copies

leader_all : (p : Past) → AreSearchable p → IsSettledState p.state → AllByRecursion (SearchesAll p.line.ops) (all_copies p.state.leader.copies)
leader_all p ready settled = (
  leader_copy_all p.line (p.given s.primary.number) s.primary (core_primary_copy p.line (p.given s.primary.number) s.primary ready.core.rest.primary) ready.leader.0.0
      (subst IsCanonical (sym ready.core.rest.primary.gapless) tt) (λ n op e. ready.core.rest.primary.numbered n op (sym (ready.core.rest.primary.given n) ∙ e)) ready.leader.0.1
      (whole_global s.primary.seen.count s.primary whole.0 ∙ count),
  All-map (SearchesAll p.line.ops) (λ (r : Replica). r.copy) s.replicas
      (All-weaker (λ (r : Replica). (IsReplica p.line s.primary.number s.next (p.given r.copy.number) r × HoldsForLeader p.given r.copy) × (((r.resynced && r.acked) ≡ true) × (is_whole s.primary.seen.count r.copy ≡ true)))
      (λ (r : Replica). SearchesAll p.line.ops r.copy)
      (λ r all. leader_copy_all p.line (p.given r.copy.number) r.copy
      (subst (λ (b : Bool). IsLineCopy p.line (p.given r.copy.number) b r.copy) (and_parts r.resynced r.acked all.1.0).0 (core_replica p.line s.primary.number s.next (p.given r.copy.number) r all.0.0))
      all.0.1.0 all.0.0.ordered all.0.0.numbered all.0.1.1 (whole_global s.primary.seen.count r.copy all.1.1 ∙ count)) s.replicas
      (All-both (λ (r : Replica). IsReplica p.line s.primary.number s.next (p.given r.copy.number) r × HoldsForLeader p.given r.copy)
      (λ (r : Replica). ((r.resynced && r.acked) ≡ true) × (is_whole s.primary.seen.count r.copy ≡ true)) s.replicas
      (All-both (λ (r : Replica). IsReplica p.line s.primary.number s.next (p.given r.copy.number) r) (λ (r : Replica). HoldsForLeader p.given r.copy) s.replicas
      ready.core.rest.replicas_ok (All-map_back (HoldsForLeader p.given) (λ (r : Replica). r.copy) s.replicas ready.leader.1))
      (All-both (λ (r : Replica). (r.resynced && r.acked) ≡ true) (λ (r : Replica). is_whole s.primary.seen.count r.copy ≡ true) s.replicas
      (all_ready s settled.ready) (All-map_back (λ (c : Copy). is_whole s.primary.seen.count c ≡ true) (λ (r : Replica). r.copy) s.replicas whole.1)))),
)
  where
    s : Copies
    s = p.state.leader.copies

    count : s.primary.seen.count ≡ length p.line.ops
    count = ap (λ (n : Numbers). n.count) ready.core.rest.primary.gapless

    whole : AllByRecursion (λ (c : Copy). is_whole s.primary.seen.count c ≡ true) (all_copies s)
    whole = All-pass (is_whole s.primary.seen.count) (all_copies s) settled.whole

-- ---- a follower's copies

-- an active follower that is settled has the leader's history, and whole copies
abbrev work_settled : (history : List ℕ) (count : ℕ) (f : Follower) → Work → Bool
work_settled history count f work = elim work as (λ _. Bool) [
  | restoring r ↦ false
  | replicating t ↦ is_empty t.buffer && is_empty t.writes && (not (is_active t.phase) || (bytes_eq f.history history && list_all (is_whole count) (all_copies f.copies)))
]

active_settled : (history : List ℕ) (count : ℕ) (f : Follower) (work : Work) → f.work ≡ work → phase_of_work work ≡ phases.Active → is_follower_settled history count f ≡ true
    → (bytes_eq f.history history && list_all (is_whole count) (all_copies f.copies)) ≡ true
active_settled history count f (restoring r) is active settled = let never : false ≡ true = subst (λ (w : Work). work_settled history count f w ≡ true) is settled in absurd cc
active_settled history count f (replicating t) is active settled =
    let mine : Bool = bytes_eq f.history history && list_all (is_whole count) (all_copies f.copies) in
    let last : (not (is_active t.phase) || mine) ≡ true
    = (and_parts (is_empty t.buffer && is_empty t.writes) (not (is_active t.phase) || mine) (subst (λ (w : Work). work_settled history count f w ≡ true) is settled)).1 in
    subst (λ (b : Bool). (not b || mine) ≡ true) (ap is_active active) last

follower_all : (p : Past) (f : ℕ) (own : Follower) → AreSearchable p → IsSettledState p.state → slice_get p.state.followers f ≡ Some own → phase_of_work own.work ≡ phases.Active
    → AllByRecursion (SearchesAll p.line.ops) (all_copies own.copies)
follower_all p f own ready settled at active =
    All-weaker (λ (c : Copy). HoldsForFollower p.line past.given past.restored c × (is_whole count c ≡ true)) (SearchesAll p.line.ops)
    (λ c both. follower_copy_all p.line past.given past.restored c both.0.0 both.0.1 both.0.2 (whole_global count c both.1 ∙ counted)) (all_copies own.copies)
    (All-both (HoldsForFollower p.line past.given past.restored) (λ (c : Copy). is_whole count c ≡ true) (all_copies own.copies)
    (subst (λ (line : Line). AllByRecursion (HoldsForFollower line past.given past.restored) (all_copies own.copies)) line_is (ready.followers f own at))
    (All-pass (is_whole count) (all_copies own.copies) parts.1))
  where
    past : FollowerPast
    past = p.followers f

    count : ℕ
    count = p.state.leader.copies.primary.seen.count

    counted : count ≡ length p.line.ops
    counted = ap (λ (n : Numbers). n.count) ready.core.rest.primary.gapless

    parts : (bytes_eq own.history p.state.leader.history ≡ true) × (list_all (is_whole count) (all_copies own.copies) ≡ true)
    parts =
        and_parts (bytes_eq own.history p.state.leader.history) (list_all (is_whole count) (all_copies own.copies))
        (active_settled p.state.leader.history count own own.work refl active
        (All-at (λ (x : Follower). is_follower_settled p.state.leader.history count x ≡ true) p.state.followers f own
        (All-pass (is_follower_settled p.state.leader.history count) p.state.followers settled.followers) at))

    line_is : line_of p own.history ≡ p.line
    line_is = ap (λ (b : Bool). if b then p.line else p.ended own.history) parts.0

-- ---- a search

-- of the copy that is found
searched : (s : State) (ops : List Operation) (copies : Copies) (copy : ℕ) (query : Tree) (keys : List SortKey) (found : Option Copy) → copy_of copies copy ≡ found
    → AllByRecursion (SearchesAll ops) (all_copies copies) → AnswersAt ops query keys copy found (search_row s copy query keys found).reply
unfolding search_row
searched s ops copies copy query keys None is all = refl
searched s ops copies copy query keys (Some c) is all = (search_of c query keys, refl, copy_at (SearchesAll ops) copies copy c all is query keys)

at_follower_found : (p : Past) → AreSearchable p → IsSettledState p.state → (f copy : ℕ) (query : Tree) (keys : List SortKey) (found : Option Follower) → slice_get p.state.followers f ≡ found
    → IfSome found (λ own. phase_of_work own.work ≡ phases.Active → AnswersAt p.line.ops query keys copy (copy_of own.copies copy) (searched_of p.state f copy query keys found))
at_follower_found p ready settled f copy query keys None at = tt
at_follower_found p ready settled f copy query keys (Some own) at =
    λ active. searched p.state p.line.ops own.copies copy query keys (copy_of own.copies copy) refl (follower_all p f own ready settled at active)

answered_whole : (p : Past) → AreSearchable p → IsSettledState p.state → (event : Event) (picks : List ℕ) → AnswersWhole p.state p.line.ops event (step p.state event picks).reply
answered_whole p ready settled (events.Search sides.Leader copy request) picks =
    searched p.state p.line.ops p.state.leader.copies copy request.query request.sort (copy_of p.state.leader.copies copy) refl (leader_all p ready settled)
answered_whole p ready settled (events.Search (sides.Follower f) copy request) picks =
    at_follower_found p ready settled f copy request.query request.sort (slice_get p.state.followers f) refl
answered_whole p ready settled _ picks = tt

pub settled_searches : (p : Past) → IsWhole p → is_settled p.state ≡ true → (entry : Entry) → IsLegalAt p entry → AnswersWhole p.state p.line.ops entry.event entry.reply
settled_searches p now settled entry legal =
    subst (AnswersWhole p.state p.line.ops entry.event) (sym legal) (answered_whole p (whole-searchable p now) (settled_parts p.state settled) entry.event (picks_in entry.reply))

-- ---- a settle, and the searches after it

-- a settle is answered so in a settled world alone, and changes nothing
settle_says : (s : State) (settled b : Bool) → is_settled s ≡ b → stays_settled settled events.Settle (guarded s ((not b, NotSettled) ∷ []) (answered replies.Settled s)).reply ≡ true
    → is_settled (guarded s ((not b, NotSettled) ∷ []) (answered replies.Settled s)).next ≡ true
unfolding guarded
settle_says s settled true is now = is
settle_says s settled false is now = absurd cc

-- nor does a search
search_leaves : (s : State) (copy : ℕ) (query : Tree) (keys : List SortKey) (found : Option Copy) → is_settled s ≡ true → is_settled (search_row s copy query keys found).next ≡ true
unfolding search_row
search_leaves s copy query keys None is = is
search_leaves s copy query keys (Some c) is = is

follower_search_leaves : (s : State) (f copy : ℕ) (query : Tree) (keys : List SortKey) (found : Option Follower) → is_settled s ≡ true
    → is_settled ((elim found as (λ _. Outcome State) [ None ↦ refused s (NoFollower f) | Some follower ↦ search_row s copy query keys (copy_of follower.copies copy) ]).next) ≡ true
follower_search_leaves s f copy query keys None is = is
follower_search_leaves s f copy query keys (Some own) is = search_leaves s copy query keys (copy_of own.copies copy) is

stays_rightly : (s : State) (event : Event) (picks : List ℕ) (settled : Bool) → (settled ≡ true → is_settled s ≡ true)
    → stays_settled settled event (step s event picks).reply ≡ true → is_settled (step s event picks).next ≡ true
stays_rightly s events.Settle picks settled was now = settle_says s settled (is_settled s) refl now
stays_rightly s (events.Search sides.Leader copy request) picks settled was now = search_leaves s copy request.query request.sort (copy_of s.leader.copies copy) (was now)
stays_rightly s (events.Search (sides.Follower f) copy request) picks settled was now = follower_search_leaves s f copy request.query request.sort (slice_get s.followers f) (was now)
stays_rightly s _ picks settled was now = absurd cc

pub ends_rightly : (s : State) (entries : List Entry) (settled : Bool) → IsLegal s entries → (settled ≡ true → is_settled s ≡ true) → ends_settled settled entries ≡ true
    → is_settled (state_after s entries) ≡ true
ends_rightly s [] settled legal was now = was now
ends_rightly s (entry ∷ entries) settled legal was now =
    ends_rightly (outcome_at s entry).next entries (stays_settled settled entry.event entry.reply) legal.1
    (λ stays. stays_rightly s entry.event (picks_in entry.reply) settled was (subst (λ (reply : Reply). stays_settled settled entry.event reply ≡ true) legal.0 stays)) now

-- ---- a front of a possible journal

length_front : (front back : List Entry) → length front ≤ length (front ++ back)
length_front [] back = omega arith
length_front (entry ∷ front) back = let less : length front ≤ length (front ++ back) = length_front front back in omega arith

pub possible_front : (start : Start) (front back : List Entry) → IsPossible start (front ++ back) → IsPossible start front
possible_front start front back possible = record {
  count = possible.count;
  fit = record {
    events = All-append_front (λ (entry : Entry). IsFitEvent entry.event) front back possible.fit.events;
    few =
        let few : length (front ++ back) < 2 ^ 32 = possible.fit.few in
        let less : length front ≤ length (front ++ back) = length_front front back in
        omega arith;
  };
  legal = legal-front (start_state start) front back possible.legal;
}
