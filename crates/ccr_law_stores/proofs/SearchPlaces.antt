-- Each search of a journal is answered truly.
use Rattle.std.specs.List.{AllByRecursion}
use Rattle.std.specs.Option.{option_map, option_map_or}
use Rattle.std.proofs.Common.{◌≡◌, inl, inr, ℕ, ◌==◌, true, false, Option, Some, None, IfSome, List, slice_get, refl, sym, ◌∙◌, subst}
use Rattle.ccr_op.specs.Operation.{Operation}
use Rattle.ccr_tracker.specs.Numbers.{IsCanonical}
use Rattle.ccr_query.specs.Answers.{HitsOfShard}
use Rattle.ccr_query.specs.Queries.{Tree}
use Rattle.ccr_query.specs.declared.sorting.SortKey.{SortKey}
use Rattle.ccr_journal.specs.declared.sides.Side.TheVariants as sides
use Rattle.ccr_journal.specs.declared.events.Event.{Event}
use Rattle.ccr_journal.specs.declared.events.Event.TheVariants as events
use Rattle.ccr_journal.specs.declared.replies.Reply.{Reply}
use Rattle.ccr_journal.specs.declared.replies.Refusal.TheVariants.{NoFollower}
use Rattle.ccr_model.specs.Outcomes.{Outcome, refused}
use Rattle.ccr_model.specs.Copies.{Copy, Replica, Copies, all_copies, copy_of, replica_of}
use Rattle.ccr_model.specs.Searches.{search_of}
use Rattle.ccr_model.specs.Followers.{Follower}
use Rattle.ccr_model.specs.World.{State, search_row}
use Rattle.ccr_model.specs.Step.{step, picks_in}
use Rattle.ccr_model.specs.Past.{Line, Past, line_of}
use Rattle.ccr_model.specs.Headline.{AnswersBy, IsResynced, AnswersTruly}
use Rattle.ccr_law_base.proofs.Cases.{on_if}
use Rattle.ccr_law_copies.specs.Cores.{IsReplica, CoreOf}
use Rattle.ccr_law_copies.proofs.LeaderEvents.{core_primary_copy, core_replica, living}
use Rattle.ccr_law_base.proofs.Lists.{All-find, All-map_back, All-both}
use Rattle.ccr_law_stores.specs.Searchable.{AreNumbered}
use Rattle.ccr_law_stores.specs.SearchPlaces.{HoldsForLeader, HoldsForFollower, AreSearchable, AnswersAtPlaces}
use Rattle.ccr_law_stores.proofs.SearchSays.{leader_answers, follower_answers}
use Rattle.std.proofs.lemmas.Bool.{eqb-true}
use Rattle.ccr_law_base.proofs.Tests.{itself}

-- ---- the leader

-- an answer that counts where one thing holds counts where another does, of which that follows
pub counts_less : (line : Line) (ops : ℕ → Option Operation) (A B : Type 0) (query : Tree) (keys : List SortKey) (answer : HitsOfShard)
    → (B → A) → AnswersBy line ops A query keys answer → AnswersBy line ops B query keys answer
counts_less line ops A B query keys answer follows a = record { by_given = a.by_given; as_history = λ counts. a.as_history (follows counts) }

-- what the leader's copy of a number answers
abbrev pub LeaderSays : Line → (ℕ → ℕ → Option Operation) → Copies → ℕ → Tree → List SortKey → Option Copy → Type 0
LeaderSays line given s copy query keys None = Unit {0}
LeaderSays line given s copy query keys (Some c) = AnswersBy line (given copy) (IsResynced s copy) query keys (search_of c query keys)

primary_says : (line : Line) (given : ℕ → ℕ → Option Operation) (s : Copies) (copy : ℕ) (query : Tree) (keys : List SortKey)
    → CoreOf line given s → HoldsForLeader given s.primary → s.primary.number ≡ copy → LeaderSays line given s copy query keys (Some s.primary)
primary_says line given s copy query keys core holds is =
    subst (λ (k : ℕ). AnswersBy line (given k) (IsResynced s copy) query keys (search_of s.primary query keys)) is
    (counts_less line (given s.primary.number) (true ≡ true) (IsResynced s copy) query keys (search_of s.primary query keys) (λ counts. refl)
    (leader_answers line (given s.primary.number) true s.primary (core_primary_copy line (given s.primary.number) s.primary core.rest.primary) holds.0
    canonical numbered holds.1 query keys))
  where
    canonical : IsCanonical s.primary.seen
    canonical = subst IsCanonical (sym core.rest.primary.gapless) tt

    numbered : AreNumbered (given s.primary.number)
    numbered n op e = core.rest.primary.numbered n op (sym (core.rest.primary.given n) ∙ e)

replica_says : (line : Line) (given : ℕ → ℕ → Option Operation) (s : Copies) (copy : ℕ) (query : Tree) (keys : List SortKey) (r : Replica)
    → IsReplica line s.primary.number s.next (given r.copy.number) r → HoldsForLeader given r.copy → r.copy.number ≡ copy → (IsResynced s copy → r.resynced ≡ true)
    → LeaderSays line given s copy query keys (Some r.copy)
replica_says line given s copy query keys r ok holds is counts =
    subst (λ (k : ℕ). AnswersBy line (given k) (IsResynced s copy) query keys (search_of r.copy query keys)) is
    (counts_less line (given r.copy.number) (r.resynced ≡ true) (IsResynced s copy) query keys (search_of r.copy query keys) counts
    (leader_answers line (given r.copy.number) r.resynced r.copy (core_replica line s.primary.number s.next (given r.copy.number) r ok) holds.0
    ok.ordered ok.numbered holds.1 query keys))

-- of a replica, what it has from each group
abbrev pub HasBoth : Line → (ℕ → ℕ → Option Operation) → Copies → Replica → Type 0
HasBoth line given s r = IsReplica line s.primary.number s.next (given r.copy.number) r × HoldsForLeader given r.copy

found_says : (line : Line) (given : ℕ → ℕ → Option Operation) (s : Copies) (copy : ℕ) (query : Tree) (keys : List SortKey)
    → AllByRecursion (HasBoth line given s) s.replicas → (s.primary.number == copy) ≡ false → (found : Option Replica) → replica_of s copy ≡ found
    → LeaderSays line given s copy query keys (option_map {T = Replica} {U = Copy} (λ r. r.copy) found)
found_says line given s copy query keys all other None is = tt
found_says line given s copy query keys all other (Some r) is =
    let own : HasBoth line given s r × ((r.copy.number == copy) ≡ true) = All-find (HasBoth line given s) (λ (x : Replica). x.copy.number == copy) s.replicas r all is in
    replica_says line given s copy query keys r own.0.0 own.0.1 (eqb-true r.copy.number copy own.1) counts
  where
    counts : IsResynced s copy → r.resynced ≡ true
    counts (inl same) =
        let itself : (copy == copy) ≡ true = itself copy in
        let isnt : (copy == copy) ≡ false = subst (λ (k : ℕ). (k == copy) ≡ false) same other in cc
    counts (inr resynced) = subst (λ (o : Option Replica). option_map_or (λ (x : Replica). x.resynced) o false ≡ true) is resynced

pub leader_says : (line : Line) (given : ℕ → ℕ → Option Operation) (s : Copies) (copy : ℕ) (query : Tree) (keys : List SortKey)
    → CoreOf line given s → AllByRecursion (HoldsForLeader given) (all_copies s) → LeaderSays line given s copy query keys (copy_of s copy)
leader_says line given s copy query keys core holds =
    on_if (LeaderSays line given s copy query keys) (s.primary.number == copy) (Some s.primary) (option_map {T = Replica} {U = Copy} (λ r. r.copy) (replica_of s copy))
    (λ is. primary_says line given s copy query keys core holds.0 (eqb-true s.primary.number copy is))
    (λ isnt. found_says line given s copy query keys
    (All-both (λ (r : Replica). IsReplica line s.primary.number s.next (given r.copy.number) r) (λ (r : Replica). HoldsForLeader given r.copy) s.replicas
    core.rest.replicas_ok (All-map_back (HoldsForLeader given) (λ (r : Replica). r.copy) s.replicas holds.1))
    isnt (replica_of s copy) refl)

-- ---- a follower

abbrev pub FollowerSays : Line → (ℕ → ℕ → Option Operation) → ℕ → Tree → List SortKey → Option Copy → Type 0
FollowerSays line given copy query keys None = Unit {0}
FollowerSays line given copy query keys (Some c) = AnswersBy line (given copy) (Unit {0}) query keys (search_of c query keys)

copy_says : (line : Line) (given : ℕ → ℕ → Option Operation) (restored copy : ℕ) (query : Tree) (keys : List SortKey) (c : Copy)
    → HoldsForFollower line given restored c → c.number ≡ copy → FollowerSays line given copy query keys (Some c)
copy_says line given restored copy query keys c holds is =
    subst (λ (k : ℕ). AnswersBy line (given k) (Unit {0}) query keys (search_of c query keys)) is
    (follower_answers line given restored c holds.0 holds.1 holds.2 query keys)

replica_copy_says : (line : Line) (given : ℕ → ℕ → Option Operation) (restored : ℕ) (s : Copies) (copy : ℕ) (query : Tree) (keys : List SortKey)
    → AllByRecursion (λ (r : Replica). HoldsForFollower line given restored r.copy) s.replicas → (found : Option Replica) → replica_of s copy ≡ found
    → FollowerSays line given copy query keys (option_map {T = Replica} {U = Copy} (λ r. r.copy) found)
replica_copy_says line given restored s copy query keys all None is = tt
replica_copy_says line given restored s copy query keys all (Some r) is =
    let own = All-find (λ (x : Replica). HoldsForFollower line given restored x.copy) (λ (x : Replica). x.copy.number == copy) s.replicas r all is in
    copy_says line given restored copy query keys r.copy own.0 (eqb-true r.copy.number copy own.1)

pub follower_says : (line : Line) (given : ℕ → ℕ → Option Operation) (restored : ℕ) (s : Copies) (copy : ℕ) (query : Tree) (keys : List SortKey)
    → AllByRecursion (HoldsForFollower line given restored) (all_copies s) → FollowerSays line given copy query keys (copy_of s copy)
follower_says line given restored s copy query keys holds =
    on_if (FollowerSays line given copy query keys) (s.primary.number == copy) (Some s.primary) (option_map {T = Replica} {U = Copy} (λ r. r.copy) (replica_of s copy))
    (λ is. copy_says line given restored copy query keys s.primary holds.0 (eqb-true s.primary.number copy is))
    (λ isnt. replica_copy_says line given restored s copy query keys
    (All-map_back (HoldsForFollower line given restored) (λ (r : Replica). r.copy) s.replicas holds.1) (replica_of s copy) refl)

-- ---- an entry

leader_answered : (p : Past) (copy : ℕ) (query : Tree) (keys : List SortKey) (found : Option Copy)
    → LeaderSays p.line p.given p.state.leader.copies copy query keys found
    → AnswersTruly p (events.Search sides.Leader copy (record { query = query; sort = keys })) (search_row p.state copy query keys found).reply
unfolding search_row
leader_answered p copy query keys None says = tt
leader_answered p copy query keys (Some c) says = says

follower_answered : (p : Past) (f copy : ℕ) (query : Tree) (keys : List SortKey) (s : Follower) (found : Option Copy) → slice_get p.state.followers f ≡ Some s
    → FollowerSays (line_of p s.history) (p.followers f).given copy query keys found
    → AnswersTruly p (events.Search (sides.Follower f) copy (record { query = query; sort = keys })) (search_row p.state copy query keys found).reply
unfolding search_row
follower_answered p f copy query keys s None is says = tt
follower_answered p f copy query keys s (Some c) is says =
    subst (λ (o : Option Follower). IfSome o (λ (x : Follower). AnswersBy (line_of p x.history) ((p.followers f).given copy) (Unit {0}) query keys (search_of c query keys))) (sym is) says

-- what a follower's search comes to, where this is the follower of the number
abbrev pub searched_of : State → ℕ → ℕ → Tree → List SortKey → Option Follower → Reply
searched_of s f copy query keys found = (elim found as (λ _. Outcome State) [
  | None ↦ refused s (NoFollower f)
  | Some follower ↦ search_row s copy query keys (copy_of follower.copies copy)
]).reply

at_found : (p : Past) → AreSearchable p → (f copy : ℕ) (query : Tree) (keys : List SortKey) (found : Option Follower) → slice_get p.state.followers f ≡ found
    → AnswersTruly p (events.Search (sides.Follower f) copy (record { query = query; sort = keys })) (searched_of p.state f copy query keys found)
at_found p ready f copy query keys None is = tt
at_found p ready f copy query keys (Some s) is =
    follower_answered p f copy query keys s (copy_of s.copies copy) is
    (follower_says (line_of p s.history) (p.followers f).given (p.followers f).restored s.copies copy query keys (ready.followers f s is))

answered_truly : (p : Past) → AreSearchable p → (event : Event) (picks : List ℕ) → AnswersTruly p event (step p.state event picks).reply
answered_truly p ready (events.Search sides.Leader copy request) picks =
    leader_answered p copy request.query request.sort (copy_of p.state.leader.copies copy) (leader_says p.line p.given p.state.leader.copies copy request.query request.sort (living p ready.core) ready.leader)
answered_truly p ready (events.Search (sides.Follower f) copy request) picks = at_found p ready f copy request.query request.sort (slice_get p.state.followers f) refl
answered_truly p ready _ picks = tt

pub at_places : AnswersAtPlaces
at_places p ready entry legal = subst (AnswersTruly p entry.event) (sym legal) (answered_truly p ready entry.event (picks_in entry.reply))
