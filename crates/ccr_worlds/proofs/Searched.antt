-- What a search finds stands in order.
use Rattle.std.specs.Prelude.{Result, Ok, Err, IfOk}
use Rattle.std.specs.declared.alloc.AllocError.{AllocError}
use Rattle.std.proofs.Common.{◌≡◌, ℕ, Bool, true, false, ◌<◌, ◌^◌, Option, Some, None, slice_get, List, [], ◌∷◌, ◌++◌, length, filter, refl, sym, ap, subst, arith}
use Rattle.std.proofs.lemmas.List.{length-append}
use Rattle.ccr_query.specs.Queries.{Tree, holds}
use Rattle.ccr_query.specs.Answers.{HitsOfShard}
use Rattle.ccr_query.specs.declared.sorting.SortKey.{SortKey}
use Rattle.ccr_query.specs.declared.answers.Hit.{Hit}
use Rattle.ccr_journal.specs.declared.sides.Side.TheVariants as sides
use Rattle.ccr_journal.specs.declared.events.Event.{Event}
use Rattle.ccr_journal.specs.declared.events.Event.TheVariants as events
use Rattle.ccr_journal.specs.declared.journals.Entry.{Entry}
use Rattle.ccr_journal.specs.declared.replies.Reply.{Reply}
use Rattle.ccr_journal.specs.declared.replies.Reply.TheVariants as replies
use Rattle.ccr_journal.specs.declared.replies.Refusal.TheVariants.{NoFollower}
use Rattle.ccr_model.specs.Answers.{AreInOrder}
use Rattle.ccr_model.specs.Copies.{Copy, copy_of}
use Rattle.ccr_model.specs.Fit.{IsFitEvent, AreFit}
use Rattle.ccr_model.specs.Followers.{Follower}
use Rattle.ccr_model.specs.Leaders.{Start}
use Rattle.ccr_model.specs.Outcomes.{Outcome, refused}
use Rattle.ccr_model.specs.Searches.{fields_of_hit, live_hits, search_of}
use Rattle.ccr_model.specs.Stores.{held}
use Rattle.ccr_model.specs.World.{State, start_state, search_row}
use Rattle.ccr_model.specs.Step.{step, picks_in, state_after}
use Rattle.ccr_law_base.proofs.Journals.{legal-front}
use Rattle.ccr_law_base.proofs.Lists.{All-append_front}
use Rattle.ccr_law_stores.specs.Searchable.{HoldsOnce}
use Rattle.ccr_law_stores.proofs.SearchLives.{live_apart, apart-filter}
use Rattle.ccr_law_stores.proofs.SearchSorts.{ordered_hits}
use Rattle.ccr_law_reached.specs.Reached.{IsPossible, IsReached, HoldsNumbersOnce}
use Rattle.ccr_law_reached.proofs.InReached.{held_once_at}
use Rattle.ccr_shard_world.specs.Recorded.{Recorded, state_of, IsReplyTo}
use Rattle.ccr_deeds.specs.Deeds.{IsOrderedFor}

-- ---- one copy

search_in_order : (c : Copy) (query : Tree) (keys : List SortKey) → HoldsOnce c → AreInOrder keys (search_of c query keys).hits
search_in_order c query keys once =
    ordered_hits keys (filter (λ (hit : Hit). holds query (fields_of_hit hit)) (live_hits (held c.store)))
    (apart-filter (λ (hit : Hit). holds query (fields_of_hit hit)) (live_hits (held c.store)) (live_apart (held c.store) once))

found_in_order : (s : State) (copy : ℕ) (query : Tree) (keys : List SortKey) (found : Option Copy) (answer : HitsOfShard) → ((c : Copy) → found ≡ Some c → HoldsOnce c)
    → replies.Found answer ≡ (search_row s copy query keys found).reply → AreInOrder keys answer.hits
unfolding search_row
found_in_order s copy query keys None answer once is = absurd cc
found_in_order s copy query keys (Some c) answer once is =
    let same : answer ≡ search_of c query keys = cc in
    subst (λ (a : HitsOfShard). AreInOrder keys a.hits) (sym same) (search_in_order c query keys (once c refl))

at_follower : (s : State) (f copy : ℕ) (query : Tree) (keys : List SortKey) (found : Option Follower) (answer : HitsOfShard)
    → ((own : Follower) (c : Copy) → found ≡ Some own → copy_of own.copies copy ≡ Some c → HoldsOnce c)
    → replies.Found answer ≡ (elim found as (λ _. Outcome State) [ None ↦ refused s (NoFollower f) | Some follower ↦ search_row s copy query keys (copy_of follower.copies copy) ]).reply
    → AreInOrder keys answer.hits
at_follower s f copy query keys None answer once is = absurd cc
at_follower s f copy query keys (Some own) answer once is = found_in_order s copy query keys (copy_of own.copies copy) answer (λ c. once own c refl) is

-- ---- one event

ordered_for : (s : State) (event : Event) (reply : Reply) → HoldsNumbersOnce s → IsReplyTo s event reply → IsOrderedFor event reply
ordered_for s (events.Search sides.Leader copy request) (replies.Found answer) once is =
    found_in_order s copy request.query request.sort (copy_of s.leader.copies copy) answer (once.leader copy) is
ordered_for s (events.Search (sides.Follower f) copy request) (replies.Found answer) once is =
    at_follower s f copy request.query request.sort (slice_get s.followers f) answer (λ own c. once.followers f copy own c) is
ordered_for s (events.Search side copy request) _ once is = tt
ordered_for s _ reply once is = tt

-- ---- as the calls use it

possible_front : (start : Start) (entries : List Entry) (entry : Entry) → IsPossible start (entries ++ entry ∷ []) → IsPossible start entries
possible_front start entries entry p = record {
  count = p.count;
  fit = record {
    events = All-append_front (λ (e : Entry). IsFitEvent e.event) entries (entry ∷ []) p.fit.events;
    few = let len = length-append entries (entry ∷ []) in let low = p.fit.few in omega arith;
  };
  legal = legal-front (start_state start) entries (entry ∷ []) p.legal;
}

-- where an event was entered after a possible journal, what a search found is in order
pub found_ordered : (old new : Recorded) (event : Event) (r : Result Reply AllocError) → IsPossible new.start new.journal
    → IfOk r (λ reply. new ≡ record old { journal = old.journal ++ record { event = event; reply = reply } ∷ [] })
    → IfOk r (λ reply. IsReplyTo (state_of old) event reply) → IfOk r (λ reply. IsOrderedFor event reply)
found_ordered old new event (Err why) possible grew is = tt
found_ordered old new event (Ok reply) possible grew is =
    let now : IsPossible old.start (old.journal ++ record { event = event; reply = reply } ∷ []) = subst (λ (x : Recorded). IsPossible x.start x.journal) grew possible in
    ordered_for (state_of old) event reply
    (held_once_at (state_of old) (record {
      start = old.start;
      entries = old.journal;
      possible = possible_front old.start old.journal (record { event = event; reply = reply }) now;
      is = refl;
    })) is
