-- A whole world: what each group says holds at the start and is kept by each fit event, and what follows.
use Rattle.std.specs.List.{AllByRecursion}
use Rattle.std.specs.Prelude.{slice_get}
use Rattle.std.proofs.Common.{◌≡◌, ℕ, ◌+◌, ◌≤◌, ◌<◌, ◌^◌, List, Some, sym, subst, arith}
use Rattle.ccr_journal.specs.Params.{IsCopyCount}
use Rattle.ccr_journal.specs.declared.events.Event.{Event}
use Rattle.ccr_journal.specs.declared.events.Event.TheVariants as events
use Rattle.ccr_journal.specs.declared.journals.Entry.{Entry}
use Rattle.ccr_journal.specs.declared.replies.Reply.{Reply}
use Rattle.ccr_model.specs.Fit.{IsFitEvent}
use Rattle.ccr_model.specs.Stores.{held}
use Rattle.ccr_model.specs.Copies.{all_copies}
use Rattle.ccr_model.specs.Leaders.{Start}
use Rattle.ccr_model.specs.Followers.{Follower}
use Rattle.ccr_model.specs.Step.{step, picks_in}
use Rattle.ccr_model.specs.Past.{Line, Past, start_past, past_after, line_of}
use Rattle.ccr_model.specs.Invariants.{IsTrueFollower, Invariant}
use Rattle.ccr_model.specs.Headline.{KeepsFollower, HoldsAt, StopsTruly, AsksNew, IgnoresRightly, HoldsOf}
use Rattle.ccr_law_base.specs.Events.{past_by, IsLegalAt}
use Rattle.ccr_law_base.proofs.Journals.{after_legal}
use Rattle.ccr_law_base.proofs.Ascending.{ascend-start, ascend-keeps}
use Rattle.ccr_law_base.proofs.Refusals.{refuses-quietly}
use Rattle.ccr_law_copies.specs.Cores.{HasOnward, IsFront}
use Rattle.ccr_law_copies.proofs.LeaderEvents.{take_of_front}
use Rattle.ccr_law_copies.proofs.HistorySays.{follower_not_next}
use Rattle.ccr_law_leases.proofs.Says.{merges-safely}
use Rattle.ccr_law_stores.proofs.Counting.{count_is}
use Rattle.ccr_law_stores.specs.SearchPlaces.{HoldsForFollower, AreSearchable}
use Rattle.ccr_law_stores.proofs.SearchPlaces.{at_places}
use Rattle.ccr_law_stores.proofs.SpelledSays.{small-session}
use Rattle.ccr_law_tasks.specs.FollowerLaws.{IsTaskAsStated}
use Rattle.ccr_law_tasks.specs.GoodTask.{IsLater}
use Rattle.ccr_law_tasks.proofs.Group.{tasks-start, tasks-keep, tasks-say}
use Rattle.ccr_law_tasks.proofs.Within.{replies-within}
use Rattle.ccr_law_tasks.proofs.NewAsks.{asks-new}
use Rattle.ccr_law_messages.specs.Serving.{HasGoodParams}
use Rattle.ccr_law_messages.proofs.Events.{frames-start, frames-keep}
use Rattle.ccr_law_followers.specs.TrueCopies.{IsTrueCopyGroup}
use Rattle.ccr_law_followers.specs.CopyLaws.{HasTrueFollowers}
use Rattle.ccr_law_followers.proofs.One.{copy-says}
use Rattle.ccr_law_followers.proofs.Says.{All-copies}
use Rattle.ccr_law_followers.proofs.Group.{group-start, group-keeps, group-rises, group-says, group-holds}
use Rattle.ccr_law_followers.proofs.MergesLeased.{keeps-leased}
use Rattle.ccr_law_settling_grounds.proofs.Purpose.Events.{purposes_start, purposes_keep}
use Rattle.ccr_law_settling_grounds.proofs.Purpose.Ignoring.{ignores-rightly}
use Rattle.ccr_law_retention.specs.Grounds.{SaysRetained}
use Rattle.ccr_law_retention.proofs.Events.{retaining-start, retaining-keeps}
use Rattle.ccr_law_retention.proofs.Says.{retaining-says}
use Rattle.ccr_law_retention.proofs.Stopping.{stops-truly}
use Rattle.ccr_law.specs.Parts.{IsWhole}
use Rattle.ccr_law.proofs.Walks.{IsKept}
use Rattle.ccr_law.proofs.Epochs.{old_epoch_of}
use Rattle.ccr_law.proofs.Leading.{leading-start, leading-keeps, leading-onward, true_leader, leading-retains, leading-searchable}
use Rattle.ccr_law.proofs.Grounds.{framing, ground_of, grounds, counts-rise}

good-params : (event : Event) → IsFitEvent event → HasGoodParams event
good-params (events.Follow params copies name) fit = fit.0
good-params _ fit = tt

-- what was committed of each line stays
later-lines : (p next : Past) → HasOnward p next → (history : List ℕ) → IsLater (line_of p history) (line_of next history)
later-lines p next onward history = later (line_of p history) (line_of next history) (onward history)
  where
    later : (line next : Line) → IsFront line next → IsLater line next
    later line next front = record { cut = front.cut; prefix = take_of_front line next front }

-- ---- the start, and each event

pub whole-start : (start : Start) → IsCopyCount start.copies → IsWhole (start_past start)
whole-start start count = record {
  leading = leading-start start count;
  order = ascend-start start;
  purposes = purposes_start start;
  frames = frames-start start;
  tasks = tasks-start start count;
  followers = group-start start;
  retaining = retaining-start start count;
}

pub whole-keeps : IsKept IsWhole
whole-keeps p event picks fit short now =
    let onward : HasOnward p (past_by p event picks) = leading-onward p event picks short now.leading in
    record {
      leading = leading-keeps p event picks fit short now.leading;
      order = ascend-keeps p.state event picks now.order;
      purposes = purposes_keep p event picks now.frames now.purposes;
      frames = frames-keep p event picks onward now.leading.core now.leading.stores (small-session p now.leading.core now.leading.stores now.leading.small (omega arith)) (good-params event fit)
          now.frames;
      tasks = tasks-keep p event picks (later-lines p (past_by p event picks) onward) (framing p now).truth fit now.tasks;
      followers = group-keeps p event picks (ground_of p now) onward fit now.followers;
      retaining = retaining-keeps p event picks (grounds p now) (follower_not_next p short now.leading.histories) (counts-rise p event picks fit now) now.retaining;
    }

-- ---- what follows at a place

pub whole-true : (p : Past) → IsWhole p → Invariant p
whole-true p now = record {
  order = now.order;
  leader = true_leader p now.leading;
  frames = (framing p now).truth;
  followers = λ f s at. true_follower f s (group-says p now.followers f s at) (tasks-say p now.tasks f s at) (retaining-says p (grounds p now) now.retaining f s at);
}
  where
    true_follower : (f : ℕ) (s : Follower) → IsTrueCopyGroup p f s → IsTaskAsStated p f s → SaysRetained p f s → IsTrueFollower p f s
    true_follower f s copies task lease = record { copies = copies.copies; work = task.truth; retained = lease.retained; missing = lease.missing }

pub whole-holds : (p : Past) → IsWhole p → HoldsAt p
whole-holds p now = record {
  committed = group-holds p now.followers;
  retention = leading-retains p now.leading;
  followers = λ f s at. follower_holds f s (group-says p now.followers f s at) (tasks-say p now.tasks f s at);
}
  where
    follower_holds : (f : ℕ) (s : Follower) → IsTrueCopyGroup p f s → IsTaskAsStated p f s → KeepsFollower p f s
    follower_holds f s copies task = record { epochs = task.once; written = copies.written; bounds = task.bounds }

-- ---- searches

searchable_copies : (p : Past) (f : ℕ) (s : Follower) → HasTrueFollowers p → slice_get p.state.followers f ≡ Some s
    → AllByRecursion (HoldsForFollower (line_of p s.history) (p.followers f).given (p.followers f).restored) (all_copies s.copies)
searchable_copies p f s ok at =
    let own = p.followers f in
    let line : Line = line_of p s.history in
    All-copies (HoldsForFollower line own.given own.restored) line own.given own.restored own.written s.copies
    (λ c is. (copy-says line own.given own.restored own.written s.copies.next c is, is.ordered, λ n. subst (λ (k : ℕ). k ≤ 1) (sym (count_is n (held c.store))) (is.store.once n)))
    (ok.copies.made f s at).copies

pub whole-searchable : (p : Past) → IsWhole p → AreSearchable p
whole-searchable p now = record {
  core = now.leading.core;
  leader = leading-searchable p now.leading;
  followers = λ f s at. searchable_copies p f s now.followers at;
}

-- ---- what follows of an entry

-- a request asks for no number again that was received in the epoch
asks-anew : (p : Past) (event : Event) (picks : List ℕ) → IsFitEvent event → p.place + 1 < 2 ^ 32 → IsWhole p → AsksNew p (past_by p event picks) (step p.state event picks).sent
asks-anew p event picks fit short now =
    let next : IsWhole (past_by p event picks) = whole-keeps p event picks fit short now in
    asks-new p event picks (later-lines p (past_by p event picks) (leading-onward p event picks short now.leading)) (framing p now).truth now.tasks
    (framing (past_by p event picks) next).truth next.tasks

pub whole-tells : (p : Past) (entry : Entry) → IsFitEvent entry.event → IsLegalAt p entry → p.place + 1 < 2 ^ 32 → IsWhole p → HoldsOf p (past_after p entry) entry
whole-tells p entry fit legal short now = record {
  prefix = λ history. take_of_front (line_of p history) (line_of (past_after p entry) history)
      (after_legal (HasOnward p) p entry legal (leading-onward p entry.event (picks_in entry.reply) short now.leading) history);
  search = at_places p (whole-searchable p now) entry legal;
  merge = merges-safely p entry.event entry.reply;
  leased = keeps-leased p entry.event (picks_in entry.reply) now.leading.stores now.followers;
  stop = subst (λ (reply : Reply). StopsTruly p entry.event reply) (sym legal) (stops-truly p entry.event (picks_in entry.reply) now.retaining);
  epoch = old_epoch_of p entry legal;
  asks = after_legal (λ (after : Past). AsksNew p after (step p.state entry.event (picks_in entry.reply)).sent) p entry legal
      (asks-anew p entry.event (picks_in entry.reply) fit short now);
  rise = group-rises p entry.event (picks_in entry.reply) (ground_of p now) fit now.followers;
  replies = replies-within p entry.event (picks_in entry.reply) (framing p now).truth;
  refused = refuses-quietly p entry legal;
  ignored = subst (λ (reply : Reply). IgnoresRightly p.state entry.event reply) (sym legal) (ignores-rightly p.state entry.event (picks_in entry.reply) now.purposes);
}
