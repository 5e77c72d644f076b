-- An event shows the policy what it has to see, and nothing else.
use Rattle.std.specs.Option.{option_map, option_map_or, option_and_then}
use Rattle.std.proofs.Common.{◌≡◌, ℕ, false, Option, Some, None, List, [], ◌∷◌, ◌++◌, slice_get, refl, sym, ◌∙◌, ap, subst}
use Rattle.ccr_policy.specs.declared.PartSize.{PartSize}
use Rattle.ccr_journal.specs.declared.sides.Side.{Side}
use Rattle.ccr_journal.specs.declared.sides.Side.TheVariants as sides
use Rattle.ccr_journal.specs.declared.events.Event.{Event}
use Rattle.ccr_journal.specs.declared.events.Event.TheVariants as events
use Rattle.ccr_journal.specs.declared.replies.Reply.{Reply}
use Rattle.ccr_journal.specs.declared.replies.Reply.TheVariants as replies
use Rattle.ccr_model.specs.Copies.{Copy, Copies, copy_of}
use Rattle.ccr_model.specs.CopyRows.{merge_row}
use Rattle.ccr_model.specs.Followers.{Follower}
use Rattle.ccr_model.specs.FollowerRows.{follower_merge}
use Rattle.ccr_model.specs.World.{State, for_follower}
use Rattle.ccr_model.specs.Step.{step}
use Rattle.ccr_model.specs.Settling.{copies_at}
use Rattle.ccr_model.specs.Policies.{sizes_in, sizes_at, merged_sizes, picks_of, IsPicked, KeepsFate}
use Rattle.ccr_shard_world.specs.Fates.{is_merge, Asked, sizes_of_copy}
use Rattle.ccr_shard_world.proofs.OnlyMerges.{is_merged, merges_alone}

-- ---- an event that is no merge

picked_none : (fate : List (List PartSize) → List ℕ) (s : State) (event : Event) (reply : Reply) → is_merged reply ≡ false → IsPicked fate s event reply
picked_none fate s event (replies.Merged floor dropped picks) other = absurd cc
picked_none fate s event _ other = tt

shown_none : (s : State) (event : Event) (reply : Reply) → is_merge event ≡ false → merged_sizes s event reply ≡ []
shown_none s (events.Merge side copy) reply isnt = absurd cc
shown_none s _ reply isnt = refl

module _ {P : Type 0} (fate : P → List (List PartSize) → List ℕ) where
  pub keeps_unasked : (policy : Option P) (s : State) (event : Event) (reply : Reply) (picks : List ℕ) → is_merge event ≡ false → reply ≡ (step s event picks).reply
      → KeepsFate fate policy policy s event reply
  keeps_unasked policy s event reply picks isnt is = (
    picked_none (picks_of fate policy) s event reply (subst (λ (r : Reply). is_merged r ≡ false) (sym is) (merges_alone s event picks isnt)),
    λ seen. ap (λ (sizes : List (List PartSize)). picks_of fate policy (sizes ++ seen)) (sym (shown_none s event reply isnt)),
  )

  -- ---- a merge

  module _ (old new : Option P) (picks : List ℕ) where
    abbrev sizes : Option Copy → Option (List PartSize)
    sizes c = option_map {T = Copy} {U = List PartSize} (λ c. sizes_in c.store) c

    at_copies : (s : State) (side : Side) (copy retention : ℕ) (copies : Copies) → copies_at s side ≡ Some copies → (c : Option Copy) → copy_of copies copy ≡ c
        → Asked fate old new picks (sizes c) → KeepsFate fate old new s (events.Merge side copy) (merge_row copies retention copy picks c).reply
    unfolding merge_row
    at_copies s side copy retention copies there None is asked = (tt, λ seen. asked seen)
    at_copies s side copy retention copies there (Some c) is asked =
        let same : sizes_at copy (copies_at s side) ≡ sizes_in c.store
        = ap (sizes_at copy) there ∙ ap (λ (o : Option Copy). option_map_or (λ (c : Copy). sizes_in c.store) o []) is in (
          asked.0 ∙ ap (λ (shown : List PartSize). picks_of fate old (shown ∷ [])) (sym same),
          λ seen. asked.1 seen ∙ ap (λ (shown : List PartSize). picks_of fate old (shown ∷ seen)) (sym same),
        )

    at_named : (s : State) (f copy : ℕ) (o : Option Follower) → slice_get s.followers f ≡ o
        → Asked fate old new picks (sizes (option_and_then (λ (copies : Copies). copy_of copies copy) (option_map {T = Follower} {U = Copies} (λ own. own.copies) o)))
        → KeepsFate fate old new s (events.Merge (sides.Follower f) copy) (for_follower s f (λ x. follower_merge x copy picks) o).reply
    at_named s f copy None is asked = (tt, λ seen. asked seen)
    at_named s f copy (Some x) is asked =
        at_copies s (sides.Follower f) copy x.retention x.copies (ap (λ (o : Option Follower). option_map {T = Follower} {U = Copies} (λ own. own.copies) o) is) (copy_of x.copies copy) refl asked

    told : (s : State) (side : Side) (copy : ℕ) → Asked fate old new picks (sizes_of_copy s side copy) → KeepsFate fate old new s (events.Merge side copy) (step s (events.Merge side copy) picks).reply
    told s sides.Leader copy asked = at_copies s sides.Leader copy s.leader.start.retention s.leader.copies refl (copy_of s.leader.copies copy) refl asked
    told s (sides.Follower f) copy asked = at_named s f copy (slice_get s.followers f) refl asked

    pub keeps_asked : (s : State) (side : Side) (copy : ℕ) (event : Event) (reply : Reply) → event ≡ events.Merge side copy → reply ≡ (step s event picks).reply
        → Asked fate old new picks (sizes_of_copy s side copy) → KeepsFate fate old new s event reply
    keeps_asked s side copy event reply merge is asked =
        subst (λ (r : Reply). KeepsFate fate old new s event r) (sym is)
        (subst (λ (e : Event). KeepsFate fate old new s e (step s e picks).reply) (sym merge) (told s side copy asked))

pub ruleset asking = (keeps_asked, keeps_unasked)
