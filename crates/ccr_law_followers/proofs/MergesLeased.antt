-- A merge drops nothing that a lease of the copy retains, on either side.
use Rattle.std.specs.Prelude.{slice_get, IfSome}
use Rattle.std.proofs.Common.{◌≡◌, ℕ, Option, Some, None, List, refl, sym, subst}
use Rattle.ccr_op.specs.Operation.{Operation}
use Rattle.ccr_journal.specs.declared.sides.Side.TheVariants as sides
use Rattle.ccr_journal.specs.declared.events.Event.{Event}
use Rattle.ccr_journal.specs.declared.events.Event.TheVariants as events
use Rattle.ccr_model.specs.Copies.{Copy, Replica, Copies}
use Rattle.ccr_model.specs.Followers.{Follower}
use Rattle.ccr_model.specs.FollowerRows.{follower_merge}
use Rattle.ccr_model.specs.World.{for_follower}
use Rattle.ccr_model.specs.Step.{step}
use Rattle.ccr_model.specs.Past.{Line, Past, WrittenBatch, line_of}
use Rattle.ccr_model.specs.Headline.{KeepsLeased, MergeKeepsLeased}
use Rattle.ccr_law_base.proofs.Lists.{All-weaker, set-same}
use Rattle.ccr_law_stores.specs.TrueStores.{HasTrueStores}
use Rattle.ccr_law_stores.proofs.Leased.{HasStore, merge-leased, leader-leased}
use Rattle.ccr_law_followers.specs.TrueCopies.{CopyOk, ReplicaOk, CopiesOf, HasTrueCopies}
use Rattle.ccr_law_followers.specs.CopyLaws.{HasTrueFollowers}

has-store : (line : Line) (ops : ℕ → Option Operation) (restored : ℕ) (written : List WrittenBatch) (next : ℕ) (c : Copy) → CopyOk line ops restored written next c → HasStore c
has-store line ops restored written next c ok = record { ops = ops; restored = restored; store = ok.store }

own-leased : (line : Line) (given : ℕ → ℕ → Option Operation) (restored : ℕ) (written : List WrittenBatch) (own : Follower) (copy : ℕ) (picks : List ℕ)
    → CopiesOf line given restored written own.copies → KeepsLeased own.copies (follower_merge own copy picks).next.copies copy
own-leased line given restored written own copy picks ok =
    let s : Copies = own.copies in
    merge-leased s own.retention copy picks (has-store line (given s.primary.number) restored written s.next s.primary ok.own)
    (All-weaker (λ (r : Replica). ReplicaOk line (given r.copy.number) restored written s.primary.number s.primary.global s.next r) (λ (r : Replica). HasStore r.copy)
    (λ r is. has-store line (given r.copy.number) restored written s.next r.copy is.copy) s.replicas ok.others)

follower-leased : (p : Past) (f copy : ℕ) (picks : List ℕ) (found : Option Follower) → HasTrueCopies p → slice_get p.state.followers f ≡ found
    → IfSome found (λ own. IfSome (slice_get (for_follower p.state f (λ x. follower_merge x copy picks) found).next.followers f) (λ new. KeepsLeased own.copies new.copies copy))
follower-leased p f copy picks None ok at = tt
follower-leased p f copy picks (Some own) ok at =
    subst (λ (o : Option Follower). IfSome o (λ new. KeepsLeased own.copies new.copies copy)) (sym (set-same p.state.followers f own (follower_merge own copy picks).next at))
    (own-leased (line_of p own.history) (p.followers f).given (p.followers f).restored (p.followers f).written own copy picks (ok.made f own at).copies)

pub keeps-leased : (p : Past) (event : Event) (picks : List ℕ) → HasTrueStores p → HasTrueFollowers p → MergeKeepsLeased p.state (step p.state event picks).next event
keeps-leased p (events.Merge sides.Leader copy) picks stores ok = leader-leased p copy picks stores
keeps-leased p (events.Merge (sides.Follower f) copy) picks stores ok = follower-leased p f copy picks (slice_get p.state.followers f) ok.copies refl
keeps-leased p _ picks stores ok = tt
