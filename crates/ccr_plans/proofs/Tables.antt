-- Steps of the loops over worlds, and what a refusal tells that doesn't hold.
use Rattle.std.proofs.Common.{◌≡◌, ℕ, zero, suc, ◌+◌, ◌-◌, ◌<◌, Bool, true, false, List, [], ◌∷◌, ◌++◌, Option, Some, None, refl, ap, sym, ◌∙◌, append_assoc, arith}
use Rattle.std.specs.Prelude.{is_none, is_some, nat_le, if◌then◌else◌}
use Rattle.std.proofs.lemmas.Bool.{leb-false}
use Rattle.ccr_op.specs.declared.index_name.IndexName.{IndexName}
use Rattle.ccr_journal.specs.declared.sides.Side.TheVariants as side
use Rattle.ccr_journal.specs.declared.events.Event.{Event}
use Rattle.ccr_journal.specs.declared.events.Event.TheVariants as event
use Rattle.ccr_meta.specs.declared.faults.MetaFault.{MetaFault}
use Rattle.ccr_meta.specs.declared.faults.MetaFault.TheVariants.{IsFollower, NoShard, NotFollower}
use Rattle.ccr_meta.specs.declared.index_meta.IndexMeta.{IndexMeta}
use Rattle.ccr_meta.specs.Guards.{first_refusal, follower_shard_guards, resync_guards, shard_guards}
use Rattle.ccr_model.specs.Leaders.{Start}
use Rattle.ccr_deeds.specs.declared.deeds.Deed.{Deed}
use Rattle.ccr_deeds.specs.declared.deeds.Deed.TheVariants.{Happens}
use Rattle.ccr_plans.specs.Forms.{in_worlds}
use Rattle.ccr_plans.specs.Made.{start_of, starts_from}
use Rattle.ccr_plans.specs.Clocks.{follower_clocks, leader_clocks}

-- ---- loops

worlds-step : (e : Event) (w n : ℕ) → 0 < n → in_worlds e w n ≡ Happens w e ∷ in_worlds e (w + 1) (n - 1)
worlds-step e w zero some = absurd (omega arith)
worlds-step e w (suc n) some = ap (λ (m : ℕ). Happens w e ∷ in_worlds e (w + 1) m) (omega arith)

pub worlds-more : (done all : List Deed) (e : Event) (w n : ℕ) → 0 < n → done ++ in_worlds e w n ≡ all
    → (done ++ Happens w e ∷ []) ++ in_worlds e (w + 1) (n - 1) ≡ all
worlds-more done all e w n some h =
    append_assoc done (Happens w e ∷ []) (in_worlds e (w + 1) (n - 1)) ∙ (ap (λ xs. done ++ xs) (sym (worlds-step e w n some)) ∙ h)

starts-step : (index : IndexName) (x : IndexMeta) (shard n : ℕ) → 0 < n → starts_from index x shard n ≡ start_of index x shard ∷ starts_from index x (shard + 1) (n - 1)
starts-step index x shard zero some = absurd (omega arith)
starts-step index x shard (suc n) some = ap (λ (m : ℕ). start_of index x shard ∷ starts_from index x (shard + 1) m) (omega arith)

pub starts-more : (done all : List Start) (index : IndexName) (x : IndexMeta) (shard n : ℕ) → 0 < n → done ++ starts_from index x shard n ≡ all
    → (done ++ start_of index x shard ∷ []) ++ starts_from index x (shard + 1) (n - 1) ≡ all
starts-more done all index x shard n some h =
    append_assoc done (start_of index x shard ∷ []) (starts_from index x (shard + 1) (n - 1)) ∙ (ap (λ xs. done ++ xs) (sym (starts-step index x shard n some)) ∙ h)

leader-step : (now w n : ℕ) → 0 < n
    → leader_clocks now w n ≡ Happens w (event.Clock side.Leader now) ∷ Happens w event.Expire ∷ Happens w event.CloseSessions ∷ leader_clocks now (w + 1) (n - 1)
leader-step now w zero some = absurd (omega arith)
leader-step now w (suc n) some =
    ap (λ (m : ℕ). Happens w (event.Clock side.Leader now) ∷ Happens w event.Expire ∷ Happens w event.CloseSessions ∷ leader_clocks now (w + 1) m) (omega arith)

-- three pushed one after another
three : (done : List Deed) (a b c : Deed) (rest : List Deed) → (((done ++ a ∷ []) ++ b ∷ []) ++ c ∷ []) ++ rest ≡ done ++ a ∷ b ∷ c ∷ rest
three [] a b c rest = refl
three (d ∷ done) a b c rest = ap (λ xs. d ∷ xs) (three done a b c rest)

two : (done : List Deed) (a b : Deed) (rest : List Deed) → ((done ++ a ∷ []) ++ b ∷ []) ++ rest ≡ done ++ a ∷ b ∷ rest
two [] a b rest = refl
two (d ∷ done) a b rest = ap (λ xs. d ∷ xs) (two done a b rest)

pub leader-more : (done all : List Deed) (now w n : ℕ) → 0 < n → done ++ leader_clocks now w n ≡ all
    → (((done ++ Happens w (event.Clock side.Leader now) ∷ []) ++ Happens w event.Expire ∷ []) ++ Happens w event.CloseSessions ∷ []) ++ leader_clocks now (w + 1) (n - 1) ≡ all
leader-more done all now w n some h =
    three done (Happens w (event.Clock side.Leader now)) (Happens w event.Expire) (Happens w event.CloseSessions) (leader_clocks now (w + 1) (n - 1))
    ∙ (ap (λ xs. done ++ xs) (sym (leader-step now w n some)) ∙ h)

follower-step : (now f w n : ℕ) → 0 < n
    → follower_clocks now f w n ≡ Happens w (event.Clock (side.Follower f) now) ∷ Happens w (event.Tick f) ∷ follower_clocks now f (w + 1) (n - 1)
follower-step now f w zero some = absurd (omega arith)
follower-step now f w (suc n) some =
    ap (λ (m : ℕ). Happens w (event.Clock (side.Follower f) now) ∷ Happens w (event.Tick f) ∷ follower_clocks now f (w + 1) m) (omega arith)

pub follower-more : (done all : List Deed) (now f w n : ℕ) → 0 < n → done ++ follower_clocks now f w n ≡ all
    → ((done ++ Happens w (event.Clock (side.Follower f) now) ∷ []) ++ Happens w (event.Tick f) ∷ []) ++ follower_clocks now f (w + 1) (n - 1) ≡ all
follower-more done all now f w n some h =
    two done (Happens w (event.Clock (side.Follower f) now)) (Happens w (event.Tick f)) (follower_clocks now f (w + 1) (n - 1))
    ∙ (ap (λ xs. done ++ xs) (sym (follower-step now f w n some)) ∙ h)

-- ---- refusals that don't hold

-- of a guard that isn't told the condition fails, and none behind it is told
not_told : (b : Bool) (fault : MetaFault) (rest : Option MetaFault) → (if b then Some fault else rest) ≡ None → (b ≡ false) × (rest ≡ None)
not_told true fault rest h = absurd (let e : true ≡ false = ap is_some h in cc)
not_told false fault rest h = (refl, h)

pub shard-there : (shard : ℕ) (x : IndexMeta) → first_refusal (shard_guards shard x) ≡ None → shard < x.shards
shard-there shard x h = leb-false x.shards shard (not_told (nat_le x.shards shard) NoShard None h).0

pub resync-there : (shard : ℕ) (x : IndexMeta) → first_refusal (resync_guards shard x) ≡ None → shard < x.shards
resync-there shard x h = shard-there shard x (not_told (is_some x.leader) IsFollower (first_refusal (shard_guards shard x)) h).1

pub follower-there : (shard : ℕ) (x : IndexMeta) → first_refusal (follower_shard_guards shard x) ≡ None → shard < x.shards
follower-there shard x h = shard-there shard x (not_told (is_none x.leader) NotFollower (first_refusal (shard_guards shard x)) h).1

pub ruleset tables = (worlds-more, starts-more, leader-more, follower-more, shard-there, resync-there, follower-there)
