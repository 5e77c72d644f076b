-- how often writing failed
use Rattle.std.proofs.Common.{◌≡◌, ◌≢◌, ℕ, ◌-◌, ◌^◌, ◌<◌, refl, arith}
use Rattle.ccr_playing.specs.declared.statuses.Status.{Status}
use Rattle.ccr_playing.specs.declared.statuses.Status.TheVariants as ends
use Rattle.ccr_playing.specs.Tells.{AreTold}

-- a run of which no write had failed ends with at most one that did
pub few_faults : (status : Status) (reads reads' writes writes' : ℕ) (quiet : Type 0) → writes ≡ 0 → (status ≢ ends.Usage → AreTold status reads reads' writes writes')
    → (status ≡ ends.Usage → quiet × (writes' ≡ writes)) → writes' < 2 ^ 64 - 1
few_faults ends.Done reads reads' writes writes' quiet none told untold = let t = told (λ e. absurd (cc)) in omega (arith, t.1, none)
few_faults (ends.BadLine line why) reads reads' writes writes' quiet none told untold = let t = told (λ e. absurd (cc)) in omega (arith, t.1, none)
few_faults ends.ReadFault reads reads' writes writes' quiet none told untold = let t = told (λ e. absurd (cc)) in omega (arith, t.1, none)
few_faults ends.WriteFault reads reads' writes writes' quiet none told untold = let t = told (λ e. absurd (cc)) in omega (arith, t.1, none)
few_faults ends.OutOfMemory reads reads' writes writes' quiet none told untold = let t = told (λ e. absurd (cc)) in omega (arith, t.1, none)
few_faults ends.Usage reads reads' writes writes' quiet none told untold = let t = untold refl in omega (arith, t.1, none)
