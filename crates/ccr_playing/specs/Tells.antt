-- What the status of a run tells: of its script, its journal and its output, and of the faults of its source and its sink.
use Rattle.std.specs.Prelude.{◌≡◌, ℕ, ◌+◌, List, Option}
use Rattle.ccr_script.specs.declared.bad_lines.BadLine.{BadLine}
use Rattle.ccr_playing.specs.declared.statuses.Status.{Status}
use Rattle.ccr_playing.specs.declared.statuses.Status.TheVariants as ends
use Rattle.ccr_playing.specs.Played.{Begun, CutShort, Played, PlayedToBad, PlayedToFault}

-- a run that ended so read this script up to what is left, and took the journal from `before` to `after` and the sink's bytes from `old` to `new`
abbrev pub Tells : {C J : Type 0} → (List ℕ → Option C → Type 0) → (List ℕ → Option BadLine) → (J → C → J → List ℕ → Type 0) → (J → C → J → Type 0)
    → Status → Option (List ℕ) → Option (List ℕ) → J → J → Option (List ℕ) → Option (List ℕ) → Type 0
Tells asks fault does begins ends.Done script left before after old new = Played asks fault does script left before after old new
Tells asks fault does begins (ends.BadLine line why) script left before after old new = PlayedToBad asks fault does line why script before after old new
Tells asks fault does begins ends.ReadFault script left before after old new = PlayedToFault asks fault does script left before after old new
Tells asks fault does begins ends.WriteFault script left before after old new = CutShort asks fault does script before after old new
Tells asks fault does begins ends.OutOfMemory script left before after old new = Begun asks fault does begins script before after old new
Tells asks fault does begins ends.Usage script left before after old new = ⊥

-- no call of the source or the sink failed
abbrev pub AreQuiet : ℕ → ℕ → ℕ → ℕ → Type 0
AreQuiet reads reads' writes writes' = (reads' ≡ reads) × (writes' ≡ writes)

-- the failed reads and the failed writes before and after a run that ended so: what ended it failed once, and nothing else did
abbrev pub AreTold : Status → ℕ → ℕ → ℕ → ℕ → Type 0
AreTold ends.Done reads reads' writes writes' = AreQuiet reads reads' writes writes'
AreTold (ends.BadLine line why) reads reads' writes writes' = AreQuiet reads reads' writes writes'
AreTold ends.ReadFault reads reads' writes writes' = (reads' ≡ reads + 1) × (writes' ≡ writes)
AreTold ends.WriteFault reads reads' writes writes' = (reads' ≡ reads) × (writes' ≡ writes + 1)
AreTold ends.OutOfMemory reads reads' writes writes' = AreQuiet reads reads' writes writes'
AreTold ends.Usage reads reads' writes writes' = ⊥
