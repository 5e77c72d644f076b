-- What became of the policies that were handed in.
use Rattle.std.specs.Prelude.{◌≡◌, ℕ, ◌+◌, ◌≤◌, Bool, false, List, [], ◌∷◌, ◌++◌, Option}
use Rattle.ccr_policy.specs.declared.PartSize.{PartSize}
use Rattle.ccr_journal.specs.declared.journals.Entry.{Entry}
use Rattle.ccr_model.specs.World.{start_state}
use Rattle.ccr_model.specs.Policies.{ArePicked, picks_of, sizes_seen}
use Rattle.ccr_deeds.specs.Logs.{Log}
use Rattle.ccr_shard_world.specs.Recorded.{Recorded}

-- a policy, told by what it picks once it has seen lists of sizes
abbrev pub Fate : Type 0
Fate = List (List PartSize) → List ℕ

-- a world's log, whether the world is broken, and its policy's fate
pub record Standing : Type 0 where
  pub log : Log
  pub broken : Bool
  pub fate : Fate

abbrev pub log_of : Recorded → Log
log_of r = record { start = r.start; entries = r.journal }

abbrev pub standing_of : {B : Type 0} → (B → Fate) → Recorded → Option B → Standing
standing_of fate r policy = record { log = log_of r; broken = r.broken; fate = picks_of fate policy }

-- the picks of the journal are those of the policy that was handed in, and what is left of that is the policy's fate now
pub record Fated (first : Fate) (s : Standing) : Type 0 where
  pub picked : ArePicked first (start_state s.log.start) s.log.entries
  pub later : s.broken ≡ false → (seen : List (List PartSize)) → s.fate seen ≡ first (sizes_seen (start_state s.log.start) s.log.entries ++ seen)

-- each policy that is left is the one of its place, and behind them there is none
abbrev pub AreLeft : (ℕ → Fate) → ℕ → List Fate → Type 0
AreLeft fates n [] = (m : ℕ) → n ≤ m → (seen : List (List PartSize)) → fates m seen ≡ []
AreLeft fates n (f ∷ fs) = ((seen : List (List PartSize)) → f seen ≡ fates n seen) × AreLeft fates (n + 1) fs

-- each world's policy is the handed-in one of its number, and those left are the next ones
abbrev pub AreFated : (ℕ → Fate) → ℕ → List Standing → List Fate → Type 0
AreFated fates n [] left = AreLeft fates n left
AreFated fates n (s ∷ ss) left = Fated (fates n) s × AreFated fates (n + 1) ss left

-- in each journal the picks are those of the policy that was handed in for it
abbrev pub PicksAreHanded : (ℕ → Fate) → ℕ → List Log → Type 0
PicksAreHanded fates n [] = Unit {0}
PicksAreHanded fates n (log ∷ logs) = ArePicked (fates n) (start_state log.start) log.entries × PicksAreHanded fates (n + 1) logs

-- the worlds stand so, with these policies left, and the list for their journals is empty and has room for them
pub record IsBare (fates : ℕ → Fate) (standings : List Standing) (left : List Fate) (journals : List (List Entry)) (count room : ℕ) : Type 0 where
  pub fated : AreFated fates 0 standings left
  pub empty : journals ≡ []
  pub enough : count ≤ room
