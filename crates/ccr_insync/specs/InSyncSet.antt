-- The in-sync set of a shard, and what each call makes of it.
use Rattle.std.specs.Prelude.{◌≡◌, ℕ, zero, suc, ◌+◌, ◌≤◌, ◌==◌, ◌&&◌, Bool, true, false, not, max, nat_lt, List, [], ◌∷◌, ◌++◌, length, map, Option, None, Some, is_some, All, if◌then◌else◌}
use Rattle.std.specs.Option.{option_map_or}
use Rattle.ccr_insync.specs.declared.Member.{Member}
use Rattle.ccr_insync.specs.declared.SetFault.{SetFault}
use Rattle.ccr_insync.specs.declared.SetFault.TheVariants.{LastCopy, NoCopy, IsPrimary, NotReady, TooMany}
use Rattle.ccr_insync.specs.Members.{member_of, least_known, in_step, as_acked, as_resynced, as_term_begins, without, AscendWithin}

pub record InSyncSet : Type 0 where
  pub term : ℕ
  pub primary : ℕ
  pub next : ℕ
  pub global : ℕ
  pub members : List Member

abbrev pub has : InSyncSet → ℕ → Bool
has s copy = is_some (member_of s.members copy)

abbrev pub is_resynced : InSyncSet → ℕ → Bool
is_resynced s copy = option_map_or (λ m. m.is_resynced) (member_of s.members copy) false

abbrev pub is_acked : InSyncSet → ℕ → Bool
is_acked s copy = option_map_or (λ m. m.is_acked) (member_of s.members copy) false

abbrev pub known : InSyncSet → ℕ → ℕ
known s copy = option_map_or (λ m. m.known) (member_of s.members copy) 0

-- the copies 0, 1 and so on, that many
abbrev pub first_copies : ℕ → List Member
first_copies zero = []
first_copies (suc n) = first_copies n ++ in_step n 0 ∷ []

abbrev pub first_set : ℕ → InSyncSet
first_set copies = record { term = 1; primary = 0; next = copies; global = 0; members = first_copies copies }

abbrev pub set_of_one : ℕ → ℕ → ℕ → InSyncSet
set_of_one copy next term = record { term = term; primary = copy; next = next; global = 0; members = in_step copy 0 ∷ [] }

-- the global count is worked out again: the least known count, never lowered
abbrev pub counted : InSyncSet → InSyncSet
counted s = record s { global = max s.global (least_known s.members) }

-- the copy's known count is this one, and it has acked in this term
abbrev pub acked : InSyncSet → ℕ → ℕ → InSyncSet
acked s copy count = counted record s { members = map (as_acked copy count) s.members }

abbrev pub left : InSyncSet → ℕ → InSyncSet
left s copy = counted record s { members = without copy s.members }

-- the old primary leaves, and the new one begins a term with its own known global count
abbrev pub promoted : InSyncSet → ℕ → ℕ → ℕ → InSyncSet
promoted s copy count global = counted record s {
  term = s.term + 1;
  primary = copy;
  global = global;
  members = map (as_term_begins copy count) (without s.primary s.members);
}

abbrev pub resynced : InSyncSet → ℕ → InSyncSet
resynced s copy = record s { members = map (as_resynced copy) s.members }

abbrev pub added : InSyncSet → InSyncSet
added s = counted record s { next = s.next + 1; members = s.members ++ in_step s.next (known s s.primary) ∷ [] }

-- a replica that was not resynced and acked in this term
abbrev pub is_behind : ℕ → Member → Bool
is_behind primary m = not (m.copy == primary) && not (m.is_resynced && m.is_acked)

-- the copy is the least replica that is behind
pub record IsLeastBehind (s : InSyncSet) (copy : ℕ) : Type 0 where
  pub behind : option_map_or (is_behind s.primary) (member_of s.members copy) false ≡ true
  pub least : All (λ m. is_behind s.primary m ≡ true → copy ≤ m.copy) s.members

-- refusals, in this order

abbrev pub ack_refusal : InSyncSet → ℕ → Option SetFault
ack_refusal s copy =
    if not (has s copy) then Some NoCopy
    else if not (is_resynced s copy) then Some NotReady
    else None

abbrev pub replica_refusal : InSyncSet → ℕ → Option SetFault
replica_refusal s copy =
    if not (has s copy) then Some NoCopy
    else if copy == s.primary then Some IsPrimary
    else None

-- the only copy
abbrev pub is_alone : InSyncSet → ℕ → Bool
is_alone s copy = has s copy && (length s.members == 1)

abbrev pub leave_refusal : InSyncSet → ℕ → Option SetFault
leave_refusal s copy = if is_alone s copy then Some LastCopy else replica_refusal s copy

-- at most eight copies
abbrev pub add_refusal : InSyncSet → Option SetFault
add_refusal s = if nat_lt (length s.members) 8 then None else Some TooMany

-- what is true of each in-sync set that is kept
pub record IsKept (s : InSyncSet) : Type 0 where
  pub ascend : AscendWithin 0 s.next s.members
  pub few : length s.members ≤ 8
  pub primary_resynced : is_resynced s s.primary ≡ true
  pub primary_acked : is_acked s s.primary ≡ true
  pub counted : least_known s.members ≤ s.global
