-- What the commands of a script make of a leader shard, as far as the line of its history depends on it. Neither followers, messages and
-- leases nor what the copies still hold occur in it.
use Rattle.std.specs.Prelude.{ℕ, ◌+◌, ◌-◌, Bool, true, false, ◌&&◌, ◌==◌, nat_lt, nat_le, min, max, if◌then◌else◌, List, [], ◌∷◌, ◌++◌, length, map, drop, find, slice_get, Option, Some, None, is_some}
use Rattle.std.specs.Option.{option_map_or}
use Rattle.std.specs.List.{range_with_len}
use Rattle.ccr_op.specs.Operation.{Operation}
use Rattle.ccr_tracker.specs.Numbers.{Numbers, no_numbers, marked}
use Rattle.ccr_doc.specs.declared.sources.BadSource.{BadSource as SourceFault}
use Rattle.ccr_journal.specs.declared.requests.WriteRequest.{WriteRequest}
use Rattle.ccr_model.specs.Given.{no_ops, gaining, plugged, listed}
use Rattle.ccr_model.specs.CopyRows.{most_copies}
use Rattle.ccr_model.specs.Leaders.{Start, most_stale}
use Rattle.ccr_model.specs.LeaderRows.{conflicts, kind_of_request, end_of}
use Rattle.ccr_model.specs.Past.{Line, no_line, rewritten}

-- a copy: the numbers that it has processed, and the operation that it was given at each number
pub record CopyOutline : Type 0 where
  pub number : ℕ
  pub seen : Numbers
  pub ops : ℕ → Option Operation

-- a copy that isn't the primary, with the count that the primary knows of it, and whether it was resynced in this term
pub record ReplicaOutline : Type 0 where
  pub copy : CopyOutline
  pub known : ℕ
  pub resynced : Bool

-- the term, the line, which the primary has, the number of the primary, the other copies, the stale ones, and the number of the next copy
pub record Outline : Type 0 where
  pub term : ℕ
  pub line : Line
  pub primary : ℕ
  pub replicas : List ReplicaOutline
  pub stale : List CopyOutline
  pub next : ℕ

abbrev pub new_outline : Start → Outline
new_outline start = record {
  term = 1;
  line = no_line;
  primary = 0;
  replicas = map {A = ℕ} {B = ReplicaOutline} (λ n. record { copy = record { number = n; seen = no_numbers; ops = no_ops }; known = 0; resynced = true }) (range_with_len 1 (start.copies - 1));
  stale = [];
  next = start.copies;
}

-- ---- look-ups and changes

abbrev pub replica_at : ℕ → List ReplicaOutline → Option ReplicaOutline
replica_at copy rs = find (λ r. r.copy.number == copy) rs

abbrev pub stale_at : ℕ → List CopyOutline → Option CopyOutline
stale_at copy cs = find (λ c. c.number == copy) cs

abbrev pub in_place : ℕ → ReplicaOutline → List ReplicaOutline → List ReplicaOutline
in_place copy new [] = []
in_place copy new (r ∷ rs) = if r.copy.number == copy then new ∷ rs else r ∷ in_place copy new rs

abbrev pub leaving : ℕ → List ReplicaOutline → List ReplicaOutline
leaving copy [] = []
leaving copy (r ∷ rs) = if r.copy.number == copy then rs else r ∷ leaving copy rs

-- a copy among the stale ones, by its number
abbrev pub among_stale : CopyOutline → List CopyOutline → List CopyOutline
among_stale c [] = c ∷ []
among_stale c (x ∷ xs) = if nat_lt c.number x.number then c ∷ x ∷ xs else x ∷ among_stale c xs

-- one more, of which the one of least number is forgotten where that is one too many
abbrev pub more_stale : CopyOutline → List CopyOutline → List CopyOutline
more_stale c stale = drop (length (among_stale c stale) - most_stale) (among_stale c stale)

-- a replica that has the whole line and is known to
abbrev pub whole_replica : List Operation → ℕ → ReplicaOutline
whole_replica ops n = record {
  copy = record { number = n; seen = record { count = length ops; above = [] }; ops = λ k. slice_get ops k };
  known = length ops;
  resynced = true;
}

-- what is known of a replica where there is a new primary
abbrev pub not_resynced : ReplicaOutline → ReplicaOutline
not_resynced r = record r { known = 0; resynced = false }

-- the least of a count and the known counts
abbrev pub least_count : ℕ → List ReplicaOutline → ℕ
least_count count [] = count
least_count count (r ∷ rs) = min r.known (least_count count rs)

-- what each copy is known to have is committed
abbrev pub committing : Outline → Outline
committing t = record t { line = record t.line { cut = max t.line.cut (least_count (length t.line.ops) t.replicas) } }

-- ---- the commands

-- the operation of a write that takes this number, where `found` is what put the live document of its id in place
abbrev pub operation_of : ℕ → ℕ → WriteRequest → Option Operation → Operation
operation_of n leader_term request found = record {
  seq = n;
  term = leader_term;
  version = option_map_or (λ op. op.version + 1) found 1;
  kind = kind_of_request request.id request.routing request.body;
}

-- a write takes the next number, unless its source can't be read, or the document isn't as it is expected
abbrev pub writing : Outline → WriteRequest → Option SourceFault → Option Operation → Outline
writing t request (Some fault) found = t
writing t request None found =
    if conflicts request.expect found then t
    else if request.create && is_some found then t
    else committing (record t { line = record t.line { ops = t.line.ops ++ operation_of (length t.line.ops) t.term request found ∷ [] } })

-- a replica that was resynced takes an operation of the line
abbrev pub copying : Outline → ℕ → ℕ → Option ReplicaOutline → Outline
copying t copy n None = t
copying t copy n (Some r) =
    if r.resynced && nat_lt n (length t.line.ops)
    then record t { replicas = in_place copy (record r { copy = record r.copy { seen = marked r.copy.seen n; ops = gaining r.copy.ops n (slice_get t.line.ops n) } }) t.replicas }
    else t

-- the count of a replica that was resynced is known
abbrev pub acking : Outline → ℕ → Option ReplicaOutline → Outline
acking t copy None = t
acking t copy (Some r) = if r.resynced then committing (record t { replicas = in_place copy (record r { known = r.copy.seen.count }) t.replicas }) else t

-- a replica gets what the line has
abbrev pub resyncing : Outline → ℕ → Option ReplicaOutline → Outline
resyncing t copy None = t
resyncing t copy (Some r) =
    if r.resynced then t
    else record t { replicas = in_place copy (record (whole_replica t.line.ops r.copy.number) { known = r.known }) t.replicas }

-- a replica becomes the primary of the next term: the line goes on from what is committed by what it has, with no-ops in its gaps
abbrev pub promoting : Outline → ℕ → Option ReplicaOutline → Outline
promoting t copy None = t
promoting t copy (Some r) =
    committing (record t {
      term = t.term + 1;
      line = record t.line { ops = rewritten t.line (plugged r.copy.ops (t.term + 1) (end_of r.copy.seen)) (end_of r.copy.seen) };
      primary = r.copy.number;
      replicas = map {A = ReplicaOutline} {B = ReplicaOutline} not_resynced (leaving copy t.replicas);
    })

-- a stale copy becomes the primary of the next term, alone: a line begins, of what it has, with no-ops in its gaps, all of which is committed
abbrev pub forcing : Outline → ℕ → Option CopyOutline → Outline
forcing t copy None = t
forcing t copy (Some c) =
    let own = listed (plugged c.ops (t.term + 1) (end_of c.seen)) 0 (end_of c.seen) in
    record t { term = t.term + 1; line = record { ops = own; cut = length own }; primary = c.number; replicas = []; stale = [] }

-- a replica leaves, and is kept as stale
abbrev pub failing : Outline → ℕ → Option ReplicaOutline → Outline
failing t copy None = t
failing t copy (Some r) = committing (record t { replicas = leaving copy t.replicas; stale = more_stale r.copy t.stale })

-- a copy is added that has the whole line, unless there are eight
abbrev pub adding : Outline → Outline
adding t =
    if nat_le most_copies (length t.replicas + 1) then t
    else committing (record t { replicas = t.replicas ++ whole_replica t.line.ops t.next ∷ []; next = t.next + 1 })

-- a settle gives each replica the whole line, and makes it known; no stale copy changes
abbrev pub settling : Outline → Outline
settling t = record t {
  line = record t.line { cut = length t.line.ops };
  replicas = map {A = ReplicaOutline} {B = ReplicaOutline} (λ r. whole_replica t.line.ops r.copy.number) t.replicas;
}
