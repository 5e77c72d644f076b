-- The files of a session that the primary opens.
use Rattle.std.specs.List.{AllByRecursion}
use Rattle.std.specs.Prelude.{flat_map, slice_get, map, nat_lt, true}
use Rattle.std.proofs.Common.{◌≡◌, ℕ, ◌+◌, ◌^◌, ◌<◌, ◌≤◌, Option, Some, List, [], ◌∷◌, ◌++◌, length, take, refl, sym, ◌∙◌, ap, subst, arith}
use Rattle.std.proofs.lemmas.Bool.Decides.{nat_tests}
use Rattle.std.proofs.lemmas.List.Concat.{flat_map-cons}
use Rattle.ccr_op.specs.Operation.{Operation, HasSpelling}
use Rattle.ccr_segment.specs.Index.{read_or_none, ops_in}
use Rattle.ccr_segment.specs.Segment.{AscendsFrom, HasSpelling as SegmentHasSpelling, spelling as segment_of_ops}
use Rattle.ccr_segment.proofs.SegmentLaws.{segment_again}
use Rattle.ccr_model.specs.Stores.{files_below}
use Rattle.ccr_model.specs.Leaders.{Leader, Session}
use Rattle.ccr_model.specs.LeaderFrames.{new_session}
use Rattle.ccr_model.specs.FrameFacts.{HoldsHistory, ops_of_session}
use Rattle.ccr_model.specs.Given.{IsAmong, front_of}
use Rattle.ccr_model.specs.Past.{Line, Past}
use Rattle.ccr_law_copies.specs.Cores.{PrimaryOk, IsFront, IsCore}
use Rattle.ccr_law_base.proofs.Lists.{All-weaker, All-both, All-map, All-append_front, All-append_back, slice_get-take}
use Rattle.ccr_law_stores.specs.TrueStores.{IsSound, IsTrueHistory, ShowsLine, CanBeSpelled, IsTrueSession, HasTrueStores}
use Rattle.ccr_law_stores.proofs.Holding.{in_parts}
use Rattle.ccr_law_stores.proofs.Histories.{low_some, files-of-primary, history-stays, history-shows}
use Rattle.ccr_law_stores.proofs.Sorting.{files-ascend}

-- what a segment spells is read again
pub read-again : (ops : List Operation) → SegmentHasSpelling ops → ops_in (segment_of_ops ops) ≡ ops
read-again ops fits = ap read_or_none (segment_again ops fits)

-- a list that ascends below a count is no longer than that
pub ascends-short : (low count : ℕ) (xs : List Operation) → low ≤ count → AscendsFrom low xs → AllByRecursion (λ (op : Operation). op.seq < count) xs → length xs + low ≤ count
ascends-short low count [] le up all = omega arith
ascends-short low count (x ∷ xs) le up all =
    let first : low ≤ x.seq = up.0 in
    let small : x.seq < count = all.0 in
    let rest : length xs + (x.seq + 1) ≤ count = ascends-short (x.seq + 1) count xs (omega arith) up.1 all.1 in
    omega arith

pub All-of_parts : (P : Operation → Type 0) (parts : List (List Operation)) → AllByRecursion P (in_parts parts) → AllByRecursion (AllByRecursion P) parts
All-of_parts P [] all = tt
All-of_parts P (part ∷ parts) all =
    let both : AllByRecursion P (part ++ in_parts parts) = subst (AllByRecursion P) (flat_map-cons {X = List Operation} {A = Operation} (λ p. p) part parts) all in
    (All-append_front P part (in_parts parts) both, All-of_parts P parts (All-append_back P part (in_parts parts) both))

pub spelled-parts : (parts : List (List Operation)) → AllByRecursion SegmentHasSpelling parts
    → flat_map {X = List ℕ} {A = Operation} ops_in (map {A = List Operation} {B = List ℕ} segment_of_ops parts) ≡ in_parts parts
spelled-parts [] all = refl
spelled-parts (part ∷ parts) all =
    flat_map-cons {X = List ℕ} {A = Operation} ops_in (segment_of_ops part) (map {A = List Operation} {B = List ℕ} segment_of_ops parts)
    ∙ (ap (λ (xs : List Operation). xs ++ flat_map {X = List ℕ} {A = Operation} ops_in (map {A = List Operation} {B = List ℕ} segment_of_ops parts)) (read-again part all.0)
    ∙ (ap (λ (xs : List Operation). part ++ xs) (spelled-parts parts all.1)
    ∙ sym (flat_map-cons {X = List Operation} {A = Operation} (λ p. p) part parts)))

-- the parts of a history that ascend can be spelled
pub parts-spelled : (line : Line) (count : ℕ) (parts : List (List Operation)) → CanBeSpelled line → count < 2 ^ 32 → IsTrueHistory line count (in_parts parts)
    → AllByRecursion (AscendsFrom 0) parts → AllByRecursion SegmentHasSpelling parts
parts-spelled line count parts spelled small ok up =
    All-weaker (λ (part : List Operation). AllByRecursion (λ (op : Operation). HasSpelling op × (op.seq < count)) part × AscendsFrom 0 part) SegmentHasSpelling
    (λ part both. record {
      count = (let short : length part + 0 ≤ count = ascends-short 0 count part (omega arith) both.1
          (All-weaker (λ (op : Operation). HasSpelling op × (op.seq < count)) (λ (op : Operation). op.seq < count) (λ op is. is.1) part both.0) in omega arith);
      order = both.1;
      each = All-weaker (λ (op : Operation). HasSpelling op × (op.seq < count)) HasSpelling (λ op is. is.0) part both.0;
    })
    parts
    (All-both (AllByRecursion (λ (op : Operation). HasSpelling op × (op.seq < count))) (AscendsFrom 0) parts
    (All-of_parts (λ (op : Operation). HasSpelling op × (op.seq < count)) parts
    (All-weaker (IsAmong (front_of count line.ops)) (λ (op : Operation). HasSpelling op × (op.seq < count))
    (λ op at. (
      spelled op.seq op (low_some (slice_get line.ops op.seq) (nat_lt op.seq count) op at).1,
      (let low : nat_lt op.seq count ≡ true = (low_some (slice_get line.ops op.seq) (nat_lt op.seq count) op at).0 in grind (arith, nat_tests)),
    ))
    (in_parts parts) ok.store.ours)) up)

-- a session that the primary opens
pub session-opens : (line : Line) (ops : ℕ → Option Operation) (s : Leader) → PrimaryOk line ops s.copies.primary.seen s.copies.primary.global → IsSound ops 0 s.copies.primary
    → CanBeSpelled line → s.copies.primary.global < 2 ^ 32 → IsTrueSession line (new_session s)
session-opens line ops s primary sound spelled small =
    let c = s.copies.primary in
    let files : IsTrueHistory line c.global (in_parts (files_below c.global c.store)) = files-of-primary line ops c primary sound.store in
    let fit : AllByRecursion SegmentHasSpelling (files_below c.global c.store)
    = parts-spelled line c.global (files_below c.global c.store) spelled small files (files-ascend c.global c.store sound.sorted) in
    record {
      segments = All-map (λ (file : List ℕ). segment_of_ops (ops_in file) ≡ file) segment_of_ops (files_below c.global c.store)
          (All-weaker SegmentHasSpelling (λ (part : List Operation). segment_of_ops (ops_in (segment_of_ops part)) ≡ segment_of_ops part)
          (λ part is. ap segment_of_ops (read-again part is)) (files_below c.global c.store) fit);
      history = subst (IsTrueHistory line c.global) (sym (spelled-parts (files_below c.global c.store) fit)) files;
    }

-- a session of a leader at a place of a journal
pub session-of-leader : (p : Past) → IsCore p → HasTrueStores p → CanBeSpelled p.line → p.state.leader.copies.primary.global < 2 ^ 32
    → IsTrueSession p.line (new_session p.state.leader)
session-of-leader p core ok spelled small =
    session-opens p.line (p.given p.state.leader.copies.primary.number) p.state.leader core.rest.primary ok.own spelled small

pub session-holds : (line : Line) (session : Session) → ((n : ℕ) (op : Operation) → slice_get line.ops n ≡ Some op → op.seq ≡ n) → IsTrueSession line session → HoldsHistory line session
session-holds line session numbered ok =
    let shows : ShowsLine line session.count (ops_of_session session) = history-shows line session.count (ops_of_session session) numbered ok.history in
    record { count = ok.history.low; segments = ok.segments; ours = shows.ours; once = shows.once; view = shows.view }

-- ---- later places

pub front-same : (cut : ℕ) (xs ys : List Operation) → take cut xs ≡ take cut ys → (n : ℕ) → n < cut → slice_get xs n ≡ slice_get ys n
front-same cut xs ys same n lt =
    sym (slice_get-take cut xs n lt) ∙ (ap (λ (zs : List Operation). slice_get zs n) same ∙ slice_get-take cut ys n lt)

-- a session goes on serving for a later line
pub session-stays : (line later : Line) (session : Session) → ((n : ℕ) (op : Operation) → slice_get line.ops n ≡ Some op → op.seq ≡ n)
    → ((n : ℕ) → n < line.cut → slice_get later.ops n ≡ slice_get line.ops n) → line.cut ≤ later.cut → IsTrueSession line session → IsTrueSession later session
session-stays line later session numbered same rises ok =
    record { segments = ok.segments; history = history-stays line later session.count (ops_of_session session) numbered same rises ok.history }

-- and does so for each line of which its own is a front
pub session-next : (line later : Line) (session : Session) → ((n : ℕ) (op : Operation) → slice_get line.ops n ≡ Some op → op.seq ≡ n) → IsFront line later → IsTrueSession line session → IsTrueSession later session
session-next line later session numbered front ok =
    session-stays line later session numbered (front-same line.cut later.ops line.ops front.same) front.cut ok
