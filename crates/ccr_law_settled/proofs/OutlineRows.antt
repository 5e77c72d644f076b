-- What each command of the leader's side makes of the outline.
use Rattle.std.specs.List.{AllByRecursion, fold}
use Rattle.std.specs.Option.{option_map}
use Rattle.std.specs.Prelude.{find, slice_get}
use Rattle.std.proofs.Common.{◌≡◌, ℕ, ◌+◌, ◌-◌, ◌<◌, ◌≤◌, ◌==◌, ◌&&◌, nat_lt, nat_le, max, Bool, true, false, not, if◌then◌else◌, Option, Some, None, is_some, List, [], ◌∷◌, ◌++◌, map, length, refl, sym, ◌∙◌, ap, subst, arith}
use Rattle.std.proofs.Math.Path.{fun_ext}
use Rattle.std.proofs.lemmas.Bool.{eqb-true}
use Rattle.std.proofs.lemmas.Bool.Decides.{nat_tests}
use Rattle.ccr_op.specs.Operation.{Operation}
use Rattle.ccr_tracker.specs.Numbers.{Numbers, has, marked}
use Rattle.ccr_lease.specs.Leases.{supersedes}
use Rattle.ccr_doc.specs.declared.sources.BadSource.{BadSource as SourceFault}
use Rattle.ccr_journal.specs.declared.requests.WriteRequest.{WriteRequest}
use Rattle.ccr_journal.specs.declared.sides.Side.TheVariants as sides
use Rattle.ccr_journal.specs.declared.events.Event.{Event}
use Rattle.ccr_journal.specs.declared.events.Event.TheVariants as events
use Rattle.ccr_journal.specs.declared.replies.Reply.TheVariants as replies
use Rattle.ccr_journal.specs.declared.replies.Refusal.{Refusal}
use Rattle.ccr_model.specs.Outcomes.{Outcome, answered, guarded}
use Rattle.ccr_model.specs.Operations.{op_at}
use Rattle.ccr_model.specs.Stores.{held}
use Rattle.ccr_model.specs.Copies.{Copy, Replica, Copies, replica_of, replica_in_step, replaced, without, counted, taking, knowing}
use Rattle.ccr_model.specs.CopyRows.{replicate_row, ack_row, after_ack, sync_row, fail_copy_row, add_copy_row, most_copies, succeeded, unknown}
use Rattle.ccr_model.specs.Given.{gave, gaining, plugged, joined_at, listed}
use Rattle.ccr_model.specs.Leaders.{stale_of, with_stale}
use Rattle.ccr_model.specs.LeaderRows.{write_row, wrote_at, written_operation, primary_takes, conflicts, as_primary, filled, missing_numbers, end_of, resync_mark, resynced_copy, held_from, leader_promote_row, force_promote_row, resync_row, leader_fail_copy_row, settling_requests}
use Rattle.ccr_model.specs.World.{State, at_leader}
use Rattle.ccr_model.specs.Past.{Line, Past, past_with, rewritten, end_of_replica, end_of_stale, resync_given}
use Rattle.ccr_law_base.proofs.Cases.{on_if, on_guards}
use Rattle.ccr_law_base.proofs.Lists.{All-weaker, All-find}
use Rattle.ccr_law_base.proofs.Tests.{itself}
use Rattle.ccr_law_copies.specs.Cores.{IsReplica, CoreOf, IsLiving, StaleOk, AreStale, AreStaleOf}
use Rattle.ccr_law_copies.proofs.Sets.{or_false, all_below}
use Rattle.ccr_law_copies.proofs.Replicas.{gave-same, others-without}
use Rattle.ccr_law_copies.proofs.CopyChanges.{some-within, replica-resynced}
use Rattle.ccr_law_copies.proofs.LeaderRows.{at_copies, at_copies_settling, Found, found_in, written, promoted, forced, filled_is}
use Rattle.ccr_law_copies.proofs.StaleCopies.{found_aside}
use Rattle.ccr_law_settled.specs.Outlines.{CopyOutline, ReplicaOutline, Outline, in_place, leaving, not_resynced, whole_replica, committing, operation_of, writing, copying, acking, resyncing, promoting, forcing, failing, adding}
use Rattle.ccr_law_settled.proofs.Outlined.{copy_outline, replica_outline, replica_outlines, copy_outlines, outline_with, outline_of, with_lists, same_lists, find-map, map-length, map-push, replicas-aside, stale-aside, replaced-given, replaced-quiet, in_place-itself, without-outline, unknown-outline, stale-outline, counted-outline, quiet-outline}

-- the outline after an event, where this is what it comes to
abbrev pub OutlineAfter : Past → Event → Outcome State → Outline
OutlineAfter p event o = outline_of (past_with p (record { event = event; reply = o.reply }) o)

-- nothing changes that the outline tells
pub stays : (p : Past) → IsLiving p
    → outline_with (record { ops = p.line.ops; cut = max p.line.cut p.state.leader.copies.primary.global }) p.given p.state.leader.copies p.state.leader.stale ≡ outline_of p
stays p core = quiet-outline p.line p.given p.state.leader.copies p.state.leader.stale p.state.leader.copies.primary.global core.rest.primary.known

-- the primary counts the line
pub line_count : (line : Line) (given : ℕ → ℕ → Option Operation) (s : Copies) → CoreOf line given s → s.primary.seen.count ≡ length line.ops
line_count line given s core = ap (λ (n : Numbers). n.count) core.rest.primary.gapless

-- the primary was given the line
pub line_given : (line : Line) (given : ℕ → ℕ → Option Operation) (s : Copies) → CoreOf line given s → given s.primary.number ≡ (λ (n : ℕ). slice_get line.ops n)
line_given line given s core = fun_ext core.rest.primary.given

replicas_others : (line : Line) (given : ℕ → ℕ → Option Operation) (s : Copies) → CoreOf line given s → AllByRecursion (λ (r : Replica). (r.copy.number == s.primary.number) ≡ false) s.replicas
replicas_others line given s core =
    All-weaker (λ (r : Replica). IsReplica line s.primary.number s.next (given r.copy.number) r) (λ (r : Replica). (r.copy.number == s.primary.number) ≡ false)
    (λ r ok. ok.other) s.replicas core.rest.replicas_ok

stale_others : (given : ℕ → ℕ → Option Operation) (s : Copies) (stale : List Copy) → AreStale given s.primary.number s.next s.replicas stale
    → AllByRecursion (λ (c : Copy). (c.number == s.primary.number) ≡ false) stale
stale_others given s stale all =
    All-weaker (λ (c : Copy). StaleOk (given c.number) s.primary.number s.next s.replicas c.number c.seen c.global) (λ (c : Copy). (c.number == s.primary.number) ≡ false)
    (λ c ok. ok.other) stale all

stale_apart : (line : Line) (given : ℕ → ℕ → Option Operation) (s : Copies) (copy : ℕ) (r : Replica) (stale : List Copy) → CoreOf line given s
    → AreStale given s.primary.number s.next s.replicas stale → replica_of s copy ≡ Some r → AllByRecursion (λ (c : Copy). (c.number == copy) ≡ false) stale
stale_apart line given s copy r stale core all found =
    All-weaker (λ (c : Copy). StaleOk (given c.number) s.primary.number s.next s.replicas c.number c.seen c.global) (λ (c : Copy). (c.number == copy) ≡ false)
    (λ c ok. found_aside line given s copy r c core found ok) stale all

-- ---- writes

write_tests : (p : Past) (request : WriteRequest) (found : Option Operation) (a b : Bool) (why other : Refusal) → IsLiving p → AreStaleOf p.given p.state.leader
    → OutlineAfter p (events.Write request) (at_copies p (guarded p.state.leader.copies ((a, why) ∷ (b, other) ∷ [])
    (answered (replies.Written (wrote_at p.state.leader.copies request found)) (primary_takes p.state.leader.copies (written_operation request (wrote_at p.state.leader.copies request found))))))
    ≡ (if a then outline_of p else if b then outline_of p
    else committing (record (outline_of p) { line = record p.line { ops = p.line.ops ++ operation_of (length p.line.ops) p.state.leader.copies.term request found ∷ [] } }))
unfolding guarded
write_tests p request found true b why other core stale = stays p core
write_tests p request found false true why other core stale = stays p core
write_tests p request found false false why other core stale =
    let s = p.state.leader.copies in
    let op : Operation = written_operation request (wrote_at s request found) in
    let now : Copies = record s { primary = taking s.primary op.seq (Some op) } in
    let line : Line = record { ops = p.line.ops ++ op ∷ []; cut = p.line.cut } in
    let own : ℕ → Option Operation = gaining (p.given s.primary.number) op.seq (Some op) in
    let count : now.primary.seen.count ≡ length line.ops = ap (λ (n : Numbers). n.count)
    (written p.line p.given s.primary.number s.primary.seen s.primary.global s.replicas s.next op refl core.rest).primary.gapless in
    counted-outline line (gave p.given s.primary.number own) now p.state.leader.stale core.rest.primary.known count
    ∙ ap committing
    (same_lists (outline_with line p.given s p.state.leader.stale) (replica_outlines (gave p.given s.primary.number own) s.replicas) (replica_outlines p.given s.replicas)
    (copy_outlines (gave p.given s.primary.number own) p.state.leader.stale) (copy_outlines p.given p.state.leader.stale)
    (replicas-aside p.given s.primary.number own s.replicas (replicas_others p.line p.given s core))
    (stale-aside p.given s.primary.number own p.state.leader.stale (stale_others p.given s p.state.leader.stale stale))
    ∙ ap (λ (n : ℕ). outline_with (record { ops = p.line.ops ++ operation_of n s.term request found ∷ []; cut = p.line.cut }) p.given s p.state.leader.stale)
    (line_count p.line p.given s core))

pub write_told : (p : Past) (request : WriteRequest) (fault : Option SourceFault) (found : Option Operation) → IsLiving p → AreStaleOf p.given p.state.leader
    → OutlineAfter p (events.Write request) (at_copies p (write_row p.state.leader.copies request fault found)) ≡ writing (outline_of p) request fault found
unfolding write_row
write_told p request (Some fault) found core stale = stays p core
write_told p request None found core stale = write_tests p request found (conflicts request.expect found) (request.create && is_some found) _ _ core stale

-- ---- one replica

-- it was given operations
one_given : (line : Line) (given : ℕ → ℕ → Option Operation) (s : Copies) (copy : ℕ) (r new : Replica) (ops : ℕ → Option Operation) (stale : List Copy) → CoreOf line given s
    → AreStale given s.primary.number s.next s.replicas stale → replica_of s copy ≡ Some r → new.copy.number ≡ r.copy.number
    → outline_with (record { ops = line.ops; cut = max line.cut s.primary.global }) (gave given copy ops) (record s { replicas = replaced copy new s.replicas }) stale
    ≡ with_lists (outline_with line given s stale)
    (in_place copy (record { copy = record { number = new.copy.number; seen = new.copy.seen; ops = ops }; known = new.known; resynced = new.resynced }) (replica_outlines given s.replicas))
    (copy_outlines given stale)
one_given line given s copy r new ops stale core old found number =
    let f : Found line given s.primary.number s.next copy r = found_in line given s copy r core found in
    quiet-outline line (gave given copy ops) (record s { replicas = replaced copy new s.replicas }) stale s.primary.global core.rest.primary.known
    ∙ same_lists (outline_with line given s stale) (replica_outlines (gave given copy ops) (replaced copy new s.replicas))
    (in_place copy (record { copy = record { number = new.copy.number; seen = new.copy.seen; ops = ops }; known = new.known; resynced = new.resynced }) (replica_outlines given s.replicas))
    (copy_outlines (gave given copy ops) stale) (copy_outlines given stale)
    (replaced-given given copy ops new s.replicas (number ∙ f.number) core.rest.apart)
    (stale-aside given copy ops stale (stale_apart line given s copy r stale core old found))

-- the replica of a number in the outline
pub found_outline : (given : ℕ → ℕ → Option Operation) (s : Copies) (copy : ℕ)
    → find (λ r. r.copy.number == copy) (replica_outlines given s.replicas) ≡ option_map {T = Replica} {U = ReplicaOutline} (replica_outline given) (replica_of s copy)
found_outline given s copy = find-map (replica_outline given) (λ r. r.copy.number == copy) s.replicas

replicate_tests : (p : Past) (copy seq : ℕ) (r : Replica) (a b : Bool) (why other : Refusal) → IsLiving p → AreStaleOf p.given p.state.leader → replica_of p.state.leader.copies copy ≡ Some r
    → OutlineAfter p (events.Replicate sides.Leader copy seq) (at_copies p (guarded p.state.leader.copies ((not a, why) ∷ (not b, other) ∷ [])
    (answered replies.Done record p.state.leader.copies {
      replicas = replaced copy (record r { copy = knowing p.state.leader.copies.primary.global (taking r.copy seq (op_at seq (held p.state.leader.copies.primary.store))) }) p.state.leader.copies.replicas;
    })))
    ≡ (if a && b
    then with_lists (outline_of p) (in_place copy (record {
      copy = record { number = r.copy.number; seen = marked r.copy.seen seq; ops = gaining (p.given r.copy.number) seq (slice_get p.line.ops seq) };
      known = r.known;
      resynced = r.resynced;
    }) (replica_outlines p.given p.state.leader.copies.replicas)) (copy_outlines p.given p.state.leader.stale)
    else outline_of p)
unfolding guarded
replicate_tests p copy seq r false b why other core stale is = stays p core
replicate_tests p copy seq r true false why other core stale is = stays p core
replicate_tests p copy seq r true true why other core stale is =
    let s = p.state.leader.copies in
    let f : Found p.line p.given s.primary.number s.next copy r = found_in p.line p.given s copy r core is in
    let new : Replica = record r { copy = knowing s.primary.global (taking r.copy seq (op_at seq (held s.primary.store))) } in
    one_given p.line p.given s copy r new (gaining (p.given copy) seq (p.given s.primary.number seq)) p.state.leader.stale core stale is refl
    ∙ ap (λ (own : ℕ → Option Operation). with_lists (outline_of p) (in_place copy (record {
      copy = record { number = r.copy.number; seen = marked r.copy.seen seq; ops = own };
      known = r.known;
      resynced = r.resynced;
    }) (replica_outlines p.given s.replicas)) (copy_outlines p.given p.state.leader.stale))
    (ap (λ (k : ℕ). gaining (p.given k) seq (p.given s.primary.number seq)) (sym f.number)
    ∙ ap (λ (o : Option Operation). gaining (p.given r.copy.number) seq o) (core.rest.primary.given seq))

pub replicate_told : (p : Past) (copy seq : ℕ) (found : Option Replica) → replica_of p.state.leader.copies copy ≡ found → IsLiving p → AreStaleOf p.given p.state.leader
    → OutlineAfter p (events.Replicate sides.Leader copy seq) (at_copies p (replicate_row p.state.leader.copies copy seq found))
    ≡ copying (outline_of p) copy seq (option_map {T = Replica} {U = ReplicaOutline} (replica_outline p.given) found)
unfolding replicate_row
replicate_told p copy seq None is core stale = stays p core
replicate_told p copy seq (Some r) is core stale =
    let s = p.state.leader.copies in
    let inside : has s.primary.seen seq ≡ nat_lt seq (length p.line.ops) = ap (λ (n : Numbers). has n seq) core.rest.primary.gapless ∙ sym (or_false (nat_lt seq (length p.line.ops))) in
    replicate_tests p copy seq r r.resynced (has s.primary.seen seq) _ _ core stale is
    ∙ ap (λ (b : Bool). if r.resynced && b
    then with_lists (outline_of p) (in_place copy (record {
      copy = record { number = r.copy.number; seen = marked r.copy.seen seq; ops = gaining (p.given r.copy.number) seq (slice_get p.line.ops seq) };
      known = r.known;
      resynced = r.resynced;
    }) (replica_outlines p.given s.replicas)) (copy_outlines p.given p.state.leader.stale)
    else outline_of p) inside

ack_tests : (p : Past) (copy : ℕ) (r : Replica) (a : Bool) (why : Refusal) → IsLiving p
    → OutlineAfter p (events.Ack sides.Leader copy) (at_copies p (guarded p.state.leader.copies ((not a, why) ∷ [])
    (answered (replies.Acked (after_ack p.state.leader.copies copy r).primary.global) (after_ack p.state.leader.copies copy r))))
    ≡ (if a then committing (record (outline_of p) { replicas = in_place copy (record (replica_outline p.given r) { known = r.copy.seen.count }) (replica_outlines p.given p.state.leader.copies.replicas) })
    else outline_of p)
unfolding guarded
ack_tests p copy r false why core = stays p core
ack_tests p copy r true why core =
    let s = p.state.leader.copies in
    let new : Replica = record r { known = r.copy.seen.count; acked = true } in
    counted-outline p.line p.given (record s { replicas = replaced copy new s.replicas }) p.state.leader.stale core.rest.primary.known (line_count p.line p.given s core)
    ∙ ap (λ (rs : List ReplicaOutline). committing (record (outline_of p) { replicas = rs })) (replaced-quiet p.given copy new s.replicas)

pub ack_told : (p : Past) (copy : ℕ) (found : Option Replica) → IsLiving p
    → OutlineAfter p (events.Ack sides.Leader copy) (at_copies p (ack_row p.state.leader.copies copy found))
    ≡ acking (outline_of p) copy (option_map {T = Replica} {U = ReplicaOutline} (replica_outline p.given) found)
unfolding ack_row
ack_told p copy None core = stays p core
ack_told p copy (Some r) core = ack_tests p copy r r.resynced _ core

-- a replica changed that is told as it was
same_told : (p : Past) (copy : ℕ) (r new : Replica) → IsLiving p → replica_of p.state.leader.copies copy ≡ Some r → replica_outline p.given new ≡ replica_outline p.given r
    → outline_with (record { ops = p.line.ops; cut = max p.line.cut p.state.leader.copies.primary.global }) p.given
    (record p.state.leader.copies { replicas = replaced copy new p.state.leader.copies.replicas }) p.state.leader.stale ≡ outline_of p
same_told p copy r new core is same =
    let s = p.state.leader.copies in
    quiet-outline p.line p.given (record s { replicas = replaced copy new s.replicas }) p.state.leader.stale s.primary.global core.rest.primary.known
    ∙ ap (λ (rs : List ReplicaOutline). record (outline_of p) { replicas = rs })
    (replaced-quiet p.given copy new s.replicas ∙ (ap (λ (x : ReplicaOutline). in_place copy x (replica_outlines p.given s.replicas)) same
    ∙ in_place-itself copy (replica_outline p.given r) (replica_outlines p.given s.replicas)
    (found_outline p.given s copy ∙ ap (λ (o : Option Replica). option_map {T = Replica} {U = ReplicaOutline} (replica_outline p.given) o) is)))

pub sync_told : (p : Past) (copy : ℕ) (found : Option Replica) → replica_of p.state.leader.copies copy ≡ found → IsLiving p
    → OutlineAfter p (events.Sync sides.Leader copy) (at_copies_settling p (sync_row p.state.leader.copies copy found)) ≡ outline_of p
unfolding sync_row
sync_told p copy None is core = stays p core
sync_told p copy (Some r) is core =
    on_guards (λ (o : Outcome Copies). OutlineAfter p (events.Sync sides.Leader copy) (at_copies_settling p o) ≡ outline_of p) p.state.leader.copies _ _
    (λ why. stays p core)
    (λ tests.
    let s = p.state.leader.copies in
    on_if (λ (c : Copy). outline_with (record { ops = p.line.ops; cut = max p.line.cut s.primary.global }) p.given
    (record s { replicas = replaced copy (record r { copy = c }) s.replicas }) p.state.leader.stale ≡ outline_of p)
    (supersedes s.primary.leases r.copy.leases) (record (knowing s.primary.global r.copy) { leases = s.primary.leases }) (knowing s.primary.global r.copy)
    (λ newer. same_told p copy r (record r { copy = record (knowing s.primary.global r.copy) { leases = s.primary.leases } }) core is refl)
    (λ older. same_told p copy r (record r { copy = knowing s.primary.global r.copy }) core is refl))

-- ---- resyncs

-- a replica that is resynced has the line
resynced_is : (line : Line) (given : ℕ → ℕ → Option Operation) (s : Copies) (copy : ℕ) (r : Replica) → CoreOf line given s → r.resynced ≡ false
    → Found line given s.primary.number s.next copy r
    → (joined_at (resync_mark s r) (given copy) (given s.primary.number) ≡ (λ (n : ℕ). slice_get line.ops n)) × ((resynced_copy s (resync_mark s r) r.copy).seen ≡ record { count = length line.ops; above = [] })
resynced_is line given s copy r core wasnt f =
    let low : resync_mark s r ≤ line.cut = (let own : r.copy.global ≤ line.cut = f.replica.low in let all : s.primary.global ≤ line.cut = core.rest.primary.known in omega arith) in
    let ok = replica-resynced line s.primary.number s.next (given copy) r.copy.number r.copy.seen r.copy.global r.known r.resynced r.acked (resync_mark s r) s.primary.seen.count (given s.primary.number)
    low (ap (λ (n : Numbers). n.count) core.rest.primary.gapless) core.rest.primary.given core.rest.primary.numbered core.rest.primary.full wasnt f.replica in
    let same : (n : ℕ) → joined_at (resync_mark s r) (given copy) (given s.primary.number) n ≡ slice_get line.ops n
    = λ n. on_if (λ (o : Option Operation). o ≡ slice_get line.ops n) (nat_lt n (resync_mark s r)) (given copy n) (given s.primary.number n)
    (λ is. f.replica.committed n (let lt : n < resync_mark s r = grind (arith, nat_tests) in omega arith)) (λ past. core.rest.primary.given n) in (
      fun_ext same,
      all_below (resynced_copy s (resync_mark s r) r.copy).seen (length line.ops) ok.ordered
          (λ n. ok.processed n ∙ (ap (λ (o : Option Operation). is_some o) (same n) ∙ some-within line.ops n)),
    )

-- what a resync comes to, where this is what it does and what it is answered
resync_tests : (p : Past) (copy : ℕ) (r : Replica) (b : Bool) → r.resynced ≡ b → replica_of p.state.leader.copies copy ≡ Some r → IsLiving p → AreStaleOf p.given p.state.leader
    → OutlineAfter p (events.Resync copy) (at_copies p (if b then answered (replies.Resynced 0 0) p.state.leader.copies
    else answered (replies.Resynced (held_from (resync_mark p.state.leader.copies r) r.copy.store) (p.state.leader.copies.primary.seen.count - resync_mark p.state.leader.copies r))
    record p.state.leader.copies {
      replicas = replaced copy (record r { copy = resynced_copy p.state.leader.copies (resync_mark p.state.leader.copies r) r.copy; resynced = true }) p.state.leader.copies.replicas;
    }))
    ≡ (if b then outline_of p
    else record (outline_of p) { replicas = in_place copy (record (whole_replica p.line.ops r.copy.number) { known = r.known }) (replica_outlines p.given p.state.leader.copies.replicas) })
resync_tests p copy r true was is core stale =
    let s = p.state.leader.copies in
    subst (λ (o : Option Replica). outline_with (record { ops = p.line.ops; cut = max p.line.cut s.primary.global }) (resync_given p.state.leader p.given copy o) s p.state.leader.stale ≡ outline_of p) (sym is)
    (subst (λ (b : Bool). outline_with (record { ops = p.line.ops; cut = max p.line.cut s.primary.global })
    (if b then p.given else gave p.given copy (joined_at (resync_mark s r) (p.given copy) (p.given s.primary.number))) s p.state.leader.stale ≡ outline_of p) (sym was)
    (stays p core))
resync_tests p copy r false wasnt is core stale =
    let s = p.state.leader.copies in
    let f : Found p.line p.given s.primary.number s.next copy r = found_in p.line p.given s copy r core is in
    let new : Replica = record r { copy = resynced_copy s (resync_mark s r) r.copy; resynced = true } in
    let made = resynced_is p.line p.given s copy r core wasnt f in
    let told : Outline = record (outline_of p) { replicas = in_place copy (record (whole_replica p.line.ops r.copy.number) { known = r.known }) (replica_outlines p.given s.replicas) } in
    subst (λ (o : Option Replica). outline_with (record { ops = p.line.ops; cut = max p.line.cut s.primary.global }) (resync_given p.state.leader p.given copy o)
    (record s { replicas = replaced copy new s.replicas }) p.state.leader.stale ≡ told) (sym is)
    (subst (λ (b : Bool). outline_with (record { ops = p.line.ops; cut = max p.line.cut s.primary.global })
    (if b then p.given else gave p.given copy (joined_at (resync_mark s r) (p.given copy) (p.given s.primary.number)))
    (record s { replicas = replaced copy new s.replicas }) p.state.leader.stale ≡ told) (sym wasnt)
    (one_given p.line p.given s copy r new (joined_at (resync_mark s r) (p.given copy) (p.given s.primary.number)) p.state.leader.stale core stale is refl
    ∙ (ap (λ (own : ℕ → Option Operation). with_lists (outline_of p)
    (in_place copy (record { copy = record { number = r.copy.number; seen = new.copy.seen; ops = own }; known = r.known; resynced = true }) (replica_outlines p.given s.replicas))
    (copy_outlines p.given p.state.leader.stale)) made.0
    ∙ ap (λ (seen : Numbers). with_lists (outline_of p)
    (in_place copy (record { copy = record { number = r.copy.number; seen = seen; ops = λ n. slice_get p.line.ops n }; known = r.known; resynced = true }) (replica_outlines p.given s.replicas))
    (copy_outlines p.given p.state.leader.stale)) made.1)))

pub resync_told : (p : Past) (copy : ℕ) (found : Option Replica) → replica_of p.state.leader.copies copy ≡ found → IsLiving p → AreStaleOf p.given p.state.leader
    → OutlineAfter p (events.Resync copy) (at_copies p (resync_row p.state.leader.copies copy found))
    ≡ resyncing (outline_of p) copy (option_map {T = Replica} {U = ReplicaOutline} (replica_outline p.given) found)
unfolding resync_row
resync_told p copy None is core stale = stays p core
resync_told p copy (Some r) is core stale = resync_tests p copy r r.resynced refl is core stale

-- ---- promotions

-- the outline after a promotion: `own` are the operations of the new primary, and `at` is the replica as it was found
abbrev pub PromotedOutline : Past → ℕ → Option Replica → (ℕ → Option Operation) → Copy → Outline
PromotedOutline p copy at own primary =
    outline_with (record { ops = rewritten p.line own (end_of_replica at); cut = max p.line.cut (succeeded p.state.leader.copies copy primary unknown).primary.global })
    (gave p.given copy (plugged (p.given copy) (p.state.leader.copies.term + 1) (end_of_replica at)))
    (succeeded p.state.leader.copies copy primary unknown) p.state.leader.stale

promoted_is : (p : Past) (copy : ℕ) (r : Replica) → replica_of p.state.leader.copies copy ≡ Some r → IsLiving p → AreStaleOf p.given p.state.leader
    → PromotedOutline p copy (Some r) (plugged (p.given copy) (p.state.leader.copies.term + 1) (end_of r.copy.seen))
    (record r.copy {
      seen = fold {A = ℕ} {B = Numbers} marked r.copy.seen (missing_numbers r.copy.seen);
      store = (filled (p.state.leader.copies.term + 1) (missing_numbers r.copy.seen) r.copy).store;
      leases = record r.copy.leases { term = p.state.leader.copies.term + 1 };
    })
    ≡ promoting (outline_of p) copy (Some (replica_outline p.given r))
promoted_is p copy r is core stale =
    let s = p.state.leader.copies in
    let f : Found p.line p.given s.primary.number s.next copy r = found_in p.line p.given s copy r core is in
    let own : ℕ → Option Operation = plugged (p.given copy) (s.term + 1) (end_of r.copy.seen) in
    let line : Line = record { ops = rewritten p.line own (end_of r.copy.seen); cut = p.line.cut } in
    let seen : Numbers = fold {A = ℕ} {B = Numbers} marked r.copy.seen (missing_numbers r.copy.seen) in
    let primary : Copy = record r.copy { seen = seen; store = (filled (s.term + 1) (missing_numbers r.copy.seen) r.copy).store; leases = record r.copy.leases { term = s.term + 1 } } in
    let now : Copies = record s { term = s.term + 1; primary = primary; replicas = map {A = Replica} {B = Replica} unknown (without copy s.replicas) } in
    let given : ℕ → ℕ → Option Operation = gave p.given copy own in
    let count : seen.count ≡ length line.ops = ap (λ (n : Numbers). n.count) (promoted p.line p.given s copy r (s.term + 1) core is).primary.gapless in
    counted-outline line given now p.state.leader.stale f.replica.low count
    ∙ ap committing
    (same_lists (outline_with line given now p.state.leader.stale) (replica_outlines given (map {A = Replica} {B = Replica} unknown (without copy s.replicas)))
    (map {A = ReplicaOutline} {B = ReplicaOutline} not_resynced (leaving copy (replica_outlines p.given s.replicas)))
    (copy_outlines given p.state.leader.stale) (copy_outlines p.given p.state.leader.stale)
    (unknown-outline given (without copy s.replicas)
    ∙ ap (λ (rs : List ReplicaOutline). map {A = ReplicaOutline} {B = ReplicaOutline} not_resynced rs)
    (replicas-aside p.given copy own (without copy s.replicas) (others-without copy s.replicas core.rest.apart) ∙ without-outline p.given copy s.replicas))
    (stale-aside p.given copy own p.state.leader.stale (stale_apart p.line p.given s copy r p.state.leader.stale core stale is))
    ∙ ap (λ (k : ℕ). record (outline_of p) {
      term = s.term + 1;
      line = record { ops = rewritten p.line (plugged (p.given k) (s.term + 1) (end_of r.copy.seen)) (end_of r.copy.seen); cut = p.line.cut };
      primary = r.copy.number;
      replicas = map {A = ReplicaOutline} {B = ReplicaOutline} not_resynced (leaving copy (replica_outlines p.given s.replicas));
    }) (sym f.number))

pub promote_told : (p : Past) (copy : ℕ) (found : Option Replica) → replica_of p.state.leader.copies copy ≡ found → IsLiving p → AreStaleOf p.given p.state.leader
    → OutlineAfter p (events.Promote sides.Leader copy) (at_leader p.state (leader_promote_row p.state.leader copy found))
    ≡ promoting (outline_of p) copy (option_map {T = Replica} {U = ReplicaOutline} (replica_outline p.given) found)
unfolding leader_promote_row
promote_told p copy None is core stale = stays p core
promote_told p copy (Some r) is core stale =
    let s = p.state.leader.copies in
    let told : Outline = promoting (outline_of p) copy (Some (replica_outline p.given r)) in
    subst (λ (o : Option Replica). PromotedOutline p copy o (gave p.given copy (plugged (p.given copy) (s.term + 1) (end_of_replica o)) copy) (as_primary (s.term + 1) r.copy) ≡ told) (sym is)
    (subst (λ (f : ℕ → Option Operation). PromotedOutline p copy (Some r) f (as_primary (s.term + 1) r.copy) ≡ told)
    (sym (gave-same p.given copy (plugged (p.given copy) (s.term + 1) (end_of r.copy.seen)) copy (itself copy)))
    (subst (λ (c : Copy). PromotedOutline p copy (Some r) (plugged (p.given copy) (s.term + 1) (end_of r.copy.seen)) (record c { leases = record c.leases { term = s.term + 1 } }) ≡ told)
    (sym (filled_is (s.term + 1) (missing_numbers r.copy.seen) r.copy))
    (promoted_is p copy r is core stale)))

-- the outline after a forced promotion
abbrev pub ForcedOutline : Past → ℕ → Option Copy → (ℕ → Option Operation) → Copy → Outline
ForcedOutline p copy at own whole =
    outline_with (record { ops = listed own 0 (end_of_stale at); cut = max (length (listed own 0 (end_of_stale at))) whole.seen.count })
    (gave p.given copy (plugged (p.given copy) (p.state.leader.copies.term + 1) (end_of_stale at)))
    (record p.state.leader.copies {
      term = p.state.leader.copies.term + 1;
      primary = record whole { global = whole.seen.count; leases = record { term = p.state.leader.copies.term + 1; version = 0; leases = [] } };
      replicas = [];
    }) []

forced_is : (p : Past) (copy : ℕ) (c : Copy) → stale_of p.state.leader.stale copy ≡ Some c → AreStaleOf p.given p.state.leader
    → ForcedOutline p copy (Some c) (plugged (p.given copy) (p.state.leader.copies.term + 1) (end_of c.seen))
    (record c { seen = fold {A = ℕ} {B = Numbers} marked c.seen (missing_numbers c.seen); store = (filled (p.state.leader.copies.term + 1) (missing_numbers c.seen) c).store })
    ≡ forcing (outline_of p) copy (Some (copy_outline p.given c))
forced_is p copy c is stale =
    let s = p.state.leader.copies in
    let both : StaleOk (p.given c.number) s.primary.number s.next s.replicas c.number c.seen c.global × ((c.number == copy) ≡ true)
    = All-find (λ (x : Copy). StaleOk (p.given x.number) s.primary.number s.next s.replicas x.number x.seen x.global) (λ x. x.number == copy) p.state.leader.stale c stale is in
    let same : c.number ≡ copy = eqb-true c.number copy both.1 in
    let ok : StaleOk (p.given copy) s.primary.number s.next s.replicas c.number c.seen c.global
    = subst (λ (k : ℕ). StaleOk (p.given k) s.primary.number s.next s.replicas c.number c.seen c.global) same both.0 in
    let seen : Numbers = fold {A = ℕ} {B = Numbers} marked c.seen (missing_numbers c.seen) in
    let ops : List Operation = listed (plugged (p.given copy) (s.term + 1) (end_of c.seen)) 0 (end_of c.seen) in
    let count : seen.count ≡ length ops
    = ap (λ (n : Numbers). n.count) (forced p.given copy s.primary.number s.next (s.term + 1) s.replicas c.number c.seen c.global same ok).rest.primary.gapless in
    let cut : max (length ops) seen.count ≡ length ops = omega arith in
    ap (λ (n : ℕ). record (outline_of p) { term = s.term + 1; line = record { ops = ops; cut = n }; primary = c.number; replicas = []; stale = [] }) cut
    ∙ ap (λ (k : ℕ). record (outline_of p) {
      term = s.term + 1;
      line = record { ops = listed (plugged (p.given k) (s.term + 1) (end_of c.seen)) 0 (end_of c.seen); cut = length (listed (plugged (p.given k) (s.term + 1) (end_of c.seen)) 0 (end_of c.seen)) };
      primary = c.number;
      replicas = [];
      stale = [];
    }) (sym same)

pub force_told : (p : Past) (copy : ℕ) (found : Option Copy) → stale_of p.state.leader.stale copy ≡ found → IsLiving p → AreStaleOf p.given p.state.leader
    → OutlineAfter p (events.ForcePromote copy) (at_leader p.state (force_promote_row p.state.leader copy found))
    ≡ forcing (outline_of p) copy (option_map {T = Copy} {U = CopyOutline} (copy_outline p.given) found)
unfolding force_promote_row
force_told p copy None is core stale = stays p core
force_told p copy (Some c) is core stale =
    let s = p.state.leader.copies in
    let told : Outline = forcing (outline_of p) copy (Some (copy_outline p.given c)) in
    subst (λ (o : Option Copy). ForcedOutline p copy o (gave p.given copy (plugged (p.given copy) (s.term + 1) (end_of_stale o)) copy) (filled (s.term + 1) (missing_numbers c.seen) c) ≡ told) (sym is)
    (subst (λ (f : ℕ → Option Operation). ForcedOutline p copy (Some c) f (filled (s.term + 1) (missing_numbers c.seen) c) ≡ told)
    (sym (gave-same p.given copy (plugged (p.given copy) (s.term + 1) (end_of c.seen)) copy (itself copy)))
    (subst (λ (x : Copy). ForcedOutline p copy (Some c) (plugged (p.given copy) (s.term + 1) (end_of c.seen)) x ≡ told)
    (sym (filled_is (s.term + 1) (missing_numbers c.seen) c))
    (forced_is p copy c is stale)))

pub found_stale : (given : ℕ → ℕ → Option Operation) (stale : List Copy) (copy : ℕ)
    → find (λ c. c.number == copy) (copy_outlines given stale) ≡ option_map {T = Copy} {U = CopyOutline} (copy_outline given) (stale_of stale copy)
found_stale given stale copy = find-map (copy_outline given) (λ c. c.number == copy) stale

-- ---- copies that leave and come

pub fail_told : (p : Past) (copy : ℕ) (found : Option Replica) → IsLiving p
    → OutlineAfter p (events.FailCopy sides.Leader copy) (at_leader p.state (settling_requests (leader_fail_copy_row p.state.leader copy found)))
    ≡ failing (outline_of p) copy (option_map {T = Replica} {U = ReplicaOutline} (replica_outline p.given) found)
unfolding leader_fail_copy_row fail_copy_row
fail_told p copy None core = stays p core
fail_told p copy (Some r) core =
    let s = p.state.leader.copies in
    counted-outline p.line p.given (record s { replicas = without copy s.replicas }) (with_stale r.copy p.state.leader.stale) core.rest.primary.known (line_count p.line p.given s core)
    ∙ ap committing
    (same_lists (outline_of p) (replica_outlines p.given (without copy s.replicas)) (leaving copy (replica_outlines p.given s.replicas))
    (copy_outlines p.given (with_stale r.copy p.state.leader.stale)) _ (without-outline p.given copy s.replicas) (stale-outline p.given r.copy p.state.leader.stale))

-- a copy that is added has the line
new_is : (p : Past) → IsLiving p
    → replica_outline (gave p.given p.state.leader.copies.next (p.given p.state.leader.copies.primary.number))
    (replica_in_step (record p.state.leader.copies.primary { number = p.state.leader.copies.next }) p.state.leader.copies.primary.seen.count)
    ≡ whole_replica p.line.ops p.state.leader.copies.next
new_is p core =
    let s = p.state.leader.copies in
    ap (λ (own : ℕ → Option Operation). record { copy = record { number = s.next; seen = s.primary.seen; ops = own }; known = s.primary.seen.count; resynced = true })
    (gave-same p.given s.next (p.given s.primary.number) s.next (itself s.next) ∙ line_given p.line p.given s core)
    ∙ ap (λ (seen : Numbers). record { copy = record { number = s.next; seen = seen; ops = λ (n : ℕ). slice_get p.line.ops n }; known = seen.count; resynced = true }) core.rest.primary.gapless

add_tests : (p : Past) (a : Bool) (why : Refusal) → IsLiving p → AreStaleOf p.given p.state.leader
    → OutlineAfter p (events.AddCopy sides.Leader) (at_copies p (guarded p.state.leader.copies ((a, why) ∷ [])
    (answered (replies.Added p.state.leader.copies.next) (counted record p.state.leader.copies {
      replicas = p.state.leader.copies.replicas ++ replica_in_step (record p.state.leader.copies.primary { number = p.state.leader.copies.next }) p.state.leader.copies.primary.seen.count ∷ [];
      next = p.state.leader.copies.next + 1;
    }))))
    ≡ (if a then outline_of p
    else committing (record (outline_of p) { replicas = replica_outlines p.given p.state.leader.copies.replicas ++ whole_replica p.line.ops p.state.leader.copies.next ∷ []; next = p.state.leader.copies.next + 1 }))
unfolding guarded
add_tests p true why core stale = stays p core
add_tests p false why core stale =
    let s = p.state.leader.copies in
    let new : Replica = replica_in_step (record s.primary { number = s.next }) s.primary.seen.count in
    let now : Copies = record s { replicas = s.replicas ++ new ∷ []; next = s.next + 1 } in
    let given : ℕ → ℕ → Option Operation = gave p.given s.next (p.given s.primary.number) in
    counted-outline p.line given now p.state.leader.stale core.rest.primary.known (line_count p.line p.given s core)
    ∙ ap committing
    (same_lists (outline_with p.line given now p.state.leader.stale) (replica_outlines given (s.replicas ++ new ∷ [])) (replica_outlines p.given s.replicas ++ whole_replica p.line.ops s.next ∷ [])
    (copy_outlines given p.state.leader.stale) (copy_outlines p.given p.state.leader.stale)
    (map-push (replica_outline given) s.replicas new
    ∙ (ap (λ (rs : List ReplicaOutline). rs ++ replica_outline given new ∷ []) (replicas-aside p.given s.next (p.given s.primary.number) s.replicas
    (All-weaker (λ (r : Replica). IsReplica p.line s.primary.number s.next (p.given r.copy.number) r) (λ (r : Replica). (r.copy.number == s.next) ≡ false)
    (λ r ok. let less : r.copy.number < s.next = ok.old in grind (arith, nat_tests)) s.replicas core.rest.replicas_ok))
    ∙ ap (λ (x : ReplicaOutline). replica_outlines p.given s.replicas ++ x ∷ []) (new_is p core)))
    (stale-aside p.given s.next (p.given s.primary.number) p.state.leader.stale
    (All-weaker (λ (c : Copy). StaleOk (p.given c.number) s.primary.number s.next s.replicas c.number c.seen c.global) (λ (c : Copy). (c.number == s.next) ≡ false)
    (λ c ok. let less : c.number < s.next = ok.old in grind (arith, nat_tests)) p.state.leader.stale stale)))

pub add_told : (p : Past) → IsLiving p → AreStaleOf p.given p.state.leader
    → OutlineAfter p (events.AddCopy sides.Leader) (at_copies p (add_copy_row p.state.leader.copies)) ≡ adding (outline_of p)
unfolding add_copy_row
add_told p core stale =
    let s = p.state.leader.copies in
    add_tests p (nat_le most_copies (length s.replicas + 1)) _ core stale
    ∙ ap (λ (n : ℕ). if nat_le most_copies (n + 1) then outline_of p
    else committing (record (outline_of p) { replicas = replica_outlines p.given s.replicas ++ whole_replica p.line.ops s.next ∷ []; next = s.next + 1 }))
    (sym (map-length (replica_outline p.given) s.replicas))
