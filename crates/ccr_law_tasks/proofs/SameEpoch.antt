-- No function of a task but its start changes its epoch.
use Rattle.std.specs.Prelude.{nat_lt}
use Rattle.std.specs.List.{filter}
use Rattle.std.proofs.Common.{◌≡◌, ◌∙◌, ℕ, ◌-◌, min, zero, suc, ◌&&◌, List, [], ◌∷◌, length, refl}
use Rattle.ccr_model.specs.Operations.{is_empty}
use Rattle.ccr_model.specs.Requests.{Sending, quiet, followed_by, is_due}
use Rattle.ccr_model.specs.Tasks.{Task, Read, is_active, may_read, has_budget, is_held, sent_again, all_sent_again, with_batch, with_batches, fill_writes, fill_held, with_read, next_read, with_reads, fill_reads, fill_peek, fill, filled_if_active, in_order_of_request, due_reads_sent, due_writes_sent, ticked}
use Rattle.ccr_law_base.proofs.Cases.{on_if}

batches-epoch : (n : ℕ) (t : Task) → (with_batches n t).epoch ≡ t.epoch
batches-epoch zero t = refl
batches-epoch (suc n) t = on_if (λ (u : Task). u.epoch ≡ t.epoch) (is_empty t.buffer) t (with_batches n (with_batch t)) (λ is. refl) (λ isnt. batches-epoch n (with_batch t))

again-epoch : (rs : List Read) (t : Task) → (all_sent_again rs t).next.epoch ≡ t.epoch
again-epoch [] t = refl
again-epoch (r ∷ rs) t = again-epoch rs (sent_again t r).next

held-epoch : (t : Task) → (fill_held t).next.epoch ≡ t.epoch
held-epoch t = on_if (λ (done : Sending Task). done.next.epoch ≡ t.epoch) (may_read t) (all_sent_again (filter is_held t.reads) t) (quiet t) (λ is. again-epoch (filter is_held t.reads) t) (λ isnt. refl)

reads-epoch : (n : ℕ) (t : Task) → (with_reads n t).next.epoch ≡ t.epoch
reads-epoch zero t = refl
reads-epoch (suc n) t =
    on_if (λ (done : Sending Task). done.next.epoch ≡ t.epoch) (has_budget t && nat_lt t.next t.known) (followed_by (next_read t) (with_reads n)) (quiet t)
    (λ is. reads-epoch n (next_read t).next) (λ isnt. refl)

peek-epoch : (t : Task) → (fill_peek t).next.epoch ≡ t.epoch
peek-epoch t =
    on_if (λ (done : Sending Task). done.next.epoch ≡ t.epoch) (is_empty t.reads && has_budget t) (with_read t t.next t.next t.params.max_read_request_operation_count) (quiet t)
    (λ is. refl) (λ isnt. refl)

pub fill-epoch : (t : Task) → (fill t).next.epoch ≡ t.epoch
fill-epoch t =
    let a : Task = fill_writes t in
    let b : Task = (fill_held a).next in
    let c : Task = (fill_reads b).next in
    let to_a : a.epoch ≡ t.epoch = batches-epoch (min (t.params.max_outstanding_write_requests - length t.writes) (length t.buffer)) t in
    let to_b : b.epoch ≡ a.epoch = held-epoch a in
    let to_c : c.epoch ≡ b.epoch = reads-epoch (min (b.params.max_outstanding_read_requests - length b.reads) (b.known - b.next)) b in
    let to_d : (fill_peek c).next.epoch ≡ c.epoch = peek-epoch c in
    to_d ∙ (to_c ∙ (to_b ∙ to_a))

pub filled-epoch : (t : Task) → (filled_if_active t).next.epoch ≡ t.epoch
filled-epoch t = on_if (λ (done : Sending Task). done.next.epoch ≡ t.epoch) (is_active t.phase) (fill t) (quiet t) (λ is. fill-epoch t) (λ isnt. refl)

due-epoch : (now : ℕ) (t : Task) → (due_reads_sent now t).next.epoch ≡ t.epoch
due-epoch now t =
    on_if (λ (done : Sending Task). done.next.epoch ≡ t.epoch) (may_read t) (all_sent_again (in_order_of_request (filter (λ r. is_due now r.progress) t.reads)) t) (quiet t)
    (λ is. again-epoch (in_order_of_request (filter (λ r. is_due now r.progress) t.reads)) t) (λ isnt. refl)

pub ticked-epoch : (now : ℕ) (t : Task) → (ticked now t).next.epoch ≡ t.epoch
ticked-epoch now t =
    let after : Task = (due_reads_sent now t).next in
    let a : after.epoch ≡ t.epoch = due-epoch now t in
    let b : (filled_if_active (due_writes_sent now after)).next.epoch ≡ after.epoch = filled-epoch (due_writes_sent now after) in
    b ∙ a
