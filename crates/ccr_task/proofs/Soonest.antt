-- The earliest time until which a read waits, over the changes of the reads.
use Rattle.std.proofs.Common.{◌≡◌, ℕ, ◌<◌, zero, suc, List, [], ◌∷◌, ◌++◌, length, get_or, set, map, None, sym, ◌∙◌, ap, arith}
use Rattle.std.specs.List.{remove}
use Rattle.ccr_model.specs.Settling.{time_of}
use Rattle.ccr_model.specs.Tasks.{Read}
use Rattle.ccr_task.specs.Indexed.{soonest_of}
use Rattle.ccr_task.specs.Ordering.{earlier}
use Rattle.ccr_task.proofs.Times.{earlier-assoc, earlier-swap, least-time_more}

soonest-more : (r : Read) (reads : List Read) → soonest_of (r ∷ reads) ≡ earlier (time_of r.progress) (soonest_of reads)
soonest-more r reads = least-time_more r.progress (map (λ (x : Read). x.progress) reads)

pub soonest-push : (reads : List Read) (y : Read) → time_of y.progress ≡ None → soonest_of (reads ++ y ∷ []) ≡ soonest_of reads
soonest-push [] y none = soonest-more y [] ∙ ap (λ o. earlier o None) none
soonest-push (x ∷ reads) y none = soonest-more x (reads ++ y ∷ []) ∙ (ap (earlier (time_of x.progress)) (soonest-push reads y none) ∙ sym (soonest-more x reads))

pub soonest-set : (reads : List Read) (i : ℕ) (x y : Read) → i < length reads → x ≡ get_or reads i x → time_of x.progress ≡ None → soonest_of (set reads i y) ≡ earlier (soonest_of reads) (time_of y.progress)
soonest-set [] i x y within at none = absurd (omega arith)
soonest-set (r ∷ reads) zero x y within at none =
    let own : time_of r.progress ≡ None = ap (λ (z : Read). time_of z.progress) (sym at) ∙ none in
    soonest-more y reads ∙ (earlier-swap (time_of y.progress) (soonest_of reads)
    ∙ ap (λ o. earlier o (time_of y.progress)) (sym (soonest-more r reads ∙ ap (λ o. earlier o (soonest_of reads)) own)))
soonest-set (r ∷ reads) (suc i) x y within at none =
    soonest-more r (set reads i y) ∙ (ap (earlier (time_of r.progress)) (soonest-set reads i x y (omega arith) at none)
    ∙ (sym (earlier-assoc (time_of r.progress) (soonest_of reads) (time_of y.progress)) ∙ ap (λ o. earlier o (time_of y.progress)) (sym (soonest-more r reads))))

pub soonest-remove : (reads : List Read) (i : ℕ) (x : Read) → i < length reads → x ≡ get_or reads i x → time_of x.progress ≡ None → soonest_of (remove reads i) ≡ soonest_of reads
soonest-remove [] i x within at none = absurd (omega arith)
soonest-remove (r ∷ reads) zero x within at none =
    let own : time_of r.progress ≡ None = ap (λ (z : Read). time_of z.progress) (sym at) ∙ none in
    sym (soonest-more r reads ∙ ap (λ o. earlier o (soonest_of reads)) own)
soonest-remove (r ∷ reads) (suc i) x within at none =
    soonest-more r (remove reads i) ∙ (ap (earlier (time_of r.progress)) (soonest-remove reads i x (omega arith) at none) ∙ sym (soonest-more r reads))
