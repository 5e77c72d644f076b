-- What a look-up of an index tells, and what of it gives a plan.
use Rattle.std.proofs.Common.{◌≡◌, ℕ, ◌≤◌, Bool, true, false, Option, Some, None, Result, Ok, Err, refl, sym, ap, subst, ◌∙◌, arith}
use Rattle.std.specs.Prelude.{IfOk, IfErr, OnOk, MatchOption, is_ok}
use Rattle.std.specs.Result.{result_err}
use Rattle.std.specs.Option.{option_map_or}
use Rattle.ccr_op.specs.declared.index_name.IndexName.{IndexName}
use Rattle.ccr_meta.specs.declared.faults.MetaFault.{MetaFault}
use Rattle.ccr_meta.specs.declared.faults.MetaFault.TheVariants.{NoIndex}
use Rattle.ccr_meta.specs.declared.index_meta.IndexMeta.{IndexMeta}
use Rattle.ccr_meta.specs.Names.{IsIn, Names, index_at}
use Rattle.ccr_meta.specs.Guards.{first_refusal}
use Rattle.ccr_meta.specs.NameGuards.{find_guards}
use Rattle.ccr_plans.specs.Planned.{Planned}
use Rattle.ccr_plans.specs.Forms.{first_refused, refused, with_index}

-- ---- the answer of a look-up, by its variant

pub found_err : {X : Type 0} (o : Option MetaFault) (r : Result X MetaFault) → MatchOption o (is_ok r ≡ true) (λ fault. result_err r ≡ Some fault) → IfErr r (λ fault. o ≡ Some fault)
found_err None (Ok x) h = tt
found_err None (Err e) h = absurd (let no_fault : false ≡ true = h in cc)
found_err (Some fault) (Ok x) h = tt
found_err (Some fault) (Err e) h = sym h

pub found_ok : {X : Type 0} (o : Option MetaFault) (r : Result X MetaFault) → MatchOption o (is_ok r ≡ true) (λ fault. result_err r ≡ Some fault) → OnOk r (o ≡ None)
found_ok None (Ok x) h = refl
found_ok None (Err e) h = tt
found_ok (Some fault) (Ok x) h = absurd (let told : ◌≡◌ {A = Option MetaFault} None (Some fault) = h in cc)
found_ok (Some fault) (Err e) h = tt

pub IsIn-more : (worlds more : ℕ) (x : IndexMeta) → worlds ≤ more → IsIn worlds x → IsIn more x
IsIn-more worlds more x le h = record {
  some = h.some;
  few = h.few;
  there = let there = h.there in omega arith;
  replicas = h.replicas;
  retention = h.retention;
  period = h.period;
  period_fits = h.period_fits;
  number = h.number;
  leader = h.leader;
}

-- ---- what a refusal gives

pub first_refused-some : (o : Option MetaFault) (fault : MetaFault) (plan : Planned) → o ≡ Some fault → option_map_or refused o plan ≡ refused fault
first_refused-some o fault plan e = ap (λ (o : Option MetaFault). option_map_or refused o plan) e

pub first_refused-none : (o : Option MetaFault) (plan : Planned) → o ≡ None → option_map_or refused o plan ≡ plan
first_refused-none o plan e = ap (λ (o : Option MetaFault). option_map_or refused o plan) e

-- the index is there
pub with_index-at : (names : Names) (index : IndexName) (plan : IndexMeta → Planned) (x : IndexMeta) → first_refusal (find_guards names index) ≡ None → index_at names index ≡ Some x
    → with_index names index plan ≡ plan x
with_index-at names index plan x ok at =
    first_refused-none (first_refusal (find_guards names index)) (option_map_or plan (index_at names index) (refused NoIndex)) ok
    ∙ ap (λ (o : Option IndexMeta). option_map_or plan o (refused NoIndex)) at
