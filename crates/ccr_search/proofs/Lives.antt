-- The operation that put a live document in place, and the hit that it makes.
use Rattle.std.proofs.Common.{◌≡◌, ◌⊎◌, inl, inr, ℕ, ◌+◌, ◌≤◌, ◌==◌, cond, Bool, true, false, filter, Option, Some, None, option_and_then, List, [], ◌∷◌, count_by, refl, sym, ◌∙◌, ap, subst, arith}
use Rattle.std.proofs.lemmas.Bool.Decides.{nat_tests}
use Rattle.std.proofs.lemmas.List.Sums.{sum_by-cons}
use Rattle.ccr_op.specs.Operation.{Operation, id_of}
use Rattle.ccr_op.specs.declared.operation.Kind.{Kind}
use Rattle.ccr_op.specs.declared.operation.Kind.TheVariants.{Index, Delete, NoOp}
use Rattle.ccr_query.specs.Queries.{Tree, holds}
use Rattle.ccr_query.specs.declared.answers.Hit.{Hit}
use Rattle.ccr_query.specs.declared.sorting.SortKey.{SortKey}
use Rattle.ccr_model.specs.Operations.{greatest_about, only_index, live}
use Rattle.ccr_model.specs.Searches.{fields_of_hit, live_hits, sorted_hits}
use Rattle.ccr_model.specs.Answers.{IsIn, IsLive}
use Rattle.ccr_law_base.proofs.Lists.{some_equal}
use Rattle.ccr_law_stores.proofs.SearchLives.{IsGreatest, GreatestIs, greatest_is, live_in, in_live, live_apart, apart-filter}
use Rattle.ccr_law_stores.proofs.SearchMembers.{in_filter, filter_in}
use Rattle.ccr_law_stores.proofs.SearchSorts.{in_sorted, sorted_in, ordered_hits, order_in_pairs}
use Rattle.ccr_law_stores.proofs.SearchOrders.{order_of, hit_total}
use Rattle.ccr_search.specs.Finds.{AreOnce, IsFound, AreFound}
use Rattle.ccr_search.proofs.SameLists.{same_lists}

-- ---- a live operation

-- an operation that puts a document in place
pub record IsPut (op : Operation) : Type 0 where
  pub hit : Hit
  pub is : op.kind ≡ Index hit.id hit.routing hit.body

index_only : (last op : Operation) → only_index last ≡ Some op → (last ≡ op) × IsPut op
index_only last op is = by last.kind refl is
  where
    put : (id : List ℕ) (routing : Option (List ℕ)) (body : List ℕ) → last.kind ≡ Index id routing body → last ≡ op → IsPut op
    put id routing body kind same =
        record { hit = record { id = id; routing = routing; body = body }; is = subst (λ (o : Operation). o.kind ≡ Index id routing body) same kind }

    by : (kind : Kind) → last.kind ≡ kind
        → elim kind as (λ _. Option Operation) [ Index id routing body ↦ Some last | Delete id routing ↦ None | NoOp ↦ None ] ≡ Some op
        → (last ≡ op) × IsPut op
    by (Index id routing body) kind is = let same : last ≡ op = some_equal last op is in (same, put id routing body kind same)
    by (Delete id routing) kind is = absurd (cc)
    by NoOp kind is = absurd (cc)

live_is : (ops : List Operation) (id : List ℕ) (op : Operation) → live ops id ≡ Some op → (greatest_about ops id ≡ Some op) × IsPut op
live_is ops id op is = by (greatest_about ops id) refl is
  where
    by : (o : Option Operation) → greatest_about ops id ≡ o → option_and_then only_index o ≡ Some op → (greatest_about ops id ≡ Some op) × IsPut op
    by None from is = absurd (cc)
    by (Some last) from is = let here = index_only last op is in (from ∙ ap Some here.0, here.1)

pub live_put : (ops : List Operation) (id : List ℕ) (op : Operation) → live ops id ≡ Some op → IsPut op
live_put ops id op is = (live_is ops id op is).1

pub live_greatest : (ops : List Operation) (id : List ℕ) (op : Operation) → live ops id ≡ Some op → IsGreatest ops id op
live_greatest ops id op is = subst (GreatestIs ops id) (live_is ops id op is).0 (greatest_is ops id)

-- its document is among the live ones
pub live_hit_in : (ops : List Operation) (op : Operation) (hit : Hit) → live ops hit.id ≡ Some op → op.kind ≡ Index hit.id hit.routing hit.body → IsIn (live_hits ops) hit
live_hit_in ops op hit is puts =
    let g : IsGreatest ops hit.id op = live_greatest ops hit.id op is in
    in_live ops hit (record { op = op; is_in = g.is_in; puts = puts; greatest = g.greatest })

-- ---- where no number is held twice

counted : (ops : List Operation) (b : Operation) → IsIn ops b → 1 ≤ count_by (λ (o : Operation). o.seq == b.seq) ops
counted [] b at = absurd at
counted (op ∷ ops) b (inl same) =
    let e : count_by (λ (o : Operation). o.seq == b.seq) (op ∷ ops) ≡ cond {A = ℕ} (op.seq == b.seq) 1 0 + count_by (λ (o : Operation). o.seq == b.seq) ops =
    sum_by-cons (λ (o : Operation). cond {A = ℕ} (o.seq == b.seq) 1 0) op ops in
    let own : op.seq ≡ b.seq = ap (λ (o : Operation). o.seq) same in
    let self : (op.seq == b.seq) ≡ true = grind (arith, nat_tests) in
    let one : cond {A = ℕ} (op.seq == b.seq) 1 0 ≡ 1 = rw self refl in
    omega arith
counted (op ∷ ops) b (inr there) =
    let e : count_by (λ (o : Operation). o.seq == b.seq) (op ∷ ops) ≡ cond {A = ℕ} (op.seq == b.seq) 1 0 + count_by (λ (o : Operation). o.seq == b.seq) ops =
    sum_by-cons (λ (o : Operation). cond {A = ℕ} (o.seq == b.seq) 1 0) op ops in
    let rest : 1 ≤ count_by (λ (o : Operation). o.seq == b.seq) ops = counted ops b there in
    omega arith

once_rest : (op : Operation) (ops : List Operation) → AreOnce (op ∷ ops) → AreOnce ops
once_rest op ops once n =
    let e : count_by (λ (o : Operation). o.seq == n) (op ∷ ops) ≡ cond {A = ℕ} (op.seq == n) 1 0 + count_by (λ (o : Operation). o.seq == n) ops =
    sum_by-cons (λ (o : Operation). cond {A = ℕ} (o.seq == n) 1 0) op ops in
    let most : count_by (λ (o : Operation). o.seq == n) (op ∷ ops) ≤ 1 = once n in
    omega arith

never_again : (op : Operation) (ops : List Operation) (b : Operation) → AreOnce (op ∷ ops) → IsIn ops b → ¬ (op.seq ≡ b.seq)
never_again op ops b once at same =
    let e : count_by (λ (o : Operation). o.seq == b.seq) (op ∷ ops) ≡ cond {A = ℕ} (op.seq == b.seq) 1 0 + count_by (λ (o : Operation). o.seq == b.seq) ops =
    sum_by-cons (λ (o : Operation). cond {A = ℕ} (o.seq == b.seq) 1 0) op ops in
    let most : count_by (λ (o : Operation). o.seq == b.seq) (op ∷ ops) ≤ 1 = once b.seq in
    let rest : 1 ≤ count_by (λ (o : Operation). o.seq == b.seq) ops = counted ops b at in
    let self : (op.seq == b.seq) ≡ true = grind (arith, nat_tests) in
    let one : cond {A = ℕ} (op.seq == b.seq) 1 0 ≡ 1 = rw self refl in
    omega arith

same_number : (ops : List Operation) (a b : Operation) → AreOnce ops → IsIn ops a → IsIn ops b → a.seq ≡ b.seq → a ≡ b
same_number [] a b once at other same = absurd at
same_number (op ∷ ops) a b once (inl here) (inl there) same = sym here ∙ there
same_number (op ∷ ops) a b once (inl here) (inr there) same = absurd (never_again op ops b once there (ap (λ (o : Operation). o.seq) here ∙ same))
same_number (op ∷ ops) a b once (inr here) (inl there) same = absurd (never_again op ops a once here (ap (λ (o : Operation). o.seq) there ∙ sym same))
same_number (op ∷ ops) a b once (inr here) (inr there) same = same_number ops a b (once_rest op ops once) here there same

-- a live document is that of the greatest operation about its id
pub live_of_hit : (ops : List Operation) (hit : Hit) → AreOnce ops → IsIn (live_hits ops) hit
    → (op : Operation) × (live ops hit.id ≡ Some op) × (op.kind ≡ Index hit.id hit.routing hit.body)
live_of_hit ops hit once at = by (greatest_about ops hit.id) refl (greatest_is ops hit.id)
  where
    own : IsLive (IsIn ops) hit.id hit.routing hit.body
    own = live_in ops hit at

    about : id_of own.op.kind ≡ Some hit.id
    about = ap id_of own.puts

    by : (o : Option Operation) → greatest_about ops hit.id ≡ o → GreatestIs ops hit.id o
        → (op : Operation) × (live ops hit.id ≡ Some op) × (op.kind ≡ Index hit.id hit.routing hit.body)
    by None from none = absurd (none own.op own.is_in about)
    by (Some last) from g =
        let up : own.op.seq ≤ last.seq = g.greatest own.op own.is_in about in
        let down : last.seq ≤ own.op.seq = own.greatest last g.is_in g.about in
        let same : last ≡ own.op = same_number ops last own.op once g.is_in own.is_in (omega arith) in
        let kept : only_index own.op ≡ Some own.op =
        subst (λ (kind : Kind). elim kind as (λ _. Option Operation) [ Index id routing body ↦ Some own.op | Delete id routing ↦ None | NoOp ↦ None ] ≡ Some own.op) (sym own.puts) refl in
        (own.op, ap (option_and_then only_index) (from ∙ ap Some same) ∙ kept, own.puts)

-- ---- the answer of the model

pub found_are : (ops : List Operation) (query : Tree) (keys : List SortKey) (hits : List Hit) → AreFound ops query keys hits → AreOnce ops
    → hits ≡ sorted_hits keys (filter (λ hit. holds query (fields_of_hit hit)) (live_hits ops))
found_are ops query keys hits found once =
    same_lists (order_of keys) (hit_total keys) hits (sorted_hits keys kept) (order_in_pairs keys hits found.ordered)
    (order_in_pairs keys (sorted_hits keys kept) (ordered_hits keys kept (apart-filter test (live_hits ops) (live_apart ops once)))) to from
  where
    test : Hit → Bool
    test hit = holds query (fields_of_hit hit)

    kept : List Hit
    kept = filter (λ hit. holds query (fields_of_hit hit)) (live_hits ops)

    to : (hit : Hit) → IsIn hits hit → IsIn (sorted_hits keys kept) hit
    to hit at =
        let f : IsFound ops query hit = (found.exact hit).0 at in
        sorted_in keys kept hit (filter_in (λ (h : Hit). holds query (fields_of_hit h)) (live_hits ops) hit (live_hit_in ops f.op hit f.is_live f.puts) f.holds)

    from : (hit : Hit) → IsIn (sorted_hits keys kept) hit → IsIn hits hit
    from hit at =
        let there = in_filter (λ (h : Hit). holds query (fields_of_hit h)) (live_hits ops) hit (in_sorted keys kept hit at) in
        let own = live_of_hit ops hit once there.0 in
        (found.exact hit).1 (record { op = own.0; is_live = own.1; puts = own.2; holds = there.1 })
