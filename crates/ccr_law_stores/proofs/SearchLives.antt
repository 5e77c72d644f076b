-- The greatest operation about an id, and the live documents of a list of operations.
use Rattle.std.specs.List.{AllByRecursion, cons_option}
use Rattle.std.specs.Option.{option_map_or}
use Rattle.std.proofs.Common.{◌≡◌, inl, inr, ℕ, ◌≤◌, ◌==◌, ◌+◌, nat_lt, cond, Bool, true, false, if◌then◌else◌, Option, Some, None, List, [], ◌∷◌, filter, filter_map, count_by, refl, sym, subst, arith}
use Rattle.std.proofs.lemmas.Bool.Decides.{nat_tests}
use Rattle.std.proofs.lemmas.List.Sums.{sum_by-cons}
use Rattle.ccr_op.specs.Operation.{Operation, id_of}
use Rattle.ccr_op.specs.declared.operation.Kind.{Kind}
use Rattle.ccr_op.specs.declared.operation.Kind.TheVariants.{Index, Delete, NoOp}
use Rattle.ccr_query.specs.declared.answers.Hit.{Hit}
use Rattle.ccr_model.specs.Operations.{is_about, later, greatest_about}
use Rattle.ccr_model.specs.Answers.{IsIn, IsLive}
use Rattle.ccr_model.specs.Searches.{live_hit, live_hits}
use Rattle.ccr_law_base.proofs.Cases.{on_if}
use Rattle.ccr_law_base.proofs.Lists.{some_equal, All-filter, about_id, id_about}
use Rattle.ccr_law_stores.proofs.SearchMembers.{Gives, in_filter_map, filter_map_in}
use Rattle.ccr_law_stores.proofs.SearchSorts.{IsOther, AreApart}

-- ---- the greatest about an id

pub record IsGreatest (ops : List Operation) (id : List ℕ) (last : Operation) : Type 0 where
  pub is_in : IsIn ops last
  pub about : id_of last.kind ≡ Some id
  pub greatest : (other : Operation) → IsIn ops other → id_of other.kind ≡ Some id → other.seq ≤ last.seq

abbrev pub GreatestIs : List Operation → List ℕ → Option Operation → Type 0
GreatestIs ops id None = (other : Operation) → IsIn ops other → ¬ (id_of other.kind ≡ Some id)
GreatestIs ops id (Some last) = IsGreatest ops id last

first_greatest : (op : Operation) (ops : List Operation) (id : List ℕ) → id_of op.kind ≡ Some id
    → ((other : Operation) → IsIn ops other → id_of other.kind ≡ Some id → other.seq ≤ op.seq) → IsGreatest (op ∷ ops) id op
first_greatest op ops id about greatest = record { is_in = inl refl; about = about; greatest = over }
  where
    over : (other : Operation) → IsIn (op ∷ ops) other → id_of other.kind ≡ Some id → other.seq ≤ op.seq
    over other (inl same) is = subst (λ (o : Operation). o.seq ≤ op.seq) same (omega arith)
    over other (inr rest) is = greatest other rest is

rest_greatest : (op : Operation) (ops : List Operation) (id : List ℕ) (last : Operation) → (id_of op.kind ≡ Some id → op.seq ≤ last.seq)
    → IsGreatest ops id last → IsGreatest (op ∷ ops) id last
rest_greatest op ops id last low g = record { is_in = inr g.is_in; about = g.about; greatest = over }
  where
    over : (other : Operation) → IsIn (op ∷ ops) other → id_of other.kind ≡ Some id → other.seq ≤ last.seq
    over other (inl same) is = subst (λ (o : Operation). o.seq ≤ last.seq) same (low (subst (λ (o : Operation). id_of o.kind ≡ Some id) (sym same) is))
    over other (inr rest) is = g.greatest other rest is

greatest_step : (op : Operation) (ops : List Operation) (id : List ℕ) (about : Bool) → is_about id op ≡ about → (o : Option Operation)
    → GreatestIs ops id o → GreatestIs (op ∷ ops) id (later (if about then Some op else None) o)
greatest_step op ops id true is None none = first_greatest op ops id (about_id id (id_of op.kind) is) (λ other at about. absurd (none other at about))
greatest_step op ops id true is (Some x) g =
    on_if (GreatestIs (op ∷ ops) id) (nat_lt op.seq x.seq) (Some x) (Some op)
    (λ lt. rest_greatest op ops id x (λ _. grind (arith, nat_tests)) g)
    (λ ge. first_greatest op ops id (about_id id (id_of op.kind) is) (λ other at about. let le : other.seq ≤ x.seq = g.greatest other at about in grind (arith, nat_tests)))
greatest_step op ops id false isnt None none = over
  where
    differ : id_of op.kind ≡ Some id → ⊥
    differ e = let is : is_about id op ≡ true = id_about id (id_of op.kind) e in cc

    over : (other : Operation) → IsIn (op ∷ ops) other → ¬ (id_of other.kind ≡ Some id)
    over other (inl same) is = differ (subst (λ (o : Operation). id_of o.kind ≡ Some id) (sym same) is)
    over other (inr rest) is = none other rest is
greatest_step op ops id false isnt (Some x) g = rest_greatest op ops id x (λ e. absurd (differ e)) g
  where
    differ : id_of op.kind ≡ Some id → ⊥
    differ e = let is : is_about id op ≡ true = id_about id (id_of op.kind) e in cc

pub greatest_is : (ops : List Operation) (id : List ℕ) → GreatestIs ops id (greatest_about ops id)
greatest_is [] id = λ other at is. at
greatest_is (op ∷ ops) id = greatest_step op ops id (is_about id op) refl (greatest_about ops id) (greatest_is ops id)

-- ---- a live document

-- the greatest operation about the id is the one of this number
abbrev pub is_last : List Operation → ℕ → List ℕ → Bool
is_last ops seq id = option_map_or (λ (last : Operation). last.seq == seq) (greatest_about ops id) false

-- the document that a kind puts in place at a number
abbrev pub hit_put : List Operation → ℕ → Kind → Option Hit
hit_put ops seq kind = elim kind as (λ _. Option Hit) [
  | Index id routing body ↦ if is_last ops seq id then Some (record { id = id; routing = routing; body = body }) else None
  | Delete id routing ↦ None
  | NoOp ↦ None
]

pub record Puts (ops : List Operation) (seq : ℕ) (kind : Kind) (hit : Hit) : Type 0 where
  pub is : kind ≡ Index hit.id hit.routing hit.body
  pub last : is_last ops seq hit.id ≡ true

puts : (ops : List Operation) (seq : ℕ) (kind : Kind) (hit : Hit) → hit_put ops seq kind ≡ Some hit → Puts ops seq kind hit
puts ops seq (Index id routing body) hit e =
    on_if (λ (o : Option Hit). o ≡ Some hit → Puts ops seq (Index id routing body) hit) (is_last ops seq id) (Some (record { id = id; routing = routing; body = body })) None
    (λ is at. subst (Puts ops seq (Index id routing body)) (some_equal (record { id = id; routing = routing; body = body }) hit at) (record { is = refl; last = is }))
    (λ isnt at. cc) e
puts ops seq (Delete id routing) hit e = cc
puts ops seq NoOp hit e = cc

last_greatest : (ops : List Operation) (id : List ℕ) (seq : ℕ) (o : Option Operation) → GreatestIs ops id o
    → option_map_or (λ (last : Operation). last.seq == seq) o false ≡ true
    → (other : Operation) → IsIn ops other → id_of other.kind ≡ Some id → other.seq ≤ seq
last_greatest ops id seq None none is other at about = cc
last_greatest ops id seq (Some last) g is other at about =
    let le : other.seq ≤ last.seq = g.greatest other at about in grind (arith, nat_tests)

greatest_last : (ops : List Operation) (id : List ℕ) (op : Operation) (o : Option Operation) → GreatestIs ops id o → IsIn ops op → id_of op.kind ≡ Some id
    → ((other : Operation) → IsIn ops other → id_of other.kind ≡ Some id → other.seq ≤ op.seq)
    → option_map_or (λ (last : Operation). last.seq == op.seq) o false ≡ true
greatest_last ops id op None none at about greatest = absurd (none op at about)
greatest_last ops id op (Some last) g at about greatest =
    let up : op.seq ≤ last.seq = g.greatest op at about in
    let down : last.seq ≤ op.seq = greatest last g.is_in g.about in
    grind (arith, nat_tests)

-- the live hits are the live documents
pub live_in : (ops : List Operation) (hit : Hit) → IsIn (live_hits ops) hit → IsLive (IsIn ops) hit.id hit.routing hit.body
live_in ops hit at =
    let g : Gives (live_hit ops) ops hit = in_filter_map (live_hit ops) ops hit at in
    let p : Puts ops g.from.seq g.from.kind hit = puts ops g.from.seq g.from.kind hit g.gives in
    record { op = g.from; is_in = g.is_in; puts = p.is; greatest = last_greatest ops hit.id g.from.seq (greatest_about ops hit.id) (greatest_is ops hit.id) p.last }

pub in_live : (ops : List Operation) (hit : Hit) → IsLive (IsIn ops) hit.id hit.routing hit.body → IsIn (live_hits ops) hit
in_live ops hit live =
    let about : id_of live.op.kind ≡ Some hit.id = rw live.puts refl in
    let last : is_last ops live.op.seq hit.id ≡ true =
    greatest_last ops hit.id live.op (greatest_about ops hit.id) (greatest_is ops hit.id) live.is_in about live.greatest in
    let here : hit_put ops live.op.seq (Index hit.id hit.routing hit.body) ≡ Some hit = rw last refl in
    let gives : hit_put ops live.op.seq live.op.kind ≡ Some hit = subst (λ (kind : Kind). hit_put ops live.op.seq kind ≡ Some hit) (sym live.puts) here in
    filter_map_in (live_hit ops) ops live.op hit live.is_in gives

-- ---- none twice

-- no number stands twice in the list
abbrev pub IsOnce : List Operation → Type 0
IsOnce ops = (n : ℕ) → count_by (λ op. op.seq == n) ops ≤ 1

once_rest : (op : Operation) (ops : List Operation) → IsOnce (op ∷ ops) → IsOnce ops
once_rest op ops once n =
    let e : count_by (λ (o : Operation). o.seq == n) (op ∷ ops) ≡ cond {A = ℕ} (op.seq == n) 1 0 + count_by (λ (o : Operation). o.seq == n) ops =
    sum_by-cons (λ (o : Operation). cond {A = ℕ} (o.seq == n) 1 0) op ops in
    let most : count_by (λ (o : Operation). o.seq == n) (op ∷ ops) ≤ 1 = once n in
    omega arith

count_none : (n : ℕ) (ops : List Operation) → count_by (λ (o : Operation). o.seq == n) ops ≤ 0 → AllByRecursion (λ (o : Operation). (o.seq == n) ≡ false) ops
count_none n [] none = tt
count_none n (op ∷ ops) none =
    let e : count_by (λ (o : Operation). o.seq == n) (op ∷ ops) ≡ cond {A = ℕ} (op.seq == n) 1 0 + count_by (λ (o : Operation). o.seq == n) ops =
    sum_by-cons (λ (o : Operation). cond {A = ℕ} (o.seq == n) 1 0) op ops in
    (isnt (op.seq == n) refl (omega arith), count_none n ops (omega arith))
  where
    isnt : (b : Bool) → (op.seq == n) ≡ b → cond {A = ℕ} b 1 0 ≤ 0 → (op.seq == n) ≡ false
    isnt true e low = absurd (omega arith)
    isnt false e low = e

counts_one : (b : Bool) → b ≡ true → cond {A = ℕ} b 1 0 ≡ 1
counts_one b is = rw is refl

once_first : (op : Operation) (ops : List Operation) → IsOnce (op ∷ ops) → AllByRecursion (λ (o : Operation). (o.seq == op.seq) ≡ false) ops
once_first op ops once =
    let e : count_by (λ (o : Operation). o.seq == op.seq) (op ∷ ops) ≡ cond {A = ℕ} (op.seq == op.seq) 1 0 + count_by (λ (o : Operation). o.seq == op.seq) ops =
    sum_by-cons (λ (o : Operation). cond {A = ℕ} (o.seq == op.seq) 1 0) op ops in
    let self : (op.seq == op.seq) ≡ true = grind (arith, nat_tests) in
    let one : cond {A = ℕ} (op.seq == op.seq) 1 0 ≡ 1 = counts_one (op.seq == op.seq) self in
    let most : count_by (λ (o : Operation). o.seq == op.seq) (op ∷ ops) ≤ 1 = once op.seq in
    count_none op.seq ops (omega arith)

-- two numbers of which each is the greatest operation's are the same
same_last : (a b : ℕ) (o : Option Operation) → option_map_or (λ (last : Operation). last.seq == a) o false ≡ true
    → option_map_or (λ (last : Operation). last.seq == b) o false ≡ true → (b == a) ≡ true
same_last a b None first second = cc
same_last a b (Some last) first second = grind (arith, nat_tests)

-- what another operation puts in place is of another id
others_apart : (all : List Operation) (op : Operation) (hit : Hit) → live_hit all op ≡ Some hit → (xs : List Operation)
    → AllByRecursion (λ (o : Operation). (o.seq == op.seq) ≡ false) xs → AllByRecursion (IsOther hit) (filter_map (live_hit all) xs)
others_apart all op hit put [] apart = tt
others_apart all op hit put (x ∷ xs) apart = here (others_apart all op hit put xs apart.1) (live_hit all x) refl
  where
    mine : Puts all op.seq op.kind hit
    mine = puts all op.seq op.kind hit put

    differ : (other : Hit) → live_hit all x ≡ Some other → IsOther hit other
    differ other gives same =
        let own : Puts all x.seq x.kind other = puts all x.seq x.kind other gives in
        let last : is_last all x.seq hit.id ≡ true = subst (λ (id : List ℕ). is_last all x.seq id ≡ true) (sym same) own.last in
        let equal : (x.seq == op.seq) ≡ true = same_last op.seq x.seq (greatest_about all hit.id) mine.last last in
        let isnt : (x.seq == op.seq) ≡ false = apart.0 in cc

    here : AllByRecursion (IsOther hit) (filter_map (live_hit all) xs) → (o : Option Hit) → live_hit all x ≡ o
        → AllByRecursion (IsOther hit) (cons_option o (filter_map (live_hit all) xs))
    here rest None e = rest
    here rest (Some other) e = (differ other e, rest)

some_apart : (all xs : List Operation) → IsOnce xs → AreApart (filter_map (live_hit all) xs)
some_apart all [] once = tt
some_apart all (op ∷ xs) once = here (some_apart all xs (once_rest op xs once)) (live_hit all op) refl
  where
    here : AreApart (filter_map (live_hit all) xs) → (o : Option Hit) → live_hit all op ≡ o → AreApart (cons_option o (filter_map (live_hit all) xs))
    here rest None e = rest
    here rest (Some hit) e = (others_apart all op hit e xs (once_first op xs once), rest)

pub live_apart : (ops : List Operation) → IsOnce ops → AreApart (live_hits ops)
live_apart ops once = some_apart ops ops once

pub apart-filter : (test : Hit → Bool) (hits : List Hit) → AreApart hits → AreApart (filter test hits)
apart-filter test [] apart = tt
apart-filter test (hit ∷ hits) apart =
    on_if AreApart (test hit) (hit ∷ filter test hits) (filter test hits)
    (λ is. (All-filter (IsOther hit) test hits apart.0, apart-filter test hits apart.1)) (λ isnt. apart-filter test hits apart.1)
