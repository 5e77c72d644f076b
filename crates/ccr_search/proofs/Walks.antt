-- A walk over the live documents in the order of their ids.
use Rattle.std.specs.Option.{IfSome, option_to_list}
use Rattle.std.proofs.lemmas.List.{append-nil}
use Rattle.std.specs.Ordering.{ordering_reverse}
use Rattle.std.specs.Cmp.Lexicographic.{slice_cmp, nat_list_cmp_total}
use Rattle.std.proofs.Common.{◌≡◌, ◌⊎◌, inl, inr, ℕ, ◌+◌, ◌≤◌, Bool, true, false, if◌then◌else◌, is_lt, nat_cmp, Ordering, Less, Equal, Greater, Option, Some, None, option_map, option_and_then, List, [], ◌∷◌, ◌++◌, map, filter, length, refl, sym, ◌∙◌, ap, subst, arith}
use Rattle.std.proofs.lemmas.Map.Text.{is_eq-slice_cmp}
use Rattle.std.proofs.lemmas.Slice.Eq.{bytes_eq-Decides}
use Rattle.std.specs.Ordering.{is_eq}
use Rattle.std.specs.Str.{bytes_eq}
use Rattle.ccr_op.specs.Operation.{Operation, id_of}
use Rattle.ccr_op.specs.declared.operation.Kind.{Kind}
use Rattle.ccr_op.specs.declared.operation.Kind.TheVariants.{Index, Delete, NoOp}
use Rattle.ccr_query.specs.Queries.{Tree, holds}
use Rattle.ccr_query.specs.declared.answers.Hit.{Hit}
use Rattle.ccr_query.specs.declared.sorting.SortKey.{SortKey}
use Rattle.ccr_model.specs.Operations.{live}
use Rattle.ccr_model.specs.Searches.{fields_of_hit, live_hits}
use Rattle.ccr_model.specs.Answers.{IsIn, AreInOrder}
use Rattle.ccr_law_base.proofs.Lists.{All-append, some_equal}
use Rattle.ccr_law_base.proofs.Cases.{on_if}
use Rattle.ccr_law_stores.proofs.Insertions.{less}
use Rattle.ccr_store.specs.Kept.{IsAfter, IsFirstLive}
use Rattle.ccr_search.specs.Finds.{hit_of, kept_hit, IsFound, AreFound}
use Rattle.ccr_search.specs.Ranks.{hits_in, IsRanked, AreRanked}
use Rattle.ccr_search.specs.declared.ranks.Ranked.{Ranked}
use Rattle.ccr_search.proofs.Counts.{one_fewer}
use Rattle.ccr_search.proofs.Lives.{IsPut, live_put, live_hit_in}

-- ---- ids

abbrev cmp : List ℕ → List ℕ → Ordering
cmp = slice_cmp nat_cmp

never_after_itself : (id : List ℕ) → ¬ (cmp id id ≡ Less)
never_after_itself id is = turned (cmp id id) is (nat_list_cmp_total.antisymm id id)
  where
    turned : (o : Ordering) → o ≡ Less → o ≡ ordering_reverse o → ⊥
    turned Less is by = cc
    turned Equal is by = cc
    turned Greater is by = cc

same_ids : (a b : List ℕ) → cmp a b ≡ Equal → a ≡ b
same_ids a b same = (bytes_eq-Decides a b).0 (sym (is_eq-slice_cmp a b) ∙ ap is_eq same)

-- of two ids one comes first, or they are the same
data Compared (a b : List ℕ) : Type 0 where
  comes_first : cmp a b ≡ Less → Compared a b
  is_same : a ≡ b → Compared a b
  comes_later : cmp b a ≡ Less → Compared a b

compared : (a b : List ℕ) → Compared a b
compared a b = by (cmp a b) refl (nat_list_cmp_total.antisymm b a)
  where
    by : (o : Ordering) → cmp a b ≡ o → cmp b a ≡ ordering_reverse (cmp a b) → Compared a b
    by Less is back = comes_first is
    by Equal is back = is_same (same_ids a b is)
    by Greater is back = comes_later (back ∙ ap ordering_reverse is)

-- ---- what was passed

abbrev pub IsPassed : Option (List ℕ) → List ℕ → Type 0
IsPassed last id = ¬ IsAfter last id

later_after : (last : Option (List ℕ)) (id next : List ℕ) → IsAfter last id → cmp id next ≡ Less → IsAfter last next
later_after None id next after less = tt
later_after (Some from) id next after less = nat_list_cmp_total.trans from id next after less

after_or_not : (last : Option (List ℕ)) (id : List ℕ) → IsAfter last id ⊎ IsPassed last id
after_or_not None id = inl tt
after_or_not (Some from) id = by (cmp from id) refl
  where
    by : (o : Ordering) → cmp from id ≡ o → IsAfter (Some from) id ⊎ IsPassed (Some from) id
    by Less is = inl is
    by Equal is = inr (λ other. absurd (cc))
    by Greater is = inr (λ other. absurd (cc))

-- what was passed before an id that comes after it comes before that id
passed_before : (last : Option (List ℕ)) (id next : List ℕ) → IsPassed last id → IsAfter last next → cmp id next ≡ Less
passed_before last id next passed after = by (compared id next)
  where
    by : Compared id next → cmp id next ≡ Less
    by (comes_first less) = less
    by (is_same is) = absurd (passed (subst (IsAfter last) (sym is) after))
    by (comes_later less) = absurd (passed (later_after last next id after less))

-- ---- the walk

-- the hits so far are those that are found among the ids that were passed
pub record IsWalked (ops : List Operation) (query : Tree) (keys : List SortKey) (last : Option (List ℕ)) (all : List Ranked) : Type 0 where
  pub order : AreInOrder [] (hits_in all)
  pub exact_to : (hit : Hit) → IsIn (hits_in all) hit → IsFound ops query hit × IsPassed last hit.id
  pub exact_from : (hit : Hit) → IsFound ops query hit → IsPassed last hit.id → IsIn (hits_in all) hit
  pub ranked : AreRanked keys all

pub walked-none : (ops : List Operation) (query : Tree) (keys : List SortKey) → IsWalked ops query keys None []
walked-none ops query keys = record { order = tt; exact_to = λ hit at. absurd at; exact_from = λ hit found passed. absurd (passed tt); ranked = tt }

pub walked-all : (ops : List Operation) (query : Tree) (keys : List SortKey) (last : Option (List ℕ)) (all : List Ranked) → IsWalked ops query keys last all
    → ((id : List ℕ) → IsAfter last id → live ops id ≡ None) → AreFound ops query [] (hits_in all)
walked-all ops query keys last all w none = record {
  ordered = w.order;
  exact = λ hit. (λ at. (w.exact_to hit at).0, λ found. w.exact_from hit found (λ after. never found (none hit.id after)));
}
  where
    never : {hit : Hit} → IsFound ops query hit → live ops hit.id ≡ None → ⊥
    never found isnt = let is = found.is_live in absurd (cc)

-- ---- a step

order-push : (hits : List Hit) (hit : Hit) → AreInOrder [] hits → ((h : Hit) → IsIn hits h → cmp h.id hit.id ≡ Less) → AreInOrder [] (hits ++ hit ∷ [])
order-push [] hit order last = (tt, tt)
order-push (x ∷ hits) hit order last = (
  All-append (λ (later : Hit). cmp x.id later.id ≡ Less) hits (hit ∷ []) order.0 (last x (inl refl), tt),
  order-push hits hit order.1 (λ h there. last h (inr there)),
)

hits-push : (all : List Ranked) (r : Ranked) → hits_in (all ++ r ∷ []) ≡ hits_in all ++ r.hit ∷ []
hits-push [] r = refl
hits-push (x ∷ all) r = ap (λ (hits : List Hit). x.hit ∷ hits) (hits-push all r)

in-push : (hits : List Hit) (hit h : Hit) → IsIn (hits ++ hit ∷ []) h → IsIn hits h ⊎ (hit ≡ h)
in-push [] hit h (inl same) = inr same
in-push [] hit h (inr none) = absurd none
in-push (x ∷ hits) hit h (inl same) = inl (inl same)
in-push (x ∷ hits) hit h (inr there) = elim (in-push hits hit h there) [ inl old ↦ inl (inr old) | inr new ↦ inr new ]

push-old : (hits : List Hit) (hit h : Hit) → IsIn hits h → IsIn (hits ++ hit ∷ []) h
push-old [] hit h at = absurd at
push-old (x ∷ hits) hit h (inl same) = inl same
push-old (x ∷ hits) hit h (inr there) = inr (push-old hits hit h there)

push-new : (hits : List Hit) (hit : Hit) → IsIn (hits ++ hit ∷ []) hit
push-new [] hit = inl refl
push-new (x ∷ hits) hit = inr (push-new hits hit)

-- what kinds put in place
index_parts : (a b : Hit) → Index a.id a.routing a.body ≡ Index b.id b.routing b.body → a ≡ b
index_parts a b same = λ i. record { id = ids i; routing = routings i; body = bodies i }
  where
    id_in : Kind → List ℕ
    id_in (Index id routing body) = id
    id_in (Delete id routing) = []
    id_in NoOp = []

    routing_in : Kind → Option (List ℕ)
    routing_in (Index id routing body) = routing
    routing_in (Delete id routing) = None
    routing_in NoOp = None

    body_in : Kind → List ℕ
    body_in (Index id routing body) = body
    body_in (Delete id routing) = []
    body_in NoOp = []

    ids : a.id ≡ b.id
    ids = cc

    routings : a.routing ≡ b.routing
    routings = cc

    bodies : a.body ≡ b.body
    bodies = cc

module _ (ops : List Operation) (query : Tree) (keys : List SortKey) (last : Option (List ℕ)) (op : Operation) (hit : Hit)
    (is_live : live ops hit.id ≡ Some op) (puts : op.kind ≡ Index hit.id hit.routing hit.body) (after : IsAfter last hit.id)
    (least : (other : List ℕ) → IsAfter last other → cmp other hit.id ≡ Less → live ops other ≡ None) where
  passed_more : (id : List ℕ) → IsPassed last id → IsPassed (Some hit.id) id
  passed_more id passed next = passed (later_after last hit.id id after next)

  passed_now : IsPassed (Some hit.id) hit.id
  passed_now = never_after_itself hit.id

  -- one that is found and passed now was passed before, or is this one
  passed_or_now : (h : Hit) → IsFound ops query h → IsPassed (Some hit.id) h.id → IsPassed last h.id ⊎ (hit ≡ h)
  passed_or_now h found passed = by (compared h.id hit.id)
    where
      first_case : cmp h.id hit.id ≡ Less → (IsAfter last h.id ⊎ IsPassed last h.id) → IsPassed last h.id ⊎ (hit ≡ h)
      first_case less (inl next) = absurd (let none = least h.id next less in let some = found.is_live in absurd (cc))
      first_case less (inr old) = inl old

      same_hit : h.id ≡ hit.id → hit ≡ h
      same_hit is =
          let other : live ops hit.id ≡ Some found.op = subst (λ (id : List ℕ). live ops id ≡ Some found.op) is found.is_live in
          let same : op ≡ found.op = some_equal op found.op (sym is_live ∙ other) in
          index_parts hit h (sym puts ∙ ap (λ (o : Operation). o.kind) same ∙ found.puts)

      by : Compared h.id hit.id → IsPassed last h.id ⊎ (hit ≡ h)
      by (comes_first less) = first_case less (after_or_not last h.id)
      by (is_same is) = inr (same_hit is)
      by (comes_later less) = absurd (passed less)

  pub walked-more : (all : List Ranked) (r : Ranked) → IsWalked ops query keys last all → r.hit ≡ hit → holds query (fields_of_hit hit) ≡ true → IsRanked keys r
      → IsWalked ops query keys (Some hit.id) (all ++ r ∷ [])
  walked-more all r w is held own = record {
    order = subst (AreInOrder []) (sym pushed) (order-push (hits_in all) hit w.order (λ h at. passed_before last h.id hit.id (w.exact_to h at).1 after));
    exact_to = λ h at. to h (in-push (hits_in all) hit h (subst (λ (hits : List Hit). IsIn hits h) pushed at));
    exact_from = λ h found passed. subst (λ (hits : List Hit). IsIn hits h) (sym pushed) (from h found (passed_or_now h found passed));
    ranked = All-append (IsRanked keys) all (r ∷ []) w.ranked (own, tt);
  }
    where
      pushed : hits_in (all ++ r ∷ []) ≡ hits_in all ++ hit ∷ []
      pushed = hits-push all r ∙ ap (λ (h : Hit). hits_in all ++ h ∷ []) is

      to : (h : Hit) → IsIn (hits_in all) h ⊎ (hit ≡ h) → IsFound ops query h × IsPassed (Some hit.id) h.id
      to h (inl old) = let o = w.exact_to h old in (o.0, passed_more h.id o.1)
      to h (inr same) =
          subst (λ (x : Hit). IsFound ops query x × IsPassed (Some hit.id) x.id) same
          (record { op = op; is_live = is_live; puts = puts; holds = held }, passed_now)

      from : (h : Hit) → IsFound ops query h → IsPassed last h.id ⊎ (hit ≡ h) → IsIn (hits_in all ++ hit ∷ []) h
      from h found (inl passed) = push-old (hits_in all) hit h (w.exact_from h found passed)
      from h found (inr same) = subst (λ (x : Hit). IsIn (hits_in all ++ hit ∷ []) x) same (push-new (hits_in all) hit)

  pub walked-past : (all : List Ranked) → IsWalked ops query keys last all → holds query (fields_of_hit hit) ≡ false → IsWalked ops query keys (Some hit.id) all
  walked-past all w isnt = record {
    order = w.order;
    exact_to = λ h at. let o = w.exact_to h at in (o.0, passed_more h.id o.1);
    exact_from = λ h found passed. from h found (passed_or_now h found passed);
    ranked = w.ranked;
  }
    where
      from : (h : Hit) → IsFound ops query h → IsPassed last h.id ⊎ (hit ≡ h) → IsIn (hits_in all) h
      from h found (inl passed) = w.exact_from h found passed
      from h found (inr same) =
          absurd (let held : holds query (fields_of_hit hit) ≡ true = subst (λ (x : Hit). holds query (fields_of_hit x) ≡ true) (sym same) found.holds in cc)

-- ---- how many are left

abbrev pub is_after : Option (List ℕ) → List ℕ → Bool
is_after None id = true
is_after (Some from) id = is_lt (cmp from id)

abbrev pub left_after : Option (List ℕ) → List Operation → ℕ
left_after last ops = length (filter (λ (hit : Hit). is_after last hit.id) (live_hits ops))

is_after_from : (last : Option (List ℕ)) (id : List ℕ) → IsAfter last id → is_after last id ≡ true
is_after_from None id after = refl
is_after_from (Some from) id after = ap is_lt after

after_from_is : (last : Option (List ℕ)) (id : List ℕ) → is_after last id ≡ true → IsAfter last id
after_from_is None id is = tt
after_from_is (Some from) id is = less (cmp from id) is

never_after : (id : List ℕ) → is_after (Some id) id ≡ false
never_after id = by (is_after (Some id) id) refl
  where
    by : (b : Bool) → is_after (Some id) id ≡ b → b ≡ false
    by true is = absurd (never_after_itself id (less (cmp id id) is))
    by false is = refl

pub left-falls : (ops : List Operation) (last : Option (List ℕ)) (op : Operation) (hit : Hit) → live ops hit.id ≡ Some op → op.kind ≡ Index hit.id hit.routing hit.body → IsAfter last hit.id
    → left_after (Some hit.id) ops + 1 ≤ left_after last ops
left-falls ops last op hit is_live puts after =
    one_fewer (λ (h : Hit). is_after (Some hit.id) h.id) (λ (h : Hit). is_after last h.id)
    (λ h is. is_after_from last h.id (later_after last hit.id h.id after (less (cmp hit.id h.id) is)))
    (live_hits ops) hit (live_hit_in ops op hit is_live puts) (is_after_from last hit.id after) (never_after hit.id)

pub left-first : (ops : List Operation) → left_after None ops ≡ length (live_hits ops)
left-first ops = ap length (filter-all (live_hits ops))
  where
    filter-all : (hits : List Hit) → filter (λ (hit : Hit). is_after None hit.id) hits ≡ hits
    filter-all [] = refl
    filter-all (hit ∷ hits) = ap (λ (rest : List Hit). hit ∷ rest) (filter-all hits)

-- ---- a step, by what the walk answers

-- the document that the walk comes to
pub record IsNextHit (ops : List Operation) (last : Option (List ℕ)) (op : Operation) : Type 0 where
  pub hit : Hit
  pub puts : op.kind ≡ Index hit.id hit.routing hit.body
  pub id : id_of op.kind ≡ Some hit.id
  pub is_live : live ops hit.id ≡ Some op
  pub after : IsAfter last hit.id
  pub least : (other : List ℕ) → IsAfter last other → cmp other hit.id ≡ Less → live ops other ≡ None

next_hit : (ops : List Operation) (last : Option (List ℕ)) (op : Operation) → IsFirstLive ops last op → IsNextHit ops last op
next_hit ops last op f =
    let put : IsPut op = live_put ops f.id op f.is_live in
    let own : id_of op.kind ≡ Some put.hit.id = ap id_of put.is in
    let same : f.id ≡ put.hit.id = some_equal f.id put.hit.id (sym f.about ∙ own) in
    record {
      hit = put.hit;
      puts = put.is;
      id = own;
      is_live = subst (λ (id : List ℕ). live ops id ≡ Some op) same f.is_live;
      after = subst (IsAfter last) same f.after;
      least = λ other after less. f.least other after (subst (λ (id : List ℕ). cmp other id ≡ Less) (sym same) less);
    }

-- what a kind puts in place
hit_put : (op : Operation) (hit : Hit) → op.kind ≡ Index hit.id hit.routing hit.body → hit_of op ≡ Some hit
hit_put op hit puts =
    subst (λ (kind : Kind). elim kind as (λ _. Option Hit) [
      | Index id routing body ↦ Some (record { id = id; routing = routing; body = body })
      | Delete id routing ↦ None
      | NoOp ↦ None
    ] ≡ Some hit) (sym puts) refl

kept_if : (query : Tree) (hit : Hit) (r : Ranked) → Some r.hit ≡ kept_hit query hit → (r.hit ≡ hit) × (holds query (fields_of_hit hit) ≡ true)
kept_if query hit r is = by (holds query (fields_of_hit hit)) refl is
  where
    by : (b : Bool) → holds query (fields_of_hit hit) ≡ b → Some r.hit ≡ (if b then Some hit else None) → (r.hit ≡ hit) × (holds query (fields_of_hit hit) ≡ true)
    by true held same = (some_equal r.hit hit same, held)
    by false isnt same = absurd (cc)

past_if : (query : Tree) (hit : Hit) → None ≡ kept_hit query hit → holds query (fields_of_hit hit) ≡ false
past_if query hit is = by (holds query (fields_of_hit hit)) refl is
  where
    by : (b : Bool) → holds query (fields_of_hit hit) ≡ b → None ≡ (if b then Some hit else None) → holds query (fields_of_hit hit) ≡ false
    by true held same = absurd (cc)
    by false isnt same = isnt

pub walked-kept : (ops : List Operation) (query : Tree) (keys : List SortKey) (last : Option (List ℕ)) (op : Operation) (all : List Ranked) (r : Ranked) → IsFirstLive ops last op
    → Some r.hit ≡ option_and_then (kept_hit query) (hit_of op) → IsRanked keys r → IsWalked ops query keys last all → IsWalked ops query keys (id_of op.kind) (all ++ r ∷ [])
walked-kept ops query keys last op all r f is own w =
    let n : IsNextHit ops last op = next_hit ops last op f in
    let kept = kept_if query n.hit r (is ∙ ap (option_and_then (kept_hit query)) (hit_put op n.hit n.puts)) in
    subst (λ (id : Option (List ℕ)). IsWalked ops query keys id (all ++ r ∷ [])) (sym n.id)
    (walked-more ops query keys last op n.hit n.is_live n.puts n.after n.least all r w kept.0 kept.1 own)

pub walked-left : (ops : List Operation) (query : Tree) (keys : List SortKey) (last : Option (List ℕ)) (op : Operation) (all : List Ranked) → IsFirstLive ops last op
    → None ≡ option_and_then (kept_hit query) (hit_of op) → IsWalked ops query keys last all → IsWalked ops query keys (id_of op.kind) all
walked-left ops query keys last op all f is w =
    let n : IsNextHit ops last op = next_hit ops last op f in
    let past = past_if query n.hit (is ∙ ap (option_and_then (kept_hit query)) (hit_put op n.hit n.puts)) in
    subst (λ (id : Option (List ℕ)). IsWalked ops query keys id all) (sym n.id)
    (walked-past ops query keys last op n.hit n.is_live n.puts n.after n.least all w past)

pub left-step : (ops : List Operation) (last : Option (List ℕ)) (op : Operation) → IsFirstLive ops last op → left_after (id_of op.kind) ops + 1 ≤ left_after last ops
left-step ops last op f =
    let n : IsNextHit ops last op = next_hit ops last op f in
    subst (λ (id : Option (List ℕ)). left_after id ops + 1 ≤ left_after last ops) (sym n.id) (left-falls ops last op n.hit n.is_live n.puts n.after)

pub walked-found : (ops : List Operation) (query : Tree) (keys : List SortKey) (last : Option (List ℕ)) (op : Operation) (all : List Ranked) (found : Option Ranked) → IsFirstLive ops last op
    → option_map (λ (r : Ranked). r.hit) found ≡ option_and_then (kept_hit query) (hit_of op) → IfSome found (IsRanked keys) → IsWalked ops query keys last all
    → IsWalked ops query keys (id_of op.kind) (all ++ option_to_list found)
walked-found ops query keys last op all None f is own w = subst (IsWalked ops query keys (id_of op.kind)) (sym (append-nil all)) (walked-left ops query keys last op all f is w)
walked-found ops query keys last op all (Some r) f is own w = walked-kept ops query keys last op all r f is own w
