-- What may go of what is held, by the numbers that are listed for each id.
use Rattle.std.proofs.Common.{◌≡◌, ℕ, ◌≤◌, ◌+◌, ◌==◌, Bool, true, false, not, ◌&&◌, ◌||◌, nat_lt, if◌then◌else◌, Option, Some, None, is_some, List, [], ◌∷◌, refl, sym, ◌∙◌, ap, subst, arith}
use Rattle.std.specs.List.{list_any, cons_option}
use Rattle.std.specs.Option.{option_map_or}
use Rattle.std.specs.BTreeSet.{BTreeSet}
use Rattle.std.proofs.lemmas.Bool.Decides.{nat_tests}
use Rattle.ccr_op.specs.Operation.{Operation}
use Rattle.ccr_op.specs.declared.operation.Kind.{Kind}
use Rattle.ccr_op.specs.declared.operation.Kind.TheVariants.{Index, Delete, NoOp}
use Rattle.ccr_model.specs.Operations.{is_about}
use Rattle.ccr_model.specs.Stores.{is_passed, is_least, is_droppable, without_number, dropped}
use Rattle.ccr_store.specs.Kept.{ops_of, keeps_about, listed, one, times, IsIndexed, IsSomeSuch}
use Rattle.ccr_store.proofs.Filing.{one_none, rest_none}

any-there : (f : ℕ → Option Operation) (T : Operation → Bool) (k : ℕ) (x : Operation) → f k ≡ Some x → T x ≡ true → (ns : List ℕ) → 1 ≤ times k ns → list_any T (ops_of f ns) ≡ true
any-there f T k x is passes [] stands = absurd (omega arith)
any-there f T k x is passes (n ∷ ns) stands =
    (elim (n == k) as (λ b. (n == k) ≡ b → 1 ≤ one b + times k ns → list_any T (ops_of f (n ∷ ns)) ≡ true) [
      | true ↦ λ same le. let e : k ≡ n = grind (arith, nat_tests) in let here : f n ≡ Some x = subst (λ q. f q ≡ Some x) e is in rw (here, passes) refl
      | false ↦ λ other le. more (f n) (any-there f T k x is passes ns (omega arith))
    ]) refl stands
  where
    more : (o : Option Operation) → list_any T (ops_of f ns) ≡ true → list_any T (cons_option o (ops_of f ns)) ≡ true
    more None any = any
    more (Some y) any = (elim (T y) as (λ b. (b || list_any T (ops_of f ns)) ≡ true) [ true ↦ refl | false ↦ any ])

any-nowhere : (f : ℕ → Option Operation) (T : Operation → Bool) → ((k : ℕ) (x : Operation) → f k ≡ Some x → T x ≡ false) → (ns : List ℕ) → list_any T (ops_of f ns) ≡ false
any-nowhere f T fails [] = refl
any-nowhere f T fails (n ∷ ns) =
    (elim (f n) as (λ o. f n ≡ o → list_any T (cons_option o (ops_of f ns)) ≡ false) [
      | None ↦ λ is. any-nowhere f T fails ns
      | Some x ↦ λ is. rw (fails n x is) (any-nowhere f T fails ns)
    ]) refl

-- a test of an operation that asks for its id and tests its number
pub any-held : (f : ℕ → Option Operation) (numbers : List ℕ) (ids : List (List ℕ × BTreeSet ℕ)) (id : List ℕ) (T : Operation → Bool) (t : ℕ → Bool) (b : Bool) → IsIndexed f numbers ids
    → ((x : Operation) → T x ≡ (is_about id x && t x.seq)) → IsSomeSuch (λ k. listed ids id k && t k) b → list_any T (ops_of f numbers) ≡ b
any-held f numbers ids id T t true indexed same such =
    let there : (listed ids id such.0 ≡ true) × (t such.0 ≡ true) = parts (listed ids id such.0) (t such.0) such.1 in
    at such.0 there.1 (f such.0) refl (sym (indexed.lists.about id such.0) ∙ there.0)
  where
    parts : (a b : Bool) → (a && b) ≡ true → (a ≡ true) × (b ≡ true)
    parts true b is = (refl, is)
    parts false b is = cc

    at : (k : ℕ) → t k ≡ true → (o : Option Operation) → f k ≡ o → option_map_or (is_about id) o false ≡ true → list_any T (ops_of f numbers) ≡ true
    at k passes None is about = cc
    at k passes (Some x) is about =
        let own : x.seq ≡ k = indexed.own k x is in
        let test : t x.seq ≡ true = subst (λ q. t q ≡ true) (sym own) passes in
        let yes : T x ≡ true = same x ∙ (rw (about, test) refl) in
        any-there f T k x is yes numbers (indexed.covers k (ap (λ (o : Option Operation). is_some o) is))
any-held f numbers ids id T t false indexed same none = any-nowhere f T fails numbers
  where
    fails : (k : ℕ) (x : Operation) → f k ≡ Some x → T x ≡ false
    fails k x is =
        let own : x.seq ≡ k = indexed.own k x is in
        let about : listed ids id k ≡ is_about id x = indexed.lists.about id k ∙ ap (λ (o : Option Operation). option_map_or (is_about id) o false) is in
        same x ∙ (ap (λ q. is_about id x && t q) own ∙ (ap (λ b. b && t k) (sym about) ∙ none k))

pub passed-by : (f : ℕ → Option Operation) (numbers : List ℕ) (ids : List (List ℕ × BTreeSet ℕ)) (id : List ℕ) (op : Operation) (count : ℕ) (b : Bool) → IsIndexed f numbers ids
    → IsSomeSuch (λ k. listed ids id k && (nat_lt op.seq k && nat_lt k count)) b → is_passed id op count (ops_of f numbers) ≡ b
passed-by f numbers ids id op count b indexed such =
    any-held f numbers ids id (λ x. is_about id x && nat_lt op.seq x.seq && nat_lt x.seq count) (λ k. nat_lt op.seq k && nat_lt k count) b indexed
    (λ x. regroup (is_about id x) (nat_lt op.seq x.seq) (nat_lt x.seq count)) such
  where
    regroup : (a b c : Bool) → ((a && b) && c) ≡ (a && (b && c))
    regroup true b c = refl
    regroup false b c = refl

pub least-by : (f : ℕ → Option Operation) (numbers : List ℕ) (ids : List (List ℕ × BTreeSet ℕ)) (id : List ℕ) (op : Operation) (b : Bool) → IsIndexed f numbers ids
    → IsSomeSuch (λ k. listed ids id k && nat_lt k op.seq) b → is_least id op (ops_of f numbers) ≡ not b
least-by f numbers ids id op b indexed such =
    ap not (any-held f numbers ids id (λ x. is_about id x && nat_lt x.seq op.seq) (λ k. nat_lt k op.seq) b indexed (λ x. refl) such)

-- ---- by the kind of an operation

abbrev needless : ℕ → List Operation → Operation → Kind → Bool
needless count ops op kind = elim kind as (λ _. Bool) [
  | Index id routing body ↦ is_passed id op count ops
  | Delete id routing ↦ is_passed id op count ops || is_least id op ops
  | NoOp ↦ true
]

below : (bound count : ℕ) (ops : List Operation) (op : Operation) (kind : Kind) (b : Bool) → nat_lt op.seq bound ≡ true → op.kind ≡ kind → needless count ops op kind ≡ b → is_droppable bound count ops op ≡ b
below bound count ops op kind b low is what =
    ap (λ t. t && needless count ops op op.kind) low ∙ (ap (needless count ops op) is ∙ what)

pub index-droppable : (bound count : ℕ) (ops : List Operation) (op : Operation) (id : List ℕ) (routing : Option (List ℕ)) (body : List ℕ) (b : Bool) → nat_lt op.seq bound ≡ true → op.kind ≡ Index id routing body → is_passed id op count ops ≡ b
    → is_droppable bound count ops op ≡ b
index-droppable bound count ops op id routing body b low is what = below bound count ops op (Index id routing body) b low is what

pub delete-droppable : (bound count : ℕ) (ops : List Operation) (op : Operation) (id : List ℕ) (routing : Option (List ℕ)) (b : Bool) → nat_lt op.seq bound ≡ true → op.kind ≡ Delete id routing → (is_passed id op count ops || is_least id op ops) ≡ b
    → is_droppable bound count ops op ≡ b
delete-droppable bound count ops op id routing b low is what = below bound count ops op (Delete id routing) b low is what

-- ---- one turn of dropping

pub without-dropped : (f g : ℕ → Option Operation) (n : ℕ) → ((k : ℕ) (x : Operation) → f k ≡ Some x → x.seq ≡ k) → ((q : ℕ) → g q ≡ (if n == q then None else f q)) → (ns : List ℕ)
    → without_number n (ops_of f ns) ≡ ops_of g ns
without-dropped f g n own drops [] = refl
without-dropped f g n own drops (k ∷ ns) =
    (elim (f k) as (λ o. f k ≡ o → without_number n (cons_option o (ops_of f ns)) ≡ cons_option (g k) (ops_of g ns)) [
      | None ↦ λ is.
          let gone : g k ≡ None = drops k ∙ (elim (n == k) as (λ b. ◌≡◌ {A = Option Operation} (if b then None else f k) None) [ true ↦ refl | false ↦ is ]) in
          rw gone (without-dropped f g n own drops ns)
      | Some x ↦ λ is.
          let at : x.seq ≡ k = own k x is in
          (elim (n == k) as (λ b. (n == k) ≡ b → without_number n (x ∷ ops_of f ns) ≡ cons_option (g k) (ops_of g ns)) [
            | true ↦ λ same.
                let gone : g k ≡ None = drops k ∙ ap (λ b. if b then None else f k) same in
                let own_is : (x.seq == n) ≡ true = grind (arith, nat_tests) in
                rw (gone, own_is) (without-dropped f g n own drops ns)
            | false ↦ λ other.
                let stays : g k ≡ Some x = drops k ∙ (ap (λ b. if b then None else f k) other ∙ is) in
                let own_isnt : (x.seq == n) ≡ false = grind (arith, nat_tests) in
                rw (stays, own_isnt) (ap (λ (xs : List Operation). x ∷ xs) (without-dropped f g n own drops ns))
          ]) refl
    ]) refl

pub others-stay : (f g : ℕ → Option Operation) (n : ℕ) → ((q : ℕ) → g q ≡ (if n == q then None else f q)) → (ns : List ℕ) → times n ns ≡ 0 → ops_of g ns ≡ ops_of f ns
others-stay f g n drops [] none = refl
others-stay f g n drops (k ∷ ns) none =
    let apart : (k == n) ≡ false = one_none (k == n) (times n ns) none in
    let turned_is : (n == k) ≡ false = grind (arith, nat_tests) in
    let same : g k ≡ f k = drops k ∙ ap (λ b. if b then None else f k) turned_is in
    let rest : ops_of g ns ≡ ops_of f ns = others-stay f g n drops ns (rest_none (k == n) (times n ns) none) in
    rw (same, rest) refl

-- a number whose operation goes, and one whose doesn't
pub turn-drops : (f g : ℕ → Option Operation) (bound count n : ℕ) (numbers rest : List ℕ) → ((k : ℕ) (x : Operation) → f k ≡ Some x → x.seq ≡ k) → ((q : ℕ) → g q ≡ (if n == q then None else f q))
    → true ≡ option_map_or (is_droppable bound count (ops_of f numbers)) (f n) false → times n rest ≡ 0
    → dropped bound count (ops_of f numbers) (ops_of f (n ∷ rest)) ≡ n ∷ dropped bound count (ops_of g numbers) (ops_of g rest)
turn-drops f g bound count n numbers rest own drops goes apart = by (f n) refl goes
  where
    by : (o : Option Operation) → f n ≡ o → true ≡ option_map_or (is_droppable bound count (ops_of f numbers)) o false
        → dropped bound count (ops_of f numbers) (cons_option o (ops_of f rest)) ≡ n ∷ dropped bound count (ops_of g numbers) (ops_of g rest)
    by None is goes_is = cc
    by (Some op) is goes_is =
        let at : op.seq ≡ n = own n op is in
        let less : without_number op.seq (ops_of f numbers) ≡ ops_of g numbers = ap (λ k. without_number k (ops_of f numbers)) at ∙ without-dropped f g n own drops numbers in
        let same : ops_of f rest ≡ ops_of g rest = sym (others-stay f g n drops rest apart) in
        ap (λ (t : Bool). if t then op.seq ∷ dropped bound count (without_number op.seq (ops_of f numbers)) (ops_of f rest) else dropped bound count (ops_of f numbers) (ops_of f rest)) (sym goes_is)
        ∙ (ap (λ k. k ∷ dropped bound count (without_number op.seq (ops_of f numbers)) (ops_of f rest)) at
        ∙ (ap (λ (xs : List Operation). n ∷ dropped bound count xs (ops_of f rest)) less ∙ ap (λ (xs : List Operation). n ∷ dropped bound count (ops_of g numbers) xs) same))

pub turn-keeps : (f : ℕ → Option Operation) (bound count n : ℕ) (numbers rest : List ℕ) → false ≡ option_map_or (is_droppable bound count (ops_of f numbers)) (f n) false
    → dropped bound count (ops_of f numbers) (ops_of f (n ∷ rest)) ≡ dropped bound count (ops_of f numbers) (ops_of f rest)
turn-keeps f bound count n numbers rest stays = by (f n) stays
  where
    by : (o : Option Operation) → false ≡ option_map_or (is_droppable bound count (ops_of f numbers)) o false
        → dropped bound count (ops_of f numbers) (cons_option o (ops_of f rest)) ≡ dropped bound count (ops_of f numbers) (ops_of f rest)
    by None stays_is = refl
    by (Some op) stays_is = ap (λ (t : Bool). if t then op.seq ∷ dropped bound count (without_number op.seq (ops_of f numbers)) (ops_of f rest) else dropped bound count (ops_of f numbers) (ops_of f rest)) (sym stays_is)

-- ---- an index with one fewer

pub indexed-fewer : (f g : ℕ → Option Operation) (numbers : List ℕ) (ids less : List (List ℕ × BTreeSet ℕ)) (n : ℕ) (op : Operation) → IsIndexed f numbers ids → f n ≡ Some op
    → ((q : ℕ) → g q ≡ (if n == q then None else f q)) → ((id : List ℕ) (q : ℕ) → listed less id q ≡ (listed ids id q && not (is_about id op && (op.seq == q)))) → IsIndexed g numbers less
indexed-fewer f g numbers ids less n op indexed is drops unlisted = record {
  own = λ k x there. indexed.own k x (kept k x there);
  covers = λ k there. indexed.covers k (some k there);
  lists = record { about = about };
}
  where
    kept : (k : ℕ) (x : Operation) → g k ≡ Some x → f k ≡ Some x
    kept k x there = (elim (n == k) as (λ b. ◌≡◌ {A = Option Operation} (if b then None else f k) (Some x) → f k ≡ Some x) [ true ↦ λ e. cc | false ↦ λ e. e ]) (sym (drops k) ∙ there)

    some : (k : ℕ) → is_some (g k) ≡ true → is_some (f k) ≡ true
    some k there = (elim (n == k) as (λ b. is_some {T = Operation} (if b then None else f k) ≡ true → is_some (f k) ≡ true) [ true ↦ λ e. cc | false ↦ λ e. e ]) (ap (λ (o : Option Operation). is_some o) (sym (drops k)) ∙ there)

    and_not : (a : Bool) → (a && not (a && true)) ≡ false
    and_not true = refl
    and_not false = refl

    and_yes : (a b : Bool) → (a && not (b && false)) ≡ a
    and_yes true true = refl
    and_yes true false = refl
    and_yes false b = refl

    about : (id : List ℕ) (q : ℕ) → listed less id q ≡ keeps_about g id q
    about id q =
        let seq : op.seq ≡ n = indexed.own n op is in
        (elim (n == q) as (λ b. (n == q) ≡ b → listed less id q ≡ keeps_about g id q) [
          | true ↦ λ same.
              let e : n ≡ q = grind (arith, nat_tests) in
              let was : listed ids id q ≡ is_about id op = indexed.lists.about id q ∙ ap (λ (o : Option Operation). option_map_or (is_about id) o false) (subst (λ m. f m ≡ Some op) e is) in
              let own : (op.seq == q) ≡ true = grind (arith, nat_tests) in
              let gone : keeps_about g id q ≡ false = ap (λ (o : Option Operation). option_map_or (is_about id) o false) (drops q ∙ ap (λ b. if b then None else f q) same) in
              unlisted id q ∙ (rw (was, own) (and_not (is_about id op)) ∙ sym gone)
          | false ↦ λ other.
              let own : (op.seq == q) ≡ false = grind (arith, nat_tests) in
              let stays : keeps_about g id q ≡ keeps_about f id q = ap (λ (o : Option Operation). option_map_or (is_about id) o false) (drops q ∙ ap (λ b. if b then None else f q) other) in
              unlisted id q ∙ (rw own (and_yes (listed ids id q) (is_about id op)) ∙ (indexed.lists.about id q ∙ sym stays))
        ]) refl
