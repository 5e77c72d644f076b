-- Lemmas on lists: what holds of each element, look-ups, and changes of one element.
use Rattle.std.specs.List.{AllByRecursion, list_any, range_with_len}
use Rattle.std.specs.Option.{option_map_or}
use Rattle.std.specs.Prelude.{find, filter, cond, is_some, slice_get, slice_set, remove}
use Rattle.std.specs.Str.{bytes_eq}
use Rattle.std.proofs.Common.{◌≡◌, ℕ, zero, suc, ◌+◌, ◌-◌, ◌≤◌, ◌<◌, max, inl, inr, ◌==◌, ◌&&◌, ◌||◌, if◌then◌else◌, Bool, true, false, not, nat_lt, Option, Some, None, List, [], ◌∷◌, ◌++◌, map, length, take, drop, refl, ap, subst, arith}
use Rattle.std.proofs.lemmas.Bool.Decides.{nat_tests}
use Rattle.std.proofs.lemmas.Slice.Eq.{bytes_eq-Decides}
use Rattle.ccr_op.specs.Operation.{Operation}
use Rattle.ccr_model.specs.Copies.{Copy, Replica, replaced, without, changed_replica}
use Rattle.ccr_model.specs.Answers.{IsIn}
use Rattle.ccr_model.specs.Operations.{is_empty, with_op, with_ops}
use Rattle.ccr_model.specs.Restores.{ChunkAsked, without_ask}
use Rattle.ccr_model.specs.Tasks.{Read, changed_read, without_read, by_request, end_of_ops}
use Rattle.ccr_model.specs.Leaders.{Poll, without_poll}
use Rattle.ccr_law_base.proofs.Cases.{on_if}

-- ---- what holds of each element

pub All-weaker : {X : Type 0} (P Q : X → Type 0) → ((x : X) → P x → Q x) → (xs : List X) → AllByRecursion P xs → AllByRecursion Q xs
All-weaker P Q step [] all = tt
All-weaker P Q step (x ∷ xs) all = (step x all.0, All-weaker P Q step xs all.1)

pub All-every : {X : Type 0} (P : X → Type 0) → ((x : X) → P x) → (xs : List X) → AllByRecursion P xs
All-every P every [] = tt
All-every P every (x ∷ xs) = (every x, All-every P every xs)

pub All-both : {X : Type 0} (P Q : X → Type 0) (xs : List X) → AllByRecursion P xs → AllByRecursion Q xs → AllByRecursion (λ x. P x × Q x) xs
All-both P Q [] ps qs = tt
All-both P Q (x ∷ xs) ps qs = ((ps.0, qs.0), All-both P Q xs ps.1 qs.1)

pub All-from_both : {X : Type 0} (P Q R : X → Type 0) → ((x : X) → P x → Q x → R x) → (xs : List X) → AllByRecursion P xs → AllByRecursion Q xs → AllByRecursion R xs
All-from_both P Q R step [] p q = tt
All-from_both P Q R step (x ∷ xs) p q = (step x p.0 q.0, All-from_both P Q R step xs p.1 q.1)

pub All-append : {X : Type 0} (P : X → Type 0) (xs ys : List X) → AllByRecursion P xs → AllByRecursion P ys → AllByRecursion P (xs ++ ys)
All-append P [] ys ps qs = qs
All-append P (x ∷ xs) ys ps qs = (ps.0, All-append P xs ys ps.1 qs)

pub All-append_front : {X : Type 0} (P : X → Type 0) (xs ys : List X) → AllByRecursion P (xs ++ ys) → AllByRecursion P xs
All-append_front P [] ys all = tt
All-append_front P (x ∷ xs) ys all = (all.0, All-append_front P xs ys all.1)

pub All-append_back : {X : Type 0} (P : X → Type 0) (xs ys : List X) → AllByRecursion P (xs ++ ys) → AllByRecursion P ys
All-append_back P [] ys all = all
All-append_back P (x ∷ xs) ys all = All-append_back P xs ys all.1

pub All-push : {X : Type 0} (P : X → Type 0) (xs : List X) (x : X) → AllByRecursion P xs → P x → AllByRecursion P (xs ++ x ∷ [])
All-push P xs x all last = All-append P xs (x ∷ []) all (last, tt)

pub All-map : {X Y : Type 0} (P : Y → Type 0) (f : X → Y) (xs : List X) → AllByRecursion (λ x. P (f x)) xs → AllByRecursion P (map f xs)
All-map P f [] all = tt
All-map P f (x ∷ xs) all = (all.0, All-map P f xs all.1)

pub All-map_back : {X Y : Type 0} (P : Y → Type 0) (f : X → Y) (xs : List X) → AllByRecursion P (map f xs) → AllByRecursion (λ x. P (f x)) xs
All-map_back P f [] all = tt
All-map_back P f (x ∷ xs) all = (all.0, All-map_back P f xs all.1)

pub All-filter : {X : Type 0} (P : X → Type 0) (test : X → Bool) (xs : List X) → AllByRecursion P xs → AllByRecursion P (filter test xs)
All-filter P test [] all = tt
All-filter P test (x ∷ xs) all =
    on_if (AllByRecursion P) (test x) (x ∷ filter test xs) (filter test xs) (λ is. (all.0, All-filter P test xs all.1)) (λ isnt. All-filter P test xs all.1)

pub All-filter_test : {X : Type 0} (test : X → Bool) (xs : List X) → AllByRecursion (λ x. test x ≡ true) (filter test xs)
All-filter_test test [] = tt
All-filter_test test (x ∷ xs) =
    on_if (AllByRecursion (λ x. test x ≡ true)) (test x) (x ∷ filter test xs) (filter test xs) (λ is. (is, All-filter_test test xs)) (λ isnt. All-filter_test test xs)

pub All-take : {X : Type 0} (P : X → Type 0) (n : ℕ) (xs : List X) → AllByRecursion P xs → AllByRecursion P (take n xs)
All-take P zero [] all = tt
All-take P (suc n) [] all = tt
All-take P zero (x ∷ xs) all = tt
All-take P (suc n) (x ∷ xs) all = (all.0, All-take P n xs all.1)

pub some_equal : {X : Type 0} (a b : X) → Some a ≡ Some b → a ≡ b
some_equal a b e = cc

pub All-at : {X : Type 0} (P : X → Type 0) (xs : List X) (n : ℕ) (x : X) → AllByRecursion P xs → slice_get xs n ≡ Some x → P x
All-at P [] n x all at = cc
All-at P (y ∷ xs) zero x all at = subst P (some_equal y x at) all.0
All-at P (y ∷ xs) (suc n) x all at = All-at P xs n x all.1 at

pub All-set : {X : Type 0} (P : X → Type 0) (xs : List X) (n : ℕ) (x : X) → AllByRecursion P xs → P x → AllByRecursion P (slice_set xs n x)
All-set P [] n x all new = tt
All-set P (y ∷ xs) zero x all new = (new, all.1)
All-set P (y ∷ xs) (suc n) x all new = (all.0, All-set P xs n x all.1 new)

pub All-places : {X : Type 0} (P : X → Type 0) (xs : List X) → ((n : ℕ) (x : X) → slice_get xs n ≡ Some x → P x) → AllByRecursion P xs
All-places P [] each = tt
All-places P (x ∷ xs) each = (each zero x refl, All-places P xs (λ n y at. each (suc n) y at))

pub All-in : {X : Type 0} (P : X → Type 0) (xs : List X) (x : X) → AllByRecursion P xs → IsIn xs x → P x
All-in P [] x all there = absurd there
All-in P (y ∷ xs) x all (inl e) = subst P e all.0
All-in P (y ∷ xs) x all (inr there) = All-in P xs x all.1 there

pub All-drop : {X : Type 0} (P : X → Type 0) (n : ℕ) (xs : List X) → AllByRecursion P xs → AllByRecursion P (drop n xs)
All-drop P zero [] all = tt
All-drop P (suc n) [] all = tt
All-drop P zero (x ∷ xs) all = all
All-drop P (suc n) (x ∷ xs) all = All-drop P n xs all.1

pub All-remove : {X : Type 0} (P : X → Type 0) (xs : List X) (n : ℕ) → AllByRecursion P xs → AllByRecursion P (remove xs n)
All-remove P xs n all = All-append P (take n xs) (drop (suc n) xs) (All-take P n xs all) (All-drop P (suc n) xs all)

-- ---- look-ups

-- what holds of each element holds of the one that is found, and so does the test
pub All-find : {X : Type 0} (P : X → Type 0) (test : X → Bool) (xs : List X) (x : X) → AllByRecursion P xs → find test xs ≡ Some x → P x × (test x ≡ true)
All-find P test [] x all found = cc
All-find P test (y ∷ xs) x all found =
    on_if (λ (o : Option _). o ≡ Some x → P x × (test x ≡ true)) (test y) (Some y) (find test xs)
    (λ is at. (subst P (some_equal y x at) all.0, subst (λ z. test z ≡ true) (some_equal y x at) is))
    (λ isnt at. All-find P test xs x all.1 at) found

-- where none is found the test fails at each
pub find_none : {X : Type 0} (test : X → Bool) (xs : List X) → find test xs ≡ None → AllByRecursion (λ x. test x ≡ false) xs
find_none test [] none = tt
find_none test (y ∷ xs) none =
    on_if (λ (o : Option _). o ≡ None → AllByRecursion (λ x. test x ≡ false) (y ∷ xs)) (test y) (Some y) (find test xs)
    (λ is at. cc) (λ isnt at. (isnt, find_none test xs at)) none

pub find-front : {X : Type 0} (test : X → Bool) (xs more : List X) (x : X) → find test xs ≡ Some x → find test (xs ++ more) ≡ Some x
find-front test [] more x at = cc
find-front test (y ∷ xs) more x at =
    (elim (test y) as (λ b. (if b then Some y else find test xs) ≡ Some x → (if b then Some y else find test (xs ++ more)) ≡ Some x) [
      | true ↦ λ is. is
      | false ↦ λ is. find-front test xs more x is
    ]) at

-- one is found where one passes
pub found-any : {X : Type 0} (test : X → Bool) (xs : List X) → is_some (find test xs) ≡ list_any test xs
found-any test [] = refl
found-any test (x ∷ xs) = elim (test x) as (λ b. is_some (cond b (Some x) (find test xs)) ≡ (b || list_any test xs)) [ true ↦ refl | false ↦ found-any test xs ]

pub get_within : {X : Type 0} (xs : List X) (n : ℕ) (x : X) → slice_get xs n ≡ Some x → n < length xs
get_within [] n x at = absurd cc
get_within (y ∷ xs) zero x at = omega arith
get_within (y ∷ xs) (suc n) x at = let rest : n < length xs = get_within xs n x at in omega arith

pub drop-zero : {X : Type 0} (xs : List X) → drop zero xs ≡ xs
drop-zero [] = refl
drop-zero (x ∷ xs) = refl

pub length-filter-le : {X : Type 0} (test : X → Bool) (xs : List X) → length (filter test xs) ≤ length xs
length-filter-le test [] = omega arith
length-filter-le test (x ∷ xs) =
    let rest : length (filter test xs) ≤ length xs = length-filter-le test xs in
    on_if (λ (ys : List _). length ys ≤ length (x ∷ xs)) (test x) (x ∷ filter test xs) (filter test xs) (λ is. omega arith) (λ isnt. omega arith)

-- what is set is there, and the others are as they were
pub set-same : {X : Type 0} (xs : List X) (i : ℕ) (x y : X) → slice_get xs i ≡ Some x → slice_get (slice_set xs i y) i ≡ Some y
set-same [] i x y at = absurd cc
set-same (z ∷ xs) zero x y at = refl
set-same (z ∷ xs) (suc i) x y at = set-same xs i x y at

pub set-other : {X : Type 0} (xs : List X) (i j : ℕ) (y : X) → (i == j) ≡ false → slice_get (slice_set xs i y) j ≡ slice_get xs j
set-other [] zero j y other = refl
set-other [] (suc i) j y other = refl
set-other (z ∷ xs) zero zero y other = absurd cc
set-other (z ∷ xs) zero (suc j) y other = refl
set-other (z ∷ xs) (suc i) zero y other = refl
set-other (z ∷ xs) (suc i) (suc j) y other = set-other xs i j y (let e : (i == j) ≡ false = grind (arith, nat_tests) in e)

pub push-old : {X : Type 0} (xs : List X) (i : ℕ) (x y : X) → slice_get xs i ≡ Some x → slice_get (xs ++ y ∷ []) i ≡ Some x
push-old [] i x y at = absurd cc
push-old (z ∷ xs) zero x y at = at
push-old (z ∷ xs) (suc i) x y at = push-old xs i x y at

-- ---- changes of one replica

pub All-replaced : (P : Replica → Type 0) (copy : ℕ) (new : Replica) (rs : List Replica) → P new → AllByRecursion P rs → AllByRecursion P (replaced copy new rs)
All-replaced P copy new [] made all = tt
All-replaced P copy new (r ∷ rs) made all =
    on_if (AllByRecursion P) (r.copy.number == copy) (new ∷ rs) (r ∷ replaced copy new rs)
    (λ is. (made, all.1)) (λ isnt. (all.0, All-replaced P copy new rs made all.1))

pub All-without : (P : Replica → Type 0) (copy : ℕ) (rs : List Replica) → AllByRecursion P rs → AllByRecursion P (without copy rs)
All-without P copy [] all = tt
All-without P copy (r ∷ rs) all =
    on_if (AllByRecursion P) (r.copy.number == copy) rs (r ∷ without copy rs) (λ is. all.1) (λ isnt. (all.0, All-without P copy rs all.1))

-- the change keeps the claim at each replica
pub All-changed : (P Q : Replica → Type 0) (copy : ℕ) (change : Copy → Copy) → ((r : Replica) → P r → Q r)
    → ((r : Replica) → (r.copy.number == copy) ≡ true → P r → Q (record r { copy = change r.copy })) → (rs : List Replica)
    → AllByRecursion P rs → AllByRecursion Q (changed_replica copy change rs)
All-changed P Q copy change same changes [] all = tt
All-changed P Q copy change same changes (r ∷ rs) all =
    on_if (AllByRecursion Q) (r.copy.number == copy) (record r { copy = change r.copy } ∷ rs) (r ∷ changed_replica copy change rs)
    (λ is. (changes r is all.0, All-weaker P Q same rs all.1)) (λ isnt. (same r all.0, All-changed P Q copy change same changes rs all.1))

-- ---- operations in the order of their numbers

pub All-with_op : (P : Operation → Type 0) (op : Operation) (xs : List Operation) → P op → AllByRecursion P xs → AllByRecursion P (with_op op xs)
All-with_op P op [] new all = (new, tt)
All-with_op P op (x ∷ xs) new all =
    on_if (AllByRecursion P) (nat_lt op.seq x.seq) (op ∷ x ∷ xs) (x ∷ with_op op xs) (λ is. (new, all)) (λ isnt. (all.0, All-with_op P op xs new all.1))

pub All-with_ops : (P : Operation → Type 0) (more xs : List Operation) → AllByRecursion P more → AllByRecursion P xs → AllByRecursion P (with_ops more xs)
All-with_ops P [] xs news all = all
All-with_ops P (op ∷ more) xs news all = All-with_ops P more (with_op op xs) news.1 (All-with_op P op xs news.0 all)

pub some_length : (ops : List Operation) → is_empty ops ≡ false → 1 ≤ length ops
some_length [] some = cc
some_length (op ∷ ops) some = omega arith

pub end-up : (ops : List Operation) (n : ℕ) → n ≤ end_of_ops ops n
end-up [] n = omega arith
end-up (op ∷ ops) n = let rest : max n (op.seq + 1) ≤ end_of_ops ops (max n (op.seq + 1)) = end-up ops (max n (op.seq + 1)) in omega arith

-- an operation is about an id where its id is that
pub about_id : (id : List ℕ) (o : Option (List ℕ)) → option_map_or (λ own. bytes_eq own id) o false ≡ true → o ≡ Some id
about_id id None is = cc
about_id id (Some own) is = ap (λ (xs : List ℕ). Some xs) ((bytes_eq-Decides own id).0 is)

pub id_about : (id : List ℕ) (o : Option (List ℕ)) → o ≡ Some id → option_map_or (λ own. bytes_eq own id) o false ≡ true
id_about id None is = cc
id_about id (Some own) is = (bytes_eq-Decides own id).1 (some_equal own id is)

-- ---- changes of one read or one part, and a poll that leaves

pub All-changed_read : (P : Read → Type 0) (request : ℕ) (change : Read → Read) → ((r : Read) → P r → P (change r)) → (reads : List Read)
    → AllByRecursion P reads → AllByRecursion P (changed_read request change reads)
All-changed_read P request change keeps [] all = tt
All-changed_read P request change keeps (r ∷ reads) all =
    on_if (AllByRecursion P) (r.request == request) (change r ∷ reads) (r ∷ changed_read request change reads)
    (λ is. (keeps r all.0, all.1)) (λ isnt. (all.0, All-changed_read P request change keeps reads all.1))

pub All-without_read : (P : Read → Type 0) (request : ℕ) (reads : List Read) → AllByRecursion P reads → AllByRecursion P (without_read request reads)
All-without_read P request [] all = tt
All-without_read P request (r ∷ reads) all =
    on_if (AllByRecursion P) (r.request == request) reads (r ∷ without_read request reads) (λ is. all.1) (λ isnt. (all.0, All-without_read P request reads all.1))

pub All-by_request : (P : Read → Type 0) (r : Read) (reads : List Read) → P r → AllByRecursion P reads → AllByRecursion P (by_request r reads)
All-by_request P r [] one all = (one, tt)
All-by_request P r (x ∷ reads) one all =
    on_if (AllByRecursion P) (nat_lt r.request x.request) (r ∷ x ∷ reads) (x ∷ by_request r reads)
    (λ is. (one, all)) (λ isnt. (all.0, All-by_request P r reads one all.1))

pub All-without_ask : (P : ChunkAsked → Type 0) (request : ℕ) (asks : List ChunkAsked) → AllByRecursion P asks → AllByRecursion P (without_ask request asks)
All-without_ask P request [] all = tt
All-without_ask P request (a ∷ asks) all =
    on_if (AllByRecursion P) (a.request == request) asks (a ∷ without_ask request asks) (λ is. all.1) (λ isnt. (all.0, All-without_ask P request asks all.1))

pub All-without_poll : (P : Poll → Type 0) (follower : List ℕ) (at : ℕ) (polls : List Poll) → AllByRecursion P polls → AllByRecursion P (without_poll follower at polls)
All-without_poll P follower at [] all = tt
All-without_poll P follower at (p ∷ polls) all =
    on_if (AllByRecursion P) (bytes_eq p.follower follower) (if at == 0 then polls else p ∷ without_poll follower (at - 1) polls) (p ∷ without_poll follower at polls)
    (λ own. on_if (AllByRecursion P) (at == 0) polls (p ∷ without_poll follower (at - 1) polls)
    (λ first. all.1) (λ later. (all.0, All-without_poll P follower (at - 1) polls all.1)))
    (λ other. (all.0, All-without_poll P follower at polls all.1))

-- ---- numbers from one on

pub any-range : (from size k : ℕ) → list_any (λ n. n == k) (range_with_len from size) ≡ (not (nat_lt k from) && nat_lt k (from + size))
any-range from zero k = grind (arith, nat_tests)
any-range from (suc size) k =
    let rest : list_any (λ n. n == k) (range_with_len (from + 1) size) ≡ (not (nat_lt k (from + 1)) && nat_lt k (from + 1 + size)) = any-range (from + 1) size k in
    rw rest (grind (arith, nat_tests))

-- the place of a front
pub slice_get-take : {X : Type 0} (n : ℕ) (xs : List X) (k : ℕ) → k < n → slice_get (take n xs) k ≡ slice_get xs k
slice_get-take zero xs k lt = absurd (omega arith)
slice_get-take (suc n) [] k lt = refl
slice_get-take (suc n) (x ∷ xs) zero lt = refl
slice_get-take (suc n) (x ∷ xs) (suc k) lt = slice_get-take n xs k (omega arith)

pub slice_get-append_front : {X : Type 0} (xs ys : List X) (k : ℕ) → k < length xs → slice_get (xs ++ ys) k ≡ slice_get xs k
slice_get-append_front [] ys k lt = absurd (omega arith)
slice_get-append_front (x ∷ xs) ys zero lt = refl
slice_get-append_front (x ∷ xs) ys (suc k) lt = slice_get-append_front xs ys k (omega arith)

pub slice_get-append_back : {X : Type 0} (xs ys : List X) (k : ℕ) → slice_get (xs ++ ys) (length xs + k) ≡ slice_get ys k
slice_get-append_back [] ys k = ap (slice_get ys) (omega arith)
slice_get-append_back (x ∷ xs) ys k =
    let e : suc (length xs) + k ≡ suc (length xs + k) = omega arith in
    rw e (slice_get-append_back xs ys k)
