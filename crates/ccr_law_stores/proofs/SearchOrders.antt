-- The order of hits is a total one, in which only hits of the same id are equal.
use Rattle.std.specs.Cmp.{IsTotalOrder}
use Rattle.std.specs.Cmp.Lexicographic.{slice_cmp}
use Rattle.std.specs.Cmp.{bool_cmp_total}
use Rattle.std.specs.Ordering.{ordering_then, ordering_reverse, on}
use Rattle.std.proofs.Common.{◌≡◌, ℕ, true, false, nat_cmp, is_eq, is_lt, Ordering, Less, Equal, Greater, Option, Some, None, List, [], ◌∷◌, bytes_eq, refl, sym, ◌∙◌, ap}
use Rattle.std.proofs.lemmas.Cmp.{int_cmp_total, nat_list_cmp_total, on_total, then_total, back_total}
use Rattle.std.proofs.lemmas.Map.Text.{is_eq-slice_cmp}
use Rattle.std.proofs.lemmas.Slice.Eq.{bytes_eq-Decides}
use Rattle.ccr_doc.specs.Scalars.{scalar_cmp}
use Rattle.ccr_doc.specs.declared.scalars.Scalar.{Scalar}
use Rattle.ccr_doc.specs.declared.scalars.Scalar.TheVariants.{Text, Number, Truth}
use Rattle.ccr_query.specs.Sorting.{value_cmp, key_of, keys_cmp, hit_cmp}
use Rattle.ccr_query.specs.declared.answers.Hit.{Hit}
use Rattle.ccr_query.specs.declared.sorting.SortKey.{SortKey}
use Rattle.ccr_query.specs.declared.sorting.SortOrder.{SortOrder}
use Rattle.ccr_query.specs.declared.sorting.SortOrder.TheVariants.{Asc, Desc}
use Rattle.ccr_model.specs.Searches.{fields_of_hit}

-- ---- values

scalar_antisymm : (x y : Scalar) → scalar_cmp x y ≡ ordering_reverse (scalar_cmp y x)
scalar_antisymm (Truth a) (Truth b) = bool_cmp_total.antisymm a b
scalar_antisymm (Number a) (Number b) = int_cmp_total.antisymm a b
scalar_antisymm (Text a) (Text b) = nat_list_cmp_total.antisymm a b
scalar_antisymm x y = refl

scalar_trans : (x y z : Scalar) → scalar_cmp x y ≡ Less → scalar_cmp y z ≡ Less → scalar_cmp x z ≡ Less
scalar_trans (Truth a) (Truth b) (Truth c) first second = bool_cmp_total.trans a b c first second
scalar_trans (Truth a) (Truth b) (Number c) first second = refl
scalar_trans (Truth a) (Truth b) (Text c) first second = refl
scalar_trans (Truth a) (Number b) (Truth c) first second = cc
scalar_trans (Truth a) (Number b) (Number c) first second = refl
scalar_trans (Truth a) (Number b) (Text c) first second = refl
scalar_trans (Truth a) (Text b) (Truth c) first second = cc
scalar_trans (Truth a) (Text b) (Number c) first second = refl
scalar_trans (Truth a) (Text b) (Text c) first second = refl
scalar_trans (Number a) (Truth b) (Truth c) first second = cc
scalar_trans (Number a) (Truth b) (Number c) first second = cc
scalar_trans (Number a) (Truth b) (Text c) first second = refl
scalar_trans (Number a) (Number b) (Truth c) first second = cc
scalar_trans (Number a) (Number b) (Number c) first second = int_cmp_total.trans a b c first second
scalar_trans (Number a) (Number b) (Text c) first second = refl
scalar_trans (Number a) (Text b) (Truth c) first second = cc
scalar_trans (Number a) (Text b) (Number c) first second = cc
scalar_trans (Number a) (Text b) (Text c) first second = refl
scalar_trans (Text a) (Truth b) (Truth c) first second = cc
scalar_trans (Text a) (Truth b) (Number c) first second = cc
scalar_trans (Text a) (Truth b) (Text c) first second = cc
scalar_trans (Text a) (Number b) (Truth c) first second = cc
scalar_trans (Text a) (Number b) (Number c) first second = cc
scalar_trans (Text a) (Number b) (Text c) first second = cc
scalar_trans (Text a) (Text b) (Truth c) first second = cc
scalar_trans (Text a) (Text b) (Number c) first second = cc
scalar_trans (Text a) (Text b) (Text c) first second = nat_list_cmp_total.trans a b c first second

scalar_congr : (x y z : Scalar) → scalar_cmp x y ≡ Equal → scalar_cmp x z ≡ scalar_cmp y z
scalar_congr (Truth a) (Truth b) (Truth c) same = bool_cmp_total.congr a b c same
scalar_congr (Truth a) (Truth b) (Number c) same = refl
scalar_congr (Truth a) (Truth b) (Text c) same = refl
scalar_congr (Truth a) (Number b) (Truth c) same = cc
scalar_congr (Truth a) (Number b) (Number c) same = cc
scalar_congr (Truth a) (Number b) (Text c) same = cc
scalar_congr (Truth a) (Text b) (Truth c) same = cc
scalar_congr (Truth a) (Text b) (Number c) same = cc
scalar_congr (Truth a) (Text b) (Text c) same = cc
scalar_congr (Number a) (Truth b) (Truth c) same = cc
scalar_congr (Number a) (Truth b) (Number c) same = cc
scalar_congr (Number a) (Truth b) (Text c) same = cc
scalar_congr (Number a) (Number b) (Truth c) same = refl
scalar_congr (Number a) (Number b) (Number c) same = int_cmp_total.congr a b c same
scalar_congr (Number a) (Number b) (Text c) same = refl
scalar_congr (Number a) (Text b) (Truth c) same = cc
scalar_congr (Number a) (Text b) (Number c) same = cc
scalar_congr (Number a) (Text b) (Text c) same = cc
scalar_congr (Text a) (Truth b) (Truth c) same = cc
scalar_congr (Text a) (Truth b) (Number c) same = cc
scalar_congr (Text a) (Truth b) (Text c) same = cc
scalar_congr (Text a) (Number b) (Truth c) same = cc
scalar_congr (Text a) (Number b) (Number c) same = cc
scalar_congr (Text a) (Number b) (Text c) same = cc
scalar_congr (Text a) (Text b) (Truth c) same = refl
scalar_congr (Text a) (Text b) (Number c) same = refl
scalar_congr (Text a) (Text b) (Text c) same = nat_list_cmp_total.congr a b c same

pub scalar_total : IsTotalOrder scalar_cmp
scalar_total = record { antisymm = scalar_antisymm; trans = scalar_trans; congr = scalar_congr }

pub value_total : (order : SortOrder) → IsTotalOrder (value_cmp order)
value_total Asc = scalar_total
value_total Desc = back_total {K = Scalar} {R = scalar_cmp} scalar_total

-- ---- keys

keys_antisymm : (order : SortOrder) (x y : Option Scalar) → keys_cmp order x y ≡ ordering_reverse (keys_cmp order y x)
keys_antisymm order (Some a) (Some b) = (value_total order).antisymm a b
keys_antisymm order (Some a) None = refl
keys_antisymm order None (Some b) = refl
keys_antisymm order None None = refl

keys_trans : (order : SortOrder) (x y z : Option Scalar) → keys_cmp order x y ≡ Less → keys_cmp order y z ≡ Less → keys_cmp order x z ≡ Less
keys_trans order (Some a) (Some b) (Some c) first second = (value_total order).trans a b c first second
keys_trans order (Some a) (Some b) None first second = refl
keys_trans order (Some a) None (Some c) first second = cc
keys_trans order (Some a) None None first second = refl
keys_trans order None (Some b) (Some c) first second = cc
keys_trans order None (Some b) None first second = cc
keys_trans order None None (Some c) first second = cc
keys_trans order None None None first second = cc

keys_congr : (order : SortOrder) (x y z : Option Scalar) → keys_cmp order x y ≡ Equal → keys_cmp order x z ≡ keys_cmp order y z
keys_congr order (Some a) (Some b) (Some c) same = (value_total order).congr a b c same
keys_congr order (Some a) (Some b) None same = refl
keys_congr order (Some a) None (Some c) same = cc
keys_congr order (Some a) None None same = cc
keys_congr order None (Some b) (Some c) same = cc
keys_congr order None (Some b) None same = cc
keys_congr order None None (Some c) same = refl
keys_congr order None None None same = refl

pub keys_total : (order : SortOrder) → IsTotalOrder (keys_cmp order)
keys_total order = record { antisymm = keys_antisymm order; trans = keys_trans order; congr = keys_congr order }

-- ---- hits

abbrev pub order_of : List SortKey → Hit → Hit → Ordering
order_of keys a b = hit_cmp keys a.id (fields_of_hit a) b.id (fields_of_hit b)

pub hit_total : (keys : List SortKey) → IsTotalOrder (order_of keys)
hit_total [] = on_total {K = Hit} {J = List ℕ} (λ hit. hit.id) {R = slice_cmp nat_cmp} nat_list_cmp_total
hit_total (key ∷ keys) =
    let by_key : IsTotalOrder (on {K = Hit} {J = Option Scalar} {X = Ordering} (λ hit. key_of key (fields_of_hit hit)) (keys_cmp key.order)) =
    on_total {K = Hit} {J = Option Scalar} (λ hit. key_of key (fields_of_hit hit)) {R = keys_cmp key.order} (keys_total key.order) in
    then_total {K = Hit} {R = on {K = Hit} {J = Option Scalar} {X = Ordering} (λ hit. key_of key (fields_of_hit hit)) (keys_cmp key.order)} {S = order_of keys} by_key (hit_total keys)

then_equal : (first second : Ordering) → ordering_then first second ≡ Equal → second ≡ Equal
then_equal Less second same = cc
then_equal Equal second same = same
then_equal Greater second same = cc

pub equal_ids : (keys : List SortKey) (a b : Hit) → order_of keys a b ≡ Equal → a.id ≡ b.id
equal_ids [] a b same =
    let test : bytes_eq a.id b.id ≡ true = sym (is_eq-slice_cmp a.id b.id) ∙ ap is_eq same in
    (bytes_eq-Decides a.id b.id).0 test
equal_ids (key ∷ keys) a b same =
    equal_ids keys a b (then_equal (keys_cmp key.order (key_of key (fields_of_hit a)) (key_of key (fields_of_hit b))) (order_of keys a b) same)

turned : (o back : Ordering) → back ≡ ordering_reverse o → is_lt o ≡ false → ¬ (o ≡ Equal) → back ≡ Less
turned Less back by isnt differ = cc
turned Equal back by isnt differ = absurd (differ refl)
turned Greater back by isnt differ = by

-- of two hits of different ids one stands first
pub other_first : (keys : List SortKey) (a b : Hit) → ¬ (a.id ≡ b.id) → is_lt (order_of keys a b) ≡ false → order_of keys b a ≡ Less
other_first keys a b differ isnt =
    turned (order_of keys a b) (order_of keys b a) ((hit_total keys).antisymm b a) isnt (λ same. differ (equal_ids keys a b same))
