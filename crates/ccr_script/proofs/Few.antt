-- An object with few members has no other.
use Rattle.std.proofs.Common.{◌≡◌, ℕ, suc, ◌≤◌, ◌+◌, List, [], ◌∷◌, Bool, true, false, ◌&&◌, length, leb, refl, sym, ap, ◌∙◌, Some, String, Global, arith, bytes_eq, true≢false}
use Rattle.std.specs.Prelude.{Option, None, is_some, if◌then◌else◌, codes, option_and_then, nat_le}
use Rattle.std.specs.Option.{option_map_or}
use Rattle.std.specs.Ordering.{match_ordering, nat_cmp}
use Rattle.std.specs.Cmp.Lexicographic.{slice_cmp}
use Rattle.std.proofs.Common.{Ordering, Less, Equal, Greater, is_eq}
use Rattle.std.proofs.lemmas.Bool.{and_parts, leb-true}
use Rattle.std.proofs.lemmas.Map.Text.{is_eq-slice_cmp}
use Rattle.std.proofs.lemmas.Slice.Eq.{bytes_eq-Decides}
use Rattle.serde_json.specs.Data.{Data, null, boolean, number, string, array, object, Members, no_members, member}
use Rattle.serde_json.specs.Events.{members_len}
use Rattle.serde_json.specs.Find.{as_str, as_object, get, get_member}
use Rattle.serde_json.specs.View.{view, members_view}
use Rattle.serde_json.specs.declared.value.Value.{Value}
use Rattle.serde_json.proofs.Views.{members_len-members_view}
use Rattle.ccr_script.specs.declared.fields.Field.TheVariants as field
use Rattle.ccr_script.specs.declared.grammar.Op.{Op}
use Rattle.ccr_script.specs.declared.grammar.Op.TheVariants as op
use Rattle.ccr_script.specs.Checking.{is_there, has_fields, has_at_most}
use Rattle.ccr_script.specs.Commands.{op_in}
use Rattle.ccr_script.specs.Grammar.{fields_of, op_named}
use Rattle.ccr_script.specs.Parts.{at}

-- a look-up by a test of names
abbrev found : List ℕ → Members → Option Data
found k no_members = None
found k (member l d ms) = if bytes_eq k l then Some d else found k ms

chosen : (o : Ordering) (b : Bool) (rest all : Option Data) (d : Data) → is_eq o ≡ b → rest ≡ all → match_ordering o rest (Some d) rest ≡ (if b then Some d else all)
chosen Less b rest all d e same = rw (sym e) same
chosen Equal b rest all d e same = rw (sym e) refl
chosen Greater b rest all d e same = rw (sym e) same

is_found : (k : List ℕ) (ms : Members) → get_member k ms ≡ found k ms
is_found k no_members = refl
is_found k (member l d ms) = chosen (slice_cmp nat_cmp k l) (bytes_eq k l) (get_member k ms) (found k ms) d (is_eq-slice_cmp k l) (is_found k ms)

-- what is left without a name
abbrev without : List ℕ → Members → Members
without k no_members = no_members
without k (member l d ms) = if bytes_eq k l then without k ms else member l d (without k ms)

no_more : (b : Bool) (l : List ℕ) (d : Data) (left ms : Members) → members_len left ≤ members_len ms → members_len (if b then left else member l d left) ≤ suc (members_len ms)
no_more true l d left ms h = omega (arith, h)
no_more false l d left ms h = omega (arith, h)

without_no_more : (k : List ℕ) (ms : Members) → members_len (without k ms) ≤ members_len ms
without_no_more k no_members = omega arith
without_no_more k (member l d ms) = no_more (bytes_eq k l) l d (without k ms) ms (without_no_more k ms)

fewer_at : (b : Bool) (l : List ℕ) (d : Data) (rest : Option Data) (left ms : Members) → is_some (if b then Some d else rest) ≡ true → members_len left ≤ members_len ms
    → (is_some rest ≡ true → suc (members_len left) ≤ members_len ms) → suc (members_len (if b then left else member l d left)) ≤ suc (members_len ms)
fewer_at true l d rest left ms is h more = omega (arith, h)
fewer_at false l d rest left ms is h more = let fewer = more is in omega (arith, fewer)

fewer : (k : List ℕ) (ms : Members) → is_some (found k ms) ≡ true → suc (members_len (without k ms)) ≤ members_len ms
fewer k no_members is = absurd (true≢false (sym is))
fewer k (member l d ms) is = fewer_at (bytes_eq k l) l d (found k ms) (without k ms) ms is (without_no_more k ms) (fewer k ms)

kept_at : (b c : Bool) (j l : List ℕ) (d : Data) (rest : Option Data) (left : Members) → (b ≡ true → c ≡ false) → bytes_eq j l ≡ c → found j left ≡ rest
    → found j (if b then left else member l d left) ≡ (if c then Some d else rest)
kept_at true true j l d rest left apart is same = absurd (true≢false (apart refl))
kept_at true false j l d rest left apart is same = same
kept_at false c j l d rest left apart is same = rw (is, same) refl

differ : (j k l : List ℕ) (c : Bool) → bytes_eq j l ≡ c → bytes_eq j k ≡ false → bytes_eq k l ≡ true → c ≡ false
differ j k l c is other same = sym is ∙ ap (bytes_eq j) (sym ((bytes_eq-Decides k l).0 same)) ∙ other

kept : (k j : List ℕ) (ms : Members) → bytes_eq j k ≡ false → found j (without k ms) ≡ found j ms
kept k j no_members other = refl
kept k j (member l d ms) other =
    kept_at (bytes_eq k l) (bytes_eq j l) j l d (found j ms) (without k ms) (differ j k l _ refl other) refl (kept k j ms other)

empty : (j : List ℕ) (ms : Members) → members_len ms ≤ 0 → found j ms ≡ None
empty j no_members h = refl
empty j (member l d ms) h = absurd (omega (arith, h))

-- one name less
taken : (most : ℕ) (k : List ℕ) (ms : Members) → is_some (found k ms) ≡ true → members_len ms ≤ suc most → members_len (without k ms) ≤ most
taken most k ms is h = let less = fewer k ms is in omega (arith, less, h)

still : (k j : List ℕ) (ms : Members) → bytes_eq j k ≡ false → is_some (found j ms) ≡ true → is_some (found j (without k ms)) ≡ true
still k j ms other is = ap is_some (kept k j ms other) ∙ is

-- four members of a write, and no fifth one
no_fifth : (j : List ℕ) (ms : Members) → bytes_eq j (codes "op") ≡ false → bytes_eq j (codes "index") ≡ false → bytes_eq j (codes "id") ≡ false → bytes_eq j (codes "source") ≡ false
    → is_some (found (codes "op") ms) ≡ true → is_some (found (codes "index") ms) ≡ true → is_some (found (codes "id") ms) ≡ true → is_some (found (codes "source") ms) ≡ true
    → members_len ms ≤ 4 → found j ms ≡ None
no_fifth j ms a b c d has_op has_index has_id has_source h =
    let m1 = without (codes "op") ms in
    let m2 = without (codes "index") m1 in
    let m3 = without (codes "id") m2 in
    let m4 = without (codes "source") m3 in
    let index1 = still (codes "op") (codes "index") ms refl has_index in
    let id2 = still (codes "index") (codes "id") m1 refl (still (codes "op") (codes "id") ms refl has_id) in
    let source3 = still (codes "id") (codes "source") m2 refl (still (codes "index") (codes "source") m1 refl (still (codes "op") (codes "source") ms refl has_source)) in
    let h1 = taken 3 (codes "op") ms has_op h in
    let h2 = taken 2 (codes "index") m1 index1 h1 in
    let h3 = taken 1 (codes "id") m2 id2 h2 in
    let h4 = taken 0 (codes "source") m3 source3 h3 in
    sym (kept (codes "source") j m3 d ∙ kept (codes "id") j m2 c ∙ kept (codes "index") j m1 b ∙ kept (codes "op") j ms a) ∙ empty j m4 h4

has_found : (k : List ℕ) (ms : Members) → is_some (get_member k ms) ≡ true → is_some (found k ms) ≡ true
has_found k ms h = ap is_some (sym (is_found k ms)) ∙ h

has_op_in : (o : Op) (g : Option Data) → option_and_then op_named (option_and_then as_str g) ≡ Some o → is_some g ≡ true
has_op_in o None h = cc
has_op_in o (Some d) h = refl

no_fifth_in : (j : List ℕ) (d : Data) → bytes_eq j (codes "op") ≡ false → bytes_eq j (codes "index") ≡ false → bytes_eq j (codes "id") ≡ false → bytes_eq j (codes "source") ≡ false
    → op_in d ≡ Some op.Write → has_fields (fields_of op.Write) d ≡ true → has_at_most 4 d ≡ true → get j d ≡ None
no_fifth_in j null a b c e named fields few = refl
no_fifth_in j (boolean t) a b c e named fields few = refl
no_fifth_in j (number n) a b c e named fields few = refl
no_fifth_in j (string s) a b c e named fields few = refl
no_fifth_in j (array ds) a b c e named fields few = refl
no_fifth_in j (object ms) a b c e named fields few =
    let there = (and_parts _ _ fields).0 in
    let index = and_parts _ _ there in
    let id = and_parts _ _ index.1 in
    let source = and_parts _ _ id.1 in
    is_found j ms ∙ no_fifth j ms a b c e (has_found (codes "op") ms (has_op_in op.Write (get_member (codes "op") ms) named)) (has_found (codes "index") ms index.0)
    (has_found (codes "id") ms id.0) (has_found (codes "source") ms source.0) (leb-true (members_len ms) 4 few)

pub no_create : (d : Data) → op_in d ≡ Some op.Write → has_fields (fields_of op.Write) d ≡ true → has_at_most 4 d ≡ true → at field.Create d ≡ None
no_create d = no_fifth_in (codes "create") d refl refl refl refl

pub no_number : (d : Data) → op_in d ≡ Some op.Write → has_fields (fields_of op.Write) d ≡ true → has_at_most 4 d ≡ true → at field.IfSeqNo d ≡ None
no_number d = no_fifth_in (codes "if_seq_no") d refl refl refl refl

pub no_term : (d : Data) → op_in d ≡ Some op.Write → has_fields (fields_of op.Write) d ≡ true → has_at_most 4 d ≡ true → at field.IfPrimaryTerm d ≡ None
no_term d = no_fifth_in (codes "if_primary_term") d refl refl refl refl

pub no_routing : (d : Data) → op_in d ≡ Some op.Write → has_fields (fields_of op.Write) d ≡ true → has_at_most 4 d ≡ true → at field.Routing d ≡ None
no_routing d = no_fifth_in (codes "routing") d refl refl refl refl

-- the number of members of a value that is an object
pub few_members : (most : ℕ) (es : List (String Global × Value)) (d : Data) → Some (members_view es) ≡ as_object d → nat_le (length es) most ≡ has_at_most most d
few_members most es d e = ap (λ n. nat_le n most) (sym (members_len-members_view es)) ∙ ap (λ o. option_map_or (λ ms. nat_le (members_len ms) most) o false) e

pub ruleset plain_rules = (no_create, no_number, no_term, no_routing)

pub ruleset few_rules = (few_members, members_len-members_view)
