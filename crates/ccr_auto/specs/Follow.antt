use Rattle.std.specs.Prelude.{◌≡◌, ◌≢◌, ℕ, ◌<◌, ◌≤◌, Bool, true, ◌&&◌, ◌||◌, ◌==◌, not, nat_le, List, [], ◌∷◌, ◌++◌, length, drop, if◌then◌else◌, filter, find, insert, remove, Option, None, Some, codes}
use Rattle.std.specs.List.{list_any, list_all}
use Rattle.std.specs.List.Sorted.{IsStrictlySortedBy}
use Rattle.std.specs.declared.cmp.Ordering.{Ordering}
use Rattle.std.specs.Ordering.{nat_cmp, is_lt}
use Rattle.std.specs.Cmp.Lexicographic.{slice_cmp}
use Rattle.std.specs.Str.{bytes_eq}
use Rattle.std.specs.Str.Pattern.{LacksTextAt}
use Rattle.ccr_auto.specs.Patterns.{is_match, has_front}

-- an auto-follow pattern: its name, the remote cluster, the patterns of index names, those of the names that are left out,
-- and the follow name
pub record FollowPattern : Type 0 where
  pub name : List ℕ
  pub remote : List ℕ
  pub patterns : List (List ℕ)
  pub exclude : List (List ℕ)
  pub follow : List ℕ

-- the order of the patterns: by the bytes of their names
abbrev pub by_name : FollowPattern → FollowPattern → Ordering
by_name a b = slice_cmp nat_cmp a.name b.name

-- the names ascend, so that no two are equal
abbrev pub Ascend : List FollowPattern → Type 0
Ascend list = IsStrictlySortedBy by_name list

-- the pattern of a name
abbrev pub pattern_of : List ℕ → List FollowPattern → Option FollowPattern
pattern_of name list = find (λ pattern. bytes_eq pattern.name name) list

-- how many patterns have a name below this one
abbrev pub place_of : List ℕ → List FollowPattern → ℕ
place_of name list = length (filter (λ pattern. is_lt (slice_cmp nat_cmp pattern.name name)) list)

-- the patterns with one more, which stands after those whose names are smaller
abbrev pub with_pattern : FollowPattern → List FollowPattern → List FollowPattern
with_pattern pattern list = insert list (place_of pattern.name list) pattern

-- the patterns but for the one of this name
abbrev pub without : List ℕ → List FollowPattern → List FollowPattern
without name list = filter (λ pattern. not (bytes_eq pattern.name name)) list

-- one of the texts matches the index
abbrev pub some_match : List ℕ → List (List ℕ) → Bool
some_match index texts = list_any (λ text. is_match text index) texts

-- the pattern is of this remote cluster, and one of its texts matches the index, and none of its exclusions
abbrev pub applies : List ℕ → List ℕ → FollowPattern → Bool
applies remote index pattern = bytes_eq pattern.remote remote && (some_match index pattern.patterns && not (some_match index pattern.exclude))

-- a byte of `a-z 0-9 . _ - *`
abbrev pub is_pattern_byte : ℕ → Bool
is_pattern_byte c =
    (nat_le 97 c && nat_le c 122) || ((nat_le 48 c && nat_le c 57) || ((c == 46) || ((c == 95) || ((c == 45) || (c == 42)))))

abbrev pub is_pattern_text : List ℕ → Bool
is_pattern_text text = list_all is_pattern_byte text

-- what stands for the name of the leader index
abbrev pub marker : List ℕ
marker = codes "{{leader_index}}"

-- the follow name is made of these two parts round the marker, which stands neither earlier nor in the second
pub record MarksOnce (follow front back : List ℕ) : Type 0 where
  pub is : follow ≡ front ++ (marker ++ back)
  pub first : (i : ℕ) → i < length front → LacksTextAt marker follow i
  pub only : (i : ℕ) → i ≤ length back → LacksTextAt marker back i

-- the follow name has the marker exactly once
abbrev pub HasMarker : List ℕ → Type 0
HasMarker follow = (front : List ℕ) × (back : List ℕ) × MarksOnce follow front back

-- the pattern may be put: it has texts, these and its exclusions are patterns, and the follow name has the marker exactly once
pub record IsWellFormed (patterns exclude : List (List ℕ)) (follow : List ℕ) : Type 0 where
  pub some : patterns ≢ []
  pub texts : list_all is_pattern_text patterns ≡ true
  pub excluded : list_all is_pattern_text exclude ≡ true
  pub marked : HasMarker follow

-- the text, where another takes the place of the leftmost such piece
abbrev pub with_first_replaced : List ℕ → List ℕ → List ℕ → List ℕ
with_first_replaced piece other [] = []
with_first_replaced piece other (c ∷ text) =
    if has_front piece (c ∷ text) then other ++ drop (length piece) (c ∷ text) else c ∷ with_first_replaced piece other text

-- the follow name, where the index takes the place of the marker
abbrev pub name_for : List ℕ → List ℕ → List ℕ
name_for index follow = with_first_replaced marker index follow

-- the pattern of this name stands at this place, and at no other
pub record IsPlace (name : List ℕ) (place : ℕ) (list : List FollowPattern) : Type 0 where
  pub low : place < length list
  pub found : (pattern : FollowPattern) × (pattern_of name list ≡ Some pattern)
  pub taken : remove list place ≡ without name list

-- there is no pattern of this name, and it would stand at this place
pub record IsGap (name : List ℕ) (place : ℕ) (list : List FollowPattern) : Type 0 where
  pub low : place ≤ length list
  pub none : pattern_of name list ≡ None
  pub first : place ≡ place_of name list
