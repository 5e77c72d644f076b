-- Sessions that stand under their numbers, in ascending order.
use Rattle.std.proofs.Common.{ℕ, ◌≡◌, ◌<◌, ◌+◌, ◌-◌, ◌∙◌, Bool, true, false, not, cond, eqb, refl, sym, ap, List, [], ◌∷◌, ◌++◌, length, filter, map, Option, Some, None, Result, Ok, Err, Vec, Global, arith, tests}
use Rattle.std.specs.Prelude.{OnErr}
use Rattle.std.specs.List.{count_by}
use Rattle.std.specs.Map.{lookup, set_value, values_of}
use Rattle.std.specs.declared.cmp.Ordering.TheVariants.{Greater}
use Rattle.std.specs.Ordering.{nat_cmp}
use Rattle.std.specs.BTreeMap.{is_at, insert_entry}
use Rattle.std.proofs.lemmas.Map.Entries.{length-values_of}
use Rattle.std.proofs.lemmas.List.Sums.{length-filter}
use Rattle.ccr_model.specs.Leaders.{Session, session_of}
use Rattle.ccr_model.specs.LeaderFrames.{active_at}
use Rattle.ccr_session.specs.Sessions.{AreNumbered, Sessions}

-- the order of two numbers tells whether they are equal
pub is_at-number : (a b : ℕ) → is_at (nat_cmp a) b ≡ eqb b a
is_at-number a b = grind (arith, tests)

-- a key is looked up where a session of that number is
pub lookup-session : (next number : ℕ) (entries : List (ℕ × Session)) → AreNumbered next entries
    → lookup (is_at (nat_cmp number)) entries ≡ session_of (values_of entries) number
lookup-session next number [] numbered = refl
lookup-session next number (entry ∷ entries) numbered =
    rw (is_at-number number entry.0, numbered.0.0, lookup-session next number entries numbered.1) refl

-- what is looked up is the session of that number
pub found_session : (next number : ℕ) (entries : List (ℕ × Session)) (s : Sessions) (found : Option Session) → AreNumbered next entries
    → record { next = next; sessions = values_of entries } ≡ s → lookup (is_at (nat_cmp number)) entries ≡ found → session_of s.sessions number ≡ found
found_session next number entries s found numbered view is =
    ap (λ (v : Sessions). session_of v.sessions number) (sym view) ∙ (sym (lookup-session next number entries numbered) ∙ is)

-- no session has the next number
pub session_of-next : (next : ℕ) (entries : List (ℕ × Session)) → AreNumbered next entries → session_of (values_of entries) next ≡ None
session_of-next next [] numbered = refl
session_of-next next (entry ∷ entries) numbered =
    let apart : eqb entry.1.number next ≡ false = grind (arith, tests) in
    rw (apart, session_of-next next entries numbered.1) refl

-- the entry of the next number comes last
pub insert-next : (next : ℕ) (session : Session) (entries : List (ℕ × Session)) → AreNumbered next entries
    → insert_entry nat_cmp entries next session ≡ entries ++ (next, session) ∷ []
insert-next next session [] numbered = refl
insert-next next session (entry ∷ entries) numbered =
    let above : nat_cmp next entry.0 ≡ Greater = grind (arith, tests) in
    rw (above, insert-next next session entries numbered.1) refl

values-append : (entries : List (ℕ × Session)) (key : ℕ) (session : Session) → values_of (entries ++ (key, session) ∷ []) ≡ values_of entries ++ session ∷ []
values-append [] key session = refl
values-append (entry ∷ entries) key session = ap (λ xs. entry.1 ∷ xs) (values-append entries key session)

pub values-next : (next : ℕ) (session : Session) (entries : List (ℕ × Session)) → AreNumbered next entries
    → values_of (insert_entry nat_cmp entries next session) ≡ values_of entries ++ session ∷ []
values-next next session entries numbered = ap values_of (insert-next next session entries numbered) ∙ values-append entries next session

-- the session of a number, written back as it was active at a time
written : (now key : ℕ) (b : Bool) (x session : Session) (found : Option Session) (entries rest : List (ℕ × Session)) (more : List Session)
    → cond b (Some x) found ≡ Some session → (found ≡ Some session → values_of rest ≡ more)
    → values_of (cond b ((key, record session { activity = now }) ∷ entries) ((key, x) ∷ rest)) ≡ cond b (record x { activity = now } ∷ values_of entries) (x ∷ more)
written now key true x session found entries rest more is step = let same : x ≡ session = cc in rw same refl
written now key false x session found entries rest more is step = rw (step is) refl

pub values-active : (next number now : ℕ) (session : Session) (entries : List (ℕ × Session)) → AreNumbered next entries
    → lookup (is_at (nat_cmp number)) entries ≡ Some session
    → values_of (set_value (is_at (nat_cmp number)) entries (record session { activity = now })) ≡ active_at number now (values_of entries)
values-active next number now session [] numbered found = refl
values-active next number now session (entry ∷ entries) numbered found =
    let same : is_at (nat_cmp number) entry.0 ≡ eqb entry.1.number number = is_at-number number entry.0 ∙ ap (λ n. eqb n number) (sym numbered.0.0) in
    written now entry.0 (is_at (nat_cmp number) entry.0) entry.1 session (lookup (is_at (nat_cmp number)) entries) entries
    (set_value (is_at (nat_cmp number)) entries (record session { activity = now })) (active_at number now (values_of entries)) found
    (values-active next number now session entries numbered.1)
    ∙ ap (λ b. cond b (record entry.1 { activity = now } ∷ values_of entries) (entry.1 ∷ active_at number now (values_of entries))) same

-- one more session
abbrev pub opened : ℕ → Vec (Vec ℕ Global) Global → ℕ → Sessions → Sessions
opened count files now s = record {
  next = s.next + 1;
  sessions = s.sessions ++ record { number = s.next; count = count; files = map (λ file. file.items) files.items; activity = now } ∷ [];
}

-- a claim on an error that holds
pub OnErr-of : {T E : Type 0} (r : Result T E) (P : Type 0) → P → OnErr r P
OnErr-of (Ok x) P p = tt
OnErr-of (Err e) P p = p

-- ---- the sessions stay numbered

pub AreNumbered-next : (next : ℕ) (session : Session) (entries : List (ℕ × Session)) → session.number ≡ next → AreNumbered next entries
    → AreNumbered (next + 1) (entries ++ (next, session) ∷ [])
AreNumbered-next next session [] own numbered = ((own, omega arith), tt)
AreNumbered-next next session (entry ∷ entries) own numbered =
    let below = numbered.0.1 in
    ((numbered.0.0, omega (arith, below)), AreNumbered-next next session entries own numbered.1)

kept_written : (next now key : ℕ) (b : Bool) (x session : Session) (found : Option Session) (entries rest : List (ℕ × Session))
    → cond b (Some x) found ≡ Some session → x.number ≡ key → key < next → AreNumbered next entries → (found ≡ Some session → AreNumbered next rest)
    → AreNumbered next (cond b ((key, record session { activity = now }) ∷ entries) ((key, x) ∷ rest))
kept_written next now key true x session found entries rest is own below numbered step =
    let same : x ≡ session = cc in
    ((ap (λ s. s.number) (sym same) ∙ own, below), numbered)
kept_written next now key false x session found entries rest is own below numbered step = ((own, below), step is)

pub AreNumbered-active : (next number now : ℕ) (session : Session) (entries : List (ℕ × Session)) → AreNumbered next entries
    → lookup (is_at (nat_cmp number)) entries ≡ Some session
    → AreNumbered next (set_value (is_at (nat_cmp number)) entries (record session { activity = now }))
AreNumbered-active next number now session [] numbered found = tt
AreNumbered-active next number now session (entry ∷ entries) numbered found =
    kept_written next now entry.0 (is_at (nat_cmp number) entry.0) entry.1 session (lookup (is_at (nat_cmp number)) entries) entries
    (set_value (is_at (nat_cmp number)) entries (record session { activity = now })) found numbered.0.0 numbered.0.1 numbered.1
    (AreNumbered-active next number now session entries numbered.1)

kept_some : (next : ℕ) (b : Bool) (entry : ℕ × Session) (rest : List (ℕ × Session)) → (entry.1.number ≡ entry.0) × (entry.0 < next) → AreNumbered next rest
    → AreNumbered next (cond b (entry ∷ rest) rest)
kept_some next true entry rest own numbered = (own, numbered)
kept_some next false entry rest own numbered = numbered

pub AreNumbered-filter : (next : ℕ) (keeps : ℕ × Session → Bool) (entries : List (ℕ × Session)) → AreNumbered next entries → AreNumbered next (filter keeps entries)
AreNumbered-filter next keeps [] numbered = tt
AreNumbered-filter next keeps (entry ∷ entries) numbered =
    kept_some next (keeps entry) entry (filter keeps entries) numbered.0 (AreNumbered-filter next keeps entries numbered.1)

-- ---- the sessions that aren't idle

some_values : (b : Bool) (entry : ℕ × Session) (rest : List (ℕ × Session)) (more : List Session) → values_of rest ≡ more
    → values_of (cond b (entry ∷ rest) rest) ≡ cond b (entry.1 ∷ more) more
some_values true entry rest more e = ap (λ xs. entry.1 ∷ xs) e
some_values false entry rest more e = e

pub values-filter : (keeps : Session → Bool) (entries : List (ℕ × Session))
    → values_of (filter (λ entry. keeps entry.1) entries) ≡ filter keeps (values_of entries)
values-filter keeps [] = refl
values-filter keeps (entry ∷ entries) =
    some_values (keeps entry.1) entry (filter (λ e. keeps e.1) entries) (filter keeps (values_of entries)) (values-filter keeps entries)

both : (b : Bool) (x : Session) (passing failing : List Session) (n : ℕ) → length passing + length failing ≡ n
    → length (cond b (x ∷ passing) passing) + length (cond (not b) (x ∷ failing) failing) ≡ n + 1
both true x passing failing n e = omega (arith, e)
both false x passing failing n e = omega (arith, e)

halves : (idle : Session → Bool) (sessions : List Session)
    → length (filter idle sessions) + length (filter (λ s. not (idle s)) sessions) ≡ length sessions
halves idle [] = refl
halves idle (x ∷ xs) =
    let part = both (idle x) x (filter idle xs) (filter (λ s. not (idle s)) xs) (length xs) (halves idle xs) in
    omega (arith, part)

pub how_many-idle : (idle : Session → Bool) (entries kept : List (ℕ × Session)) → kept ≡ filter (λ entry. not (idle entry.1)) entries
    → length entries - length kept ≡ count_by idle (values_of entries)
how_many-idle idle entries kept is =
    let parts = halves idle (values_of entries) in
    let all : length (values_of entries) ≡ length entries = length-values_of entries in
    let rest : length kept ≡ length (filter (λ s. not (idle s)) (values_of entries)) =
    sym (length-values_of kept) ∙ ap length (ap values_of is ∙ values-filter (λ s. not (idle s)) entries) in
    let counted = length-filter idle (values_of entries) in
    omega (arith, parts, all, rest, counted)
