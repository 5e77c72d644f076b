-- The run of operations from a number on, and its longest front within bounds, one operation after another.
use Rattle.std.proofs.Common.{◌≡◌, ℕ, ◌-◌, ◌+◌, ◌<◌, ◌≤◌, ◌==◌, ◌||◌, zero, suc, Bool, true, false, nat_lt, List, [], ◌∷◌, ◌++◌, take, map, Option, Some, None, append_assoc, refl, sym, ◌∙◌, ap, arith, if◌then◌else◌}
use Rattle.std.specs.List.{range_with_len}
use Rattle.std.proofs.lemmas.Bool.Decides.{nat_tests}
use Rattle.std.proofs.lemmas.List.{append-nil}
use Rattle.ccr_op.specs.Operation.{Operation}
use Rattle.ccr_model.specs.Operations.{size_of, op_at, before_none, run_from, front_within, cut_of, is_empty}

-- ---- the run

run-more : (held : List Operation) (n global : ℕ) → n < global → run_from held n global ≡ before_none (op_at n held ∷ map {A = ℕ} {B = Option Operation} (λ k. op_at k held) (range_with_len (n + 1) (global - (n + 1))))
run-more held n global lt =
    let more : global - n ≡ suc (global - (n + 1)) = omega arith in
    ap (λ (k : ℕ). before_none (map {A = ℕ} {B = Option Operation} (λ m. op_at m held) (range_with_len n k))) more

pub run-some : (held : List Operation) (n global : ℕ) (op : Operation) → n < global → op_at n held ≡ Some op → run_from held n global ≡ op ∷ run_from held (n + 1) global
run-some held n global op lt is =
    run-more held n global lt
    ∙ ap (λ (found : Option Operation). before_none (found ∷ map {A = ℕ} {B = Option Operation} (λ k. op_at k held) (range_with_len (n + 1) (global - (n + 1))))) is

pub run-none : (held : List Operation) (n global : ℕ) → n < global → op_at n held ≡ None → run_from held n global ≡ []
run-none held n global lt is =
    run-more held n global lt
    ∙ ap (λ (found : Option Operation). before_none (found ∷ map {A = ℕ} {B = Option Operation} (λ k. op_at k held) (range_with_len (n + 1) (global - (n + 1))))) is

pub run-end : (held : List Operation) (n global : ℕ) → global ≤ n → run_from held n global ≡ []
run-end held n global le =
    let none : global - n ≡ 0 = omega arith in
    ap (λ (k : ℕ). before_none (map {A = ℕ} {B = Option Operation} (λ m. op_at m held) (range_with_len n k))) none

-- ---- the front

pub front-stop : (left room : ℕ) (op : Operation) (ops : List Operation) → ((left == 0) || nat_lt room (size_of op)) ≡ true → front_within left room (op ∷ ops) ≡ []
front-stop left room op ops stops = ap (λ (b : Bool). if b then [] else op ∷ front_within (left - 1) (room - size_of op) ops) stops

pub front-step : (left room : ℕ) (op : Operation) (ops : List Operation) → ((left == 0) || nat_lt room (size_of op)) ≡ false
    → front_within left room (op ∷ ops) ≡ op ∷ front_within (left - 1) (room - size_of op) ops
front-step left room op ops goes = ap (λ (b : Bool). if b then [] else op ∷ front_within (left - 1) (room - size_of op) ops) goes

-- nothing fits where there is no room
front-none : (left room : ℕ) (ops : List Operation) → ((left == 0) || (room == 0)) ≡ true → front_within left room ops ≡ []
front-none left room [] none = refl
front-none left room (op ∷ ops) none =
    let some : 1 ≤ size_of op = omega arith in
    let stops : ((left == 0) || nat_lt room (size_of op)) ≡ true = grind (arith, nat_tests) in
    front-stop left room op ops stops

-- a cut begins with the first operation
pub cut-first : (max_ops max_bytes : ℕ) (op : Operation) (ops : List Operation) → cut_of max_ops max_bytes (op ∷ ops) ≡ op ∷ front_within (max_ops - 1) (max_bytes - size_of op) ops
cut-first max_ops max_bytes op ops =
    (elim ((max_ops == 0) || nat_lt max_bytes (size_of op)) as (λ b. ((max_ops == 0) || nat_lt max_bytes (size_of op)) ≡ b →
    (let front : List Operation = if b then [] else op ∷ front_within (max_ops - 1) (max_bytes - size_of op) ops in if is_empty front then take 1 (op ∷ ops) else front)
    ≡ op ∷ front_within (max_ops - 1) (max_bytes - size_of op) ops) [
      | true ↦ λ is.
          let none : ((max_ops - 1 == 0) || (max_bytes - size_of op == 0)) ≡ true = grind (arith, nat_tests) in
          ap (λ (rest : List Operation). op ∷ rest) (taken ops ∙ sym (front-none (max_ops - 1) (max_bytes - size_of op) ops none))
      | false ↦ λ is. refl
    ]) refl
  where
    taken : (xs : List Operation) → take zero xs ≡ []
    taken [] = refl
    taken (x ∷ xs) = refl

-- ---- a read, one operation after another

-- what was taken, with what is still to be taken from a number on, is the whole cut
abbrev pub Reads : (held : List Operation) (global : ℕ) (whole : List Operation) (taken : List Operation) (left room n : ℕ) → Type 0
Reads held global whole taken left room n = taken ++ front_within left room (run_from held n global) ≡ whole

pub read-first : (held : List Operation) (global from max_ops max_bytes left room : ℕ) (taken : List Operation) (op : Operation) → from < global → op_at from held ≡ Some op → taken ≡ op ∷ []
    → left ≡ max_ops - 1 → room ≡ max_bytes - size_of op → Reads held global (cut_of max_ops max_bytes (run_from held from global)) taken left room (from + 1)
read-first held global from max_ops max_bytes left room taken op lt is one fewer smaller =
    ap (λ (front : List Operation). front ++ front_within left room (run_from held (from + 1) global)) one
    ∙ ap (λ (n : ℕ). op ∷ front_within n room (run_from held (from + 1) global)) fewer
    ∙ ap (λ (n : ℕ). op ∷ front_within (max_ops - 1) n (run_from held (from + 1) global)) smaller
    ∙ sym (ap (cut_of max_ops max_bytes) (run-some held from global op lt is) ∙ cut-first max_ops max_bytes op (run_from held (from + 1) global))

pub read-next : (held : List Operation) (global : ℕ) (whole taken more : List Operation) (left room size n : ℕ) (op : Operation) → n < global → op_at n held ≡ Some op → size ≡ size_of op
    → ((left == 0) || nat_lt room size) ≡ false → more ≡ taken ++ op ∷ [] → Reads held global whole taken left room n → Reads held global whole more (left - 1) (room - size) (n + 1)
read-next held global whole taken more left room size n op lt is own goes grown before =
    let rest : List Operation = front_within (left - 1) (room - size) (run_from held (n + 1) global) in
    let fits : ((left == 0) || nat_lt room (size_of op)) ≡ false = ap (λ (k : ℕ). (left == 0) || nat_lt room k) (sym own) ∙ goes in
    ap (λ (front : List Operation). front ++ rest) grown
    ∙ append_assoc taken (op ∷ []) rest
    ∙ ap (λ (k : ℕ). taken ++ op ∷ front_within (left - 1) (room - k) (run_from held (n + 1) global)) own
    ∙ ap (λ (front : List Operation). taken ++ front) (sym (ap (front_within left room) (run-some held n global op lt is) ∙ front-step left room op (run_from held (n + 1) global) fits))
    ∙ before

read-over : (held : List Operation) (global : ℕ) (whole taken : List Operation) (left room n : ℕ) → front_within left room (run_from held n global) ≡ [] → Reads held global whole taken left room n → taken ≡ whole
read-over held global whole taken left room n none before =
    sym (append-nil taken) ∙ ap (λ (front : List Operation). taken ++ front) (sym none) ∙ before

pub read-stop : (held : List Operation) (global : ℕ) (whole taken : List Operation) (left room size n : ℕ) (op : Operation) → n < global → op_at n held ≡ Some op → size ≡ size_of op
    → ((left == 0) || nat_lt room size) ≡ true → Reads held global whole taken left room n → taken ≡ whole
read-stop held global whole taken left room size n op lt is own stops before =
    let ends : ((left == 0) || nat_lt room (size_of op)) ≡ true = ap (λ (k : ℕ). (left == 0) || nat_lt room k) (sym own) ∙ stops in
    read-over held global whole taken left room n
    (ap (front_within left room) (run-some held n global op lt is) ∙ front-stop left room op (run_from held (n + 1) global) ends) before

pub read-gap : (held : List Operation) (global : ℕ) (whole taken : List Operation) (left room n : ℕ) → n < global → op_at n held ≡ None → Reads held global whole taken left room n → taken ≡ whole
read-gap held global whole taken left room n lt is before =
    read-over held global whole taken left room n (ap (front_within left room) (run-none held n global lt is)) before

pub read-end : (held : List Operation) (global : ℕ) (whole taken : List Operation) (left room n : ℕ) → global ≤ n → Reads held global whole taken left room n → taken ≡ whole
read-end held global whole taken left room n le before =
    read-over held global whole taken left room n (ap (front_within left room) (run-end held n global le)) before
