-- That no kept request is due an answer, after what happens to the copies.
use Rattle.std.specs.Prelude.{filter, Result, Ok, Err, OnOk, OnErr}
use Rattle.std.proofs.Common.{◌≡◌, ℕ, zero, suc, ◌+◌, ◌<◌, ◌≤◌, Bool, not, true, false, cond, if◌then◌else◌, List, [], ◌∷◌, ◌++◌, length, map, drop, get_or, append_assoc, refl, sym, ◌∙◌, ap, subst, arith}
use Rattle.std.proofs.lemmas.List.{append-nil, drop_more}
use Rattle.ccr_wire.specs.Message.{Frame}
use Rattle.std.proofs.lemmas.Bool.{not-true}
use Rattle.ccr_journal.specs.declared.replies.Reply.{Reply}
use Rattle.ccr_model.specs.Outcomes.{Outcome, refused, answered}
use Rattle.ccr_model.specs.Copies.{Copies}
use Rattle.ccr_lease.specs.Leases.{after_expiry}
use Rattle.ccr_model.specs.Leaders.{Leader, KeptRequest}
use Rattle.ccr_model.specs.LeaderRows.{all_hold, lease_answer, expire_row}
use Rattle.ccr_law_base.proofs.Lists.{All-weaker, All-filter_test}
use Rattle.ccr_law_settling_grounds.specs.Parked.{AreKeptRightly}
use Rattle.ccr_law_settling_grounds.proofs.Wait.Staying.{LacksAndStays}
use Rattle.ccr_copies.specs.declared.copy_fault.CopyFault.{CopyFault}
use Rattle.ccr_copies.specs.declared.copy_fault.CopyFault.TheVariants as copies
use Rattle.ccr_copies.specs.Faults.{IsRefusal as IsCopyRefusal, refusal_of as copy_refusal}
use Rattle.ccr_law_settling_grounds.proofs.Wait.Rows.{expire_stays}
use Rattle.ccr_copies.specs.Changes.{with_leases}
use Rattle.ccr_leader.specs.Faults.{is_memory}

-- a lease that some copy lacked is still lacked
pub kept-stays : (s next : Copies) (kept : List KeptRequest) → LacksAndStays s next → AreKeptRightly s kept → AreKeptRightly next kept
kept-stays s next kept stays all =
    All-weaker (λ (k : KeptRequest). all_hold k.id s ≡ false) (λ (k : KeptRequest). all_hold k.id next ≡ false) (λ k lacks. stays.lacks k.id lacks) kept all

-- so it is after a row that was answered
pub kept-along : (s next : Copies) (o : Outcome Copies) (reply : Reply) (kept : List KeptRequest) → o ≡ answered reply next → LacksAndStays s o.next → AreKeptRightly s kept → AreKeptRightly next kept
kept-along s next o reply kept is stays all = kept-stays s next kept (subst (λ (x : Outcome Copies). LacksAndStays s x.next) is stays) all

-- and after one that was refused, but for want of memory
others : (fault : CopyFault) → is_memory fault ≡ false → IsCopyRefusal fault
others (copies.NoCopy copy) isnt = tt
others (copies.IsPrimary copy) isnt = tt
others (copies.LastCopy copy) isnt = tt
others (copies.NotReady copy) isnt = tt
others (copies.NoOperation seq) isnt = tt
others copies.TooMany isnt = tt
others copies.Memory isnt = absurd (cc)

pub kept-refused : (s next : Copies) (o : Outcome Copies) (fault : CopyFault) (broken : Bool) (kept : List KeptRequest) → (IsCopyRefusal fault → o ≡ refused next (copy_refusal fault)) → LacksAndStays s o.next
    → AreKeptRightly s kept → broken ≡ is_memory fault → broken ≡ false → AreKeptRightly next kept
kept-refused s next o fault broken kept row stays all is isnt =
    let same : o ≡ refused next (copy_refusal fault) = row (others fault (sym is ∙ isnt)) in
    kept-stays s next kept (subst (λ (x : Outcome Copies). LacksAndStays s x.next) same stays) all

-- and so it is where the copies stay, unless memory ran out
pub kept-same : (s next : Copies) (fault : CopyFault) (broken : Bool) (kept : List KeptRequest) → (IsCopyRefusal fault → s ≡ next) → AreKeptRightly s kept → broken ≡ is_memory fault → broken ≡ false
    → AreKeptRightly next kept
kept-same s next fault broken kept same all is isnt = subst (λ (t : Copies). AreKeptRightly t kept) (same (others fault (sym is ∙ isnt))) all

-- and after leases have expired
pub kept-expired : (s : Leader) (now period : ℕ) (next : Copies) → next ≡ with_leases s.copies (after_expiry now period s.copies.primary.leases) → AreKeptRightly s.copies s.kept → AreKeptRightly next s.kept
unfolding expire_row
kept-expired s now period next is all =
    kept-stays s.copies next s.kept
    (subst (λ (t : Copies). LacksAndStays s.copies t) (sym is) (expire_stays (record s { now = now; start = record s.start { period = period } }))) all

-- whether the call went well or not
pub on-either : {V E P Q G : Type 0} (r : Result V E) → OnOk r P → OnErr r Q → (P → G) → (Q → G) → G
on-either (Ok v) ok err f g = f ok
on-either (Err e) ok err f g = g err

-- those that are left after the others were answered
pub left-kept : (s : Copies) (before kept : List KeptRequest) → kept ≡ filter (λ k. not (all_hold k.id s)) before → AreKeptRightly s kept
left-kept s before kept is =
    subst (λ (ks : List KeptRequest). AreKeptRightly s ks) (sym is)
    (All-weaker (λ (k : KeptRequest). not (all_hold k.id s) ≡ true) (λ (k : KeptRequest). all_hold k.id s ≡ false) (λ k left. not-true (all_hold k.id s) left)
    (filter (λ k. not (all_hold k.id s)) before) (All-filter_test (λ k. not (all_hold k.id s)) before))

-- ---- the answers

drop-past : (xs : List KeptRequest) (i : ℕ) → length xs ≤ i → drop i xs ≡ []
drop-past [] zero le = refl
drop-past [] (suc i) le = refl
drop-past (x ∷ xs) zero le = absurd (omega arith)
drop-past (x ∷ xs) (suc i) le = drop-past xs i (omega arith)

-- the answers to the requests that are due one
abbrev pub answers_due : Copies → List KeptRequest → List Frame
answers_due s kept = map {A = KeptRequest} {B = Frame} (lease_answer s) (filter (λ k. all_hold k.id s) kept)

module _ (s : Copies) (k : KeptRequest) (before : List KeptRequest) (i : ℕ) (low : i < length before) (is : k ≡ get_or before i k) where
  next-due : answers_due s (drop i before) ≡ (if all_hold k.id s then lease_answer s k ∷ answers_due s (drop (i + 1) before) else answers_due s (drop (i + 1) before))
  next-due =
      ap (answers_due s) (drop_more before i k low ∙ ap (λ (x : KeptRequest). x ∷ drop (i + 1) before) (sym is))
      ∙ elim (all_hold k.id s) as (λ b. map {A = KeptRequest} {B = Frame} (lease_answer s) (cond b (k ∷ filter (λ x. all_hold x.id s) (drop (i + 1) before)) (filter (λ x. all_hold x.id s) (drop (i + 1) before)))
      ≡ (if b then lease_answer s k ∷ answers_due s (drop (i + 1) before) else answers_due s (drop (i + 1) before))) [ true ↦ refl | false ↦ refl ]

  -- one more was answered
  pub due-more : (sent more whole : List Frame) → all_hold k.id s ≡ true → more ≡ sent ++ lease_answer s k ∷ [] → sent ++ answers_due s (drop i before) ≡ whole
      → more ++ answers_due s (drop (i + 1) before) ≡ whole
  due-more sent more whole due is_more so_far =
      let rest : List Frame = answers_due s (drop (i + 1) before) in
      ap (λ (ms : List Frame). ms ++ rest) is_more
      ∙ (append_assoc sent (lease_answer s k ∷ []) rest
      ∙ (ap (λ (ms : List Frame). sent ++ ms) (sym (next-due ∙ ap (λ b. if b then lease_answer s k ∷ rest else rest) due)) ∙ so_far))

  pub due-other : (sent whole : List Frame) → all_hold k.id s ≡ false → sent ++ answers_due s (drop i before) ≡ whole → sent ++ answers_due s (drop (i + 1) before) ≡ whole
  due-other sent whole isnt so_far =
      let rest : List Frame = answers_due s (drop (i + 1) before) in
      ap (λ (ms : List Frame). sent ++ ms) (sym (next-due ∙ ap (λ b. if b then lease_answer s k ∷ rest else rest) isnt)) ∙ so_far

pub due-none : (s : Copies) (before : List KeptRequest) (i : ℕ) (sent whole : List Frame) → length before ≤ i → sent ++ answers_due s (drop i before) ≡ whole → sent ≡ whole
due-none s before i sent whole past so_far =
    sym (append-nil sent) ∙ (ap (λ (ks : List KeptRequest). sent ++ answers_due s ks) (sym (drop-past before i past)) ∙ so_far)
