-- One thing after another, and one turn of each loop of a fill.
use Rattle.std.proofs.Common.{◌≡◌, ℕ, zero, suc, Bool, true, false, ◌&&◌, nat_lt, if◌then◌else◌, List, [], ◌∷◌, ◌++◌, append_assoc, length, refl, sym, ◌∙◌, ap, subst}
use Rattle.std.proofs.lemmas.List.{append-nil}
use Rattle.ccr_op.specs.Operation.{Operation}
use Rattle.ccr_wire.specs.Message.{Frame}
use Rattle.ccr_model.specs.Operations.{is_empty}
use Rattle.ccr_model.specs.Requests.{Sending, quiet, followed_by}
use Rattle.ccr_model.specs.Tasks.{Task, Read, with_batch, with_batches, has_budget, next_read, with_reads, sent_again, all_sent_again}
use Rattle.ccr_task.specs.Does.{Did}

pub did-then : (a : Sending Task) (f : Task → Sending Task) (t1 t2 : Task) (s0 s1 s2 : List Frame) → Did t1 s0 s1 a → Did t2 s1 s2 (f t1) → Did t2 s0 s2 (followed_by a f)
did-then a f t1 t2 s0 s1 s2 first second = record {
  next = second.next ∙ ap (λ (t : Task). (f t).next) first.next;
  sent = second.sent ∙ (ap (λ (xs : List Frame). xs ++ (f t1).sent) first.sent
      ∙ (append_assoc s0 a.sent (f t1).sent ∙ ap (λ (t : Task). s0 ++ (a.sent ++ (f t).sent)) first.next));
}

pub did-quiet : (t : Task) (s : List Frame) → Did t s s (quiet t)
did-quiet t s = record { next = refl; sent = sym (append-nil s) }

-- what is done in one case
pub did-if : (b : Bool) (t new : Task) (s after : List Frame) (x y : Sending Task) → b ≡ true → Did new s after x → Did new s after (if b then x else y)
did-if b t new s after x y is did = subst (λ (c : Bool). Did new s after (if c then x else y)) (sym is) did

pub did-else : (b : Bool) (t new : Task) (s after : List Frame) (x y : Sending Task) → b ≡ false → Did new s after y → Did new s after (if b then x else y)
did-else b t new s after x y isnt did = subst (λ (c : Bool). Did new s after (if c then x else y)) (sym isnt) did

-- the task is another name of the same
pub did-at : (f : Task → Sending Task) (t u new : Task) (s after : List Frame) → t ≡ u → Did new s after (f t) → Did new s after (f u)
did-at f t u new s after is did = subst (λ (x : Task). Did new s after (f x)) is did

-- ---- writes

pub has_some : (xs : List Operation) (n : ℕ) → n ≡ length xs → (n ≡ 0 → ⊥) → is_empty xs ≡ false
has_some [] n is some = absurd (some is)
has_some (x ∷ xs) n is some = refl

pub has_none : (xs : List Operation) (n : ℕ) → n ≡ length xs → n ≡ 0 → is_empty xs ≡ true
has_none [] n is none = refl
has_none (x ∷ xs) n is none = let e : suc (length xs) ≡ 0 = sym is ∙ none in absurd (cc)

pub batches-turn : (m j : ℕ) (t t_next total : Task) → j ≡ suc m → is_empty t.buffer ≡ false → t_next ≡ with_batch t → with_batches j t ≡ total → with_batches m t_next ≡ total
batches-turn m j t t_next total one_more some is before =
    ap (with_batches m) is
    ∙ (sym (ap (λ k. with_batches k t) one_more ∙ ap (λ (b : Bool). if b then t else with_batches m (with_batch t)) some) ∙ before)

pub batches-end : (j : ℕ) (t total : Task) → is_empty t.buffer ≡ true → with_batches j t ≡ total → t ≡ total
batches-end zero t total none before = before
batches-end (suc m) t total none before = sym (ap (λ (b : Bool). if b then t else with_batches m (with_batch t)) none) ∙ before

-- ---- reads

abbrev pub may_begin : Task → Bool
may_begin t = has_budget t && nat_lt t.next t.known

pub reads-turn : (m j : ℕ) (t t_next : Task) (s0 s1 : List Frame) → j ≡ suc m → may_begin t ≡ true → Did t_next s0 s1 (next_read t)
    → (new : Task) (after : List Frame) → Did new s1 after (with_reads m t_next) → Did new s0 after (with_reads j t)
reads-turn m j t t_next s0 s1 one_more may did new after rest =
    subst (λ (k : ℕ). Did new s0 after (with_reads k t)) (sym one_more)
    (did-if (may_begin t) t new s0 after (followed_by (next_read t) (with_reads m)) (quiet t) may (did-then (next_read t) (with_reads m) t_next new s0 s1 after did rest))

pub reads-end : (j : ℕ) (t : Task) (s : List Frame) → may_begin t ≡ false → Did t s s (with_reads j t)
reads-end zero t s none = did-quiet t s
reads-end (suc m) t s none = did-else (may_begin t) t t s s (followed_by (next_read t) (with_reads m)) (quiet t) none (did-quiet t s)

-- ---- reads that are sent again

pub again-turn : (r : Read) (whole reads : List Read) (t t_next : Task) (s0 s1 : List Frame) → whole ≡ r ∷ reads → Did t_next s0 s1 (sent_again t r)
    → (new : Task) (after : List Frame) → Did new s1 after (all_sent_again reads t_next) → Did new s0 after (all_sent_again whole t)
again-turn r whole reads t t_next s0 s1 is did new after rest =
    subst (λ (rs : List Read). Did new s0 after (all_sent_again rs t)) (sym is) (did-then (sent_again t r) (all_sent_again reads) t_next new s0 s1 after did rest)

pub again-end : (reads : List Read) (t : Task) (s : List Frame) → reads ≡ [] → Did t s s (all_sent_again reads t)
again-end reads t s none = subst (λ (rs : List Read). Did t s s (all_sent_again rs t)) (sym none) (did-quiet t s)

-- over names of the same task at the beginning and at the end
pub did-same : (f : Task → Sending Task) (t begun done new : Task) (before after : List Frame) → begun ≡ t → new ≡ done → before ≡ [] → Did done before after (f begun) → Did new [] after (f t)
did-same f t begun done new before after same kept none did = record {
  next = kept ∙ (did.next ∙ ap (λ (x : Task). (f x).next) same);
  sent = did.sent ∙ (ap (λ (xs : List Frame). xs ++ (f begun).sent) none ∙ ap (λ (x : Task). (f x).sent) same);
}
