-- What a change of the read of a number comes to.
use Rattle.std.proofs.Common.{◌≡◌, ℕ, ◌+◌, ◌==◌, List, get_or, set, Option, Some, None, sym, ◌∙◌, ap, subst}
use Rattle.std.specs.List.{position_from, remove}
use Rattle.ccr_model.specs.Requests.{on_its_way}
use Rattle.ccr_model.specs.Tasks.{Read, changed_read, without_read}
use Rattle.ccr_task.specs.Reading.{Reading}
use Rattle.ccr_task.proofs.Matches.{read-unchanged, read-changed, read-unremoved, read-removed}

abbrev pub place_in : ℕ → List Read → Option ℕ
place_in q reads = position_from (λ (r : Read). r.request == q) 0 reads

abbrev pub read_state : ℕ → List Read → Reading
read_state next reads = record { next_request = next; reads = reads }

-- the read that is sent again, under this number
abbrev pub again_by : ℕ → Read → Read
again_by n own = record own { request = n; progress = on_its_way }

-- the place among the reads themselves, of the number itself
place_at : (named q : ℕ) (reads xs : List Read) (o : Option ℕ) → xs ≡ reads → named ≡ q → o ≡ place_in named xs → place_in q reads ≡ o
place_at named q reads xs o same number found =
    sym (subst (λ (n : ℕ). o ≡ place_in n reads) number (subst (λ (rs : List Read). o ≡ place_in named rs) same found))

pub stays : (next named q : ℕ) (reads xs : List Read) (f : Read → Read) → xs ≡ reads → named ≡ q → None ≡ place_in named xs → read_state next reads ≡ read_state next (changed_read q f reads)
stays next named q reads xs f same number none =
    ap (read_state next) (sym (read-unchanged q f reads (place_at named q reads xs None same number none)))

pub becomes : (next named q i : ℕ) (reads xs : List Read) (f : Read → Read) (x y : Read) → xs ≡ reads → named ≡ q → Some i ≡ place_in named xs → x ≡ get_or reads i x → y ≡ f x → read_state next (set reads i y) ≡ read_state next (changed_read q f reads)
becomes next named q i reads xs f x y same number found at is =
    ap (read_state next) (ap (λ (r : Read). set reads i r) (is ∙ ap f at) ∙ sym (read-changed q i f reads x (place_at named q reads xs (Some i) same number found)))

pub stays-all : (next named q : ℕ) (reads xs : List Read) → xs ≡ reads → named ≡ q → None ≡ place_in named xs → read_state next reads ≡ read_state next (without_read q reads)
stays-all next named q reads xs same number none = ap (read_state next) (sym (read-unremoved q reads (place_at named q reads xs None same number none)))

pub leaves : (next named q i : ℕ) (reads xs : List Read) → xs ≡ reads → named ≡ q → Some i ≡ place_in named xs → read_state next (remove reads i) ≡ read_state next (without_read q reads)
leaves next named q i reads xs same number found = ap (read_state next) (sym (read-removed q i reads (place_at named q reads xs (Some i) same number found)))

pub raises : (after next named q : ℕ) (reads xs : List Read) (f : Read → Read) → after ≡ next + 1 → xs ≡ reads → named ≡ q → None ≡ place_in named xs → read_state after reads ≡ read_state (next + 1) (changed_read q f reads)
raises after next named q reads xs f raised same number none = ap (λ (n : ℕ). read_state n reads) raised ∙ stays (next + 1) named q reads xs f same number none

pub renews : (after next named q i : ℕ) (reads xs : List Read) (f : Read → Read) (x y : Read) → after ≡ next + 1 → xs ≡ reads → named ≡ q → Some i ≡ place_in named xs → x ≡ get_or reads i x → y ≡ f x
    → read_state after (set reads i y) ≡ read_state (next + 1) (changed_read q f reads)
renews after next named q i reads xs f x y raised same number found at is = ap (λ (n : ℕ). read_state n (set reads i y)) raised ∙ becomes (next + 1) named q i reads xs f x y same number found at is
