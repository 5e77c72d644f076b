-- A search answers over what its copy was given, and over the line.
use Rattle.std.proofs.Common.{◌≡◌, ℕ, ◌<◌, max, Bool, true, false, Option, Some, None, is_some, List, take, filter, slice_get, refl, ◌∙◌, subst, arith}
use Rattle.ccr_op.specs.Operation.{Operation}
use Rattle.ccr_tracker.specs.Numbers.{has}
use Rattle.ccr_query.specs.Queries.{Tree, holds}
use Rattle.ccr_query.specs.declared.answers.Hit.{Hit}
use Rattle.ccr_model.specs.Stores.{held}
use Rattle.ccr_model.specs.Copies.{Copy}
use Rattle.ccr_model.specs.LeaderRows.{end_of}
use Rattle.ccr_model.specs.Searches.{fields_of_hit, live_hits, search_of}
use Rattle.ccr_model.specs.Given.{IsAmong}
use Rattle.ccr_model.specs.Answers.{IsIn, IsLive, IsHit, SameView}
use Rattle.ccr_model.specs.CopyFacts.{IsHeldBelow, IsGivenBelow}
use Rattle.ccr_law_copies.proofs.Sets.{has-end}
use Rattle.ccr_law_stores.specs.Searchable.{IsSearchable, AreOfLine, AnswersOverGiven, AnswersOverLine, LeaderAnswers, FollowerAnswers}
use Rattle.ccr_law_stores.proofs.SearchMembers.{in_filter, filter_in}
use Rattle.ccr_law_stores.proofs.SearchLives.{live_in, in_live, live_apart, apart-filter}
use Rattle.ccr_law_stores.proofs.SearchSorts.{in_sorted, sorted_in, ordered_hits}
use Rattle.ccr_law_stores.proofs.SearchViews.{live-same, same_answers, given_in_front, front_given, number_given, count_of, gap_of}
use Rattle.ccr_law_base.proofs.Lists.{All-in}

-- ---- what is held shows what was given

-- a number above all that were given, and at or above the global count
abbrev pub bound_of : Copy → ℕ
bound_of c = max c.global (end_of c.seen)

given_below : (ops : ℕ → Option Operation) (restored : ℕ) (c : Copy) → IsSearchable ops restored c → (op : Operation) → IsAmong ops op → op.seq < bound_of c
given_below ops restored c s op among =
    let low : op.seq < end_of c.seen = has-end c.seen op.seq (s.processed op.seq ∙ number_given ops op among) in omega arith

held_given : (ops : ℕ → Option Operation) (restored : ℕ) (c : Copy) → IsSearchable ops restored c → (op : Operation) → IsIn (held c.store) op → IsAmong ops op
held_given ops restored c s op at = All-in (IsAmong ops) (held c.store) op s.store.ours at

shown : (ops : ℕ → Option Operation) (restored : ℕ) (c : Copy) → IsSearchable ops restored c → SameView (IsHeldBelow (bound_of c) c) (IsGivenBelow (bound_of c) ops)
shown ops restored c s = s.store.view (bound_of c) (omega arith)

held_live : (ops : ℕ → Option Operation) (restored : ℕ) (c : Copy) → IsSearchable ops restored c → (id : List ℕ) (routing : Option (List ℕ)) (body : List ℕ)
    → IsLive (IsIn (held c.store)) id routing body → IsLive (IsAmong ops) id routing body
held_live ops restored c s id routing body live =
    let below : IsLive (IsHeldBelow (bound_of c) c) id routing body =
    live-same (IsIn (held c.store)) (IsHeldBelow (bound_of c) c) (λ op at. (at, given_below ops restored c s op (held_given ops restored c s op at))) (λ op at. at.0) id routing body live in
    live-same (IsGivenBelow (bound_of c) ops) (IsAmong ops) (λ op at. at.0) (λ op at. (at, given_below ops restored c s op at)) id routing body ((shown ops restored c s id routing body).0 below)

given_live : (ops : ℕ → Option Operation) (restored : ℕ) (c : Copy) → IsSearchable ops restored c → (id : List ℕ) (routing : Option (List ℕ)) (body : List ℕ)
    → IsLive (IsAmong ops) id routing body → IsLive (IsIn (held c.store)) id routing body
given_live ops restored c s id routing body live =
    let below : IsLive (IsGivenBelow (bound_of c) ops) id routing body =
    live-same (IsAmong ops) (IsGivenBelow (bound_of c) ops) (λ op at. (at, given_below ops restored c s op at)) (λ op at. at.0) id routing body live in
    live-same (IsHeldBelow (bound_of c) c) (IsIn (held c.store)) (λ op at. at.0) (λ op at. (at, given_below ops restored c s op (held_given ops restored c s op at))) id routing body
    ((shown ops restored c s id routing body).1 below)

-- ---- the answer

-- the live documents on which the query holds
abbrev pub found_by : Copy → Tree → List Hit
found_by c query = filter (λ hit. holds query (fields_of_hit hit)) (live_hits (held c.store))

pub over_given : AnswersOverGiven
over_given ops restored c s query keys = record {
  count = count_of ops c.seen s.numbered s.processed s.ordered;
  gap = gap_of ops c.seen s.numbered s.processed s.ordered;
  ordered = ordered_hits keys (found_by c query) (apart-filter (λ hit. holds query (fields_of_hit hit)) (live_hits (held c.store)) (live_apart (held c.store) s.once));
  exact = λ hit. (to hit, from hit);
}
  where
    to : (hit : Hit) → IsIn (search_of c query keys).hits hit → IsHit (IsAmong ops) query hit
    to hit at =
        let found = in_filter (λ (h : Hit). holds query (fields_of_hit h)) (live_hits (held c.store)) hit (in_sorted keys (found_by c query) hit at) in
        record { live = held_live ops restored c s hit.id hit.routing hit.body (live_in (held c.store) hit found.0); holds = found.1 }

    from : (hit : Hit) → IsHit (IsAmong ops) query hit → IsIn (search_of c query keys).hits hit
    from hit h =
        sorted_in keys (found_by c query) hit
        (filter_in (λ (x : Hit). holds query (fields_of_hit x)) (live_hits (held c.store)) hit
        (in_live (held c.store) hit (given_live ops restored c s hit.id hit.routing hit.body h.live)) h.holds)

pub over_line : AnswersOverLine
over_line line ops restored c s ours n exactly query keys =
    same_answers (IsAmong ops) (IsIn (take n line)) (given_in_front line ops n ours exactly) (front_given line ops n ours exactly) query keys (search_of c query keys)
    (over_given ops restored c s query keys)

-- ---- by both

pub leader_answers : LeaderAnswers
leader_answers line ops resynced c l store up numbered once query keys = record {
  by_given = over_given ops 0 c s query keys;
  as_history = λ resyncs n exactly. over_line line.ops ops 0 c s (l.ours resyncs) n exactly query keys;
}
  where
    s : IsSearchable ops 0 c
    s = record { store = store; processed = l.processed; ordered = up; numbered = numbered; once = once }

pub follower_answers : FollowerAnswers
follower_answers line given restored c f up once query keys = record {
  by_given = over_given (given c.number) restored c s query keys;
  as_history = λ counting n exactly. over_line line.ops (given c.number) restored c s ours n exactly query keys;
}
  where
    numbered : (n : ℕ) (op : Operation) → given c.number n ≡ Some op → op.seq ≡ n
    numbered n op e = (f.committed n op e).1

    ours : AreOfLine line.ops (given c.number)
    ours n op e =
        let known = f.committed n op e in
        subst (λ (k : ℕ). slice_get line.ops k ≡ Some op) known.1 known.0.same

    none_differ : (b : Bool) (o : Option Operation) → (b ≡ true → (op : Operation) × (o ≡ Some op)) → ((op : Operation) → o ≡ Some op → b ≡ true) → b ≡ is_some o
    none_differ b (Some op) has_it taken = taken op refl
    none_differ false None has_it taken = refl
    none_differ true None has_it taken = let found = has_it refl in absurd (nothing found.0 found.1)
      where
        nothing : (op : Operation) → None ≡ Some op → ⊥
        nothing op e = cc

    s : IsSearchable (given c.number) restored c
    s = record {
      store = f.store;
      processed = λ n. none_differ (has c.seen n) (given c.number n) (f.processed n) (f.taken n);
      ordered = up;
      numbered = numbered;
      once = once;
    }
