-- What becomes of a collection of leases: a lease more, a renewal, a lease less, and a collection that supersedes another.
use Rattle.std.proofs.Common.{◌≡◌, ℕ, ◌+◌, ◌≤◌, ◌<◌, ◌||◌, ◌&&◌, Bool, true, false, not, List, [], ◌∷◌, ◌++◌, take, drop, map, refl, ap, sym, subst, ◌∙◌, inl, inr, arith}
use Rattle.std.specs.Prelude.{is_some, max, min, nat_lt, ◌==◌, filter, if◌then◌else◌}
use Rattle.std.specs.Str.{bytes_eq}
use Rattle.std.specs.List.{AllByRecursion, list_any}
use Rattle.std.proofs.lemmas.Slice.Eq.{bytes_eq-Decides}
use Rattle.ccr_lease.specs.declared.retention.Lease.{Lease}
use Rattle.ccr_lease.specs.declared.retention.Expired.{Expired}
use Rattle.ccr_lease.specs.Leases.{Collection, lease_of, renewed, without, has_expired, expired, unexpired, supersedes}
use Rattle.ccr_law_base.proofs.Cases.{on_if}
use Rattle.ccr_model.specs.Stores.{capped}
use Rattle.ccr_model.specs.Copies.{Replica}
use Rattle.ccr_model.specs.CopyFacts.{IsBehind}
use Rattle.ccr_model.specs.LeaseHistory.{LeaseNote, retained, is_unbroken}
use Rattle.ccr_model.specs.LeaseHistory as history
use Rattle.ccr_law_leases.specs.TrueLeases.{AgreeWithNotes, AreBehind, AreTrueLeases}
use Rattle.ccr_law_base.proofs.Lists.{All-weaker, All-filter, All-map, All-every, All-map_back, All-find, All-both, found-any}
use Rattle.ccr_law_leases.proofs.Finding.{All-put, All-unfilter, the-found, any-put, any-new, any-filter, any-map}
use Rattle.ccr_law_leases.proofs.Notes.{same_bytes, other_bytes, broken, no-answer-dropped, true-note}

-- a lease is of an id
abbrev pub is_of : List ℕ → Lease → Bool
is_of id lease = bytes_eq lease.id id

-- what is told of a lease that expired
abbrev pub telling : ℕ → Lease → Expired
telling now lease = record { id = lease.id; stamp = lease.stamp; now = now }

some_lease : (id : List ℕ) (leases : List Lease) → list_any (is_of id) leases ≡ true → is_some (lease_of id leases) ≡ true
some_lease id leases some = found-any (is_of id) leases ∙ some

any_lease : (id : List ℕ) (leases : List Lease) → is_some (lease_of id leases) ≡ true → list_any (is_of id) leases ≡ true
any_lease id leases some = sym (found-any (is_of id) leases) ∙ some

unexpired-if : (gone own : Bool) → (gone ≡ true → own ≡ false) → own ≡ true → not gone ≡ true
unexpired-if true own other is = absurd (let isnt = other refl in cc)
unexpired-if false own other is = refl

-- ---- superseding

later : (t v s w : ℕ) → s ≡ t → w ≡ v + 1 → (nat_lt t s || ((s == t) && nat_lt v w)) ≡ true
later t v s w same next = grind arith

later-than : (t v s w u x : ℕ) → s ≡ t → w ≡ v + 1 → (nat_lt u t || ((t == u) && nat_lt x v)) ≡ true → (nat_lt u s || ((s == u) && nat_lt x w)) ≡ true
later-than t v s w u x same next before = grind arith

later-term : (s w u x : ℕ) → u < s → (nat_lt u s || ((s == u) && nat_lt x w)) ≡ true
later-term s w u x less = grind arith

-- what is behind a collection is behind its next version
pub behind-next : (old new own : Collection) → new.term ≡ old.term → new.version ≡ old.version + 1 → IsBehind old own → IsBehind new own
behind-next old new own same next (inl is) = inr (subst (λ (x : Collection). supersedes new x ≡ true) (sym is) (later old.term old.version new.term new.version same next))
behind-next old new own same next (inr before) = inr (later-than old.term old.version new.term new.version own.term own.version same next before)

-- a collection of a later term has any of an earlier term behind it
pub behind-term : (new own : Collection) → own.term < new.term → IsBehind new own
behind-term new own less = inr (later-term new.term new.version own.term own.version less)

-- the primary's collection is another, of the next version
pub true-next : (notes : List LeaseNote) (term : ℕ) (old new : Collection) (low : ℕ) (rs : List Replica) → new.term ≡ old.term → new.version ≡ old.version + 1
    → AgreeWithNotes notes new.leases low → AreTrueLeases notes term old low rs → AreTrueLeases notes term new low rs
true-next notes term old new low rs same next agree are = record {
  agree = agree;
  current = same ∙ are.current;
  behind = All-weaker (λ (r : Replica). AreBehind notes old r.copy.leases r.copy.floor) (λ (r : Replica). AreBehind notes new r.copy.leases r.copy.floor)
      (λ r own. record { agree = own.agree; behind = behind-next old new r.copy.leases same next own.behind; earlier = let e = own.earlier in omega arith }) rs are.behind;
}

-- ---- a lease more

-- a lease that is put anywhere, with a number that is retained
pub agree-put : (n : ℕ) (new : Lease) (notes : List LeaseNote) (leases : List Lease) (low : ℕ) → new.number ≤ retained new.id notes
    → AgreeWithNotes notes leases low → AgreeWithNotes notes (take n leases ++ new ∷ drop n leases) low
agree-put n new notes leases low least agree = record {
  numbers = All-put (λ (lease : Lease). lease.number ≤ retained lease.id notes) n new leases least agree.numbers;
  there = λ id still. some_lease id (take n leases ++ new ∷ drop n leases) (any-put (is_of id) n new leases (any_lease id leases (agree.there id still)));
  floor = agree.floor;
}

-- the lease that was put is there
pub there-put : (n : ℕ) (new : Lease) (leases : List Lease) → is_some (lease_of new.id (take n leases ++ new ∷ drop n leases)) ≡ true
there-put n new leases = some_lease new.id (take n leases ++ new ∷ drop n leases) (any-new (is_of new.id) n new leases (same_bytes new.id))

-- ---- a renewal

-- the lease as it is renewed, where it is of the id
abbrev pub renewing : List ℕ → ℕ → ℕ → Lease → Lease
renewing id number stamp lease = if bytes_eq lease.id id then record lease { number = number; stamp = stamp } else lease

renewing-id : (id : List ℕ) (number stamp : ℕ) (lease : Lease) → (renewing id number stamp lease).id ≡ lease.id
renewing-id id number stamp lease =
    on_if (λ (l : Lease). l.id ≡ lease.id) (bytes_eq lease.id id) (record lease { number = number; stamp = stamp }) lease (λ own. refl) (λ other. refl)

renewing-number : (id : List ℕ) (number stamp : ℕ) (notes : List LeaseNote) (lease : Lease) → number ≤ retained id notes → lease.number ≤ retained lease.id notes
    → (renewing id number stamp lease).number ≤ retained (renewing id number stamp lease).id notes
renewing-number id number stamp notes lease new old =
    on_if (λ (l : Lease). l.number ≤ retained l.id notes) (bytes_eq lease.id id) (record lease { number = number; stamp = stamp }) lease
    (λ own. subst (λ (x : List ℕ). number ≤ retained x notes) (sym ((bytes_eq-Decides lease.id id).0 own)) new) (λ other. old)

pub agree-renewed : (id : List ℕ) (number stamp : ℕ) (notes : List LeaseNote) (leases : List Lease) (low : ℕ) → number ≤ retained id notes
    → AgreeWithNotes notes leases low → AgreeWithNotes notes (renewed id number stamp leases) low
agree-renewed id number stamp notes leases low least agree = record {
  numbers = All-map (λ (lease : Lease). lease.number ≤ retained lease.id notes) (renewing id number stamp) leases
      (All-weaker (λ (lease : Lease). lease.number ≤ retained lease.id notes)
      (λ (lease : Lease). (renewing id number stamp lease).number ≤ retained (renewing id number stamp lease).id notes)
      (λ lease old. renewing-number id number stamp notes lease least old) leases agree.numbers);
  there = λ other still. some_lease other (renewed id number stamp leases)
      (any-map (is_of other) (renewing id number stamp) (λ lease. ap (λ x. bytes_eq x other) (renewing-id id number stamp lease)) leases
      ∙ any_lease other leases (agree.there other still));
  floor = agree.floor;
}

-- ---- leases less

-- a filter that keeps each lease that is unbroken
pub agree-filter : (keep : Lease → Bool) (notes : List LeaseNote) (leases : List Lease) (low : ℕ)
    → ((id : List ℕ) → is_unbroken id notes ≡ true → AllByRecursion (λ (lease : Lease). is_of id lease ≡ true → keep lease ≡ true) leases)
    → AgreeWithNotes notes leases low → AgreeWithNotes notes (filter keep leases) low
agree-filter keep notes leases low kept agree = record {
  numbers = All-filter (λ (lease : Lease). lease.number ≤ retained lease.id notes) keep leases agree.numbers;
  there = λ id still. some_lease id (filter keep leases) (any-filter (is_of id) keep leases (kept id still) (any_lease id leases (agree.there id still)));
  floor = agree.floor;
}

-- what is not the lease that goes stays
staying : (id own : List ℕ) (lease : Lease) → bytes_eq id own ≡ false → is_of own lease ≡ true → not (bytes_eq lease.id id) ≡ true
staying id own lease other is =
    let same : lease.id ≡ own = (bytes_eq-Decides lease.id own).0 is in
    let gone : bytes_eq lease.id id ≡ false = subst (λ (x : List ℕ). bytes_eq x id ≡ false) (sym same) (other_bytes id own other) in
    ap not gone

pub agree-removed : (id : List ℕ) (place : ℕ) (notes : List LeaseNote) (leases : List Lease) (low : ℕ)
    → AgreeWithNotes (record { id = id; place = place; deed = history.removed } ∷ notes) leases low
    → AgreeWithNotes (record { id = id; place = place; deed = history.removed } ∷ notes) (without id leases) low
agree-removed id place notes leases low agree =
    let note : LeaseNote = record { id = id; place = place; deed = history.removed } in
    agree-filter (λ lease. not (bytes_eq lease.id id)) (note ∷ notes) leases low
    (λ own still. All-every (λ (lease : Lease). is_of own lease ≡ true → not (bytes_eq lease.id id) ≡ true)
    (λ lease is. staying id own lease (broken note notes own (λ before. refl) still) is) leases)
    agree

-- ---- expiry

-- what is noted of a lease that expired
abbrev pub loss_at : ℕ → Expired → LeaseNote
loss_at place lease = record { id = lease.id; place = place; deed = history.dropped }

-- no lease that is unbroken after losses is among them
unlost : (place : ℕ) (lost : List Expired) (notes : List LeaseNote) (id : List ℕ) → is_unbroken id (map (loss_at place) lost ++ notes) ≡ true
    → AllByRecursion (λ (lease : Expired). bytes_eq lease.id id ≡ false) lost
unlost place [] notes id still = tt
unlost place (lease ∷ lost) notes id still = (
  broken (loss_at place lease) (map (loss_at place) lost ++ notes) id (λ before. refl) still,
  unlost place lost notes id (no-answer-dropped lease.id place (map (loss_at place) lost ++ notes) id still),
)

pub agree-expired : (now period place : ℕ) (notes : List LeaseNote) (leases : List Lease) (low : ℕ)
    → AgreeWithNotes (map (loss_at place) (expired now period leases) ++ notes) leases low
    → AgreeWithNotes (map (loss_at place) (expired now period leases) ++ notes) (unexpired now period leases) low
agree-expired now period place notes leases low agree =
    agree-filter (λ lease. not (has_expired now period lease)) (map (loss_at place) (expired now period leases) ++ notes) leases low
    (λ id still. All-weaker (λ (lease : Lease). has_expired now period lease ≡ true → bytes_eq lease.id id ≡ false)
    (λ (lease : Lease). is_of id lease ≡ true → not (has_expired now period lease) ≡ true)
    (λ lease other is. unexpired-if (has_expired now period lease) (bytes_eq lease.id id) other is) leases
    (All-unfilter (λ (lease : Lease). bytes_eq lease.id id ≡ false) (has_expired now period) leases
    (All-map_back (λ (lease : Expired). bytes_eq lease.id id ≡ false) (telling now) (filter (has_expired now period) leases)
    (unlost place (expired now period leases) notes id still))))
    agree

pub true-losses : (place : ℕ) (lost : List Expired) (notes : List LeaseNote) (term : ℕ) (primary : Collection) (low : ℕ) (rs : List Replica)
    → AreTrueLeases notes term primary low rs → AreTrueLeases (map (loss_at place) lost ++ notes) term primary low rs
true-losses place [] notes term primary low rs are = are
true-losses place (lease ∷ lost) notes term primary low rs are =
    true-note (loss_at place lease) (map (loss_at place) lost ++ notes) term primary low rs
    (no-answer-dropped lease.id place (map (loss_at place) lost ++ notes)) (true-losses place lost notes term primary low rs are)

-- ---- floors

pub capped-low : (leases : List Lease) (n : ℕ) → AllByRecursion (λ (lease : Lease). capped leases n ≤ lease.number) leases
capped-low [] n = tt
capped-low (lease ∷ leases) n = (
  omega arith,
  All-weaker (λ (other : Lease). capped leases n ≤ other.number) (λ (other : Lease). min lease.number (capped leases n) ≤ other.number)
      (λ other least. omega arith) leases (capped-low leases n),
)

-- a floor that rises no further than the leases
pub agree-risen : (notes : List LeaseNote) (leases : List Lease) (low n : ℕ) → AgreeWithNotes notes leases low → AgreeWithNotes notes leases (max low (capped leases n))
agree-risen notes leases low n agree = record {
  numbers = agree.numbers;
  there = agree.there;
  floor = λ id still.
      let found = the-found (lease_of id leases) (agree.there id still) in
      let both = All-find (λ (lease : Lease). (capped leases n ≤ lease.number) × (lease.number ≤ retained lease.id notes)) (is_of id) leases found.0
      (All-both (λ (lease : Lease). capped leases n ≤ lease.number) (λ (lease : Lease). lease.number ≤ retained lease.id notes) leases (capped-low leases n) agree.numbers) found.1 in
      let own : found.0.id ≡ id = (bytes_eq-Decides found.0.id id).0 both.1 in
      let least : found.0.number ≤ retained id notes = subst (λ (x : List ℕ). found.0.number ≤ retained x notes) own both.0.1 in
      let cap : capped leases n ≤ found.0.number = both.0.0 in
      let old : low ≤ retained id notes = agree.floor id still in
      omega arith;
}
