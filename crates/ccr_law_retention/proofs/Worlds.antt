-- All followers: where the leader says and notes something, where one follower moves, and where a message leaves.
use Rattle.std.specs.Prelude.{slice_get, slice_set, remove, IfSome}
use Rattle.std.specs.List.{AllByRecursion}
use Rattle.std.specs.Str.{bytes_eq}
use Rattle.std.proofs.Common.{◌≡◌, ◌⊎◌, inl, inr, ℕ, ◌≤◌, ◌==◌, ◌&&◌, Bool, true, false, List, [], ◌++◌, map, Option, Some, None, refl, ap, sym, ◌∙◌, subst, arith}
use Rattle.std.proofs.lemmas.Bool.{eqb-true}
use Rattle.std.proofs.lemmas.Bool.Decides.{Decides-eqb}
use Rattle.ccr_wire.specs.Message.{Frame}
use Rattle.ccr_wire.specs.declared.content.Content.{Content}
use Rattle.ccr_wire.specs.declared.content.Content.TheVariants as contents
use Rattle.ccr_model.specs.Requests.{on_its_way}
use Rattle.ccr_model.specs.Copies.{Copy, Copies, all_copies}
use Rattle.ccr_model.specs.Restores.{leasing, Asked}
use Rattle.ccr_model.specs.Followers.{Follower, Work, restoring, replicating, uuid_of}
use Rattle.ccr_model.specs.LeaseHistory.{LeaseNote, retained}
use Rattle.ccr_model.specs.Invariants.{renewal_of}
use Rattle.ccr_law_base.proofs.Lists.{All-weaker, All-every, All-append, All-remove, All-at, some_equal, set-same, All-places}
use Rattle.ccr_law_retention.specs.Retaining.{Bound, asked, bound_of, RenewalLow, MissingOk, OpensIn, FollowerOk, FollowerOkOf, IsToldTruly, IsToldTrulyOf, is_replicating, NoneReplicates, IsEarly, LeasesApart, AreRetaining}
use Rattle.ccr_law_retention.specs.Moving.{is_plain, IsRenewal, IsRequest}
use Rattle.ccr_law_retention.proofs.Lists.{sent-append, sent-map, sent-remove, set-other}
use Rattle.ccr_law_retention.proofs.Growing.{ReadsOwn, IsSaid, retained-low, said-renewal, said-history, Setting, to_uuid, grows, told-grows, told-fewer, fewer}
use Rattle.ccr_law_retention.proofs.Own.{sent-not-missing, sent-opens-none}
use Rattle.ccr_law_retention.proofs.LeaderNotes.{Says}

-- ---- leases before their followers replicate

-- the lease of a follower that doesn't replicate is not another's
pub early-own : (followers : List Follower) (f : ℕ) (s : Follower) → LeasesApart followers → slice_get followers f ≡ Some s → is_replicating s.work ≡ false → NoneReplicates s.lease followers
early-own followers f s apart there isnt =
    All-places (λ (t : Follower). (bytes_eq t.lease s.lease && is_replicating t.work) ≡ false) followers
    (λ g t at. (elim (bytes_eq t.lease s.lease) as (λ (b : Bool). bytes_eq t.lease s.lease ≡ b → (b && is_replicating t.work) ≡ false) [
      | true ↦ λ is.
          let same : g ≡ f = apart g f t s at there is in
          let one : t ≡ s = some_equal t s (sym at ∙ (ap (slice_get followers) same ∙ there)) in
          subst (λ (x : Follower). is_replicating x.work ≡ false) (sym one) isnt
      | false ↦ λ other. refl
    ]) refl)

asked-restores : (g : ℕ) (w : Work) (a : Asked) → bound_of g w ≡ asked a → is_replicating w ≡ false
asked-restores g (restoring r) a is = refl
asked-restores g (replicating t) a is = absurd cc

pub early-asked : (history : List ℕ) (followers : List Follower) (answers : ℕ → Option ℕ) (notes earlier : List LeaseNote) (flight : List Frame) (sent_at : List ℕ) (cut f : ℕ) (s : Follower)
    → AreRetaining history followers answers notes earlier flight sent_at cut → slice_get followers f ≡ Some s → (a : Asked) → bound_of s.copies.primary.global s.work ≡ asked a → IsEarly s.lease cut notes flight
early-asked history followers answers notes earlier flight sent_at cut f s all there a is =
    all.early s.lease (early-own followers f s all.apart there (asked-restores s.copies.primary.global s.work a is))

-- ---- the leader

-- a bootstrap, where nothing depends on which
pub any_work : Work
any_work = restoring (record { lease = []; follower = []; history = []; chunk_size = 0; max_retry_delay = 0; next_request = 0; retry = 0; stage = leasing (record { request = 0; progress = on_its_way }) })

-- to nobody
abbrev pub to_none : List ℕ → Type 0
to_none uuid = ⊥

pub led : (history : List ℕ) (followers : List Follower) (answers now : ℕ → Option ℕ) (notes new earlier : List LeaseNote) (flight sent : List Frame) (sent_at : List ℕ) (cut later place : ℕ) (s : Copies)
    → Setting notes s cut
    → ((f : ℕ) (x : Follower) → slice_get followers f ≡ Some x → Says (to_uuid (uuid_of f)) history x.lease x.work place notes cut (all_copies s) flight new sent)
    → ((id : List ℕ) → Says to_none history id any_work place notes cut (all_copies s) flight new sent)
    → ((f : ℕ) (x : Follower) → slice_get followers f ≡ Some x → ReadsOwn x.history x.work)
    → cut ≤ later → ((f : ℕ) → now f ≡ answers f)
    → AreRetaining history followers answers notes earlier flight sent_at cut
    → AreRetaining history followers now (new ++ notes) earlier (flight ++ sent) (sent_at ++ map {A = Frame} {B = ℕ} (λ m. place) sent) later
led history followers answers now notes new earlier flight sent sent_at cut later place s setting says none reads up same all = record {
  made = λ f x there current.
      let it = says f x there in
      subst (λ (a : Option ℕ). FollowerOk a (new ++ notes) (flight ++ sent) (sent_at ++ map {A = Frame} {B = ℕ} (λ m. place) sent) (uuid_of f) x.lease x.work x.copies.primary.global) (sym (same f))
      (grows (answers f) notes new flight sent sent_at history (uuid_of f) x.lease x.work x.copies.primary.global s cut place setting it.low it.said
      (early-asked history followers answers notes earlier flight sent_at cut f x all there) (all.made f x there current));
  opens = λ f x there current.
      All-append (OpensIn (uuid_of f) history) flight sent (all.opens f x there current)
      (All-weaker (λ (m : Frame). IsSaid (to_uuid (uuid_of f)) history x.lease x.work place (new ++ notes) cut (all_copies s) m.follower m.request m.content) (OpensIn (uuid_of f) history)
      (λ m said is. said-history (to_uuid (uuid_of f)) history x.lease x.work place (new ++ notes) cut (all_copies s) m.follower m.request m.content said) sent (says f x there).said);
  told = λ f x there.
      subst (λ (a : Option ℕ). IsToldTruly a ((new ++ notes) ++ earlier) (flight ++ sent) (uuid_of f) x.lease x.work) (sym (same f))
      (told-grows (answers f) notes new earlier flight sent sent_at history x.history (uuid_of f) x.lease x.work x.copies.primary.global s cut place setting (reads f x there)
      (says f x there).said (all.made f x there) (all.told f x there));
  unmade = λ f at. same f ∙ all.unmade f at;
  paired = sent-append (λ (m : Frame) (at : ℕ). Unit {0}) flight sent sent_at _ all.paired
      (sent-map (λ (m : Frame) (at : ℕ). Unit {0}) place sent (All-every (λ (m : Frame). Unit {0}) (λ m. tt) sent));
  early = λ id nobody.
      let before : IsEarly id cut notes flight = all.early id nobody in
      let it = none id in
      let low : retained id (new ++ notes) ≤ cut = retained-low id cut new notes
      (it.low id cut setting.floors (All-weaker (λ (m : Frame). renewal_of id m.content ≡ None) (RenewalLow id cut) (λ m isnt. if-none (renewal_of id m.content) cut isnt) flight before.none)) before.low in
      record {
        low = omega arith;
        none = All-append (λ (m : Frame). renewal_of id m.content ≡ None) flight sent before.none
            (All-weaker (λ (m : Frame). IsSaid to_none history id any_work place (new ++ notes) cut (all_copies s) m.follower m.request m.content) (λ (m : Frame). renewal_of id m.content ≡ None)
            (λ m said. said-renewal to_none history id any_work place (new ++ notes) cut (all_copies s) m.follower m.request m.content said) sent it.said);
      };
  apart = all.apart;
}
  where
    if-none : (o : Option ℕ) (b : ℕ) → o ≡ None → IfSome o (λ n. n ≤ b)
    if-none None b is = tt
    if-none (Some n) b is = absurd cc

-- ---- one follower

-- what others hear of a request
request-said : (to : List ℕ → Type 0) (current lease own : List ℕ) (work : Work) (place : ℕ) (notes : List LeaseNote) (cut : ℕ) (copies : List Copy) (bound : Bound) (uuid : List ℕ) (request : ℕ) (content : Content)
    → bytes_eq own lease ≡ false → (is_plain content ≡ true) ⊎ IsRenewal own bound content → IsSaid to current lease work place notes cut copies uuid request content
request-said to current lease own work place notes cut copies bound uuid request (contents.ReadRequest history from max_ops max_bytes timeout) other is = tt
request-said to current lease own work place notes cut copies bound uuid request (contents.LeaseAdd id) other is = tt
request-said to current lease own work place notes cut copies bound uuid request (contents.LeaseRenew id number) other (inl plain) = absurd cc
request-said to current lease own work place notes cut copies bound uuid request (contents.LeaseRenew id number) other (inr renewal) = subst (λ (x : List ℕ). bytes_eq x lease ≡ false) (sym renewal.0) other
request-said to current lease own work place notes cut copies bound uuid request (contents.LeaseRemove id) other is = tt
request-said to current lease own work place notes cut copies bound uuid request contents.SessionOpen other is = tt
request-said to current lease own work place notes cut copies bound uuid request (contents.ChunkRequest session file offset size) other is = tt
request-said to current lease own work place notes cut copies bound uuid request _ other (inl plain) = absurd cc
request-said to current lease own work place notes cut copies bound uuid request _ other (inr renewal) = absurd renewal

plain-renewal : (id : List ℕ) (content : Content) → is_plain content ≡ true → renewal_of id content ≡ None
plain-renewal id (contents.LeaseRenew own number) plain = absurd cc
plain-renewal id _ plain = refl

-- the places of the list where one follower is another
record IsPlace (followers : List Follower) (f : ℕ) (new : Follower) (g : ℕ) (x : Follower) : Type 0 where
  at : (g ≡ f → ⊥) → slice_get followers g ≡ Some x
  own : g ≡ f → x ≡ new

place-of : (followers : List Follower) (f : ℕ) (old new : Follower) (g : ℕ) (x : Follower) → slice_get followers f ≡ Some old → slice_get (slice_set followers f new) g ≡ Some x → IsPlace followers f new g x
place-of followers f old new g x there at = record {
  at = λ other. sym (set-other followers f g new (λ e. other (sym e))) ∙ at;
  own = λ same. some_equal x new (sym at ∙ (ap (slice_get (slice_set followers f new)) same ∙ set-same followers f old new there));
}

same-place : (g f : ℕ) → (g ≡ f) ⊎ (g ≡ f → ⊥)
same-place g f =
    (elim (g == f) as (λ (b : Bool). (g == f) ≡ b → (g ≡ f) ⊎ (g ≡ f → ⊥)) [
      | true ↦ λ is. inl (eqb-true g f is)
      | false ↦ λ isnt. inr (λ same. let is : (g == f) ≡ true = (Decides-eqb g f).1 same in absurd cc)
    ]) refl

abbrev pub NewAnswers : (ℕ → Option ℕ) → (ℕ → Option ℕ) → ℕ → Type 0
NewAnswers answers now f = (g : ℕ) → (g ≡ f → ⊥) → now g ≡ answers g

pub moved : (history : List ℕ) (followers : List Follower) (answers now : ℕ → Option ℕ) (notes earlier : List LeaseNote) (flight sent : List Frame) (sent_at : List ℕ) (cut later place : ℕ) (c : Copies) (f : ℕ) (old new : Follower)
    → Setting notes c cut → slice_get followers f ≡ Some old → new.lease ≡ old.lease → new.history ≡ old.history → (is_replicating old.work ≡ true → is_replicating new.work ≡ true)
    → AllByRecursion (IsRequest old.lease (bound_of new.copies.primary.global new.work)) sent
    → AllByRecursion (λ (m : Frame). is_plain m.content ≡ true) sent ⊎ (is_replicating new.work ≡ true)
    → cut ≤ later → NewAnswers answers now f
    → (new.history ≡ history → FollowerOkOf now notes (flight ++ sent) (sent_at ++ map {A = Frame} {B = ℕ} (λ m. place) sent) f new)
    → IsToldTrulyOf now (notes ++ earlier) (flight ++ sent) f new
    → AreRetaining history followers answers notes earlier flight sent_at cut
    → AreRetaining history (slice_set followers f new) now notes earlier (flight ++ sent) (sent_at ++ map {A = Frame} {B = ℕ} (λ m. place) sent) later
moved history followers answers now notes earlier flight sent sent_at cut later place c f old new setting there lease same_history goes requests renews up others own own_told all = record {
  made = λ g x at current.
      let where_is = place-of followers f old new g x there at in
      (elim (same-place g f) as (λ _. FollowerOkOf now notes (flight ++ sent) (sent_at ++ map {A = Frame} {B = ℕ} (λ m. place) sent) g x) [
        | inl same ↦
            subst (λ (k : ℕ). FollowerOkOf now notes (flight ++ sent) (sent_at ++ map {A = Frame} {B = ℕ} (λ m. place) sent) k x) (sym same)
            (subst (λ (y : Follower). FollowerOkOf now notes (flight ++ sent) (sent_at ++ map {A = Frame} {B = ℕ} (λ m. place) sent) f y) (sym (where_is.own same)) (own (sym (ap (λ (z : Follower). z.history) (where_is.own same)) ∙ current)))
        | inr other ↦
            let was : slice_get followers g ≡ Some x = where_is.at other in
            let apart : bytes_eq old.lease x.lease ≡ false = not-same old.lease x.lease (λ is. other (sym (all.apart f g old x there was is))) in
            subst (λ (a : Option ℕ). FollowerOk a notes (flight ++ sent) (sent_at ++ map {A = Frame} {B = ℕ} (λ m. place) sent) (uuid_of g) x.lease x.work x.copies.primary.global) (sym (others g other))
            (grows (answers g) notes [] flight sent sent_at history (uuid_of g) x.lease x.work x.copies.primary.global c cut place setting (λ id b floors renewals. tt)
            (All-weaker (IsRequest old.lease (bound_of new.copies.primary.global new.work))
            (λ (m : Frame). IsSaid (to_uuid (uuid_of g)) history x.lease x.work place notes cut (all_copies c) m.follower m.request m.content)
            (λ m is. request-said (to_uuid (uuid_of g)) history x.lease old.lease x.work place notes cut (all_copies c) (bound_of new.copies.primary.global new.work) m.follower m.request m.content apart is) sent requests)
            (early-asked history followers answers notes earlier flight sent_at cut g x all was) (all.made g x was current))
      ]);
  opens = λ g x at current.
      let where_is = place-of followers f old new g x there at in
      All-append (OpensIn (uuid_of g) history) flight sent
      ((elim (same-place g f) as (λ _. AllByRecursion (OpensIn (uuid_of g) history) flight) [
        | inl same ↦
            let its : x.history ≡ old.history = ap (λ (z : Follower). z.history) (where_is.own same) ∙ same_history in
            subst (λ (k : ℕ). AllByRecursion (OpensIn (uuid_of k) history) flight) (sym same) (all.opens f old there (sym its ∙ current))
        | inr other ↦ all.opens g x (where_is.at other) current
      ]))
      (sent-opens-none (uuid_of g) history old.lease (bound_of new.copies.primary.global new.work) sent requests);
  told = λ g x at.
      let where_is = place-of followers f old new g x there at in
      (elim (same-place g f) as (λ _. IsToldTrulyOf now (notes ++ earlier) (flight ++ sent) g x) [
        | inl same ↦
            subst (λ (k : ℕ). IsToldTrulyOf now (notes ++ earlier) (flight ++ sent) k x) (sym same)
            (subst (λ (y : Follower). IsToldTrulyOf now (notes ++ earlier) (flight ++ sent) f y) (sym (where_is.own same)) own_told)
        | inr other ↦
            let was = all.told g x (where_is.at other) in
            subst (λ (a : Option ℕ). IsToldTruly a (notes ++ earlier) (flight ++ sent) (uuid_of g) x.lease x.work) (sym (others g other)) (record {
              phase = was.phase;
              missing = All-append (MissingOk (answers g) (uuid_of g) x.lease (notes ++ earlier) x.work) flight sent was.missing
                  (sent-not-missing (answers g) (uuid_of g) x.lease old.lease (notes ++ earlier) x.work (bound_of new.copies.primary.global new.work) sent requests);
            })
      ]);
  unmade = λ g at. (elim (same-place g f) as (λ _. now g ≡ None) [
    | inl same ↦ absurd (let some : slice_get (slice_set followers f new) g ≡ Some new = ap (slice_get (slice_set followers f new)) same ∙ set-same followers f old new there in cc)
    | inr other ↦ others g other ∙ all.unmade g (sym (set-other followers f g new (λ e. other (sym e))) ∙ at)
  ]);
  paired = sent-append (λ (m : Frame) (at : ℕ). Unit {0}) flight sent sent_at _ all.paired
      (sent-map (λ (m : Frame) (at : ℕ). Unit {0}) place sent (All-every (λ (m : Frame). Unit {0}) (λ m. tt) sent));
  early = λ id nobody.
      let before : IsEarly id cut notes flight = all.early id (nobody-before id nobody) in
      record {
        low = let low = before.low in omega arith;
        none = All-append (λ (m : Frame). renewal_of id m.content ≡ None) flight sent before.none (none-sent id nobody renews);
      };
  apart = λ g k x y at_g at_k is.
      let one = place-of followers f old new g x there at_g in
      let two = place-of followers f old new k y there at_k in
      (elim (same-place g f) as (λ _. g ≡ k) [
        | inl same_g ↦ (elim (same-place k f) as (λ _. g ≡ k) [
          | inl same_k ↦ same_g ∙ sym same_k
          | inr other_k ↦
              let mine : x.lease ≡ old.lease = ap (λ (z : Follower). z.lease) (one.own same_g) ∙ lease in
              same_g ∙ all.apart f k old y there (two.at other_k) (subst (λ (z : List ℕ). bytes_eq z y.lease ≡ true) mine is)
        ])
        | inr other_g ↦ (elim (same-place k f) as (λ _. g ≡ k) [
          | inl same_k ↦
              let mine : y.lease ≡ old.lease = ap (λ (z : Follower). z.lease) (two.own same_k) ∙ lease in
              all.apart g f x old (one.at other_g) there (subst (λ (z : List ℕ). bytes_eq x.lease z ≡ true) mine is) ∙ sym same_k
          | inr other_k ↦ all.apart g k x y (one.at other_g) (two.at other_k) is
        ])
      ]);
}
  where
    not-same : (xs ys : List ℕ) → (bytes_eq xs ys ≡ true → ⊥) → bytes_eq xs ys ≡ false
    not-same xs ys isnt = (elim (bytes_eq xs ys) as (λ (b : Bool). bytes_eq xs ys ≡ b → b ≡ false) [ true ↦ λ is. absurd (isnt is) | false ↦ λ is. refl ]) refl

    still-false : (same before after : Bool) → (before ≡ true → after ≡ true) → (same && after) ≡ false → (same && before) ≡ false
    still-false true true after step is = absurd (let on = step refl in cc)
    still-false true false after step is = refl
    still-false false before after step is = refl

    nobody-before : (id : List ℕ) → NoneReplicates id (slice_set followers f new) → NoneReplicates id followers
    nobody-before id nobody =
        All-places (λ (t : Follower). (bytes_eq t.lease id && is_replicating t.work) ≡ false) followers
        (λ g t at. (elim (same-place g f) as (λ _. (bytes_eq t.lease id && is_replicating t.work) ≡ false) [
          | inl same ↦
              let one : t ≡ old = some_equal t old (sym at ∙ (ap (slice_get followers) same ∙ there)) in
              let after : (bytes_eq new.lease id && is_replicating new.work) ≡ false =
              All-at (λ (t : Follower). (bytes_eq t.lease id && is_replicating t.work) ≡ false) (slice_set followers f new) f new nobody (set-same followers f old new there) in
              let now : (bytes_eq old.lease id && is_replicating new.work) ≡ false = subst (λ (x : List ℕ). (bytes_eq x id && is_replicating new.work) ≡ false) lease after in
              subst (λ (x : Follower). (bytes_eq x.lease id && is_replicating x.work) ≡ false) (sym one) (still-false (bytes_eq old.lease id) (is_replicating old.work) (is_replicating new.work) goes now)
          | inr other ↦
              All-at (λ (t : Follower). (bytes_eq t.lease id && is_replicating t.work) ≡ false) (slice_set followers f new) g t nobody (set-other followers f g new (λ e. other (sym e)) ∙ at)
        ]))

    first-false : (a b : Bool) → b ≡ true → (a && b) ≡ false → a ≡ false
    first-false true true is both = absurd cc
    first-false true false is both = absurd cc
    first-false false b is both = refl

    none-sent : (id : List ℕ) → NoneReplicates id (slice_set followers f new) → AllByRecursion (λ (m : Frame). is_plain m.content ≡ true) sent ⊎ (is_replicating new.work ≡ true)
        → AllByRecursion (λ (m : Frame). renewal_of id m.content ≡ None) sent
    none-sent id nobody (inl plain) =
        All-weaker (λ (m : Frame). is_plain m.content ≡ true) (λ (m : Frame). renewal_of id m.content ≡ None) (λ m is. plain-renewal id m.content is) sent plain
    none-sent id nobody (inr replicates) =
        let after : (bytes_eq new.lease id && is_replicating new.work) ≡ false =
        All-at (λ (t : Follower). (bytes_eq t.lease id && is_replicating t.work) ≡ false) (slice_set followers f new) f new nobody (set-same followers f old new there) in
        let now : bytes_eq old.lease id ≡ false =
        subst (λ (x : List ℕ). bytes_eq x id ≡ false) lease (first-false (bytes_eq new.lease id) (is_replicating new.work) replicates after) in
        All-weaker (IsRequest old.lease (bound_of new.copies.primary.global new.work)) (λ (m : Frame). renewal_of id m.content ≡ None)
        (λ m is. said-renewal to_none history id any_work place notes cut (all_copies c) m.follower m.request m.content
        (request-said to_none history id old.lease any_work place notes cut (all_copies c) (bound_of new.copies.primary.global new.work) m.follower m.request m.content now is)) sent requests

-- ---- a message leaves

pub left : (history : List ℕ) (followers : List Follower) (answers : ℕ → Option ℕ) (notes earlier : List LeaseNote) (flight : List Frame) (sent_at : List ℕ) (cut at : ℕ) → AreRetaining history followers answers notes earlier flight sent_at cut
    → AreRetaining history followers answers notes earlier (remove flight at) (remove sent_at at) cut
left history followers answers notes earlier flight sent_at cut at all = record {
  opens = λ f x there current. All-remove (OpensIn (uuid_of f) history) flight at (all.opens f x there current);
  told = λ f x there. told-fewer (answers f) (notes ++ earlier) flight (uuid_of f) x.lease x.work at (all.told f x there);
  made = λ f x there current. fewer (answers f) notes flight sent_at (uuid_of f) x.lease x.work x.copies.primary.global at (all.made f x there current);
  unmade = all.unmade;
  paired = sent-remove (λ (m : Frame) (at : ℕ). Unit {0}) at flight sent_at all.paired;
  early = λ id nobody. let before = all.early id nobody in record { low = before.low; none = All-remove (λ (m : Frame). renewal_of id m.content ≡ None) flight at before.none };
  apart = all.apart;
}

-- ---- the same with other answers

-- the claims with the same answers, where more is committed
pub carried : (history : List ℕ) (followers : List Follower) (answers now : ℕ → Option ℕ) (notes earlier : List LeaseNote) (flight : List Frame) (sent_at : List ℕ) (cut later : ℕ) → cut ≤ later → ((f : ℕ) → now f ≡ answers f)
    → AreRetaining history followers answers notes earlier flight sent_at cut → AreRetaining history followers now notes earlier flight sent_at later
carried history followers answers now notes earlier flight sent_at cut later up same all = record {
  made = λ f x there current. subst (λ (a : Option ℕ). FollowerOk a notes flight sent_at (uuid_of f) x.lease x.work x.copies.primary.global) (sym (same f)) (all.made f x there current);
  opens = all.opens;
  told = λ f x there. subst (λ (a : Option ℕ). IsToldTruly a (notes ++ earlier) flight (uuid_of f) x.lease x.work) (sym (same f)) (all.told f x there);
  unmade = λ f at. same f ∙ all.unmade f at;
  paired = all.paired;
  early = λ id nobody. let before : IsEarly id cut notes flight = all.early id nobody in record { low = let low = before.low in omega arith; none = before.none };
  apart = all.apart;
}

-- the claims of a place that is told in other words
pub with-parts : (history later : List ℕ) (followers : List Follower) (now : ℕ → Option ℕ) (old notes before earlier : List LeaseNote) (flight : List Frame) (places sent_at : List ℕ) (cut : ℕ)
    → later ≡ history → notes ≡ old → earlier ≡ before → sent_at ≡ places
    → AreRetaining history followers now old before flight places cut → AreRetaining later followers now notes earlier flight sent_at cut
with-parts history later followers now old notes before earlier flight places sent_at cut same noted kept sent all =
    subst (λ (h : List ℕ). AreRetaining h followers now notes earlier flight sent_at cut) (sym same)
    (subst (λ (ns : List LeaseNote). AreRetaining history followers now ns earlier flight sent_at cut) (sym noted)
    (subst (λ (ns : List LeaseNote). AreRetaining history followers now old ns flight sent_at cut) (sym kept)
    (subst (λ (ps : List ℕ). AreRetaining history followers now old before flight ps cut) (sym sent) all)))
