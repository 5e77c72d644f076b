-- Deeds one after another.
use Rattle.std.proofs.Common.{◌≡◌, ℕ, zero, suc, ◌+◌, ◌<◌, List, [], ◌∷◌, ◌++◌, length, take, drop, refl, ap, sym, subst, ◌∙◌, inl, inr, append_assoc, append-nil, arith, get_or, add-one}
use Rattle.std.specs.Prelude.{Result, Ok, Err, OnErr}
use Rattle.std.specs.List.{AllByRecursion}
use Rattle.ccr_op.specs.Operation.{Operation}
use Rattle.ccr_journal.specs.declared.events.Event.TheVariants as event
use Rattle.ccr_journal.specs.declared.journals.Entry.{Entry}
use Rattle.ccr_journal.specs.declared.replies.Reply.{Reply}
use Rattle.ccr_deeds.specs.declared.deeds.Deed.{Deed}
use Rattle.ccr_deeds.specs.declared.deeds.Deed.TheVariants.{Happens, TakeAndApply, Settle}
use Rattle.ccr_deeds.specs.Logs.{Log, entered}
use Rattle.ccr_deeds.specs.Settles.{EachWorld, IsSettled, MayBeSettled}
use Rattle.ccr_deeds.specs.Deeds.{AreDeeds, AreOrderedDeeds, BeginDeeds, BeginsDeed, DoesDeed, HasBegunDeed, IsOrderedDeed, Takes, applied, took}

-- ---- logs

pub entered-length : (logs : List Log) (w : ℕ) (es : List Entry) → length (entered logs w es) ≡ length logs
entered-length [] w es = refl
entered-length (log ∷ logs) zero es = refl
entered-length (log ∷ logs) (suc w) es = ap suc (entered-length logs w es)

pub entered-twice : (logs : List Log) (w : ℕ) (xs ys : List Entry) → entered (entered logs w xs) w ys ≡ entered logs w (xs ++ ys)
entered-twice [] w xs ys = refl
entered-twice (log ∷ logs) zero xs ys = ap (λ es. record log { entries = es } ∷ logs) (append_assoc log.entries xs ys)
entered-twice (log ∷ logs) (suc w) xs ys = ap (λ ls. log ∷ ls) (entered-twice logs w xs ys)

pub EachWorld-length : (R : Log → Log → Type 0) (before after : List Log) → EachWorld R before after → length after ≡ length before
EachWorld-length R [] [] e = refl
EachWorld-length R [] (log ∷ logs) e = absurd e
EachWorld-length R (log ∷ logs) [] e = absurd e
EachWorld-length R (log ∷ logs) (log' ∷ logs') e = ap suc (EachWorld-length R logs logs' e.1)

pub EachWorld-map : (R S : Log → Log → Type 0) → ((a b : Log) → R a b → S a b) → (before after : List Log) → EachWorld R before after → EachWorld S before after
EachWorld-map R S f [] [] e = tt
EachWorld-map R S f [] (log ∷ logs) e = e
EachWorld-map R S f (log ∷ logs) [] e = e
EachWorld-map R S f (log ∷ logs) (log' ∷ logs') e = (f log log' e.0, EachWorld-map R S f logs logs' e.1)

pub EachWorld-same : (R : Log → Log → Type 0) → ((a : Log) → R a a) → (logs : List Log) → EachWorld R logs logs
EachWorld-same R f [] = tt
EachWorld-same R f (log ∷ logs) = (f log, EachWorld-same R f logs)

-- nothing was done of a settle
pub not_settled : (log : Log) → MayBeSettled log log
not_settled log = record { entries = []; is = ap (λ es. record log { entries = es }) (sym (append-nil log.entries)); run = inl tt }

-- all was done of a settle
pub settled_begins : (before after : Log) → IsSettled before after → MayBeSettled before after
settled_begins before after s = record { entries = s.entries; is = s.is; run = inr s.run }

-- ---- one deed

pub DoesDeed-length : (before : List Log) (deed : Deed) (after : List Log) (told : Reply) → DoesDeed before deed after told → length after ≡ length before
DoesDeed-length before (Happens w e) after told d = ap length d ∙ entered-length before w (record { event = e; reply = told } ∷ [])
DoesDeed-length before (TakeAndApply w f epoch write) after told d =
    ap length d.1 ∙ entered-length before w (took f write d.0 ∷ applied f epoch write d.0 told ∷ [])
DoesDeed-length before Settle after told d = EachWorld-length IsSettled before after d.0

-- none of a deed was done
pub none_begun : (before : List Log) (deed : Deed) → BeginsDeed before deed before
none_begun before (Happens w e) = inl refl
none_begun before (TakeAndApply w f epoch write) = inl refl
none_begun before Settle = EachWorld-same MayBeSettled not_settled before

-- all of a deed was done
pub all_begun : (before : List Log) (deed : Deed) (after : List Log) (told : Reply) → DoesDeed before deed after told → BeginsDeed before deed after
all_begun before (Happens w e) after told d = inr (told, d)
all_begun before (TakeAndApply w f epoch write) after told d = inr (inr (told, d))
all_begun before Settle after told d = EachWorld-map IsSettled MayBeSettled settled_begins before after d.0

pub took_then : (before mid after : List Log) (w f epoch write : ℕ) (batch : List Operation) (told : Reply) → Takes before w f write batch mid
    → after ≡ entered mid w (record { event = event.Apply f epoch write batch; reply = told } ∷ []) → DoesDeed before (TakeAndApply w f epoch write) after told
took_then before mid after w f epoch write batch told t grows = (
  t.taken,
  grows
      ∙ (ap (λ (b : List Operation). entered mid w (record { event = event.Apply f epoch write b; reply = told } ∷ [])) t.is
      ∙ (ap (λ ls. entered ls w (applied f epoch write t.taken told ∷ [])) t.grown
      ∙ entered-twice before w (took f write t.taken ∷ []) (applied f epoch write t.taken told ∷ []))),
)

pub took_only : (before mid after : List Log) (w f epoch write : ℕ) (batch : List Operation) → Takes before w f write batch mid → after ≡ mid
    → BeginsDeed before (TakeAndApply w f epoch write) after
took_only before mid after w f epoch write batch t same = inr (inl (t.taken, same ∙ t.grown))

pub takes-length : (before : List Log) (w f write : ℕ) (batch : List Operation) (mid : List Log) → Takes before w f write batch mid → length mid ≡ length before
takes-length before w f write batch mid t = ap length t.grown ∙ entered-length before w (took f write t.taken ∷ [])

-- ---- several

pub AreDeeds-push : (before : List Log) (deeds : List Deed) (mid : List Log) (told : List Reply) (deed : Deed) (after : List Log) (reply : Reply)
    → AreDeeds before deeds mid told → DoesDeed mid deed after reply → AreDeeds before (deeds ++ deed ∷ []) after (told ++ reply ∷ [])
AreDeeds-push before [] mid told deed after reply a d =
    (after, reply, [], subst (λ ls. DoesDeed ls deed after reply) a.0 d, (refl, refl), ap (λ rs. rs ++ reply ∷ []) a.1)
AreDeeds-push before (x ∷ deeds) mid told deed after reply a d =
    (a.0, a.1, a.2 ++ reply ∷ [], a.3, AreDeeds-push a.0 deeds mid a.2 deed after reply a.4 d, ap (λ rs. rs ++ reply ∷ []) a.5)

-- deeds make no world and lose none
pub AreDeeds-length : (before : List Log) (deeds : List Deed) (after : List Log) (told : List Reply) → AreDeeds before deeds after told → length after ≡ length before
AreDeeds-length before [] after told a = ap length a.0
AreDeeds-length before (x ∷ deeds) after told a = AreDeeds-length a.0 deeds after a.2 a.4 ∙ DoesDeed-length before x a.0 a.1 a.3

-- each deed has a reply
pub AreDeeds-told : (before : List Log) (deeds : List Deed) (after : List Log) (told : List Reply) → AreDeeds before deeds after told → length told ≡ length deeds
AreDeeds-told before [] after told a = ap length a.1
AreDeeds-told before (x ∷ deeds) after told a = ap length a.5 ∙ ap suc (AreDeeds-told a.0 deeds after a.2 a.4)

pub AreOrderedDeeds-push : (deeds : List Deed) (told : List Reply) (deed : Deed) (reply : Reply) → length told ≡ length deeds → AreOrderedDeeds deeds told
    → IsOrderedDeed deed reply → AreOrderedDeeds (deeds ++ deed ∷ []) (told ++ reply ∷ [])
AreOrderedDeeds-push [] [] deed reply same all one = (one, tt)
AreOrderedDeeds-push [] (x ∷ told) deed reply same all one = absurd (omega arith)
AreOrderedDeeds-push (d ∷ deeds) [] deed reply same all one = absurd (omega arith)
AreOrderedDeeds-push (d ∷ deeds) (x ∷ told) deed reply same all one = (all.0, AreOrderedDeeds-push deeds told deed reply (omega arith) all.1 one)

pub all_at : {X : Type 0} (P : X → Type 0) (xs : List X) (i : ℕ) (d : X) → i < length xs → AllByRecursion P xs → P (get_or xs i d)
all_at P [] i d within all = absurd (omega arith)
all_at P (x ∷ xs) zero d within all = all.0
all_at P (x ∷ xs) (suc i) d within all = all_at P xs i d (omega arith) all.1

take_suc : {X : Type 0} (xs : List X) (i : ℕ) (d : X) → i < length xs → take (suc i) xs ≡ take i xs ++ get_or xs i d ∷ []
take_suc [] i d within = absurd (omega arith)
take_suc (x ∷ xs) zero d within = refl
take_suc (x ∷ xs) (suc i) d within = ap (λ ys. x ∷ ys) (take_suc xs i d (omega arith))

pub take_snoc : {X : Type 0} (xs : List X) (i : ℕ) (d : X) → i < length xs → take (i + 1) xs ≡ take i xs ++ get_or xs i d ∷ []
take_snoc xs i d within = rw add-one (take_suc xs i d within)

split_suc : {X : Type 0} (xs : List X) (i : ℕ) (d : X) → i < length xs → take i xs ++ (get_or xs i d ∷ drop (suc i) xs) ≡ xs
split_suc [] i d within = absurd (omega arith)
split_suc (x ∷ xs) zero d within = refl
split_suc (x ∷ xs) (suc i) d within = ap (λ ys. x ∷ ys) (split_suc xs i d (omega arith))

-- the deeds up to a place, and those from there on
split_at : {X : Type 0} (xs : List X) (i : ℕ) (d : X) → i < length xs → take i xs ++ (get_or xs i d ∷ drop (i + 1) xs) ≡ xs
split_at xs i d within = rw add-one (split_suc xs i d within)

pub stops_in : (before : List Log) (deeds : List Deed) (i : ℕ) (d : Deed) (mid : List Log) (told : List Reply) (after : List Log) → i < length deeds
    → AreDeeds before (take i deeds) mid told → BeginsDeed mid (get_or deeds i d) after → BeginDeeds before deeds after
stops_in before deeds i d mid told after within done begun = record {
  first = take i deeds;
  others = get_or deeds i d ∷ drop (i + 1) deeds;
  between = mid;
  told = told;
  split = split_at deeds i d within;
  done = done;
  begun = begun;
}

begun_none : (before : List Log) (deeds : List Deed) → HasBegunDeed before deeds before
begun_none before [] = refl
begun_none before (deed ∷ deeds) = none_begun before deed

-- none of the deeds was done
pub stops_before : (before : List Log) (deeds : List Deed) → BeginDeeds before deeds before
stops_before before deeds = record { first = []; others = deeds; between = before; told = []; split = refl; done = (refl, refl); begun = begun_none before deeds }

-- all of the deeds were done
pub stops_behind : (before : List Log) (deeds : List Deed) (after : List Log) (told : List Reply) → AreDeeds before deeds after told → BeginDeeds before deeds after
stops_behind before deeds after told done = record { first = deeds; others = []; between = after; told = told; split = append-nil deeds; done = done; begun = refl }

pub on_err : {A E : Type 0} (r : Result A E) (P : Type 0) → P → OnErr r P
on_err (Ok a) P p = tt
on_err (Err e) P p = p
