-- The session of a bootstrap was opened in the history that its follower follows.
use Rattle.std.specs.Str.{bytes_eq}
use Rattle.std.proofs.Common.{◌≡◌, ℕ, ◌+◌, ◌-◌, ◌&&◌, Bool, false, if◌then◌else◌, Option, Some, None, List, [], ◌∷◌, ◌++◌, length, take, drop, refl, sym, ◌∙◌, subst}
use Rattle.std.proofs.lemmas.Slice.Eq.{bytes_eq-Decides}
use Rattle.std.proofs.lemmas.Bool.{not-false}
use Rattle.ccr_wire.specs.Message.{Frame}
use Rattle.ccr_wire.specs.declared.content.Content.{Content}
use Rattle.ccr_wire.specs.declared.content.Content.TheVariants as contents
use Rattle.ccr_wire.specs.declared.kind.LeaseResult.TheVariants as results
use Rattle.ccr_model.specs.Requests.{Progress, Sending}
use Rattle.ccr_model.specs.Restores.{Restore, Stage, leasing, opening, fetching, Fetch, ChunkAsked, answers, ask_sent, asks_chunks, asks_more, most_asks, places_of, without_ask, opened, chunk_came, lost_in, opens_other, ends_restore, hear_leasing, hear_opening, hear_fetching, hear_asked, restore_hears}
use Rattle.ccr_law_base.proofs.Cases.{on_if}
use Rattle.ccr_law_base.proofs.Lists.{some_equal}

-- the session that is fetched was opened in this history
abbrev pub IsOwn : (ℕ → List ℕ) → List ℕ → Stage → Type 0
IsOwn opened_in history (leasing a) = Unit {0}
IsOwn opened_in history (opening a) = Unit {0}
IsOwn opened_in history (fetching f) = opened_in f.session ≡ history

abbrev pub IsOwnIf : (ℕ → List ℕ) → List ℕ → Option (Sending Restore) → Type 0
IsOwnIf opened_in history found = (done : Sending Restore) → found ≡ Some done → IsOwn opened_in history done.next.stage

own_if : (opened_in : ℕ → List ℕ) (history : List ℕ) (next : Sending Restore) → IsOwn opened_in history next.next.stage → IsOwnIf opened_in history (Some next)
own_if opened_in history next own done is = subst (λ (x : Sending Restore). IsOwn opened_in history x.next.stage) (some_equal next done is) own

asked_own : (opened_in : ℕ → List ℕ) (history : List ℕ) (places : List (ℕ × ℕ)) (r : Restore) (f : Fetch) → opened_in f.session ≡ history
    → IsOwn opened_in history (asks_chunks places (record r { stage = fetching f })).next.stage
asked_own opened_in history [] r f own = own
asked_own opened_in history (place ∷ places) r f own = asked_own opened_in history places (record r { next_request = r.next_request + 1 }) _ own

more_own : (opened_in : ℕ → List ℕ) (history : List ℕ) (r : Restore) (f : Fetch) → opened_in f.session ≡ history → IsOwn opened_in history (asks_more r f).next.stage
more_own opened_in history r f own = asked_own opened_in history (take (most_asks - length f.asks) (drop f.asked (places_of r.chunk_size f.sizes))) r f own

lost_own : (opened_in : ℕ → List ℕ) (history : List ℕ) (request : ℕ) (later : Progress) (stage : Stage) → IsOwn opened_in history stage → IsOwn opened_in history (lost_in request later stage)
lost_own opened_in history request later (leasing a) own = tt
lost_own opened_in history request later (opening a) own = tt
lost_own opened_in history request later (fetching f) own = own

leasing_own : (opened_in : ℕ → List ℕ) (history : List ℕ) (r : Restore) (now request : ℕ) (content : Content) → IsOwn opened_in history r.stage
    → IsOwnIf opened_in history (hear_leasing r now request content)
leasing_own opened_in history r now request (contents.LeaseAdded number) own = own_if opened_in history _ tt
leasing_own opened_in history r now request (contents.LeaseAnswer results.Exists number) own = own_if opened_in history _ tt
leasing_own opened_in history r now request (contents.NotReady copy) own = own_if opened_in history _ (lost_own opened_in history request _ r.stage own)
leasing_own opened_in history r now request _ own = λ done is. cc

opening_own : (opened_in : ℕ → List ℕ) (history : List ℕ) (r : Restore) (now request : ℕ) (content : Content) → IsOwn opened_in history r.stage
    → ((number : ℕ) (other : List ℕ) (count : ℕ) (sizes : List ℕ) → content ≡ contents.SessionOpened number other count sizes → opened_in number ≡ history)
    → IsOwnIf opened_in history (hear_opening r now request content)
opening_own opened_in history r now request (contents.SessionOpened number other count sizes) own opens =
    own_if opened_in history (opened r number other count sizes)
    (more_own opened_in history (record r { retry = 0 }) (record { session = number; history = other; count = count; sizes = sizes; asked = 0; asks = []; chunks = [] })
    (opens number other count sizes refl))
opening_own opened_in history r now request (contents.NotReady copy) own opens = own_if opened_in history _ (lost_own opened_in history request _ r.stage own)
opening_own opened_in history r now request _ own opens = λ done is. cc

fetching_own : (opened_in : ℕ → List ℕ) (history : List ℕ) (r : Restore) (f : Fetch) (a : ChunkAsked) (content : Content) → opened_in f.session ≡ history
    → IsOwnIf opened_in history (hear_fetching r f a content)
fetching_own opened_in history r f a (contents.ChunkReply number file offset bytes) own = own_if opened_in history (chunk_came r f a bytes)
    (more_own opened_in history (record r { retry = 0 })
    (record f { asks = without_ask a.request f.asks; chunks = f.chunks ++ record { file = a.file; offset = a.offset; bytes = bytes } ∷ [] }) own)
fetching_own opened_in history r f a (contents.SessionGone number) own = own_if opened_in history _ tt
fetching_own opened_in history r f a _ own = λ done is. cc

asked_hears_own : (opened_in : ℕ → List ℕ) (history : List ℕ) (r : Restore) (f : Fetch) (content : Content) (found : Option ChunkAsked) → opened_in f.session ≡ history
    → IsOwnIf opened_in history (hear_asked r f content found)
asked_hears_own opened_in history r f content None own = λ done is. cc
asked_hears_own opened_in history r f content (Some a) own = fetching_own opened_in history r f a content own

-- a session of another history ends the bootstrap
same_history : (own : List ℕ) (content : Content) (number : ℕ) (history : List ℕ) (count : ℕ) (sizes : List ℕ) → content ≡ contents.SessionOpened number history count sizes
    → opens_other own content ≡ false → history ≡ own
same_history own content number history count sizes is other =
    (bytes_eq-Decides history own).0 (not-false (bytes_eq history own) (subst (λ (c : Content). opens_other own c ≡ false) is other))

pub own-history : (opened_in : ℕ → List ℕ) (history : List ℕ) (r : Restore) (now : ℕ) (m : Frame) → r.history ≡ history → IsOwn opened_in history r.stage
    → ((number : ℕ) (other : List ℕ) (count : ℕ) (sizes : List ℕ) → m.content ≡ contents.SessionOpened number other count sizes → other ≡ opened_in number)
    → ends_restore r m ≡ false → IsOwnIf opened_in history (restore_hears r now m)
own-history opened_in history r now m same own opens = by_stage r.stage own
  where
    by_stage : (stage : Stage) → IsOwn opened_in history stage
        → (elim stage as (λ _. Bool) [ leasing a ↦ false | opening a ↦ answers m a && opens_other r.history m.content | fetching f ↦ false ]) ≡ false
        → IsOwnIf opened_in history (elim stage as (λ _. Option (Sending Restore)) [
          | leasing a ↦ if answers m a then hear_leasing r now m.request m.content else None
          | opening a ↦ if answers m a then hear_opening r now m.request m.content else None
          | fetching f ↦ hear_asked r f m.content (ask_sent f m.request)
        ])
    by_stage (leasing a) at other =
        on_if (IsOwnIf opened_in history) (answers m a) (hear_leasing r now m.request m.content) None
        (λ yes. leasing_own opened_in history r now m.request m.content own) (λ no done is. cc)
    by_stage (opening a) at other =
        on_if (IsOwnIf opened_in history) (answers m a) (hear_opening r now m.request m.content) None
        (λ yes. opening_own opened_in history r now m.request m.content own
        (λ number of count sizes is. sym (opens number of count sizes is) ∙ (same_history r.history m.content number of count sizes is
        (subst (λ (b : Bool). (b && opens_other r.history m.content) ≡ false) yes other) ∙ same)))
        (λ no done is. cc)
    by_stage (fetching f) at other = asked_hears_own opened_in history r f m.content (ask_sent f m.request) at
