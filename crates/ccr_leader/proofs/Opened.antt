-- What requests about sessions come to.
use Rattle.std.specs.Prelude.{IsOkUnless, IsSomeAnd, MatchOption, slice_get}
use Rattle.std.proofs.Common.{◌≡◌, ℕ, ◌+◌, Bool, true, false, nat_lt, if◌then◌else◌, Option, Some, None, Result, Ok, Err, List, [], ◌∷◌, ◌++◌, length, map, refl, sym, ◌∙◌, ap, subst, Vec, Global}
use Rattle.ccr_op.specs.Operation.{Operation}
use Rattle.ccr_segment.specs.Segment.{spelling as segment_of_ops}
use Rattle.ccr_wire.specs.Message.{Frame}
use Rattle.ccr_wire.specs.declared.content.Content.TheVariants as contents
use Rattle.ccr_journal.specs.declared.replies.Heard.TheVariants as heard
use Rattle.ccr_model.specs.Stores.{Store, files_below}
use Rattle.ccr_model.specs.Copies.{Copy}
use Rattle.ccr_model.specs.Leaders.{Leader, Session, session_of}
use Rattle.ccr_model.specs.LeaderFrames.{hears, answer_to, active_at, chunk_of, session_open_row, chunk_row}
use Rattle.ccr_session.specs.declared.faults.SessionFault.{SessionFault}
use Rattle.ccr_session.specs.declared.faults.SessionFault.TheVariants.{NoFile, NoSession, Range, Memory}
use Rattle.ccr_store.specs.Kept.{contents_of}
use Rattle.ccr_session.specs.Sessions.{Sessions}
use Rattle.ccr_session.specs.Chunks.{range_fault, chunk_fault}

-- ---- a session opens

pub opened-row : (s : Leader) (follower : List ℕ) (request : ℕ) (waits : Option ℕ) (files : List (List ℕ)) (sizes : List ℕ) (sessions : List Session) (sent : List Frame) → waits ≡ None
    → files ≡ map {A = List Operation} {B = List ℕ} segment_of_ops (files_below s.copies.primary.global s.copies.primary.store)
    → sizes ≡ map {A = List ℕ} {B = ℕ} (λ file. length file) files
    → sessions ≡ s.sessions ++ record { number = s.next_session; count = s.copies.primary.global; files = files; activity = s.now } ∷ []
    → sent ≡ answer_to follower request (contents.SessionOpened s.next_session s.history s.copies.primary.global sizes)
    → session_open_row s follower request waits ≡ hears heard.Done (record s { next_session = s.next_session + 1; sessions = sessions }) sent
unfolding session_open_row
opened-row s follower request (Some copy) files sizes sessions sent ready are lengths opened is = absurd cc
opened-row s follower request None files sizes sessions sent ready are lengths opened is =
    let own : List (List ℕ) = map {A = List Operation} {B = List ℕ} segment_of_ops (files_below s.copies.primary.global s.copies.primary.store) in
    ap (λ (fs : List (List ℕ)). hears heard.Done
    (record s { next_session = s.next_session + 1; sessions = s.sessions ++ record { number = s.next_session; count = s.copies.primary.global; files = fs; activity = s.now } ∷ [] })
    (answer_to follower request (contents.SessionOpened s.next_session s.history s.copies.primary.global (map {A = List ℕ} {B = ℕ} (λ file. length file) fs)))) (sym are)
    ∙ ap (λ (ns : List ℕ). hears heard.Done
    (record s { next_session = s.next_session + 1; sessions = s.sessions ++ record { number = s.next_session; count = s.copies.primary.global; files = files; activity = s.now } ∷ [] })
    (answer_to follower request (contents.SessionOpened s.next_session s.history s.copies.primary.global ns))) (sym lengths)
    ∙ ap (λ (xs : List Session). hears heard.Done (record s { next_session = s.next_session + 1; sessions = xs })
    (answer_to follower request (contents.SessionOpened s.next_session s.history s.copies.primary.global sizes))) (sym opened)
    ∙ ap (λ (told : List Frame). hears heard.Done (record s { next_session = s.next_session + 1; sessions = sessions }) told) (sym is)

pub unopened-row : (s : Leader) (follower : List ℕ) (request : ℕ) (waits : Option ℕ) (copy : ℕ) (sent : List Frame) → waits ≡ Some copy
    → sent ≡ answer_to follower request (contents.NotReady copy) → session_open_row s follower request waits ≡ hears (heard.NotReady copy) s sent
unfolding session_open_row
unopened-row s follower request None copy sent some is = absurd cc
unopened-row s follower request (Some own) copy sent some is =
    let same : own ≡ copy = cc in
    ap (λ (c : ℕ). hears (heard.NotReady c) s (answer_to follower request (contents.NotReady c))) same
    ∙ ap (λ (told : List Frame). hears (heard.NotReady copy) s told) (sym is)

-- ---- a part of a file

pub part-row : (s : Leader) (follower : List ℕ) (request session file offset size : ℕ) (found : Option Session) (part : List ℕ) (sessions : List Session) (sent : List Frame)
    → IsSomeAnd found (λ own. part ≡ chunk_of own file offset size) → sessions ≡ active_at session s.now s.sessions
    → sent ≡ answer_to follower request (contents.ChunkReply session file offset part)
    → chunk_row s follower request session file offset size found ≡ hears heard.Done (record s { sessions = sessions }) sent
unfolding chunk_row
part-row s follower request session file offset size None part sessions sent there active is = absurd there
part-row s follower request session file offset size (Some own) part sessions sent there active is =
    ap (λ (bytes : List ℕ). hears heard.Done (record s { sessions = active_at session s.now s.sessions }) (answer_to follower request (contents.ChunkReply session file offset bytes))) (sym there)
    ∙ ap (λ (xs : List Session). hears heard.Done (record s { sessions = xs }) (answer_to follower request (contents.ChunkReply session file offset part))) (sym active)
    ∙ ap (λ (told : List Frame). hears heard.Done (record s { sessions = sessions }) told) (sym is)

-- a refused part is that of a session that isn't there, where it says so
pub gone-row : {T : Type 0} (s : Leader) (follower : List ℕ) (request session file offset size : ℕ) (found : Option Session) (answer : Result T SessionFault) (sent : List Frame)
    → answer ≡ Err NoSession → MatchOption (chunk_fault found file offset) (IsOkUnless answer Memory) (λ why. answer ≡ Err why)
    → sent ≡ answer_to follower request (contents.SessionGone session)
    → chunk_row s follower request session file offset size found ≡ hears heard.Gone s sent
unfolding chunk_row
gone-row s follower request session file offset size None answer sent err is told = ap (λ (ms : List Frame). hears heard.Gone s ms) (sym told)
gone-row s follower request session file offset size (Some own) answer sent err is told = absurd (there (slice_get own.files file) is)
  where
    otherwise : (b : Bool) → MatchOption (if b then None else Some Range) (IsOkUnless answer Memory) (λ why. answer ≡ Err why) → ⊥
    otherwise true fits = subst (λ (r : Result _ SessionFault). IsOkUnless r Memory → ⊥) (sym err) (λ memory. cc) fits
    otherwise false range = cc

    there : (bytes : Option (List ℕ)) → MatchOption (range_fault bytes offset) (IsOkUnless answer Memory) (λ why. answer ≡ Err why) → ⊥
    there None fits = cc
    there (Some bytes) fits = otherwise (nat_lt offset (length bytes)) fits

-- ---- what is told

pub part-told : (s : Leader) (follower : List ℕ) (request session file offset size : ℕ) (part bytes : List ℕ) (next : Sessions) (sent : List Frame)
    → IsSomeAnd (session_of s.sessions session) (λ own. part ≡ chunk_of own file offset size) → next ≡ record { next = s.next_session; sessions = active_at session s.now s.sessions }
    → bytes ≡ part → sent ≡ answer_to follower request (contents.ChunkReply session file offset bytes)
    → chunk_row s follower request session file offset size (session_of s.sessions session) ≡ hears heard.Done (record s { next_session = next.next; sessions = next.sessions }) sent
part-told s follower request session file offset size part bytes next sent there active same is =
    part-row s follower request session file offset size (session_of s.sessions session) part next.sessions sent there (ap (λ (n : Sessions). n.sessions) active)
    (is ∙ ap (λ (b : List ℕ). answer_to follower request (contents.ChunkReply session file offset b)) same)
    ∙ ap (λ (n : ℕ). hears heard.Done (record s { next_session = n; sessions = next.sessions }) sent) (sym (ap (λ (n : Sessions). n.next) active))

pub gone-told : (s : Leader) (follower : List ℕ) (request session file offset size : ℕ) (T : Type 0) (fault : SessionFault) (next : Sessions) (sent : List Frame) → fault ≡ NoSession
    → (let answer : Result T SessionFault = Err fault in MatchOption (chunk_fault (session_of s.sessions session) file offset) (IsOkUnless answer Memory) (λ why. answer ≡ Err why))
    → next ≡ record { next = s.next_session; sessions = s.sessions } → sent ≡ answer_to follower request (contents.SessionGone session)
    → chunk_row s follower request session file offset size (session_of s.sessions session) ≡ hears heard.Gone (record s { next_session = next.next; sessions = next.sessions }) sent
gone-told s follower request session file offset size T fault next sent err is same told =
    let answer : Result T SessionFault = Err fault in
    gone-row {T = T} s follower request session file offset size (session_of s.sessions session) answer sent (ap (λ (f : SessionFault). let r : Result T SessionFault = Err f in r) err) is told
    ∙ ap (λ (n : Sessions). hears heard.Gone (record s { next_session = n.next; sessions = n.sessions }) sent) (sym same)

lengths-of : (files : List (Vec ℕ Global)) → map {A = Vec ℕ Global} {B = ℕ} (λ file. length file.items) files ≡ map {A = List ℕ} {B = ℕ} (λ file. length file) (contents_of files)
lengths-of [] = refl
lengths-of (file ∷ files) = ap (λ (ns : List ℕ). length file.items ∷ ns) (lengths-of files)

pub opening-told : (s : Leader) (follower : List ℕ) (request : ℕ) (waits : Option ℕ) (own : Copy) (count : ℕ) (store : Store) (files shown : List (Vec ℕ Global)) (sizes told_sizes : List ℕ) (session : ℕ)
    (next : Sessions) (sent : List Frame) → waits ≡ None → own ≡ s.copies.primary → count ≡ own.global → store ≡ own.store
    → contents_of files ≡ map {A = List Operation} {B = List ℕ} segment_of_ops (files_below count store) → shown ≡ files
    → sizes ≡ map {A = Vec ℕ Global} {B = ℕ} (λ file. length file.items) shown → told_sizes ≡ sizes → session ≡ s.next_session
    → next ≡ record {
      next = s.next_session + 1;
      sessions = s.sessions ++ record { number = s.next_session; count = count; files = contents_of files; activity = s.now } ∷ [];
    }
    → sent ≡ answer_to follower request (contents.SessionOpened session s.history count told_sizes)
    → session_open_row s follower request waits ≡ hears heard.Done (record s { next_session = next.next; sessions = next.sessions }) sent
opening-told s follower request waits own count store files shown sizes told_sizes session next sent ready primary counted stored are same lengths told number opened is =
    let at : count ≡ s.copies.primary.global = counted ∙ ap (λ (c : Copy). c.global) primary in
    let hold : contents_of files ≡ map {A = List Operation} {B = List ℕ} segment_of_ops (files_below s.copies.primary.global s.copies.primary.store) =
    are ∙ (ap (λ (n : ℕ). map {A = List Operation} {B = List ℕ} segment_of_ops (files_below n store)) at
    ∙ ap (λ (st : Store). map {A = List Operation} {B = List ℕ} segment_of_ops (files_below s.copies.primary.global st)) (stored ∙ ap (λ (c : Copy). c.store) primary)) in
    let long : told_sizes ≡ map {A = List ℕ} {B = ℕ} (λ file. length file) (contents_of files) =
    told ∙ (lengths ∙ (ap (λ (fs : List (Vec ℕ Global)). map {A = Vec ℕ Global} {B = ℕ} (λ file. length file.items) fs) same ∙ lengths-of files)) in
    opened-row s follower request waits (contents_of files) told_sizes next.sessions sent ready hold long
    (ap (λ (n : Sessions). n.sessions) opened
    ∙ ap (λ (n : ℕ). s.sessions ++ record { number = s.next_session; count = n; files = contents_of files; activity = s.now } ∷ []) at)
    (is ∙ (ap (λ (n : ℕ). answer_to follower request (contents.SessionOpened n s.history count told_sizes)) number
    ∙ ap (λ (n : ℕ). answer_to follower request (contents.SessionOpened s.next_session s.history n told_sizes)) at))
    ∙ ap (λ (n : ℕ). hears heard.Done (record s { next_session = n; sessions = next.sessions }) sent) (sym (ap (λ (n : Sessions). n.next) opened))
