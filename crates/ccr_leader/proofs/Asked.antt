-- What requests for leases come to.
use Rattle.std.specs.Prelude.{filter, is_some}
use Rattle.std.specs.Option.{ok_or}
use Rattle.std.proofs.Common.{◌≡◌, ℕ, Bool, true, false, not, nat_lt, if◌then◌else◌, Option, Some, None, Result, Ok, Err, List, [], ◌∷◌, ◌++◌, map, refl, sym, ◌∙◌, ap, subst}
use Rattle.ccr_lease.specs.declared.retention.Lease.{Lease}
use Rattle.ccr_lease.specs.declared.collection.LeaseFault.{LeaseFault}
use Rattle.ccr_lease.specs.declared.collection.LeaseFault.TheVariants.{NotFound, LowNumber}
use Rattle.ccr_lease.specs.Leases.{Collection, lease_of}
use Rattle.ccr_lease.specs.Faults.{renewal}
use Rattle.ccr_wire.specs.Message.{Frame}
use Rattle.ccr_wire.specs.declared.kind.LeaseResult.{LeaseResult}
use Rattle.ccr_wire.specs.declared.kind.LeaseResult.TheVariants as results
use Rattle.ccr_wire.specs.declared.content.Content.TheVariants as contents
use Rattle.ccr_journal.specs.declared.replies.Heard.{Heard as Hearing}
use Rattle.ccr_journal.specs.declared.replies.Heard.TheVariants as heard
use Rattle.ccr_law_base.proofs.Cases.{on_if}
use Rattle.ccr_model.specs.Outcomes.{Outcome}
use Rattle.ccr_model.specs.Copies.{Copies, greatest_floor, has_lease, lacks_lease}
use Rattle.ccr_model.specs.Leaders.{Leader, KeptRequest}
use Rattle.ccr_model.specs.LeaderRows.{with_copies, all_hold, lease_answer, settling_requests}
use Rattle.ccr_model.specs.LeaderFrames.{hears, answer_to, with_leases as with_leases_of, with_new_lease, answer_or_keep, answer_lease, lease_add_row, lease_renew_row, lease_remove_row}
use Rattle.ccr_law_settling_grounds.specs.Parked.{AreKeptRightly}
use Rattle.ccr_copies.specs.Leased.{leased, re_leased, released, IsTold}
use Rattle.ccr_copies.specs.Changes.{with_leases, with_new_lease as copies_with_new_lease}
use Rattle.ccr_leader.proofs.Settled.{settled, kept-more}

-- ---- a request for a lease

-- the copies with the new lease are those of the leader with it
pub same-new_lease : (s : Leader) (id : List ℕ) (next : Copies) → next ≡ copies_with_new_lease id s.now s.copies → with_copies s next ≡ with_new_lease s id
same-new_lease s id next is = ap (with_copies s) is ∙ by_test (has_lease id s.copies.primary)
  where
    leases : Collection
    leases = leased id s.copies.primary.floor s.now s.copies.primary.leases

    by_test : (b : Bool) → with_copies s (if b then s.copies else with_leases s.copies leases) ≡ (if b then s else with_copies s (with_leases s.copies leases))
    by_test true = refl
    by_test false = refl

-- where each copy has the lease it is answered
pub answered-now : (s : Leader) (k : KeptRequest) (lacking : Option ℕ) (sent : List Frame) → lacking ≡ None → sent ≡ lease_answer s.copies k ∷ []
    → answer_or_keep s k lacking ≡ hears (heard.Lease (if k.existed then results.Exists else results.Ok) (greatest_floor s.copies)) s sent
answered-now s k (Some copy) sent none is = absurd cc
answered-now s k None sent none is = ap (λ (told : List Frame). hears (heard.Lease (if k.existed then results.Exists else results.Ok) (greatest_floor s.copies)) s told) (sym is)

-- and else it is kept
pub kept-now : (s : Leader) (k : KeptRequest) (lacking : Option ℕ) (copy : ℕ) (kept : List KeptRequest) (sent : List Frame) → lacking ≡ Some copy → kept ≡ s.kept ++ k ∷ [] → sent ≡ []
    → answer_or_keep s k lacking ≡ hears (heard.Waiting copy) (record s { kept = kept }) sent
kept-now s k None copy kept sent some is none = absurd cc
kept-now s k (Some own) copy kept sent some is none =
    let same : own ≡ copy = cc in
    ap (λ (c : ℕ). hears (heard.Waiting c) (record s { kept = s.kept ++ k ∷ [] }) []) same
    ∙ ap (λ (ks : List KeptRequest). hears (heard.Waiting copy) (record s { kept = ks }) []) (sym is)
    ∙ ap (λ (told : List Frame). hears (heard.Waiting copy) (record s { kept = kept }) told) (sym none)

-- where nothing was due before, nothing is due after a request for a lease that was there
outcome-due : (o : Outcome Leader) (told : Hearing) (next : Leader) (sent : List Frame) → o ≡ hears told next sent → AreKeptRightly o.next.copies o.next.kept → AreKeptRightly next.copies next.kept
outcome-due o told next sent is are = subst (λ (x : Outcome Leader). AreKeptRightly x.next.copies x.next.kept) is are

or_keep-due : (s : Leader) (k : KeptRequest) (lacking : Option ℕ) → lacks_lease k.id s.copies ≡ lacking → AreKeptRightly s.copies s.kept
    → AreKeptRightly (answer_or_keep s k lacking).next.copies (answer_or_keep s k lacking).next.kept
or_keep-due s k None is are = are
or_keep-due s k (Some copy) is are = kept-more s.copies s.kept k copy is are

pub still-kept : (s after : Leader) (k : KeptRequest) (told : Hearing) (next : Leader) (sent : List Frame) → after ≡ with_new_lease s k.id → has_lease k.id s.copies.primary ≡ true
    → AreKeptRightly s.copies s.kept → answer_or_keep after k (lacks_lease k.id after.copies) ≡ hears told next sent → AreKeptRightly next.copies next.kept
still-kept s after k told next sent is there are row =
    let same : after ≡ s = is ∙ ap (λ (b : Bool). if b then s else with_leases_of s (leased k.id s.copies.primary.floor s.now s.copies.primary.leases)) there in
    outcome-due (answer_or_keep after k (lacks_lease k.id after.copies)) told next sent row
    (or_keep-due after k (lacks_lease k.id after.copies) refl (subst (λ (l : Leader). AreKeptRightly l.copies l.kept) (sym same) are))

-- the whole row
pub add-row : (s after : Leader) (follower : List ℕ) (request : ℕ) (id : List ℕ) (k : KeptRequest) (waits : Option ℕ) (told : Hearing) (next : Leader) (sent more : List Frame) (kept : List KeptRequest)
    → waits ≡ None → after ≡ with_new_lease s id → k ≡ record { follower = follower; request = request; id = id; existed = has_lease id s.copies.primary }
    → answer_or_keep after k (lacks_lease k.id after.copies) ≡ hears told next sent
    → more ≡ sent ++ map {A = KeptRequest} {B = Frame} (lease_answer next.copies) (filter (λ k. all_hold k.id next.copies) next.kept)
    → kept ≡ filter (λ k. not (all_hold k.id next.copies)) next.kept
    → settling_requests (lease_add_row s follower request id waits) ≡ hears told (record next { kept = kept }) more
unfolding lease_add_row
add-row s after follower request id k (Some copy) told next sent more kept ready is asked row adds left = absurd cc
add-row s after follower request id k None told next sent more kept ready is asked row adds left =
    let own : KeptRequest = record { follower = follower; request = request; id = id; existed = has_lease id s.copies.primary } in
    let first : answer_or_keep (with_new_lease s id) own (lacks_lease id (with_new_lease s id).copies) ≡ hears told next sent =
    ap (λ (l : Leader). answer_or_keep l own (lacks_lease id l.copies)) (sym is) ∙ (ap (λ (q : KeptRequest). answer_or_keep after q (lacks_lease q.id after.copies)) (sym asked) ∙ row) in
    ap settling_requests first
    ∙ ap (λ (ks : List KeptRequest). hears told (record next { kept = ks })
    (sent ++ map {A = KeptRequest} {B = Frame} (lease_answer next.copies) (filter (λ k. all_hold k.id next.copies) next.kept))) (sym left)
    ∙ ap (λ (ms : List Frame). hears told (record next { kept = kept }) ms) (sym adds)

-- a leader that isn't ready says so
pub unready-row : (s : Leader) (follower : List ℕ) (request : ℕ) (id : List ℕ) (waits : Option ℕ) (copy : ℕ) (sent : List Frame) → waits ≡ Some copy
    → sent ≡ answer_to follower request (contents.NotReady copy) → AreKeptRightly s.copies s.kept
    → settling_requests (lease_add_row s follower request id waits) ≡ hears (heard.NotReady copy) s sent
unfolding lease_add_row
unready-row s follower request id None copy sent some is are = absurd cc
unready-row s follower request id (Some own) copy sent some is are =
    let same : own ≡ copy = cc in
    settled (heard.NotReady own) s (answer_to follower request (contents.NotReady own)) are
    ∙ ap (λ (c : ℕ). hears (heard.NotReady c) s (answer_to follower request (contents.NotReady c))) same
    ∙ ap (λ (told : List Frame). hears (heard.NotReady copy) s told) (sym is)

-- ---- a renewal

-- what a renewal is answered tells whether its number was low
high-by : (b : Bool) (low next : Outcome Leader) (kept : ℕ) (answer : Result (Unit {0}) LeaseFault) → answer ≡ Ok tt → answer ≡ (if b then Err (LowNumber kept) else Ok tt)
    → (if b then low else next) ≡ next
high-by true low next kept answer ok is = absurd cc
high-by false low next kept answer ok is = refl

low-by : (b : Bool) (told : ℕ → Outcome Leader) (next : Outcome Leader) (kept low : ℕ) (answer : Result (Unit {0}) LeaseFault) → answer ≡ Err (LowNumber low)
    → answer ≡ (if b then Err (LowNumber kept) else Ok tt) → (if b then told kept else next) ≡ told low
low-by true told next kept low answer err is = let same : kept ≡ low = cc in ap told same
low-by false told next kept low answer err is = absurd cc

found-by : (b : Bool) (kept : ℕ) (answer : Result (Unit {0}) LeaseFault) → answer ≡ Err NotFound → answer ≡ (if b then Err (LowNumber kept) else Ok tt) → ⊥
found-by true kept answer err is = cc
found-by false kept answer err is = cc

pub renewed-row : (s : Leader) (follower : List ℕ) (request : ℕ) (id : List ℕ) (number : ℕ) (found : Option Lease) → Ok tt ≡ renewal number found
    → lease_renew_row s follower request id number found
    ≡ answer_lease follower request (with_copies s (with_leases s.copies (re_leased id number s.now s.copies.primary.leases))) results.Ok number
unfolding lease_renew_row
renewed-row s follower request id number None is = absurd cc
renewed-row s follower request id number (Some kept) is =
    high-by (nat_lt number kept.number) (answer_lease follower request s results.LowNumber kept.number)
    (answer_lease follower request (with_copies s (with_leases s.copies (re_leased id number s.now s.copies.primary.leases))) results.Ok number)
    kept.number (Ok tt) refl is

pub low-row : (s : Leader) (follower : List ℕ) (request : ℕ) (id : List ℕ) (number low : ℕ) (found : Option Lease) → Err (LowNumber low) ≡ renewal number found
    → lease_renew_row s follower request id number found ≡ answer_lease follower request s results.LowNumber low
unfolding lease_renew_row
low-row s follower request id number low None is = absurd cc
low-row s follower request id number low (Some kept) is =
    low-by (nat_lt number kept.number) (λ (n : ℕ). answer_lease follower request s results.LowNumber n)
    (answer_lease follower request (with_copies s (with_leases s.copies (re_leased id number s.now s.copies.primary.leases))) results.Ok number)
    kept.number low (Err (LowNumber low)) refl is

pub unrenewed-row : (s : Leader) (follower : List ℕ) (request : ℕ) (id : List ℕ) (number : ℕ) (found : Option Lease) → Err NotFound ≡ renewal number found
    → lease_renew_row s follower request id number found ≡ answer_lease follower request s results.NotFound 0
unfolding lease_renew_row
unrenewed-row s follower request id number None is = refl
unrenewed-row s follower request id number (Some kept) is = absurd (found-by (nat_lt number kept.number) kept.number (Err NotFound) refl is)

-- ---- a removal

pub removed-row : (s : Leader) (follower : List ℕ) (request : ℕ) (id : List ℕ) (lease : Lease) (found : Option Lease) → Ok lease ≡ ok_or found NotFound
    → lease_remove_row s follower request id found
    ≡ answer_lease follower request (with_copies s (with_leases s.copies (released id s.copies.primary.leases))) results.Ok lease.number
unfolding lease_remove_row
removed-row s follower request id lease None is = absurd cc
removed-row s follower request id lease (Some kept) is =
    let same : kept ≡ lease = cc in
    ap (λ (own : Lease). answer_lease follower request (with_copies s (with_leases s.copies (released id s.copies.primary.leases))) results.Ok own.number) same

pub unremoved-row : (s : Leader) (follower : List ℕ) (request : ℕ) (id : List ℕ) (found : Option Lease) → Err NotFound ≡ ok_or found NotFound
    → lease_remove_row s follower request id found ≡ answer_lease follower request s results.NotFound 0
unfolding lease_remove_row
unremoved-row s follower request id None is = refl
unremoved-row s follower request id (Some kept) is = absurd cc

-- ---- what is told

told-as : (o : Outcome Leader) (own what : Hearing) (mine next : Leader) (said sent : List Frame) → o ≡ hears own mine said → next ≡ mine → what ≡ own → sent ≡ said → o ≡ hears what next sent
told-as o own what mine next said sent row a b d =
    row ∙ (ap (λ (h : Hearing). hears h mine said) (sym b) ∙ (ap (λ (l : Leader). hears what l said) (sym a) ∙ ap (λ (ms : List Frame). hears what next ms) (sym d)))

pub renewed-told : (s : Leader) (follower : List ℕ) (request : ℕ) (id : List ℕ) (number : ℕ) (next : Copies) (what : Hearing) (sent : List Frame)
    → Ok tt ≡ renewal number (lease_of id s.copies.primary.leases.leases) → next ≡ with_leases s.copies (re_leased id number s.now s.copies.primary.leases)
    → what ≡ heard.Lease results.Ok number → sent ≡ answer_to follower request (contents.LeaseAnswer results.Ok number)
    → lease_renew_row s follower request id number (lease_of id s.copies.primary.leases.leases) ≡ hears what (with_copies s next) sent
renewed-told s follower request id number next what sent is changed told says =
    told-as (lease_renew_row s follower request id number (lease_of id s.copies.primary.leases.leases)) (heard.Lease results.Ok number) what
    (with_copies s (with_leases s.copies (re_leased id number s.now s.copies.primary.leases))) (with_copies s next)
    (answer_to follower request (contents.LeaseAnswer results.Ok number)) sent
    (renewed-row s follower request id number (lease_of id s.copies.primary.leases.leases) is) (ap (with_copies s) changed) told says

pub low-told : (s : Leader) (follower : List ℕ) (request : ℕ) (id : List ℕ) (number low : ℕ) (fault : LeaseFault) (next : Copies) (what : Hearing) (sent : List Frame) → fault ≡ LowNumber low
    → (let answer : Result (Unit {0}) LeaseFault = Err fault in IsTold answer → answer ≡ renewal number (lease_of id s.copies.primary.leases.leases)) → next ≡ s.copies
    → what ≡ heard.Lease results.LowNumber low → sent ≡ answer_to follower request (contents.LeaseAnswer results.LowNumber low)
    → lease_renew_row s follower request id number (lease_of id s.copies.primary.leases.leases) ≡ hears what (with_copies s next) sent
low-told s follower request id number low fault next what sent is answers same told says =
    let answer : Err (LowNumber low) ≡ renewal number (lease_of id s.copies.primary.leases.leases) =
    subst (λ (f : LeaseFault). let r : Result (Unit {0}) LeaseFault = Err f in IsTold r → r ≡ renewal number (lease_of id s.copies.primary.leases.leases)) is answers tt in
    told-as (lease_renew_row s follower request id number (lease_of id s.copies.primary.leases.leases)) (heard.Lease results.LowNumber low) what s (with_copies s next)
    (answer_to follower request (contents.LeaseAnswer results.LowNumber low)) sent
    (low-row s follower request id number low (lease_of id s.copies.primary.leases.leases) answer) (ap (with_copies s) same) told says

pub unrenewed-told : (s : Leader) (follower : List ℕ) (request : ℕ) (id : List ℕ) (number : ℕ) (fault : LeaseFault) (next : Copies) (what : Hearing) (sent : List Frame) → fault ≡ NotFound
    → (let answer : Result (Unit {0}) LeaseFault = Err fault in IsTold answer → answer ≡ renewal number (lease_of id s.copies.primary.leases.leases)) → next ≡ s.copies
    → what ≡ heard.Lease results.NotFound 0 → sent ≡ answer_to follower request (contents.LeaseAnswer results.NotFound 0)
    → lease_renew_row s follower request id number (lease_of id s.copies.primary.leases.leases) ≡ hears what (with_copies s next) sent
unrenewed-told s follower request id number fault next what sent is answers same told says =
    let answer : Err NotFound ≡ renewal number (lease_of id s.copies.primary.leases.leases) =
    subst (λ (f : LeaseFault). let r : Result (Unit {0}) LeaseFault = Err f in IsTold r → r ≡ renewal number (lease_of id s.copies.primary.leases.leases)) is answers tt in
    told-as (lease_renew_row s follower request id number (lease_of id s.copies.primary.leases.leases)) (heard.Lease results.NotFound 0) what s (with_copies s next)
    (answer_to follower request (contents.LeaseAnswer results.NotFound 0)) sent
    (unrenewed-row s follower request id number (lease_of id s.copies.primary.leases.leases) answer) (ap (with_copies s) same) told says

pub removed-told : (s : Leader) (follower : List ℕ) (request : ℕ) (id : List ℕ) (lease : Lease) (next : Copies) (what : Hearing) (sent : List Frame)
    → Ok lease ≡ ok_or (lease_of id s.copies.primary.leases.leases) NotFound → next ≡ with_leases s.copies (released id s.copies.primary.leases)
    → what ≡ heard.Lease results.Ok lease.number → sent ≡ answer_to follower request (contents.LeaseAnswer results.Ok lease.number)
    → lease_remove_row s follower request id (lease_of id s.copies.primary.leases.leases) ≡ hears what (with_copies s next) sent
removed-told s follower request id lease next what sent is changed told says =
    told-as (lease_remove_row s follower request id (lease_of id s.copies.primary.leases.leases)) (heard.Lease results.Ok lease.number) what
    (with_copies s (with_leases s.copies (released id s.copies.primary.leases))) (with_copies s next)
    (answer_to follower request (contents.LeaseAnswer results.Ok lease.number)) sent
    (removed-row s follower request id lease (lease_of id s.copies.primary.leases.leases) is) (ap (with_copies s) changed) told says

pub unremoved-told : (s : Leader) (follower : List ℕ) (request : ℕ) (id : List ℕ) (fault : LeaseFault) (next : Copies) (what : Hearing) (sent : List Frame) → fault ≡ NotFound
    → (let answer : Result Lease LeaseFault = Err fault in IsTold answer → answer ≡ ok_or (lease_of id s.copies.primary.leases.leases) NotFound) → next ≡ s.copies
    → what ≡ heard.Lease results.NotFound 0 → sent ≡ answer_to follower request (contents.LeaseAnswer results.NotFound 0)
    → lease_remove_row s follower request id (lease_of id s.copies.primary.leases.leases) ≡ hears what (with_copies s next) sent
unremoved-told s follower request id fault next what sent is answers same told says =
    let answer : Err NotFound ≡ ok_or (lease_of id s.copies.primary.leases.leases) NotFound =
    subst (λ (f : LeaseFault). let r : Result Lease LeaseFault = Err f in IsTold r → r ≡ ok_or (lease_of id s.copies.primary.leases.leases) NotFound) is answers tt in
    told-as (lease_remove_row s follower request id (lease_of id s.copies.primary.leases.leases)) (heard.Lease results.NotFound 0) what s (with_copies s next)
    (answer_to follower request (contents.LeaseAnswer results.NotFound 0)) sent
    (unremoved-row s follower request id (lease_of id s.copies.primary.leases.leases) answer) (ap (with_copies s) same) told says
