-- What the claims say in the words of the theorem.
use Rattle.std.specs.Prelude.{slice_get, min, IfSome}
use Rattle.std.specs.List.{AllByRecursion}
use Rattle.std.specs.Str.{bytes_eq}
use Rattle.std.proofs.Common.{◌≡◌, ◌⊎◌, inl, inr, ℕ, ◌≤◌, true, List, [], ◌∷◌, Option, Some, None, refl, ap, ◌∙◌, arith}
use Rattle.ccr_wire.specs.Message.{Frame}
use Rattle.ccr_model.specs.Tasks.{Task}
use Rattle.ccr_model.specs.Restores.{Stage, leasing, opening, fetching}
use Rattle.ccr_model.specs.Followers.{Follower, Work, restoring, replicating, uuid_of}
use Rattle.ccr_model.specs.LeaseHistory.{retained}
use Rattle.ccr_model.specs.Past.{Past, all_notes}
use Rattle.ccr_model.specs.FrameFacts.{reading_in, reading_of}
use Rattle.ccr_model.specs.Invariants.{IsKept, renewal_of, renewals_of, RetainsForBootstrap, IsNotNeeded, RetainsForWork, is_missing, IsLost, IsMissingTruly}
use Rattle.ccr_law_base.proofs.Lists.{All-weaker}
use Rattle.ccr_law_retention.specs.Grounds.{HasGrounds, SaysRetained}
use Rattle.ccr_law_retention.specs.Retaining.{is_replicating, bound_of, bound_of_stage, low_of, Within, KeptSince, LostSince, MissingOk, IsEarly, IsRetaining}
use Rattle.ccr_law_retention.proofs.Lists.{low-next, low-reads}
use Rattle.ccr_law_retention.proofs.Growing.{kept-of}
use Rattle.ccr_law_retention.proofs.Worlds.{early-own}
use Rattle.ccr_law_retention.proofs.Places.{reading-is}
use Rattle.std.proofs.lemmas.Bool.{and_parts}

-- a list with one more number, where there is one
abbrev cons_option : Option ℕ → List ℕ → List ℕ
cons_option None xs = xs
cons_option (Some x) xs = x ∷ xs

no-renewals : (lease : List ℕ) (flight : List Frame) → AllByRecursion (λ (m : Frame). renewal_of lease m.content ≡ None) flight → renewals_of lease flight ≡ []
no-renewals lease [] none = refl
no-renewals lease (m ∷ flight) none = ap (λ (o : Option ℕ). cons_option o (renewals_of lease flight)) none.0 ∙ no-renewals lease flight none.1

one-more : (P : ℕ → Type 0) (o : Option ℕ) (ns : List ℕ) → IfSome o P → AllByRecursion P ns → AllByRecursion P (cons_option o ns)
one-more P None ns it all = all
one-more P (Some n) ns it all = (it, all)

renewals-hold : (P : ℕ → Type 0) (lease : List ℕ) (flight : List Frame) → AllByRecursion (λ (m : Frame). IfSome (renewal_of lease m.content) P) flight → AllByRecursion P (renewals_of lease flight)
renewals-hold P lease [] all = tt
renewals-hold P lease (m ∷ flight) all = one-more P (renewal_of lease m.content) (renewals_of lease flight) all.0 (renewals-hold P lease flight all.1)

kept-since : (p : Past) (f : ℕ) (lease : List ℕ) → IsKept p f lease → KeptSince (p.followers f).answer lease p.notes
kept-since p f lease kept =
    kept-of (p.followers f).answer lease p.notes p.earlier (record { place = kept.place; is = kept.answer; kept = kept.kept })

not-needed : (s : Follower) (t : Task) (n : ℕ) → n ≤ min s.copies.primary.global (low_of t.next t.reads) → IsNotNeeded s t n
not-needed s t n low =
    let next : low_of t.next t.reads ≤ t.next = low-next t.next t.reads in
    record { global = omega arith; next = λ active. omega arith; reads = λ active. low-reads n t.next t.reads (omega arith) }

stage-says : (p : Past) (f : ℕ) (lease : List ℕ) (number : ℕ) (stage : Stage) → Within p.state.flight (uuid_of f) lease number (bound_of_stage stage) → RetainsForBootstrap p.state.flight f number stage
stage-says p f lease number (leasing a) within = tt
stage-says p f lease number (opening a) within = within
stage-says p f lease number (fetching fetch) within = within.0

work-says : (p : Past) (f : ℕ) (s : Follower) (work : Work) → IsRetaining p → slice_get p.state.followers f ≡ Some s → s.work ≡ work
    → (KeptSince (p.followers f).answer s.lease p.notes → Within p.state.flight (uuid_of f) s.lease (retained s.lease p.notes) (bound_of s.copies.primary.global work))
    → RetainsForWork p f s work
work-says p f s (restoring r) all there is within =
    let early : IsEarly s.lease p.line.cut p.notes p.state.flight = all.early s.lease (early-own p.state.followers f s all.apart there (ap is_replicating is)) in
    (no-renewals s.lease p.state.flight early.none, early.low, λ kept. stage-says p f s.lease (retained s.lease p.notes) r.stage (within (kept-since p f s.lease kept)))
work-says p f s (replicating t) all there is within = λ kept.
    let it = within (kept-since p f s.lease kept) in
    let b : ℕ = min s.copies.primary.global (low_of t.next t.reads) in (
      not-needed s t (retained s.lease p.notes) it.0,
      All-weaker (λ (n : ℕ). n ≤ b) (IsNotNeeded s t) (λ n low. not-needed s t n low) (renewals_of s.lease p.state.flight) (renewals-hold (λ n. n ≤ b) s.lease p.state.flight it.1),
    )

missing-says : (p : Past) (f : ℕ) (s : Follower) → HasGrounds p → slice_get p.state.followers f ≡ Some s
    → AllByRecursion (MissingOk (p.followers f).answer (uuid_of f) s.lease (all_notes p) s.work) p.state.flight → AllByRecursion (IsMissingTruly p f s) p.state.flight
missing-says p f s grounds there all =
    All-weaker (MissingOk (p.followers f).answer (uuid_of f) s.lease (all_notes p) s.work) (IsMissingTruly p f s)
    (λ m it is. by-either m (and_parts (bytes_eq m.follower (uuid_of f)) (is_missing m.content) is).0 (it is)) p.state.flight all
  where
    by-either : (m : Frame) → bytes_eq m.follower (uuid_of f) ≡ true → (reading_in s.work m.request ≡ None) ⊎ LostSince (p.followers f).answer s.lease (all_notes p)
        → (reading_of p.state m.follower m.request ≡ None) ⊎ IsLost p f s.lease
    by-either m own (inl none) = inl (reading-is p.state f s m.follower m.request (grounds.messages.made f s there).named there own ∙ none)
    by-either m own (inr lost) = inr (record { place = lost.place; answer = lost.is; lost = lost.lost })

pub retaining-says : (p : Past) → HasGrounds p → IsRetaining p → (f : ℕ) (s : Follower) → slice_get p.state.followers f ≡ Some s → SaysRetained p f s
retaining-says p grounds all f s there =
    record {
      retained = λ current. work-says p f s s.work all there refl (all.made f s there current).within;
      missing = missing-says p f s grounds there (all.told f s there).missing;
    }
