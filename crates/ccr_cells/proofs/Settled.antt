-- A settle, as the passes tell it, in the words of deeds.
use Rattle.std.specs.Prelude.{Option, Some}
use Rattle.std.specs.List.{AllByRecursion}
use Rattle.std.proofs.Common.{◌≡◌, ℕ, true, List, [], ◌∷◌, ◌++◌, refl, sym, ◌∙◌, ap, subst, inl, inr, ◌⊎◌}
use Rattle.std.proofs.lemmas.List.{append_assoc}
use Rattle.ccr_journal.specs.declared.events.Event.{Event}
use Rattle.ccr_journal.specs.declared.events.Event.TheVariants as events
use Rattle.ccr_journal.specs.declared.journals.Entry.{Entry}
use Rattle.ccr_journal.specs.declared.replies.Reply.{Reply}
use Rattle.ccr_journal.specs.declared.replies.Reply.TheVariants as replies
use Rattle.ccr_model.specs.Outcomes.{guarded}
use Rattle.ccr_model.specs.World.{State, start_state}
use Rattle.ccr_model.specs.Step.{step, picks_in, outcome_at, state_after}
use Rattle.ccr_model.specs.Settled.{is_settled}
use Rattle.ccr_model.specs.Settling.{MaySettle, IsSettling, IsSettleRun}
use Rattle.ccr_law_base.proofs.Journals.{after-append}
use Rattle.ccr_law_base.proofs.Settling.{settling-is}
use Rattle.ccr_cell.specs.declared.view.View.{View}
use Rattle.ccr_cell.specs.Passes.{view_of, first_of, IsOf}
use Rattle.ccr_cell.specs.Told.{Acted, Looked}
use Rattle.ccr_workers.specs.Lists.{Each}
use Rattle.ccr_workers.specs.Settles.{AreChosen, Settles, IsOnlyPass, IsIdleAt}
use Rattle.ccr_workers.specs.Lending.{Went, Finished}
use Rattle.ccr_workers.proofs.Growing.{acted_on, looked_on, on_settles, went_self}
use Rattle.ccr_workers.proofs.Lists.{each_then, each_weaker}
use Rattle.ccr_shard_world.specs.Runs.{settle_entry}
use Rattle.ccr_deeds.specs.Logs.{Log, extended, state_of}
use Rattle.ccr_deeds.specs.Settles.{AreSettling, IsSettled, MayBeSettled, EachWorld}
use Rattle.ccr_worlds.proofs.Quiet.{settled_may}
use Rattle.ccr_cells.specs.declared.numbered.Opening.{Opening}
use Rattle.ccr_cells.specs.Opened.{opening_of, state_from, entry_in, may_reply_in, is_idle_in, chosen_in}
use Rattle.ccr_cells.specs.Views.{Pass, CellOfWorld, start_in, log_in, logs_in, anything, Entered, MayBeEntered}
use Rattle.ccr_cells.proofs.Logs.{acted_log, looked_log, log_grew}
use Rattle.ccr_cells.proofs.Slots.{each_and}

-- ---- entries that were chosen settle the world

chosen_event : (o : Opening) (front : List Entry) (entry : Entry) (s : State) → state_from o front ≡ s → chosen_in o front entry → IsSettling s entry.event
chosen_event o front entry s at is =
    subst (λ (e : Event). IsSettling s e) (sym (ap (λ (e : Entry). e.event) is.is))
    (settling-is s is.event (subst (λ (x : State). MaySettle x is.event) at is.may))

next_state : (o : Opening) (front : List Entry) (entry : Entry) (s : State) → state_from o front ≡ s → state_from o (front ++ entry ∷ []) ≡ (outcome_at s entry).next
next_state o front entry s at = after-append (start_state o.start) front (entry ∷ []) ∙ ap (λ (x : State). (outcome_at x entry).next) at

chosen_settling : (o : Opening) (front entries : List Entry) (s : State) → state_from o front ≡ s → AreChosen chosen_in o front entries → AreSettling s entries
chosen_settling o front [] s at each = tt
chosen_settling o front (entry ∷ entries) s at each = (
  chosen_event o front entry s at each.0,
  chosen_settling o (front ++ entry ∷ []) entries (outcome_at s entry).next (next_state o front entry s at) each.1,
)

chosen_run : (o : Opening) (front entries : List Entry) (s : State) → state_from o front ≡ s → AreChosen chosen_in o front entries → IsSettleRun s (entries ++ settle_entry ∷ [])
chosen_run o front [] s at each = (refl, refl)
chosen_run o front (entry ∷ []) s at each = (chosen_event o front entry s at each.0, (refl, refl))
chosen_run o front (entry ∷ next ∷ entries) s at each = (
  chosen_event o front entry s at each.0,
  chosen_run o (front ++ entry ∷ []) (next ∷ entries) (outcome_at s entry).next (next_state o front entry s at) each.1,
)

begun : (o : Opening) (v : View Opening Entry) → v.start ≡ Some o → state_from o v.seen ≡ state_of (log_in v)
begun o v is = ap (λ (s : Option Opening). state_after (start_state (start_in s)) v.seen) (sym is)

extended_twice : (log : Log) (xs ys : List Entry) → extended (extended log xs) ys ≡ extended log (xs ++ ys)
extended_twice log xs ys = ap (λ (es : List Entry). record log { entries = es }) (append_assoc log.entries xs ys)

may_be_settled : (o : Opening) (v w : View Opening Entry) → v.start ≡ Some o → Settles chosen_in v w → MayBeSettled (log_in v) (log_in w)
may_be_settled o v w is s = record {
  entries = s.added;
  is = log_grew v w s.added s.same.start s.grew;
  run = inl (chosen_settling o v.seen s.added (state_of (log_in v)) (begun o v is) (s.each o is));
}

settled : (o : Opening) (v w u : View Opening Entry) → v.start ≡ Some o → Settles chosen_in v w → log_in u ≡ extended (log_in w) (settle_entry ∷ []) → IsSettled (log_in v) (log_in u)
settled o v w u is s last = record {
  entries = s.added ++ settle_entry ∷ [];
  is = last ∙ (ap (λ (l : Log). extended l (settle_entry ∷ [])) (log_grew v w s.added s.same.start s.grew) ∙ extended_twice (log_in v) s.added (settle_entry ∷ []));
  run = chosen_run o v.seen s.added (state_of (log_in v)) (begun o v is) (s.each o is);
}

-- ---- it is entered that a world is settled

settled_reply : (s : State) (picks : List ℕ) → is_settled s ≡ true → (step s events.Settle picks).reply ≡ replies.Settled
unfolding guarded
settled_reply s picks settled = rw settled refl

idle_reply : (o : Opening) (front : List Entry) (reply : Reply) → is_idle_in o front → may_reply_in o front events.Settle reply → reply ≡ replies.Settled
idle_reply o front reply idle may = may.0 ∙ settled_reply (state_from o front) (picks_in reply) idle

module _ (cell : CellOfWorld) (p q : Pass) (only : IsOnlyPass opening_of cell p) where
  pub entered : (reply : Reply) (place : ℕ) → IsIdleAt is_idle_in (view_of p) → IsOf cell q
      → Acted (λ o front. may_reply_in o front events.Settle reply) (entry_in events.Settle reply) place (view_of p) (view_of q) → Entered p q
  entered reply place idle own it =
      let told : reply ≡ replies.Settled =
      idle_reply it.start it.front reply (subst (λ (l : List Entry). is_idle_in it.start l) (sym (it.alone only.alone.whole)) (idle it.start it.from_start)) it.may_be in
      record {
        went = record {
          table = own ∙ sym only.home.own;
          on = acted_on anything (λ o front. may_reply_in o front events.Settle reply) (entry_in events.Settle reply) place (view_of p) (view_of q) (λ o front may. tt) it;
        };
        log = acted_log (λ o front. may_reply_in o front events.Settle reply) (view_of p) (view_of q) (entry_in events.Settle reply) place only.alone.whole it
            ∙ ap (λ (r : Reply). extended (log_in (view_of p)) (entry_in events.Settle r ∷ [])) told;
      }

  pub not_entered : IsOf cell q → Looked (λ o front. Unit {0}) (view_of p) (view_of q) → MayBeEntered p q
  not_entered own it = record {
    went = record { table = own ∙ sym only.home.own; on = looked_on anything (λ o front. Unit {0}) (view_of p) (view_of q) it };
    log = inl (looked_log (λ o front. Unit {0}) (view_of p) (view_of q) only.alone.whole it);
  }

pub entered_may : (p q : Pass) → Entered p q → MayBeEntered p q
entered_may p q e = record { went = e.went; log = inr e.log }

pub stays_entered : (p : Pass) → MayBeEntered p p
stays_entered p = record { went = went_self anything p; log = inl refl }

-- ---- of one world

-- a pass that was alone went on
pub record WasAlone (R : Pass → Pass → Type 0) (p q : Pass) : Type 0 where
  pub cell : CellOfWorld
  pub only : IsOnlyPass opening_of cell p
  pub is : R p q

settled_pass : (p q r : Pass) → WasAlone (Finished chosen_in is_idle_in) p q → Entered q r → IsSettled (log_in (view_of p)) (log_in (view_of r))
settled_pass p q r was e =
    settled (opening_of (first_of was.cell)) (view_of p) (view_of q) (view_of r) was.only.home.from_start
    (on_settles chosen_in (view_of p) (view_of q) was.only.alone was.is.went.on) e.log

may_pass : (p q : Pass) → WasAlone (Went chosen_in 0 0) p q → MayBeSettled (log_in (view_of p)) (log_in (view_of q))
may_pass p q was =
    may_be_settled (opening_of (first_of was.cell)) (view_of p) (view_of q) was.only.home.from_start
    (on_settles chosen_in (view_of p) (view_of q) was.only.alone was.is.on)

may_then : (p q r : Pass) → WasAlone (Finished chosen_in is_idle_in) p q → MayBeEntered q r → MayBeSettled (log_in (view_of p)) (log_in (view_of r))
may_then p q r was e = by_log e.log
  where
    by_log : (log_in (view_of r) ≡ log_in (view_of q)) ⊎ (log_in (view_of r) ≡ extended (log_in (view_of q)) (settle_entry ∷ [])) → MayBeSettled (log_in (view_of p)) (log_in (view_of r))
    by_log (inl same) = subst (λ (l : Log). MayBeSettled (log_in (view_of p)) l) (sym same) (may_pass p q (record { cell = was.cell; only = was.only; is = was.is.went }))
    by_log (inr last) = settled_may (log_in (view_of p)) (log_in (view_of r))
        (settled (opening_of (first_of was.cell)) (view_of p) (view_of q) (view_of r) was.only.home.from_start
        (on_settles chosen_in (view_of p) (view_of q) was.only.alone was.is.went.on) last)

-- ---- of several worlds

were_alone : (R : Pass → Pass → Type 0) (cells : List CellOfWorld) (ps qs : List Pass) → Each (IsOnlyPass opening_of) cells ps → Each R ps qs → Each (WasAlone R) ps qs
were_alone R [] [] [] only each = tt
were_alone R [] [] (q ∷ qs) only each = each
were_alone R [] (p ∷ ps) qs only each = absurd only
were_alone R (c ∷ cells) [] qs only each = absurd only
were_alone R (c ∷ cells) (p ∷ ps) [] only each = each
were_alone R (c ∷ cells) (p ∷ ps) (q ∷ qs) only each = (record { cell = c; only = only.0; is = each.0 }, were_alone R cells ps qs only.1 each.1)

each_log : (R : Log → Log → Type 0) (ps qs : List Pass) → Each (λ (p q : Pass). R (log_in (view_of p)) (log_in (view_of q))) ps qs → EachWorld R (logs_in ps) (logs_in qs)
each_log R [] [] each = tt
each_log R [] (q ∷ qs) each = each
each_log R (p ∷ ps) [] each = each
each_log R (p ∷ ps) (q ∷ qs) each = (each.0, each_log R ps qs each.1)

pub worlds_settled : (cells : List CellOfWorld) (ps qs rs : List Pass) → Each (IsOnlyPass opening_of) cells ps → Each (Finished chosen_in is_idle_in) ps qs → Each Entered qs rs
    → EachWorld IsSettled (logs_in ps) (logs_in rs)
worlds_settled cells ps qs rs only finished entered =
    each_log IsSettled ps rs
    (each_then (WasAlone (Finished chosen_in is_idle_in)) Entered (λ (p r : Pass). IsSettled (log_in (view_of p)) (log_in (view_of r))) settled_pass ps qs rs
    (were_alone (Finished chosen_in is_idle_in) cells ps qs only finished) entered)

pub worlds_may : (cells : List CellOfWorld) (ps qs rs : List Pass) → Each (IsOnlyPass opening_of) cells ps → Each (Finished chosen_in is_idle_in) ps qs → Each MayBeEntered qs rs
    → EachWorld MayBeSettled (logs_in ps) (logs_in rs)
worlds_may cells ps qs rs only finished entered =
    each_log MayBeSettled ps rs
    (each_then (WasAlone (Finished chosen_in is_idle_in)) MayBeEntered (λ (p r : Pass). MayBeSettled (log_in (view_of p)) (log_in (view_of r))) may_then ps qs rs
    (were_alone (Finished chosen_in is_idle_in) cells ps qs only finished) entered)

pub worlds_begun : (cells : List CellOfWorld) (ps qs : List Pass) → Each (IsOnlyPass opening_of) cells ps → Each (Went chosen_in 0 0) ps qs
    → EachWorld MayBeSettled (logs_in ps) (logs_in qs)
worlds_begun cells ps qs only went = each_log MayBeSettled ps qs
    (each_weaker (WasAlone (Went chosen_in 0 0)) (λ (p q : Pass). MayBeSettled (log_in (view_of p)) (log_in (view_of q))) may_pass ps qs (were_alone (Went chosen_in 0 0) cells ps qs only went))

-- ---- passes through which it may be entered

abbrev pub IsReadyToEnter : CellOfWorld → Pass → Type 0
IsReadyToEnter cell p = IsOnlyPass opening_of cell p × IsIdleAt is_idle_in (view_of p)

pub ready_to_enter : (cells : List CellOfWorld) (ps : List Pass) → Each (IsOnlyPass opening_of) cells ps → AllByRecursion (λ (p : Pass). IsIdleAt is_idle_in (view_of p)) ps
    → Each IsReadyToEnter cells ps
ready_to_enter cells ps only idle = each_and (IsOnlyPass opening_of) (λ (p : Pass). IsIdleAt is_idle_in (view_of p)) cells ps only idle
