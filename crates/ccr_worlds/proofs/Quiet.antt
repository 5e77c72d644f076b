-- What settles a world is no merge, and so asks no policy.
use Rattle.std.proofs.Common.{◌≡◌, ℕ, Bool, true, false, List, [], ◌∷◌, ◌++◌, refl, sym, ap, subst, ◌∙◌, inl, inr}
use Rattle.std.proofs.lemmas.List.{append_assoc, append-nil}
use Rattle.std.specs.List.{AllByRecursion}
use Rattle.ccr_policy.specs.declared.PartSize.{PartSize}
use Rattle.ccr_journal.specs.declared.events.Event.{Event}
use Rattle.ccr_journal.specs.declared.events.Event.TheVariants as events
use Rattle.ccr_journal.specs.declared.journals.Entry.{Entry}
use Rattle.ccr_journal.specs.declared.replies.Reply.{Reply}
use Rattle.ccr_journal.specs.declared.replies.Reply.TheVariants as replies
use Rattle.ccr_model.specs.Leaders.{Start}
use Rattle.ccr_model.specs.World.{State, start_state}
use Rattle.ccr_model.specs.Step.{step, picks_in, outcome_at, state_after, IsLegal}
use Rattle.ccr_model.specs.Settling.{MaySettle, IsSettling, IsSettleRun}
use Rattle.ccr_model.specs.Policies.{merged_sizes, sizes_seen, IsPicked, ArePicked}
use Rattle.ccr_law_base.proofs.Settling.{settling-is}
use Rattle.ccr_shard_world.specs.Fates.{is_merge}
use Rattle.ccr_shard_world.specs.Runs.{AreSettling as AreNext, Settling, SettledBy, settle_entry}
use Rattle.ccr_shard_world.proofs.OnlyMerges.{is_merged, merges_alone}
use Rattle.ccr_deeds.specs.Logs.{Log, extended, state_of}
use Rattle.ccr_deeds.specs.Settles.{AreSettling, IsSettled, MayBeSettled}
use Rattle.ccr_worlds.specs.Fated.{Fate}

-- no entry is of a merge
abbrev pub AreQuiet : List Entry → Type 0
AreQuiet entries = AllByRecursion (λ (entry : Entry). is_merge entry.event ≡ false) entries

-- ---- no merge, no picks

unmerged_picked : (fate : Fate) (s : State) (event : Event) (reply : Reply) → is_merged reply ≡ false → IsPicked fate s event reply
unmerged_picked fate s event (replies.Merged floor dropped picks) isnt = absurd cc
unmerged_picked fate s event _ isnt = tt

unmerged_sizes : (s : State) (event : Event) (reply : Reply) → is_merge event ≡ false → merged_sizes s event reply ≡ []
unmerged_sizes s (events.Merge side copy) reply isnt = absurd cc
unmerged_sizes s _ reply isnt = refl

quiet_reply : (s : State) (entry : Entry) → is_merge entry.event ≡ false → entry.reply ≡ (outcome_at s entry).reply → is_merged entry.reply ≡ false
quiet_reply s entry isnt is = ap is_merged is ∙ merges_alone s entry.event (picks_in entry.reply) isnt

pub quiet_picked : (fate : Fate) (s : State) (entries : List Entry) → AreQuiet entries → IsLegal s entries → ArePicked fate s entries
quiet_picked fate s [] quiet legal = tt
quiet_picked fate s (entry ∷ entries) quiet legal = (
  unmerged_picked fate s entry.event entry.reply (quiet_reply s entry quiet.0 legal.0),
  quiet_picked (λ seen. fate (merged_sizes s entry.event entry.reply ++ seen)) (outcome_at s entry).next entries quiet.1 legal.1,
)

pub quiet_sizes : (s : State) (entries : List Entry) → AreQuiet entries → sizes_seen s entries ≡ []
quiet_sizes s [] quiet = refl
quiet_sizes s (entry ∷ entries) quiet =
    ap (λ (sizes : List (List PartSize)). sizes ++ sizes_seen (outcome_at s entry).next entries) (unmerged_sizes s entry.event entry.reply quiet.0)
    ∙ quiet_sizes (outcome_at s entry).next entries quiet.1

-- ---- a run that settles

may_unmerged : (s : State) (event : Event) → MaySettle s event → is_merge event ≡ false
may_unmerged s (events.Merge side copy) may = absurd cc
may_unmerged s _ may = refl

next_quiet : (s : State) (added : List Entry) → AreNext s added → AreQuiet added
next_quiet s [] each = tt
next_quiet s (entry ∷ added) each = (may_unmerged s entry.event each.0.may, next_quiet (outcome_at s entry).next added each.1)

quiet-push : (added : List Entry) → AreQuiet added → AreQuiet (added ++ settle_entry ∷ [])
quiet-push [] quiet = (refl, tt)
quiet-push (entry ∷ added) quiet = (quiet.0, quiet-push added quiet.1)

next_settling : (s : State) (added : List Entry) → AreNext s added → AreSettling s added
next_settling s [] each = tt
next_settling s (entry ∷ added) each = (settling-is s entry.event each.0.may, next_settling (outcome_at s entry).next added each.1)

settle_run : (s : State) (added : List Entry) → AreNext s added → IsSettleRun s (added ++ settle_entry ∷ [])
settle_run s [] each = (refl, refl)
settle_run s (entry ∷ []) each = (settling-is s entry.event each.0.may, (refl, refl))
settle_run s (entry ∷ next ∷ added) each = (settling-is s entry.event each.0.may, settle_run (outcome_at s entry).next (next ∷ added) each.1)

-- ---- a log that went on by entries of which none is a merge

pub record WentOn (start : Start) (old new : List Entry) : Type 0 where
  pub added : List Entry
  pub grew : new ≡ old ++ added
  pub quiet : AreQuiet added

pub went_on : (start : Start) (old new : List Entry) → Settling start old new → WentOn start old new
went_on start old new run = record { added = run.added; grew = run.grew; quiet = next_quiet (state_after (start_state start) old) run.added run.each }

settled_grew : (start : Start) (old new : List Entry) → (s : SettledBy start old new) → new ≡ old ++ (s.run.added ++ settle_entry ∷ [])
settled_grew start old new s =
    s.last ∙ ap (λ (es : List Entry). es ++ settle_entry ∷ []) s.run.grew ∙ append_assoc old s.run.added (settle_entry ∷ [])

pub went_on_settled : (start : Start) (old new : List Entry) → SettledBy start old new → WentOn start old new
went_on_settled start old new s = record {
  added = s.run.added ++ settle_entry ∷ [];
  grew = settled_grew start old new s;
  quiet = quiet-push s.run.added (next_quiet (state_after (start_state start) old) s.run.added s.run.each);
}

-- ---- in the words of deeds

pub is_settled_log : (start : Start) (old new : List Entry) → SettledBy start old new → IsSettled (record { start = start; entries = old }) (record { start = start; entries = new })
is_settled_log start old new s = record {
  entries = s.run.added ++ settle_entry ∷ [];
  is = ap (λ (es : List Entry). record { start = start; entries = es }) (settled_grew start old new s);
  run = settle_run (state_after (start_state start) old) s.run.added s.run.each;
}

pub may_be_settled_log : (start : Start) (old new : List Entry) → Settling start old new → MayBeSettled (record { start = start; entries = old }) (record { start = start; entries = new })
may_be_settled_log start old new s = record {
  entries = s.added;
  is = ap (λ (es : List Entry). record { start = start; entries = es }) s.grew;
  run = inl (next_settling (state_after (start_state start) old) s.added s.each);
}

pub settled_may : (before after : Log) → IsSettled before after → MayBeSettled before after
settled_may before after s = record { entries = s.entries; is = s.is; run = inr s.run }

pub same_may : (log : Log) → MayBeSettled log log
same_may log = record { entries = []; is = ap (λ (es : List Entry). record log { entries = es }) (sym (append-nil log.entries)); run = inl tt }
