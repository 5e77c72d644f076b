-- A command, from what is read for it to its answer.
use Rattle.std.proofs.Common.{◌≡◌, ℕ, suc, ◌+◌, ◌≤◌, true, false, List, [], ◌∷◌, length, map, refl, ap, sym, subst, ◌∙◌, inl, inr, append-nil}
use Rattle.std.proofs.lemmas.List.{length-append}
use Rattle.std.specs.Prelude.{◌⊎◌, codes}
use Rattle.std.specs.List.{AllByRecursion}
use Rattle.ccr_journal.specs.declared.replies.Reply.{Reply}
use Rattle.ccr_journal.specs.declared.replies.Reply.TheVariants as reply
use Rattle.ccr_meta.specs.Names.{AreIn, Names}
use Rattle.ccr_model.specs.Leaders.{Start}
use Rattle.ccr_model.specs.Settling.{Note}
use Rattle.ccr_script.specs.declared.commands.Command.{Command}
use Rattle.ccr_script.specs.declared.commands.Command.TheVariants as command
use Rattle.ccr_answers.specs.declared.forms.Answer.{Answer}
use Rattle.ccr_answers.specs.Answers.{AreOrderedFor, text_for}
use Rattle.ccr_deeds.specs.declared.deeds.Deed.TheVariants.{Settle}
use Rattle.ccr_deeds.specs.Logs.{Log, new_log}
use Rattle.ccr_deeds.specs.Settles.{EachWorld, IsSettled, MayBeSettled}
use Rattle.ccr_deeds.specs.Deeds.{AreDeeds, AreOrderedDeeds, BeginDeeds, IsWithin}
use Rattle.ccr_deeds.proofs.Deeding.{AreDeeds-length, AreDeeds-told}
use Rattle.ccr_plans.specs.Planned.{Planned}
use Rattle.ccr_plans.specs.Plans.{plan_of}
use Rattle.ccr_plans.specs.NamesAfter.{names_after}
use Rattle.ccr_plans.specs.Scenes.{Begins, Does, MakesSome, Scene, is_settle, notes_for, planned, with_made}
use Rattle.ccr_plans.proofs.Within.{notes_few, notes_fit, plan_ordered, plan_within, worlds_after}
use Rattle.ccr_game.specs.Begun.{done_begun}
use Rattle.ccr_game.specs.Games.{DoesWith}
use Rattle.ccr_game.specs.Planning.{IsPlanFor}

-- ---- what is true of a plan

pub few_notes : (s : Scene) (c : Command) (notes : List Note) → AreIn s.names → notes ≡ notes_for s.names s.logs c → length notes ≤ 64
few_notes s c notes are same = subst (λ (ns : List Note). length ns ≤ 64) (sym same) (notes_few s.names s.logs c are)

-- so it is of the plan that the table has
planned_so : (s : Scene) (c : Command) (left : Names) → AreIn s.names → s.names.worlds ≡ length s.logs → is_settle c ≡ false
    → ((told : List Reply) → left ≡ names_after s.names c told) → IsPlanFor s c left (planned s c)
planned_so s c left are count other named =
    let notes : List Note = notes_for s.names s.logs c in
    record {
      is = refl;
      names = named;
      within = subst (λ n. AllByRecursion (IsWithin (n + length (planned s c).made)) (planned s c).deeds) count
          (plan_within s.names notes c are (notes_fit s.names s.logs c) other);
      count = ap (λ (x : Names). x.worlds) (named []) ∙ (worlds_after s.names notes c [] ∙ ap (λ n. n + length (planned s c).made) count);
      ordered = plan_ordered s.names notes c;
    }

pub plan_so : (s : Scene) (c : Command) (notes : List Note) (plan : Planned) (left : Names) → AreIn s.names → s.names.worlds ≡ length s.logs → is_settle c ≡ false
    → notes ≡ notes_for s.names s.logs c → plan ≡ plan_of s.names notes c → ((told : List Reply) → left ≡ names_after s.names c told) → IsPlanFor s c left plan
plan_so s c notes plan left are count other same is named =
    let e : plan ≡ planned s c = is ∙ ap (λ ns. plan_of s.names ns c) same in
    subst (λ (p : Planned). IsPlanFor s c left p) (sym e) (planned_so s c left are count other named)

-- ---- how many worlds there are

map_length : (xs : List Start) → length (map new_log xs) ≡ length xs
map_length [] = refl
map_length (x ∷ xs) = ap suc (map_length xs)

made_length : (logs : List Log) (made : List Start) → length (with_made logs made) ≡ length logs + length made
made_length logs made = length-append logs (map new_log made) ∙ ap (λ n. length logs + n) (map_length made)

pub count_after : (s : Scene) (c : Command) (left : Names) (plan : Planned) (between logs : List Log) (told : List Reply)
    → IsPlanFor s c left plan → between ≡ s.logs → AreDeeds (with_made between plan.made) plan.deeds logs told → left.worlds ≡ length logs
count_after s c left plan between logs told p same done =
    p.count
    ∙ (ap (λ (ls : List Log). length ls + length plan.made) (sym same)
    ∙ (sym (made_length between plan.made) ∙ sym (AreDeeds-length (with_made between plan.made) plan.deeds logs told done)))

pub deeds_within : (s : Scene) (c : Command) (left : Names) (plan : Planned) (between : List Log) → IsPlanFor s c left plan → between ≡ s.logs
    → AllByRecursion (IsWithin (length between + length plan.made)) plan.deeds
deeds_within s c left plan between p same = subst (λ (ls : List Log). AllByRecursion (IsWithin (length ls + length plan.made)) plan.deeds) (sym same) p.within

-- ---- a command that was done

pub does_with : (s : Scene) (c : Command) (left : Names) (plan : Planned) (between logs : List Log) (form : Answer) (told : List Reply)
    → IsPlanFor s c left plan → between ≡ s.logs → AreDeeds (with_made between plan.made) plan.deeds logs told → form ≡ plan.answer
    → DoesWith s c (record { names = left; logs = logs }) form told
does_with s c left plan between logs form told p same done answered = record {
  done = subst (λ (x : Planned). AreDeeds (with_made s.logs x.made) x.deeds logs told) p.is
      (subst (λ (ls : List Log). AreDeeds (with_made ls plan.made) plan.deeds logs told) same done);
  names = p.names told;
  is = answered ∙ ap (λ (x : Planned). x.answer) p.is;
}

pub ordered_for : (s : Scene) (c : Command) (left : Names) (plan : Planned) (between logs : List Log) (form : Answer) (told : List Reply)
    → IsPlanFor s c left plan → AreDeeds (with_made between plan.made) plan.deeds logs told → AreOrderedDeeds plan.deeds told → form ≡ plan.answer
    → AreOrderedFor form told
ordered_for s c left plan between logs form told p done ordered answered =
    subst (λ (a : Answer). AreOrderedFor a told) (sym answered)
    (p.ordered told (AreDeeds-told (with_made between plan.made) plan.deeds logs told done) ordered)

-- the form of the answer gives its text
pub does_of : (s after : Scene) (c : Command) (form : Answer) (told : List Reply) (text : List ℕ) → DoesWith s c after form told → text ≡ text_for form told → Does s c after text
does_of s after c form told text d is = record { told = told; done = d.done; names = d.names; answer = is ∙ ap (λ (a : Answer). text_for a told) d.is }

pub with_begun : (s after : Scene) (c : Command) (form : Answer) (told : List Reply) → DoesWith s c after form told → Begins s c after
with_begun s after c form told d = done_begun s after c told d.done

pub ruleset telling = (does_of)

-- ---- a command of which a part was done

pub begun_part : (s : Scene) (c : Command) (left : Names) (plan : Planned) (between logs : List Log) → IsPlanFor s c left plan → between ≡ s.logs
    → MakesSome between plan.made logs ⊎ BeginDeeds (with_made between plan.made) plan.deeds logs → Begins s c (record { names = left; logs = logs })
begun_part s c left plan between logs p same part =
    subst (λ (x : Planned). MakesSome s.logs x.made logs ⊎ BeginDeeds (with_made s.logs x.made) x.deeds logs) p.is
    (subst (λ (ls : List Log). MakesSome ls plan.made logs ⊎ BeginDeeds (with_made ls plan.made) plan.deeds logs) same part)

pub begun_none : (s : Scene) (c : Command) (names : Names) (logs : List Log) → logs ≡ s.logs → Begins s c (record { names = names; logs = logs })
begun_none s c names logs same = inl (record { first = []; others = (planned s c).made; split = refl; grown = same ∙ sym (append-nil s.logs) })

-- ---- a settle

settle_done : (logs after : List Log) → EachWorld IsSettled logs after → AreDeeds (with_made logs []) (Settle ∷ []) after (reply.Settled ∷ [])
settle_done logs after each =
    subst (λ ls. AreDeeds ls (Settle ∷ []) after (reply.Settled ∷ [])) (sym (append-nil logs)) (after, reply.Settled, [], (each, refl), (refl, refl), refl)

pub settle_does : (names : Names) (logs after : List Log) (text : List ℕ) → EachWorld IsSettled logs after → text ≡ codes "settled"
    → Does (record { names = names; logs = logs }) command.Settle (record { names = names; logs = after }) text
settle_does names logs after text each is = record { told = reply.Settled ∷ []; done = settle_done logs after each; names = refl; answer = is }

pub settle_whole : (names : Names) (logs after : List Log) → EachWorld IsSettled logs after
    → Begins (record { names = names; logs = logs }) command.Settle (record { names = names; logs = after })
settle_whole names logs after each =
    done_begun (record { names = names; logs = logs }) (record { names = names; logs = after }) command.Settle (reply.Settled ∷ []) (settle_done logs after each)

pub settle_begun : (names : Names) (logs after : List Log) → EachWorld MayBeSettled logs after
    → Begins (record { names = names; logs = logs }) command.Settle (record { names = names; logs = after })
settle_begun names logs after each = inr (record {
  first = [];
  others = Settle ∷ [];
  between = with_made logs [];
  told = [];
  split = refl;
  done = (refl, refl);
  begun = subst (λ ls. EachWorld MayBeSettled ls after) (sym (append-nil logs)) each;
})

pub ruleset settling = (settle_does, settle_whole, settle_begun)

-- no other command is a settle
pub settle_alone : (c : Command) → is_settle c ≡ true → c ≡ command.Settle
settle_alone command.Settle e = refl
settle_alone _ e = absurd (let f : false ≡ true = e in cc)
