-- What is found of reads and writes, and what a loss and an end come to.
use Rattle.std.proofs.Common.{◌≡◌, ℕ, ◌+◌, ◌==◌, ◌&&◌, Bool, true, false, if◌then◌else◌, List, [], ◌∷◌, ◌++◌, map, Option, Some, None, Ok, Err, refl, sym, ◌∙◌, ap}
use Rattle.std.specs.Option.{MatchOption, is_some, option_map}
use Rattle.std.specs.List.{AllByRecursion}
use Rattle.std.proofs.lemmas.Bool.{and_parts, eqb-true}
use Rattle.ccr_wire.specs.Message.{Frame}
use Rattle.ccr_law_base.proofs.Lists.{All-find}
use Rattle.ccr_model.specs.Followers.{replicating}
use Rattle.ccr_model.specs.Requests.{Progress, is_sent}
use Rattle.ccr_model.specs.Settling.{waits_until}
use Rattle.ccr_model.specs.Tasks.{Task, Read, Write, changed_read, changed_write, may_read, read_lost, write_lost, write_sent, write_ended, waits_after}
use Rattle.ccr_task.specs.Does.{Did}
use Rattle.ccr_task.specs.Ends.{EndsWrite}
use Rattle.ccr_task.specs.Ordering.{earlier}
use Rattle.ccr_task.specs.declared.task.TaskFault.TheVariants as faults
use Rattle.ccr_task.proofs.Times.{least_time, least-time_both, earlier-none}

-- ---- losses

pub found-none : (o : Option Read) (A : Type 0) (B : Read → Type 0) → None ≡ option_map (λ (r : Read). r.request) o → A → MatchOption o A B
found-none None A B is a = a
found-none (Some r) A B is a = absurd (cc)

pub found-some : (o : Option Read) (q : ℕ) (A : Type 0) (B : Read → Type 0) → Some q ≡ option_map (λ (r : Read). r.request) o → ((r : Read) → q ≡ r.request → B r) → MatchOption o A B
found-some None q A B is b = absurd (cc)
found-some (Some r) q A B is b = let same : q ≡ r.request = cc in b r same

pub lost-read : (t new : Task) (q now : ℕ) (r : Read) → q ≡ r.request
    → new ≡ record t { retry = t.retry + 1; reads = changed_read q (λ own. record own { progress = waits_after t now }) t.reads } → new ≡ read_lost t now r
lost-read t new q now r same is = is ∙ ap (λ (n : ℕ). record t { retry = t.retry + 1; reads = changed_read n (λ own. record own { progress = waits_after t now }) t.reads }) same

everything : (xs : List Write) → AllByRecursion (λ (w : Write). Unit {0}) xs
everything [] = tt
everything (w ∷ xs) = (tt, everything xs)

-- the write that is found has the number
pub sent-number : (t : Task) (number : ℕ) (w : Write) → write_sent t number ≡ Some w → w.number ≡ number
sent-number t number w found =
    let passes : ((w.number == number) && is_sent w.progress) ≡ true = (All-find (λ (x : Write). Unit {0}) (λ (x : Write). (x.number == number) && is_sent x.progress) t.writes w (everything t.writes) found).1 in
    eqb-true w.number number (and_parts (w.number == number) (is_sent w.progress) passes).0

lost_at : (t new : Task) (number now : ℕ) (w : Write) → w.number ≡ number
    → new ≡ record t { retry = t.retry + 1; writes = changed_write number (λ own. record own { progress = waits_after t now }) t.writes } → new ≡ write_lost t now w
lost_at t new number now w same is = is ∙ ap (λ (n : ℕ). record t { retry = t.retry + 1; writes = changed_write n (λ own. record own { progress = waits_after t now }) t.writes }) (sym same)

-- what is told of the write of a number, by whether there is one
pub of-sent : (t : Task) (number : ℕ) (A : Type 0) (B : Write → Type 0) → is_some (write_sent t number) ≡ true → ((w : Write) → write_sent t number ≡ Some w → B w) → MatchOption (write_sent t number) A B
of-sent t number A B some b =
    (elim (write_sent t number) as (λ (o : Option Write). write_sent t number ≡ o → is_some o ≡ true → MatchOption o A B) [
      | None ↦ λ is no. absurd (cc)
      | Some w ↦ λ is yes_it_is. b w is
    ]) refl some

pub of-none : (t : Task) (number : ℕ) (A : Type 0) (B : Write → Type 0) → is_some (write_sent t number) ≡ false → A → MatchOption (write_sent t number) A B
of-none t number A B none a =
    (elim (write_sent t number) as (λ (o : Option Write). is_some o ≡ false → MatchOption o A B) [
      | None ↦ λ no. a
      | Some w ↦ λ no. absurd (cc)
    ]) none

pub lost-write : (t new : Task) (number now : ℕ) (w : Write) → write_sent t number ≡ Some w
    → new ≡ record t { retry = t.retry + 1; writes = changed_write number (λ own. record own { progress = waits_after t now }) t.writes } → new ≡ write_lost t now w
lost-write t new number now w found is = lost_at t new number now w (sent-number t number w found) is

-- ---- ends

pub ends-none : (t : Task) (number : ℕ) → is_some (write_sent t number) ≡ false → EndsWrite t (write_sent t number) (Err faults.NoBatch) t
ends-none t number none =
    (elim (write_sent t number) as (λ (o : Option Write). is_some o ≡ false → EndsWrite t o (Err faults.NoBatch) t) [
      | None ↦ λ no. refl
      | Some w ↦ λ no. absurd (cc)
    ]) none

pub ends-some : (t new : Task) (number : ℕ) (sent : List Frame) → is_some (write_sent t number) ≡ true → ((w : Write) → w.number ≡ number → Did new [] sent (write_ended t w))
    → EndsWrite t (write_sent t number) (Ok sent) new
ends-some t new number sent some did =
    (elim (write_sent t number) as (λ (o : Option Write). write_sent t number ≡ o → is_some o ≡ true → EndsWrite t o (Ok sent) new) [
      | None ↦ λ is no. absurd (cc)
      | Some w ↦ λ is found. did w (sent-number t number w is)
    ]) refl some

-- ---- times

pub waits-both : (t : Task) (w r : Option ℕ) → may_read t ≡ true → w ≡ earlier (least_time (map (λ (x : Write). x.progress) t.writes)) None → r ≡ earlier (least_time (map (λ (x : Read). x.progress) t.reads)) w
    → r ≡ waits_until (replicating t)
waits-both t w r may writes reads =
    let ws : List Progress = map (λ (x : Write). x.progress) t.writes in
    let rs : List Progress = map (λ (x : Read). x.progress) t.reads in
    reads ∙ (ap (earlier (least_time rs)) (writes ∙ earlier-none (least_time ws))
    ∙ (sym (least-time_both rs ws) ∙ sym (ap (λ (b : Bool). least_time ((if b then rs else []) ++ ws)) may)))

pub waits-writes : (t : Task) (w : Option ℕ) → may_read t ≡ false → w ≡ earlier (least_time (map (λ (x : Write). x.progress) t.writes)) None → w ≡ waits_until (replicating t)
waits-writes t w may writes =
    let ws : List Progress = map (λ (x : Write). x.progress) t.writes in
    let rs : List Progress = map (λ (x : Read). x.progress) t.reads in
    writes ∙ (earlier-none (least_time ws) ∙ sym (ap (λ (b : Bool). least_time ((if b then rs else []) ++ ws)) may))
