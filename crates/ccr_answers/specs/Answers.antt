-- What is printed for a command, behind the number of its line.
use Rattle.std.specs.Prelude.{ℕ, ◌+◌, ◌==◌, if◌then◌else◌, List, [], ◌∷◌, ◌++◌, length, flat_map, Option, None, Some, codes, decimal}
use Rattle.ccr_auto.specs.declared.follow.Decision.{Decision}
use Rattle.ccr_auto.specs.declared.follow.Decision.TheVariants.{None as NoFollow, Follow, Conflict}
use Rattle.ccr_journal.specs.declared.replies.Reply.{Reply}
use Rattle.ccr_journal.specs.declared.replies.Reply.TheVariants as reply
use Rattle.ccr_meta.specs.declared.creating.Decided.{Decided}
use Rattle.ccr_meta.specs.declared.faults.MetaFault.{MetaFault}
use Rattle.ccr_answers.specs.declared.forms.Answer.{Answer}
use Rattle.ccr_answers.specs.declared.forms.Answer.TheVariants as answer
use Rattle.ccr_answers.specs.Words.{fault_word, pattern_word}
use Rattle.ccr_answers.specs.Told.{text_of}
use Rattle.ccr_answers.specs.Joined.{AreOrderedBy, found_text}

-- ---- auto-follow

-- the index is followed, or why it isn't
abbrev pub followed_text : List ℕ → List ℕ → Option MetaFault → List ℕ
followed_text cluster name None = codes " followed=" ++ (cluster ++ (codes "/" ++ name))
followed_text cluster name (Some fault) = codes " refused=" ++ (cluster ++ (codes ":" ++ fault_word fault))

abbrev pub decision_text : List ℕ → Option MetaFault → Decision → List ℕ
decision_text cluster refused NoFollow = []
decision_text cluster refused (Follow name) = followed_text cluster name refused
decision_text cluster refused (Conflict first second) = codes " conflict=" ++ (cluster ++ (codes ":" ++ (first ++ (codes "," ++ second))))

abbrev pub decided_text : Decided → List ℕ
decided_text d = decision_text d.cluster d.refused d.decision

-- ---- several replies

-- how a shard stands, behind those before it
abbrev pub status_text : ℕ → Reply → List ℕ
status_text shard r = (if shard == 0 then codes " " else codes " ; ") ++ text_of shard r

abbrev pub statuses_text : ℕ → List Reply → List ℕ
statuses_text shard [] = []
statuses_text shard (r ∷ told) = status_text shard r ++ statuses_text (shard + 1) told

-- how many leases were dropped
abbrev pub dropped_in : Reply → ℕ
dropped_in (reply.Expired list) = length list
dropped_in _ = 0

abbrev pub all_dropped : List Reply → ℕ
all_dropped [] = 0
all_dropped (r ∷ told) = dropped_in r + all_dropped told

abbrev pub first_text : ℕ → List Reply → List ℕ
first_text shard [] = codes "ok"
first_text shard (r ∷ told) = text_of shard r

-- ---- the text of an answer, where the deeds were answered so

abbrev pub text_for : Answer → List Reply → List ℕ
text_for answer.Done told = codes "ok"
text_for (answer.Refused fault) told = codes "refused " ++ fault_word fault
text_for (answer.PatternRefused fault) told = codes "refused " ++ pattern_word fault
text_for (answer.Created decided) told = codes "created" ++ flat_map decided_text decided
text_for (answer.Told shard) told = first_text shard told
text_for (answer.Found sort from size) told = found_text sort from size told
text_for answer.Statuses told = codes "status" ++ statuses_text 0 told
text_for answer.Expired told = codes "clock expired=" ++ decimal (all_dropped told)
text_for answer.Settled told = codes "settled"

-- each shard's hits stand in the order of the search, as a shard answers them
abbrev pub AreOrderedFor : Answer → List Reply → Type 0
AreOrderedFor (answer.Found sort from size) told = AreOrderedBy sort told
AreOrderedFor _ told = Unit {0}
