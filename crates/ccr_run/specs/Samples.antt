-- What becomes of a script that is made from a seed.
use Rattle.std.specs.Prelude.{◌≡◌, ◌⊎◌, ℕ, ◌==◌, ◌&&◌, Bool, true, false, List, [], ◌∷◌, ◌++◌, count_by, codes, decimal, Option, Some, None}
use Rattle.std.specs.Io.KnownBytes.{Appends}
use Rattle.std.specs.Str.{bytes_eq}
use Rattle.ccr_io.specs.Prefix.{AppendsPrefix}
use Rattle.ccr_op.specs.Sameness.{same_routing}
use Rattle.ccr_query.specs.declared.answers.Hit.{Hit}
use Rattle.ccr_journal.specs.declared.replies.Reply.{Reply}
use Rattle.ccr_journal.specs.declared.journals.Entry.{Entry}
use Rattle.ccr_model.specs.SeveralShards.{JoinedAnswer}
use Rattle.ccr_script.specs.declared.commands.Command.{Command}
use Rattle.ccr_script.specs.declared.commands.Command.TheVariants as command
use Rattle.ccr_answers.specs.declared.forms.Answer.{Answer}
use Rattle.ccr_answers.specs.declared.forms.Answer.TheVariants as answer
use Rattle.ccr_answers.specs.Joined.{found}
use Rattle.ccr_plans.specs.Scenes.{Scene, Begins, is_settle}
use Rattle.ccr_game.specs.Games.{start_scene, DoesWith}
use Rattle.ccr_playing.specs.declared.statuses.Status.{Status}
use Rattle.ccr_playing.specs.declared.statuses.Status.TheVariants as ends
use Rattle.ccr_worlds.specs.Fated.{Fate}
use Rattle.ccr_reports.specs.Reports.{Handed}

-- ---- what is done

-- a command was done
abbrev pub IsDone : Scene → Command → Scene → Type 0
IsDone before c after = (form : Answer) × (told : List Reply) × DoesWith before c after form told

-- commands were done one after another
abbrev pub AreDone : Scene → List Command → Scene → Type 0
AreDone before [] after = after ≡ before
AreDone before (c ∷ cs) after = (mid : Scene) × IsDone before c mid × AreDone mid cs after

-- of the next of the commands none, a part or all was done
abbrev pub HasBegun : Scene → List Command → Scene → Type 0
HasBegun before [] after = ⊥
HasBegun before (c ∷ cs) after = Begins before c after

-- the first of the commands were done, and the next may have begun
pub record AreBegun (before : Scene) (commands : List Command) (after : Scene) : Type 0 where
  pub first : List Command
  pub others : List Command
  pub between : Scene
  pub split : first ++ others ≡ commands
  pub done : AreDone before first between
  pub begun : (after ≡ between) ⊎ HasBegun between others after

-- ---- what two searches found

-- what the answer of a search tells: nothing where the search was refused
abbrev pub found_by : Answer → List Reply → JoinedAnswer
found_by (answer.Found sort from size) told = found sort from size told
found_by _ told = record { counts = []; gaps = []; hits = []; total = 0 }

-- a command was done, and found this
pub record Finds (before : Scene) (c : Command) (after : Scene) (it : JoinedAnswer) : Type 0 where
  pub form : Answer
  pub told : List Reply
  pub done : DoesWith before c after form told
  pub is : it ≡ found_by form told

-- the last of the commands is no settle
pub record EndsInSearch (commands : List Command) : Type 0 where
  pub first : List Command
  pub search : Command
  pub split : commands ≡ first ++ search ∷ []
  pub asked : is_settle search ≡ false

-- and so it is with the last two
pub record EndInSearches (commands : List Command) : Type 0 where
  pub first : List Command
  pub search : Command
  pub last : Command
  pub split : commands ≡ first ++ search ∷ last ∷ []
  pub asked : is_settle search ≡ false
  pub asked_last : is_settle last ≡ false

-- all commands were done, and the last of them found this
pub record EndsFinding (before : Scene) (commands : List Command) (after : Scene) (it : JoinedAnswer) : Type 0 where
  pub first : List Command
  pub search : Command
  pub split : commands ≡ first ++ search ∷ []
  pub at_end : Scene
  pub done : AreDone before first at_end
  pub found : Finds at_end search after it

-- ---- the summary

abbrev pub is_delete : Command → Bool
is_delete (command.Delete index id expect routing) = true
is_delete _ = false

-- a write or a delete
abbrev pub is_change : Command → Bool
is_change (command.Write index id source create expect routing) = true
is_change c = is_delete c

abbrev pub same_hit : Hit → Hit → Bool
same_hit a b = bytes_eq a.id b.id && same_routing a.routing b.routing && bytes_eq a.body b.body

-- equal hits in the same order
abbrev pub same_hits : List Hit → List Hit → Bool
same_hits [] [] = true
same_hits (a ∷ xs) (b ∷ ys) = same_hit a b && same_hits xs ys
same_hits [] (b ∷ ys) = false
same_hits (a ∷ xs) [] = false

-- equal totals and equal hits
abbrev pub same_found : JoinedAnswer → JoinedAnswer → Bool
same_found a b = (a.total == b.total) && same_hits a.hits b.hits

abbrev pub yes_or_no : Bool → List ℕ
yes_or_no true = codes "yes"
yes_or_no false = codes "no"

-- how many writes and deletes there were, how many of them deletes, what the leader's search found in all, and whether the follower's found the same
abbrev pub summary_text : ℕ → ℕ → JoinedAnswer → JoinedAnswer → List ℕ
summary_text changes deletes leader follower =
    codes "writes=" ++ (decimal changes ++ (codes " deletes=" ++ (decimal deletes ++ (codes " live=" ++ (decimal leader.total
    ++ (codes " same=" ++ (yes_or_no (same_found leader follower) ++ codes "\n")))))))

-- a command was done at the follower, and this sums up what it found there, what was found at the leader, and so many changes and deletes
pub record SumsUp (changes deletes : ℕ) (leader : JoinedAnswer) (before : Scene) (c : Command) (after : Scene) (text : List ℕ) : Type 0 where
  pub follower : JoinedAnswer
  pub found : Finds before c after follower
  pub is : text ≡ summary_text changes deletes leader follower

-- all commands were done, and this is the summary of them and of what the last two found
pub record HasSummary (commands : List Command) (before after : Scene) (text : List ℕ) : Type 0 where
  pub first : List Command
  pub last : Command
  pub split : commands ≡ first ++ last ∷ []
  pub between : Scene
  pub leader : JoinedAnswer
  pub at_leader : EndsFinding before first between leader
  pub summed : SumsUp (count_by is_change commands) (count_by is_delete commands) leader between last after text

-- ---- what the status tells of the commands and of what was written

abbrev pub Sums : Status → List Command → Scene → Scene → Option (List ℕ) → Option (List ℕ) → Type 0
Sums ends.Done commands before after old new = (text : List ℕ) × HasSummary commands before after text × Appends old new text
Sums ends.WriteFault commands before after old new = (text : List ℕ) × HasSummary commands before after text × AppendsPrefix old new text
Sums ends.OutOfMemory commands before after old new = AreBegun before commands after × (new ≡ old)
Sums _ commands before after old new = ⊥

-- One scene tells what was done of the script and what was written, and its journals are those of the report.
pub record Sampled (fates : ℕ → Fate) (commands : List Command) (status : Status) (journals : List (List Entry)) (old new : Option (List ℕ)) : Type 0 where
  pub scene : Scene
  pub told : Sums status commands start_scene scene old new
  pub handed : Handed fates scene.logs journals
