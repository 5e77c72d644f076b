-- how the lines of a script, and the commands that they ask for, add up
use Rattle.std.proofs.Common.{◌≡◌, ℕ, ◌+◌, Bool, false, List, [], ◌∷◌, ◌++◌, length, refl, ap, subst, sym, ◌∙◌, arith, append_assoc, append-nil, length-append}
use Rattle.std.specs.Prelude.{Option, Some, None}
use Rattle.std.specs.Io.KnownBytes.{Consumes, IsAtEnd}
use Rattle.ccr_lines.specs.Lines.{BreaksOff, GivesEnded, GivesLine, ended_lines, lines_of, rest_of}
use Rattle.ccr_lines.proofs.Parts.{ended-feed, ended-plain}
use Rattle.ccr_script.specs.declared.bad_lines.BadLine.{BadLine}
use Rattle.ccr_playing.specs.Printed.{line_of}
use Rattle.ccr_playing.specs.Script.{AreAll, AreFirst, AskFor, Asked, AsksFor, HaveEnded, IsBadBehind, asked_with, fault_at}
use Rattle.ccr_playing.specs.Played.{AreDone, ArePlayed}
use Rattle.ccr_playing.specs.Runs.{AreBefore, AreEndedBefore, AreRead}
use Rattle.ccr_playing.specs.Steps.{IsBadNext}

-- ---- the commands of lines

asked_with-append : {C : Type 0} (number : ℕ) (command : Option C) (others more : List (Asked C))
    → asked_with number command others ++ more ≡ asked_with number command (others ++ more)
asked_with-append number None others more = refl
asked_with-append number (Some command) others more = refl

AskFor-more : {C : Type 0} (asks : List ℕ → Option C → Type 0) (fault : List ℕ → Option BadLine) (number at : ℕ) (lines : List (List ℕ)) (asked : List (Asked C))
    (line : List ℕ) (command : Option C) → at ≡ number + length lines → AskFor asks fault number lines asked → AsksFor asks fault at line command
    → AskFor asks fault number (lines ++ line ∷ []) (asked ++ asked_with at command [])
AskFor-more asks fault number at [] asked line command place before a =
    let same : at ≡ number = omega arith in (
      command,
      [],
      subst (λ n. AsksFor asks fault n line command) same a,
      refl,
      ap (λ xs. xs ++ asked_with at command []) before ∙ ap (λ n. asked_with n command []) same,
    )
AskFor-more asks fault number at (first ∷ lines) asked line command place before a =
    let next : at ≡ number + 1 + length lines = omega arith in (
      before.0,
      before.1 ++ asked_with at command [],
      before.2,
      AskFor-more asks fault (number + 1) at lines before.1 line command next before.3 a,
      ap (λ xs. xs ++ asked_with at command []) before.4 ∙ asked_with-append number before.0 before.1 (asked_with at command []),
    )

AreDone-append : {C J : Type 0} (does : J → C → J → List ℕ → Type 0) (before mid after : J) (xs ys : List (Asked C)) (first others : List (List ℕ))
    → AreDone does before xs mid first → AreDone does mid ys after others → AreDone does before (xs ++ ys) after (first ++ others)
AreDone-append does before mid after [] ys first others a b =
    subst (λ cs. AreDone does before ys after (cs ++ others)) (sym a.1) (subst (λ j. AreDone does j ys after others) a.0 b)
AreDone-append does before mid after (x ∷ xs) ys first others a b =
    (a.0, a.1, a.2 ++ others, a.3, AreDone-append does a.0 mid after xs ys a.2 others a.4 b, ap (λ cs. cs ++ others) a.5)

-- nothing was played
pub played-none : {C J : Type 0} (asks : List ℕ → Option C → Type 0) (fault : List ℕ → Option BadLine) (does : J → C → J → List ℕ → Type 0) (before : J)
    → ArePlayed asks fault does [] before before []
played-none asks fault does before = record { asked = []; asks_for = refl; done = (refl, refl) }

-- one more line asks for nothing
pub played-blank : {C J : Type 0} (asks : List ℕ → Option C → Type 0) (fault : List ℕ → Option BadLine) (does : J → C → J → List ℕ → Type 0)
    (lines : List (List ℕ)) (line : List ℕ) (before after : J) (answers : List (List ℕ))
    → ArePlayed asks fault does lines before after answers → AsksFor asks fault (length lines + 1) line None
    → ArePlayed asks fault does (lines ++ line ∷ []) before after answers
played-blank asks fault does lines line before after answers p a = record {
  asked = p.asked ++ [];
  asks_for = AskFor-more asks fault 1 (length lines + 1) lines p.asked line None (omega arith) p.asks_for a;
  done = subst (λ asked. AreDone does before asked after answers) (sym (append-nil p.asked)) p.done;
}

-- one more line's command was done
pub played-done : {C J : Type 0} (asks : List ℕ → Option C → Type 0) (fault : List ℕ → Option BadLine) (does : J → C → J → List ℕ → Type 0)
    (lines : List (List ℕ)) (line : List ℕ) (command : C) (text : List ℕ) (before mid after : J) (answers : List (List ℕ))
    → ArePlayed asks fault does lines before mid answers → AsksFor asks fault (length lines + 1) line (Some command) → does mid command after text
    → ArePlayed asks fault does (lines ++ line ∷ []) before after (answers ++ line_of (length lines + 1) text ∷ [])
played-done asks fault does lines line command text before mid after answers p a done = record {
  asked = p.asked ++ record { number = length lines + 1; command = command } ∷ [];
  asks_for = AskFor-more asks fault 1 (length lines + 1) lines p.asked line (Some command) (omega arith) p.asks_for a;
  done = AreDone-append does before mid after p.asked (record { number = length lines + 1; command = command } ∷ []) answers (line_of (length lines + 1) text ∷ [])
      p.done (after, text, [], done, (refl, refl), refl);
}

-- ---- the lines that were read

read-none : (script : Option (List ℕ)) → AreRead script (rest_of [] script) 0 false []
read-none None = record { before = tt; ended = λ e. tt; count = refl }
read-none (Some script) = record { before = refl; ended = λ e. record { front = []; splits = refl; ended = λ more. refl }; count = refl }

pub read-starts : (script : Option (List ℕ)) (pending : List ℕ) (number : ℕ) (at_end : Bool) → pending ≡ [] → number ≡ 0 → at_end ≡ false
    → AreRead script (rest_of pending script) number at_end []
read-starts script pending number at_end none zero open_yet =
    subst (λ p. AreRead script (rest_of p script) number at_end []) (sym none)
    (subst (λ n. AreRead script (rest_of [] script) n at_end []) (sym zero)
    (subst (λ e. AreRead script (rest_of [] script) 0 e []) (sym open_yet) (read-none script)))

before-more : (script rest rest' : Option (List ℕ)) (lines : List (List ℕ)) (line : List ℕ) → AreBefore script rest lines → GivesLine rest rest' line
    → AreBefore script rest' (lines ++ line ∷ [])
before-more None rest rest' lines line before gives = tt
before-more (Some script) None rest' lines line before gives = absurd before
before-more (Some script) (Some rest) None lines line before gives = absurd gives
before-more (Some script) (Some rest) (Some rest') lines line before gives =
    before ∙ (ap (λ xs. lines ++ xs) gives ∙ sym (append_assoc lines (line ∷ []) (lines_of rest')))

-- a line and its feed between two texts
seam : (front line more : List ℕ) → (front ++ (line ++ 10 ∷ [])) ++ more ≡ front ++ (line ++ 10 ∷ more)
seam front line more = append_assoc front (line ++ 10 ∷ []) more ∙ ap (λ xs. front ++ xs) (append_assoc line (10 ∷ []) more)

ended-more : (script rest rest' : Option (List ℕ)) (lines : List (List ℕ)) (line : List ℕ) → AreEndedBefore script rest lines → GivesEnded rest rest' line
    → AreEndedBefore script rest' (lines ++ line ∷ [])
ended-more None rest rest' lines line before gives = tt
ended-more (Some script) None rest' lines line before gives = absurd before
ended-more (Some script) (Some rest) None lines line before gives = absurd gives
ended-more (Some script) (Some rest) (Some rest') lines line before gives = record {
  front = before.front ++ (line ++ 10 ∷ []);
  splits = before.splits ∙ (ap (λ xs. before.front ++ xs) gives.1 ∙ sym (seam before.front line rest'));
  ended = λ more.
      ap ended_lines (seam before.front line more)
      ∙ (before.ended (line ++ 10 ∷ more)
      ∙ (ap (λ xs. lines ++ xs) (ended-feed line more gives.0)
      ∙ sym (append_assoc lines (line ∷ []) (ended_lines more))));
}

pub read-more : (script rest rest' : Option (List ℕ)) (number number' : ℕ) (at_end at_end' : Bool) (lines : List (List ℕ)) (line : List ℕ)
    → AreRead script rest number at_end lines → GivesLine rest rest' line → (at_end' ≡ false → at_end ≡ false) → (at_end' ≡ false → GivesEnded rest rest' line)
    → number' ≡ number + 1 → AreRead script rest' number' at_end' (lines ++ line ∷ [])
read-more script rest rest' number number' at_end at_end' lines line r gives was_open gives_ended next = record {
  before = before-more script rest rest' lines line r.before gives;
  ended = λ e. ended-more script rest rest' lines line (r.ended (was_open e)) (gives_ended e);
  count = let more = length-append lines (line ∷ []) in let count = r.count in omega arith;
}

-- ---- the script's lines

pub are-first : (script rest : Option (List ℕ)) (lines : List (List ℕ)) → AreBefore script rest lines → AreFirst script lines
are-first None rest lines before = tt
are-first (Some script) None lines before = absurd before
are-first (Some script) (Some rest) lines before = (lines_of rest, before)

pub first-before : (script : Option (List ℕ)) (lines : List (List ℕ)) (line : List ℕ) → AreFirst script (lines ++ line ∷ []) → AreFirst script lines
first-before None lines line first = tt
first-before (Some script) lines line first = (line ∷ first.0, first.1 ∙ append_assoc lines (line ∷ []) first.0)

pub are-all : (script rest : Option (List ℕ)) (lines : List (List ℕ)) → AreBefore script rest lines → IsAtEnd rest → AreAll script lines
are-all None rest lines before end = tt
are-all (Some script) None lines before end = absurd before
are-all (Some script) (Some rest) lines before end = before ∙ (ap (λ xs. lines ++ lines_of xs) end ∙ append-nil lines)

pub bad-behind : (fault : List ℕ → Option BadLine) (script rest : Option (List ℕ)) (number : ℕ) (lines : List (List ℕ)) (why : BadLine)
    → AreBefore script rest lines → number ≡ length lines + 1 → IsBadNext fault rest number why → IsBadBehind fault script lines why
bad-behind fault None rest number lines why before place bad = tt
bad-behind fault (Some script) None number lines why before place bad = absurd before
bad-behind fault (Some script) (Some rest) number lines why before place bad =
    (bad.0, bad.1, before ∙ ap (λ xs. lines ++ xs) bad.2, subst (λ n. fault_at fault n bad.0 ≡ Some why) place bad.3)

-- reading failed in the line behind those that ended
pub broken-off : (script rest left : Option (List ℕ)) (lines : List (List ℕ)) → AreEndedBefore script rest lines → BreaksOff rest left
    → (read : List ℕ) × Consumes script left read × HaveEnded script read lines
broken-off None rest left lines before off = ([], tt, tt)
broken-off (Some script) None left lines before off = absurd before
broken-off (Some script) (Some rest) None lines before off = absurd off
broken-off (Some script) (Some rest) (Some left) lines before off = (
  before.front ++ off.0,
  before.splits ∙ (ap (λ xs. before.front ++ xs) off.2 ∙ sym (append_assoc before.front off.0 left)),
  before.ended off.0 ∙ (ap (λ xs. lines ++ xs) (ended-plain off.0 off.1) ∙ append-nil lines),
)
