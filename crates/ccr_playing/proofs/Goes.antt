-- how a run goes on, and how it ends
use Rattle.std.proofs.Common.{◌≡◌, ◌≢◌, ℕ, ◌+◌, false, List, [], ◌∷◌, ◌++◌, length, take, refl, ap, subst, sym, ◌∙◌, inl, inr, arith, append-nil, length-append}
use Rattle.std.proofs.lemmas.List.Folds.{concat-append}
use Rattle.std.specs.Prelude.{Option, Some, None}
use Rattle.std.specs.List.{concat}
use Rattle.std.specs.Io.KnownBytes.{Appends, IsAtEnd}
use Rattle.std.proofs.KnownBytes.{Appends-trans, Appends-nil}
use Rattle.ccr_io.specs.Prefix.{AppendsPrefix}
use Rattle.ccr_lines.specs.Lines.{BreaksOff, rest_of}
use Rattle.ccr_lines.specs.Reader.{Reader}
use Rattle.ccr_script.specs.declared.bad_lines.BadLine.{BadLine}
use Rattle.ccr_script.specs.declared.bad_lines.BadLine.TheVariants.{Memory}
use Rattle.ccr_playing.specs.declared.playing.Halt.{Halt}
use Rattle.ccr_playing.specs.declared.statuses.Status.{Status}
use Rattle.ccr_playing.specs.declared.statuses.Status.TheVariants as ends
use Rattle.ccr_playing.specs.Printed.{bad_text, line_of}
use Rattle.ccr_playing.specs.Played.{Begun, Played, PlayedToFault}
use Rattle.ccr_playing.specs.Runs.{AreToldAt, Awaits, Goes, Place, Playing, Start, rest_at}
use Rattle.ccr_playing.specs.Script.{AsksFor, IsBadBehind}
use Rattle.ccr_playing.specs.Steps.{IsBadNext, IsLine, MayBeRead}
use Rattle.ccr_playing.specs.Tells.{Tells}
use Rattle.ccr_playing.specs.Written.{EndsBad, IsPerformed}
use Rattle.ccr_playing.proofs.Fronts.{are-all, are-first, bad-behind, broken-off, first-before, played-blank, played-done, played-none, read-more, read-starts}

module _ {C J : Type 0} (asks : List ℕ → Option C → Type 0) (fault : List ℕ → Option BadLine) (does : J → C → J → List ℕ → Type 0) (begins : J → C → J → Type 0) where
  -- before the first line
  pub playing-starts : (script : Option (List ℕ)) (journal : J) (taken : Option (List ℕ)) (reader : Reader) → reader ≡ record { number = 0; pending = []; ended = false }
      → Playing asks fault does (record { script = script; journal = journal; taken = taken }) (record { lines = reader; left = script; journal = journal; taken = taken })
  playing-starts script journal taken reader new = record {
    lines = [];
    answers = [];
    read = read-starts script reader.pending reader.number reader.ended (ap (λ (r : Reader). r.pending) new) (ap (λ (r : Reader). r.number) new) (ap (λ (r : Reader). r.ended) new);
    played = played-none asks fault does journal;
    written = Appends-nil taken;
  }

  -- the next line was read
  pub came : (start : Start J) (place : Place J) (number : ℕ) (command : Option C) (reader : Reader) (left : Option (List ℕ))
      → Playing asks fault does start place → IsLine asks fault number command place.lines place.left reader left
      → Awaits asks fault does start (record { lines = reader; left = left; journal = place.journal; taken = place.taken }) command
  came start place number command reader left p next =
      let count = p.read.count in
      let placed : number ≡ length p.lines + 1 = omega (arith, next.next, count) in
      record {
        lines = p.lines;
        line = next.line;
        answers = p.answers;
        read = read-more start.script (rest_at place) (rest_of reader.pending left) place.lines.number reader.number place.lines.ended reader.ended p.lines next.line
            p.read next.gives next.was_open next.gives_ended (next.counted ∙ next.next);
        asks_for = subst (λ n. AsksFor asks fault n next.line command) placed next.asks_for;
        played = p.played;
        written = p.written;
      }

  -- the last line asks for nothing
  pub awaits-none : (start : Start J) (place : Place J) → Awaits asks fault does start place None → Playing asks fault does start place
  awaits-none start place a = record {
    lines = a.lines ++ a.line ∷ [];
    answers = a.answers;
    read = a.read;
    played = played-blank asks fault does a.lines a.line start.journal place.journal a.answers a.played a.asks_for;
    written = a.written;
  }

  -- one more line is written behind whole ones
  written-more : (old between new : Option (List ℕ)) (answers : List (List ℕ)) (line : List ℕ) → Appends old between (concat answers) → Appends between new line
      → Appends old new (concat (answers ++ line ∷ []))
  written-more old between new answers line front back =
      subst (λ xs. Appends old new xs) (sym (concat-append answers (line ∷ []) ∙ ap (λ xs. concat answers ++ xs) (append-nil line)))
      (Appends-trans old between new (concat answers) line front back)

  -- the number of the last line
  last-number : (start : Start J) (place : Place J) (command : Option C) (a : Awaits asks fault does start place command) → place.lines.number ≡ length a.lines + 1
  last-number start place command a = let more = length-append a.lines (a.line ∷ []) in let count = a.read.count in omega arith

  -- the last line's command was done and answered, or the run ended at it
  pub performed : (start : Start J) (place : Place J) (status : Option Status) (number : ℕ) (command : C) (after : J) (taken : Option (List ℕ)) (writes writes' : ℕ)
      → number ≡ place.lines.number → Awaits asks fault does start place (Some command)
      → IsPerformed does begins status number command place.journal after place.taken taken writes writes'
      → Goes asks fault does begins status start (record { lines = place.lines; left = place.left; journal = after; taken = taken })
  performed start place None number command after taken writes writes' same a did =
      let placed = same ∙ last-number start place (Some command) a in
      record {
        lines = a.lines ++ a.line ∷ [];
        answers = a.answers ++ line_of (length a.lines + 1) did.0 ∷ [];
        read = a.read;
        played = played-done asks fault does a.lines a.line command did.0 start.journal place.journal after a.answers a.played a.asks_for did.1;
        written = written-more start.taken place.taken taken a.answers (line_of (length a.lines + 1) did.0) a.written
            (subst (λ n. Appends place.taken taken (line_of n did.0)) placed did.2.0);
      }
  performed start place (Some ends.WriteFault) number command after taken writes writes' same a did =
      let placed = same ∙ last-number start place (Some command) a in
      let line = line_of (length a.lines + 1) did.0 in
      let cut = subst (λ n. AppendsPrefix place.taken taken (line_of n did.0)) placed did.2.0 in
      record {
        lines = a.lines ++ a.line ∷ [];
        bad = None;
        answers = a.answers ++ line ∷ [];
        first = are-first start.script (rest_at place) (a.lines ++ a.line ∷ []) a.read.before;
        played = played-done asks fault does a.lines a.line command did.0 start.journal place.journal after a.answers a.played a.asks_for did.1;
        written = record {
          whole = a.answers;
          last = line;
          count = cut.count;
          are = append-nil (a.answers ++ line ∷ []);
          short = cut.is_short;
          written = Appends-trans start.taken place.taken taken (concat a.answers) (take cut.count line) a.written cut.appended;
        };
      }
  performed start place (Some ends.OutOfMemory) number command after taken writes writes' same a did =
      let first = are-first start.script (rest_at place) (a.lines ++ a.line ∷ []) a.read.before in
      record {
        lines = a.lines;
        answers = a.answers;
        between = place.journal;
        first = first-before start.script a.lines a.line first;
        played = a.played;
        begun = inr (record { line = a.line; command = command; first = first; asks_for = a.asks_for; begun = did.0 });
        written = subst (λ o. Appends start.taken o (concat a.answers)) (sym did.1) a.written;
      }
  performed start place (Some ends.Done) number command after taken writes writes' same a did = absurd did
  performed start place (Some (ends.BadLine line why)) number command after taken writes writes' same a did = absurd did
  performed start place (Some ends.ReadFault) number command after taken writes writes' same a did = absurd did
  performed start place (Some ends.Usage) number command after taken writes writes' same a did = absurd did

  -- nothing is left to be played
  pub at-end : (start : Start J) (place : Place J) (left : Option (List ℕ)) → Playing asks fault does start place → IsAtEnd (rest_at place) → IsAtEnd left
      → Played asks fault does start.script left start.journal place.journal start.taken place.taken
  at-end start place left p end spent = record {
    lines = p.lines;
    answers = p.answers;
    are_all = are-all start.script (rest_at place) p.lines p.read.before end;
    is_at_end = spent;
    played = p.played;
    written = p.written;
  }

  -- memory ran out in front of the next command
  pub out-of-memory : (start : Start J) (place : Place J) → Playing asks fault does start place
      → Begun asks fault does begins start.script start.journal place.journal start.taken place.taken
  out-of-memory start place p = record {
    lines = p.lines;
    answers = p.answers;
    between = place.journal;
    first = are-first start.script (rest_at place) p.lines p.read.before;
    played = p.played;
    begun = inl refl;
    written = p.written;
  }

  -- reading failed
  pub read-fault : (start : Start J) (place : Place J) (left : Option (List ℕ)) → Playing asks fault does start place → place.lines.ended ≡ false
      → BreaksOff (rest_at place) left → PlayedToFault asks fault does start.script left start.journal place.journal start.taken place.taken
  read-fault start place left p open_yet off =
      let found = broken-off start.script (rest_at place) left p.lines (p.read.ended open_yet) off in
      record {
        read = found.0;
        lines = p.lines;
        answers = p.answers;
        was_read = found.1;
        ended = found.2;
        played = p.played;
        written = p.written;
      }

  -- the next line is bad
  pub ends-bad : (start : Start J) (place : Place J) (status : Status) (number : ℕ) (why : BadLine) (left taken : Option (List ℕ)) (writes writes' : ℕ)
      → Playing asks fault does start place → number ≡ place.lines.number + 1 → why ≢ Memory → IsBadNext fault (rest_at place) number why
      → EndsBad status number why place.taken taken writes writes'
      → Tells asks fault does begins status start.script left start.journal place.journal start.taken taken
  ends-bad start place (ends.BadLine at given) number why left taken writes writes' p next some found did =
      let count = p.read.count in
      let placed : number ≡ length p.lines + 1 = omega (arith, count) in
      let behind = bad-behind fault start.script (rest_at place) number p.lines why p.read.before placed found in
      record {
        lines = p.lines;
        answers = p.answers;
        is_behind = did.0 ∙ placed;
        cause = λ e. some (sym did.1 ∙ e);
        bad = subst (λ w. IsBadBehind fault start.script p.lines w) (sym did.1) behind;
        played = p.played;
        written = subst (λ n. Appends start.taken taken (concat p.answers ++ line_of n (bad_text given))) (sym did.0)
            (subst (λ w. Appends start.taken taken (concat p.answers ++ line_of number (bad_text w))) (sym did.1)
            (Appends-trans start.taken place.taken taken (concat p.answers) (line_of number (bad_text why)) p.written did.2.0));
      }
  ends-bad start place ends.WriteFault number why left taken writes writes' p next some found did =
      let count = p.read.count in
      let placed : number ≡ length p.lines + 1 = omega (arith, count) in
      let line = line_of (length p.lines + 1) (bad_text why) in
      let cut = subst (λ n. AppendsPrefix place.taken taken (line_of n (bad_text why))) placed did.0 in
      record {
        lines = p.lines;
        bad = Some why;
        answers = p.answers;
        first = (some, bad-behind fault start.script (rest_at place) number p.lines why p.read.before placed found);
        played = p.played;
        written = record {
          whole = p.answers;
          last = line;
          count = cut.count;
          are = refl;
          short = cut.is_short;
          written = Appends-trans start.taken place.taken taken (concat p.answers) (take cut.count line) p.written cut.appended;
        };
      }
  ends-bad start place ends.OutOfMemory number why left taken writes writes' p next some found did =
      out-of-memory start (record { lines = place.lines; left = place.left; journal = place.journal; taken = taken })
      (record {
        lines = p.lines;
        answers = p.answers;
        read = p.read;
        played = p.played;
        written = subst (λ o. Appends start.taken o (concat p.answers)) (sym did.0) p.written;
      })
  ends-bad start place ends.Done number why left taken writes writes' p next some found did = absurd did
  ends-bad start place ends.ReadFault number why left taken writes writes' p next some found did = absurd did
  ends-bad start place ends.Usage number why left taken writes writes' p next some found did = absurd did

-- the faults since the start of a run whose calls were quiet so far
pub told_at-from : {C : Type 0} (halt : Halt C) (first reads reads' first' writes writes' : ℕ) → reads ≡ first → writes ≡ first' → AreToldAt halt reads reads' writes writes'
    → AreToldAt halt first reads' first' writes'
told_at-from halt first reads reads' first' writes writes' e f told =
    subst (λ r. AreToldAt halt r reads' first' writes') e (subst (λ w. AreToldAt halt reads reads' w writes') f told)

-- a line may be read by a new reader
pub may-start : (reader : Reader) (left : Option (List ℕ)) → reader ≡ record { number = 0; pending = []; ended = false } → MayBeRead reader left
may-start reader left new =
    let number : reader.number ≡ 0 = ap (λ (r : Reader). r.number) new in
    let ended : reader.ended ≡ false = ap (λ (r : Reader). r.ended) new in
    (omega arith, λ e. absurd (cc))
