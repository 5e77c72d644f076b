use Rattle.std.proofs.Common.{◌≡◌, length}
use Rattle.std.specs.List.{list_any}
use Rattle.std.specs.Str.{str_to_ascii_lowercase, bytes_eq}
use Rattle.ccr_doc.specs.Words.{tokens_of}
use Rattle.ccr_doc.proofs.words.has_word.Given as goal

abbrev pub invariant-loop-other : goal.invariant-loop-other
invariant-loop-other l =
    list_any (bytes_eq (str_to_ascii_lowercase l.word)) (tokens_of l.text) ≡ list_any (bytes_eq (str_to_ascii_lowercase l.word)) (tokens_of l.rest)

abbrev pub decreases-loop-other : goal.decreases-loop-other
decreases-loop-other l = length l.rest
