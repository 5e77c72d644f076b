use Rattle.std.proofs.Common.{◌∙◌, ap, sym}
use Rattle.ccr_words.specs.Numbers.{is_number}
use Rattle.ccr_words.proofs.Digits.{read_number}
use Rattle.ccr_words.proofs.numbers.number_in.Goals as goal

pub returns : goal.returns
returns c =
    c.ok.ensures.value
    ∙ read_number c.args.word.now c.parse.result c.parse.ensures.value.0 (sym (c.if-not-is_number.ensures ∙ ap is_number c.as_bytes.ensures.value))
