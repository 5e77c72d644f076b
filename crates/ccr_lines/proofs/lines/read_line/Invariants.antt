use Rattle.std.proofs.Common.{◌≡◌, ◌≢◌, [], false}
use Rattle.std.specs.Prelude.{is_some}
use Rattle.std.specs.Io.KnownBytes.{Consumes}
use Rattle.ccr_lines.specs.Lines.{IsPlain, rest_of}
use Rattle.ccr_lines.proofs.lines.read_line.Given as goal

abbrev pub invariant-pieces : goal.invariant-pieces
invariant-pieces g l =
    let left = g.S.Source.left in
    let faults = g.S.Source.faults in
    record {
      begun : l.chunk.bytes ≢ [];
      unended : l.chunk.ended ≡ false;
      told : is_some (left l.from) ≡ is_some (left l.initial.from);
      quiet : faults l.from ≡ faults l.initial.from;
      plain : IsPlain l.bytes.items;
      taken : Consumes (rest_of l.initial.chunk.bytes (left l.initial.from)) (rest_of l.chunk.bytes (left l.from)) l.bytes.items;
    }
