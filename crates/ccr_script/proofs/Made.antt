-- A command that was made has no fault, and the id of a generated document is one.
use Rattle.std.proofs.Common.{◌≡◌, ℕ, ◌<◌, ◌≤◌, ◌^◌, List, [], ◌++◌, length, leb, Bool, true, false, ◌&&◌, ◌||◌, refl, ap, ◌∙◌, arith, rules, tests}
use Rattle.std.specs.Prelude.{Option, Some, None, not, if◌then◌else◌, option_map, option_and_then, codes, decimal}
use Rattle.std.proofs.lemmas.Bool.{le-leb}
use Rattle.std.proofs.lemmas.Fmt.{length-decimal-le}
use Rattle.serde_json.specs.Data.{Data}
use Rattle.ccr_doc.specs.Sources.{value_of}
use Rattle.ccr_script.specs.declared.bad_lines.BadLine.TheVariants.{BadField}
use Rattle.ccr_script.specs.declared.commands.Command.{Command}
use Rattle.ccr_script.specs.declared.commands.Command.TheVariants as command
use Rattle.ccr_script.specs.declared.fields.Field.TheVariants as field
use Rattle.ccr_script.specs.declared.grammar.Op.{Op}
use Rattle.ccr_script.specs.declared.grammar.Op.TheVariants as op
use Rattle.ccr_script.specs.Commands.{write_of, made, IsMade, is_blank, op_in, fault_in, fault_of, fault_of_op, fault_of_value}
use Rattle.ccr_script.specs.Checking.{is_there, has_fields}
use Rattle.ccr_script.specs.Grammar.{fields_of}
use Rattle.ccr_script.specs.Kinds.{is_id}
use Rattle.ccr_script.specs.Parts.{index_in, truth_in, id_at, id_of, expect_in}

-- the text of a source decides nothing
write_any : (text : List ℕ) (d : Data) (c : Command) → write_of text d ≡ Some c → fault_in (write_of [] d) ≡ None
write_any text d c h = whatever ((is_there field.Create d && is_there field.IfSeqNo d) || not (is_there field.Source d)) (expect_in d) (id_at field.Id d)
    (λ id expect. command.Write (index_in field.Index d) id text (truth_in field.Create d) expect (id_at field.Routing d))
    (λ id expect. command.Write (index_in field.Index d) id [] (truth_in field.Create d) expect (id_at field.Routing d)) c h
  where
    whatever : (t : Bool) (expects : Option (Option (ℕ × ℕ))) (ids : Option (List ℕ)) (one other : List ℕ → Option (ℕ × ℕ) → Command) (c : Command)
        → (if t then None else option_and_then (λ expect. option_map (λ id. one id expect) ids) expects) ≡ Some c
        → fault_in (if t then None else option_and_then (λ expect. option_map (λ id. other id expect) ids) expects) ≡ None
    whatever true expects ids one other c h = cc
    whatever false None ids one other c h = cc
    whatever false (Some x) None one other c h = cc
    whatever false (Some x) (Some i) one other c h = refl

made_sound : (o : Op) (d : Data) (c : Command) → IsMade o d c → fault_in (made [] o d) ≡ None
made_sound op.Cluster d c h = ap fault_in h
made_sound op.Create d c h = ap fault_in h
made_sound op.Follow d c h = ap fault_in h
made_sound op.Pause d c h = ap fault_in h
made_sound op.Resume d c h = ap fault_in h
made_sound op.Unfollow d c h = ap fault_in h
made_sound op.AutoPut d c h = ap fault_in h
made_sound op.AutoDelete d c h = ap fault_in h
made_sound op.Write d c h = write_any h.0 d c h.2
made_sound op.Delete d c h = ap fault_in h
made_sound op.Search d c h = ap fault_in h
made_sound op.Status d c h = ap fault_in h
made_sound op.Settle d c h = ap fault_in h
made_sound op.Clock d c h = ap fault_in h
made_sound op.Replicate d c h = ap fault_in h
made_sound op.Ack d c h = ap fault_in h
made_sound op.Sync d c h = ap fault_in h
made_sound op.Promote d c h = ap fault_in h
made_sound op.Resync d c h = ap fault_in h
made_sound op.FailCopy d c h = ap fault_in h
made_sound op.ForcePromote d c h = ap fault_in h
made_sound op.Flush d c h = ap fault_in h
made_sound op.Merge d c h = ap fault_in h
made_sound op.AddCopy d c h = ap fault_in h
made_sound op.Deliver d c h = ap fault_in h
made_sound op.Drop d c h = ap fault_in h
made_sound op.Wake d c h = ap fault_in h
made_sound op.Lose d c h = ap fault_in h
made_sound op.LoseWrite d c h = ap fault_in h
made_sound op.Written d c h = ap fault_in h
made_sound op.Apply d c h = ap fault_in h
made_sound op.Renew d c h = ap fault_in h
made_sound op.Restart d c h = ap fault_in h

-- a line that is a command has no fault
pub no_fault : (line : List ℕ) (d : Data) (o : Op) (c : Command) → is_blank line ≡ false → value_of line ≡ Some d → op_in d ≡ Some o
    → has_fields (fields_of o) d ≡ true → IsMade o d c → fault_of line ≡ None
no_fault line d o c some reads named fits h =
    ap (λ t. if t then None else fault_of_value (value_of line)) some
    ∙ ap fault_of_value reads
    ∙ ap (λ n. fault_of_op n d) named
    ∙ ap (λ t. if t then fault_in (made [] o d) else Some BadField) fits
    ∙ made_sound o d c h

is_id_within : (text : List ℕ) → 1 ≤ length text → length text ≤ 512 → is_id text ≡ true
unfolding is_id
is_id_within text low high =
    ap (λ t. t && leb (length text) 512) (le-leb 1 (length text) low) ∙ le-leb (length text) 512 high

document_is_id : (n : ℕ) → n < 2 ^ 64 → is_id (codes "d" ++ decimal n) ≡ true
document_is_id n h =
    let short : length (decimal n) ≤ 20 = length-decimal-le 20 n (omega arith) (omega (arith, h)) h in
    is_id_within (codes "d" ++ decimal n) (omega arith) (omega (arith, short))

pub whole_id : (n : ℕ) (text : List ℕ) → n < 2 ^ 64 → text ≡ codes "d" ++ decimal n → id_of text ≡ Some text
whole_id n text h e = ap (λ t. if t then Some text else None) (ap is_id e ∙ document_is_id n h)
