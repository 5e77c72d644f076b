use Rattle.std.proofs.Common.{◌≡◌, ◌++◌, ◌∷◌, [], ℕ, List, ◌∙◌, ap, append_assoc}
use Rattle.std.specs.Int.{w64, to_be_bytes}
use Rattle.ccr_op.specs.Spelling.{kind_byte, kind_fields, spelling}
use Rattle.ccr_op.proofs.encoding.encode.Goals as goal

-- four parts that were appended one after the other
appended : (old a b c d : List ℕ) (k : ℕ) (x y z : List ℕ) → a ≡ old ++ (k ∷ []) → b ≡ a ++ x → c ≡ b ++ y → d ≡ c ++ z → d ≡ old ++ (k ∷ (x ++ (y ++ z)))
appended old a b c d k x y z ea eb ec ed =
    ed ∙ ap (λ (l : List ℕ). l ++ z) (ec ∙ ap (λ (l : List ℕ). l ++ y) (eb ∙ ap (λ (l : List ℕ). l ++ x) ea)) ∙ simp append_assoc

pub returns-clause-ok : goal.returns-clause-ok
returns-clause-ok c =
    let op = c.args.op.now in
    appended c.reserve.new.self.items c.put.new.to.items c.put-2.new.to.items c.put-3.new.to.items c.put_fields.new.to.items
    (kind_byte op.kind) (to_be_bytes w64 op.seq) (to_be_bytes w64 op.term) (kind_fields op.version op.kind) (cc) (cc) (cc) (cc)
    ∙ ap (λ (l : List ℕ). l ++ spelling op) (cc)
