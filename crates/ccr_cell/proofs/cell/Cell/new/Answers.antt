use Rattle.std.proofs.Common.{◌≡◌, ◌*◌, ℕ, [], ◌∷◌, length, rules, ap, refl}
use Rattle.ccr_cell.proofs.Moves.{may_open}
use Rattle.ccr_cell.proofs.cell.Cell.new.Goals as goal

pub new-requires : goal.new-requires
new-requires g c =
    let items : c.push.new.self.items ≡ c.args.machine ∷ [] = search rules in
    let n : 2 * c.len-length.result ≡ 2 * length (g.X.Machine.journal c.args.machine) = ap (λ (k : ℕ). 2 * k) c.len-length.ensures in
    rw (items, c.of-about.ensures) (may_open _ _ _ _ c.args.machine _ refl refl n)
