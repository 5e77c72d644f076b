use Rattle.std.proofs.Common.{rules, ◌==◌, not}
use Rattle.std.proofs.lemmas.Fn.{filter_same}
use Rattle.ccr_insync.proofs.take_out.Goals as goal

pub returns : goal.returns
returns c =
    filter_same _ (λ m. not (m.copy == c.args.copy)) _ (λ m b f k. search rules) c.args.members.now.items c.retain.new.self.items
    c.retain.ensures.filtered
