use Rattle.std.proofs.Common.{None, ◌∙◌, sym}
use Rattle.ccr_changes.proofs.Indexing.{ages-kept}
use Rattle.ccr_changes.proofs.polls.remove_age.Goals as goal

pub returns-then-unlist : goal.returns-then-unlist
returns-then-unlist c = λ f.
    ages-kept c.args.follower.now c.unlist.new.ages.entries c.remove.new.self.entries None c.remove.ensures.updates.0 (sym (c.unlist.ensures.emptied c.if-unlist.true)) f ∙ c.unlist.ensures.value f
