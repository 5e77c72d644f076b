use Rattle.ccr_run.proofs.Ends.{is_no_settle, none_left}
use Rattle.ccr_run.proofs.samples.pop_search.Goals as goal

pub unreachable-requires : goal.unreachable-requires
unreachable-requires c = none_left c.args.commands.now.items c.pop.new.self.items _ c.requires c.in_default.ensures.items c.in_default.ensures.rest c.in_default.ensures.cases.0

pub returns-clause-search : goal.returns-clause-search
returns-clause-search c = is_no_settle c.args.commands.now.items c.pop.new.self.items c.in-Some.search c.requires c.in-Some.ensures.items
