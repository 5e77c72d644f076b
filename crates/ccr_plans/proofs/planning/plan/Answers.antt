use Rattle.std.proofs.Common.{◌≡◌, ℕ, List, OnOk, sym, subst}
use Rattle.ccr_journal.specs.declared.replies.Reply.{Reply}
use Rattle.ccr_script.specs.declared.commands.Command.{Command}
use Rattle.ccr_script.specs.declared.commands.Command.TheVariants as asked
use Rattle.ccr_plans.specs.NamesAfter.{names_after}
use Rattle.ccr_plans.proofs.planning.plan.Goals as goal

pub returns-in-Cluster-clause-names : goal.returns-in-Cluster-clause-names
returns-in-Cluster-clause-names c =
    subst (λ (command : Command). OnOk c.cluster.result ((told : List Reply) → c.cluster.new.meta ≡ names_after c.args.meta.now command told)) (sym c.in-Cluster.is) c.cluster.ensures.names

pub returns-in-Create-clause-names : goal.returns-in-Create-clause-names
returns-in-Create-clause-names c =
    subst (λ (command : Command). OnOk c.create.result ((told : List Reply) → c.create.new.meta ≡ names_after c.args.meta.now command told)) (sym c.in-Create.is) c.create.ensures.names

pub returns-in-Follow-clause-names : goal.returns-in-Follow-clause-names
returns-in-Follow-clause-names c =
    subst (λ (command : Command). OnOk c.follow.result ((told : List Reply) → c.follow.new.meta ≡ names_after c.args.meta.now command told)) (sym c.in-Follow.is) c.follow.ensures.names

pub returns-in-AutoPut-clause-names : goal.returns-in-AutoPut-clause-names
returns-in-AutoPut-clause-names c =
    let is = c.in-AutoPut in
    let named : List (List ℕ) → List (List ℕ) → Type 0 =
    λ ps es. OnOk c.auto_put.result ((told : List Reply) → c.auto_put.new.meta ≡ names_after c.args.meta.now (asked.AutoPut is.cluster is.name is.remote ps es is.follow) told) in
    let told : named c.into_vec-patterns.result.items c.into_vec-exclude.result.items = c.auto_put.ensures.names in
    let patterns : named is.patterns c.into_vec-exclude.result.items = subst (λ (ps : List (List ℕ)). named ps c.into_vec-exclude.result.items) c.into_vec-patterns.ensures told in
    let exclude : named is.patterns is.exclude = subst (λ (es : List (List ℕ)). named is.patterns es) c.into_vec-exclude.ensures patterns in
    subst (λ (command : Command). OnOk c.auto_put.result ((told : List Reply) → c.auto_put.new.meta ≡ names_after c.args.meta.now command told)) (sym is.is) exclude

pub returns-in-AutoDelete-clause-names : goal.returns-in-AutoDelete-clause-names
returns-in-AutoDelete-clause-names c =
    subst (λ (command : Command). OnOk c.auto_delete.result ((told : List Reply) → c.auto_delete.new.meta ≡ names_after c.args.meta.now command told)) (sym c.in-AutoDelete.is) c.auto_delete.ensures.names
