use Rattle.std.proofs.Common.{◌≡◌, true, false, not, ◌||◌, ◌&&◌, nat_lt, ◌∙◌, ap, sym, subst, arith}
use Rattle.std.proofs.lemmas.Bool.Decides.{nat_tests}
use Rattle.ccr_model.specs.Stores.{is_passed, is_least}
use Rattle.ccr_store.specs.Kept.{ops_of, listed, IsSomeSuch}
use Rattle.ccr_store.proofs.Droppable.{passed-by, least-by, index-droppable, delete-droppable}
use Rattle.ccr_store.proofs.merges.is_needless.Goals as goal

pub returns-in-Index : goal.returns-in-Index
returns-in-Index c = λ at numbers indexed.
    let low : nat_lt c.args.op.now.seq c.args.bound ≡ true = grind (arith, nat_tests) in
    let such : IsSomeSuch (λ k. listed c.args.ids.now.entries c.in-Index.id k && (nat_lt c.args.op.now.seq k && nat_lt k c.args.count)) c.has_between.result =
    subst (λ n. IsSomeSuch (λ k. listed c.args.ids.now.entries c.in-Index.id k && (nat_lt n k && nat_lt k c.args.count)) c.has_between.result) c.seq-in-Index.ensures c.has_between.ensures in
    sym (index-droppable c.args.bound c.args.count (ops_of at numbers) c.args.op.now c.in-Index.id c.in-Index.routing c.in-Index.body c.has_between.result low (sym c.kind.ensures.value ∙ c.in-Index.is)
    (passed-by at numbers c.args.ids.now.entries c.in-Index.id c.args.op.now c.args.count c.has_between.result indexed such))

pub returns-then-has_between : goal.returns-then-has_between
returns-then-has_between c = λ at numbers indexed.
    let low : nat_lt c.args.op.now.seq c.args.bound ≡ true = grind (arith, nat_tests) in
    let such : IsSomeSuch (λ k. listed c.args.ids.now.entries c.in-Delete.id k && (nat_lt c.args.op.now.seq k && nat_lt k c.args.count)) c.has_between-in-Delete.result =
    subst (λ n. IsSomeSuch (λ k. listed c.args.ids.now.entries c.in-Delete.id k && (nat_lt n k && nat_lt k c.args.count)) c.has_between-in-Delete.result) c.seq-in-Delete.ensures c.has_between-in-Delete.ensures in
    let passed : is_passed c.in-Delete.id c.args.op.now c.args.count (ops_of at numbers) ≡ true =
    passed-by at numbers c.args.ids.now.entries c.in-Delete.id c.args.op.now c.args.count c.has_between-in-Delete.result indexed such ∙ c.if-has_between.true in
    c.if-has_between.true
    ∙ sym (delete-droppable c.args.bound c.args.count (ops_of at numbers) c.args.op.now c.in-Delete.id c.in-Delete.routing true low (sym c.kind.ensures.value ∙ c.in-Delete.is)
    (ap (λ b. b || is_least c.in-Delete.id c.args.op.now (ops_of at numbers)) passed))

pub returns-else-has_between : goal.returns-else-has_between
returns-else-has_between c = λ at numbers indexed.
    let low : nat_lt c.args.op.now.seq c.args.bound ≡ true = grind (arith, nat_tests) in
    let such : IsSomeSuch (λ k. listed c.args.ids.now.entries c.in-Delete.id k && (nat_lt c.args.op.now.seq k && nat_lt k c.args.count)) c.has_between-in-Delete.result =
    subst (λ n. IsSomeSuch (λ k. listed c.args.ids.now.entries c.in-Delete.id k && (nat_lt n k && nat_lt k c.args.count)) c.has_between-in-Delete.result) c.seq-in-Delete.ensures c.has_between-in-Delete.ensures in
    let passed : is_passed c.in-Delete.id c.args.op.now c.args.count (ops_of at numbers) ≡ false =
    passed-by at numbers c.args.ids.now.entries c.in-Delete.id c.args.op.now c.args.count c.has_between-in-Delete.result indexed such ∙ c.if-has_between.false in
    let lower : IsSomeSuch (λ k. listed c.args.ids.now.entries c.in-Delete.id k && nat_lt k c.args.op.now.seq) c.has_below.result =
    subst (λ n. IsSomeSuch (λ k. listed c.args.ids.now.entries c.in-Delete.id k && nat_lt k n) c.has_below.result) c.seq-else-has_between.ensures c.has_below.ensures in
    let least : is_least c.in-Delete.id c.args.op.now (ops_of at numbers) ≡ not c.has_below.result =
    least-by at numbers c.args.ids.now.entries c.in-Delete.id c.args.op.now c.has_below.result indexed lower in
    sym (delete-droppable c.args.bound c.args.count (ops_of at numbers) c.args.op.now c.in-Delete.id c.in-Delete.routing (not c.has_below.result) low (sym c.kind.ensures.value ∙ c.in-Delete.is)
    (ap (λ b. b || is_least c.in-Delete.id c.args.op.now (ops_of at numbers)) passed ∙ least))
