use Rattle.std.proofs.Common.{◌≡◌, true, false, codes, Ok, Err, IfOk, IfErr, sym, ap, ◌∙◌, subst, arith, rules}
use Rattle.std.specs.Prelude.{◌≢◌}
use Rattle.std.specs.Str.{bytes_eq}
use Rattle.serde_json.specs.View.{view, items_view}
use Rattle.ccr_query.specs.declared.reading.BadQuery.TheVariants.{Memory}
use Rattle.ccr_query.specs.Bools.{after, queries_of}
use Rattle.ccr_query.specs.Queries.{condition}
use Rattle.ccr_query.proofs.Readings.{read_one, read_all, query_of_bool, query_of_condition}
use Rattle.ccr_query.proofs.reading.+read.Goals as goal

pub read_query-returns-then-eq-clause-ok : goal.read_query-returns-then-eq-clause-ok
read_query-returns-then-eq-clause-ok t c =
    let is_bool : bytes_eq c.in-Some.name.now (codes "bool") ≡ true = search rules in
    let e = query_of_bool c.args.levels (view c.args.value.now) c.in-Some.name.now (view c.in-Some.member.now) (sym c.in-Some.ensures) is_bool in
    subst (λ r. IfOk c.read_bool.result (λ q. r ≡ Ok q)) (sym e) c.read_bool.ensures.ok

pub read_query-returns-then-eq-clause-err : goal.read_query-returns-then-eq-clause-err
read_query-returns-then-eq-clause-err t c =
    let is_bool : bytes_eq c.in-Some.name.now (codes "bool") ≡ true = search rules in
    let e = query_of_bool c.args.levels (view c.args.value.now) c.in-Some.name.now (view c.in-Some.member.now) (sym c.in-Some.ensures) is_bool in
    subst (λ r. IfErr c.read_bool.result (λ b. b ≢ Memory → r ≡ Err b)) (sym e) c.read_bool.ensures.err

pub read_query-returns-in-Ok-clause-ok : goal.read_query-returns-in-Ok-clause-ok
read_query-returns-in-Ok-clause-ok t c =
    let no_bool : bytes_eq c.in-Some.name.now (codes "bool") ≡ false = search rules in
    let e = query_of_condition c.args.levels (view c.args.value.now) c.in-Some.name.now (view c.in-Some.member.now) (sym c.in-Some.ensures) no_bool in
    e ∙ ap (λ r. after r (λ q. Ok (condition q))) c.in-Ok.ensures.ok ∙ ap Ok (sym c.new.ensures)

pub read_query-returns-in-Err-clause-err : goal.read_query-returns-in-Err-clause-err
read_query-returns-in-Err-clause-err t c =
    let no_bool : bytes_eq c.in-Some.name.now (codes "bool") ≡ false = search rules in
    let e = query_of_condition c.args.levels (view c.args.value.now) c.in-Some.name.now (view c.in-Some.member.now) (sym c.in-Some.ensures) no_bool in
    λ other. e ∙ ap (λ r. after r (λ q. Ok (condition q))) (c.in-Err.ensures.err other)

pub read_queries-loop-item-preserved : goal.read_queries-loop-item-preserved
read_queries-loop-item-preserved t c =
    rw c.in_ok-push.ensures.items (read_one c.args.levels (queries_of c.args.levels (items_view c.args.items.now.items)) c.deref-item-items.result.now c.loop-item.item-index c.item-item.result c.loop-item.queries.items c.in_ok-query.query (omega arith) c.item-item.is c.loop-item.invariant c.in_ok-query.ensures.ok)

pub read_queries-returns-clause-ok : goal.read_queries-returns-clause-ok
read_queries-returns-clause-ok t c =
    read_all c.args.levels (queries_of c.args.levels (items_view c.args.items.now.items)) c.deref-item-items.result.now c.loop-item.item-index c.loop-item.queries.items (omega arith) c.loop-item.invariant
