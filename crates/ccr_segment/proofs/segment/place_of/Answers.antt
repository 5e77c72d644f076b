use Rattle.std.proofs.Common.{rules}
use Rattle.std.proofs.lemmas.List.Sorted.{answers_always}
use Rattle.ccr_segment.proofs.PlaceLaws.{compared_equal, rises_compared, absent_between}
use Rattle.ccr_segment.proofs.segment.place_of.Goals as goal

pub returns-in-Ok : goal.returns-in-Ok
returns-in-Ok c =
    let equal = c.in-Ok.ensures.position (λ place. place.seq) (answers_always _ _ _ (λ f a r g called. search rules)) in
    (c.in-Ok.ensures.bound, λ d. compared_equal _ c.args.n (equal d))

pub returns-in-Err : goal.returns-in-Err
returns-in-Err c =
    let parts = c.in-Err.ensures.position (λ place. place.seq) (answers_always _ _ _ (λ f a r g called. search rules)) (rises_compared c.args.n c.args.places.now c.requires) in
    λ k d low lt e. absent_between c.args.places.now c.args.n c.in-Err.field-0 parts.0 parts.1 k d lt e
