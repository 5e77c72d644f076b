use Rattle.std.proofs.Common.{◌≡◌, ◌-◌, ap, sym, subst, ◌++◌, ◌∙◌, List, ℕ, slice_set, arith, ◌∷◌, []}
use Rattle.ccr_net.specs.Joined.{joined, AreApart}
use Rattle.ccr_net.proofs.Joining.{joined_extend_last}
use Rattle.ccr_net.proofs.Apart.{apart_pushed}
use Rattle.ccr_net.proofs.places.push_to_last.Goals as goal

pub returns-clause-more : goal.returns-clause-more
returns-clause-more c =
    ap (λ (chunk : List (List ℕ)). joined (slice_set c.args.chunks.now.items (c.len-last.result - 1) chunk)) c.push.ensures ∙ joined_extend_last c.args.chunks.now.items (c.len-last.result - 1) c.index_mut.result.now (c.args.frame ∷ []) (omega arith) c.index_mut.ensures.value

pub returns-clause-apart : goal.returns-clause-apart
returns-clause-apart c =
    let now : slice_set c.args.chunks.now.items (c.len-last.result - 1) c.push.new.self ≡ slice_set c.args.chunks.now.items (c.len-last.result - 1) (c.index_mut.result.now ++ c.args.frame ∷ []) = ap (λ (chunk : List (List ℕ)). slice_set c.args.chunks.now.items (c.len-last.result - 1) chunk) c.push.ensures in
    subst (λ (l : List (List (List ℕ))). AreApart l) (sym now) (apart_pushed c.args.chunks.now.items (c.len-last.result - 1) c.index_mut.result.now c.args.frame (omega arith) c.index_mut.ensures.value c.requires.apart)
