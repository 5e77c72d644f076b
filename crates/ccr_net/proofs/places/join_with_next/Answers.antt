use Rattle.std.proofs.Common.{◌≡◌, ◌+◌, ◌<◌, ◌++◌, ap, sym, subst, ◌∙◌, List, ℕ, length, slice_set, slice_index_or, remove, rules}
use Rattle.ccr_net.specs.Joined.{joined, AreApartBefore}
use Rattle.ccr_net.proofs.Joining.{joined_with_next}
use Rattle.ccr_net.proofs.Apart.{apart_joined}
use Rattle.ccr_net.proofs.places.join_with_next.Goals as goal

pub returns-clause-same : goal.returns-clause-same
returns-clause-same c =
    let there : c.args.index + 1 < length c.args.chunks.now.items = search rules in
    let gone : c.remove.new.self.items ≡ remove c.args.chunks.now.items (c.args.index + 1) = c.in-Some.ensures.items in
    let next_is : c.in-Some.next ≡ slice_index_or c.args.chunks.now.items (c.args.index + 1) c.in-Some.next = c.in-Some.ensures.value in
    let first_is : c.index_mut.result.now ≡ slice_index_or (remove c.args.chunks.now.items (c.args.index + 1)) c.args.index c.index_mut.result.now = c.index_mut.ensures.value ∙ ap (λ (l : List (List (List ℕ))). slice_index_or l c.args.index c.index_mut.result.now) gone in
    ap (λ (l : List (List (List ℕ))). joined (slice_set l c.args.index c.append.new.self)) gone ∙ (ap (λ (l : List (List ℕ)). joined (slice_set (remove c.args.chunks.now.items (c.args.index + 1)) c.args.index l)) c.append.ensures ∙ joined_with_next c.args.chunks.now.items c.args.index c.index_mut.result.now c.in-Some.next there next_is first_is)

pub returns-clause-apart : goal.returns-clause-apart
returns-clause-apart c =
    let there : c.args.index + 1 < length c.args.chunks.now.items = search rules in
    let gone : c.remove.new.self.items ≡ remove c.args.chunks.now.items (c.args.index + 1) = c.in-Some.ensures.items in
    let next_is : c.in-Some.next ≡ slice_index_or c.args.chunks.now.items (c.args.index + 1) c.in-Some.next = c.in-Some.ensures.value in
    let first_is : c.index_mut.result.now ≡ slice_index_or (remove c.args.chunks.now.items (c.args.index + 1)) c.args.index c.index_mut.result.now = c.index_mut.ensures.value ∙ ap (λ (l : List (List (List ℕ))). slice_index_or l c.args.index c.index_mut.result.now) gone in
    let now : slice_set c.remove.new.self.items c.args.index c.append.new.self ≡ slice_set (remove c.args.chunks.now.items (c.args.index + 1)) c.args.index (c.index_mut.result.now ++ c.in-Some.next) = ap (λ (l : List (List (List ℕ))). slice_set l c.args.index c.append.new.self) gone ∙ ap (λ (l : List (List ℕ)). slice_set (remove c.args.chunks.now.items (c.args.index + 1)) c.args.index l) c.append.ensures in
    subst (λ (l : List (List (List ℕ))). AreApartBefore c.args.index c.args.chunks.now.items l) (sym now) (apart_joined c.args.chunks.now.items c.args.index c.index_mut.result.now c.in-Some.next there next_is first_is c.requires)
