use Rattle.std.proofs.Common.{◌≡◌, ◌++◌, ◌∷◌, [], ap, ◌∙◌, List, ℕ}
use Rattle.ccr_net.specs.Joined.{joined}
use Rattle.ccr_net.proofs.Joining.{joined_push_new}
use Rattle.ccr_net.proofs.places.push_to_new.Goals as goal

pub returns-clause-ok : goal.returns-clause-ok
returns-clause-ok c =
    let alone : c.push.new.self ≡ c.args.frame ∷ [] = c.push.ensures ∙ ap (λ (l : List (List ℕ)). l ++ c.args.frame ∷ []) c.in_ok-chunk.ensures in
    let pushed : c.push_back.new.self.items ≡ c.args.chunks.now.items ++ (c.args.frame ∷ []) ∷ [] = ◌∙◌ {A = List (List (List ℕ))} c.in_ok-push_back.ensures.items (ap (λ (l : List (List ℕ)). c.args.chunks.now.items ++ l ∷ []) alone) in
    ap (λ (l : List (List (List ℕ))). joined l) pushed ∙ joined_push_new c.args.chunks.now.items c.args.frame
