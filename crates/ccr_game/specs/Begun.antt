-- A command of which none or all was done has begun.
use Rattle.std.specs.Prelude.{ℕ, List, [], refl}
use Rattle.std.proofs.Common.{sym, inl, inr, append-nil}
use Rattle.ccr_journal.specs.declared.replies.Reply.{Reply}
use Rattle.ccr_script.specs.declared.commands.Command.{Command}
use Rattle.ccr_deeds.specs.Deeds.{AreDeeds}
use Rattle.ccr_plans.specs.Scenes.{Begins, Does, Scene, planned, with_made}

pub none_begun : (before : Scene) (c : Command) → Begins before c before
none_begun before c = inl (record { first = []; others = (planned before c).made; split = refl; grown = sym (append-nil before.logs) })

pub done_begun : (before after : Scene) (c : Command) (told : List Reply)
    → AreDeeds (with_made before.logs (planned before c).made) (planned before c).deeds after.logs told → Begins before c after
done_begun before after c told done =
    inr (record { first = (planned before c).deeds; others = []; between = after.logs; told = told; split = append-nil (planned before c).deeds; done = done; begun = refl })

pub all_begun : (before after : Scene) (c : Command) (text : List ℕ) → Does before c after text → Begins before c after
all_begun before after c text d = done_begun before after c d.told d.done
