-- How far a read or a write is, as the model has it.
use Rattle.ccr_model.specs.Requests.{Progress, on_its_way, waiting, held_back}
use Rattle.ccr_task.specs.declared.reads.Progress.{Progress as Kept}
use Rattle.ccr_task.specs.declared.reads.Progress.TheVariants.{OnItsWay, Waiting, HeldBack}

abbrev pub shown : Kept → Progress
shown OnItsWay = on_its_way
shown (Waiting until) = waiting until
shown HeldBack = held_back
