-- How far a request is, as the model has it.
use Rattle.ccr_model.specs.Requests.{Progress, on_its_way, waiting}
use Rattle.ccr_restore.specs.declared.progress.Progress.{Progress as Kept}
use Rattle.ccr_restore.specs.declared.progress.Progress.TheVariants.{OnItsWay, Waiting}

abbrev pub shown : Kept → Progress
shown OnItsWay = on_its_way
shown (Waiting until) = waiting until
