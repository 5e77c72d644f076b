use Rattle.std.proofs.Common.{sym, ◌∙◌, ap}
use Rattle.ccr_model.specs.Tasks.{read_sent}
use Rattle.ccr_task.proofs.Hearing.{takes-reply}
use Rattle.ccr_task.proofs.task.Task.hear.Goals as goal

pub returns-in-ReadReply : goal.returns-in-ReadReply
returns-in-ReadReply c =
    takes-reply c.args.self.now c.take.new.self c.args.reply.content (read_sent c.args.self.now c.args.reply.request) c.in-Some.read c.in-ReadReply.from c.in-ReadReply.global c.in-ReadReply.ops c.into_vec.result.items
    c.in_ok-asks-in-ReadReply.asks (ap (read_sent c.args.self.now) (sym c.request.ensures) ∙ (sym c.find_sent.ensures ∙ c.in-Some.is)) (sym c.into_content.ensures.value ∙ c.in-ReadReply.is) c.into_vec.ensures
    c.in_ok-asks-in-ReadReply.ensures
