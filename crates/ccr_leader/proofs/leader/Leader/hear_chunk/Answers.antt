use Rattle.std.proofs.Common.{◌≡◌, refl, sym, subst}
use Rattle.ccr_journal.specs.declared.replies.Heard.TheVariants as heard
use Rattle.ccr_model.specs.Leaders.{Leader, session_of}
use Rattle.ccr_model.specs.LeaderFrames.{hears, chunk_row}
use Rattle.ccr_leader.proofs.Opened.{part-told, gone-told}
use Rattle.ccr_leader.proofs.leader.Leader.hear_chunk.Goals as goal

pub returns-in_ok-sent-in-Ok-clause-ok : goal.returns-in_ok-sent-in-Ok-clause-ok
returns-in_ok-sent-in-Ok-clause-ok c =
    let old : Leader = record {
      start = c.self.inside.start;
      history = c.self.inside.history;
      copies = c.self.inside.copies;
      stale = c.self.inside.stale;
      now = c.self.inside.now;
      next_session = c.self.inside.sessions.next;
      sessions = c.self.inside.sessions.sessions;
      kept = c.self.inside.kept;
      polls = c.self.inside.polls;
    } in
    subst (λ (l : Leader). chunk_row l c.args.follower.now c.args.request c.args.session c.args.file c.args.offset c.args.size (session_of l.sessions c.args.session)
    ≡ hears heard.Done (record old { next_session = c.chunk.new.self.next; sessions = c.chunk.new.self.sessions }) c.in_ok-sent-in-Ok.sent) c.self.view_is
    (part-told old c.args.follower.now c.args.request c.args.session c.args.file c.args.offset c.args.size c.in-Ok.bytes.items c.new.result c.chunk.new.self c.in_ok-sent-in-Ok.sent
    c.in-Ok.ensures.part c.in-Ok.ensures.ok c.new.ensures c.in_ok-sent-in-Ok.ensures)

pub returns-in_ok-sent-in-Err-NoSession-clause-ok : goal.returns-in_ok-sent-in-Err-NoSession-clause-ok
returns-in_ok-sent-in-Err-NoSession-clause-ok c =
    let old : Leader = record {
      start = c.self.inside.start;
      history = c.self.inside.history;
      copies = c.self.inside.copies;
      stale = c.self.inside.stale;
      now = c.self.inside.now;
      next_session = c.self.inside.sessions.next;
      sessions = c.self.inside.sessions.sessions;
      kept = c.self.inside.kept;
      polls = c.self.inside.polls;
    } in
    subst (λ (l : Leader). chunk_row l c.args.follower.now c.args.request c.args.session c.args.file c.args.offset c.args.size (session_of l.sessions c.args.session)
    ≡ hears heard.Gone (record old { next_session = c.chunk.new.self.next; sessions = c.chunk.new.self.sessions }) c.in_ok-sent-in-Err-NoSession.sent) c.self.view_is
    (gone-told old c.args.follower.now c.args.request c.args.session c.args.file c.args.offset c.args.size _ c.in-Err-NoSession.field-0 c.chunk.new.self c.in_ok-sent-in-Err-NoSession.sent
    c.in-Err-NoSession.field-0-is c.in-Err-NoSession.ensures.answer c.in-Err-NoSession.ensures.err c.in_ok-sent-in-Err-NoSession.ensures)
