use denote.Exit.{no}
use denote.Param.{arg}
use denote.Param.Send.{arg_send, param_send}
use Rattle.ccr_journal.specs.contracts.events.Event as Event
use Rattle.ccr_journal.specs.contracts.journals.Entry as Entry
use Rattle.ccr_journal.specs.contracts.journals.Journal as Journal
use Rattle.ccr_journal.proofs.Sending.{event_send, entry_send, journal_send}
use Rattle.ccr_journal_tests.proofs.tests.events_replies_and_journals_go_to_threads.Goals as goal

pub send-requires-send-T : goal.send-requires-send-T
send-requires-send-T c κs = param_send _ (arg _ no Event.the_row) (arg_send _ no Event.the_row event_send)

pub send-requires-3-send-T : goal.send-requires-3-send-T
send-requires-3-send-T c κs = param_send _ (arg _ no Entry.the_row) (arg_send _ no Entry.the_row entry_send)

pub send-requires-4-send-T : goal.send-requires-4-send-T
send-requires-4-send-T c κs = param_send _ (arg _ no Journal.the_row) (arg_send _ no Journal.the_row journal_send)
