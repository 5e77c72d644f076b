-- Opens, where it is named on an `unfolding` line, each definition that a journal is computed by.
use Rattle.std.specs.Str.{is_utf8, chars}
use Rattle.std.specs.Char.{encode_utf8}
use Rattle.std.specs.Float.{float_is_finite}
use Rattle.std.specs.Float.Ieee.{round}
use Rattle.std.specs.Fmt.{digits}
use Rattle.json.specs.Lex.{lex, punctuate}
use Rattle.json.specs.Json.{value, items, members}
use Rattle.json.specs.Print.{escape_byte, print_from}
use Rattle.json.specs.Text.{code_unit, short_escape, content}
use Rattle.json.specs.Word.{word, after_number}
use Rattle.fast_float.specs.Text.{scan}
use Rattle.serde_json.specs.Read.{number_of}
use Rattle.ccr_op.specs.Fields.{bounded_at, text_at, bounded_text_at}
use Rattle.ccr_op.specs.Reading.{index_at, delete_at, routed_index_at, routed_delete_at, no_op_at, kind_at, operation_at}
use Rattle.ccr_doc.specs.Sources.{value_of}
use Rattle.ccr_segment.specs.Reading.{expected_at, version_at, header_at, op_at, ops_at, rest_of, segment_of}
use Rattle.ccr_model.specs.Outcomes.{guarded}
use Rattle.ccr_model.specs.CopyRows.{replicate_row, ack_row, sync_row, fail_copy_row, add_copy_row, flush_row, merge_row, follower_promote_row}
use Rattle.ccr_model.specs.LeaderRows.{write_row, leader_promote_row, force_promote_row, resync_row, leader_fail_copy_row, leader_clock_row, expire_row, close_sessions_row, leader_status_row}
use Rattle.ccr_model.specs.LeaderFrames.{read_row, wake_row, lease_add_row, lease_renew_row, lease_remove_row, session_open_row, chunk_row}
use Rattle.ccr_model.specs.FollowerRows.{follower_receive_row, lose_row, tick_row, follower_clock_row, lose_write_row, take_row, apply_row, written_row, renew_row, pause_row, resume_row, restart_row, unfollow_row, follower_add_copy_row, follower_status_row}
use Rattle.ccr_model.specs.World.{deliver_row, drop_row, follow_row, search_row}

unfoldable pub opened : Unit {0}
unfolding is_utf8 chars encode_utf8 float_is_finite round digits lex punctuate value items members escape_byte print_from code_unit short_escape content word after_number scan number_of bounded_at text_at bounded_text_at index_at delete_at routed_index_at routed_delete_at no_op_at kind_at operation_at value_of expected_at version_at header_at op_at ops_at rest_of segment_of guarded replicate_row ack_row sync_row fail_copy_row add_copy_row flush_row merge_row follower_promote_row write_row leader_promote_row force_promote_row resync_row leader_fail_copy_row leader_clock_row expire_row close_sessions_row leader_status_row read_row wake_row lease_add_row lease_renew_row lease_remove_row session_open_row chunk_row follower_receive_row lose_row tick_row follower_clock_row lose_write_row take_row apply_row written_row renew_row pause_row resume_row restart_row unfollow_row follower_add_copy_row follower_status_row deliver_row drop_row follow_row search_row
opened = tt
