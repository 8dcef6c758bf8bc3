use denote.Param.Send.{sendable}
use Rattle.std.proofs.Crossing.{crosses}
use Rattle.dl_coarse.proofs.passes.Pass.TheSendSync as pass
use Rattle.dl_coarse.proofs.passes.Note.TheSendSync as note
use Rattle.dl_coarse.proofs.passes.Coarse.TheSendSync as coarse
use Rattle.dl_coarse.proofs.Sent.{core_send}
use Rattle.dl_command.proofs.top.domlock.Goals as goal

pub domlock_over-requires-send-G-Pass : goal.domlock_over-requires-send-G-Pass
domlock_over-requires-send-G-Pass g c κs within = search (core_send, pass.the_send, crosses, sendable) depth 60 fits 20000

pub domlock_over-requires-send-G-Note : goal.domlock_over-requires-send-G-Note
domlock_over-requires-send-G-Note g c κs within = search (core_send, note.the_send, crosses, sendable) depth 60 fits 20000

pub domlock_over-requires-sync-G : goal.domlock_over-requires-sync-G
domlock_over-requires-sync-G g c κs within = search (core_send, coarse.the_sync, crosses, sendable) depth 60 fits 20000
