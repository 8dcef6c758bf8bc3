-- The code of a module and the machine of all callers may cross threads, as a ground asks of what its passes share.
use denote.Param.Send.{IsSend, sendable}
use denote.Param.SendFields.{declared_send}
use Rattle.sqlite_items.proofs.items.Items.TheSendSync as items
use Rattle.std.proofs.Crossing.{crosses}
use Rattle.dl_ir.proofs.expressions.Expr.TheLaws.TheKnot as expressions
use Rattle.dl_ir.proofs.statements.Stmt.TheLaws.TheKnot as statements
use Rattle.dl_ir.proofs.modules.KindDecl.TheSendSync as kind_decl
use Rattle.dl_ir.proofs.modules.LocalDecl.TheSendSync as local_decl
use Rattle.dl_ir.proofs.tables.Table.TheSendSync as table
use Rattle.dl_instr.specs.contracts.code.Code as code
use Rattle.dl_core.specs.contracts.machines.Core as core
use Rattle.dl_core.specs.contracts.machines.Core.TheInside as inside
use Rattle.dl_core.proofs.frames.Frame.TheSendSync as frame
use Rattle.dl_core.proofs.closes.Leavings.TheSendSync as leavings
use Rattle.dl_core.proofs.counters.Counters.TheSendSync as counters
use Rattle.dl_core.proofs.objects.Object.TheSendSync as object

pub code_send : IsSend code.the_row
code_send = search (crosses, expressions.crosses, statements.crosses, kind_decl.the_field_send, local_decl.the_field_send, sendable) depth 60 fits 20000

pub inside_send : IsSend inside.the_row
inside_send = declared_send inside.the_type (
  search (code_send, sendable) depth 20,
  (
    search sendable depth 20,
    (
      search (crosses, items.the_send, sendable) depth 20 fits 20000,
      (
        search (object.the_send, table.the_send, crosses, sendable) depth 20 fits 20000,
        (
          search (frame.the_send, crosses, sendable) depth 20 fits 20000,
          (
            search (counters.the_send, sendable) depth 20,
            (search (leavings.the_send, sendable) depth 20, tt),
          ),
        ),
      ),
    ),
  ),
)

pub core_send : IsSend core.the_row
core_send = search (inside_send, sendable) depth 20
