use Rattle.std.proofs.Common.{◌+◌, drop}
use Rattle.std.specs.List.{flat_map}
use Rattle.dl_print.specs.Canonical.{kind_line}
use Rattle.dl_print.proofs.Steps.{put_start, put_fails, put_step, each_at}
use Rattle.dl_print.proofs.declarations.put_kinds.Goals as goal

pub kinds-init : goal.kinds-init
kinds-init g c = put_start _ _ _ c.requires

pub returns-in_err-put_kind : goal.returns-in_err-put_kind
returns-in_err-put_kind g c =
    put_fails (kind_line c.kind-item.result) (flat_map kind_line (drop (c.kinds.kind-index + 1) c.args.kinds.now)) c.kinds.invariant
    (each_at kind_line c.args.kinds.now c.kinds.kind-index c.kind-item.result c.kinds-test.true c.kind-item.is) c.from_residual.ensures.0 c.in_err-put_kind.ensures

pub kinds-preserved : goal.kinds-preserved
kinds-preserved g c =
    put_step (kind_line c.kind-item.result) (flat_map kind_line (drop (c.kinds.kind-index + 1) c.args.kinds.now)) c.kinds.invariant
    (each_at kind_line c.args.kinds.now c.kinds.kind-index c.kind-item.result c.kinds-test.true c.kind-item.is) c.in_ok-put_kind.ensures.ok
