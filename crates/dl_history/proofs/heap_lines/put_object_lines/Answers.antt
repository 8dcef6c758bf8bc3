use Rattle.std.proofs.Common.{refl, ap}
use Rattle.std.specs.List.{flat_map}
use Rattle.dl_text.proofs.Loops.{put_start, put_fails, put_step, put_ends}
use Rattle.dl_history.specs.Report.{object_line}
use Rattle.dl_history.proofs.heap_lines.put_object_lines.Goals as goal

pub objects-init : goal.objects-init
objects-init g c = rw (c.into_iter-name-iterator.ensures.into_iter_gives, c.iter-name-items.ensures) (put_start _ _ _ c.requires)

pub returns-in_err-put_object_line : goal.returns-in_err-put_object_line
returns-in_err-put_object_line g c =
    put_fails _ c.objects.invariant (ap (flat_map (object_line c.args.source.now)) c.in-Some.ensures.steps) c.from_residual.ensures.0 c.in_err-put_object_line.ensures

pub objects-preserved : goal.objects-preserved
objects-preserved g c =
    put_step c.objects.invariant (ap (flat_map (object_line c.args.source.now)) c.in-Some.ensures.steps) c.in_ok-put_object_line.ensures.ok

pub returns : goal.returns
returns g c = put_ends c.objects.invariant (ap (flat_map (object_line c.args.source.now)) c.in-None.ensures.steps.0) refl
