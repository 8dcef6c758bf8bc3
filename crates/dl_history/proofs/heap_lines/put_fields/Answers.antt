use Rattle.std.proofs.Common.{refl}
use Rattle.dl_history.specs.Report.{field_text}
use Rattle.dl_text.proofs.Loops.{put_start, put_fails, put_step, put_ends}
use Rattle.dl_history.proofs.Pairs.{pair_at, no_pair}
use Rattle.dl_history.proofs.heap_lines.put_fields.Goals as goal

pub fields-init : goal.fields-init
fields-init g c = put_start _ _ _ c.requires

pub returns-in_default : goal.returns-in_default
returns-in_default g c = put_ends c.fields.invariant (no_pair field_text c.args.decls.now c.args.values.now c.fields.i c.in_default.ensures) refl

pub returns-in_err-put_field : goal.returns-in_err-put_field
returns-in_err-put_field g c =
    put_fails _ c.fields.invariant (pair_at field_text c.args.decls.now c.args.values.now c.fields.i _ _ c.fields-test.true c.index-decls-i.is c.in-Some.ensures) c.from_residual.ensures.0 c.in_err-put_field.ensures

pub fields-preserved : goal.fields-preserved
fields-preserved g c =
    put_step c.fields.invariant (pair_at field_text c.args.decls.now c.args.values.now c.fields.i _ _ c.fields-test.true c.index-decls-i.is c.in-Some.ensures) c.in_ok-put_field.ensures.ok
