use Rattle.std.proofs.Common.{◌+◌, drop}
use Rattle.std.specs.List.{flat_map}
use Rattle.dl_print.specs.Canonical.{next_field}
use Rattle.dl_print.proofs.Steps.{put_start, put_fails, put_step, each_at}
use Rattle.dl_print.proofs.declarations.put_next_fields.Goals as goal

pub fields-init : goal.fields-init
fields-init g c = put_start _ _ _ c.requires

pub returns-in_err-put_next_field : goal.returns-in_err-put_next_field
returns-in_err-put_next_field g c =
    put_fails (next_field c.field-item.result) (flat_map next_field (drop (c.fields.field-index + 1) c.args.fields.now)) c.fields.invariant
    (each_at next_field c.args.fields.now c.fields.field-index c.field-item.result c.fields-test.true c.field-item.is) c.from_residual.ensures.0 c.in_err-put_next_field.ensures

pub fields-preserved : goal.fields-preserved
fields-preserved g c =
    put_step (next_field c.field-item.result) (flat_map next_field (drop (c.fields.field-index + 1) c.args.fields.now)) c.fields.invariant
    (each_at next_field c.args.fields.now c.fields.field-index c.field-item.result c.fields-test.true c.field-item.is) c.in_ok-put_next_field.ensures.ok
