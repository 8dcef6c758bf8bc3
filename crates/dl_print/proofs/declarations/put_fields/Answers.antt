use Rattle.std.proofs.Common.{◌-◌, length, take, drop}
use Rattle.std.specs.List.{flat_map}
use Rattle.dl_print.specs.Canonical as spec
use Rattle.dl_print.specs.Canonical.{Word, Space, Indent, Feed}
use Rattle.dl_print.proofs.Parts.{fields_begin, rest_whole}
use Rattle.dl_print.proofs.Steps.{then_put, stop_put}
use Rattle.dl_print.proofs.declarations.put_fields.Goals as goal

pub returns-in_err-put_field : goal.returns-in_err-put_field
returns-in_err-put_field g c =
    rw (fields_begin c.args.fields.now c.first-item.result c.in-len1-up.len_at_least c.first-item.is)
    (stop_put (spec.field_pieces c.first-item.result) (flat_map spec.next_field (drop 1 c.args.fields.now)) c.from_residual.ensures.0 c.in_err-put_field.ensures)

pub returns : goal.returns
returns g c =
    rw (fields_begin c.args.fields.now c.first-item.result c.in-len1-up.len_at_least c.first-item.is, ← rest_whole c.args.fields.now)
    (then_put (spec.field_pieces c.first-item.result) (flat_map spec.next_field (take (length c.args.fields.now - 1) (drop 1 c.args.fields.now))) c.in_ok-put_field.ensures.ok
    c.put_next_fields.ensures)
