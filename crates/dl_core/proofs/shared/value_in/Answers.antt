use Rattle.std.proofs.Common.{Option, None, ap, ◌∙◌}
use Rattle.std.specs.Option.{unwrap_or}
use Rattle.std.proofs.lemmas.Option.{unwrap_or-slice_get}
use Rattle.dl_ir.specs.declared.names.Value.{Value}
use Rattle.dl_ir.specs.declared.names.Value.TheVariants.{Ref}
use Rattle.dl_core.proofs.shared.value_in.Goals as goal

pub returns : goal.returns
returns c = c.unwrap_or.ensures ∙ ap (λ (o : Option Value). unwrap_or o (Ref None)) c.get.ensures ∙ unwrap_or-slice_get c.args.object.now.fields c.args.field (Ref None)
