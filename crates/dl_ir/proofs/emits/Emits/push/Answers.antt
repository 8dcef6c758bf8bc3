use Rattle.std.proofs.Common.{◌+◌, arith, length, slice_set, subst, sym, ap}
use Rattle.std.proofs.Math.Facts.{to_z-of_z}
use Rattle.dl_ir.specs.Padding.{IsPadded}
use Rattle.dl_ir.proofs.Padding.{shown, still_padded}
use Rattle.dl_ir.proofs.emits.Emits.push.Goals as goal

pub invariant_of-self : goal.invariant_of-self
invariant_of-self c = subst (λ n. IsPadded (slice_set c.self.inside.cells c.self.inside.len n) (c.self.inside.len + 1)) (sym (to_z-of_z c.ranges.number))
    (still_padded c.self.inside.cells c.self.inside.len c.args.number c.self.invariant
    (omega (arith, c.requires, ap length c.self.view_is, shown c.self.inside.cells c.self.inside.len c.self.invariant)))
