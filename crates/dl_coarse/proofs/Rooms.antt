-- Room for the arguments of a call.
use Rattle.std.proofs.Common.{◌≡◌, ◌≤◌, ℤ, List, [], ◌∷◌, length, refl, subst, arith}
use Rattle.std.proofs.lemmas.Option.{slice_get_within, get_or_from_slice_get}
use Rattle.dl_ir.specs.declared.calls.Call.{Call}
use Rattle.dl_ir.specs.declared.modules.LocalDecl.{LocalDecl}
use Rattle.dl_ir.specs.declared.modules.Module.{Module}
use Rattle.dl_ir.specs.CallForms.{AllFit, IsCallOf}
use Rattle.dl_ir.specs.Checked.{IsChecked, IsOperation}

one_each : (source : Module) (params : List LocalDecl) (args : List ℤ) → AllFit source params args → length args ≡ length params
one_each source [] [] fits = refl
one_each source [] (a ∷ args) fits = absurd fits
one_each source (p ∷ params) [] fits = absurd fits
one_each source (p ∷ params) (a ∷ args) fits = let rest = one_each source params args fits.1 in omega arith

pub few_args : (source : Module) (call : Call) → IsChecked source → IsCallOf source call → length call.args ≤ 32
few_args source call checked is =
    let there : IsOperation source is.op = subst (IsOperation source) (get_or_from_slice_get source.ops call.op is.op is.op is.declared) (checked.ops call.op is.op (slice_get_within source.ops call.op is.op is.declared)) in
    let many = one_each source is.op.params call.args is.fits in
    let few = there.few_locals in
    omega arith
