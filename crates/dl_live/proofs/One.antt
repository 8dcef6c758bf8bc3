-- There is one code with early drops at most.
use Rattle.std.proofs.Common.{◌≡◌, ℕ, Bool, true, false, List, length, ◌++◌, refl, sym, ap, ◌∙◌, arith}
use Rattle.std.proofs.Math.Path.{fun_ext}
use Rattle.std.proofs.lemmas.List.{same_lists}
use Rattle.std.proofs.lemmas.Option.{get_or_from_slice_get}
use Rattle.dl_ir.specs.declared.modules.Module.{Module}
use Rattle.dl_ir.specs.declared.modules.OpDecl.{OpDecl}
use Rattle.dl_instr.specs.declared.code.Code.{Code}
use Rattle.dl_instr.specs.declared.steps.Step.{Step}
use Rattle.dl_lemmas.proofs.Places.{one_at}
use Rattle.dl_live.specs.Dropped.{IsDropped, drops_of, spread}
use Rattle.dl_live.specs.DroppedLaws.{DroppedIsOne}
use Rattle.dl_lemmas.proofs.Tests.{same_truth}

one_op : (op : OpDecl) (steps made other : List Step) → IsDropped op steps made → IsDropped op steps other → made ≡ other
one_op op steps made other a b =
    let same : a.picks ≡ b.picks = fun_ext (λ at. fun_ext (λ local. same_truth (a.picks at local) (b.picks at local)
    (λ is. (b.exact at local).1 ((a.exact at local).0 is)) (λ is. (a.exact at local).1 ((b.exact at local).0 is)))) in
    a.is ∙ ap (λ (picks : ℕ → ℕ → Bool). spread (λ at. drops_of (picks at) (length (op.params ++ op.vars))) steps) same ∙ sym b.is

same_code : (a b : Code) → a.source ≡ b.source → a.ops ≡ b.ops → a ≡ b
same_code a b source ops =
    let with_source : Module → Code = λ s. record { source = s; ops = a.ops } in
    let with_ops : List (List Step) → Code = λ o. record { source = b.source; ops = o } in
    ap with_source source ∙ ap with_ops ops

pub dropped_is_one : DroppedIsOne
dropped_is_one source code made other is a b =
    same_code made other (a.same_source ∙ sym b.same_source)
    (same_lists made.ops other.ops (a.one_each ∙ sym b.one_each) (λ k d h.
    let long = a.one_each in
    let other_long = b.one_each in
    let code_long = is.one_each in
    let op = one_at source.ops k (omega (arith, h, long, code_long)) in
    let steps = one_at code.ops k (omega (arith, h, long)) in
    let one = one_at made.ops k h in
    let two = one_at other.ops k (omega (arith, h, long, other_long)) in
    let same = one_op op.0 steps.0 one.0 two.0 (a.ops k op.0 steps.0 one.0 op.1 steps.1 one.1) (b.ops k op.0 steps.0 two.0 op.1 steps.1 two.1) in
    get_or_from_slice_get made.ops k one.0 d one.1 ∙ same ∙ sym (get_or_from_slice_get other.ops k two.0 d two.1)))
