use Rattle.std.proofs.Common.{arith, ◌+◌, ◌≤◌, drop, length, sum_by}
use Rattle.std.proofs.lemmas.List.Elements.{All-push}
use Rattle.std.proofs.lemmas.Grind.{common_steps}
use Rattle.dl_ir.specs.declared.modules.KindDecl.{KindDecl}
use Rattle.dl_grammar.specs.declared.tree.TreeKind.{TreeKind}
use Rattle.dl_types.proofs.declarations.kinds_typed.Goals as goal

pub loop-kind-preserved : goal.loop-kind-preserved
loop-kind-preserved c =
    let few : (c.loop-kind.next + c.in_ok-declared.declared.count) + sum_by (λ (k : TreeKind). k.count) (drop (c.loop-kind.kind-index + 1) c.args.kinds.now) ≤ 1024 = grind (arith, common_steps) in
    record {
      count = grind (arith, common_steps);
      roots = grind (arith, common_steps);
      few_roots = few;
      few_fields = grind (arith, common_steps);
      each_few = rw c.in_ok-push.ensures.ok (All-push (λ (k : KindDecl). length k.fields ≤ 16) c.loop-kind.typed c.in_ok-declared.declared c.loop-kind.invariant.each_few c.in_ok-declared.ensures.few_fields);
      left = grind (arith, common_steps);
    }
