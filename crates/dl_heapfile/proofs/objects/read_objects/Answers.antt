use Rattle.std.proofs.Common.{◌≡◌, ◌+◌, List, [], ◌∷◌, length, arith, sym, ap, subst, length-append}
use Rattle.dl_ir.specs.declared.names.Name.{Name}
use Rattle.dl_ir.specs.declared.objects.Obj.{Obj}
use Rattle.dl_heapfile.specs.Form.{Tells, AreListed}
use Rattle.dl_heapfile.proofs.Placed.{next_shorter}
use Rattle.dl_heapfile.proofs.Spelled.{none_listed, listed_more}
use Rattle.dl_heapfile.proofs.objects.read_objects.Goals as goal

pub objects-init : goal.objects-init
objects-init c =
    let none : c.new-entries.result ≡ [] = c.new-entries.ensures in
    record {
      back = λ outcome tells. subst (λ (es : List (Name × Obj)). Tells c.args.source.now es c.args.first c.args.text.now outcome) none tells;
      listed = subst (AreListed c.args.source.now) (sym none) (none_listed c.args.source.now);
      count = omega (arith, ap length none);
      within = omega arith;
    }

pub objects-preserved : goal.objects-preserved
objects-preserved c =
    let source = c.args.source.now in
    let before = c.objects.entries in
    let entry = c.in-Some.entry in
    let rest = c.in-Some.more.now in
    let more = c.in_ok-push.ensures.ok in
    record {
      back = λ outcome tells. c.objects.invariant.back outcome (Tells.object entry c.in-Some.ensures (subst (λ (es : List (Name × Obj)). Tells source es (c.objects.line + 1) rest outcome) more tells));
      listed = subst (AreListed source) (sym more) (listed_more source before entry c.objects.invariant.listed c.in-Some.ensures.follows c.in-Some.ensures.begins.name c.in-Some.ensures.begins.object);
      count = omega (arith, ap length more, length-append before (entry ∷ []), c.objects.invariant.count);
      within = omega (arith, next_shorter source c.objects.rest.now rest entry c.in-Some.ensures.begins, c.objects.invariant.within);
    }
