use Rattle.std.proofs.Common.{◌+◌, length, length-append, arith, ap, sym, ◌∙◌, ◌∷◌, []}
use Rattle.dl_grammar.specs.Readers as read
use Rattle.dl_grammar.proofs.MoreSteps.{fields_shrink, fields_next}
use Rattle.dl_grammar.proofs.cursor.Cursor.fields_behind.Goals as goal

pub found-smaller : goal.found-smaller
found-smaller c = fields_shrink c.args.most c.args.bound c.args.stand c.found.found _ _ _ (c.args.stand + c.len.result) _ _ c.in_ok-_comma.ensures (ap (λ n. c.args.stand + n) c.len.ensures) c.in_ok-next.ensures.reads

pub found-preserved : goal.found-preserved
found-preserved c = record {
  same =
      c.found.invariant.same
      ∙ fields_next c.args.most c.args.bound c.args.stand c.found.found _ _ _ (c.args.stand + c.len.result) _ _ c.in_ok-_comma.ensures (ap (λ n. c.args.stand + n) c.len.ensures) c.in_ok-next.ensures.reads
      ∙ ap (λ all. read.fields_more c.args.most c.args.bound c.args.stand all c.field-in-found.new.self.rest.now) (sym c.in_ok-push-2.ensures.ok);
  few = omega (arith, ap length c.in_ok-push-2.ensures.ok, length-append c.found.found (c.in_ok-next.next ∷ []), c.len.ensures, c.in_ok-next.ensures.fewer);
}
