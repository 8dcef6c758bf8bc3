use Rattle.std.proofs.Common.{◌∙◌, sym, arith}
use Rattle.std.proofs.lemmas.Result.{err_from_is_err_and}
use Rattle.dl_syntax.proofs.CallSteps.{line_fails, line_says}
use Rattle.dl_syntax.proofs.operation_file.calls_of.Goals as goal

pub returns-in_err-call : goal.returns-in_err-call
returns-in_err-call c =
    let p = err_from_is_err_and c.from_residual.result c.from_residual.ensures.1 in
    rw (p.1, p.2)
    (λ ne. sym c.loop-rest.invariant.says
    ∙ line_fails c.args.source.now c.loop-rest.line c.loop-rest.calls c.loop-rest.rest.now c.first_line.result.0.now c.len.result c.in_err-call.field-0.0
    c.first_line.ensures.line c.len.ensures (c.in_err-call.ensures ne))

pub loop-rest-preserved : goal.loop-rest-preserved
loop-rest-preserved c = record {
  says = line_says c.args.source.now c.loop-rest.line c.loop-rest.calls c.add_call.new.calls c.loop-rest.rest.now c.first_line.result.0.now c.first_line.result.1.now c.len.result c.in_ok-call.call
      c.first_line.ensures.line c.first_line.ensures.rest c.len.ensures c.in_ok-call.ensures c.in_ok-add_call.ensures
      ∙ c.loop-rest.invariant.says;
  within = omega arith;
}
