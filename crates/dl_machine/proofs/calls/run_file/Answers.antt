use Rattle.std.proofs.Common.{arith, ◌≡◌, ◌+◌, ◌++◌, ◌∷◌, [], List, take, ap, sym, ◌∙◌, append_assoc}
use Rattle.std.proofs.lemmas.List.{take_more}
use Rattle.dl_ir.specs.declared.calls.Call.{Call}
use Rattle.dl_core.specs.Passes.{PassView}
use Rattle.dl_machine.proofs.Serving.{served_on, has_run}
use Rattle.dl_machine.proofs.calls.run_file.Goals as goal

pub loop-one-preserved : goal.loop-one-preserved
loop-one-preserved g c =
    let before : PassView = g.G.Ground.view c.loop-one.pass in
    let after : PassView = g.G.Ground.view c.call.new.pass in
    let call : Call = c.one-item.result in
    let old : List Call = (g.G.Ground.view c.args.pass.now).calls in
    let file : List Call = c.args.file.now in
    let kept = c.loop-one.invariant in
    let run = has_run call before after _ c.call.ensures.reply in
    let more : take (c.loop-one.one-index + 1) file ≡ take c.loop-one.one-index file ++ call ∷ [] = take_more file c.loop-one.one-index _ (omega arith) ∙ ap (λ one. take c.loop-one.one-index file ++ one ∷ []) (sym c.one-item.is) in (
      c.call.ensures.of,
      served_on call before after _ kept.1 c.call.ensures.reply,
      run.calls ∙ ap (λ calls. calls ++ call ∷ []) kept.2 ∙ append_assoc old (take c.loop-one.one-index file) (call ∷ []) ∙ ap (λ more. old ++ more) (sym more),
      run.caller ∙ kept.3,
    )
