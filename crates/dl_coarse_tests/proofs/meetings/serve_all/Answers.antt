use Rattle.std.proofs.Common.{◌≡◌, ◌++◌, ◌∷◌, [], sym, subst, arith, rules}
use Rattle.dl_ir.specs.declared.answers.Entry.{Entry}
use Rattle.dl_core.specs.Passes.{PassView}
use Rattle.dl_coarse_tests.specs.Meetings.{HasServed, IsServed}
use Rattle.dl_coarse_tests.proofs.Serving.{nothing_served, served_more, one_more, may_take}
use Rattle.dl_coarse_tests.proofs.meetings.serve_all.Goals as goal

pub calls-init : goal.calls-init
calls-init g c = (c.requires.of, nothing_served _ _ (search rules) c.requires.ready.idle, omega arith)

pub serve-requires-clause-may : goal.serve-requires-clause-may
serve-requires-clause-may g c κs within =
    may_take (g.G.Ground.plan c.args.ground.now) c.args.calls.now (g.G.Ground.view c.args.pass.now) (g.G.Ground.view c.calls.pass) c.calls.call-index c.call-item.result c.requires.ready
    c.calls.invariant.1.rested c.calls.invariant.2 (omega arith) c.call-item.is

pub calls-preserved : goal.calls-preserved
calls-preserved g c =
    let before : PassView = g.G.Ground.view c.args.pass.now in
    let mid : PassView = g.G.Ground.view c.calls.pass in
    let after : PassView = g.G.Ground.view c.serve.new.pass in
    let entries = c.calls.entries.items in
    let entry : Entry = c.in_ok-serve.field-0 in
    let one : IsServed mid c.call-item.result entry after = c.in_ok-serve.ensures.served in
    let items : c.push.new.self.items ≡ entries ++ entry ∷ [] = c.in_ok-push.ensures.items in (
      c.serve.ensures.of,
      subst (λ entries. HasServed before entries after) (sym items) (served_more before mid after entries c.call-item.result entry c.calls.invariant.1 one),
      one_more before mid after entries c.call-item.result entry c.calls.invariant.1 one _ _ c.calls.invariant.2,
    )
