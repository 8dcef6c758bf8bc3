use Rattle.std.proofs.Common.{rules, arith, ◌≡◌, length, List, map, ◌∙◌, ap, sym, subst}
use Rattle.std.proofs.lemmas.List.{length-map}
use Rattle.dl_ir.specs.declared.calls.Call.{Call}
use Rattle.dl_core.specs.Closing.{AreIdle, EndsOn}
use Rattle.dl_core.specs.Plans.{Plan}
use Rattle.dl_machine.specs.Files.{AreReady}
use Rattle.dl_machine.proofs.Rooms.{ready_from, idle_from, served_at, number_at, whole}
use Rattle.dl_machine.proofs.Covering.{is_run, have_run_from, begun_same}
use Rattle.dl_machine.proofs.files.run_files.Goals as goal

pub run_all-requires-clause-ready : goal.run_all-requires-clause-ready
run_all-requires-clause-ready g c κs within =
    let files : List (List Call) = c.args.files.now in
    let many : length c.args.passes.items ≡ length files = c.requires.fresh.count ∙ ap length c.requires.sizes ∙ length-map files (λ (file : List Call). length file) in
    let same : c.as_mut_slice.result.now ≡ c.args.passes.items = search rules in
    subst (AreReady (g.G.Ground.plan c.args.ground) (g.G.Ground.is_of c.args.ground) g.G.Ground.view files) (sym same)
    (ready_from (g.G.Ground.plan c.args.ground) (g.G.Ground.is_of c.args.ground) g.G.Ground.view files c.args.passes.items c.requires.fresh c.requires.sizes c.requires.fits many)

pub close-requires : goal.close-requires
close-requires g c =
    let plan : Plan = g.G.Ground.plan c.args.ground in
    let new = c.run_all.new.passes in
    let same : length new ≡ length c.args.passes.items = search rules in
    record {
      idle = subst (AreIdle plan (g.G.Ground.is_of c.args.ground) g.G.Ground.view) (sym (whole c.args.passes.len new c.args.passes.items (search rules) same))
          (idle_from plan (g.G.Ground.is_of c.args.ground) g.G.Ground.view c.args.passes.items new c.requires.fresh c.run_all.ensures.served (search rules) same);
    }

pub returns : goal.returns
returns g c =
    let plan : Plan = g.G.Ground.plan c.args.ground in
    let new = c.run_all.new.passes in
    let same : length new ≡ length c.args.passes.items = search rules in
    is_run c.runs_close.ensures plan c.args.files.now (map g.G.Ground.view new) c.close.result c.requires.plan
    (have_run_from g.G.Ground.view 1 new (λ at pass there. (
      (served_at plan (g.G.Ground.is_of c.args.ground) g.G.Ground.view c.args.passes.items new c.requires.fresh c.run_all.ensures.served (search rules) same at pass there).1,
      (let number = number_at plan (g.G.Ground.is_of c.args.ground) g.G.Ground.view c.args.passes.items new c.requires.fresh c.run_all.ensures.served (search rules) same at pass there in omega arith),
    )))
    (begun_same g.G.Ground.view new ∙ search rules)
    (subst (λ passes. EndsOn plan (map g.G.Ground.view passes) c.close.result) (whole c.args.passes.len new c.args.passes.items (search rules) same) c.close.ensures)
