use Rattle.std.proofs.Common.{◌∙◌, sym}
use Rattle.dl_trace.proofs.Makings.{left_falls_as, made_more_as}
use Rattle.dl_trace.proofs.running.make_rounds.Goals as goal

pub rounds-smaller : goal.rounds-smaller
rounds-smaller g c =
    left_falls_as c.rounds.rounds.files.now c.go_on.new.self.files.now c.go_on.ensures.files c.rounds.rounds.left c.go_on.new.self.left c.go_on.ensures.goes
    (sym c.are_over.ensures ∙ c.rounds-test.true)

pub rounds-preserved : goal.rounds-preserved
rounds-preserved g c = record {
  made = made_more_as c.args.files.now c.rounds.rounds.files.now c.rounds.invariant.files c.rounds.invariant.made c.go_on.ensures.goes (sym c.are_over.ensures ∙ c.rounds-test.true);
  files = c.go_on.ensures.files ∙ c.rounds.invariant.files;
  reference = c.go_on.ensures.same_reference ∙ c.rounds.invariant.reference;
}
