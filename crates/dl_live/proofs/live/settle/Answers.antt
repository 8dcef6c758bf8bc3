use Rattle.std.proofs.Common.{inl, inr, refl, sym, subst}
use Rattle.std.proofs.lemmas.Option.{slice_get_read}
use Rattle.dl_instr.specs.Drops.{IsReadFrom}
use Rattle.dl_live.proofs.Lives.{live_by}
use Rattle.dl_live.proofs.live.settle.Goals as goal

pub returns-clause-sound : goal.returns-clause-sound
returns-clause-sound c = λ at is. elim (c.mark.ensures.exact at is) [
  | inl old ↦ c.requires.sound at old
  | inr same ↦
      let steps = c.args.steps.now in
      let there = slice_get_read steps _ c.args.at c.index-steps-at.result refl c.requires.there c.index-steps-at.is in
      subst (λ n. IsReadFrom steps c.args.local n) (sym same)
      (live_by steps c.args.local c.args.at c.args.marks.now c.index-steps-at.result c.requires.sound there c.if-not-is_live_by.ensures)
]
