use Rattle.std.proofs.Common.{inl, inr, length, sym, ap, ◌∙◌, arith}
use Rattle.std.specs.Prelude.{slice_get}
use Rattle.std.proofs.lemmas.Option.{slice_get_cases}
use Rattle.dl_core.specs.Core.{frame_of}
use Rattle.dl_core.specs.Frames.{Frame}
use Rattle.dl_core.specs.Machines.{Machine}
use Rattle.dl_core.proofs.InRun.{count, frame_is}
use Rattle.dl_core.proofs.machines.Core.begun.Goals as goal

pub begun_at-requires : goal.begun_at-requires
begun_at-requires c =
    let i = c.self.inside in
    omega (arith, count i.code i.places i.sizes i.heap i.frames.items i.counters c.self.invariant.0, c.requires.caller.to_last, ap (λ (m : Machine). length m.sizes) c.self.view_is, ap length c.as_slice.ensures.value)

pub returns : goal.returns
returns c =
    let i = c.self.inside in
    elim (slice_get_cases i.frames.items c.args.caller).1 [
      | inl found ↦
          let is = ap (λ (f : Frame). f.index) (frame_is i.code i.places i.sizes i.heap i.frames.items i.counters c.self.invariant.0 c.args.caller found.0 found.2) in
          c.begun_at.ensures found.0 (ap (λ fs. slice_get fs c.args.caller) c.as_slice.ensures.value ∙ found.2)
          ∙ sym is ∙ ap (λ (m : Machine). (frame_of m.state.world c.args.caller).index) c.self.view_is
      | inr past ↦ absurd (omega (arith, past.0, count i.code i.places i.sizes i.heap i.frames.items i.counters c.self.invariant.0, c.requires.caller.to_last, ap (λ (m : Machine). length m.sizes) c.self.view_is))
    ]
