use Rattle.std.proofs.Common.{◌≡◌, inl, inr, length, sym, ap, subst, ◌∙◌, arith}
use Rattle.std.specs.Prelude.{◌↔◌, IsTrue, slice_get}
use Rattle.std.proofs.lemmas.Option.{slice_get_cases}
use Rattle.dl_core.specs.declared.stages.Stage.{Stage}
use Rattle.dl_core.specs.declared.stages.Stage.TheVariants as stages
use Rattle.dl_core.specs.Core.{frame_of}
use Rattle.dl_core.specs.Frames.{Frame}
use Rattle.dl_core.specs.Machines.{Machine}
use Rattle.dl_core.proofs.InRun.{count, frame_is}
use Rattle.dl_core.proofs.machines.Core.is_idle.Goals as goal

pub is_idle_at-requires : goal.is_idle_at-requires
is_idle_at-requires c =
    let i = c.self.inside in
    omega (arith, count i.code i.places i.sizes i.heap i.frames.items i.counters c.self.invariant.0, c.requires.caller.to_last, ap (λ (m : Machine). length m.sizes) c.self.view_is, ap length c.as_slice.ensures.value)

pub returns : goal.returns
returns c =
    let i = c.self.inside in
    elim (slice_get_cases i.frames.items c.args.caller).1 [
      | inl found ↦
          let is = ap (λ (f : Frame). f.stage) (frame_is i.code i.places i.sizes i.heap i.frames.items i.counters c.self.invariant.0 c.args.caller found.0 found.2) in
          subst (λ (s : Stage). IsTrue c.is_idle_at.result ↔ (s ≡ stages.Idle)) (sym is ∙ ap (λ (m : Machine). (frame_of m.state.world c.args.caller).stage) c.self.view_is)
          (c.is_idle_at.ensures found.0 (ap (λ fs. slice_get fs c.args.caller) c.as_slice.ensures.value ∙ found.2))
      | inr past ↦ absurd (omega (arith, past.0, count i.code i.places i.sizes i.heap i.frames.items i.counters c.self.invariant.0, c.requires.caller.to_last, ap (λ (m : Machine). length m.sizes) c.self.view_is))
    ]
