use Rattle.std.proofs.Common.{◌++◌, length, map, ap, ◌∙◌, arith}
use Rattle.dl_core.specs.Core.{entries_of, refusals_of}
use Rattle.dl_core.specs.declared.frames.Frame.{Frame as Kept}
use Rattle.dl_core.specs.Frames.{behind_of}
use Rattle.dl_core.specs.Machines.{Machine, callers_in}
use Rattle.dl_core.proofs.LastRun.{callers, objects_fit, entries_left, refusals_left}
use Rattle.dl_core.proofs.machines.Core.close.Goals as goal

pub close_lists-entries-requires-clause-entries : goal.close_lists-entries-requires-clause-entries
close_lists-entries-requires-clause-entries c =
    let i = c.self.inside in
    omega (arith, callers i.code i.places i.sizes i.heap i.frames.items i.counters c.self.invariant.0, ap length c.self.invariant.1.no_entries, c.self.invariant.1.entries_room)

pub close_lists-entries-requires-clause-refusals : goal.close_lists-entries-requires-clause-refusals
close_lists-entries-requires-clause-refusals c =
    let i = c.self.inside in
    omega (arith, callers i.code i.places i.sizes i.heap i.frames.items i.counters c.self.invariant.0, ap length c.self.invariant.1.no_refusals, c.self.invariant.1.refusals_room)

pub close_heap-requires-clause-room : goal.close_heap-requires-clause-room
close_heap-requires-clause-room c =
    let i = c.self.inside in
    omega (arith, objects_fit i.code i.places i.sizes i.heap i.frames.items i.counters c.self.invariant.0, c.self.invariant.1.room)

pub returns-clause-entries : goal.returns-clause-entries
returns-clause-entries c =
    let i = c.self.inside in
    c.into_items.ensures ∙ c.close_lists-entries.ensures.entries
    ∙ ap (λ lists. lists ++ map (λ (frame : Kept). frame.entries.items) (behind_of i.frames.items)) c.self.invariant.1.no_entries
    ∙ entries_left i.code i.places i.sizes i.heap i.frames.items i.counters c.self.invariant.0
    ∙ ap (λ (m : Machine). map (entries_of m.state) (callers_in m)) c.self.view_is

pub returns-clause-refusals : goal.returns-clause-refusals
returns-clause-refusals c =
    let i = c.self.inside in
    c.into_items-2.ensures ∙ c.close_lists-entries.ensures.refusals
    ∙ ap (λ lists. lists ++ map (λ (frame : Kept). frame.refusals.items) (behind_of i.frames.items)) c.self.invariant.1.no_refusals
    ∙ refusals_left i.code i.places i.sizes i.heap i.frames.items i.counters c.self.invariant.0
    ∙ ap (λ (m : Machine). map (refusals_of m.state) (callers_in m)) c.self.view_is
