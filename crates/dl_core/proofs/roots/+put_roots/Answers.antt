use Rattle.std.proofs.Common.{ℕ, ap, arith, length}
use Rattle.std.proofs.lemmas.Grind.{common_steps}
use Rattle.dl_core.specs.Rooms.{Roomed}
use Rattle.dl_core.proofs.FewRoots.{few_roots}
use Rattle.dl_core.proofs.roots.+put_roots.Goals as goal

pub put_root-requires-clause-room : goal.put_root-requires-clause-room
put_root-requires-clause-room t c =
    let is = ap (λ (r : Roomed ℕ). length r.items) c.put_roots.ensures in
    let room = ap (λ (r : Roomed ℕ). r.room) c.put_roots.ensures in
    grind (arith, common_steps, few_roots, is, room)
