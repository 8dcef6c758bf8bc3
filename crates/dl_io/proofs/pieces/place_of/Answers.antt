use Rattle.std.proofs.Common.{◌≡◌, true, sym}
use Rattle.std.specs.Prelude.{bytes_eq, string_bytes}
use Rattle.dl_io.proofs.MemoryLemmas.{bytes_in-at, bytes_in-there}
use Rattle.dl_io.proofs.pieces.place_of.Goals as goal

pub returns-then-eq-clause-place : goal.returns-then-eq-clause-place
returns-then-eq-clause-place c =
    let here : bytes_eq (string_bytes c.index-files-i.result.path) c.args.path.now ≡ true = rw (← c.as_str.ensures.value) (sym c.if-eq.ensures) in
    bytes_in-at _ _ c.index-files-i.result _ c.loop-i-test.true c.index-files-i.is here c.loop-i.invariant

pub returns-then-eq-clause-there : goal.returns-then-eq-clause-there
returns-then-eq-clause-there c =
    let here : bytes_eq (string_bytes c.index-files-i.result.path) c.args.path.now ≡ true = rw (← c.as_str.ensures.value) (sym c.if-eq.ensures) in
    bytes_in-there _ _ c.index-files-i.result _ c.loop-i-test.true c.index-files-i.is here c.loop-i.invariant
