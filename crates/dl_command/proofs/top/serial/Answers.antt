use Rattle.std.proofs.Common.{refl}
use Rattle.dl_command.specs.Promise.{Finishes}
use Rattle.dl_command.proofs.top.serial.Goals as goal

pub returns-in-Ok-run_from : goal.returns-in-Ok-run_from
returns-in-Ok-run_from g c =
    let ran = rw (c.as_slice.ensures.value, c.in-Ok.ensures) at c.in-Ok-run_from.ensures.run in
    let left = rw (c.as_slice.ensures.value, c.in-Ok.ensures) at c.in-Ok-run_from.ensures.heap in
    let wrote = rw (c.as_slice-in-Ok-run_from.ensures.value, left) at c.write_run-status.ensures in
    Finishes.wrote _ (record { is_run = ran; is_report = refl }) wrote
