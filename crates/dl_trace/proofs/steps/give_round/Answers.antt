use Rattle.std.proofs.Common.{◌≡◌, ◌+◌, ◌∙◌, ℕ, List, length, sym, ap, arith}
use Rattle.std.specs.Prelude.{fold}
use Rattle.dl_core.specs.Sound.{numbers_from}
use Rattle.dl_trace.specs.Runs.{take_turn}
use Rattle.dl_trace.proofs.Goings.{goes_as, goes_both, fold_numbers, so_many}
use Rattle.dl_trace.proofs.steps.give_round.Goals as goal

pub callers-preserved : goal.callers-preserved
callers-preserved g c =
    let files = c.args.files.now in
    let one : c.callers.place + 1 ≡ 1 + c.callers.place = omega arith in
    goes_as files (λ plan run like e. ap (take_turn plan files (fold (take_turn plan files) run (numbers_from 1 c.callers.place))) one ∙ sym (fold_numbers (take_turn plan files) c.callers.place 1 run))
    (goes_both files c.callers.invariant c.give_turn.ensures)

pub returns : goal.returns
returns g c =
    let files = c.args.files.now in
    let many = so_many c.args.core.now files c.requires.way in
    let all : c.callers.place ≡ length c.args.core.now.sizes = omega (arith, many) in
    goes_as files (λ plan run like e. ap (λ (n : ℕ). fold (take_turn plan files) run (numbers_from 1 n)) (all ∙ ap (λ (ns : List ℕ). length ns) (sym like.sizes))) c.callers.invariant
