use Rattle.std.proofs.Common.{◌≡◌, ◌≤◌, ◌∙◌, length, map, ap, subst, sym, arith}
use Rattle.std.specs.Prelude.{All}
use Rattle.std.proofs.lemmas.List.{length-map}
use Rattle.dl_ir.specs.Checked.{IsChecked}
use Rattle.dl_ir.specs.Heap.{HasStart}
use Rattle.dl_command.specs.Causes.{Refuses}
use Rattle.dl_command.specs.Loading.{IsNumberOf}
use Rattle.dl_command.specs.Wanted.{Wanted, wanted, wanted_held}
use Rattle.dl_command.specs.Words.{request_of}
use Rattle.dl_command.proofs.FileLemmas.{can_start, files_before, refuses_behind}
use Rattle.dl_command.proofs.WantedLemmas.{held_numbered, wanted_numbered}
use Rattle.dl_command.proofs.loading.read_input.Goals as goal

pub returns-in-Err-clause-cause : goal.returns-in-Err-clause-cause
returns-in-Err-clause-cause g c = Refuses.no_module c.in-Err.ensures.cause

pub read_behind-requires-clause-numbers : goal.read_behind-requires-clause-numbers
read_behind-requires-clause-numbers g c =
    let request = request_of c.args.command.now in
    let held : map wanted_held c.as_slice.result.now ≡ wanted request = ap (map wanted_held) c.as_slice.ensures.value ∙ c.in-Ok-wanted_files.ensures in
    let few : length request.rest ≤ 65 = omega (arith, c.requires, length-map c.args.command.now.rest.items (λ path. path.now)) in
    held_numbered c.as_slice.result.now (subst (All (λ (file : Wanted). IsNumberOf file.form file.number)) (sym held) (wanted_numbered request few))

pub read_behind-requires-clause-start : goal.read_behind-requires-clause-start
read_behind-requires-clause-start g c = subst HasStart (sym c.new-input.ensures.source) c.in-Ok.ensures.checked.start

pub returns-in-Ok-read_behind-clause-spells : goal.returns-in-Ok-read_behind-clause-spells
returns-in-Ok-read_behind-clause-spells g c =
    let held : map wanted_held c.as_slice.result.now ≡ wanted (request_of c.args.command.now) = ap (map wanted_held) c.as_slice.ensures.value ∙ c.in-Ok-wanted_files.ensures in
    let ok = rw held at c.in-Ok-read_behind.ensures.ok in
    record {
      source_file = rw (c.read_behind.ensures.tree ∙ c.new-input.ensures.tree, c.read_behind.ensures.source ∙ c.new-input.ensures.source) c.in-Ok.ensures.ok;
      behind = files_before _ _ _ _ _ _ c.in-Ok.ensures.after.same ok;
    }

pub returns-in-Ok-read_behind-clause-start : goal.returns-in-Ok-read_behind-clause-start
returns-in-Ok-read_behind-clause-start g c =
    let request = request_of c.args.command.now in
    let held : map wanted_held c.as_slice.result.now ≡ wanted request = ap (map wanted_held) c.as_slice.ensures.value ∙ c.in-Ok-wanted_files.ensures in
    let ok = rw held at c.in-Ok-read_behind.ensures.ok in
    can_start _ request c.read_behind.new.input (subst IsChecked (sym (c.read_behind.ensures.source ∙ c.new-input.ensures.source)) c.in-Ok.ensures.checked) ok

pub returns-clause-cause : goal.returns-clause-cause
returns-clause-cause g c =
    let held : map wanted_held c.as_slice.result.now ≡ wanted (request_of c.args.command.now) = ap (map wanted_held) c.as_slice.ensures.value ∙ c.in-Ok-wanted_files.ensures in
    let cause = rw (held, c.read_behind.ensures.source ∙ c.new-input.ensures.source) at c.in-Err-read_behind.ensures.cause in
    refuses_behind c.in-Ok.ensures.after c.in-Ok.ensures.ok cause
