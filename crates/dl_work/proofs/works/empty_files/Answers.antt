use Rattle.std.proofs.Common.{◌+◌, ℕ, List, ◌++◌, [], ◌∷◌, sym, ap, refl, ◌∙◌}
use Rattle.std.proofs.lemmas.List.FromFn.{map-range_with_len_more}
use Rattle.dl_ir.specs.declared.calls.Call.{Call}
use Rattle.dl_work.proofs.works.empty_files.Goals as goal

pub loop-caller-preserved : goal.loop-caller-preserved
loop-caller-preserved c =
    let none : ℕ → List Call = λ caller. [] in
    let n = c.loop-caller._caller in
    c.in_ok-push.ensures.items ∙ ap (λ file. c.loop-caller.files.items ++ file ∷ []) c.new.ensures ∙ ap (λ files. files ++ [] ∷ []) c.loop-caller.invariant ∙ sym (map-range_with_len_more none 1 n (1 + n) refl)
