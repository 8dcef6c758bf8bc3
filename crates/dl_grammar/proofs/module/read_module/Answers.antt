use Rattle.std.proofs.Common.{ap, subst, ◌∙◌}
use Rattle.dl_grammar.specs.Grammar.{finish}
use Rattle.dl_grammar.specs.Readers as read
use Rattle.dl_grammar.specs.Texts.{lexemes_in, lexemes_of, text_fault, Answers}
use Rattle.dl_grammar.proofs.Whole.{whole_found, whole_only, whole_fault, whole_only_fault, text_only_fault}
use Rattle.dl_grammar.proofs.Limited.{all_in_limits}
use Rattle.dl_grammar.proofs.module.read_module.Goals as goal
use Rattle.dl_grammar.proofs.module.read_module.Goals.{After-read_lexemes}

pub returns-in-Err-clause-only : goal.returns-in-Err-clause-only
returns-in-Err-clause-only c = λ tree h. c.text_fault.ensures ∙ ap text_fault (c.in-Err.ensures.only h.0 h.2)

pub returns-in-Err-clause-only_fault : goal.returns-in-Err-clause-only_fault
returns-in-Err-clause-only_fault c = λ g h real.
    c.text_fault.ensures ∙ text_only_fault c.args.bytes.now c.in-Err.fault c.in-Err.ensures.only c.in-Err.ensures.only_fault g h (λ m. real (c.text_fault.ensures ∙ m))

-- what was made of the lexemes was made of those of the tokens
answers : (c : After-read_lexemes) → Answers (finish (read.module_text (lexemes_of c.args.bytes.now c.in-Ok.found))) (lexemes_of c.args.bytes.now c.in-Ok.found) c.read_lexemes.result
answers c =
    subst (λ ls. Answers (finish (read.module_text ls)) ls c.read_lexemes.result) (c.as_slice.ensures ∙ c.in-Ok-lexemes.ensures ∙ ap (λ v. lexemes_in v c.args.bytes.now c.as_slice-scanned.result.now) c.version_of-version.ensures ∙ ap (lexemes_of c.args.bytes.now) c.as_slice-scanned.ensures) c.read_lexemes.ensures

pub returns-clause-found : goal.returns-clause-found
returns-clause-found c = whole_found c.args.bytes.now c.in-Ok.found c.in-Ok.ensures.found c.read_lexemes.result (answers (goal.at.returns-clause-found c).After-read_lexemes)

pub returns-clause-limits : goal.returns-clause-limits
returns-clause-limits c = all_in_limits c.args.bytes.now c.read_lexemes.result (whole_found c.args.bytes.now c.in-Ok.found c.in-Ok.ensures.found c.read_lexemes.result (answers (goal.at.returns-clause-limits c).After-read_lexemes))

pub returns-clause-only : goal.returns-clause-only
returns-clause-only c = whole_only c.args.bytes.now c.in-Ok.found c.in-Ok.ensures.found c.read_lexemes.result (answers (goal.at.returns-clause-only c).After-read_lexemes)

pub returns-clause-fault : goal.returns-clause-fault
returns-clause-fault c = whole_fault c.args.bytes.now c.in-Ok.found c.in-Ok.ensures.found c.read_lexemes.result (answers (goal.at.returns-clause-fault c).After-read_lexemes)

pub returns-clause-only_fault : goal.returns-clause-only_fault
returns-clause-only_fault c = whole_only_fault c.args.bytes.now c.in-Ok.found c.in-Ok.ensures.found c.read_lexemes.result (answers (goal.at.returns-clause-only_fault c).After-read_lexemes)
