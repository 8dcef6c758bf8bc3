use Rattle.std.proofs.Common.{[], ◌∙◌}
use Rattle.dl_grammar.specs.Texts.{version_of}
use Rattle.dl_print.specs.Canonical.{pieces_of, canonical}
use Rattle.dl_print.proofs.Neighbours.{tree_apart}
use Rattle.dl_print.proofs.Scanning.{scan}
use Rattle.dl_print.proofs.Versions.{version_fits, same_lexes}
use Rattle.dl_print.proofs.laws.pieces_are_tokens.Goals as goal

pub returns : goal.returns
returns c = λ tree are.
    let scanned = scan tree.version (pieces_of tree) (tree_apart tree) are [] 1 in
    let fits = version_fits tree.version tree.version (canonical tree) scanned.tokens _ _ scanned.says in (
      scanned.tokens,
      (scanned.to, scanned.last, scanned.cut),
      same_lexes (version_of (canonical tree) scanned.tokens) tree.version fits (canonical tree) scanned.tokens ∙ scanned.says,
    )
