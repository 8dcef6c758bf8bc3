use Rattle.std.proofs.Common.{◌∙◌}
use Rattle.dl_command.specs.Loading.{StopsAt}
use Rattle.dl_command.specs.Texts.{behind_of}
use Rattle.dl_command.specs.Wanted.{wanted_held}
use Rattle.dl_command.proofs.FileLemmas.{loaded_more, no_file_before}
use Rattle.dl_command.proofs.WantedLemmas.{seen_at}
use Rattle.dl_command.proofs.loading.read_behind.Goals as goal

pub returns-in-Err-clause-cause : goal.returns-in-Err-clause-cause
returns-in-Err-clause-cause g c =
    let before = c.wanted.invariant.loaded in
    StopsAt.no_file (behind_of c.wanted.input) c.wanted.file-index _ before.files (seen_at wanted_held c.args.wanted.now c.wanted.file-index _ c.wanted-test.true)
    (no_file_before before.after c.in-Err.ensures.cause)

pub wanted-preserved : goal.wanted-preserved
wanted-preserved g c =
    let before = c.wanted.invariant in
    let more = loaded_more c.args.wanted.now c.wanted.file-index _ (behind_of c.wanted.input) c.in-Ok.content c.wanted-test.true before.loaded c.in-Ok.ensures.after
    c.in-Ok.ensures.within c.in-Ok.ensures.ok c.in-Ok.ensures.calls in
    record {
      tree = c.add.ensures.tree ∙ before.tree;
      source = c.add.ensures.source ∙ before.source;
      loaded = rw (c.add.ensures.source, c.in-Ok-add.ensures.behind) more;
    }
