use Rattle.dl_command.proofs.work.replay_legal.Goals as goal

pub replay-requires-clause-named : goal.replay-requires-clause-named
replay-requires-clause-named c =
    c.covered_entries_name_operations.ensures c.args.files.now c.args.run.now.history.entries c.args.run.now.refusals c.requires.covers
