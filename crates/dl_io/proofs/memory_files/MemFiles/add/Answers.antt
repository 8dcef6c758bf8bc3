use Rattle.std.proofs.Common.{◌≡◌, None, refl}
use Rattle.dl_io.proofs.MemoryLemmas.{none_of-option_map, bytes_in-push-here, bytes_in-push-other, sound_paths_in-push}
use Rattle.dl_io.proofs.memory_files.MemFiles.add.Goals as goal

pub returns-clause-ok : goal.returns-clause-ok
returns-clause-ok c =
    let unread : c.args.self.now.reading ≡ None = none_of-option_map (λ reading. reading.file) c.args.self.now.reading c.requires.unread in
    let same_path = c.in_ok-path.ensures.ok in
    let same_bytes = c.in_ok-bytes.ensures.items in
    rw c.in_ok-push.ensures.items record {
      here = rw (← same_bytes) (bytes_in-push-here _ _ _ same_path c.requires.is_new);
      others = λ q n. bytes_in-push-other _ _ q (rw same_path n);
      sound = rw (← same_path) (sound_paths_in-push _ _ _);
      rest = rw unread refl;
    }
