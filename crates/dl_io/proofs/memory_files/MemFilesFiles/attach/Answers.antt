use Rattle.std.proofs.Common.{refl, ap, sym, ◌∙◌}
use Rattle.dl_io.specs.Memory.{is_reliable}
use Rattle.dl_io.proofs.MemoryLemmas.{sound_path, attached_sound}
use Rattle.dl_io.proofs.memory_files.MemFilesFiles.attach.Goals as goal

pub returns-then-is_some-clause-sound : goal.returns-then-is_some-clause-sound
returns-then-is_some-clause-sound c = λ h.
    let s = sound_path c.args.self.now.fails.items c.args.self.now.files.items c.args.path.now h in
    let reliable = ap (λ files. is_reliable files.fails.items) c.fails_now-fails.ensures.same ∙ s.0 in
    let same_files = ap (λ files. files.files.items) c.fails_now-fails.ensures.same in
    let begins = rw c.deref.ensures.value at c.reading_at-self.ensures.begins in
    (refl, attached_sound _ _ _ _ c.args.path.now reliable (rw same_files s.1) begins (sym c.if-is_some.ensures))

pub returns-clause-sound : goal.returns-clause-sound
returns-clause-sound c = λ h.
    let s = sound_path c.args.self.now.fails.items c.args.self.now.files.items c.args.path.now h in
    let same_files = ap (λ files. files.files.items) c.fails_now-fails.ensures.same in
    let found = rw (c.deref.ensures.value, same_files) at c.reading_at-self.ensures.found in
    let some = found (c.fails_now-fails.ensures.reliable s.0) s.1 in
    absurd (cc)
