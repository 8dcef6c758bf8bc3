-- What the files of the host and a sink over a writer tell.
use Rattle.std.specs.Prelude.{[], None, false}
use Rattle.dl_io.specs.Source.{Source}
use Rattle.dl_io.specs.Taken.{Taken}
use Rattle.dl_io.specs.declared.real.RealFiles.{RealFiles}
use Rattle.dl_io.specs.declared.real.RealSink.{RealSink}

-- what real files tell: what happened to them, and nothing of their content
abbrev pub source_of : {R F D : Type 0} → RealFiles R F D → Source
source_of files = record {
  bytes_at = λ _. None;
  sound_paths = [];
  attached = files.attached;
  is_sound = false;
  left = None;
  given = files.given;
  failed_last = files.failed_last;
  faults = files.faults;
}

-- files of which nothing is told and to which nothing happened
abbrev pub untold : Source
untold = record {
  bytes_at = λ _. None;
  sound_paths = [];
  attached = None;
  is_sound = false;
  left = None;
  given = 0;
  failed_last = None;
  faults = 0;
}

-- what a real sink tells: the number of its faults
abbrev pub taken_of : {W : Type 0} → RealSink W → Taken
taken_of sink = record { written = None; faults = sink.faults }
