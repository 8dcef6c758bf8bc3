-- What a buffer holds, and what becomes of a text that is put into it.
use Rattle.std.specs.Prelude.{◌≡◌, ℕ, ◌≤◌, Bool, true, false, List, [], ◌++◌, Result, OnOk, OnErr}
use Rattle.dl_io.specs.Faults.{Rose}
use Rattle.dl_io.specs.Taken.{Taken, Took}

-- a buffer: the bytes that were put and not yet written, and whether a call failed
pub record Buffered : Type 0 where
  pub bytes : List ℕ
  pub failed : Bool

-- a buffer in which nothing is
abbrev pub nothing : Buffered
nothing = record { bytes = []; failed = false }

-- a buffer after a fault, which keeps nothing
abbrev pub broken : Buffered
broken = record { bytes = []; failed = true }

-- some of the bytes were taken, and the rest is buffered
pub record Passes (sink : Taken) (out : Buffered) (bytes : List ℕ) (sink_after : Taken) (out_after : Buffered) : Type 0 where
  pub works : out_after.failed ≡ false
  pub later : sink.faults ≤ sink_after.faults
  pub taken : List ℕ
  pub took : Took sink.written sink_after.written taken
  pub whole : taken ++ out_after.bytes ≡ out.bytes ++ bytes

-- a prefix was taken, and the sink's count rose
pub record Breaks (sink : Taken) (out : Buffered) (bytes : List ℕ) (sink_after : Taken) : Type 0 where
  pub rose : Rose sink.faults sink_after.faults
  pub later : sink.faults ≤ sink_after.faults
  pub taken : List ℕ
  pub lost : List ℕ
  pub took : Took sink.written sink_after.written taken
  pub whole : taken ++ lost ≡ out.bytes ++ bytes

-- the bytes are put, or the sink failed and the buffer with it
pub record Puts {E : Type 0} (sink : Taken) (out : Buffered) (bytes : List ℕ) (result : Result (Unit {0}) E) (sink_after : Taken) (out_after : Buffered) : Type 0 where
  pub ok : OnOk result (Passes sink out bytes sink_after out_after)
  pub err : OnErr result ((out_after ≡ broken) × Breaks sink out bytes sink_after)
