use Rattle.std.proofs.Common.{◌≡◌, ◌+◌, ◌≤◌, length}
use Rattle.dl_heapfile.specs.Form.{Skips}
use Rattle.dl_heapfile.proofs.front.find_heap.Given as goal

-- the lines before do not begin with the word heap
abbrev pub invariant-lines : goal.invariant-lines
invariant-lines l = record {
  skips : Skips 1 l.bytes l.line l.rest;
  first : l.line ≡ 1 → l.rest ≡ l.bytes;
  low : 1 ≤ l.line;
  within : l.line + length l.rest ≤ length l.bytes + 1;
}

abbrev pub decreases-lines : goal.decreases-lines
decreases-lines l = length l.rest
