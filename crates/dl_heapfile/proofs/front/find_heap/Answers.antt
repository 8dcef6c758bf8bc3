use Rattle.std.proofs.Common.{◌≡◌, ◌+◌, ◌≤◌, List, ℕ, ◌∷◌, ◌++◌, true, false, length, arith, refl, sym, subst, length-append}
use Rattle.dl_heapfile.specs.Form.{Skips}
use Rattle.dl_heapfile.specs.Faults.{HasNoHeap}
use Rattle.dl_heapfile.proofs.Heads.{one_line_on, no_heap_left}
use Rattle.dl_heapfile.proofs.front.find_heap.Goals as goal

no : false ≡ true → ⊥
no e = cc

shorter : (text more rest : List ℕ) → rest ≡ text ++ (10 ∷ more) → length more + 1 ≤ length rest
shorter text more rest cut = subst (λ (l : List ℕ). length more + 1 ≤ length l) (sym cut) (simp length-append (omega arith))

pub lines-init : goal.lines-init
lines-init c = record { skips = Skips.none; first = λ e. refl; low = omega arith; within = omega arith }

pub returns-in_default-clause-found : goal.returns-in_default-clause-found
returns-in_default-clause-found c = (
  c.last_line.result,
  refl,
  subst (HasNoHeap c.args.bytes.now) (sym c.last_line.ensures)
      (no_heap_left c.args.bytes.now c.lines.rest.now c.lines.line c.lines.invariant.skips c.lines.invariant.first c.lines.invariant.low c.in_default.ensures (λ is. no (c.lines-test.ensures.1 is))),
)

pub lines-preserved : goal.lines-preserved
lines-preserved c = record {
  skips = one_line_on c.args.bytes.now c.lines.rest.now c.lines.line c.in-Some.field-0-0.now c.in-Some.more.now c.lines.invariant.skips c.in-Some.ensures.0 c.in-Some.ensures.1 (λ is. no (c.lines-test.ensures.1 is));
  first = λ e. absurd (omega (arith, e, c.lines.invariant.low));
  low = omega arith;
  within = omega (arith, shorter c.in-Some.field-0-0.now c.in-Some.more.now c.lines.rest.now c.in-Some.ensures.1, c.lines.invariant.within);
}
