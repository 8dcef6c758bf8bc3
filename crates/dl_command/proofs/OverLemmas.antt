-- What callers that ran side by side leave is a run of their calls.
use Rattle.std.proofs.Common.{◌≡◌, ◌≢◌, ℕ, suc, ◌≤◌, ◌==◌, cond, true, List, [], ◌∷◌, length, map, get_or, refl, sym, ap, subst, arith}
use Rattle.std.specs.Prelude.{All, count_by, sum_by}
use Rattle.std.proofs.lemmas.Bool.Decides.{nat_tests}
use Rattle.std.proofs.lemmas.List.Kept.{AllPairs-cons}
use Rattle.std.proofs.lemmas.List.Elements.{All-map}
use Rattle.std.proofs.lemmas.List.Sorted.{IsPermutation-sym}
use Rattle.std.proofs.lemmas.List.Sums.{sum_by-cons, get_or-le-sum_by}
use Rattle.dl_ir.specs.declared.answers.Entry.{Entry}
use Rattle.dl_ir.specs.declared.answers.Refusal.{Refusal}
use Rattle.dl_ir.specs.declared.calls.Call.{Call}
use Rattle.dl_ir.specs.declared.closed.Closed.{Closed}
use Rattle.dl_ir.specs.declared.modules.Module.{Module}
use Rattle.dl_ir.specs.declared.moves.Move.{Move}
use Rattle.dl_ir.specs.CallForms.{AreCallsOf}
use Rattle.dl_ir.specs.Heap.{Objects}
use Rattle.dl_shape.specs.Pool.{in_rising_versions, moves_of, moves_of_entry}
use Rattle.dl_shape.specs.Replay.{IsLegal, replayed}
use Rattle.dl_shape.specs.Rising.{AreApart}
use Rattle.dl_shape.proofs.Legal.{legal_rises}
use Rattle.dl_shape.proofs.Rising.{apart_moves, rising_moves, rising_pieces, rises_apart}
use Rattle.dl_closed.proofs.Histories.{never_seals}
use Rattle.dl_history.specs.Histories.{Seen, joined}
use Rattle.dl_instr.specs.Code.{code}
use Rattle.dl_core.specs.Closing.{history_left}
use Rattle.dl_core.specs.Passes.{plan_over}
use Rattle.dl_core.specs.Plans.{Plan}
use Rattle.dl_machine.specs.Files.{RunsFiles}
use Rattle.dl_command.specs.Promise.{IsRun}
use Rattle.dl_command.proofs.CountLemmas.{few_entries, few_refusals, joined_in_order}

-- elements of which none has the key of another stand apart
module _ {X : Type 0} (key : X → ℕ) where
  abbrev has : ℕ → X → ℕ
  has n x = cond (key x == n) 1 0

  abbrev OnlyOnce : List X → Type 0
  OnlyOnce xs = All (λ x. count_by (λ y. key y == key x) xs ≤ 1) xs

  own : (x y : X) → key x ≡ key y → has (key y) x ≡ 1
  own x y same = let equal : (key x == key y) ≡ true = grind (arith, nat_tests, same) in ap {B = ℕ} (λ b. cond b 1 0) equal

  pub apart_once : (xs : List X) → OnlyOnce xs → AreApart key xs
  apart_once [] once = λ i j d less inside. absurd (omega (arith, less, inside))
  apart_once (x ∷ rest) once =
      AllPairs-cons (λ a b. a ≢ b) (key x) (map key rest)
      (All-map (λ k. key x ≢ k) key rest (λ k d inside same.
      let first = once 0 x (omega arith) in
      let all = sum_by-cons (has (key x)) x rest in
      let mine = own x x refl in
      let other = get_or-le-sum_by (has (key x)) rest k d inside in
      let theirs = own (get_or rest k d) x (sym same) in
      absurd (omega (arith, first, all, mine, other, theirs))))
      (apart_once rest (λ k d inside.
      let later = once (suc k) d (omega (arith, inside)) in
      let all = sum_by-cons (has (key (get_or rest k d))) x rest in
      omega (arith, later, all)))

module _ (source : Module) (heap : Objects) (all : List (List Call)) (places : ℕ) (closed : Closed) (runs : RunsFiles (plan_over (code source) heap places (map length all)) all closed) where
  abbrev ticket : Entry → ℕ
  ticket entry = entry.ticket

  abbrev version : Move → ℕ
  version move = move.version

  pub entries_few : length (joined closed.entries) ≤ sum_by length all
  entries_few = few_entries all closed.entries (joined closed.refusals) runs.covers

  pub refusals_few : length (joined closed.refusals) ≤ sum_by length all
  refusals_few = few_refusals all (history_left closed) (joined closed.refusals) runs.covers

  pub tickets_apart : AreApart ticket (joined closed.entries)
  tickets_apart = apart_moves ticket (history_left closed) (joined closed.entries) (IsPermutation-sym _ _ (rising_moves ticket (joined closed.entries)))
      (rises_apart ticket (history_left closed) (legal_rises runs.lawful.legal.goes))

  pub versions_apart : AreApart version (moves_of source all (joined closed.entries))
  versions_apart =
      let moves = moves_of source all (history_left closed) in
      apart_moves version moves (moves_of source all (joined closed.entries)) (IsPermutation-sym _ _ (rising_pieces ticket (moves_of_entry source all) (joined closed.entries)))
      (apart_once version moves (λ k d inside.
      let range = runs.lawful.pool.in_range k d inside in
      let once = runs.lawful.pool.each_once (get_or moves k d).version range.0 range.1 in
      omega (arith, once)))

  module _ (calls : All (AreCallsOf source) all) (history : Seen) (refusals : List Refusal) (entries_are : history.entries ≡ history_left closed)
      (moves_are : history.moves ≡ in_rising_versions (moves_of source all history.entries)) (refusals_are : refusals ≡ joined closed.refusals) where
    pub is_run : IsRun source heap all places history refusals
    is_run = record {
      covers = rw (entries_are, refusals_are) runs.covers;
      in_order = rw refusals_are (joined_in_order closed.refusals runs.lawful.refusals);
      legal = legal;
      lawful = rw (entries_are, refusals_are) runs.lawful.pool;
      moves = moves_are;
      versions = rw entries_are runs.lawful.versions;
      unsealed = λ in_forests. never_seals source all heap history.entries calls in_forests legal;
    }
      where
        legal : IsLegal source all heap history.entries
        legal = rw entries_are runs.lawful.legal

    pub heap_is : closed.heap.objects ≡ replayed source all heap history.entries
    heap_is = rw entries_are runs.lawful.heap

-- what is left over a plan is left over this one, where they are the same
pub runs_over : (source : Module) (heap : Objects) (all files : List (List Call)) (places : ℕ) (plan : Plan) (closed : Closed) → plan ≡ plan_over (code source) heap places (map length all) → files ≡ all
    → RunsFiles plan files closed → RunsFiles (plan_over (code source) heap places (map length all)) all closed
runs_over source heap all files places plan closed same_plan same_files runs =
    subst (λ (p : Plan). RunsFiles p all closed) same_plan (subst (λ (fs : List (List Call)). RunsFiles plan fs closed) same_files runs)
