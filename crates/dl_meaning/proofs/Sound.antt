-- An outcome by the relation is what the function gives.
use Rattle.std.proofs.Common.{◌≡◌, ℕ, zero, suc, ◌<◌, ◌≤◌, false, refl, ap, ◌∙◌, Option, Some, List, arith}
use Rattle.std.specs.Prelude.{◌==◌}
use Rattle.std.proofs.lemmas.Bool.{le-leb, lt-leb, ne_eqb}
use Rattle.dl_ir.specs.declared.answers.End.{End}
use Rattle.dl_ir.specs.declared.answers.End.TheVariants as ends
use Rattle.dl_ir.specs.declared.expressions.Cond.{Cond}
use Rattle.dl_ir.specs.declared.names.Name.{Name}
use Rattle.dl_ir.specs.declared.statements.Stmt.{Stmt, Stmt-F, out-Stmt}
use Rattle.dl_ir.specs.declared.statements.Stmt.TheFolds.{fold_out-Stmt, map-Stmt}
use Rattle.dl_ir.specs.declared.statements.Stmt.TheVariants.{outs-SetInt, outs-Load, outs-Store, outs-Copy, outs-Null, outs-Follow, outs-New, outs-Link, outs-Cut, outs-If, outs-While, outs-Emit, outs-Return}
use Rattle.dl_ir.specs.Meaning.{Context, State, Outcome, Does, step, does, block_does, loops, unless_sealed, ends_with}
use Rattle.dl_ir.specs.Relation as relation
use Rattle.dl_ir.specs.Relation.{Runs, RunsBlock, Loops, IsOpen, IsSealed}
use Rattle.dl_meaning.specs.Single.{outcome}
use Rattle.dl_meaning.proofs.Turns.{block_turns}

-- what a statement does, by its form
pub layer : (cx : Context) (s : State) (d : Stmt) (l : Stmt-F Stmt) → out-Stmt d ≡ l → does cx d s ≡ step cx (map-Stmt Stmt Does (does cx) l) s
layer cx s d l e = ap (λ (r : Does). r s) (fold_out-Stmt Does (step cx) d) ∙ ap (λ (m : Stmt-F Stmt). step cx (map-Stmt Stmt Does (does cx) m) s) e

-- what is open lets through
passed : {s : State} {target : Option Name} (next : Outcome) → IsOpen s target → unless_sealed target s next ≡ next
passed next relation.nothing = refl
passed next (relation.unsealed there open_mark) = rw (there, open_mark)

-- what is sealed ends
stopped : {s : State} {name : Name} (next : Outcome) → IsSealed s name → unless_sealed (Some name) s next ≡ ends_with (ends.Sealed name) s
stopped next marked = rw (marked.there, marked.sealed)

-- a number above 0 is not 0
pub some_turn : (n : ℕ) → 0 < n → (n == 0) ≡ false
some_turn n more = ne_eqb n 0 (λ e. omega (arith, e))

mutual
  pub sound : (cx : Context) {d : Stmt} {s t : State} {end : Option End} → Runs cx d s t end → does cx d s ≡ outcome t end
  sound cx (relation.set_int value) = layer cx _ _ _ (outs-SetInt _ _) ∙ rw value
  sound cx (relation.set_int_fault value) = layer cx _ _ _ (outs-SetInt _ _) ∙ rw value
  sound cx (relation.load refers has) = layer cx _ _ _ (outs-Load _ _ _) ∙ rw (refers, has)
  sound cx (relation.load_null refers) = layer cx _ _ _ (outs-Load _ _ _) ∙ rw refers
  sound cx (relation.store value refers has) = layer cx _ _ _ (outs-Store _ _ _) ∙ rw (value, refers)
  sound cx (relation.store_fault value) = layer cx _ _ _ (outs-Store _ _ _) ∙ rw value
  sound cx (relation.store_null value refers) = layer cx _ _ _ (outs-Store _ _ _) ∙ rw (value, refers)
  sound cx (relation.copy refers) = layer cx _ _ _ (outs-Copy _ _) ∙ rw refers
  sound cx relation.null = layer cx _ _ _ (outs-Null _)
  sound cx (relation.follow refers has passes) = layer cx _ _ _ (outs-Follow _ _ _) ∙ rw (refers, has) (passed _ passes)
  sound cx (relation.follow_null refers) = layer cx _ _ _ (outs-Follow _ _ _) ∙ rw refers
  sound cx (relation.follow_sealed refers has marked) = layer cx _ _ _ (outs-Follow _ _ _) ∙ rw (refers, has) (stopped _ marked)
  sound cx (relation.new room declared) = layer cx _ _ _ (outs-New _ _) ∙ rw (lt-leb _ _ room)
  sound cx (relation.new_quota full) = layer cx _ _ _ (outs-New _ _) ∙ rw (le-leb _ _ full)
  sound cx (relation.link refers has passes other) = layer cx _ _ _ (outs-Link _ _ _) ∙ rw (refers, has, other) (passed _ passes)
  sound cx (relation.link_null refers) = layer cx _ _ _ (outs-Link _ _ _) ∙ rw refers
  sound cx (relation.link_sealed refers has marked) = layer cx _ _ _ (outs-Link _ _ _) ∙ rw (refers, has) (stopped _ marked)
  sound cx (relation.cut refers has passes) = layer cx _ _ _ (outs-Cut _ _) ∙ rw (refers, has) (passed _ passes)
  sound cx (relation.cut_null refers) = layer cx _ _ _ (outs-Cut _ _) ∙ rw refers
  sound cx (relation.cut_sealed refers has marked) = layer cx _ _ _ (outs-Cut _ _) ∙ rw (refers, has) (stopped _ marked)
  sound cx (relation.if_true second truth runs) = layer cx _ _ _ (outs-If _ _ _) ∙ rw truth (sound_block cx runs)
  sound cx (relation.if_false first truth runs) = layer cx _ _ _ (outs-If _ _ _) ∙ rw truth (sound_block cx runs)
  sound cx (relation.if_fault first second truth) = layer cx _ _ _ (outs-If _ _ _) ∙ rw truth
  sound cx (relation.while {s = s} runs) = layer cx _ _ _ (outs-While _ _) ∙ sound_loop cx runs s.turns (omega arith)
  sound cx (relation.emit value room) = layer cx _ _ _ (outs-Emit _) ∙ rw (value, lt-leb _ _ room)
  sound cx (relation.emit_fault value) = layer cx _ _ _ (outs-Emit _) ∙ rw value
  sound cx (relation.emit_full value full) = layer cx _ _ _ (outs-Emit _) ∙ rw (value, le-leb _ _ full)
  sound cx (relation.return value) = layer cx _ _ _ (outs-Return _) ∙ rw value
  sound cx (relation.return_fault value) = layer cx _ _ _ (outs-Return _) ∙ rw value

  pub sound_block : (cx : Context) {block : List Stmt} {s t : State} {end : Option End} → RunsBlock cx block s t end → block_does cx block s ≡ outcome t end
  sound_block cx relation.done = refl
  sound_block cx (relation.ends_at runs) = rw (sound cx runs)
  sound_block cx (relation.then runs rest) = rw (sound cx runs) (sound_block cx rest)

  pub sound_loop : (cx : Context) {c : Cond} {body : List Stmt} {s t : State} {end : Option End} → Loops cx c body s t end
      → (n : ℕ) → s.turns ≤ n → loops n c (block_does cx body) s ≡ outcome t end
  sound_loop cx (relation.no_turn none) zero enough = refl
  sound_loop cx (relation.no_turn none) (suc n) enough = rw none
  sound_loop cx (relation.test_fault some truth) zero enough = absurd (omega arith)
  sound_loop cx (relation.test_fault some truth) (suc n) enough = rw (some_turn _ some, truth)
  sound_loop cx (relation.test_false some truth) zero enough = absurd (omega arith)
  sound_loop cx (relation.test_false some truth) (suc n) enough = rw (some_turn _ some, truth)
  sound_loop cx (relation.turn_ends some truth runs) zero enough = absurd (omega arith)
  sound_loop cx (relation.turn_ends some truth runs) (suc n) enough = rw (some_turn _ some, truth, sound_block cx runs)
  sound_loop cx (relation.again some truth runs rest) zero enough = absurd (omega arith)
  sound_loop cx (relation.again some truth runs rest) (suc n) enough =
      rw (some_turn _ some, truth, sound_block cx runs) (sound_loop cx rest n (omega (arith, block_turns runs)))
