-- No statement gives turns back.
use Rattle.std.proofs.Common.{◌≤◌, Option, List, arith}
use Rattle.dl_ir.specs.declared.answers.End.{End}
use Rattle.dl_ir.specs.declared.expressions.Cond.{Cond}
use Rattle.dl_ir.specs.declared.statements.Stmt.{Stmt}
use Rattle.dl_ir.specs.Meaning.{Context, State}
use Rattle.dl_ir.specs.Relation as relation
use Rattle.dl_ir.specs.Relation.{Runs, RunsBlock, Loops}

mutual
  pub turns_of : {cx : Context} {d : Stmt} {s t : State} {end : Option End} → Runs cx d s t end → t.turns ≤ s.turns
  turns_of (relation.set_int value) = omega arith
  turns_of (relation.set_int_fault value) = omega arith
  turns_of (relation.load refers has) = omega arith
  turns_of (relation.load_null refers) = omega arith
  turns_of (relation.store value refers has) = omega arith
  turns_of (relation.store_fault value) = omega arith
  turns_of (relation.store_null value refers) = omega arith
  turns_of (relation.copy refers) = omega arith
  turns_of relation.null = omega arith
  turns_of (relation.follow refers has passes) = omega arith
  turns_of (relation.follow_null refers) = omega arith
  turns_of (relation.follow_sealed refers has marked) = omega arith
  turns_of (relation.new room declared) = omega arith
  turns_of (relation.new_quota full) = omega arith
  turns_of (relation.link refers has passes other) = omega arith
  turns_of (relation.link_null refers) = omega arith
  turns_of (relation.link_sealed refers has marked) = omega arith
  turns_of (relation.cut refers has passes) = omega arith
  turns_of (relation.cut_null refers) = omega arith
  turns_of (relation.cut_sealed refers has marked) = omega arith
  turns_of (relation.if_true second truth runs) = block_turns runs
  turns_of (relation.if_false first truth runs) = block_turns runs
  turns_of (relation.if_fault first second truth) = omega arith
  turns_of (relation.while runs) = loop_turns runs
  turns_of (relation.emit value room) = omega arith
  turns_of (relation.emit_fault value) = omega arith
  turns_of (relation.emit_full value full) = omega arith
  turns_of (relation.return value) = omega arith
  turns_of (relation.return_fault value) = omega arith

  pub block_turns : {cx : Context} {block : List Stmt} {s t : State} {end : Option End} → RunsBlock cx block s t end → t.turns ≤ s.turns
  block_turns relation.done = omega arith
  block_turns (relation.ends_at runs) = turns_of runs
  block_turns (relation.then runs rest) = omega (arith, turns_of runs, block_turns rest)

  pub loop_turns : {cx : Context} {c : Cond} {body : List Stmt} {s t : State} {end : Option End} → Loops cx c body s t end → t.turns ≤ s.turns
  loop_turns (relation.no_turn none) = omega arith
  loop_turns (relation.test_fault some truth) = omega arith
  loop_turns (relation.test_false some truth) = omega arith
  loop_turns (relation.turn_ends some truth runs) = omega (arith, block_turns runs)
  loop_turns (relation.again some truth runs rest) = omega (arith, block_turns runs, loop_turns rest)
