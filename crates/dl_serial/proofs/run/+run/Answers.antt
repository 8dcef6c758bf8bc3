use Rattle.std.proofs.Common.{◌≡◌, rules, arith, sym, ap, ◌∙◌, None, Ok}
use Rattle.std.proofs.lemmas.Grind.{common_steps}
use Rattle.dl_serial.specs.Frames.{state_of, context_of}
use Rattle.dl_ir.specs.Meaning.{block_does}
use Rattle.dl_ir.specs.declared.statements.Stmt.TheVariants.{outs-SetInt, outs-Load, outs-Store, outs-Copy, outs-Null, outs-Follow, outs-Link, outs-Cut, outs-Emit, outs-Return}
use Rattle.dl_serial.proofs.Counts.{grows_on}
use Rattle.dl_serial.proofs.Levels.{one_level}
use Rattle.dl_serial.proofs.Turns.{turn}
use Rattle.dl_serial.proofs.run.+run.Goals as goal

pub run_loop-loop-frame-preserved : goal.run_loop-loop-frame-preserved
run_loop-loop-frame-preserved t c =
    let i = c.loop-frame.invariant.gives in
    let on : c.run_block.new.frame.end ≡ None = first_of (search rules, grind (arith, common_steps)) in
    let next = turn c.args.c.now (block_does (context_of c.args.source.now c.args.task) c.args.body.now) (state_of c.loop-frame.frame c.loop-frame.heap) (state_of c.run_block.new.frame c.run_block.new.heap) i.0
    c.loop-frame-test.true i.1 (rw (← c.deref.ensures.value) (sym c.in-Ok-true.ensures ∙ ap Ok c.in-Ok-true.field-0-test))
    (c.run_block.ensures.gives ∙ ap (λ e. record { state = state_of c.run_block.new.frame c.run_block.new.heap; end = e }) on)
    c.run_block.ensures.turns in
    record {
      gives = (next.0, next.1, next.2 ∙ i.2);
      turns = omega arith;
      room = c.run_block.ensures.room;
      same_room = c.run_block.ensures.same_room ∙ c.loop-frame.invariant.same_room;
      grows = grows_on c.loop-frame.invariant.grows c.run_block.ensures.grows;
      end = on;
    }

pub run_stmt-returns-in-SetInt-clause-gives : goal.run_stmt-returns-in-SetInt-clause-gives
run_stmt-returns-in-SetInt-clause-gives t c = let cx = context_of c.args.source.now c.args.task in rw c.in-SetInt.is (one_level cx _ _ _ (outs-SetInt _ _) ∙ c.run_set_int.ensures.gives cx)

pub run_stmt-returns-in-Load-clause-gives : goal.run_stmt-returns-in-Load-clause-gives
run_stmt-returns-in-Load-clause-gives t c = let cx = context_of c.args.source.now c.args.task in rw c.in-Load.is (one_level cx _ _ _ (outs-Load _ _ _) ∙ c.run_load.ensures.gives cx)

pub run_stmt-returns-in-Store-clause-gives : goal.run_stmt-returns-in-Store-clause-gives
run_stmt-returns-in-Store-clause-gives t c = let cx = context_of c.args.source.now c.args.task in rw c.in-Store.is (one_level cx _ _ _ (outs-Store _ _ _) ∙ c.run_store.ensures.gives cx)

pub run_stmt-returns-in-Copy-clause-gives : goal.run_stmt-returns-in-Copy-clause-gives
run_stmt-returns-in-Copy-clause-gives t c = let cx = context_of c.args.source.now c.args.task in rw c.in-Copy.is (one_level cx _ _ _ (outs-Copy _ _) ∙ c.run_copy.ensures.gives cx)

pub run_stmt-returns-in-Null-clause-gives : goal.run_stmt-returns-in-Null-clause-gives
run_stmt-returns-in-Null-clause-gives t c = let cx = context_of c.args.source.now c.args.task in rw c.in-Null.is (one_level cx _ _ _ (outs-Null _) ∙ c.run_null.ensures.gives cx)

pub run_stmt-returns-in-Follow-clause-gives : goal.run_stmt-returns-in-Follow-clause-gives
run_stmt-returns-in-Follow-clause-gives t c = let cx = context_of c.args.source.now c.args.task in rw c.in-Follow.is (one_level cx _ _ _ (outs-Follow _ _ _) ∙ c.run_follow.ensures.gives cx)

pub run_stmt-returns-in-Emit-clause-gives : goal.run_stmt-returns-in-Emit-clause-gives
run_stmt-returns-in-Emit-clause-gives t c = let cx = context_of c.args.source.now c.args.task in rw c.in-Emit.is (one_level cx _ _ _ (outs-Emit _) ∙ c.run_emit.ensures.gives cx)

pub run_stmt-returns-in-Link-clause-gives : goal.run_stmt-returns-in-Link-clause-gives
run_stmt-returns-in-Link-clause-gives t c = let cx = context_of c.args.source.now c.args.task in rw c.in-Link.is (one_level cx _ _ _ (outs-Link _ _ _) ∙ c.run_link.ensures.gives cx)

pub run_stmt-returns-in-Cut-clause-gives : goal.run_stmt-returns-in-Cut-clause-gives
run_stmt-returns-in-Cut-clause-gives t c = let cx = context_of c.args.source.now c.args.task in rw c.in-Cut.is (one_level cx _ _ _ (outs-Cut _ _) ∙ c.run_cut.ensures.gives cx)

pub run_stmt-returns-in-Return-clause-gives : goal.run_stmt-returns-in-Return-clause-gives
run_stmt-returns-in-Return-clause-gives t c = let cx = context_of c.args.source.now c.args.task in rw c.in-Return.is (one_level cx _ _ _ (outs-Return _) ∙ c.run_return.ensures.gives cx)
