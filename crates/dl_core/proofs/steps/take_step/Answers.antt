use Rattle.std.proofs.Common.{◌≡◌, List, set, sym, ap, ◌∙◌}
use Rattle.std.proofs.lemmas.List.{set-get_or}
use Rattle.dl_core.specs.declared.dues.Due.TheVariants.{Enters, Finishes}
use Rattle.dl_core.specs.Core.{Account, no_account}
use Rattle.dl_core.specs.Parts.{core_by}
use Rattle.dl_core.specs.Shared.{Touched}
use Rattle.dl_core.specs.Accounts.{shown_account}
use Rattle.dl_core.specs.Shown.{shown}
use Rattle.dl_core.proofs.CoreSteps.{by_due, touch_steps, after_touch, aimed}
use Rattle.dl_core.proofs.KeptSame.{account_same, memory_same}
use Rattle.dl_core.proofs.Owners.{own_rooms}
use Rattle.dl_core.proofs.steps.take_step.Goals as goal

pub returns-in-Enters-clause-stepped : goal.returns-in-Enters-clause-stepped
returns-in-Enters-clause-stepped c plan frames accounts code is account e =
    let rows = c.args.heap.now.rows in
    by_due plan (core_by rows frames accounts c.args.counters.now) c.args.caller (shown c.args.frame.now) Enters is (e ∙ c.in-Enters.is)
    ∙ sym (c.enter.ensures.core plan rows frames accounts c.args.caller code account)

pub returns-in-Finishes-clause-stepped : goal.returns-in-Finishes-clause-stepped
returns-in-Finishes-clause-stepped c plan frames accounts code is account e =
    let rows = c.args.heap.now.rows in
    by_due plan (core_by rows frames accounts c.args.counters.now) c.args.caller (shown c.args.frame.now) (Finishes c.in-Finishes.end) is (e ∙ c.in-Finishes.is)
    ∙ sym (c.finish.ensures.core rows frames accounts account)

pub returns-in_default : goal.returns-in_default
returns-in_default c =
    let a = c.in_default.not-Nothing in
    let b = c.in_default.not-Reserves in
    let n = c.in_default.not-Enters in
    let f = c.in_default.not-Finishes in
    record {
      stepped = λ plan frames accounts code is account e.
          let rows = c.args.heap.now.rows in
          let at = aimed c.args.due c.in_default.not-Nothing c.in_default.not-Reserves c.in_default.not-Enters c.in_default.not-Finishes in
          let same : set accounts c.args.caller (shown_account c.touch.new.frame) ≡ accounts =
          ap (set accounts c.args.caller) (account_same c.touch.new.frame c.args.frame.now c.touch.ensures.rooms ∙ sym account) ∙ set-get_or accounts c.args.caller no_account in
          touch_steps plan rows frames accounts c.args.counters.now c.args.caller (shown c.args.frame.now) is c.args.due at.0 e at.1
          ∙ ap (λ (t : Touched). after_touch frames accounts c.args.counters.now c.args.caller t) (sym (c.touch.ensures.touched plan at.0 code at.1))
          ∙ ap (λ (accounts_now : List Account). (core_by c.touch.new.heap.rows (set frames c.args.caller (shown c.touch.new.frame)) accounts_now c.args.counters.now, c.touch.result)) (sym same);
      can = c.touch.ensures.can;
      own = own_rooms c.args.caller c.args.frame.now c.touch.new.frame c.touch.ensures.rooms;
      memory = memory_same c.touch.new.frame c.args.frame.now c.touch.ensures.rooms;
      few = c.touch.ensures.few;
      room = c.touch.ensures.room;
    }
