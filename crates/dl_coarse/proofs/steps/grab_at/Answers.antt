use Rattle.std.proofs.Common.{rules, ℕ, subst, sym, ap, Some, eqb}
use mathlib.Core.Option.{none}
use prog.Atomic.{either}
use Rattle.atomic_table.specs.Table.{step, Allows}
use Rattle.dl_coarse.specs.Turn.{IsTurn, grabs}
use Rattle.dl_coarse.proofs.Keeps.{grabbed, in_front}
use Rattle.dl_coarse.proofs.steps.grab_at.Goals as goal

pub compare_exchange-found-requires : goal.compare_exchange-found-requires
compare_exchange-found-requires g c =
    let n : ℕ = c.args.number in (
      search rules,
      search rules,
      subst
          (λ plan. Allows (IsTurn g.M.Machine.runs g.M.Machine.state (g.M.Machine.opening c.args.table.now.key)) c.args.table.now.table_id.slots c.args.seat.now.id c.args.seat.now.me 0 (λ x. either (eqb x 0) n x)
          (grabs g.M.Machine.runs g.M.Machine.state plan (step c.args.table.now.table_id.slots 0 0 n none) c.args.seat.now.me))
          (sym c.requires.plan)
          (grabbed g.M.Machine.runs g.M.Machine.state (g.M.Machine.opening c.args.table.now.key) _ _ n c.args.seat.now.me c.requires.one.0 c.requires.one.1 c.requires.out.0),
    )

pub exchange-requires : goal.exchange-requires
exchange-requires g c =
    let told = subst (λ plan. grabs g.M.Machine.runs g.M.Machine.state plan (step c.args.table.now.table_id.slots 0 0 c.args.number none) c.args.seat.now.me c.compare_exchange-found.result c.compare_exchange-found.new.seat.me)
    c.requires.plan c.compare_exchange-found.ensures.2 in
    let e = told.0 c.if-found-ne0.false in
    (search rules, (Some e.0, in_front _ _ _ (ap (λ me. me.1) e.2)))
