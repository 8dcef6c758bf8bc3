use Rattle.std.proofs.Common.{rules, subst, sym, ap, ◌≡◌, ◌∷◌, [], Some, ◌∙◌}
use mathlib.Core.Option.{none}
use Rattle.atomic_table.specs.Table.{step, Allows, rest}
use Rattle.dl_coarse.specs.Turn.{IsTurn, MayGive, gives}
use Rattle.dl_coarse.specs.Sights.{sight_after}
use Rattle.dl_coarse.proofs.Keeps.{given}
use Rattle.dl_coarse.proofs.steps.give_at.Goals as goal
use Rattle.dl_core.specs.Turns.{call_of}

pub store-requires : goal.store-requires
store-requires g c =
    let same : c.exchange.new.seat.me.0 ≡ c.args.seat.now.me.0 = ap (λ me. me.0) c.exchange.ensures.3 in
    let slot : c.exchange.new.seat.me.1 ≡ (0, Some c.args.machine) ∷ [] = ap (λ me. me.1) c.exchange.ensures.3 ∙ ap (λ carried. (0, Some c.args.machine) ∷ rest carried) c.requires.slot in (
      search rules,
      search rules,
      subst
          (λ sight. Allows (IsTurn g.M.Machine.runs g.M.Machine.state (g.M.Machine.opening c.args.table.now.key)) c.args.table.now.table_id.slots c.exchange.new.seat.id c.exchange.new.seat.me 0 (λ _. 0)
          (λ _. gives sight (step c.args.table.now.table_id.slots 0 0 0 none) c.exchange.new.seat.me 0))
          (ap (λ sight. sight_after (g.M.Machine.state c.args.machine) (call_of c.args.op c.args.args.now) c.args.answer.now sight) same ∙ sym c.requires.named)
          (given g.M.Machine.runs g.M.Machine.state (g.M.Machine.opening c.args.table.now.key) _ _ c.exchange.new.seat.me c.args.machine (call_of c.args.op c.args.args.now) c.args.answer.now
          (subst (λ sight. MayGive g.M.Machine.runs g.M.Machine.state (g.M.Machine.opening c.args.table.now.key) sight c.args.machine (call_of c.args.op c.args.args.now) c.args.answer.now) (sym same) c.requires.may)
          slot (search rules)),
    )
