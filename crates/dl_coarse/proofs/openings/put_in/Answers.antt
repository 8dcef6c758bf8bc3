use Rattle.std.proofs.Common.{rules, ◌≡◌, ◌∷◌, [], Some, ap, sym, ◌∙◌, subst}
use Rattle.atomic_table.specs.Table.{rest}
use Rattle.dl_coarse.specs.Turn.{MayReturn}
use Rattle.dl_coarse.proofs.Keeps.{returned}
use Rattle.dl_coarse.proofs.Starting.{may_return, has_yet}
use Rattle.dl_coarse.proofs.openings.put_in.Goals as goal

pub store-requires : goal.store-requires
store-requires g c =
    let same : c.exchange.new.seat.me.0 ≡ c.args.seat.now.me.0 = ap (λ me. me.0) c.exchange.ensures.3 in
    let slot : c.exchange.new.seat.me.1 ≡ (0, Some c.args.machine) ∷ [] = ap (λ me. me.1) c.exchange.ensures.3 ∙ ap (λ carried. (0, Some c.args.machine) ∷ rest carried) c.requires.taken.slot in (
      search rules,
      search rules,
      returned g.M.Machine.runs g.M.Machine.state (g.M.Machine.opening c.args.table.now.key) _ _ c.exchange.new.seat.me c.args.machine
          (subst (λ sight. MayReturn g.M.Machine.runs g.M.Machine.state (g.M.Machine.opening c.args.table.now.key) sight c.args.machine) (sym same)
          (may_return g.M.Machine.runs g.M.Machine.state (g.M.Machine.opening c.args.table.now.key) c.args.table.now.key c.args.machine c.args.seat.now.me c.requires.taken c.requires.machine.0 c.requires.machine.1)) slot (search rules),
    )

pub returns-clause-yet : goal.returns-clause-yet
returns-clause-yet g c =
    has_yet (g.M.Machine.opening c.args.table.now.key) (g.M.Machine.state c.args.table.now.key) c.args.seat.now.me c.exchange.new.seat.me c.store.new.seat.me c.requires.fresh c.requires.taken
    (ap (λ me. me.0) c.exchange.ensures.3) (ap (λ me. me.1) c.exchange.ensures.3) c.store.ensures.2
