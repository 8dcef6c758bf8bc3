use Rattle.std.proofs.Common.{◌++◌, List, Some, ap, sym, ◌∙◌}
use Rattle.std.specs.Option.{option_map}
use Rattle.dl_ir.specs.declared.names.Value.{Value}
use Rattle.dl_ir.proofs.Joining.{get-joined, is_wide, joined-removed, joined-taken, none_without_head, row_at, row_of, same_all, stored-removed, stored-taken}
use Rattle.dl_ir.proofs.stores.Store.remove.Goals as goal

pub invariant_of-self : goal.invariant_of-self
invariant_of-self c =
    let heads = c.self.inside.heads in
    let tails = c.self.inside.tails in
    let name = c.args.name in
    let none = sym c.remove.ensures.value ∙ c.in_err-head.was in
    rw c.remove.ensures.left (stored-removed heads tails c.self.invariant name tails.rows (same_all tails.rows name) (none_without_head heads tails c.self.invariant name none))

pub returns-in_err-head-clause-value : goal.returns-in_err-head-clause-value
returns-in_err-head-clause-value c =
    let heads = c.self.inside.heads.rows in
    let tails = c.self.inside.tails.rows in
    let none = sym c.remove.ensures.value ∙ c.in_err-head.was in
    rw (← c.self.view_is) (c.from_residual.ensures ∙ sym (get-joined heads tails c.args.name ∙ ap (option_map (row_at tails c.args.name)) none))

pub returns-in_err-head-clause-left : goal.returns-in_err-head-clause-left
returns-in_err-head-clause-left c =
    let tails = c.self.inside.tails.rows in
    rw (← c.self.view_is, c.remove.ensures.left) (ap (λ m. record { rows = m; room = c.self.inside.heads.room }) (joined-removed c.self.inside.heads.rows tails c.args.name tails (same_all tails c.args.name)))

pub invariant_of-self-2 : goal.invariant_of-self-2
invariant_of-self-2 c =
    let heads = c.self.inside.heads in
    let tails = c.self.inside.tails in
    let is = sym c.remove.ensures.value ∙ c.in_ok-head.was in
    rw (c.remove.ensures.left, c.take_far-far.ensures.left) (
    stored-taken heads tails c.args.name c.in_ok-head.head.wide c.self.invariant (λ far there. is_wide heads tails c.self.invariant c.args.name c.in_ok-head.head far is there))

pub returns-clause-value : goal.returns-clause-value
returns-clause-value c =
    let heads = c.self.inside.heads.rows in
    let tails = c.self.inside.tails.rows in
    let head = c.in_ok-head.head in
    let is = sym c.remove.ensures.value ∙ c.in_ok-head.was in
    rw (← c.self.view_is) (
    ap (λ (l : List Value). Some (row_of head l)) (c.of_parts.ensures ∙ ap (λ (l : List Value). head.near ++ l) c.take_far-far.ensures.value)
    ∙ sym (get-joined heads tails c.args.name ∙ ap (option_map (row_at tails c.args.name)) is))

pub returns-clause-left : goal.returns-clause-left
returns-clause-left c = rw (← c.self.view_is, c.remove.ensures.left, c.take_far-far.ensures.left) (
    ap (λ m. record { rows = m; room = c.self.inside.heads.room }) (joined-taken c.self.inside.heads c.self.inside.tails c.args.name c.in_ok-head.head.wide))
