use Rattle.std.proofs.Common.{◌≡◌, [], true, false, arith, ap, sym, ◌∙◌}
use Rattle.std.specs.FinMap as map
use Rattle.std.specs.Prelude.{nat_lt}
use Rattle.std.proofs.lemmas.Bool.Decides.{nat_tests}
use Rattle.dl_ir.specs.Joined.{joined}
use Rattle.dl_ir.proofs.Joining.{few_aside, full_split, head_of, nothing, joined-put, len-joined, no_head, none_without_head, row-narrow, row-wide, same_all, same_put, stored-put}
use Rattle.dl_ir.proofs.Lookups.{got_put}
use Rattle.dl_ir.proofs.stores.Store.enter.Goals as goal

pub put-requires : goal.put-requires
put-requires c none =
    let room = rw (← c.self.view_is) at c.requires.room in
    omega (arith, room, len-joined c.self.inside.heads.rows c.self.inside.tails.rows)

pub put-requires-then-wide : goal.put-requires-then-wide
put-requires-then-wide c none =
    let room = rw (← c.self.view_is) at c.requires.room in
    omega (arith, room, len-joined c.self.inside.heads.rows c.self.inside.tails.rows, few_aside c.self.inside.heads c.self.inside.tails c.self.invariant, c.self.invariant.room)

pub invariant_of-self : goal.invariant_of-self
invariant_of-self c =
    let tails = c.self.inside.tails in
    let far = c.into_parts-near.result.1 in
    let split = c.into_parts-near.ensures.split in
    rw (c.put.ensures, c.put-then-wide.ensures) (
    stored-put c.self.inside.heads tails c.self.invariant c.args.name (map.insert tails.rows c.args.name far) (same_put tails.rows c.args.name far) _
    (record { few = split.few; full = λ _. full_split c.into_parts-near.result.0 far split (omega (arith, c.if-wide.true, c.len-wide.ensures.value)) })
    (λ _ _. grind (arith, nat_tests, c.if-wide.true)))

pub invariant_of-self-else-wide : goal.invariant_of-self-else-wide
invariant_of-self-else-wide c =
    let heads = c.self.inside.heads in
    let tails = c.self.inside.tails in
    let name = c.args.name in
    let split = c.into_parts-near.ensures.split in
    let none = none_without_head heads tails c.self.invariant name (no_head heads.rows tails.rows name (rw (← c.self.view_is) at c.requires.absent)) in
    rw c.put.ensures (
    stored-put heads tails c.self.invariant name tails.rows (same_all tails.rows name) _
    (record { few = split.few; full = λ wide. grind (arith, nat_tests, wide, c.if-wide.false) })
    (λ far is. let not = sym none ∙ is in cc))

pub returns-then-wide : goal.returns-then-wide
returns-then-wide c =
    let heads = c.self.inside.heads.rows in
    let tails = c.self.inside.tails.rows in
    let name = c.args.name in
    let parts = c.into_parts-near.result in
    let wide : nat_lt 0 c.len-wide.result ≡ true = grind (arith, nat_tests, c.if-wide.true) in
    rw (← c.self.view_is, c.put.ensures, c.put-then-wide.ensures) (
    ap (λ m. record { rows = m; room = c.self.inside.heads.room }) (
    joined-put heads tails name (map.insert tails name parts.1) (same_put tails name parts.1) (head_of c.args.row parts.0 parts.1 c.into_parts-near.ensures.value (nat_lt 0 c.len-wide.result))
    ∙ ap (map.insert (joined heads tails) name) (row-wide c.args.row parts.0 parts.1 c.into_parts-near.ensures.value _ _ wide (got_put tails name parts.1))))

pub returns-else-wide : goal.returns-else-wide
returns-else-wide c =
    let heads = c.self.inside.heads.rows in
    let tails = c.self.inside.tails.rows in
    let name = c.args.name in
    let parts = c.into_parts-near.result in
    let narrow : nat_lt 0 c.len-wide.result ≡ false = grind (arith, nat_tests, c.if-wide.false) in
    let none : parts.1 ≡ [] = nothing parts.1 (omega (arith, c.len-wide.ensures.value, c.if-wide.false)) in
    rw (← c.self.view_is, c.put.ensures) (
    ap (λ m. record { rows = m; room = c.self.inside.heads.room }) (
    joined-put heads tails name tails (same_all tails name) (head_of c.args.row parts.0 parts.1 c.into_parts-near.ensures.value (nat_lt 0 c.len-wide.result))
    ∙ ap (map.insert (joined heads tails) name) (row-narrow c.args.row parts.0 parts.1 c.into_parts-near.ensures.value _ (map.get tails name) narrow none)))
