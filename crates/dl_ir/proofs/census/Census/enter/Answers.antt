use Rattle.std.proofs.Common.{◌≡◌, ◌&&◌, arith, ap, sym, subst, refl, ◌∙◌, Option, Some, None}
use Rattle.std.specs.Option.{option_map}
use Rattle.std.specs.Prelude.{is_some, nat_le, ◌==◌}
use Rattle.std.specs.FinMap as map
use Rattle.dl_ir.specs.Counted.{object_of, refs_of, counted_by}
use Rattle.dl_ir.specs.Census.{open_at, IsFiled}
use Rattle.dl_ir.proofs.NameOrder.{names_total, exact_names}
use Rattle.dl_ir.proofs.Lookups.{got_put}
use Rattle.dl_ir.proofs.Mapped.{get-with_values, len-with_values, with_values-insert}
use Rattle.dl_ir.proofs.Filing.{loose_room, shared_room, after, filed}
use Rattle.dl_ir.proofs.Keeping.{but_entered}
use Rattle.dl_ir.proofs.census.Census.enter.Goals as goal

none_of : {X Y : Type 0} (g : X → Y) (o : Option X) → option_map g o ≡ None → o ≡ None
none_of g None is = refl
none_of g (Some x) is = cc

pub enter-requires-clause-absent : goal.enter-requires-clause-absent
enter-requires-clause-absent c =
    let rows = c.self.inside.rows.rows in
    none_of object_of (map.get rows c.args.name) (sym (get-with_values object_of rows c.args.name) ∙ (rw (← c.self.view_is) at c.requires.absent))

pub enter-requires-clause-room : goal.enter-requires-clause-room
enter-requires-clause-room c =
    let room = rw (← c.self.view_is) at c.requires.room in
    omega (arith, room, len-with_values object_of c.self.inside.rows.rows)

pub mark-requires : goal.mark-requires
mark-requires c =
    let old = counted_by c.self.inside.rows c.self.inside.loose c.self.inside.shared in
    let but = but_entered old c.args.name c.args.object (rw (← c.self.view_is) at c.requires.filed) (rw (← c.self.view_is) at c.requires.absent) (rw (← c.self.view_is) at c.requires.room) in
    loose_room (record old { objects = record old.objects { rows = map.insert old.objects.rows c.args.name c.args.object } }) c.args.name but (ap is_some (got_put old.objects.rows c.args.name c.args.object))

pub mark-requires-2 : goal.mark-requires-2
mark-requires-2 c =
    let old = counted_by c.self.inside.rows c.self.inside.loose c.self.inside.shared in
    let but = but_entered old c.args.name c.args.object (rw (← c.self.view_is) at c.requires.filed) (rw (← c.self.view_is) at c.requires.absent) (rw (← c.self.view_is) at c.requires.room) in
    shared_room (record old { objects = record old.objects { rows = map.insert old.objects.rows c.args.name c.args.object } }) c.args.name but (ap is_some (got_put old.objects.rows c.args.name c.args.object))

pub returns-clause-filed : goal.returns-clause-filed
returns-clause-filed c =
    let rows = c.self.inside.rows.rows in
    let old = counted_by c.self.inside.rows c.self.inside.loose c.self.inside.shared in
    let put = record old { objects = record old.objects { rows = map.insert old.objects.rows c.args.name c.args.object } } in
    let but = but_entered old c.args.name c.args.object (rw (← c.self.view_is) at c.requires.filed) (rw (← c.self.view_is) at c.requires.absent) (rw (← c.self.view_is) at c.requires.room) in
    let opened : open_at c.args.name (map.get put.objects.rows c.args.name) ≡ c.is_open-is_open.result = ap (open_at c.args.name) (got_put old.objects.rows c.args.name c.args.object) ∙ sym c.is_open-is_open.ensures in
    rw (c.enter.ensures, c.mark.ensures, c.mark-2.ensures, with_values-insert object_of names_total exact_names rows c.args.name (record { refs = c.args.refs; object = c.args.object }), with_values-insert refs_of names_total exact_names rows c.args.name (record { refs = c.args.refs; object = c.args.object })) (
    subst (λ b. IsFiled (after put c.args.name c.args.refs (b && (c.args.refs == 0)) (b && nat_le 2 c.args.refs))) opened (
    filed put c.args.name c.args.refs but (ap is_some (got_put old.objects.rows c.args.name c.args.object))))

pub returns-clause-counts : goal.returns-clause-counts
returns-clause-counts c = rw (← c.self.view_is, c.enter.ensures) (with_values-insert refs_of names_total exact_names c.self.inside.rows.rows c.args.name (record { refs = c.args.refs; object = c.args.object }))

pub returns-clause-objects : goal.returns-clause-objects
returns-clause-objects c =
    rw (← c.self.view_is, c.enter.ensures) (
    ap (λ m. record { rows = m; room = c.self.inside.rows.room }) (with_values-insert object_of names_total exact_names c.self.inside.rows.rows c.args.name (record { refs = c.args.refs; object = c.args.object })))
