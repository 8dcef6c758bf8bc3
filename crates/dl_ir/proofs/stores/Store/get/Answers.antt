use Rattle.std.proofs.Common.{◌++◌, List, map, Some, ap, sym, ◌∙◌}
use Rattle.std.proofs.lemmas.List.{map-append}
use Rattle.dl_ir.specs.Cells.{value_in}
use Rattle.dl_ir.specs.declared.names.Value.{Value}
use Rattle.dl_ir.specs.declared.objects.Obj.{Obj}
use Rattle.std.specs.Option.{option_map}
use Rattle.dl_ir.specs.declared.rows.Head.{Head}
use Rattle.dl_ir.specs.Counted.{object_of}
use Rattle.dl_ir.proofs.Joining.{objects-joined, row_at}
use Rattle.dl_ir.proofs.stores.Store.get.Goals as goal

pub returns-in-Some : goal.returns-in-Some
returns-in-Some c =
    let fields = map-append value_in c.held.result.now c.far_of.result.now ∙ ap (λ l. l ++ map value_in c.far_of.result.now) c.held.ensures.value ∙ ap (λ l. c.in-Some.head.now.near ++ l) c.far_of.ensures.value in
    let head = c.in-Some.head.now in
    let object : Obj = object_of (row_at c.self.inside.tails.rows c.args.name head) in
    rw (← c.self.view_is) (ap (λ (l : List Value). Some (record object { fields = l })) fields ∙ ap (option_map (λ (h : Head). object_of (row_at c.self.inside.tails.rows c.args.name h))) c.in-Some.ensures ∙ sym (objects-joined c.self.inside.heads.rows c.self.inside.tails.rows c.args.name))

pub returns-in-None : goal.returns-in-None
returns-in-None c = rw (← c.self.view_is) (ap (option_map (λ (head : Head). object_of (row_at c.self.inside.tails.rows c.args.name head))) c.in-None.ensures ∙ sym (objects-joined c.self.inside.heads.rows c.self.inside.tails.rows c.args.name))
