use Rattle.std.proofs.Common.{◌≡◌, true, false, refl, ap, sym, ◌∙◌, ◌&&◌}
use Rattle.std.specs.List.{list_all}
use Rattle.dl_ir.proofs.Members.{Held}
use Rattle.dl_shape.specs.Forests.{stands_in_forest}
use Rattle.dl_shape.proofs.Forest.{forest_all, stands_forest}
use Rattle.dl_shape.proofs.references.is_forest.Goals as goal

false_not_true : false ≡ true → ⊥
false_not_true is = cc

pub loop-name-preserved : goal.loop-name-preserved
loop-name-preserved c =
    let h = c.args.heap.now.objects in
    let left : Held = c.next.new.self in
    let here = sym c.stands_in_forest.ensures ∙ c.if-not-stands_in_forest.false in
    ap (λ b. b && list_all (stands_in_forest h) left) (sym here)
    ∙ ap (λ (l : Held). list_all (stands_in_forest h) l) (sym c.in-Some.ensures.steps) ∙ c.loop-name.invariant

pub returns : goal.returns
returns c =
    let h = c.args.heap.now.objects in
    let all = sym c.loop-name.invariant ∙ ap (λ (l : Held). list_all (stands_in_forest h) l) c.in-None.ensures.steps.0 in
    (λ _. stands_forest h all, λ _. refl)

pub returns-then-not-stands_in_forest : goal.returns-then-not-stands_in_forest
returns-then-not-stands_in_forest c =
    let h = c.args.heap.now.objects in
    let left : Held = c.next.new.self in
    let fails = sym c.stands_in_forest.ensures ∙ c.if-not-stands_in_forest.true in
    let some = ap (λ b. b && list_all (stands_in_forest h) left) (sym fails)
    ∙ ap (λ (l : Held). list_all (stands_in_forest h) l) (sym c.in-Some.ensures.steps) ∙ c.loop-name.invariant in
    (λ never. absurd (false_not_true never), λ forest. some ∙ forest_all h forest)
