-- The order of names.
use Rattle.std.proofs.Common.{◌≡◌, ℕ, true, arith, ap, ◌∙◌}
use Rattle.std.proofs.lemmas.Bool.Decides.{nat_tests}
use Rattle.std.specs.Cmp.{IsTotalOrder}
use Rattle.std.specs.Ordering.{nat_cmp, ordering_reverse}
use Rattle.std.specs.declared.cmp.Ordering.TheVariants.{Less, Equal, Greater}
use Rattle.std.specs.FinMap.{IsAntisymmetric}
use Rattle.std.proofs.lemmas.Cmp.{nat_cmp_total, on_total, then_total}
use Rattle.std.proofs.lemmas.Map.Lookups.{exact_pairs, exact_unsigned}
use Rattle.dl_ir.specs.declared.names.Name.{Name}
use Rattle.dl_ir.specs.Heap.{name_cmp}
use Rattle.dl_ir.specs.References.{name_eq}

-- the order is total
pub names_total : IsTotalOrder name_cmp
names_total = then_total (on_total (λ (n : Name). n.ticket) nat_cmp_total) (on_total (λ (n : Name). n.index) nat_cmp_total)

-- names that compare alike are one
pub exact_names : IsAntisymmetric name_cmp
exact_names a b h = ap (λ (p : ℕ × ℕ). record { ticket = p.0; index = p.1 }) (exact_pairs nat_cmp nat_cmp exact_unsigned exact_unsigned (a.ticket, a.index) (b.ticket, b.index) h)

-- from the one side, and from the other
pub less_turned : (a b : Name) → name_cmp a b ≡ Less → name_cmp b a ≡ Greater
less_turned a b h = names_total.antisymm b a ∙ ap ordering_reverse h

pub greater_turned : (a b : Name) → name_cmp a b ≡ Greater → name_cmp b a ≡ Less
greater_turned a b h = names_total.antisymm b a ∙ ap ordering_reverse h

pub equal_turned : (a b : Name) → name_cmp a b ≡ Equal → name_cmp b a ≡ Equal
equal_turned a b h = names_total.antisymm b a ∙ ap ordering_reverse h

-- a name is itself
pub name_eq_itself : (n : Name) → name_eq n n ≡ true
name_eq_itself n = grind (arith, nat_tests)
