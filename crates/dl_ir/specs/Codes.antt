-- How a heap is stored, by which proofs tell heaps apart.
use Rattle.std.specs.Prelude.{ℕ, Bool, List, refl}
use Rattle.std.specs.Coded.{Coded, code_by, coded×, coded_ℕ, coded_bool, coded_list}
use Rattle.std.specs.FinMap.{code}
use Rattle.dl_ir.specs.declared.names.Value.{Value}
use Rattle.dl_ir.specs.declared.objects.Obj.{Obj}
use Rattle.dl_ir.specs.declared.rows.Row.{Row}
use Rattle.dl_ir.specs.Values.{coded_name, coded_value}
use Rattle.dl_ir.specs.Heap.{Objects, View}

-- An object is stored as its parts.
abbrev pub coded_object : Coded Obj
coded_object = code_by (ℕ × (Bool × List Value)) (coded× coded_ℕ (coded× coded_bool (coded_list coded_value))) (λ o. (o.kind, (o.sealed, o.fields))) (λ p. record { kind = p.0; sealed = p.1.0; fields = p.1.1 }) (λ _. refl)

-- A row is stored as its parts.
abbrev pub coded_row : Coded Row
coded_row = code_by (ℕ × Obj) (coded× coded_ℕ coded_object) (λ r. (r.refs, r.object)) (λ p. record { refs = p.0; object = p.1 }) (λ _. refl)

-- A heap is stored as its entries and its room.
abbrev pub coded_view : Coded View
coded_view = code_by (Objects × ℕ) (coded× (code coded_name coded_object) coded_ℕ) (λ v. (v.objects, v.room)) (λ p. record { objects = p.0; room = p.1 }) (λ _. refl)
