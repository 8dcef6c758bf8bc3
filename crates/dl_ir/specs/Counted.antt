-- Objects with what is counted and filed beside them, and the rows that hold an object with its number.
use Rattle.std.specs.Prelude.{ℕ, ◌+◌, ◌-◌, true, List, map, slice_set, refl}
use Rattle.std.specs.Coded.{Coded, code_by, coded×, coded_ℕ}
use base.Stored.{coded_unit}
use Rattle.dl_ir.specs.declared.names.Name.{Name}
use Rattle.dl_ir.specs.declared.names.Value.{Value}
use Rattle.dl_ir.specs.declared.objects.Obj.{Obj}
use Rattle.dl_ir.specs.declared.rows.Row.{Row}
use Rattle.dl_ir.specs.Codes.{coded_object}
use Rattle.dl_ir.specs.Mapped.{entry_with, with_values}
use Rattle.dl_ir.specs.Rows.{Rows, coded_rows}

-- Objects, the number of fields that refer to each, and the names of the loose and of the shared ones.
pub record Counted : Type 0 where
  pub objects : Rows Obj
  pub counts : Rows ℕ
  pub loose : Rows (Unit {0})
  pub shared : Rows (Unit {0})

-- They are stored as the four tables.
abbrev pub coded_counted : Coded Counted
coded_counted = code_by ((Rows Obj × Rows ℕ) × (Rows (Unit {0}) × Rows (Unit {0})))
    (coded× (coded× (coded_rows coded_object) (coded_rows coded_ℕ)) (coded× (coded_rows coded_unit) (coded_rows coded_unit)))
    (λ c. ((c.objects, c.counts), (c.loose, c.shared)))
    (λ p. record { objects = p.0.0; counts = p.0.1; loose = p.1.0; shared = p.1.1 })
    (λ _. refl)

-- The object of a row.
abbrev pub object_of : Row → Obj
object_of row = row.object

-- The number of a row.
abbrev pub refs_of : Row → ℕ
refs_of row = row.refs

-- The objects of rows.
abbrev pub objects_in : Rows Row → Rows Obj
objects_in t = record { rows = with_values object_of t.rows; room = t.room }

-- The numbers of rows.
abbrev pub counts_in : Rows Row → Rows ℕ
counts_in t = record { rows = with_values refs_of t.rows; room = t.room }

-- The objects and the numbers of rows, with the names of the loose and of the shared ones.
abbrev pub counted_by : Rows Row → Rows (Unit {0}) → Rows (Unit {0}) → Counted
counted_by rows loose shared = record { objects = objects_in rows; counts = counts_in rows; loose = loose; shared = shared }

-- The names of rows with their objects.
abbrev pub objects_along : List (Name × Row) → List (Name × Obj)
objects_along entries = map {B = Name × Obj} (entry_with object_of) entries

-- The object in which this field has this value.
abbrev pub object_with : ℕ → Value → Obj → Obj
object_with field value object = record object { fields = slice_set object.fields field value }

-- The object, sealed.
abbrev pub sealed_object : Obj → Obj
sealed_object object = record object { sealed = true }

-- The row in which this field of the object has this value.
abbrev pub row_with : ℕ → Value → Row → Row
row_with field value row = record row { object = object_with field value row.object }

-- The row in which the object is sealed.
abbrev pub sealed_row : Row → Row
sealed_row row = record row { object = sealed_object row.object }

-- The row whose number has this more, and then this fewer, down to 0.
abbrev pub recounted_row : ℕ → ℕ → Row → Row
recounted_row more fewer row = record row { refs = row.refs + more - fewer }
