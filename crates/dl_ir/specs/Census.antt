-- What a heap keeps beside its objects: how many fields refer to each, and the names of those that settling changes.
use Rattle.std.specs.Prelude.{◌≡◌, ◌≤◌, ◌+◌, ◌-◌, ◌^◌, ◌==◌, ◌&&◌, ℕ, Bool, false, List, Option, Some, None, length, count_by, nat_le, if◌then◌else◌}
use Rattle.std.specs.Option.{option_map}
use Rattle.std.specs.Ordering.{eq_by_cmp}
use Rattle.std.specs.FinMap as map
use Rattle.dl_ir.specs.declared.names.Name.{Name}
use Rattle.dl_ir.specs.declared.names.Value.{Value}
use Rattle.dl_ir.specs.declared.objects.Obj.{Obj}
use Rattle.dl_ir.specs.Counted.{Counted}
use Rattle.dl_ir.specs.Heap.{Objects, name_cmp}
use Rattle.dl_ir.specs.References.{refers_to, refs, is_open}

-- The object that may be there is hidden and unsealed.
abbrev pub open_at : Name → Option Obj → Bool
open_at name None = false
open_at name (Some object) = is_open (name, object)

-- No field refers to an object with this count, if it has one.
abbrev pub is_none : Option ℕ → Bool
is_none None = false
is_none (Some count) = count == 0

-- Two fields or more refer to an object with this count, if it has one.
abbrev pub is_many : Option ℕ → Bool
is_many None = false
is_many (Some count) = nat_le 2 count

-- The tables tell the truth of this name: it has a count exactly where it has an object, and it is among the loose or
-- the shared ones exactly where it is hidden, unsealed and of such a count.
pub record IsFiledAt (census : Counted) (name : Name) : Type 0 where
  pub counted : map.contains_key census.counts.rows name ≡ map.contains_key census.objects.rows name
  pub loose : map.contains_key census.loose.rows name ≡ (open_at name (map.get census.objects.rows name) && is_none (map.get census.counts.rows name))
  pub shared : map.contains_key census.shared.rows name ≡ (open_at name (map.get census.objects.rows name) && is_many (map.get census.counts.rows name))

-- Each table has memory for as many names as there may be objects.
pub record HasRooms (census : Counted) : Type 0 where
  pub within : map.len census.objects.rows ≤ census.objects.room
  pub counts : census.counts.room ≡ census.objects.room
  pub loose : census.loose.room ≡ census.objects.room
  pub shared : census.shared.room ≡ census.objects.room

-- The tables tell the truth of every name.
pub record IsFiled (census : Counted) : Type 0 where
  pub each : (name : Name) → IsFiledAt census name
  pub rooms : HasRooms census

-- The tables tell the truth of every name but this one.
pub record IsFiledBut (but : Name) (census : Counted) : Type 0 where
  pub each : (name : Name) → eq_by_cmp name_cmp name but ≡ false → IsFiledAt census name
  pub rooms : HasRooms census

-- The census in which an object has this count.
abbrev pub with_count : Name → ℕ → Counted → Counted
with_count name count census = record census { counts = record census.counts { rows = map.insert census.counts.rows name count } }

-- The names of a table, one of them marked or not.
abbrev pub marked : Bool → map.FinMap name_cmp (Unit {0}) → Name → map.FinMap name_cmp (Unit {0})
marked belongs names name = if belongs then map.insert names name tt else map.remove names name

-- Each count is changed by the number of these values that refer to its object.
abbrev pub Changes : (ℕ → ℕ → ℕ) → map.FinMap name_cmp ℕ → map.FinMap name_cmp ℕ → List Value → Type 0
Changes by before after values = (name : Name) → map.get after name ≡ option_map (λ (count : ℕ). by count (count_by (refers_to name) values)) (map.get before name)

-- Each count is greater by the number of these values that refer to its object.
abbrev pub Gains : map.FinMap name_cmp ℕ → map.FinMap name_cmp ℕ → List Value → Type 0
Gains before after values = Changes (λ count more. count + more) before after values

-- Each count is less by the number of these values that refer to its object.
abbrev pub Loses : map.FinMap name_cmp ℕ → map.FinMap name_cmp ℕ → List Value → Type 0
Loses before after values = Changes (λ count fewer. count - fewer) before after values

-- None of these values refers to an object that is not there.
abbrev pub AreThere : Objects → List Value → Type 0
AreThere objects values = (name : Name) → map.get objects name ≡ None → count_by (refers_to name) values ≡ 0

-- Each object has at most sixteen fields.
abbrev pub HasFewFields : Objects → Type 0
HasFewFields objects = (name : Name) (object : Obj) → map.get objects name ≡ Some object → length object.fields ≤ 16

-- What a heap keeps of its objects is true: each count is the number of fields that refer to the object, and unless
-- fields may refer to what is not there, none does.
pub record IsKept (census : Counted) (may_dangle : Bool) : Type 0 where
  pub filed : IsFiled census
  pub counted : (name : Name) (count : ℕ) → map.get census.counts.rows name ≡ Some count → count ≡ refs census.objects.rows name
  pub few_fields : HasFewFields census.objects.rows
  pub dangling : may_dangle ≡ false → (name : Name) → map.get census.objects.rows name ≡ None → refs census.objects.rows name ≡ 0
  pub small : census.objects.room ≤ 2 ^ 48

-- No object is sealed.
abbrev pub NoneIsSealed : Objects → Type 0
NoneIsSealed objects = (name : Name) (object : Obj) → map.get objects name ≡ Some object → object.sealed ≡ false

-- What a heap keeps of its objects is true, and unless one may be sealed, none is.
pub record IsKnown (census : Counted) (may_dangle has_sealed : Bool) : Type 0 where
  pub kept : IsKept census may_dangle
  pub seals : has_sealed ≡ false → NoneIsSealed census.objects.rows
