-- What the names of a module have to be for a text to say which object it means.
use Rattle.std.specs.Prelude.{◌≡◌, ◌<◌, ℕ, Some, List, length, slice_get}
use Rattle.dl_ir.specs.declared.modules.FieldDecl.{FieldDecl}
use Rattle.dl_ir.specs.declared.modules.KindDecl.{KindDecl}
use Rattle.dl_ir.specs.declared.modules.Module.{Module}
use Rattle.dl_text.specs.Bytes.{is_word, AllAre}

-- letters, digits and low lines, one at least
pub record IsName (text : List ℕ) : Type 0 where
  pub some : 0 < length text
  pub word : AllAre is_word text

-- the names of kinds and of their fields are such, and kinds have names of their own
pub record HasNames (source : Module) : Type 0 where
  pub kinds : (at : ℕ) (kind : KindDecl) → slice_get source.kinds at ≡ Some kind → IsName kind.name
  pub fields : (at place : ℕ) (kind : KindDecl) (field : FieldDecl) → slice_get source.kinds at ≡ Some kind → slice_get kind.fields place ≡ Some field → IsName field.name
  pub apart : (at other : ℕ) (kind same : KindDecl) → slice_get source.kinds at ≡ Some kind → slice_get source.kinds other ≡ Some same → kind.name ≡ same.name → at ≡ other
