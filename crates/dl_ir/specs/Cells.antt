-- How the values of fields lie in cells.
use Rattle.std.specs.Prelude.{◌≡◌, ◌<◌, ◌≤◌, List, [], Some, None, length}
use Rattle.dl_ir.specs.declared.cells.Cell.{Cell}
use Rattle.dl_ir.specs.declared.cells.Cell.TheVariants as cells
use Rattle.dl_ir.specs.declared.names.Value.{Value}
use Rattle.dl_ir.specs.declared.names.Value.TheVariants.{Int, Ref}

-- The value in a cell.
abbrev pub value_in : Cell → Value
value_in (cells.Int number) = Int number
value_in cells.Null = Ref None
value_in (cells.Ref index ticket) = Ref (Some (record { ticket = ticket; index = index }))

-- The cell that has a value in it.
abbrev pub cell_of : Value → Cell
cell_of (Int number) = cells.Int number
cell_of (Ref None) = cells.Null
cell_of (Ref (Some name)) = cells.Ref name.index name.ticket

-- The first values are at most four, and behind fewer there are no others.
pub record IsSplit (near far : List Value) : Type 0 where
  pub few : length near ≤ 4
  pub rest : length near < 4 → far ≡ []
