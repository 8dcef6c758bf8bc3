use Rattle.std.proofs.Common.{◌≡◌, List, ℕ, Option, Some, None, sym, ◌∙◌}
use Rattle.std.specs.Prelude.{IfSome}
use Rattle.dl_ir.specs.declared.modules.Module.{Module}
use Rattle.dl_ir.specs.declared.names.Name.{Name}
use Rattle.dl_ir.specs.declared.objects.Obj.{Obj}
use Rattle.dl_heapfile.specs.Lines.{TellsOf}
use Rattle.dl_heapfile.specs.Reading.{entry}
use Rattle.dl_heapfile.proofs.LinesRead.{entry_read, entry_written}
use Rattle.dl_heapfile.proofs.lines.read_entry.Goals as goal

told : (source : Module) (line : List ℕ) (o : Option (Name × Obj)) → o ≡ entry source line → IfSome o (TellsOf source line)
told source line None e = tt
told source line (Some one) e = entry_read source line one (sym e)

pub returns-clause-found : goal.returns-clause-found
returns-clause-found c = told c.args.source.now c.args.line.now _ c.entry.ensures

pub returns-clause-only : goal.returns-clause-only
returns-clause-only c = λ one tells. c.entry.ensures ∙ entry_written c.args.source.now c.args.line.now one c.requires.names tells
