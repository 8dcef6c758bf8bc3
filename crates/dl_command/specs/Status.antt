-- The line and the code of each status.
use Rattle.std.specs.Prelude.{ℕ, ◌++◌, List, [], codes, decimal}
use Rattle.dl_grammar.specs.declared.fault.Which.{Which}
use Rattle.dl_grammar.specs.declared.fault.Which.TheVariants as limits
use Rattle.dl_command.specs.declared.status.HeapWhy.{HeapWhy}
use Rattle.dl_command.specs.declared.status.HeapWhy.TheVariants as heaps
use Rattle.dl_command.specs.declared.status.ModuleWhy.{ModuleWhy}
use Rattle.dl_command.specs.declared.status.ModuleWhy.TheVariants as modules
use Rattle.dl_command.specs.declared.status.OpsWhy.{OpsWhy}
use Rattle.dl_command.specs.declared.status.OpsWhy.TheVariants as calls
use Rattle.dl_command.specs.declared.status.Status.{Status}
use Rattle.dl_command.specs.declared.status.Status.TheVariants as statuses

-- the name of a limit, with a word before it
abbrev pub limit_text : Which → List ℕ
limit_text limits.Kinds = codes "Limit Kinds"
limit_text limits.Fields = codes "Limit Fields"
limit_text limits.Ops = codes "Limit Ops"
limit_text limits.Locals = codes "Limit Locals"
limit_text limits.Roots = codes "Limit Roots"
limit_text limits.Allocs = codes "Limit Allocs"
limit_text limits.Fuel = codes "Limit Fuel"
limit_text limits.Literal = codes "Limit Literal"
limit_text limits.Operators = codes "Limit Operators"

-- the name of a fault of a module
abbrev pub module_why_text : ModuleWhy → List ℕ
module_why_text modules.NotAscii = codes "NotAscii"
module_why_text modules.BadByte = codes "BadByte"
module_why_text modules.BigNumber = codes "BigNumber"
module_why_text modules.Expected = codes "Expected"
module_why_text modules.TooDeep = codes "TooDeep"
module_why_text (modules.Limit limit) = limit_text limit
module_why_text modules.Twice = codes "Twice"
module_why_text modules.Unknown = codes "Unknown"
module_why_text modules.KindClash = codes "KindClash"
module_why_text modules.RootInField = codes "RootInField"
module_why_text modules.NewRoot = codes "NewRoot"
module_why_text modules.AssignRoot = codes "AssignRoot"
module_why_text modules.NoRoots = codes "NoRoots"

-- the name of a fault of a file behind the module
abbrev pub ops_why_text : OpsWhy → List ℕ
ops_why_text calls.NotAscii = codes "NotAscii"
ops_why_text calls.BadByte = codes "BadByte"
ops_why_text calls.TooMany = codes "TooMany"
ops_why_text calls.NoOp = codes "NoOp"
ops_why_text calls.ArgCount = codes "ArgCount"
ops_why_text calls.NotNumber = codes "NotNumber"
ops_why_text calls.NoRoot = codes "NoRoot"
ops_why_text calls.BadStep = codes "BadStep"
ops_why_text calls.NoCaller = codes "NoCaller"

-- the name of a fault of a heap file
abbrev pub heap_why_text : HeapWhy → List ℕ
heap_why_text heaps.NoHeap = codes "NoHeap"
heap_why_text heaps.BadLine = codes "BadLine"
heap_why_text heaps.Count = codes "Count"
heap_why_text heaps.Dangling = codes "Dangling"
heap_why_text heaps.Shape = codes "Shape"
heap_why_text heaps.NoPlaces = codes "NoPlaces"

-- a place and the fault there
abbrev pub placed_text : ℕ → List ℕ → List ℕ
placed_text line why = decimal line ++ codes ": " ++ why ++ codes "\n"

-- the line that the program prints of a status to standard error; nothing where all was done
abbrev pub status_text : Status → List ℕ
status_text statuses.Done = []
status_text statuses.Usage = codes "domlock: usage: domlock COMMAND FIRST [REST..] [--places N]\n"
status_text (statuses.ReadFault file) = codes "domlock: read fault in file " ++ decimal file ++ codes "\n"
status_text (statuses.TooLong file) = codes "domlock: file " ++ decimal file ++ codes " is too long\n"
status_text (statuses.ModuleFault line why) = codes "domlock: module line " ++ placed_text line (module_why_text why)
status_text (statuses.OpsFault file line why) = codes "domlock: file " ++ decimal file ++ codes " line " ++ placed_text line (ops_why_text why)
status_text statuses.WriteFault = codes "domlock: write fault\n"
status_text statuses.Memory = codes "domlock: out of memory\n"
status_text (statuses.HeapFault line why) = codes "domlock: heap line " ++ placed_text line (heap_why_text why)

-- the code with which the program ends
abbrev pub code_of : Status → ℕ
code_of statuses.Done = 0
code_of statuses.Usage = 1
code_of (statuses.ReadFault file) = 2
code_of (statuses.TooLong file) = 3
code_of (statuses.ModuleFault line why) = 4
code_of (statuses.OpsFault file line why) = 5
code_of statuses.WriteFault = 6
code_of statuses.Memory = 7
code_of (statuses.HeapFault line why) = 8
