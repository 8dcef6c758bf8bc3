-- A text is one module, or has one fault.
use Rattle.std.proofs.Common.{◌≡◌, ℕ, List, [], Result, Ok, Err, refl, sym, ◌∙◌, ap, subst}
use Rattle.dl_ir.specs.declared.modules.Module.{Module}
use Rattle.dl_grammar.specs.Texts.{IsSyntaxFault}
use Rattle.dl_grammar.specs.declared.fault.SyntaxFault.{SyntaxFault}
use Rattle.dl_grammar.specs.declared.fault.SyntaxFault.TheVariants as syntax
use Rattle.dl_grammar.proofs.Whole.{one_tree, one_syntax_fault, tree_or_fault}
use Rattle.dl_types.specs.Rules.{IsTree}
use Rattle.dl_types.proofs.TreeLaws.{one_outcome}
use Rattle.dl_types.specs.declared.fault.TypeFault.{TypeFault}
use Rattle.dl_types.specs.declared.fault.TypeFault.TheVariants as types
use Rattle.dl_heapfile.specs.Faults.{Reads}
use Rattle.dl_heapfile.specs.Names.{HasNames}
use Rattle.dl_heapfile.specs.declared.fault.HeapFault.TheVariants as heap_faults
use Rattle.dl_heapfile.proofs.Once.{is_read_once}
use Rattle.dl_naming.specs.Naming.{SpelledHasNames}
use Rattle.dl_syntax.specs.Line.{lines_of}
use Rattle.dl_syntax.specs.Rules.{IsCallsFault}
use Rattle.dl_syntax.proofs.RuleLaws.{one_calls_fault, no_calls_fault}
use Rattle.dl_syntax.specs.declared.calls.CallsFault.TheVariants as faults
use Rattle.dl_schedule.specs.Rules.{IsScheduleFault, LinesSay}
use Rattle.dl_schedule.specs.declared.give.Give.{Give}
use Rattle.dl_schedule.specs.declared.give.ScheduleFault.{ScheduleFault}
use Rattle.dl_schedule.specs.declared.give.ScheduleFault.TheVariants as schedules
use Rattle.dl_schedule.proofs.RuleLaws.{say_lines}
use Rattle.dl_command.specs.declared.loading.Content.{Content}
use Rattle.dl_command.specs.declared.loading.Content.TheVariants as contents
use Rattle.dl_command.specs.declared.wanted.Form.{Form}
use Rattle.dl_command.specs.declared.wanted.Form.TheVariants as forms
use Rattle.dl_command.specs.declared.status.Status.{Status}
use Rattle.dl_command.specs.declared.status.Status.TheVariants as statuses
use Rattle.dl_command.specs.declared.status.ModuleWhy.{ModuleWhy}
use Rattle.dl_command.specs.declared.status.ModuleWhy.TheVariants as modules
use Rattle.dl_command.specs.Loading.{syntax_status, type_status}
use Rattle.dl_command.specs.Texts.{IsModuleText, HasTypeFault, IsModuleFault, IsFaultOf, IsToldBy, Says, calls_status, heap_status, schedule_status}
use Rattle.dl_command.specs.Words.{Bytes}

-- a fault of a module text is one of its tokens or one of its tree
data Fault (text : Bytes) (answer : Status) : Type 0 where
  of_tokens : (fault : SyntaxFault) → IsSyntaxFault text fault → syntax_status fault ≡ answer → Fault text answer
  of_tree : (fault : TypeFault) → HasTypeFault text fault → type_status fault ≡ answer → Fault text answer

view : (text : Bytes) (line : ℕ) (why : ModuleWhy) → IsModuleFault text line why → Fault text (statuses.ModuleFault line why)
view text line modules.NotAscii is = Fault.of_tokens (syntax.NotAscii is.0 line) is.1 refl
view text line modules.BadByte is = Fault.of_tokens (syntax.BadByte is.0 line) is.1 refl
view text line modules.BigNumber is = Fault.of_tokens (syntax.BigNumber is.0 line) is.1 refl
view text line modules.Expected is = Fault.of_tokens (syntax.Expected line) is refl
view text line modules.TooDeep is = Fault.of_tokens (syntax.TooDeep line) is refl
view text line (modules.Limit which) is = Fault.of_tokens (syntax.Limit line which) is refl
view text line modules.Twice is = Fault.of_tree (types.Twice line) is refl
view text line modules.Unknown is = Fault.of_tree (types.Unknown line) is refl
view text line modules.KindClash is = Fault.of_tree (types.KindClash line) is refl
view text line modules.RootInField is = Fault.of_tree (types.RootInField line) is refl
view text line modules.NewRoot is = Fault.of_tree (types.NewRoot line) is refl
view text line modules.AssignRoot is = Fault.of_tree (types.AssignRoot line) is refl
view text line modules.NoRoots is = Fault.of_tree (types.NoRoots line) is refl

one_ok : {E : Type 0} {T : Type 0} {a b : T} → ◌≡◌ {A = Result T E} (Ok a) (Ok b) → a ≡ b
one_ok same = cc

one_err : {E : Type 0} {T : Type 0} {a b : E} → ◌≡◌ {A = Result T E} (Err a) (Err b) → a ≡ b
one_err same = cc

ok_or_err : {P E : Type 0} {T : Type 0} {a : T} {b : E} → ◌≡◌ {A = Result T E} (Ok a) (Err b) → P
ok_or_err same = absurd (cc)

-- a text is one module
pub one_source : (text : Bytes) (a b : Module) → IsModuleText text a → IsModuleText text b → a ≡ b
one_source text a b is_a is_b =
    let tree = one_tree text is_a.tree is_b.tree is_a.spelled is_b.spelled in
    one_ok (one_outcome is_b.tree (Ok a) (Ok b) (subst (λ t. IsTree t (Ok a)) tree is_a.typed) is_b.typed)

-- a module has no fault
clash : {P : Type 0} (text : Bytes) (source : Module) (answer : Status) → IsModuleText text source → Fault text answer → P
clash text source answer is (Fault.of_tokens fault at_fault is_answer) = absurd (tree_or_fault text is.tree fault is.spelled at_fault)
clash text source answer is (Fault.of_tree fault at_fault is_answer) =
    let tree = one_tree text is.tree at_fault.tree is.spelled at_fault.spelled in
    ok_or_err (one_outcome at_fault.tree (Ok source) (Err fault) (subst (λ t. IsTree t (Ok source)) tree is.typed) at_fault.at_fault)

pub module_or_fault : {P : Type 0} (text : Bytes) (source : Module) (line : ℕ) (why : ModuleWhy) → IsModuleText text source → IsModuleFault text line why → P
module_or_fault text source line why is fault = clash text source _ is (view text line why fault)

-- and else it has one
same_answer : (text : Bytes) (a b : Status) → Fault text a → Fault text b → a ≡ b
same_answer text a b (Fault.of_tokens f at_f is_a) (Fault.of_tokens g at_g is_b) =
    sym is_a ∙ ap syntax_status (one_syntax_fault text f g at_f at_g) ∙ is_b
same_answer text a b (Fault.of_tokens f at_f is_a) (Fault.of_tree g at_g is_b) = absurd (tree_or_fault text at_g.tree f at_g.spelled at_f)
same_answer text a b (Fault.of_tree f at_f is_a) (Fault.of_tokens g at_g is_b) = absurd (tree_or_fault text at_f.tree g at_f.spelled at_g)
same_answer text a b (Fault.of_tree f at_f is_a) (Fault.of_tree g at_g is_b) =
    let tree = one_tree text at_f.tree at_g.tree at_f.spelled at_g.spelled in
    sym is_a ∙ ap type_status (one_err (one_outcome at_g.tree (Err f) (Err g) (subst (λ t. IsTree t (Err f)) tree at_f.at_fault) at_g.at_fault)) ∙ is_b

pub one_module_fault : (text : Bytes) (line other : ℕ) (why otherwise : ModuleWhy) → IsModuleFault text line why → IsModuleFault text other otherwise →
    statuses.ModuleFault line why ≡ statuses.ModuleFault other otherwise
one_module_fault text line other why otherwise is is_other = same_answer text _ _ (view text line why is) (view text other otherwise is_other)

-- a fault that there is once has one status
one_told : {Fault : Type 0} (is_fault : Fault → Type 0) (memory : Fault) (told : Fault → Status) (a b : Status) → ((f g : Fault) → is_fault f → is_fault g → f ≡ g)
    → IsToldBy is_fault memory told a → IsToldBy is_fault memory told b → a ≡ b
one_told is_fault memory told a b one is_a is_b = is_a.is ∙ ap told (one is_a.fault is_b.fault is_a.at_fault is_b.at_fault) ∙ sym is_b.is

-- a schedule has at most one fault
schedule_outcome : (callers : ℕ) (text : Bytes) (a b : Result (List Give) ScheduleFault) → LinesSay callers 1 [] (lines_of text) a → LinesSay callers 1 [] (lines_of text) b → a ≡ b
schedule_outcome callers text a b says_a says_b = sym (say_lines callers a 1 [] (lines_of text) says_a) ∙ say_lines callers b 1 [] (lines_of text) says_b

one_schedule_fault : (callers : ℕ) (text : Bytes) (a b : ScheduleFault) → IsScheduleFault callers text a → IsScheduleFault callers text b → a ≡ b
one_schedule_fault callers text a b is_a is_b = one_err (schedule_outcome callers text (Err a) (Err b) is_a is_b)

-- a module that a text spells has names by which a heap file can tell its objects
pub text_named : (text : Bytes) (source : Module) → SpelledHasNames → IsModuleText text source → HasNames source
text_named text source named is = named text is.tree source is.spelled is.typed

-- a text has at most one fault of a form
pub one_fault : (source : Module) (file : ℕ) (form : Form) (text : Bytes) (a b : Status) → HasNames source → IsFaultOf source file form text a → IsFaultOf source file form text b → a ≡ b
one_fault source file (forms.Heap places) text a b named is_a is_b =
    one_told (λ fault. Reads source places text (Err fault)) heap_faults.Memory heap_status a b
    (λ f g is_f is_g. one_err (is_read_once source places text (Err f) (Err g) named is_f is_g)) is_a is_b
one_fault source file (forms.Schedule callers) text a b named is_a is_b =
    one_told (IsScheduleFault callers text) schedules.Memory (schedule_status file) a b (one_schedule_fault callers text) is_a is_b
one_fault source file forms.Operations text a b named is_a is_b =
    one_told (IsCallsFault source text) faults.Memory (calls_status file) a b (one_calls_fault source text) is_a is_b

-- and has none where it says something
pub says_or_fault : {P : Type 0} (source : Module) (file : ℕ) (form : Form) (text : Bytes) (content : Content) (status : Status) → HasNames source → Says source form text content →
    IsFaultOf source file form text status → P
says_or_fault source file (forms.Heap places) text (contents.Heap heap) status named says fault =
    ok_or_err (is_read_once source places text (Ok heap.objects) (Err fault.fault) named says fault.at_fault)
says_or_fault source file (forms.Heap places) text (contents.Schedule gives) status named says fault = absurd says
says_or_fault source file (forms.Heap places) text (contents.Calls calls) status named says fault = absurd says
says_or_fault source file (forms.Schedule callers) text (contents.Heap heap) status named says fault = absurd says
says_or_fault source file (forms.Schedule callers) text (contents.Schedule gives) status named says fault = ok_or_err (schedule_outcome callers text (Ok gives) (Err fault.fault) says fault.at_fault)
says_or_fault source file (forms.Schedule callers) text (contents.Calls calls) status named says fault = absurd says
says_or_fault source file forms.Operations text (contents.Heap heap) status named says fault = absurd says
says_or_fault source file forms.Operations text (contents.Schedule gives) status named says fault = absurd says
says_or_fault source file forms.Operations text (contents.Calls calls) status named says fault = absurd (no_calls_fault source text calls fault.fault says fault.at_fault)
