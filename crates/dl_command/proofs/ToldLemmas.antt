-- What is told of a file, and what a call finds there.
use Rattle.std.proofs.Common.{◌≡◌, ℕ, zero, suc, ◌<◌, ◌≤◌, List, [], ◌∷◌, Option, Some, IfSome, length, refl, sym, ◌∙◌, ap, subst, arith}
use Rattle.std.specs.Prelude.{slice_get}
use Rattle.dl_io.specs.Source.{Source, Tells}
use Rattle.dl_ir.specs.declared.modules.Module.{Module}
use Rattle.dl_grammar.specs.declared.tree.Tree.{Tree}
use Rattle.dl_heapfile.specs.Names.{HasNames}
use Rattle.dl_naming.specs.Naming.{SpelledHasNames}
use Rattle.dl_command.specs.declared.loading.Content.{Content}
use Rattle.dl_command.specs.declared.status.Status.{Status}
use Rattle.dl_command.specs.declared.status.Status.TheVariants as statuses
use Rattle.dl_command.specs.Causes.{NoModule, NoFile}
use Rattle.dl_command.specs.Reading.{ReadCause, Fails, IsTooLong}
use Rattle.dl_command.specs.Texts.{IsFile, AreFiles, IsModuleFile, IsModuleText, IsModuleFault, IsFaultOf, Behind, with_content}
use Rattle.dl_command.specs.Told.{IsTold, TellsModule, TellsFile, RefusesModule, RefusesFile, EndsWith}
use Rattle.dl_command.specs.Wanted.{Wanted}
use Rattle.dl_command.specs.Words.{Bytes, limit_of}
use Rattle.dl_command.proofs.FaultLemmas.{one_source, module_or_fault, one_module_fault, one_fault, says_or_fault, text_named}

-- what is told is what is found
same_text : (told : Option Bytes) (text found : Bytes) → told ≡ Some text → Tells told found → text ≡ found
same_text told text found is tells = subst (λ (o : Option Bytes). IfSome o (λ b. b ≡ found)) is tells

long_text : (told : Option Bytes) (text : Bytes) (limit : ℕ) → told ≡ Some text → IfSome told (λ bytes. limit < length bytes) → limit < length text
long_text told text limit is long = subst (λ (o : Option Bytes). IfSome o (λ bytes. limit < length bytes)) is long

-- a text is not within a limit and beyond it
too_much : {P : Type 0} (a b : Bytes) (limit : ℕ) → a ≡ b → length a ≤ limit → limit < length b → P
too_much a b limit same short long = absurd (omega (arith, ap length same, short, long))

-- why a file was not read to its end
data Unread (file : ℕ) (path : Bytes) (old new : Source) (status : Status) : Type 0 where
  failed : status ≡ statuses.ReadFault file → Fails file path old new → Unread file path old new status
  beyond : status ≡ statuses.TooLong file → IsTooLong file path (limit_of file) old new → Unread file path old new status
  memory : status ≡ statuses.Memory → Unread file path old new status

unread : (status : Status) (file : ℕ) (path : Bytes) (old new : Source) → ReadCause status file path old new → Unread file path old new status
unread (statuses.ReadFault f) file path old new cause = Unread.failed (ap statuses.ReadFault cause.0) cause.1
unread (statuses.TooLong f) file path old new cause = Unread.beyond (ap statuses.TooLong cause.0) cause.1
unread statuses.Memory file path old new cause = Unread.memory refl
unread statuses.Done file path old new cause = absurd cause
unread statuses.Usage file path old new cause = absurd cause
unread (statuses.ModuleFault line why) file path old new cause = absurd cause
unread (statuses.OpsFault f line why) file path old new cause = absurd cause
unread statuses.WriteFault file path old new cause = absurd cause
unread (statuses.HeapFault line why) file path old new cause = absurd cause

-- why a file was not taken that is told and is what it should be
pub data Untaken (file : ℕ) (path : Bytes) (old new : Source) (status : Status) : Type 0 where
  failed : status ≡ statuses.ReadFault file → Fails file path old new → Untaken file path old new status
  memory : status ≡ statuses.Memory → Untaken file path old new status

module _ {old new : Source} {status : Status} where
  read_told : {file : ℕ} {path text : Bytes} → IsTold old file path text → Unread file path old new status → Untaken file path old new status
  read_told told (Unread.failed is fails) = Untaken.failed is fails
  read_told {file = file} {text = text} told (Unread.beyond is long) = too_much text text (limit_of file) refl told.short (long_text _ text (limit_of file) told.told long.long)
  read_told told (Unread.memory is) = Untaken.memory is

  pub module_untaken : {path : Bytes} {source : Module} → TellsModule old path source → NoModule path old new status → Untaken 0 path old new status
  module_untaken {path = path} tells (NoModule.unread cause) = read_told tells.is_told (unread status 0 path old new cause)
  module_untaken tells (NoModule.no_memory is within) = Untaken.memory is
  module_untaken {source = source} tells (NoModule.at_fault line why text is told short is_fault within) =
      let same = same_text _ tells.text text tells.is_told.told told in
      module_or_fault text source line why (subst (λ t. IsModuleText t source) same tells.spells) is_fault

  pub file_untaken : {source : Module} {file : Wanted} → HasNames source → TellsFile source old file → NoFile source file old new status → Untaken file.number file.path old new status
  file_untaken {file = file} named tells (NoFile.unread cause) = read_told tells.is_told (unread status file.number file.path old new cause)
  file_untaken named tells (NoFile.no_memory is within) = Untaken.memory is
  file_untaken {source = source} {file = file} named tells (NoFile.at_fault text told short is_fault within) =
      let same = same_text _ tells.text text tells.is_told.told told in
      says_or_fault source file.number file.form text tells.content status named (rw (← same) tells.says) is_fault

  -- a refusal that is called for is answered
  read_refused : {file : ℕ} {path : Bytes} {numbers : List ℕ} {place : ℕ} {answer : Status} → slice_get numbers place ≡ Some file → Unread file path old new status
      → (IsTooLong file path (limit_of file) old new → statuses.TooLong file ≡ answer) → EndsWith numbers place answer status
  read_refused {file = file} {place = place} here (Unread.failed is fails) called = EndsWith.unread place file (omega arith) here is
  read_refused here (Unread.beyond is long) called = EndsWith.answered (is ∙ called long)
  read_refused here (Unread.memory is) called = EndsWith.no_memory is

  pub module_refused : {path : Bytes} {numbers : List ℕ} {answer : Status} → slice_get numbers 0 ≡ Some 0 → RefusesModule old path answer → NoModule path old new status → EndsWith numbers 0 answer status
  module_refused here refused (NoModule.no_memory is within) = EndsWith.no_memory is
  module_refused {path = path} here (RefusesModule.too_long text told long is_answer) (NoModule.unread cause) =
      read_refused here (unread status 0 path old new cause) (λ found. sym is_answer)
  module_refused {path = path} here (RefusesModule.at_fault text line why told is_fault is_answer) (NoModule.unread cause) =
      read_refused here (unread status 0 path old new cause) (λ found.
      too_much text text (limit_of 0) refl told.short (long_text _ text (limit_of 0) told.told found.long))
  module_refused here (RefusesModule.too_long text told long is_answer) (NoModule.at_fault line why found is tells short is_fault within) =
      too_much found text (limit_of 0) (sym (same_text _ text found told tells)) short long
  module_refused here (RefusesModule.at_fault text line why told is_fault is_answer) (NoModule.at_fault other otherwise found is tells short found_fault within) =
      let same = same_text _ text found told.told tells in
      EndsWith.answered (is ∙ one_module_fault found other line otherwise why found_fault (subst (λ t. IsModuleFault t line why) same is_fault) ∙ sym is_answer)

  pub file_refused : {source : Module} {file : Wanted} {numbers : List ℕ} {place : ℕ} {answer : Status} → HasNames source → slice_get numbers place ≡ Some file.number → RefusesFile source old file answer → NoFile source file old new status
      → EndsWith numbers place answer status
  file_refused named here refused (NoFile.no_memory is within) = EndsWith.no_memory is
  file_refused {file = file} named here (RefusesFile.too_long text told long is_answer) (NoFile.unread cause) =
      read_refused here (unread status file.number file.path old new cause) (λ found. sym is_answer)
  file_refused {file = file} named here (RefusesFile.at_fault text told is_fault) (NoFile.unread cause) =
      read_refused here (unread status file.number file.path old new cause) (λ found.
      too_much text text (limit_of file.number) refl told.short (long_text _ text (limit_of file.number) told.told found.long))
  file_refused {file = file} named here (RefusesFile.too_long text told long is_answer) (NoFile.at_fault found tells short is_fault within) =
      too_much found text (limit_of file.number) (sym (same_text _ text found told tells)) short long
  file_refused {source = source} {file = file} {answer = answer} named here (RefusesFile.at_fault text told is_fault) (NoFile.at_fault found tells short found_fault within) =
      let same = same_text _ text found told.told tells in
      EndsWith.answered (one_fault source file.number file.form found status answer named found_fault (subst (λ t. IsFaultOf source file.number file.form t answer) same is_fault))

-- the text of a module's file
module_text : {files : Source} {path : Bytes} {tree : Tree} {source : Module} (file : IsModuleFile files path tree source) → IsModuleText file.text source
module_text {tree = tree} file = record { tree = tree; spelled = file.spelled; typed = file.typed }

-- a module that is told, and one that was found, have names by which a heap file can tell their objects
pub told_named : {files : Source} {path : Bytes} {source : Module} → SpelledHasNames → TellsModule files path source → HasNames source
told_named {source = source} named tells = text_named tells.text source named tells.spells

pub found_named : {files : Source} {path : Bytes} {tree : Tree} {source : Module} → SpelledHasNames → IsModuleFile files path tree source → HasNames source
found_named {source = source} named file = text_named file.text source named (module_text file)

-- a file for which a refusal is called was not taken
pub module_not_taken : {P : Type 0} {files : Source} {path : Bytes} {tree : Tree} {source : Module} {answer : Status} → RefusesModule files path answer →
    IsModuleFile files path tree source → P
module_not_taken (RefusesModule.too_long text told long is_answer) file =
    too_much file.text text (limit_of 0) (sym (same_text _ text file.text told file.told)) file.short long
module_not_taken {source = source} (RefusesModule.at_fault text line why told is_fault is_answer) file =
    let same = same_text _ text file.text told.told file.told in
    module_or_fault file.text source line why (module_text file) (subst (λ t. IsModuleFault t line why) same is_fault)

pub file_not_taken : {P : Type 0} {files : Source} {source : Module} {file : Wanted} {answer : Status} {content : Content} →
    HasNames source → RefusesFile source files file answer → IsFile source files file content → P
file_not_taken {file = file} named (RefusesFile.too_long text told long is_answer) found =
    too_much found.text text (limit_of file.number) (sym (same_text _ text found.text told found.told)) found.short long
file_not_taken {source = source} {file = file} {answer = answer} {content = content} named (RefusesFile.at_fault text told is_fault) found =
    let same = same_text _ text found.text told.told found.told in
    says_or_fault source file.number file.form found.text content answer named found.says (subst (λ t. IsFaultOf source file.number file.form t answer) same is_fault)

-- the module that is told is the one that is found
pub told_source : {files : Source} {path : Bytes} {tree : Tree} {a b : Module} → TellsModule files path a → IsModuleFile files path tree b → a ≡ b
told_source {a = a} {b = b} tells file =
    let same = same_text _ tells.text file.text tells.is_told.told file.told in
    one_source file.text a b (subst (λ t. IsModuleText t a) same tells.spells) (module_text file)

-- the file at a place
pub record Found (source : Module) (files : Source) (file : Wanted) : Type 0 where
  pub content : Content
  pub is : IsFile source files file content

pub file_at : (source : Module) (files : Source) (wanted : List Wanted) (before after : Behind) (at : ℕ) (file : Wanted) → AreFiles source files wanted before after → slice_get wanted at ≡ Some file → Found source files file
file_at source files [] before after at file are is = cc
file_at source files (first ∷ wanted) before after zero file are is =
    let same : first ≡ file = cc in record { content = are.0; is = subst (λ f. IsFile source files f are.0) same are.1 }
file_at source files (first ∷ wanted) before after (suc at) file are is = file_at source files wanted (with_content before are.0) after at file are.2 is
