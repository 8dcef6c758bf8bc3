-- What a text says are calls of the module.
use Rattle.std.proofs.Common.{◌≡◌, ℕ, ◌+◌, ◌<◌, Bool, true, false, ◌&&◌, nat_le, nat_lt, List, [], ◌∷◌, ◌++◌, length, refl, subst, arith, length-append}
use Rattle.std.specs.Prelude.{IfOk, Option, Some, None, Result, Ok, Err, ℤ, pos, negsuc, slice_get, if◌then◌else◌, ◌==◌}
use Rattle.std.proofs.lemmas.List.Elements.{All-push}
use Rattle.std.proofs.lemmas.Bool.Decides.{nat_tests}
use Rattle.dl_ir.specs.declared.modules.Ty.{Ty}
use Rattle.dl_ir.specs.declared.modules.Ty.TheVariants.{Int, Of}
use Rattle.dl_ir.specs.declared.modules.KindDecl.{KindDecl}
use Rattle.dl_ir.specs.declared.modules.LocalDecl.{LocalDecl}
use Rattle.dl_ir.specs.declared.modules.OpDecl.{OpDecl}
use Rattle.dl_ir.specs.declared.modules.Module.{Module}
use Rattle.dl_ir.specs.declared.calls.Call.{Call}
use Rattle.dl_ir.specs.CallForms.{IsRootNumber, FitsType, AllFit, IsCallOf, AreCallsOf}
use Rattle.dl_syntax.specs.declared.calls.CallsFault.{CallsFault}
use Rattle.dl_syntax.specs.declared.calls.CallsFault.TheVariants.{TooMany, ArgCount, NoRoot}
use Rattle.dl_syntax.specs.Line.{words_of, before_comment, numbers_of}
use Rattle.dl_syntax.specs.Calls.{is_root_of, fits, all_fit, call_with, Gives, call_of_op, op_named, call_of_found, call_of_words, call_unless_wrong, call_of_line, after_line, calls_from}

both_true : (a b : Bool) → (a && b) ≡ true → (a ≡ true) × (b ≡ true)
both_true true true h = (refl, refl)
both_true true false h = cc
both_true false b h = cc

root_of : (source : Module) (k : ℕ) (kind : Option KindDecl) (n : ℤ) → slice_get source.kinds k ≡ kind → is_root_of kind n ≡ true → IsRootNumber source k n
root_of source k None n e h = cc
root_of source k (Some kind) (negsuc m) e h = cc
root_of source k (Some kind) (pos m) e h =
    let outer : ((kind.is_root && nat_le kind.first m) ≡ true) × (nat_lt m (kind.first + kind.count) ≡ true) = both_true _ _ h in
    let inner : (kind.is_root ≡ true) × (nat_le kind.first m ≡ true) = both_true _ _ outer.0 in
    record {
      number = m;
      is_number = refl;
      decl = kind;
      declared = e;
      is_root = inner.0;
      not_before = (let t : nat_le kind.first m ≡ true = inner.1 in grind (arith, nat_tests));
      not_behind = (let t : nat_lt m (kind.first + kind.count) ≡ true = outer.1 in grind (arith, nat_tests));
    }

fits_type : (source : Module) (ty : Ty) (n : ℤ) → fits source ty n ≡ true → FitsType source ty n
fits_type source Int n h = tt
fits_type source (Of k) n h = root_of source k (slice_get source.kinds k) n refl h

pub fits_all : (source : Module) (params : List LocalDecl) (ns : List ℤ) → all_fit source params ns ≡ true → AllFit source params ns
fits_all source [] [] h = tt
fits_all source [] (n ∷ ns) h = cc
fits_all source (p ∷ ps) [] h = cc
fits_all source (p ∷ ps) (n ∷ ns) h =
    let both : (fits source p.ty n ≡ true) × (all_fit source ps ns ≡ true) = both_true _ _ h in
    (fits_type source p.ty n both.0, fits_all source ps ns both.1)

with_fits : (source : Module) (line op : ℕ) (decl : OpDecl) (ns : List ℤ) (call : Call) (v : Bool) → slice_get source.ops op ≡ Some decl → all_fit source decl.params ns ≡ v
    → ◌≡◌ {A = Result (Option Call) CallsFault} (if v then Ok (Some (record { op = op; args = ns })) else Err (NoRoot line)) (Ok (Some call)) → IsCallOf source call
with_fits source line op decl ns call true e f h =
    let same : record { op = op; args = ns } ≡ call = cc in
    subst (IsCallOf source) same (record { op = decl; declared = e; fits = fits_all source decl.params ns f })
with_fits source line op decl ns call false e f h = cc

with_numbers : (source : Module) (line op : ℕ) (decl : OpDecl) (ns : Option (List ℤ)) (call : Call) → slice_get source.ops op ≡ Some decl
    → call_with source line op decl.params ns ≡ Ok (Some call) → IsCallOf source call
with_numbers source line op decl None call e h = cc
with_numbers source line op decl (Some ns) call e h = with_fits source line op decl ns call (all_fit source decl.params ns) e refl h

with_count : (source : Module) (line op : ℕ) (decl : OpDecl) (words : List (List ℕ)) (call : Call) (v : Bool) → slice_get source.ops op ≡ Some decl
    → ◌≡◌ {A = Result (Option Call) CallsFault} (if v then call_with source line op decl.params (numbers_of words) else Err (ArgCount line)) (Ok (Some call)) → IsCallOf source call
with_count source line op decl words call true e h = with_numbers source line op decl (numbers_of words) call e h
with_count source line op decl words call false e h = cc

with_decl : (source : Module) (line op : ℕ) (decl : Option OpDecl) (words : List (List ℕ)) (call : Call) → slice_get source.ops op ≡ decl
    → call_of_op source line words op decl ≡ Ok (Some call) → IsCallOf source call
with_decl source line op None words call e h = cc
with_decl source line op (Some decl) words call e h = with_count source line op decl words call (length words == length decl.params) e h

with_op : (source : Module) (line : ℕ) (op : Option ℕ) (words : List (List ℕ)) (call : Call) → call_of_found source line words op ≡ Ok (Some call) → IsCallOf source call
with_op source line None words call h = cc
with_op source line (Some op) words call h = with_decl source line op (slice_get source.ops op) words call refl h

-- a call that a line says behind so many calls
record IsNext (source : Module) (before : ℕ) (call : Call) : Type 0 where
  room : before < 65536
  is_call : IsCallOf source call

with_room : (source : Module) (line before : ℕ) (name : List ℕ) (words : List (List ℕ)) (call : Call) (v : Bool) → nat_le 65536 before ≡ v
    → ◌≡◌ {A = Result (Option Call) CallsFault} (if v then Err (TooMany line) else call_of_found source line words (op_named source name)) (Ok (Some call)) → IsNext source before call
with_room source line before name words call true e h = cc
with_room source line before name words call false e h = record {
  room = grind (arith, nat_tests);
  is_call = with_op source line (op_named source name) words call h;
}

with_words : (source : Module) (line before : ℕ) (words : List (List ℕ)) (call : Call) → call_of_words source line before words ≡ Ok (Some call) → IsNext source before call
with_words source line before [] call h = cc
with_words source line before (name ∷ words) call h = with_room source line before name words call (nat_le 65536 before) refl h

with_bytes : (source : Module) (line before : ℕ) (text : List ℕ) (wrong : Option ℕ) (call : Call) → call_unless_wrong source line before text wrong ≡ Ok (Some call)
    → IsNext source before call
with_bytes source line before text (Some b) call h = cc
with_bytes source line before text None call h = with_words source line before (words_of (before_comment text)) call h

next_call : (source : Module) (line before : ℕ) (text : List ℕ) (call : Call) → call_of_line source line before text ≡ Ok (Some call) → IsNext source before call
next_call source line before text call h = with_bytes source line before text _ call h

one_more_call : (source : Module) (calls : List Call) (call : Call) → AreCallsOf source calls → IsNext source (length calls) call → AreCallsOf source (calls ++ call ∷ [])
one_more_call source calls call a n = record {
  each = All-push (IsCallOf source) calls call a.each n.is_call;
  short = simp length-append (let room : length calls < 65536 = n.room in omega arith);
}

after : (source : Module) (line : ℕ) (calls found : List Call) (text : List ℕ) (rest : List (List ℕ)) (o : Result (Option Call) CallsFault)
    → call_of_line source line (length calls) text ≡ o → AreCallsOf source calls
    → ((next : List Call) → AreCallsOf source next → calls_from source (line + 1) next rest ≡ Ok found → AreCallsOf source found)
    → after_line calls o (λ next. calls_from source (line + 1) next rest) ≡ Ok found → AreCallsOf source found
after source line calls found text rest (Err fault) e a ih h = cc
after source line calls found text rest (Ok None) e a ih h = ih calls a h
after source line calls found text rest (Ok (Some call)) e a ih h = ih (calls ++ call ∷ []) (one_more_call source calls call a (next_call source line (length calls) text call e)) h

-- the calls that lines say behind calls of the module are calls of it
pub calls_are_of : (source : Module) (lines : List (List ℕ)) (line : ℕ) (calls found : List Call) → AreCallsOf source calls → calls_from source line calls lines ≡ Ok found
    → AreCallsOf source found
calls_are_of source [] line calls found a h = let same : calls ≡ found = cc in subst (AreCallsOf source) same a
calls_are_of source (text ∷ rest) line calls found a h =
    after source line calls found text rest (call_of_line source line (length calls) text) refl a (λ next b e. calls_are_of source rest (line + 1) next found b e) h

-- the calls that a text says are calls of the module
pub file_is_of : (source : Module) (lines : List (List ℕ)) (found : List Call) → calls_from source 1 [] lines ≡ Ok found → AreCallsOf source found
file_is_of source lines found h = calls_are_of source lines 1 [] found (record { each = λ k d (within : k < 0). absurd (omega arith); short = omega arith }) h

-- so are those that a reader answers which gives what the text says
pub gives_of : (source : Module) (lines : List (List ℕ)) (result : Result (List Call) CallsFault) → Gives (calls_from source 1 [] lines) result → IfOk result (AreCallsOf source)
gives_of source lines (Ok found) g = file_is_of source lines found g
gives_of source lines (Err fault) g = tt
