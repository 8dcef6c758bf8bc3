-- Names, values and fields: what is read is what is written, and what is written is read.
use Rattle.std.proofs.Common.{◌≡◌, ℕ, ℤ, ◌-◌, ◌<◌, Bool, true, false, List, [], ◌∷◌, ◌++◌, length, refl, sym, ap, ap₂, subst, ◌∙◌, Option, Some, None, arith, append_assoc}
use Rattle.std.specs.Prelude.{◌==◌, ◌^◌, codes, decimal, option_and_then, if◌then◌else◌}
use Rattle.std.specs.Option.{option_map}
use Rattle.std.specs.List.{zip, flat_map}
use Rattle.std.proofs.lemmas.Bool.Decides.{nat_tests}
use Rattle.std.proofs.lemmas.Fmt.{decimal_nonempty}
use Rattle.dl_ir.specs.declared.modules.FieldDecl.{FieldDecl}
use Rattle.dl_ir.specs.declared.modules.Ty.{Ty}
use Rattle.dl_ir.specs.declared.modules.Ty.TheVariants.{Int, Of}
use Rattle.dl_ir.specs.declared.names.Name.{Name}
use Rattle.dl_ir.specs.declared.names.Value.{Value}
use Rattle.dl_ir.specs.declared.names.Value.TheVariants as values
use Rattle.dl_history.specs.Report.{name_text, value_text, field_text}
use Rattle.dl_text.specs.Bytes.{is_digit, AllAre}
use Rattle.dl_text.specs.Text.{Ends}
use Rattle.dl_heapfile.specs.Lines.{IsSmallName, MayHold, AllMayHold}
use Rattle.dl_heapfile.specs.Reading.{behind, number, integer, name_behind, name, reference, typed, field, with_value, fields}
use Rattle.dl_heapfile.proofs.NumbersRead.{assoc3, assoc4, then_some, map_some, number_read, number_written, integer_read, integer_written, decimal_digits}

-- ---- bytes that come next

same_byte : (w b : ℕ) → (w == b) ≡ true → w ≡ b
same_byte w b e = grind (arith, nat_tests, e)

itself : (w : ℕ) → (w == w) ≡ true
itself w = grind (arith, nat_tests)

pub behind_read : (word text rest : List ℕ) → behind word text ≡ Some rest → text ≡ word ++ rest
behind_read [] text rest is = let same : text ≡ rest = cc in same
behind_read (w ∷ word) [] rest is = cc
behind_read (w ∷ word) (b ∷ text) rest is = by (w == b) refl is (behind_read word text rest)
  where
    by : (v : Bool) → (w == b) ≡ v → (if v then behind word text else None) ≡ Some rest → (behind word text ≡ Some rest → text ≡ word ++ rest) → b ∷ text ≡ (w ∷ word) ++ rest
    by true e h more = ap₂ (λ (c : ℕ) (l : List ℕ). c ∷ l) (sym (same_byte w b e)) (more h)
    by false e h more = cc

pub behind_written : (word rest : List ℕ) → behind word (word ++ rest) ≡ Some rest
behind_written [] rest = refl
behind_written (w ∷ word) rest = ap (λ (v : Bool). if v then behind word (word ++ rest) else None) (itself w) ∙ behind_written word rest

-- ---- names

-- a name that is read
pub record IsNamed (text : List ℕ) (found : Name × List ℕ) : Type 0 where
  pub text_is : text ≡ name_text found.0 ++ found.1
  pub small : IsSmallName found.0
  pub ends : Ends is_digit found.1

pub name_read : (text : List ℕ) (found : Name × List ℕ) → name text ≡ Some found → IsNamed text found
name_read text found is =
    let ticket = then_some (number (2 ^ 64 - 1) text) (λ (t : ℕ × List ℕ). option_and_then (name_behind t.0) (behind (codes ".") t.1)) found is in
    let dot = then_some (behind (codes ".") ticket.0.1) (name_behind ticket.0.0) found ticket.2 in
    let index = map_some (number (2 ^ 32 - 1) dot.0) (λ (i : ℕ × List ℕ). (record { ticket = ticket.0.0; index = i.0 }, i.1)) found dot.2 in
    let first = number_read (2 ^ 64 - 1) text ticket.0 (omega arith) ticket.1 in
    let second = number_read (2 ^ 32 - 1) dot.0 index.0 (omega arith) index.1 in
    let low = first.low in
    let few = second.low in
    subst (IsNamed text) (sym index.2) (record {
      text_is =
          first.text_is
          ∙ ap (λ (l : List ℕ). decimal ticket.0.0 ++ l) (behind_read (codes ".") ticket.0.1 dot.0 dot.1 ∙ ap (λ (l : List ℕ). codes "." ++ l) second.text_is)
          ∙ sym (assoc3 (decimal ticket.0.0) (codes ".") (decimal index.0.0) index.0.1);
      small = record { ticket = omega (arith, low); index = omega (arith, few) };
      ends = second.ends;
    })

pub name_written : (n : Name) (rest : List ℕ) → IsSmallName n → Ends is_digit rest → name (name_text n ++ rest) ≡ Some (n, rest)
name_written n rest small ends =
    let low = small.ticket in
    let few = small.index in
    ap name (assoc3 (decimal n.ticket) (codes ".") (decimal n.index) rest)
    ∙ ap (option_and_then (λ (t : ℕ × List ℕ). option_and_then (name_behind t.0) (behind (codes ".") t.1))) (number_written (2 ^ 64 - 1) n.ticket (codes "." ++ (decimal n.index ++ rest)) (omega arith) (omega (arith, low)) refl)
    ∙ ap (option_map (λ (i : ℕ × List ℕ). (record { ticket = n.ticket; index = i.0 }, i.1))) (number_written (2 ^ 32 - 1) n.index rest (omega arith) (omega (arith, few)) ends)

-- ---- values

-- a value that is read
pub record IsValue (ty : Ty) (text : List ℕ) (found : Value × List ℕ) : Type 0 where
  pub text_is : text ≡ value_text found.0 ++ found.1
  pub holds : MayHold ty found.0

reference_read : (text : List ℕ) (kind : ℕ) (found : Value × List ℕ) → reference text ≡ Some found → IsValue (Of kind) text found
reference_read [] kind found is = cc
reference_read (b ∷ rest) kind found is = by (b == 45) refl is
  where
    by : (v : Bool) → (b == 45) ≡ v → (if v then Some (values.Ref None, rest) else option_map (λ (one : Name × List ℕ). (values.Ref (Some one.0), one.1)) (name (b ∷ rest))) ≡ Some found
        → IsValue (Of kind) (b ∷ rest) found
    by true e h =
        let same : (values.Ref None, rest) ≡ found = cc in
        let minus : 45 ≡ b = sym (same_byte b 45 e) in
        subst (IsValue (Of kind) (b ∷ rest)) same (record { text_is = ap (λ (c : ℕ). c ∷ rest) (sym minus); holds = tt })
    by false e h =
        let one = map_some (name (b ∷ rest)) (λ (one : Name × List ℕ). (values.Ref (Some one.0), one.1)) found h in
        let read = name_read (b ∷ rest) one.0 one.1 in
        subst (IsValue (Of kind) (b ∷ rest)) (sym one.2) (record { text_is = read.text_is; holds = read.small })

typed_read : (ty : Ty) (text : List ℕ) (found : Value × List ℕ) → typed ty text ≡ Some found → IsValue ty text found
typed_read Int text found is =
    let one = map_some (integer text) (λ (one : ℤ × List ℕ). (values.Int one.0, one.1)) found is in
    let read = integer_read text one.0 one.1 in
    subst (IsValue Int text) (sym one.2) (record { text_is = read.text_is; holds = read.small })
typed_read (Of kind) text found is = reference_read text kind found is

named_first : (ds rest : List ℕ) → AllAre is_digit ds → 0 < length ds → reference (ds ++ rest) ≡ option_map (λ (one : Name × List ℕ). (values.Ref (Some one.0), one.1)) (name (ds ++ rest))
named_first [] rest all some = absurd (omega arith)
named_first (d ∷ ds) rest all some =
    let no_minus : (d == 45) ≡ false = grind (arith, nat_tests, all.0) in
    ap (λ (v : Bool). if v then Some (values.Ref None, ds ++ rest) else option_map (λ (one : Name × List ℕ). (values.Ref (Some one.0), one.1)) (name (d ∷ ds ++ rest))) no_minus

typed_written : (ty : Ty) (v : Value) (rest : List ℕ) → MayHold ty v → Ends is_digit rest → typed ty (value_text v ++ rest) ≡ Some (v, rest)
typed_written Int (values.Int n) rest holds ends = ap (option_map (λ (one : ℤ × List ℕ). (values.Int one.0, one.1))) (integer_written n rest holds ends)
typed_written Int (values.Ref target) rest holds ends = absurd holds
typed_written (Of kind) (values.Int n) rest holds ends = absurd holds
typed_written (Of kind) (values.Ref None) rest holds ends = refl
typed_written (Of kind) (values.Ref (Some n)) rest holds ends =
    let low = holds.ticket in
    ap reference (assoc3 (decimal n.ticket) (codes ".") (decimal n.index) rest)
    ∙ named_first (decimal n.ticket) (codes "." ++ (decimal n.index ++ rest)) (decimal_digits n.ticket (omega (arith, low))) (decimal_nonempty n.ticket (omega (arith, low)))
    ∙ ap (λ (text : List ℕ). option_map (λ (one : Name × List ℕ). (values.Ref (Some one.0), one.1)) (name text)) (sym (assoc3 (decimal n.ticket) (codes ".") (decimal n.index) rest))
    ∙ ap (option_map (λ (one : Name × List ℕ). (values.Ref (Some one.0), one.1))) (name_written n rest holds ends)

-- ---- fields

field_read : (decl : FieldDecl) (text : List ℕ) (found : Value × List ℕ) → field decl text ≡ Some found → (text ≡ field_text (decl, found.0) ++ found.1) × MayHold decl.ty found.0
field_read decl text found is =
    let value = then_some (option_and_then (behind (codes "=")) (option_and_then (behind decl.name) (behind (codes " ") text))) (typed decl.ty) found is in
    let equals = then_some (option_and_then (behind decl.name) (behind (codes " ") text)) (behind (codes "=")) value.0 value.1 in
    let named = then_some (behind (codes " ") text) (behind decl.name) equals.0 equals.1 in
    let read = typed_read decl.ty value.0 found value.2 in
    let shown = value_text found.0 in (
      behind_read (codes " ") text named.0 named.1
          ∙ ap (λ (l : List ℕ). codes " " ++ l) (behind_read decl.name named.0 equals.0 named.2
          ∙ ap (λ (l : List ℕ). decl.name ++ l) (behind_read (codes "=") equals.0 value.0 equals.2 ∙ ap (λ (l : List ℕ). codes "=" ++ l) read.text_is))
          ∙ sym (assoc4 (codes " ") decl.name (codes "=") shown found.1),
      read.holds,
    )

field_written : (decl : FieldDecl) (v : Value) (rest : List ℕ) → MayHold decl.ty v → Ends is_digit rest → field decl (field_text (decl, v) ++ rest) ≡ Some (v, rest)
field_written decl v rest holds ends =
    let shown = value_text v in
    ap (field decl) (assoc4 (codes " ") decl.name (codes "=") shown rest)
    ∙ ap (λ (o : Option (List ℕ)). option_and_then (typed decl.ty) (option_and_then (behind (codes "=")) o)) (behind_written decl.name (codes "=" ++ (shown ++ rest)))
    ∙ typed_written decl.ty v rest holds ends

abbrev pub fields_text : List FieldDecl → List Value → List ℕ
fields_text decls held = flat_map field_text (zip decls held)

pub fields_read : (decls : List FieldDecl) (text : List ℕ) (found : List Value × List ℕ) → fields decls text ≡ Some found → (text ≡ fields_text decls found.0 ++ found.1) × AllMayHold decls found.0
fields_read [] text found is =
    let same : ([], text) ≡ found = cc in
    subst (λ (f : List Value × List ℕ). (text ≡ fields_text [] f.0 ++ f.1) × AllMayHold [] f.0) same (refl, tt)
fields_read (decl ∷ decls) text found is =
    let first = then_some (field decl text) (λ (one : Value × List ℕ). option_map (with_value one.0) (fields decls one.1)) found is in
    let others = map_some (fields decls first.0.1) (with_value first.0.0) found first.2 in
    let read = field_read decl text first.0 first.1 in
    let more = fields_read decls first.0.1 others.0 others.1 in
    subst (λ (f : List Value × List ℕ). (text ≡ fields_text (decl ∷ decls) f.0 ++ f.1) × AllMayHold (decl ∷ decls) f.0) (sym others.2) (
      read.0 ∙ ap (λ (l : List ℕ). field_text (decl, first.0.0) ++ l) more.0 ∙ sym (append_assoc (field_text (decl, first.0.0)) (fields_text decls others.0.0) others.0.1),
      (read.1, more.1),
    )

-- no digit comes where a field or nothing comes
pub fields_end : (test : ℕ → Bool) (decls : List FieldDecl) (held : List Value) (rest : List ℕ) → test 32 ≡ false → Ends test rest → Ends test (fields_text decls held ++ rest)
fields_end test [] held rest space ends = ends
fields_end test (decl ∷ decls) [] rest space ends = ends
fields_end test (decl ∷ decls) (v ∷ held) rest space ends = space

pub fields_written : (decls : List FieldDecl) (held : List Value) (rest : List ℕ) → AllMayHold decls held → Ends is_digit rest → fields decls (fields_text decls held ++ rest) ≡ Some (held, rest)
fields_written [] [] rest hold ends = refl
fields_written [] (v ∷ held) rest hold ends = absurd hold
fields_written (decl ∷ decls) [] rest hold ends = absurd hold
fields_written (decl ∷ decls) (v ∷ held) rest hold ends =
    let others = fields_text decls held ++ rest in
    let next : Value × List ℕ → Option (List Value × List ℕ) = λ (one : Value × List ℕ). option_map (with_value one.0) (fields decls one.1) in
    ap (λ (text : List ℕ). option_and_then next (field decl text)) (append_assoc (field_text (decl, v)) (fields_text decls held) rest)
    ∙ ap (option_and_then next) (field_written decl v others hold.0 (fields_end is_digit decls held rest refl ends))
    ∙ ap (option_map (with_value v)) (fields_written decls held rest hold.1 ends)
