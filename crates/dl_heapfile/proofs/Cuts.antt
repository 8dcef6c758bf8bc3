-- Steps of the loops that read digits, fields and given bytes.
use Rattle.std.proofs.Common.{◌≡◌, ℕ, ◌+◌, ◌-◌, ◌*◌, ◌<◌, true, false, List, [], ◌∷◌, ◌++◌, length, take, drop, get_or, refl, sym, ap, subst, ◌∙◌, Option, Some, None, arith, append_assoc, drop-cons, add-one}
use Rattle.std.specs.Prelude.{nat_le, option_and_then, All, if◌then◌else◌}
use Rattle.std.specs.Option.{option_map}
use Rattle.std.specs.Str.{bytes_eq}
use Rattle.std.proofs.lemmas.Bool.Decides.{nat_tests}
use Rattle.std.proofs.lemmas.List.{take-append-drop, append-nil}
use Rattle.std.proofs.lemmas.Slice.Eq.{bytes_eq-Decides}
use Rattle.dl_ir.specs.declared.modules.FieldDecl.{FieldDecl}
use Rattle.dl_ir.specs.declared.modules.KindDecl.{KindDecl}
use Rattle.dl_ir.specs.declared.names.Value.{Value}
use Rattle.dl_text.specs.Bytes.{next_value, value}
use Rattle.dl_text.proofs.Numbers.{OneDigit, fold-grows}
use Rattle.dl_heapfile.specs.Reading.{behind, field, fields, with_value, kind_named}
use Rattle.dl_heapfile.proofs.LinesRead.{kind_read}
use Rattle.dl_heapfile.proofs.ValuesRead.{behind_read, behind_written}
use Rattle.std.proofs.Math.Seq.{take-append_seam}
use Rattle.dl_lemmas.proofs.Places.{all_at}

-- a digit that brings the number above the greatest
pub too_large : (most : ℕ) (digits : List ℕ) (i n : ℕ) → OneDigit digits i n → most < 10 * n + (get_or digits i 0 - 48) → None ≡ (if nat_le (value digits) most then Some (value digits) else None)
too_large most digits i n one above =
    let grows = fold-grows (drop (i + 1) digits) (next_value n (get_or digits i 0)) in
    let big : most < value digits = subst (λ v. most < v) one.same (omega (arith, grows, above)) in
    grind (arith, nat_tests, big)

-- bytes that come next, by a comparison
pub behind_some : (word text : List ℕ) → bytes_eq (take (length word) text) word ≡ true → behind word text ≡ Some (drop (length word) text)
behind_some word text e =
    let same : take (length word) text ≡ word = grind (arith, bytes_eq-Decides (take (length word) text) word, e) in
    ap (behind word) (sym (take-append-drop (length word) text) ∙ ap (λ (l : List ℕ). l ++ drop (length word) text) same) ∙ behind_written word (drop (length word) text)

pub behind_none : (word text : List ℕ) → bytes_eq (take (length word) text) word ≡ false → behind word text ≡ None
behind_none word text e = by (behind word text) refl
  where
    by : (o : Option (List ℕ)) → behind word text ≡ o → o ≡ None
    by None h = refl
    by (Some rest) h =
        let same : take (length word) text ≡ word = ap (take (length word)) (behind_read word text rest h) ∙ take-append_seam word rest in
        absurd (let passes : bytes_eq (take (length word) text) word ≡ true = grind (arith, bytes_eq-Decides (take (length word) text) word, same) in let clash : true ≡ false = sym passes ∙ e in cc)

-- the values held so far, before those to come
abbrev pub onto : List Value → Option (List Value × List ℕ) → Option (List Value × List ℕ)
onto held found = option_map (λ (f : List Value × List ℕ). (held ++ f.0, f.1)) found

onto_value : (held : List Value) (v : Value) (found : Option (List Value × List ℕ)) → onto held (option_map (with_value v) found) ≡ onto (held ++ v ∷ []) found
onto_value held v None = refl
onto_value held v (Some f) = ap (λ (l : List Value). Some (l, f.1)) (sym (append_assoc held (v ∷ []) f.0))

module _ (decls : List FieldDecl) (i : ℕ) (d : FieldDecl) (within : i < length decls) (rest : List ℕ) where
  next_field : fields (drop i decls) rest ≡ fields (get_or decls i d ∷ drop (i + 1) decls) rest
  next_field = ap (λ (l : List FieldDecl). fields l rest) (drop-cons decls i d within ∙ ap (λ k. get_or decls i d ∷ drop k decls) (sym (add-one i)))

  -- one field more
  pub one_field : (held : List Value) (v : Value) (more : List ℕ) (all : Option (List Value × List ℕ)) → field (get_or decls i d) rest ≡ Some (v, more)
      → onto held (fields (drop i decls) rest) ≡ all → onto (held ++ v ∷ []) (fields (drop (i + 1) decls) more) ≡ all
  one_field held v more all is same =
      sym (onto_value held v (fields (drop (i + 1) decls) more))
      ∙ sym (ap (onto held) (next_field ∙ ap (λ (o : Option (Value × List ℕ)). option_and_then (λ (found : Value × List ℕ). option_map (with_value found.0) (fields (drop (i + 1) decls) found.1)) o) is))
      ∙ same

  -- no field, so none at all
  pub no_field : (held : List Value) (all : Option (List Value × List ℕ)) → field (get_or decls i d) rest ≡ None → onto held (fields (drop i decls) rest) ≡ all → all ≡ None
  no_field held all is same =
      sym same
      ∙ ap (onto held) (next_field ∙ ap (λ (o : Option (Value × List ℕ)). option_and_then (λ (found : Value × List ℕ). option_map (with_value found.0) (fields (drop (i + 1) decls) found.1)) o) is)

-- all fields are read
pub all_fields : (decls : List FieldDecl) (held : List Value) (rest : List ℕ) (all : Option (List Value × List ℕ)) → decls ≡ [] → onto held (fields decls rest) ≡ all → all ≡ Some (held, rest)
all_fields decls held rest all none same = sym same ∙ ap (λ (l : List FieldDecl). onto held (fields l rest)) none ∙ ap (λ (l : List Value). Some (l, rest)) (append-nil held)

-- the kind that is found is one of them
pub named_kind : (P : KindDecl → Type 0) (word : List ℕ) (kinds : List KindDecl) (found : ℕ × KindDecl) → All P kinds → kind_named 0 word kinds ≡ Some found → P found.1
named_kind P word kinds found all is = let read = kind_read 0 word kinds found is in all_at P kinds read.0 found.1 all read.2
