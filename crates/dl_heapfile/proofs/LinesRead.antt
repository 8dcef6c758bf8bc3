-- Lines that tell of objects: what is read is what is written, and what is written is read.
use Rattle.std.proofs.Common.{◌≡◌, ◌≢◌, ℕ, zero, suc, ◌+◌, Bool, true, false, List, [], ◌∷◌, ◌++◌, drop, refl, sym, ap, ap₂, subst, ◌∙◌, Option, Some, None, arith, append_assoc}
use Rattle.std.specs.Prelude.{◌==◌, codes, slice_get, option_and_then, if◌then◌else◌}
use Rattle.std.specs.Option.{option_map}
use Rattle.std.specs.List.{prefix_len, take_while}
use Rattle.std.specs.Str.{bytes_eq}
use Rattle.std.proofs.lemmas.Bool.Decides.{nat_tests}
use Rattle.std.proofs.lemmas.List.{take-append-drop, append-nil}
use Rattle.std.proofs.lemmas.Slice.Eq.{bytes_eq-Decides}
use Rattle.dl_ir.specs.declared.modules.FieldDecl.{FieldDecl}
use Rattle.dl_ir.specs.declared.modules.KindDecl.{KindDecl}
use Rattle.dl_ir.specs.declared.modules.Module.{Module}
use Rattle.dl_ir.specs.declared.names.Name.{Name}
use Rattle.dl_ir.specs.declared.names.Value.{Value}
use Rattle.dl_ir.specs.declared.objects.Obj.{Obj}
use Rattle.dl_history.specs.Report.{name_text, value_text, seal_text, object_text}
use Rattle.dl_text.specs.Bytes.{is_word, AllAre}
use Rattle.dl_text.specs.Text.{Ends}
use Rattle.dl_heapfile.specs.Lines.{AllMayHold, HasForm, TellsOf}
use Rattle.dl_heapfile.specs.Names.{HasNames}
use Rattle.dl_heapfile.specs.Reading.{behind, name, fields, seal, seal_behind, kind_named, object_ended, object_of, object, entry_behind, entry}
use Rattle.dl_heapfile.proofs.NumbersRead.{assoc4, then_some, map_some, front_dropped}
use Rattle.dl_heapfile.proofs.ValuesRead.{behind_read, name_read, name_written, fields_text, fields_read, fields_end, fields_written}
use Rattle.dl_text.proofs.Pieces.{take_while-run}

-- ---- the mark of a sealed object

seal_read : (text : List ℕ) → text ≡ seal_text (seal text).0 ++ (seal text).1
seal_read text = by (behind (codes " sealed") text) refl
  where
    told : Bool × List ℕ → List ℕ
    told m = seal_text m.0 ++ m.1

    by_next : (b : ℕ) (rest : List ℕ) → text ≡ codes " sealed" ++ (b ∷ rest) → (v : Bool) → text ≡ told (if v then (true, b ∷ rest) else (false, text))
    by_next b rest is true = is
    by_next b rest is false = refl

    by : (o : Option (List ℕ)) → behind (codes " sealed") text ≡ o → text ≡ told (seal_behind text o)
    by None e = refl
    by (Some []) e = behind_read (codes " sealed") text [] e
    by (Some (b ∷ rest)) e = by_next b rest (behind_read (codes " sealed") text (b ∷ rest) e) (b == 32)

-- behind some letters neither a space nor the end comes, where they are the front of a word before an equals sign
record IsNoMark (o : Option (List ℕ)) : Type 0 where
  no_end : o ≢ Some []
  no_space : (b : ℕ) (rest : List ℕ) → o ≡ Some (b ∷ rest) → (b == 32) ≡ false

no_mark : (letters word more : List ℕ) → AllAre is_word letters → AllAre is_word word → IsNoMark (behind letters (word ++ (61 ∷ more)))
no_mark [] [] more ok all = record { no_end = λ e. cc; no_space = λ b rest e. let same : 61 ≡ b = cc in subst (λ (c : ℕ). (c == 32) ≡ false) same refl }
no_mark [] (c ∷ word) more ok all = record { no_end = λ e. cc; no_space = λ b rest e. let same : c ≡ b = cc in subst (λ (d : ℕ). (d == 32) ≡ false) same (grind (arith, nat_tests, all.0)) }
no_mark (w ∷ letters) [] more ok all =
    let differ : (w == 61) ≡ false = grind (arith, nat_tests, ok.0) in
    subst IsNoMark (sym (ap (λ (v : Bool). if v then behind letters more else None) differ)) (record { no_end = λ e. cc; no_space = λ b rest e. cc })
no_mark (w ∷ letters) (c ∷ word) more ok all = by (w == c) (no_mark letters word more ok.1 all.1)
  where
    by : (v : Bool) → IsNoMark (behind letters (word ++ (61 ∷ more))) → IsNoMark (if v then behind letters (word ++ (61 ∷ more)) else None)
    by true later = later
    by false later = record { no_end = λ h. cc; no_space = λ b rest h. cc }

-- where a field comes, no mark does
unsealed : (text : List ℕ) → IsNoMark (behind (codes " sealed") text) → seal text ≡ (false, text)
unsealed text plain = by (behind (codes " sealed") text) plain
  where
    by : (o : Option (List ℕ)) → IsNoMark o → seal_behind text o ≡ (false, text)
    by None n = refl
    by (Some []) n = absurd (n.no_end refl)
    by (Some (b ∷ rest)) n = ap (λ (v : Bool). if v then (true, b ∷ rest) else (false, text)) (n.no_space b rest refl)

-- the names of all fields are words
abbrev pub AllNamed : List FieldDecl → Type 0
AllNamed [] = Unit {0}
AllNamed (decl ∷ decls) = AllAre is_word decl.name × AllNamed decls

seal_written : (sealed : Bool) (decls : List FieldDecl) (held : List Value) → AllNamed decls → AllMayHold decls held → seal (seal_text sealed ++ fields_text decls held) ≡ (sealed, fields_text decls held)
seal_written true [] [] words hold = refl
seal_written true (decl ∷ decls) (v ∷ held) words hold = refl
seal_written false [] [] words hold = refl
seal_written false (decl ∷ decls) (v ∷ held) words hold =
    let more = fields_text decls held in
    unsealed (fields_text (decl ∷ decls) (v ∷ held)) (subst (λ (l : List ℕ). IsNoMark (behind (codes " sealed") l)) (sym (assoc4 (codes " ") decl.name (codes "=") (value_text v) more)) (no_mark (codes "sealed") decl.name (value_text v ++ more) letters words.0))
  where
    letters : AllAre is_word (codes "sealed")
    letters = (refl, (refl, (refl, (refl, (refl, (refl, tt))))))
seal_written sealed [] (v ∷ held) words hold = absurd hold
seal_written sealed (decl ∷ decls) [] words hold = absurd hold

-- ---- kinds

same_bytes : (a b : List ℕ) → bytes_eq a b ≡ true → a ≡ b
same_bytes a b e = grind (arith, bytes_eq-Decides a b, e)

bytes_itself : (a : List ℕ) → bytes_eq a a ≡ true
bytes_itself a = grind (arith, bytes_eq-Decides a a)

-- the kind that is found has the name
pub kind_read : (from : ℕ) (word : List ℕ) (kinds : List KindDecl) (found : ℕ × KindDecl) → kind_named from word kinds ≡ Some found
    → (at : ℕ) × (found.0 ≡ from + at) × (slice_get kinds at ≡ Some found.1) × (found.1.name ≡ word)
kind_read from word [] found is = cc
kind_read from word (k ∷ kinds) found is = by (bytes_eq k.name word) refl is (kind_read (from + 1) word kinds found)
  where
    by : (v : Bool) → bytes_eq k.name word ≡ v → (if v then Some (from, k) else kind_named (from + 1) word kinds) ≡ Some found
        → (kind_named (from + 1) word kinds ≡ Some found → (at : ℕ) × (found.0 ≡ from + 1 + at) × (slice_get kinds at ≡ Some found.1) × (found.1.name ≡ word))
        → (at : ℕ) × (found.0 ≡ from + at) × (slice_get (k ∷ kinds) at ≡ Some found.1) × (found.1.name ≡ word)
    by true e h later =
        let same : (from, k) ≡ found = cc in
        subst (λ (f : ℕ × KindDecl). (at : ℕ) × (f.0 ≡ from + at) × (slice_get (k ∷ kinds) at ≡ Some f.1) × (f.1.name ≡ word)) same (0, omega arith, refl, same_bytes k.name word e)
    by false e h later = let rest = later h in (suc rest.0, omega (arith, rest.1), rest.2, rest.3)

-- a kind that alone has the name is found
kind_written : (from : ℕ) (word : List ℕ) (kinds : List KindDecl) (at : ℕ) (kind : KindDecl) → slice_get kinds at ≡ Some kind → kind.name ≡ word
    → ((other : ℕ) (k : KindDecl) → slice_get kinds other ≡ Some k → k.name ≡ word → other ≡ at) → kind_named from word kinds ≡ Some (from + at, kind)
kind_written from word [] at kind is named alone = cc
kind_written from word (k ∷ kinds) zero kind is named alone =
    let same : k ≡ kind = cc in
    let passes : bytes_eq k.name word ≡ true = subst (λ (w : List ℕ). bytes_eq k.name w ≡ true) (ap (λ (d : KindDecl). d.name) same ∙ named) (bytes_itself k.name) in
    ap (λ (v : Bool). if v then Some (from, k) else kind_named (from + 1) word kinds) passes ∙ ap₂ (λ (n : ℕ) (d : KindDecl). Some (n, d)) {x = from} {y = from + 0} (omega arith) same
kind_written from word (k ∷ kinds) (suc at) kind is named alone =
    by (bytes_eq k.name word) refl (kind_written (from + 1) word kinds at kind is named (λ other d there has. let same = alone (suc other) d there has in omega (arith, same)))
  where
    by : (v : Bool) → bytes_eq k.name word ≡ v → kind_named (from + 1) word kinds ≡ Some (from + 1 + at, kind) → (if v then Some (from, k) else kind_named (from + 1) word kinds) ≡ Some (from + suc at, kind)
    by true e later = absurd (let first = alone 0 k refl (same_bytes k.name word e) in omega (arith, first))
    by false e later = later ∙ ap (λ (n : ℕ). Some (n, kind)) {x = from + 1 + at} {y = from + suc at} (omega arith)

-- ---- objects

-- an object that is read
record IsObject (kinds : List KindDecl) (text : List ℕ) (o : Obj) : Type 0 where
  declared : KindDecl
  is_there : slice_get kinds o.kind ≡ Some declared
  held : AllMayHold declared.fields o.fields
  text_is : text ≡ object_text o (Some declared)

ended : (kind : ℕ) (sealed : Bool) (found : List Value × List ℕ) (o : Obj) → object_ended kind sealed found ≡ Some o → (found.1 ≡ []) × (o ≡ record { kind = kind; sealed = sealed; fields = found.0 })
ended kind sealed (held, []) o is = (refl, let same : record { kind = kind; sealed = sealed; fields = held } ≡ o = cc in sym same)
ended kind sealed (held, b ∷ rest) o is = cc

object_read : (kinds : List KindDecl) (text : List ℕ) (o : Obj) → object kinds text ≡ Some o → IsObject kinds text o
object_read kinds text o is =
    let word = take_while is_word text in
    let rest = drop (prefix_len is_word text) text in
    let kind = then_some (kind_named 0 word kinds) (object_of rest) o is in
    let found = kind_read 0 word kinds kind.0 kind.1 in
    let mark = seal rest in
    let all = then_some (fields kind.0.1.fields mark.1) (object_ended kind.0.0 mark.0) o kind.2 in
    let read = fields_read kind.0.1.fields mark.1 all.0 all.1 in
    let end = ended kind.0.0 mark.0 all.0 o all.2 in
    let shown = fields_text kind.0.1.fields all.0.0 in
    let told : rest ≡ seal_text mark.0 ++ shown = seal_read rest ∙ ap (λ (l : List ℕ). seal_text mark.0 ++ l) (read.0 ∙ ap (λ (l : List ℕ). shown ++ l) end.0 ∙ append-nil shown) in
    subst (IsObject kinds text) (sym end.1) (record {
      declared = kind.0.1;
      is_there = ap (slice_get kinds) {x = kind.0.0} {y = found.0} (omega (arith, found.1)) ∙ found.2;
      held = read.1;
      text_is = sym (take-append-drop (prefix_len is_word text) text) ∙ ap₂ (λ (a b : List ℕ). a ++ b) (sym found.3) told ∙ sym (append_assoc kind.0.1.name (seal_text mark.0) shown);
    })

pub all_named : (decls : List FieldDecl) → ((place : ℕ) (f : FieldDecl) → slice_get decls place ≡ Some f → AllAre is_word f.name) → AllNamed decls
all_named [] each = tt
all_named (d ∷ decls) each = (each 0 d refl, all_named decls (λ place f there. each (suc place) f there))

object_written : (source : Module) (o : Obj) → HasNames source → (form : HasForm source o) → object source.kinds (object_text o (Some form.declared)) ≡ Some o
object_written source o names form =
    let kind = form.declared in
    let name_is = names.kinds o.kind kind form.is_there in
    let shown = fields_text kind.fields o.fields in
    let rest = seal_text o.sealed ++ shown in
    let words : AllNamed kind.fields = all_named kind.fields (λ place f there. (names.fields o.kind place kind f form.is_there there).word) in
    let taken = take_while-run is_word kind.name rest name_is.word (mark_end o.sealed kind.fields o.fields) in
    let dropped = front_dropped is_word kind.name rest name_is.word (mark_end o.sealed kind.fields o.fields) in
    let found = kind_written 0 kind.name source.kinds o.kind kind form.is_there refl (λ other k there same. names.apart other o.kind k kind there form.is_there same) in
    ap (object source.kinds) (append_assoc kind.name (seal_text o.sealed) shown)
    ∙ ap₂ (λ (w r : List ℕ). option_and_then (object_of r) (kind_named 0 w source.kinds)) taken dropped
    ∙ ap (option_and_then (object_of rest)) (found ∙ ap (λ (n : ℕ). Some (n, kind)) {x = 0 + o.kind} {y = o.kind} (omega arith))
    ∙ ap (λ (m : Bool × List ℕ). option_and_then (object_ended o.kind m.0) (fields kind.fields m.1)) (seal_written o.sealed kind.fields o.fields words form.fields)
    ∙ ap (option_and_then (object_ended o.kind o.sealed)) (ap (fields kind.fields) (sym (append-nil shown)) ∙ fields_written kind.fields o.fields [] form.fields tt)
  where
    mark_end : (sealed : Bool) (decls : List FieldDecl) (held : List Value) → Ends is_word (seal_text sealed ++ fields_text decls held)
    mark_end true decls held = refl
    mark_end false decls held = subst (Ends is_word) (append-nil (fields_text decls held)) (fields_end is_word decls held [] refl tt)

-- ---- lines

pub entry_read : (source : Module) (line : List ℕ) (e : Name × Obj) → entry source line ≡ Some e → TellsOf source line e
entry_read source line e is =
    let named = then_some (name line) (entry_behind source) e is in
    let told = map_some (option_and_then (object source.kinds) (behind (codes " ") named.0.1)) (λ (o : Obj). (named.0.0, o)) e named.2 in
    let space = then_some (behind (codes " ") named.0.1) (object source.kinds) told.0 told.1 in
    let read = name_read line named.0 named.1 in
    let obj = object_read source.kinds space.0 told.0 space.2 in
    let shown = object_text told.0 (Some obj.declared) in
    subst (TellsOf source line) (sym told.2) (record {
      name = read.small;
      object = record { declared = obj.declared; is_there = obj.is_there; fields = obj.held };
      text =
          ap (λ (k : Option KindDecl). name_text named.0.0 ++ codes " " ++ object_text told.0 k ++ codes "\n") obj.is_there
          ∙ ap (λ (l : List ℕ). l ++ codes "\n") (append_assoc (name_text named.0.0) (codes " ") shown ∙ sym (read.text_is ∙ ap (λ (l : List ℕ). name_text named.0.0 ++ l) (behind_read (codes " ") named.0.1 space.0 space.1 ∙ ap (λ (l : List ℕ). codes " " ++ l) obj.text_is)));
    })

no_feed : (a b : List ℕ) → a ++ codes "\n" ≡ b ++ codes "\n" → a ≡ b
no_feed [] [] e = refl
no_feed [] (y ∷ []) e = cc
no_feed [] (y ∷ z ∷ b) e = cc
no_feed (x ∷ []) [] e = cc
no_feed (x ∷ z ∷ a) [] e = cc
no_feed (x ∷ a) (y ∷ b) e =
    let heads : x ≡ y = cc in
    let tails : a ++ codes "\n" ≡ b ++ codes "\n" = cc in
    ap₂ (λ (n : ℕ) (l : List ℕ). n ∷ l) heads (no_feed a b tails)

pub line_is : (source : Module) (line : List ℕ) (e : Name × Obj) → (tells : TellsOf source line e) → line ≡ name_text e.0 ++ (codes " " ++ object_text e.1 (Some tells.object.declared))
line_is source line e tells =
    let shown = object_text e.1 (Some tells.object.declared) in
    no_feed line (name_text e.0 ++ (codes " " ++ shown)) (
    sym tells.text
    ∙ ap (λ (k : Option KindDecl). name_text e.0 ++ codes " " ++ object_text e.1 k ++ codes "\n") tells.object.is_there
    ∙ ap (λ (l : List ℕ). l ++ codes "\n") (append_assoc (name_text e.0) (codes " ") shown))

pub entry_written : (source : Module) (line : List ℕ) (e : Name × Obj) → HasNames source → TellsOf source line e → entry source line ≡ Some e
entry_written source line e names tells =
    let shown = object_text e.1 (Some tells.object.declared) in
    ap (entry source) (line_is source line e tells)
    ∙ ap (option_and_then (entry_behind source)) (name_written e.0 (codes " " ++ shown) tells.name refl)
    ∙ ap (λ (o : Option Obj). option_map (λ (x : Obj). (e.0, x)) o) (object_written source e.1 names tells.object)
