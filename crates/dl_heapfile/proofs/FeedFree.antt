-- The line of an object has no line feed in it, so it is the first line of each text that it begins.
use Rattle.std.proofs.Common.{◌≡◌, ℕ, ℤ, suc, ◌-◌, ◌<◌, ◌≤◌, Bool, true, false, List, [], ◌∷◌, ◌++◌, length, refl, sym, ap, ap₂, subst, ◌∙◌, Option, Some, None, arith, pos, negsuc, append_assoc, take, drop}
use Rattle.std.specs.Prelude.{◌^◌, codes, decimal}
use Rattle.std.specs.Fmt.{signed_decimal}
use Rattle.std.specs.List.{prefix_len}
use Rattle.std.proofs.lemmas.List.{take-append-drop, append-nil}
use Rattle.std.proofs.lemmas.Bool.Decides.{nat_tests}
use Rattle.dl_ir.specs.declared.modules.FieldDecl.{FieldDecl}
use Rattle.dl_ir.specs.declared.modules.KindDecl.{KindDecl}
use Rattle.dl_ir.specs.declared.modules.Module.{Module}
use Rattle.dl_ir.specs.declared.modules.Ty.{Ty}
use Rattle.dl_ir.specs.declared.modules.Ty.TheVariants.{Int, Of}
use Rattle.dl_ir.specs.declared.names.Name.{Name}
use Rattle.dl_ir.specs.declared.names.Value.{Value}
use Rattle.dl_ir.specs.declared.names.Value.TheVariants as values
use Rattle.dl_ir.specs.declared.objects.Obj.{Obj}
use Rattle.dl_history.specs.Report.{name_text, value_text, field_text, seal_text, object_text, object_line}
use Rattle.dl_text.specs.Bytes.{is_digit, is_word, AllAre}
use Rattle.dl_text.specs.Text.{Ends}
use Rattle.dl_heapfile.specs.Lines.{IsSmall, IsSmallName, MayHold, AllMayHold, HasForm, TellsOf, BeginsWith, is_within}
use Rattle.dl_heapfile.specs.Names.{HasNames}
use Rattle.dl_heapfile.proofs.NumbersRead.{decimal_digits, front_ends}
use Rattle.dl_heapfile.proofs.ValuesRead.{fields_text}
use Rattle.dl_heapfile.proofs.LinesRead.{AllNamed, all_named, line_is}
use Rattle.dl_text.proofs.Pieces.{take_while-passes}

joined : (test : ℕ → Bool) (a b : List ℕ) → AllAre test a → AllAre test b → AllAre test (a ++ b)
joined test [] b all more = more
joined test (x ∷ a) b all more = (all.0, joined test a b all.1 more)

weaker : (p q : ℕ → Bool) (a : List ℕ) → ((b : ℕ) → p b ≡ true → q b ≡ true) → AllAre p a → AllAre q a
weaker p q [] each all = tt
weaker p q (x ∷ a) each all = (each x all.0, weaker p q a each all.1)

digits : (n : ℕ) → n < 2 ^ 64 → AllAre is_within (decimal n)
digits n small = weaker is_digit is_within (decimal n) (λ b is. grind (arith, nat_tests, is)) (decimal_digits n small)

word : (text : List ℕ) → AllAre is_word text → AllAre is_within text
word text all = weaker is_word is_within text (λ b is. grind (arith, nat_tests, is)) all

integer : (z : ℤ) → IsSmall z → AllAre is_within (signed_decimal z)
integer (pos n) small = digits n (omega (arith, small))
integer (negsuc n) small = (refl, digits (suc n) (omega (arith, small)))

named : (n : Name) → IsSmallName n → AllAre is_within (name_text n)
named n small =
    let low = small.ticket in
    let few = small.index in
    joined is_within (decimal n.ticket ++ codes ".") (decimal n.index) (joined is_within (decimal n.ticket) (codes ".") (digits n.ticket low) (refl, tt)) (digits n.index (omega (arith, few)))

held : (ty : Ty) (v : Value) → MayHold ty v → AllAre is_within (value_text v)
held Int (values.Int n) holds = integer n holds
held Int (values.Ref target) holds = absurd holds
held (Of kind) (values.Int n) holds = absurd holds
held (Of kind) (values.Ref None) holds = (refl, tt)
held (Of kind) (values.Ref (Some n)) holds = named n holds

all_held : (decls : List FieldDecl) (vs : List Value) → AllNamed decls → AllMayHold decls vs → AllAre is_within (fields_text decls vs)
all_held [] [] words hold = tt
all_held [] (v ∷ vs) words hold = absurd hold
all_held (decl ∷ decls) [] words hold = absurd hold
all_held (decl ∷ decls) (v ∷ vs) words hold =
    let equals = codes "=" in
    joined is_within (field_text (decl, v)) (fields_text decls vs)
    (joined is_within (codes " " ++ decl.name ++ equals) (value_text v) (joined is_within (codes " " ++ decl.name) equals (joined is_within (codes " ") decl.name (refl, tt) (word decl.name words.0)) (refl, tt)) (held decl.ty v hold.0))
    (all_held decls vs words.1 hold.1)

mark : (sealed : Bool) → AllAre is_within (seal_text sealed)
mark true = (refl, (refl, (refl, (refl, (refl, (refl, (refl, tt)))))))
mark false = tt

pub line_within : (source : Module) (line : List ℕ) (e : Name × Obj) → HasNames source → TellsOf source line e → AllAre is_within line
line_within source line e names tells =
    let kind = tells.object.declared in
    let fields = fields_text kind.fields e.1.fields in
    let words : AllNamed kind.fields = all_named kind.fields (λ place f there. (names.fields e.1.kind place kind f tells.object.is_there there).word) in
    let told : AllAre is_within (object_text e.1 (Some kind)) = joined is_within (kind.name ++ seal_text e.1.sealed) fields
    (joined is_within kind.name (seal_text e.1.sealed) (word kind.name (names.kinds e.1.kind kind tells.object.is_there).word) (mark e.1.sealed)) (all_held kind.fields e.1.fields words tells.object.fields) in
    subst (AllAre is_within) (sym (line_is source line e tells)) (joined is_within (name_text e.0) (codes " " ++ object_text e.1 (Some kind)) (named e.0 tells.name) (refl, told))

-- two texts without a line feed are the same before the first one
pub same_front : (a b rest more : List ℕ) → AllAre is_within a → AllAre is_within b → a ++ (10 ∷ rest) ≡ b ++ (10 ∷ more) → (a ≡ b) × (rest ≡ more)
same_front [] [] rest more in_a in_b e = (refl, let same : rest ≡ more = cc in same)
same_front [] (y ∷ b) rest more in_a in_b e = let same : 10 ≡ y = cc in absurd (let wrong : is_within 10 ≡ true = subst (λ (n : ℕ). is_within n ≡ true) (sym same) in_b.0 in cc)
same_front (x ∷ a) [] rest more in_a in_b e = let same : x ≡ 10 = cc in absurd (let wrong : is_within 10 ≡ true = subst (λ (n : ℕ). is_within n ≡ true) same in_a.0 in cc)
same_front (x ∷ a) (y ∷ b) rest more in_a in_b e =
    let heads : x ≡ y = cc in
    let tails : a ++ (10 ∷ rest) ≡ b ++ (10 ∷ more) = cc in
    let later = same_front a b rest more in_a.1 in_b.1 tails in
    (ap₂ (λ (n : ℕ) (l : List ℕ). n ∷ l) heads later.0, later.1)

-- ---- the first line of a text

-- the line with its end, before what follows, as a line and what follows
pub fed : (line rest : List ℕ) → (line ++ codes "\n") ++ rest ≡ line ++ (10 ∷ rest)
fed line rest = append_assoc line (codes "\n") rest

pub begins_told : (source : Module) (line rest : List ℕ) (e : Name × Obj) → TellsOf source line e → line ++ (10 ∷ rest) ≡ object_line source e ++ rest
begins_told source line rest e tells = sym (fed line rest) ∙ ap (λ (l : List ℕ). l ++ rest) (sym tells.text)

-- a text that begins with the line of an object: its first line tells of the object
pub told_first : (source : Module) (text line more rest : List ℕ) (e : Name × Obj) → HasNames source → IsSmallName e.0 → HasForm source e.1 → AllAre is_within line → text ≡ line ++ (10 ∷ more)
    → text ≡ object_line source e ++ rest → TellsOf source line e × (more ≡ rest)
told_first source text line more rest e names small form within cut is =
    let shown = name_text e.0 ++ codes " " ++ object_text e.1 (Some form.declared) in
    let text_is : object_line source e ≡ shown ++ codes "\n" = ap (λ (k : Option KindDecl). name_text e.0 ++ codes " " ++ object_text e.1 k ++ codes "\n") form.is_there in
    let tells : TellsOf source shown e = record { name = small; object = form; text = text_is } in
    let both = same_front line shown more rest within (line_within source shown e names tells) (sym cut ∙ is ∙ ap (λ (l : List ℕ). l ++ rest) text_is ∙ fed shown rest) in
    (subst (λ (l : List ℕ). TellsOf source l e) (sym both.0) tells, both.1)

-- a text without a line feed begins with no line
pub told_none : (source : Module) (text rest : List ℕ) (e : Name × Obj) → HasNames source → IsSmallName e.0 → HasForm source e.1 → AllAre is_within text → text ≡ object_line source e ++ rest → ⊥
told_none source text rest e names small form within is =
    let shown = name_text e.0 ++ codes " " ++ object_text e.1 (Some form.declared) in
    let text_is : object_line source e ≡ shown ++ codes "\n" = ap (λ (k : Option KindDecl). name_text e.0 ++ codes " " ++ object_text e.1 k ++ codes "\n") form.is_there in
    no_feed_in shown rest (subst (AllAre is_within) (is ∙ ap (λ (l : List ℕ). l ++ rest) text_is ∙ fed shown rest) within)
  where
    no_feed_in : (a more : List ℕ) → AllAre is_within (a ++ (10 ∷ more)) → ⊥
    no_feed_in [] more all = let wrong : is_within 10 ≡ true = all.0 in cc
    no_feed_in (x ∷ a) more all = no_feed_in a more all.1

-- the front of a text up to its first line feed, if it has one
pub cut_line : (text line rest : List ℕ) (b : ℕ) (more : List ℕ) → line ≡ take (prefix_len is_within text) text → rest ≡ drop (prefix_len is_within text) text → rest ≡ b ∷ more
    → AllAre is_within line × (text ≡ line ++ (10 ∷ more))
cut_line text line rest b more front back is =
    let behind : drop (prefix_len is_within text) text ≡ b ∷ more = sym back ∙ is in
    let stops : is_within b ≡ false = subst (Ends is_within) behind (front_ends is_within text) in
    let feed : b ≡ 10 = grind (arith, nat_tests, stops) in (
      subst (AllAre is_within) (sym front) (take_while-passes is_within text),
      sym (take-append-drop (prefix_len is_within text) text) ∙ ap₂ (λ (a b : List ℕ). a ++ b) (sym front) (behind ∙ ap (λ (n : ℕ). n ∷ more) feed),
    )

pub uncut : (text rest : List ℕ) → rest ≡ drop (prefix_len is_within text) text → rest ≡ [] → AllAre is_within text
uncut text rest back is =
    subst (AllAre is_within) (sym (append-nil (take (prefix_len is_within text) text)) ∙ ap (λ (l : List ℕ). take (prefix_len is_within text) text ++ l) (sym is ∙ back) ∙ take-append-drop (prefix_len is_within text) text) (take_while-passes is_within text)

-- the line that is read, as the front of the text
pub front_told : (source : Module) (text line rest : List ℕ) (e : Name × Obj) → AllAre is_within line × (text ≡ line ++ (10 ∷ rest)) → TellsOf source line e → BeginsWith source text e rest
front_told source text line rest e cut tells = record { name = tells.name; object = tells.object; text_is = cut.1 ∙ begins_told source line rest e tells }

take_whole : (xs : List ℕ) → take (length xs) xs ≡ xs
take_whole [] = refl
take_whole (x ∷ xs) = ap (λ (l : List ℕ). x ∷ l) (take_whole xs)

-- the same, by the length of what is left
pub cut_long : (text line rest : List ℕ) → line ≡ take (prefix_len is_within text) text → rest ≡ drop (prefix_len is_within text) text → 1 ≤ length rest
    → AllAre is_within line × (text ≡ line ++ (10 ∷ take (length rest - 1) (drop 1 rest)))
cut_long text line [] front back long = absurd (omega (arith, long))
cut_long text line (b ∷ more) front back long =
    let cut = cut_line text line (b ∷ more) b more front back refl in
    let same : take (length (b ∷ more) - 1) more ≡ more = ap (λ n. take n more) {x = length (b ∷ more) - 1} {y = length more} (omega arith) ∙ take_whole more in
    (cut.0, cut.1 ∙ ap (λ (l : List ℕ). line ++ (10 ∷ l)) (sym same))

no_length : (xs : List ℕ) → length xs < 1 → xs ≡ []
no_length [] short = refl
no_length (x ∷ xs) short = absurd (omega (arith, short))

pub uncut_short : (text rest : List ℕ) → rest ≡ drop (prefix_len is_within text) text → length rest < 1 → AllAre is_within text
uncut_short text rest back short = uncut text rest back (no_length rest short)
