-- What the parts of a line say by the rules is what the functions give.
use Rattle.std.proofs.Common.{◌≡◌, ℕ, zero, suc, ◌+◌, ◌<◌, ◌≤◌, Bool, true, false, cond, List, [], ◌∷◌, ◌++◌, length, refl, sym, ap, ◌∙◌, inl, inr, arith, MatchOption}
use Rattle.std.specs.Prelude.{Option, Some, None, ℤ, pos, slice_get, find, nat_lt, nat_le}
use Rattle.std.specs.List.{AllByRecursion, position_or_len}
use Rattle.std.specs.Str.{bytes_eq}
use Rattle.std.proofs.lemmas.Bool.{cases_order, false≢true}
use Rattle.std.proofs.lemmas.Bool.Decides.{nat_tests}
use Rattle.std.proofs.lemmas.List.Sums.{fails_before_first, passes_at_first}
use Rattle.std.proofs.lemmas.Option.{slice_get_within, get_or_from_slice_get}
use Rattle.std.proofs.lemmas.Slice.Eq.{bytes_eq-Decides}
use Rattle.dl_ir.specs.declared.modules.Ty.{Ty}
use Rattle.dl_ir.specs.declared.modules.Ty.TheVariants.{Int, Of}
use Rattle.dl_ir.specs.declared.modules.KindDecl.{KindDecl}
use Rattle.dl_ir.specs.declared.modules.LocalDecl.{LocalDecl}
use Rattle.dl_ir.specs.declared.modules.OpDecl.{OpDecl}
use Rattle.dl_ir.specs.declared.modules.Module.{Module}
use Rattle.dl_ir.specs.CallForms.{IsRootNumber, FitsType, AllFit}
use Rattle.dl_syntax.specs.Line.{is_wrong, number_of, numbers_of, with_number}
use Rattle.dl_syntax.specs.Calls.{is_root_of, fits, all_fit, op_named}
use Rattle.dl_syntax.specs.Rules.{MayStand, IsFirstWrong, IsNamed, IsUnnamed, Say, SomeSaysNone}

true_or : (b : Bool) → (b ≡ false → ⊥) → b ≡ true
true_or true h = refl
true_or false h = absurd (h refl)

pub false_or : (b : Bool) → (b ≡ true → ⊥) → b ≡ false
false_or true h = absurd (h refl)
false_or false h = refl

-- bytes
may_stand : (b : ℕ) → is_wrong b ≡ false → MayStand b
may_stand b h = grind (arith, nat_tests)

may_not : (b : ℕ) → is_wrong b ≡ true → MayStand b → ⊥
may_not b h stands = grind (arith, nat_tests)

not_wrong : (b : ℕ) → MayStand b → is_wrong b ≡ false
not_wrong b stands = false_or (is_wrong b) (λ wrong. may_not b wrong stands)

is_it_wrong : (b : ℕ) → (MayStand b → ⊥) → is_wrong b ≡ true
is_it_wrong b never = true_or (is_wrong b) (λ right. never (may_stand b right))

found : (b : ℕ) (rest : List ℕ) (v : Bool) (o : Option ℕ) → is_wrong b ≡ v → MatchOption o (AllByRecursion MayStand rest) (IsFirstWrong rest)
    → MatchOption (cond v (Some b) o) (AllByRecursion MayStand (b ∷ rest)) (IsFirstWrong (b ∷ rest))
found b rest true o is there = record { front = []; rest = rest; cut = refl; before = tt; wrong = may_not b is }
found b rest false None is there = (may_stand b is, there)
found b rest false (Some a) is there =
    record { front = b ∷ there.front; rest = there.rest; cut = ap (λ t. b ∷ t) there.cut; before = (may_stand b is, there.before); wrong = there.wrong }

-- the first wrong byte, or none
pub find_tells : (text : List ℕ) → MatchOption (find is_wrong text) (AllByRecursion MayStand text) (IsFirstWrong text)
find_tells [] = tt
find_tells (b ∷ rest) = found b rest (is_wrong b) (find is_wrong rest) refl (find_tells rest)

pub none_wrong : (text : List ℕ) → AllByRecursion MayStand text → find is_wrong text ≡ None
none_wrong [] all = refl
none_wrong (b ∷ rest) all = rw (not_wrong b all.0) (none_wrong rest all.1)

at_front : (front rest : List ℕ) (b : ℕ) → AllByRecursion MayStand front → (MayStand b → ⊥) → find is_wrong (front ++ b ∷ rest) ≡ Some b
at_front [] rest b all never = rw (is_it_wrong b never) refl
at_front (a ∷ front) rest b all never = rw (not_wrong a all.0) (at_front front rest b all.1 never)

pub first_wrong : (text : List ℕ) (b : ℕ) → IsFirstWrong text b → find is_wrong text ≡ Some b
first_wrong text b is = ap (find is_wrong) is.cut ∙ at_front is.front is.rest b is.before is.wrong

-- names of operations
is_its_name : (name other : List ℕ) → bytes_eq other name ≡ true → other ≡ name
is_its_name name other h = (bytes_eq-Decides other name).0 h

is_named : (name other : List ℕ) → other ≡ name → bytes_eq other name ≡ true
is_named name other same = (bytes_eq-Decides other name).1 same

module _ (source : Module) (name : List ℕ) where
  tells : (v : Bool) → nat_lt (position_or_len (λ (op : OpDecl). bytes_eq op.name name) source.ops) (length source.ops) ≡ v
      → MatchOption (cond v (Some (position_or_len (λ (op : OpDecl). bytes_eq op.name name) source.ops)) None) (IsUnnamed source name) (λ op. (decl : OpDecl) × IsNamed source name op decl)
  tells true is =
      let ops = source.ops in
      let at = position_or_len (λ (op : OpDecl). bytes_eq op.name name) ops in
      let within : at < length ops = grind (arith, nat_tests) in
      let decl = some_op ops at within in (
        decl.0,
        record {
          there = decl.1;
          named = is_its_name name decl.0.name (ap (λ (op : OpDecl). bytes_eq op.name name) (sym (get_or_from_slice_get ops at decl.0 decl.0 decl.1)) ∙ passes_at_first (λ (op : OpDecl). bytes_eq op.name name) ops decl.0 within);
          first = λ before other less there same. not_so before other there same
              (ap (λ (op : OpDecl). bytes_eq op.name name) (sym (get_or_from_slice_get ops before other other there)) ∙ fails_before_first (λ (op : OpDecl). bytes_eq op.name name) ops before other less);
        },
      )
    where
      some_op : (ops : List OpDecl) (at : ℕ) → at < length ops → (decl : OpDecl) × (slice_get ops at ≡ Some decl)
      some_op [] at h = absurd (omega (arith, h))
      some_op (op ∷ ops) zero h = (op, refl)
      some_op (op ∷ ops) (suc at) h = some_op ops at (omega (arith, h))

      not_so : (before : ℕ) (other : OpDecl) → slice_get source.ops before ≡ Some other → other.name ≡ name → bytes_eq other.name name ≡ false → ⊥
      not_so before other there same h = false≢true (sym h ∙ is_named name other.name same)
  tells false is = λ op decl there same.
      let ops = source.ops in
      let within = slice_get_within ops op decl there in
      let past : length ops ≤ position_or_len (λ (op : OpDecl). bytes_eq op.name name) ops = grind (arith, nat_tests) in
      false≢true (sym (ap (λ (op : OpDecl). bytes_eq op.name name) (sym (get_or_from_slice_get ops op decl decl there)) ∙ fails_before_first (λ (op : OpDecl). bytes_eq op.name name) ops op decl (omega (arith, past, within)))
      ∙ is_named name decl.name same)

  -- the first operation of the name, or none
  pub op_tells : MatchOption (op_named source name) (IsUnnamed source name) (λ op. (decl : OpDecl) × IsNamed source name op decl)
  op_tells = tells (nat_lt (position_or_len (λ (op : OpDecl). bytes_eq op.name name) source.ops) (length source.ops)) refl

  pub none_named : (o : Option ℕ) → MatchOption o (IsUnnamed source name) (λ op. (decl : OpDecl) × IsNamed source name op decl) → IsUnnamed source name → o ≡ None
  none_named None there none = refl
  none_named (Some op) there none = absurd (none op there.0 there.1.there there.1.named)

  pub one_named : (o : Option ℕ) (op : ℕ) (decl : OpDecl) → MatchOption o (IsUnnamed source name) (λ op. (decl : OpDecl) × IsNamed source name op decl) → IsNamed source name op decl → o ≡ Some op
  one_named None op decl there is = absurd (there op decl is.there is.named)
  one_named (Some other) op decl there is = elim (cases_order other op) [
    | inl same ↦ ap (λ n. Some n) same
    | inr (inl less) ↦ absurd (is.first other there.0 less there.1.there there.1.named)
    | inr (inr more) ↦ absurd (there.1.first op decl more is.there is.named)
  ]

-- numbers
numbers_with : (word : List ℕ) (words : List (List ℕ)) (n : Option ℤ) (ns : Option (List ℤ)) → number_of word ≡ n → MatchOption ns (SomeSaysNone words) (Say words)
    → MatchOption (with_number n ns) (SomeSaysNone (word ∷ words)) (Say (word ∷ words))
numbers_with word words (Some n) (Some ns) is there = (is, there)
numbers_with word words (Some n) None is there = record { at = suc there.at; word = there.word; there = there.there; none = there.none }
numbers_with word words None (Some ns) is there = record { at = 0; word = word; there = refl; none = is }
numbers_with word words None None is there = record { at = 0; word = word; there = refl; none = is }

-- what words say, or that one of them says nothing
pub numbers_tell : (words : List (List ℕ)) → MatchOption (numbers_of words) (SomeSaysNone words) (Say words)
numbers_tell [] = tt
numbers_tell (word ∷ words) = numbers_with word words (number_of word) (numbers_of words) refl (numbers_tell words)

pub numbers_said : (words : List (List ℕ)) (ns : List ℤ) → Say words ns → numbers_of words ≡ Some ns
numbers_said [] [] say = refl
numbers_said [] (n ∷ ns) say = absurd say
numbers_said (word ∷ words) [] say = absurd say
numbers_said (word ∷ words) (n ∷ ns) say = rw (say.0, numbers_said words ns say.1) refl

says_one : (words : List (List ℕ)) (ns : List ℤ) (at : ℕ) (word : List ℕ) → Say words ns → slice_get words at ≡ Some word → number_of word ≡ None → ⊥
says_one [] ns at word say there none = cc
says_one (first ∷ words) [] at word say there none = say
says_one (first ∷ words) (n ∷ ns) zero word say there none = let a = say.0 in cc
says_one (first ∷ words) (n ∷ ns) (suc at) word say there none = says_one words ns at word say.1 there none

pub none_said : (words : List (List ℕ)) (o : Option (List ℤ)) → MatchOption o (SomeSaysNone words) (Say words) → SomeSaysNone words → o ≡ None
none_said words None there none = refl
none_said words (Some ns) there none = absurd (says_one words ns none.at none.word there none.there none.none)

pub say_long : (words : List (List ℕ)) (ns : List ℤ) → Say words ns → length words ≡ length ns
say_long [] [] say = refl
say_long [] (n ∷ ns) say = absurd say
say_long (word ∷ words) [] say = absurd say
say_long (word ∷ words) (n ∷ ns) say = let rest = say_long words ns say.1 in omega (arith, rest)

-- arguments
root_is : (source : Module) (k : ℕ) (kind : Option KindDecl) (n : ℤ) → slice_get source.kinds k ≡ kind → IsRootNumber source k n → is_root_of kind n ≡ true
root_is source k None n e is = let d = is.declared in absurd cc
root_is source k (Some kind) n e is =
    let same : kind ≡ is.decl = let d = is.declared in cc in
    ap (λ (o : KindDecl). is_root_of (Some o) n) same ∙ ap (is_root_of (Some is.decl)) is.is_number ∙ within is.decl is.number is.is_root is.not_before is.not_behind
  where
    within : (decl : KindDecl) (m : ℕ) → decl.is_root ≡ true → decl.first ≤ m → m < decl.first + decl.count → is_root_of (Some decl) (pos m) ≡ true
    within decl m root low high =
        let a : nat_le decl.first m ≡ true = grind (arith, nat_tests) in
        let b : nat_lt m (decl.first + decl.count) ≡ true = grind (arith, nat_tests) in
        rw (root, a, b) refl

type_fits : (source : Module) (ty : Ty) (n : ℤ) → FitsType source ty n → fits source ty n ≡ true
type_fits source Int n is = refl
type_fits source (Of k) n is = root_is source k (slice_get source.kinds k) n refl is

pub all_fitting : (source : Module) (params : List LocalDecl) (ns : List ℤ) → AllFit source params ns → all_fit source params ns ≡ true
all_fitting source [] [] all = refl
all_fitting source [] (n ∷ ns) all = absurd all
all_fitting source (p ∷ params) [] all = absurd all
all_fitting source (p ∷ params) (n ∷ ns) all = rw (type_fits source p.ty n all.0, all_fitting source params ns all.1) refl

pub fit_long : (source : Module) (params : List LocalDecl) (ns : List ℤ) → AllFit source params ns → length params ≡ length ns
fit_long source [] [] all = refl
fit_long source [] (n ∷ ns) all = absurd all
fit_long source (p ∷ params) [] all = absurd all
fit_long source (p ∷ params) (n ∷ ns) all = let rest = fit_long source params ns all.1 in omega (arith, rest)
