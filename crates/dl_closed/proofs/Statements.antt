-- Where no object of a heap is sealed, no statement seals one or ends at one.
use Rattle.std.proofs.Common.{◌≡◌, ◌≢◌, ℕ, zero, suc, ℤ, Bool, true, false, cond, List, [], ◌∷◌, Option, Some, None, Ok, Err, map, refl, sym, ap, subst, ◌∙◌}
use Rattle.std.specs.Prelude.{◌==◌, length, slice_get, nat_le, if◌then◌else◌}
use Rattle.std.specs.Ordering.{eq_by_cmp}
use Rattle.std.specs.FinMap as finite
use Rattle.std.specs.FinMap.{get-insert}
use Rattle.dl_ir.specs.declared.answers.End.{End}
use Rattle.dl_ir.specs.declared.answers.End.TheVariants as ends
use Rattle.dl_ir.specs.declared.answers.Fault.TheVariants.{Overflow, DivZero}
use Rattle.dl_ir.specs.declared.expressions.Cond.{Cond}
use Rattle.dl_ir.specs.declared.modules.KindDecl.{KindDecl}
use Rattle.dl_ir.specs.declared.names.Name.{Name}
use Rattle.dl_ir.specs.declared.names.Value.{Value}
use Rattle.dl_ir.specs.declared.names.Value.TheVariants.{Int, Ref}
use Rattle.dl_ir.specs.declared.objects.Obj.{Obj}
use Rattle.dl_ir.specs.declared.statements.Stmt.{Stmt, Stmt-F}
use Rattle.dl_ir.specs.declared.statements.Stmt.TheFolds.{fold-roll-Stmt, ind-Stmt, map-Stmt}
use Rattle.dl_ir.specs.Evaluation.{Number, Truth, number_of, target_of, value_of, holds_of}
use Rattle.dl_ir.specs.Heap.{Objects, name_cmp, with_field_of}
use Rattle.dl_ir.specs.Meaning.{Context, State, Outcome, Does, goes_on, ends_with, with_value, with_truth, at_object, is_sealed, unless_sealed, refers_in, field_in, set_local, set_field, take_turn, add_emitted, make, next_name, object_of, go_on_from, then_do, in_turn, loops, links_to, step, does, block_does}
use Rattle.dl_ir.proofs.NameOrder.{names_total}

-- no object of the heap is sealed
abbrev pub NoneSealed : Objects → Type 0
NoneSealed heap = (name : Name) (object : Obj) → finite.get heap name ≡ Some object → object.sealed ≡ false

-- the operation goes on, or ends, but at no sealed object
abbrev pub NotAtSealed : Option End → Type 0
NotAtSealed end = (name : Name) → end ≢ Some (ends.Sealed name)

-- the same of an outcome
pub record Stays (o : Outcome) : Type 0 where
  pub unsealed : NoneSealed o.state.objects
  pub passed : NotAtSealed o.end

-- what a statement does keeps it so
abbrev pub Keeps : Does → Type 0
Keeps d = (s : State) → NoneSealed s.objects → Stays (d s)

-- what is found is what was put in, or was there
one_of : (b : Bool) (v : Obj) (old : Option Obj) (p : Obj) → v.sealed ≡ false → ((o : Obj) → old ≡ Some o → o.sealed ≡ false) → cond b (Some v) old ≡ Some p → p.sealed ≡ false
one_of true v old p v_is old_is is = let same : v ≡ p = cc in ap (λ (o : Obj). o.sealed) (sym same) ∙ v_is
one_of false v old p v_is old_is is = old_is p is

put_in : (h : Objects) (k : Name) (v : Obj) → NoneSealed h → v.sealed ≡ false → NoneSealed (finite.insert h k v)
put_in h k v none v_is = λ q p is. one_of (eq_by_cmp name_cmp q k) v (finite.get h q) p v_is (none q) (sym (get-insert names_total h k v q) ∙ is)

written : (h : Objects) (name : Name) (f : ℕ) (value : Value) (old : Option Obj) → finite.get h name ≡ old → NoneSealed h → NoneSealed (with_field_of h name f value old)
written h name f value None is none = none
written h name f value (Some object) is none = put_in h name _ none (none name object is)

blank_unsealed : (kind : ℕ) (declared : Option KindDecl) → (object_of kind declared).sealed ≡ false
blank_unsealed kind None = refl
blank_unsealed kind (Some declared) = refl

pub stays_on : (s : State) → NoneSealed s.objects → Stays (goes_on s)
stays_on s none = record { unsealed = none; passed = λ name e. cc }

ended : (end : End) (s : State) → ((name : Name) → end ≢ ends.Sealed name) → NoneSealed s.objects → Stays (ends_with end s)
ended end s other none = record { unsealed = none; passed = λ name e. let same : end ≡ ends.Sealed name = cc in other name same }

either : (b : Bool) (x y : Outcome) → Stays x → Stays y → Stays (if b then x else y)
either true x y first second = first
either false x y first second = second

at_value : (v : Number) (s : State) (next : ℤ → Outcome) → NoneSealed s.objects → ((n : ℤ) → Stays (next n)) → Stays (with_value v s next)
at_value (Ok n) s next none stays = stays n
at_value (Err Overflow) s next none stays = ended ends.Overflow s (λ name e. cc) none
at_value (Err DivZero) s next none stays = ended ends.DivZero s (λ name e. cc) none

at_truth : (v : Truth) (s : State) (next : Bool → Outcome) → NoneSealed s.objects → ((b : Bool) → Stays (next b)) → Stays (with_truth v s next)
at_truth (Ok b) s next none stays = stays b
at_truth (Err Overflow) s next none stays = ended ends.Overflow s (λ name e. cc) none
at_truth (Err DivZero) s next none stays = ended ends.DivZero s (λ name e. cc) none

at_name : (target : Option Name) (s : State) (next : Name → Outcome) → NoneSealed s.objects → ((name : Name) → Stays (next name)) → Stays (at_object target s next)
at_name None s next none stays = ended ends.Null s (λ name e. cc) none
at_name (Some name) s next none stays = stays name

unsealed_at : (found : Option Obj) → ((o : Obj) → found ≡ Some o → o.sealed ≡ false) → is_sealed found ≡ false
unsealed_at None none = refl
unsealed_at (Some o) none = none o refl

at_target : (target : Option Name) (s : State) (next : Outcome) → NoneSealed s.objects → Stays next → Stays (unless_sealed target s next)
at_target None s next none stays = stays
at_target (Some name) s next none stays = rw (unsealed_at (finite.get s.objects name) (none name)) stays

on_from : (end : Option End) (s : State) (d : Does) → NotAtSealed end → NoneSealed s.objects → Keeps d → Stays (go_on_from end s d)
on_from None s d passed none keeps = keeps s none
on_from (Some end) s d passed none keeps = ended end s (λ name is. passed name (ap Some is)) none

then_stays : (o : Outcome) (d : Does) → Stays o → Keeps d → Stays (then_do o d)
then_stays o d stays keeps = on_from o.end o.state d stays.passed stays.unsealed keeps

loop_keeps : (n : ℕ) (c : Cond) (body : Does) → Keeps body → Keeps (loops n c body)
loop_keeps zero c body keeps s none = ended ends.Fuel s (λ name e. cc) none
loop_keeps (suc n) c body keeps s none =
    either (s.turns == 0) _ _ (ended ends.Fuel s (λ name e. cc) none)
    (at_truth (holds_of c s.locals) (take_turn s) _ none (λ b.
    either b _ _ (then_stays (body (take_turn s)) (loops n c body) (keeps (take_turn s) none) (loop_keeps n c body keeps)) (stays_on (take_turn s) none)))

link_keeps : (q f : ℕ) (target : Option Name) → Keeps (links_to q f target)
link_keeps q f target s none = at_name (refers_in s q) s _ none (λ name.
    at_target (target_of (field_in s name f)) s _ none
    (stays_on (set_field name f (Ref target) s) (written s.objects name f (Ref target) (finite.get s.objects name) refl none)))

-- a statement, and that what it does keeps it so
abbrev Kept : Context → Type 0
Kept cx = (d : Stmt) × Keeps (does cx d)

all_keep : (cx : Context) (ds : List (Kept cx)) → Keeps (in_turn (map (does cx) (map (λ (e : Kept cx). e.0) ds)))
all_keep cx [] s none = stays_on s none
all_keep cx (d ∷ ds) s none = then_stays (does cx d.0 s) _ (d.1 s none) (all_keep cx ds)

layer_keeps : (cx : Context) (l : Stmt-F (Kept cx)) → Keeps (step cx (map-Stmt Stmt Does (does cx) (map-Stmt (Kept cx) Stmt (λ e. e.0) l)))
layer_keeps cx (Stmt-F.SetInt x e) s none = at_value (value_of e s.locals) s _ none (λ n. stays_on (set_local x (Int n) s) none)
layer_keeps cx (Stmt-F.Load x p f) s none =
    at_name (refers_in s p) s _ none (λ name. stays_on (set_local x (Int (number_of (field_in s name f))) s) none)
layer_keeps cx (Stmt-F.Store p f e) s none =
    at_value (value_of e s.locals) s _ none (λ n. at_name (refers_in s p) s _ none (λ name.
    stays_on (set_field name f (Int n) s) (written s.objects name f (Int n) (finite.get s.objects name) refl none)))
layer_keeps cx (Stmt-F.Copy p q) s none = stays_on (set_local p (Ref (refers_in s q)) s) none
layer_keeps cx (Stmt-F.Null p) s none = stays_on (set_local p (Ref None) s) none
layer_keeps cx (Stmt-F.Follow p q f) s none =
    at_name (refers_in s q) s _ none (λ name.
    at_target (target_of (field_in s name f)) s _ none (stays_on (set_local p (Ref (target_of (field_in s name f))) s) none))
layer_keeps cx (Stmt-F.New p kind) s none =
    either (nat_le cx.allocs s.made) _ _ (ended ends.Quota s (λ name e. cc) none)
    (stays_on (make cx p kind s) (put_in s.objects (next_name cx s) (object_of kind (slice_get cx.source.kinds kind)) none (blank_unsealed kind (slice_get cx.source.kinds kind))))
layer_keeps cx (Stmt-F.Link q f p) s none = link_keeps q f (refers_in s p) s none
layer_keeps cx (Stmt-F.Cut q f) s none = link_keeps q f None s none
layer_keeps cx (Stmt-F.If c yes_block no_block) s none =
    at_truth (holds_of c s.locals) s _ none (λ b. either b _ _ (all_keep cx yes_block s none) (all_keep cx no_block s none))
layer_keeps cx (Stmt-F.While c body) s none = loop_keeps s.turns c _ (all_keep cx body) s none
layer_keeps cx (Stmt-F.Emit e) s none =
    at_value (value_of e s.locals) s _ none (λ n. either (nat_le 16 (length s.emitted)) _ _ (ended ends.Emits s (λ name is. cc) none) (stays_on (add_emitted n s) none))
layer_keeps cx (Stmt-F.Return e) s none = at_value (value_of e s.locals) s _ none (λ n. ended (ends.Ok n) s (λ name is. cc) none)

pub statement_keeps : (cx : Context) (d : Stmt) → Keeps (does cx d)
statement_keeps cx = ind-Stmt (λ d. Keeps (does cx d)) (λ x y is.
    subst Keeps (sym (fold-roll-Stmt Does (step cx) x)) (subst (λ z. Keeps (step cx (map-Stmt Stmt Does (does cx) z))) is (layer_keeps cx y)))

pub block_keeps : (cx : Context) (block : List Stmt) → Keeps (block_does cx block)
block_keeps cx [] s none = stays_on s none
block_keeps cx (d ∷ block) s none = then_stays (does cx d s) (block_does cx block) (statement_keeps cx d s none) (block_keeps cx block)
