-- The meaning of statements as a relation by cases: one case for each outcome of each statement.
use Rattle.std.specs.Prelude.{◌≡◌, ◌<◌, ◌≤◌, ℕ, true, false, ℤ, Option, Some, None, Ok, Err, List, [], ◌∷◌, length, slice_get}
use Rattle.std.specs.FinMap as finite
use Rattle.dl_ir.specs.declared.answers.End.{End}
use Rattle.dl_ir.specs.declared.answers.End.TheVariants as ends
use Rattle.dl_ir.specs.declared.answers.Fault.{Fault}
use Rattle.dl_ir.specs.declared.expressions.Cond.{Cond}
use Rattle.dl_ir.specs.declared.expressions.Expr.{Expr}
use Rattle.dl_ir.specs.declared.modules.KindDecl.{KindDecl}
use Rattle.dl_ir.specs.declared.names.Name.{Name}
use Rattle.dl_ir.specs.declared.names.Value.{Value}
use Rattle.dl_ir.specs.declared.names.Value.TheVariants.{Int, Ref}
use Rattle.dl_ir.specs.declared.objects.Obj.{Obj}
use Rattle.dl_ir.specs.declared.statements.Stmt.{Stmt}
use Rattle.dl_ir.specs.declared.statements.Stmt.TheVariants.{SetInt, Load, Store, Copy, Null, Follow, New, Link, Cut, If, While, Emit, Return}
use Rattle.dl_ir.specs.Evaluation.{value_of, holds_of}
use Rattle.dl_ir.specs.Meaning.{Context, State, fault_end, field_in, set_local, set_field, take_turn, make, add_emitted}

-- the local is there, and holds this reference
abbrev pub RefersTo : State → ℕ → Option Name → Type 0
RefersTo s p target = slice_get s.locals p ≡ Some (Ref target)

-- the object is there, with this value in the field
abbrev pub HasField : State → Name → ℕ → Value → Type 0
HasField s name f value = field_in s name f ≡ Some value

-- the object is there, and sealed
pub record IsSealed (s : State) (name : Name) : Type 0 where
  pub object : Obj
  pub there : finite.get s.objects name ≡ Some object
  pub sealed : object.sealed ≡ true

-- the reference is null, or names an object that is there and unsealed
pub data IsOpen (s : State) : Option Name → Type 0 where
  nothing : IsOpen s None
  unsealed : {name : Name} {object : Obj} → finite.get s.objects name ≡ Some object → object.sealed ≡ false → IsOpen s (Some name)

mutual
  -- a statement leads from a state to a state, where the operation ends or goes on: one case for each outcome of each statement
  pub data Runs (cx : Context) : Stmt → State → State → Option End → Type 0 where
    -- x = e;
    set_int : {x : ℕ} {e : Expr} {s : State} {n : ℤ} → value_of e s.locals ≡ Ok n → Runs cx (SetInt x e) s (set_local x (Int n) s) None
    set_int_fault : {x : ℕ} {e : Expr} {s : State} {fault : Fault} → value_of e s.locals ≡ Err fault → Runs cx (SetInt x e) s s (Some (fault_end fault))
    -- x = p.f; where the field holds a number
    load : {x p f : ℕ} {s : State} {name : Name} {n : ℤ} → RefersTo s p (Some name) → HasField s name f (Int n)
        → Runs cx (Load x p f) s (set_local x (Int n) s) None
    load_null : {x p f : ℕ} {s : State} → RefersTo s p None → Runs cx (Load x p f) s s (Some ends.Null)
    -- p.f = e;
    store : {p f : ℕ} {e : Expr} {s : State} {name : Name} {n old : ℤ} → value_of e s.locals ≡ Ok n → RefersTo s p (Some name) → HasField s name f (Int old)
        → Runs cx (Store p f e) s (set_field name f (Int n) s) None
    store_fault : {p f : ℕ} {e : Expr} {s : State} {fault : Fault} → value_of e s.locals ≡ Err fault → Runs cx (Store p f e) s s (Some (fault_end fault))
    store_null : {p f : ℕ} {e : Expr} {s : State} {n : ℤ} → value_of e s.locals ≡ Ok n → RefersTo s p None → Runs cx (Store p f e) s s (Some ends.Null)
    -- p = q;
    copy : {p q : ℕ} {s : State} {target : Option Name} → RefersTo s q target → Runs cx (Copy p q) s (set_local p (Ref target) s) None
    -- p = null;
    null : {p : ℕ} {s : State} → Runs cx (Null p) s (set_local p (Ref None) s) None
    -- p = q.f; where the field holds a reference
    follow : {p q f : ℕ} {s : State} {name : Name} {target : Option Name} → RefersTo s q (Some name) → HasField s name f (Ref target) → IsOpen s target
        → Runs cx (Follow p q f) s (set_local p (Ref target) s) None
    follow_null : {p q f : ℕ} {s : State} → RefersTo s q None → Runs cx (Follow p q f) s s (Some ends.Null)
    follow_sealed : {p q f : ℕ} {s : State} {name target : Name} → RefersTo s q (Some name) → HasField s name f (Ref (Some target)) → IsSealed s target
        → Runs cx (Follow p q f) s s (Some (ends.Sealed target))
    -- p = new K;
    new : {p kind : ℕ} {s : State} {declared : KindDecl} → s.made < cx.allocs → slice_get cx.source.kinds kind ≡ Some declared
        → Runs cx (New p kind) s (make cx p kind s) None
    new_quota : {p kind : ℕ} {s : State} → cx.allocs ≤ s.made → Runs cx (New p kind) s s (Some ends.Quota)
    -- q.f = p; where the field holds a reference
    link : {q f p : ℕ} {s : State} {name : Name} {old target : Option Name} → RefersTo s q (Some name) → HasField s name f (Ref old) → IsOpen s old → RefersTo s p target
        → Runs cx (Link q f p) s (set_field name f (Ref target) s) None
    link_null : {q f p : ℕ} {s : State} → RefersTo s q None → Runs cx (Link q f p) s s (Some ends.Null)
    link_sealed : {q f p : ℕ} {s : State} {name old : Name} → RefersTo s q (Some name) → HasField s name f (Ref (Some old)) → IsSealed s old
        → Runs cx (Link q f p) s s (Some (ends.Sealed old))
    -- q.f = null;
    cut : {q f : ℕ} {s : State} {name : Name} {old : Option Name} → RefersTo s q (Some name) → HasField s name f (Ref old) → IsOpen s old
        → Runs cx (Cut q f) s (set_field name f (Ref None) s) None
    cut_null : {q f : ℕ} {s : State} → RefersTo s q None → Runs cx (Cut q f) s s (Some ends.Null)
    cut_sealed : {q f : ℕ} {s : State} {name old : Name} → RefersTo s q (Some name) → HasField s name f (Ref (Some old)) → IsSealed s old
        → Runs cx (Cut q f) s s (Some (ends.Sealed old))
    -- if (c) {..} else {..}
    if_true : {c : Cond} {first : List Stmt} (second : List Stmt) {s t : State} {end : Option End} → holds_of c s.locals ≡ Ok true → RunsBlock cx first s t end
        → Runs cx (If c first second) s t end
    if_false : {c : Cond} (first : List Stmt) {second : List Stmt} {s t : State} {end : Option End} → holds_of c s.locals ≡ Ok false → RunsBlock cx second s t end
        → Runs cx (If c first second) s t end
    if_fault : {c : Cond} (first second : List Stmt) {s : State} {fault : Fault} → holds_of c s.locals ≡ Err fault
        → Runs cx (If c first second) s s (Some (fault_end fault))
    -- while (c) {..}
    while : {c : Cond} {body : List Stmt} {s t : State} {end : Option End} → Loops cx c body s t end → Runs cx (While c body) s t end
    -- emit e;
    emit : {e : Expr} {s : State} {n : ℤ} → value_of e s.locals ≡ Ok n → length s.emitted < 16 → Runs cx (Emit e) s (add_emitted n s) None
    emit_fault : {e : Expr} {s : State} {fault : Fault} → value_of e s.locals ≡ Err fault → Runs cx (Emit e) s s (Some (fault_end fault))
    emit_full : {e : Expr} {s : State} {n : ℤ} → value_of e s.locals ≡ Ok n → 16 ≤ length s.emitted → Runs cx (Emit e) s s (Some ends.Emits)
    -- return e;
    return : {e : Expr} {s : State} {n : ℤ} → value_of e s.locals ≡ Ok n → Runs cx (Return e) s s (Some (ends.Ok n))
    return_fault : {e : Expr} {s : State} {fault : Fault} → value_of e s.locals ≡ Err fault → Runs cx (Return e) s s (Some (fault_end fault))

  -- the statements of a block run one after another, up to the first end
  pub data RunsBlock (cx : Context) : List Stmt → State → State → Option End → Type 0 where
    done : {s : State} → RunsBlock cx [] s s None
    ends_at : {d : Stmt} {ds : List Stmt} {s t : State} {end : End} → Runs cx d s t (Some end) → RunsBlock cx (d ∷ ds) s t (Some end)
    then : {d : Stmt} {ds : List Stmt} {s t u : State} {end : Option End} → Runs cx d s t None → RunsBlock cx ds t u end → RunsBlock cx (d ∷ ds) s u end

  -- a loop ends where no turn is left; else its test takes a turn, and where it is true the block runs and the loop begins again
  pub data Loops (cx : Context) : Cond → List Stmt → State → State → Option End → Type 0 where
    no_turn : {c : Cond} {body : List Stmt} {s : State} → s.turns ≡ 0 → Loops cx c body s s (Some ends.Fuel)
    test_fault : {c : Cond} {body : List Stmt} {s : State} {fault : Fault} → 0 < s.turns → holds_of c s.locals ≡ Err fault
        → Loops cx c body s (take_turn s) (Some (fault_end fault))
    test_false : {c : Cond} {body : List Stmt} {s : State} → 0 < s.turns → holds_of c s.locals ≡ Ok false → Loops cx c body s (take_turn s) None
    turn_ends : {c : Cond} {body : List Stmt} {s t : State} {end : End} → 0 < s.turns → holds_of c s.locals ≡ Ok true → RunsBlock cx body (take_turn s) t (Some end)
        → Loops cx c body s t (Some end)
    again : {c : Cond} {body : List Stmt} {s t u : State} {end : Option End} → 0 < s.turns → holds_of c s.locals ≡ Ok true → RunsBlock cx body (take_turn s) t None → Loops cx c body t u end
        → Loops cx c body s u end
