-- What simple statements and conditions are by the rules is what the functions give.
use Rattle.std.proofs.Common.{◌≡◌, ◌==◌, ℕ, Bool, true, false, ◌&&◌, not, List, ◌++◌, refl, sym, ap, subst, ◌∙◌, Option, Some, None, Result, Ok, Err, slice_get, MatchOption, if◌then◌else◌}
use Rattle.std.proofs.lemmas.Bool.{eqb-true, false≢true, false_from_ne_true}
use Rattle.std.proofs.lemmas.Option.{cond_some}
use Rattle.dl_lemmas.proofs.Tests.{same_number}
use Rattle.dl_ir.specs.declared.expressions.Cond.{Cond}
use Rattle.dl_ir.specs.declared.expressions.Cond.TheVariants as cond
use Rattle.dl_ir.specs.declared.expressions.Expr.{Expr}
use Rattle.dl_ir.specs.declared.expressions.RefSide.TheVariants as ref_side
use Rattle.dl_ir.specs.declared.expressions.Rel.{Rel}
use Rattle.dl_ir.specs.declared.expressions.Rel.TheVariants as rel
use Rattle.dl_ir.specs.declared.modules.KindDecl.{KindDecl}
use Rattle.dl_ir.specs.declared.modules.LocalDecl.{LocalDecl}
use Rattle.dl_ir.specs.declared.modules.Ty.{Ty}
use Rattle.dl_ir.specs.declared.modules.Ty.TheVariants.{Int, Of}
use Rattle.dl_ir.specs.declared.statements.Stmt.{Stmt}
use Rattle.dl_ir.specs.declared.statements.Stmt.TheVariants as stmt
use Rattle.dl_grammar.specs.declared.tree.Rhs.{Rhs}
use Rattle.dl_grammar.specs.declared.tree.Side.{Side}
use Rattle.dl_grammar.specs.declared.tree.TreeCond.{TreeCond}
use Rattle.dl_grammar.specs.declared.tree.TreeExpr.{TreeExpr}
use Rattle.dl_grammar.specs.declared.tree.Word.{Word}
use Rattle.dl_types.specs.declared.fault.TypeFault.{TypeFault}
use Rattle.dl_types.specs.declared.fault.TypeFault.TheVariants.{Unknown, KindClash, NewRoot, AssignRoot}
use Rattle.dl_types.specs.declared.operands.Given.{Given}
use Rattle.dl_types.specs.declared.operands.Given.TheVariants as given
use Rattle.dl_types.specs.Checks.{◌>>=◌, or_fault}
use Rattle.dl_types.specs.Names.{local_of, is_root_in}
use Rattle.dl_types.specs.Statements.{Numbers, number_typed, side_given, place_given, rhs_given, is_null, is_new_root, refers_to_root, assigned, assign_checked, assign_typed, stored_as, stored, store_typed, sameness, refs_compared, refs_related, compared, cond_typed}
use Rattle.dl_types.specs.DeclarationRules.{IsNamed, IsUnnamed, local_name}
use Rattle.dl_types.specs.StatementRules.{IsNumber, IsSide, IsPlace, IsRight, Assigns, Stores, IsSameness, Compares, RefersToRoot, IsNewRoot, HasParts, IsAssign, IsStore, IsCond, IsValue}
use Rattle.dl_types.proofs.OperandLaws.{FindsLocal, local_tells, local_found, local_unknown, number_is, is_number, side_is, is_side, place_is, is_place, right_is, is_right}

-- ---- types that fit
pub assigns : {x : ℕ} {ty : Ty} {what : Given} {s : Stmt} → Assigns x ty what s → assigned x ty what ≡ Some s
assigns Assigns.null = refl
assigns (Assigns.new {p = p} {kind = kind}) = ap (λ v. if v then Some (stmt.New p kind) else None) (same_number kind)
assigns Assigns.load = refl
assigns (Assigns.follow {p = p} {q = q} {f = f} {kind = kind}) = ap (λ v. if v then Some (stmt.Follow p q f) else None) (same_number kind)
assigns Assigns.number = refl
assigns (Assigns.copy {p = p} {q = q} {kind = kind}) = ap (λ v. if v then Some (stmt.Copy p q) else None) (same_number kind)

is_some : {A : Type 0} (P : A → Type 0) (a b : A) → Some a ≡ Some b → P a → P b
is_some P a b same holds = let one : a ≡ b = cc in subst P one holds

pub assigned_fits : (x : ℕ) (ty : Ty) (what : Given) (s : Stmt) → assigned x ty what ≡ Some s → Assigns x ty what s
assigned_fits x Int given.Null s e = cc
assigned_fits x (Of kind) given.Null s e = is_some (Assigns x (Of kind) given.Null) _ s e Assigns.null
assigned_fits x Int (given.New other) s e = cc
assigned_fits x (Of kind) (given.New other) s e =
    let found = cond_some (kind == other) (stmt.New x other) s e in
    let one : other ≡ kind = sym (eqb-true kind other found.0) in
    subst (Assigns x (Of kind) (given.New other)) found.1 (subst (λ k. Assigns x (Of kind) (given.New k) (stmt.New x k)) (sym one) Assigns.new)
assigned_fits x Int (given.Field p f Int) s e = is_some (Assigns x Int (given.Field p f Int)) _ s e Assigns.load
assigned_fits x Int (given.Field p f (Of other)) s e = cc
assigned_fits x (Of kind) (given.Field p f Int) s e = cc
assigned_fits x (Of kind) (given.Field p f (Of other)) s e =
    let found = cond_some (kind == other) (stmt.Follow x p f) s e in
    let one : other ≡ kind = sym (eqb-true kind other found.0) in
    subst (Assigns x (Of kind) (given.Field p f (Of other))) found.1 (subst (λ k. Assigns x (Of kind) (given.Field p f (Of k)) (stmt.Follow x p f)) (sym one) Assigns.follow)
assigned_fits x Int (given.Number value) s e = is_some (Assigns x Int (given.Number value)) _ s e Assigns.number
assigned_fits x (Of kind) (given.Number value) s e = cc
assigned_fits x Int (given.Reference p other) s e = cc
assigned_fits x (Of kind) (given.Reference p other) s e =
    let found = cond_some (kind == other) (stmt.Copy x p) s e in
    let one : other ≡ kind = sym (eqb-true kind other found.0) in
    subst (Assigns x (Of kind) (given.Reference p other)) found.1 (subst (λ k. Assigns x (Of kind) (given.Reference p k) (stmt.Copy x p)) (sym one) Assigns.copy)
assigned_fits x ty given.Unfit s e = cc

pub stores : {place what : Given} {s : Stmt} → Stores place what s → stored place what ≡ Some s
stores Stores.number = refl
stores Stores.null = refl
stores (Stores.link {q = q} {f = f} {p = p} {kind = kind}) = ap (λ v. if v then Some (stmt.Link q f p) else None) (same_number kind)

stored_in : (q f : ℕ) (ty : Ty) (what : Given) (s : Stmt) → stored_as q f ty what ≡ Some s → Stores (given.Field q f ty) what s
stored_in q f Int (given.Number value) s e = is_some (Stores (given.Field q f Int) (given.Number value)) _ s e Stores.number
stored_in q f (Of kind) given.Null s e = is_some (Stores (given.Field q f (Of kind)) given.Null) _ s e Stores.null
stored_in q f (Of kind) (given.Reference p other) s e =
    let found = cond_some (kind == other) (stmt.Link q f p) s e in
    let one : other ≡ kind = sym (eqb-true kind other found.0) in
    subst (Stores (given.Field q f (Of kind)) (given.Reference p other)) found.1 (subst (λ k. Stores (given.Field q f (Of kind)) (given.Reference p k) (stmt.Link q f p)) (sym one) Stores.link)
stored_in q f ty what s e = cc

pub stored_fits : (place what : Given) (s : Stmt) → stored place what ≡ Some s → Stores place what s
stored_fits (given.Field q f ty) what s e = stored_in q f ty what s e
stored_fits place what s e = cc

is_sameness : {r : Rel} {same : Bool} → IsSameness r same → sameness r ≡ Some same
is_sameness IsSameness.equal = refl
is_sameness IsSameness.not_equal = refl

sameness_is : (r : Rel) (same : Bool) → sameness r ≡ Some same → IsSameness r same
sameness_is rel.Less same e = cc
sameness_is rel.LessEq same e = cc
sameness_is rel.Equal same e = is_some (IsSameness rel.Equal) true same e IsSameness.equal
sameness_is rel.NotEqual same e = is_some (IsSameness rel.NotEqual) false same e IsSameness.not_equal

pub compares : {r : Rel} {a b : Given} {test : Cond} → Compares r a b test → compared r a b ≡ Some test
compares Compares.numbers = refl
compares (Compares.references {same = same} {p = p} {q = q} {kind = kind} is) =
    ap (λ o. refs_related o (given.Reference p kind) (given.Reference q kind)) (is_sameness is)
    ∙ ap (λ v. if v then Some (cond.Refs same (ref_side.Local p) (ref_side.Local q)) else None) (same_number kind)
compares (Compares.null_right {p = p} {kind = kind} is) = ap (λ o. refs_related o (given.Reference p kind) given.Null) (is_sameness is)
compares (Compares.null_left {p = p} {kind = kind} is) = ap (λ o. refs_related o given.Null (given.Reference p kind)) (is_sameness is)

refs_fit : (r : Rel) (same : Bool) (a b : Given) (test : Cond) → IsSameness r same → refs_compared same a b ≡ Some test → Compares r a b test
refs_fit r same (given.Reference p kind) (given.Reference q other) test is e =
    let found = cond_some (kind == other) (cond.Refs same (ref_side.Local p) (ref_side.Local q)) test e in
    let one : other ≡ kind = sym (eqb-true kind other found.0) in
    subst (Compares r (given.Reference p kind) (given.Reference q other)) found.1
    (subst (λ k. Compares r (given.Reference p kind) (given.Reference q k) (cond.Refs same (ref_side.Local p) (ref_side.Local q))) (sym one) (Compares.references is))
refs_fit r same (given.Reference p kind) given.Null test is e = is_some (Compares r (given.Reference p kind) given.Null) _ test e (Compares.null_right is)
refs_fit r same given.Null (given.Reference q kind) test is e = is_some (Compares r given.Null (given.Reference q kind)) _ test e (Compares.null_left is)
refs_fit r same a b test is e = cc

related_fit : (r : Rel) (o : Option Bool) (a b : Given) (test : Cond) → sameness r ≡ o → refs_related o a b ≡ Some test → Compares r a b test
related_fit r (Some same) a b test is e = refs_fit r same a b test (sameness_is r same is) e
related_fit r None a b test is e = cc

pub compared_fit : (r : Rel) (a b : Given) (test : Cond) → compared r a b ≡ Some test → Compares r a b test
compared_fit r (given.Number a) (given.Number b) test e = is_some (Compares r (given.Number a) (given.Number b)) _ test e Compares.numbers
compared_fit r a b test e = related_fit r (sameness r) a b test refl e

-- ---- roots
module _ (kinds : List KindDecl) where
  some_root : (number : ℕ) (o : Option KindDecl) → slice_get kinds number ≡ o → is_root_in o ≡ true → (kind : KindDecl) × (slice_get kinds number ≡ Some kind) × (kind.is_root ≡ true)
  some_root number None there e = cc
  some_root number (Some kind) there e = (kind, there, e)

  refers : (ty : Ty) → refers_to_root kinds ty ≡ true → RefersToRoot kinds ty
  refers Int e = cc
  refers (Of number) e = let root = some_root number (slice_get kinds number) refl e in record { number = number; is_kind = refl; kind = root.0; there = root.1; is_root = root.2 }

  refers_is : (ty : Ty) → RefersToRoot kinds ty → refers_to_root kinds ty ≡ true
  refers_is ty root = ap (refers_to_root kinds) root.is_kind ∙ ap is_root_in root.there ∙ root.is_root

  makes_root : (what : Given) → is_new_root kinds what ≡ true → IsNewRoot kinds what
  makes_root (given.New number) e = let root = some_root number (slice_get kinds number) refl e in record { number = number; is_new = refl; kind = root.0; there = root.1; is_root = root.2 }
  makes_root what e = cc

  makes_is : (what : Given) → IsNewRoot kinds what → is_new_root kinds what ≡ true
  makes_is what root = ap (is_new_root kinds) root.is_new ∙ ap is_root_in root.there ∙ root.is_root

null_is : (what : Given) → is_null what ≡ true → what ≡ given.Null
null_is given.Null e = refl
null_is what e = cc

none_where : {A : Type 0} (o : Option A) → ((a : A) → o ≡ Some a → ⊥) → o ≡ None
none_where None not_so = refl
none_where (Some a) not_so = absurd (not_so a refl)

module _ (kinds : List KindDecl) (params vars : List LocalDecl) (line : ℕ) where
  -- ---- assignments
  module _ (x : Word) (right : Rhs) where
    assign_last : (at : ℕ) (ty : Ty) (what : Given) (o : Option Stmt) → HasParts kinds (params ++ vars) x right at ty what → (RefersToRoot kinds ty → what ≡ given.Null)
        → (IsNewRoot kinds what → ⊥) → assigned at ty what ≡ o → IsAssign kinds (params ++ vars) line x right (or_fault o (KindClash line))
    assign_last at ty what None parts root new is = IsAssign.clash parts root new (λ s fits. let some = assigns fits in cc)
    assign_last at ty what (Some s) parts root new is = IsAssign.fits parts root new (assigned_fits at ty what s is)

    assign_from : (at : ℕ) (ty : Ty) (what : Given) (v n w : Bool) (o : Option Stmt) → HasParts kinds (params ++ vars) x right at ty what → refers_to_root kinds ty ≡ v → is_null what ≡ n
        → is_new_root kinds what ≡ w → assigned at ty what ≡ o
        → IsAssign kinds (params ++ vars) line x right (if v && not n then Err (AssignRoot line) else (if w then Err (NewRoot line) else or_fault o (KindClash line)))
    assign_from at ty what true false w o parts root null new is =
        IsAssign.assign_root parts (refers kinds ty root) (λ same. false≢true (sym null ∙ ap is_null same))
    assign_from at ty what true true true o parts root null new is = absurd (false≢true (sym (ap (is_new_root kinds) (null_is what null)) ∙ new))
    assign_from at ty what false n true o parts root null new is = IsAssign.new_root parts (λ refers. false≢true (sym root ∙ refers_is kinds ty refers)) (makes_root kinds what new)
    assign_from at ty what true true false o parts root null new is =
        assign_last at ty what o parts (λ refers. null_is what null) (λ makes. false≢true (sym new ∙ makes_is kinds what makes)) is
    assign_from at ty what false n false o parts root null new is =
        assign_last at ty what o parts (λ refers. absurd (false≢true (sym root ∙ refers_is kinds ty refers))) (λ makes. false≢true (sym new ∙ makes_is kinds what makes)) is

    assign_right : (at : ℕ) (decl : LocalDecl) (r : Result Given TypeFault) → IsNamed local_name (params ++ vars) x.text at decl → IsRight kinds (params ++ vars) right r
        → IsAssign kinds (params ++ vars) line x right (r >>= λ what. assign_checked kinds line (at, decl.ty) what)
    assign_right at decl (Err fault) named is = IsAssign.unknown_right named is
    assign_right at decl (Ok what) named is =
        assign_from at decl.ty what (refers_to_root kinds decl.ty) (is_null what) (is_new_root kinds what) (assigned at decl.ty what)
        (record { decl = decl; is_local = named; of_type = refl; is_right = is }) refl refl refl refl

    assign_found : (at : ℕ) (ty : Ty) (decl : LocalDecl) → IsNamed local_name (params ++ vars) x.text at decl → decl.ty ≡ ty
        → IsAssign kinds (params ++ vars) line x right (rhs_given kinds params vars right >>= λ what. assign_checked kinds line (at, ty) what)
    assign_found at ty decl named is =
        subst (λ t. IsAssign kinds (params ++ vars) line x right (rhs_given kinds params vars right >>= λ what. assign_checked kinds line (at, t) what)) is
        (assign_right at decl (rhs_given kinds params vars right) named (right_is params vars kinds right))

    assign_name : (o : Option (ℕ × Ty)) → MatchOption o (IsUnnamed local_name (params ++ vars) x.text) (FindsLocal params vars x.text)
        → IsAssign kinds (params ++ vars) line x right (or_fault o (Unknown x.line) >>= λ local. rhs_given kinds params vars right >>= λ what. assign_checked kinds line local what)
    assign_name None none = IsAssign.unknown_local none
    assign_name (Some found) there = assign_found found.0 found.1 there.decl there.named there.typed

    pub assign_is : IsAssign kinds (params ++ vars) line x right (assign_typed kinds params vars line x right)
    assign_is = assign_name (local_of params vars x.text) (local_tells params vars x.text)

    with_local : (at : ℕ) (decl : LocalDecl) → IsNamed local_name (params ++ vars) x.text at decl
        → assign_typed kinds params vars line x right ≡ (rhs_given kinds params vars right >>= λ what. assign_checked kinds line (at, decl.ty) what)
    with_local at decl named =
        ap (λ (o : Result (ℕ × Ty) TypeFault). o >>= λ local. rhs_given kinds params vars right >>= λ what. assign_checked kinds line local what) (local_found params vars x at decl named)

    with_parts : (at : ℕ) (ty : Ty) (what : Given) → HasParts kinds (params ++ vars) x right at ty what → assign_typed kinds params vars line x right ≡ assign_checked kinds line (at, ty) what
    with_parts at ty what parts =
        with_local at parts.decl parts.is_local
        ∙ ap (λ (o : Result Given TypeFault). o >>= λ what. assign_checked kinds line (at, parts.decl.ty) what) (is_right params vars kinds right (Ok what) parts.is_right)
        ∙ ap (λ t. assign_checked kinds line (at, t) what) parts.of_type

    -- where a root parameter is not set to anything but null
    no_root_set : (ty : Ty) (what : Given) → (RefersToRoot kinds ty → what ≡ given.Null) → (refers_to_root kinds ty && not (is_null what)) ≡ false
    no_root_set ty what null = from (refers_to_root kinds ty) refl
      where
        from : (v : Bool) → refers_to_root kinds ty ≡ v → (v && not (is_null what)) ≡ false
        from true is = ap (λ w. not (is_null w)) (null (refers kinds ty is))
        from false is = refl

    checked_else : (at : ℕ) (ty : Ty) (what : Given) (w : Bool) → (RefersToRoot kinds ty → what ≡ given.Null) → is_new_root kinds what ≡ w
        → assign_checked kinds line (at, ty) what ≡ (if w then Err (NewRoot line) else or_fault (assigned at ty what) (KindClash line))
    checked_else at ty what w null new =
        ap (λ v. if v then Err (AssignRoot line) else (if is_new_root kinds what then Err (NewRoot line) else or_fault (assigned at ty what) (KindClash line))) (no_root_set ty what null)
        ∙ ap (λ v. if v then Err (NewRoot line) else or_fault (assigned at ty what) (KindClash line)) new

    pub is_assign : (r : Result Stmt TypeFault) → IsAssign kinds (params ++ vars) line x right r → assign_typed kinds params vars line x right ≡ r
    is_assign r (IsAssign.unknown_local none) =
        ap (λ (o : Result (ℕ × Ty) TypeFault). o >>= λ local. rhs_given kinds params vars right >>= λ what. assign_checked kinds line local what) (local_unknown params vars x none)
    is_assign r (IsAssign.unknown_right {at = at} {decl = decl} {fault = fault} named is) =
        with_local at decl named ∙ ap (λ (o : Result Given TypeFault). o >>= λ what. assign_checked kinds line (at, decl.ty) what) (is_right params vars kinds right (Err fault) is)
    is_assign r (IsAssign.assign_root {at = at} {ty = ty} {what = what} parts root set) =
        with_parts at ty what parts
        ∙ ap (λ v. if v && not (is_null what) then Err (AssignRoot line) else (if is_new_root kinds what then Err (NewRoot line) else or_fault (assigned at ty what) (KindClash line))) (refers_is kinds ty root)
        ∙ ap (λ v. if not v then Err (AssignRoot line) else (if is_new_root kinds what then Err (NewRoot line) else or_fault (assigned at ty what) (KindClash line))) (false_from_ne_true (is_null what) (λ null. set (null_is what null)))
    is_assign r (IsAssign.new_root {at = at} {ty = ty} {what = what} parts no_root new) =
        with_parts at ty what parts ∙ checked_else at ty what true (λ root. absurd (no_root root)) (makes_is kinds what new)
    is_assign r (IsAssign.clash {at = at} {ty = ty} {what = what} parts root new none) =
        with_parts at ty what parts ∙ checked_else at ty what false root (false_from_ne_true (is_new_root kinds what) (λ makes. new (makes_root kinds what makes)))
        ∙ ap (λ o. or_fault o (KindClash line)) (none_where (assigned at ty what) (λ s is. none s (assigned_fits at ty what s is)))
    is_assign r (IsAssign.fits {at = at} {ty = ty} {what = what} {s = s} parts root new fits) =
        with_parts at ty what parts ∙ checked_else at ty what false root (false_from_ne_true (is_new_root kinds what) (λ makes. new (makes_root kinds what makes)))
        ∙ ap (λ o. or_fault o (KindClash line)) (assigns fits)

  -- ---- stores
  module _ (p f : Word) (right : Side) where
    store_last : (place what : Given) (o : Option Stmt) → stored place what ≡ o → IsPlace kinds (params ++ vars) p f (Ok place) → IsSide (params ++ vars) right (Ok what)
        → IsStore kinds (params ++ vars) line p f right (or_fault o (KindClash line))
    store_last place what None is at_place at_right = IsStore.clash at_place at_right (λ s fits. let some = stores fits in cc)
    store_last place what (Some s) is at_place at_right = IsStore.fits at_place at_right (stored_fits place what s is)

    store_right : (place : Given) (r : Result Given TypeFault) → IsPlace kinds (params ++ vars) p f (Ok place) → IsSide (params ++ vars) right r
        → IsStore kinds (params ++ vars) line p f right (r >>= λ what. or_fault (stored place what) (KindClash line))
    store_right place (Err fault) at_place is = IsStore.unknown_right at_place is
    store_right place (Ok what) at_place is = store_last place what (stored place what) refl at_place is

    store_place : (r : Result Given TypeFault) → IsPlace kinds (params ++ vars) p f r
        → IsStore kinds (params ++ vars) line p f right (r >>= λ place. side_given params vars right >>= λ what. or_fault (stored place what) (KindClash line))
    store_place (Err fault) is = IsStore.unknown_place is
    store_place (Ok place) is = store_right place (side_given params vars right) is (side_is params vars right)

    pub store_is : IsStore kinds (params ++ vars) line p f right (store_typed kinds params vars line p f right)
    store_is = store_place (place_given kinds params vars p f) (place_is params vars kinds p f)

    with_place : (r : Result Given TypeFault) → IsPlace kinds (params ++ vars) p f r
        → store_typed kinds params vars line p f right ≡ (r >>= λ place. side_given params vars right >>= λ what. or_fault (stored place what) (KindClash line))
    with_place r is = ap (λ (o : Result Given TypeFault). o >>= λ place. side_given params vars right >>= λ what. or_fault (stored place what) (KindClash line)) (is_place params vars kinds p f r is)

    with_both : (place : Given) (r : Result Given TypeFault) → IsPlace kinds (params ++ vars) p f (Ok place) → IsSide (params ++ vars) right r
        → store_typed kinds params vars line p f right ≡ (r >>= λ what. or_fault (stored place what) (KindClash line))
    with_both place r at_place is =
        with_place (Ok place) at_place ∙ ap (λ (o : Result Given TypeFault). o >>= λ what. or_fault (stored place what) (KindClash line)) (is_side params vars right r is)

    pub is_store : (r : Result Stmt TypeFault) → IsStore kinds (params ++ vars) line p f right r → store_typed kinds params vars line p f right ≡ r
    is_store r (IsStore.unknown_place {fault = fault} is) = with_place (Err fault) is
    is_store r (IsStore.unknown_right {place = place} {fault = fault} at_place is) = with_both place (Err fault) at_place is
    is_store r (IsStore.clash {place = place} {what = what} at_place is none) =
        with_both place (Ok what) at_place is ∙ ap (λ o. or_fault o (KindClash line)) (none_where (stored place what) (λ s fits. none s (stored_fits place what s fits)))
    is_store r (IsStore.fits {place = place} {what = what} {s = s} at_place is fits) = with_both place (Ok what) at_place is ∙ ap (λ o. or_fault o (KindClash line)) (stores fits)

-- ---- conditions
module _ (params vars : List LocalDecl) (line : ℕ) (c : TreeCond) where
  cond_last : (a b : Given) (o : Option Cond) → compared c.rel a b ≡ o → IsSide (params ++ vars) c.left (Ok a) → IsSide (params ++ vars) c.right (Ok b)
      → IsCond (params ++ vars) line c (or_fault o (KindClash line))
  cond_last a b None is at_left at_right = IsCond.clash at_left at_right (λ test fits. let some = compares fits in cc)
  cond_last a b (Some test) is at_left at_right = IsCond.fits at_left at_right (compared_fit c.rel a b test is)

  cond_right : (a : Given) (r : Result Given TypeFault) → IsSide (params ++ vars) c.left (Ok a) → IsSide (params ++ vars) c.right r
      → IsCond (params ++ vars) line c (r >>= λ b. or_fault (compared c.rel a b) (KindClash line))
  cond_right a (Err fault) at_left is = IsCond.unknown_right at_left is
  cond_right a (Ok b) at_left is = cond_last a b (compared c.rel a b) refl at_left is

  cond_left : (r : Result Given TypeFault) → IsSide (params ++ vars) c.left r
      → IsCond (params ++ vars) line c (r >>= λ a. side_given params vars c.right >>= λ b. or_fault (compared c.rel a b) (KindClash line))
  cond_left (Err fault) is = IsCond.unknown_left is
  cond_left (Ok a) is = cond_right a (side_given params vars c.right) is (side_is params vars c.right)

  pub cond_is : IsCond (params ++ vars) line c (cond_typed params vars line c)
  cond_is = cond_left (side_given params vars c.left) (side_is params vars c.left)

  with_left : (r : Result Given TypeFault) → IsSide (params ++ vars) c.left r
      → cond_typed params vars line c ≡ (r >>= λ a. side_given params vars c.right >>= λ b. or_fault (compared c.rel a b) (KindClash line))
  with_left r is = ap (λ (o : Result Given TypeFault). o >>= λ a. side_given params vars c.right >>= λ b. or_fault (compared c.rel a b) (KindClash line)) (is_side params vars c.left r is)

  with_sides : (a : Given) (r : Result Given TypeFault) → IsSide (params ++ vars) c.left (Ok a) → IsSide (params ++ vars) c.right r
      → cond_typed params vars line c ≡ (r >>= λ b. or_fault (compared c.rel a b) (KindClash line))
  with_sides a r at_left is = with_left (Ok a) at_left ∙ ap (λ (o : Result Given TypeFault). o >>= λ b. or_fault (compared c.rel a b) (KindClash line)) (is_side params vars c.right r is)

  pub is_cond : (r : Result Cond TypeFault) → IsCond (params ++ vars) line c r → cond_typed params vars line c ≡ r
  is_cond r (IsCond.unknown_left {fault = fault} is) = with_left (Err fault) is
  is_cond r (IsCond.unknown_right {a = a} {fault = fault} at_left is) = with_sides a (Err fault) at_left is
  is_cond r (IsCond.clash {a = a} {b = b} at_left is none) =
      with_sides a (Ok b) at_left is ∙ ap (λ o. or_fault o (KindClash line)) (none_where (compared c.rel a b) (λ test fits. none test (compared_fit c.rel a b test fits)))
  is_cond r (IsCond.fits {a = a} {b = b} {test = test} at_left is fits) = with_sides a (Ok b) at_left is ∙ ap (λ o. or_fault o (KindClash line)) (compares fits)

-- ---- values
module _ (params vars : List LocalDecl) (line : ℕ) (e : TreeExpr) where
  value_from : (r : Numbers) → IsNumber (params ++ vars) e r → IsValue (params ++ vars) line e (r >>= λ n. or_fault n (KindClash line))
  value_from (Err fault) is = IsValue.unknown is
  value_from (Ok None) is = IsValue.clash is
  value_from (Ok (Some value)) is = IsValue.fits is

  -- the number that is returned or emitted, as the functions have it
  abbrev pub value_typed : Result Expr TypeFault
  value_typed = number_typed params vars e >>= λ n. or_fault n (KindClash line)

  pub value_is : IsValue (params ++ vars) line e value_typed
  value_is = value_from (number_typed params vars e) (number_is params vars e)

  pub is_value : (r : Result Expr TypeFault) → IsValue (params ++ vars) line e r → value_typed ≡ r
  is_value r (IsValue.unknown {fault = fault} is) = ap (λ (o : Numbers). o >>= λ n. or_fault n (KindClash line)) (is_number params vars e (Err fault) is)
  is_value r (IsValue.clash is) = ap (λ (o : Numbers). o >>= λ n. or_fault n (KindClash line)) (is_number params vars e (Ok None) is)
  is_value r (IsValue.fits {value = value} is) = ap (λ (o : Numbers). o >>= λ n. or_fault n (KindClash line)) (is_number params vars e (Ok (Some value)) is)
