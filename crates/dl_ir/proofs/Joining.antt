-- What the rows are of which each is kept in two parts, and what a change of either part makes of them.
use Rattle.std.proofs.Common.{◌≡◌, ◌++◌, ◌<◌, ◌≤◌, ◌+◌, ◌-◌, ℕ, zero, suc, Bool, true, false, cond, ◌&&◌, List, [], ◌∷◌, length, set, refl, sym, ap, subst, ◌∙◌, T, Option, Some, None, arith, inl, inr}
use Rattle.std.specs.Prelude.{is_some, slice_get, option_and_then, if◌then◌else◌}
use Rattle.std.specs.Option.{option_map}
use Rattle.std.specs.Cmp.{Equal-is}
use Rattle.std.specs.Ordering.{is_lt, eq_by_cmp}
use Rattle.std.specs.FinMap as maps
use Rattle.std.specs.FinMap.{FinMap, find, is_sorted, entries_sorted, entries-from_sorted, get-entries, len-entries, get-empty, same_map}
use Rattle.std.specs.FinMap.Entries.{below_all}
use Rattle.std.proofs.lemmas.List.{append-nil, length-map, length-set, set-append_left, set-append_right}
use Rattle.std.proofs.lemmas.Option.{slice_get_past}
use Rattle.dl_ir.specs.declared.names.Name.{Name}
use Rattle.dl_ir.specs.declared.names.Value.{Value}
use Rattle.dl_ir.specs.declared.objects.Obj.{Obj}
use Rattle.dl_ir.specs.declared.rows.Head.{Head}
use Rattle.dl_ir.specs.declared.rows.Row.{Row}
use Rattle.dl_ir.specs.Cells.{IsSplit}
use Rattle.dl_ir.specs.Counted.{object_of, refs_of, row_with}
use Rattle.dl_ir.specs.Heap.{name_cmp}
use Rattle.dl_ir.specs.Joined.{aside, whole, near_with, far_with, entry_whole, along, joined, IsHead, IsWide, IsStored}
use Rattle.dl_ir.specs.Mapped.{with_values}
use Rattle.dl_ir.specs.Rows.{Rows, changed, changed_of}
use Rattle.dl_ir.proofs.NameOrder.{names_total, exact_names}
use Rattle.dl_ir.proofs.Lookups.{same_or_not, got_put, got_beside, gone, got_left}
use Rattle.dl_ir.proofs.Mapped.{get-with_values, len-with_values}
use Rattle.dl_ir.proofs.Subsets.{no_more}

abbrev pub Tails : Type 0
Tails = FinMap name_cmp (List Value)

-- the row of a head, with these fields
abbrev pub row_of : Head → List Value → Row
row_of head fields = record { refs = head.refs; object = record { kind = head.kind; sealed = head.sealed; fields = fields } }

-- what the rows have under a name
abbrev pub row_at : Tails → Name → Head → Row
row_at tails q head = whole head (maps.get tails q)

module _ (tails : Tails) where
  below-along : (k : Name) (es : List (Name × Head)) → below_all name_cmp k (along tails es) ≡ below_all name_cmp k es
  below-along k [] = refl
  below-along k (e ∷ es) = ap (λ b. is_lt (name_cmp k e.0) && b) (below-along k es)

  sorted-along : (es : List (Name × Head)) → is_sorted name_cmp (along tails es) ≡ is_sorted name_cmp es
  sorted-along [] = refl
  sorted-along (e ∷ es) = ap (λ b. b && is_sorted name_cmp (along tails es)) (below-along e.0 es) ∙ ap (λ b. below_all name_cmp e.0 es && b) (sorted-along es)

  find-along : (q : Name) (es : List (Name × Head)) → find name_cmp q (along tails es) ≡ option_map (row_at tails q) (find name_cmp q es)
  find-along q [] = refl
  find-along q (e ∷ es) =
      let at : (b : Bool) → eq_by_cmp name_cmp q e.0 ≡ b → cond b (Some (row_at tails e.0 e.1)) (find name_cmp q (along tails es)) ≡ option_map (row_at tails q) (cond b (Some e.1) (find name_cmp q es))
      = λ b. elim b as (λ c. eq_by_cmp name_cmp q e.0 ≡ c → cond c (Some (row_at tails e.0 e.1)) (find name_cmp q (along tails es)) ≡ option_map (row_at tails q) (cond c (Some e.1) (find name_cmp q es))) [
        | true ↦ λ is. ap (λ n. Some (row_at tails n e.1)) (sym (exact_names q e.0 ((Equal-is (name_cmp q e.0)).0 is)))
        | false ↦ λ _. find-along q es
      ] in
      at (eq_by_cmp name_cmp q e.0) refl

module _ (heads : FinMap name_cmp Head) (tails : Tails) where
  pub entries-joined : maps.entries (joined heads tails) ≡ along tails (maps.entries heads)
  unfolding joined
  entries-joined = entries-from_sorted name_cmp (along tails (maps.entries heads)) (subst T (sym (sorted-along tails (maps.entries heads))) (entries_sorted heads))

  pub get-joined : (q : Name) → maps.get (joined heads tails) q ≡ option_map (row_at tails q) (maps.get heads q)
  get-joined q = get-entries (joined heads tails) q ∙ ap (find name_cmp q) entries-joined ∙ find-along tails q (maps.entries heads) ∙ ap (option_map (row_at tails q)) (sym (get-entries heads q))

  pub len-joined : maps.len (joined heads tails) ≡ maps.len heads
  len-joined = len-entries (joined heads tails) ∙ ap length entries-joined ∙ length-map (maps.entries heads) (entry_whole tails) ∙ sym (len-entries heads)

  -- what is told of a row
  told-joined : {Y : Type 0} (tell : Row → Y) (seen : Head → Y) (q : Name) → ((head : Head) → tell (row_at tails q head) ≡ seen head) → option_map tell (maps.get (joined heads tails) q) ≡ option_map seen (maps.get heads q)
  told-joined {Y} tell seen q each = ap (option_map tell) (get-joined q) ∙ (elim (maps.get heads q) as (λ o. option_map tell (option_map (row_at tails q) o) ≡ option_map seen o) [ None ↦ refl | Some head ↦ ap Some (each head) ])

  -- its number
  pub counts-joined : (q : Name) → option_map refs_of (maps.get (joined heads tails) q) ≡ option_map (λ (head : Head). head.refs) (maps.get heads q)
  counts-joined q = told-joined refs_of (λ head. head.refs) q (λ head. refl)

  -- its number, and whether it is sealed
  pub seals-joined : (q : Name) → option_map {U = ℕ × Bool} (λ (row : Row). (row.refs, row.object.sealed)) (maps.get (joined heads tails) q) ≡ option_map {U = ℕ × Bool} (λ (head : Head). (head.refs, head.sealed)) (maps.get heads q)
  seals-joined q = told-joined {Y = ℕ × Bool} (λ row. (row.refs, row.object.sealed)) (λ head. (head.refs, head.sealed)) q (λ head. refl)

  -- its object
  pub objects-joined : (q : Name) → option_map object_of (maps.get (joined heads tails) q) ≡ option_map (λ (head : Head). object_of (row_at tails q head)) (maps.get heads q)
  objects-joined q = told-joined object_of (λ head. object_of (row_at tails q head)) q (λ head. refl)

-- where nothing is, there are no rows
pub joined-empty : (tails : Tails) → joined maps.empty tails ≡ maps.empty
joined-empty tails = same_map names_total exact_names _ _ (λ q. get-joined maps.empty tails q ∙ ap (option_map (row_at tails q)) (get-empty name_cmp q) ∙ sym (get-empty name_cmp q))

-- what is under a name after a change
module _ {X : Type 0} (m : FinMap name_cmp X) (k : Name) (change : X → X) where
  got_changed : maps.get (changed m k change) k ≡ option_map change (maps.get m k)
  got_changed =
      let at : (o : Option X) → maps.get m k ≡ o → maps.get (changed_of m k change o) k ≡ option_map change o = λ o. elim o as (λ p. maps.get m k ≡ p → maps.get (changed_of m k change p) k ≡ option_map change p) [
        | None ↦ λ is. is
        | Some v ↦ λ _. got_put m k (change v)
      ] in
      at (maps.get m k) refl

  got_unchanged : (q : Name) → eq_by_cmp name_cmp q k ≡ false → maps.get (changed m k change) q ≡ maps.get m q
  got_unchanged q other =
      let at : (o : Option X) → maps.get (changed_of m k change o) q ≡ maps.get m q = λ o. elim o as (λ p. maps.get (changed_of m k change p) q ≡ maps.get m q) [
        | None ↦ refl
        | Some v ↦ got_beside m k (change v) q other
      ] in
      at (maps.get m k)

-- other tails, that are the same but under this name
abbrev pub AreSameBeside : Tails → Tails → Name → Type 0
AreSameBeside others tails k = (q : Name) → eq_by_cmp name_cmp q k ≡ false → maps.get others q ≡ maps.get tails q

pub same_all : (tails : Tails) (k : Name) → AreSameBeside tails tails k
same_all tails k q other = refl

pub same_put : (tails : Tails) (k : Name) (far : List Value) → AreSameBeside (maps.insert tails k far) tails k
same_put tails k far q other = got_beside tails k far q other

pub same_removed : (tails : Tails) (k : Name) → AreSameBeside (maps.remove tails k) tails k
same_removed tails k q other = got_left tails k q other

module _ (heads : FinMap name_cmp Head) (tails : Tails) (k : Name) where
  on_both : (change : Head → Head) (other : Option (List Value)) (seen : Row → Row) (o : Option Head)
      → ((head : Head) → o ≡ Some head → whole (change head) other ≡ seen (row_at tails k head))
      → option_map (λ (head : Head). whole head other) (option_map change o) ≡ option_map seen (option_map (row_at tails k) o)
  on_both change other seen None each = refl
  on_both change other seen (Some head) each = ap Some (each head refl)

  on_one : (other : Option (List Value)) (seen : Row → Row) (o : Option Head)
      → ((head : Head) → o ≡ Some head → whole head other ≡ seen (row_at tails k head))
      → option_map (λ (head : Head). whole head other) o ≡ option_map seen (option_map (row_at tails k) o)
  on_one other seen None each = refl
  on_one other seen (Some head) each = ap Some (each head refl)

  -- a head is another
  pub joined-heads : (change : Head → Head) (seen : Row → Row) → ((head : Head) → maps.get heads k ≡ Some head → row_at tails k (change head) ≡ seen (row_at tails k head))
      → joined (changed heads k change) tails ≡ changed (joined heads tails) k seen
  joined-heads change seen each = same_map names_total exact_names _ _ (λ q. elim (same_or_not q k) [
    | inl same ↦ rw same (
        get-joined (changed heads k change) tails k ∙ ap (option_map (row_at tails k)) (got_changed heads k change)
        ∙ on_both change (maps.get tails k) seen (maps.get heads k) each
        ∙ ap (option_map seen) (sym (get-joined heads tails k)) ∙ sym (got_changed (joined heads tails) k seen))
    | inr other ↦
        get-joined (changed heads k change) tails q ∙ ap (option_map (row_at tails q)) (got_unchanged heads k change q other)
        ∙ sym (get-joined heads tails q) ∙ sym (got_unchanged (joined heads tails) k seen q other)
  ])

  -- what stands aside is another
  pub joined-tails : (change : List Value → List Value) (seen : Row → Row) → ((head : Head) → maps.get heads k ≡ Some head → whole head (option_map change (maps.get tails k)) ≡ seen (row_at tails k head))
      → joined heads (changed tails k change) ≡ changed (joined heads tails) k seen
  joined-tails change seen each = same_map names_total exact_names _ _ (λ q. elim (same_or_not q k) [
    | inl same ↦ rw same (
        get-joined heads (changed tails k change) k ∙ ap (λ o. option_map (λ (head : Head). whole head o) (maps.get heads k)) (got_changed tails k change)
        ∙ on_one (option_map change (maps.get tails k)) seen (maps.get heads k) each
        ∙ ap (option_map seen) (sym (get-joined heads tails k)) ∙ sym (got_changed (joined heads tails) k seen))
    | inr other ↦
        get-joined heads (changed tails k change) q ∙ ap (λ o. option_map (λ (head : Head). whole head o) (maps.get heads q)) (got_unchanged tails k change q other)
        ∙ sym (get-joined heads tails q) ∙ sym (got_unchanged (joined heads tails) k seen q other)
  ])

  module _ (others : Tails) (same_beside : AreSameBeside others tails k) where
    -- an object is put
    pub joined-put : (head : Head) → joined (maps.insert heads k head) others ≡ maps.insert (joined heads tails) k (row_at others k head)
    joined-put head = same_map names_total exact_names _ _ (λ q. elim (same_or_not q k) [
      | inl same ↦ rw same (
          get-joined (maps.insert heads k head) others k ∙ ap (option_map (row_at others k)) (got_put heads k head)
          ∙ sym (got_put (joined heads tails) k (row_at others k head)))
      | inr other ↦
          get-joined (maps.insert heads k head) others q ∙ ap (option_map (row_at others q)) (got_beside heads k head q other)
          ∙ ap (λ o. option_map (λ (h : Head). whole h o) (maps.get heads q)) (same_beside q other)
          ∙ sym (get-joined heads tails q) ∙ sym (got_beside (joined heads tails) k (row_at others k head) q other)
    ])

    -- an object is removed
    pub joined-removed : joined (maps.remove heads k) others ≡ maps.remove (joined heads tails) k
    joined-removed = same_map names_total exact_names _ _ (λ q. elim (same_or_not q k) [
      | inl same ↦ rw same (
          get-joined (maps.remove heads k) others k ∙ ap (option_map (row_at others k)) (gone heads k)
          ∙ sym (gone (joined heads tails) k))
      | inr other ↦
          get-joined (maps.remove heads k) others q ∙ ap (option_map (row_at others q)) (got_left heads k q other)
          ∙ ap (λ o. option_map (λ (h : Head). whole h o) (maps.get heads q)) (same_beside q other)
          ∙ sym (get-joined heads tails q) ∙ sym (got_left (joined heads tails) k q other)
    ])

none_of : (tails : Tails) (k : Name) (o : Option Head) → option_map (row_at tails k) o ≡ None → o ≡ None
none_of tails k None is = refl
none_of tails k (Some head) is = cc

-- where there is no row, there is no head
pub no_head : (heads : FinMap name_cmp Head) (tails : Tails) (k : Name) → maps.get (joined heads tails) k ≡ None → maps.get heads k ≡ None
no_head heads tails k none = none_of tails k (maps.get heads k) (sym (get-joined heads tails k) ∙ none)

-- where there is no head, nothing stands aside
module _ (heads : Rows Head) (tails : Rows (List Value)) (stored : IsStored heads tails) where
  none_aside : (q : Name) (o : Option (List Value)) → maps.get tails.rows q ≡ o → maps.get heads.rows q ≡ None → o ≡ None
  none_aside q None is none = refl
  none_aside q (Some far) is none = absurd (subst IsWide none (stored.wide q far is))

  pub none_without_head : (q : Name) → maps.get heads.rows q ≡ None → maps.get tails.rows q ≡ None
  none_without_head q none = none_aside q (maps.get tails.rows q) refl none

  pub is_wide : (q : Name) (head : Head) (far : List Value) → maps.get heads.rows q ≡ Some head → maps.get tails.rows q ≡ Some far → head.wide ≡ true
  is_wide q head far here there = subst IsWide here (stored.wide q far there)

  within : (q : Name) (o : Option (List Value)) → maps.get tails.rows q ≡ o → is_some o ≡ true → maps.contains_key heads.rows q ≡ true
  within q None is some = absurd (subst T (sym some) tt)
  within q (Some far) is some =
      let at : (p : Option Head) → IsWide p → is_some p ≡ true = λ p. elim p as (λ r. IsWide r → is_some r ≡ true) [ None ↦ λ wide. absurd wide | Some head ↦ λ _. refl ] in
      at (maps.get heads.rows q) (stored.wide q far is)

  -- no more stands aside than there are heads
  pub few_aside : maps.len tails.rows ≤ maps.len heads.rows
  few_aside =
      let blank : Head → Obj = λ _. record { kind = 0; sealed = false; fields = [] } in
      let some : (o : Option Head) → is_some (option_map blank o) ≡ is_some o = λ o. elim o as (λ p. is_some (option_map blank p) ≡ is_some p) [ None ↦ refl | Some head ↦ refl ] in
      let most = no_more tails.rows (with_values blank heads.rows) (λ n is.
      ap is_some (get-with_values blank heads.rows n) ∙ some (maps.get heads.rows n) ∙ within n (maps.get tails.rows n) refl is) in
      omega (arith, most, len-with_values blank heads.rows)

-- what is there of an entry that was changed
had_changed : {X : Type 0} (change : X → X) (o : Option X) (x : X) → option_map change o ≡ Some x → (before : X) × (o ≡ Some before) × (change before ≡ x)
had_changed change None x is = cc
had_changed change (Some before) x is = (before, refl, cc)

wide_changed : (change : Head → Head) → ((head : Head) → (change head).wide ≡ head.wide) → (o : Option Head) → IsWide o → IsWide (option_map change o)
wide_changed change same None wide = wide
wide_changed change same (Some head) wide = same head ∙ wide

some_same : {X : Type 0} {x y : X} → Some x ≡ Some y → x ≡ y
some_same is = cc

module _ (heads : Rows Head) (tails : Rows (List Value)) (stored : IsStored heads tails) (k : Name) where
  -- a head is another
  pub stored-heads : (change : Head → Head) → ((head : Head) → IsHead head → IsHead (change head)) → ((head : Head) → (change head).wide ≡ head.wide)
      → IsStored (record { rows = changed heads.rows k change; room = heads.room }) tails
  stored-heads change each same = record {
    each = λ q head is. elim (same_or_not q k) [
      | inl here ↦
          let had = had_changed change (maps.get heads.rows k) head (sym (got_changed heads.rows k change) ∙ ap (maps.get (changed heads.rows k change)) (sym here) ∙ is) in
          subst IsHead had.2 (each had.0 (stored.each k had.0 had.1))
      | inr other ↦ stored.each q head (sym (got_unchanged heads.rows k change q other) ∙ is)
    ];
    wide = λ q far is. elim (same_or_not q k) [
      | inl here ↦ subst (λ n. IsWide (maps.get (changed heads.rows k change) n)) (sym here)
          (subst IsWide (sym (got_changed heads.rows k change)) (wide_changed change same (maps.get heads.rows k) (stored.wide k far (ap (maps.get tails.rows) (sym here) ∙ is))))
      | inr other ↦ subst IsWide (sym (got_unchanged heads.rows k change q other)) (stored.wide q far is)
    ];
    room = stored.room;
  }

  -- what stands aside is another
  pub stored-tails : (change : List Value → List Value) → IsStored heads (record { rows = changed tails.rows k change; room = tails.room })
  stored-tails change = record {
    each = stored.each;
    wide = λ q far is. elim (same_or_not q k) [
      | inl here ↦
          let had = had_changed change (maps.get tails.rows k) far (sym (got_changed tails.rows k change) ∙ ap (maps.get (changed tails.rows k change)) (sym here) ∙ is) in
          stored.wide q had.0 (ap (maps.get tails.rows) here ∙ had.1)
      | inr other ↦ stored.wide q far (sym (got_unchanged tails.rows k change q other) ∙ is)
    ];
    room = stored.room;
  }

  module _ (others : Tails) (same_beside : AreSameBeside others tails.rows k) where
    -- an object is put
    pub stored-put : (head : Head) → IsHead head → ((far : List Value) → maps.get others k ≡ Some far → head.wide ≡ true)
        → IsStored (record { rows = maps.insert heads.rows k head; room = heads.room }) (record { rows = others; room = tails.room })
    stored-put head good wide = record {
      each = λ q other_head is. elim (same_or_not q k) [
        | inl here ↦ subst IsHead (some_same (sym (got_put heads.rows k head) ∙ ap (maps.get (maps.insert heads.rows k head)) (sym here) ∙ is)) good
        | inr other ↦ stored.each q other_head (sym (got_beside heads.rows k head q other) ∙ is)
      ];
      wide = λ q far is. elim (same_or_not q k) [
        | inl here ↦ subst (λ n. IsWide (maps.get (maps.insert heads.rows k head) n)) (sym here)
            (subst IsWide (sym (got_put heads.rows k head)) (wide far (ap (maps.get others) (sym here) ∙ is)))
        | inr other ↦ subst IsWide (sym (got_beside heads.rows k head q other)) (stored.wide q far (sym (same_beside q other) ∙ is))
      ];
      room = stored.room;
    }

    -- an object is removed
    pub stored-removed : maps.get others k ≡ None → IsStored (record { rows = maps.remove heads.rows k; room = heads.room }) (record { rows = others; room = tails.room })
    stored-removed none = record {
      each = λ q head is. elim (same_or_not q k) [
        | inl here ↦ let gone_now = sym (gone heads.rows k) ∙ ap (maps.get (maps.remove heads.rows k)) (sym here) ∙ is in cc
        | inr other ↦ stored.each q head (sym (got_left heads.rows k q other) ∙ is)
      ];
      wide = λ q far is. elim (same_or_not q k) [
        | inl here ↦ let none_now = sym none ∙ ap (maps.get others) (sym here) ∙ is in cc
        | inr other ↦ subst IsWide (sym (got_left heads.rows k q other)) (stored.wide q far (sym (same_beside q other) ∙ is))
      ];
      room = stored.room;
    }

-- what is read behind the first values, and among them
slice_get-left : {X : Type 0} (xs ys : List X) (i : ℕ) → i < length xs → slice_get (xs ++ ys) i ≡ slice_get xs i
slice_get-left [] ys i less = absurd (omega (arith, less))
slice_get-left (x ∷ xs) ys zero less = refl
slice_get-left (x ∷ xs) ys (suc i) less = slice_get-left xs ys i (omega (arith, less))

slice_get-right : {X : Type 0} (xs ys : List X) (i : ℕ) → slice_get (xs ++ ys) (length xs + i) ≡ slice_get ys i
slice_get-right [] ys i = let e : 0 + i ≡ i = omega arith in ap (slice_get ys) e
slice_get-right (x ∷ xs) ys i =
    let e : suc (length xs) + i ≡ suc (length xs + i) = omega arith in
    ap (slice_get (x ∷ xs ++ ys)) e ∙ slice_get-right xs ys i

-- a field among the first four, of what is read and of what is written
module _ (near : List Value) (far : Option (List Value)) (field : ℕ) where
  pub got_near : (wide : Bool) → (wide ≡ true → length near ≡ 4) → field < 4 → slice_get (near ++ aside wide far) field ≡ slice_get near field
  got_near true full less = slice_get-left near (aside true far) field (omega (arith, full refl, less))
  got_near false full less = ap (λ l. slice_get l field) (append-nil near)

  pub set_near : (value : Value) (wide : Bool) → (wide ≡ true → length near ≡ 4) → field < 4 → set near field value ++ aside wide far ≡ set (near ++ aside wide far) field value
  set_near value true full less = sym (set-append_left near (aside true far) field value (omega (arith, full refl, less)))
  set_near value false full less = append-nil (set near field value) ∙ ap (λ l. set l field value) (sym (append-nil near))

-- and behind them
got_none_behind : (near : List Value) (field : ℕ) → length near ≤ field → slice_get (near ++ []) field ≡ None
got_none_behind near field less = ap (λ l. slice_get l field) (append-nil near) ∙ slice_get_past near field less

pub got_far : (near : List Value) (field : ℕ) (wide : Bool) (far : Option (List Value)) → length near ≤ 4 → (wide ≡ true → length near ≡ 4) → ((l : List Value) → far ≡ Some l → wide ≡ true) → 4 ≤ field
    → slice_get (near ++ aside wide far) field ≡ option_and_then (λ (l : List Value). slice_get l (field - 4)) far
got_far near field true None few full only less = got_none_behind near field (omega (arith, few, less))
got_far near field true (Some l) few full only less =
    let e : field ≡ length near + (field - 4) = omega (arith, full refl, less) in
    ap (slice_get (near ++ l)) e ∙ slice_get-right near l (field - 4)
got_far near field false None few full only less = got_none_behind near field (omega (arith, few, less))
got_far near field false (Some l) few full only less = absurd (subst T (sym (only l refl)) tt)

set_none_behind : (near : List Value) (field : ℕ) (value : Value) → length near ≤ field → near ++ [] ≡ set (near ++ []) field value
set_none_behind near field value less = sym (set-append_right near [] (length near) field value refl less)

pub set_far : (near : List Value) (field : ℕ) (value : Value) (wide : Bool) (far : Option (List Value)) → length near ≤ 4 → (wide ≡ true → length near ≡ 4) → 4 ≤ field
    → near ++ aside wide (option_map (λ (l : List Value). set l (field - 4) value) far) ≡ set (near ++ aside wide far) field value
set_far near field value true None few full less = set_none_behind near field value (omega (arith, few, less))
set_far near field value true (Some l) few full less = sym (set-append_right near l 4 field value (full refl) less)
set_far near field value false far few full less = set_none_behind near field value (omega (arith, few, less))

-- a head with another value is as good
pub near-good : (field : ℕ) (value : Value) (head : Head) → IsHead head → IsHead (near_with field value head)
near-good field value head good = record {
  few = omega (arith, length-set head.near field value, good.few);
  full = λ wide. length-set head.near field value ∙ good.full wide;
}

-- no objects
pub stored-empty : (room : ℕ) → IsStored (record { rows = maps.empty; room = room }) (record { rows = maps.empty; room = room })
stored-empty room = record {
  each = λ q head is. let none = sym (get-empty name_cmp q) ∙ is in cc;
  wide = λ q far is. let none = sym (get-empty name_cmp q) ∙ is in cc;
  room = refl;
}

-- what a field holds, and what it makes of a row that it holds something else
module _ (heads : Rows Head) (tails : Rows (List Value)) (stored : IsStored heads tails) (k : Name) (field : ℕ) where
  abbrev field_in : Row → Option Value
  field_in row = slice_get row.object.fields field

  pub read-near : field < 4 → option_and_then field_in (maps.get (joined heads.rows tails.rows) k) ≡ option_and_then (λ (head : Head). slice_get head.near field) (maps.get heads.rows k)
  read-near less =
      let at : (o : Option Head) → maps.get heads.rows k ≡ o → option_and_then field_in (option_map (row_at tails.rows k) o) ≡ option_and_then (λ (head : Head). slice_get head.near field) o
      = λ o. elim o as (λ p. maps.get heads.rows k ≡ p → option_and_then field_in (option_map (row_at tails.rows k) p) ≡ option_and_then (λ (head : Head). slice_get head.near field) p) [
        | None ↦ λ _. refl
        | Some head ↦ λ is. got_near head.near (maps.get tails.rows k) field head.wide (stored.each k head is).full less
      ] in
      ap (option_and_then field_in) (get-joined heads.rows tails.rows k) ∙ at (maps.get heads.rows k) refl

  pub read-far : 4 ≤ field → option_and_then field_in (maps.get (joined heads.rows tails.rows) k) ≡ option_and_then (λ (far : List Value). slice_get far (field - 4)) (maps.get tails.rows k)
  read-far less =
      let at : (o : Option Head) → maps.get heads.rows k ≡ o → option_and_then field_in (option_map (row_at tails.rows k) o) ≡ option_and_then (λ (far : List Value). slice_get far (field - 4)) (maps.get tails.rows k)
      = λ o. elim o as (λ p. maps.get heads.rows k ≡ p → option_and_then field_in (option_map (row_at tails.rows k) p) ≡ option_and_then (λ (far : List Value). slice_get far (field - 4)) (maps.get tails.rows k)) [
        | None ↦ λ is. sym (ap (option_and_then (λ (far : List Value). slice_get far (field - 4))) (none_without_head heads tails stored k is))
        | Some head ↦ λ is. got_far head.near field head.wide (maps.get tails.rows k) (stored.each k head is).few (stored.each k head is).full (λ l there. is_wide heads tails stored k head l is there) less
      ] in
      ap (option_and_then field_in) (get-joined heads.rows tails.rows k) ∙ at (maps.get heads.rows k) refl

  module _ (value : Value) where
    pub written-near : field < 4 → joined (changed heads.rows k (near_with field value)) tails.rows ≡ changed (joined heads.rows tails.rows) k (row_with field value)
    written-near less = joined-heads heads.rows tails.rows k (near_with field value) (row_with field value) (λ head is.
        ap (λ (l : List Value). row_of head l) (set_near head.near (maps.get tails.rows k) field value head.wide (stored.each k head is).full less))

    pub written-far : 4 ≤ field → joined heads.rows (changed tails.rows k (far_with (field - 4) value)) ≡ changed (joined heads.rows tails.rows) k (row_with field value)
    written-far less = joined-tails heads.rows tails.rows k (far_with (field - 4) value) (row_with field value) (λ head is.
        ap (λ (l : List Value). row_of head l) (set_far head.near field value head.wide (maps.get tails.rows k) (stored.each k head is).few (stored.each k head is).full less))

-- where values stand aside, the first are four
pub full_split : (near far : List Value) → IsSplit near far → 0 < length far → length near ≡ 4
full_split near far split some =
    let not_less : length near < 4 → ⊥ = λ less. let none = ap length (split.rest less) in omega (arith, none, some) in
    omega (arith, not_less, split.few)

-- a row put together again
module _ (row : Row) (near far : List Value) (parts : near ++ far ≡ row.object.fields) where
  abbrev pub head_of : Bool → Head
  head_of wide = record { refs = row.refs; kind = row.object.kind; sealed = row.object.sealed; wide = wide; near = near }

  pub row-wide : (wide : Bool) (o : Option (List Value)) → wide ≡ true → o ≡ Some far → whole (head_of wide) o ≡ row
  row-wide wide o is there = rw (is, there) (ap (λ (l : List Value). row_of (head_of true) l) parts)

  pub row-narrow : (wide : Bool) (o : Option (List Value)) → wide ≡ false → far ≡ [] → whole (head_of wide) o ≡ row
  row-narrow wide o is none = rw is (ap (λ (l : List Value). row_of (head_of false) l) (ap (λ (l : List Value). near ++ l) (sym none) ∙ parts))

pub nothing : {X : Type 0} (xs : List X) → length xs ≤ 0 → xs ≡ []
nothing [] none = refl
nothing (x ∷ xs) none = absurd (omega (arith, none))

-- an object is taken with what stands aside of it, if anything does
module _ (heads : Rows Head) (tails : Rows (List Value)) (k : Name) where
  abbrev left : Bool → Rows (List Value)
  left wide = if wide then record tails { rows = maps.remove tails.rows k } else tails

  pub joined-taken : (wide : Bool) → joined (maps.remove heads.rows k) (left wide).rows ≡ maps.remove (joined heads.rows tails.rows) k
  joined-taken true = joined-removed heads.rows tails.rows k (maps.remove tails.rows k) (same_removed tails.rows k)
  joined-taken false = joined-removed heads.rows tails.rows k tails.rows (same_all tails.rows k)

  pub stored-taken : (wide : Bool) → IsStored heads tails → ((far : List Value) → maps.get tails.rows k ≡ Some far → wide ≡ true)
      → IsStored (record { rows = maps.remove heads.rows k; room = heads.room }) (left wide)
  stored-taken true stored wide = stored-removed heads tails stored k (maps.remove tails.rows k) (same_removed tails.rows k) (gone tails.rows k)
  stored-taken false stored wide = stored-removed heads tails stored k tails.rows (same_all tails.rows k) (nothing_there (maps.get tails.rows k) wide)
    where
      nothing_there : (o : Option (List Value)) → ((far : List Value) → o ≡ Some far → false ≡ true) → o ≡ None
      nothing_there None only = refl
      nothing_there (Some far) only = absurd (subst T (sym (only far refl)) tt)
