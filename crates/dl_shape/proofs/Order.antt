-- The order in which loose objects are removed does not matter.
use Rattle.std.proofs.Common.{◌≡◌, ℕ, zero, suc, ◌+◌, ◌≤◌, Bool, true, false, cond, ◌&&◌, refl, sym, ap, subst, ◌∙◌, Some, None, arith, inl, inr}
use Rattle.std.specs.Prelude.{find, count_by, nat_lt, ◌==◌, if◌then◌else◌}
use Rattle.std.specs.Option.{option_map}
use Rattle.std.specs.Ordering.{eq_by_cmp}
use Rattle.std.specs.FinMap as map
use Rattle.std.specs.FinMap.{get-remove, same_map, empty_of_len, get-empty}
use Rattle.std.proofs.lemmas.Bool.{ltb-true, lt-ltb, eqb-true}
use Rattle.std.proofs.lemmas.Option.{none-some}
use Rattle.dl_lemmas.proofs.Tests.{not_both}
use Rattle.dl_ir.specs.declared.names.Name.{Name}
use Rattle.dl_ir.specs.declared.objects.Obj.{Obj}
use Rattle.dl_ir.specs.Heap.{Objects, name_cmp}
use Rattle.dl_shape.specs.References.{refs, refers_to}
use Rattle.dl_shape.specs.Settling.{is_loose, first_name, IsLoose, Trims, done, drop, without, trim_by, OrderDoesNotMatter}
use Rattle.dl_ir.proofs.NameOrder.{names_total, exact_names}
use Rattle.dl_ir.proofs.Members.{In, in_entries, get_in, find_some, find_none}
use Rattle.dl_ir.proofs.Totals.{total-remove}
use Rattle.dl_lemmas.proofs.Maps.{same_or_not, turned, len-taken}
use Rattle.dl_shape.proofs.Names.{names}

-- removals change places
swap_cases : {A : Type 0} (a b : Bool) (x y : A) → cond a x (cond b x y) ≡ cond b x (cond a x y)
swap_cases true true x y = refl
swap_cases true false x y = refl
swap_cases false true x y = refl
swap_cases false false x y = refl

pub remove-remove : (h : Objects) (a b : Name) → map.remove (map.remove h a) b ≡ map.remove (map.remove h b) a
remove-remove h a b = same_map names_total exact_names _ _ (λ q.
    get-remove names_total (map.remove h a) b q
    ∙ ap (cond (eq_by_cmp name_cmp q b) None) (get-remove names_total h a q)
    ∙ swap_cases (eq_by_cmp name_cmp q b) (eq_by_cmp name_cmp q a) None (map.get h q)
    ∙ sym (get-remove names_total (map.remove h b) a q ∙ ap (cond (eq_by_cmp name_cmp q a) None) (get-remove names_total h b q)))

-- a loose object stays loose when another is removed
stays_loose : (h : Objects) (m n : Name) → IsLoose h m → IsLoose h n → eq_by_cmp name_cmp n m ≡ false → IsLoose (map.remove h m) n
stays_loose h m n first other differ = record {
  object = other.object;
  there = get-remove names_total h m n ∙ ap (λ b. cond b None (map.get h n)) differ ∙ other.there;
  hidden = other.hidden;
  unsealed = other.unsealed;
  alone = omega (arith, total-remove (λ (e : Name × Obj). count_by (refers_to n) e.1.fields) h m first.object first.there, other.alone);
}

-- a removal may come first
first : {h t : Objects} → Trims h t → (n : Name) → IsLoose h n → Trims (map.remove h n) t
first (done none) n loose = absurd (none n loose)
first (drop {heap} {trimmed} m here rest) n loose = elim (same_or_not names m n) [
  | inl same ↦ subst (λ k. Trims (map.remove heap k) trimmed) same rest
  | inr differ ↦
      let later = first rest n (stays_loose heap m n here loose (turned names m n differ)) in
      drop m (stays_loose heap n m loose here differ) (subst (λ g. Trims g trimmed) (remove-remove heap m n) later)
]

-- all removals end in one heap
pub one_end : {h t u : Objects} → Trims h t → Trims h u → u ≡ t
one_end (done none) (done other) = refl
one_end (done none) (drop n loose rest) = absurd (none n loose)
one_end (drop n loose rest) other = one_end rest (first other n loose)

-- a removal leaves one object fewer
pub len_removed : (h : Objects) (k : Name) (v : Obj) → map.get h k ≡ Some v → map.len (map.remove h k) + 1 ≡ map.len h
len_removed h k v is = sym (len-taken names h k v is)

pub fewer : (h : Objects) (k : Name) (v : Obj) (count : ℕ) → map.get h k ≡ Some v → map.len h ≤ suc count → map.len (map.remove h k) ≤ count
fewer h k v count is few = omega (arith, len_removed h k v is)

loose_parts : (hidden sealed : Bool) (n : ℕ) → ((hidden && (if sealed then false else true)) && (n == 0)) ≡ true → (hidden ≡ true) × (sealed ≡ false) × (n ≡ 0)
loose_parts true true n is = cc
loose_parts true false n is = (refl, refl, eqb-true n 0 is)
loose_parts false sealed n is = cc

-- what passes is loose
is_loose-loose : (h : Objects) (e : Name × Obj) → In e (map.entries h) → is_loose h e ≡ true → IsLoose h e.0
is_loose-loose h e there passes =
    let parts = loose_parts (nat_lt 0 e.0.ticket) e.1.sealed (refs h e.0) passes in
    record { object = e.1; there = get_in h e there; hidden = ltb-true 0 e.0.ticket parts.0; unsealed = parts.1; alone = parts.2 }

-- and what is loose passes
loose-is_loose : (h : Objects) (n : Name) (l : IsLoose h n) → is_loose h (n, l.object) ≡ true
loose-is_loose h n l =
    ap (λ b. (b && (if l.object.sealed then false else true)) && (refs h n == 0)) (lt-ltb 0 n.ticket l.hidden)
    ∙ ap (λ b. (if b then false else true) && (refs h n == 0)) l.unsealed
    ∙ ap (λ k. k == 0) l.alone

-- where no object passes, none is loose
none_loose : (h : Objects) → find (is_loose h) (map.entries h) ≡ None → (n : Name) → IsLoose h n → ⊥
none_loose h none n l = not_both (loose-is_loose h n l) (find_none (is_loose h) (map.entries h) (n, l.object) none (in_entries h n l.object l.there))

-- a heap without objects has no loose one
empty_none : (h : Objects) → map.len h ≡ 0 → (n : Name) → IsLoose h n → ⊥
empty_none h is n l = none-some l.object (sym (get-empty name_cmp n) ∙ ap (λ (g : Objects). map.get g n) (sym (empty_of_len h is)) ∙ l.there)

-- so many removals at most as there are objects trim the heap
pub trims_by : (count : ℕ) (h : Objects) → map.len h ≤ count → Trims h (trim_by count h)
trims_by zero h few = done (empty_none h (omega arith))
trims_by (suc count) h few =
    elim (find (is_loose h) (map.entries h)) as (λ o. find (is_loose h) (map.entries h) ≡ o → Trims h (without (option_map (λ (e : Name × Obj). e.0) o) h (trim_by count))) [
      | None ↦ λ none. done (none_loose h none)
      | Some e ↦ λ found.
          let at = find_some (is_loose h) (map.entries h) e found in
          let loose = is_loose-loose h e at.0 at.1 in
          drop e.0 loose (trims_by count (map.remove h e.0) (fewer h e.0 e.1 count (get_in h e at.0) few))
    ] refl

pub order_does_not_matter : OrderDoesNotMatter
order_does_not_matter h t =
    let trims = trims_by (map.len h) h (omega arith) in
    (λ other. one_end trims other, λ same. subst (Trims h) (sym same) trims)

-- the first name is that of the first entry that passes
pub named : (test : Name × Obj → Bool) (h : Objects) (n : Name) → Some n ≡ first_name test h → (e : Name × Obj) × (find test (map.entries h) ≡ Some e) × (e.0 ≡ n)
named test h n is =
    elim (find test (map.entries h)) as (λ o. find test (map.entries h) ≡ o → Some n ≡ option_map (λ (e : Name × Obj). e.0) o → (e : Name × Obj) × (find test (map.entries h) ≡ Some e) × (e.0 ≡ n)) [
      | None ↦ λ none none_is. cc
      | Some e ↦ λ found found_is. (e, found, cc)
    ] refl is

-- the first loose object is there
pub loose_there : (h : Objects) (n : Name) → Some n ≡ first_name (is_loose h) h → (v : Obj) × (map.get h n ≡ Some v)
loose_there h n is =
    let first = named (is_loose h) h n is in
    (first.0.1, ap (map.get h) (sym first.2) ∙ get_in h first.0 (find_some (is_loose h) (map.entries h) first.0 first.1).0)

-- trimming removes the first loose object, and goes on
pub trim_step : (h : Objects) (n : Name) (count : ℕ) → Some n ≡ first_name (is_loose h) h → map.len h ≤ count
    → (left : ℕ) × (map.len (map.remove h n) ≤ left) × (trim_by left (map.remove h n) ≡ trim_by count h)
trim_step h n zero is few = let there = loose_there h n is in absurd (omega (arith, len_removed h n there.0 there.1))
trim_step h n (suc count) is few =
    let there = loose_there h n is in
    (count, fewer h n there.0 count there.1 few, ap (λ o. without o h (trim_by count)) is)

-- where none is loose, it is done
pub trim_end : (h : Objects) (count : ℕ) → None ≡ first_name (is_loose h) h → h ≡ trim_by count h
trim_end h zero is = refl
trim_end h (suc count) is = ap (λ o. without o h (trim_by count)) is
