-- The plain code of a module is a code of it, and the jumps of its codes land.
use Rattle.std.proofs.Common.{◌≡◌, ℕ, zero, suc, ◌<◌, List, length, refl, sym, ap, subst, ◌∙◌, Some, Option, arith, inl, inr, slice_get, add-one}
use Rattle.std.specs.Option.{option_map}
use Rattle.std.proofs.lemmas.List.{length-map}
use Rattle.std.proofs.lemmas.Option.{slice_get-map, slice_get_within}
use Rattle.dl_lemmas.proofs.Places.{one_at}
use Rattle.dl_ir.specs.declared.modules.OpDecl.{OpDecl}
use Rattle.dl_instr.specs.declared.steps.Step.{Step}
use Rattle.dl_instr.specs.declared.steps.Step.TheVariants.{Read, Want, Set, Drop, Make, Eval, Write, Emit, Test, Jump, Give}
use Rattle.dl_instr.specs.Code.{op_code}
use Rattle.dl_instr.specs.Drops.{IsWithDrops, front, moved}
use Rattle.dl_instr.specs.Jumps.{JumpsLand, jump_of}
use Rattle.dl_instr.specs.DropsLaws.{PlainIsCode}
use Rattle.dl_instr.proofs.Rising.{front_below}
use Rattle.dl_instr.proofs.Moved.{jump_back}

-- where each step stays at its place
abbrev same : ℕ → ℕ
same i = i

same_front : (i : ℕ) → front same i ≡ i
same_front zero = refl
same_front (suc i) = add-one i

unmoved : (step : Step) → moved (front same) step ≡ step
unmoved (Read q f) = refl
unmoved Want = refl
unmoved (Set p from) = refl
unmoved (Drop p) = refl
unmoved (Make kind) = refl
unmoved (Eval value) = refl
unmoved (Write q f content) = refl
unmoved Emit = refl
unmoved (Test c is_turn place) = ap (Test c is_turn) (same_front place)
unmoved (Jump place) = ap Jump (same_front place)
unmoved (Give value) = refl

-- steps are those steps with none added
pub with_none : (op : OpDecl) (plain : List Step) → IsWithDrops op plain plain
with_none op plain = record {
  at = same;
  rises = λ i h. omega arith;
  kept = λ i step is. is ∙ ap Some (sym (unmoved step));
  ends = sym (same_front (length plain));
  added = λ y h. inl (record { 0 = y; 1 = h; 2 = refl });
}

one_op : (op_is : Option OpDecl) (op : OpDecl) (steps : List Step) → op_is ≡ Some op → option_map op_code op_is ≡ Some steps → op_code op ≡ steps
one_op op_is op steps is there = cc

pub plain_is_code : PlainIsCode
plain_is_code source = record {
  same_source = refl;
  one_each = length-map source.ops op_code;
  ops = λ i op steps is there.
      let made : op_code op ≡ steps = one_op (slice_get source.ops i) op steps is (sym (slice_get-map op_code source.ops i) ∙ there) in
      subst (λ (s : List Step). IsWithDrops op (op_code op) s) made (with_none op (op_code op));
}

module _ (op : OpDecl) (plain steps : List Step) (w : IsWithDrops op plain steps) (lands : JumpsLand plain) where
  -- a jump comes from a plain jump
  pub from_plain : (y z : ℕ) (step : Step) → slice_get steps y ≡ Some step → jump_of step ≡ Some z
      → (i : ℕ) × (t : ℕ) × (s : Step) × (slice_get plain i ≡ Some s) × (jump_of s ≡ Some t) × (t < length plain) × (front w.at t ≡ z) × (w.at i ≡ y)
  from_plain y z step there jumps = elim (w.added y (slice_get_within steps y step there)) [
    | inl (i, h, same) ↦
        let s = one_at plain i h in
        let stands = w.kept i s.0 s.1 in
        let is : moved (front w.at) s.0 ≡ step = cc in
        let back = jump_back (front w.at) s.0 z (ap jump_of is ∙ jumps) in
        (i, back.0, s.0, s.1, back.1, lands i back.0 s.0 s.1 back.1, back.2, same)
    | inr added ↦
        let is : Drop added.local ≡ step = let a = added.is_drop in cc in
        let none = sym (ap jump_of is) in
        absurd cc
  ]

  pub codes_land : JumpsLand steps
  codes_land y z step there jumps =
      let from = from_plain y z step there jumps in
      let below = front_below w.at (length plain) from.1 w.rises from.5 in
      omega (arith, below, from.6, w.ends)
