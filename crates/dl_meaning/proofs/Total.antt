-- A typed statement has an outcome from each state that fits, and the state after it fits.
use Rattle.std.proofs.Common.{◌≡◌, ℕ, zero, suc, ◌<◌, ◌≤◌, Bool, true, false, List, length, refl, subst, Option, Some, None, Result, Ok, Err, arith, inl, inr}
use Rattle.std.proofs.lemmas.Bool.{cases_lt, cases_eq}
use Rattle.dl_ir.specs.declared.answers.End.{End}
use Rattle.dl_ir.specs.declared.answers.End.TheVariants as ends
use Rattle.dl_ir.specs.declared.answers.Fault.{Fault}
use Rattle.dl_ir.specs.declared.expressions.Cond.{Cond}
use Rattle.dl_ir.specs.declared.modules.Module.{Module}
use Rattle.dl_ir.specs.declared.modules.Ty.{Ty}
use Rattle.dl_ir.specs.declared.modules.Ty.TheVariants as types
use Rattle.dl_ir.specs.declared.names.Value.TheVariants as values
use Rattle.dl_ir.specs.declared.statements.Stmt.{Stmt}
use Rattle.dl_ir.specs.Evaluation.{value_of, holds_of}
use Rattle.dl_ir.specs.Meaning.{Context, State, fault_end, take_turn}
use Rattle.dl_ir.specs.Relation as relation
use Rattle.dl_ir.specs.Relation.{Runs, RunsBlock, Loops, HasField}
use Rattle.dl_meaning.specs.Fitting.{Fits}
use Rattle.dl_ir.specs.Typed as typed
use Rattle.dl_ir.specs.Typed.{IsTyped, IsTypedBlock, FieldsReferToNodes}
use Rattle.dl_meaning.proofs.Kept.{reference_at, at_reference, number_at, target_at, to_local, to_field, by_open, fits_local, fits_turn, fits_emitted, fits_field, fits_new}
use Rattle.dl_meaning.proofs.Turns.{block_turns}

-- an outcome of a statement, a block, a loop, of which the state fits
pub record Reaches (cx : Context) (locals : List Ty) (d : Stmt) (s : State) : Type 0 where
  pub after : State
  pub end : Option End
  pub runs : Runs cx d s after end
  pub fits : Fits cx locals after

pub record ReachesBlock (cx : Context) (locals : List Ty) (block : List Stmt) (s : State) : Type 0 where
  pub after : State
  pub end : Option End
  pub runs : RunsBlock cx block s after end
  pub fits : Fits cx locals after

pub record ReachesLoop (cx : Context) (locals : List Ty) (c : Cond) (body : List Stmt) (s : State) : Type 0 where
  pub after : State
  pub end : Option End
  pub runs : Loops cx c body s after end
  pub fits : Fits cx locals after

-- the operation goes on, or ends where it is
reached : {cx : Context} {locals : List Ty} {d : Stmt} {s t : State} {end : Option End} → Runs cx d s t end → Fits cx locals t → Reaches cx locals d s
reached {t = t} {end = end} runs fits = record { after = t; end = end; runs = runs; fits = fits }

-- a value or a fault
by_value : {P A : Type 0} (v : Result A Fault) → ((x : A) → v ≡ Ok x → P) → ((fault : Fault) → v ≡ Err fault → P) → P
by_value (Ok x) good bad = good x refl
by_value (Err fault) good bad = bad fault refl

-- true or false
by_truth : {P : Type 0} (v : Result Bool Fault) (b : Bool) → v ≡ Ok b → (v ≡ Ok true → P) → (v ≡ Ok false → P) → P
by_truth v true is yes_case no_case = yes_case is
by_truth v false is yes_case no_case = no_case is

-- ended or not
by_end : {P : Type 0} (end : Option End) → (end ≡ None → P) → ((e : End) → end ≡ Some e → P) → P
by_end None on ended = on refl
by_end (Some e) on ended = ended e refl

-- a loop, of which the block has an outcome; n is at least the number of turns left
total_loop : (cx : Context) (locals : List Ty) (c : Cond) (body : List Stmt) → ((s : State) → Fits cx locals s → ReachesBlock cx locals body s)
    → (n : ℕ) (s : State) → s.turns ≤ n → Fits cx locals s → ReachesLoop cx locals c body s
total_loop cx locals c body block zero s enough fits = record { after = s; end = Some ends.Fuel; runs = relation.no_turn (omega arith); fits = fits }
total_loop cx locals c body block (suc n) s enough fits = elim (cases_eq s.turns 0) [
  | inl none ↦ record { after = s; end = Some ends.Fuel; runs = relation.no_turn none; fits = fits }
  | inr not_none ↦
      let some : 0 < s.turns = omega (arith, not_none) in
      by_value (holds_of c s.locals)
      (λ b is. by_truth (holds_of c s.locals) b is
      (λ holds.
      let turn = block (take_turn s) (fits_turn fits) in
      by_end turn.end
      (λ on.
      let runs = subst (λ e. RunsBlock cx body (take_turn s) turn.after e) on turn.runs in
      let rest = total_loop cx locals c body block n turn.after (omega (arith, block_turns turn.runs)) turn.fits in
      record { after = rest.after; end = rest.end; runs = relation.again some holds runs rest.runs; fits = rest.fits })
      (λ e ended. record {
        after = turn.after;
        end = Some e;
        runs = relation.turn_ends some holds (subst (λ o. RunsBlock cx body (take_turn s) turn.after o) ended turn.runs);
        fits = turn.fits;
      }))
      (λ fails. record { after = take_turn s; end = None; runs = relation.test_false some fails; fits = fits_turn fits }))
      (λ fault is. record { after = take_turn s; end = Some (fault_end fault); runs = relation.test_fault some is; fits = fits_turn fits })
]

-- what stays the same while an operation runs
abbrev context : Module → ℕ → ℕ → Context
context source ticket allocs = record { source = source; ticket = ticket; allocs = allocs }

mutual
  pub total : (source : Module) (ticket allocs : ℕ) (locals : List Ty) → FieldsReferToNodes source → {d : Stmt} → IsTyped source locals d → (s : State) → Fits (context source ticket allocs) locals s → Reaches (context source ticket allocs) locals d s
  total source ticket allocs locals nodes (typed.set_int {x} {e} x_is e_is) s fits = by_value (value_of e s.locals)
      (λ n is. reached (relation.set_int is) (fits_local x types.Int (values.Int n) fits x_is tt))
      (λ fault is. reached (relation.set_int_fault is) fits)
  total source ticket allocs locals nodes (typed.load {x} {p} x_is p_is has) s fits = at_reference p fits p_is
      (λ none. reached (relation.load_null none) fits)
      (λ name refers there.
      let field = number_at fits there has in reached (relation.load refers field.has) (fits_local x types.Int (values.Int field.number) fits x_is tt))
  total source ticket allocs locals nodes (typed.store {p} {e = e} p_is has e_is) s fits = by_value (value_of e s.locals)
      (λ n is. at_reference p fits p_is
      (λ none. reached (relation.store_null is none) fits)
      (λ name refers there. let field = number_at fits there has in reached (relation.store is refers field.has) (fits_field (values.Int n) fits there has tt)))
      (λ fault is. reached (relation.store_fault is) fits)
  total source ticket allocs locals nodes (typed.copy {p} {q} {kind} p_is q_is node) s fits =
      let from = reference_at fits q_is in
      reached (relation.copy from.refers) (fits_local p (types.Of kind) (values.Ref from.target) fits p_is from.holds)
  total source ticket allocs locals nodes (typed.null {p} {kind} p_is) s fits = reached relation.null (fits_local p (types.Of kind) (values.Ref None) fits p_is tt)
  total source ticket allocs locals nodes (typed.follow {p} {q} {f} {kind} p_is node q_is has) s fits = at_reference q fits q_is
      (λ none. reached (relation.follow_null none) fits)
      (λ name refers there.
      let field = target_at fits there has in
      by_open s name f kind field.target field.has field.of_type
      (λ passes. reached (relation.follow refers field.has passes) (fits_local p (types.Of kind) (values.Ref field.target) fits p_is (to_local s.objects kind field.target field.of_type)))
      (λ target holds marked. reached (relation.follow_sealed refers holds marked) fits))
  total source ticket allocs locals nodes (typed.new {p} p_is node) s fits = elim (cases_lt s.made allocs) [
    | inl room ↦ reached (relation.new room node.is_there) (fits_new p fits p_is node)
    | inr full ↦ reached (relation.new_quota full) fits
  ]
  total source ticket allocs locals nodes (typed.link {q} {f} {p} {kind} {other} q_is has p_is) s fits = at_reference q fits q_is
      (λ none. reached (relation.link_null none) fits)
      (λ name refers there.
      let field = target_at fits there has in
      by_open s name f kind field.target field.has field.of_type
      (λ passes.
      let to = reference_at fits p_is in
      reached (relation.link refers field.has passes to.refers)
      (fits_field (values.Ref to.target) fits there has (to_field source s.objects kind to.target fits.heap (nodes other f kind has) to.holds)))
      (λ target holds marked. reached (relation.link_sealed refers holds marked) fits))
  total source ticket allocs locals nodes (typed.cut {q} {f} {kind} q_is has) s fits = at_reference q fits q_is
      (λ none. reached (relation.cut_null none) fits)
      (λ name refers there.
      let field = target_at fits there has in
      by_open s name f kind field.target field.has field.of_type
      (λ passes. reached (relation.cut refers field.has passes) (fits_field (values.Ref None) fits there has tt))
      (λ target holds marked. reached (relation.cut_sealed refers holds marked) fits))
  total source ticket allocs locals nodes (typed.choose {c} {first} {second} c_is first_is second_is) s fits = by_value (holds_of c s.locals)
      (λ b is. by_truth (holds_of c s.locals) b is
      (λ holds. let part = total_block source ticket allocs locals nodes first_is s fits in reached (relation.if_true second holds part.runs) part.fits)
      (λ fails. let part = total_block source ticket allocs locals nodes second_is s fits in reached (relation.if_false first fails part.runs) part.fits))
      (λ fault is. reached (relation.if_fault first second is) fits)
  total source ticket allocs locals nodes (typed.while {c} {body} c_is body_is) s fits =
      let loop = total_loop (context source ticket allocs) locals c body (total_block source ticket allocs locals nodes body_is) s.turns s (omega arith) fits in
      reached (relation.while loop.runs) loop.fits
  total source ticket allocs locals nodes (typed.emit {e} e_is) s fits = by_value (value_of e s.locals)
      (λ n is. elim (cases_lt (length s.emitted) 16) [
        | inl room ↦ reached (relation.emit is room) (fits_emitted n fits)
        | inr full ↦ reached (relation.emit_full is full) fits
      ])
      (λ fault is. reached (relation.emit_fault is) fits)
  total source ticket allocs locals nodes (typed.return {e} e_is) s fits = by_value (value_of e s.locals)
      (λ n is. reached (relation.return is) fits)
      (λ fault is. reached (relation.return_fault is) fits)

  pub total_block : (source : Module) (ticket allocs : ℕ) (locals : List Ty) → FieldsReferToNodes source → {block : List Stmt} → IsTypedBlock source locals block → (s : State) → Fits (context source ticket allocs) locals s
      → ReachesBlock (context source ticket allocs) locals block s
  total_block source ticket allocs locals nodes typed.nothing s fits = record { after = s; end = None; runs = relation.done; fits = fits }
  total_block source ticket allocs locals nodes (typed.more {d} {ds} d_is ds_is) s fits =
      let first = total source ticket allocs locals nodes d_is s fits in
      by_end first.end
      (λ on.
      let rest = total_block source ticket allocs locals nodes ds_is first.after first.fits in
      record { after = rest.after; end = rest.end; runs = relation.then (subst (λ e. Runs (context source ticket allocs) d s first.after e) on first.runs) rest.runs; fits = rest.fits })
      (λ e ended. record { after = first.after; end = Some e; runs = relation.ends_at (subst (λ o. Runs (context source ticket allocs) d s first.after o) ended first.runs); fits = first.fits })
