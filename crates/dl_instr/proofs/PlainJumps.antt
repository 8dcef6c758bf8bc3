-- The jumps of plain code land.
use Rattle.std.proofs.Common.{◌≡◌, ℕ, zero, suc, ◌+◌, ◌≤◌, pos, true, false, List, [], ◌∷◌, ◌++◌, length, map, refl, sym, ap, subst, ◌∙◌, Some, None, arith, slice_get, All, slice_index_or, length-append}
use Rattle.std.proofs.lemmas.List.Elements.{All-map}
use Rattle.dl_ir.specs.declared.modules.Module.{Module}
use Rattle.dl_ir.specs.declared.expressions.Cond.{Cond}
use Rattle.dl_ir.specs.declared.expressions.Expr.TheVariants.{Num}
use Rattle.dl_ir.specs.declared.modules.OpDecl.{OpDecl}
use Rattle.dl_ir.specs.declared.statements.Stmt.{Stmt, Stmt-F, roll-Stmt}
use Rattle.dl_ir.specs.declared.statements.Stmt.TheFolds.{fold-roll-Stmt, map-Stmt, ind-Stmt}
use Rattle.dl_instr.specs.declared.steps.Step.{Step}
use Rattle.dl_instr.specs.declared.steps.Step.TheVariants.{Test, Jump, Give}
use Rattle.dl_instr.specs.Code.{Placed, stmt_code, block_code, op_code, steps_of, in_row, if_code, if_else_code, while_code, code}
use Rattle.dl_instr.specs.Jumps.{JumpsLand, jump_of}

-- the jumps of the steps go to places up to a limit
Within : List Step → ℕ → Type 0
Within steps limit = (at place : ℕ) (step : Step) → slice_get steps at ≡ Some step → jump_of step ≡ Some place → place ≤ limit

-- the jumps of a part stay within it, or go behind it
Lands : Placed → Type 0
Lands part = (first : ℕ) → Within (part first) (first + length (part first))

none_within : (limit : ℕ) → Within [] limit
unfolding Within
none_within limit at place step is jumps = cc

with_first : (s : Step) (ss : List Step) (limit : ℕ) → ((place : ℕ) → jump_of s ≡ Some place → place ≤ limit) → Within ss limit → Within (s ∷ ss) limit
unfolding Within
with_first s ss limit here rest zero place step is jumps = here place (let same : s ≡ step = cc in ap jump_of same ∙ jumps)
with_first s ss limit here rest (suc at) place step is jumps = rest at place step is jumps

in_both : (xs ys : List Step) (limit : ℕ) → Within xs limit → Within ys limit → Within (xs ++ ys) limit
unfolding Within
in_both [] ys limit a b = b
in_both (x ∷ xs) ys limit a b = with_first x (xs ++ ys) limit (λ place is. a 0 place x refl is) (in_both xs ys limit (λ at place step is jumps. a (suc at) place step is jumps) b)

up_to : (xs : List Step) (limit more : ℕ) → limit ≤ more → Within xs limit → Within xs more
unfolding Within
up_to xs limit more le a at place step is jumps = let below = a at place step is jumps in omega (arith, below, le)

row_lands : (part : Placed) (rest : List Placed) → Lands part → Lands (in_row rest) → Lands (in_row (part ∷ rest))
unfolding Lands
row_lands part rest a b first =
    let n = length (part first) in
    let all = length-append (part first) (in_row rest (first + n)) in
    in_both (part first) (in_row rest (first + n)) (first + length (part first ++ in_row rest (first + n)))
    (up_to (part first) (first + n) (first + length (part first ++ in_row rest (first + n))) (omega (arith, all)) (a first))
    (up_to (in_row rest (first + n)) (first + n + length (in_row rest (first + n))) (first + length (part first ++ in_row rest (first + n))) (omega (arith, all)) (b (first + n)))

no_row : Lands (in_row [])
unfolding Lands
no_row first = none_within (first + length {A = Step} [])

if_lands : (c : Cond) (block : Placed) → Lands block → Lands (if_code c block)
unfolding Lands
if_lands c block a first =
    let limit = first + length (if_code c block first) in
    with_first (Test c false (first + 1 + length (block (first + 1)))) (block (first + 1)) limit
    (λ place is. let same : first + 1 + length (block (first + 1)) ≡ place = cc in omega (arith, same))
    (up_to (block (first + 1)) (first + 1 + length (block (first + 1))) limit (omega arith) (a (first + 1)))

if_else_lands : (c : Cond) (block other : Placed) → Lands block → Lands other → Lands (if_else_code c block other)
unfolding Lands
if_else_lands c block other a b first =
    let limit = first + length (if_else_code c block other first) in
    let second = first + 1 + length (block (first + 1)) + 1 in
    let jump = Jump (second + length (other second)) in
    let all = length-append (block (first + 1)) (jump ∷ other second) in
    with_first (Test c false second) (block (first + 1) ++ jump ∷ other second) limit
    (λ place is. let same : second ≡ place = cc in omega (arith, same, all))
    (in_both (block (first + 1)) (jump ∷ other second) limit
    (up_to (block (first + 1)) (first + 1 + length (block (first + 1))) limit (omega (arith, all)) (a (first + 1)))
    (with_first jump (other second) limit (λ place is. let same : second + length (other second) ≡ place = cc in omega (arith, same, all))
    (up_to (other second) (second + length (other second)) limit (omega (arith, all)) (b second))))

while_lands : (c : Cond) (body : Placed) → Lands body → Lands (while_code c body)
unfolding Lands
while_lands c body a first =
    let limit = first + length (while_code c body first) in
    let end = first + 1 + length (body (first + 1)) + 1 in
    let back : List Step = Jump first ∷ [] in
    let all = length-append (body (first + 1)) back in
    with_first (Test c true end) (body (first + 1) ++ back) limit
    (λ place is. let same : end ≡ place = cc in omega (arith, same, all))
    (in_both (body (first + 1)) back limit
    (up_to (body (first + 1)) (first + 1 + length (body (first + 1))) limit (omega (arith, all)) (a (first + 1)))
    (with_first (Jump first) [] limit (λ place is. let same : first ≡ place = cc in omega (arith, same)) (none_within limit)))

-- a step without a jump is within each limit
stays_in : (s : Step) (ss : List Step) (limit : ℕ) → jump_of s ≡ None → Within ss limit → Within (s ∷ ss) limit
stays_in s ss limit none rest = with_first s ss limit (λ place is. absurd (cc)) rest

module _ {E : Type 0} (stmt : E → Stmt) (holds : (e : E) → Lands (stmt_code (stmt e))) where
  rows : (es : List E) → Lands (in_row (map stmt_code (map stmt es)))
  rows [] = no_row
  rows (e ∷ es) = row_lands (stmt_code (stmt e)) (map stmt_code (map stmt es)) (holds e) (rows es)

  layer : (y : Stmt-F E) → Lands (steps_of (map-Stmt Stmt Placed stmt_code (map-Stmt E Stmt stmt y)))
  unfolding Lands
  layer (Stmt-F.SetInt x e) first = stays_in _ _ _ refl (stays_in _ _ _ refl (none_within _))
  layer (Stmt-F.Load x p f) first = stays_in _ _ _ refl (stays_in _ _ _ refl (none_within _))
  layer (Stmt-F.Store p f e) first = stays_in _ _ _ refl (stays_in _ _ _ refl (none_within _))
  layer (Stmt-F.Copy p q) first = stays_in _ _ _ refl (none_within _)
  layer (Stmt-F.Null p) first = stays_in _ _ _ refl (none_within _)
  layer (Stmt-F.Follow p q f) first = stays_in _ _ _ refl (stays_in _ _ _ refl (stays_in _ _ _ refl (none_within _)))
  layer (Stmt-F.New p kind) first = stays_in _ _ _ refl (stays_in _ _ _ refl (none_within _))
  layer (Stmt-F.Link q f p) first = stays_in _ _ _ refl (stays_in _ _ _ refl (stays_in _ _ _ refl (none_within _)))
  layer (Stmt-F.Cut q f) first = stays_in _ _ _ refl (stays_in _ _ _ refl (stays_in _ _ _ refl (none_within _)))
  layer (Stmt-F.If c block []) first = if_lands c (in_row (map stmt_code (map stmt block))) (rows block) first
  layer (Stmt-F.If c block (e ∷ es)) first =
      if_else_lands c (in_row (map stmt_code (map stmt block))) (in_row (map stmt_code (map stmt (e ∷ es)))) (rows block) (rows (e ∷ es)) first
  layer (Stmt-F.While c body) first = while_lands c (in_row (map stmt_code (map stmt body))) (rows body) first
  layer (Stmt-F.Return e) first = stays_in _ _ _ refl (none_within _)
  layer (Stmt-F.Emit e) first = stays_in _ _ _ refl (stays_in _ _ _ refl (none_within _))

  on_layer : (y : Stmt-F E) → Lands (stmt_code (roll-Stmt (map-Stmt E Stmt stmt y)))
  on_layer y = subst Lands (sym (fold-roll-Stmt Placed steps_of (map-Stmt E Stmt stmt y))) (layer y)

stmt_lands : (d : Stmt) → Lands (stmt_code d)
stmt_lands = ind-Stmt (λ d. Lands (stmt_code d)) (λ x y is. subst (λ l. Lands (stmt_code (roll-Stmt l))) is (on_layer (λ e. e.0) (λ e. e.1) y))

block_lands : (block : List Stmt) → Lands (block_code block)
block_lands [] = no_row
block_lands (d ∷ block) = row_lands (stmt_code d) (map stmt_code block) (stmt_lands d) (block_lands block)

pub plain_lands : (op : OpDecl) → JumpsLand (op_code op)
unfolding Within Lands
plain_lands op at place step is jumps =
    let body = block_code op.body 0 in
    let all = length-append body (Give (Num (pos 0)) ∷ []) in
    let within : Within (op_code op) (0 + length body) = in_both body (Give (Num (pos 0)) ∷ []) (0 + length body) (block_lands op.body 0) (stays_in (Give (Num (pos 0))) [] (0 + length body) refl (none_within (0 + length body))) in
    let le = within at place step is jumps in
    omega (arith, le, all)

pub jumps_of_code_land : (source : Module) → All JumpsLand (code source).ops
jumps_of_code_land source = All-map JumpsLand op_code source.ops (λ k d within. plain_lands (slice_index_or source.ops k d))
