-- what a statement does, by its kind
use Rattle.std.proofs.Common.{◌≡◌, ap, ◌∙◌}
use Rattle.dl_ir.specs.declared.statements.Stmt.{Stmt, Stmt-F, out-Stmt}
use Rattle.dl_ir.specs.declared.statements.Stmt.TheFolds.{fold_out-Stmt, map-Stmt}
use Rattle.dl_ir.specs.Meaning.{Context, State, Does, does, step}

pub one_level : (cx : Context) (s : State) (d : Stmt) (l : Stmt-F Stmt) → out-Stmt d ≡ l → does cx d s ≡ step cx (map-Stmt Stmt Does (does cx) l) s
one_level cx s d l e = ap (λ (r : Does). r s) (fold_out-Stmt Does (step cx) d) ∙ ap (λ (m : Stmt-F Stmt). step cx (map-Stmt Stmt Does (does cx) m) s) e
