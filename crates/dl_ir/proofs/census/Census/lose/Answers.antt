use Rattle.std.proofs.Common.{◌≡◌, ◌+◌, ◌-◌, [], ◌∷◌, Some, arith, refl, sym, ap, subst, ◌∙◌}
use Rattle.std.specs.FinMap as map
use Rattle.dl_ir.specs.Counted.{counted_by, recounted_row}
use Rattle.dl_ir.specs.Census.{Loses}
use Rattle.dl_ir.proofs.Lookups.{got_put}
use Rattle.dl_ir.proofs.CountedEdits.{objects-recounted, counts-recounted, told_count, told_open, told_none, none_changed}
use Rattle.dl_ir.proofs.Filing.{change_of, change_none_of, recounted}
use Rattle.dl_ir.proofs.census.Census.lose.Goals as goal

pub refile-requires-clause-filed : goal.refile-requires-clause-filed
refile-requires-clause-filed c =
    let now = counted_by c.self.inside.rows c.self.inside.loose c.self.inside.shared in
    let rows = c.self.inside.rows.rows in
    let target = c.in-Some.target in
    let before = c.in-Some-recount.before in
    let had = told_count rows target before c.in-Some-recount.sealed c.in-Some-recount.ensures.before in
    rw (c.in-Some-recount.ensures.recounted, objects-recounted rows target 0 1, counts-recounted rows target 0 1 before had) (
    recounted now target (before + 0 - 1) before (rw (← c.self.view_is) at c.requires.filed) had)

pub refile-requires-clause-now : goal.refile-requires-clause-now
refile-requires-clause-now c =
    let rows = c.self.inside.rows.rows in
    let target = c.in-Some.target in
    let before = c.in-Some-recount.before in
    let had = told_count rows target before c.in-Some-recount.sealed c.in-Some-recount.ensures.before in
    let same : before + 0 - 1 ≡ before - 1 = omega arith in
    rw (c.saturating_sub.ensures, c.in-Some-recount.ensures.recounted, counts-recounted rows target 0 1 before had) (
    got_put (counted_by c.self.inside.rows c.self.inside.loose c.self.inside.shared).counts.rows target (before + 0 - 1) ∙ ap Some same)

pub refile-requires-clause-opened : goal.refile-requires-clause-opened
refile-requires-clause-opened c =
    let rows = c.self.inside.rows.rows in
    rw (c.in-Some-recount.ensures.recounted, objects-recounted rows c.in-Some.target 0 1) (
    told_open rows c.in-Some.target c.in-Some-recount.before c.in-Some-recount.sealed c.in-Some-recount.ensures.before ∙ sym c.is_open.ensures)

pub returns-in-Some-recount-clause-counts : goal.returns-in-Some-recount-clause-counts
returns-in-Some-recount-clause-counts c =
    let rows = c.self.inside.rows.rows in
    let counts = (counted_by c.self.inside.rows c.self.inside.loose c.self.inside.shared).counts.rows in
    let target = c.in-Some.target in
    let before = c.in-Some-recount.before in
    let had = told_count rows target before c.in-Some-recount.sealed c.in-Some-recount.ensures.before in
    let same : before - 1 ≡ before + 0 - 1 = omega arith in
    rw (c.refile.ensures.counts, c.in-Some-recount.ensures.recounted, counts-recounted rows target 0 1 before had, ← c.self.view_is) (
    subst (λ count. Loses counts (map.insert counts target count) (c.args.value ∷ [])) same (
    change_of (λ count fewer. count - fewer) (λ count. omega arith) counts c.args.value target before c.in-Some.ensures had))

pub returns-in-Some-recount-clause-objects : goal.returns-in-Some-recount-clause-objects
returns-in-Some-recount-clause-objects c =
    rw (c.refile.ensures.objects, c.in-Some-recount.ensures.recounted, objects-recounted c.self.inside.rows.rows c.in-Some.target 0 1, ← c.self.view_is) refl

pub returns-in_default-recount-clause-counts : goal.returns-in_default-recount-clause-counts
returns-in_default-recount-clause-counts c =
    let rows = c.self.inside.rows.rows in
    let target = c.in-Some.target in
    let none = c.in_default-recount.ensures.before in
    rw (← c.self.view_is, c.in_default-recount.ensures.recounted, none_changed rows target (recounted_row 0 1) none) (
    change_none_of (λ count fewer. count - fewer) (λ count. omega arith) (counted_by c.self.inside.rows c.self.inside.loose c.self.inside.shared).counts.rows c.args.value target c.in-Some.ensures (told_none rows target none))
