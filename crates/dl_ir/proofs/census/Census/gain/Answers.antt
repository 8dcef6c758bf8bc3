use Rattle.std.proofs.Common.{◌≡◌, ◌+◌, ◌-◌, [], ◌∷◌, Some, arith, refl, sym, ap, subst, ◌∙◌}
use Rattle.std.specs.Prelude.{is_some}
use Rattle.std.specs.Option.{option_map}
use Rattle.std.specs.FinMap as map
use Rattle.dl_ir.specs.Counted.{refs_of, counted_by, recounted_row}
use Rattle.dl_ir.specs.Census.{Gains}
use Rattle.dl_ir.proofs.Lookups.{got_put}
use Rattle.dl_ir.proofs.Mapped.{get-with_values}
use Rattle.dl_ir.proofs.CountedEdits.{objects-recounted, counts-recounted, told_count, told_open, told_none, none_changed}
use Rattle.dl_ir.proofs.Filing.{change_of, change_none_of, recounted, there_one}
use Rattle.dl_ir.proofs.census.Census.gain.Goals as goal

pub recount-requires : goal.recount-requires
recount-requires c row is some =
    let few = rw (← c.self.view_is) at c.requires.few in
    few c.in-Some.target row.refs (get-with_values refs_of c.self.inside.rows.rows c.in-Some.target ∙ ap (option_map refs_of) is)

pub overflow_add-before : goal.overflow_add-before
overflow_add-before c =
    let few = rw (← c.self.view_is) at c.requires.few in
    let had = told_count c.self.inside.rows.rows c.in-Some.target c.in-Some-recount.before c.in-Some-recount.sealed c.in-Some-recount.ensures.before in
    omega (arith, few c.in-Some.target c.in-Some-recount.before had)

pub refile-requires-clause-filed : goal.refile-requires-clause-filed
refile-requires-clause-filed c =
    let now = counted_by c.self.inside.rows c.self.inside.loose c.self.inside.shared in
    let rows = c.self.inside.rows.rows in
    let target = c.in-Some.target in
    let before = c.in-Some-recount.before in
    let had = told_count rows target before c.in-Some-recount.sealed c.in-Some-recount.ensures.before in
    rw (c.in-Some-recount.ensures.recounted, objects-recounted rows target 1 0, counts-recounted rows target 1 0 before had) (
    recounted now target (before + 1 - 0) before (rw (← c.self.view_is) at c.requires.filed) had)

pub refile-requires-clause-now : goal.refile-requires-clause-now
refile-requires-clause-now c =
    let rows = c.self.inside.rows.rows in
    let target = c.in-Some.target in
    let before = c.in-Some-recount.before in
    let had = told_count rows target before c.in-Some-recount.sealed c.in-Some-recount.ensures.before in
    let same : before + 1 - 0 ≡ before + 1 = omega arith in
    rw (c.in-Some-recount.ensures.recounted, counts-recounted rows target 1 0 before had) (
    got_put (counted_by c.self.inside.rows c.self.inside.loose c.self.inside.shared).counts.rows target (before + 1 - 0) ∙ ap Some same)

pub refile-requires-clause-opened : goal.refile-requires-clause-opened
refile-requires-clause-opened c =
    let rows = c.self.inside.rows.rows in
    rw (c.in-Some-recount.ensures.recounted, objects-recounted rows c.in-Some.target 1 0) (
    told_open rows c.in-Some.target c.in-Some-recount.before c.in-Some-recount.sealed c.in-Some-recount.ensures.before ∙ sym c.is_open.ensures)

pub returns-in-Some-recount-clause-counts : goal.returns-in-Some-recount-clause-counts
returns-in-Some-recount-clause-counts c =
    let rows = c.self.inside.rows.rows in
    let counts = (counted_by c.self.inside.rows c.self.inside.loose c.self.inside.shared).counts.rows in
    let target = c.in-Some.target in
    let before = c.in-Some-recount.before in
    let had = told_count rows target before c.in-Some-recount.sealed c.in-Some-recount.ensures.before in
    let same : before + 1 ≡ before + 1 - 0 = omega arith in
    rw (c.refile.ensures.counts, c.in-Some-recount.ensures.recounted, counts-recounted rows target 1 0 before had, ← c.self.view_is) (
    subst (λ count. Gains counts (map.insert counts target count) (c.args.value ∷ [])) same (
    change_of (λ count more. count + more) (λ count. omega arith) counts c.args.value target before c.in-Some.ensures had))

pub returns-in-Some-recount-clause-objects : goal.returns-in-Some-recount-clause-objects
returns-in-Some-recount-clause-objects c =
    rw (c.refile.ensures.objects, c.in-Some-recount.ensures.recounted, objects-recounted c.self.inside.rows.rows c.in-Some.target 1 0, ← c.self.view_is) refl

pub returns-in-Some-recount-clause-there : goal.returns-in-Some-recount-clause-there
returns-in-Some-recount-clause-there c there =
    let objects = (counted_by c.self.inside.rows c.self.inside.loose c.self.inside.shared).objects.rows in
    let target = c.in-Some.target in
    let filed = rw (← c.self.view_is) at c.requires.filed in
    let had = told_count c.self.inside.rows.rows target c.in-Some-recount.before c.in-Some-recount.sealed c.in-Some-recount.ensures.before in
    rw (← c.self.view_is) (there_one objects c.args.value target c.in-Some.ensures (sym (filed.each target).counted ∙ ap is_some had))

pub returns-in-None-clause-counts : goal.returns-in-None-clause-counts
returns-in-None-clause-counts c =
    let rows = c.self.inside.rows.rows in
    let target = c.in-Some.target in
    let none = c.in-None.ensures.before in
    rw (← c.self.view_is, c.in-None.ensures.recounted, none_changed rows target (recounted_row 1 0) none) (
    change_none_of (λ count more. count + more) (λ count. omega arith) (counted_by c.self.inside.rows c.self.inside.loose c.self.inside.shared).counts.rows c.args.value target c.in-Some.ensures (told_none rows target none))
