use Rattle.std.proofs.Common.{◌&&◌, ap, sym, ◌∙◌}
use Rattle.std.specs.Prelude.{nat_le, ◌==◌}
use Rattle.std.specs.FinMap as map
use Rattle.dl_ir.specs.Counted.{counted_by}
use Rattle.dl_ir.specs.Census.{open_at, is_none, is_many, with_count}
use Rattle.dl_ir.proofs.Lookups.{got_put}
use Rattle.dl_ir.proofs.Filing.{but_any, counted_there, loose_room, shared_room, refiled_as}
use Rattle.dl_ir.proofs.census.Census.refile.Goals as goal

pub remark-requires-clause-before : goal.remark-requires-clause-before
remark-requires-clause-before c =
    let now = counted_by c.self.inside.rows c.self.inside.loose c.self.inside.shared in
    let filed = rw (← c.self.view_is) at c.requires.filed in
    let opened = rw (← c.self.view_is) at c.requires.opened in
    (filed.each c.args.name).loose
    ∙ ap (λ o. open_at c.args.name (map.get now.objects.rows c.args.name) && is_none o) (got_put now.counts.rows c.args.name c.args.before)
    ∙ ap (λ b. b && (c.args.before == 0)) opened

pub remark-requires-clause-room : goal.remark-requires-clause-room
remark-requires-clause-room c =
    let now = counted_by c.self.inside.rows c.self.inside.loose c.self.inside.shared in
    let filed = rw (← c.self.view_is) at c.requires.filed in
    let old = with_count c.args.name c.args.before now in
    loose_room old c.args.name (but_any old c.args.name filed) (counted_there now c.args.name c.args.before filed)

pub remark-requires-2-clause-before : goal.remark-requires-2-clause-before
remark-requires-2-clause-before c =
    let now = counted_by c.self.inside.rows c.self.inside.loose c.self.inside.shared in
    let filed = rw (← c.self.view_is) at c.requires.filed in
    let opened = rw (← c.self.view_is) at c.requires.opened in
    (filed.each c.args.name).shared
    ∙ ap (λ o. open_at c.args.name (map.get now.objects.rows c.args.name) && is_many o) (got_put now.counts.rows c.args.name c.args.before)
    ∙ ap (λ b. b && nat_le 2 c.args.before) opened

pub remark-requires-2-clause-room : goal.remark-requires-2-clause-room
remark-requires-2-clause-room c =
    let now = counted_by c.self.inside.rows c.self.inside.loose c.self.inside.shared in
    let filed = rw (← c.self.view_is) at c.requires.filed in
    let old = with_count c.args.name c.args.before now in
    shared_room old c.args.name (but_any old c.args.name filed) (counted_there now c.args.name c.args.before filed)

pub returns-clause-filed : goal.returns-clause-filed
returns-clause-filed c =
    let now = counted_by c.self.inside.rows c.self.inside.loose c.self.inside.shared in
    let filed = rw (← c.self.view_is) at c.requires.filed in
    let opened = sym (rw (← c.self.view_is) at c.requires.opened) in
    refiled_as now c.args.name c.args.before c.args.count c.remark.new.names c.remark-2.new.names filed (rw (← c.self.view_is) at c.requires.now)
    (c.remark.ensures.here ∙ ap (λ b. b && (c.args.count == 0)) opened) c.remark.ensures.beside c.remark.ensures.room
    (c.remark-2.ensures.here ∙ ap (λ b. b && nat_le 2 c.args.count) opened) c.remark-2.ensures.beside c.remark-2.ensures.room
