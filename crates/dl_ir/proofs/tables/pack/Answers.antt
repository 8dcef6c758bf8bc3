use Rattle.std.proofs.Common.{◌≡◌, ap, length, rules, ◌∙◌}
use Rattle.std.specs.List.{filter}
use Rattle.std.specs.FinMap as map
use Rattle.std.proofs.lemmas.List.Elements.{filter_from_retain}
use Rattle.dl_ir.specs.Heap.{name_cmp}
use Rattle.dl_ir.specs.Places.{present}
use Rattle.dl_ir.proofs.SortedEntries.{yes, holds}
use Rattle.dl_ir.proofs.Present.{has_value, sorted_filter, packed}
use Rattle.dl_ir.proofs.tables.pack.Goals as goal

pub returns-clause-same : goal.returns-clause-same
returns-clause-same g c =
    let left : c.retain.new.self.items ≡ filter has_value c.args.entries.now.items = filter_from_retain _ has_value (λ p x b q called. search rules) _ _ _ c.retain.ensures.filtered in
    ap present left ∙ (packed c.args.entries.now.items).0

pub returns-clause-short : goal.returns-clause-short
returns-clause-short g c =
    let left : c.retain.new.self.items ≡ filter has_value c.args.entries.now.items = filter_from_retain _ has_value (λ p x b q called. search rules) _ _ _ c.retain.ensures.filtered in
    ap length left ∙ (packed c.args.entries.now.items).1

pub returns-clause-sorted : goal.returns-clause-sorted
returns-clause-sorted g c sorted =
    let left : c.retain.new.self.items ≡ filter has_value c.args.entries.now.items = filter_from_retain _ has_value (λ p x b q called. search rules) _ _ _ c.retain.ensures.filtered in
    ap (map.is_sorted name_cmp) left ∙ yes _ (sorted_filter has_value c.args.entries.now.items (holds _ sorted))
