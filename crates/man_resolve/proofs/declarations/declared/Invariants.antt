use Rattle.std.proofs.Common.{take}
use Rattle.std.specs.List.{filter_map}
use Rattle.owl_doc.specs.Entities.{AddsAll}
use Rattle.man_resolve.specs.Items.{frame_entity}
use Rattle.man_resolve.proofs.declarations.declared.Given as goal

abbrev pub invariant-items : goal.invariant-items
invariant-items l = AddsAll l.fn.kinds (filter_map frame_entity (take l.item-index l.item-items)) l.kinds
