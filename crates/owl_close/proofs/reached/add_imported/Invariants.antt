use Rattle.std.proofs.Common.{take}
use Rattle.owl_close.specs.Imports.{heads_of}
use Rattle.owl_close.specs.Searches.{AddsImported}
use Rattle.owl_close.proofs.reached.add_imported.Given as goal

abbrev pub invariant-imports : goal.invariant-imports
invariant-imports l = AddsImported (heads_of l.heads) (take l.iri-index l.imports) l.fn.places.items l.places.items
