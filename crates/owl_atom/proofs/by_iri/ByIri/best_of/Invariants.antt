use Rattle.std.proofs.Common.{List, take}
use Rattle.owl_atom.specs.declared.prefixes.Prefix.{Prefix}
use Rattle.owl_atom.specs.ByIri.{IsIndex, sized}
use Rattle.owl_atom.specs.Places.{IsBest}
use Rattle.owl_atom.specs.Prefixes.{AreAscending}
use Rattle.owl_atom.proofs.by_iri.ByIri.best_of.Given as goal

abbrev pub invariant-loop-length : goal.invariant-loop-length
invariant-loop-length l = (held : List Prefix) → AreAscending held → IsIndex held l.self → IsBest held (sized (take l.length-index l.self.lengths.items)) l.iri l.best
