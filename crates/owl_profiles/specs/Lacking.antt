-- Marks of the chains that lack a range, among the axioms of some ontologies whose trees stand in one arena.
use Rattle.std.specs.Prelude.{Bool, List, map}
use Rattle.breach_lists.specs.Marks.{MarkAxioms}
use Rattle.breach_lists.specs.Telling.{ontologies_of}
use Rattle.owl_breaches.specs.Sites.{axiom_closure}
use Rattle.owl_doc.specs.Closures.{ImportClosure}
use Rattle.owl_doc.specs.Documents.{ontology_of}
use Rattle.owl_pool.specs.Pooling.{ArePooled, Numbered}
use Rattle.owl_tree.specs.Trees.{Tree}
use Rattle.range_restrictions.specs.Restrictions.{LacksRangeBy}

-- the trees and numbers are those of some closure
pub record AreTold (ts : List Tree) (ns : List Numbered) : Type 0 where
  pub closure : ImportClosure
  pub pooled : ArePooled ts (map ontology_of closure.documents) ns

-- the marks are right for each closure of which they are
pub record MarkLacking (ts : List Tree) (ns : List Numbered) (marks : List Bool) : Type 0 where
  pub told : (closure : ImportClosure) → ArePooled ts (map ontology_of closure.documents) ns → MarkAxioms ts ns (LacksRangeBy (axiom_closure (ontologies_of closure))) marks
