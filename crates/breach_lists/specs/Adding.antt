-- How the list of what breaks rules grows.
use Rattle.std.specs.Prelude.{◌<◌, ℕ, Bool, List, [], ◌∷◌, ◌++◌, Option, None, Some, if◌then◌else◌, length, map, slice_get}
use Rattle.std.specs.List.{AllByRecursion}
use Rattle.owl_breaches.specs.Sites.{Ontologies, Site, site}
use Rattle.owl_breaches.specs.Those.{AddsThose}
use Rattle.owl_doc.specs.declared.item.Breach.{Breach}
use Rattle.owl_doc.specs.declared.item.Item.{Item}
use Rattle.owl_doc.specs.declared.item.Item.TheVariants.{Axiom, Header}
use Rattle.owl_doc.specs.declared.rule.Rule.{Rule as Name}
use Rattle.owl_doc.specs.Documents.{Document}
use Rattle.owl_doc.specs.Parts.{Part, parts_of}
use Rattle.owl_pool.specs.Pooling.{Numbered}
use Rattle.owl_tree.specs.Ontologies.{Ontology}
use Rattle.owl_tree.specs.Trees.{Tree}
use Rattle.breach_lists.specs.Marks.{IsAxiomOf}
use Rattle.breach_lists.specs.Telling.{Tells}

module _ {Rule : Type 0} where
  -- behind what was there stands what tells of those of these that are broken
  abbrev pub AddsSites : (Rule → Name) → (Rule → Ontology → Part → Type 0) → List Document → List (Site Rule) → List Breach → List Breach → Type 0
  AddsSites name Breaks docs these old new = AddsThose (λ s. Breaks s.rule s.ontology s.part) (Tells name docs) these old new

  -- the rule with each part of the ontology in this place
  abbrev pub sites_in : Rule → ℕ → Option Ontology → List (Site Rule)
  sites_in rule place None = []
  sites_in rule place (Some o) = map (site rule place o) (parts_of o)

  abbrev pub sites_at : Ontologies → Rule → ℕ → List (Site Rule)
  sites_at c rule place = sites_in rule place (slice_get c.all place)

-- they are axioms of these documents, among these trees
pub record AreAxiomsOf (ts : List Tree) (ns : List Numbered) (axioms : List ℕ) : Type 0 where
  pub held : AllByRecursion (λ id. id < length ts) axioms
  pub each : AllByRecursion (IsAxiomOf ns) axioms

-- that the part of the document breaks the rule, where it does
abbrev pub breaches_if : Bool → Name → ℕ → Item → List Breach
breaches_if is_broken rule document item = if is_broken then record { rule = rule; document = document; item = item } ∷ [] else []

-- those of the axioms that have a mark
abbrev pub marked_breaches : Name → ℕ → List ℕ → List Bool → List Breach
marked_breaches rule document [] marks = []
marked_breaches rule document (id ∷ ids) [] = []
marked_breaches rule document (id ∷ ids) (mark ∷ marks) = breaches_if mark rule document (Axiom id) ++ marked_breaches rule document ids marks

-- the header, where it breaks the rule, and behind it those of the axioms that have a mark
abbrev pub breaches_of : Name → ℕ → Bool → List ℕ → List Bool → List Breach
breaches_of rule document is_broken ids marks = breaches_if is_broken rule document Header ++ marked_breaches rule document ids marks
