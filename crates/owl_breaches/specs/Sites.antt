-- Where a rule of a profile may be broken: in the header of each ontology of an import closure, and in each of its axioms.
use Rattle.std.specs.Prelude.{ℕ, suc, List, [], ◌∷◌, ◌++◌, map}
use Rattle.std.specs.List.{flat_map}
use Rattle.owl_doc.specs.Parts.{Part, parts_of}
use Rattle.owl_kind.specs.Kinds.{Entity}
use Rattle.owl_tree.specs.Ontologies.{Ontology}
use Rattle.owl_tree.specs.Trees.{Tree}

-- the ontologies of an import closure, and what they declare together (Structural Specification, sections 3.4 and 5.8)
pub record Ontologies : Type 0 where
  pub all : List Ontology
  pub kinds : List Entity

-- the axiom closure (section 3.4)
abbrev pub axiom_closure : Ontologies → List Tree
axiom_closure closure = flat_map (λ (o : Ontology). o.axioms) closure.all

-- a rule, and a part of the ontology in this place
pub record Site (Rule : Type 0) : Type 0 where
  pub rule : Rule
  pub place : ℕ
  pub ontology : Ontology
  pub part : Part

module _ {Rule : Type 0} where
  abbrev pub site : Rule → ℕ → Ontology → Part → Site Rule
  site rule place o part = record { rule = rule; place = place; ontology = o; part = part }

  -- the rule with each part of the ontologies, of which the first stands in this place
  abbrev pub sites_from : Rule → ℕ → List Ontology → List (Site Rule)
  sites_from rule place [] = []
  sites_from rule place (o ∷ os) = map (site rule place o) (parts_of o) ++ sites_from rule (suc place) os

  -- each rule with each part: rule by rule, ontology by ontology, the header before the axioms in canonical order
  abbrev pub sites : List Rule → List Ontology → List (Site Rule)
  sites rules os = flat_map (λ rule. sites_from rule 0 os) rules
