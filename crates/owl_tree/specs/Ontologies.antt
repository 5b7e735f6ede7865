-- Ontologies (Structural Specification, section 3).
use Rattle.std.specs.Prelude.{◌≡◌, ℕ, ◌+◌, IfSome, IsTrue, List, map, Contains, Option}
use Rattle.std.specs.List.{AllByRecursion, sum_by}
use Rattle.owl_list.specs.Ascending.{ascending, HoldSame}
use Rattle.owl_characters.specs.Iri.{IsIri}
use Rattle.owl_characters.specs.Order.{text_cmp}
use Rattle.owl_tree.specs.declared.tag.Tag.TheVariants as tag
use Rattle.owl_tree.specs.Canonical.{canonical}
use Rattle.owl_tree.specs.Equivalence.{IsEquivalent}
use Rattle.owl_tree.specs.Order.{tree_cmp}
use Rattle.owl_tree.specs.Shape.{IsShaped}
use Rattle.owl_tree.specs.Tags.{is_axiom}
use Rattle.owl_tree.specs.Trees.{Tree, tag_of, weight}

-- the ontology IRI, and beside it perhaps a version IRI (section 3.1)
pub record OntologyName : Type 0 where
  pub iri : List ℕ
  pub version : Option (List ℕ)

-- how an ontology is called, and the set of what it imports (sections 3.1 and 3.4)
pub record Head : Type 0 where
  pub name : Option OntologyName
  pub imports : List (List ℕ)

-- a head, and sets of annotations and axioms
pub record Ontology : Type 0 where
  pub head : Head
  pub annotations : List Tree
  pub axioms : List Tree

pub record IsName (name : OntologyName) : Type 0 where
  pub iri : IsIri name.iri
  pub version : IfSome name.version IsIri

pub record IsHead (h : Head) : Type 0 where
  pub name : IfSome h.name IsName
  pub imports : AllByRecursion IsIri h.imports

pub record IsAnnotation (t : Tree) : Type 0 where
  pub tag : tag_of t ≡ tag.Annotation
  pub shaped : IsShaped t

pub record IsAxiom (t : Tree) : Type 0 where
  pub tag : IsTrue (is_axiom (tag_of t))
  pub shaped : IsShaped t

pub record IsOntology (o : Ontology) : Type 0 where
  pub head : IsHead o.head
  pub annotations : AllByRecursion IsAnnotation o.annotations
  pub axioms : AllByRecursion IsAxiom o.axioms

-- each tree of the one is equivalent to some tree of the other
abbrev pub AreAmong : List Tree → List Tree → Type 0
AreAmong ts us = (t : Tree) → Contains ts t → (u : Tree) × Contains us u × IsEquivalent t u

pub record HoldEquivalent (ts us : List Tree) : Type 0 where
  pub there : AreAmong ts us
  pub back : AreAmong us ts

pub record IsSameHead (a b : Head) : Type 0 where
  pub name : a.name ≡ b.name
  pub imports : HoldSame a.imports b.imports

-- structural equivalence of ontologies (section 2.1)
pub record IsSameOntology (o p : Ontology) : Type 0 where
  pub head : IsSameHead o.head p.head
  pub annotations : HoldEquivalent o.annotations p.annotations
  pub axioms : HoldEquivalent o.axioms p.axioms

-- the canonical forms, each once, in ascending order
abbrev pub canonical_list : List Tree → List Tree
canonical_list ts = ascending tree_cmp (map canonical ts)

abbrev pub canonical_head : Head → Head
canonical_head h = record { name = h.name; imports = ascending text_cmp h.imports }

abbrev pub canonical_ontology : Ontology → Ontology
canonical_ontology o = record { head = canonical_head o.head; annotations = canonical_list o.annotations; axioms = canonical_list o.axioms }

-- equivalent trees weigh once
abbrev pub list_weight : List Tree → ℕ
list_weight ts = sum_by weight (canonical_list ts)

abbrev pub ontology_weight : Ontology → ℕ
ontology_weight o = list_weight o.annotations + list_weight o.axioms
