-- Definitions of datatypes (Structural Specification, sections 9.4 and 11.2).
use Rattle.std.specs.Prelude.{◌≡◌, ℕ, Bool, true, false, ◌||◌, List, [], ◌∷◌, map, Contains, Option, None, codes}
use Rattle.std.specs.List.{filter_map, flat_map}
use Rattle.std.specs.Option.{option_map}
use Rattle.graph_walks.specs.Walks.{Walks}
use Rattle.owl_breaches.specs.Those.{HoldsOfOne}
use Rattle.owl_characters.specs.Order.{text_eq}
use Rattle.owl_doc.specs.Counts.{subtrees}
use Rattle.owl_tree.specs.declared.tag.Tag.{Tag}
use Rattle.owl_tree.specs.declared.tag.Tag.TheVariants as tag
use Rattle.owl_tree.specs.Trees.{Tree, tag_of}
use Rattle.rdf_terms.specs.Datatypes.{is_in_map}
use Rattle.rdf_terms.specs.Vocabulary.{is_reserved, rdfs}
use Rattle.dl_rules.specs.Logical.{iri_in, operands}

pub record Definition : Type 0 where
  pub datatype : List ℕ
  pub range : Tree

unfoldable pub definition_over : Tag → List Tree → Option Definition
definition_over tag.DatatypeDefinition (t ∷ range ∷ []) = option_map (λ iri. record { datatype = iri; range = range }) (iri_in t)
definition_over _ ts = None

abbrev pub definition_of : Tree → Option Definition
definition_of t = definition_over (tag_of t) (operands t)

-- definitions that differ in annotations are one
abbrev pub definitions : List Tree → List Definition
definitions axioms = filter_map definition_of axioms

-- the datatype that a leaf names
unfoldable pub datatype_over : Tag → Option (List ℕ) → Option (List ℕ)
datatype_over tag.Datatype iri = iri
datatype_over _ iri = None

abbrev pub datatype_in : Tree → Option (List ℕ)
datatype_in t = datatype_over (tag_of t) (iri_in t)

-- the datatypes that a definition uses; those of literals are none of them
abbrev pub used_by : Definition → List (List ℕ)
used_by d = filter_map datatype_in (subtrees d.range)

-- from the datatype that is defined to those that it is defined by
abbrev pub uses_of : Definition → List (List ℕ × List ℕ)
uses_of d = map (λ used. (d.datatype, used)) (used_by d)

abbrev pub uses : List Tree → List (List ℕ × List ℕ)
uses axioms = flat_map uses_of (definitions axioms)

-- a datatype that it uses is defined, in however many steps, by what it defines
abbrev pub IsCyclic : List Tree → Definition → Type 0
IsCyclic axioms d = HoldsOfOne (λ used. Walks (uses axioms) used d.datatype) (used_by d)

-- a strict partial order, in which what a definition uses is below what it defines
pub record IsDatatypeOrder (axioms : List Tree) (order : List (List ℕ × List ℕ)) : Type 0 where
  pub irreflexive : (d : List ℕ) → Contains order (d, d) → ⊥
  pub passes_on : (d e f : List ℕ) → Contains order (d, e) → Contains order (e, f) → Contains order (d, f)
  pub defined : (d used : List ℕ) → Contains (uses axioms) (d, used) → Contains order (used, d)

pub record DatatypeOrderExists (axioms : List Tree) : Type 0 where
  pub order : List (List ℕ × List ℕ)
  pub is : IsDatatypeOrder axioms order

-- rdfs:Literal, or one of the datatype map
abbrev pub is_given : List ℕ → Bool
is_given iri = text_eq iri (rdfs (codes "Literal")) || is_in_map iri

-- some axiom defines it so
abbrev pub Defines : List Tree → List ℕ → Tree → Type 0
Defines axioms iri range = Contains (definitions axioms) (record { datatype = iri; range = range })

-- it has one definition
pub record IsDefinedOnce (axioms : List Tree) (iri : List ℕ) : Type 0 where
  pub range : Tree
  pub defined : Defines axioms iri range
  pub once : (other : Tree) → Defines axioms iri other → other ≡ range

-- a datatype that may not be used: it is given and defined, or neither, or defined more than once, or reserved for something else
pub data IsMisusedDatatype (axioms : List Tree) (iri : List ℕ) : Type 0 where
  redefined : (range : Tree) → is_given iri ≡ true → Defines axioms iri range → IsMisusedDatatype axioms iri
  reserved : is_given iri ≡ false → is_reserved iri ≡ true → IsMisusedDatatype axioms iri
  undefined : is_given iri ≡ false → (IsDefinedOnce axioms iri → ⊥) → IsMisusedDatatype axioms iri
