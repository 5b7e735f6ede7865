-- The entities that trees and ontologies name, and those that they declare (Structural Specification, sections 5.8 and 5.8.1).
use Rattle.std.specs.Prelude.{◌≡◌, ◌<◌, ◌↔◌, ◌⊎◌, ℕ, Bool, ◌&&◌, not, List, [], ◌∷◌, ◌++◌, Contains, Option, None, Some, length}
use Rattle.std.specs.List.{AllByRecursion, cons_option, filter_map}
use denote.Ref.{Bor}
use Rattle.owl_kind.specs.declared.kind.Kind.{Kind}
use Rattle.owl_kind.specs.declared.kind.Kind.TheVariants.{Class, Datatype, ObjectProperty, DataProperty, AnnotationProperty, Individual}
use Rattle.owl_kind.specs.Kinds.{Entity, HasKind, IsDeclared, is_built_in}
use Rattle.owl_doc.specs.declared.item.Item.{Item}
use Rattle.owl_doc.specs.declared.item.Item.TheVariants.{Header, Axiom}
use Rattle.owl_doc.specs.Documents.{Document, ontology_of}
use Rattle.owl_arena.specs.Held.{tree_at, trees_at}
use Rattle.owl_tree.specs.declared.atom.Atom.{Atom}
use Rattle.owl_tree.specs.declared.atom.Atom.TheVariants as atom
use Rattle.owl_tree.specs.declared.tag.Tag.{Tag}
use Rattle.owl_tree.specs.declared.tag.Tag.TheVariants as tag
use Rattle.owl_tree.specs.Ontologies.{Ontology}
use Rattle.rdf_terms.specs.Vocabulary.{is_reserved}
use Rattle.owl_tree.specs.Trees.{Tree, Kids, leaf, node, no_kids, kid, kids_in, kids_of, tag_of}

-- as what a leaf with this tag names an IRI, where an IRI has to be declared so
unfoldable pub kind_of : Tag → Option Kind
kind_of tag.Class = Some Class
kind_of tag.Datatype = Some Datatype
kind_of tag.ObjectProperty = Some ObjectProperty
kind_of tag.DataProperty = Some DataProperty
kind_of tag.AnnotationProperty = Some AnnotationProperty
kind_of _ = None

-- as what a declaration with such a leaf declares an IRI: individuals may be declared too
unfoldable pub declared_kind : Tag → Option Kind
declared_kind tag.NamedIndividual = Some Individual
declared_kind t = kind_of t

-- the IRI that a leaf holds, as this kind
abbrev pub entity_of : Option Kind → Atom → Option Entity
entity_of (Some kind) (atom.Iri iri) = Some (record { kind = kind; iri = iri })
entity_of _ _ = None

-- A reserved IRI (section 2.4) means what it is built in as, and nothing else.
abbrev pub is_misused : Kind → List ℕ → Bool
is_misused kind iri = is_reserved iri && not (is_built_in kind iri)

-- the entities in a tree, from left to right
abbrev mutual
  pub entities : Tree → List Entity
  entities (leaf t a) = cons_option (entity_of (kind_of t) a) []
  entities (node t ks) = entities_of ks

  pub entities_of : Kids → List Entity
  entities_of no_kids = []
  entities_of (kid t ks) = entities t ++ entities_of ks

-- the entities of the trees with these numbers
abbrev pub entities_at : List Tree → List ℕ → List Entity
entities_at ts ids = entities_of (kids_of (trees_at ts ids))

-- the entities in a part of a document: in the annotations of the ontology, or in an axiom
abbrev pub entities_in : Document → Item → List Entity
entities_in d Header = entities_of (kids_of (ontology_of d).annotations)
entities_in d (Axiom id) = entities (tree_at d.arena.trees id)

-- the document has the part
abbrev pub IsHeldItem : Document → Item → Type 0
IsHeldItem d Header = Unit {0}
IsHeldItem d (Axiom id) = id < length d.arena.trees

-- each is declared or built in
abbrev pub AreWellTyped : List Entity → List Entity → Type 0
AreWellTyped kinds es = AllByRecursion (λ e. HasKind kinds e.kind e.iri) es

-- the first of these that is neither declared nor built in
pub record IsFirstUndeclared (kinds es : List Entity) (e : Entity) : Type 0 where
  pub before : List Entity
  pub after : List Entity
  pub parts : es ≡ before ++ e ∷ after
  pub well_typed : AreWellTyped kinds before
  pub undeclared : HasKind kinds e.kind e.iri → ⊥

-- the entity that the code has
abbrev pub entity_seen : Kind × Bor (List ℕ) → Entity
entity_seen e = record { kind = e.0; iri = e.1.now }

-- what a search for the first of them finds
abbrev pub FindsUndeclared : List Entity → List Entity → Option (Kind × Bor (List ℕ)) → Type 0
FindsUndeclared kinds es None = AreWellTyped kinds es
FindsUndeclared kinds es (Some e) = IsFirstUndeclared kinds es (entity_seen e)

-- the entity that a tree with this tag and these kids declares; the first kid is its annotations
abbrev pub declared_over : Tag → List Tree → Option Entity
declared_over tag.Declaration (notes ∷ leaf t a ∷ []) = entity_of (declared_kind t) a
declared_over _ _ = None

abbrev pub declaration : Tree → Option Entity
declaration t = declared_over (tag_of t) (kids_in t)

abbrev pub declarations : List Tree → List Entity
declarations ts = filter_map declaration ts

-- what the axioms of the ontology declare
abbrev pub declared_in : Ontology → List Entity
declared_in o = declarations o.axioms

-- an axiom of the ontology declares the IRI as this kind
abbrev pub Declares : Ontology → Kind → List ℕ → Type 0
Declares o kind iri = IsDeclared (declared_in o) kind iri

-- some of the ontologies declares it
abbrev pub IsDeclaredIn : List Ontology → Kind → List ℕ → Type 0
IsDeclaredIn os kind iri = (o : Ontology) × Contains os o × Declares o kind iri

-- what is declared is what these ontologies declare
abbrev pub AreKindsOf : List Ontology → List Entity → Type 0
AreKindsOf os kinds = (kind : Kind) (iri : List ℕ) → IsDeclared kinds kind iri ↔ IsDeclaredIn os kind iri

-- what was declared before, and these
abbrev pub AddsAll : List Entity → List Entity → List Entity → Type 0
AddsAll old es new = (kind : Kind) (iri : List ℕ) → IsDeclared new kind iri ↔ (IsDeclared old kind iri ⊎ IsDeclared es kind iri)

-- what was declared before, and some of these
pub record AddsSome (old es new : List Entity) : Type 0 where
  pub kept : (kind : Kind) (iri : List ℕ) → IsDeclared old kind iri → IsDeclared new kind iri
  pub only : (kind : Kind) (iri : List ℕ) → IsDeclared new kind iri → IsDeclared old kind iri ⊎ IsDeclared es kind iri
