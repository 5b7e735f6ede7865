-- Declarations of entities (Structural Specification, section 5.8).
use Rattle.std.specs.Prelude.{ℕ, List, [], ◌∷◌, ◌++◌, map}
use Rattle.owl_kind.specs.declared.kind.Kind.{Kind}
use Rattle.owl_kind.specs.declared.kind.Kind.TheVariants.{Class, Datatype, ObjectProperty, DataProperty, AnnotationProperty, Individual}
use Rattle.owl_tree.specs.declared.atom.Atom.TheVariants as atom
use Rattle.owl_tree.specs.declared.tag.Tag.{Tag}
use Rattle.owl_tree.specs.declared.tag.Tag.TheVariants as tag
use Rattle.owl_tree.specs.Ontologies.{Ontology}
use Rattle.owl_tree.specs.Trees.{Tree, kids_of, leaf, no_kids, node}

-- the tag of the name of an entity of this kind
unfoldable pub name_tag : Kind → Tag
name_tag Class = tag.Class
name_tag Datatype = tag.Datatype
name_tag ObjectProperty = tag.ObjectProperty
name_tag DataProperty = tag.DataProperty
name_tag AnnotationProperty = tag.AnnotationProperty
name_tag Individual = tag.NamedIndividual

-- the declaration of the IRI as this kind, without annotations
abbrev pub declaration : Kind → List ℕ → Tree
declaration kind iri = node tag.Declaration (kids_of (node tag.Notes no_kids ∷ leaf (name_tag kind) (atom.Iri iri) ∷ []))

-- the ontology, which declares these IRIs as this kind too
abbrev pub with_declarations : Kind → List (List ℕ) → Ontology → Ontology
with_declarations kind iris o = record { head = o.head; annotations = o.annotations; axioms = o.axioms ++ map (declaration kind) iris }
