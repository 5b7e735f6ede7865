-- What the definitions say of some entities, worked out by hand.
use Rattle.std.specs.Prelude.{◌≡◌, ℕ, List, [], ◌∷◌, None, Some, codes}
use Rattle.std.proofs.Common.{refl}
use Rattle.owl_kind.specs.declared.kind.Kind.{Kind}
use Rattle.owl_kind.specs.declared.kind.Kind.TheVariants.{Class, Datatype, ObjectProperty, DataProperty, AnnotationProperty, Individual}
use Rattle.owl_kind.specs.Kinds.{Entity}
use Rattle.owl_tree.specs.declared.atom.Atom.TheVariants as atom
use Rattle.owl_tree.specs.declared.tag.Tag.{Tag}
use Rattle.owl_tree.specs.declared.tag.Tag.TheVariants as tag
use Rattle.owl_tree.specs.Trees.{Tree, leaf, node, kids_of}
use Rattle.owl_doc.specs.Entities.{declaration, declared_in, declared_kind, entities, kind_of}

abbrev named : Tag → List ℕ → Tree
named t iri = leaf t (atom.Iri iri)

abbrev over : Tag → List Tree → Tree
over t kids = node t (kids_of kids)

abbrev entity : Kind → List ℕ → Entity
entity kind iri = record { kind = kind; iri = iri }

abbrev no_notes : Tree
no_notes = over tag.Notes []

-- Annotation(<e:l> <e:o>) of an axiom
abbrev notes : Tree
notes = over tag.Notes (over tag.Annotation (no_notes ∷ named tag.AnnotationProperty (codes "e:l") ∷ named tag.PlainIri (codes "e:o") ∷ []) ∷ [])

-- SubClassOf(Annotation(<e:l> <e:o>) <e:A> ObjectIntersectionOf(DataSomeValuesFrom(<e:q> <e:D>) ObjectHasValue(<e:p> <e:a>)))
abbrev subclass : Tree
subclass =
    over tag.SubClassOf (
    notes
    ∷ named tag.Class (codes "e:A")
    ∷ over tag.ObjectIntersectionOf (
    over tag.DataSomeValuesFrom (named tag.DataProperty (codes "e:q") ∷ named tag.Datatype (codes "e:D") ∷ [])
    ∷ over tag.ObjectHasValue (named tag.ObjectProperty (codes "e:p") ∷ named tag.NamedIndividual (codes "e:a") ∷ [])
    ∷ [])
    ∷ [])

-- its entities from left to right: neither the value of the annotation nor the individual is among them
subclass_entities :
    entities subclass
    ≡ entity AnnotationProperty (codes "e:l")
    ∷ entity Class (codes "e:A")
    ∷ entity DataProperty (codes "e:q")
    ∷ entity Datatype (codes "e:D")
    ∷ entity ObjectProperty (codes "e:p")
    ∷ []
unfolding kind_of
subclass_entities = refl

abbrev declares : Tree → Tag → List ℕ → Tree
declares annotations t iri = over tag.Declaration (annotations ∷ named t iri ∷ [])

-- of an annotated declaration what is declared is not the annotation's
annotated : declaration (declares notes tag.Class (codes "e:A")) ≡ Some (entity Class (codes "e:A"))
unfolding kind_of declared_kind
annotated = refl

individual : declaration (declares no_notes tag.NamedIndividual (codes "e:a")) ≡ Some (entity Individual (codes "e:a"))
unfolding kind_of declared_kind
individual = refl

not_declared : declaration subclass ≡ None
not_declared = refl

-- each declaration counts, in order, and no other axiom
several :
    declared_in (record {
      head = record { name = None; imports = [] };
      annotations = [];
      axioms =
          declares no_notes tag.Datatype (codes "e:D") ∷ subclass ∷ declares no_notes tag.ObjectProperty (codes "e:p") ∷ declares no_notes tag.DataProperty (codes "e:p") ∷ [];
    })
    ≡ entity Datatype (codes "e:D") ∷ entity ObjectProperty (codes "e:p") ∷ entity DataProperty (codes "e:p") ∷ []
unfolding kind_of declared_kind
several = refl
