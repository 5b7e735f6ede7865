-- Terms and graphs of the worked cases.
use Rattle.std.specs.Prelude.{ℕ, List, [], ◌∷◌, None, Some, codes}
use Rattle.rdf_terms.specs.Literals.{of_datatype, string}
use Rattle.rdf_terms.specs.Vocabulary.{owl, rdf, rdfs}
use Rattle.owl_kind.specs.declared.kind.Kind.{Kind}
use Rattle.owl_kind.specs.Kinds.{Entity}
use Rattle.owl_tree.specs.declared.tag.Tag.{Tag}
use Rattle.owl_tree.specs.Ontologies.{Ontology}
use Rattle.owl_tree.specs.Trees.{Tree, leaf, node, kids_of}
use Rattle.rdf_graph.specs.declared.term.Term.{Term}
use Rattle.rdf_graph.specs.declared.term.Term.TheVariants.{Iri, Blank, Literal}
use Rattle.rdf_graph.specs.declared.triple.Triple.{Triple}
use Rattle.rdf_meaning.specs.Nodes.{nil_iri, type_iri}
use Rattle.owl_kind.specs.declared.kind.Kind.TheVariants as kind
use Rattle.owl_tree.specs.declared.atom.Atom.TheVariants as atom
use Rattle.owl_tree.specs.declared.tag.Tag.TheVariants as tag

abbrev pub says : Term → List ℕ → Term → Triple
says s p o = record { subject = s; predicate = p; object = o }

abbrev pub typed : Term → List ℕ → Triple
typed s class = says s type_iri (Iri class)

abbrev pub entity : Kind → List ℕ → Entity
entity k iri = record { kind = k; iri = iri }

abbrev pub named : Tag → List ℕ → Tree
named t iri = leaf t (atom.Iri iri)

abbrev pub over : Tag → List Tree → Tree
over t kids = node t (kids_of kids)

abbrev pub u : Term
u = Blank (codes "u")

abbrev pub first_cell : Term
first_cell = Blank (codes "v")

abbrev pub last_cell : Term
last_cell = Blank (codes "w")

abbrev pub c : Term
c = Blank (codes "c")

abbrev pub union : List Triple
union =
    says c (owl (codes "complementOf")) (Iri (codes "e:B"))
    ∷ typed c (owl (codes "Class"))
    ∷ typed u (owl (codes "Class"))
    ∷ says u (owl (codes "unionOf")) first_cell
    ∷ says first_cell (rdf (codes "first")) (Iri (codes "e:A"))
    ∷ says first_cell (rdf (codes "rest")) last_cell
    ∷ says last_cell (rdf (codes "first")) c
    ∷ says last_cell (rdf (codes "rest")) (Iri nil_iri)
    ∷ []

abbrev pub classes : List Entity
classes = entity kind.Class (codes "e:A") ∷ entity kind.Class (codes "e:B") ∷ []

abbrev pub A : Tree
A = named tag.Class (codes "e:A")

abbrev pub B : Tree
B = named tag.Class (codes "e:B")

abbrev pub complement : Tree
complement = over tag.ObjectComplementOf (B ∷ [])

abbrev pub restriction : List Triple
restriction =
    typed u (owl (codes "Restriction"))
    ∷ says u (owl (codes "onProperty")) (Iri (codes "e:p"))
    ∷ says u (owl (codes "someValuesFrom")) (Iri (codes "e:D"))
    ∷ []

abbrev pub of_data : List Entity
of_data = entity kind.Datatype (codes "e:D") ∷ entity kind.DataProperty (codes "e:p") ∷ []

abbrev pub some_values : Tree
some_values = over tag.DataSomeValuesFrom (named tag.DataProperty (codes "e:p") ∷ named tag.Datatype (codes "e:D") ∷ [])

abbrev pub text : List ℕ → Term
text cs = Literal (of_datatype cs string)

abbrev pub x : Term
x = Blank (codes "x")

abbrev pub y : Term
y = Blank (codes "y")

abbrev pub comment : List ℕ
comment = rdfs (codes "comment")

abbrev pub small : List Triple
small =
    typed (Iri (codes "e:A")) (owl (codes "Class"))
    ∷ says (Iri (codes "e:A")) (rdfs (codes "subClassOf")) (Iri (codes "e:B"))
    ∷ typed (Iri (codes "e:o")) (owl (codes "Ontology"))
    ∷ typed x (owl (codes "Axiom"))
    ∷ says x comment (text (codes "c"))
    ∷ says x (owl (codes "annotatedProperty")) (Iri (rdfs (codes "subClassOf")))
    ∷ says x (owl (codes "annotatedSource")) (Iri (codes "e:A"))
    ∷ says x (owl (codes "annotatedTarget")) (Iri (codes "e:B"))
    ∷ typed y (owl (codes "Annotation"))
    ∷ says y comment (text (codes "d"))
    ∷ says y (owl (codes "annotatedProperty")) (Iri comment)
    ∷ says y (owl (codes "annotatedSource")) x
    ∷ says y (owl (codes "annotatedTarget")) (text (codes "c"))
    ∷ []

abbrev pub no_notes : Tree
no_notes = over tag.Notes []

abbrev pub with_comment : Tree → List ℕ → Tree
with_comment inner cs = over tag.Annotation (inner ∷ named tag.AnnotationProperty comment ∷ leaf tag.Literal (atom.Literal (of_datatype cs string)) ∷ [])

-- Annotation(Annotation(rdfs:comment "d") rdfs:comment "c")
abbrev pub comments : Tree
comments = over tag.Notes (with_comment (over tag.Notes (with_comment no_notes (codes "d") ∷ [])) (codes "c") ∷ [])

abbrev pub stated : Ontology
stated = record {
  head = record { name = Some (record { iri = codes "e:o"; version = None }); imports = [] };
  annotations = [];
  axioms = over tag.Declaration (no_notes ∷ A ∷ []) ∷ over tag.SubClassOf (comments ∷ A ∷ B ∷ []) ∷ [];
}

abbrev pub own_complement : Triple
own_complement = says c (owl (codes "complementOf")) c

abbrev pub cycle : List Triple
cycle = typed c (owl (codes "Class")) ∷ own_complement ∷ []
