-- The head that a node gives by its triples (Mapping to RDF Graphs, section 3.1.2).
use Rattle.std.specs.Prelude.{◌≡◌, ℕ, Bool, false, nat_eq, nat_le, List, map, Option, None, Some}
use Rattle.owl_doc.specs.declared.head.Head as held
use Rattle.owl_tree.specs.Ontologies.{Head}
use Rattle.rdf_graph.specs.declared.term.Term.{Term}
use Rattle.rdf_graph.specs.declared.term.Term.TheVariants.{Iri, Blank, Literal}
use Rattle.rdf_graph.specs.declared.triple.Triple.{Triple}
use Rattle.rdf_meaning.specs.Statements.{IsHeadOf}
use Rattle.rdf_scans.specs.Outlines.{IsHeadAt}

-- the IRI that the term is
abbrev pub iri_in : Term → Option (List ℕ)
iri_in (Iri iri) = Some iri
iri_in (Blank label) = None
iri_in (Literal literal) = None

-- the terms as IRIs, none where some is no IRI
abbrev pub FindsIris : List Term → Option (List (List ℕ)) → Type 0
FindsIris xs (Some iris) = xs ≡ map Iri iris
FindsIris xs None = (iris : List (List ℕ)) → xs ≡ map Iri iris → ⊥

-- the node may have so many versions
abbrev pub may_have : Term → ℕ → Bool
may_have (Iri iri) versions = nat_le versions 1
may_have (Blank label) versions = nat_eq versions 0
may_have (Literal literal) versions = false

-- the head that the node gives, none where it gives none
abbrev pub FindsHead : List Triple → Term → Option held.Head → Type 0
FindsHead g x (Some head) = IsHeadAt g x head
FindsHead g x None = (head : Head) → IsHeadOf g x head → ⊥
