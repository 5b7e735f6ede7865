-- How an expression is drawn: a term, or a blank node with arcs to others (Mapping to RDF Graphs, section 2.1).
use Rattle.std.specs.Prelude.{ℕ, suc, ◌+◌, List, [], ◌∷◌, ◌++◌}
use Rattle.rdf_graph.specs.declared.term.Term.{Term}
use Rattle.rdf_graph.specs.declared.term.Term.TheVariants.{Iri, Blank}
use Rattle.rdf_graph.specs.declared.triple.Triple.{Triple}
use Rattle.rdf_meaning.specs.declared.word.Word.TheVariants as word
use Rattle.rdf_meaning.specs.Words.{word_iri}
use Rattle.rdf_meaning.specs.Nodes.{nil_iri}

-- A term; a node with its arcs; or a list in which the one element, which has one node, stands twice.
mutual
  pub data Form : Type 0 where
    plain : Term → Form
    made : Arcs → Form
    twice : Form → Form

  -- each arc has a predicate, and leads to a form
  pub data Arcs : Type 0 where
    no_arcs : Arcs
    arc : List ℕ → Form → Arcs → Arcs

abbrev pub first_iri : List ℕ
first_iri = word_iri word.First

abbrev pub rest_iri : List ℕ
rest_iri = word_iri word.Rest

-- the list of these (section 2.1)
abbrev pub list_form : List Form → Form
list_form [] = plain (Iri nil_iri)
list_form (f ∷ fs) = made (arc first_iri f (arc rest_iri (list_form fs) no_arcs))

-- how many blank nodes it has
abbrev mutual
  pub nodes : Form → ℕ
  nodes (plain t) = 0
  nodes (made arcs) = suc (arc_nodes arcs)
  nodes (twice f) = suc (nodes f + 1)

  pub arc_nodes : Arcs → ℕ
  arc_nodes no_arcs = 0
  arc_nodes (arc p f more) = nodes f + arc_nodes more

abbrev pub link : Term → List ℕ → Term → Triple
link x p o = record { subject = x; predicate = p; object = o }

-- Blank nodes have labels by numbers. Those of a form have the numbers from one on: a node comes before what its arcs lead to, and these
-- come in their order.
module _ (name : ℕ → List ℕ) where
  abbrev pub blank : ℕ → Term
  blank n = Blank (name n)

  abbrev pub term_of : Form → ℕ → Term
  term_of (plain t) n = t
  term_of (made arcs) n = blank n
  term_of (twice f) n = blank n

  abbrev mutual
    pub triples : Form → ℕ → List Triple
    triples (plain t) n = []
    triples (made arcs) n = arc_triples (blank n) arcs (suc n)
    triples (twice f) n =
        link (blank n) first_iri (term_of f (suc n)) ∷
        (triples f (suc n) ++
        (link (blank n) rest_iri (blank (suc n + nodes f)) ∷
        link (blank (suc n + nodes f)) first_iri (term_of f (suc n)) ∷
        link (blank (suc n + nodes f)) rest_iri (Iri nil_iri) ∷ []))

    pub arc_triples : Term → Arcs → ℕ → List Triple
    arc_triples x no_arcs n = []
    arc_triples x (arc p f more) n = link x p (term_of f n) ∷ (triples f n ++ arc_triples x more (n + nodes f))
