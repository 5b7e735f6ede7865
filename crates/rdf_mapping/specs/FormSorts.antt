-- What is drawn of a form makes its nodes what they are.
use Rattle.std.specs.Prelude.{◌≡◌, ◌≤◌, ◌+◌, ℕ, suc, true, List, Contains}
use Rattle.rdf_graph.specs.declared.triple.Triple.{Triple}
use Rattle.rdf_meaning.specs.Nodes.{is_structural}
use Rattle.rdf_mapping.specs.Forms.{Form, made, Arcs, no_arcs, arc, blank, nodes, triples}
use Rattle.rdf_mapping.specs.Frames.{IsOfNode, Keeps, KeepsArcs, own_triples}

-- each of the triples makes its subject what it is
abbrev pub AreOfNode : List Triple → List Triple → Type 0
AreOfNode g ts = (t : Triple) → Contains ts t → is_structural g t ≡ true

-- what a graph keeps of the form are such triples, wherever its numbers begin
abbrev pub IsOfNodes : (ℕ → List ℕ) → ℕ → List Triple → Form → Type 0
IsOfNodes name most g f =
    (n : ℕ) → n + nodes f ≤ most → Keeps name IsOfNode g (triples name f n) n (n + nodes f) → AreOfNode g (triples name f n)

-- and those of a node with these arcs itself
abbrev pub HasOwnSort : (ℕ → List ℕ) → ℕ → List Triple → Arcs → Type 0
HasOwnSort name most g arcs =
    (n : ℕ) → n + nodes (made arcs) ≤ most → KeepsArcs name IsOfNode g arcs n → AreOfNode g (own_triples name (blank name n) arcs (suc n))

-- the forms that arcs lead to
abbrev pub AllForms : (Form → Type 0) → Arcs → Type 0
AllForms P no_arcs = Unit {0}
AllForms P (arc p f more) = P f × AllForms P more
