-- What a graph keeps of the groups of axioms.
use Rattle.std.specs.Prelude.{◌≡◌, ℕ, suc, ◌+◌, List, [], ◌∷◌, Contains}
use Rattle.std.specs.List.{AllByRecursion}
use Rattle.rdf_terms.specs.Literals.{LiteralParts}
use Rattle.rdf_graph.specs.declared.term.Term.{Term}
use Rattle.rdf_graph.specs.declared.term.Term.TheVariants.{Literal}
use Rattle.rdf_graph.specs.declared.triple.Triple.{Triple}
use Rattle.rdf_mapping.specs.Drawing.{Statement, linked, linked_back, looped, standing, unsaid}
use Rattle.rdf_mapping.specs.Forms.{Form, Arcs, arc_nodes, blank, link, nodes, triples}
use Rattle.rdf_mapping.specs.Frames.{IsAny, IsOfNode, Keeps, KeepsArcs, StartsApart}
use Rattle.rdf_mapping.specs.Graphs.{Group, set_nodes, set_triples, standing_nodes, standing_triples, statement_nodes, statement_triples}
use Rattle.rdf_mapping.specs.Notes.{Notes, no_notes, note, note_nodes, note_triples}

-- the subject of the statement is no other numbered node
abbrev pub StatesApart : (ℕ → List ℕ) → ℕ → Statement → Type 0
StatesApart name most (linked f p g) = StartsApart name most f
StatesApart name most (linked_back f p g) = StartsApart name most g
StatesApart name most (looped p f) = StartsApart name most f
StatesApart name most (standing arcs) = Unit {0}
StatesApart name most unsaid = Unit {0}

abbrev pub AreStatedApart : (ℕ → List ℕ) → ℕ → List Group → Type 0
AreStatedApart name most gs = AllByRecursion (λ q. StatesApart name most q.statement) gs

-- how many nodes groups have
abbrev pub group_nodes : List Group → ℕ
group_nodes [] = 0
group_nodes (q ∷ gs) = statement_nodes q.statement q.sets + group_nodes gs

abbrev pub EachGroupKept : (ℕ → List ℕ) → List Triple → List Group → ℕ → Type 0
EachGroupKept name g [] n = Unit {0}
EachGroupKept name g (q ∷ gs) n =
    Keeps name IsAny g (statement_triples name q.statement q.sets n) n (n + statement_nodes q.statement q.sets)
    × EachGroupKept name g gs (n + statement_nodes q.statement q.sets)

-- What a graph keeps of an axiom that is a triple between two forms: the triple, the forms, and what reifies the triple.
pub record KeepsLinked (name : ℕ → List ℕ) (g : List Triple) (main : Triple) (f q : Form) (sets : List Notes) (n : ℕ) : Type 0 where
  pub there : Contains g main
  pub first : Keeps name IsOfNode g (triples name f n) n (n + nodes f)
  pub second : Keeps name IsOfNode g (triples name q (n + nodes f)) (n + nodes f) (n + nodes f + nodes q)
  pub notes : Keeps name IsAny g (set_triples name main sets (n + (nodes f + nodes q))) (n + (nodes f + nodes q)) (n + (nodes f + nodes q) + set_nodes sets)

-- and of one from a form to itself
pub record KeepsLooped (name : ℕ → List ℕ) (g : List Triple) (main : Triple) (f : Form) (sets : List Notes) (n : ℕ) : Type 0 where
  pub there : Contains g main
  pub form : Keeps name IsOfNode g (triples name f n) n (n + nodes f)
  pub notes : Keeps name IsAny g (set_triples name main sets (n + nodes f)) (n + nodes f) (n + nodes f + set_nodes sets)

-- the term is no literal
abbrev pub IsSubject : Term → Type 0
IsSubject x = (literal : LiteralParts) → x ≡ Literal literal → ⊥

-- no annotation makes its subject what it is as a node
abbrev pub AreNotesApart : Notes → Type 0
AreNotesApart no_notes = Unit {0}
AreNotesApart (note p v inside more) = ((x : Term) → IsOfNode (link x p v) → ⊥) × (AreNotesApart inside × AreNotesApart more)

-- What a graph keeps of an axiom that has a node of its own, with one set of annotations and then others.
pub record KeepsStanding (name : ℕ → List ℕ) (g : List Triple) (arcs : Arcs) (ns : Notes) (sets : List Notes) (n : ℕ) : Type 0 where
  pub node : KeepsArcs name IsOfNode g arcs n
  pub notes : (t : Triple) → Contains (note_triples name (blank name n) ns (n + suc (arc_nodes arcs))) t → Contains g t
  pub others : Keeps name IsAny g (standing_triples name arcs sets (n + (suc (arc_nodes arcs) + note_nodes ns))) (n + (suc (arc_nodes arcs) + note_nodes ns)) (n + (suc (arc_nodes arcs) + note_nodes ns) + standing_nodes arcs sets)
