-- What is written of the triples of a graph: by its label, in brackets (RDF 1.1 Turtle, section 2.7), or as a collection (section
-- 2.8).
use Rattle.std.specs.Prelude.{ℕ, List}
use Rattle.rdf_graph.specs.declared.term.Term.{Term}

mutual
  -- An object: a term; the first cell of a collection with its element, and the other cells; or the blank node of brackets, and
  -- what stands between them. Blank nodes that are not written are told by their labels.
  pub data Form : Type 0 where
    plain : Term → Form
    round : List ℕ → Form → Cells → Form
    square : List ℕ → Pairs → Form

  pub data Cells : Type 0 where
    no_cells : Cells
    cell : List ℕ → Form → Cells → Cells

  -- predicates with their objects
  pub data Pairs : Type 0 where
    no_pairs : Pairs
    pair : List ℕ → Form → Pairs → Pairs

-- a subject, a predicate and an object
pub record Line : Type 0 where
  pub subject : Term
  pub predicate : List ℕ
  pub object : Form
