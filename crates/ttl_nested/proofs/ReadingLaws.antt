-- What a parser states of lines: the blank nodes that are not written are told by numbers, in the order in which they begin.
use Rattle.std.proofs.Common.{ℕ, zero, suc, ◌+◌, List, [], ◌∷◌, ◌++◌}
use Rattle.rdf_graph.specs.declared.term.Term.{Term}
use Rattle.rdf_graph.specs.declared.term.Term.TheVariants as term
use Rattle.owl_characters.specs.Iri.{IsIri}
use Rattle.rdf_graph.specs.Terms.{IsSubject}
use Rattle.ttl_grammar.specs.States.{first_iri, nil_iri, rest_iri}
use Rattle.ttl_grammar.specs.declared.node.Node.{Node}
use Rattle.ttl_grammar.specs.declared.node.Node.TheVariants as node
use Rattle.ttl_grammar.specs.declared.node.NodeTriple.{NodeTriple}
use Rattle.ttl_grammar.specs.declared.node.Object.{Object}
use Rattle.ttl_grammar.specs.declared.node.Object.TheVariants as object
use Rattle.ttl_nested.specs.Forms.{Cells, Form, Line, Pairs}
use Rattle.ttl_nested.specs.Forms.Form.{plain, round, square}
use Rattle.ttl_nested.specs.Forms.Cells.{cell, no_cells}
use Rattle.ttl_nested.specs.Forms.Pairs.{no_pairs, pair}
use Rattle.ttl_write.specs.Formed.{IsFormedTerm}
use Rattle.ttl_write.proofs.TermLaws.{object_of}

-- how many blank nodes without labels appeared, and the triples that were stated
pub record Made : Type 0 where
  pub next : ℕ
  pub triples : List NodeTriple

abbrev pub nothing_made : Made
nothing_made = record { next = 0; triples = [] }

abbrev pub appeared : Made → Made
appeared made = record { next = made.next + 1; triples = made.triples }

abbrev pub with_stated : Node → List ℕ → Object → Made → Made
with_stated s p o made = record { next = made.next; triples = made.triples ++ record { subject = s; predicate = p; object = o } ∷ [] }

-- what stands for an object that begins with this number
abbrev pub object_at : Form → ℕ → Object
object_at (plain term) n = object_of term
object_at (round label element cells) n = object.Node (node.Unlabelled n)
object_at (square label pairs) n = object.Node (node.Unlabelled n)

abbrev mutual
  pub behind_form : Form → Made → Made
  behind_form (plain term) made = made
  behind_form (round label element cells) made =
      behind_cells (node.Unlabelled made.next) cells
      (with_stated (node.Unlabelled made.next) first_iri (object_at element (made.next + 1)) (behind_form element (appeared made)))
  behind_form (square label pairs) made = behind_pairs (node.Unlabelled made.next) pairs (appeared made)

  -- behind this cell
  pub behind_cells : Node → Cells → Made → Made
  behind_cells last no_cells made = with_stated last rest_iri (object.Node (node.Iri nil_iri)) made
  behind_cells last (cell label element cells) made =
      behind_cells (node.Unlabelled made.next) cells
      (with_stated (node.Unlabelled made.next) first_iri (object_at element (made.next + 1))
      (behind_form element (appeared (with_stated last rest_iri (object.Node (node.Unlabelled made.next)) made))))

  -- of this subject
  pub behind_pairs : Node → Pairs → Made → Made
  behind_pairs s no_pairs made = made
  behind_pairs s (pair predicate object more) made =
      behind_pairs s more (with_stated s predicate (object_at object made.next) (behind_form object made))

-- what stands for a subject
abbrev pub node_of : Term → Node
node_of (term.Iri iri) = node.Iri iri
node_of (term.Blank label) = node.Label label
node_of (term.Literal literal) = node.Iri []

abbrev pub behind_lines : List Line → Made → Made
behind_lines [] made = made
behind_lines (line ∷ lines) made =
    behind_lines lines (with_stated (node_of line.subject) line.predicate (object_at line.object made.next) (behind_form line.object made))

-- the terms are what terms of graphs are

abbrev mutual
  pub IsFormedForm : Form → Type 0
  IsFormedForm (plain term) = IsFormedTerm term
  IsFormedForm (round label element cells) = IsFormedForm element × AreFormedCells cells
  IsFormedForm (square label pairs) = AreFormedPairs pairs

  pub AreFormedCells : Cells → Type 0
  AreFormedCells no_cells = Unit {0}
  AreFormedCells (cell label element cells) = IsFormedForm element × AreFormedCells cells

  pub AreFormedPairs : Pairs → Type 0
  AreFormedPairs no_pairs = Unit {0}
  AreFormedPairs (pair predicate object more) = IsIri predicate × IsFormedForm object × AreFormedPairs more

pub record IsFormedLine (line : Line) : Type 0 where
  pub is_subject : IsSubject line.subject
  pub subject : IsFormedTerm line.subject
  pub predicate : IsIri line.predicate
  pub object : IsFormedForm line.object

-- at most so many brackets and collections stand in one another

abbrev mutual
  pub IsWithin : ℕ → Form → Type 0
  IsWithin n (plain term) = Unit {0}
  IsWithin zero (round label element cells) = ⊥
  IsWithin (suc n) (round label element cells) = IsWithin n element × AreCellsWithin n cells
  IsWithin zero (square label pairs) = ⊥
  IsWithin (suc n) (square label pairs) = ArePairsWithin n pairs

  pub AreCellsWithin : ℕ → Cells → Type 0
  AreCellsWithin n no_cells = Unit {0}
  AreCellsWithin n (cell label element cells) = IsWithin n element × AreCellsWithin n cells

  pub ArePairsWithin : ℕ → Pairs → Type 0
  ArePairsWithin n no_pairs = Unit {0}
  ArePairsWithin n (pair predicate object more) = IsWithin n object × ArePairsWithin n more
