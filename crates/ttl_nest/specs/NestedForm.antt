-- The nested text of a graph.
use Rattle.std.specs.Prelude.{◌≡◌, ◌<◌, ℕ, List, [], ◌∷◌, length}
use Rattle.std.specs.Str.{encode_utf8_all}
use Rattle.owl_characters.specs.Limit.{most_bytes}
use Rattle.owl_atom.specs.declared.prefixes.Prefix.{Prefix}
use Rattle.rdf_graph.specs.declared.term.Term.{Term}
use Rattle.rdf_graph.specs.declared.term.Term.TheVariants.{Iri, Blank}
use Rattle.rdf_graph.specs.declared.triple.Triple.{Triple}
use Rattle.rdf_meaning.specs.Nodes.{nil_iri, of_subject}
use Rattle.ttl_levels.specs.Nested.{IsNestableCell, IsNested, IsRound}
use Rattle.ttl_nested.specs.Forms.{Cells, Form, Line, Pairs}
use Rattle.ttl_nested.specs.Forms.Form.{plain, round, square}
use Rattle.ttl_nested.specs.Forms.Cells.{cell, no_cells}
use Rattle.ttl_nested.specs.Forms.Pairs.{no_pairs, pair}
use Rattle.ttl_nested.specs.NestedText.{nested_text}

-- the nested cell with this label has this element and this rest
pub record IsNestedCell (g : List Triple) (x : Term) (label : List ℕ) (first rest : Term) : Type 0 where
  pub is : x ≡ Blank label
  pub nested : IsNested g x
  pub cell : IsNestableCell g x first rest

-- the nested node with this label is not round
pub record IsNestedNode (g : List Triple) (x : Term) (label : List ℕ) : Type 0 where
  pub is : x ≡ Blank label
  pub nested : IsNested g x
  pub not_round : IsRound g x → ⊥

abbrev mutual
  -- how a term is written as an object
  pub IsFormOf : List Triple → Term → Form → Type 0
  IsFormOf g x (plain term) = (x ≡ term) × (IsNested g x → ⊥)
  IsFormOf g x (round label element cells) =
      (first : Term) × (rest : Term) × IsNestedCell g x label first rest × IsFormOf g first element × AreCellsFrom g rest cells
  IsFormOf g x (square label pairs) = IsNestedNode g x label × ArePairsOf g (of_subject g x) pairs

  -- the cells from this one on, of which the last has rdf:nil as its rest
  pub AreCellsFrom : List Triple → Term → Cells → Type 0
  AreCellsFrom g x no_cells = x ≡ Iri nil_iri
  AreCellsFrom g x (cell label element cells) =
      (first : Term) × (rest : Term) × IsNestedCell g x label first rest × IsFormOf g first element × AreCellsFrom g rest cells

  -- the predicates and objects of triples, in their order
  pub ArePairsOf : List Triple → List Triple → Pairs → Type 0
  ArePairsOf g [] no_pairs = Unit {0}
  ArePairsOf g [] (pair predicate object more) = ⊥
  ArePairsOf g (t ∷ ts) no_pairs = ⊥
  ArePairsOf g (t ∷ ts) (pair predicate object more) = (t.predicate ≡ predicate) × IsFormOf g t.object object × ArePairsOf g ts more

-- the line of a triple whose subject is not nested
pub record IsLineOf (g : List Triple) (t : Triple) (line : Line) : Type 0 where
  pub not_nested : IsNested g t.subject → ⊥
  pub subject : t.subject ≡ line.subject
  pub predicate : t.predicate ≡ line.predicate
  pub object : IsFormOf g t.object line.object

-- the lines of these triples of the graph, in their order
pub data AreLinesFor (g : List Triple) : List Triple → List Line → Type 0 where
  no_lines : AreLinesFor g [] []
  inside : (t : Triple) (ts : List Triple) (lines : List Line) → IsNested g t.subject → AreLinesFor g ts lines → AreLinesFor g (t ∷ ts) lines
  one_line : (t : Triple) (ts : List Triple) (line : Line) (lines : List Line) → IsLineOf g t line → AreLinesFor g ts lines → AreLinesFor g (t ∷ ts) (line ∷ lines)

abbrev pub IsNestedForm : List Triple → List Line → Type 0
IsNestedForm g lines = AreLinesFor g g lines

-- the text of the graph's nested form, under these prefixes
pub record IsNestedText (prefixes : List Prefix) (g : List Triple) (text : List ℕ) : Type 0 where
  pub lines : List Line
  pub form : IsNestedForm g lines
  pub text_is : text ≡ nested_text prefixes lines

-- that text has more than 2^27 bytes
pub record IsTooLongText (prefixes : List Prefix) (g : List Triple) : Type 0 where
  pub lines : List Line
  pub form : IsNestedForm g lines
  pub long : most_bytes < length (encode_utf8_all (nested_text prefixes lines))
