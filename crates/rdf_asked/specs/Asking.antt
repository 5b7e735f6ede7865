-- What a row of a node asks of its triple.
use Rattle.std.specs.Prelude.{◌≡◌, true, IsTrue, List}
use Rattle.std.specs.List.{AllByRecursion}
use Rattle.owl_kind.specs.Kinds.{Entity}
use Rattle.rdf_graph.specs.declared.term.Term.{Term}
use Rattle.rdf_graph.specs.declared.triple.Triple.{Triple}
use Rattle.rdf_meaning.specs.declared.row.Part.{Part}
use Rattle.rdf_meaning.specs.declared.word.Word.TheVariants as word
use Rattle.rdf_meaning.specs.Denotation.{Fits, of_node}
use Rattle.rdf_meaning.specs.Nodes.{carries, carries_some, of_subject}
use Rattle.rdf_meaning.specs.Rows.{Row}
use Rattle.rdf_faults.specs.Asked.{IsMet, Suits, SuitsProperties, by_property, is_place_of}
use Rattle.rdf_faults.specs.Faults.{IsUntypedPart}

-- the object is what the part wants, if it stands there
abbrev pub SuitsPart : List Triple → List Entity → Triple → Part → Type 0
SuitsPart g k t p = is_place_of t p.place ≡ true → IsMet g k p.want t.object

-- the row asks for the object, if the triple is that of a property
abbrev pub SuitsProperty : List Triple → List Entity → Row → Triple → Type 0
SuitsProperty g k row t = IsTrue (carries word.OnProperty t) → Suits g k row t

-- the row is one of the triple's node, and its properties suit it
pub record IsTold (g : List Triple) (k : List Entity) (t : Triple) (row : Row) : Type 0 where
  pub fits : Fits g (of_node t.subject) row
  pub properties : SuitsProperties g k row t.subject

-- the row is one of the triple's node, and asks for the object, if need be as the properties tell
pub record IsSuited (g : List Triple) (k : List Entity) (t : Triple) (row : Row) : Type 0 where
  pub fits : Fits g (of_node t.subject) row
  pub suits : Suits g k row t
  pub properties : IsTrue (carries_some by_property t) → SuitsProperties g k row t.subject

-- the row is one of the node, and asks for the objects of all of its triples
pub record AsksForAll (g : List Triple) (k : List Entity) (x : Term) (row : Row) : Type 0 where
  pub fits : Fits g (of_node x) row
  pub suits : AllByRecursion (Suits g k row) (of_subject g x)

-- no triple of the node names what it may not
abbrev pub IsTypedNode : List Triple → List Entity → Term → Type 0
IsTypedNode g k x = (t : Triple) → t.subject ≡ x → IsUntypedPart g k t → ⊥
