-- Cardinalities that do not fit 64 bits (Mapping to RDF Graphs, table 13).
use Rattle.std.specs.Prelude.{◌≡◌, Bool, true, false, List, Contains, Some}
use Rattle.rdf_graph.specs.declared.triple.Triple.{Triple}
use Rattle.rdf_meaning.specs.declared.role.Role.TheVariants as role
use Rattle.rdf_meaning.specs.declared.word.Word.{Word}
use Rattle.rdf_meaning.specs.declared.word.Word.TheVariants as word
use Rattle.rdf_meaning.specs.Denotation.{number_leaf}
use Rattle.rdf_meaning.specs.Nodes.{carries, role_of}
use Rattle.rdf_rows.specs.Cardinalities.{cardinality_of}
use Rattle.rdf_rows.specs.declared.literals.Cardinality.TheVariants.{TooLarge}

-- the word is of the number of a restriction
abbrev pub is_counting : Word → Bool
is_counting word.MinCardinality = true
is_counting word.MaxCardinality = true
is_counting word.Cardinality = true
is_counting word.MinQualifiedCardinality = true
is_counting word.MaxQualifiedCardinality = true
is_counting word.QualifiedCardinality = true
is_counting _ = false

-- the triple of a class expression names a cardinality of 2^64 or more
pub record IsLarge (g : List Triple) (t : Triple) : Type 0 where
  pub of_class : role_of g t.subject ≡ role.Class
  pub word : Word
  pub counting : is_counting word ≡ true
  pub carried : carries word t ≡ true
  pub large : cardinality_of (number_leaf t.object) ≡ Some TooLarge

-- so does some of these triples
pub record SomeIsLarge (g : List Triple) (ts : List Triple) : Type 0 where
  pub triple : Triple
  pub inside : Contains ts triple
  pub is : IsLarge g triple

abbrev pub HasLargeNumber : List Triple → Type 0
HasLargeNumber g = SomeIsLarge g g
