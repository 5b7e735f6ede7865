-- The words that triples carry.
use Rattle.std.specs.Prelude.{Bool, false, not, ◌||◌, Option, None, Some}
use Rattle.rdf_graph.specs.declared.term.Term.{Term}
use Rattle.rdf_meaning.specs.declared.word.Word.{Word}
use Rattle.rdf_meaning.specs.declared.word.Word.TheVariants as word
use Rattle.rdf_meaning.specs.Nodes.{is_iri, is_word}

-- the object may stand beside the predicate
unfoldable pub may_have : Word → Term → Bool
may_have w x = not (is_word w word.InverseOf) || is_iri x

-- the word is this one
abbrev pub is_the : Option Word → Word → Bool
is_the None w = false
is_the (Some v) w = is_word w v
