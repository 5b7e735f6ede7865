-- Which rows the triples of one node fit.
use Rattle.std.specs.Prelude.{◌≡◌, List, length, map, slice_index}
use Rattle.rdf_graph.specs.declared.triple.Triple.{Triple}
use Rattle.rdf_meaning.specs.declared.role.Role.{Role}
use Rattle.rdf_meaning.specs.declared.row.Site.TheVariants.{Node}
use Rattle.rdf_meaning.specs.declared.word.Word.{Word}
use Rattle.rdf_meaning.specs.Denotation.{times}
use Rattle.rdf_meaning.specs.Nodes.{words_of}
use Rattle.rdf_meaning.specs.Rows.{Row}
use Rattle.rdf_meaning.specs.Words.{word_number}
use Rattle.rdf_rows.specs.declared.fits.NodeWords.{NodeWords}
use Rattle.rdf_rows.specs.Chosen.{objects_with}

-- so many of the triples carry each word
pub record CountsWords (node : NodeWords) (ts : List Triple) : Type 0 where
  pub counts : (w : Word) → slice_index node.counts (word_number w) ≡ length (objects_with w ts)

-- the row is one of a node of the role with these triples, as `Fits` says it of the node
abbrev pub FitsRow : Role → List Triple → Row → Type 0
FitsRow r ts row = (row.site ≡ Node r) × (map (λ w. length (objects_with w ts)) (words_of r) ≡ map (λ w. times w row.parts) (words_of r))
