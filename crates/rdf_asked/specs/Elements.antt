-- What the elements of a list have to be.
use Rattle.std.specs.Prelude.{Bool, List}
use Rattle.owl_kind.specs.Kinds.{Entity}
use Rattle.rdf_graph.specs.declared.term.Term.{Term}
use Rattle.rdf_graph.specs.declared.triple.Triple.{Triple}
use Rattle.rdf_faults.specs.Asked.{is_key, is_of_sort}
use Rattle.rdf_asked.specs.declared.elements.Element.{Element}
use Rattle.rdf_asked.specs.declared.elements.Element.TheVariants.{OfSort, Key}

abbrev pub is_element : List Triple → List Entity → Element → Term → Bool
is_element g k (OfSort s) x = is_of_sort g k s x
is_element g k Key x = is_key g k x
