use Rattle.rdf_mapping.proofs.FormSortLaws.{list_sort, made_sort, twice_sort}
use Rattle.rdf_mapping.proofs.graph_laws.forms_make_their_nodes.Goals as goal

pub returns-clause-made : goal.returns-clause-made
returns-clause-made c = made_sort

pub returns-clause-list : goal.returns-clause-list
returns-clause-list c = list_sort

pub returns-clause-twice : goal.returns-clause-twice
returns-clause-twice c = twice_sort
