use Rattle.rdf_mapping.proofs.FreeLaws.{free_beside, free_carries, free_tells_none, no_class, property_free}
use Rattle.rdf_mapping.proofs.graph_laws.properties_are_free.Goals as goal

pub returns-clause-free : goal.returns-clause-free
returns-clause-free c = property_free

pub returns-clause-carries : goal.returns-clause-carries
returns-clause-carries c = free_carries

pub returns-clause-beside : goal.returns-clause-beside
returns-clause-beside c = free_beside

pub returns-clause-tells : goal.returns-clause-tells
returns-clause-tells c = free_tells_none

pub returns-clause-no_class : goal.returns-clause-no_class
returns-clause-no_class c = no_class
