use Rattle.rdf_annotations.proofs.Naming.{property_is}
use Rattle.rdf_annotations.proofs.annotated.Annotated.property.Goals as goal

pub returns : goal.returns
returns c = property_is c.args.self.now.reading.graph.now c.args.self.now.reading.kinds.now c.args.iri.now c.in_ok-copy.field-0 c.requires c.in_ok-copy.ensures
