use Rattle.rdf_mapping.specs.SiteLaws.{linked_site, other_link_site, other_type_site, typed_site}
use Rattle.rdf_mapping.proofs.laws.axioms_are_told_by_their_triples.Goals as goal

pub returns-clause-predicate : goal.returns-clause-predicate
returns-clause-predicate c = linked_site

pub returns-clause-class : goal.returns-clause-class
returns-clause-class c = typed_site

pub returns-clause-other_class : goal.returns-clause-other_class
returns-clause-other_class c = other_type_site

pub returns-clause-other_predicate : goal.returns-clause-other_predicate
returns-clause-other_predicate c = other_link_site
