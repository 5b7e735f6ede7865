-- The table of Turtle has the alternatives of its page.
use Rattle.std.proofs.Common.{refl}
use Rattle.grammar.specs.Pages.{IsTableOf}
use Rattle.ttl_grammar.specs.Page.{page}
use Rattle.ttl_grammar.specs.Table.{turtle, turtle_document, turtle_statement, turtle_triples, turtle_bracketed_subject, turtle_more_predicates, turtle_subject, turtle_predicates, turtle_other_verbs, turtle_next_verb, turtle_verb, turtle_objects, turtle_other_objects, turtle_object, turtle_collection, turtle_items, turtle_literal, turtle_suffix, turtle_tag, turtle_shorthand, turtle_iri, turtle_iri_name}

pub stands_for_page : IsTableOf page turtle
unfolding turtle turtle_document turtle_statement turtle_triples turtle_bracketed_subject turtle_more_predicates turtle_subject turtle_predicates turtle_other_verbs turtle_next_verb turtle_verb turtle_objects turtle_other_objects turtle_object turtle_collection turtle_items turtle_literal turtle_suffix turtle_tag turtle_shorthand turtle_iri turtle_iri_name
stands_for_page = record { lists = refl; numbers = refl }
