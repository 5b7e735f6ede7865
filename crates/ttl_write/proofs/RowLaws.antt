-- The alternatives of the grammar that a written text takes.
use Rattle.std.specs.Prelude.{ℕ, List, [], ◌∷◌}
use Rattle.grammar.specs.Grammars.{Among, entry}
use Rattle.grammar.specs.Grammars.Among.{here, behind}
use Rattle.grammar.specs.declared.symbol.Symbol.{Symbol}
use Rattle.grammar.specs.declared.symbol.Symbol.TheVariants.{Act, Need, Rule}
use Rattle.ttl_grammar.specs.Table.{turtle, turtle_document, turtle_iri, turtle_iri_name, turtle_literal, turtle_object, turtle_objects, turtle_other_objects, turtle_other_verbs, turtle_predicates, turtle_statement, turtle_subject, turtle_suffix, turtle_tag, turtle_triples, turtle_verb}

-- a rule has an alternative of these symbols
pub record Has (r : ℕ) (symbols : List Symbol) : Type 0 where
  pub mask : ℕ
  pub among : Among (record { mask = mask; symbols = symbols }) (entry turtle r).rows

pub document_end : Has 0 []
unfolding turtle turtle_document
document_end = record { mask = 0x80000000000000000000000000000000; among = here }

pub document_more : Has 0 (Rule 1 ∷ Rule 0 ∷ [])
unfolding turtle turtle_document
document_more = record { mask = 0x28c0cf; among = behind here }

pub statement_prefix : Has 1 (Need 6 ∷ Act 17 ∷ Need 2 ∷ Act 18 ∷ Need 0 ∷ Act 20 ∷ Need 16 ∷ [])
unfolding turtle turtle_statement
statement_prefix = record { mask = 0x40; among = here }

pub statement_triples : Has 1 (Rule 2 ∷ Act 20 ∷ Need 16 ∷ [])
unfolding turtle turtle_statement
statement_triples = record { mask = 0x28000f; among = behind (behind (behind (behind here))) }

pub triples_subject : Has 2 (Rule 5 ∷ Act 3 ∷ Rule 6 ∷ [])
unfolding turtle turtle_triples
triples_subject = record { mask = 0x20000f; among = here }

pub subject_iri : Has 5 (Rule 19 ∷ [])
unfolding turtle turtle_subject
subject_iri = record { mask = 0x7; among = here }

pub subject_label : Has 5 (Act 1 ∷ Need 3 ∷ [])
unfolding turtle turtle_subject
subject_label = record { mask = 0x8; among = behind here }

pub predicates_row : Has 6 (Rule 9 ∷ Act 4 ∷ Rule 10 ∷ Rule 7 ∷ [])
unfolding turtle turtle_predicates
predicates_row = record { mask = 0x807; among = here }

pub verbs_end : Has 7 []
unfolding turtle turtle_other_verbs
verbs_end = record { mask = 0x80000000000000000000000000110000; among = here }

pub verb_iri : Has 9 (Rule 19 ∷ [])
unfolding turtle turtle_verb
verb_iri = record { mask = 0x7; among = behind here }

pub objects_row : Has 10 (Rule 12 ∷ Act 5 ∷ Rule 11 ∷ [])
unfolding turtle turtle_objects
objects_row = record { mask = 0x28371f; among = here }

pub objects_end : Has 11 []
unfolding turtle turtle_other_objects
objects_end = record { mask = 0x80000000000000000000000000130000; among = here }

pub object_iri : Has 12 (Rule 19 ∷ [])
unfolding turtle turtle_object
object_iri = record { mask = 0x7; among = here }

pub object_label : Has 12 (Act 1 ∷ Need 3 ∷ [])
unfolding turtle turtle_object
object_label = record { mask = 0x8; among = behind here }

pub object_literal : Has 12 (Rule 15 ∷ [])
unfolding turtle turtle_object
object_literal = record { mask = 0x3710; among = behind (behind (behind here)) }

pub literal_text : Has 15 (Act 12 ∷ Need 4 ∷ Rule 16 ∷ [])
unfolding turtle turtle_literal
literal_text = record { mask = 0x10; among = here }

pub suffix_plain : Has 16 (Act 13 ∷ [])
unfolding turtle turtle_suffix
suffix_plain = record { mask = 0x800000000000000000000000007f371f; among = here }

pub suffix_tagged : Has 16 (Act 14 ∷ Rule 17 ∷ [])
unfolding turtle turtle_suffix
suffix_tagged = record { mask = 0xe0; among = behind here }

pub suffix_typed : Has 16 (Need 23 ∷ Act 15 ∷ Rule 20 ∷ [])
unfolding turtle turtle_suffix
suffix_typed = record { mask = 0x800000; among = behind (behind here) }

pub tag_language : Has 17 (Need 5 ∷ [])
unfolding turtle turtle_tag
tag_language = record { mask = 0x20; among = here }

pub tag_prefix : Has 17 (Need 6 ∷ [])
unfolding turtle turtle_tag
tag_prefix = record { mask = 0x40; among = behind here }

pub tag_base : Has 17 (Need 7 ∷ [])
unfolding turtle turtle_tag
tag_base = record { mask = 0x80; among = behind (behind here) }

pub iri_row : Has 19 (Act 0 ∷ Rule 20 ∷ [])
unfolding turtle turtle_iri
iri_row = record { mask = 0x7; among = here }

pub iri_reference : Has 20 (Need 0 ∷ [])
unfolding turtle turtle_iri_name
iri_reference = record { mask = 0x1; among = here }

pub iri_prefixed : Has 20 (Need 1 ∷ [])
unfolding turtle turtle_iri_name
iri_prefixed = record { mask = 0x2; among = behind here }
