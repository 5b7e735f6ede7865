use Rattle.std.proofs.Common.{sym, ◌∙◌}
use Rattle.std.proofs.lemmas.Slice.Eq.{bytes_eq-Decides}
use Rattle.rdf_meaning.specs.Nodes.{type_iri}
use Rattle.rdf_rows.proofs.Siting.{linked, typed}
use Rattle.rdf_rows.proofs.site.site_of.Goals as goal

pub returns-then-is_type_iri : goal.returns-then-is_type_iri
returns-then-is_type_iri c =
    let t = c.args.triple.now in
    let is = (bytes_eq-Decides t.predicate type_iri).0 (sym c.is_type_iri.ensures ∙ c.if-is_type_iri.true) in
    c.typed_site.ensures ∙ typed t c.word_of_class.result is c.word_of_class.ensures

pub returns-else-is_type_iri : goal.returns-else-is_type_iri
returns-else-is_type_iri c =
    c.linked_site.ensures ∙ linked c.args.triple.now c.predicate_word.result (sym c.is_type_iri.ensures ∙ c.if-is_type_iri.false) c.predicate_word.ensures
