use Rattle.std.proofs.Common.{◌≡◌, sym, ◌∙◌}
use Rattle.std.proofs.lemmas.Bool.{both_ways}
use Rattle.std.proofs.lemmas.Slice.Eq.{bytes_eq-Decides}
use Rattle.rdf_meaning.specs.Nodes.{type_iri}
use Rattle.rdf_rows.proofs.CarryingLaws.{of_link, of_type}
use Rattle.rdf_rows.proofs.carried.carried_word.Goals as goal

pub returns-then-is_type_iri : goal.returns-then-is_type_iri
returns-then-is_type_iri c = λ w.
    let t = c.args.triple.now in
    let is : t.predicate ≡ type_iri = (bytes_eq-Decides t.predicate type_iri).0 (sym c.is_type_iri.ensures ∙ c.if-is_type_iri.true) in
    (λ h. (c.word_of_class.ensures w).0 ((of_type w t is).0 h), λ e. (of_type w t is).1 ((c.word_of_class.ensures w).1 e))

pub returns-else-is_type_iri : goal.returns-else-is_type_iri
returns-else-is_type_iri c = λ w.
    let t = c.args.triple.now in
    let not : t.predicate ≡ type_iri → ⊥ = λ e. both_ways c.is_type_iri.result c.if-is_type_iri.false (c.is_type_iri.ensures ∙ (bytes_eq-Decides t.predicate type_iri).1 e) in
    (λ h. (c.word_of_link.ensures w).0 ((of_link w t not).0 h), λ e. (of_link w t not).1 ((c.word_of_link.ensures w).1 e))
