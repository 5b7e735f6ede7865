use Rattle.std.proofs.Common.{sym, ap, ◌∙◌}
use Rattle.std.specs.Prelude.{◌&&◌}
use Rattle.rdf_graph.specs.declared.term.Term.TheVariants.{Iri}
use Rattle.rdf_meaning.specs.Nodes.{is_same}
use Rattle.rdf_meaning.specs.Words.{word_iri}
use Rattle.rdf_rows.specs.Carrying.{may_have}
use Rattle.rdf_rows.proofs.CarryingLaws.{by_class, by_link}
use Rattle.rdf_rows.proofs.carried.carries.Goals as goal

pub returns-then-is_type_iri : goal.returns-then-is_type_iri
returns-then-is_type_iri c =
    sym (ap (λ b. b && c.is_class.result) c.if-is_type_iri.true) ∙ (λ i. c.is_type_iri.ensures i && c.is_class.ensures i)
    ∙ sym (by_class c.args.word c.args.triple.now (sym c.is_type.ensures ∙ c.if-is_type.true))

pub returns-else-is_type_iri : goal.returns-else-is_type_iri
returns-else-is_type_iri c =
    let class = is_same c.args.triple.now.object (Iri (word_iri c.args.word)) in
    c.if-is_type_iri.false ∙ sym (ap (λ b. b && class) c.if-is_type_iri.false) ∙ ap (λ b. b && class) c.is_type_iri.ensures
    ∙ sym (by_class c.args.word c.args.triple.now (sym c.is_type.ensures ∙ c.if-is_type.true))

pub returns-then-has_iri : goal.returns-then-has_iri
returns-then-has_iri c =
    sym (ap (λ b. b && c.may_have.result) c.if-has_iri.true) ∙ (λ i. c.has_iri.ensures i && c.may_have.ensures i)
    ∙ sym (by_link c.args.word c.args.triple.now (sym c.is_type.ensures ∙ c.if-is_type.false))

pub returns-else-has_iri : goal.returns-else-has_iri
returns-else-has_iri c =
    let object = may_have c.args.word c.args.triple.now.object in
    c.if-has_iri.false ∙ sym (ap (λ b. b && object) c.if-has_iri.false) ∙ ap (λ b. b && object) c.has_iri.ensures
    ∙ sym (by_link c.args.word c.args.triple.now (sym c.is_type.ensures ∙ c.if-is_type.false))
