use Rattle.std.proofs.Common.{◌≡◌, IfOk, subst, refl}
use Rattle.std.specs.Prelude.{codes}
use Rattle.owl_characters.proofs.AsciiLaws.{ascii_chars}
use Rattle.rdf_terms.specs.Literals.{of_datatype}
use Rattle.rdf_mapping.proofs.WordTexts.{of_xml_schema}
use Rattle.rdf_mapping.proofs.words.true_literal.Goals as goal

pub typed-requires : goal.typed-requires
typed-requires c = of_xml_schema _ c.in_ok-datatype.datatype c.in_ok-datatype.ensures

pub returns : goal.returns
returns c =
    subst (λ d. IfOk c.typed.result (λ literal. literal ≡ of_datatype (codes "true") d)) c.in_ok-datatype.ensures
    (subst (λ x. IfOk c.typed.result (λ literal. literal ≡ of_datatype x c.in_ok-datatype.datatype)) (ascii_chars _ refl) c.typed.ensures)
