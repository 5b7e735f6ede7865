use Rattle.std.proofs.Common.{◌≡◌, IfOk, arith, subst, ap, ◌∙◌}
use Rattle.std.specs.Fmt.{decimal}
use Rattle.std.specs.Str.{chars}
use Rattle.std.proofs.lemmas.Fmt.{IsAscii-decimal}
use Rattle.std.proofs.lemmas.Str.{chars-IsAscii}
use Rattle.rdf_terms.specs.Literals.{of_datatype}
use Rattle.rdf_mapping.proofs.WordTexts.{of_xml_schema}
use Rattle.rdf_mapping.proofs.words.number_literal.Goals as goal

pub typed-requires : goal.typed-requires
typed-requires c = of_xml_schema _ c.in_ok-datatype.datatype c.in_ok-datatype.ensures

pub returns : goal.returns
returns c =
    let form : chars c.deref.result.now ≡ decimal c.args.number =
    ap chars (c.deref.ensures ∙ c.in_ok-digits.ensures.ok) ∙ chars-IsAscii (decimal c.args.number) (IsAscii-decimal c.args.number (omega (arith, c.ranges.number))) in
    subst (λ d. IfOk c.typed.result (λ literal. literal ≡ of_datatype (decimal c.args.number) d)) c.in_ok-datatype.ensures
    (subst (λ x. IfOk c.typed.result (λ literal. literal ≡ of_datatype x c.in_ok-datatype.datatype)) form c.typed.ensures)
