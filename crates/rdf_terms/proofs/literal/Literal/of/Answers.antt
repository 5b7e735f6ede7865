use Rattle.std.proofs.Common.{◌≡◌, Some, None}
use Rattle.std.specs.Option.{option_map}
use Rattle.std.specs.Str.{chars}
use Rattle.rdf_terms.specs.Literals.{DenotesLiteral, DenotesTyped, LiteralParts}
use Rattle.rdf_terms.proofs.FormLaws.{one_denoted, one_typed}
use Rattle.rdf_terms.proofs.LiteralForms.{alike, given, one_of_two, taken, without_datatype, without_tag}
use Rattle.rdf_terms.proofs.literal.Literal.of.Goals as goal

pub returns-in-Some-clause-bad : goal.returns-in-Some-clause-bad
returns-in-Some-clause-bad c =
    let form = chars c.args.lexical.now in
    let no_tag = one_of_two c.args.datatype c.in-Some.datatype c.args.tag c.requires.apart c.in-Some.is in
    let bad = alike c.of_form.result (DenotesTyped form c.in-Some.datatype) (DenotesLiteral form (Some c.in-Some.datatype) (option_map (λ t. chars t.now) c.args.tag)) (without_tag form c.in-Some.datatype c.args.tag no_tag) c.of_form.ensures.bad in
    rw c.in-Some.is bad

pub returns-in-Some-clause-only : goal.returns-in-Some-clause-only
returns-in-Some-clause-only c =
    let form = chars c.args.lexical.now in
    let tag = option_map (λ t. chars t.now) c.args.tag in
    let no_tag = one_of_two c.args.datatype c.in-Some.datatype c.args.tag c.requires.apart c.in-Some.is in
    let only = given c.of_form.result (DenotesTyped form c.in-Some.datatype) (λ l. (other : LiteralParts) → DenotesLiteral form (Some c.in-Some.datatype) tag other → other ≡ l) (λ l h other k. one_typed form c.in-Some.datatype other l ((without_tag form c.in-Some.datatype c.args.tag no_tag other).1 k) h) c.of_form.ensures.ok in
    rw c.in-Some.is only

pub returns-in-None-clause-only : goal.returns-in-None-clause-only
returns-in-None-clause-only c =
    let form = chars c.args.lexical.now in
    let tag = option_map (λ t. chars t.now) c.args.tag in
    let only = given c.of_tag.result (DenotesLiteral form None tag) (λ l. (other : LiteralParts) → DenotesLiteral form None tag other → other ≡ l) (λ l h other k. one_denoted form None tag other l k h) c.of_tag.ensures.ok in
    rw c.in-None.is only

pub returns-in-None-clause-bad : goal.returns-in-None-clause-bad
returns-in-None-clause-bad c =
    let form = chars c.args.lexical.now in
    let tag = option_map (λ t. chars t.now) c.args.tag in
    let some = without_datatype form tag in
    rw c.in-None.is (taken c.of_tag.result (DenotesLiteral form None tag) some.0 some.1 c.of_tag.ensures.memory)
