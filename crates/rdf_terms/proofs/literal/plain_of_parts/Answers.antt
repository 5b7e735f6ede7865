use Rattle.std.proofs.Common.{◌≡◌, refl, sym, subst}
use Rattle.std.specs.Str.{chars}
use Rattle.rdf_terms.specs.Literals.{PlainParts, of_datatype, string, with_tag}
use Rattle.rdf_terms.proofs.Characters.{empty_chars, some_chars}
use Rattle.rdf_terms.proofs.LiteralForms.{given, no_parts, parts_of_tag, refused, taken}
use Rattle.std.proofs.lemmas.Bool.{both_ways}
use Rattle.rdf_terms.proofs.literal.plain_of_parts.Goals as goal

pub returns-then-is_empty-clause-ok : goal.returns-then-is_empty-clause-ok
returns-then-is_empty-clause-ok c =
    let text = chars c.args.text.now in
    let none = empty_chars c.is_empty.result c.args.rest.now c.is_empty.ensures c.if-is_empty.true in
    given c.string_of.result (λ l. l ≡ of_datatype text string) (λ l. PlainParts text (chars c.args.rest.now) l) (λ l h. subst (λ x. PlainParts text x l) (sym none) h) c.string_of.ensures.ok

pub returns-then-is_empty-clause-bad : goal.returns-then-is_empty-clause-bad
returns-then-is_empty-clause-bad c =
    let text = chars c.args.text.now in
    let none = empty_chars c.is_empty.result c.args.rest.now c.is_empty.ensures c.if-is_empty.true in
    taken c.string_of.result (λ l. PlainParts text (chars c.args.rest.now) l) (of_datatype text string) (subst (λ x. PlainParts text x (of_datatype text string)) (sym none) refl) c.string_of.ensures.memory

pub returns-then-is_language_tag-clause-bad : goal.returns-then-is_language_tag-clause-bad
returns-then-is_language_tag-clause-bad c =
    let text = chars c.args.text.now in
    let rest = chars c.args.rest.now in
    taken c.tagged.result (λ l. PlainParts text rest l) (with_tag text rest) (parts_of_tag text rest (c.is_language_tag.ensures.0 c.if-is_language_tag.true)) c.tagged.ensures.memory

pub returns-else-is_language_tag-clause-bad : goal.returns-else-is_language_tag-clause-bad
returns-else-is_language_tag-clause-bad c =
    let some = some_chars c.is_empty.result c.args.rest.now c.utf8.rest c.is_empty.ensures c.if-is_empty.false in
    refused (λ l. PlainParts (chars c.args.text.now) (chars c.args.rest.now) l) (no_parts (chars c.args.text.now) (chars c.args.rest.now) some (λ t. both_ways c.is_language_tag.result c.if-is_language_tag.false (c.is_language_tag.ensures.1 t)))
