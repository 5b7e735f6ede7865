use Rattle.std.proofs.Common.{rules, ◌∙◌, sym, subst}
use Rattle.std.specs.Char.{is_ascii_alphanumeric}
use borrow.Author.Tests.{tests}
use Rattle.std.proofs.lemmas.Str.{Bytes-gives, reads_byte}
use Rattle.std.proofs.lemmas.Iterator.{YieldsList}
use Rattle.std.proofs.lemmas.Iterator.Search.{all_from_yields_List}
use Rattle.rdf_terms.proofs.LanguageTags.{run_of_some}
use Rattle.rdf_terms.proofs.language.is_subtag.Goals as goal

pub returns-then-not-is_empty : goal.returns-then-not-is_empty
returns-then-not-is_empty c =
    let chain : YieldsList reads_byte (λ x. x) c.bytes.result c.args.text.now = subst (λ xs. YieldsList reads_byte (λ x. x) c.bytes.result xs) c.bytes.ensures.rest (record { runs = Bytes-gives c.bytes.result }) in
    let is = all_from_yields_List is_ascii_alphanumeric _ _ _ c.all.ensures.ran chain (λ x b q k. search (rules, tests)) in
    run_of_some is_ascii_alphanumeric c.args.text.now _ (sym c.is_empty.ensures ∙ c.if-not-is_empty.true) is
