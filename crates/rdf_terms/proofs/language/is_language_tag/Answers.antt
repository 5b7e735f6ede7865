use Rattle.std.proofs.Common.{rules, ◌≡◌, ◌∙◌, sym, lit<}
use Rattle.std.specs.Char.{is_ascii_alphabetic, is_ascii_alphanumeric}
use Rattle.std.specs.List.{list_all, slice_split}
use Rattle.std.specs.Prelude.{◌==◌}
use borrow.Author.Tests.{tests}
use Rattle.std.proofs.lemmas.Bool.{both_ways}
use Rattle.std.proofs.lemmas.Iterator.Search.{all_from_yields_List}
use Rattle.std.proofs.lemmas.Iterator.Splits.{YieldsList-from_str_split}
use Rattle.rdf_terms.specs.Characters.{is_run_of}
use Rattle.rdf_terms.proofs.LanguageTags.{first_part, one_part, run_is, runs_are, tag_of_bytes}
use Rattle.rdf_terms.proofs.language.is_language_tag.Goals as goal

pub returns-then-is_word : goal.returns-then-is_word
returns-then-is_word c =
    let parts = slice_split (λ b. b == 0x2D) c.in-Some.rest.now in
    let is : c.all.result ≡ list_all (is_run_of is_ascii_alphanumeric) parts = all_from_yields_List (is_run_of is_ascii_alphanumeric) _ _ _ c.all.ensures.ran (YieldsList-from_str_split 0x2D c.in-Some.rest.now (lit< tt) c.split.ensures.text c.split.ensures.has_more c.split.ensures.pattern) (λ x b q k. search (rules, tests)) in
    let bytes = tag_of_bytes c.args.text.now c.utf8.text in
    let cut = first_part c.args.text.now c.in-Some.first c.in-Some.rest c.in-Some.ensures.cases in
    let first = (run_is is_ascii_alphabetic c.in-Some.first.now).0 (sym c.is_word.ensures ∙ c.if-is_word.true) in (
      λ t. bytes.0 (cut.0 (first, (runs_are is_ascii_alphanumeric parts).0 (sym is ∙ t))),
      λ h. is ∙ (runs_are is_ascii_alphanumeric parts).1 (cut.1 (bytes.1 h)).1,
    )

pub returns-else-is_word : goal.returns-else-is_word
returns-else-is_word c =
    let bytes = tag_of_bytes c.args.text.now c.utf8.text in
    let cut = first_part c.args.text.now c.in-Some.first c.in-Some.rest c.in-Some.ensures.cases in (
      λ t. absurd (both_ways c.is_word.result c.if-is_word.false t),
      λ h. c.is_word.ensures ∙ (run_is is_ascii_alphabetic c.in-Some.first.now).1 (cut.1 (bytes.1 h)).0,
    )

pub returns-in-None : goal.returns-in-None
returns-in-None c =
    let bytes = tag_of_bytes c.args.text.now c.utf8.text in
    let whole = one_part c.args.text.now c.in-None.ensures.cases in
    let run = run_is is_ascii_alphabetic c.args.text.now in (
      λ t. bytes.0 (whole.0 (run.0 (sym c.is_word-in-None.ensures ∙ t))),
      λ h. c.is_word-in-None.ensures ∙ run.1 (whole.1 (bytes.1 h)),
    )
