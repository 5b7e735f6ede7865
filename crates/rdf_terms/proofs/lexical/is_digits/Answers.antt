use Rattle.std.proofs.Common.{not, subst}
use Rattle.std.specs.Char.{is_ascii_digit}
use Rattle.owl_characters.specs.Names.{IsRunOf}
use Rattle.std.proofs.lemmas.Bool.{both_ways, not_from_true}
use Rattle.rdf_terms.proofs.Characters.{empty_chars, some_chars}
use Rattle.rdf_terms.proofs.LexicalForms.{all_run, run_all}
use Rattle.rdf_terms.proofs.lexical.is_digits.Goals as goal

pub returns-then-not-is_empty : goal.returns-then-not-is_empty
returns-then-not-is_empty c = (
  λ t. all_run _ _ (some_chars c.is_empty.result c.args.text.now c.utf8.text c.is_empty.ensures c.if-not-is_empty.true) (c.are_digits.ensures.0 t),
  λ r. c.are_digits.ensures.1 (run_all _ _ r),
)

pub returns-else-not-is_empty : goal.returns-else-not-is_empty
returns-else-not-is_empty c =
    let empty = empty_chars c.is_empty.result c.args.text.now c.is_empty.ensures c.if-not-is_empty.false in (
      λ t. absurd (both_ways (not c.is_empty.result) (not_from_true c.is_empty.result c.if-not-is_empty.false) t),
      λ r. absurd (subst (IsRunOf is_ascii_digit) empty r),
    )
