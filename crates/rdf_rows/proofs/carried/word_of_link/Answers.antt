use Rattle.std.proofs.Common.{◌≡◌, true, false, Option, None, Some, sym, ◌∙◌, subst}
use Rattle.std.proofs.lemmas.Bool.{both_ways}
use Rattle.std.proofs.lemmas.Option.{same_Some}
use Rattle.rdf_meaning.specs.declared.word.Word.{Word}
use Rattle.rdf_rows.specs.Carrying.{may_have}
use Rattle.rdf_rows.proofs.Links.{by_name}
use Rattle.rdf_rows.proofs.carried.word_of_link.Goals as goal

none_some : (o : Option Word) (w : Word) → o ≡ None → o ≡ Some w → ⊥
none_some o w e h = cc

pub returns-in_err-word : goal.returns-in_err-word
returns-in_err-word c = λ w. (
  λ h. absurd (none_some c.predicate_word.result w c.in_err-word.was ((by_name c.args.triple.now c.predicate_word.result c.predicate_word.ensures w).0 h).0),
  λ e. absurd (none_some c.from_residual.result w c.from_residual.ensures e),
)

pub returns-then-may_have : goal.returns-then-may_have
returns-then-may_have c = λ w.
    let named = by_name c.args.triple.now c.predicate_word.result c.predicate_word.ensures w in (
      λ h. sym c.in_ok-word.was ∙ (named.0 h).0,
      λ e.
          let may : may_have c.in_ok-word.word c.args.triple.now.object ≡ true = sym c.may_have.ensures ∙ c.if-may_have.true in
          named.1 (c.in_ok-word.was ∙ e, subst (λ v. may_have v c.args.triple.now.object ≡ true) (same_Some c.in_ok-word.word w e) may),
    )

pub returns-else-may_have : goal.returns-else-may_have
returns-else-may_have c = λ w.
    let named = by_name c.args.triple.now c.predicate_word.result c.predicate_word.ensures w in (
      λ h.
          let parts = named.0 h in
          let same = same_Some c.in_ok-word.word w (sym c.in_ok-word.was ∙ parts.0) in
          let may : may_have c.in_ok-word.word c.args.triple.now.object ≡ false = sym c.may_have.ensures ∙ c.if-may_have.false in
          absurd (both_ways _ may (subst (λ v. may_have v c.args.triple.now.object ≡ true) (sym same) parts.1)),
      λ e. absurd (none_some None w (λ i. None) e),
    )
