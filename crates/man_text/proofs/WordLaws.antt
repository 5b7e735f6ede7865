-- What is said of an expression by its words means it, as it is written, and is said of no other.
use Rattle.std.proofs.Common.{◌≡◌, ◌⊎◌, inl, inr, Ok, sym, ap, ◌∙◌, subst}
use Rattle.man_raw.specs.Raws.{RawTree}
use Rattle.man_resolve.specs.declared.place.Place.{Place}
use Rattle.man_resolve.specs.declared.place.Place.TheVariants as place
use Rattle.man_resolve.specs.Expressions.{Knows, Told, meant}
use Rattle.owl_tree.specs.Canonical.{canonical}
use Rattle.owl_tree.specs.declared.row.Sort.{Sort}
use Rattle.owl_tree.specs.declared.row.Sort.TheVariants as sort
use Rattle.owl_tree.specs.Rows.{admits}
use Rattle.owl_tree.specs.Trees.{Tree}
use Rattle.written_trees.specs.Written.{written_form}
use Rattle.written_trees.proofs.WrittenLaws.{canonical_written, is_written, written_tag}
use Rattle.man_text.specs.Expressions.{IsExpression, TellsPropertiesApart}
use Rattle.man_text.specs.Undecided.{undecided}
use Rattle.man_text.proofs.ExpressionLaws.{IsClassOrRange, of_class, of_range}
use Rattle.man_text.proofs.ExpressionMeaningLaws.{expression_means}
use Rattle.man_text.proofs.HeadLaws.{typed_written}
use Rattle.man_text.proofs.ShapedExpressionLaws.{facts_at}
use Rattle.man_text.proofs.SortLaws.{sort_at}
use Rattle.man_text.proofs.WrittenAxiomLaws.{clear_said, said_written}

module _ (ks : Knows) (apart : TellsPropertiesApart ks) where
  pub words_mean : (p : Place) (t : Tree) → IsClassOrRange p → IsExpression ks (sort_at p) t → meant ks (undecided (written_form t)) p ≡ Ok (written_form t)
  words_mean p t is h =
      let written = is_written t h.shaped h.canonical in
      let said = said_written t (clear_said t h.clear.properties h.clear.facets) in
      let facts = facts_at (written_form t) written.shaped written.members said in
      expression_means ks apart p (written_form t) (facts.expression p is (ap (admits (sort_at p)) (written_tag t) ∙ h.admitted)) (typed_written ks t h.typed)

  told_once : (r : Told Tree) (t u : Tree) → r ≡ Ok t → r ≡ Ok u → t ≡ u
  told_once r t u e f = cc

  once_at : (p : Place) (t u : Tree) → IsClassOrRange p → IsExpression ks (sort_at p) t → IsExpression ks (sort_at p) u → undecided (written_form t) ≡ undecided (written_form u) → t ≡ u
  once_at p t u is h k e =
      let same = told_once (meant ks (undecided (written_form t)) p) (written_form t) (written_form u) (words_mean p t is h) (ap (λ (r : RawTree). meant ks r p) e ∙ words_mean p u is k) in
      sym h.canonical ∙ sym (canonical_written t) ∙ ap canonical same ∙ canonical_written u ∙ k.canonical

  pub words_once : (s : Sort) (t u : Tree) → (s ≡ sort.ClassExpression) ⊎ (s ≡ sort.DataRange) → IsExpression ks s t → IsExpression ks s u → undecided (written_form t) ≡ undecided (written_form u) → t ≡ u
  words_once s t u (inl e) h k = once_at place.Class t u of_class (subst (λ (r : Sort). IsExpression ks r t) e h) (subst (λ (r : Sort). IsExpression ks r u) e k)
  words_once s t u (inr e) h k = once_at place.Range t u of_range (subst (λ (r : Sort). IsExpression ks r t) e h) (subst (λ (r : Sort). IsExpression ks r u) e k)
