use Rattle.std.proofs.Common.{refl, sym, subst}
use Rattle.std.specs.Prelude.{IsNone}
use Rattle.std.proofs.lemmas.Bool.{both_ways, ltb-false, true≢false}
use Rattle.rdf_graph.specs.Graphs.{IsNextWith}
use Rattle.rdf_graph.proofs.Index.{next_with, none_behind, none_with}
use Rattle.rdf_graph.proofs.by_object.next_place.Goals as goal

pub returns-in_err-place-clause-none : goal.returns-in_err-place-clause-none
returns-in_err-place-clause-none c = (
  λ h. none_behind c.requires c.count_before.ensures (ltb-false _ _ (sym c.in_err-place.ensures.lookup.0)),
  λ h. subst IsNone (sym c.from_residual.ensures) refl,
)

the_next : (c : goal.Then-has_object) → IsNextWith c.args.triples.now c.args.object.now c.args.from c.in_ok-place.field-0.now
the_next c =
    next_with c.requires c.count_before.ensures c.in_ok-place.field-0.now
    c.in_ok-place.ensures.lookup.3.0 (sym c.in_ok-place.ensures.lookup.1) (c.has_object.ensures.0 c.if-has_object.true)

pub returns-then-has_object-clause-some : goal.returns-then-has_object-clause-some
returns-then-has_object-clause-some c = the_next c

pub returns-then-has_object-clause-none : goal.returns-then-has_object-clause-none
returns-then-has_object-clause-none c = (λ h. absurd (true≢false h), λ none. absurd (none c.in_ok-place.field-0.now (the_next c).behind (the_next c).stands))

pub returns-else-has_object-clause-none : goal.returns-else-has_object-clause-none
returns-else-has_object-clause-none c = (
  λ h. none_with c.requires c.count_before.ensures c.in_ok-place.field-0.now
      c.in_ok-place.ensures.lookup.3.0 (sym c.in_ok-place.ensures.lookup.1) (λ e. both_ways c.has_object.result c.if-has_object.false (c.has_object.ensures.1 e)),
  λ h. refl,
)
