-- The test of an IRI's kinds tells its kinds.
use Rattle.std.proofs.Common.{◌≡◌, ℕ, Bool, true, inl, inr}
use Rattle.std.specs.Prelude.{◌↔◌, IsTrue, List}
use Rattle.std.specs.Cmp.{Equal-is, both_ways}
use Rattle.std.specs.List.{list_any}
use Rattle.std.specs.Ordering.{eq_by_cmp}
use Rattle.std.proofs.lemmas.Bool.{or_cases, or_left, or_right}
use Rattle.std.proofs.lemmas.Cmp.{eq_by_cmp_equiv}
use Rattle.std.proofs.lemmas.Map.Views.{Contains-from_any, list_any-from_Contains}
use Rattle.owl_kind.specs.declared.kind.Kind.{Kind}
use Rattle.owl_kind.specs.Kinds.{Entity, HasKind, is_built_in}
use Rattle.owl_kind.specs.Order.{entity_cmp}
use Rattle.owl_kind.proofs.OrderLaws.{entities_total, only_equal_entities_tie}
use Rattle.man_resolve.specs.Expressions.{knows}

module _ (kinds : List Entity) (k : Kind) (iri : List ℕ) where
  abbrev it : Entity
  it = record { kind = k; iri = iri }

  pub knows_told : knows kinds k iri ≡ true → HasKind kinds k iri
  unfolding knows
  knows_told e = elim (or_cases (list_any (eq_by_cmp entity_cmp it) kinds) (is_built_in k iri) e) [
    | inl h ↦ inl (Contains-from_any (λ x y f. only_equal_entities_tie x y ((Equal-is (entity_cmp x y)).0 f)) it kinds h)
    | inr h ↦ inr h
  ]

  pub told_knows : HasKind kinds k iri → knows kinds k iri ≡ true
  unfolding knows
  told_knows (inl h) = or_left (list_any (eq_by_cmp entity_cmp it) kinds) (is_built_in k iri) (list_any-from_Contains (eq_by_cmp_equiv entities_total) it kinds h)
  told_knows (inr h) = or_right (list_any (eq_by_cmp entity_cmp it) kinds) (is_built_in k iri) h

  -- what tells the kinds is this test
  pub known : (result : Bool) → IsTrue result ↔ HasKind kinds k iri → result ≡ knows kinds k iri
  known result h = both_ways result (knows kinds k iri) (λ e. told_knows (h.0 e)) (λ e. h.1 (knows_told e))
