-- The one triple of which a node is the object, where there is one.
use Rattle.std.specs.Prelude.{◌≡◌, ◌<◌, ℕ, false, List, [], ◌∷◌, length, Some, slice_get, get_or}
use Rattle.std.proofs.Common.{sym, ap, ◌∙◌, subst}
use Rattle.std.proofs.lemmas.Option.{same_Some, slice_get_within}
use Rattle.owl_list.proofs.EachOnceLaws.{there}
use Rattle.rdf_graph.specs.declared.term.Term.TheVariants.{Blank}
use Rattle.rdf_graph.specs.declared.triple.Triple.{Triple}
use Rattle.rdf_roles.specs.Tables.{blank_nodes}
use Rattle.ttl_levels.specs.Nested.{is_nestable}
use Rattle.ttl_levels.specs.NestTables.{AreNamed, IsNamedSo, IsNamer, IsOnceAt}
use Rattle.ttl_levels.specs.declared.named.Named.{Named}
use Rattle.ttl_levels.specs.declared.named.Named.TheVariants.{Once}
use Rattle.ttl_levels.proofs.NestableLaws.{is_once, once_is_told}
use Rattle.ttl_levels.proofs.NestLaws.{named_otherwise}
use Rattle.ttl_levels.proofs.Setting.{stands_there}

module _ (g : List Triple) (names : List Named) (number : ℕ) (label : List ℕ) (named other : Named) (are : AreNamed g g names) (at : slice_get (blank_nodes g) number ≡ Some label) (is : named ≡ get_or names number named) (same : named ≡ other) where
  pub named_there : IsNamedSo g g (Blank label) other
  named_there =
      let within = subst (λ n. number < n) (sym are.size) (slice_get_within (blank_nodes g) number label at) in
      subst (IsNamedSo g g (Blank label)) same (are.each number label named at (stands_there names number named within is))

  pub not_once : is_once other ≡ false → is_nestable g (Blank label) ≡ false
  not_once none = named_otherwise g (Blank label) (sym (once_is_told g (Blank label) other named_there) ∙ none)

module _ (g : List Triple) (names : List Named) (number : ℕ) (label : List ℕ) (named : Named) (place : ℕ) (are : AreNamed g g names) (at : slice_get (blank_nodes g) number ≡ Some label) (is : named ≡ get_or names number named) (same : named ≡ Once place) where
  once : IsOnceAt g g (Blank label) place
  once = named_there g names number label named (Once place) are at is same

  pub the_namer : (t : Triple) → slice_get g place ≡ Some t → IsNamer g (Blank label) t
  the_namer t e =
      let is_t : once.triple ≡ t = same_Some once.triple t (sym once.at ∙ e) in
      (there g place t e, once.only ∙ ap (λ (u : Triple). u ∷ []) is_t)

  pub no_place : (place < length g → ⊥) → ⊥
  no_place h = h (slice_get_within g place once.triple once.at)
