-- Composite properties by numbers.
use Rattle.std.proofs.Common.{◌≡◌, ◌++◌, ℕ, List, [], ◌∷◌, Option, None, Some, map, refl, sym, ap, ◌∙◌, append_assoc, append-nil}
use Rattle.std.specs.List.{flat_map}
use Rattle.std.specs.Option.{option_map}
use Rattle.std.proofs.lemmas.Grind.{flat_map-append}
use Rattle.std.proofs.lemmas.List.{map-append}
use Rattle.std.proofs.lemmas.Option.{none-some, same_Some}
use Rattle.dl_rules.specs.Logical.{operands}
use Rattle.dl_rules.specs.Properties.{Chain, Property, chain_of, composites, bottom_property, composites_of, implied_by, inverse, properties_in, top_property, transitive_over, with_inverse}
use Rattle.owl_arena.specs.Held.{tree_at, trees_at}
use Rattle.owl_tree.specs.declared.tag.Tag.{Tag}
use Rattle.owl_tree.specs.declared.tag.Tag.TheVariants as tag
use Rattle.owl_tree.specs.Trees.{Tree, tag_of}
use Rattle.property_hierarchy.specs.Numbers.{both_of, inverse_number, number_of, numbered_chain, numbers_in, transitive_by}
use Rattle.property_hierarchy.specs.declared.numbers.PropertyNumber.{PropertyNumber}

none_transitive : (u : Tag) (ps : List Property) → (u ≡ tag.TransitiveObjectProperty → ⊥) → transitive_over u ps ≡ []
unfolding transitive_over
none_transitive tag.TransitiveObjectProperty ps h = absurd (h refl)
none_transitive _ ps h = refl

all_transitive : (ps : List Property) → transitive_over tag.TransitiveObjectProperty ps ≡ ps
unfolding transitive_over
all_transitive ps = refl

module _ (ts : List Tree) where
  numbered_both_of : (ps : List Property) → map (number_of ts) (flat_map (with_inverse inverse) ps) ≡ both_of ts ps
  numbered_both_of [] = refl
  numbered_both_of (p ∷ ps) = ap (λ (more : List PropertyNumber). number_of ts p ∷ inverse_number (number_of ts p) ∷ more) (numbered_both_of ps)

  both_of_both : (ps qs : List Property) → both_of ts (ps ++ qs) ≡ both_of ts ps ++ both_of ts qs
  both_of_both ps qs =
      ap (flat_map (with_inverse inverse_number)) (map-append (number_of ts) ps qs) ∙ flat_map-append (with_inverse inverse_number) (map (number_of ts) ps) (map (number_of ts) qs)

  -- behind what a chain implies, what is transitive
  pub composites_at : (t : Tree) (old middle new : List PropertyNumber) → middle ≡ old ++ both_of ts (implied_by (chain_of t)) → new ≡ middle ++ both_of ts (transitive_by t) →
      new ≡ old ++ map (number_of ts) (flat_map composites_of (t ∷ []))
  composites_at t old middle new first second =
      let all = implied_by (chain_of t) ++ transitive_by t in
      let one : flat_map composites_of (t ∷ []) ≡ composites_of t = append-nil (composites_of t) in
      second ∙ (ap (λ (ns : List PropertyNumber). ns ++ both_of ts (transitive_by t)) first
      ∙ (append_assoc old (both_of ts (implied_by (chain_of t))) (both_of ts (transitive_by t))
      ∙ ap (λ (ns : List PropertyNumber). old ++ ns) (sym (both_of_both (implied_by (chain_of t)) (transitive_by t))
      ∙ (sym (numbered_both_of all) ∙ ap (map (number_of ts)) (sym one)))))

  none_implied : (o : Option (Chain Property)) (old : List PropertyNumber) → None ≡ option_map (numbered_chain ts) o → old ≡ old ++ both_of ts (implied_by o)
  none_implied None old h = sym (append-nil old)
  none_implied (Some chain) old h = absurd (none-some (numbered_chain ts chain) h)

  pub implied_none : (t : Tree) (old : List PropertyNumber) → None ≡ option_map (numbered_chain ts) (chain_of t) → old ≡ old ++ both_of ts (implied_by (chain_of t))
  implied_none t old h = none_implied (chain_of t) old h

  one_implied : (o : Option (Chain Property)) (seen : Chain PropertyNumber) (old : List PropertyNumber) → Some seen ≡ option_map (numbered_chain ts) o →
      old ++ flat_map (with_inverse inverse_number) (seen.implied ∷ []) ≡ old ++ both_of ts (implied_by o)
  one_implied None seen old h = absurd (none-some seen (sym h))
  one_implied (Some chain) seen old h =
      ap (λ (c : Chain PropertyNumber). old ++ flat_map (with_inverse inverse_number) (c.implied ∷ [])) (same_Some seen (numbered_chain ts chain) h)

  pub implied_one : (t : Tree) (seen : Chain PropertyNumber) (implied : PropertyNumber) (old new : List PropertyNumber) → Some seen ≡ option_map (numbered_chain ts) (chain_of t) → implied ≡ seen.implied →
      new ≡ old ++ flat_map (with_inverse inverse_number) (implied ∷ []) → new ≡ old ++ both_of ts (implied_by (chain_of t))
  implied_one t seen implied old new h e more =
      more ∙ (ap (λ (n : PropertyNumber). old ++ flat_map (with_inverse inverse_number) (n ∷ [])) e ∙ one_implied (chain_of t) seen old h)

  pub transitive_none : (t : Tree) (old : List PropertyNumber) → (tag_of t ≡ tag.TransitiveObjectProperty → ⊥) → old ≡ old ++ both_of ts (transitive_by t)
  transitive_none t old h =
      sym (ap (λ (ps : List Property). old ++ both_of ts ps) (none_transitive (tag_of t) (properties_in (operands t)) h) ∙ append-nil old)

  pub transitive_all : (t : Tree) (us : List Tree) (more old new : List PropertyNumber) → tag_of t ≡ tag.TransitiveObjectProperty → us ≡ operands t → more ≡ numbers_in ts us →
      new ≡ old ++ flat_map (with_inverse inverse_number) more → new ≡ old ++ both_of ts (transitive_by t)
  transitive_all t us more old new e are is made =
      let ps : List Property = properties_in (operands t) in
      let all : transitive_over (tag_of t) ps ≡ ps = ap (λ (u : Tag). transitive_over u ps) e ∙ all_transitive ps in
      made ∙ (ap (λ (ns : List PropertyNumber). old ++ flat_map (with_inverse inverse_number) ns) (is ∙ ap (numbers_in ts) are)
      ∙ sym (ap (λ (qs : List Property). old ++ both_of ts qs) all))

  pub composites_both : (xs ys : List ℕ) → map (number_of ts) (composites (trees_at ts (xs ++ ys))) ≡ map (number_of ts) (composites (trees_at ts xs)) ++ map (number_of ts) (flat_map composites_of (trees_at ts ys))
  composites_both xs ys =
      ap (λ (axioms : List Tree). map (number_of ts) (composites axioms)) (map-append (tree_at ts) xs ys)
      ∙ (ap (λ (ps : List Property). map (number_of ts) (top_property ∷ bottom_property ∷ ps)) (flat_map-append composites_of (trees_at ts xs) (trees_at ts ys))
      ∙ map-append (number_of ts) (composites (trees_at ts xs)) (flat_map composites_of (trees_at ts ys)))
