-- What the definition says of some axioms, worked out by hand.
use Rattle.std.proofs.Common.{◌≡◌, ℕ, List, [], ◌∷◌, refl, sym, ap, ◌∙◌, inl, inr}
use Rattle.owl_list.proofs.AscendingLaws.{in_cases, in_head, in_none}
use Rattle.graph_walks.specs.Walks.{Walks, here, onward}
use Rattle.graph_walks.proofs.WalkLaws.{one_step, walk_on}
use Rattle.owl_tree.specs.declared.atom.Atom.TheVariants as atom
use Rattle.owl_tree.specs.declared.tag.Tag.{Tag}
use Rattle.owl_tree.specs.declared.tag.Tag.TheVariants as tag
use Rattle.owl_tree.specs.Tags.{number_of}
use Rattle.owl_tree.specs.Trees.{Tree, leaf, node, kids_of}
use Rattle.range_restrictions.specs.Restrictions.{LacksRangeBy, ends_over, ranges_over, steps, steps_over}

abbrev over : Tag → List Tree → Tree
over t kids = node t (kids_of kids)

abbrev axiom_with : Tag → List Tree → Tree
axiom_with t kids = over t (over tag.Notes [] ∷ kids)

abbrev property : List ℕ → Tree
property iri = leaf tag.ObjectProperty (atom.Iri iri)

-- no pairs lead to another
stays : {P : Type 0} (x y : P) → Walks [] x y → x ≡ y
stays x y (here _) = refl
stays x y (onward _ m _ way step) = absurd (in_none (m, y) step)

same_iri : (x y : List ℕ) → property x ≡ property y → x ≡ y
same_iri x y e = cc

module _ (p q r : List ℕ) (class : Tree) where
  abbrev chain : Tree
  chain = axiom_with tag.SubObjectPropertyOf (over tag.ObjectPropertyChain (property p ∷ property q ∷ []) ∷ property r ∷ [])

  abbrev range : Tree
  range = axiom_with tag.ObjectPropertyRange (property r ∷ class ∷ [])

  -- equivalent properties are no step, nor is a chain
  no_steps : steps (axiom_with tag.EquivalentObjectProperties (property q ∷ property r ∷ []) ∷ chain ∷ []) ≡ []
  unfolding steps_over number_of
  no_steps = refl

  -- the last property of the chain lacks the range of the implied one
  lacks : (q ≡ r → ⊥) → LacksRangeBy (chain ∷ range ∷ []) chain
  unfolding steps_over ranges_over ends_over number_of
  lacks differ = record {
    class = class;
    imposed = record { on = property r; leads = here (property r); range = in_head (property r, class) [] };
    lacks = λ given.
        let stay : property q ≡ given.on = stays (property q) given.on given.leads in
        elim (in_cases (property r, class) [] (given.on, class) given.range) as (λ _. ⊥) [
          | inl same ↦ differ (same_iri q r (stay ∙ sym (ap (λ (pair : Tree × Tree). pair.0) same)))
          | inr none ↦ in_none (given.on, class) none
        ];
  }

  -- where it is below that one it has the range
  lacks_none : LacksRangeBy (chain ∷ range ∷ axiom_with tag.SubObjectPropertyOf (property q ∷ property r ∷ []) ∷ []) chain → ⊥
  unfolding steps_over ranges_over ends_over number_of
  lacks_none lacking =
      let step = (property q, property r) ∷ [] in
      lacking.lacks (record {
        on = lacking.imposed.on;
        leads = walk_on step (property q) (property r) lacking.imposed.on (one_step step (property q) (property r) (in_head (property q, property r) [])) lacking.imposed.leads;
        range = lacking.imposed.range;
      })
