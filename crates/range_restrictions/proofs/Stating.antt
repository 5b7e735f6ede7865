-- What axioms say of object properties.
use Rattle.std.proofs.Common.{◌≡◌, ◌<◌, ◌≤◌, ◌-◌, ℕ, zero, suc, Bool, true, false, Option, None, Some, List, [], ◌∷◌, get_or, length, map, refl, sym, ap, ◌∙◌, subst, arith}
use Rattle.std.specs.Prelude.{if◌then◌else◌}
use Rattle.std.specs.List.{AllByRecursion, last_or}
use Rattle.std.specs.Option.{option_map, option_to_list}
use Rattle.std.proofs.lemmas.List.{length-map}
use Rattle.owl_list.proofs.AscendingLaws.{all_in}
use Rattle.owl_arena.specs.Held.{AreHeld, tree_at, trees_at}
use Rattle.owl_tree.specs.declared.tag.Tag.{Tag}
use Rattle.owl_tree.specs.declared.tag.Tag.TheVariants as tag
use Rattle.owl_tree.specs.OrderLaws.{same_tag}
use Rattle.owl_tree.specs.Rows.{is_tag}
use Rattle.owl_tree.specs.Trees.{Tree, leaf, node, kids_in, list_of, tag_of}
use Rattle.range_restrictions.specs.Restrictions.{ends_over, ranges_over, steps_over}
use Rattle.range_restrictions.specs.Statements.{ArePairs, IsStatement, chain_in, range_in, step_in}
use Rattle.range_restrictions.specs.declared.statements.Statement.{Statement}
use Rattle.range_restrictions.specs.declared.statements.Statement.TheVariants.{Step, Range, Chain}

-- Pairs.

no_pairs : (ts : List Tree) → ArePairs ts [] []
no_pairs ts = record { trees = refl; held = tt }

one_pair : (ts : List Tree) (a b : ℕ) → a < length ts → b < length ts → ArePairs ts ((tree_at ts a, tree_at ts b) ∷ []) ((a, b) ∷ [])
one_pair ts a b h k = record { trees = refl; held = ((h, k), tt) }

-- Axioms with other tags, and with other numbers of operands.

no_step_over : (t : Tag) (us : List Tree) → (t ≡ tag.SubObjectPropertyOf → ⊥) → steps_over t us ≡ []
unfolding steps_over
no_step_over tag.SubObjectPropertyOf us h = absurd (h refl)
no_step_over _ us h = refl

no_range_over : (t : Tag) (us : List Tree) → (t ≡ tag.ObjectPropertyRange → ⊥) → ranges_over t us ≡ []
unfolding ranges_over
no_range_over tag.ObjectPropertyRange us h = absurd (h refl)
no_range_over _ us h = refl

no_ends_over : (t : Tag) (us : List Tree) → (t ≡ tag.SubObjectPropertyOf → ⊥) → ends_over t us ≡ None
unfolding ends_over
no_ends_over tag.SubObjectPropertyOf us h = absurd (h refl)
no_ends_over _ us h = refl

no_step_by : (us : List Tree) → (length us ≡ 2 → ⊥) → steps_over tag.SubObjectPropertyOf us ≡ []
unfolding steps_over
no_step_by [] h = refl
no_step_by (u ∷ []) h = refl
no_step_by (u ∷ v ∷ []) h = absurd (h refl)
no_step_by (u ∷ v ∷ w ∷ us) h = refl

no_range_by : (us : List Tree) → (length us ≡ 2 → ⊥) → ranges_over tag.ObjectPropertyRange us ≡ []
unfolding ranges_over
no_range_by [] h = refl
no_range_by (u ∷ []) h = refl
no_range_by (u ∷ v ∷ []) h = absurd (h refl)
no_range_by (u ∷ v ∷ w ∷ us) h = refl

no_ends_by : (us : List Tree) → (length us ≡ 2 → ⊥) → ends_over tag.SubObjectPropertyOf us ≡ None
unfolding ends_over
no_ends_by [] h = refl
no_ends_by (leaf t a ∷ us) h = refl
no_ends_by (node tag.ObjectPropertyChain ks ∷ []) h = refl
no_ends_by (node tag.ObjectPropertyChain ks ∷ u ∷ []) h = absurd (h refl)
no_ends_by (node tag.ObjectPropertyChain ks ∷ u ∷ v ∷ us) h = refl
no_ends_by (node _ ks ∷ us) h = refl

-- Two operands.

false_unless : (b : Bool) → (b ≡ true → ⊥) → b ≡ false
false_unless true differs = absurd (differs refl)
false_unless false differs = refl

abbrev step_unless : Bool → Tree → Tree → List (Tree × Tree)
step_unless chain u v = if chain then [] else (u, v) ∷ []

step_by : (u v : Tree) → (tag_of u ≡ tag.ObjectPropertyChain → ⊥) → steps_over tag.SubObjectPropertyOf (u ∷ v ∷ []) ≡ (u, v) ∷ []
unfolding steps_over
step_by u v other =
    ap (λ (chain : Bool). step_unless chain u v)
    (false_unless (is_tag tag.ObjectPropertyChain (tag_of u)) (λ e. other (sym ((same_tag tag.ObjectPropertyChain (tag_of u)).0 e))))

no_step_of : (u v : Tree) → tag_of u ≡ tag.ObjectPropertyChain → steps_over tag.SubObjectPropertyOf (u ∷ v ∷ []) ≡ []
unfolding steps_over
no_step_of u v e = ap (λ (chain : Bool). step_unless chain u v) ((same_tag tag.ObjectPropertyChain (tag_of u)).1 (sym e))

no_ends_of : (u v : Tree) → (tag_of u ≡ tag.ObjectPropertyChain → ⊥) → ends_over tag.SubObjectPropertyOf (u ∷ v ∷ []) ≡ None
unfolding ends_over
no_ends_of (leaf t a) v h = refl
no_ends_of (node tag.ObjectPropertyChain ks) v h = absurd (h refl)
no_ends_of (node _ ks) v h = refl

ends_by : (u v : Tree) → tag_of u ≡ tag.ObjectPropertyChain → ends_over tag.SubObjectPropertyOf (u ∷ v ∷ []) ≡ option_map (λ last. (last, v)) (last_or None (kids_in u))
unfolding ends_over
ends_by (leaf t a) v e = refl
ends_by (node t ks) v e =
    subst (λ (w : Tag). ends_over tag.SubObjectPropertyOf (node w ks ∷ v ∷ []) ≡ option_map (λ last. (last, v)) (last_or None (list_of ks))) (sym e) refl

-- the last of some trees, by its number
last_by : {X : Type 0} (f : ℕ → X) (o : Option X) (ids : List ℕ) (k d : ℕ) → length ids ≡ suc k → last_or o (map f ids) ≡ Some (f (get_or ids k d))
last_by f o [] k d h = absurd (cc)
last_by f o (id ∷ []) zero d h = refl
last_by f o (id ∷ []) (suc k) d h = absurd (cc)
last_by f o (id ∷ next ∷ ids) zero d h = absurd (cc)
last_by f o (id ∷ next ∷ ids) (suc k) d h = last_by f (Some (f id)) (next ∷ ids) k d (cc)

module _ (ts : List Tree) where
  -- what is said, by what the definitions give
  says : (t : Tag) (us : List Tree) (said : Option Statement) (step range : List (Tree × Tree)) (ends : Option (Tree × Tree)) → steps_over t us ≡ step → ranges_over t us ≡ range → ends_over t us ≡ ends →
      ArePairs ts step (step_in said) → ArePairs ts range (range_in said) → ArePairs ts (option_to_list ends) (chain_in said) → IsStatement ts t us said
  says t us said step range ends e f g h k l = record {
    step = subst (λ (pairs : List (Tree × Tree)). ArePairs ts pairs (step_in said)) (sym e) h;
    range = subst (λ (pairs : List (Tree × Tree)). ArePairs ts pairs (range_in said)) (sym f) k;
    chain = subst (λ (o : Option (Tree × Tree)). ArePairs ts (option_to_list o) (chain_in said)) (sym g) l;
  }

  says_none : (t : Tag) (us : List Tree) → steps_over t us ≡ [] → ranges_over t us ≡ [] → ends_over t us ≡ None → IsStatement ts t us None
  says_none t us step range ends = says t us None [] [] None step range ends (no_pairs ts) (no_pairs ts) (no_pairs ts)

  pub other_says_none : (t : Tag) (us : List Tree) → (t ≡ tag.SubObjectPropertyOf → ⊥) → (t ≡ tag.ObjectPropertyRange → ⊥) → IsStatement ts t us None
  other_says_none t us sub range = says_none t us (no_step_over t us sub) (no_range_over t us range) (no_ends_over t us sub)

  not_two : (ids : List ℕ) → (length ids ≡ 2 → ⊥) → length (trees_at ts ids) ≡ 2 → ⊥
  not_two ids h e = h (sym (length-map ids (tree_at ts)) ∙ e)

  range_of_sub : (us : List Tree) → ranges_over tag.SubObjectPropertyOf us ≡ []
  unfolding ranges_over
  range_of_sub us = refl

  pub sub_says_none : (ids : List ℕ) → (length ids ≡ 2 → ⊥) → IsStatement ts tag.SubObjectPropertyOf (trees_at ts ids) None
  sub_says_none ids h =
      let us = trees_at ts ids in
      says_none tag.SubObjectPropertyOf us (no_step_by us (not_two ids h)) (range_of_sub us) (no_ends_by us (not_two ids h))

  pub range_says_none : (ids : List ℕ) → (length ids ≡ 2 → ⊥) → IsStatement ts tag.ObjectPropertyRange (trees_at ts ids) None
  unfolding steps_over ends_over
  range_says_none ids h =
      let us = trees_at ts ids in
      says_none tag.ObjectPropertyRange us refl (no_range_by us (not_two ids h)) refl

  pub says_range : (ids : List ℕ) (property class : ℕ) → AreHeld ts ids → 2 ≤ length ids → length ids < 3 → property ≡ get_or ids 0 property → class ≡ get_or ids 1 class →
      IsStatement ts tag.ObjectPropertyRange (trees_at ts ids) (Some (Range property class))
  unfolding steps_over ranges_over ends_over
  says_range [] property class held least most e f = absurd (omega (arith, least))
  says_range (id ∷ []) property class held least most e f = absurd (omega (arith, least))
  says_range (first ∷ second ∷ []) property class held least most e f =
      rw (e, f) (record { step = no_pairs ts; range = one_pair ts first second held.0 held.1.0; chain = no_pairs ts })
  says_range (first ∷ second ∷ third ∷ ids) property class held least most e f = absurd (omega (arith, most))

  pub says_step : (below above : ℕ) → below < length ts → above < length ts → (tag_of (tree_at ts below) ≡ tag.ObjectPropertyChain → ⊥) →
      IsStatement ts tag.SubObjectPropertyOf (tree_at ts below ∷ tree_at ts above ∷ []) (Some (Step below above))
  says_step below above h k other =
      let u = tree_at ts below in
      let v = tree_at ts above in
      says tag.SubObjectPropertyOf (u ∷ v ∷ []) (Some (Step below above)) ((u, v) ∷ []) [] None (step_by u v other) (range_of_sub (u ∷ v ∷ [])) (no_ends_of u v other)
      (one_pair ts below above h k) (no_pairs ts) (no_pairs ts)

  pub says_chain : (below above last : ℕ) (kids : List ℕ) → above < length ts → tag_of (tree_at ts below) ≡ tag.ObjectPropertyChain → trees_at ts kids ≡ kids_in (tree_at ts below) →
      1 ≤ length kids → last ≡ get_or kids (length kids - 1) last → last < length ts → IsStatement ts tag.SubObjectPropertyOf (tree_at ts below ∷ tree_at ts above ∷ []) (Some (Chain last above))
  says_chain below above last kids k e are some is h =
      let u = tree_at ts below in
      let v = tree_at ts above in
      let at : last_or None (kids_in u) ≡ Some (tree_at ts last) =
      ap (last_or None) (sym are) ∙ (last_by (tree_at ts) None kids (length kids - 1) last (omega (arith, some)) ∙ ap (λ (n : ℕ). Some (tree_at ts n)) (sym is)) in
      says tag.SubObjectPropertyOf (u ∷ v ∷ []) (Some (Chain last above)) [] [] (Some (tree_at ts last, v)) (no_step_of u v e) (range_of_sub (u ∷ v ∷ []))
      (ends_by u v e ∙ ap (option_map (λ end. (end, v))) at) (no_pairs ts) (no_pairs ts) (one_pair ts last above h k)

  pub says_no_chain : (below above : ℕ) (kids : List ℕ) → tag_of (tree_at ts below) ≡ tag.ObjectPropertyChain → trees_at ts kids ≡ kids_in (tree_at ts below) → length kids ≡ 0 →
      IsStatement ts tag.SubObjectPropertyOf (tree_at ts below ∷ tree_at ts above ∷ []) None
  says_no_chain below above [] e are none =
      let u = tree_at ts below in
      let v = tree_at ts above in
      says_none tag.SubObjectPropertyOf (u ∷ v ∷ []) (no_step_of u v e) (range_of_sub (u ∷ v ∷ [])) (ends_by u v e ∙ ap (λ (us : List Tree). option_map (λ end. (end, v)) (last_or None us)) (sym are))
  says_no_chain below above (kid ∷ kids) e are none = absurd (cc)

-- the last of some numbers below this one
pub last_within : (ts : List Tree) (kids : List ℕ) (id last : ℕ) → id < length ts → 1 ≤ length kids → last ≡ get_or kids (length kids - 1) last → AllByRecursion (λ kid. kid < id) kids → last < length ts
last_within ts kids id last h some is below =
    let own : last < id = all_in (λ (kid : ℕ). kid < id) kids last below (length kids - 1, omega (arith, some), sym is) in
    omega (arith, own, h)
