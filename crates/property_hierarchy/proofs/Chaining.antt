-- Chains by numbers, and what they put below what.
use Rattle.std.proofs.Common.{◌≡◌, ◌<◌, ◌≤◌, ◌-◌, ◌++◌, append-nil, ℕ, zero, suc, Bool, true, false, List, [], ◌∷◌, Option, None, Some, get_or, length, map, take, refl, sym, ap, ◌∙◌, subst, arith}
use Rattle.std.specs.Prelude.{◌||◌, ◌&&◌, IsTrue, if◌then◌else◌, nat_eq, unwrap_or}
use Rattle.std.specs.Bool.{beq}
use Rattle.std.specs.List.{flat_map}
use Rattle.std.specs.Option.{option_map}
use Rattle.std.proofs.lemmas.Bool.Decides.{Decides-eqb, same_from_decides}
use Rattle.std.proofs.lemmas.Grind.{flat_map-append}
use Rattle.std.proofs.lemmas.List.{length-map, map-append}
use Rattle.std.proofs.lemmas.Option.{none-some, same_Some}
use Rattle.std.proofs.lemmas.Slice.Eq.{bytes_eq-Decides}
use Rattle.owl_characters.specs.Order.{text_eq}
use Rattle.dl_rules.specs.Hierarchy.{behind, below_of, below_over, in_front_of, is_twice, needed}
use Rattle.dl_rules.specs.Logical.{operands}
use Rattle.dl_rules.specs.Places.{place_of}
use Rattle.dl_rules.specs.Properties.{Chain, Property, chain_of, chain_over, inverse, properties_in, property_eq, property_in, top_property}
use Rattle.owl_arena.specs.Held.{tree_at, trees_at}
use Rattle.owl_arena.specs.Shared.{AreShared}
use Rattle.owl_tree.specs.declared.atom.Atom.{Atom}
use Rattle.owl_tree.specs.declared.atom.Atom.TheVariants as atom
use Rattle.owl_tree.specs.declared.tag.Tag.{Tag}
use Rattle.owl_tree.specs.declared.tag.Tag.TheVariants as tag
use Rattle.owl_tree.specs.Rows.{row_of, takes}
use Rattle.owl_tree.specs.Shape.{IsShaped}
use Rattle.owl_tree.specs.Trees.{Tree, Kids, leaf, node, kids_in, list_of, tag_of}
use Rattle.property_hierarchy.specs.Listed.{HoldsKids}
use Rattle.property_hierarchy.specs.Numbers.{below_at, below_from, inverse_number, number_eq, number_of, numbered_pairs, numbered_chain, numbers_in}
use Rattle.property_hierarchy.specs.declared.numbers.PropertyNumber.{PropertyNumber}
use Rattle.property_hierarchy.proofs.Listing.{IsListed, chain_listed, iris_apart, leaf_of}

-- the axioms that are no chain
no_chain_over : (u : Tag) (us : List Tree) → (u ≡ tag.SubObjectPropertyOf → ⊥) → chain_over u us ≡ None
unfolding chain_over
no_chain_over tag.SubObjectPropertyOf us h = absurd (h refl)
no_chain_over _ us h = refl

no_pair_over : (us : List Tree) → (length us ≡ 2 → ⊥) → chain_over tag.SubObjectPropertyOf us ≡ None
unfolding chain_over
no_pair_over [] h = refl
no_pair_over (leaf u a ∷ us) h = refl
no_pair_over (node tag.ObjectPropertyChain ks ∷ []) h = refl
no_pair_over (node tag.ObjectPropertyChain ks ∷ t ∷ []) h = absurd (h refl)
no_pair_over (node tag.ObjectPropertyChain ks ∷ t ∷ v ∷ us) h = refl
no_pair_over (node _ ks ∷ us) h = refl

other_first : (t v : Tree) → (tag_of t ≡ tag.ObjectPropertyChain → ⊥) → chain_over tag.SubObjectPropertyOf (t ∷ v ∷ []) ≡ None
unfolding chain_over
other_first (leaf u a) v h = refl
other_first (node tag.ObjectPropertyChain ks) v h = absurd (h refl)
other_first (node _ ks) v h = refl

-- the chain of two trees
no_leaf : (a : Atom) → IsTrue (takes (row_of tag.ObjectPropertyChain) a) → ⊥
unfolding row_of
no_leaf a h = cc

module _ (ts : List Tree) where
  abbrev chain_made : List Tree → Option PropertyNumber → Option (Chain PropertyNumber)
  chain_made us n = option_map (λ implied. record { parts = numbers_in ts us; implied = implied }) n

  made_so : (us : List Tree) (o : Option Property) → option_map (numbered_chain ts) (option_map (λ p. record { parts = properties_in us; implied = p }) o) ≡ chain_made us (option_map (number_of ts) o)
  made_so us None = refl
  made_so us (Some p) = refl

  chain_node : (ks : Kids) (v : Tree) → option_map (numbered_chain ts) (chain_over tag.SubObjectPropertyOf (node tag.ObjectPropertyChain ks ∷ v ∷ [])) ≡ chain_made (list_of ks) (option_map (number_of ts) (property_in v))
  unfolding chain_over
  chain_node ks v = made_so (list_of ks) (property_in v)

  chain_is : (t v : Tree) → IsShaped t → tag_of t ≡ tag.ObjectPropertyChain → option_map (numbered_chain ts) (chain_over tag.SubObjectPropertyOf (t ∷ v ∷ [])) ≡ chain_made (kids_in t) (option_map (number_of ts) (property_in v))
  chain_is (leaf u a) v shaped e = absurd (no_leaf a (subst (λ (w : Tag). IsTrue (takes (row_of w) a)) e shaped.0))
  chain_is (node u ks) v shaped e =
      subst (λ (w : Tag). option_map (numbered_chain ts) (chain_over tag.SubObjectPropertyOf (node w ks ∷ v ∷ [])) ≡ chain_made (list_of ks) (option_map (number_of ts) (property_in v))) (sym e) (chain_node ks v)

  pub no_chain_first : (t v : Tree) → (tag_of t ≡ tag.ObjectPropertyChain → ⊥) → None ≡ option_map (numbered_chain ts) (chain_over tag.SubObjectPropertyOf (t ∷ v ∷ []))
  no_chain_first t v h = sym (ap (option_map (numbered_chain ts)) (other_first t v h))

  pub no_implied : (t v : Tree) → IsShaped t → tag_of t ≡ tag.ObjectPropertyChain → None ≡ option_map (number_of ts) (property_in v) → None ≡ option_map (numbered_chain ts) (chain_over tag.SubObjectPropertyOf (t ∷ v ∷ []))
  no_implied t v shaped e h = ap (chain_made (kids_in t)) h ∙ sym (chain_is t v shaped e)

  pub chain_there : (t v : Tree) (parts : List PropertyNumber) (implied : PropertyNumber) (us : List Tree) → IsShaped t → tag_of t ≡ tag.ObjectPropertyChain →
      Some implied ≡ option_map (number_of ts) (property_in v) → us ≡ kids_in t → parts ≡ numbers_in ts us →
      Some (record { parts = parts; implied = implied }) ≡ option_map (numbered_chain ts) (chain_over tag.SubObjectPropertyOf (t ∷ v ∷ []))
  chain_there t v parts implied us shaped e h kids are =
      ap (λ (ps : List PropertyNumber). Some (record { parts = ps; implied = implied })) (are ∙ ap (numbers_in ts) kids)
      ∙ (ap (chain_made (kids_in t)) h ∙ sym (chain_is t v shaped e))

  pub no_chain : (t : Tree) → (tag_of t ≡ tag.SubObjectPropertyOf → ⊥) → None ≡ option_map (numbered_chain ts) (chain_of t)
  no_chain t h = sym (ap (option_map (numbered_chain ts)) (no_chain_over (tag_of t) (operands t) h))

  pub no_pair : (t : Tree) (ids : List ℕ) → tag_of t ≡ tag.SubObjectPropertyOf → trees_at ts ids ≡ operands t → (length ids ≡ 2 → ⊥) → None ≡ option_map (numbered_chain ts) (chain_of t)
  no_pair t ids e are h =
      sym (ap (option_map (numbered_chain ts)) (subst (λ (u : Tag). chain_over u (operands t) ≡ None) (sym e)
      (no_pair_over (operands t) (λ two. h (sym (length-map ids (tree_at ts)) ∙ (ap (length {A = Tree}) are ∙ two))))))

  pub two_at : (ids : List ℕ) (a b : ℕ) → 2 ≤ length ids → length ids < 3 → a ≡ get_or ids 0 a → b ≡ get_or ids 1 b → trees_at ts ids ≡ tree_at ts a ∷ tree_at ts b ∷ []
  two_at [] a b h k e f = absurd (omega (arith, h))
  two_at (i ∷ []) a b h k e f = absurd (omega (arith, h))
  two_at (i ∷ j ∷ []) a b h k e f = cc
  two_at (i ∷ j ∷ l ∷ ids) a b h k e f = absurd (omega (arith, k))

  pub one_at : (ids : List ℕ) (a : ℕ) → 1 ≤ length ids → length ids < 2 → a ≡ get_or ids 0 a → trees_at ts ids ≡ tree_at ts a ∷ []
  one_at [] a h k e = absurd (omega (arith, h))
  one_at (i ∷ []) a h k e = cc
  one_at (i ∷ j ∷ ids) a h k e = absurd (omega (arith, k))

  pub chain_of_two : (t u v : Tree) (o : Option (Chain PropertyNumber)) → tag_of t ≡ tag.SubObjectPropertyOf → operands t ≡ u ∷ v ∷ [] →
      o ≡ option_map (numbered_chain ts) (chain_over tag.SubObjectPropertyOf (u ∷ v ∷ [])) → o ≡ option_map (numbered_chain ts) (chain_of t)
  chain_of_two t u v o e are h =
      h ∙ (ap (λ (us : List Tree). option_map (numbered_chain ts) (chain_over tag.SubObjectPropertyOf us)) (sym are)
      ∙ ap (λ (w : Tag). option_map (numbered_chain ts) (chain_over w (operands t))) (sym e))

-- all but the last, by its place
module _ {P : Type 0} (eq : P → P → Bool) (q : P) where
  put_in_front : (p : P) (b : Bool) (ps : List P) → option_map (λ front. p ∷ front) (if b then Some ps else None) ≡ (if b then Some (p ∷ ps) else None)
  put_in_front p true ps = refl
  put_in_front p false ps = refl

  in_front_at : (ps : List P) (n : ℕ) (d : P) → length ps ≡ suc n → in_front_of eq q ps ≡ (if eq (get_or ps n d) q then Some (take n ps) else None)
  in_front_at [] n d h = absurd (omega (arith, h))
  in_front_at (p ∷ []) zero d h = refl
  in_front_at (p ∷ []) (suc n) d h = absurd (omega (arith, h))
  in_front_at (p ∷ r ∷ ps) zero d h = absurd (omega (arith, h))
  in_front_at (p ∷ r ∷ ps) (suc n) d h =
      ap (option_map (λ front. p ∷ front)) (in_front_at (r ∷ ps) n d (omega (arith, h))) ∙ put_in_front p (eq (get_or (r ∷ ps) n d) q) (take n (r ∷ ps))

  pub in_front_last : (ps : List P) (d : P) → 1 ≤ length ps → in_front_of eq q ps ≡ (if eq (get_or ps (length ps - 1) d) q then Some (take (length ps - 1) ps) else None)
  in_front_last ps d h = in_front_at ps (length ps - 1) d (omega (arith, h))

-- the last is the one, or not
pub front_there : (q : PropertyNumber) (ps : List PropertyNumber) (d : PropertyNumber) (is : Bool) → 1 ≤ length ps → is ≡ number_eq (get_or ps (length ps - 1) d) q → is ≡ true → Some (take (length ps - 1) ps) ≡ in_front_of number_eq q ps
front_there q ps d is some e h =
    sym (in_front_last number_eq q ps d some ∙ ap (λ (b : Bool). if b then Some (take (length ps - 1) ps) else None) (sym e ∙ h))

pub front_not_there : (q : PropertyNumber) (ps : List PropertyNumber) (d : PropertyNumber) (is : Bool) → 1 ≤ length ps → is ≡ number_eq (get_or ps (length ps - 1) d) q → is ≡ false → None ≡ in_front_of number_eq q ps
front_not_there q ps d is some e h =
    sym (in_front_last number_eq q ps d some ∙ ap (λ (b : Bool). if b then Some (take (length ps - 1) ps) else None) (sym e ∙ h))

pub none_in_front : (q : PropertyNumber) (ps : List PropertyNumber) → length ps < 1 → None ≡ in_front_of number_eq q ps
none_in_front q [] h = refl
none_in_front q (p ∷ ps) h = absurd (omega (arith, h))

-- what is needed goes through a function that tells the properties apart from that which is implied
module _ {P Q : Type 0} (f : P → Q) (eq : P → P → Bool) (other : Q → Q → Bool) (q : P) (same : (p : P) → other (f p) (f q) ≡ eq p q) where
  through_if : (b c : Bool) (ps : List P) → c ≡ b → (if c then Some (map f ps) else None) ≡ option_map (map f) (if b then Some ps else None)
  through_if true c ps e = ap (λ (d : Bool). if d then Some (map f ps) else None) e
  through_if false c ps e = ap (λ (d : Bool). if d then Some (map f ps) else None) e

  behind_through : (ps : List P) → behind other (f q) (map f ps) ≡ option_map (map f) (behind eq q ps)
  behind_through [] = refl
  behind_through (p ∷ ps) = through_if (eq p q) (other (f p) (f q)) ps (same p)

  front_through_more : (p : P) (o : Option (List P)) → option_map (λ front. f p ∷ front) (option_map (map f) o) ≡ option_map (map f) (option_map (λ front. p ∷ front) o)
  front_through_more p None = refl
  front_through_more p (Some ps) = refl

  front_through : (ps : List P) → in_front_of other (f q) (map f ps) ≡ option_map (map f) (in_front_of eq q ps)
  front_through [] = refl
  front_through (p ∷ []) = through_if (eq p q) (other (f p) (f q)) [] (same p)
  front_through (p ∷ r ∷ ps) = ap (option_map (λ front. f p ∷ front)) (front_through (r ∷ ps)) ∙ front_through_more p (in_front_of eq q (r ∷ ps))

  twice_through : (ps : List P) → is_twice other (f q) (map f ps) ≡ is_twice eq q ps
  twice_through [] = refl
  twice_through (p ∷ []) = refl
  twice_through (p ∷ r ∷ []) = ap (λ (b : Bool). b && other (f r) (f q)) (same p) ∙ ap (λ (b : Bool). eq p q && b) (same r)
  twice_through (p ∷ r ∷ s ∷ ps) = refl

  picked_through : (b : Bool) (first second : Option (List P)) (ps : List P) →
      (if b then [] else unwrap_or (option_map (map f) first) (unwrap_or (option_map (map f) second) (map f ps))) ≡ map f (if b then [] else unwrap_or first (unwrap_or second ps))
  picked_through true first second ps = refl
  picked_through false (Some rest) second ps = refl
  picked_through false None (Some front) ps = refl
  picked_through false None None ps = refl

  needed_through : (top : P) (ps : List P) → other (f q) (f top) ≡ eq q top →
      needed other (f top) (record { parts = map f ps; implied = f q }) ≡ map f (needed eq top (record { parts = ps; implied = q }))
  needed_through top ps e =
      ap (λ (b : Bool). if b || is_twice other (f q) (map f ps) then [] else unwrap_or (behind other (f q) (map f ps)) (unwrap_or (in_front_of other (f q) (map f ps)) (map f ps))) e
      ∙ (ap (λ (b : Bool). if eq q top || b then [] else unwrap_or (behind other (f q) (map f ps)) (unwrap_or (in_front_of other (f q) (map f ps)) (map f ps))) (twice_through ps)
      ∙ (ap (λ (o : Option (List Q)). if eq q top || is_twice eq q ps then [] else unwrap_or o (unwrap_or (in_front_of other (f q) (map f ps)) (map f ps))) (behind_through ps)
      ∙ (ap (λ (o : Option (List Q)). if eq q top || is_twice eq q ps then [] else unwrap_or (option_map (map f) (behind eq q ps)) (unwrap_or o (map f ps))) (front_through ps)
      ∙ picked_through (eq q top || is_twice eq q ps) (behind eq q ps) (in_front_of eq q ps) ps)))

module _ (ts : List Tree) where
  -- numbers are equal where the properties are, of which one is listed
  places_tell : (p q : Property) → (place_of ts (leaf_of p) ≡ place_of ts (leaf_of q) → p.iri ≡ q.iri) → number_eq (number_of ts p) (number_of ts q) ≡ property_eq p q
  places_tell p q apart =
      let eq = Decides-eqb (place_of ts (leaf_of p)) (place_of ts (leaf_of q)) in
      let there = λ (e : p.iri ≡ q.iri). ap (λ (iri : List ℕ). place_of ts (leaf tag.ObjectProperty (atom.Iri iri))) e in
      ap (λ (b : Bool). b && beq p.inverted q.inverted)
      (same_from_decides (nat_eq (place_of ts (leaf_of p)) (place_of ts (leaf_of q))) (text_eq p.iri q.iri) (λ h. apart (eq.0 h), λ e. eq.1 (there e)) (bytes_eq-Decides p.iri q.iri))

  numbered_over_below : (q : Property) (ps : List Property) → numbered_pairs ts (below_over inverse q ps) ≡ below_over inverse_number (number_of ts q) (map (number_of ts) ps)
  numbered_over_below q [] = refl
  numbered_over_below q (p ∷ ps) =
      ap (λ (more : List (PropertyNumber × PropertyNumber)). (number_of ts p, number_of ts q) ∷ (inverse_number (number_of ts p), number_of ts q) ∷ more) (numbered_over_below q ps)

  numbered_below : (chain : Chain Property) (top : PropertyNumber) → IsListed ts chain.implied → top ≡ number_of ts top_property →
      below_over inverse_number (number_of ts chain.implied) (needed number_eq top (numbered_chain ts chain)) ≡ numbered_pairs ts (below_of chain)
  numbered_below chain top own e =
      ap (λ (n : PropertyNumber). below_over inverse_number (number_of ts chain.implied) (needed number_eq n (numbered_chain ts chain))) e
      ∙ (ap (below_over inverse_number (number_of ts chain.implied)) (needed_through (number_of ts) property_eq number_eq chain.implied
      (λ p. places_tell p chain.implied (iris_apart ts p chain.implied own)) top_property chain.parts
      (places_tell chain.implied top_property (λ same. sym (iris_apart ts top_property chain.implied own (sym same)))))
      ∙ sym (numbered_over_below chain.implied (needed property_eq top_property chain)))

  some_below : (o : Option (Chain Property)) (seen : Chain PropertyNumber) (top : PropertyNumber) (pairs : List (PropertyNumber × PropertyNumber)) → ((chain : Chain Property) → o ≡ Some chain → IsListed ts chain.implied) →
      top ≡ number_of ts top_property → Some seen ≡ option_map (numbered_chain ts) o → pairs ≡ below_over inverse_number seen.implied (needed number_eq top seen) → pairs ≡ numbered_pairs ts (below_from o)
  some_below None seen top pairs listed e h made = absurd (none-some seen (sym h))
  some_below (Some chain) seen top pairs listed e h made =
      made ∙ (ap (λ (c : Chain PropertyNumber). below_over inverse_number c.implied (needed number_eq top c)) (same_Some seen (numbered_chain ts chain) h)
      ∙ numbered_below chain top (listed chain refl) e)

  pub below_some : (id : ℕ) (seen : Chain PropertyNumber) (top : PropertyNumber) (pairs : List (PropertyNumber × PropertyNumber)) → AreShared ts → HoldsKids ts → id < length ts →
      top ≡ number_of ts top_property → Some seen ≡ option_map (numbered_chain ts) (chain_of (tree_at ts id)) →
      pairs ≡ below_over inverse_number seen.implied (needed number_eq top seen) → pairs ≡ numbered_pairs ts (below_at (tree_at ts id))
  below_some id seen top pairs shared kids within e h made =
      some_below (chain_of (tree_at ts id)) seen top pairs (λ chain is. (chain_listed ts shared kids id within chain is).implied) e h made

  pub below_at_both : (xs ys : List ℕ) → numbered_pairs ts (flat_map below_at (trees_at ts (xs ++ ys))) ≡ numbered_pairs ts (flat_map below_at (trees_at ts xs)) ++ numbered_pairs ts (flat_map below_at (trees_at ts ys))
  below_at_both xs ys =
      ap (λ (axioms : List Tree). numbered_pairs ts (flat_map below_at axioms)) (map-append (tree_at ts) xs ys)
      ∙ (ap (numbered_pairs ts) (flat_map-append below_at (trees_at ts xs) (trees_at ts ys))
      ∙ map-append (λ (pair : Property × Property). (number_of ts pair.0, number_of ts pair.1)) (flat_map below_at (trees_at ts xs)) (flat_map below_at (trees_at ts ys)))

  pub counts_both : (xs ys : List ℕ) → map (λ t. length (below_at t)) (trees_at ts (xs ++ ys)) ≡ map (λ t. length (below_at t)) (trees_at ts xs) ++ map (λ t. length (below_at t)) (trees_at ts ys)
  counts_both xs ys =
      ap (map (λ t. length (below_at t))) (map-append (tree_at ts) xs ys) ∙ map-append (λ t. length (below_at t)) (trees_at ts xs) (trees_at ts ys)

  -- what one axiom adds
  pub below_pushed : (t : Tree) (old more new : List (PropertyNumber × PropertyNumber)) → more ≡ numbered_pairs ts (below_at t) → new ≡ old ++ more → new ≡ old ++ numbered_pairs ts (flat_map below_at (t ∷ []))
  below_pushed t old more new e f =
      f ∙ (ap (λ (pairs : List (PropertyNumber × PropertyNumber)). old ++ pairs) e ∙ ap (λ (pairs : List (Property × Property)). old ++ numbered_pairs ts pairs) (sym (append-nil (below_at t))))

  pub count_pushed : (t : Tree) (more : List (PropertyNumber × PropertyNumber)) (count : ℕ) (old new : List ℕ) → more ≡ numbered_pairs ts (below_at t) → count ≡ length more → new ≡ old ++ count ∷ [] → new ≡ old ++ map (λ t. length (below_at t)) (t ∷ [])
  count_pushed t more count old new e c f =
      f ∙ ap (λ (n : ℕ). old ++ n ∷ []) (c ∙ (ap (length {A = PropertyNumber × PropertyNumber}) e ∙ length-map (below_at t) (λ (pair : Property × Property). (number_of ts pair.0, number_of ts pair.1))))
