-- The properties that trees of an arena are, and how their nodes tell them apart.
use Rattle.std.proofs.Common.{◌≡◌, ◌<◌, ◌≤◌, ◌+◌, ◌*◌, ◌++◌, ◌⊎◌, inl, inr, ℕ, Bool, true, false, List, [], ◌∷◌, Option, None, Some, length, map, refl, sym, ap, ◌∙◌, subst, arith}
use Rattle.std.specs.Prelude.{◌||◌, Contains, if◌then◌else◌, not, unwrap_or}
use Rattle.std.specs.List.{AllByRecursion, cons_option, flat_map}
use Rattle.std.specs.Option.{option_map}
use Rattle.std.proofs.lemmas.List.{get_or_default}
use Rattle.std.proofs.lemmas.List.Sums.{prefix_len-le-length}
use Rattle.std.specs.Ordering.{is_eq}
use Rattle.owl_tree.specs.Order.{tree_cmp}
use Rattle.std.proofs.lemmas.Option.{none-some, same_Some}
use Rattle.owl_list.proofs.AscendingLaws.{all_in, all_later, all_map}
use Rattle.dl_rules.specs.Hierarchy.{behind, below_over, in_front_of, is_twice, needed}
use Rattle.dl_rules.specs.Logical.{iri_in, operands}
use Rattle.dl_rules.specs.Places.{place_of}
use Rattle.dl_rules.specs.Properties.{Chain, Property, chain_of, chain_over, inverse, leads, named, named_over, neighbours, properties_in, property_eq, property_in, property_over, steps_of, steps_over, top_property, with_inverses}
use Rattle.graph_walks.proofs.NumberLaws.{AreListed}
use Rattle.dl_rules.proofs.PlaceLaws.{place_is, places_apart}
use Rattle.owl_arena.specs.Held.{AreHeld, tree_at, trees_at}
use Rattle.owl_arena.specs.Shared.{AreShared}
use Rattle.owl_arena.proofs.HeldLaws.{tree_inside}
use Rattle.owl_tree.specs.declared.atom.Atom.TheVariants as atom
use Rattle.owl_tree.specs.declared.tag.Tag.{Tag}
use Rattle.owl_tree.specs.declared.tag.Tag.TheVariants as tag
use Rattle.owl_tree.specs.Trees.{Tree, Kids, leaf, node, no_kids, kid, kids_in, list_of, tag_of}
use Rattle.property_hierarchy.specs.Listed.{HoldsKids, property_node}
use Rattle.property_hierarchy.specs.Numbers.{below_at, below_from}

pub all_both : {X : Type 0} (P : X → Type 0) (xs ys : List X) → AllByRecursion P xs → AllByRecursion P ys → AllByRecursion P (xs ++ ys)
all_both P [] ys h k = k
all_both P (x ∷ xs) ys h k = (h.0, all_both P xs ys h.1 k)

abbrev pub leaf_of : Property → Tree
leaf_of p = leaf tag.ObjectProperty (atom.Iri p.iri)

-- the tree of the property is among these
abbrev pub IsListed : List Tree → Property → Type 0
IsListed ts p = place_of ts (leaf_of p) < length ts

-- what a tree names, and what it is the inverse of
named_cases : (u : Tag) (iri : Option (List ℕ)) (p : Property) → named_over u iri ≡ Some p → (u ≡ tag.ObjectProperty) × (iri ≡ Some p.iri)
unfolding named_over
named_cases tag.ObjectProperty None p h = absurd (none-some p h)
named_cases tag.ObjectProperty (Some iri) p h = (refl, ap (λ (q : Property). Some q.iri) (same_Some (named iri) p h))
named_cases _ iri p h = absurd (none-some p h)

iri_leaf : (t : Tree) (iri : List ℕ) → iri_in t ≡ Some iri → t ≡ leaf (tag_of t) (atom.Iri iri)
iri_leaf (leaf u (atom.Iri own)) iri h = ap (λ (i : List ℕ). leaf u (atom.Iri i)) (same_Some own iri h)
iri_leaf (leaf u (atom.Label l)) iri h = absurd (none-some iri h)
iri_leaf (leaf u (atom.Literal l)) iri h = absurd (none-some iri h)
iri_leaf (leaf u (atom.Number n)) iri h = absurd (none-some iri h)
iri_leaf (node u ks) iri h = absurd (none-some iri h)

named_leaf_is : (t : Tree) (p : Property) → named_over (tag_of t) (iri_in t) ≡ Some p → leaf_of p ≡ t
named_leaf_is t p h =
    let parts = named_cases (tag_of t) (iri_in t) p h in
    sym (iri_leaf t p.iri parts.1 ∙ ap (λ (u : Tag). leaf u (atom.Iri p.iri)) parts.0)

-- the one kid of the tree, whose inverse it is
record IsInverse (ks : List Tree) (p : Property) : Type 0 where
  one : Tree
  kids : ks ≡ one ∷ []
  inverse_of : option_map inverse (named_over (tag_of one) (iri_in one)) ≡ Some p

over_cases : (u : Tag) (iri : Option (List ℕ)) (ks : List Tree) (p : Property) → property_over u iri ks ≡ Some p → (named_over u iri ≡ Some p) ⊎ IsInverse ks p
unfolding property_over
over_cases tag.ObjectInverseOf iri [] p h = inl h
over_cases tag.ObjectInverseOf iri (k ∷ []) p h = inr (record { one = k; kids = refl; inverse_of = h })
over_cases tag.ObjectInverseOf iri (k ∷ l ∷ ks) p h = inl h
over_cases _ iri ks p h = inl h

-- with the same IRI
record IsInverseOf (o : Option Property) (p : Property) : Type 0 where
  own : Property
  is : o ≡ Some own
  iri : own.iri ≡ p.iri

inverse_cases : (o : Option Property) (p : Property) → option_map inverse o ≡ Some p → IsInverseOf o p
inverse_cases None p h = absurd (none-some p h)
inverse_cases (Some q) p h = record { own = q; is = refl; iri = ap (λ (r : Property). r.iri) (same_Some (inverse q) p h) }

module _ (ts : List Tree) (shared : AreShared ts) where
  tree_listed : (t : Tree) → Contains ts t → place_of ts t < length ts
  tree_listed t m =
      let at : tree_at ts m.0 ≡ t = get_or_default ts m.0 (node tag.Notes no_kids) t m.1 ∙ m.2 in
      let same : place_of ts t ≡ m.0 = subst (λ (u : Tree). place_of ts u ≡ m.0) at (place_is ts shared.one_number m.0 m.1) in
      subst (λ (n : ℕ). n < length ts) (sym same) m.1

  named_listed : (t : Tree) (p : Property) → Contains ts t → named_over (tag_of t) (iri_in t) ≡ Some p → IsListed ts p
  named_listed t p m h = subst (λ (u : Tree). place_of ts u < length ts) (sym (named_leaf_is t p h)) (tree_listed t m)

  module _ (kids : HoldsKids ts) where
    -- a property that is a tree of the arena is listed
    pub property_listed : (t : Tree) → Contains ts t → (p : Property) → property_in t ≡ Some p → IsListed ts p
    property_listed t m p h =
        elim (over_cases (tag_of t) (iri_in t) (kids_in t) p h) as (λ _. IsListed ts p) [
          | inl own ↦ named_listed t p m own
          | inr turned ↦
              let of = inverse_cases (named_over (tag_of turned.one) (iri_in turned.one)) p turned.inverse_of in
              let inside = subst (λ (ks : List Tree). AllByRecursion (Contains ts) ks) turned.kids (kids t m) in
              subst (λ (iri : List ℕ). place_of ts (leaf tag.ObjectProperty (atom.Iri iri)) < length ts) of.iri
              (named_listed turned.one of.own inside.0 of.is)
        ]

    some_listed : (o : Option Property) (ps : List Property) → ((p : Property) → o ≡ Some p → IsListed ts p) → AllByRecursion (IsListed ts) ps → AllByRecursion (IsListed ts) (cons_option o ps)
    some_listed None ps h k = k
    some_listed (Some p) ps h k = (h p refl, k)

    pub properties_listed : (us : List Tree) → AllByRecursion (Contains ts) us → AllByRecursion (IsListed ts) (properties_in us)
    properties_listed [] h = tt
    properties_listed (u ∷ us) h = some_listed (property_in u) (properties_in us) (property_listed u h.0) (properties_listed us h.1)

operands_all : (P : Tree → Type 0) (t : Tree) → AllByRecursion P (kids_in t) → AllByRecursion P (operands t)
operands_all P (leaf u a) h = tt
operands_all P (node u no_kids) h = tt
operands_all P (node u (kid n ks)) h = h.1

-- what holds of some properties holds of both of each pair that is made of them
abbrev AllPairs : {P : Type 0} → (P → Type 0) → List (P × P) → Type 0
AllPairs {P} H pairs = AllByRecursion (λ (pair : P × P). H pair.0 × H pair.1) pairs

module _ {P : Type 0} (H : P → Type 0) (inverse_of : P → P) (turned : (p : P) → H p → H (inverse_of p)) where
  neighbours_all : (ps : List P) → AllByRecursion H ps → AllPairs H (neighbours ps)
  neighbours_all [] h = tt
  neighbours_all (p ∷ []) h = tt
  neighbours_all (p ∷ q ∷ ps) h = ((h.0, h.1.0), ((h.1.0, h.0), neighbours_all (q ∷ ps) h.1))

  over_all : (u : Tag) (ps : List P) → AllByRecursion H ps → AllPairs H (steps_over inverse_of u ps)
  unfolding steps_over
  over_all tag.SubObjectPropertyOf [] h = tt
  over_all tag.SubObjectPropertyOf (p ∷ []) h = tt
  over_all tag.SubObjectPropertyOf (p ∷ q ∷ []) h = ((h.0, h.1.0), tt)
  over_all tag.SubObjectPropertyOf (p ∷ q ∷ r ∷ ps) h = tt
  over_all tag.EquivalentObjectProperties ps h = neighbours_all ps h
  over_all tag.InverseObjectProperties [] h = tt
  over_all tag.InverseObjectProperties (p ∷ []) h = neighbours_all (p ∷ inverse_of p ∷ []) (h.0, (turned p h.0, tt))
  over_all tag.InverseObjectProperties (p ∷ q ∷ []) h = neighbours_all (p ∷ inverse_of q ∷ []) (h.0, (turned q h.1.0, tt))
  over_all tag.InverseObjectProperties (p ∷ q ∷ r ∷ ps) h = tt
  over_all tag.SymmetricObjectProperty [] h = tt
  over_all tag.SymmetricObjectProperty (p ∷ []) h = ((h.0, turned p h.0), tt)
  over_all tag.SymmetricObjectProperty (p ∷ q ∷ ps) h = tt
  over_all _ ps h = tt

  with_inverses_all : (pairs : List (P × P)) → AllPairs H pairs → AllPairs H (with_inverses inverse_of pairs)
  with_inverses_all pairs h =
      all_both (λ (pair : P × P). H pair.0 × H pair.1) pairs (map (λ (pair : P × P). (inverse_of pair.0, inverse_of pair.1)) pairs) h
      (all_map (λ (pair : P × P). (inverse_of pair.0, inverse_of pair.1)) (λ (pair : P × P). H pair.0 × H pair.1) pairs
      (all_later (λ (pair : P × P). H pair.0 × H pair.1) (λ (pair : P × P). H (inverse_of pair.0) × H (inverse_of pair.1)) (λ pair k. (turned pair.0 k.0, turned pair.1 k.1)) pairs h))

  below_all : (q : P) (ps : List P) → H q → AllByRecursion H ps → AllPairs H (below_over inverse_of q ps)
  below_all q [] own h = tt
  below_all q (p ∷ ps) own h = ((h.0, own), ((turned p h.0, own), below_all q ps own h.1))

-- what holds of the properties of a chain holds of those that are needed
module _ {P : Type 0} (H : P → Type 0) (eq : P → P → Bool) where
  abbrev AllOfSome : Option (List P) → Type 0
  AllOfSome None = Unit {0}
  AllOfSome (Some ps) = AllByRecursion H ps

  all_where : (b : Bool) (ps : List P) → AllByRecursion H ps → AllOfSome (if b then Some ps else None)
  all_where true ps h = h
  all_where false ps h = tt

  behind_all : (q : P) (ps : List P) → AllByRecursion H ps → AllOfSome (behind eq q ps)
  behind_all q [] h = tt
  behind_all q (p ∷ ps) h = all_where (eq p q) ps h.1

  more_all : (p : P) (o : Option (List P)) → H p → AllOfSome o → AllOfSome (option_map (λ front. p ∷ front) o)
  more_all p None own h = tt
  more_all p (Some ps) own h = (own, h)

  front_all : (q : P) (ps : List P) → AllByRecursion H ps → AllOfSome (in_front_of eq q ps)
  front_all q [] h = tt
  front_all q (p ∷ []) h = all_where (eq p q) [] tt
  front_all q (p ∷ r ∷ ps) h = more_all p (in_front_of eq q (r ∷ ps)) h.0 (front_all q (r ∷ ps) h.1)

  picked_all : (b : Bool) (first second : Option (List P)) (ps : List P) → AllOfSome first → AllOfSome second → AllByRecursion H ps →
      AllByRecursion H (if b then [] else unwrap_or first (unwrap_or second ps))
  picked_all true first second ps f s h = tt
  picked_all false (Some rest) second ps f s h = f
  picked_all false None (Some front) ps f s h = s
  picked_all false None None ps f s h = h

  needed_all : (top : P) (chain : Chain P) → AllByRecursion H chain.parts → AllByRecursion H (needed eq top chain)
  needed_all top chain h =
      picked_all (eq chain.implied top || is_twice eq chain.implied chain.parts) (behind eq chain.implied chain.parts) (in_front_of eq chain.implied chain.parts) chain.parts
      (behind_all chain.implied chain.parts h) (front_all chain.implied chain.parts h) h

-- the operands of a chain
pub record HasChain (us : List Tree) (chain : Chain Property) : Type 0 where
  pub kids : Kids
  pub last : Tree
  pub are : us ≡ node tag.ObjectPropertyChain kids ∷ last ∷ []
  pub parts : chain.parts ≡ properties_in (list_of kids)
  pub implied : property_in last ≡ Some chain.implied

chain_by : (ks : Kids) (t : Tree) (o : Option Property) (chain : Chain Property) → property_in t ≡ o → option_map (λ p. record { parts = properties_in (list_of ks); implied = p }) o ≡ Some chain →
    HasChain (node tag.ObjectPropertyChain ks ∷ t ∷ []) chain
chain_by ks t None chain e h = absurd (none-some chain h)
chain_by ks t (Some p) chain e h =
    let same = same_Some (record { parts = properties_in (list_of ks); implied = p }) chain h in
    record {
      kids = ks;
      last = t;
      are = refl;
      parts = sym (ap (λ (c : Chain Property). c.parts) same);
      implied = e ∙ ap (λ (c : Chain Property). Some c.implied) same;
    }

chain_cases : (u : Tag) (us : List Tree) (chain : Chain Property) → chain_over u us ≡ Some chain → HasChain us chain
unfolding chain_over
chain_cases tag.SubObjectPropertyOf [] chain h = absurd (none-some chain h)
chain_cases tag.SubObjectPropertyOf (leaf u a ∷ us) chain h = absurd (none-some chain h)
chain_cases tag.SubObjectPropertyOf (node tag.ObjectPropertyChain ks ∷ []) chain h = absurd (none-some chain h)
chain_cases tag.SubObjectPropertyOf (node tag.ObjectPropertyChain ks ∷ t ∷ []) chain h = chain_by ks t (property_in t) chain refl h
chain_cases tag.SubObjectPropertyOf (node tag.ObjectPropertyChain ks ∷ t ∷ v ∷ us) chain h = absurd (none-some chain h)
chain_cases tag.SubObjectPropertyOf (node _ ks ∷ us) chain h = absurd (none-some chain h)
chain_cases _ us chain h = absurd (none-some chain h)

module _ (ts : List Tree) (shared : AreShared ts) (kids : HoldsKids ts) where
  abbrev PairIsListed : Property × Property → Type 0
  PairIsListed pair = IsListed ts pair.0 × IsListed ts pair.1

  operands_inside : (id : ℕ) → id < length ts → AllByRecursion (Contains ts) (operands (tree_at ts id))
  operands_inside id within = operands_all (Contains ts) (tree_at ts id) (kids (tree_at ts id) (tree_inside ts id within))

  steps_listed : (id : ℕ) → id < length ts → AllByRecursion PairIsListed (steps_of (tree_at ts id))
  steps_listed id within =
      let t = tree_at ts id in
      let ps = properties_listed ts shared kids (operands t) (operands_inside id within) in
      with_inverses_all (IsListed ts) inverse (λ p h. h) (steps_over inverse (tag_of t) (properties_in (operands t)))
      (over_all (IsListed ts) inverse (λ p h. h) (tag_of t) (properties_in (operands t)) ps)

  all_leads : (ids : List ℕ) → AreHeld ts ids → AllByRecursion PairIsListed (leads (trees_at ts ids))
  all_leads [] h = tt
  all_leads (id ∷ ids) h = all_both PairIsListed (steps_of (tree_at ts id)) (leads (trees_at ts ids)) (steps_listed id h.0) (all_leads ids h.1)

  pub leads_listed : (ids : List ℕ) → AreHeld ts ids → AreListed (IsListed ts) (leads (trees_at ts ids))
  leads_listed ids h = λ x y m. all_in PairIsListed (leads (trees_at ts ids)) (x, y) (all_leads ids h) m

  -- the properties of a chain are listed
  pub record ChainIsListed (chain : Chain Property) : Type 0 where
    pub parts : AllByRecursion (IsListed ts) chain.parts
    pub implied : IsListed ts chain.implied

  pub chain_listed : (id : ℕ) → id < length ts → (chain : Chain Property) → chain_of (tree_at ts id) ≡ Some chain → ChainIsListed chain
  chain_listed id within chain h =
      let has = chain_cases (tag_of (tree_at ts id)) (operands (tree_at ts id)) chain h in
      let inside = subst (λ (us : List Tree). AllByRecursion (Contains ts) us) has.are (operands_inside id within) in
      record {
        parts = subst (λ (ps : List Property). AllByRecursion (IsListed ts) ps) (sym has.parts) (properties_listed ts shared kids (list_of has.kids) (kids (node tag.ObjectPropertyChain has.kids) inside.0));
        implied = property_listed ts shared kids has.last inside.1.0 chain.implied has.implied;
      }

  from_listed : (o : Option (Chain Property)) → ((chain : Chain Property) → o ≡ Some chain → ChainIsListed chain) → AllByRecursion PairIsListed (below_from o)
  from_listed None h = tt
  from_listed (Some chain) h =
      let listed = h chain refl in
      below_all (IsListed ts) inverse (λ p k. k) chain.implied (needed property_eq top_property chain) listed.implied
      (needed_all (IsListed ts) property_eq top_property chain listed.parts)

  all_below : (ids : List ℕ) → AreHeld ts ids → AllByRecursion PairIsListed (flat_map below_at (trees_at ts ids))
  all_below [] h = tt
  all_below (id ∷ ids) h =
      all_both PairIsListed (below_at (tree_at ts id)) (flat_map below_at (trees_at ts ids)) (from_listed (chain_of (tree_at ts id)) (chain_listed id h.0)) (all_below ids h.1)

  pub below_listed : (ids : List ℕ) → AreHeld ts ids → AreListed (IsListed ts) (flat_map below_at (trees_at ts ids))
  below_listed ids h = λ x y m. all_in PairIsListed (flat_map below_at (trees_at ts ids)) (x, y) (all_below ids h) m

-- nodes tell places and sides
node_parts : (a b : ℕ) (i j : Bool) → (if i then 2 * a + 1 else 2 * a) ≡ (if j then 2 * b + 1 else 2 * b) → (a ≡ b) × (i ≡ j)
node_parts a b true true e = (omega (arith, e), refl)
node_parts a b true false e = absurd (omega (arith, e))
node_parts a b false true e = absurd (omega (arith, e))
node_parts a b false false e = (omega (arith, e), refl)

node_within : (n count : ℕ) (i : Bool) → n ≤ count → (if i then 2 * n + 1 else 2 * n) < 2 * (count + 1)
node_within n count true h = omega (arith, h)
node_within n count false h = omega (arith, h)

same_property : (p q : Property) → p.iri ≡ q.iri → p.inverted ≡ q.inverted → p ≡ q
same_property p q e f = ap (λ (iri : List ℕ). record { iri = iri; inverted = p.inverted }) e ∙ ap (λ (b : Bool). record { iri = q.iri; inverted = b }) f

leaf_iri : (a b : List ℕ) → leaf tag.ObjectProperty (atom.Iri a) ≡ leaf tag.ObjectProperty (atom.Iri b) → a ≡ b
leaf_iri a b e = same_Some a b (ap iri_in e)

module _ (ts : List Tree) where
  -- no two properties have one place, where one of them is listed
  pub iris_apart : (p q : Property) → IsListed ts q → place_of ts (leaf_of p) ≡ place_of ts (leaf_of q) → p.iri ≡ q.iri
  iris_apart p q own e = leaf_iri p.iri q.iri (places_apart ts (leaf_of p) (leaf_of q) own e)

  pub node_places : (p q : Property) → property_node ts p ≡ property_node ts q → (place_of ts (leaf_of p) ≡ place_of ts (leaf_of q)) × (p.inverted ≡ q.inverted)
  node_places p q e = node_parts (place_of ts (leaf_of p)) (place_of ts (leaf_of q)) p.inverted q.inverted e

  pub nodes_apart : (p q : Property) → IsListed ts p → IsListed ts q → property_node ts p ≡ property_node ts q → p ≡ q
  nodes_apart p q first own e = let parts = node_places p q e in same_property p q (iris_apart p q own parts.0) parts.1

  pub node_listed : (p q : Property) → property_node ts p ≡ property_node ts q → IsListed ts p → IsListed ts q
  node_listed p q e own = subst (λ (n : ℕ). n < length ts) (node_places p q e).0 own

  place_few : (t : Tree) → place_of ts t ≤ length ts
  place_few t = prefix_len-le-length (λ u. not (is_eq (tree_cmp u t))) ts

  pub node_few : (p : Property) → property_node ts p < 2 * (length ts + 1)
  node_few p = node_within (place_of ts (leaf_of p)) (length ts) p.inverted (place_few (leaf_of p))
