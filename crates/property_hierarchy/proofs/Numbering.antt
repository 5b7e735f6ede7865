-- The numbers of object property expressions.
use Rattle.std.proofs.Common.{◌≡◌, ◌<◌, ◌++◌, ℕ, Bool, false, List, [], ◌∷◌, Option, None, Some, length, map, refl, sym, ap, ◌∙◌, subst}
use Rattle.std.specs.Prelude.{IsTrue}
use Rattle.std.specs.Option.{option_map}
use Rattle.std.proofs.lemmas.List.{length-map, map-append}
use Rattle.std.proofs.lemmas.List.Elements.{filter_map-append}
use Rattle.dl_rules.specs.Logical.{iri_in}
use Rattle.dl_rules.specs.Places.{place_of}
use Rattle.dl_rules.specs.Properties.{Property, inverse, named, named_over, properties_in, property_in, property_over}
use Rattle.dl_rules.proofs.PlaceLaws.{place_is}
use Rattle.owl_arena.specs.Held.{tree_at, trees_at}
use Rattle.owl_arena.specs.Shared.{AreShared}
use Rattle.owl_arena.proofs.HeldLaws.{entry_at}
use Rattle.owl_tree.specs.declared.atom.Atom.{Atom}
use Rattle.owl_tree.specs.declared.atom.Atom.TheVariants as atom
use Rattle.owl_tree.specs.declared.tag.Tag.{Tag}
use Rattle.owl_tree.specs.declared.tag.Tag.TheVariants as tag
use Rattle.owl_tree.specs.Rows.{fits, row_of, takes}
use Rattle.owl_tree.specs.Shape.{IsShaped}
use Rattle.owl_tree.specs.Trees.{Tree, leaf, node, kids_in, list_of, tag_of}
use Rattle.property_hierarchy.specs.Numbers.{inverse_number, named_number, number_of, numbers_in}
use Rattle.property_hierarchy.specs.declared.numbers.PropertyNumber.{PropertyNumber}

-- a property is a leaf with an IRI
record NamesProperty (t : Tree) : Type 0 where
  iri : List ℕ
  is : leaf tag.ObjectProperty (atom.Iri iri) ≡ t

takes_iri : (a : Atom) → IsTrue (takes (row_of tag.ObjectProperty) a) → (iri : List ℕ) × (atom.Iri iri ≡ a)
unfolding row_of
takes_iri (atom.Iri iri) h = (iri, refl)
takes_iri (atom.Label label) h = absurd (cc)
takes_iri (atom.Literal literal) h = absurd (cc)
takes_iri (atom.Number number) h = absurd (cc)

no_node : (ts : List Tree) → IsTrue (fits (row_of tag.ObjectProperty) (map tag_of ts)) → ⊥
unfolding row_of
no_node ts h = cc

names_property : (t : Tree) → IsShaped t → tag_of t ≡ tag.ObjectProperty → NamesProperty t
names_property (leaf u a) h e =
    let found = takes_iri a (subst (λ (v : Tag). IsTrue (takes (row_of v) a)) e h.0) in
    record { iri = found.0; is = ap (λ (b : Atom). leaf tag.ObjectProperty b) found.1 ∙ ap (λ (v : Tag). leaf v a) (sym e) }
names_property (node u ks) h e = absurd (no_node (list_of ks) (subst (λ (v : Tag). IsTrue (fits (row_of v) (map tag_of (list_of ks)))) e h.0.row))

named_leaf : (ts : List Tree) (iri : List ℕ) → named_number ts (leaf tag.ObjectProperty (atom.Iri iri)) ≡ Some (number_of ts (named iri))
unfolding named_over
named_leaf ts iri = refl

record_is : (n : PropertyNumber) (place : ℕ) → n.place ≡ place → n.inverted ≡ false → n ≡ record { place = place; inverted = false }
record_is n place e f = ap (λ (k : ℕ). record { place = k; inverted = n.inverted }) e ∙ ap (λ (b : Bool). record { place = place; inverted = b }) f

pub named_there : (ts : List Tree) (id : ℕ) (n : PropertyNumber) → AreShared ts → id < length ts → tag_of (tree_at ts id) ≡ tag.ObjectProperty → n.place ≡ id → n.inverted ≡ false → Some n ≡ named_number ts (tree_at ts id)
named_there ts id n shared within e place inverted =
    let property = names_property (tree_at ts id) (entry_at ts id shared within).shaped e in
    let there : number_of ts (named property.iri) ≡ record { place = id; inverted = false } =
    ap (λ (t : Tree). record { place = place_of ts t; inverted = false }) property.is ∙ ap (λ (k : ℕ). record { place = k; inverted = false }) (place_is ts shared.one_number id within) in
    ap Some (record_is n id place inverted ∙ sym there) ∙ sym (named_leaf ts property.iri) ∙ ap (named_number ts) property.is

none_over : (t : Tag) (iri : Option (List ℕ)) → (t ≡ tag.ObjectProperty → ⊥) → named_over t iri ≡ None
unfolding named_over
none_over tag.ObjectProperty iri h = absurd (h refl)
none_over _ iri h = refl

pub not_named : (ts : List Tree) (t : Tree) → (tag_of t ≡ tag.ObjectProperty → ⊥) → None ≡ named_number ts t
not_named ts t h = sym (ap (option_map (number_of ts)) (none_over (tag_of t) (iri_in t) h))

-- what is no inverse is what it names
other_over : (t : Tag) (iri : Option (List ℕ)) (ts : List Tree) → (t ≡ tag.ObjectInverseOf → ⊥) → property_over t iri ts ≡ named_over t iri
unfolding property_over
other_over tag.ObjectInverseOf iri ts h = absurd (h refl)
other_over _ iri ts h = refl

pub other_property : (ts : List Tree) (t : Tree) → (tag_of t ≡ tag.ObjectInverseOf → ⊥) → named_number ts t ≡ option_map (number_of ts) (property_in t)
other_property ts t h = ap (option_map (number_of ts)) (sym (other_over (tag_of t) (iri_in t) (kids_in t) h))

map_twice : (ts : List Tree) (p : Option Property) → option_map inverse_number (option_map (number_of ts) p) ≡ option_map (number_of ts) (option_map inverse p)
map_twice ts None = refl
map_twice ts (Some p) = refl

one_kid : (iri : Option (List ℕ)) (u : Tree) → option_map inverse (named_over (tag_of u) (iri_in u)) ≡ property_over tag.ObjectInverseOf iri (u ∷ [])
unfolding property_over
one_kid iri u = refl

inverse_over : (t : Tag) (iri : Option (List ℕ)) (u : Tree) → tag.ObjectInverseOf ≡ t → option_map inverse (named_over (tag_of u) (iri_in u)) ≡ property_over t iri (u ∷ [])
inverse_over t iri u e = subst (λ (v : Tag). option_map inverse (named_over (tag_of u) (iri_in u)) ≡ property_over v iri (u ∷ [])) e (one_kid iri u)

pub inverse_property : (ts : List Tree) (t u : Tree) → tag.ObjectInverseOf ≡ tag_of t → u ∷ [] ≡ kids_in t → option_map inverse_number (named_number ts u) ≡ option_map (number_of ts) (property_in t)
inverse_property ts t u e f =
    map_twice ts (named_over (tag_of u) (iri_in u))
    ∙ ap (option_map (number_of ts)) (inverse_over (tag_of t) (iri_in t) u e ∙ ap (property_over (tag_of t) (iri_in t)) f)

-- of these and those
pub numbers_both : (ts xs ys : List Tree) → numbers_in ts (xs ++ ys) ≡ numbers_in ts xs ++ numbers_in ts ys
numbers_both ts xs ys = ap (map (number_of ts)) (filter_map-append property_in xs ys) ∙ map-append (number_of ts) (properties_in xs) (properties_in ys)

-- a tree that has no one kid is no inverse
many_over : (t : Tag) (iri : Option (List ℕ)) (ts : List Tree) → t ≡ tag.ObjectInverseOf → (length ts ≡ 1 → ⊥) → property_over t iri ts ≡ None
unfolding property_over named_over
many_over t iri ts e h = subst (λ (v : Tag). property_over v iri ts ≡ None) (sym e) (not_one iri ts h)
  where
    not_one : (iri : Option (List ℕ)) (ts : List Tree) → (length ts ≡ 1 → ⊥) → property_over tag.ObjectInverseOf iri ts ≡ None
    not_one iri [] h = refl
    not_one iri (t ∷ []) h = absurd (h refl)
    not_one iri (t ∷ u ∷ ts) h = refl

no_property : (ts : List Tree) (t : Tree) → tag_of t ≡ tag.ObjectInverseOf → (length (kids_in t) ≡ 1 → ⊥) → None ≡ option_map (number_of ts) (property_in t)
no_property ts t e h = sym (ap (option_map (number_of ts)) (many_over (tag_of t) (iri_in t) (kids_in t) e h))

pub no_one_kid : (ts : List Tree) (id : ℕ) (kids : List ℕ) → tag_of (tree_at ts id) ≡ tag.ObjectInverseOf → trees_at ts kids ≡ kids_in (tree_at ts id) → (length kids ≡ 1 → ⊥) → None ≡ option_map (number_of ts) (property_in (tree_at ts id))
no_one_kid ts id kids e are h =
    no_property ts (tree_at ts id) e (λ one. h (sym (length-map kids (tree_at ts)) ∙ (ap (length {A = Tree}) are ∙ one)))
