-- A triple is the axiom of one place alone, and a node stands for the axiom of one place alone.
use Rattle.std.proofs.Common.{◌≡◌, ◌≤◌, ◌<◌, ◌+◌, ℕ, true, List, ◌∷◌, refl, sym, ap, ◌∙◌, subst, arith}
use Rattle.std.specs.Prelude.{Contains, map}
use Rattle.owl_kind.specs.Kinds.{Entity}
use Rattle.owl_list.proofs.AscendingLaws.{ascending_apart}
use Rattle.owl_tree.specs.Canonical.{canonical}
use Rattle.owl_tree.specs.declared.tag.Tag.{Tag}
use Rattle.owl_tree.specs.declared.tag.Tag.TheVariants as tag
use Rattle.owl_tree.specs.Equivalence.{IsEquivalent}
use Rattle.owl_tree.proofs.EquivalenceLaws.{equivalent_is_equal_form, equivalent_refl, equivalent_sym, equivalent_trans}
use Rattle.owl_tree.specs.Ontologies.{Ontology}
use Rattle.owl_tree.specs.Order.{tree_cmp}
use Rattle.owl_tree.specs.OrderLaws.{trees_total}
use Rattle.owl_tree.specs.Tags.{is_axiom}
use Rattle.owl_tree.specs.Trees.{Tree, Kids, leaf, node, no_kids, kid, kids_of, tag_of}
use Rattle.rdf_graph.specs.declared.triple.Triple.{Triple}
use Rattle.rdf_meaning.specs.Denotation.{of_triple}
use Rattle.rdf_meaning.proofs.StatementLaws.{one_axiom}
use Rattle.std.proofs.lemmas.Bool.{or_right}
use Rattle.rdf_normal.proofs.NeedlessLaws.{bare_canonical, both_true}
use Rattle.rdf_normal.specs.NormalForms.{bears_notes}
use Rattle.owl_tree.specs.Rows.{is_tag}
use Rattle.rdf_mapping.specs.Drawing.{statement_of}
use Rattle.rdf_mapping.specs.GraphEntries.{made_nodes}
use Rattle.rdf_mapping.specs.Graphs.{bare, bare_axioms, sets_of}
use Rattle.rdf_mapping.specs.FormLaws.{same_label}
use Rattle.rdf_axioms.specs.AxiomReading.{main_of, with_notes}
use Rattle.rdf_states.proofs.GraphOf.{AreReadBack, AreWellDrawn, IsGraphOf, IsReadAtPlace, LabelsAreSingle}
use Rattle.rdf_states.specs.Places.{Stand, StandsAt, first_number, stand_node, stands_of}
use Rattle.rdf_states.specs.PlaceLaws.{AreApartPlaces, same_place, before, behind, one_place, one_stand, places_apart, stand_bounds, stands_bounds, width}
use Rattle.rdf_states.proofs.ReadLaws.{read_at}
use Rattle.rdf_states.specs.Stated.{CanBeStated, IsStatedAxiom}
use Rattle.rdf_states.proofs.StatedLaws.{stated_axiom}

-- An axiom of a normal form is in canonical form without its annotations too.

form_of_tree : (t : Tag) (ns ks : Kids) → is_axiom t ≡ true → canonical (node t (kid (node tag.Notes ns) ks)) ≡ node t (kid (node tag.Notes ns) ks) → canonical (node t (kid (node tag.Notes no_kids) ks)) ≡ node t (kid (node tag.Notes no_kids) ks)
form_of_tree t no_kids ks h e = e
form_of_tree t (kid n ns) ks h e =
    let tree = node t (kid (node tag.Notes (kid n ns)) ks) in
    bare_canonical tree (both_true (bears_notes t) true (or_right (is_tag tag.Annotation t) (is_axiom t) h) refl) e

pub bare_form : (k : List Entity) (o : Ontology) (a : Tree) → IsStatedAxiom k o a → canonical (bare a) ≡ bare a
bare_form k o a is =
    let t = is.tree in
    let whole = t.is in
    let axiom_tag : is_axiom t.own_tag ≡ true = ap is_axiom (sym (ap tag_of whole)) ∙ is.sayable.is.tag in
    let own = subst (λ (b : Tree). canonical b ≡ b) whole is.sayable.canonical in
    subst (λ (b : Tree). canonical b ≡ b) (sym (ap bare whole)) (form_of_tree t.own_tag t.notes t.kids axiom_tag own)

bare_without : (a : Tree) → with_notes (node tag.Notes no_kids) a ≡ bare a
bare_without (leaf t a) = refl
bare_without (node t no_kids) = refl
bare_without (node t (kid n ks)) = refl

module _ (k : List Entity) (o : Ontology) (c : CanBeStated k o) (name : ℕ → List ℕ) (g : List Triple) (d : IsGraphOf name g o) (drawn : AreWellDrawn name o) (single : LabelsAreSingle g o) (read : AreReadBack name g k o) where
  -- what is read without annotations is the axiom without them
  bare_read : (b : Tree) (m : ℕ) (r : IsReadAtPlace name g k o b m) → IsEquivalent (node (tag_of r.tree) (kids_of (node tag.Notes no_kids ∷ r.read.kids))) b
  bare_read b m r =
      let n = node tag.Notes no_kids in
      subst (λ (x : Tree). IsEquivalent (node (tag_of r.tree) (kids_of (n ∷ r.read.kids))) x) (bare_without r.tree ∙ r.is) (r.read.equivalent n n (equivalent_refl n))

  place_form : (b : Tree) (m : ℕ) (r : IsReadAtPlace name g k o b m) → canonical b ≡ b
  place_form b m r = subst (λ (x : Tree). canonical x ≡ x) r.is (bare_form k o r.tree (stated_axiom k o c.can_be_drawn r.tree r.inside))

  -- where one triple is the axiom of two places, it is one axiom
  same_axiom : (b e : Tree) (m l : ℕ) (p : StandsAt o b m) (q : StandsAt o e l) (t : Triple) → Contains (main_of name (statement_of b) m) t → Contains (main_of name (statement_of e) l) t → b ≡ e
  same_axiom b e m l p q t i j =
      let r = read_at k o c.can_be_drawn name g d drawn single read b m p in
      let s = read_at k o c.can_be_drawn name g d drawn single read e l q in
      let n = node tag.Notes no_kids in
      let one = one_axiom g k c.no_clash (of_triple t) (tag_of r.tree) (tag_of s.tree) r.read.kids s.read.kids (r.main t i) (s.main t j) in
      let left = bare_read b m r in
      let right = bare_read e l s in
      let moved : IsEquivalent (node (tag_of r.tree) (kids_of (n ∷ r.read.kids))) e =
      subst (λ (x : Tree). IsEquivalent x e) (λ z. node (sym one.tag z) (kids_of (n ∷ sym one.parts z))) right in
      let equal = equivalent_trans b (node (tag_of r.tree) (kids_of (n ∷ r.read.kids))) e (equivalent_sym (node (tag_of r.tree) (kids_of (n ∷ r.read.kids))) b left) moved in
      sym (place_form b m r) ∙ (equivalent_is_equal_form b e).0 equal ∙ place_form e l s

  pub one_main_place : (b e : Tree) (m l : ℕ) (p : StandsAt o b m) (q : StandsAt o e l) (t : Triple) → Contains (main_of name (statement_of b) m) t → Contains (main_of name (statement_of e) l) t → (b ≡ e) × (m ≡ l)
  one_main_place b e m l p q t i j =
      let same = same_axiom b e m l p q t i j in
      let at : StandsAt o e m = subst (λ (x : Tree). StandsAt o x m) same p in
      (same, one_place o.axioms e m l (bare_axioms o.axioms) (first_number o) (ascending_apart tree_cmp trees_total (map bare o.axioms)) at q)

-- one node stands for an axiom at one place
pub record IsSameStand (o : Ontology) (b e : Tree) (m l : ℕ) (f h : Stand) : Type 0 where
  pub axiom_is : b ≡ e
  pub number : m ≡ l
  pub stand : f ≡ h

module _ (name : ℕ → List ℕ) (g : List Triple) (o : Ontology) (d : IsGraphOf name g o) where
  stand_few : (b : Tree) (m : ℕ) → StandsAt o b m → (f : Stand) → Contains (stands_of (statement_of b) (sets_of b o.axioms) m) f → (m ≤ f.number) × ((f.number < m + width o.axioms b) × (f.number < made_nodes o))
  stand_few b m p f i =
      let own = stand_bounds (statement_of b) (sets_of b o.axioms) m f i in
      let bounds = stands_bounds o b m p in
      let from = own.from in
      let below = own.below in
      let top = bounds.1 in
      (from, (omega (arith, below), omega (arith, below, top)))

  pub one_stand_place : (b e : Tree) (m l : ℕ) (p : StandsAt o b m) (q : StandsAt o e l) (f h : Stand) → Contains (stands_of (statement_of b) (sets_of b o.axioms) m) f → Contains (stands_of (statement_of e) (sets_of e o.axioms) l) h → stand_node name f ≡ stand_node name h → IsSameStand o b e m l f h
  one_stand_place b e m l p q f h i j same =
      let left = stand_few b m p f i in
      let right = stand_few e l q h j in
      let number : f.number ≡ h.number = d.differ f.number h.number left.1.1 right.1.1 (same_label (name f.number) (name h.number) same) in
      by (places_apart o.axioms b e m l (bare_axioms o.axioms) (first_number o) p q) number
    where
      by : AreApartPlaces o.axioms b e m l → f.number ≡ h.number → IsSameStand o b e m l f h
      by (same_place x y) n =
          let moved : Contains (stands_of (statement_of e) (sets_of e o.axioms) l) f =
          subst (λ (u : ℕ). Contains (stands_of (statement_of e) (sets_of e o.axioms) u) f) y (subst (λ (u : Tree). Contains (stands_of (statement_of u) (sets_of u o.axioms) m) f) x i) in
          record { axiom_is = x; number = y; stand = one_stand (statement_of e) (sets_of e o.axioms) l f h moved j n }
      by (before u) n = let a = (stand_few b m p f i).1.0 in let z = (stand_few e l q h j).0 in absurd (omega (arith, a, z, u, n))
      by (behind u) n = let a = (stand_few e l q h j).1.0 in let z = (stand_few b m p f i).0 in absurd (omega (arith, a, z, u, n))
