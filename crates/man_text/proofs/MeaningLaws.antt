-- What is said of a tree means the tree, under kinds by which it is typed.
use Rattle.std.proofs.Common.{◌≡◌, ◌≤◌, ◌-◌, ℕ, suc, min, arith, Bool, true, false, if◌then◌else◌, Option, None, Some, Ok, List, [], ◌∷◌, refl, ap, ◌∙◌}
use Rattle.std.specs.Prelude.{◌&&◌, nat_le}
use Rattle.std.proofs.lemmas.Bool.{and_from, le-leb}
use Rattle.std.specs.List.{AllByRecursion}
use Rattle.man_raw.specs.declared.form.Facet.{Facet}
use Rattle.man_raw.specs.declared.form.Form.TheVariants as form
use Rattle.man_raw.specs.declared.form.What.TheVariants as what
use Rattle.man_raw.specs.Raws.{RawTree, raw, trees_of}
use Rattle.man_sayable.proofs.FacetLaws.{named_facet}
use Rattle.man_resolve.specs.declared.place.Place.{Place}
use Rattle.man_resolve.specs.declared.place.Place.TheVariants as place
use Rattle.owl_tree.specs.Rows.{row_of}
use Rattle.man_resolve.specs.Expressions.{Knows, Told, all_at, all_of, in_front, leaf_of, meanings, meant, meant_atom, node_of, stem, takes, where_takes}
use Rattle.man_resolve.specs.Places.{shape_of, tags_at}
use Rattle.owl_doc.specs.Entities.{entities, entities_of, kind_of}
use Rattle.owl_kind.specs.declared.kind.Kind.TheVariants as kind
use Rattle.owl_tree.specs.declared.atom.Atom.{Atom}
use Rattle.owl_tree.specs.declared.atom.Atom.TheVariants as atom
use Rattle.owl_tree.specs.declared.tag.Tag.{Tag}
use Rattle.owl_tree.specs.declared.tag.Tag.TheVariants as tag
use Rattle.owl_tree.specs.Trees.{Tree, kids_of, leaf, node}
use Rattle.rdf_terms.specs.Literals.{LiteralParts}
use Rattle.man_text.specs.Undecided.{form_of, is_bracketed, is_counted, leaf_what, facet_what, operand, operands, piece, undecided}
use Rattle.man_text.proofs.TypedLaws.{AreTyped, typed_first, typed_rest}
use Rattle.man_text.proofs.ExpressionLaws.{IsClassOrRange, IsConnected, IsEnumeration, IsFacetPairTree, IsIriAt, IsLabelAt, IsLeafAt, IsLiteralAt, IsNameAt, IsPropertyOf, Side, class_and, class_or, data_property, datas, filler_place, inverse_property, object_property, objects, of_class, of_individuals, of_literals, of_range, pair_of, range_and, range_or}

-- a set may have so many members
pub set_counts : (front least n : ℕ) → front ≤ n → min least 1 ≤ n - front → (nat_le front n && nat_le (min least 1) (n - front)) ≡ true
set_counts front least n h k = and_from (nat_le front n) (nat_le (min least 1) (n - front)) (le-leb front n h) (le-leb (min least 1) (n - front) k)

-- leaves are not bracketed
pub bare_leaf : (p : Place) (t : Tree) → IsLeafAt p t → operand (undecided t) ≡ undecided t
unfolding leaf_what
bare_leaf _ _ (IsLeafAt.name_leaf _ _ _ iri IsNameAt.class is) = refl
bare_leaf _ _ (IsLeafAt.name_leaf _ _ _ iri IsNameAt.class_name is) = refl
bare_leaf _ _ (IsLeafAt.name_leaf _ _ _ iri IsNameAt.range is) = refl
bare_leaf _ _ (IsLeafAt.name_leaf _ _ _ iri IsNameAt.datatype is) = refl
bare_leaf _ _ (IsLeafAt.name_leaf _ _ _ iri IsNameAt.object is) = refl
bare_leaf _ _ (IsLeafAt.name_leaf _ _ _ iri IsNameAt.object_name is) = refl
bare_leaf _ _ (IsLeafAt.name_leaf _ _ _ iri IsNameAt.data_property is) = refl
bare_leaf _ _ (IsLeafAt.name_leaf _ _ _ iri IsNameAt.annotation_property is) = refl
bare_leaf _ _ (IsLeafAt.iri_leaf _ _ iri IsIriAt.named_individual is) = refl
bare_leaf _ _ (IsLeafAt.iri_leaf _ _ iri IsIriAt.value_iri is) = refl
bare_leaf _ _ (IsLeafAt.iri_leaf _ _ iri IsIriAt.plain_iri is) = refl
bare_leaf _ _ (IsLeafAt.label_leaf _ label at is) = refl
bare_leaf _ _ (IsLeafAt.literal_leaf _ value at is) = refl
bare_leaf _ _ (IsLeafAt.number_leaf n few) = refl

-- no property is bracketed
pub bare_property : (s : Side) (p : Tree) → IsPropertyOf s p → operand (undecided p) ≡ undecided p
unfolding leaf_what form_of is_bracketed is_counted
bare_property _ _ (object_property iri is) = refl
bare_property _ _ (inverse_property iri is) = refl
bare_property _ _ (data_property iri is) = refl

module _ (ks : Knows) where
  abbrev only : Atom → Tag → Bool → Told Tree
  only a t known = leaf_of ks 0 a (if known then Some t else None)

  pub name_means : (p : Place) (t : Tag) (k : _) (iri : List ℕ) → IsNameAt p t k → AreTyped ks (entities (leaf t (atom.Iri iri))) → meant ks (undecided (leaf t (atom.Iri iri))) p ≡ Ok (leaf t (atom.Iri iri))
  unfolding leaf_what meant_atom tags_at kind_of
  name_means _ _ _ iri IsNameAt.class h = ap (only (atom.Iri iri) tag.Class) h.0
  name_means _ _ _ iri IsNameAt.class_name h = ap (only (atom.Iri iri) tag.Class) h.0
  name_means _ _ _ iri IsNameAt.range h = ap (only (atom.Iri iri) tag.Datatype) h.0
  name_means _ _ _ iri IsNameAt.datatype h = ap (only (atom.Iri iri) tag.Datatype) h.0
  name_means _ _ _ iri IsNameAt.object h = ap (only (atom.Iri iri) tag.ObjectProperty) h.0
  name_means _ _ _ iri IsNameAt.object_name h = ap (only (atom.Iri iri) tag.ObjectProperty) h.0
  name_means _ _ _ iri IsNameAt.data_property h = ap (only (atom.Iri iri) tag.DataProperty) h.0
  name_means _ _ _ iri IsNameAt.annotation_property h = ap (only (atom.Iri iri) tag.AnnotationProperty) h.0

  pub leaf_means : (p : Place) (t : Tree) → IsLeafAt p t → AreTyped ks (entities t) → meant ks (undecided t) p ≡ Ok t
  unfolding leaf_what meant_atom tags_at kind_of
  leaf_means _ _ (IsLeafAt.name_leaf p t k iri at is) h = name_means p t k iri at h
  leaf_means _ _ (IsLeafAt.iri_leaf _ _ iri IsIriAt.named_individual is) h = refl
  leaf_means _ _ (IsLeafAt.iri_leaf _ _ iri IsIriAt.value_iri is) h = refl
  leaf_means _ _ (IsLeafAt.iri_leaf _ _ iri IsIriAt.plain_iri is) h = refl
  leaf_means _ _ (IsLeafAt.label_leaf _ label IsLabelAt.individual_label is) h = refl
  leaf_means _ _ (IsLeafAt.label_leaf _ label IsLabelAt.value_label is) h = refl
  leaf_means _ _ (IsLeafAt.literal_leaf _ value IsLiteralAt.literal is) h = refl
  leaf_means _ _ (IsLeafAt.literal_leaf _ value IsLiteralAt.value_literal is) h = refl
  leaf_means _ _ (IsLeafAt.number_leaf n few) h = refl

  -- ---- forms

  -- each piece means its tree at the place
  abbrev pub MeanEach : Place → List RawTree → List Tree → Type 0
  MeanEach p [] [] = Unit {0}
  MeanEach p (r ∷ rs) (t ∷ ts) = (meant ks r p ≡ Ok t) × MeanEach p rs ts
  MeanEach p _ _ = ⊥

  pub both_mean : (first : Told Tree) (rest : Told (List Tree)) (t : Tree) (ts : List Tree) → first ≡ Ok t → rest ≡ Ok ts → in_front first rest ≡ Ok (t ∷ ts)
  both_mean first rest t ts e f = ap (λ (x : Told Tree). in_front x rest) e ∙ ap (λ (y : Told (List Tree)). in_front (Ok t) y) f

  pub all_mean : (p : Place) (rs : List RawTree) (ts : List Tree) → MeanEach p rs ts → all_of (all_at p (meanings ks (trees_of rs))) ≡ Ok ts
  all_mean p [] [] h = refl
  all_mean p (r ∷ rs) [] h = absurd h
  all_mean p [] (t ∷ ts) h = absurd h
  all_mean p (r ∷ rs) (t ∷ ts) h = both_mean (meant ks r p) (all_of (all_at p (meanings ks (trees_of rs)))) t ts h.0 (all_mean p rs ts h.1)

  -- the first alone at a place of its own
  pub first_mean : (q p : Place) (r : RawTree) (rs : List RawTree) (t : Tree) (ts : List Tree) → meant ks r q ≡ Ok t → MeanEach p rs ts → all_of (meant ks r q ∷ all_at p (meanings ks (trees_of rs))) ≡ Ok (t ∷ ts)
  first_mean q p r rs t ts e h = both_mean (meant ks r q) (all_of (all_at p (meanings ks (trees_of rs)))) t ts e (all_mean p rs ts h)

  -- what stands in brackets means what stands there without
  pub bracketed_means : (b : Bool) (p : Place) (r : RawTree) (t : Tree) → IsClassOrRange p → meant ks r p ≡ Ok t → meant ks (if b then piece (what.Form form.Bracket) (r ∷ []) else r) p ≡ Ok t
  unfolding shape_of
  bracketed_means true _ r t of_class e = e
  bracketed_means true _ r t of_range e = e
  bracketed_means false p r t is e = e

  pub operand_means : (p : Place) (r : RawTree) (t : Tree) → IsClassOrRange p → meant ks r p ≡ Ok t → meant ks (operand r) p ≡ Ok t
  operand_means p (raw at (what.Form f) rs) t is e = bracketed_means (is_bracketed f) p (raw at (what.Form f) rs) t is e
  operand_means p (raw at (what.Atom a) rs) t is e = e
  operand_means p (raw at (what.Word w) rs) t is e = e
  operand_means p (raw at (what.Facet f) rs) t is e = e

  -- ---- properties

  pub leaf_operand_means : (p : Place) (t : Tree) → IsLeafAt p t → AreTyped ks (entities t) → meant ks (operand (undecided t)) p ≡ Ok t
  leaf_operand_means p t at h = ap (λ (r : RawTree). meant ks r p) (bare_leaf p t at) ∙ leaf_means p t at h

  pub leaves_mean : (p : Place) (ts : List Tree) → AllByRecursion (IsLeafAt p) ts → AreTyped ks (entities_of (kids_of ts)) → MeanEach p (operands (kids_of ts)) ts
  leaves_mean p [] at h = tt
  leaves_mean p (t ∷ ts) at h = (leaf_operand_means p t at.0 (typed_first ks t (kids_of ts) h), leaves_mean p ts at.1 (typed_rest ks t (kids_of ts) h))

  pub untyped : (value : LiteralParts) → AreTyped ks (entities (leaf tag.Literal (atom.Literal value)))
  unfolding kind_of
  untyped value = tt

  pub pair_means : (p : Place) (t : Tree) → IsFacetPairTree t → meant ks (operand (undecided t)) place.FacetPair ≡ Ok t
  unfolding leaf_what form_of is_bracketed is_counted shape_of row_of
  pair_means p _ (pair_of iri f value found is) =
      let facet = leaf tag.Facet (atom.Iri iri) in
      let literal = leaf tag.Literal (atom.Literal value) in
      let two = both_mean (meant ks (operand (undecided facet)) place.Facet) (all_of (all_at place.Literal (meanings ks (trees_of (operand (undecided literal) ∷ []))))) facet (literal ∷ [])
      (ap (λ (o : Option Facet). meant ks (operand (piece (facet_what iri o) [])) place.Facet) found ∙ ap (λ (i : List ℕ). Ok (leaf tag.Facet (atom.Iri i))) (named_facet iri f found))
      (all_mean place.Literal (operand (undecided literal) ∷ []) (literal ∷ []) (leaf_means place.Literal literal (IsLeafAt.literal_leaf place.Literal value IsLiteralAt.literal is) (untyped value), tt)) in
      ap (λ (x : Told (List Tree)). node_of (stem tag.FacetPair x)) two

  -- an object property alone
  pub object_means : (p : Tree) → IsPropertyOf objects p → AreTyped ks (entities p) → meant ks (undecided p) place.Object ≡ Ok p
  unfolding leaf_what meant_atom tags_at kind_of form_of is_counted is_bracketed shape_of row_of
  object_means _ (object_property iri is) h = name_means place.Object tag.ObjectProperty kind.ObjectProperty iri IsNameAt.object h
  object_means _ (inverse_property iri is) h = ap (λ (x : Told (List Tree)). node_of (stem tag.ObjectInverseOf x)) (first_mean place.ObjectName place.ObjectName (undecided (leaf tag.ObjectProperty (atom.Iri iri))) [] (leaf tag.ObjectProperty (atom.Iri iri)) [] (name_means place.ObjectName tag.ObjectProperty kind.ObjectProperty iri IsNameAt.object_name h) tt)

  pub pairs_mean : (ts : List Tree) → AllByRecursion IsFacetPairTree ts → MeanEach place.FacetPair (operands (kids_of ts)) ts
  pairs_mean [] h = tt
  pairs_mean (t ∷ ts) h = (pair_means place.FacetPair t h.0, pairs_mean ts h.1)

  pub two_taken : (p : Place) (t : Tag) → IsConnected p t → (n : ℕ) → takes t (suc (suc n)) ≡ true
  unfolding row_of
  two_taken _ _ class_and n = set_counts 0 2 (suc (suc n)) (omega arith) (omega arith)
  two_taken _ _ class_or n = set_counts 0 2 (suc (suc n)) (omega arith) (omega arith)
  two_taken _ _ range_and n = set_counts 0 2 (suc (suc n)) (omega arith) (omega arith)
  two_taken _ _ range_or n = set_counts 0 2 (suc (suc n)) (omega arith) (omega arith)

  pub one_taken : (p q : Place) (t : Tag) → IsEnumeration p q t → (n : ℕ) → takes t (suc n) ≡ true
  unfolding row_of
  one_taken _ _ _ of_individuals n = set_counts 0 1 (suc n) (omega arith) (omega arith)
  one_taken _ _ _ of_literals n = set_counts 0 1 (suc n) (omega arith) (omega arith)

  pub facets_taken : (n : ℕ) → takes tag.DatatypeRestriction (suc (suc n)) ≡ true
  unfolding row_of
  facets_taken n = set_counts 1 1 (suc (suc n)) (omega arith) (omega arith)

  pub over_means : (t : Tag) (b : Bool) (x : Told (List Tree)) (ts : List Tree) → b ≡ true → x ≡ Ok ts → node_of (where_takes b 0 (stem t x)) ≡ Ok (node t (kids_of ts))
  over_means t b x ts many e = ap (λ (c : Bool). node_of (where_takes c 0 (stem t x))) many ∙ ap (λ (y : Told (List Tree)). node_of (stem t y)) e

  pub connected_means : (p : Place) (t : Tag) (a b : Tree) (ts : List Tree) → IsConnected p t → MeanEach p (operands (kids_of (a ∷ b ∷ ts))) (a ∷ b ∷ ts) → meant ks (undecided (node t (kids_of (a ∷ b ∷ ts)))) p ≡ Ok (node t (kids_of (a ∷ b ∷ ts)))
  unfolding form_of is_counted shape_of
  connected_means _ _ a b ts class_and h = over_means tag.ObjectIntersectionOf _ _ (a ∷ b ∷ ts) (two_taken place.Class tag.ObjectIntersectionOf class_and _) (all_mean place.Class (operands (kids_of (a ∷ b ∷ ts))) (a ∷ b ∷ ts) h)
  connected_means _ _ a b ts class_or h = over_means tag.ObjectUnionOf _ _ (a ∷ b ∷ ts) (two_taken place.Class tag.ObjectUnionOf class_or _) (all_mean place.Class (operands (kids_of (a ∷ b ∷ ts))) (a ∷ b ∷ ts) h)
  connected_means _ _ a b ts range_and h = over_means tag.DataIntersectionOf _ _ (a ∷ b ∷ ts) (two_taken place.Range tag.DataIntersectionOf range_and _) (all_mean place.Range (operands (kids_of (a ∷ b ∷ ts))) (a ∷ b ∷ ts) h)
  connected_means _ _ a b ts range_or h = over_means tag.DataUnionOf _ _ (a ∷ b ∷ ts) (two_taken place.Range tag.DataUnionOf range_or _) (all_mean place.Range (operands (kids_of (a ∷ b ∷ ts))) (a ∷ b ∷ ts) h)

  pub enumeration_means : (p q : Place) (t : Tag) (a : Tree) (ts : List Tree) → IsEnumeration p q t → MeanEach q (operands (kids_of (a ∷ ts))) (a ∷ ts) → meant ks (undecided (node t (kids_of (a ∷ ts)))) p ≡ Ok (node t (kids_of (a ∷ ts)))
  unfolding form_of is_counted shape_of
  enumeration_means _ _ _ a ts of_individuals h = over_means tag.ObjectOneOf _ _ (a ∷ ts) (one_taken place.Class place.Individual tag.ObjectOneOf of_individuals _) (all_mean place.Individual (operands (kids_of (a ∷ ts))) (a ∷ ts) h)
  enumeration_means _ _ _ a ts of_literals h = over_means tag.DataOneOf _ _ (a ∷ ts) (one_taken place.Range place.Literal tag.DataOneOf of_literals _) (all_mean place.Literal (operands (kids_of (a ∷ ts))) (a ∷ ts) h)

  pub restricted_means : (d a : Tree) (ts : List Tree) → meant ks (operand (undecided d)) place.Datatype ≡ Ok d → MeanEach place.FacetPair (operands (kids_of (a ∷ ts))) (a ∷ ts)
      → meant ks (undecided (node tag.DatatypeRestriction (kids_of (d ∷ a ∷ ts)))) place.Range ≡ Ok (node tag.DatatypeRestriction (kids_of (d ∷ a ∷ ts)))
  unfolding form_of is_counted shape_of
  restricted_means d a ts e h = over_means tag.DatatypeRestriction _ _ (d ∷ a ∷ ts) (facets_taken _) (first_mean place.Datatype place.FacetPair (operand (undecided d)) (operands (kids_of (a ∷ ts))) d (a ∷ ts) e h)

  pub filler_is : (s : Side) → IsClassOrRange (filler_place s)
  filler_is objects = of_class
  filler_is datas = of_range

  pub connects : (p : Place) (t : Tag) → IsConnected p t → IsClassOrRange p
  connects _ _ class_and = of_class
  connects _ _ class_or = of_class
  connects _ _ range_and = of_range
  connects _ _ range_or = of_range
