-- Shaped class expressions and data ranges that can be said, by their forms.
use Rattle.std.proofs.Common.{◌≡◌, ◌≤◌, ℕ, arith, true, Option, None, Some, List, [], ◌∷◌, length, map, refl, sym, ap, ◌∙◌, subst}
use Rattle.std.specs.List.{AllByRecursion}
use Rattle.std.proofs.lemmas.Bool.{and_from, and_parts}
use Rattle.std.proofs.lemmas.Option.{none-some}
use Rattle.fss_terms.specs.Spelling.{HasMembers, HaveMembers, MeetsMinimum}
use Rattle.man_raw.specs.declared.form.Facet.{Facet}
use Rattle.man_resolve.specs.declared.place.Place.{Place}
use Rattle.man_resolve.specs.declared.place.Place.TheVariants as place
use Rattle.man_sayable.specs.Facets.{facet_named}
use Rattle.man_sayable.specs.Sayable.{are_many, facet_objection, properties_objection, wordless}
use Rattle.man_sayable.proofs.SayableLaws.{not_against}
use Rattle.sayable_parts.specs.Reasons.{facet_name, many_properties}
use Rattle.owl_tree.specs.declared.atom.Atom.{Atom}
use Rattle.owl_tree.specs.declared.atom.Atom.TheVariants as atom
use Rattle.owl_tree.specs.declared.row.Rest.TheVariants.{Set}
use Rattle.owl_tree.specs.declared.row.Sort.TheVariants as sort
use Rattle.owl_tree.specs.declared.tag.Tag.{Tag}
use Rattle.owl_tree.specs.declared.tag.Tag.TheVariants as tag
use Rattle.owl_tree.specs.Rows.{admits, fits, fits_rest, row_of}
use Rattle.owl_tree.specs.Shape.{AreShaped, IsShaped}
use Rattle.owl_tree.specs.Tags.{number_of}
use Rattle.owl_tree.specs.Trees.{Kids, Tree, kid, kids_of, leaf, list_of, no_kids, node, tag_of}
use Rattle.owl_tree.proofs.TreeLaws.{kids_of_list_of}
use Rattle.man_text.proofs.ExpressionLaws.{AreExpressionsAt, IsClassOrRange, IsConnected, IsCounted, IsComplement, IsEnumeration, IsExpressionAt, IsFacetPairTree, IsLeafAt, IsQuantified, IsValued, Side, class_and, class_not, class_or, data_exactly, data_max, data_min, data_only, data_some, data_value, datas, filler_place, object_exactly, object_max, object_min, object_only, object_some, object_value, objects, of_class, of_individuals, of_literals, of_range, pair_of, range_and, range_not, range_or}
use Rattle.man_text.proofs.ShapedLaws.{AllOf, One, Two, TwoOrThree, datatype_at, individual_at, literal_at, number_at, one_at_least, one_kid, optional_kid, property_at, set_kids, side_sort, some_then, three, two, two_at_least, two_kids}
use Rattle.man_text.proofs.SortLaws as leaves
use Rattle.man_text.proofs.SortLaws.{IsNodeAt, IsNodeOf, class_node, range_node, sort_at}

-- ---- what can be said

-- no quantifier has several properties, and each facet has a word or sign
abbrev mutual
  pub IsSaid : Tree → Type 0
  IsSaid (leaf t a) = facet_objection (leaf t a) ≡ None
  IsSaid (node t ks) = (properties_objection (node t ks) ≡ None) × AreSaid ks

  pub AreSaid : Kids → Type 0
  AreSaid no_kids = Unit {0}
  AreSaid (kid t ks) = IsSaid t × AreSaid ks

-- what is known of a kid before its node is looked at
pub record KidFacts (t : Tree) : Type 0 where
  pub shaped : IsShaped t
  pub said : IsSaid t
  pub expression : (p : Place) → IsClassOrRange p → admits (sort_at p) (tag_of t) ≡ true → IsExpressionAt p t
  pub pair : admits sort.FacetPair (tag_of t) ≡ true → IsFacetPairTree t

abbrev pub Facts : List Tree → Type 0
Facts ts = AllByRecursion KidFacts ts

-- ---- kids

expressions_at : (p : Place) → IsClassOrRange p → (ts : List Tree) → Facts ts → AllOf (sort_at p) ts → AreExpressionsAt p ts
expressions_at p is [] h k = AreExpressionsAt.no_expressions p
expressions_at p is (t ∷ ts) h k = AreExpressionsAt.expression p t ts (h.0.expression p is k.0) (expressions_at p is ts h.1 k.1)

individuals_at : (ts : List Tree) → Facts ts → AllOf sort.Individual ts → AllByRecursion (IsLeafAt place.Individual) ts
individuals_at [] h k = tt
individuals_at (t ∷ ts) h k = (individual_at t k.0 h.0.shaped, individuals_at ts h.1 k.1)

literals_at : (ts : List Tree) → Facts ts → AllOf sort.Literal ts → AllByRecursion (IsLeafAt place.Literal) ts
literals_at [] h k = tt
literals_at (t ∷ ts) h k = (literal_at t k.0 h.0.shaped, literals_at ts h.1 k.1)

pairs_at : (ts : List Tree) → Facts ts → AllOf sort.FacetPair ts → AllByRecursion IsFacetPairTree ts
pairs_at [] h k = tt
pairs_at (t ∷ ts) h k = (h.0.pair k.0, pairs_at ts h.1 k.1)

-- ---- nodes

abbrev Over : Place → Tag → List Tree → Type 0
Over p t ts = IsExpressionAt p (node t (kids_of ts))

connected_over : (p : Place) (t : Tag) (ts : List Tree) → IsConnected p t → IsClassOrRange p → AllOf (sort_at p) ts → 2 ≤ length ts → Facts ts → Over p t ts
connected_over p t ts is there all many facts =
    let both = two_at_least ts many in
    let es = expressions_at p there ts facts all in
    subst (Over p t) (sym both.is) (IsExpressionAt.connected p t both.a both.b both.others is (subst (AreExpressionsAt p) both.is es))

connected_node : (p : Place) (t : Tag) (ts : List Tree) → IsConnected p t → fits (row_of t) (map tag_of ts) ≡ true → MeetsMinimum (row_of t) (length ts) → Facts ts → Over p t ts
unfolding row_of
connected_node _ _ ts class_and e many facts = connected_over place.Class tag.ObjectIntersectionOf ts class_and of_class (set_kids sort.ClassExpression 2 ts e) (omega (arith, many)) facts
connected_node _ _ ts class_or e many facts = connected_over place.Class tag.ObjectUnionOf ts class_or of_class (set_kids sort.ClassExpression 2 ts e) (omega (arith, many)) facts
connected_node _ _ ts range_and e many facts = connected_over place.Range tag.DataIntersectionOf ts range_and of_range (set_kids sort.DataRange 2 ts e) (omega (arith, many)) facts
connected_node _ _ ts range_or e many facts = connected_over place.Range tag.DataUnionOf ts range_or of_range (set_kids sort.DataRange 2 ts e) (omega (arith, many)) facts

complement_over : (p : Place) (t : Tag) (ts : List Tree) → IsComplement p t → IsClassOrRange p → One (sort_at p) ts → Facts ts → Over p t ts
complement_over p t ts is there one facts =
    let own = subst Facts one.is facts in
    subst (Over p t) (sym one.is) (IsExpressionAt.complement p t one.a is (own.0.expression p there one.first))

complement_node : (p : Place) (t : Tag) (ts : List Tree) → IsComplement p t → fits (row_of t) (map tag_of ts) ≡ true → Facts ts → Over p t ts
unfolding row_of
complement_node _ _ ts class_not e facts = complement_over place.Class tag.ObjectComplementOf ts class_not of_class (one_kid sort.ClassExpression ts e) facts
complement_node _ _ ts range_not e facts = complement_over place.Range tag.DataComplementOf ts range_not of_range (one_kid sort.DataRange ts e) facts

enumeration_node : (p q : Place) (t : Tag) (ts : List Tree) → IsEnumeration p q t → fits (row_of t) (map tag_of ts) ≡ true → MeetsMinimum (row_of t) (length ts) → Facts ts → Over p t ts
unfolding row_of
enumeration_node _ _ _ ts of_individuals e many facts =
    let one = one_at_least ts (omega (arith, many)) in
    subst (Over place.Class tag.ObjectOneOf) (sym one.is) (IsExpressionAt.enumeration place.Class place.Individual tag.ObjectOneOf one.a one.others of_individuals (subst (AllByRecursion (IsLeafAt place.Individual)) one.is (individuals_at ts facts (set_kids sort.Individual 1 ts e))))
enumeration_node _ _ _ ts of_literals e many facts =
    let one = one_at_least ts (omega (arith, many)) in
    subst (Over place.Range tag.DataOneOf) (sym one.is) (IsExpressionAt.enumeration place.Range place.Literal tag.DataOneOf one.a one.others of_literals (subst (AllByRecursion (IsLeafAt place.Literal)) one.is (literals_at ts facts (set_kids sort.Literal 1 ts e))))

restricted_node : (ts : List Tree) → fits (row_of tag.DatatypeRestriction) (map tag_of ts) ≡ true → MeetsMinimum (row_of tag.DatatypeRestriction) (length ts) → Facts ts → Over place.Range tag.DatatypeRestriction ts
unfolding row_of
restricted_node [] e many facts = absurd (cc)
restricted_node (d ∷ ts) e many facts =
    let parts = and_parts (admits sort.Datatype (tag_of d)) (fits_rest (Set sort.FacetPair 1) (map tag_of ts)) e in
    let one = one_at_least ts (omega (arith, many)) in
    subst (λ (us : List Tree). Over place.Range tag.DatatypeRestriction (d ∷ us)) (sym one.is)
    (IsExpressionAt.restricted d one.a one.others (datatype_at d parts.0 facts.0.shaped) (subst (AllByRecursion IsFacetPairTree) one.is (pairs_at ts facts.1 (set_kids sort.FacetPair 1 ts parts.1))))

quantified_over : (s : Side) (t : Tag) (ts : List Tree) → IsQuantified s t → Two (side_sort s) (sort_at (filler_place s)) ts → IsClassOrRange (filler_place s) → Facts ts → Over place.Class t ts
quantified_over s t ts is pair there facts =
    let own = subst Facts pair.is facts in
    subst (Over place.Class t) (sym pair.is) (IsExpressionAt.quantified s t pair.a pair.b is (property_at s pair.a pair.first own.0.shaped) (own.1.0.expression (filler_place s) there pair.second))

quantified_node : (s : Side) (t : Tag) (ts : List Tree) → IsQuantified s t → fits (row_of t) (map tag_of ts) ≡ true → properties_objection (node t (kids_of ts)) ≡ None → list_of (kids_of ts) ≡ ts → Facts ts → Over place.Class t ts
unfolding row_of number_of
quantified_node _ _ ts object_some e few same facts = quantified_over objects tag.ObjectSomeValuesFrom ts object_some (two_kids sort.ObjectPropertyExpression sort.ClassExpression ts e) of_class facts
quantified_node _ _ ts object_only e few same facts = quantified_over objects tag.ObjectAllValuesFrom ts object_only (two_kids sort.ObjectPropertyExpression sort.ClassExpression ts e) of_class facts
quantified_node _ _ ts data_some e few same facts = quantified_over datas tag.DataSomeValuesFrom ts data_some (some_then sort.DataPropertyExpression sort.DataRange ts e (ap are_many (sym same) ∙ not_against (are_many (list_of (kids_of ts))) many_properties few)) of_range facts
quantified_node _ _ ts data_only e few same facts = quantified_over datas tag.DataAllValuesFrom ts data_only (some_then sort.DataPropertyExpression sort.DataRange ts e (ap are_many (sym same) ∙ not_against (are_many (list_of (kids_of ts))) many_properties few)) of_range facts

valued_node : (s : Side) (t : Tag) (ts : List Tree) → IsValued s t → fits (row_of t) (map tag_of ts) ≡ true → Facts ts → Over place.Class t ts
unfolding row_of
valued_node _ _ ts object_value e facts =
    let both = two_kids sort.ObjectPropertyExpression sort.Individual ts e in
    let own = subst Facts both.is facts in
    subst (Over place.Class tag.ObjectHasValue) (sym both.is) (IsExpressionAt.valued objects tag.ObjectHasValue both.a both.b object_value (property_at objects both.a both.first own.0.shaped) (individual_at both.b both.second own.1.0.shaped))
valued_node _ _ ts data_value e facts =
    let both = two_kids sort.DataPropertyExpression sort.Literal ts e in
    let own = subst Facts both.is facts in
    subst (Over place.Class tag.DataHasValue) (sym both.is) (IsExpressionAt.valued datas tag.DataHasValue both.a both.b data_value (property_at datas both.a both.first own.0.shaped) (literal_at both.b both.second own.1.0.shaped))

self_node : (ts : List Tree) → fits (row_of tag.ObjectHasSelf) (map tag_of ts) ≡ true → Facts ts → Over place.Class tag.ObjectHasSelf ts
unfolding row_of
self_node ts e facts =
    let one = one_kid sort.ObjectPropertyExpression ts e in
    let own = subst Facts one.is facts in
    subst (Over place.Class tag.ObjectHasSelf) (sym one.is) (IsExpressionAt.self_of one.a (property_at objects one.a one.first own.0.shaped))

counted_over : (s : Side) (t : Tag) (ts : List Tree) → IsCounted s t → IsClassOrRange (filler_place s) → TwoOrThree sort.Number (side_sort s) (sort_at (filler_place s)) ts → Facts ts → Over place.Class t ts
counted_over s t ts is there (two h) facts =
    let own = subst Facts h.is facts in
    subst (Over place.Class t) (sym h.is) (IsExpressionAt.counted s t h.a h.b is (number_at h.a h.first own.0.shaped) (property_at s h.b h.second own.1.0.shaped))
counted_over s t ts is there (three h) facts =
    let own = subst Facts h.is facts in
    subst (Over place.Class t) (sym h.is) (IsExpressionAt.counted_of s t h.a h.b h.d is (number_at h.a h.first own.0.shaped) (property_at s h.b h.second own.1.0.shaped) (own.1.1.0.expression (filler_place s) there h.third))

counted_node : (s : Side) (t : Tag) (ts : List Tree) → IsCounted s t → fits (row_of t) (map tag_of ts) ≡ true → Facts ts → Over place.Class t ts
unfolding row_of
counted_node _ t ts object_min e facts = counted_over objects t ts object_min of_class (optional_kid sort.Number sort.ObjectPropertyExpression sort.ClassExpression ts e) facts
counted_node _ t ts object_max e facts = counted_over objects t ts object_max of_class (optional_kid sort.Number sort.ObjectPropertyExpression sort.ClassExpression ts e) facts
counted_node _ t ts object_exactly e facts = counted_over objects t ts object_exactly of_class (optional_kid sort.Number sort.ObjectPropertyExpression sort.ClassExpression ts e) facts
counted_node _ t ts data_min e facts = counted_over datas t ts data_min of_range (optional_kid sort.Number sort.DataPropertyExpression sort.DataRange ts e) facts
counted_node _ t ts data_max e facts = counted_over datas t ts data_max of_range (optional_kid sort.Number sort.DataPropertyExpression sort.DataRange ts e) facts
counted_node _ t ts data_exactly e facts = counted_over datas t ts data_exactly of_range (optional_kid sort.Number sort.DataPropertyExpression sort.DataRange ts e) facts

-- what is known of a node
pub record NodeFacts (t : Tag) (ts : List Tree) : Type 0 where
  pub row : fits (row_of t) (map tag_of ts) ≡ true
  pub many : MeetsMinimum (row_of t) (length ts)
  pub few : properties_objection (node t (kids_of ts)) ≡ None
  pub same : list_of (kids_of ts) ≡ ts
  pub kids : Facts ts

by_form : (p : Place) (t : Tag) (ts : List Tree) → IsNodeAt p t → NodeFacts t ts → Over p t ts
by_form _ _ ts (IsNodeAt.connective p t is) h = connected_node p t ts is h.row h.many h.kids
by_form _ _ ts (IsNodeAt.complement p t is) h = complement_node p t ts is h.row h.kids
by_form _ _ ts (IsNodeAt.enumeration p q t is) h = enumeration_node p q t ts is h.row h.many h.kids
by_form _ _ ts IsNodeAt.restricted h = restricted_node ts h.row h.many h.kids
by_form _ _ ts (IsNodeAt.quantifier s t is) h = quantified_node s t ts is h.row h.few h.same h.kids
by_form _ _ ts (IsNodeAt.valued s t is) h = valued_node s t ts is h.row h.kids
by_form _ _ ts IsNodeAt.has_self h = self_node ts h.row h.kids
by_form _ _ ts (IsNodeAt.cardinality s t is) h = counted_node s t ts is h.row h.kids

expression_over : (p : Place) (t : Tag) (ts : List Tree) → IsClassOrRange p → admits (sort_at p) t ≡ true → NodeFacts t ts → Over p t ts
expression_over _ t ts of_class e h = by_form place.Class t ts (class_node t (map tag_of ts) (and_from (admits sort.ClassExpression t) _ e h.row)) h
expression_over _ t ts of_range e h = by_form place.Range t ts (range_node t (map tag_of ts) (and_from (admits sort.DataRange t) _ e h.row)) h

expression_leaf : (p : Place) (t : Tag) (a : Atom) → IsClassOrRange p → admits (sort_at p) t ≡ true → IsShaped (leaf t a) → IsExpressionAt p (leaf t a)
expression_leaf _ t a of_class e shaped = IsExpressionAt.named place.Class _ of_class (leaves.class_leaf t a (and_from (admits sort.ClassExpression t) _ e shaped.0) shaped.1)
expression_leaf _ t a of_range e shaped = IsExpressionAt.named place.Range _ of_range (leaves.range_leaf t a (and_from (admits sort.DataRange t) _ e shaped.0) shaped.1)

-- ---- facets with their values

facet_shape : (t : Tag) (a : Atom) → leaves.IsLeafOf sort.Facet t a → (iri : List ℕ) × (t ≡ tag.Facet) × (a ≡ atom.Iri iri)
unfolding admits row_of number_of
facet_shape tag.Facet (atom.Iri iri) e = (iri, refl, refl)
facet_shape _ _ e = absurd (cc)

facet_node : (t : Tag) (ts : List Tag) → IsNodeOf sort.Facet t ts → ⊥
unfolding admits row_of number_of
facet_node tag.Class ts e = absurd (cc)
facet_node _ ts e = absurd (cc)

known_facet : (iri : List ℕ) (o : Option Facet) → wordless iri o ≡ None → (f : Facet) × (o ≡ Some f)
known_facet iri None e = absurd (none-some (facet_name iri) (sym e))
known_facet iri (Some f) e = (f, refl)

-- the facet, by its word or sign
pub record IsKnownFacet (t : Tree) : Type 0 where
  pub iri : List ℕ
  pub facet : Facet
  pub is : t ≡ leaf tag.Facet (atom.Iri iri)
  pub found : facet_named iri ≡ Some facet

facet_leaf : (iri : List ℕ) → facet_objection (leaf tag.Facet (atom.Iri iri)) ≡ None → wordless iri (facet_named iri) ≡ None
unfolding number_of
facet_leaf iri e = e

facet_at : (t : Tree) → admits sort.Facet (tag_of t) ≡ true → IsShaped t → IsSaid t → IsKnownFacet t
facet_at (leaf t a) e shaped said =
    let shape = facet_shape t a (and_from (admits sort.Facet t) _ e shaped.0) in
    let is : leaf t a ≡ leaf tag.Facet (atom.Iri shape.0) = ap (λ (u : Tag). leaf u a) shape.1 ∙ ap (leaf tag.Facet) shape.2 in
    let known = known_facet shape.0 (facet_named shape.0) (facet_leaf shape.0 (subst IsSaid is said)) in
    record { iri = shape.0; facet = known.0; is = is; found = known.1 }
facet_at (node t ks) e shaped said = absurd (facet_node t (map tag_of (list_of ks)) (and_from (admits sort.Facet t) _ e shaped.0.row))

pair_tag : (t : Tag) (ts : List Tag) → IsNodeOf sort.FacetPair t ts → t ≡ tag.FacetPair
unfolding admits row_of number_of
pair_tag tag.FacetPair ts e = refl
pair_tag _ ts e = absurd (cc)

no_pair_leaf : (t : Tag) (a : Atom) → leaves.IsLeafOf sort.FacetPair t a → ⊥
unfolding admits row_of number_of
no_pair_leaf tag.Class a e = absurd (cc)
no_pair_leaf _ a e = absurd (cc)

literal_value : (t : Tree) → IsLeafAt place.Literal t → (f : Facet) (iri : List ℕ) → facet_named iri ≡ Some f → IsFacetPairTree (node tag.FacetPair (kids_of (leaf tag.Facet (atom.Iri iri) ∷ t ∷ [])))
literal_value _ (IsLeafAt.literal_leaf _ value at is) f iri found = pair_of iri f value found is
literal_value _ (IsLeafAt.name_leaf _ t k x at ok) f iri found = elim at [ ]
literal_value _ (IsLeafAt.iri_leaf _ t x at ok) f iri found = elim at [ ]
literal_value _ (IsLeafAt.label_leaf _ label at ok) f iri found = elim at [ ]

pair_over : (ts : List Tree) → fits (row_of tag.FacetPair) (map tag_of ts) ≡ true → Facts ts → IsFacetPairTree (node tag.FacetPair (kids_of ts))
unfolding row_of
pair_over ts e facts =
    let both = two_kids sort.Facet sort.Literal ts e in
    let own = subst Facts both.is facts in
    let known = facet_at both.a both.first own.0.shaped own.0.said in
    subst (λ (us : List Tree). IsFacetPairTree (node tag.FacetPair (kids_of us))) (sym both.is)
    (subst (λ (u : Tree). IsFacetPairTree (node tag.FacetPair (kids_of (u ∷ both.b ∷ [])))) (sym known.is) (literal_value both.b (literal_at both.b both.second own.1.0.shaped) known.facet known.iri known.found))

pair_node : (t : Tag) (ts : List Tree) → admits sort.FacetPair t ≡ true → fits (row_of t) (map tag_of ts) ≡ true → Facts ts → IsFacetPairTree (node t (kids_of ts))
pair_node t ts e f facts =
    let is = pair_tag t (map tag_of ts) (and_from (admits sort.FacetPair t) _ e f) in
    subst (λ (u : Tag). IsFacetPairTree (node u (kids_of ts))) (sym is) (pair_over ts (subst (λ (u : Tag). fits (row_of u) (map tag_of ts) ≡ true) is f) facts)

-- ---- all of it

node_facts : (t : Tag) (ks : Kids) → IsShaped (node t ks) → HasMembers (node t ks) → IsSaid (node t ks) → Facts (list_of ks) → NodeFacts t (list_of ks)
node_facts t ks shaped members said facts =
    let back = kids_of_list_of ks in
    record {
      row = shaped.0.row;
      many = members.0;
      few = ap (λ (us : Kids). properties_objection (node t us)) back ∙ said.0;
      same = ap list_of back;
      kids = facts;
    }

mutual
  -- what is known of a shaped tree that can be said, and of its kids
  pub facts_at : (t : Tree) → IsShaped t → HasMembers t → IsSaid t → KidFacts t
  facts_at (leaf t a) shaped members said = record {
    shaped = shaped;
    said = said;
    expression = λ p is e. expression_leaf p t a is e shaped;
    pair = λ e. absurd (no_pair_leaf t a (and_from (admits sort.FacetPair t) _ e shaped.0));
  }
  facts_at (node t ks) shaped members said =
      let facts = all_facts ks shaped.1 members.2 said.1 in
      let own = node_facts t ks shaped members said facts in
      let back = kids_of_list_of ks in record {
        shaped = shaped;
        said = said;
        expression = λ p is e. subst (λ (us : Kids). IsExpressionAt p (node t us)) back (expression_over p t (list_of ks) is e own);
        pair = λ e. subst (λ (us : Kids). IsFacetPairTree (node t us)) back (pair_node t (list_of ks) e shaped.0.row facts);
      }

  pub all_facts : (ks : Kids) → AreShaped ks → HaveMembers ks → AreSaid ks → Facts (list_of ks)
  all_facts no_kids shaped members said = tt
  all_facts (kid t ks) shaped members said = (facts_at t shaped.0 members.0 said.0, all_facts ks shaped.1 members.1 said.1)
