-- Each shaped axiom that can be said has a block.
use Rattle.std.proofs.Common.{◌≡◌, ◌⊎◌, inl, inr, ℕ, true, false, not, Option, None, Some, List, [], ◌∷◌, ◌++◌, map, refl, sym, ap, ◌∙◌, subst}
use Rattle.std.specs.Prelude.{◌&&◌, ◌||◌, IsTrue, Contains}
use Rattle.std.specs.List.{AllByRecursion, list_all}
use Rattle.std.proofs.lemmas.Bool.{and_from, and_parts, not-false, or_parts}
use Rattle.std.proofs.lemmas.Option.{none-some}
use Rattle.man_resolve.specs.declared.place.Place.{Place}
use Rattle.man_resolve.specs.declared.place.Place.TheVariants as place
use Rattle.man_raw.specs.declared.heading.Heading.{Heading}
use Rattle.man_raw.specs.declared.heading.Heading.TheVariants as heading
use Rattle.man_raw.specs.declared.heading.Section.TheVariants as section
use Rattle.man_resolve.specs.Expressions.{Knows}
use Rattle.man_sayable.specs.FrameKinds.{frame_kind}
use Rattle.man_sayable.specs.Sayable.{annotated_objection, frame_objection, has_kids, undeclared}
use Rattle.man_sayable.specs.Subjects.{against, has_tag_at, subject_of}
use Rattle.man_sayable.proofs.SayableLaws.{not_against, second_fails}
use Rattle.sayable_parts.specs.Reasons.{annotated_declaration, inverse_assertion, inverse_subject, undeclared_subject, unnamed_subject}
use Rattle.owl_kind.specs.declared.kind.Kind.{Kind}
use Rattle.owl_list.proofs.AscendingLaws.{in_cases, in_none}
use Rattle.owl_tree.specs.Atoms.{IsAtom}
use Rattle.owl_tree.specs.declared.atom.Atom.{Atom}
use Rattle.owl_tree.specs.declared.atom.Atom.TheVariants as atom
use Rattle.owl_tree.specs.declared.row.Rest.TheVariants.{Nothing}
use Rattle.owl_tree.specs.declared.row.Sort.{Sort}
use Rattle.owl_tree.specs.declared.row.Sort.TheVariants as sort
use Rattle.owl_tree.specs.declared.tag.Tag.{Tag}
use Rattle.owl_tree.specs.declared.tag.Tag.TheVariants as tag
use Rattle.owl_tree.specs.Rows.{admits, fits, fits_front, is_tag, row_of, takes}
use Rattle.owl_tree.specs.Shape.{AreShaped, HasKeyProperty, IsShaped}
use Rattle.owl_tree.specs.Tags.{is_axiom, number_of}
use Rattle.owl_tree.specs.Trees.{Kids, Tree, kid, kids_in, kids_of, leaf, list_of, no_kids, node, tag_of}
use Rattle.owl_tree.proofs.TreeLaws.{kids_of_list_of}
use Rattle.man_text.proofs.AxiomLaws.{AreProperties, IsAbout, IsAxiomOver, IsBeside, IsBodyAt, IsEntityTag, IsFactTag, IsNamedProperty, bare_notes}
use Rattle.man_text.proofs.ExpressionLaws.{IsLeafAt, IsNameAt, IsNotesTree, Side, datas, notes_of, objects}
use Rattle.man_text.proofs.ShapedAxiomLaws.{AxiomFacts, AxiomForm, HasBlock, axiom_form, beside_block, by_kids, first_notes, inverse_block, listed_block, named_of, property_list_block, typing_block, union_block, word_block}
use Rattle.man_text.proofs.ShapedExpressionLaws.{Facts}
use Rattle.man_text.proofs.ShapedLaws.{AllOf, all_of_sort, annotation_property_at, class_name_at, data_at, individual_at, literal_at, object_name_at, property_at, set_kids, side_sort, three_kids, two_kids, value_at}
use Rattle.man_text.proofs.SortLaws.{IsLeafOf, IsNodeOf}

-- ---- kids of kids

pub shaped_list : (ks : Kids) → AreShaped ks → AllByRecursion IsShaped (list_of ks)
shaped_list no_kids h = tt
shaped_list (kid t ks) h = (h.0, shaped_list ks h.1)

all_properties : (s : Side) (ts : List Tree) → AllByRecursion IsShaped ts → AllOf (side_sort s) ts → AreProperties s ts
all_properties s [] h k = tt
all_properties s (t ∷ ts) h k = (property_at s t k.0 h.0, all_properties s ts h.1 k.1)

-- ---- below an object property stand names, inverses and chains

data SubTag : Tag → Type 0 where
  a_name : SubTag tag.ObjectProperty
  an_inverse : SubTag tag.ObjectInverseOf
  a_chain : SubTag tag.ObjectPropertyChain

sub_tag : (t : Tag) → admits sort.SubObjectPropertyExpression t ≡ true → SubTag t
unfolding admits number_of
sub_tag tag.ObjectProperty e = a_name
sub_tag tag.ObjectInverseOf e = an_inverse
sub_tag tag.ObjectPropertyChain e = a_chain
sub_tag _ e = absurd (cc)

pub record IsChain (t : Tree) : Type 0 where
  pub a : Tree
  pub b : Tree
  pub others : List Tree
  pub is : t ≡ node tag.ObjectPropertyChain (kids_of (a ∷ b ∷ others))
  pub links : AreProperties objects (a ∷ b ∷ others)

chain_of : (ts : List Tree) → fits (row_of tag.ObjectPropertyChain) (map tag_of ts) ≡ true → AllByRecursion IsShaped ts → IsChain (node tag.ObjectPropertyChain (kids_of ts))
unfolding row_of
chain_of [] e shaped = absurd (cc)
chain_of (a ∷ []) e shaped = absurd (cc)
chain_of (a ∷ b ∷ ts) e shaped =
    let all = all_of_sort sort.ObjectPropertyExpression (a ∷ b ∷ ts) (and_parts _ (list_all (admits sort.ObjectPropertyExpression) (tag_of a ∷ tag_of b ∷ map tag_of ts)) e).1 in
    record { a = a; b = b; others = ts; is = refl; links = all_properties objects (a ∷ b ∷ ts) shaped all }

chain_at : (t : Tree) → tag_of t ≡ tag.ObjectPropertyChain → IsShaped t → IsChain t
unfolding row_of
chain_at (leaf t a) e shaped = let f : takes (row_of tag.ObjectPropertyChain) a ≡ true = subst (λ (u : Tag). takes (row_of u) a ≡ true) e shaped.0 in absurd (cc)
chain_at (node t ks) e shaped =
    let row = subst (λ (u : Tag). fits (row_of u) (map tag_of (list_of ks)) ≡ true) e shaped.0.row in
    let chain = chain_of (list_of ks) row (shaped_list ks shaped.1) in
    subst IsChain (ap (node tag.ObjectPropertyChain) (kids_of_list_of ks) ∙ ap (λ (u : Tag). node u ks) (sym e)) chain

module _ (looks : Knows) where
  -- what is not said against the subject of a subproperty
  abbrev SubFree : Tree → Tree → Type 0
  SubFree sub super = (is_tag tag.ObjectInverseOf (tag_of sub) || is_tag tag.ObjectPropertyChain (tag_of sub) && is_tag tag.ObjectInverseOf (tag_of super)) ≡ false

  by_sub : (notes sub super : Tree) (u : Tag) → SubTag u → tag_of sub ≡ u → Facts (notes ∷ sub ∷ super ∷ []) → admits sort.Notes (tag_of notes) ≡ true → admits sort.ObjectPropertyExpression (tag_of super) ≡ true → SubFree sub super
      → HasBlock looks tag.SubObjectPropertyOf (notes ∷ sub ∷ super ∷ [])
  unfolding admits number_of
  by_sub notes sub super _ a_name e facts first third free = record {
    own = _;
    is = IsAxiomOver.beside tag.SubObjectPropertyOf heading.ObjectProperty section.SubPropertyOf place.ObjectName place.Object notes sub super IsBeside.sub_property (first_notes notes first facts.0)
        (object_name_at sub (ap (admits sort.ObjectProperty) e) facts.1.0.shaped) (IsBodyAt.property_body super (property_at objects super third facts.1.1.0.shaped));
  }
  by_sub notes sub super _ an_inverse e facts first third free =
      let never : is_tag tag.ObjectInverseOf (tag_of sub) ≡ false = (or_parts _ _ free).0 in
      let here : is_tag tag.ObjectInverseOf (tag_of sub) ≡ true = ap (is_tag tag.ObjectInverseOf) e in absurd (cc)
  by_sub notes sub super _ a_chain e facts first third free =
      let chain = chain_at sub e facts.1.0.shaped in
      let here : is_tag tag.ObjectPropertyChain (tag_of sub) ≡ true = ap (is_tag tag.ObjectPropertyChain) e in
      let plain = second_fails _ _ (or_parts _ _ free).1 here in
      let named = object_name_at super (named_of (tag_of super) third plain) facts.1.1.0.shaped in
      subst (λ (t : Tree). HasBlock looks tag.SubObjectPropertyOf (notes ∷ t ∷ super ∷ [])) (sym chain.is)
      (record { own = _; is = IsAxiomOver.chain notes chain.a chain.b chain.others super (first_notes notes first facts.0) chain.links named })

  sub_property_block : (ts : List Tree) → AxiomFacts looks tag.SubObjectPropertyOf ts → HasBlock looks tag.SubObjectPropertyOf ts
  unfolding row_of subject_of
  sub_property_block ts f =
      let kids = three_kids sort.Notes sort.SubObjectPropertyExpression sort.ObjectPropertyExpression ts f.row in
      let free = not_against _ inverse_subject (subst (λ (us : List Tree). against (has_tag_at tag.ObjectInverseOf 1 us || has_tag_at tag.ObjectPropertyChain 1 us && has_tag_at tag.ObjectInverseOf 2 us) inverse_subject ≡ None) kids.is f.subject) in
      by_kids looks tag.SubObjectPropertyOf ts _ kids.is
      (by_sub kids.a kids.b kids.d (tag_of kids.b) (sub_tag (tag_of kids.b) kids.second) refl (subst Facts kids.is f.kids) kids.first kids.third free)

-- ---- four kids

pub record Four (s r q o : Sort) (ts : List Tree) : Type 0 where
  pub a : Tree
  pub b : Tree
  pub d : Tree
  pub e : Tree
  pub is : ts ≡ a ∷ b ∷ d ∷ e ∷ []
  pub first : admits s (tag_of a) ≡ true
  pub second : admits r (tag_of b) ≡ true
  pub third : admits q (tag_of d) ≡ true
  pub fourth : admits o (tag_of e) ≡ true

pub four_kids : (s r q o : Sort) (ts : List Tree) → fits_front (s ∷ r ∷ q ∷ o ∷ []) Nothing (map tag_of ts) ≡ true → Four s r q o ts
four_kids s r q o [] e = absurd (cc)
four_kids s r q o (a ∷ ts) e =
    let parts = and_parts (admits s (tag_of a)) (fits_front (r ∷ q ∷ o ∷ []) Nothing (map tag_of ts)) e in
    let rest = three_kids r q o ts parts.1 in
    record { a = a; b = rest.a; d = rest.b; e = rest.d; is = ap (λ (us : List Tree). a ∷ us) rest.is; first = parts.0; second = rest.first; third = rest.second; fourth = rest.third }

-- ---- facts

object_named : (t : Tree) → IsLeafAt place.ObjectName t → IsNamedProperty objects t
object_named _ (IsLeafAt.name_leaf _ _ _ iri IsNameAt.object_name is) = IsNamedProperty.object_name iri is
object_named _ (IsLeafAt.iri_leaf _ t iri at ok) = elim at [ ]
object_named _ (IsLeafAt.label_leaf _ label at ok) = elim at [ ]
object_named _ (IsLeafAt.literal_leaf _ value at ok) = elim at [ ]

data_named : (t : Tree) → IsLeafAt place.Data t → IsNamedProperty datas t
data_named _ (IsLeafAt.name_leaf _ _ _ iri IsNameAt.data_property is) = IsNamedProperty.data_name iri is
data_named _ (IsLeafAt.iri_leaf _ t iri at ok) = elim at [ ]
data_named _ (IsLeafAt.label_leaf _ label at ok) = elim at [ ]
data_named _ (IsLeafAt.literal_leaf _ value at ok) = elim at [ ]

module _ (looks : Knows) where
  object_fact_over : (t : Tag) (ts : List Tree) → IsFactTag objects t → Four sort.Notes sort.ObjectPropertyExpression sort.Individual sort.Individual ts → Facts ts → against (has_tag_at tag.ObjectInverseOf 1 ts) inverse_assertion ≡ None → HasBlock looks t ts
  object_fact_over t ts is kids facts none =
      let own = subst Facts kids.is facts in
      let plain = not_against _ inverse_assertion (subst (λ (us : List Tree). against (has_tag_at tag.ObjectInverseOf 1 us) inverse_assertion ≡ None) kids.is none) in
      by_kids looks t ts _ kids.is
      (record { own = _; is = IsAxiomOver.fact objects t kids.a kids.b kids.d kids.e is (first_notes kids.a kids.first own.0) (object_named kids.b (object_name_at kids.b (named_of (tag_of kids.b) kids.second plain) own.1.0.shaped)) (individual_at kids.d kids.third own.1.1.0.shaped) (individual_at kids.e kids.fourth own.1.1.1.0.shaped) })

  data_fact_over : (t : Tag) (ts : List Tree) → IsFactTag datas t → Four sort.Notes sort.DataPropertyExpression sort.Individual sort.Literal ts → Facts ts → HasBlock looks t ts
  data_fact_over t ts is kids facts =
      let own = subst Facts kids.is facts in
      by_kids looks t ts _ kids.is
      (record { own = _; is = IsAxiomOver.fact datas t kids.a kids.b kids.d kids.e is (first_notes kids.a kids.first own.0) (data_named kids.b (data_at kids.b kids.second own.1.0.shaped)) (individual_at kids.d kids.third own.1.1.0.shaped) (literal_at kids.e kids.fourth own.1.1.1.0.shaped) })

  fact_block : (s : Side) (t : Tag) (ts : List Tree) → IsFactTag s t → AxiomFacts looks t ts → HasBlock looks t ts
  unfolding row_of subject_of
  fact_block s t ts IsFactTag.object_fact f = object_fact_over t ts IsFactTag.object_fact (four_kids sort.Notes sort.ObjectPropertyExpression sort.Individual sort.Individual ts f.row) f.kids f.subject
  fact_block s t ts IsFactTag.negative_object_fact f = object_fact_over t ts IsFactTag.negative_object_fact (four_kids sort.Notes sort.ObjectPropertyExpression sort.Individual sort.Individual ts f.row) f.kids f.subject
  fact_block s t ts IsFactTag.data_fact f = data_fact_over t ts IsFactTag.data_fact (four_kids sort.Notes sort.DataPropertyExpression sort.Individual sort.Literal ts f.row) f.kids
  fact_block s t ts IsFactTag.negative_data_fact f = data_fact_over t ts IsFactTag.negative_data_fact (four_kids sort.Notes sort.DataPropertyExpression sort.Individual sort.Literal ts f.row) f.kids

-- ---- keys

keys_tag : (t : Tag) (ts : List Tag) → IsNodeOf sort.ObjectKeys t ts → t ≡ tag.ObjectKeys
unfolding admits row_of number_of
keys_tag tag.ObjectKeys ts e = refl
keys_tag _ ts e = absurd (cc)

no_keys_leaf : (t : Tag) (a : Atom) → IsLeafOf sort.ObjectKeys t a → ⊥
unfolding admits row_of number_of
no_keys_leaf tag.Class a e = absurd (cc)
no_keys_leaf _ a e = absurd (cc)

data_keys_tag : (t : Tag) (ts : List Tag) → IsNodeOf sort.DataKeys t ts → t ≡ tag.DataKeys
unfolding admits row_of number_of
data_keys_tag tag.DataKeys ts e = refl
data_keys_tag _ ts e = absurd (cc)

no_data_keys_leaf : (t : Tag) (a : Atom) → IsLeafOf sort.DataKeys t a → ⊥
unfolding admits row_of number_of
no_data_keys_leaf tag.Class a e = absurd (cc)
no_data_keys_leaf _ a e = absurd (cc)

-- a group of keys
pub record IsGroup (s : Side) (t : Tag) (u : Tree) : Type 0 where
  pub members : List Tree
  pub is : u ≡ node t (kids_of members)
  pub properties : AreProperties s members

object_group : (ts : List Tree) → fits (row_of tag.ObjectKeys) (map tag_of ts) ≡ true → AllByRecursion IsShaped ts → AreProperties objects ts
unfolding row_of
object_group ts e shaped = all_properties objects ts shaped (set_kids sort.ObjectPropertyExpression 0 ts e)

data_group : (ts : List Tree) → fits (row_of tag.DataKeys) (map tag_of ts) ≡ true → AllByRecursion IsShaped ts → AreProperties datas ts
unfolding row_of
data_group ts e shaped = all_properties datas ts shaped (set_kids sort.DataPropertyExpression 0 ts e)

object_keys_at : (t : Tree) → admits sort.ObjectKeys (tag_of t) ≡ true → IsShaped t → IsGroup objects tag.ObjectKeys t
object_keys_at (leaf t a) e shaped = absurd (no_keys_leaf t a (and_from (admits sort.ObjectKeys t) _ e shaped.0))
object_keys_at (node t ks) e shaped =
    let is = keys_tag t (map tag_of (list_of ks)) (and_from (admits sort.ObjectKeys t) _ e shaped.0.row) in
    record {
      members = list_of ks;
      is = ap (λ (u : Tag). node u ks) is ∙ sym (ap (node tag.ObjectKeys) (kids_of_list_of ks));
      properties = object_group (list_of ks) (subst (λ (u : Tag). fits (row_of u) (map tag_of (list_of ks)) ≡ true) is shaped.0.row) (shaped_list ks shaped.1);
    }

data_keys_at : (t : Tree) → admits sort.DataKeys (tag_of t) ≡ true → IsShaped t → IsGroup datas tag.DataKeys t
data_keys_at (leaf t a) e shaped = absurd (no_data_keys_leaf t a (and_from (admits sort.DataKeys t) _ e shaped.0))
data_keys_at (node t ks) e shaped =
    let is = data_keys_tag t (map tag_of (list_of ks)) (and_from (admits sort.DataKeys t) _ e shaped.0.row) in
    record {
      members = list_of ks;
      is = ap (λ (u : Tag). node u ks) is ∙ sym (ap (node tag.DataKeys) (kids_of_list_of ks));
      properties = data_group (list_of ks) (subst (λ (u : Tag). fits (row_of u) (map tag_of (list_of ks)) ≡ true) is shaped.0.row) (shaped_list ks shaped.1);
    }

-- one of the two groups has a member

abbrev IsKeys : Tag → Type 0
IsKeys t = (t ≡ tag.ObjectKeys) ⊎ (t ≡ tag.DataKeys)

no_notes_keys : (t : Tag) → admits sort.Notes t ≡ true → IsKeys t → ⊥
unfolding admits number_of
no_notes_keys t e (inl f) = let g : admits sort.Notes tag.ObjectKeys ≡ true = subst (λ (u : Tag). admits sort.Notes u ≡ true) f e in absurd (cc)
no_notes_keys t e (inr f) = let g : admits sort.Notes tag.DataKeys ≡ true = subst (λ (u : Tag). admits sort.Notes u ≡ true) f e in absurd (cc)

no_class_keys : (t : Tag) → admits sort.Class t ≡ true → IsKeys t → ⊥
unfolding admits number_of
no_class_keys t e (inl f) = let g : admits sort.Class tag.ObjectKeys ≡ true = subst (λ (u : Tag). admits sort.Class u ≡ true) f e in absurd (cc)
no_class_keys t e (inr f) = let g : admits sort.Class tag.DataKeys ≡ true = subst (λ (u : Tag). admits sort.Class u ≡ true) f e in absurd (cc)

empty_group : (t : Tag) (x : Tree) → Contains (kids_in (node t (kids_of []))) x → ⊥
empty_group t x m = in_none x m

has_key : (notes class : Tree) (os ds : List Tree) → admits sort.Notes (tag_of notes) ≡ true → admits sort.Class (tag_of class) ≡ true → HasKeyProperty (notes ∷ class ∷ node tag.ObjectKeys (kids_of os) ∷ node tag.DataKeys (kids_of ds) ∷ []) → (a : Tree) × (ts : List Tree) × (os ++ ds ≡ a ∷ ts)
has_key notes class (a ∷ os) ds e f h = (a, os ++ ds, refl)
has_key notes class [] (a ∷ ds) e f h = (a, ds, refl)
has_key notes class [] [] e f h =
    let first = in_cases notes (class ∷ node tag.ObjectKeys (kids_of []) ∷ node tag.DataKeys (kids_of []) ∷ []) h.group h.inside in
    elim first [
      | inl same ↦ absurd (no_notes_keys (tag_of notes) e (subst (λ (u : Tree). IsKeys (tag_of u)) (sym same) h.is_group))
      | inr rest ↦ elim (in_cases class (node tag.ObjectKeys (kids_of []) ∷ node tag.DataKeys (kids_of []) ∷ []) h.group rest) [
        | inl same ↦ absurd (no_class_keys (tag_of class) f (subst (λ (u : Tree). IsKeys (tag_of u)) (sym same) h.is_group))
        | inr rest ↦ elim (in_cases (node tag.ObjectKeys (kids_of [])) (node tag.DataKeys (kids_of []) ∷ []) h.group rest) [
          | inl same ↦ absurd (empty_group tag.ObjectKeys h.property (subst (λ (u : Tree). Contains (kids_in u) h.property) (sym same) h.member))
          | inr rest ↦ elim (in_cases (node tag.DataKeys (kids_of [])) [] h.group rest) [
            | inl same ↦ absurd (empty_group tag.DataKeys h.property (subst (λ (u : Tree). Contains (kids_in u) h.property) (sym same) h.member))
            | inr none ↦ absurd (in_none h.group none)
          ]
        ]
      ]
    ]

-- ---- what annotations are about, and what is declared

data AboutForm : Tag → Atom → Type 0 where
  an_iri : (iri : List ℕ) → AboutForm tag.PlainIri (atom.Iri iri)
  a_label : (label : List ℕ) → AboutForm tag.Anonymous (atom.Label label)

about_form : (t : Tag) (a : Atom) → IsLeafOf sort.AnnotationSubject t a → AboutForm t a
unfolding admits row_of number_of
about_form tag.PlainIri (atom.Iri iri) e = an_iri iri
about_form tag.Anonymous (atom.Label label) e = a_label label
about_form _ _ e = absurd (cc)

no_about_node : (t : Tag) (ts : List Tag) → IsNodeOf sort.AnnotationSubject t ts → ⊥
unfolding admits row_of number_of
no_about_node tag.Class ts e = absurd (cc)
no_about_node _ ts e = absurd (cc)

data EntityForm : Tag → Atom → Type 0 where
  entity : (t : Tag) (h : Heading) (p : Place) (iri : List ℕ) → IsEntityTag t h p → EntityForm t (atom.Iri iri)

entity_form : (t : Tag) (a : Atom) → IsLeafOf sort.Entity t a → EntityForm t a
unfolding admits row_of number_of
entity_form tag.Class (atom.Iri iri) e = entity _ _ _ iri IsEntityTag.of_class
entity_form tag.Datatype (atom.Iri iri) e = entity _ _ _ iri IsEntityTag.of_datatype
entity_form tag.ObjectProperty (atom.Iri iri) e = entity _ _ _ iri IsEntityTag.of_object_property
entity_form tag.DataProperty (atom.Iri iri) e = entity _ _ _ iri IsEntityTag.of_data_property
entity_form tag.AnnotationProperty (atom.Iri iri) e = entity _ _ _ iri IsEntityTag.of_annotation_property
entity_form tag.NamedIndividual (atom.Iri iri) e = entity _ _ _ iri IsEntityTag.of_individual
entity_form _ _ e = absurd (cc)

no_entity_node : (t : Tag) (ts : List Tag) → IsNodeOf sort.Entity t ts → ⊥
unfolding admits row_of number_of
no_entity_node tag.Class ts e = absurd (cc)
no_entity_node _ ts e = absurd (cc)

-- annotations of which there are none
no_notes : (t : Tree) → IsNotesTree t → has_kids (Some t) ≡ false → t ≡ bare_notes
no_notes _ (notes_of [] h) e = refl
no_notes _ (notes_of (t ∷ ts) h) e = absurd (cc)

known_kind : (iri : List ℕ) (o : Option Kind) → undeclared iri o ≡ None → (k : Kind) × (o ≡ Some k)
known_kind iri None e = absurd (none-some (undeclared_subject iri) (sym e))
known_kind iri (Some k) e = (k, refl)

module _ (looks : Knows) where
  about_at : (t : Tree) → admits sort.AnnotationSubject (tag_of t) ≡ true → IsShaped t → annotated_objection looks (Some t) ≡ None → IsAbout looks t
  about_at (leaf t a) e shaped none = by_form t a (about_form t a (and_from (admits sort.AnnotationSubject t) _ e shaped.0)) shaped.1 none
    where
      by_form : (t : Tag) (a : Atom) → AboutForm t a → IsAtom a → annotated_objection looks (Some (leaf t a)) ≡ None → IsAbout looks (leaf t a)
      by_form _ _ (an_iri iri) is none = let known = known_kind iri (frame_kind looks iri) none in IsAbout.about_iri iri known.0 is known.1
      by_form _ _ (a_label label) is none = IsAbout.about_label label is
  about_at (node t ks) e shaped none = absurd (no_about_node t (map tag_of (list_of ks)) (and_from (admits sort.AnnotationSubject t) _ e shaped.0.row))

  key_block : (ts : List Tree) → AxiomFacts looks tag.HasKey ts → HasBlock looks tag.HasKey ts
  unfolding row_of subject_of admits
  key_block ts f =
      let kids = four_kids sort.Notes sort.ClassExpression sort.ObjectKeys sort.DataKeys ts f.row in
      let own = subst Facts kids.is f.kids in
      let named : is_tag tag.Class (tag_of kids.b) ≡ true = not-false _ (not_against _ unnamed_subject (subst (λ (us : List Tree). against (not (has_tag_at tag.Class 1 us)) unnamed_subject ≡ None) kids.is f.subject)) in
      let first = object_keys_at kids.d kids.third own.1.1.0.shaped in
      let second = data_keys_at kids.e kids.fourth own.1.1.1.0.shaped in
      let groups = kids.is ∙ ap (λ (u : Tree). kids.a ∷ kids.b ∷ u ∷ kids.e ∷ []) first.is ∙ ap (λ (u : Tree). kids.a ∷ kids.b ∷ node tag.ObjectKeys (kids_of first.members) ∷ u ∷ []) second.is in
      let some = has_key kids.a kids.b first.members second.members kids.first named (subst HasKeyProperty groups (f.keys refl)) in
      by_kids looks tag.HasKey ts _ groups
      (record { own = _; is = IsAxiomOver.key kids.a kids.b first.members second.members some.0 some.1 (first_notes kids.a kids.first own.0) (class_name_at kids.b named own.1.0.shaped) first.properties second.properties some.2 })

  assertion_block : (ts : List Tree) → AxiomFacts looks tag.AnnotationAssertion ts → HasBlock looks tag.AnnotationAssertion ts
  unfolding row_of frame_objection
  assertion_block ts f =
      let kids = four_kids sort.Notes sort.AnnotationProperty sort.AnnotationSubject sort.AnnotationValue ts f.row in
      let own = subst Facts kids.is f.kids in
      let free = subst (λ (us : List Tree). frame_objection looks tag.AnnotationAssertion us ≡ None) kids.is f.frame in
      by_kids looks tag.AnnotationAssertion ts _ kids.is
      (record { own = _; is = IsAxiomOver.assertion kids.a kids.b kids.d kids.e (first_notes kids.a kids.first own.0) (annotation_property_at kids.b kids.second own.1.0.shaped) (about_at kids.d kids.third own.1.1.0.shaped free) (value_at kids.e kids.fourth own.1.1.1.0.shaped) })

  declared_entity : (t : Tree) → admits sort.Entity (tag_of t) ≡ true → IsShaped t → HasBlock looks tag.Declaration (bare_notes ∷ t ∷ [])
  declared_entity (leaf t a) e shaped = by_form t a (entity_form t a (and_from (admits sort.Entity t) _ e shaped.0)) shaped.1
    where
      by_form : (t : Tag) (a : Atom) → EntityForm t a → IsAtom a → HasBlock looks tag.Declaration (bare_notes ∷ leaf t a ∷ [])
      by_form _ _ (entity t h p iri is) ok = record { own = []; is = IsAxiomOver.declaration t h p iri is ok }
  declared_entity (node t ks) e shaped = absurd (no_entity_node t (map tag_of (list_of ks)) (and_from (admits sort.Entity t) _ e shaped.0.row))

  declaration_block : (ts : List Tree) → AxiomFacts looks tag.Declaration ts → HasBlock looks tag.Declaration ts
  unfolding row_of frame_objection
  declaration_block ts f =
      let kids = two_kids sort.Notes sort.Entity ts f.row in
      let own = subst Facts kids.is f.kids in
      let free = not_against _ annotated_declaration (subst (λ (us : List Tree). frame_objection looks tag.Declaration us ≡ None) kids.is f.frame) in
      let bare = no_notes kids.a (first_notes kids.a kids.first own.0) free in
      by_kids looks tag.Declaration ts _ (kids.is ∙ ap (λ (u : Tree). u ∷ kids.b ∷ []) bare) (declared_entity kids.b kids.second own.1.0.shaped)

  by_axiom_form : (t : Tag) (ts : List Tree) → AxiomForm t → AxiomFacts looks t ts → HasBlock looks t ts
  by_axiom_form _ ts AxiomForm.declaration f = declaration_block ts f
  by_axiom_form _ ts AxiomForm.sub_property f = sub_property_block looks ts f
  by_axiom_form _ ts AxiomForm.inverse_properties f = inverse_block looks ts f
  by_axiom_form _ ts (AxiomForm.beside t h s p q is other apart) f = beside_block looks t h s p q ts is other apart f
  by_axiom_form _ ts AxiomForm.typing f = typing_block looks ts f
  by_axiom_form _ ts (AxiomForm.listed t h p is) f = listed_block looks t h p ts is f
  by_axiom_form _ ts AxiomForm.union_of f = union_block looks ts f
  by_axiom_form _ ts (AxiomForm.property_list s t h is) f = property_list_block looks s t h ts is f
  by_axiom_form _ ts AxiomForm.key f = key_block ts f
  by_axiom_form _ ts (AxiomForm.fact s t is) f = fact_block looks s t ts is f
  by_axiom_form _ ts (AxiomForm.word t h p is) f = word_block looks t h p ts is f
  by_axiom_form _ ts AxiomForm.assertion f = assertion_block ts f

  -- each axiom that can be said has a block
  pub has_block : (t : Tag) (ts : List Tree) → IsTrue (is_axiom t) → AxiomFacts looks t ts → HasBlock looks t ts
  has_block t ts is f = by_axiom_form t ts (axiom_form t is) f
