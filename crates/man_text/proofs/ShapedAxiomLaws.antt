-- Shaped axioms that can be said, by the blocks in which they are written.
use Rattle.std.proofs.Common.{◌≡◌, ◌≤◌, suc, arith, true, false, not, None, List, [], ◌∷◌, length, map, refl, sym, ap, subst}
use Rattle.std.specs.Prelude.{◌&&◌, IsTrue}
use Rattle.std.proofs.lemmas.Bool.{and_parts, not-false}
use Rattle.fss_terms.specs.Spelling.{MeetsMinimum}
use Rattle.man_raw.specs.declared.heading.Heading.{Heading}
use Rattle.man_raw.specs.declared.heading.Heading.TheVariants as heading
use Rattle.man_raw.specs.declared.heading.Section.{Section}
use Rattle.man_raw.specs.declared.heading.Section.TheVariants as section
use Rattle.man_resolve.specs.declared.place.Place.{Place}
use Rattle.man_resolve.specs.declared.place.Place.TheVariants as place
use Rattle.man_resolve.specs.Expressions.{Knows}
use Rattle.man_sayable.specs.Sayable.{frame_objection}
use Rattle.man_sayable.specs.Subjects.{against, has_tag_at, subject_objection, subject_of}
use Rattle.man_sayable.proofs.SayableLaws.{not_against}
use Rattle.sayable_parts.specs.Reasons.{inverse_subject, two_inverses, unnamed_subject}
use Rattle.owl_tree.specs.declared.row.Rest.TheVariants.{Set}
use Rattle.owl_tree.specs.declared.row.Sort.{Sort}
use Rattle.owl_tree.specs.declared.row.Sort.TheVariants as sort
use Rattle.owl_tree.specs.declared.tag.Tag.{Tag}
use Rattle.owl_tree.specs.declared.tag.Tag.TheVariants as tag
use Rattle.owl_tree.specs.Rows.{admits, fits, fits_front, fits_rest, is_tag, row_of}
use Rattle.owl_tree.specs.Shape.{HasKeyProperty, IsShaped}
use Rattle.owl_tree.specs.Tags.{is_axiom, number_of}
use Rattle.owl_tree.specs.Trees.{Tree, tag_of}
use Rattle.man_text.proofs.AxiomLaws.{AreBodies, AreProperties, IsAxiomOver, IsBeside, IsBodyAt, IsFactTag, IsListed, IsPropertyList, IsWordTag}
use Rattle.man_text.proofs.ExpressionLaws.{IsLeafAt, IsNotesTree, Side, datas, objects, of_class, of_range}
use Rattle.man_text.proofs.ShapedExpressionLaws.{Facts, KidFacts}
use Rattle.man_text.proofs.ShapedLaws.{AllOf, Three, Two, annotation_property_at, class_name_at, data_at, datatype_at, individual_at, iri_at, object_name_at, property_at, set_kids, three_kids, two_at_least, two_kids}
use Rattle.man_text.proofs.ShapedNotesLaws.{notes_at}

-- ---- what is not said against an axiom

-- an object property that is no inverse is a name
pub named_of : (t : Tag) → admits sort.ObjectPropertyExpression t ≡ true → is_tag tag.ObjectInverseOf t ≡ false → admits sort.ObjectProperty t ≡ true
unfolding admits number_of
named_of tag.ObjectProperty e f = refl
named_of _ e f = absurd (cc)

named_tag : (t : Tag) → is_tag tag.ObjectProperty t ≡ true → admits sort.ObjectProperty t ≡ true
unfolding admits
named_tag t e = e

class_tag : (t : Tag) → is_tag tag.Class t ≡ true → admits sort.Class t ≡ true
unfolding admits
class_tag t e = e

-- ---- bodies

classes_at : (ts : List Tree) → Facts ts → AllOf sort.ClassExpression ts → AreBodies place.Class ts
classes_at [] h k = tt
classes_at (t ∷ ts) h k = (IsBodyAt.class_body t (h.0.expression place.Class of_class k.0), classes_at ts h.1 k.1)

individuals_at : (ts : List Tree) → Facts ts → AllOf sort.Individual ts → AreBodies place.Individual ts
individuals_at [] h k = tt
individuals_at (t ∷ ts) h k = (IsBodyAt.individual_body t (individual_at t k.0 h.0.shaped), individuals_at ts h.1 k.1)

pub objects_at : (ts : List Tree) → Facts ts → AllOf sort.ObjectPropertyExpression ts → AreProperties objects ts
objects_at [] h k = tt
objects_at (t ∷ ts) h k = (property_at objects t k.0 h.0.shaped, objects_at ts h.1 k.1)

datas_at : (ts : List Tree) → Facts ts → AllOf sort.DataPropertyExpression ts → AreProperties datas ts
datas_at [] h k = tt
datas_at (t ∷ ts) h k = (property_at datas t k.0 h.0.shaped, datas_at ts h.1 k.1)

-- ---- axioms, by their tags

pub data AxiomForm : Tag → Type 0 where
  declaration : AxiomForm tag.Declaration
  sub_property : AxiomForm tag.SubObjectPropertyOf
  inverse_properties : AxiomForm tag.InverseObjectProperties
  beside : (t : Tag) (h : Heading) (s : Section) (p q : Place) → IsBeside t h s p q → (t ≡ tag.SubObjectPropertyOf → ⊥) → (t ≡ tag.InverseObjectProperties → ⊥) → AxiomForm t
  typing : AxiomForm tag.ClassAssertion
  listed : (t : Tag) (h : Heading) (p : Place) → IsListed t h p → AxiomForm t
  union_of : AxiomForm tag.DisjointUnion
  property_list : (s : Side) (t : Tag) (h : Heading) → IsPropertyList s t h → AxiomForm t
  key : AxiomForm tag.HasKey
  fact : (s : Side) (t : Tag) → IsFactTag s t → AxiomForm t
  word : (t : Tag) (h : Heading) (p : Place) → IsWordTag t h p → AxiomForm t
  assertion : AxiomForm tag.AnnotationAssertion

pub axiom_form : (t : Tag) → IsTrue (is_axiom t) → AxiomForm t
unfolding number_of
axiom_form tag.Declaration h = declaration
axiom_form tag.SubClassOf h = beside _ _ _ _ _ IsBeside.sub_class (λ e. let n = ap number_of e in absurd (cc)) (λ e. let n = ap number_of e in absurd (cc))
axiom_form tag.EquivalentClasses h = listed _ _ _ IsListed.equivalent_classes
axiom_form tag.DisjointClasses h = listed _ _ _ IsListed.disjoint_classes
axiom_form tag.DisjointUnion h = union_of
axiom_form tag.SubObjectPropertyOf h = sub_property
axiom_form tag.EquivalentObjectProperties h = property_list _ _ _ IsPropertyList.equivalent_objects
axiom_form tag.DisjointObjectProperties h = property_list _ _ _ IsPropertyList.disjoint_objects
axiom_form tag.InverseObjectProperties h = inverse_properties
axiom_form tag.ObjectPropertyDomain h = beside _ _ _ _ _ IsBeside.object_domain (λ e. let n = ap number_of e in absurd (cc)) (λ e. let n = ap number_of e in absurd (cc))
axiom_form tag.ObjectPropertyRange h = beside _ _ _ _ _ IsBeside.object_range (λ e. let n = ap number_of e in absurd (cc)) (λ e. let n = ap number_of e in absurd (cc))
axiom_form tag.FunctionalObjectProperty h = word _ _ _ IsWordTag.functional
axiom_form tag.InverseFunctionalObjectProperty h = word _ _ _ IsWordTag.inverse_functional
axiom_form tag.ReflexiveObjectProperty h = word _ _ _ IsWordTag.reflexive
axiom_form tag.IrreflexiveObjectProperty h = word _ _ _ IsWordTag.irreflexive
axiom_form tag.SymmetricObjectProperty h = word _ _ _ IsWordTag.symmetric
axiom_form tag.AsymmetricObjectProperty h = word _ _ _ IsWordTag.asymmetric
axiom_form tag.TransitiveObjectProperty h = word _ _ _ IsWordTag.transitive
axiom_form tag.SubDataPropertyOf h = beside _ _ _ _ _ IsBeside.sub_data_property (λ e. let n = ap number_of e in absurd (cc)) (λ e. let n = ap number_of e in absurd (cc))
axiom_form tag.EquivalentDataProperties h = property_list _ _ _ IsPropertyList.equivalent_datas
axiom_form tag.DisjointDataProperties h = property_list _ _ _ IsPropertyList.disjoint_datas
axiom_form tag.DataPropertyDomain h = beside _ _ _ _ _ IsBeside.data_domain (λ e. let n = ap number_of e in absurd (cc)) (λ e. let n = ap number_of e in absurd (cc))
axiom_form tag.DataPropertyRange h = beside _ _ _ _ _ IsBeside.data_range (λ e. let n = ap number_of e in absurd (cc)) (λ e. let n = ap number_of e in absurd (cc))
axiom_form tag.FunctionalDataProperty h = word _ _ _ IsWordTag.functional_data
axiom_form tag.DatatypeDefinition h = beside _ _ _ _ _ IsBeside.definition (λ e. let n = ap number_of e in absurd (cc)) (λ e. let n = ap number_of e in absurd (cc))
axiom_form tag.HasKey h = key
axiom_form tag.SameIndividual h = listed _ _ _ IsListed.same_individual
axiom_form tag.DifferentIndividuals h = listed _ _ _ IsListed.different_individuals
axiom_form tag.ClassAssertion h = typing
axiom_form tag.ObjectPropertyAssertion h = fact _ _ IsFactTag.object_fact
axiom_form tag.NegativeObjectPropertyAssertion h = fact _ _ IsFactTag.negative_object_fact
axiom_form tag.DataPropertyAssertion h = fact _ _ IsFactTag.data_fact
axiom_form tag.NegativeDataPropertyAssertion h = fact _ _ IsFactTag.negative_data_fact
axiom_form tag.AnnotationAssertion h = assertion
axiom_form tag.SubAnnotationPropertyOf h = beside _ _ _ _ _ IsBeside.sub_annotation_property (λ e. let n = ap number_of e in absurd (cc)) (λ e. let n = ap number_of e in absurd (cc))
axiom_form tag.AnnotationPropertyDomain h = beside _ _ _ _ _ IsBeside.annotation_domain (λ e. let n = ap number_of e in absurd (cc)) (λ e. let n = ap number_of e in absurd (cc))
axiom_form tag.AnnotationPropertyRange h = beside _ _ _ _ _ IsBeside.annotation_range (λ e. let n = ap number_of e in absurd (cc)) (λ e. let n = ap number_of e in absurd (cc))
axiom_form _ h = absurd (cc)

-- what is known of an axiom as it is written
pub record AxiomFacts (looks : Knows) (t : Tag) (ts : List Tree) : Type 0 where
  pub row : fits (row_of t) (map tag_of ts) ≡ true
  pub many : MeetsMinimum (row_of t) (length ts)
  pub inverses : t ≡ tag.InverseObjectProperties → length ts ≡ 3
  pub keys : t ≡ tag.HasKey → HasKeyProperty ts
  pub kids : Facts ts
  pub subject : subject_objection (subject_of t) ts ≡ None
  pub frame : frame_objection looks t ts ≡ None

-- its block
pub record HasBlock (looks : Knows) (t : Tag) (ts : List Tree) : Type 0 where
  pub own : List Tree
  pub is : IsAxiomOver looks t ts own

pub by_kids : (looks : Knows) (t : Tag) (ts us : List Tree) → ts ≡ us → HasBlock looks t us → HasBlock looks t ts
by_kids looks t ts us e h = subst (HasBlock looks t) (sym e) h

abbrev pub first_notes : (notes : Tree) → admits sort.Notes (tag_of notes) ≡ true → KidFacts notes → IsNotesTree notes
first_notes notes e facts = notes_at notes e facts.shaped

module _ (looks : Knows) where
  -- three kids, of which the subject comes before the body
  beside_kids : (t : Tag) (h : Heading) (s : Section) (p q : Place) (a b : Sort) (ts : List Tree) → IsBeside t h s p q → Three sort.Notes a b ts → Facts ts
      → ((notes subject body : Tree) → ts ≡ notes ∷ subject ∷ body ∷ [] → admits a (tag_of subject) ≡ true → IsShaped subject → IsLeafAt p subject)
      → ((body : Tree) → admits b (tag_of body) ≡ true → KidFacts body → IsBodyAt q body) → HasBlock looks t ts
  beside_kids t h s p q a b ts is kids facts named stands =
      let own = subst Facts kids.is facts in
      by_kids looks t ts _ kids.is (record { own = _; is = IsAxiomOver.beside t h s p q kids.a kids.b kids.d is (first_notes kids.a kids.first own.0) (named kids.a kids.b kids.d kids.is kids.second own.1.0.shaped) (stands kids.d kids.third own.1.1.0) })

  class_body : (t : Tree) → admits sort.ClassExpression (tag_of t) ≡ true → KidFacts t → IsBodyAt place.Class t
  class_body t e facts = IsBodyAt.class_body t (facts.expression place.Class of_class e)

  range_body : (t : Tree) → admits sort.DataRange (tag_of t) ≡ true → KidFacts t → IsBodyAt place.Range t
  range_body t e facts = IsBodyAt.range_body t (facts.expression place.Range of_range e)

  object_body : (t : Tree) → admits sort.ObjectPropertyExpression (tag_of t) ≡ true → KidFacts t → IsBodyAt place.Object t
  object_body t e facts = IsBodyAt.property_body t (property_at objects t e facts.shaped)

  -- what is not said against the second kid
  second_named : (ts : List Tree) (notes subject body : Tree) → subject_objection (subject_of tag.ObjectPropertyDomain) ts ≡ None → ts ≡ notes ∷ subject ∷ body ∷ [] → is_tag tag.ObjectInverseOf (tag_of subject) ≡ false
  unfolding subject_of
  second_named ts notes subject body e same = not_against _ inverse_subject (subst (λ (us : List Tree). against (has_tag_at tag.ObjectInverseOf 1 us) inverse_subject ≡ None) same e)

  second_class : (ts : List Tree) (notes subject : Tree) (others : List Tree) → subject_objection (subject_of tag.SubClassOf) ts ≡ None → ts ≡ notes ∷ subject ∷ others → is_tag tag.Class (tag_of subject) ≡ true
  unfolding subject_of
  second_class ts notes subject others e same = not-false _ (not_against _ unnamed_subject (subst (λ (us : List Tree). against (not (has_tag_at tag.Class 1 us)) unnamed_subject ≡ None) same e))

  pub beside_block : (t : Tag) (h : Heading) (s : Section) (p q : Place) (ts : List Tree) → IsBeside t h s p q → (t ≡ tag.SubObjectPropertyOf → ⊥) → (t ≡ tag.InverseObjectProperties → ⊥) → AxiomFacts looks t ts → HasBlock looks t ts
  unfolding row_of subject_of
  beside_block t h s p q ts IsBeside.sub_class other apart f =
      beside_kids t h s p q sort.ClassExpression sort.ClassExpression ts IsBeside.sub_class (three_kids sort.Notes sort.ClassExpression sort.ClassExpression ts f.row) f.kids
      (λ notes subject body same e shaped. class_name_at subject (class_tag (tag_of subject) (second_class ts notes subject (body ∷ []) f.subject same)) shaped) class_body
  beside_block t h s p q ts IsBeside.sub_property other apart f = absurd (other refl)
  beside_block t h s p q ts IsBeside.inverse_properties other apart f = absurd (apart refl)
  beside_block t h s p q ts IsBeside.object_domain other apart f =
      beside_kids t h s p q sort.ObjectPropertyExpression sort.ClassExpression ts IsBeside.object_domain (three_kids sort.Notes sort.ObjectPropertyExpression sort.ClassExpression ts f.row) f.kids
      (λ notes subject body same e shaped. object_name_at subject (named_of (tag_of subject) e (second_named ts notes subject body f.subject same)) shaped) class_body
  beside_block t h s p q ts IsBeside.object_range other apart f =
      beside_kids t h s p q sort.ObjectPropertyExpression sort.ClassExpression ts IsBeside.object_range (three_kids sort.Notes sort.ObjectPropertyExpression sort.ClassExpression ts f.row) f.kids
      (λ notes subject body same e shaped. object_name_at subject (named_of (tag_of subject) e (second_named ts notes subject body f.subject same)) shaped) class_body
  beside_block t h s p q ts IsBeside.sub_data_property other apart f =
      beside_kids t h s p q sort.DataPropertyExpression sort.DataPropertyExpression ts IsBeside.sub_data_property (three_kids sort.Notes sort.DataPropertyExpression sort.DataPropertyExpression ts f.row) f.kids
      (λ notes subject body same e shaped. data_at subject e shaped) (λ body e facts. IsBodyAt.data_body body (data_at body e facts.shaped))
  beside_block t h s p q ts IsBeside.data_domain other apart f =
      beside_kids t h s p q sort.DataPropertyExpression sort.ClassExpression ts IsBeside.data_domain (three_kids sort.Notes sort.DataPropertyExpression sort.ClassExpression ts f.row) f.kids
      (λ notes subject body same e shaped. data_at subject e shaped) class_body
  beside_block t h s p q ts IsBeside.data_range other apart f =
      beside_kids t h s p q sort.DataPropertyExpression sort.DataRange ts IsBeside.data_range (three_kids sort.Notes sort.DataPropertyExpression sort.DataRange ts f.row) f.kids
      (λ notes subject body same e shaped. data_at subject e shaped) range_body
  beside_block t h s p q ts IsBeside.definition other apart f =
      beside_kids t h s p q sort.Datatype sort.DataRange ts IsBeside.definition (three_kids sort.Notes sort.Datatype sort.DataRange ts f.row) f.kids
      (λ notes subject body same e shaped. datatype_at subject e shaped) range_body
  beside_block t h s p q ts IsBeside.sub_annotation_property other apart f =
      beside_kids t h s p q sort.AnnotationProperty sort.AnnotationProperty ts IsBeside.sub_annotation_property (three_kids sort.Notes sort.AnnotationProperty sort.AnnotationProperty ts f.row) f.kids
      (λ notes subject body same e shaped. annotation_property_at subject e shaped) (λ body e facts. IsBodyAt.annotation_body body (annotation_property_at body e facts.shaped))
  beside_block t h s p q ts IsBeside.annotation_domain other apart f =
      beside_kids t h s p q sort.AnnotationProperty sort.Iri ts IsBeside.annotation_domain (three_kids sort.Notes sort.AnnotationProperty sort.Iri ts f.row) f.kids
      (λ notes subject body same e shaped. annotation_property_at subject e shaped) (λ body e facts. IsBodyAt.iri_body body (iri_at body e facts.shaped))
  beside_block t h s p q ts IsBeside.annotation_range other apart f =
      beside_kids t h s p q sort.AnnotationProperty sort.Iri ts IsBeside.annotation_range (three_kids sort.Notes sort.AnnotationProperty sort.Iri ts f.row) f.kids
      (λ notes subject body same e shaped. annotation_property_at subject e shaped) (λ body e facts. IsBodyAt.iri_body body (iri_at body e facts.shaped))

  -- ---- lists

  listed_over : (t : Tag) (h : Heading) (p : Place) (notes : Tree) (ts : List Tree) → IsListed t h p → IsNotesTree notes → AreBodies p ts → 2 ≤ length ts → HasBlock looks t (notes ∷ ts)
  listed_over t h p notes ts is above members many =
      let both = two_at_least ts many in
      by_kids looks t (notes ∷ ts) _ (ap (λ (us : List Tree). notes ∷ us) both.is)
      (record { own = _; is = IsAxiomOver.listed t h p notes both.a both.b both.others is above (subst (AreBodies p) both.is members) })

  pub listed_block : (t : Tag) (h : Heading) (p : Place) (ts : List Tree) → IsListed t h p → AxiomFacts looks t ts → HasBlock looks t ts
  unfolding row_of
  listed_block t h p [] IsListed.equivalent_classes f = absurd (let e = f.row in cc)
  listed_block t h p [] IsListed.disjoint_classes f = absurd (let e = f.row in cc)
  listed_block t h p [] IsListed.same_individual f = absurd (let e = f.row in cc)
  listed_block t h p [] IsListed.different_individuals f = absurd (let e = f.row in cc)
  listed_block t h p (notes ∷ ts) IsListed.equivalent_classes f =
      let parts = and_parts (admits sort.Notes (tag_of notes)) (fits_rest (Set sort.ClassExpression 2) (map tag_of ts)) f.row in
      listed_over t h p notes ts IsListed.equivalent_classes (first_notes notes parts.0 f.kids.0) (classes_at ts f.kids.1 (set_kids sort.ClassExpression 2 ts parts.1)) (let m = f.many in omega arith)
  listed_block t h p (notes ∷ ts) IsListed.disjoint_classes f =
      let parts = and_parts (admits sort.Notes (tag_of notes)) (fits_rest (Set sort.ClassExpression 2) (map tag_of ts)) f.row in
      listed_over t h p notes ts IsListed.disjoint_classes (first_notes notes parts.0 f.kids.0) (classes_at ts f.kids.1 (set_kids sort.ClassExpression 2 ts parts.1)) (let m = f.many in omega arith)
  listed_block t h p (notes ∷ ts) IsListed.same_individual f =
      let parts = and_parts (admits sort.Notes (tag_of notes)) (fits_rest (Set sort.Individual 2) (map tag_of ts)) f.row in
      listed_over t h p notes ts IsListed.same_individual (first_notes notes parts.0 f.kids.0) (individuals_at ts f.kids.1 (set_kids sort.Individual 2 ts parts.1)) (let m = f.many in omega arith)
  listed_block t h p (notes ∷ ts) IsListed.different_individuals f =
      let parts = and_parts (admits sort.Notes (tag_of notes)) (fits_rest (Set sort.Individual 2) (map tag_of ts)) f.row in
      listed_over t h p notes ts IsListed.different_individuals (first_notes notes parts.0 f.kids.0) (individuals_at ts f.kids.1 (set_kids sort.Individual 2 ts parts.1)) (let m = f.many in omega arith)

  pub union_block : (ts : List Tree) → AxiomFacts looks tag.DisjointUnion ts → HasBlock looks tag.DisjointUnion ts
  unfolding row_of
  union_block [] f = absurd (let e = f.row in cc)
  union_block (notes ∷ []) f = absurd (let e = (and_parts (admits sort.Notes (tag_of notes)) false f.row).1 in cc)
  union_block (notes ∷ subject ∷ ts) f =
      let parts = and_parts (admits sort.Notes (tag_of notes)) (admits sort.Class (tag_of subject) && fits_rest (Set sort.ClassExpression 2) (map tag_of ts)) f.row in
      let rest = and_parts (admits sort.Class (tag_of subject)) (fits_rest (Set sort.ClassExpression 2) (map tag_of ts)) parts.1 in
      let both = two_at_least ts (let m = f.many in omega arith) in
      by_kids looks tag.DisjointUnion (notes ∷ subject ∷ ts) _ (ap (λ (us : List Tree). notes ∷ subject ∷ us) both.is)
      (record { own = _; is = IsAxiomOver.union_of notes subject both.a both.b both.others (first_notes notes parts.0 f.kids.0) (class_name_at subject rest.0 f.kids.1.0.shaped) (subst (AreBodies place.Class) both.is (classes_at ts f.kids.1.1 (set_kids sort.ClassExpression 2 ts rest.1))) })

  properties_over : (s : Side) (t : Tag) (h : Heading) (notes : Tree) (ts : List Tree) → IsPropertyList s t h → IsNotesTree notes → AreProperties s ts → 2 ≤ length ts → HasBlock looks t (notes ∷ ts)
  properties_over s t h notes ts is above members many =
      let both = two_at_least ts many in
      by_kids looks t (notes ∷ ts) _ (ap (λ (us : List Tree). notes ∷ us) both.is)
      (record { own = _; is = IsAxiomOver.property_list s t h notes both.a both.b both.others is above (subst (AreProperties s) both.is members) })

  pub property_list_block : (s : Side) (t : Tag) (h : Heading) (ts : List Tree) → IsPropertyList s t h → AxiomFacts looks t ts → HasBlock looks t ts
  unfolding row_of
  property_list_block s t h [] IsPropertyList.equivalent_objects f = absurd (let e = f.row in cc)
  property_list_block s t h [] IsPropertyList.disjoint_objects f = absurd (let e = f.row in cc)
  property_list_block s t h [] IsPropertyList.equivalent_datas f = absurd (let e = f.row in cc)
  property_list_block s t h [] IsPropertyList.disjoint_datas f = absurd (let e = f.row in cc)
  property_list_block s t h (notes ∷ ts) IsPropertyList.equivalent_objects f =
      let parts = and_parts (admits sort.Notes (tag_of notes)) (fits_rest (Set sort.ObjectPropertyExpression 2) (map tag_of ts)) f.row in
      properties_over objects t h notes ts IsPropertyList.equivalent_objects (first_notes notes parts.0 f.kids.0) (objects_at ts f.kids.1 (set_kids sort.ObjectPropertyExpression 2 ts parts.1)) (let m = f.many in omega arith)
  property_list_block s t h (notes ∷ ts) IsPropertyList.disjoint_objects f =
      let parts = and_parts (admits sort.Notes (tag_of notes)) (fits_rest (Set sort.ObjectPropertyExpression 2) (map tag_of ts)) f.row in
      properties_over objects t h notes ts IsPropertyList.disjoint_objects (first_notes notes parts.0 f.kids.0) (objects_at ts f.kids.1 (set_kids sort.ObjectPropertyExpression 2 ts parts.1)) (let m = f.many in omega arith)
  property_list_block s t h (notes ∷ ts) IsPropertyList.equivalent_datas f =
      let parts = and_parts (admits sort.Notes (tag_of notes)) (fits_rest (Set sort.DataPropertyExpression 2) (map tag_of ts)) f.row in
      properties_over datas t h notes ts IsPropertyList.equivalent_datas (first_notes notes parts.0 f.kids.0) (datas_at ts f.kids.1 (set_kids sort.DataPropertyExpression 2 ts parts.1)) (let m = f.many in omega arith)
  property_list_block s t h (notes ∷ ts) IsPropertyList.disjoint_datas f =
      let parts = and_parts (admits sort.Notes (tag_of notes)) (fits_rest (Set sort.DataPropertyExpression 2) (map tag_of ts)) f.row in
      properties_over datas t h notes ts IsPropertyList.disjoint_datas (first_notes notes parts.0 f.kids.0) (datas_at ts f.kids.1 (set_kids sort.DataPropertyExpression 2 ts parts.1)) (let m = f.many in omega arith)

  -- ---- single kids

  pub typing_block : (ts : List Tree) → AxiomFacts looks tag.ClassAssertion ts → HasBlock looks tag.ClassAssertion ts
  unfolding row_of
  typing_block ts f =
      let kids = three_kids sort.Notes sort.ClassExpression sort.Individual ts f.row in
      let own = subst Facts kids.is f.kids in
      by_kids looks tag.ClassAssertion ts _ kids.is
      (record { own = _; is = IsAxiomOver.typing kids.a kids.b kids.d (first_notes kids.a kids.first own.0) (own.1.0.expression place.Class of_class kids.second) (individual_at kids.d kids.third own.1.1.0.shaped) })

  -- the property is a name, since no inverse stands there
  word_over : (t : Tag) (h : Heading) (p : Place) (ts : List Tree) → IsWordTag t h p → Two sort.Notes sort.ObjectPropertyExpression ts → Facts ts → p ≡ place.ObjectName → subject_objection (subject_of tag.FunctionalObjectProperty) ts ≡ None → HasBlock looks t ts
  unfolding subject_of
  word_over t h p ts is kids facts e none =
      let own = subst Facts kids.is facts in
      let plain = not_against _ inverse_subject (subst (λ (us : List Tree). against (has_tag_at tag.ObjectInverseOf 1 us) inverse_subject ≡ None) kids.is none) in
      let name = object_name_at kids.b (named_of (tag_of kids.b) kids.second plain) own.1.0.shaped in
      by_kids looks t ts _ kids.is
      (record { own = _; is = IsAxiomOver.word t h p kids.a kids.b is (first_notes kids.a kids.first own.0) (subst (λ (q : Place). IsLeafAt q kids.b) (sym e) name) })

  pub word_block : (t : Tag) (h : Heading) (p : Place) (ts : List Tree) → IsWordTag t h p → AxiomFacts looks t ts → HasBlock looks t ts
  unfolding row_of subject_of
  word_block t h p ts IsWordTag.functional f = word_over t h p ts IsWordTag.functional (two_kids sort.Notes sort.ObjectPropertyExpression ts f.row) f.kids refl f.subject
  word_block t h p ts IsWordTag.inverse_functional f = word_over t h p ts IsWordTag.inverse_functional (two_kids sort.Notes sort.ObjectPropertyExpression ts f.row) f.kids refl f.subject
  word_block t h p ts IsWordTag.reflexive f = word_over t h p ts IsWordTag.reflexive (two_kids sort.Notes sort.ObjectPropertyExpression ts f.row) f.kids refl f.subject
  word_block t h p ts IsWordTag.irreflexive f = word_over t h p ts IsWordTag.irreflexive (two_kids sort.Notes sort.ObjectPropertyExpression ts f.row) f.kids refl f.subject
  word_block t h p ts IsWordTag.symmetric f = word_over t h p ts IsWordTag.symmetric (two_kids sort.Notes sort.ObjectPropertyExpression ts f.row) f.kids refl f.subject
  word_block t h p ts IsWordTag.asymmetric f = word_over t h p ts IsWordTag.asymmetric (two_kids sort.Notes sort.ObjectPropertyExpression ts f.row) f.kids refl f.subject
  word_block t h p ts IsWordTag.transitive f = word_over t h p ts IsWordTag.transitive (two_kids sort.Notes sort.ObjectPropertyExpression ts f.row) f.kids refl f.subject
  word_block t h p ts IsWordTag.functional_data f =
      let kids = two_kids sort.Notes sort.DataPropertyExpression ts f.row in
      let own = subst Facts kids.is f.kids in
      by_kids looks t ts _ kids.is
      (record { own = _; is = IsAxiomOver.word t h p kids.a kids.b IsWordTag.functional_data (first_notes kids.a kids.first own.0) (data_at kids.b kids.second own.1.0.shaped) })

  -- ---- inverse properties and chains

  inverse_over : (ts : List Tree) → length ts ≡ 3 → fits_front (sort.Notes ∷ []) (Set sort.ObjectPropertyExpression 2) (map tag_of ts) ≡ true → Facts ts → against (not (has_tag_at tag.ObjectProperty 1 ts)) two_inverses ≡ None → HasBlock looks tag.InverseObjectProperties ts
  inverse_over [] many row facts none = absurd (cc)
  inverse_over (notes ∷ []) many row facts none = absurd (cc)
  inverse_over (notes ∷ a ∷ []) many row facts none = absurd (cc)
  inverse_over (notes ∷ a ∷ b ∷ []) many row facts none =
      let parts = and_parts (admits sort.Notes (tag_of notes)) (fits_rest (Set sort.ObjectPropertyExpression 2) (tag_of a ∷ tag_of b ∷ [])) row in
      let all = set_kids sort.ObjectPropertyExpression 2 (a ∷ b ∷ []) parts.1 in
      record {
        own = _;
        is = IsAxiomOver.beside tag.InverseObjectProperties heading.ObjectProperty section.InverseOf place.ObjectName place.Object notes a b IsBeside.inverse_properties (first_notes notes parts.0 facts.0)
            (object_name_at a (named_tag (tag_of a) (not-false _ (not_against _ two_inverses none))) facts.1.0.shaped) (object_body b all.1.0 facts.1.1.0);
      }
  inverse_over (notes ∷ a ∷ b ∷ d ∷ ts) many row facts none = absurd (let m : suc (suc (suc (suc (length ts)))) ≡ 3 = many in omega arith)

  pub inverse_block : (ts : List Tree) → AxiomFacts looks tag.InverseObjectProperties ts → HasBlock looks tag.InverseObjectProperties ts
  unfolding row_of subject_of
  inverse_block ts f = inverse_over ts (f.inverses refl) f.row f.kids f.subject
