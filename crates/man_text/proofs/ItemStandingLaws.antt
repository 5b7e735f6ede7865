-- The block of an axiom stands in a text.
use Rattle.std.proofs.Common.{◌≡◌, ◌≤◌, ℕ, zero, suc, arith, Option, Some, List, [], ◌∷◌, ◌++◌, sym, ap, subst}
use Rattle.std.specs.List.{AllByRecursion}
use Rattle.std.specs.Prelude.{map}
use Rattle.man_raw.specs.declared.form.Form.TheVariants as form
use Rattle.man_raw.specs.declared.form.What.TheVariants as what
use Rattle.man_raw.specs.declared.heading.Heading.{Heading}
use Rattle.man_raw.specs.declared.heading.Heading.TheVariants as heading
use Rattle.man_raw.specs.declared.heading.Section.{Section}
use Rattle.man_raw.specs.declared.heading.Section.TheVariants as section
use Rattle.man_raw.specs.Raws.{RawTree}
use Rattle.man_resolve.specs.declared.place.Place.{Place}
use Rattle.man_resolve.specs.declared.place.Place.TheVariants as place
use Rattle.man_resolve.specs.Expressions.{Knows}
use Rattle.owl_kind.specs.declared.kind.Kind.{Kind}
use Rattle.owl_kind.specs.declared.kind.Kind.TheVariants as kind
use Rattle.owl_tree.specs.declared.atom.Atom.TheVariants as atom
use Rattle.owl_tree.specs.declared.tag.Tag.{Tag}
use Rattle.owl_tree.specs.declared.tag.Tag.TheVariants as tag
use Rattle.owl_tree.specs.Trees.{Tree, depth, kids_of, leaf, most_depth, node}
use Rattle.man_text.specs.Blocks.{Block, block_with, characteristic_of, entity_heading, fact_form, frame, in_section, item_of, kind_tag, listed, noted, pair, subject_as}
use Rattle.man_text.specs.Undecided.{form_of, leaf_what, is_bracketed, is_counted, operands, piece, undecided}
use Rattle.man_text.proofs.AxiomLaws.{AreBodies, AreProperties, IsAbout, IsAxiomOver, IsBeside, IsBodyAt, IsEntityTag, IsFactTag, IsListed, IsNamedProperty, IsPropertyList, IsWordTag}
use Rattle.man_text.proofs.BlockLaws.{beside_block, chain_block, entity_frame, entity_place, fact_block, key_block, kind_entity, list_block, property_list_block, typing_block, union_block, word_block}
use Rattle.man_text.proofs.ExpressionLaws.{AreNoteTrees, IsLeafAt, IsNameAt, IsNotesTree, Side, datas, no_note, note_of, notes_of, objects, value_place}
use Rattle.man_text.proofs.MeaningLaws.{bare_leaf}
use Rattle.man_text.proofs.NoteLaws.{bare_of}
use Rattle.man_text.proofs.StandingLaws.{Fits, StandsAt, expression_stands, leaf_stands, properties_stand, property_stands}
use Rattle.man_text.proofs.WritableLaws.{AreMembers, AreNotes, IsBody, IsExpression, IsFact, IsFunctional, IsIndividual, IsItem, IsKeyList, IsList, IsName, IsNotes, IsProperty, IsSubject, IsValue, IsWord}

-- ---- annotations

mutual
  unfolding form_of is_counted is_bracketed

  pub notes_stand : (n : ℕ) (t : Tree) → IsNotesTree t → depth t ≤ n → IsNotes n (undecided t)
  notes_stand n _ (notes_of _ no_note) fits = IsNotes.no_notes n
  notes_stand zero _ (notes_of _ (note_of above p v ts h property value others)) fits = absurd (omega arith)
  notes_stand (suc n) _ (notes_of _ (note_of above p v ts h property value others)) fits =
      IsNotes.some_notes n _ _ (each_stands n (node tag.Annotation (kids_of (above ∷ p ∷ v ∷ [])) ∷ ts) (note_of above p v ts h property value others) (omega arith))

  pub each_stands : (n : ℕ) (ts : List Tree) → AreNoteTrees ts → most_depth (kids_of ts) ≤ n → AreNotes n (operands (kids_of ts))
  each_stands n _ no_note fits = AreNotes.end_of_notes n
  each_stands n _ (note_of above p v ts h property value others) fits =
      AreNotes.note n _ _ _ _ (subst (IsNotes n) (sym (bare_of above h)) (notes_stand n above h (omega arith)))
      (subst (StandsAt place.AnnotationProperty) (sym (bare_leaf place.AnnotationProperty p property)) (leaf_stands place.AnnotationProperty p property))
      (subst (StandsAt place.Value) (sym (bare_leaf place.Value v value)) (leaf_stands place.Value v value))
      (each_stands n ts others (omega arith))

-- ---- bodies

-- what stands at a body's place
abbrev pub BodyStands : ℕ → Place → RawTree → Type 0
BodyStands n place.Class r = IsExpression n r
BodyStands n place.Range r = IsExpression n r
BodyStands n place.Object r = IsProperty r
BodyStands n place.Individual r = IsIndividual r
BodyStands n _ r = IsName r

body_stands : (n : ℕ) (p : Place) (t : Tree) → IsBodyAt p t → Fits n (depth t) → BodyStands n p (undecided t)
body_stands n _ _ (IsBodyAt.class_body t e) fits = expression_stands n place.Class t e fits
body_stands n _ _ (IsBodyAt.range_body t e) fits = expression_stands n place.Range t e fits
body_stands n _ _ (IsBodyAt.property_body t is) fits = property_stands objects t is
body_stands n _ _ (IsBodyAt.data_body t at) fits = leaf_stands place.Data t at
body_stands n _ _ (IsBodyAt.annotation_body t at) fits = leaf_stands place.AnnotationProperty t at
body_stands n _ _ (IsBodyAt.iri_body t at) fits = leaf_stands place.Iri t at
body_stands n _ _ (IsBodyAt.individual_body t at) fits = leaf_stands place.Individual t at

bodies_stand : (n : ℕ) (p : Place) (ts : List Tree) → AreBodies p ts → Fits n (most_depth (kids_of ts)) → AllByRecursion (BodyStands n p) (map undecided ts)
bodies_stand n p [] h fits = tt
bodies_stand n p (t ∷ ts) h fits = (body_stands n p t h.0 (omega arith), bodies_stand n p ts h.1 (omega arith))

keys_stand : (os ds : List Tree) → AreProperties objects os → AreProperties datas ds → AllByRecursion IsProperty (map undecided (os ++ ds))
keys_stand [] [] h k = tt
keys_stand [] (d ∷ ds) h k = (property_stands datas d k.0, keys_stand [] ds h k.1)
keys_stand (t ∷ ts) ds h k = (property_stands objects t h.0, keys_stand ts ds h.1 k)

members_stand : (s : Side) (ts : List Tree) → AreProperties s ts → AllByRecursion IsProperty (map undecided ts)
members_stand s [] h = tt
members_stand s (t ∷ ts) h = (property_stands s t h.0, members_stand s ts h.1)

-- ---- items

beside_stands : (n : ℕ) (t : Tag) (h : Heading) (s : Section) (p q : Place) (body : RawTree) → IsBeside t h s p q → BodyStands n q body → IsBody n h s body
beside_stands n _ _ _ _ _ body IsBeside.sub_class b = IsBody.class_super body b
beside_stands n _ _ _ _ _ body IsBeside.sub_property b = IsBody.object_super body b
beside_stands n _ _ _ _ _ body IsBeside.inverse_properties b = IsBody.object_inverse body b
beside_stands n _ _ _ _ _ body IsBeside.object_domain b = IsBody.object_domain body b
beside_stands n _ _ _ _ _ body IsBeside.object_range b = IsBody.object_range body b
beside_stands n _ _ _ _ _ body IsBeside.sub_data_property b = IsBody.data_super body b
beside_stands n _ _ _ _ _ body IsBeside.data_domain b = IsBody.data_domain body b
beside_stands n _ _ _ _ _ body IsBeside.data_range b = IsBody.data_range body b
beside_stands n _ _ _ _ _ body IsBeside.definition b = IsBody.datatype_definition body b
beside_stands n _ _ _ _ _ body IsBeside.sub_annotation_property b = IsBody.annotation_super body b
beside_stands n _ _ _ _ _ body IsBeside.annotation_domain b = IsBody.annotation_domain body b
beside_stands n _ _ _ _ _ body IsBeside.annotation_range b = IsBody.annotation_range body b

beside_subject : (t : Tag) (h : Heading) (s : Section) (p q : Place) (r : RawTree) → IsBeside t h s p q → StandsAt p r → IsSubject h r
beside_subject _ _ _ _ _ r IsBeside.sub_class h = IsSubject.of_class r h
beside_subject _ _ _ _ _ r IsBeside.sub_property h = IsSubject.of_object_property r h
beside_subject _ _ _ _ _ r IsBeside.inverse_properties h = IsSubject.of_object_property r h
beside_subject _ _ _ _ _ r IsBeside.object_domain h = IsSubject.of_object_property r h
beside_subject _ _ _ _ _ r IsBeside.object_range h = IsSubject.of_object_property r h
beside_subject _ _ _ _ _ r IsBeside.sub_data_property h = IsSubject.of_data_property r h
beside_subject _ _ _ _ _ r IsBeside.data_domain h = IsSubject.of_data_property r h
beside_subject _ _ _ _ _ r IsBeside.data_range h = IsSubject.of_data_property r h
beside_subject _ _ _ _ _ r IsBeside.definition h = IsSubject.of_datatype r h
beside_subject _ _ _ _ _ r IsBeside.sub_annotation_property h = IsSubject.of_annotation_property r h
beside_subject _ _ _ _ _ r IsBeside.annotation_domain h = IsSubject.of_annotation_property r h
beside_subject _ _ _ _ _ r IsBeside.annotation_range h = IsSubject.of_annotation_property r h

entity_subject : (t : Tag) (h : Heading) (p : Place) (r : RawTree) → IsEntityTag t h p → StandsAt p r → IsSubject h r
entity_subject _ _ _ r IsEntityTag.of_class h = IsSubject.of_class r h
entity_subject _ _ _ r IsEntityTag.of_datatype h = IsSubject.of_datatype r h
entity_subject _ _ _ r IsEntityTag.of_object_property h = IsSubject.of_object_property r h
entity_subject _ _ _ r IsEntityTag.of_data_property h = IsSubject.of_data_property r h
entity_subject _ _ _ r IsEntityTag.of_annotation_property h = IsSubject.of_annotation_property r h
entity_subject _ _ _ r IsEntityTag.of_individual h = IsSubject.of_individual r h

list_stands : (n : ℕ) (t : Tag) (h : Heading) (p : Place) (a b : Tree) (ts : List Tree) → IsListed t h p → AllByRecursion (BodyStands n p) (map undecided (a ∷ b ∷ ts)) → AreMembers n h (listed (a ∷ b ∷ ts))
list_stands n _ _ _ a b ts IsListed.equivalent_classes h = AreMembers.equivalent_classes _ (IsList.members _ _ _ h)
list_stands n _ _ _ a b ts IsListed.disjoint_classes h = AreMembers.disjoint_classes _ (IsList.members _ _ _ h)
list_stands n _ _ _ a b ts IsListed.same_individual h = AreMembers.same_individual _ (IsList.members _ _ _ h)
list_stands n _ _ _ a b ts IsListed.different_individuals h = AreMembers.different_individuals _ (IsList.members _ _ _ h)

property_list_stands : (n : ℕ) (s : Side) (t : Tag) (h : Heading) (a b : Tree) (ts : List Tree) → IsPropertyList s t h → AllByRecursion IsProperty (map undecided (a ∷ b ∷ ts)) → AreMembers n h (listed (a ∷ b ∷ ts))
property_list_stands n _ _ _ a b ts IsPropertyList.equivalent_objects h = AreMembers.equivalent_properties _ (IsList.members _ _ _ h)
property_list_stands n _ _ _ a b ts IsPropertyList.disjoint_objects h = AreMembers.disjoint_properties _ (IsList.members _ _ _ h)
property_list_stands n _ _ _ a b ts IsPropertyList.equivalent_datas h = AreMembers.equivalent_properties _ (IsList.members _ _ _ h)
property_list_stands n _ _ _ a b ts IsPropertyList.disjoint_datas h = AreMembers.disjoint_properties _ (IsList.members _ _ _ h)

word_stands : (n : ℕ) (t : Tag) (h : Heading) (p : Place) (subject : RawTree) → IsWordTag t h p → StandsAt p subject → IsSubject h subject × IsBody n h section.Characteristics (piece (what.Word (characteristic_of t)) [])
unfolding characteristic_of
word_stands n _ _ _ r IsWordTag.functional h = (IsSubject.of_object_property r h, IsBody.object_word _ (IsWord.a_word _))
word_stands n _ _ _ r IsWordTag.inverse_functional h = (IsSubject.of_object_property r h, IsBody.object_word _ (IsWord.a_word _))
word_stands n _ _ _ r IsWordTag.reflexive h = (IsSubject.of_object_property r h, IsBody.object_word _ (IsWord.a_word _))
word_stands n _ _ _ r IsWordTag.irreflexive h = (IsSubject.of_object_property r h, IsBody.object_word _ (IsWord.a_word _))
word_stands n _ _ _ r IsWordTag.symmetric h = (IsSubject.of_object_property r h, IsBody.object_word _ (IsWord.a_word _))
word_stands n _ _ _ r IsWordTag.asymmetric h = (IsSubject.of_object_property r h, IsBody.object_word _ (IsWord.a_word _))
word_stands n _ _ _ r IsWordTag.transitive h = (IsSubject.of_object_property r h, IsBody.object_word _ (IsWord.a_word _))
word_stands n _ _ _ r IsWordTag.functional_data h = (IsSubject.of_data_property r h, IsBody.data_word _ IsFunctional.functional)

named_stands : (s : Side) (p : Tree) → IsNamedProperty s p → IsName (undecided p)
named_stands _ _ (IsNamedProperty.object_name iri is) = leaf_stands place.Object _ (IsLeafAt.name_leaf place.Object tag.ObjectProperty kind.ObjectProperty iri IsNameAt.object is)
named_stands _ _ (IsNamedProperty.data_name iri is) = leaf_stands place.Data _ (IsLeafAt.name_leaf place.Data tag.DataProperty kind.DataProperty iri IsNameAt.data_property is)

value_stands : (s : Side) (v : Tree) → IsLeafAt (value_place s) v → IsValue (undecided v)
value_stands objects v at = IsValue.individual _ (leaf_stands place.Individual v at)
value_stands datas v at = IsValue.literal _ (leaf_stands place.Literal v at)

fact_stands : (n : ℕ) (s : Side) (t : Tag) (p v : Tree) → IsFactTag s t → IsName (undecided p) → IsValue (undecided v) → IsBody n heading.Individual section.Facts (pair (fact_form t) p v)
unfolding fact_form
fact_stands n _ _ p v IsFactTag.object_fact h k = IsBody.individual_fact _ (IsFact.pair form.Fact _ _ h k)
fact_stands n _ _ p v IsFactTag.negative_object_fact h k = IsBody.individual_negative _ (IsFact.pair form.NegativeFact _ _ h k)
fact_stands n _ _ p v IsFactTag.data_fact h k = IsBody.individual_fact _ (IsFact.pair form.Fact _ _ h k)
fact_stands n _ _ p v IsFactTag.negative_data_fact h k = IsBody.individual_negative _ (IsFact.pair form.NegativeFact _ _ h k)

chain_stands : (n : ℕ) (a b : Tree) (ts : List Tree) → AreProperties objects (a ∷ b ∷ ts) → IsBody n heading.ObjectProperty section.SubPropertyChain (undecided (node tag.ObjectPropertyChain (kids_of (a ∷ b ∷ ts))))
unfolding form_of is_counted
chain_stands n a b ts h = IsBody.object_chain _ (IsList.members _ _ _ (properties_stand objects (a ∷ b ∷ ts) h))

by_block : (n : ℕ) (b c : Block) → b ≡ c → IsItem n (item_of c) → IsItem n (item_of b)
by_block n b c e h = subst (λ (d : Block). IsItem n (item_of d)) (sym e) h

framed_stands : (n : ℕ) (h : Heading) (s : Section) (subject notes : Tree) (body : RawTree) → IsSubject h (undecided subject) → IsNotesTree notes → depth notes ≤ n → IsBody n h s body → IsItem n (item_of (frame (in_section h s) subject notes body))
framed_stands n h s subject notes body at above fits is = IsItem.framed h _ s _ body at (notes_stand n notes above fits) is

-- as many nests as two for each level of the axiom
pub item_stands : (looks : Knows) (n : ℕ) (t : Tag) (ts own : List Tree) → IsAxiomOver looks t ts own → Fits n (most_depth (kids_of ts)) → IsItem n (item_of (block_with looks t ts))
unfolding leaf_what entity_heading
item_stands looks n _ _ _ (IsAxiomOver.declaration t h p iri is ok) fits =
    let told = entity_place t h p is in
    subst (λ (g : Heading). IsItem n (record { heading = g; name = Some (undecided (leaf t (atom.Iri iri))); at = 0; parts = [] })) (sym told.0)
    (IsItem.bare_frame h _ (entity_subject t h p _ is (leaf_stands p _ (entity_frame t h p iri is ok))))
item_stands looks n _ _ _ (IsAxiomOver.beside t h s p q notes subject body is above at stands) fits =
    by_block n _ _ (beside_block looks t h s p q notes subject body is at)
    (framed_stands n h s subject notes _ (beside_subject t h s p q _ is (leaf_stands p subject at)) above (omega arith) (beside_stands n t h s p q _ is (body_stands n q body stands (omega arith))))
item_stands looks n _ _ _ (IsAxiomOver.typing notes body subject above is at) fits =
    by_block n _ _ (typing_block looks notes body subject)
    (framed_stands n heading.Individual section.Types subject notes _ (IsSubject.of_individual _ (leaf_stands place.Individual subject at)) above (omega arith) (IsBody.individual_types _ (expression_stands n place.Class body is (omega arith))))
item_stands looks n _ _ _ (IsAxiomOver.chain notes a b ts subject above links at) fits =
    by_block n _ _ (chain_block looks notes subject (a ∷ b ∷ ts))
    (framed_stands n heading.ObjectProperty section.SubPropertyChain subject notes _ (IsSubject.of_object_property _ (leaf_stands place.ObjectName subject at)) above (omega arith) (chain_stands n a b ts links))
item_stands looks n _ _ _ (IsAxiomOver.listed t h p notes a b ts is above members) fits =
    by_block n _ _ (list_block looks t h p notes (a ∷ b ∷ ts) is)
    (IsItem.unframed h _ _ (notes_stand n notes above (omega arith)) (list_stands n t h p a b ts is (bodies_stand n p (a ∷ b ∷ ts) members (omega arith))))
item_stands looks n _ _ _ (IsAxiomOver.union_of notes subject a b ts above at members) fits =
    by_block n _ _ (union_block looks notes subject (a ∷ b ∷ ts))
    (framed_stands n heading.Class section.DisjointUnionOf subject notes _ (IsSubject.of_class _ (leaf_stands place.ClassName subject at)) above (omega arith) (IsBody.class_members _ (IsList.members _ _ _ (bodies_stand n place.Class (a ∷ b ∷ ts) members (omega arith)))))
item_stands looks n _ _ _ (IsAxiomOver.property_list s t h notes a b ts is above members) fits =
    by_block n _ _ (property_list_block looks s t h notes (a ∷ b ∷ ts) is)
    (IsItem.unframed h _ _ (notes_stand n notes above (omega arith)) (property_list_stands n s t h a b ts is (members_stand s (a ∷ b ∷ ts) members)))
item_stands looks n _ _ _ (IsAxiomOver.key notes subject os ds a ts above at first second some) fits =
    by_block n _ _ (key_block looks notes subject os ds)
    (framed_stands n heading.Class section.HasKey subject notes _ (IsSubject.of_class _ (leaf_stands place.ClassName subject at)) above (omega arith)
    (IsBody.class_keys _ (key_list os ds a ts some (keys_stand os ds first second))))
  where
    key_list : (os ds : List Tree) (a : Tree) (ts : List Tree) → os ++ ds ≡ a ∷ ts → AllByRecursion IsProperty (map undecided (os ++ ds)) → IsKeyList (listed (os ++ ds))
    key_list os ds a ts e h = subst (λ (us : List Tree). IsKeyList (listed us)) (sym e) (IsKeyList.keys _ _ (subst (λ (us : List Tree). AllByRecursion IsProperty (map undecided us)) e h))
item_stands looks n _ _ _ (IsAxiomOver.fact s t notes p subject value is above named at stands) fits =
    by_block n _ _ (fact_block looks s t notes p subject value is)
    (framed_stands n heading.Individual section.Facts subject notes _ (IsSubject.of_individual _ (leaf_stands place.Individual subject at)) above (omega arith) (fact_stands n s t p value is (named_stands s p named) (value_stands s value stands)))
item_stands looks n _ _ _ (IsAxiomOver.word t h p notes subject is above at) fits =
    let both = word_stands n t h p (undecided subject) is (leaf_stands p subject at) in
    by_block n _ _ (word_block looks t h p notes subject is)
    (framed_stands n h section.Characteristics subject notes _ both.0 above (omega arith) both.1)
item_stands looks n _ _ _ (IsAxiomOver.assertion notes p about v above property is value) fits = about_stands notes p about v above property is value (omega arith)
  where
    assertion_stands : (h : Heading) (subject notes p v : Tree) → IsSubject h (undecided subject) → IsNotesTree notes → depth notes ≤ n → IsLeafAt place.AnnotationProperty p → IsLeafAt place.Value v → IsItem n (item_of (frame (in_section h section.Annotations) subject notes (pair form.Assertion p v)))
    assertion_stands h subject notes p v at above fits property value = framed_stands n h section.Annotations subject notes _ at above fits (IsBody.assertion h _ (IsFact.pair form.Assertion _ _ (leaf_stands place.AnnotationProperty p property) (leaf_stands place.Value v value)))

    about_stands : (notes p about v : Tree) → IsNotesTree notes → IsLeafAt place.AnnotationProperty p → IsAbout looks about → IsLeafAt place.Value v → depth notes ≤ n → IsItem n (item_of (block_with looks tag.AnnotationAssertion (notes ∷ p ∷ about ∷ v ∷ [])))
    about_stands notes p _ v above property (IsAbout.about_label label ok) value fits = assertion_stands heading.Individual (leaf tag.Anonymous (atom.Label label)) notes p v (IsSubject.of_individual _ (IsIndividual.labelled label ok)) above fits property value
    about_stands notes p _ v above property (IsAbout.about_iri iri k ok found) value fits =
        let entity = kind_entity k in
        let told = entity_place (kind_tag k) entity.0 entity.1 entity.2 in
        by_block n _ _ (ap (λ (o : Option Kind). noted (subject_as o iri) notes p v) found)
        (subst (λ (h : Heading). IsItem n (item_of (frame (in_section h section.Annotations) (leaf (kind_tag k) (atom.Iri iri)) notes (pair form.Assertion p v)))) (sym told.0)
        (assertion_stands entity.0 (leaf (kind_tag k) (atom.Iri iri)) notes p v (entity_subject (kind_tag k) entity.0 entity.1 _ entity.2 (leaf_stands entity.1 _ (entity_frame (kind_tag k) entity.0 entity.1 iri entity.2 ok))) above fits property value))
