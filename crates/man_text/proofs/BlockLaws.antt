-- The block of each axiom, and what it means.
use Rattle.std.proofs.Common.{◌≡◌, ℕ, Bool, true, false, Option, None, Some, IfSome, Ok, List, [], ◌∷◌, ◌++◌, refl, sym, ap, ◌∙◌, subst}
use Rattle.std.specs.List.{flat_map}
use Rattle.std.specs.Option.{option_to_list}
use Rattle.man_raw.specs.declared.form.Form.TheVariants as form
use Rattle.man_raw.specs.declared.form.What.TheVariants as what
use Rattle.man_raw.specs.declared.heading.Heading.{Heading}
use Rattle.man_raw.specs.declared.heading.Heading.TheVariants as heading
use Rattle.man_raw.specs.declared.heading.Section.{Section}
use Rattle.man_raw.specs.declared.heading.Section.TheVariants as section
use Rattle.man_resolve.specs.declared.place.Place.{Place}
use Rattle.man_resolve.specs.declared.place.Place.TheVariants as place
use Rattle.man_resolve.specs.declared.sentence.Sentence.TheVariants.{Note}
use Rattle.man_resolve.specs.Expressions.{Knows}
use Rattle.man_resolve.specs.Items.{axioms_of, declaration_of, stated as resolved_stated}
use Rattle.man_raw.specs.Raws.{RawTree}
use Rattle.man_resolve.specs.Places.{name_place, sentence_of}
use Rattle.owl_characters.specs.Iri.{IsIri}
use Rattle.owl_doc.specs.Entities.{entities, entities_of}
use Rattle.owl_kind.specs.declared.kind.Kind.{Kind}
use Rattle.owl_kind.specs.declared.kind.Kind.TheVariants as kind
use Rattle.owl_tree.specs.declared.atom.Atom.TheVariants as atom
use Rattle.owl_tree.specs.declared.tag.Tag.{Tag}
use Rattle.owl_tree.specs.declared.tag.Tag.TheVariants as tag
use Rattle.owl_tree.specs.Trees.{Tree, kids_in, kids_of, leaf, no_kids, node}
use Rattle.owl_tree.proofs.TreeLaws.{list_of_kids_of}
use Rattle.man_text.specs.Blocks.{Block, block_with, characteristic_of, entity_heading, fact_form, frame, in_section, alone, is_chain, item_of, kind_tag, listed, note_subject, noted, pair, stated, subject_as, unframed, where_of}
use Rattle.man_text.specs.Undecided.{piece, undecided}
use Rattle.man_text.proofs.AxiomLaws.{IsAbout, IsAxiomOver, IsBeside, IsEntityTag, IsFactTag, IsListed, IsPropertyList, IsWordTag}
use Rattle.man_text.proofs.AxiomMeaningLaws.{all_said, assertion_stated, axiom_means, beside_stated, body_means, chain_stated, fact_stated, frame_declares, frame_says, item_says, key_means, list_stated, property_list_stated, typing_stated, union_stated, word_stated}
use Rattle.man_text.proofs.ExpressionLaws.{IsIriAt, IsLabelAt, IsLeafAt, IsNameAt, IsNotesTree, Side}
use Rattle.man_text.proofs.TypedLaws.{AreTyped, typed_both, typed_first, typed_rest}

-- ---- blocks

no_chain : (p : Place) (t : Tree) → IsLeafAt p t → is_chain t ≡ false
no_chain _ _ (IsLeafAt.name_leaf p t k iri at is) = refl
no_chain _ _ (IsLeafAt.iri_leaf p t iri at is) = refl
no_chain _ _ (IsLeafAt.label_leaf p label at is) = refl
no_chain _ _ (IsLeafAt.literal_leaf p value at is) = refl
no_chain _ _ (IsLeafAt.number_leaf n few) = refl

module _ (looks : Knows) where
  pub beside_block : (t : Tag) (h : Heading) (s : Section) (p q : Place) (notes subject body : Tree) → IsBeside t h s p q → IsLeafAt p subject → block_with looks t (notes ∷ subject ∷ body ∷ []) ≡ frame (in_section h s) subject notes (undecided body)
  unfolding where_of sentence_of
  beside_block _ _ _ _ _ notes subject body IsBeside.sub_class at = refl
  beside_block _ _ _ _ _ notes subject body IsBeside.sub_property at =
      ap (λ (b : Bool). let w = where_of tag.SubObjectPropertyOf b in stated w (sentence_of w.heading w.section) tag.SubObjectPropertyOf (notes ∷ subject ∷ body ∷ [])) (no_chain place.ObjectName subject at)
  beside_block _ _ _ _ _ notes subject body IsBeside.inverse_properties at = refl
  beside_block _ _ _ _ _ notes subject body IsBeside.object_domain at = refl
  beside_block _ _ _ _ _ notes subject body IsBeside.object_range at = refl
  beside_block _ _ _ _ _ notes subject body IsBeside.sub_data_property at = refl
  beside_block _ _ _ _ _ notes subject body IsBeside.data_domain at = refl
  beside_block _ _ _ _ _ notes subject body IsBeside.data_range at = refl
  beside_block _ _ _ _ _ notes subject body IsBeside.definition at = refl
  beside_block _ _ _ _ _ notes subject body IsBeside.sub_annotation_property at = refl
  beside_block _ _ _ _ _ notes subject body IsBeside.annotation_domain at = refl
  beside_block _ _ _ _ _ notes subject body IsBeside.annotation_range at = refl

  pub typing_block : (notes body subject : Tree) → block_with looks tag.ClassAssertion (notes ∷ body ∷ subject ∷ []) ≡ frame (in_section heading.Individual section.Types) subject notes (undecided body)
  unfolding where_of sentence_of
  typing_block notes body subject = refl

  pub chain_block : (notes subject : Tree) (ts : List Tree) → block_with looks tag.SubObjectPropertyOf (notes ∷ node tag.ObjectPropertyChain (kids_of ts) ∷ subject ∷ []) ≡ frame (in_section heading.ObjectProperty section.SubPropertyChain) subject notes (undecided (node tag.ObjectPropertyChain (kids_of ts)))
  unfolding where_of sentence_of
  chain_block notes subject ts = refl

  pub list_block : (t : Tag) (h : Heading) (p : Place) (notes : Tree) (ts : List Tree) → IsListed t h p → block_with looks t (notes ∷ ts) ≡ unframed (alone h) notes (listed ts)
  unfolding where_of sentence_of
  list_block _ _ _ notes ts IsListed.equivalent_classes = refl
  list_block _ _ _ notes ts IsListed.disjoint_classes = refl
  list_block _ _ _ notes ts IsListed.same_individual = refl
  list_block _ _ _ notes ts IsListed.different_individuals = refl

  pub union_block : (notes subject : Tree) (ts : List Tree) → block_with looks tag.DisjointUnion (notes ∷ subject ∷ ts) ≡ frame (in_section heading.Class section.DisjointUnionOf) subject notes (listed ts)
  unfolding where_of sentence_of
  union_block notes subject ts = refl

  pub property_list_block : (s : Side) (t : Tag) (h : Heading) (notes : Tree) (ts : List Tree) → IsPropertyList s t h → block_with looks t (notes ∷ ts) ≡ unframed (alone h) notes (listed ts)
  unfolding where_of sentence_of
  property_list_block _ _ _ notes ts IsPropertyList.equivalent_objects = refl
  property_list_block _ _ _ notes ts IsPropertyList.disjoint_objects = refl
  property_list_block _ _ _ notes ts IsPropertyList.equivalent_datas = refl
  property_list_block _ _ _ notes ts IsPropertyList.disjoint_datas = refl

  pub key_block : (notes subject : Tree) (os ds : List Tree) → block_with looks tag.HasKey (notes ∷ subject ∷ node tag.ObjectKeys (kids_of os) ∷ node tag.DataKeys (kids_of ds) ∷ []) ≡ frame (in_section heading.Class section.HasKey) subject notes (listed (os ++ ds))
  unfolding where_of sentence_of
  key_block notes subject os ds =
      ap (λ (ts : List Tree). frame (in_section heading.Class section.HasKey) subject notes (listed (ts ++ kids_in (node tag.DataKeys (kids_of ds))))) (list_of_kids_of os)
      ∙ ap (λ (ts : List Tree). frame (in_section heading.Class section.HasKey) subject notes (listed (os ++ ts))) (list_of_kids_of ds)

  pub fact_block : (s : Side) (t : Tag) (notes p subject value : Tree) → IsFactTag s t → block_with looks t (notes ∷ p ∷ subject ∷ value ∷ []) ≡ frame (in_section heading.Individual section.Facts) subject notes (pair (fact_form t) p value)
  unfolding where_of sentence_of
  fact_block _ _ notes p subject value IsFactTag.object_fact = refl
  fact_block _ _ notes p subject value IsFactTag.negative_object_fact = refl
  fact_block _ _ notes p subject value IsFactTag.data_fact = refl
  fact_block _ _ notes p subject value IsFactTag.negative_data_fact = refl

  pub word_block : (t : Tag) (h : Heading) (p : Place) (notes subject : Tree) → IsWordTag t h p → block_with looks t (notes ∷ subject ∷ []) ≡ frame (in_section h section.Characteristics) subject notes (piece (what.Word (characteristic_of t)) [])
  unfolding where_of sentence_of
  word_block _ _ _ notes subject IsWordTag.functional = refl
  word_block _ _ _ notes subject IsWordTag.inverse_functional = refl
  word_block _ _ _ notes subject IsWordTag.reflexive = refl
  word_block _ _ _ notes subject IsWordTag.irreflexive = refl
  word_block _ _ _ notes subject IsWordTag.symmetric = refl
  word_block _ _ _ notes subject IsWordTag.asymmetric = refl
  word_block _ _ _ notes subject IsWordTag.transitive = refl
  word_block _ _ _ notes subject IsWordTag.functional_data = refl

-- ---- what is said in a frame, or in an item of its own

pub beside_place : (t : Tag) (h : Heading) (s : Section) (p q : Place) → IsBeside t h s p q → name_place h ≡ Some p
beside_place _ _ _ _ _ IsBeside.sub_class = refl
beside_place _ _ _ _ _ IsBeside.sub_property = refl
beside_place _ _ _ _ _ IsBeside.inverse_properties = refl
beside_place _ _ _ _ _ IsBeside.object_domain = refl
beside_place _ _ _ _ _ IsBeside.object_range = refl
beside_place _ _ _ _ _ IsBeside.sub_data_property = refl
beside_place _ _ _ _ _ IsBeside.data_domain = refl
beside_place _ _ _ _ _ IsBeside.data_range = refl
beside_place _ _ _ _ _ IsBeside.definition = refl
beside_place _ _ _ _ _ IsBeside.sub_annotation_property = refl
beside_place _ _ _ _ _ IsBeside.annotation_domain = refl
beside_place _ _ _ _ _ IsBeside.annotation_range = refl

pub listed_place : (t : Tag) (h : Heading) (p : Place) → IsListed t h p → name_place h ≡ None
listed_place _ _ _ IsListed.equivalent_classes = refl
listed_place _ _ _ IsListed.disjoint_classes = refl
listed_place _ _ _ IsListed.same_individual = refl
listed_place _ _ _ IsListed.different_individuals = refl

pub property_list_place : (s : Side) (t : Tag) (h : Heading) → IsPropertyList s t h → name_place h ≡ None
property_list_place _ _ _ IsPropertyList.equivalent_objects = refl
property_list_place _ _ _ IsPropertyList.disjoint_objects = refl
property_list_place _ _ _ IsPropertyList.equivalent_datas = refl
property_list_place _ _ _ IsPropertyList.disjoint_datas = refl

pub word_place : (t : Tag) (h : Heading) (p : Place) → IsWordTag t h p → name_place h ≡ Some p
word_place _ _ _ IsWordTag.functional = refl
word_place _ _ _ IsWordTag.inverse_functional = refl
word_place _ _ _ IsWordTag.reflexive = refl
word_place _ _ _ IsWordTag.irreflexive = refl
word_place _ _ _ IsWordTag.symmetric = refl
word_place _ _ _ IsWordTag.asymmetric = refl
word_place _ _ _ IsWordTag.transitive = refl
word_place _ _ _ IsWordTag.functional_data = refl

-- the frame of an entity, where its name stands
pub record IsFrameOf (subject : Tree) : Type 0 where
  pub place : Place
  pub heading : Heading
  pub named : name_place heading ≡ Some place
  pub stands : IsLeafAt place subject

pub entity_frame : (t : Tag) (h : Heading) (p : Place) (iri : List ℕ) → IsEntityTag t h p → IsIri iri → IsLeafAt p (leaf t (atom.Iri iri))
entity_frame _ _ _ iri IsEntityTag.of_class is = IsLeafAt.name_leaf place.ClassName tag.Class kind.Class iri IsNameAt.class_name is
entity_frame _ _ _ iri IsEntityTag.of_datatype is = IsLeafAt.name_leaf place.Datatype tag.Datatype kind.Datatype iri IsNameAt.datatype is
entity_frame _ _ _ iri IsEntityTag.of_object_property is = IsLeafAt.name_leaf place.ObjectName tag.ObjectProperty kind.ObjectProperty iri IsNameAt.object_name is
entity_frame _ _ _ iri IsEntityTag.of_data_property is = IsLeafAt.name_leaf place.Data tag.DataProperty kind.DataProperty iri IsNameAt.data_property is
entity_frame _ _ _ iri IsEntityTag.of_annotation_property is = IsLeafAt.name_leaf place.AnnotationProperty tag.AnnotationProperty kind.AnnotationProperty iri IsNameAt.annotation_property is
entity_frame _ _ _ iri IsEntityTag.of_individual is = IsLeafAt.iri_leaf place.Individual tag.NamedIndividual iri IsIriAt.named_individual is

pub entity_place : (t : Tag) (h : Heading) (p : Place) → IsEntityTag t h p → (entity_heading t ≡ h) × (name_place h ≡ Some p) × (sentence_of h section.Annotations ≡ Note)
unfolding entity_heading sentence_of
entity_place _ _ _ IsEntityTag.of_class = (refl, refl, refl)
entity_place _ _ _ IsEntityTag.of_datatype = (refl, refl, refl)
entity_place _ _ _ IsEntityTag.of_object_property = (refl, refl, refl)
entity_place _ _ _ IsEntityTag.of_data_property = (refl, refl, refl)
entity_place _ _ _ IsEntityTag.of_annotation_property = (refl, refl, refl)
entity_place _ _ _ IsEntityTag.of_individual = (refl, refl, refl)

-- as what an IRI of this kind is named
pub kind_entity : (k : Kind) → (h : Heading) × (p : Place) × IsEntityTag (kind_tag k) h p
unfolding kind_tag
kind_entity kind.Class = (heading.Class, place.ClassName, IsEntityTag.of_class)
kind_entity kind.Datatype = (heading.Datatype, place.Datatype, IsEntityTag.of_datatype)
kind_entity kind.ObjectProperty = (heading.ObjectProperty, place.ObjectName, IsEntityTag.of_object_property)
kind_entity kind.DataProperty = (heading.DataProperty, place.Data, IsEntityTag.of_data_property)
kind_entity kind.AnnotationProperty = (heading.AnnotationProperty, place.AnnotationProperty, IsEntityTag.of_annotation_property)
kind_entity kind.Individual = (heading.Individual, place.Individual, IsEntityTag.of_individual)

-- what the block means under the kinds
pub record IsMeant (ks : Knows) (b : Block) (axioms : List Tree) : Type 0 where
  pub says : axioms_of ks (item_of b) ≡ all_said (flat_map declaration_of (option_to_list b.subject)) axioms

module _ (looks ks : Knows) (apart : (iri : List ℕ) → ks kind.ObjectProperty iri ≡ true → ks kind.DataProperty iri ≡ true → ⊥) where
  by_block : (b c : Block) (axioms : List Tree) → b ≡ c → IsMeant ks c axioms → IsMeant ks b axioms
  by_block b c axioms e h = subst (λ (d : Block). IsMeant ks d axioms) (sym e) h

  -- a frame with one part
  framed_meant : (h : Heading) (s : Section) (p : Place) (subject notes : Tree) (body : RawTree) (t : Tag) (ts : List Tree) → name_place h ≡ Some p → IsLeafAt p subject → AreTyped ks (entities subject) → IsNotesTree notes → AreTyped ks (entities notes)
      → resolved_stated ks h (sentence_of h s) (subject ∷ []) body ≡ Ok (record { tag = t; kids = ts }) → IsMeant ks (frame (in_section h s) subject notes body) (node t (kids_of (notes ∷ ts)) ∷ [])
  framed_meant h s p subject notes body t ts e at typed is known says = record {
    says = frame_says ks h p subject _ (node t (kids_of (notes ∷ ts))) e at typed (axiom_means ks h s (subject ∷ []) notes body t ts is known says);
  }

  unframed_meant : (h : Heading) (notes : Tree) (body : RawTree) (t : Tag) (ts : List Tree) → name_place h ≡ None → IsNotesTree notes → AreTyped ks (entities notes)
      → resolved_stated ks h (sentence_of h section.Members) [] body ≡ Ok (record { tag = t; kids = ts }) → IsMeant ks (unframed (alone h) notes body) (node t (kids_of (notes ∷ ts)) ∷ [])
  unframed_meant h notes body t ts e is known says = record {
    says = item_says ks h _ (node t (kids_of (notes ∷ ts))) e (axiom_means ks h section.Members [] notes body t ts is known says);
  }

  -- its name is that of a kind that it has
  about_meant : (k : Kind) (iri : List ℕ) (notes p v : Tree) → IsIri iri → IsNotesTree notes → IsLeafAt place.AnnotationProperty p → IsLeafAt place.Value v
      → AreTyped ks (entities_of (kids_of (notes ∷ p ∷ leaf tag.PlainIri (atom.Iri iri) ∷ v ∷ []))) → AreTyped ks (entities (leaf (kind_tag k) (atom.Iri iri)))
      → IsMeant ks (noted (leaf (kind_tag k) (atom.Iri iri)) notes p v) (node tag.AnnotationAssertion (kids_of (notes ∷ p ∷ leaf tag.PlainIri (atom.Iri iri) ∷ v ∷ [])) ∷ [])
  about_meant k iri notes p v is above property value typed known =
      let entity = kind_entity k in
      let subject = leaf (kind_tag k) (atom.Iri iri) in
      let about = leaf tag.PlainIri (atom.Iri iri) in
      let told = entity_place (kind_tag k) entity.0 entity.1 entity.2 in
      let rest = typed_rest ks notes (kids_of (p ∷ about ∷ v ∷ [])) typed in
      let last = typed_rest ks about (kids_of (v ∷ [])) (typed_rest ks p (kids_of (about ∷ v ∷ [])) rest) in
      subst (λ (h : Heading). IsMeant ks (frame (in_section h section.Annotations) subject notes (pair form.Assertion p v)) (node tag.AnnotationAssertion (kids_of (notes ∷ p ∷ about ∷ v ∷ [])) ∷ [])) (sym told.0)
      (framed_meant entity.0 section.Annotations entity.1 subject notes (pair form.Assertion p v) tag.AnnotationAssertion (p ∷ about ∷ v ∷ []) told.1 (entity_frame (kind_tag k) entity.0 entity.1 iri entity.2 is) known above (typed_first ks notes (kids_of (p ∷ about ∷ v ∷ [])) typed)
      (assertion_stated ks apart entity.0 p subject about v property (typed_first ks p (kids_of (about ∷ v ∷ [])) rest) value (typed_first ks v no_kids last) refl told.2))

  -- The block of an axiom means what heads it, declared, and the axiom.
  pub block_meant : (t : Tag) (ts own : List Tree) → IsAxiomOver looks t ts own → AreTyped ks (entities_of (kids_of ts)) → IfSome (block_with looks t ts).subject (λ s. AreTyped ks (entities s)) → IsMeant ks (block_with looks t ts) own
  unfolding sentence_of entity_heading
  block_meant _ _ _ (IsAxiomOver.declaration t h p iri is ok) typed known =
      let told = entity_place t h p is in
      record { says = ap (λ (g : Heading). axioms_of ks (item_of (record { heading = g; subject = Some (leaf t (atom.Iri iri)); parts = [] }))) told.0 ∙ frame_declares ks h p (leaf t (atom.Iri iri)) told.1 (entity_frame t h p iri is ok) known }
  block_meant _ _ _ (IsAxiomOver.beside t h s p q notes subject body is above at stands) typed known =
      let rest = typed_rest ks notes (kids_of (subject ∷ body ∷ [])) typed in
      let last = typed_first ks body no_kids (typed_rest ks subject (kids_of (body ∷ [])) rest) in
      by_block _ _ _ (beside_block looks t h s p q notes subject body is at)
      (framed_meant h s p subject notes (undecided body) t (subject ∷ body ∷ []) (beside_place t h s p q is) at (typed_first ks subject (kids_of (body ∷ [])) rest) above (typed_first ks notes (kids_of (subject ∷ body ∷ [])) typed)
      (beside_stated ks apart t h s p q subject body is (body_means ks apart q body stands last)))
  block_meant _ _ _ (IsAxiomOver.typing notes body subject above is at) typed known =
      let rest = typed_rest ks notes (kids_of (body ∷ subject ∷ [])) typed in
      let last = typed_first ks subject no_kids (typed_rest ks body (kids_of (subject ∷ [])) rest) in
      by_block _ _ _ (typing_block looks notes body subject)
      (framed_meant heading.Individual section.Types place.Individual subject notes (undecided body) tag.ClassAssertion (body ∷ subject ∷ []) refl at last above (typed_first ks notes (kids_of (body ∷ subject ∷ [])) typed)
      (typing_stated ks apart body subject is (typed_first ks body (kids_of (subject ∷ [])) rest)))
  block_meant _ _ _ (IsAxiomOver.chain notes a b ts subject above links at) typed known =
      let link = node tag.ObjectPropertyChain (kids_of (a ∷ b ∷ ts)) in
      let rest = typed_rest ks notes (kids_of (link ∷ subject ∷ [])) typed in
      let last = typed_first ks subject no_kids (typed_rest ks link (kids_of (subject ∷ [])) rest) in
      by_block _ _ _ (chain_block looks notes subject (a ∷ b ∷ ts))
      (framed_meant heading.ObjectProperty section.SubPropertyChain place.ObjectName subject notes (undecided link) tag.SubObjectPropertyOf (link ∷ subject ∷ []) refl at last above (typed_first ks notes (kids_of (link ∷ subject ∷ [])) typed)
      (chain_stated ks apart a b ts subject links (typed_first ks link (kids_of (subject ∷ [])) rest)))
  block_meant _ _ _ (IsAxiomOver.listed t h p notes a b ts is above members) typed known =
      by_block _ _ _ (list_block looks t h p notes (a ∷ b ∷ ts) is)
      (unframed_meant h notes (listed (a ∷ b ∷ ts)) t (a ∷ b ∷ ts) (listed_place t h p is) above (typed_first ks notes (kids_of (a ∷ b ∷ ts)) typed)
      (list_stated ks apart t h p a b ts is members (typed_rest ks notes (kids_of (a ∷ b ∷ ts)) typed)))
  block_meant _ _ _ (IsAxiomOver.union_of notes subject a b ts above at members) typed known =
      let rest = typed_rest ks notes (kids_of (subject ∷ a ∷ b ∷ ts)) typed in
      by_block _ _ _ (union_block looks notes subject (a ∷ b ∷ ts))
      (framed_meant heading.Class section.DisjointUnionOf place.ClassName subject notes (listed (a ∷ b ∷ ts)) tag.DisjointUnion (subject ∷ a ∷ b ∷ ts) refl at (typed_first ks subject (kids_of (a ∷ b ∷ ts)) rest) above (typed_first ks notes (kids_of (subject ∷ a ∷ b ∷ ts)) typed)
      (union_stated ks apart subject a b ts members (typed_rest ks subject (kids_of (a ∷ b ∷ ts)) rest)))
  block_meant _ _ _ (IsAxiomOver.property_list s t h notes a b ts is above members) typed known =
      by_block _ _ _ (property_list_block looks s t h notes (a ∷ b ∷ ts) is)
      (unframed_meant h notes (listed (a ∷ b ∷ ts)) t (a ∷ b ∷ ts) (property_list_place s t h is) above (typed_first ks notes (kids_of (a ∷ b ∷ ts)) typed)
      (property_list_stated ks apart s t h a b ts is members (typed_rest ks notes (kids_of (a ∷ b ∷ ts)) typed)))
  block_meant _ _ _ (IsAxiomOver.key notes subject os ds a ts above at objects datas some) typed known =
      let first = node tag.ObjectKeys (kids_of os) in
      let second = node tag.DataKeys (kids_of ds) in
      let rest = typed_rest ks notes (kids_of (subject ∷ first ∷ second ∷ [])) typed in
      let keys = typed_rest ks subject (kids_of (first ∷ second ∷ [])) rest in
      by_block _ _ _ (key_block looks notes subject os ds)
      (framed_meant heading.Class section.HasKey place.ClassName subject notes (listed (os ++ ds)) tag.HasKey (subject ∷ first ∷ second ∷ []) refl at (typed_first ks subject (kids_of (first ∷ second ∷ [])) rest) above (typed_first ks notes (kids_of (subject ∷ first ∷ second ∷ [])) typed)
      (key_means ks apart subject os ds a ts objects datas some (typed_both ks os ds (typed_first ks first (kids_of (second ∷ [])) keys) (typed_first ks second no_kids (typed_rest ks first (kids_of (second ∷ [])) keys)))))
  block_meant _ _ _ (IsAxiomOver.fact s t notes p subject value is above named at stands) typed known =
      let rest = typed_rest ks notes (kids_of (p ∷ subject ∷ value ∷ [])) typed in
      let last = typed_rest ks p (kids_of (subject ∷ value ∷ [])) rest in
      by_block _ _ _ (fact_block looks s t notes p subject value is)
      (framed_meant heading.Individual section.Facts place.Individual subject notes (pair (fact_form t) p value) t (p ∷ subject ∷ value ∷ []) refl at (typed_first ks subject (kids_of (value ∷ [])) last) above (typed_first ks notes (kids_of (p ∷ subject ∷ value ∷ [])) typed)
      (fact_stated ks apart s t p subject value is named (typed_first ks p (kids_of (subject ∷ value ∷ [])) rest) stands (typed_first ks value no_kids (typed_rest ks subject (kids_of (value ∷ [])) last))))
  block_meant _ _ _ (IsAxiomOver.word t h p notes subject is above at) typed known =
      by_block _ _ _ (word_block looks t h p notes subject is)
      (framed_meant h section.Characteristics p subject notes (piece (what.Word (characteristic_of t)) []) t (subject ∷ []) (word_place t h p is) at (typed_first ks subject no_kids (typed_rest ks notes (kids_of (subject ∷ [])) typed)) above (typed_first ks notes (kids_of (subject ∷ [])) typed)
      (word_stated ks apart t h p subject is))
  block_meant _ _ _ (IsAxiomOver.assertion notes p _ v above property (IsAbout.about_label label is) value) typed known =
      let about = leaf tag.Anonymous (atom.Label label) in
      let rest = typed_rest ks notes (kids_of (p ∷ about ∷ v ∷ [])) typed in
      let last = typed_rest ks about (kids_of (v ∷ [])) (typed_rest ks p (kids_of (about ∷ v ∷ [])) rest) in
      framed_meant heading.Individual section.Annotations place.Individual about notes (pair form.Assertion p v) tag.AnnotationAssertion (p ∷ about ∷ v ∷ []) refl (IsLeafAt.label_leaf place.Individual label IsLabelAt.individual_label is) known above (typed_first ks notes (kids_of (p ∷ about ∷ v ∷ [])) typed)
      (assertion_stated ks apart heading.Individual p about about v property (typed_first ks p (kids_of (about ∷ v ∷ [])) rest) value (typed_first ks v no_kids last) refl refl)
  block_meant _ _ _ (IsAxiomOver.assertion notes p _ v above property (IsAbout.about_iri iri k is found) value) typed known =
      let subjects : note_subject looks (leaf tag.PlainIri (atom.Iri iri)) ≡ leaf (kind_tag k) (atom.Iri iri) = ap (λ (o : Option Kind). subject_as o iri) found in
      by_block _ _ _ (ap (λ (s : Tree). noted s notes p v) subjects)
      (about_meant k iri notes p v is above property value typed (subst (λ (s : Tree). AreTyped ks (entities s)) subjects known))
