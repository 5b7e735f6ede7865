-- What heads the block of an axiom is its subject, as it is written.
use Rattle.std.proofs.Common.{◌≡◌, arith, Bool, true, false, if◌then◌else◌, Option, Some, List, [], ◌∷◌, length, map, refl, sym, ap, ◌∙◌, subst}
use Rattle.std.specs.Prelude.{IsTrue}
use Rattle.std.specs.List.{AllByRecursion, flat_map}
use Rattle.std.specs.Option.{option_map, option_to_list}
use Rattle.std.proofs.lemmas.Bool.{and_parts}
use Rattle.man_resolve.specs.Expressions.{Knows}
use Rattle.man_resolve.specs.Places.{sentence_of}
use Rattle.man_text.specs.Blocks.{block_with, declared_name, headed, is_chain, note_subject, stated, where_of}
use Rattle.man_text.proofs.ShapedLaws.{three_kids, two_kids}
use Rattle.man_text.proofs.ShapedBlockLaws.{four_kids, shaped_list}
use Rattle.owl_tree.specs.Canonical.{canonical}
use Rattle.owl_tree.specs.declared.atom.Atom.{Atom}
use Rattle.owl_tree.specs.declared.row.Sort.TheVariants as sort
use Rattle.owl_tree.specs.declared.tag.Tag.{Tag}
use Rattle.owl_tree.specs.declared.tag.Tag.TheVariants as tag
use Rattle.owl_tree.specs.Ontologies.{IsAxiom}
use Rattle.owl_tree.specs.Rows.{admits, fits, is_tag, row_of, takes}
use Rattle.owl_tree.specs.Shape.{IsShaped}
use Rattle.owl_tree.specs.Tags.{is_axiom, number_of}
use Rattle.owl_tree.specs.Trees.{Kids, Tree, kids_in, kids_of, leaf, list_of, node, tag_of}
use Rattle.fss_terms.specs.Spelling.{HasMembers}
use Rattle.written_trees.specs.Written.{doubled, written_form, written_forms}
use Rattle.written_trees.proofs.RepeatedLaws.{kids_written}
use Rattle.written_trees.proofs.WrittenLaws.{is_written}
use Rattle.man_normal.specs.Subjects.{kid_at, subject_in, subject_place}

-- ---- a tree as it is written

abbrev pub declared_in : Option Tree → List Tree
declared_in t = flat_map declared_name (option_to_list t)

-- what is declared of it is what is declared of the tree, since a name is written as it is
declared_as_written : (t : Tree) → declared_in (Some (written_form t)) ≡ declared_in (Some t)
declared_as_written (leaf t a) = refl
declared_as_written (node t ks) = refl

annotated_as_written : (ks : Knows) (t : Tree) → declared_in (Some (note_subject ks (written_form t))) ≡ declared_in (Some (note_subject ks t))
annotated_as_written ks (leaf t a) = refl
annotated_as_written ks (node t us) = refl

chain_leaf : (t : Tag) (a : Atom) → takes (row_of t) a ≡ true → false ≡ is_tag tag.ObjectPropertyChain t
unfolding row_of number_of
chain_leaf tag.ObjectPropertyChain a e = absurd (cc)
chain_leaf _ a e = refl

chain_node : (t : Tag) (ks : Kids) → is_chain (node t ks) ≡ is_tag tag.ObjectPropertyChain t
unfolding number_of
chain_node tag.ObjectPropertyChain ks = refl
chain_node _ ks = refl

chain_by_tag : (t : Tree) → IsShaped t → is_chain (written_form t) ≡ is_tag tag.ObjectPropertyChain (tag_of t)
chain_by_tag (leaf t a) h = chain_leaf t a h.0
chain_by_tag (node t ks) h = chain_node t _

-- ---- axioms, by their tags

-- what the block is of: a name that an IRI has by its kind, where annotations are of it
abbrev pub head_by : Knows → Bool → Option Tree → Option Tree
head_by ks annotates subject = if annotates then option_map (note_subject ks) subject else subject

abbrev pub head_in : Knows → Tag → List Tree → Option Tree
head_in ks t ts = head_by ks (is_tag tag.AnnotationAssertion t) (subject_in t ts)

-- what heads the block of an axiom with the tag and these kids, as they are written
abbrev IsHeaded : Knows → Tag → List Tree → Type 0
IsHeaded ks t ts = declared_in (block_with ks t (doubled (row_of t) (map written_form ts))).subject ≡ declared_in (head_in ks t ts)

by_kids : (ks : Knows) (t : Tag) (ts us : List Tree) → ts ≡ us → IsHeaded ks t us → IsHeaded ks t ts
by_kids ks t ts us e h = subst (IsHeaded ks t) (sym e) h

-- members alike have no subject
data IsAlike : Tag → Type 0 where
  equivalent_classes : IsAlike tag.EquivalentClasses
  disjoint_classes : IsAlike tag.DisjointClasses
  equivalent_object_properties : IsAlike tag.EquivalentObjectProperties
  disjoint_object_properties : IsAlike tag.DisjointObjectProperties
  equivalent_data_properties : IsAlike tag.EquivalentDataProperties
  disjoint_data_properties : IsAlike tag.DisjointDataProperties
  same_individual : IsAlike tag.SameIndividual
  different_individuals : IsAlike tag.DifferentIndividuals

listed_head : (ks : Knows) (t : Tag) (ts : List Tree) → IsAlike t → fits (row_of t) (map tag_of ts) ≡ true → IsHeaded ks t ts
unfolding where_of sentence_of row_of number_of subject_place
listed_head ks _ [] IsAlike.equivalent_classes e = absurd (cc)
listed_head ks _ (a ∷ ts) IsAlike.equivalent_classes e = refl
listed_head ks _ [] IsAlike.disjoint_classes e = absurd (cc)
listed_head ks _ (a ∷ ts) IsAlike.disjoint_classes e = refl
listed_head ks _ [] IsAlike.equivalent_object_properties e = absurd (cc)
listed_head ks _ (a ∷ ts) IsAlike.equivalent_object_properties e = refl
listed_head ks _ [] IsAlike.disjoint_object_properties e = absurd (cc)
listed_head ks _ (a ∷ ts) IsAlike.disjoint_object_properties e = refl
listed_head ks _ [] IsAlike.equivalent_data_properties e = absurd (cc)
listed_head ks _ (a ∷ ts) IsAlike.equivalent_data_properties e = refl
listed_head ks _ [] IsAlike.disjoint_data_properties e = absurd (cc)
listed_head ks _ (a ∷ ts) IsAlike.disjoint_data_properties e = refl
listed_head ks _ [] IsAlike.same_individual e = absurd (cc)
listed_head ks _ (a ∷ ts) IsAlike.same_individual e = refl
listed_head ks _ [] IsAlike.different_individuals e = absurd (cc)
listed_head ks _ (a ∷ ts) IsAlike.different_individuals e = refl

union_head : (ks : Knows) (ts : List Tree) → fits (row_of tag.DisjointUnion) (map tag_of ts) ≡ true → IsHeaded ks tag.DisjointUnion ts
unfolding where_of sentence_of row_of number_of subject_place
union_head ks [] e = absurd (cc)
union_head ks (a ∷ []) e = let parts = and_parts (admits sort.Notes (tag_of a)) false e in let rest = parts.1 in absurd (cc)
union_head ks (a ∷ b ∷ ts) e = declared_as_written b

inverse_head : (ks : Knows) (ts : List Tree) → fits (row_of tag.InverseObjectProperties) (map tag_of ts) ≡ true → length (doubled (row_of tag.InverseObjectProperties) (map written_form ts)) ≡ 3 → IsHeaded ks tag.InverseObjectProperties ts
unfolding where_of sentence_of row_of number_of subject_place
inverse_head ks [] e l = absurd (cc)
inverse_head ks (a ∷ []) e l = absurd (omega arith)
inverse_head ks (a ∷ b ∷ []) e l = declared_as_written b
inverse_head ks (a ∷ b ∷ d ∷ []) e l = declared_as_written b
inverse_head ks (a ∷ b ∷ d ∷ x ∷ ts) e l = absurd (omega arith)

sub_by_chain : (ks : Knows) (a b d : Tree) (chain : Bool) → is_chain (written_form b) ≡ chain → is_tag tag.ObjectPropertyChain (tag_of b) ≡ chain → IsHeaded ks tag.SubObjectPropertyOf (a ∷ b ∷ d ∷ [])
unfolding where_of sentence_of row_of number_of subject_place
sub_by_chain ks a b d true e f =
    ap (λ (c : Bool). let w = where_of tag.SubObjectPropertyOf c in declared_in (stated w (sentence_of w.heading w.section) tag.SubObjectPropertyOf (written_form a ∷ written_form b ∷ written_form d ∷ [])).subject) e
    ∙ declared_as_written d
    ∙ ap (λ (c : Bool). declared_in (kid_at (a ∷ b ∷ d ∷ []) (subject_place tag.SubObjectPropertyOf c))) (sym f)
sub_by_chain ks a b d false e f =
    ap (λ (c : Bool). let w = where_of tag.SubObjectPropertyOf c in declared_in (stated w (sentence_of w.heading w.section) tag.SubObjectPropertyOf (written_form a ∷ written_form b ∷ written_form d ∷ [])).subject) e
    ∙ declared_as_written b
    ∙ ap (λ (c : Bool). declared_in (kid_at (a ∷ b ∷ d ∷ []) (subject_place tag.SubObjectPropertyOf c))) (sym f)

sub_head : (ks : Knows) (ts : List Tree) → fits (row_of tag.SubObjectPropertyOf) (map tag_of ts) ≡ true → AllByRecursion IsShaped ts → IsHeaded ks tag.SubObjectPropertyOf ts
unfolding row_of
sub_head ks ts e shaped =
    let kids = three_kids sort.Notes sort.SubObjectPropertyExpression sort.ObjectPropertyExpression ts e in
    let own = subst (AllByRecursion IsShaped) kids.is shaped in
    by_kids ks tag.SubObjectPropertyOf ts _ kids.is (sub_by_chain ks kids.a kids.b kids.d (is_tag tag.ObjectPropertyChain (tag_of kids.b)) (chain_by_tag kids.b own.1.0) refl)

head_is : (ks : Knows) (t : Tag) (ts : List Tree) → IsTrue (is_axiom t) → fits (row_of t) (map tag_of ts) ≡ true → AllByRecursion IsShaped ts → (t ≡ tag.InverseObjectProperties → length (doubled (row_of t) (map written_form ts)) ≡ 3) → IsHeaded ks t ts
unfolding where_of sentence_of row_of number_of subject_place
head_is ks tag.Declaration ts h e shaped two = let kids = two_kids sort.Notes sort.Entity ts e in by_kids ks tag.Declaration ts _ kids.is (declared_as_written kids.b)
head_is ks tag.SubClassOf ts h e shaped two = let kids = three_kids sort.Notes sort.ClassExpression sort.ClassExpression ts e in by_kids ks tag.SubClassOf ts _ kids.is (declared_as_written kids.b)
head_is ks tag.EquivalentClasses ts h e shaped two = listed_head ks tag.EquivalentClasses ts IsAlike.equivalent_classes e
head_is ks tag.DisjointClasses ts h e shaped two = listed_head ks tag.DisjointClasses ts IsAlike.disjoint_classes e
head_is ks tag.DisjointUnion ts h e shaped two = union_head ks ts e
head_is ks tag.SubObjectPropertyOf ts h e shaped two = sub_head ks ts e shaped
head_is ks tag.EquivalentObjectProperties ts h e shaped two = listed_head ks tag.EquivalentObjectProperties ts IsAlike.equivalent_object_properties e
head_is ks tag.DisjointObjectProperties ts h e shaped two = listed_head ks tag.DisjointObjectProperties ts IsAlike.disjoint_object_properties e
head_is ks tag.InverseObjectProperties ts h e shaped two = inverse_head ks ts e (two refl)
head_is ks tag.ObjectPropertyDomain ts h e shaped two = let kids = three_kids sort.Notes sort.ObjectPropertyExpression sort.ClassExpression ts e in by_kids ks tag.ObjectPropertyDomain ts _ kids.is (declared_as_written kids.b)
head_is ks tag.ObjectPropertyRange ts h e shaped two = let kids = three_kids sort.Notes sort.ObjectPropertyExpression sort.ClassExpression ts e in by_kids ks tag.ObjectPropertyRange ts _ kids.is (declared_as_written kids.b)
head_is ks tag.FunctionalObjectProperty ts h e shaped two = let kids = two_kids sort.Notes sort.ObjectPropertyExpression ts e in by_kids ks tag.FunctionalObjectProperty ts _ kids.is (declared_as_written kids.b)
head_is ks tag.InverseFunctionalObjectProperty ts h e shaped two = let kids = two_kids sort.Notes sort.ObjectPropertyExpression ts e in by_kids ks tag.InverseFunctionalObjectProperty ts _ kids.is (declared_as_written kids.b)
head_is ks tag.ReflexiveObjectProperty ts h e shaped two = let kids = two_kids sort.Notes sort.ObjectPropertyExpression ts e in by_kids ks tag.ReflexiveObjectProperty ts _ kids.is (declared_as_written kids.b)
head_is ks tag.IrreflexiveObjectProperty ts h e shaped two = let kids = two_kids sort.Notes sort.ObjectPropertyExpression ts e in by_kids ks tag.IrreflexiveObjectProperty ts _ kids.is (declared_as_written kids.b)
head_is ks tag.SymmetricObjectProperty ts h e shaped two = let kids = two_kids sort.Notes sort.ObjectPropertyExpression ts e in by_kids ks tag.SymmetricObjectProperty ts _ kids.is (declared_as_written kids.b)
head_is ks tag.AsymmetricObjectProperty ts h e shaped two = let kids = two_kids sort.Notes sort.ObjectPropertyExpression ts e in by_kids ks tag.AsymmetricObjectProperty ts _ kids.is (declared_as_written kids.b)
head_is ks tag.TransitiveObjectProperty ts h e shaped two = let kids = two_kids sort.Notes sort.ObjectPropertyExpression ts e in by_kids ks tag.TransitiveObjectProperty ts _ kids.is (declared_as_written kids.b)
head_is ks tag.SubDataPropertyOf ts h e shaped two = let kids = three_kids sort.Notes sort.DataPropertyExpression sort.DataPropertyExpression ts e in by_kids ks tag.SubDataPropertyOf ts _ kids.is (declared_as_written kids.b)
head_is ks tag.EquivalentDataProperties ts h e shaped two = listed_head ks tag.EquivalentDataProperties ts IsAlike.equivalent_data_properties e
head_is ks tag.DisjointDataProperties ts h e shaped two = listed_head ks tag.DisjointDataProperties ts IsAlike.disjoint_data_properties e
head_is ks tag.DataPropertyDomain ts h e shaped two = let kids = three_kids sort.Notes sort.DataPropertyExpression sort.ClassExpression ts e in by_kids ks tag.DataPropertyDomain ts _ kids.is (declared_as_written kids.b)
head_is ks tag.DataPropertyRange ts h e shaped two = let kids = three_kids sort.Notes sort.DataPropertyExpression sort.DataRange ts e in by_kids ks tag.DataPropertyRange ts _ kids.is (declared_as_written kids.b)
head_is ks tag.FunctionalDataProperty ts h e shaped two = let kids = two_kids sort.Notes sort.DataPropertyExpression ts e in by_kids ks tag.FunctionalDataProperty ts _ kids.is (declared_as_written kids.b)
head_is ks tag.DatatypeDefinition ts h e shaped two = let kids = three_kids sort.Notes sort.Datatype sort.DataRange ts e in by_kids ks tag.DatatypeDefinition ts _ kids.is (declared_as_written kids.b)
head_is ks tag.HasKey ts h e shaped two = let kids = four_kids sort.Notes sort.ClassExpression sort.ObjectKeys sort.DataKeys ts e in by_kids ks tag.HasKey ts _ kids.is (declared_as_written kids.b)
head_is ks tag.SameIndividual ts h e shaped two = listed_head ks tag.SameIndividual ts IsAlike.same_individual e
head_is ks tag.DifferentIndividuals ts h e shaped two = listed_head ks tag.DifferentIndividuals ts IsAlike.different_individuals e
head_is ks tag.ClassAssertion ts h e shaped two = let kids = three_kids sort.Notes sort.ClassExpression sort.Individual ts e in by_kids ks tag.ClassAssertion ts _ kids.is (declared_as_written kids.d)
head_is ks tag.ObjectPropertyAssertion ts h e shaped two = let kids = four_kids sort.Notes sort.ObjectPropertyExpression sort.Individual sort.Individual ts e in by_kids ks tag.ObjectPropertyAssertion ts _ kids.is (declared_as_written kids.d)
head_is ks tag.NegativeObjectPropertyAssertion ts h e shaped two = let kids = four_kids sort.Notes sort.ObjectPropertyExpression sort.Individual sort.Individual ts e in by_kids ks tag.NegativeObjectPropertyAssertion ts _ kids.is (declared_as_written kids.d)
head_is ks tag.DataPropertyAssertion ts h e shaped two = let kids = four_kids sort.Notes sort.DataPropertyExpression sort.Individual sort.Literal ts e in by_kids ks tag.DataPropertyAssertion ts _ kids.is (declared_as_written kids.d)
head_is ks tag.NegativeDataPropertyAssertion ts h e shaped two = let kids = four_kids sort.Notes sort.DataPropertyExpression sort.Individual sort.Literal ts e in by_kids ks tag.NegativeDataPropertyAssertion ts _ kids.is (declared_as_written kids.d)
head_is ks tag.AnnotationAssertion ts h e shaped two = let kids = four_kids sort.Notes sort.AnnotationProperty sort.AnnotationSubject sort.AnnotationValue ts e in by_kids ks tag.AnnotationAssertion ts _ kids.is (annotated_as_written ks kids.d)
head_is ks tag.SubAnnotationPropertyOf ts h e shaped two = let kids = three_kids sort.Notes sort.AnnotationProperty sort.AnnotationProperty ts e in by_kids ks tag.SubAnnotationPropertyOf ts _ kids.is (declared_as_written kids.b)
head_is ks tag.AnnotationPropertyDomain ts h e shaped two = let kids = three_kids sort.Notes sort.AnnotationProperty sort.Iri ts e in by_kids ks tag.AnnotationPropertyDomain ts _ kids.is (declared_as_written kids.b)
head_is ks tag.AnnotationPropertyRange ts h e shaped two = let kids = three_kids sort.Notes sort.AnnotationProperty sort.Iri ts e in by_kids ks tag.AnnotationPropertyRange ts _ kids.is (declared_as_written kids.b)
head_is ks _ ts h e shaped two = absurd (cc)

-- ---- axioms

no_leaf : (t : Tag) (a : Atom) → IsTrue (is_axiom t) → takes (row_of t) a ≡ true → ⊥
unfolding row_of number_of
no_leaf tag.Class a h e = absurd (cc)
no_leaf _ a h e = absurd (cc)

-- The declaration of the name that heads the block of an axiom is that of its subject.
pub headed_by_subject : (ks : Knows) (t : Tree) → IsAxiom t → canonical t ≡ t → headed ks t ≡ declared_in (head_in ks (tag_of t) (kids_in t))
headed_by_subject ks (leaf t a) h e = absurd (no_leaf t a h.tag h.shaped.0)
headed_by_subject ks (node t us) h e =
    let written = doubled (row_of t) (written_forms us) in
    let same : list_of (kids_of written) ≡ doubled (row_of t) (map written_form (list_of us)) = kids_written t us in
    let members : HasMembers (written_form (node t us)) = (is_written (node t us) h.shaped e).members in
    ap (λ (ts : List Tree). declared_in (block_with ks t ts).subject) same
    ∙ head_is ks t (list_of us) h.tag h.shaped.0.row (shaped_list us h.shaped.1) (λ f. sym (ap (λ (ts : List Tree). length ts) same) ∙ members.1 f)
