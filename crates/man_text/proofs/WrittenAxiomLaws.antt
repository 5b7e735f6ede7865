-- What is known of an axiom as it is written, where it can be said.
use Rattle.std.proofs.Common.{◌≡◌, ℕ, zero, suc, Bool, true, false, not, if◌then◌else◌, None, Some, List, [], ◌∷◌, refl, ap, ◌∙◌}
use Rattle.std.specs.Prelude.{◌&&◌, ◌||◌, IsTrue, nat_le, length}
use Rattle.std.specs.List.{AllByRecursion, slice_get}
use Rattle.man_resolve.specs.Expressions.{Knows}
use Rattle.man_sayable.specs.declared.inside.Look.TheVariants.{Properties, Facets}
use Rattle.man_sayable.specs.Sayable.{IsUnopposed, annotated_objection, are_many, facet_objection, frame_objection, has_kids, inner_objection, kids_objection, properties_objection}
use Rattle.man_sayable.specs.Subjects.{against, has_tag_at, is_tagged, subject_objection, subject_of}
use Rattle.sayable_parts.proofs.WalkLaws.{neither}
use Rattle.sayable_parts.specs.Reasons.{Objection, annotated_declaration, inverse_assertion, inverse_subject, many_properties, two_inverses, unnamed_subject}
use Rattle.std.proofs.lemmas.Bool.{and_from}
use Rattle.owl_tree.specs.declared.atom.Atom.{Atom}
use Rattle.owl_tree.specs.Canonical.{canonical}
use Rattle.owl_tree.specs.declared.tag.Tag.{Tag}
use Rattle.owl_tree.specs.declared.tag.Tag.TheVariants as tag
use Rattle.owl_tree.specs.declared.row.Rest.TheVariants.{Nothing, Optional, AtLeast, SomeThen, Set}
use Rattle.owl_tree.specs.Rows.{Row, Leaf, Node, row_of, takes}
use Rattle.owl_tree.specs.Shape.{IsShaped}
use Rattle.owl_tree.specs.Tags.{is_axiom, number_of}
use Rattle.owl_tree.specs.Trees.{Kids, Tree, kid, kids_in, kids_of, leaf, list_of, no_kids, node, tag_of}
use Rattle.owl_tree.proofs.TreeLaws.{list_of_kids_of}
use Rattle.written_trees.specs.Written.{doubled, doubled_behind, written_form, written_forms}
use Rattle.written_trees.proofs.WrittenLaws.{is_written}
use Rattle.man_text.proofs.ShapedAxiomLaws.{AxiomFacts, HasBlock}
use Rattle.man_text.proofs.ShapedBlockLaws.{has_block}
use Rattle.man_text.proofs.ShapedExpressionLaws.{AreSaid, IsSaid, all_facts}

-- ---- what stands inside can be said, as it is written

mutual
  pub clear_said : (t : Tree) → inner_objection Properties t ≡ None → inner_objection Facets t ≡ None → IsSaid t
  clear_said (leaf t a) e f = f
  clear_said (node t ks) e f =
      let own = neither (properties_objection (node t ks)) (kids_objection Properties ks) e in
      let rest = neither (facet_objection (node t ks)) (kids_objection Facets ks) f in
      (own.0, clear_kids ks own.1 rest.1)

  clear_kids : (ks : Kids) → kids_objection Properties ks ≡ None → kids_objection Facets ks ≡ None → AreSaid ks
  clear_kids no_kids e f = tt
  clear_kids (kid t ks) e f =
      let first = neither (inner_objection Properties t) (kids_objection Properties ks) e in
      let second = neither (inner_objection Facets t) (kids_objection Facets ks) f in
      (clear_said t first.0 second.0, clear_kids ks first.1 second.1)

abbrev EachSaid : List Tree → Type 0
EachSaid ts = AllByRecursion IsSaid ts

said_kids : (ts : List Tree) → EachSaid ts → AreSaid (kids_of ts)
said_kids [] h = tt
said_kids (t ∷ ts) h = (h.0, said_kids ts h.1)

-- what is so of each kid is so of those that are written
module _ (P : Tree → Type 0) where
  all_behind : (n : ℕ) (ts : List Tree) → AllByRecursion P ts → AllByRecursion P (doubled_behind n ts)
  all_behind zero [] h = tt
  all_behind zero (t ∷ []) h = (h.0, h)
  all_behind zero (t ∷ u ∷ ts) h = h
  all_behind (suc n) [] h = tt
  all_behind (suc n) (t ∷ ts) h = (h.0, all_behind n ts h.1)

  all_if : (b : Bool) (n : ℕ) (ts : List Tree) → AllByRecursion P ts → AllByRecursion P (if b then doubled_behind n ts else ts)
  all_if true n ts h = all_behind n ts h
  all_if false n ts h = h

  pub all_doubled : (row : Row) (ts : List Tree) → AllByRecursion P ts → AllByRecursion P (doubled row ts)
  all_doubled (Leaf sort) ts h = h
  all_doubled (Node front Nothing) ts h = h
  all_doubled (Node front (Optional sort)) ts h = h
  all_doubled (Node front (AtLeast sort least)) ts h = h
  all_doubled (Node front (SomeThen sort last)) ts h = h
  all_doubled (Node front (Set sort least)) ts h = all_if (nat_le 2 least) (length front) ts h

many_written : (ks : Kids) → are_many (written_forms ks) ≡ are_many (list_of ks)
many_written no_kids = refl
many_written (kid a no_kids) = refl
many_written (kid a (kid b no_kids)) = refl
many_written (kid a (kid b (kid d ks))) = refl

few_by : (ts us : List Tree) → are_many ts ≡ are_many us → against (are_many us) many_properties ≡ None → against (are_many ts) many_properties ≡ None
few_by ts us e h = ap (λ (b : Bool). against b many_properties) e ∙ h

few_written : (t : Tag) (ks : Kids) → properties_objection (node t ks) ≡ None → properties_objection (node t (kids_of (doubled (row_of t) (written_forms ks)))) ≡ None
unfolding row_of number_of
few_written tag.DataSomeValuesFrom ks h = few_by (list_of (kids_of (written_forms ks))) (list_of ks) (ap are_many (list_of_kids_of (written_forms ks)) ∙ many_written ks) h
few_written tag.DataAllValuesFrom ks h = few_by (list_of (kids_of (written_forms ks))) (list_of ks) (ap are_many (list_of_kids_of (written_forms ks)) ∙ many_written ks) h
few_written _ ks h = refl

mutual
  pub said_written : (t : Tree) → IsSaid t → IsSaid (written_form t)
  said_written (leaf t a) h = h
  said_written (node t ks) h = (few_written t ks h.0, said_kids (doubled (row_of t) (written_forms ks)) (all_doubled IsSaid (row_of t) (written_forms ks) (each_written ks h.1)))

  each_written : (ks : Kids) → AreSaid ks → EachSaid (written_forms ks)
  each_written no_kids h = tt
  each_written (kid t ks) h = (said_written t h.0, each_written ks h.1)

-- ---- the subject and the frame are those of the axiom

tagged_written : (x : Tag) (ks : Kids) (n : ℕ) → is_tagged x (slice_get (written_forms ks) n) ≡ is_tagged x (slice_get (list_of ks) n)
tagged_written x no_kids n = refl
tagged_written x (kid (leaf t a) ks) zero = refl
tagged_written x (kid (node t us) ks) zero = refl
tagged_written x (kid t ks) (suc n) = tagged_written x ks n

written_kids : (t : Tag) (ks : Kids) → kids_in (written_form (node t ks)) ≡ doubled (row_of t) (written_forms ks)
written_kids t ks = list_of_kids_of (doubled (row_of t) (written_forms ks))

-- a set of one behind one kid has its member there
tagged_behind : (x : Tag) (ts : List Tree) → is_tagged x (slice_get (doubled_behind 1 ts) 1) ≡ is_tagged x (slice_get ts 1)
tagged_behind x [] = refl
tagged_behind x (t ∷ []) = refl
tagged_behind x (t ∷ u ∷ []) = refl
tagged_behind x (t ∷ u ∷ v ∷ ts) = refl

-- what is to be said against the subject goes by the tags of two kids
abbrev by_tags : (Tag → ℕ → Bool) → List Tree → Type 0
by_tags has ts = (x : Tag) (n : ℕ) → has x n ≡ has_tag_at x n ts

named_kept : (ts us : List Tree) → has_tag_at tag.Class 1 ts ≡ has_tag_at tag.Class 1 us → against (not (has_tag_at tag.Class 1 us)) unnamed_subject ≡ None → against (not (has_tag_at tag.Class 1 ts)) unnamed_subject ≡ None
named_kept ts us e h = ap (λ (b : Bool). against (not b) unnamed_subject) e ∙ h

inverse_kept : (why : Objection) (ts us : List Tree) → has_tag_at tag.ObjectInverseOf 1 ts ≡ has_tag_at tag.ObjectInverseOf 1 us → against (has_tag_at tag.ObjectInverseOf 1 us) why ≡ None → against (has_tag_at tag.ObjectInverseOf 1 ts) why ≡ None
inverse_kept why ts us e h = ap (λ (b : Bool). against b why) e ∙ h

sub_kept : (ks : Kids) → against (has_tag_at tag.ObjectInverseOf 1 (list_of ks) || has_tag_at tag.ObjectPropertyChain 1 (list_of ks) && has_tag_at tag.ObjectInverseOf 2 (list_of ks)) inverse_subject ≡ None
    → against (has_tag_at tag.ObjectInverseOf 1 (written_forms ks) || has_tag_at tag.ObjectPropertyChain 1 (written_forms ks) && has_tag_at tag.ObjectInverseOf 2 (written_forms ks)) inverse_subject ≡ None
sub_kept ks h =
    ap (λ (b : Bool). against (b || has_tag_at tag.ObjectPropertyChain 1 (written_forms ks) && has_tag_at tag.ObjectInverseOf 2 (written_forms ks)) inverse_subject) (tagged_written tag.ObjectInverseOf ks 1)
    ∙ ap (λ (b : Bool). against (has_tag_at tag.ObjectInverseOf 1 (list_of ks) || b && has_tag_at tag.ObjectInverseOf 2 (written_forms ks)) inverse_subject) (tagged_written tag.ObjectPropertyChain ks 1)
    ∙ ap (λ (b : Bool). against (has_tag_at tag.ObjectInverseOf 1 (list_of ks) || has_tag_at tag.ObjectPropertyChain 1 (list_of ks) && b) inverse_subject) (tagged_written tag.ObjectInverseOf ks 2)
    ∙ h

subject_written : (t : Tag) (ks : Kids) → subject_objection (subject_of t) (list_of ks) ≡ None → subject_objection (subject_of t) (doubled (row_of t) (written_forms ks)) ≡ None
unfolding row_of subject_of
subject_written tag.SubClassOf ks h = named_kept (written_forms ks) (list_of ks) (tagged_written tag.Class ks 1) h
subject_written tag.HasKey ks h = named_kept (written_forms ks) (list_of ks) (tagged_written tag.Class ks 1) h
subject_written tag.SubObjectPropertyOf ks h = sub_kept ks h
subject_written tag.InverseObjectProperties ks h = ap (λ (b : Bool). against (not b) two_inverses) (tagged_behind tag.ObjectProperty (written_forms ks) ∙ tagged_written tag.ObjectProperty ks 1) ∙ h
subject_written tag.ObjectPropertyDomain ks h = inverse_kept inverse_subject (written_forms ks) (list_of ks) (tagged_written tag.ObjectInverseOf ks 1) h
subject_written tag.ObjectPropertyRange ks h = inverse_kept inverse_subject (written_forms ks) (list_of ks) (tagged_written tag.ObjectInverseOf ks 1) h
subject_written tag.FunctionalObjectProperty ks h = inverse_kept inverse_subject (written_forms ks) (list_of ks) (tagged_written tag.ObjectInverseOf ks 1) h
subject_written tag.InverseFunctionalObjectProperty ks h = inverse_kept inverse_subject (written_forms ks) (list_of ks) (tagged_written tag.ObjectInverseOf ks 1) h
subject_written tag.ReflexiveObjectProperty ks h = inverse_kept inverse_subject (written_forms ks) (list_of ks) (tagged_written tag.ObjectInverseOf ks 1) h
subject_written tag.IrreflexiveObjectProperty ks h = inverse_kept inverse_subject (written_forms ks) (list_of ks) (tagged_written tag.ObjectInverseOf ks 1) h
subject_written tag.SymmetricObjectProperty ks h = inverse_kept inverse_subject (written_forms ks) (list_of ks) (tagged_written tag.ObjectInverseOf ks 1) h
subject_written tag.AsymmetricObjectProperty ks h = inverse_kept inverse_subject (written_forms ks) (list_of ks) (tagged_written tag.ObjectInverseOf ks 1) h
subject_written tag.TransitiveObjectProperty ks h = inverse_kept inverse_subject (written_forms ks) (list_of ks) (tagged_written tag.ObjectInverseOf ks 1) h
subject_written tag.ObjectPropertyAssertion ks h = inverse_kept inverse_assertion (written_forms ks) (list_of ks) (tagged_written tag.ObjectInverseOf ks 1) h
subject_written tag.NegativeObjectPropertyAssertion ks h = inverse_kept inverse_assertion (written_forms ks) (list_of ks) (tagged_written tag.ObjectInverseOf ks 1) h
subject_written _ ks h = refl

-- annotations have kids where they are written so
kids_behind : (n : ℕ) (t : Tag) (ks : Kids) → has_kids (Some (node t (kids_of (doubled_behind n (written_forms ks))))) ≡ has_kids (Some (node t ks))
kids_behind zero t no_kids = refl
kids_behind zero t (kid a no_kids) = refl
kids_behind zero t (kid a (kid b ks)) = refl
kids_behind (suc n) t no_kids = refl
kids_behind (suc n) t (kid a ks) = refl

kids_kept : (t : Tag) (ks : Kids) → has_kids (Some (node t (kids_of (written_forms ks)))) ≡ has_kids (Some (node t ks))
kids_kept t no_kids = refl
kids_kept t (kid a ks) = refl

kids_if : (b : Bool) (n : ℕ) (t : Tag) (ks : Kids) → has_kids (Some (node t (kids_of (if b then doubled_behind n (written_forms ks) else written_forms ks)))) ≡ has_kids (Some (node t ks))
kids_if true n t ks = kids_behind n t ks
kids_if false n t ks = kids_kept t ks

kids_by_row : (row : Row) (t : Tag) (ks : Kids) → has_kids (Some (node t (kids_of (doubled row (written_forms ks))))) ≡ has_kids (Some (node t ks))
kids_by_row (Leaf sort) t ks = kids_kept t ks
kids_by_row (Node front Nothing) t ks = kids_kept t ks
kids_by_row (Node front (Optional sort)) t ks = kids_kept t ks
kids_by_row (Node front (AtLeast sort least)) t ks = kids_kept t ks
kids_by_row (Node front (SomeThen sort last)) t ks = kids_kept t ks
kids_by_row (Node front (Set sort least)) t ks = kids_if (nat_le 2 least) (length front) t ks

has_written : (ks : Kids) (n : ℕ) → has_kids (slice_get (written_forms ks) n) ≡ has_kids (slice_get (list_of ks) n)
has_written no_kids n = refl
has_written (kid (leaf t a) ks) zero = refl
has_written (kid (node t us) ks) zero = kids_by_row (row_of t) t us
has_written (kid t ks) (suc n) = has_written ks n

about_written : (looks : Knows) (ks : Kids) (n : ℕ) → annotated_objection looks (slice_get (written_forms ks) n) ≡ annotated_objection looks (slice_get (list_of ks) n)
about_written looks no_kids n = refl
about_written looks (kid (leaf t a) ks) zero = refl
about_written looks (kid (node t us) ks) zero = refl
about_written looks (kid t ks) (suc n) = about_written looks ks n

frame_written : (looks : Knows) (t : Tag) (ks : Kids) → frame_objection looks t (list_of ks) ≡ None → frame_objection looks t (doubled (row_of t) (written_forms ks)) ≡ None
unfolding row_of frame_objection
frame_written looks tag.Declaration ks h = ap (λ (b : Bool). against b annotated_declaration) (has_written ks 0) ∙ h
frame_written looks tag.AnnotationAssertion ks h = about_written looks ks 2 ∙ h
frame_written looks _ ks h = refl

-- ---- axioms

-- what is known of it as it is written
written_facts : (looks : Knows) (t : Tag) (ks : Kids) → IsShaped (node t ks) → canonical (node t ks) ≡ node t ks → IsUnopposed looks (node t ks) → AxiomFacts looks t (kids_in (written_form (node t ks)))
written_facts looks t ks shaped canonical said =
    let written = is_written (node t ks) shaped canonical in
    let inside = said_written (node t ks) (clear_said (node t ks) said.inside.properties said.inside.facets) in
    let K = kids_of (doubled (row_of t) (written_forms ks)) in
    let same = written_kids t ks in
    record {
      row = written.shaped.0.row;
      many = written.members.0;
      inverses = written.members.1;
      keys = written.shaped.0.keys;
      kids = all_facts K written.shaped.1 written.members.2 inside.1;
      subject = ap (subject_objection (subject_of t)) same ∙ subject_written t ks said.subject;
      frame = ap (frame_objection looks t) same ∙ frame_written looks t ks said.frame;
    }

pub no_axiom_leaf : (t : Tag) (a : Atom) → (is_axiom t && takes (row_of t) a) ≡ true → ⊥
unfolding number_of row_of
no_axiom_leaf tag.Class a e = absurd (cc)
no_axiom_leaf _ a e = absurd (cc)

-- an axiom that can be said has a block, as it is written
pub written_block : (looks : Knows) (t : Tree) → IsTrue (is_axiom (tag_of t)) → IsShaped t → canonical t ≡ t → IsUnopposed looks t → HasBlock looks (tag_of t) (kids_in (written_form t))
written_block looks (leaf t a) is shaped canonical said = absurd (no_axiom_leaf t a (and_from (is_axiom t) (takes (row_of t) a) is shaped.0))
written_block looks (node t ks) is shaped canonical said = has_block looks t (kids_in (written_form (node t ks))) is (written_facts looks t ks shaped canonical said)
