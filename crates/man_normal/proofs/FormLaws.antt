-- The normal form of an ontology is an ontology, can be written where that can be said, and is typed where that is.
use Rattle.std.proofs.Common.{◌≡◌, ℕ, Bool, true, false, Option, None, Some, IfSome, List, [], ◌∷◌, ◌++◌, map, refl, sym, ap, ◌∙◌, subst, inl, inr}
use Rattle.std.specs.Prelude.{◌&&◌, Contains}
use Rattle.std.specs.List.{AllByRecursion, flat_map, slice_get}
use Rattle.std.specs.Option.{option_or}
use Rattle.std.proofs.lemmas.Bool.{and_from}
use Rattle.std.proofs.lemmas.List.{append-nil}
use Rattle.std.proofs.lemmas.List.Elements.{Contains-append_cases, Contains-append_left, Contains-append_right}
use Rattle.std.proofs.lemmas.Option.{get_or_from_slice_get, slice_get_within}
use Rattle.man_resolve.proofs.KnowingLaws.{knows_told}
use Rattle.man_resolve.specs.Expressions.{Knows, knows}
use Rattle.man_sayable.specs.declared.inside.Look.TheVariants.{Facets, Properties}
use Rattle.man_sayable.specs.FrameKinds.{frame_kind}
use Rattle.man_sayable.specs.Sayable.{CanSay, CanSayAll, IsUnopposed, frame_objection, inner_objection}
use Rattle.man_sayable.specs.Subjects.{subject_of}
use Rattle.man_sayable.proofs.FrameKindLaws.{frame_known}
use Rattle.man_sayable.proofs.SayableLaws.{axiom_said, same_ontology_said}
use Rattle.man_text.specs.Blocks.{declared_name, headed, kind_tag, normal_form, note_subject, subject_as}
use Rattle.man_text.specs.Readable.{CanBeWritten, IsTypedUnder}
use Rattle.man_text.proofs.CanonicalLaws.{each_canonical}
use Rattle.man_text.proofs.DeclaredLaws.{IsDeclarationOf, declaring, name_declares}
use Rattle.man_text.proofs.ShapedBlockLaws.{shaped_list}
use Rattle.man_text.proofs.TypedLaws.{all_behind, all_front}
use Rattle.owl_doc.specs.Entities.{AreWellTyped, entities, entities_of, kind_of}
use Rattle.owl_doc.specs.Parts.{of_axiom}
use Rattle.owl_kind.specs.declared.kind.Kind.{Kind}
use Rattle.owl_kind.specs.declared.kind.Kind.TheVariants as kind
use Rattle.owl_kind.specs.Kinds.{Entity, HasKind}
use Rattle.owl_kind.proofs.Found.{from_joined, joined_from}
use Rattle.owl_list.specs.Ascending.{HoldSame, ascending}
use Rattle.owl_list.proofs.AscendingLaws.{all_before_map, all_from, all_in, all_map, ascending_holds, in_cases, in_none}
use Rattle.owl_tree.specs.Atoms.{IsAtom}
use Rattle.owl_tree.specs.Canonical.{canonical}
use Rattle.owl_tree.specs.declared.atom.Atom.{Atom}
use Rattle.owl_tree.specs.declared.atom.Atom.TheVariants as atom
use Rattle.owl_tree.specs.declared.row.Sort.TheVariants as sort
use Rattle.owl_tree.specs.declared.tag.Tag.{Tag}
use Rattle.owl_tree.specs.declared.tag.Tag.TheVariants as tag
use Rattle.owl_tree.specs.Ontologies.{HoldEquivalent, IsAxiom, IsOntology, Ontology, canonical_list, canonical_ontology}
use Rattle.owl_tree.specs.Order.{tree_cmp}
use Rattle.owl_tree.specs.OrderLaws.{only_equal_trees_tie, trees_total}
use Rattle.owl_tree.specs.Rows.{admits, fits, is_tag, row_of}
use Rattle.owl_tree.specs.Shape.{FitsRow, IsShaped}
use Rattle.owl_tree.specs.Tags.{is_axiom, number_of}
use Rattle.owl_tree.specs.Trees.{Kids, Tree, kid, kids_in, kids_of, leaf, list_of, no_kids, node, tag_of}
use Rattle.owl_tree.proofs.EquivalenceLaws.{equivalent_refl}
use Rattle.owl_tree.proofs.OntologyLaws.{canonical_is_ontology, canonical_ontology_again, canonical_same_ontology, equivalent_lists}
use Rattle.sayable_parts.specs.Reasons.{Objection}
use Rattle.man_normal.specs.Subjects.{kid_at, subject_in}
use Rattle.man_normal.proofs.DeclaringLaws.{declared_leaf, declaring_form, name_shaped, no_label}
use Rattle.man_normal.proofs.HeadLaws.{declared_in, head_by, headed_by_subject}

-- ---- where names stand

-- the name is among these kids of an axiom, or annotations that are are of it
pub data IsNamedIn (ks : Knows) (ts : List Tree) : Tree → Type 0 where
  a_kid : (s : Tree) → Contains ts s → IsNamedIn ks ts s
  annotated : (about : Tree) → Contains ts about → IsNamedIn ks ts (note_subject ks about)

-- what it declares heads the block of the axiom with these kids
pub record IsHeadIn (ks : Knows) (ts : List Tree) (u : Tree) : Type 0 where
  pub name : Tree
  pub named : IsNamedIn ks ts name
  pub declares : IsDeclarationOf name u

got_there : (ts : List Tree) (i : ℕ) (o : Option Tree) → slice_get ts i ≡ o → IfSome o (Contains ts)
got_there ts i None e = tt
got_there ts i (Some t) e = (i, slice_get_within ts i t e, get_or_from_slice_get ts i t t e)

kid_there : (ts : List Tree) (place : Option ℕ) → IfSome (kid_at ts place) (Contains ts)
kid_there ts None = tt
kid_there ts (Some i) = got_there ts i (slice_get ts i) refl

just_one : (s u : Tree) → Contains (declared_in (Some s)) u → Contains (declared_name s) u
just_one s u m = subst (λ (us : List Tree). Contains us u) (append-nil (declared_name s)) m

by_subject : (ks : Knows) (ts : List Tree) (annotates : Bool) (subject : Option Tree) (u : Tree) → IfSome subject (Contains ts) → Contains (declared_in (head_by ks annotates subject)) u → IsHeadIn ks ts u
by_subject ks ts true None u h m = absurd (in_none u m)
by_subject ks ts false None u h m = absurd (in_none u m)
by_subject ks ts true (Some s) u h m = record {
  name = note_subject ks s;
  named = annotated s h;
  declares = name_declares (note_subject ks s) u (just_one (note_subject ks s) u m);
}
by_subject ks ts false (Some s) u h m = record { name = s; named = a_kid s h; declares = name_declares s u (just_one s u m) }

pub head_declares : (ks : Knows) (t u : Tree) → IsAxiom t → canonical t ≡ t → Contains (headed ks t) u → IsHeadIn ks (kids_in t) u
head_declares ks t u h e m =
    by_subject ks (kids_in t) (is_tag tag.AnnotationAssertion (tag_of t)) (subject_in (tag_of t) (kids_in t)) u
    (kid_there (kids_in t) _)
    (subst (λ (us : List Tree). Contains us u) (headed_by_subject ks t h e) m)

-- ---- declarations are shaped

kids_shaped : (t : Tree) → IsShaped t → AllByRecursion IsShaped (kids_in t)
kids_shaped (leaf t a) h = tt
kids_shaped (node t ks) h = shaped_list ks h.1

plain_shaped : (iri : List ℕ) → IsAtom (atom.Iri iri) → IsShaped (leaf tag.PlainIri (atom.Iri iri))
unfolding row_of
plain_shaped iri h = (refl, h)

subject_shaped : (found : Option Kind) (iri : List ℕ) → IsAtom (atom.Iri iri) → IsShaped (subject_as found iri)
subject_shaped None iri h = plain_shaped iri h
subject_shaped (Some k) iri h = name_shaped (kind_tag k) k iri refl h

note_shaped : (ks : Knows) (t : Tree) → IsShaped t → IsShaped (note_subject ks t)
note_shaped ks (leaf t (atom.Iri iri)) h = subject_shaped (frame_kind ks iri) iri h.1
note_shaped ks t h = h

name_stands : (ks : Knows) (ts : List Tree) (s : Tree) → AllByRecursion IsShaped ts → IsNamedIn ks ts s → IsShaped s
name_stands ks ts s h (a_kid _ m) = all_in IsShaped ts s h m
name_stands ks ts _ h (annotated about m) = note_shaped ks about (all_in IsShaped ts about h m)

notes_fit : FitsRow tag.Notes []
unfolding row_of number_of
notes_fit = record { row = refl; inverses = λ e. absurd (cc); keys = λ e. absurd (cc) }

notes_admitted : admits sort.Notes tag.Notes ≡ true
unfolding admits number_of
notes_admitted = refl

declaration_row : (t : Tag) → admits sort.Entity t ≡ true → fits (row_of tag.Declaration) (tag.Notes ∷ t ∷ []) ≡ true
unfolding row_of
declaration_row t e = and_from (admits sort.Notes tag.Notes) (admits sort.Entity t && true) notes_admitted (and_from (admits sort.Entity t) true e refl)

declaration_shaped : (t : Tag) (a : Atom) → admits sort.Entity t ≡ true → IsShaped (leaf t a) → IsShaped (declaring (leaf t a))
declaration_shaped t a e h = (
  record { row = declaration_row t e; inverses = λ f. absurd (cc); keys = λ f. absurd (cc) },
  ((notes_fit, tt), (h, tt)),
)

declaration_tag : is_axiom tag.Declaration ≡ true
unfolding number_of
declaration_tag = refl

declaration_is_axiom : (s u : Tree) → IsDeclarationOf s u → IsShaped s → IsAxiom u
declaration_is_axiom s u d h =
    subst IsAxiom (sym d.is)
    (record { tag = declaration_tag; shaped = declaration_shaped d.own_tag d.atom d.entity (subst IsShaped d.name_is h) })

-- ---- declarations stay

declaration_stays : (s u : Tree) → IsDeclarationOf s u → canonical u ≡ u
declaration_stays s u d = subst (λ (v : Tree). canonical v ≡ v) (sym d.is) (declaring_form (leaf d.own_tag d.atom))

heads_itself : (ks : Knows) (t : Tag) (a : Atom) → headed ks (declaring (leaf t a)) ≡ declared_name (leaf t a) ++ []
unfolding row_of
heads_itself ks t a = refl

-- a declaration's block is headed by the name that it declares
declaration_headed : (ks : Knows) (s u : Tree) → IsDeclarationOf s u → headed ks u ≡ u ∷ []
declaration_headed ks s u d =
    let name = leaf d.own_tag d.atom in
    subst (λ (v : Tree). headed ks v ≡ v ∷ []) (sym d.is)
    (heads_itself ks d.own_tag d.atom ∙ append-nil (declared_name name) ∙ declared_leaf d.own_tag d.atom true false d.entity (no_label d.own_tag d.entity))

-- ---- declarations can be said

no_quantifier : (t : Tag) (a : Atom) → inner_objection Properties (leaf t a) ≡ None
unfolding number_of
no_quantifier tag.DataSomeValuesFrom a = refl
no_quantifier _ a = refl

no_facet : (t : Tag) (a : Atom) → admits sort.Entity t ≡ true → inner_objection Facets (leaf t a) ≡ None
unfolding admits number_of
no_facet tag.Facet a e = absurd (cc)
no_facet _ a e = refl

clear_declaration : (t : Tag) (a : Atom) → inner_objection Properties (leaf t a) ≡ None → inner_objection Facets (leaf t a) ≡ None → (known : Knows) → IsUnopposed known (declaring (leaf t a))
unfolding number_of subject_of frame_objection
clear_declaration t a e f known = record {
  subject = refl;
  inside = record { properties = ap (λ (o : Option Objection). option_or o None) e; facets = ap (λ (o : Option Objection). option_or o None) f };
  frame = refl;
}

declaration_unopposed : (known : Knows) (s u : Tree) → IsDeclarationOf s u → IsUnopposed known u
declaration_unopposed known s u d =
    subst (IsUnopposed known) (sym d.is)
    (clear_declaration d.own_tag d.atom (no_quantifier d.own_tag d.atom) (no_facet d.own_tag d.atom d.entity) known)

-- ---- lists of canonical forms

forms_stay : (ts : List Tree) → AllByRecursion (λ t. canonical t ≡ t) ts → map canonical ts ≡ ts
forms_stay [] h = refl
forms_stay (t ∷ ts) h = let first = h.0 in let rest = forms_stay ts h.1 in cc

forms_held : (ts : List Tree) → AllByRecursion (λ t. canonical t ≡ t) ts → HoldSame (canonical_list ts) ts
forms_held ts h =
    subst (λ (us : List Tree). HoldSame (ascending tree_cmp us) ts) (sym (forms_stay ts h))
    (ascending_holds tree_cmp trees_total only_equal_trees_tie ts)

-- ---- the normal form

module _ (looks : Knows) (o : Ontology) (is : IsOntology o) (same : canonical_ontology o ≡ o) where
  abbrev heads : List Tree
  heads = flat_map (headed looks) o.axioms

  abbrev all : List Tree
  all = o.axioms ++ heads

  abbrev form : Ontology
  form = canonical_ontology (normal_form looks o)

  axioms_again : canonical_list o.axioms ≡ o.axioms
  axioms_again = ap (λ (p : Ontology). p.axioms) same

  canonical_axioms : AllByRecursion (λ t. canonical t ≡ t) o.axioms
  canonical_axioms = each_canonical o.axioms axioms_again

  -- an axiom, and what heads its block
  record IsHeadOfOne (u : Tree) : Type 0 where
    pub source : Tree
    pub inside : Contains o.axioms source
    pub head : IsHeadIn looks (kids_in source) u

  is_head : (u : Tree) → Contains heads u → IsHeadOfOne u
  is_head u m =
      let one = from_joined (headed looks) o.axioms u m in
      record {
        source = one.0;
        inside = one.1;
        head = head_declares looks one.0 u (all_in IsAxiom o.axioms one.0 is.axioms one.1) (all_in (λ t. canonical t ≡ t) o.axioms one.0 canonical_axioms one.1) one.2;
      }

  head_is_axiom : (u : Tree) → IsHeadOfOne u → IsAxiom u
  head_is_axiom u h =
      let whole = all_in IsAxiom o.axioms h.source is.axioms h.inside in
      declaration_is_axiom h.head.name u h.head.declares (name_stands looks (kids_in h.source) h.head.name (kids_shaped h.source whole.shaped) h.head.named)

  -- what is true of the axioms and of the heads is true of all
  all_are : (P : Tree → Type 0) → AllByRecursion P o.axioms → ((u : Tree) → IsHeadOfOne u → P u) → AllByRecursion P all
  all_are P own added = all_from P all (λ u m. elim (Contains-append_cases o.axioms heads u m) [
    | inl n ↦ all_in P o.axioms u own n
    | inr n ↦ added u (is_head u n)
  ])

  canonical_all : AllByRecursion (λ t. canonical t ≡ t) all
  canonical_all = all_are (λ t. canonical t ≡ t) canonical_axioms (λ u h. declaration_stays h.head.name u h.head.declares)

  normal_is_ontology : IsOntology (normal_form looks o)
  normal_is_ontology = record {
    head = is.head;
    annotations = is.annotations;
    axioms = all_are IsAxiom is.axioms head_is_axiom;
  }

  pub form_stands : IsOntology form
  form_stands = (canonical_is_ontology (normal_form looks o)).0 normal_is_ontology

  form_holds : HoldSame (canonical_list all) all
  form_holds = forms_held all canonical_all

  -- what is true of all is true of all of the form
  form_are : (P : Tree → Type 0) → AllByRecursion P all → AllByRecursion P (canonical_list all)
  form_are P h = all_from P (canonical_list all) (λ u m. all_in P all u h ((form_holds u).0 m))

  -- ---- it is its own normal form

  head_again : (t u : Tree) → Contains all t → Contains (headed looks t) u → Contains all u
  head_again t u m n = elim (Contains-append_cases o.axioms heads t m) [
    | inl k ↦ Contains-append_right o.axioms heads u (joined_from (headed looks) o.axioms u t k n)
    | inr k ↦
        let head = (is_head t k).head in
        elim (in_cases t [] u (subst (λ (us : List Tree). Contains us u) (declaration_headed looks head.name t head.declares) n)) [
          | inl e ↦ subst (Contains all) e m
          | inr x ↦ absurd (in_none u x)
        ]
  ]

  abbrev again : List Tree
  again = canonical_list all ++ flat_map (headed looks) (canonical_list all)

  from_again : (u : Tree) → Contains again u → Contains all u
  from_again u m = elim (Contains-append_cases (canonical_list all) (flat_map (headed looks) (canonical_list all)) u m) [
    | inl n ↦ (form_holds u).0 n
    | inr n ↦
        let one = from_joined (headed looks) (canonical_list all) u n in
        head_again one.0 u ((form_holds one.0).0 one.1) one.2
  ]

  hold_again : HoldEquivalent again all
  hold_again = record {
    there = λ t m. (t, from_again t m, equivalent_refl t);
    back = λ t m. (t, Contains-append_left (canonical_list all) _ t ((form_holds t).1 m), equivalent_refl t);
  }

  pub form_again : canonical_ontology (normal_form looks form) ≡ form
  form_again =
      let axioms = (equivalent_lists again all).0 hold_again in
      let kept = canonical_ontology_again (normal_form looks o) in
      λ i. record { head = (kept i).head; annotations = (kept i).annotations; axioms = axioms i }

pub form_is_ontology : (kinds : List Entity) (o : Ontology) → IsOntology o → canonical_ontology o ≡ o → IsOntology (canonical_ontology (normal_form (knows kinds) o))
form_is_ontology kinds o is same = form_stands (knows kinds) o is same

-- ---- it can be written

module _ (kinds : List Entity) (o : Ontology) (is : IsOntology o) (same : canonical_ontology o ≡ o) (said : CanSayAll kinds o) where
  own_said : AllByRecursion (λ t. CanSay kinds (of_axiom t)) o.axioms
  own_said =
      subst (λ (ts : List Tree). AllByRecursion (λ t. CanSay kinds (of_axiom t)) ts) (axioms_again (knows kinds) o is same)
      (all_before_map of_axiom (CanSay kinds) (canonical_list o.axioms) said.1)

  all_said : AllByRecursion (λ t. CanSay kinds (of_axiom t)) (all (knows kinds) o is same)
  all_said = all_are (knows kinds) o is same (λ t. CanSay kinds (of_axiom t)) own_said (λ u h. (axiom_said kinds u).1 (declaration_unopposed (knows kinds) h.head.name u h.head.declares))

  normal_said : CanSayAll kinds (normal_form (knows kinds) o)
  normal_said = (
    refl,
    all_map of_axiom (CanSay kinds) _ (form_are (knows kinds) o is same (λ t. CanSay kinds (of_axiom t)) all_said),
  )

  form_said : CanSayAll kinds (canonical_ontology (normal_form (knows kinds) o))
  form_said =
      let p = normal_form (knows kinds) o in
      (same_ontology_said kinds p (canonical_ontology p) (canonical_same_ontology p)).0 normal_said

pub form_can_be_written : (kinds : List Entity) (o : Ontology) → IsOntology o → canonical_ontology o ≡ o → CanSayAll kinds o → CanBeWritten kinds (canonical_ontology (normal_form (knows kinds) o))
form_can_be_written kinds o is same said = record {
  sayable = form_said kinds o is same said;
  normal = form_again (knows kinds) o is same;
}

-- ---- it is typed

module _ (kinds : List Entity) where
  abbrev IsTyped : Tree → Type 0
  IsTyped t = AreWellTyped kinds (entities t)

  abbrev HasItsKind : Entity → Type 0
  HasItsKind e = HasKind kinds e.kind e.iri

  each_typed : (ks : Kids) → AreWellTyped kinds (entities_of ks) → AllByRecursion IsTyped (list_of ks)
  each_typed no_kids h = tt
  each_typed (kid t ks) h = (all_front HasItsKind (entities t) (entities_of ks) h, each_typed ks (all_behind HasItsKind (entities t) (entities_of ks) h))

  kids_typed : (t : Tree) → IsTyped t → AllByRecursion IsTyped (kids_in t)
  kids_typed (leaf t a) h = tt
  kids_typed (node t ks) h = each_typed ks h

  kind_typed : (k : Kind) (iri : List ℕ) → HasKind kinds k iri → IsTyped (leaf (kind_tag k) (atom.Iri iri))
  unfolding kind_tag kind_of
  kind_typed kind.Class iri h = (h, tt)
  kind_typed kind.Datatype iri h = (h, tt)
  kind_typed kind.ObjectProperty iri h = (h, tt)
  kind_typed kind.DataProperty iri h = (h, tt)
  kind_typed kind.AnnotationProperty iri h = (h, tt)
  kind_typed kind.Individual iri h = tt

  plain_typed : (iri : List ℕ) → IsTyped (leaf tag.PlainIri (atom.Iri iri))
  unfolding kind_of
  plain_typed iri = tt

  subject_typed : (found : Option Kind) (iri : List ℕ) → frame_kind (knows kinds) iri ≡ found → IsTyped (subject_as found iri)
  subject_typed None iri e = plain_typed iri
  subject_typed (Some k) iri e = kind_typed k iri (knows_told kinds k iri (frame_known (knows kinds) iri k e))

  note_typed : (t : Tree) → IsTyped t → IsTyped (note_subject (knows kinds) t)
  note_typed (leaf t (atom.Iri iri)) h = subject_typed (frame_kind (knows kinds) iri) iri refl
  note_typed t h = h

  name_typed : (ts : List Tree) (s : Tree) → AllByRecursion IsTyped ts → IsNamedIn (knows kinds) ts s → IsTyped s
  name_typed ts s h (a_kid _ m) = all_in IsTyped ts s h m
  name_typed ts _ h (annotated about m) = note_typed about (all_in IsTyped ts about h m)

  declaration_typed : (s u : Tree) → IsDeclarationOf s u → IsTyped s → IsTyped u
  declaration_typed s u d h =
      let name = leaf d.own_tag d.atom in
      subst IsTyped (sym d.is)
      (subst (AreWellTyped kinds) (sym (append-nil (entities name))) (subst IsTyped d.name_is h))

  module _ (o : Ontology) (is : IsOntology o) (same : canonical_ontology o ≡ o) (typed : IsTypedUnder kinds o) where
    all_typed : AllByRecursion IsTyped (all (knows kinds) o is same)
    all_typed = all_are (knows kinds) o is same IsTyped typed.axioms (λ u h.
        declaration_typed h.head.name u h.head.declares
        (name_typed (kids_in h.source) h.head.name (kids_typed h.source (all_in IsTyped o.axioms h.source typed.axioms h.inside)) h.head.named))

    axioms_typed : AllByRecursion IsTyped (canonical_ontology (normal_form (knows kinds) o)).axioms
    axioms_typed = form_are (knows kinds) o is same IsTyped all_typed

    annotations_typed : AreWellTyped kinds (entities_of (kids_of (canonical_list o.annotations)))
    annotations_typed = subst (λ (p : Ontology). AreWellTyped kinds (entities_of (kids_of p.annotations))) (sym same) typed.annotations

pub form_is_typed : (kinds : List Entity) (o : Ontology) → IsOntology o → canonical_ontology o ≡ o → IsTypedUnder kinds o → IsTypedUnder kinds (canonical_ontology (normal_form (knows kinds) o))
form_is_typed kinds o is same typed = record {
  no_clash = typed.no_clash;
  annotations = annotations_typed kinds o is same typed;
  axioms = axioms_typed kinds o is same typed;
}
