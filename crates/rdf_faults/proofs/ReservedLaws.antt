-- A triple that is an axiom takes no reserved IRI for what it isn't.
use Rattle.std.specs.Prelude.{◌≡◌, ℕ, Bool, true, false, ◌&&◌, ◌||◌, List, [], ◌∷◌, Option, None, Some}
use Rattle.std.specs.List.{list_all, list_any}
use Rattle.std.proofs.Common.{refl, sym, ap, ◌∙◌, subst}
use Rattle.std.proofs.lemmas.Bool.{and_parts, both_ways}
use Rattle.owl_list.proofs.AscendingLaws.{all_in}
use Rattle.owl_kind.specs.declared.kind.Kind.{Kind}
use Rattle.owl_kind.specs.declared.kind.Kind.TheVariants as kind
use Rattle.owl_kind.specs.Kinds.{Entity}
use Rattle.owl_tree.specs.declared.tag.Tag.{Tag}
use Rattle.owl_tree.specs.declared.row.Sort.{Sort}
use Rattle.owl_tree.specs.declared.row.Sort.TheVariants as sort
use Rattle.owl_tree.specs.Trees.{Tree}
use Rattle.rdf_graph.specs.declared.term.Term.{Term}
use Rattle.rdf_graph.specs.declared.term.Term.TheVariants.{Iri}
use Rattle.rdf_graph.specs.declared.triple.Triple.{Triple}
use Rattle.rdf_meaning.proofs.ListLaws.{passes, same_only, some_passes}
use Rattle.rdf_meaning.specs.declared.row.Place.{Place}
use Rattle.rdf_meaning.specs.declared.row.Place.TheVariants.{Subject, Predicate, Object}
use Rattle.rdf_meaning.specs.declared.row.Part.{Part}
use Rattle.rdf_meaning.specs.declared.row.Site.{Site}
use Rattle.rdf_meaning.specs.declared.row.Site.TheVariants.{Node, TypedBy, OtherType, LinkedBy, OtherLink}
use Rattle.rdf_meaning.specs.declared.row.Want.{Want}
use Rattle.rdf_meaning.specs.declared.row.Want.TheVariants.{One, Declared}
use Rattle.rdf_meaning.specs.Kinds.{has_kind, is_kind, may_be_declared}
use Rattle.rdf_meaning.proofs.KindLaws.{same_kind}
use Rattle.rdf_meaning.specs.Rows.{Row, axiom_rows}
use Rattle.rdf_meaning.specs.RowTests.{has_row_at, is_place}
use Rattle.rdf_meaning.proofs.RowLaws.{at_expression, same_place}
use Rattle.rdf_meaning.specs.Denotation.{of_triple, Denotes, by_declaration, declared_entity, declared_kind, kind_of_entity, select, simple, site_of}
use Rattle.rdf_meaning.proofs.DenotationLaws.{one_is, itself, with_row, so}
use Rattle.rdf_meaning.specs.Statements.{HasAxiom}
use Rattle.rdf_faults.specs.Faults.{TakesReserved, as_property, as_class, as_declared, is_property, kind_declared}
use Rattle.rdf_faults.specs.Meant.{HasPart}
use Rattle.rdf_faults.proofs.MeantLaws.{each_part}

-- what the rows want where a property, a class or an entity is named

abbrev is_property_wanted : Want → Bool
is_property_wanted (One sort.ObjectProperty) = true
is_property_wanted (One sort.DataPropertyExpression) = true
is_property_wanted (One sort.AnnotationProperty) = true
is_property_wanted _ = false

abbrev is_class_wanted : Want → Bool
is_class_wanted (One sort.ClassExpression) = true
is_class_wanted _ = false

abbrev is_just : Kind → Option Kind → Bool
is_just a None = false
is_just a (Some b) = is_kind a b

abbrev is_declaration_wanted : Kind → Want → Bool
is_declaration_wanted a (Declared t) = is_just a (kind_of_entity t)
is_declaration_wanted a _ = false

abbrev wants_at : Place → (Want → Bool) → Part → Bool
wants_at place test p = is_place p.place place && test p.want

abbrev declares_at : Option Kind → List Part → Bool
declares_at None ps = true
declares_at (Some a) ps = list_any (wants_at Subject (is_declaration_wanted a)) ps

abbrev names_well_at : Site → List Part → Bool
names_well_at (Node r) ps = true
names_well_at (TypedBy w) ps = declares_at (kind_declared w) ps
names_well_at OtherType ps = list_any (wants_at Object is_class_wanted) ps
names_well_at (LinkedBy w) ps = true
names_well_at OtherLink ps = list_any (wants_at Predicate is_property_wanted) ps

abbrev names_well : Row → Bool
names_well row = names_well_at row.site row.parts

all_name_well : list_all names_well axiom_rows ≡ true
unfolding axiom_rows
all_name_well = refl

first_of_three : (a b c : Bool) → a ≡ true → a || b || c ≡ true
first_of_three true b c h = refl
first_of_three false b c h = cc

second_of_three : (a b c : Bool) → b ≡ true → a || b || c ≡ true
second_of_three true b c h = refl
second_of_three false true c h = refl
second_of_three false false c h = cc

third_of_three : (a b c : Bool) → c ≡ true → a || b || c ≡ true
third_of_three true b c h = refl
third_of_three false true c h = refl
third_of_three false false c h = h

module _ (g : List Triple) (k : List Entity) where
  -- an IRI denotes what it denotes by itself
  iri_itself : (s : Sort) (iri : List ℕ) (ts : List Tree) → Denotes g k (Iri iri) (One s) ts → (u : Tree) × (simple g k s (Iri iri) ≡ Some u)
  iri_itself s iri ts d =
      elim (one_is g k s (Iri iri) ts d) [
        | itself u e _ ↦ (u, e)
        | with_row row us m a f held _ ↦
            absurd (both_ways _ refl (subst (λ (site : Site). has_row_at site ≡ true) f.0 (at_expression row m)))
      ]

  property_so : (w : Want) (iri : List ℕ) (ts : List Tree) → is_property_wanted w ≡ true → Denotes g k (Iri iri) w ts → is_property k iri ≡ true
  unfolding simple
  property_so (One sort.ObjectProperty) iri ts p d =
      let is = iri_itself sort.ObjectProperty iri ts d in
      first_of_three _ (has_kind k kind.DataProperty iri) (has_kind k kind.AnnotationProperty iri) (so _ _ is.0 is.1)
  property_so (One sort.DataPropertyExpression) iri ts p d =
      let is = iri_itself sort.DataPropertyExpression iri ts d in
      second_of_three (has_kind k kind.ObjectProperty iri) _ (has_kind k kind.AnnotationProperty iri) (so _ _ is.0 is.1)
  property_so (One sort.AnnotationProperty) iri ts p d =
      let is = iri_itself sort.AnnotationProperty iri ts d in
      third_of_three (has_kind k kind.ObjectProperty iri) (has_kind k kind.DataProperty iri) _ (so _ _ is.0 is.1)
  property_so _ iri ts p d = cc

  class_so : (w : Want) (iri : List ℕ) (ts : List Tree) → is_class_wanted w ≡ true → Denotes g k (Iri iri) w ts → has_kind k kind.Class iri ≡ true
  unfolding simple
  class_so (One sort.ClassExpression) iri ts p d =
      let is = iri_itself sort.ClassExpression iri ts d in so _ _ is.0 is.1
  class_so _ iri ts p d = cc

  declared_is : (t : Tag) (x : Term) (ts : List Tree) → Denotes g k x (Declared t) ts → (u : Tree) × (declared_entity k t x ≡ Some u)
  declared_is _ _ _ (by_declaration t x u e) = (u, e)

  may_be : (a : Kind) (t : Tag) (iri : List ℕ) (u : Tree) → declared_kind k t iri (Some a) ≡ Some u → may_be_declared a iri ≡ true
  may_be kind.Individual t iri u e = so _ _ u e
  may_be kind.Class t iri u e = (and_parts (has_kind k kind.Class iri) (may_be_declared kind.Class iri) (so _ _ u e)).1
  may_be kind.Datatype t iri u e = (and_parts (has_kind k kind.Datatype iri) (may_be_declared kind.Datatype iri) (so _ _ u e)).1
  may_be kind.ObjectProperty t iri u e =
      (and_parts (has_kind k kind.ObjectProperty iri) (may_be_declared kind.ObjectProperty iri) (so _ _ u e)).1
  may_be kind.DataProperty t iri u e = (and_parts (has_kind k kind.DataProperty iri) (may_be_declared kind.DataProperty iri) (so _ _ u e)).1
  may_be kind.AnnotationProperty t iri u e =
      (and_parts (has_kind k kind.AnnotationProperty iri) (may_be_declared kind.AnnotationProperty iri) (so _ _ u e)).1

  just : (a : Kind) (o : Option Kind) → is_just a o ≡ true → o ≡ Some a
  just a None h = cc
  just a (Some b) h = ap Some (sym (same_kind a b h))

  declared_so : (a : Kind) (w : Want) (iri : List ℕ) (ts : List Tree) → is_declaration_wanted a w ≡ true → Denotes g k (Iri iri) w ts → may_be_declared a iri ≡ true
  unfolding declared_entity
  declared_so a (Declared t) iri ts p d =
      let is = declared_is t (Iri iri) ts d in
      may_be a t iri is.0 (sym (ap (declared_kind k t iri) (just a (kind_of_entity t) p)) ∙ is.1)
  declared_so a _ iri ts p d = cc

  -- what is wanted at the place is denoted there
  record IsWantedAt (t : Triple) (place : Place) (test : Want → Bool) (x : Term) : Type 0 where
    pub want : Want
    pub passes : test want ≡ true
    pub ts : List Tree
    pub denotes : Denotes g k x want ts

  wanted_at : (t : Triple) (place : Place) (test : Want → Bool) (x : Term) → select g (of_triple t) place ≡ x ∷ [] → (is : HasAxiom g k t) → list_any (wants_at place test) is.said.row.parts ≡ true → IsWantedAt t place test x
  wanted_at t place test x one is h =
      let parts = is.said.row.parts in
      let p = some_passes (wants_at place test) parts h in
      let tests = and_parts (is_place p.element.place place) (test p.element.want) p.passes in
      let s = all_in (HasPart g k (of_triple t)) parts p.element (each_part g k (of_triple t) parts is.kids is.said.parts) p.inside in
      let same = same_only s.z x (sym s.one ∙ ap (select g (of_triple t)) (same_place p.element.place place tests.0) ∙ one) in
      record {
        want = p.element.want;
        passes = tests.1;
        ts = s.ts;
        denotes = subst (λ y. Denotes g k y p.element.want s.ts) same s.denotes;
      }

  named_well : (t : Triple) (is : HasAxiom g k t) (site : Site) → site_of t ≡ site → names_well_at site is.said.row.parts ≡ true
  named_well t is site e =
      subst (λ s. names_well_at s is.said.row.parts ≡ true) (is.said.fits ∙ e) (passes names_well axiom_rows is.said.row all_name_well is.said.among)

  pub takes_none : (t : Triple) → HasAxiom g k t → TakesReserved k t → ⊥
  takes_none t is (as_property e reserved other) =
      let w = wanted_at t Predicate is_property_wanted (Iri t.predicate) refl is (named_well t is OtherLink e) in
      both_ways _ other (property_so w.want t.predicate w.ts w.passes w.denotes)
  takes_none t is (as_class iri e same reserved other) =
      let w = wanted_at t Object is_class_wanted (Iri iri) (ap (λ y. y ∷ []) same) is (named_well t is OtherType e) in
      both_ways _ other (class_so w.want iri w.ts w.passes w.denotes)
  takes_none t is (as_declared word a iri e declares same other) =
      let well : declares_at (Some a) is.said.row.parts ≡ true =
      subst (λ found. declares_at found is.said.row.parts ≡ true) declares (named_well t is (TypedBy word) e) in
      let w = wanted_at t Subject (is_declaration_wanted a) (Iri iri) (ap (λ y. y ∷ []) same) is well in
      both_ways _ other (declared_so a w.want iri w.ts w.passes w.denotes)
