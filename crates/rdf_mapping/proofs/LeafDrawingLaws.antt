-- A leaf is drawn as its term, which stands for it.
use Rattle.std.proofs.Common.{◌≡◌, ◌<◌, ◌^◌, ℕ, true, false, cond, List, length, refl, ap, ◌∙◌, arith}
use Rattle.std.specs.Prelude.{codes, not, ◌&&◌, nat_eq, Option, Some, None}
use Rattle.std.specs.Char.{is_ascii_digit}
use Rattle.std.specs.Fmt.{decimal}
use Rattle.std.specs.List.{list_all}
use Rattle.std.specs.Str.{bytes_eq}
use Rattle.std.specs.Str.Parse.{digits_value}
use Rattle.std.proofs.lemmas.Bool.{and_from, both_ways, cond-true, ne_eqb}
use Rattle.std.proofs.lemmas.Fmt.{decimal_nonempty, digits_decimal, digits_value-decimal}
use Rattle.std.proofs.lemmas.Slice.Eq.{bytes_eq-Decides}
use Rattle.rdf_terms.specs.Vocabulary.{xsd}
use Rattle.blank_labels.proofs.LabelLaws.{numerals}
use Rattle.owl_doc.specs.Entities.{AreWellTyped, entities, kind_of}
use Rattle.owl_kind.specs.declared.kind.Kind.{Kind}
use Rattle.owl_kind.specs.declared.kind.Kind.TheVariants as kind
use Rattle.owl_kind.specs.Kinds.{Entity, HasKind}
use Rattle.owl_tree.specs.Atoms.{IsAtom}
use Rattle.owl_tree.specs.declared.atom.Atom.{Atom}
use Rattle.owl_tree.specs.declared.atom.Atom.TheVariants as atom
use Rattle.owl_tree.specs.declared.row.Sort.{Sort}
use Rattle.owl_tree.specs.declared.row.Sort.TheVariants as sort
use Rattle.owl_tree.specs.declared.tag.Tag.{Tag}
use Rattle.owl_tree.specs.declared.tag.Tag.TheVariants as tag
use Rattle.owl_tree.specs.Rows.{admits, row_of, takes}
use Rattle.owl_tree.specs.Tags.{number_of}
use Rattle.owl_tree.specs.Trees.{Tree, leaf}
use Rattle.rdf_graph.specs.declared.term.Term.TheVariants.{Blank}
use Rattle.rdf_graph.specs.declared.triple.Triple.{Triple}
use Rattle.rdf_meaning.specs.declared.role.Role.TheVariants as role
use Rattle.rdf_meaning.specs.Denotation.{by_itself, iri_leaf, is_digits, or_else, simple}
use Rattle.rdf_meaning.specs.Kinds.{has_kind}
use Rattle.rdf_meaning.proofs.KindLaws.{has_kind_is}
use Rattle.rdf_meaning.specs.Nodes.{is_iri, is_role, role_of}
use Rattle.rdf_mapping.specs.Drawing.{atom_term}
use Rattle.rdf_mapping.proofs.NodeDrawingLaws.{same_tag}
use Rattle.rdf_mapping.specs.Written.{AreIndividuals, IsDrawnWell, is_wanted}

-- the digits that a number is written in are read as the number
number_read : (n : ℕ) → n < 2 ^ 64 → is_digits (decimal n) ≡ true
number_read n small =
    let some = decimal_nonempty n small in
    and_from (not (nat_eq (length (decimal n)) 0)) (list_all is_ascii_digit (decimal n))
    (ap not (ne_eqb (length (decimal n)) 0 (λ e. omega (arith, some, e)))) (digits_decimal numerals n small)

pub property_tag : (t : Tag) → admits sort.ObjectProperty t ≡ true → tag.ObjectProperty ≡ t
unfolding admits
property_tag t h = same_tag tag.ObjectProperty t h

module _ (g : List Triple) (k : List Entity) where
  -- what the leaf of a tag stands for where a tree of the sort stands
  abbrev pub IsSimple : Tag → Type 0
  IsSimple t =
      (s : Sort) (a : Atom) → (is_wanted s && admits s t) ≡ true → takes (row_of t) a ≡ true → IsAtom a →
      AreWellTyped k (entities (leaf t a)) → AreIndividuals g (leaf t a) → simple g k s (atom_term a) ≡ Some (leaf t a)

  typed : (t : Tag) (iri : List ℕ) (kd : Kind) → HasKind k kd iri → cond (has_kind k kd iri) (Some (iri_leaf t iri)) None ≡ Some (iri_leaf t iri)
  typed t iri kd h = cond-true (has_kind k kd iri) (Some (iri_leaf t iri)) None ((has_kind_is k kd iri).1 h)

  class_simple : IsSimple tag.Class
  unfolding admits row_of number_of simple kind_of
  class_simple sort.ClassExpression (atom.Iri iri) w h v ty ind = typed tag.Class iri kind.Class ty.0
  class_simple sort.Class (atom.Iri iri) w h v ty ind = typed tag.Class iri kind.Class ty.0
  class_simple _ (atom.Iri iri) w h v ty ind = absurd (both_ways false refl w)
  class_simple _ _ w h v ty ind = absurd (both_ways false refl h)

  datatype_simple : IsSimple tag.Datatype
  unfolding admits row_of number_of simple kind_of
  datatype_simple sort.DataRange (atom.Iri iri) w h v ty ind = typed tag.Datatype iri kind.Datatype ty.0
  datatype_simple sort.Datatype (atom.Iri iri) w h v ty ind = typed tag.Datatype iri kind.Datatype ty.0
  datatype_simple _ (atom.Iri iri) w h v ty ind = absurd (both_ways false refl w)
  datatype_simple _ _ w h v ty ind = absurd (both_ways false refl h)

  object_property_simple : IsSimple tag.ObjectProperty
  unfolding admits row_of number_of simple kind_of
  object_property_simple sort.ObjectPropertyExpression (atom.Iri iri) w h v ty ind = typed tag.ObjectProperty iri kind.ObjectProperty ty.0
  object_property_simple sort.ObjectProperty (atom.Iri iri) w h v ty ind = typed tag.ObjectProperty iri kind.ObjectProperty ty.0
  object_property_simple _ (atom.Iri iri) w h v ty ind = absurd (both_ways false refl w)
  object_property_simple _ _ w h v ty ind = absurd (both_ways false refl h)

  data_property_simple : IsSimple tag.DataProperty
  unfolding admits row_of number_of simple kind_of
  data_property_simple sort.DataPropertyExpression (atom.Iri iri) w h v ty ind = typed tag.DataProperty iri kind.DataProperty ty.0
  data_property_simple sort.DataPropertyExpression _ w h v ty ind = absurd (both_ways false refl h)
  data_property_simple _ a w h v ty ind = absurd (both_ways false refl w)

  annotation_property_simple : IsSimple tag.AnnotationProperty
  unfolding admits row_of number_of simple kind_of
  annotation_property_simple sort.AnnotationProperty (atom.Iri iri) w h v ty ind = typed tag.AnnotationProperty iri kind.AnnotationProperty ty.0
  annotation_property_simple sort.AnnotationProperty _ w h v ty ind = absurd (both_ways false refl h)
  annotation_property_simple _ a w h v ty ind = absurd (both_ways false refl w)

  named_simple : IsSimple tag.NamedIndividual
  unfolding admits row_of number_of simple kind_of
  named_simple sort.Individual (atom.Iri iri) w h v ty ind = refl
  named_simple sort.Individual _ w h v ty ind = absurd (both_ways false refl h)
  named_simple _ a w h v ty ind = absurd (both_ways false refl w)

  individual : (label : List ℕ) → AreIndividuals g (leaf tag.Anonymous (atom.Label label)) → cond (is_role role.Individual (role_of g (Blank label))) (Some (leaf tag.Anonymous (atom.Label label))) None ≡ Some (leaf tag.Anonymous (atom.Label label))
  individual label ind = cond-true (is_role role.Individual (role_of g (Blank label))) (Some (leaf tag.Anonymous (atom.Label label))) None (ap (is_role role.Individual) (ind label (0, omega arith, refl)))

  anonymous_simple : IsSimple tag.Anonymous
  unfolding admits row_of number_of simple kind_of
  anonymous_simple sort.Individual (atom.Label label) w h v ty ind = individual label ind
  anonymous_simple sort.AnnotationSubject (atom.Label label) w h v ty ind = individual label ind
  anonymous_simple sort.AnnotationValue (atom.Label label) w h v ty ind = ap (λ (o : Option Tree). or_else o None) (individual label ind)
  anonymous_simple _ (atom.Label label) w h v ty ind = absurd (both_ways false refl w)
  anonymous_simple _ _ w h v ty ind = absurd (both_ways false refl h)

  plain_simple : IsSimple tag.PlainIri
  unfolding admits row_of number_of simple kind_of
  plain_simple sort.Iri (atom.Iri iri) w h v ty ind = refl
  plain_simple sort.AnnotationSubject (atom.Iri iri) w h v ty ind = refl
  plain_simple sort.AnnotationValue (atom.Iri iri) w h v ty ind = refl
  plain_simple _ (atom.Iri iri) w h v ty ind = absurd (both_ways false refl w)
  plain_simple _ _ w h v ty ind = absurd (both_ways false refl h)

  literal_simple : IsSimple tag.Literal
  unfolding admits row_of number_of simple kind_of
  literal_simple sort.Literal (atom.Literal literal) w h v ty ind = refl
  literal_simple sort.AnnotationValue (atom.Literal literal) w h v ty ind = refl
  literal_simple _ (atom.Literal literal) w h v ty ind = absurd (both_ways false refl w)
  literal_simple _ _ w h v ty ind = absurd (both_ways false refl h)

  number_simple : IsSimple tag.Number
  unfolding admits row_of number_of simple kind_of
  number_simple sort.Number (atom.Number n) w h v ty ind =
      cond-true _ (Some (leaf tag.Number (atom.Number (digits_value 10 (decimal n))))) None
      (and_from (bytes_eq (xsd (codes "nonNegativeInteger")) (xsd (codes "nonNegativeInteger"))) (is_digits (decimal n))
      ((bytes_eq-Decides (xsd (codes "nonNegativeInteger")) (xsd (codes "nonNegativeInteger"))).1 refl) (number_read n v))
      ∙ ap (λ (m : ℕ). Some (leaf tag.Number (atom.Number m))) (digits_value-decimal numerals n v)
  number_simple sort.Number _ w h v ty ind = absurd (both_ways false refl h)
  number_simple _ a w h v ty ind = absurd (both_ways false refl w)

  facet_simple : IsSimple tag.Facet
  unfolding admits row_of number_of simple kind_of
  facet_simple sort.Class a w h v ty ind = absurd (both_ways false refl w)
  facet_simple _ a w h v ty ind = absurd (both_ways false refl w)

  pub leaf_simple : (t : Tag) → IsSimple t
  unfolding row_of
  leaf_simple tag.Class = class_simple
  leaf_simple tag.Datatype = datatype_simple
  leaf_simple tag.ObjectProperty = object_property_simple
  leaf_simple tag.DataProperty = data_property_simple
  leaf_simple tag.AnnotationProperty = annotation_property_simple
  leaf_simple tag.NamedIndividual = named_simple
  leaf_simple tag.Anonymous = anonymous_simple
  leaf_simple tag.PlainIri = plain_simple
  leaf_simple tag.Literal = literal_simple
  leaf_simple tag.Number = number_simple
  leaf_simple tag.Facet = facet_simple
  leaf_simple _ = λ s a w h v ty ind. absurd (both_ways false refl h)

  property_named : (a : Atom) → takes (row_of tag.ObjectProperty) a ≡ true → is_iri (atom_term a) ≡ true
  unfolding row_of
  property_named (atom.Iri iri) h = refl
  property_named _ h = absurd (both_ways false refl h)

  pub leaf_drawn : (name : ℕ → List ℕ) (most : ℕ) (t : Tag) (a : Atom) → takes (row_of t) a ≡ true → IsAtom a → AreWellTyped k (entities (leaf t a)) → AreIndividuals g (leaf t a) → IsDrawnWell name most g k (leaf t a)
  leaf_drawn name most t a h v ty ind =
      record {
        drawn = λ s w m n few keeps. by_itself s (atom_term a) (leaf t a) (leaf_simple t s a (and_from (is_wanted s) (admits s t) w m) h v ty ind);
        named = λ m n. property_named a (ap (λ (u : Tag). takes (row_of u) a) (property_tag t m) ∙ h);
      }
