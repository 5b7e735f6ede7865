-- No axiom of a normal form is an annotation of the ontology itself, so no annotation property leads from the header but in its annotations.
use Rattle.std.proofs.Common.{◌≡◌, ◌⊎◌, ℕ, Bool, true, false, List, [], ◌∷◌, ◌++◌, length, inl, inr, refl, sym, ap, ◌∙◌, subst, arith}
use Rattle.std.specs.Prelude.{Contains, Option, None, Some, map}
use Rattle.std.specs.List.{filter}
use Rattle.std.proofs.lemmas.Bool.{and_parts, both_ways}
use Rattle.std.proofs.lemmas.List.{length-map}
use Rattle.std.proofs.lemmas.Option.{same_Some}
use Rattle.std.proofs.lemmas.Slice.Eq.{bytes_eq-Decides}
use Rattle.owl_characters.specs.Order.{text_eq}
use Rattle.owl_kind.specs.declared.kind.Kind.{Kind}
use Rattle.owl_kind.specs.declared.kind.Kind.TheVariants as kind
use Rattle.owl_kind.specs.Kinds.{Entity, HasKind, SharesKinds}
use Rattle.owl_list.proofs.AscendingLaws.{in_cases, in_none}
use Rattle.owl_tree.specs.declared.atom.Atom.{Atom}
use Rattle.owl_tree.specs.declared.row.Sort.{Sort}
use Rattle.owl_tree.specs.declared.row.Sort.TheVariants as sort
use Rattle.owl_tree.specs.declared.tag.Tag.{Tag}
use Rattle.owl_tree.specs.declared.tag.Tag.TheVariants as tag
use Rattle.owl_tree.specs.Equivalence.{Agree, AgreeByPlace, IsEquivalent, equivalents}
use Rattle.owl_tree.proofs.EquivalenceLaws.{equivalent_refl}
use Rattle.owl_tree.specs.Rows.{admits, fits, row_of, set_start}
use Rattle.owl_tree.specs.Shape.{IsShaped}
use Rattle.owl_tree.specs.Tags.{number_of}
use Rattle.owl_tree.specs.Trees.{Tree, Kids, leaf, node, no_kids, kid, kids_of, list_of, tag_of}
use Rattle.rdf_graph.specs.declared.term.Term.{Term}
use Rattle.rdf_graph.specs.declared.term.Term.TheVariants.{Iri}
use Rattle.rdf_graph.specs.declared.triple.Triple.{Triple}
use Rattle.rdf_meaning.specs.declared.row.Place.TheVariants.{Subject, Predicate, Object}
use Rattle.rdf_meaning.specs.declared.row.Site.{Site}
use Rattle.rdf_meaning.specs.declared.row.Site.TheVariants.{OtherLink}
use Rattle.rdf_meaning.specs.declared.row.Want.TheVariants.{One}
use Rattle.rdf_meaning.specs.Denotation.{Denotes, Holds, iri_leaf, of_triple, simple, site_of}
use Rattle.rdf_meaning.proofs.DenotationLaws.{IsOne, itself, with_row, one_is, parts_are, so}
use Rattle.rdf_meaning.specs.Kinds.{HaveNoClash, has_kind}
use Rattle.rdf_meaning.proofs.KindLaws.{has_kind_is, no_shared}
use Rattle.owl_list.proofs.FilterLaws.{in_filter}
use Rattle.rdf_meaning.proofs.ListLaws.{same_only}
use Rattle.rdf_meaning.proofs.RowLaws.{at_expression}
use Rattle.rdf_meaning.specs.RowTests.{has_row_at}
use Rattle.rdf_meaning.specs.Rows.{Row, axiom_rows}
use Rattle.rdf_meaning.specs.Statements.{IsAxiomWith}
use Rattle.rdf_normal.specs.NormalForms.{is_about, is_same_iri, iri_at, subject_in}
use Rattle.rdf_mapping.specs.SiteLaws.{other_link_site}
use Rattle.rdf_mapping.specs.Sorts.{IsFree}
use Rattle.rdf_axioms.specs.AxiomReading.{with_notes}
use Rattle.rdf_states.specs.Stated.{IsAxiomTree}

-- The rows of triples whose predicate tells nothing.

abbrev is_other : Site → Bool
is_other OtherLink = true
is_other _ = false

abbrev assertion_row : Tag → Sort → Sort → Sort → Row
assertion_row t p s o =
    record {
      tag = t;
      site = OtherLink;
      parts = record { place = Predicate; want = One p } ∷ record { place = Subject; want = One s } ∷ record { place = Object; want = One o } ∷ [];
    }

abbrev object_row : Row
object_row = assertion_row tag.ObjectPropertyAssertion sort.ObjectProperty sort.Individual sort.Individual

abbrev data_row : Row
data_row = assertion_row tag.DataPropertyAssertion sort.DataPropertyExpression sort.Individual sort.Literal

abbrev annotation_row : Row
annotation_row = assertion_row tag.AnnotationAssertion sort.AnnotationProperty sort.AnnotationSubject sort.AnnotationValue

other_rows : filter (λ r. is_other r.site) axiom_rows ≡ object_row ∷ data_row ∷ annotation_row ∷ []
unfolding axiom_rows
other_rows = refl

other_row : (r : Row) → Contains axiom_rows r → is_other r.site ≡ true → (object_row ≡ r) ⊎ ((data_row ≡ r) ⊎ (annotation_row ≡ r))
other_row r m h =
    let among = subst (λ (rs : List Row). Contains rs r) other_rows (in_filter (λ q. is_other q.site) axiom_rows r m h) in
    elim (in_cases object_row (data_row ∷ annotation_row ∷ []) r among) [
      | inl e ↦ inl e
      | inr i ↦
          elim (in_cases data_row (annotation_row ∷ []) r i) [
            | inl e ↦ inr (inl e)
            | inr j ↦ elim (in_cases annotation_row [] r j) [ inl e ↦ inr (inr e) | inr z ↦ absurd (in_none r z) ]
          ]
    ]

free_site : (t : Triple) → IsFree t.predicate → is_other (site_of t) ≡ true
free_site t f = ap is_other (other_link_site t.subject t.object t.predicate f.no_type (λ w m. f.no_word w))

-- What an IRI stands for where a property, or the subject of an annotation, is wanted.

pub iri_itself : (g : List Triple) (k : List Entity) (s : Sort) (iri : List ℕ) (ts : List Tree) → Denotes g k (Iri iri) (One s) ts → (t : Tree) × (simple g k s (Iri iri) ≡ Some t) × (ts ≡ t ∷ [])
iri_itself g k s iri ts h = by (one_is g k s (Iri iri) ts h)
  where
    by : IsOne g k s (Iri iri) ts → (t : Tree) × (simple g k s (Iri iri) ≡ Some t) × (ts ≡ t ∷ [])
    by (itself t e same) = (t, e, same)
    by (with_row row us m a f holds e) = absurd (both_ways false refl (sym (ap has_row_at f.0) ∙ at_expression row m))

object_kind : (g : List Triple) (k : List Entity) (iri : List ℕ) (t : Tree) → simple g k sort.ObjectProperty (Iri iri) ≡ Some t → has_kind k kind.ObjectProperty iri ≡ true
unfolding simple
object_kind g k iri t e = so (has_kind k kind.ObjectProperty iri) (iri_leaf tag.ObjectProperty iri) t e

data_kind : (g : List Triple) (k : List Entity) (iri : List ℕ) (t : Tree) → simple g k sort.DataPropertyExpression (Iri iri) ≡ Some t → has_kind k kind.DataProperty iri ≡ true
unfolding simple
data_kind g k iri t e = so (has_kind k kind.DataProperty iri) (iri_leaf tag.DataProperty iri) t e

subject_leaf : (g : List Triple) (k : List Entity) (iri : List ℕ) (t : Tree) → simple g k sort.AnnotationSubject (Iri iri) ≡ Some t → iri_leaf tag.PlainIri iri ≡ t
unfolding simple
subject_leaf g k iri t e = same_Some (iri_leaf tag.PlainIri iri) t e

two_kinds : (k : List Entity) → HaveNoClash k → (a b : Kind) (iri : List ℕ) → (HasKind k a iri × HasKind k b iri → SharesKinds k iri) → has_kind k a iri ≡ true → has_kind k b iri ≡ true → ⊥
two_kinds k none a b iri shares h i = no_shared k none iri (shares ((has_kind_is k a iri).0 h, (has_kind_is k b iri).0 i))

-- the first part of such a row is the predicate
property_of : (g : List Triple) (k : List Entity) (t : Triple) (a : Tag) (p s u : Sort) (ts : List Tree) → Holds g k (of_triple t) (assertion_row a p s u).parts ts → (v : Tree) × (simple g k p (Iri t.predicate) ≡ Some v)
property_of g k t a p s u ts h =
    let first = parts_are g k (of_triple t) (record { place = Predicate; want = One p }) (record { place = Subject; want = One s } ∷ record { place = Object; want = One u } ∷ []) ts h in
    let same : first.x ≡ Iri t.predicate = sym (same_only (Iri t.predicate) first.x first.one) in
    let is = iri_itself g k p t.predicate first.us (subst (λ (x : Term). Denotes g k x (One p) first.us) same first.denotes) in
    (is.0, is.1)

-- and the second kid is the subject
record HasSubject (iri : List ℕ) (ts : List Tree) : Type 0 where
  pub property : Tree
  pub rest : List Tree
  pub is : ts ≡ property ∷ iri_leaf tag.PlainIri iri ∷ rest

subject_of : (g : List Triple) (k : List Entity) (t : Triple) (iri : List ℕ) (ts : List Tree) → t.subject ≡ Iri iri → Holds g k (of_triple t) annotation_row.parts ts → HasSubject iri ts
subject_of g k t iri ts at h =
    let parts = record { place = Subject; want = One sort.AnnotationSubject } ∷ record { place = Object; want = One sort.AnnotationValue } ∷ [] in
    let first = parts_are g k (of_triple t) (record { place = Predicate; want = One sort.AnnotationProperty }) parts ts h in
    let property = iri_itself g k sort.AnnotationProperty t.predicate first.us (subst (λ (x : Term). Denotes g k x (One sort.AnnotationProperty) first.us) (sym (same_only (Iri t.predicate) first.x first.one)) first.denotes) in
    let second = parts_are g k (of_triple t) (record { place = Subject; want = One sort.AnnotationSubject }) (record { place = Object; want = One sort.AnnotationValue } ∷ []) first.vs first.rest in
    let subject = iri_itself g k sort.AnnotationSubject iri second.us (subst (λ (x : Term). Denotes g k x (One sort.AnnotationSubject) second.us) (sym (same_only t.subject second.x second.one) ∙ at) second.denotes) in
    record {
      property = property.0;
      rest = second.vs;
      is =
          first.joined ∙ ap (λ (us : List Tree). us ++ first.vs) property.2
          ∙ ap (λ (us : List Tree). property.0 ∷ us) (second.joined ∙ ap (λ (us : List Tree). us ++ second.vs) subject.2 ∙ ap (λ (u : Tree). u ∷ second.vs) (sym (subject_leaf g k iri subject.0 subject.1)));
    }

-- An axiom that is equivalent to such a one is about the IRI.

no_set : set_start (row_of tag.AnnotationAssertion) ≡ None
unfolding row_of
no_set = refl

same_iri_at : (iri : List ℕ) (t : Tree) → IsEquivalent (iri_leaf tag.PlainIri iri) t → iri_at t ≡ Some iri
same_iri_at iri (leaf u a) h = ap (λ (b : Atom). iri_at (leaf u b)) (sym h.1)
same_iri_at iri (node u ks) h = absurd h

third_is : (n p : Tree) (iri : List ℕ) (rest : List Tree) (ls : Kids) → AgreeByPlace (equivalents (kids_of (n ∷ p ∷ iri_leaf tag.PlainIri iri ∷ rest))) (list_of ls) → length (list_of ls) ≡ 4 → subject_in (list_of ls) ≡ Some iri
third_is n p iri rest no_kids h e = absurd h
third_is n p iri rest (kid a no_kids) h e = absurd h.1
third_is n p iri rest (kid a (kid b no_kids)) h e = absurd h.1.1
third_is n p iri rest (kid a (kid b (kid c no_kids))) h e = absurd (omega (arith, e))
third_is n p iri rest (kid a (kid b (kid c (kid d no_kids)))) h e = same_iri_at iri c h.1.1.0
third_is n p iri rest (kid a (kid b (kid c (kid d (kid f ls))))) h e = absurd (omega (arith, e))

four_tags : (ts : List Tag) → fits (row_of tag.AnnotationAssertion) ts ≡ true → length ts ≡ 4
unfolding row_of
four_tags [] h = absurd (both_ways false refl h)
four_tags (a ∷ []) h = absurd (both_ways false refl (and_parts (admits sort.Notes a) _ h).1)
four_tags (a ∷ b ∷ []) h = absurd (both_ways false refl (and_parts (admits sort.AnnotationProperty b) _ (and_parts (admits sort.Notes a) _ h).1).1)
four_tags (a ∷ b ∷ c ∷ []) h =
    absurd (both_ways false refl (and_parts (admits sort.AnnotationSubject c) _ (and_parts (admits sort.AnnotationProperty b) _ (and_parts (admits sort.Notes a) _ h).1).1).1)
four_tags (a ∷ b ∷ c ∷ d ∷ []) h = refl
four_tags (a ∷ b ∷ c ∷ d ∷ e ∷ ts) h =
    absurd (both_ways false refl (and_parts (admits sort.AnnotationValue d) _ (and_parts (admits sort.AnnotationSubject c) _ (and_parts (admits sort.AnnotationProperty b) _ (and_parts (admits sort.Notes a) _ h).1).1).1).1)

four_kids : (ks : Kids) → fits (row_of tag.AnnotationAssertion) (map tag_of (list_of ks)) ≡ true → length (list_of ks) ≡ 4
four_kids ks h = sym (length-map (list_of ks) tag_of) ∙ four_tags (map tag_of (list_of ks)) h

same_text : (iri : List ℕ) → text_eq iri iri ≡ true
same_text iri = (bytes_eq-Decides iri iri).1 refl

about_there : (iri : List ℕ) (ls : Kids) → subject_in (list_of ls) ≡ Some iri → is_about (Some iri) (node tag.AnnotationAssertion ls) ≡ true
unfolding number_of
about_there iri ls e = ap (is_same_iri (Some iri)) e ∙ same_text iri

assertion_about : (n p : Tree) (iri : List ℕ) (rest : List Tree) (ls : Kids) → fits (row_of tag.AnnotationAssertion) (map tag_of (list_of ls)) ≡ true → IsEquivalent (node tag.AnnotationAssertion (kids_of (n ∷ p ∷ iri_leaf tag.PlainIri iri ∷ rest))) (node tag.AnnotationAssertion ls) → is_about (Some iri) (node tag.AnnotationAssertion ls) ≡ true
assertion_about n p iri rest ls f h =
    let facts = equivalents (kids_of (n ∷ p ∷ iri_leaf tag.PlainIri iri ∷ rest)) in
    about_there iri ls (third_is n p iri rest ls (subst (λ (s : Option ℕ). Agree s facts (list_of ls)) no_set h.1) (four_kids ls f))

-- An axiom whose triple leads from the IRI by an annotation property is about the IRI.
module _ (g : List Triple) (k : List Entity) (none : HaveNoClash k) (t : Triple) (a : Tree) (is : IsAxiomTree a) (shaped : IsShaped a) (kids : List Tree) (said : IsAxiomWith g k (of_triple t) (tag_of a) kids) (same : (us vs : Tree) → IsEquivalent us vs → IsEquivalent (node (tag_of a) (kids_of (us ∷ kids))) (with_notes vs a)) where
  abbrev own : Kids
  own = kid (node tag.Notes is.notes) is.kids

  about_by : (iri : List ℕ) → tag.AnnotationAssertion ≡ tag_of a → HasSubject iri kids → is_about (Some iri) a ≡ true
  about_by iri e s =
      let n = node tag.Notes is.notes in
      let its : tag.AnnotationAssertion ≡ is.own_tag = e ∙ ap tag_of is.is in
      let whole : a ≡ node tag.AnnotationAssertion own = is.is ∙ ap (λ (u : Tag). node u own) (sym its) in
      let fitting : fits (row_of tag.AnnotationAssertion) (map tag_of (list_of own)) ≡ true = (subst IsShaped whole shaped).0.row in
      let equal : IsEquivalent (node (tag_of a) (kids_of (n ∷ kids))) (with_notes n a) = same n n (equivalent_refl n) in
      let turned : IsEquivalent (node (tag_of a) (kids_of (n ∷ kids))) (node tag.AnnotationAssertion own) = subst (λ (b : Tree). IsEquivalent (node (tag_of a) (kids_of (n ∷ kids))) (with_notes n b)) whole equal in
      let first : IsEquivalent (node tag.AnnotationAssertion (kids_of (n ∷ s.property ∷ iri_leaf tag.PlainIri iri ∷ s.rest))) (node tag.AnnotationAssertion own) =
      subst (λ (us : List Tree). IsEquivalent (node tag.AnnotationAssertion (kids_of (n ∷ us))) (node tag.AnnotationAssertion own)) s.is
      (subst (λ (u : Tag). IsEquivalent (node u (kids_of (n ∷ kids))) (node tag.AnnotationAssertion own)) (sym e) turned) in
      subst (λ (b : Tree). is_about (Some iri) b ≡ true) (sym whole) (assertion_about n s.property iri s.rest own fitting first)

  pub about_iri : (iri : List ℕ) → t.subject ≡ Iri iri → IsFree t.predicate → has_kind k kind.AnnotationProperty t.predicate ≡ true → is_about (Some iri) a ≡ true
  about_iri iri at free property =
      elim (other_row said.row said.among (ap is_other said.fits ∙ free_site t free)) [
        | inl e ↦
            let p = property_of g k t tag.ObjectPropertyAssertion sort.ObjectProperty sort.Individual sort.Individual kids (subst (λ (r : Row). Holds g k (of_triple t) r.parts kids) (sym e) said.parts) in
            absurd (two_kinds k none kind.ObjectProperty kind.AnnotationProperty t.predicate (λ h. inr (inr (inl h))) (object_kind g k t.predicate p.0 p.1) property)
        | inr i ↦
            elim i [
              | inl e ↦
                  let p = property_of g k t tag.DataPropertyAssertion sort.DataPropertyExpression sort.Individual sort.Literal kids (subst (λ (r : Row). Holds g k (of_triple t) r.parts kids) (sym e) said.parts) in
                  absurd (two_kinds k none kind.DataProperty kind.AnnotationProperty t.predicate (λ h. inr (inr (inr h))) (data_kind g k t.predicate p.0 p.1) property)
              | inr e ↦
                  about_by iri (ap (λ (r : Row). r.tag) e ∙ said.tag)
                  (subject_of g k t iri kids at (subst (λ (r : Row). Holds g k (of_triple t) r.parts kids) (sym e) said.parts))
            ]
      ]
