-- What the definitions say of some graphs, worked out by hand.
use lib.Utf8.{encode}
use Rattle.std.specs.Prelude.{◌≡◌, ℕ, Bool, true, false, not, ◌&&◌, ◌||◌, nat_eq, IsTrue, List, [], ◌∷◌, Contains, codes, length, map}
use Rattle.std.specs.List.{list_all, list_any}
use Rattle.std.specs.Str.{bytes_eq}
use Rattle.std.proofs.Common.{arith, inl, inr, refl, subst, sym, ap, ◌∙◌}
use Rattle.std.proofs.lemmas.Bool.{and_from, and_parts, both_ways, eqb-true, not-true, or_cases}
use Rattle.std.proofs.lemmas.Slice.Eq.{bytes_eq-Decides}
use Rattle.owl_list.proofs.AscendingLaws.{all_in, in_cases, in_none}
use Rattle.rdf_terms.specs.Vocabulary.{is_reserved, owl, rdf}
use Rattle.owl_kind.specs.declared.kind.Kind.TheVariants as kind
use Rattle.owl_kind.specs.Kinds.{Entity, annotation_properties, is_built_in}
use Rattle.owl_tree.specs.declared.tag.Tag.TheVariants as tag
use Rattle.owl_tree.specs.declared.row.Sort.TheVariants as sort
use Rattle.rdf_graph.specs.declared.term.Term.{Term}
use Rattle.rdf_graph.specs.declared.term.Term.TheVariants.{Iri, Blank}
use Rattle.rdf_graph.specs.declared.triple.Triple.{Triple}
use Rattle.rdf_meaning.proofs.ListLaws.{nothing_else, passes, some_passes}
use Rattle.rdf_meaning.specs.declared.role.Role.{Role}
use Rattle.rdf_meaning.specs.declared.role.Role.TheVariants as role
use Rattle.rdf_meaning.specs.declared.word.Word.{Word}
use Rattle.rdf_meaning.specs.declared.word.Word.TheVariants as word
use Rattle.rdf_meaning.specs.declared.row.Place.TheVariants.{At}
use Rattle.rdf_meaning.specs.declared.row.Part.{Part}
use Rattle.rdf_meaning.specs.declared.row.Site.TheVariants.{Node}
use Rattle.rdf_meaning.specs.declared.row.Want.{Want}
use Rattle.rdf_meaning.specs.declared.row.Want.TheVariants.{One, Many, Mark}
use Rattle.rdf_meaning.specs.Kinds.{has_kind}
use Rattle.rdf_meaning.specs.Nodes.{carries, chosen, is_facet, is_structural, marks_role, nil_iri, role_of, roles_of, words_of}
use Rattle.rdf_meaning.specs.Rows.{Row, axiom_rows, node_rows}
use Rattle.rdf_meaning.specs.RowTests.{is_place, is_site}
use Rattle.rdf_meaning.proofs.RowLaws.{own_site, same_place}
use Rattle.rdf_meaning.specs.Denotation.{Fits, axiom_predicates, of_node, select, simple, site_of, times}
use Rattle.rdf_meaning.specs.Statements.{IsCell}
use Rattle.rdf_meaning.specs.Examples.{entity, restriction, says, text, typed, u}
use Rattle.rdf_meaning.specs.Words.{is_type, word_iri, word_number}
use Rattle.rdf_faults.specs.Formed.{HasForm, HasFormAt, HasFormedRow, IsFormedAs, no_element}
use Rattle.rdf_faults.specs.Asked.{IsAskedFor, suited, not_asked, IsMet, IsRow, IsTypedAs, Suits, SuitsProperties, is_place_of, rows}
use Rattle.rdf_faults.specs.Faults.{IsBadCell, IsBadNode, IsUntypedPart, TakesReserved, as_property}

-- rows of the node's form

abbrev counts : List Triple → Term → Role → List ℕ
counts g x r = map (λ w. length (chosen g x w)) (words_of r)

abbrev has_form : Role → List ℕ → Row → Bool
has_form r ns row = is_site row.site (Node r) && bytes_eq ns (map (λ w. times w row.parts) (words_of r))

abbrev stands_as : Word → (Want → Bool) → Part → Bool
stands_as w test p = is_place p.place (At w) && test p.want

-- each row of this form has such a part
abbrev have_part : Role → List ℕ → Word → (Want → Bool) → Row → Bool
have_part r ns w test row = not (has_form r ns row) || list_any (stands_as w test) row.parts

has_form_so : (g : List Triple) (x : Term) (r : Role) (row : Row) → role_of g x ≡ r → Fits g (of_node x) row → has_form r (counts g x r) row ≡ true
has_form_so g x r row e f =
    and_from (is_site row.site (Node r)) (bytes_eq (counts g x r) (map (λ w. times w row.parts) (words_of r)))
    (subst (λ s. is_site s (Node r) ≡ true) (sym (f.0 ∙ ap Node e)) (own_site (Node r)))
    ((bytes_eq-Decides (counts g x r) (map (λ w. times w row.parts) (words_of r))).1
    (subst (λ q. counts g x q ≡ map (λ w. times w row.parts) (words_of q)) e f.1))

record HasPartAs (row : Row) (w : Word) (test : Want → Bool) : Type 0 where
  pub p : Part
  pub inside : Contains row.parts p
  pub place : p.place ≡ At w
  pub passes : test p.want ≡ true

part_as : (g : List Triple) (x : Term) (r : Role) (all : List Row) (w : Word) (test : Want → Bool) → role_of g x ≡ r → list_all (have_part r (counts g x r) w test) all ≡ true → (row : Row) → Contains all row → Fits g (of_node x) row → HasPartAs row w test
part_as g x r all w test e h row m f =
    elim (or_cases (not (has_form r (counts g x r) row)) (list_any (stands_as w test) row.parts) (passes (have_part r (counts g x r) w test) all row h m)) [
      | inl n ↦ absurd (both_ways _ (not-true _ n) (has_form_so g x r row e f))
      | inr some ↦
          let p = some_passes (stands_as w test) row.parts some in
          let tests = and_parts (is_place p.element.place (At w)) (test p.element.want) p.passes in
          record { p = p.element; inside = p.inside; place = same_place p.element.place (At w) tests.0; passes = tests.1 }
    ]

-- _:v rdf:first e:A

abbrev pub v : List ℕ
v = codes "v"

abbrev pub half_cell : List Triple
half_cell = says (Blank v) (rdf (codes "first")) (Iri (codes "e:A")) ∷ []

half_cell_role : role_of half_cell (Blank v) ≡ role.List
unfolding roles_of marks_role carries is_type word_iri word_number is_facet encode
half_cell_role = refl

no_rest : chosen half_cell (Blank v) word.Rest ≡ []
unfolding chosen carries is_type word_iri word_number encode
no_rest = refl

pub half_cell_is_bad : IsBadCell half_cell v
half_cell_is_bad = record {
  cell = half_cell_role;
  not_formed = λ formed.
      let c : IsCell half_cell (Blank v) = subst (λ r. IsFormedAs half_cell r (Blank v)) half_cell_role formed in
      nothing_else c.rest [] (sym no_rest ∙ c.one_rest);
}

-- _:u a owl:Class ; owl:unionOf ()

abbrev pub empty_union : List Triple
empty_union = typed u (owl (codes "Class")) ∷ says u (owl (codes "unionOf")) (Iri nil_iri) ∷ []

abbrev is_two : Want → Bool
is_two (Many s least) = nat_eq least 2
is_two _ = false

empty_union_role : role_of empty_union u ≡ role.Class
unfolding roles_of marks_role carries is_type word_iri word_number is_facet encode
empty_union_role = refl

empty_union_rows : list_all (have_part role.Class (counts empty_union u role.Class) word.UnionOf is_two) node_rows ≡ true
unfolding node_rows chosen words_of carries is_type word_iri word_number encode
empty_union_rows = refl

empty_operands : chosen empty_union u word.UnionOf ≡ Iri nil_iri ∷ []
unfolding chosen carries is_type word_iri word_number encode
empty_operands = refl

no_two : (w : Want) → is_two w ≡ true → HasForm empty_union w (Iri nil_iri) → ⊥
no_two (Many s least) two form =
    let e = eqb-true least 2 two in
    form (record { count = 0; has_length = no_element (Iri nil_iri) refl; few = omega (arith, e) })
no_two _ two form = cc

no_union_row : HasFormedRow empty_union node_rows u → ⊥
no_union_row formed =
    let row = formed.row in
    let at = part_as empty_union u role.Class node_rows word.UnionOf is_two empty_union_role empty_union_rows row formed.among formed.fits in
    let forms = all_in (HasFormAt empty_union u) row.parts at.p formed.formed at.inside in
    let same : select empty_union (of_node u) at.p.place ≡ Iri nil_iri ∷ [] = ap (select empty_union (of_node u)) at.place ∙ empty_operands in
    no_two at.p.want at.passes (all_in (HasForm empty_union at.p.want) _ (Iri nil_iri) forms (subst (λ ys. Contains ys (Iri nil_iri)) (sym same) (0, omega arith, refl)))

pub empty_union_is_bad : IsBadNode empty_union (codes "u")
empty_union_is_bad = record {
  no_cell = λ e. both_ways _ refl (subst (λ r. is_list r ≡ true) (sym e ∙ empty_union_role) refl);
  not_formed = λ formed. no_union_row (subst (λ r. IsFormedAs empty_union r u) empty_union_role formed);
}
  where
    is_list : Role → Bool
    is_list role.List = true
    is_list _ = false

-- _:u a owl:Restriction ; owl:onProperty e:p ; owl:someValuesFrom e:D, where e:p is of no kind

abbrev is_property_wanted : Want → Bool
is_property_wanted (One sort.ObjectPropertyExpression) = true
is_property_wanted (One sort.DataPropertyExpression) = true
is_property_wanted _ = false

restriction_role : role_of restriction u ≡ role.Class
unfolding roles_of marks_role carries is_type word_iri word_number is_facet encode
restriction_role = refl

restriction_rows : list_all (have_part role.Class (counts restriction u role.Class) word.OnProperty is_property_wanted) rows ≡ true
unfolding node_rows axiom_rows chosen words_of carries is_type word_iri word_number encode
restriction_rows = refl

abbrev pub on_property : Triple
on_property = says u (owl (codes "onProperty")) (Iri (codes "e:p"))

abbrev pub some_values_from : Triple
some_values_from = says u (owl (codes "someValuesFrom")) (Iri (codes "e:D"))

names_property : carries word.OnProperty on_property ≡ true
unfolding carries is_type word_iri word_number encode
names_property = refl

unmet : (w : Want) → is_property_wanted w ≡ true → IsMet restriction [] w (Iri (codes "e:p")) → ⊥
unfolding simple has_kind is_built_in encode
unmet (One sort.ObjectPropertyExpression) p h = both_ways _ refl h
unmet (One sort.DataPropertyExpression) p h = both_ways _ refl h
unmet _ p h = cc

suits_none : (row : Row) → IsRow restriction u row → SuitsProperties restriction [] row u → ⊥
suits_none row is suits =
    let at = part_as restriction u role.Class rows word.OnProperty is_property_wanted restriction_role restriction_rows row is.among is.fits in
    let all = suits on_property (1, omega arith, refl) refl names_property in
    let met = all_in (λ (p : Part). is_place_of on_property p.place ≡ true → IsMet restriction [] p.want on_property.object) row.parts at.p all at.inside in
    unmet at.p.want at.passes (met (ap (is_place_of on_property) at.place ∙ names_property))

pub nothing_asked : IsAskedFor restriction [] some_values_from
unfolding carries is_type word_iri word_number encode
nothing_asked = not_asked refl suits_none

-- the same with "1" in place of e:D, where e:p is an object property

abbrev pub with_literal : Triple
with_literal = says u (owl (codes "someValuesFrom")) (text (codes "1"))

abbrev pub of_literal : List Triple
of_literal = typed u (owl (codes "Restriction")) ∷ on_property ∷ with_literal ∷ []

abbrev pub of_object : List Entity
of_object = entity kind.ObjectProperty (codes "e:p") ∷ []

abbrev is_filler_wanted : Want → Bool
is_filler_wanted (One sort.ClassExpression) = true
is_filler_wanted (One sort.DataRange) = true
is_filler_wanted _ = false

of_literal_role : role_of of_literal u ≡ role.Class
unfolding roles_of marks_role carries is_type word_iri word_number is_facet encode
of_literal_role = refl

of_literal_rows : list_all (have_part role.Class (counts of_literal u role.Class) word.SomeValuesFrom is_filler_wanted) rows ≡ true
unfolding node_rows axiom_rows chosen words_of carries is_type word_iri word_number encode
of_literal_rows = refl

names_filler : carries word.SomeValuesFrom with_literal ≡ true
unfolding carries is_type word_iri word_number encode
names_filler = refl

no_filler : (w : Want) → is_filler_wanted w ≡ true → IsMet of_literal of_object w (text (codes "1")) → ⊥
unfolding simple
no_filler (One sort.ClassExpression) p h = both_ways _ refl h
no_filler (One sort.DataRange) p h = both_ways _ refl h
no_filler _ p h = cc

suits_no_row : (row : Row) → IsRow of_literal u row → Suits of_literal of_object row with_literal → ⊥
suits_no_row row is suits =
    let at = part_as of_literal u role.Class rows word.SomeValuesFrom is_filler_wanted of_literal_role of_literal_rows row is.among is.fits in
    let met = all_in (λ (p : Part). is_place_of with_literal p.place ≡ true → IsMet of_literal of_object p.want with_literal.object) row.parts at.p suits at.inside in
    no_filler at.p.want at.passes (met (ap (is_place_of with_literal) at.place ∙ names_filler))

record IsSuited (row : Row) : Type 0 where
  pub is : IsRow of_literal u row
  pub suits : (t : Triple) → Contains of_literal t → t.subject ≡ u → IsTrue (carries word.OnProperty t) → Suits of_literal of_object row t

only_property : (t : Triple) → Contains of_literal t → carries word.OnProperty t ≡ true → on_property ≡ t
unfolding carries is_type word_iri word_number encode
only_property t m h =
    elim (in_cases (typed u (owl (codes "Restriction"))) (on_property ∷ with_literal ∷ []) t m) [
      | inl e ↦ absurd (both_ways _ (ap (carries word.OnProperty) (sym e)) h)
      | inr n ↦
          elim (in_cases on_property (with_literal ∷ []) t n) [
            | inl e ↦ e
            | inr l ↦
                elim (in_cases with_literal [] t l) [
                  | inl e ↦ absurd (both_ways _ (ap (carries word.OnProperty) (sym e)) h)
                  | inr none ↦ absurd (in_none t none)
                ]
          ]
    ]

abbrev part : Word → Want → Part
part w want = record { place = At w; want = want }

abbrev object_row : Row
object_row = record {
  tag = tag.ObjectSomeValuesFrom;
  site = Node role.Class;
  parts =
      part word.Restriction Mark ∷ part word.OnProperty (One sort.ObjectPropertyExpression) ∷ part word.SomeValuesFrom (One sort.ClassExpression) ∷ [];
}

object_row_suits : IsSuited object_row
unfolding node_rows axiom_rows chosen words_of roles_of marks_role carries is_type word_iri word_number is_facet simple has_kind encode
object_row_suits = record {
  is = record { among = (5, omega arith, refl); fits = (refl, refl) };
  suits = λ t m e h.
      subst (Suits of_literal of_object object_row) (only_property t m h)
      (λ n. tt, (λ n. refl, (λ n. absurd (both_ways _ refl n), tt)));
}

pub literal_is_untyped : IsUntypedPart of_literal of_object with_literal
unfolding is_structural words_of roles_of marks_role carries is_type word_iri word_number is_facet encode
literal_is_untyped = record {
  inside = (2, omega arith, refl);
  structural = refl;
  untyped = λ is.
      elim (subst (λ r. IsTypedAs of_literal of_object r with_literal) of_literal_role is) [
        | suited row is_row suits _ ↦ suits_no_row row is_row suits
        | not_asked _ none ↦ none object_row object_row_suits.is object_row_suits.suits
      ];
}

-- e:i owl:other e:j

abbrev pub other_link : Triple
other_link = says (Iri (codes "e:i")) (owl (codes "other")) (Iri (codes "e:j"))

pub takes_reserved : TakesReserved [] other_link
unfolding site_of axiom_predicates word_iri is_reserved has_kind is_built_in annotation_properties encode
takes_reserved = as_property refl refl refl
