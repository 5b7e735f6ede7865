-- What the rows of axioms want, by tests over the table, and that kids that fit a row stand at its parts.
use Rattle.std.proofs.Common.{◌≡◌, ◌≤◌, ℕ, Bool, true, false, List, [], ◌∷◌, ◌++◌, length, inl, inr, refl, sym, ap, ◌∙◌, subst}
use Rattle.std.specs.Prelude.{Contains, map, nat_eq, not, ◌||◌}
use Rattle.std.specs.List.{AllByRecursion, filter, list_all}
use Rattle.std.proofs.lemmas.Bool.{and_parts, both_ways, eq-eqb, eqb-true, not-true, or_cases}
use Rattle.owl_tree.specs.declared.row.Sort.TheVariants as sort
use Rattle.owl_tree.specs.declared.tag.Tag.{Tag}
use Rattle.owl_tree.specs.declared.tag.Tag.TheVariants as tag
use Rattle.owl_tree.specs.Rows.{admits, is_tag, row_of}
use Rattle.owl_tree.specs.Tags.{number_of}
use Rattle.owl_tree.specs.Trees.{Tree, kids_in, tag_of}
use Rattle.rdf_meaning.specs.declared.row.Part.{Part}
use Rattle.rdf_meaning.specs.declared.row.Place.TheVariants.{Subject, Object}
use Rattle.rdf_meaning.specs.declared.row.Site.{Site}
use Rattle.rdf_meaning.specs.declared.row.Site.TheVariants.{LinkedBy}
use Rattle.rdf_meaning.specs.declared.row.Want.{Want}
use Rattle.rdf_meaning.specs.declared.row.Want.TheVariants.{One, Keys}
use Rattle.rdf_meaning.specs.declared.word.Word.{Word}
use Rattle.rdf_meaning.specs.declared.word.Word.TheVariants as word
use Rattle.owl_list.proofs.FilterLaws.{in_filter}
use Rattle.rdf_meaning.proofs.ListLaws.{only_one, passes}
use Rattle.rdf_meaning.specs.Rows.{Row, axiom_rows}
use Rattle.rdf_meaning.specs.Words.{word_number}
use Rattle.rdf_meaning.specs.Denotation.{axiom_predicates, axiom_types}
use Rattle.rdf_mapping.specs.Drawing.{fit, is_pair, kid_of, tags_of}
use Rattle.rdf_mapping.specs.Forms.{Form, list_form}
use Rattle.rdf_meaning.specs.Nodes.{words_of}
use Rattle.rdf_mapping.specs.Frames.{is_node_word}
use Rattle.rdf_mapping.specs.LinkedLaws.{two_parts}
use Rattle.rdf_mapping.proofs.RowDrawingLaws.{tag_seen}
use Rattle.rdf_mapping.specs.Spelling.{is_at_node}
use Rattle.rdf_mapping.specs.Written.{is_wanted, written}
use Rattle.rdf_axioms.specs.AxiomRows.{member}
use Rattle.rdf_axioms.proofs.Placed.{StandAt, are_ends, is_triple_row}
use Rattle.rdf_axioms.proofs.PlacedLaws.{GivesEach, keys_stand, kids_stand}

-- The tests, which compute.

all_triples : list_all (λ r. is_at_node r.site || is_triple_row r.site r.parts) axiom_rows ≡ true
unfolding axiom_rows axiom_types axiom_predicates is_node_word word_number admits number_of words_of
all_triples = refl

all_ends : list_all (λ r. is_at_node r.site || (is_tag tag.HasKey r.tag || are_ends r.parts)) axiom_rows ≡ true
unfolding axiom_rows admits number_of
all_ends = refl

abbrev is_node_link : Site → Bool
is_node_link (LinkedBy w) = is_node_word w
is_node_link _ = false

only_inverses : list_all (λ r. not (is_node_link r.site) || is_tag tag.InverseObjectProperties r.tag) axiom_rows ≡ true
unfolding axiom_rows is_node_word word_number number_of words_of
only_inverses = refl

-- a row of a node, or of triples
pub triple_row : (r : Row) → Contains axiom_rows r → is_at_node r.site ≡ false → is_triple_row r.site r.parts ≡ true
triple_row r m n =
    elim (or_cases (is_at_node r.site) (is_triple_row r.site r.parts) (passes (λ r. is_at_node r.site || is_triple_row r.site r.parts) axiom_rows r all_triples m)) [
      | inl y ↦ absurd (both_ways (is_at_node r.site) n y)
      | inr t ↦ t
    ]

pub inverse_row : (r : Row) (w : Word) → Contains axiom_rows r → r.site ≡ LinkedBy w → is_node_word w ≡ true → is_tag tag.InverseObjectProperties r.tag ≡ true
inverse_row r w m e n =
    elim (or_cases (not (is_node_link r.site)) (is_tag tag.InverseObjectProperties r.tag) (passes (λ r. not (is_node_link r.site) || is_tag tag.InverseObjectProperties r.tag) axiom_rows r only_inverses m)) [
      | inl a ↦ absurd (both_ways (is_node_link r.site) (not-true (is_node_link r.site) a) (ap is_node_link e ∙ n))
      | inr b ↦ b
    ]

-- the members of a set that pairs say are such as stand at parts
pair_wanted_by : (t : Tag) → (not (is_pair t) || is_wanted (member t)) ≡ true
unfolding is_pair row_of number_of
pair_wanted_by tag.Class = refl
pair_wanted_by _ = refl

pub pair_wanted : (t : Tag) → is_pair t ≡ true → is_wanted (member t) ≡ true
pair_wanted t h =
    elim (or_cases (not (is_pair t)) (is_wanted (member t)) (pair_wanted_by t)) [
      | inl n ↦ absurd (both_ways (is_pair t) (not-true (is_pair t) n) h)
      | inr w ↦ w
    ]

-- Tags with one row.

abbrev of_tag : Tag → List Row
of_tag t = filter (λ r. is_tag r.tag t) axiom_rows

only_row : (t : Tag) (q r : Row) → of_tag t ≡ q ∷ [] → Contains axiom_rows r → is_tag t r.tag ≡ true → q ≡ r
only_row t q r e m h = only_one (of_tag t) q r e (in_filter (λ r. is_tag r.tag t) axiom_rows r m (turned (number_of t) (number_of r.tag) h))
  where
    turned : (a b : ℕ) → nat_eq a b ≡ true → nat_eq b a ≡ true
    turned a b h = eq-eqb b a (sym (eqb-true a b h))

abbrev pub key_parts : List Part
key_parts = record { place = Subject; want = One sort.ClassExpression } ∷ record { place = Object; want = Keys } ∷ []

keys_parts : (r : Row) → Contains axiom_rows r → is_tag tag.HasKey r.tag ≡ true → r.parts ≡ key_parts
unfolding axiom_rows number_of
keys_parts r m h = sym (ap (λ (q : Row). q.parts) (only_row tag.HasKey (record { tag = tag.HasKey; site = LinkedBy word.HasKey; parts = key_parts }) r refl m h))

pub inverse_parts : (r : Row) → Contains axiom_rows r → is_tag tag.InverseObjectProperties r.tag ≡ true → r.parts ≡ two_parts sort.ObjectPropertyExpression sort.ObjectPropertyExpression
unfolding axiom_rows number_of
inverse_parts r m h =
    sym (ap (λ (q : Row). q.parts)
    (only_row tag.InverseObjectProperties
    (record { tag = tag.InverseObjectProperties; site = LinkedBy word.InverseOf; parts = two_parts sort.ObjectPropertyExpression sort.ObjectPropertyExpression }) r refl m h))

-- Kids that fit a row stand at its parts.

abbrev pub KeysAre : (Want → Form → List Tree → Type 0) → (Tree → Type 0) → Type 0
KeysAre IsSo IsGood =
    (o d : Tree) → is_tag tag.ObjectKeys (tag_of o) ≡ true → is_tag tag.DataKeys (tag_of d) ≡ true → IsGood o → IsGood d →
    1 ≤ length (kids_in o ++ kids_in d) → IsSo Keys (list_form ((kid_of o).members ++ (kid_of d).members)) (written o ∷ written d ∷ [])

-- behind a class stand two groups of keys, of which one has a member
abbrev pub HaveKeys : List Tree → Type 0
HaveKeys (c ∷ o ∷ d ∷ []) = 1 ≤ length (kids_in o ++ kids_in d)
HaveKeys _ = Unit {0}

module _ (IsSo : Want → Form → List Tree → Type 0) (IsGood : Tree → Type 0) (gives : GivesEach IsSo IsGood) (keys : KeysAre IsSo IsGood) where
  key_kids : (ts : List Tree) → fit key_parts (tags_of (map kid_of ts)) ≡ true → AllByRecursion IsGood ts → HaveKeys ts → StandAt IsSo key_parts ts
  unfolding fit
  key_kids [] f all have = absurd (both_ways false refl f)
  key_kids (c ∷ []) f all have = absurd (both_ways false refl (and_parts (admits sort.ClassExpression (kid_of c).tag) false f).1)
  key_kids (c ∷ o ∷ []) f all have = absurd (both_ways false refl (and_parts (admits sort.ClassExpression (kid_of c).tag) false f).1)
  key_kids (c ∷ o ∷ d ∷ []) f all have =
      let first = and_parts (admits sort.ClassExpression (kid_of c).tag) _ f in
      let second = and_parts (is_tag tag.ObjectKeys (kid_of o).tag) _ first.1 in
      let third = and_parts (is_tag tag.DataKeys (kid_of d).tag) true second.1 in
      keys_stand IsSo IsGood gives Subject Object sort.ClassExpression refl c o d (ap (admits sort.ClassExpression) (sym (tag_seen c)) ∙ first.0) all.0
      (keys o d (ap (is_tag tag.ObjectKeys) (sym (tag_seen o)) ∙ second.0) (ap (is_tag tag.DataKeys) (sym (tag_seen d)) ∙ third.0) all.1.0 all.1.1.0 have)
  key_kids (c ∷ o ∷ d ∷ x ∷ ts) f all have =
      let first = and_parts (admits sort.ClassExpression (kid_of c).tag) _ f in
      let second = and_parts (is_tag tag.ObjectKeys (kid_of o).tag) _ first.1 in
      absurd (both_ways false refl (and_parts (is_tag tag.DataKeys (kid_of d).tag) false second.1).1)

  pub row_stands : (r : Row) → Contains axiom_rows r → is_at_node r.site ≡ false → (ts : List Tree) → fit r.parts (tags_of (map kid_of ts)) ≡ true → AllByRecursion IsGood ts → (is_tag tag.HasKey r.tag ≡ true → HaveKeys ts) → StandAt IsSo r.parts ts
  row_stands r m n ts f all have =
      elim (or_cases (is_at_node r.site) (is_tag tag.HasKey r.tag || are_ends r.parts) (passes (λ r. is_at_node r.site || (is_tag tag.HasKey r.tag || are_ends r.parts)) axiom_rows r all_ends m)) [
        | inl y ↦ absurd (both_ways (is_at_node r.site) n y)
        | inr e ↦
            elim (or_cases (is_tag tag.HasKey r.tag) (are_ends r.parts) e) [
              | inl h ↦
                  let parts = keys_parts r m h in
                  subst (λ ps. StandAt IsSo ps ts) (sym parts) (key_kids ts (ap (λ (ps : List Part). fit ps (tags_of (map kid_of ts))) (sym parts) ∙ f) all (have h))
              | inr g ↦ kids_stand IsSo IsGood gives r.parts g ts f all
            ]
      ]
