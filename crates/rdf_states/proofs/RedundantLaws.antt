-- What a redundant triple is, and by which rows types are read.
use lib.Utf8.{encode}
use Rattle.std.proofs.Common.{◌≡◌, ◌≤◌, ◌⊎◌, ℕ, Bool, true, false, cond, List, [], ◌∷◌, length, inl, inr, refl, sym, ap, ◌∙◌, subst, arith}
use Rattle.std.specs.Prelude.{Contains, codes, nat_eq, not, Some, ◌&&◌, ◌||◌}
use Rattle.std.specs.List.{filter, list_all, list_any}
use Rattle.std.specs.Str.{bytes_eq}
use Rattle.std.proofs.lemmas.Bool.{and_parts, both_ways, eqb-true, not-true, or_cases}
use Rattle.std.proofs.lemmas.Option.{none-some}
use Rattle.std.proofs.lemmas.Slice.Eq.{bytes_eq-Decides}
use Rattle.owl_kind.specs.declared.kind.Kind.TheVariants as kind
use Rattle.owl_kind.specs.Kinds.{Entity, is_built_in}
use Rattle.owl_list.proofs.AscendingLaws.{in_cases, in_head, in_none, in_tail}
use Rattle.owl_list.proofs.FilterLaws.{in_filter}
use Rattle.owl_tree.specs.declared.row.Sort.TheVariants as sort
use Rattle.owl_tree.specs.declared.tag.Tag.{Tag}
use Rattle.owl_tree.specs.declared.tag.Tag.TheVariants as tag
use Rattle.owl_tree.specs.Trees.{Tree}
use Rattle.rdf_graph.specs.declared.term.Term.{Term}
use Rattle.rdf_graph.specs.declared.term.Term.TheVariants.{Iri, Blank, Literal}
use Rattle.rdf_graph.specs.declared.triple.Triple.{Triple}
use Rattle.rdf_meaning.specs.declared.role.Role.{Role}
use Rattle.rdf_meaning.specs.declared.role.Role.TheVariants as role
use Rattle.rdf_meaning.specs.declared.row.Place.TheVariants.{Subject, Object}
use Rattle.rdf_meaning.specs.declared.row.Site.{Site}
use Rattle.rdf_meaning.specs.declared.row.Site.TheVariants.{TypedBy, OtherType}
use Rattle.rdf_meaning.specs.declared.row.Want.TheVariants.{One, Declared}
use Rattle.rdf_meaning.specs.declared.word.Word.{Word}
use Rattle.rdf_meaning.specs.declared.word.Word.TheVariants as word
use Rattle.rdf_meaning.specs.Denotation.{Denotes, by_declaration, Holds, axiom_types, declared_entity, iri_leaf, of_triple, simple, site_of, times}
use Rattle.rdf_meaning.proofs.DenotationLaws.{parts_are, so}
use Rattle.rdf_meaning.specs.Kinds.{has_kind, may_be_declared}
use Rattle.rdf_meaning.proofs.ListLaws.{one_at_least, passes, same_only, some_passes}
use Rattle.rdf_meaning.proofs.NodeLaws.{from_subject, in_chosen, same_iri_term, typed_object}
use Rattle.rdf_meaning.specs.Nodes.{carries, carries_some, chosen, is_blank, is_word, of_subject, role_of, type_iri, words_of}
use Rattle.rdf_meaning.proofs.RowLaws.{own_site}
use Rattle.rdf_meaning.specs.RowTests.{is_site}
use Rattle.rdf_meaning.specs.Rows.{Row, axiom_rows, node_rows}
use Rattle.rdf_meaning.proofs.SoundLaws.{same_at}
use Rattle.rdf_meaning.specs.Statements.{HasRow, IsAxiomWith}
use Rattle.rdf_meaning.specs.Words.{is_type, word_iri, word_number}
use Rattle.rdf_terms.specs.Vocabulary.{is_reserved, rdf, rdfs}
use Rattle.rdf_mapping.specs.Drawing.{arc_iri}
use Rattle.rdf_mapping.specs.Forms.{link}
use Rattle.rdf_mapping.specs.OwnLaws.{any_from}
use Rattle.rdf_mapping.specs.SiteLaws.{other_type_site, typed_site}
use Rattle.rdf_mapping.proofs.SpellingLaws.{predicate_of}
use Rattle.rdf_states.proofs.OwnAssertionLaws.{iri_itself}
use Rattle.rdf_thin.specs.Thinned.{is_redundant, words_beside, words_beside_type}

-- types that OWL 2 has no word for
abbrev pub old_types : List (List ℕ)
old_types = rdf (codes "List") ∷ rdfs (codes "Class") ∷ rdf (codes "Property") ∷ []

old_reserved : list_all (λ class. not (may_be_declared kind.Class class)) old_types ≡ true
unfolding may_be_declared is_reserved is_built_in encode
old_reserved = refl

pub old_no_class : (class : List ℕ) → Contains old_types class → may_be_declared kind.Class class ≡ true → ⊥
old_no_class class m h =
    both_ways (may_be_declared kind.Class class) (not-true _ (passes (λ other. not (may_be_declared kind.Class other)) old_types class old_reserved m)) h

no_old_word : (w : Word) → list_any (λ class. bytes_eq class (word_iri w)) old_types ≡ false
unfolding word_iri encode
no_old_word word.Class = refl
no_old_word _ = refl

pub old_no_word : (class : List ℕ) (w : Word) → Contains old_types class → class ≡ word_iri w → ⊥
old_no_word class w m e =
    both_ways (list_any (λ other. bytes_eq other (word_iri w)) old_types) (no_old_word w)
    (any_from (λ other. bytes_eq other (word_iri w)) old_types class m ((bytes_eq-Decides class (word_iri w)).1 e))

-- the triple is a type, and its subject has another with a word beside which such a type is redundant
pub record IsRedundant (g : List Triple) (t : Triple) : Type 0 where
  pub type : t.predicate ≡ type_iri
  pub word : Word
  pub among : Contains (words_beside_type t.subject t.object) word
  pub beside : Triple
  pub inside : Contains g beside
  pub subject : beside.subject ≡ t.subject
  pub carried : carries word beside ≡ true

pub redundant : (g : List Triple) (t : Triple) → is_redundant g t ≡ true → IsRedundant g t
unfolding is_redundant
redundant g t h =
    let words = words_beside_type t.subject t.object in
    let parts = and_parts (bytes_eq t.predicate type_iri) (list_any (carries_some words) (of_subject g t.subject)) h in
    let u = some_passes (carries_some words) (of_subject g t.subject) parts.1 in
    let w = some_passes (λ v. carries v u.element) words u.passes in
    let at = from_subject g t.subject u.element u.inside in
    record {
      type = (bytes_eq-Decides t.predicate type_iri).0 parts.0;
      word = w.element;
      among = w.inside;
      beside = u.element;
      inside = at.0;
      subject = at.1;
      carried = w.passes;
    }

-- an old type of any term, or that of a class or of an object property of a blank node
pub data IsBeside (x y : Term) (w : Word) : Type 0 where
  old : (class : List ℕ) → Contains old_types class → y ≡ Iri class → IsBeside x y w
  restriction : is_blank x ≡ true → y ≡ Iri (word_iri word.Class) → w ≡ word.Restriction → IsBeside x y w
  inverse : is_blank x ≡ true → y ≡ Iri (word_iri word.ObjectProperty) → IsBeside x y w

-- which of the five tests found the word
by_test : (a b c d e : Bool) (ls ms ns : List Word) (w : Word) → Contains (cond a ls (cond b ms (cond c ns (cond d (word.Restriction ∷ []) (cond e (word.InverseOf ∷ []) []))))) w → ((a ≡ true) ⊎ ((b ≡ true) ⊎ (c ≡ true))) ⊎ (((d ≡ true) × (w ≡ word.Restriction)) ⊎ (e ≡ true))
by_test true b c d e ls ms ns w m = inl (inl refl)
by_test false true c d e ls ms ns w m = inl (inr (inl refl))
by_test false false true d e ls ms ns w m = inl (inr (inr refl))
by_test false false false true e ls ms ns w m =
    elim (in_cases word.Restriction [] w m) [ inl s ↦ inr (inl (refl, sym s)) | inr z ↦ absurd (in_none w z) ]
by_test false false false false true ls ms ns w m = inr (inr refl)
by_test false false false false false ls ms ns w m = absurd (in_none w m)

in_old : (class other : List ℕ) → Contains old_types other → bytes_eq class other ≡ true → Contains old_types class
in_old class other m h = subst (λ (l : List ℕ). Contains old_types l) (sym ((bytes_eq-Decides class other).0 h)) m

pub beside_type : (x y : Term) (w : Word) → Contains (words_beside_type x y) w → IsBeside x y w
unfolding words_beside
beside_type x (Iri class) w m =
    let list = rdf (codes "List") in
    let classes = rdfs (codes "Class") in
    let property = rdf (codes "Property") in
    let is_iri_of : Word → Bool = λ v. bytes_eq class (word_iri v) in
    elim (by_test (is_blank x && bytes_eq class list) (bytes_eq class classes) (bytes_eq class property) (is_blank x && is_iri_of word.Class) (is_blank x && is_iri_of word.ObjectProperty) (word.First ∷ []) (word.Class ∷ word.Datatype ∷ word.Restriction ∷ []) (word.ObjectProperty ∷ word.DatatypeProperty ∷ word.AnnotationProperty ∷ []) w m) [
      | inl o ↦
          elim o [
            | inl h ↦ old class (in_old class list (in_head list (classes ∷ property ∷ [])) (and_parts (is_blank x) (bytes_eq class list) h).1) refl
            | inr i ↦
                elim i [
                  | inl h ↦ old class (in_old class classes (in_tail list (classes ∷ property ∷ []) classes (in_head classes (property ∷ []))) h) refl
                  | inr h ↦ old class (in_old class property (in_tail list (classes ∷ property ∷ []) property (in_tail classes (property ∷ []) property (in_head property []))) h) refl
                ]
          ]
      | inr o ↦
          elim o [
            | inl h ↦
                let both = and_parts (is_blank x) (is_iri_of word.Class) h.0 in
                restriction both.0 (ap Iri ((bytes_eq-Decides class (word_iri word.Class)).0 both.1)) h.1
            | inr h ↦
                let both = and_parts (is_blank x) (is_iri_of word.ObjectProperty) h in
                inverse both.0 (ap Iri ((bytes_eq-Decides class (word_iri word.ObjectProperty)).0 both.1))
          ]
    ]
beside_type x (Blank label) w m = absurd (in_none w m)
beside_type x (Literal literal) w m = absurd (in_none w m)

-- a type with a word has that for its object

types_by_arcs : (w : Word) → bytes_eq (arc_iri w) type_iri ≡ is_type w
unfolding is_type word_iri encode
types_by_arcs word.Class = refl
types_by_arcs _ = refl

pub word_object : (w : Word) (t : Triple) → carries w t ≡ true → t.predicate ≡ type_iri → t.object ≡ Iri (word_iri w)
word_object w t c e =
    typed_object w t (sym (types_by_arcs w) ∙ (bytes_eq-Decides (arc_iri w) type_iri).1 (sym (predicate_of w t c) ∙ e)) c

-- and with the object of a class, or of an object property, it carries that word

class_carried : (x : Term) → carries word.Class (link x type_iri (Iri (word_iri word.Class))) ≡ true
unfolding carries is_type word_iri word_number encode
class_carried x = refl

property_carried : (x : Term) → carries word.ObjectProperty (link x type_iri (Iri (word_iri word.ObjectProperty))) ≡ true
unfolding carries is_type word_iri word_number encode
property_carried x = refl

pub carries_class : (t : Triple) → t.predicate ≡ type_iri → t.object ≡ Iri (word_iri word.Class) → carries word.Class t ≡ true
carries_class t e at = (λ i. carries word.Class (link t.subject (e i) (at i))) ∙ class_carried t.subject

pub carries_property : (t : Triple) → t.predicate ≡ type_iri → t.object ≡ Iri (word_iri word.ObjectProperty) → carries word.ObjectProperty t ≡ true
carries_property t e at = (λ i. carries word.ObjectProperty (link t.subject (e i) (at i))) ∙ property_carried t.subject

-- no node is of a row with both the type of a class and that of a restriction

rows_apart : list_all (λ r. nat_eq (times word.Class r.parts) 0 || nat_eq (times word.Restriction r.parts) 0) node_rows ≡ true
unfolding node_rows word_number
rows_apart = refl

class_words : list_any (is_word word.Class) (words_of role.Class) && list_any (is_word word.Restriction) (words_of role.Class) ≡ true
unfolding words_of word_number
class_words = refl

module _ (g : List Triple) (x : Term) (is : role.Class ≡ role_of g x) (has : HasRow g node_rows x) where
  -- a word of a class stands as often in the row as the node has it
  counted : (w : Word) (t : Triple) → Contains (words_of role.Class) w → Contains g t → t.subject ≡ x → carries w t ≡ true → 1 ≤ times w has.row.parts
  counted w t i m at c =
      let among = subst (λ (r : Role). Contains (words_of r) w) is i in
      let same = same_at (λ v. length (chosen g x v)) (λ v. times v has.row.parts) (words_of (role_of g x)) w has.fits.1 among in
      let some = one_at_least (chosen g x w) t.object (in_chosen g x w t m at c) in
      omega (arith, same, some)

  pub no_class_restriction : (t u : Triple) → Contains g t → t.subject ≡ x → carries word.Class t ≡ true → Contains g u → u.subject ≡ x → carries word.Restriction u ≡ true → ⊥
  unfolding words_of
  no_class_restriction t u m at c n by r =
      let one = counted word.Class t (0, omega arith, refl) m at c in
      let other = counted word.Restriction u (1, omega arith, refl) n by r in
      elim (or_cases (nat_eq (times word.Class has.row.parts) 0) (nat_eq (times word.Restriction has.row.parts) 0) (passes (λ q. nat_eq (times word.Class q.parts) 0 || nat_eq (times word.Restriction q.parts) 0) node_rows has.row rows_apart has.among)) [
        | inl e ↦ let none = eqb-true (times word.Class has.row.parts) 0 e in omega (arith, one, none)
        | inr e ↦ let none = eqb-true (times word.Restriction has.row.parts) 0 e in omega (arith, other, none)
      ]

-- The one row of the axioms that a class asserts, and the one of declarations of object properties.

abbrev class_row : Row
class_row = record { tag = tag.ClassAssertion; site = OtherType; parts = record { place = Object; want = One sort.ClassExpression } ∷ record { place = Subject; want = One sort.Individual } ∷ [] }

abbrev property_row : Row
property_row = record { tag = tag.Declaration; site = TypedBy word.ObjectProperty; parts = record { place = Subject; want = Declared tag.ObjectProperty } ∷ [] }

class_rows : filter (λ r. is_site r.site OtherType) axiom_rows ≡ class_row ∷ []
unfolding axiom_rows
class_rows = refl

property_rows : filter (λ r. is_site r.site (TypedBy word.ObjectProperty)) axiom_rows ≡ property_row ∷ []
unfolding axiom_rows word_number
property_rows = refl

only_row : (site : Site) (row r : Row) → filter (λ q. is_site q.site site) axiom_rows ≡ row ∷ [] → Contains axiom_rows r → r.site ≡ site → row ≡ r
only_row site row r one m e =
    let among = subst (λ (rows : List Row). Contains rows r) one (in_filter (λ q. is_site q.site site) axiom_rows r m (ap (λ (s : Site). is_site s site) e ∙ own_site site)) in
    elim (in_cases row [] r among) [ inl s ↦ s | inr z ↦ absurd (in_none r z) ]

property_site : (x : Term) → site_of (link x type_iri (Iri (word_iri word.ObjectProperty))) ≡ TypedBy word.ObjectProperty
unfolding axiom_types word_number
property_site x = typed_site word.ObjectProperty refl x

class_kind : (g : List Triple) (k : List Entity) (iri : List ℕ) (t : Tree) → simple g k sort.ClassExpression (Iri iri) ≡ Some t → has_kind k kind.Class iri ≡ true
unfolding simple
class_kind g k iri t e = so (has_kind k kind.Class iri) (iri_leaf tag.Class iri) t e

no_blank_entity : (k : List Entity) (a : Tag) (x : Term) (u : Tree) → declared_entity k a x ≡ Some u → is_blank x ≡ true → ⊥
unfolding declared_entity
no_blank_entity k a (Iri iri) u e h = both_ways false refl h
no_blank_entity k a (Blank label) u e h = none-some u e
no_blank_entity k a (Literal literal) u e h = both_ways false refl h

no_blank_declared : (g : List Triple) (k : List Entity) (a : Tag) (x : Term) (ts : List Tree) → Denotes g k x (Declared a) ts → is_blank x ≡ true → ⊥
no_blank_declared g k _ _ _ (by_declaration a x u e) h = no_blank_entity k a x u e h

module _ (g : List Triple) (k : List Entity) (t : Triple) (type : t.predicate ≡ type_iri) (a : Tag) (ts : List Tree) (said : IsAxiomWith g k (of_triple t) a ts) where
  held : (site : Site) (row : Row) → filter (λ q. is_site q.site site) axiom_rows ≡ row ∷ [] → site_of t ≡ site → Holds g k (of_triple t) row.parts ts
  held site row one e =
      subst (λ (r : Row). Holds g k (of_triple t) r.parts ts) (sym (only_row site row said.row one said.among (said.fits ∙ e))) said.parts

  -- a type that is no word is a class
  pub type_is_class : (class : List ℕ) → t.object ≡ Iri class → ((w : Word) → class ≡ word_iri w → ⊥) → has_kind k kind.Class class ≡ true
  type_is_class class at none =
      let site : site_of t ≡ OtherType =
      (λ i. site_of (link t.subject (type i) (at i))) ∙ other_type_site t.subject (Iri class) (λ w m e. none w (same_iri_term class (word_iri w) e)) in
      let first = parts_are g k (of_triple t) (record { place = Object; want = One sort.ClassExpression }) (record { place = Subject; want = One sort.Individual } ∷ []) ts (held OtherType class_row class_rows site) in
      let same : first.x ≡ Iri class = sym (same_only t.object first.x first.one) ∙ at in
      let itself = iri_itself g k sort.ClassExpression class first.us (subst (λ (x : Term). Denotes g k x (One sort.ClassExpression) first.us) same first.denotes) in
      class_kind g k class itself.0 itself.1

  -- no blank node is declared as an object property
  pub no_blank_property : t.object ≡ Iri (word_iri word.ObjectProperty) → is_blank t.subject ≡ true → ⊥
  no_blank_property at blank =
      let site : site_of t ≡ TypedBy word.ObjectProperty = (λ i. site_of (link t.subject (type i) (at i))) ∙ property_site t.subject in
      let first = parts_are g k (of_triple t) (record { place = Subject; want = Declared tag.ObjectProperty }) [] ts (held (TypedBy word.ObjectProperty) property_row property_rows site) in
      no_blank_declared g k tag.ObjectProperty first.x first.us first.denotes (ap is_blank (sym (same_only t.subject first.x first.one)) ∙ blank)
