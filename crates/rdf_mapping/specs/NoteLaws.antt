-- A node of an entry reifies the triple of its entry alone, and has its annotations.
use Rattle.std.proofs.Common.{◌≡◌, ◌≤◌, ◌+◌, ◌⊎◌, ℕ, Bool, true, false, cond, List, [], ◌∷◌, ◌++◌, length, length-append, inl, inr, refl, sym, ap, ◌∙◌, subst, arith}
use lib.Utf8.{encode}
use Rattle.std.specs.Prelude.{◌↔◌, Contains, map, not, ◌&&◌, ◌||◌}
use Rattle.std.specs.List.{filter, list_all, list_any}
use Rattle.std.proofs.lemmas.Bool.{and_from, and_parts, both_ways, cases_Bool, or_cases, or_left}
use Rattle.std.proofs.lemmas.List.{length-map}
use Rattle.std.proofs.lemmas.List.Elements.{Contains-append_cases, Contains-append_left, Contains-append_right}
use Rattle.owl_list.specs.Ascending.{AreApart}
use Rattle.owl_list.proofs.AscendingLaws.{in_cases, in_head, in_none}
use Rattle.rdf_graph.specs.declared.term.Term.{Term}
use Rattle.rdf_graph.specs.declared.term.Term.TheVariants.{Iri}
use Rattle.rdf_graph.specs.declared.triple.Triple.{Triple}
use Rattle.rdf_meaning.specs.declared.role.Role.{Role}
use Rattle.rdf_meaning.specs.declared.role.Role.TheVariants as role
use Rattle.rdf_meaning.specs.declared.word.Word.{Word}
use Rattle.rdf_meaning.specs.declared.word.Word.TheVariants as word
use Rattle.owl_list.proofs.FilterLaws.{from_filter, in_filter}
use Rattle.rdf_meaning.proofs.ListLaws.{passes, some_passes}
use Rattle.rdf_meaning.proofs.NodeLaws.{from_subject, in_subject, own_term, same_iri_term, same_term}
use Rattle.rdf_meaning.specs.Nodes.{carries, carries_some, chosen, first_role, is_facet, is_same, is_own, is_structural, marked_roles, marks_role, of_subject, role_of, words_of}
use Rattle.rdf_meaning.specs.Statements.{notes_of, reifies}
use Rattle.rdf_meaning.specs.Words.{is_type, word_iri, word_number}
use Rattle.rdf_mapping.specs.Forms.{link}
use Rattle.rdf_mapping.specs.Frames.{IsAny, IsOfNode, IsOwn, by_word, is_node_word}
use Rattle.rdf_mapping.specs.Notes.{Notes, no_notes, note, reifying}
use Rattle.rdf_mapping.specs.OwnLaws.{chosen_own, marks_of_node, role_own}
use Rattle.rdf_mapping.specs.Entries.{AreBeside, Entry, IsSaid, entry_node, entry_triples, note_links}

-- lists of which no element passes a test

module _ {X : Type 0} (test : X → Bool) where
  nothing : (xs : List X) → ((x : X) → Contains xs x → ⊥) → xs ≡ []
  nothing [] h = refl
  nothing (x ∷ xs) h = absurd (h x (in_head x xs))

  filter_none : (xs : List X) → ((x : X) → Contains xs x → test x ≡ true → ⊥) → filter test xs ≡ []
  filter_none xs h = nothing (filter test xs) (λ x m. let k = from_filter test xs x m in h x k.inside k.passes)

  any_none : (xs : List X) → ((x : X) → Contains xs x → test x ≡ true → ⊥) → list_any test xs ≡ false
  any_none xs h =
      elim (cases_Bool (list_any test xs)) [
        | inl t ↦ let p = some_passes test xs t in absurd (h p.element p.inside p.passes)
        | inr f ↦ f
      ]

  filter_first : (xs ys : List X) → ((x : X) → Contains ys x → test x ≡ true → ⊥) → filter test (xs ++ ys) ≡ filter test xs
  filter_first [] ys h = filter_none ys h
  filter_first (x ∷ xs) ys h = ap (λ (zs : List X). cond (test x) (x ∷ zs) zs) (filter_first xs ys h)

  any_first : (xs ys : List X) → ((x : X) → Contains ys x → test x ≡ true → ⊥) → list_any test (xs ++ ys) ≡ list_any test xs
  any_first [] ys h = any_none ys h
  any_first (x ∷ xs) ys h = ap (λ (b : Bool). test x || b) (any_first xs ys h)

-- annotations make no node what it is

of_predicate : (x : Term) (p : List ℕ) (v : Term) (t : Triple) → link x p v ≡ t → t.predicate ≡ p
of_predicate x p v t e = ap (λ (u : Triple). u.predicate) (sym e)

pub beside_links : (x : Term) (ns : Notes) (t : Triple) → AreBeside ns → Contains (note_links x ns) t → IsOfNode t → ⊥
beside_links x no_notes t b m k = in_none t m
beside_links x (note p v inside more) t b m k =
    elim (in_cases (link x p v) (note_links x more) t m) [ inl e ↦ b.0 t (of_predicate x p v t e) k | inr n ↦ beside_links x more t b.1 n k ]

-- the marks of a reification, and the objects that its words choose

axiom_marks : (x : Term) (t : Triple) → filter (λ r. list_any (marks_role r) (reifying word.Axiom x t)) marked_roles ≡ role.Note ∷ []
unfolding marks_role carries is_type word_iri word_number is_facet encode
axiom_marks x t = refl

annotation_marks : (x : Term) (t : Triple) → filter (λ r. list_any (marks_role r) (reifying word.Annotation x t)) marked_roles ≡ role.Note ∷ []
unfolding marks_role carries is_type word_iri word_number is_facet encode
annotation_marks x t = refl

note_marks : (w : Word) (x : Term) (t : Triple) → (w ≡ word.Axiom) ⊎ (w ≡ word.Annotation) → filter (λ r. list_any (marks_role r) (reifying w x t)) marked_roles ≡ role.Note ∷ []
note_marks w x t (inl e) = ap (λ (v : Word). filter (λ r. list_any (marks_role r) (reifying v x t)) marked_roles) e ∙ axiom_marks x t
note_marks w x t (inr e) = ap (λ (v : Word). filter (λ r. list_any (marks_role r) (reifying v x t)) marked_roles) e ∙ annotation_marks x t

axiom_words : (x : Term) (t : Triple) → list_all (carries_some (words_of role.Note)) (reifying word.Axiom x t) ≡ true
unfolding words_of carries is_type word_iri word_number encode
axiom_words x t = refl

annotation_words : (x : Term) (t : Triple) → list_all (carries_some (words_of role.Note)) (reifying word.Annotation x t) ≡ true
unfolding words_of carries is_type word_iri word_number encode
annotation_words x t = refl

note_words : (w : Word) (x : Term) (t : Triple) → (w ≡ word.Axiom) ⊎ (w ≡ word.Annotation) → list_all (carries_some (words_of role.Note)) (reifying w x t) ≡ true
note_words w x t (inl e) = subst (λ (v : Word). list_all (carries_some (words_of role.Note)) (reifying v x t) ≡ true) (sym e) (axiom_words x t)
note_words w x t (inr e) = subst (λ (v : Word). list_all (carries_some (words_of role.Note)) (reifying v x t) ≡ true) (sym e) (annotation_words x t)

sources : (w : Word) (x : Term) (t : Triple) → filter (carries word.AnnotatedSource) (reifying w x t) ≡ link x (word_iri word.AnnotatedSource) t.subject ∷ []
unfolding carries is_type word_iri word_number encode
sources w x t = refl

properties : (w : Word) (x : Term) (t : Triple) → filter (carries word.AnnotatedProperty) (reifying w x t) ≡ link x (word_iri word.AnnotatedProperty) (Iri t.predicate) ∷ []
unfolding carries is_type word_iri word_number encode
properties w x t = refl

targets : (w : Word) (x : Term) (t : Triple) → filter (carries word.AnnotatedTarget) (reifying w x t) ≡ link x (word_iri word.AnnotatedTarget) t.object ∷ []
unfolding carries is_type word_iri word_number encode
targets w x t = refl

abbrev type_count : Word → Term → Triple → ℕ
type_count w x t = length (filter (carries word.Axiom) (reifying w x t)) + length (filter (carries word.Annotation) (reifying w x t))

axiom_count : (x : Term) (t : Triple) → type_count word.Axiom x t ≡ 1
unfolding carries is_type word_iri word_number encode
axiom_count x t = refl

annotation_count : (x : Term) (t : Triple) → type_count word.Annotation x t ≡ 1
unfolding carries is_type word_iri word_number encode
annotation_count x t = refl

one_type : (w : Word) (x : Term) (t : Triple) → (w ≡ word.Axiom) ⊎ (w ≡ word.Annotation) → type_count w x t ≡ 1
one_type w x t (inl e) = subst (λ (v : Word). type_count v x t ≡ 1) (sym e) (axiom_count x t)
one_type w x t (inr e) = subst (λ (v : Word). type_count v x t ≡ 1) (sym e) (annotation_count x t)

axiom_is_word : is_node_word word.Axiom ≡ true
unfolding is_node_word word_number words_of
axiom_is_word = refl

annotation_is_word : is_node_word word.Annotation ≡ true
unfolding is_node_word word_number words_of
annotation_is_word = refl

all_node_words : list_all is_node_word (words_of role.Note) ≡ true
unfolding words_of is_node_word word_number
all_node_words = refl

source_is_word : is_node_word word.AnnotatedSource ≡ true
unfolding is_node_word word_number words_of
source_is_word = refl

property_is_word : is_node_word word.AnnotatedProperty ≡ true
unfolding is_node_word word_number words_of
property_is_word = refl

target_is_word : is_node_word word.AnnotatedTarget ≡ true
unfolding is_node_word word_number words_of
target_is_word = refl

structural_is : (g : List Triple) (t : Triple) → role_of g t.subject ≡ role.Note → is_structural g t ≡ carries_some (words_of role.Note) t
unfolding is_structural
structural_is g t e = ap (λ (r : Role). is_own r t) e

same_triple : (t u : Triple) → t.subject ≡ u.subject → t.predicate ≡ u.predicate → t.object ≡ u.object → t ≡ u
same_triple t u a b c = λ i. record { subject = a i; predicate = b i; object = c i }

-- the only one of these terms
only_same : (x y : Term) (xs : List Term) → xs ≡ y ∷ [] → list_any (is_same x) xs ≡ true → x ≡ y
only_same x y xs e h =
    elim (or_cases (is_same x y) false (ap (list_any (is_same x)) (sym e) ∙ h)) [ inl s ↦ same_term x y s | inr f ↦ absurd (both_ways false refl f) ]

same_only : (y : Term) (xs : List Term) → xs ≡ y ∷ [] → list_any (is_same y) xs ≡ true
same_only y xs e = ap (list_any (is_same y)) e ∙ or_left (is_same y y) false (own_term y)

-- A node that has exactly the triples of an entry.
module _ (name : ℕ → List ℕ) (g : List Triple) (apart : AreApart g) (e : Entry) (said : IsSaid e) (is : IsOwn IsAny g (entry_node name e) (entry_triples name e)) where
  is_of_node : IsOwn IsOfNode g (entry_node name e) (entry_triples name e)
  is_of_node = record { there = is.there; subject = is.subject; back = λ t i c m. is.back t i tt m }

  beside : (t : Triple) → Contains (note_links (entry_node name e) e.notes) t → IsOfNode t → ⊥
  beside t m k = beside_links (entry_node name e) e.notes t said.beside m k

  -- it is a reification
  pub note_role : role_of g (entry_node name e) ≡ role.Note
  note_role =
      let x = entry_node name e in
      let first : (r : Role) → list_any (marks_role r) (entry_triples name e) ≡ list_any (marks_role r) (reifying e.word x e.triple) = λ r. any_first (marks_role r) (reifying e.word x e.triple) (note_links x e.notes) (λ t m h. beside t m (marks_of_node r t h)) in
      role_own g (name e.number) (entry_triples name e) is_of_node
      ∙ ap (λ (f : Role → Bool). first_role (filter f marked_roles)) (λ i. λ r. first r i)
      ∙ ap first_role (note_marks e.word x e.triple said.word)

  chosen_one : (w : Word) (t : Triple) → is_node_word w ≡ true → filter (carries w) (reifying e.word (entry_node name e) e.triple) ≡ t ∷ [] → chosen g (entry_node name e) w ≡ t.object ∷ []
  chosen_one w t n h =
      let x = entry_node name e in
      let one = filter_first (carries w) (reifying e.word x e.triple) (note_links x e.notes) (λ u m k. beside u m (by_word w n k)) ∙ h in
      let few : length (filter (carries w) (entry_triples name e)) ≤ 1 = omega (arith, ap (λ (ts : List Triple). length ts) one) in
      chosen_own g x (entry_triples name e) is_of_node apart w n few ∙ ap (map (λ (u : Triple). u.object)) one

  pub source_is : chosen g (entry_node name e) word.AnnotatedSource ≡ e.triple.subject ∷ []
  source_is = let x = entry_node name e in chosen_one word.AnnotatedSource (link x (word_iri word.AnnotatedSource) e.triple.subject) source_is_word (sources e.word x e.triple)

  pub property_is : chosen g (entry_node name e) word.AnnotatedProperty ≡ Iri e.triple.predicate ∷ []
  property_is = let x = entry_node name e in chosen_one word.AnnotatedProperty (link x (word_iri word.AnnotatedProperty) (Iri e.triple.predicate)) property_is_word (properties e.word x e.triple)

  pub target_is : chosen g (entry_node name e) word.AnnotatedTarget ≡ e.triple.object ∷ []
  target_is = let x = entry_node name e in chosen_one word.AnnotatedTarget (link x (word_iri word.AnnotatedTarget) e.triple.object) target_is_word (targets e.word x e.triple)

  chosen_few : (w : Word) → is_node_word w ≡ true → length (filter (carries w) (reifying e.word (entry_node name e) e.triple)) ≤ 1 → length (chosen g (entry_node name e) w) ≡ length (filter (carries w) (reifying e.word (entry_node name e) e.triple))
  chosen_few w n h =
      let x = entry_node name e in
      let one = filter_first (carries w) (reifying e.word x e.triple) (note_links x e.notes) (λ u m k. beside u m (by_word w n k)) in
      let few : length (filter (carries w) (entry_triples name e)) ≤ 1 = omega (arith, ap (λ (ts : List Triple). length ts) one, h) in
      ap (λ (ys : List Term). length ys) (chosen_own g x (entry_triples name e) is_of_node apart w n few)
      ∙ length-map (filter (carries w) (entry_triples name e)) (λ (u : Triple). u.object)
      ∙ ap (λ (ts : List Triple). length ts) one

  -- it has one type
  pub one_type_chosen : length (chosen g (entry_node name e) word.Axiom ++ chosen g (entry_node name e) word.Annotation) ≡ 1
  one_type_chosen =
      let x = entry_node name e in
      let count = one_type e.word x e.triple said.word in
      let first = chosen_few word.Axiom axiom_is_word (omega (arith, count)) in
      let second = chosen_few word.Annotation annotation_is_word (omega (arith, count)) in
      omega (arith, length-append (chosen g x word.Axiom) (chosen g x word.Annotation), first, second, count)

  reifies_to : (t : Triple) → reifies g (entry_node name e) t ≡ true → e.triple ≡ t
  unfolding reifies
  reifies_to t h =
      let x = entry_node name e in
      let outer = and_parts (list_any (is_same t.subject) (chosen g x word.AnnotatedSource) && list_any (is_same (Iri t.predicate)) (chosen g x word.AnnotatedProperty)) (list_any (is_same t.object) (chosen g x word.AnnotatedTarget)) h in
      let inner = and_parts (list_any (is_same t.subject) (chosen g x word.AnnotatedSource)) (list_any (is_same (Iri t.predicate)) (chosen g x word.AnnotatedProperty)) outer.0 in
      let subject = only_same t.subject e.triple.subject (chosen g x word.AnnotatedSource) source_is inner.0 in
      let predicate = only_same (Iri t.predicate) (Iri e.triple.predicate) (chosen g x word.AnnotatedProperty) property_is inner.1 in
      let object = only_same t.object e.triple.object (chosen g x word.AnnotatedTarget) target_is outer.1 in
      same_triple e.triple t (sym subject) (sym (same_iri_term t.predicate e.triple.predicate predicate)) (sym object)

  reifies_own : reifies g (entry_node name e) e.triple ≡ true
  unfolding reifies
  reifies_own =
      let x = entry_node name e in
      and_from (list_any (is_same e.triple.subject) (chosen g x word.AnnotatedSource) && list_any (is_same (Iri e.triple.predicate)) (chosen g x word.AnnotatedProperty)) (list_any (is_same e.triple.object) (chosen g x word.AnnotatedTarget))
      (and_from (list_any (is_same e.triple.subject) (chosen g x word.AnnotatedSource)) (list_any (is_same (Iri e.triple.predicate)) (chosen g x word.AnnotatedProperty)) (same_only e.triple.subject (chosen g x word.AnnotatedSource) source_is) (same_only (Iri e.triple.predicate) (chosen g x word.AnnotatedProperty) property_is))
      (same_only e.triple.object (chosen g x word.AnnotatedTarget) target_is)

  -- it reifies the triple of its entry, and no other
  pub reifies_entry : (t : Triple) → (reifies g (entry_node name e) t ≡ true) ↔ (e.triple ≡ t)
  reifies_entry t = (reifies_to t, λ i. subst (λ (u : Triple). reifies g (entry_node name e) u ≡ true) i reifies_own)

  structural_at : (t : Triple) → t.subject ≡ entry_node name e → is_structural g t ≡ carries_some (words_of role.Note) t
  structural_at t i = structural_is g t (ap (role_of g) i ∙ note_role)

  -- what makes it so is structural
  pub reifying_structural : (t : Triple) → Contains (reifying e.word (entry_node name e) e.triple) t → is_structural g t ≡ true
  reifying_structural t m =
      let x = entry_node name e in
      structural_at t (is.subject t (Contains-append_left (reifying e.word x e.triple) (note_links x e.notes) t m))
      ∙ passes (carries_some (words_of role.Note)) (reifying e.word x e.triple) t (note_words e.word x e.triple said.word) m

  notes_to : (t : Triple) → Contains (notes_of g (entry_node name e)) t → Contains (note_links (entry_node name e) e.notes) t
  unfolding notes_of
  notes_to t m =
      let x = entry_node name e in
      let k = from_filter (λ u. not (is_structural g u)) (of_subject g x) t m in
      let at = from_subject g x t k.inside in
      elim (Contains-append_cases (reifying e.word x e.triple) (note_links x e.notes) t (is.back t at.1 tt at.0)) [
        | inl a ↦
            let own = structural_at t at.1 ∙ passes (carries_some (words_of role.Note)) (reifying e.word x e.triple) t (note_words e.word x e.triple said.word) a in
            absurd (both_ways false refl (sym (ap not own) ∙ k.passes))
        | inr b ↦ b
      ]

  notes_from : (t : Triple) → Contains (note_links (entry_node name e) e.notes) t → Contains (notes_of g (entry_node name e)) t
  unfolding notes_of
  notes_from t m =
      let x = entry_node name e in
      let inside = Contains-append_right (reifying e.word x e.triple) (note_links x e.notes) t m in
      let at = is.subject t inside in
      in_filter (λ u. not (is_structural g u)) (of_subject g x) t (in_subject g x t (is.there t inside) at)
      (elim (cases_Bool (is_structural g t)) [
        | inl h ↦
            let p = some_passes (λ w. carries w t) (words_of role.Note) (sym (structural_at t at) ∙ h) in
            absurd (beside t m (by_word p.element (passes is_node_word (words_of role.Note) p.element all_node_words p.inside) p.passes))
        | inr f ↦ ap not f
      ])

  -- its annotations are those of its entry
  pub notes_entry : (t : Triple) → Contains (notes_of g (entry_node name e)) t ↔ Contains (note_links (entry_node name e) e.notes) t
  notes_entry t = (notes_to t, notes_from t)
