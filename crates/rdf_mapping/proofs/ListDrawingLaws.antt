-- A list that is drawn denotes what its elements denote.
use Rattle.std.proofs.Common.{◌≡◌, ◌≤◌, ◌+◌, ℕ, suc, Bool, true, false, cond, List, [], ◌∷◌, ◌++◌, length, inl, inr, refl, ap, ◌∙◌, arith}
use Rattle.std.specs.Prelude.{map, min, not, ◌||◌, nat_le}
use Rattle.std.specs.List.{AllByRecursion}
use Rattle.std.specs.Str.{bytes_eq}
use Rattle.std.proofs.lemmas.Bool.{and_from, both_ways, cases_Bool, cond-false, cond-true, leb-false, or_left, or_right}
use Rattle.std.proofs.lemmas.Slice.Eq.{bytes_eq-Decides}
use Rattle.owl_kind.specs.Kinds.{Entity}
use Rattle.owl_list.specs.Ascending.{AreApart}
use Rattle.owl_list.proofs.AscendingLaws.{in_head, in_tail}
use Rattle.owl_tree.specs.declared.row.Sort.{Sort}
use Rattle.owl_tree.specs.declared.tag.Tag.TheVariants as tag
use Rattle.owl_tree.specs.Trees.{Tree}
use Rattle.rdf_graph.specs.declared.term.Term.{Term}
use Rattle.rdf_graph.specs.declared.term.Term.TheVariants.{Iri, Blank}
use Rattle.rdf_graph.specs.declared.triple.Triple.{Triple}
use Rattle.rdf_meaning.specs.declared.role.Role.TheVariants as role
use Rattle.rdf_meaning.specs.declared.row.Place.TheVariants.{At}
use Rattle.rdf_meaning.specs.declared.row.Site.TheVariants.{Node}
use Rattle.rdf_meaning.specs.declared.row.Want.TheVariants.{One, Many}
use Rattle.rdf_meaning.specs.declared.word.Word.{Word}
use Rattle.rdf_meaning.specs.declared.word.Word.TheVariants as word
use Rattle.rdf_meaning.specs.Denotation.{Denotes, Lists, by_list, cell, no_cell}
use Rattle.rdf_meaning.proofs.NodeLaws.{own_term}
use Rattle.rdf_meaning.specs.Nodes.{carries, chosen, is_iri, is_same, is_word, nil_iri, role_of, type_iri, words_of}
use Rattle.rdf_meaning.specs.Rows.{Row}
use Rattle.rdf_meaning.specs.Words.{is_type, word_iri, word_number}
use Rattle.rdf_mapping.specs.Forms.{twice, no_arcs, arc, blank, first_iri, link, list_form, nodes, rest_iri, term_of, triples}
use Rattle.rdf_mapping.specs.Drawing.{arc_iri, form_of, listed}
use Rattle.rdf_mapping.specs.Frames.{AreNamedApart, IsOfNode, IsOwn, Keeps, is_node_word}
use Rattle.rdf_mapping.specs.FormLaws.{made_kept, twice_kept}
use Rattle.rdf_mapping.specs.Spelling.{SpellParts}
use Rattle.rdf_mapping.proofs.SpellingLaws.{role_is, select_one}
use Rattle.rdf_mapping.specs.Written.{IsDrawn, doubled, written}

-- A link carries its word.

pub carries_link : (w : Word) (x o : Term) → (is_type w ≡ true → o ≡ Iri (word_iri w)) → (is_word w word.InverseOf ≡ true → is_iri o ≡ true) → carries w (link x (arc_iri w) o) ≡ true
unfolding carries
carries_link w x o class inverse =
    elim (cases_Bool (is_type w)) [
      | inl a ↦
          cond-true (is_type w) _ _ a
          ∙ and_from (bytes_eq (arc_iri w) type_iri) (is_same o (Iri (word_iri w)))
          ((bytes_eq-Decides (arc_iri w) type_iri).1 (cond-true (is_type w) type_iri (word_iri w) a))
          (ap (λ (y : Term). is_same y (Iri (word_iri w))) (class a) ∙ own_term (Iri (word_iri w)))
      | inr a ↦
          cond-false (is_type w) _ _ a
          ∙ and_from (bytes_eq (arc_iri w) (word_iri w)) (not (is_word w word.InverseOf) || is_iri o)
          ((bytes_eq-Decides (arc_iri w) (word_iri w)).1 (cond-false (is_type w) type_iri (word_iri w) a))
          (elim (cases_Bool (is_word w word.InverseOf)) [
            | inl i ↦ or_right (not (is_word w word.InverseOf)) (is_iri o) (inverse i)
            | inr n ↦ or_left (not (is_word w word.InverseOf)) (is_iri o) (ap not n)
          ])
    ]

carries_first : (x o : Term) → carries word.First (link x first_iri o) ≡ true
unfolding is_type word_number
carries_first x o = carries_link word.First x o (λ h. absurd (both_ways false refl h)) (λ h. absurd (both_ways false refl h))

carries_rest : (x o : Term) → carries word.Rest (link x rest_iri o) ≡ true
unfolding is_type word_number
carries_rest x o = carries_link word.Rest x o (λ h. absurd (both_ways false refl h)) (λ h. absurd (both_ways false refl h))

-- Cells.

abbrev cell_row : Sort → Row
cell_row s =
    record {
      tag = tag.Notes;
      site = Node role.List;
      parts = record { place = At word.First; want = One s } ∷ record { place = At word.Rest; want = One s } ∷ [];
    }

abbrev cell_triples : Term → Term → Term → List Triple
cell_triples x first rest = link x first_iri first ∷ link x rest_iri rest ∷ []

module _ (g : List Triple) (k : List Entity) (s : Sort) (label : List ℕ) (first rest : Term) (apart : AreApart g) (is : IsOwn IsOfNode g (Blank label) (cell_triples (Blank label) first rest)) where
  spelled : SpellParts (cell_triples (Blank label) first rest) (cell_row s).parts
  spelled = (carries_first (Blank label) first, (carries_rest (Blank label) rest, tt))

  pub cell_role : role_of g (Blank label) ≡ role.List
  unfolding word_number
  cell_role = role_is g k label (cell_triples (Blank label) first rest) (cell_row s) apart is spelled

  pub cell_first : chosen g (Blank label) word.First ≡ first ∷ []
  unfolding word_number is_node_word words_of
  cell_first =
      select_one g k label (cell_triples (Blank label) first rest) (cell_row s) apart is spelled (At word.First) (link (Blank label) first_iri first)
      (carries_first (Blank label) first) (in_head (link (Blank label) first_iri first) (link (Blank label) rest_iri rest ∷ [])) refl

  pub cell_rest : chosen g (Blank label) word.Rest ≡ rest ∷ []
  unfolding word_number is_node_word words_of
  cell_rest =
      select_one g k label (cell_triples (Blank label) first rest) (cell_row s) apart is spelled (At word.Rest) (link (Blank label) rest_iri rest)
      (carries_rest (Blank label) rest)
      (in_tail (link (Blank label) first_iri first) (link (Blank label) rest_iri rest ∷ []) (link (Blank label) rest_iri rest) (in_head (link (Blank label) rest_iri rest) [])) refl

  pub cell_of : (ts us : List Tree) → Denotes g k first (One s) ts → Lists g k rest s us → Lists g k (Blank label) s (ts ++ us)
  cell_of ts us d l = cell s (Blank label) first rest ts us cell_role cell_first cell_rest d l

-- Lists.

module _ (name : ℕ → List ℕ) (most : ℕ) (differ : AreNamedApart name most) (g : List Triple) (k : List Entity) (apart : AreApart g) (s : Sort) where
  pub list_drawn : (ts : List Tree) → AllByRecursion (IsDrawn name most g k s) ts → (n : ℕ) → n + nodes (list_form (map form_of ts)) ≤ most → Keeps name IsOfNode g (triples name (list_form (map form_of ts)) n) n (n + nodes (list_form (map form_of ts))) → Lists g k (term_of name (list_form (map form_of ts)) n) s (map written ts)
  list_drawn [] all n few keeps = no_cell s (Iri nil_iri) refl
  list_drawn (t ∷ ts) all n few keeps =
      let f = form_of t in
      let more = list_form (map form_of ts) in
      let arcs = arc first_iri f (arc rest_iri more no_arcs) in
      let kept = made_kept name most differ IsOfNode g arcs n few keeps in
      cell_of g k s (name n) (term_of name f (suc n)) (term_of name more (suc n + nodes f)) apart kept.own (written t ∷ []) (map written ts)
      (all.0 (suc n) (omega (arith, few)) kept.each.0)
      (list_drawn ts all.1 (suc n + nodes f) (omega (arith, few)) kept.each.1.0)

  pub twice_drawn : (t : Tree) → IsDrawn name most g k s t → (n : ℕ) → n + nodes (twice (form_of t)) ≤ most → Keeps name IsOfNode g (triples name (twice (form_of t)) n) n (n + nodes (twice (form_of t))) → Lists g k (term_of name (twice (form_of t)) n) s (written t ∷ written t ∷ [])
  twice_drawn t drawn n few keeps =
      let f = form_of t in
      let kept = twice_kept name most differ IsOfNode g f n few keeps in
      let element = drawn (suc n) (omega (arith, few)) kept.element in
      cell_of g k s (name n) (term_of name f (suc n)) (blank name (suc n + nodes f)) apart kept.first_own (written t ∷ []) (written t ∷ []) element
      (cell_of g k s (name (suc n + nodes f)) (term_of name f (suc n)) (Iri nil_iri) apart kept.second_own (written t ∷ []) [] element (no_cell s (Iri nil_iri) refl))

  -- a list of which so many are wanted, at most two
  pub listed_drawn : (least : ℕ) (ts : List Tree) → least ≤ 2 → min least 1 ≤ length ts → AllByRecursion (IsDrawn name most g k s) ts → (n : ℕ) → n + nodes (listed least (map form_of ts)) ≤ most → Keeps name IsOfNode g (triples name (listed least (map form_of ts)) n) n (n + nodes (listed least (map form_of ts))) → Denotes g k (term_of name (listed least (map form_of ts)) n) (Many s least) (doubled least (map written ts))
  listed_drawn least [] small enough all n few keeps = by_list s (Iri nil_iri) least [] (omega (arith, enough)) (list_drawn [] all n few keeps)
  listed_drawn least (t ∷ []) small enough all n few keeps = one_drawn (nat_le 2 least) refl few keeps
    where
      one_drawn : (b : Bool) → nat_le 2 least ≡ b → n + nodes (cond b (twice (form_of t)) (list_form (form_of t ∷ []))) ≤ most → Keeps name IsOfNode g (triples name (cond b (twice (form_of t)) (list_form (form_of t ∷ []))) n) n (n + nodes (cond b (twice (form_of t)) (list_form (form_of t ∷ [])))) → Denotes g k (term_of name (cond b (twice (form_of t)) (list_form (form_of t ∷ []))) n) (Many s least) (cond b (written t ∷ written t ∷ []) (written t ∷ []))
      one_drawn true e few keeps = by_list s (blank name n) least (written t ∷ written t ∷ []) small (twice_drawn t all.0 n few keeps)
      one_drawn false e few keeps = by_list s (blank name n) least (written t ∷ []) (omega (arith, leb-false 2 least e)) (list_drawn (t ∷ []) all n few keeps)
  listed_drawn least (t ∷ u ∷ ts) small enough all n few keeps =
      by_list s (blank name n) least (written t ∷ written u ∷ map written ts) (omega (arith, small)) (list_drawn (t ∷ u ∷ ts) all n few keeps)
