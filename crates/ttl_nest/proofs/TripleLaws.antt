-- The triples of a graph's nested form are those of the graph.
use Rattle.std.specs.Prelude.{◌≡◌, ◌⊎◌, ℕ, List, [], ◌∷◌, ◌++◌, Contains}
use Rattle.std.proofs.Common.{inl, inr, sym, ap, ◌∙◌, subst}
use Rattle.owl_list.proofs.AscendingLaws.{in_cases, in_head, in_none, in_tail}
use Rattle.rdf_graph.specs.declared.term.Term.{Term}
use Rattle.rdf_graph.specs.declared.term.Term.TheVariants.{Iri, Blank}
use Rattle.rdf_graph.specs.declared.triple.Triple.{Triple}
use Rattle.rdf_meaning.specs.Nodes.{nil_iri, of_subject}
use Rattle.ttl_levels.proofs.NestLaws.{of_its_subject, own_triple, triple_is}
use Rattle.ttl_levels.specs.Nested.{IsNested, first_iri, rest_iri}
use Rattle.ttl_nested.specs.Forms.{Cells, Form, Line, Pairs}
use Rattle.ttl_nested.specs.Forms.Form.{plain, round, square}
use Rattle.ttl_nested.specs.Forms.Cells.{cell, no_cells}
use Rattle.ttl_nested.specs.Forms.Pairs.{no_pairs, pair}
use Rattle.ttl_nested.proofs.FormLaws.{cells_labels, cells_triples, form_labels, form_term, form_triples, lines_labels, lines_triples, pairs_labels, pairs_triples, triple_of}
use Rattle.ttl_nest.proofs.FormLaws.{first_of_cell, rest_of_cell}
use Rattle.ttl_nest.proofs.Parts.{from_parts, in_front, in_second}
use Rattle.ttl_nest.specs.NestedForm.{AreCellsFrom, AreLinesFor, ArePairsOf, IsFormOf, IsNestedCell}
use Rattle.ttl_nest.specs.NestedForm.AreLinesFor.{inside, no_lines, one_line}

pub form_term_is : (g : List Triple) (form : Form) (x : Term) → IsFormOf g x form → form_term form ≡ x
form_term_is g (plain term) x h = sym h.0
form_term_is g (round label element cells) x h = sym h.2.is
form_term_is g (square label pairs) x h = sym h.0.is

module _ (g : List Triple) where
  -- the first and the rest of a cell, by its label and what is written

  first_is : (x : Term) (label : List ℕ) (first rest : Term) (element : Form) → IsNestedCell g x label first rest → IsFormOf g first element → triple_of (Blank label) first_iri (form_term element) ≡ triple_of x first_iri first
  first_is x label first rest element c h =
      ap (λ (s : Term). triple_of s first_iri (form_term element)) (sym c.is) ∙ ap (λ (o : Term). triple_of x first_iri o) (form_term_is g element first h)

  rest_link : (x : Term) (label : List ℕ) (first rest : Term) → IsNestedCell g x label first rest → Contains g (triple_of (Blank label) rest_iri rest)
  rest_link x label first rest c = subst (λ (s : Term). Contains g (triple_of s rest_iri rest)) c.is (rest_of_cell g x first rest c.cell)

  -- the triples of forms stand in the graph
  mutual
    pub form_triples_in : (form : Form) (x : Term) → IsFormOf g x form → (t : Triple) → Contains (form_triples form) t → Contains g t
    form_triples_in (plain term) x h t m = absurd (in_none t m)
    form_triples_in (round label element cells) x h t m =
        elim (from_parts (form_triples element) (triple_of (Blank label) first_iri (form_term element) ∷ cells_triples label cells) t m) as (λ _. Contains g t) [
          | inl f ↦ form_triples_in element h.0 h.3 t f
          | inr b ↦ elim (in_cases (triple_of (Blank label) first_iri (form_term element)) (cells_triples label cells) t b) as (λ _. Contains g t) [
            | inl e ↦ subst (Contains g) (sym (first_is x label h.0 h.1 element h.2 h.3) ∙ e) (first_of_cell g x h.0 h.1 h.2.cell)
            | inr k ↦ cells_triples_in cells label h.1 h.4 (rest_link x label h.0 h.1 h.2) t k
          ]
        ]
    form_triples_in (square label pairs) x h t m =
        pairs_triples_in pairs label (of_subject g x) h.1 (λ u k. let own = own_triple g x u k in (own.0, own.1 ∙ h.0.is)) t m

    cells_triples_in : (cells : Cells) (last : List ℕ) (x : Term) → AreCellsFrom g x cells → Contains g (triple_of (Blank last) rest_iri x) → (t : Triple) → Contains (cells_triples last cells) t → Contains g t
    cells_triples_in no_cells last x h link t m = elim (in_cases (triple_of (Blank last) rest_iri (Iri nil_iri)) [] t m) as (λ _. Contains g t) [
      | inl e ↦ subst (Contains g) (ap (λ (o : Term). triple_of (Blank last) rest_iri o) h ∙ e) link
      | inr k ↦ absurd (in_none t k)
    ]
    cells_triples_in (cell label element cells) last x h link t m =
        elim (in_cases (triple_of (Blank last) rest_iri (Blank label)) (form_triples element ++ triple_of (Blank label) first_iri (form_term element) ∷ cells_triples label cells) t m) as (λ _. Contains g t) [
          | inl e ↦ subst (Contains g) (ap (λ (o : Term). triple_of (Blank last) rest_iri o) h.2.is ∙ e) link
          | inr n ↦ elim (from_parts (form_triples element) (triple_of (Blank label) first_iri (form_term element) ∷ cells_triples label cells) t n) as (λ _. Contains g t) [
            | inl f ↦ form_triples_in element h.0 h.3 t f
            | inr b ↦ elim (in_cases (triple_of (Blank label) first_iri (form_term element)) (cells_triples label cells) t b) as (λ _. Contains g t) [
              | inl e ↦ subst (Contains g) (sym (first_is x label h.0 h.1 element h.2 h.3) ∙ e) (first_of_cell g x h.0 h.1 h.2.cell)
              | inr k ↦ cells_triples_in cells label h.1 h.4 (rest_link x label h.0 h.1 h.2) t k
            ]
          ]
        ]

    pairs_triples_in : (pairs : Pairs) (label : List ℕ) (ts : List Triple) → ArePairsOf g ts pairs → ((u : Triple) → Contains ts u → Contains g u × (u.subject ≡ Blank label)) → (t : Triple) → Contains (pairs_triples label pairs) t → Contains g t
    pairs_triples_in no_pairs label ts h own t m = absurd (in_none t m)
    pairs_triples_in (pair predicate object more) label [] h own t m = absurd h
    pairs_triples_in (pair predicate object more) label (u ∷ ts) h own t m =
        elim (from_parts (form_triples object) (triple_of (Blank label) predicate (form_term object) ∷ pairs_triples label more) t m) as (λ _. Contains g t) [
          | inl f ↦ form_triples_in object u.object h.1 t f
          | inr b ↦ elim (in_cases (triple_of (Blank label) predicate (form_term object)) (pairs_triples label more) t b) as (λ _. Contains g t) [
            | inl e ↦ let here = own u (in_head u ts) in subst (Contains g) (triple_is u (Blank label) predicate (form_term object) here.1 h.0 (sym (form_term_is g object u.object h.1)) ∙ e) here.0
            | inr k ↦ pairs_triples_in more label ts h.2 (λ v n. own v (in_tail u ts v n)) t k
          ]
        ]

  pub lines_triples_in : (ts : List Triple) (lines : List Line) → AreLinesFor g ts lines → ((u : Triple) → Contains ts u → Contains g u) → (t : Triple) → Contains (lines_triples lines) t → Contains g t
  lines_triples_in _ _ no_lines within t m = absurd (in_none t m)
  lines_triples_in _ _ (inside u ts lines nested more) within t m = lines_triples_in ts lines more (λ v n. within v (in_tail u ts v n)) t m
  lines_triples_in _ _ (one_line u ts line lines is more) within t m =
      elim (from_parts (form_triples line.object) (triple_of line.subject line.predicate (form_term line.object) ∷ lines_triples lines) t m) as (λ _. Contains g t) [
        | inl f ↦ form_triples_in line.object u.object is.object t f
        | inr b ↦ elim (in_cases (triple_of line.subject line.predicate (form_term line.object)) (lines_triples lines) t b) as (λ _. Contains g t) [
          | inl e ↦ subst (Contains g) (triple_is u line.subject line.predicate (form_term line.object) is.subject is.predicate (sym (form_term_is g line.object u.object is.object)) ∙ e) (within u (in_head u ts))
          | inr k ↦ lines_triples_in ts lines more (λ v n. within v (in_tail u ts v n)) t k
        ]
      ]

  -- and the own triples of each node that is not written stand among those of the form

  module _ (label : List ℕ) (t : Triple) (in_g : Contains g t) (subject : t.subject ≡ Blank label) where
    -- of a cell
    own_of_cell : (x : Term) (own : List ℕ) (first rest : Term) → IsNestedCell g x own first rest → own ≡ label → (triple_of x first_iri first ≡ t) ⊎ (triple_of x rest_iri rest ≡ t)
    own_of_cell x own first rest c e =
        let here = of_its_subject g x t in_g (subject ∙ ap Blank (sym e) ∙ sym c.is) in
        let both = subst (λ (ts : List Triple). Contains ts t) c.cell.triples here in
        elim (in_cases (triple_of x first_iri first) (triple_of x rest_iri rest ∷ []) t both) as (λ _. (triple_of x first_iri first ≡ t) ⊎ (triple_of x rest_iri rest ≡ t)) [
          | inl i ↦ inl i
          | inr n ↦ elim (in_cases (triple_of x rest_iri rest) [] t n) as (λ _. (triple_of x first_iri first ≡ t) ⊎ (triple_of x rest_iri rest ≡ t)) [ inl i ↦ inr i | inr k ↦ absurd (in_none t k) ]
        ]

    rest_stands : (cells : Cells) (last : List ℕ) (x : Term) → AreCellsFrom g x cells → Contains (cells_triples last cells) (triple_of (Blank last) rest_iri x)
    rest_stands no_cells last x h = subst (Contains (cells_triples last no_cells)) (ap (λ (o : Term). triple_of (Blank last) rest_iri o) (sym h)) (in_head (triple_of (Blank last) rest_iri (Iri nil_iri)) [])
    rest_stands (cell own element cells) last x h =
        subst (Contains (cells_triples last (cell own element cells))) (ap (λ (o : Term). triple_of (Blank last) rest_iri o) (sym h.2.is))
        (in_head (triple_of (Blank last) rest_iri (Blank own)) (form_triples element ++ triple_of (Blank own) first_iri (form_term element) ∷ cells_triples own cells))

    -- among the triples of an element, its cell and those behind
    own_stands : (x : Term) (own : List ℕ) (first rest : Term) (element : Form) (cells : Cells) → IsNestedCell g x own first rest → IsFormOf g first element → AreCellsFrom g rest cells → own ≡ label
        → Contains (form_triples element ++ triple_of (Blank own) first_iri (form_term element) ∷ cells_triples own cells) t
    own_stands x own first rest element cells c f from e = elim (own_of_cell x own first rest c e) as (λ _. Contains (form_triples element ++ triple_of (Blank own) first_iri (form_term element) ∷ cells_triples own cells) t) [
      | inl i ↦
          in_second (form_triples element) (triple_of (Blank own) first_iri (form_term element) ∷ cells_triples own cells) t
          (subst (Contains (triple_of (Blank own) first_iri (form_term element) ∷ cells_triples own cells)) (first_is x own first rest element c f ∙ i) (in_head (triple_of (Blank own) first_iri (form_term element)) (cells_triples own cells)))
      | inr i ↦
          in_second (form_triples element) (triple_of (Blank own) first_iri (form_term element) ∷ cells_triples own cells) t
          (in_tail (triple_of (Blank own) first_iri (form_term element)) (cells_triples own cells) t
          (subst (Contains (cells_triples own cells)) (ap (λ (s : Term). triple_of s rest_iri rest) (sym c.is) ∙ i) (rest_stands cells own rest from)))
    ]

    all_pairs : (pairs : Pairs) (own : List ℕ) (ts : List Triple) → ArePairsOf g ts pairs → own ≡ label → Contains ts t → Contains (pairs_triples own pairs) t
    all_pairs no_pairs own [] h e m = absurd (in_none t m)
    all_pairs no_pairs own (u ∷ ts) h e m = absurd h
    all_pairs (pair predicate object more) own [] h e m = absurd h
    all_pairs (pair predicate object more) own (u ∷ ts) h e m =
        in_second (form_triples object) (triple_of (Blank own) predicate (form_term object) ∷ pairs_triples own more) t
        (elim (in_cases u ts t m) as (λ _. Contains (triple_of (Blank own) predicate (form_term object) ∷ pairs_triples own more) t) [
          | inl i ↦
              let is = triple_is u (Blank own) predicate (form_term object) (ap (λ (v : Triple). v.subject) i ∙ subject ∙ ap Blank (sym e)) h.0 (sym (form_term_is g object u.object h.1)) in
              subst (Contains (triple_of (Blank own) predicate (form_term object) ∷ pairs_triples own more)) (sym is ∙ i) (in_head (triple_of (Blank own) predicate (form_term object)) (pairs_triples own more))
          | inr k ↦ in_tail (triple_of (Blank own) predicate (form_term object)) (pairs_triples own more) t (all_pairs more own ts h.2 e k)
        ])

    mutual
      pub form_own : (form : Form) (x : Term) → IsFormOf g x form → Contains (form_labels form) label → Contains (form_triples form) t
      form_own (plain term) x h m = absurd (in_none label m)
      form_own (round own element cells) x h m = elim (in_cases own (form_labels element ++ cells_labels cells) label m) as (λ _. Contains (form_triples (round own element cells)) t) [
        | inl e ↦ own_stands x own h.0 h.1 element cells h.2 h.3 h.4 e
        | inr k ↦ elim (from_parts (form_labels element) (cells_labels cells) label k) as (λ _. Contains (form_triples (round own element cells)) t) [
          | inl f ↦ in_front (form_triples element) (triple_of (Blank own) first_iri (form_term element) ∷ cells_triples own cells) t (form_own element h.0 h.3 f)
          | inr b ↦
              in_second (form_triples element) (triple_of (Blank own) first_iri (form_term element) ∷ cells_triples own cells) t
              (in_tail (triple_of (Blank own) first_iri (form_term element)) (cells_triples own cells) t (cells_own cells own h.1 h.4 b))
        ]
      ]
      form_own (square own pairs) x h m = elim (in_cases own (pairs_labels pairs) label m) as (λ _. Contains (pairs_triples own pairs) t) [
        | inl e ↦ all_pairs pairs own (of_subject g x) h.1 e (of_its_subject g x t in_g (subject ∙ ap Blank (sym e) ∙ sym h.0.is))
        | inr k ↦ pairs_own pairs own (of_subject g x) h.1 k
      ]

      cells_own : (cells : Cells) (last : List ℕ) (x : Term) → AreCellsFrom g x cells → Contains (cells_labels cells) label → Contains (cells_triples last cells) t
      cells_own no_cells last x h m = absurd (in_none label m)
      cells_own (cell own element cells) last x h m =
          in_tail (triple_of (Blank last) rest_iri (Blank own)) (form_triples element ++ triple_of (Blank own) first_iri (form_term element) ∷ cells_triples own cells) t
          (elim (in_cases own (form_labels element ++ cells_labels cells) label m) as (λ _. Contains (form_triples element ++ triple_of (Blank own) first_iri (form_term element) ∷ cells_triples own cells) t) [
            | inl e ↦ own_stands x own h.0 h.1 element cells h.2 h.3 h.4 e
            | inr k ↦ elim (from_parts (form_labels element) (cells_labels cells) label k) as (λ _. Contains (form_triples element ++ triple_of (Blank own) first_iri (form_term element) ∷ cells_triples own cells) t) [
              | inl f ↦ in_front (form_triples element) (triple_of (Blank own) first_iri (form_term element) ∷ cells_triples own cells) t (form_own element h.0 h.3 f)
              | inr b ↦
                  in_second (form_triples element) (triple_of (Blank own) first_iri (form_term element) ∷ cells_triples own cells) t
                  (in_tail (triple_of (Blank own) first_iri (form_term element)) (cells_triples own cells) t (cells_own cells own h.1 h.4 b))
            ]
          ])

      pairs_own : (pairs : Pairs) (own : List ℕ) (ts : List Triple) → ArePairsOf g ts pairs → Contains (pairs_labels pairs) label → Contains (pairs_triples own pairs) t
      pairs_own no_pairs own ts h m = absurd (in_none label m)
      pairs_own (pair predicate object more) own [] h m = absurd h
      pairs_own (pair predicate object more) own (u ∷ ts) h m = elim (from_parts (form_labels object) (pairs_labels more) label m) as (λ _. Contains (pairs_triples own (pair predicate object more)) t) [
        | inl f ↦ in_front (form_triples object) (triple_of (Blank own) predicate (form_term object) ∷ pairs_triples own more) t (form_own object u.object h.1 f)
        | inr b ↦
            in_second (form_triples object) (triple_of (Blank own) predicate (form_term object) ∷ pairs_triples own more) t
            (in_tail (triple_of (Blank own) predicate (form_term object)) (pairs_triples own more) t (pairs_own more own ts h.2 b))
      ]

    pub lines_own : (ts : List Triple) (lines : List Line) → AreLinesFor g ts lines → Contains (lines_labels lines) label → Contains (lines_triples lines) t
    lines_own _ _ no_lines m = absurd (in_none label m)
    lines_own _ _ (inside u ts lines nested more) m = lines_own ts lines more m
    lines_own _ _ (one_line u ts line lines is more) m =
        let one = triple_of line.subject line.predicate (form_term line.object) in
        elim (from_parts (form_labels line.object) (lines_labels lines) label m) as (λ _. Contains (form_triples line.object ++ one ∷ lines_triples lines) t) [
          | inl f ↦ in_front (form_triples line.object) (one ∷ lines_triples lines) t (form_own line.object u.object is.object f)
          | inr b ↦ in_second (form_triples line.object) (one ∷ lines_triples lines) t (in_tail one (lines_triples lines) t (lines_own ts lines more b))
        ]

  -- a triple stands on a line, or its subject is nested
  pub on_line : (ts : List Triple) (lines : List Line) → AreLinesFor g ts lines → (t : Triple) → Contains ts t → Contains (lines_triples lines) t ⊎ IsNested g t.subject
  on_line _ _ no_lines t m = absurd (in_none t m)
  on_line _ _ (inside u ts lines nested more) t m = elim (in_cases u ts t m) as (λ _. Contains (lines_triples lines) t ⊎ IsNested g t.subject) [
    | inl e ↦ inr (subst (λ (v : Triple). IsNested g v.subject) e nested)
    | inr k ↦ on_line ts lines more t k
  ]
  on_line _ _ (one_line u ts line lines is more) t m =
      let one = triple_of line.subject line.predicate (form_term line.object) in
      elim (in_cases u ts t m) as (λ _. Contains (form_triples line.object ++ one ∷ lines_triples lines) t ⊎ IsNested g t.subject) [
        | inl e ↦
            let same = triple_is u line.subject line.predicate (form_term line.object) is.subject is.predicate (sym (form_term_is g line.object u.object is.object)) in
            inl (in_second (form_triples line.object) (one ∷ lines_triples lines) t (subst (Contains (one ∷ lines_triples lines)) (sym same ∙ e) (in_head one (lines_triples lines))))
        | inr k ↦ elim (on_line ts lines more t k) as (λ _. Contains (form_triples line.object ++ one ∷ lines_triples lines) t ⊎ IsNested g t.subject) [
          | inl n ↦ inl (in_second (form_triples line.object) (one ∷ lines_triples lines) t (in_tail one (lines_triples lines) t n))
          | inr n ↦ inr n
        ]
      ]
