-- What is known of the forms of a graph's terms: how deep they are, and what their terms are.
use Rattle.std.specs.Prelude.{ℕ, zero, suc, List, [], ◌∷◌, ◌++◌, Contains}
use Rattle.std.specs.List.{AllByRecursion}
use Rattle.std.proofs.Common.{inl, inr, sym, ◌∙◌, subst, arith}
use Rattle.owl_characters.specs.Iri.{IsIri}
use Rattle.owl_list.proofs.AscendingLaws.{all_in, in_cases, in_head, in_none, in_tail}
use Rattle.rdf_graph.specs.declared.term.Term.{Term}
use Rattle.rdf_graph.specs.declared.term.Term.TheVariants.{Blank}
use Rattle.rdf_graph.specs.declared.triple.Triple.{Triple}
use Rattle.rdf_meaning.specs.Nodes.{of_subject}
use Rattle.ttl_levels.proofs.NestLaws.{own_triple}
use Rattle.ttl_levels.specs.Nested.{IsNested}
use Rattle.ttl_nested.specs.Forms.{Cells, Form, Pairs}
use Rattle.ttl_nested.specs.Forms.Form.{plain, round, square}
use Rattle.ttl_nested.specs.Forms.Cells.{cell, no_cells}
use Rattle.ttl_nested.specs.Forms.Pairs.{no_pairs, pair}
use Rattle.ttl_nested.proofs.FormLaws.{AreCellsKept, ArePairsKept, IsKept, cells_labels, form_labels, pairs_labels}
use Rattle.ttl_nested.proofs.NumberLaws.{number_in}
use Rattle.ttl_nested.proofs.ReadingLaws.{AreCellsWithin, AreFormedCells, AreFormedPairs, ArePairsWithin, IsFormedForm, IsWithin}
use Rattle.ttl_nested.proofs.RenameLaws.{object_kept}
use Rattle.ttl_write.specs.Formed.{AreFormed, IsFormedTerm, IsFormedTriple}
use Rattle.ttl_nest.proofs.FormLaws.{cells_are, element_shallow, first_of_cell, kids_shallow, rest_shallow}
use Rattle.ttl_nest.proofs.Parts.{from_parts}
use Rattle.ttl_nest.specs.NestedForm.{AreCellsFrom, ArePairsOf, IsFormOf}
use Rattle.ttl_nest.specs.Sources.{AreShallowCells, IsShallow}

module _ (g : List Triple) where
  no_depth : (x : Term) → IsNested g x → IsShallow g x 0 → ⊥
  no_depth x nested shallow = let deep = shallow nested.level nested.has nested.few in omega (arith, deep, nested.few)

  mutual
    pub form_within : (form : Form) (x : Term) (depth : ℕ) → IsFormOf g x form → IsShallow g x depth → IsWithin depth form
    form_within (plain term) x depth h shallow = tt
    form_within (round label element cells) x zero h shallow = absurd (no_depth x h.2.nested shallow)
    form_within (round label element cells) x (suc depth) h shallow =
        let more = cells_are g h.1 cells h.4 in (
          form_within element h.0 depth h.3 (element_shallow g x h.0 h.1 h.2.cell h.2.nested depth shallow),
          cells_within cells h.1 depth h.4 (rest_shallow g x h.0 h.1 h.2.cell h.2.nested depth more.0 more.1 shallow),
        )
    form_within (square label pairs) x zero h shallow = absurd (no_depth x h.0.nested shallow)
    form_within (square label pairs) x (suc depth) h shallow = pairs_within pairs (of_subject g x) depth h.1 (kids_shallow g x depth h.0.nested h.0.not_round shallow)

    cells_within : (cells : Cells) (x : Term) (depth : ℕ) (h : AreCellsFrom g x cells) → AreShallowCells g x (cells_are g x cells h).0 depth → AreCellsWithin depth cells
    cells_within no_cells x depth h shallow = tt
    cells_within (cell label element cells) x depth h shallow =
        let more = cells_are g h.1 cells h.4 in (
          form_within element h.0 depth h.3 (element_shallow g x h.0 h.1 h.2.cell h.2.nested depth shallow.1),
          cells_within cells h.1 depth h.4 (rest_shallow g x h.0 h.1 h.2.cell h.2.nested depth more.0 more.1 shallow.1),
        )

    pairs_within : (pairs : Pairs) (ts : List Triple) (depth : ℕ) → ArePairsOf g ts pairs → AllByRecursion (λ t. IsShallow g t.object depth) ts → ArePairsWithin depth pairs
    pairs_within no_pairs ts depth h shallow = tt
    pairs_within (pair predicate object more) [] depth h shallow = absurd h
    pairs_within (pair predicate object more) (t ∷ ts) depth h shallow = (form_within object t.object depth h.1 shallow.0, pairs_within more ts depth h.2 shallow.1)

  first_nested : (own : List ℕ) (ls : List (List ℕ)) (label : List ℕ) → Contains (own ∷ ls) label → IsNested g (Blank own) → (Contains ls label → IsNested g (Blank label)) → IsNested g (Blank label)
  first_nested own ls label m nested more = elim (in_cases own ls label m) as (λ _. IsNested g (Blank label)) [
    | inl e ↦ subst (λ (l : List ℕ). IsNested g (Blank l)) e nested
    | inr k ↦ more k
  ]

  -- the labels that are not written are those of nested nodes
  mutual
    pub form_labels_nested : (form : Form) (x : Term) → IsFormOf g x form → (label : List ℕ) → Contains (form_labels form) label → IsNested g (Blank label)
    form_labels_nested (plain term) x h label m = absurd (in_none label m)
    form_labels_nested (round own element cells) x h label m =
        first_nested own (form_labels element ++ cells_labels cells) label m (subst (IsNested g) h.2.is h.2.nested)
        (λ k. elim (from_parts (form_labels element) (cells_labels cells) label k) as (λ _. IsNested g (Blank label)) [
          | inl f ↦ form_labels_nested element h.0 h.3 label f
          | inr b ↦ cells_labels_nested cells h.1 h.4 label b
        ])
    form_labels_nested (square own pairs) x h label m =
        first_nested own (pairs_labels pairs) label m (subst (IsNested g) h.0.is h.0.nested) (λ k. pairs_labels_nested pairs (of_subject g x) h.1 label k)

    cells_labels_nested : (cells : Cells) (x : Term) → AreCellsFrom g x cells → (label : List ℕ) → Contains (cells_labels cells) label → IsNested g (Blank label)
    cells_labels_nested no_cells x h label m = absurd (in_none label m)
    cells_labels_nested (cell own element cells) x h label m =
        first_nested own (form_labels element ++ cells_labels cells) label m (subst (IsNested g) h.2.is h.2.nested)
        (λ k. elim (from_parts (form_labels element) (cells_labels cells) label k) as (λ _. IsNested g (Blank label)) [
          | inl f ↦ form_labels_nested element h.0 h.3 label f
          | inr b ↦ cells_labels_nested cells h.1 h.4 label b
        ])

    pairs_labels_nested : (pairs : Pairs) (ts : List Triple) → ArePairsOf g ts pairs → (label : List ℕ) → Contains (pairs_labels pairs) label → IsNested g (Blank label)
    pairs_labels_nested no_pairs ts h label m = absurd (in_none label m)
    pairs_labels_nested (pair predicate object more) [] h label m = absurd h
    pairs_labels_nested (pair predicate object more) (t ∷ ts) h label m =
        elim (from_parts (form_labels object) (pairs_labels more) label m) as (λ _. IsNested g (Blank label)) [
          | inl f ↦ form_labels_nested object t.object h.1 label f
          | inr b ↦ pairs_labels_nested more ts h.2 label b
        ]

  -- labels that are written stand for themselves
  module _ (ls : List (List ℕ)) (all : (label : List ℕ) → Contains ls label → IsNested g (Blank label)) where
    mutual
      pub form_kept : (form : Form) (x : Term) → IsFormOf g x form → IsKept (number_in ls 0) form
      form_kept (plain term) x h = object_kept ls term (λ label e m. h.1 (subst (IsNested g) (sym (h.0 ∙ e)) (all label m)))
      form_kept (round label element cells) x h = (form_kept element h.0 h.3, cells_kept cells h.1 h.4)
      form_kept (square label pairs) x h = pairs_kept pairs (of_subject g x) h.1

      cells_kept : (cells : Cells) (x : Term) → AreCellsFrom g x cells → AreCellsKept (number_in ls 0) cells
      cells_kept no_cells x h = tt
      cells_kept (cell label element cells) x h = (form_kept element h.0 h.3, cells_kept cells h.1 h.4)

      pairs_kept : (pairs : Pairs) (ts : List Triple) → ArePairsOf g ts pairs → ArePairsKept (number_in ls 0) pairs
      pairs_kept no_pairs ts h = tt
      pairs_kept (pair predicate object more) [] h = absurd h
      pairs_kept (pair predicate object more) (t ∷ ts) h = (form_kept object t.object h.1, pairs_kept more ts h.2)

  -- the terms are those of the graph
  module _ (formed : AreFormed g) where
    is_formed : (t : Triple) → Contains g t → IsFormedTriple t
    is_formed t m = all_in IsFormedTriple g t formed m

    mutual
      pub form_formed : (form : Form) (x : Term) → IsFormedTerm x → IsFormOf g x form → IsFormedForm form
      form_formed (plain term) x f h = subst IsFormedTerm h.0 f
      form_formed (round label element cells) x f h = (form_formed element h.0 (is_formed _ (first_of_cell g x h.0 h.1 h.2.cell)).object h.3, cells_formed cells h.1 h.4)
      form_formed (square label pairs) x f h = pairs_formed pairs (of_subject g x) (λ t m. (own_triple g x t m).0) h.1

      cells_formed : (cells : Cells) (x : Term) → AreCellsFrom g x cells → AreFormedCells cells
      cells_formed no_cells x h = tt
      cells_formed (cell label element cells) x h = (form_formed element h.0 (is_formed _ (first_of_cell g x h.0 h.1 h.2.cell)).object h.3, cells_formed cells h.1 h.4)

      pairs_formed : (pairs : Pairs) (ts : List Triple) → ((t : Triple) → Contains ts t → Contains g t) → ArePairsOf g ts pairs → AreFormedPairs pairs
      pairs_formed no_pairs ts within h = tt
      pairs_formed (pair predicate object more) [] within h = absurd h
      pairs_formed (pair predicate object more) (t ∷ ts) within h =
          let known = is_formed t (within t (in_head t ts)) in
          (subst IsIri h.0 known.predicate, form_formed object t.object known.object h.1, pairs_formed more ts (λ u m. within u (in_tail t ts u m)) h.2)
