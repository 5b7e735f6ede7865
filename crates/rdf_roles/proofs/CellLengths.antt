-- The lengths of lists, from cell to cell.
use Rattle.std.specs.Prelude.{◌≡◌, ◌⊎◌, ◌<◌, ◌+◌, ℕ, true, false, ◌||◌, List, [], ◌∷◌, Contains, Option, None, Some, length, slice_get, slice_index, slice_set}
use Rattle.std.specs.Option.{unwrap_or}
use Rattle.std.proofs.Common.{inl, inr, sym, ap, ◌∙◌, subst, arith}
use Rattle.std.proofs.lemmas.Bool.{or_left, or_right}
use Rattle.std.proofs.lemmas.List.{get_or-set_same, get_or-set_other, length-set}
use Rattle.std.proofs.lemmas.List.Sorted.{Contains-permutation}
use Rattle.std.proofs.lemmas.Option.{same_Some, slice_get_within}
use Rattle.directed_graphs.specs.Cycles.{StandBehind}
use Rattle.directed_graphs.proofs.CycleLaws.{in_range}
use Rattle.owl_list.proofs.AscendingLaws.{all_in, in_cases, in_head, in_none, in_tail}
use Rattle.rdf_graph.specs.declared.term.Term.{Term}
use Rattle.rdf_graph.specs.declared.term.Term.TheVariants.{Blank}
use Rattle.rdf_graph.specs.declared.triple.Triple.{Triple}
use Rattle.rdf_meaning.specs.declared.role.Role.TheVariants as role
use Rattle.rdf_meaning.specs.declared.word.Word.TheVariants as word
use Rattle.rdf_meaning.proofs.ListLaws.{same_only}
use Rattle.rdf_meaning.specs.Nodes.{carries, chosen, is_own, is_structural, of_subject, role_of, words_of}
use Rattle.rdf_meaning.proofs.NodeLaws.{from_chosen}
use Rattle.rdf_meaning.specs.Statements.{IsCell}
use Rattle.rdf_faults.specs.Faults.{IsBadCell}
use Rattle.rdf_faults.specs.Formed.{HasLength, IsFormedAs, no_element, one_more}
use Rattle.rdf_rows.specs.Chosen.{the_cell}
use Rattle.rdf_rows.proofs.NodeTripleLaws.{cell_is, chosen_is}
use Rattle.rdf_roles.specs.Lengths.{AreKnownBelow, AreLengths, HasLengthAt, IsKnown, IsLength}
use Rattle.rdf_roles.specs.OrderLaws.{is_node}
use Rattle.rdf_roles.specs.Refusals.{HaveCells}
use Rattle.rdf_roles.specs.Tables.{AreEdges, IsNodeOrder, LeadsBetween, blank_nodes}
use Rattle.rdf_roles.proofs.WayLaws.{numbered_by_role}
use Rattle.rdf_roles.proofs.CellTriples.{no_cell}
use Rattle.rdf_roles.proofs.Down.{at_place}
use Rattle.rdf_roles.proofs.NotedUnder.{same_or_not}

-- a cell leads to its rest

rest_is_own : (t : Triple) → carries word.Rest t ≡ true → is_own role.List t ≡ true
unfolding words_of
rest_is_own t h = or_right (carries word.First t) (carries word.Rest t || false) (or_left (carries word.Rest t) false h)

rest_is_structural : (g : List Triple) (t : Triple) (x : Term) → t.subject ≡ x → role_of g x ≡ role.List → carries word.Rest t ≡ true → is_structural g t ≡ true
unfolding is_structural
rest_is_structural g t x e f h = ap (λ r. is_own r t) (ap (role_of g) e ∙ f) ∙ rest_is_own t h

-- where the node with the number is this one, and a cell
module _ (g : List Triple) (number : ℕ) (label : List ℕ) (at : slice_get (blank_nodes g) number ≡ Some label) where
  pub length_here : (n : ℕ) → (role_of g (Blank label) ≡ role.List → HasLength g (Blank label) n) → HasLengthAt g number n
  length_here n has other at_2 cell =
      let same = same_Some label other (sym at ∙ at_2) in
      subst (λ l. HasLength g (Blank l) n) same (has (ap (λ l. role_of g (Blank l)) same ∙ cell))

  never_bad : HaveCells g → IsBadCell g label → ⊥
  never_bad cells = all_in (λ l. IsBadCell g l → ⊥) (blank_nodes g) label cells (at_place (blank_nodes g) number label at)

  rest_known : (lengths : List ℕ) (rest : Term) → role_of g (Blank label) ≡ role.List → chosen g (Blank label) word.Rest ≡ rest ∷ [] → AreKnownBelow g lengths number → IsKnown g lengths rest
  rest_known lengths rest cell one below next node is =
      let by = from_chosen g (Blank label) word.Rest rest (subst (λ (ys : List Term). Contains ys rest) (sym one) (in_head rest [])) in
      let leads : LeadsBetween g number next = record {
        from = label;
        to = node.label;
        from_at = at;
        to_at = node.at;
        leads = inl (record {
          triple = by.triple;
          inside = by.inside;
          subject = by.subject;
          object = by.object ∙ node.is;
          structural = rest_is_structural g by.triple (Blank label) by.subject cell by.carries;
          no_note = λ e. let same : role.List ≡ role.Note = sym cell ∙ e in cc;
        });
      } in
      subst (λ (y : Term). HasLength g y (slice_index lengths next)) (sym node.is) (below next leads node.label node.at (ap (role_of g) (sym node.is) ∙ is))

  -- a rest that is a cell, or rdf:nil, has a length
  rest_has_length : (lengths : List ℕ) (rest : Term) → HaveCells g → role_of g (Blank label) ≡ role.List → chosen g (Blank label) word.Rest ≡ rest ∷ [] → IsKnown g lengths rest
      → IsLength g rest None → ⊥
  rest_has_length lengths rest cells cell one known none =
      never_bad cells (record { cell = cell; not_formed = λ formed. goes_on (subst (λ r. IsFormedAs g r (Blank label)) cell formed) })
    where
      goes_on : IsCell g (Blank label) → ⊥
      goes_on k =
          let same = same_only rest k.rest (sym one ∙ k.one_rest) in
          elim k.goes_on [
            | inl e ↦ none 0 (no_element rest (same ∙ e))
            | inr e ↦
                let is = ap (role_of g) same ∙ e in
                let n = numbered_by_role g rest (λ f. let never : role.List ≡ role.Individual = sym is ∙ f in cc) in
                none (slice_index lengths n.number) (known n.number (record { label = n.label; is = n.is; at = n.at }) is)
          ]

  longer : (lengths : List ℕ) (rest : Term) (found : Option ℕ) (n : ℕ) → HaveCells g → role_of g (Blank label) ≡ role.List → chosen g (Blank label) word.Rest ≡ rest ∷ [] → IsKnown g lengths rest
      → IsLength g rest found → n ≡ unwrap_or found 0 + 1 → HasLength g (Blank label) n
  longer lengths rest None n cells cell one known none e = absurd (rest_has_length lengths rest cells cell one known none)
  longer lengths rest (Some k) n cells cell one known has e =
      subst (λ m. HasLength g (Blank label) m) (omega (arith, e)) (one_more (Blank label) rest k cell one has)

  -- a cell is one longer than its rest
  pub one_longer : (lengths : List ℕ) (triples : List Triple) (first rest : Term) (found : Option ℕ) (n : ℕ) → HaveCells g → triples ≡ of_subject g (Blank label)
      → Some (first, rest) ≡ the_cell triples → AreKnownBelow g lengths number → (IsKnown g lengths rest → IsLength g rest found) → n ≡ unwrap_or found 0 + 1 → HasLengthAt g number n
  one_longer lengths triples first rest found n cells about e below told m =
      length_here n (λ cell.
      let one = chosen_is g (Blank label) word.Rest ∙ ((cell_is (of_subject g (Blank label)) first rest).0 (sym (e ∙ ap the_cell about))).1 in
      let known = rest_known lengths rest cell one below in
      longer lengths rest found n cells cell one known (told known) m)

  pub no_cell_here : (triples : List Triple) (n : ℕ) → HaveCells g → triples ≡ of_subject g (Blank label) → None ≡ the_cell triples → HasLengthAt g number n
  no_cell_here triples n cells about e =
      length_here n (λ cell. absurd (never_bad cells (record {
        cell = cell;
        not_formed = λ formed. let never : false ≡ true = (no_cell g (Blank label) triples about e).1 (subst (λ r. IsFormedAs g r (Blank label)) cell formed) in cc;
      })))

-- where no node has the number
pub none_here : (g : List Triple) (number n : ℕ) → slice_get (blank_nodes g) number ≡ None → HasLengthAt g number n
none_here g number n none label at = let e : Some label ≡ None = sym at ∙ none in cc

-- the lengths of the nodes that were passed are known, and the others stand behind those
pub record ArePassed (g : List Triple) (lengths left : List ℕ) : Type 0 where
  pub passed : List ℕ
  pub edges : List (List ℕ)
  pub are : AreEdges g edges
  pub behind : StandBehind edges passed left
  pub size : length lengths ≡ length (blank_nodes g)
  pub nodes : (number : ℕ) → Contains left number → number < length (blank_nodes g)
  pub all : (number : ℕ) → number < length (blank_nodes g) → Contains passed number ⊎ Contains left number
  pub known : (number : ℕ) → Contains passed number → HasLengthAt g number (slice_index lengths number)

pub none_passed : (g : List Triple) (lengths order : List ℕ) → IsNodeOrder g order → length lengths ≡ length (blank_nodes g) → ArePassed g lengths order
none_passed g lengths order is size =
    let all = is.is_order.all in
    record {
      passed = [];
      edges = is.edges;
      are = is.are;
      behind = is.is_order.behind;
      size = size;
      nodes = is_node g order is;
      all = λ number h. inr (Contains-permutation _ order number all (in_range (length is.edges) number (subst (λ n. number < n) (sym is.are.each) h)));
      known = λ number m. absurd (in_none number m);
    }

module _ {g : List Triple} {lengths behind : List ℕ} {number : ℕ} (p : ArePassed g lengths (number ∷ behind)) where
  pub next_within : number < length lengths
  next_within = subst (λ n. number < n) (sym p.size) (p.nodes number (in_head number behind))

  pub next_known_below : AreKnownBelow g lengths number
  next_known_below next leads =
      p.known next (p.behind.0 next ((p.are.leads number next).1 leads)
      (subst (λ n. next < n) (sym p.are.each) (slice_get_within (blank_nodes g) next leads.to leads.to_at)))

  pub one_passed : (n : ℕ) → HasLengthAt g number n → ArePassed g (slice_set lengths number n) behind
  one_passed n has = record {
    passed = number ∷ p.passed;
    edges = p.edges;
    are = p.are;
    behind = p.behind.1;
    size = length-set lengths number n ∙ p.size;
    nodes = λ k m. p.nodes k (in_tail number behind k m);
    all = λ k h. elim (p.all k h) [
      | inl m ↦ inl (in_tail number p.passed k m)
      | inr m ↦ elim (in_cases number behind k m) [
        | inl e ↦ inl (subst (λ j. Contains (number ∷ p.passed) j) e (in_head number p.passed))
        | inr q ↦ inr q
      ]
    ];
    known = λ k m. elim (same_or_not number k) [
      | inl e ↦ subst (λ j. HasLengthAt g j (slice_index (slice_set lengths number n) j)) e
          (subst (λ j. HasLengthAt g number j) (sym (get_or-set_same lengths number n 0 next_within)) has)
      | inr o ↦ elim (in_cases number p.passed k m) [
        | inl e ↦ absurd (o e)
        | inr q ↦ subst (λ j. HasLengthAt g k j) (sym (get_or-set_other lengths number k n 0 (λ e. o (sym e)))) (p.known k q)
      ]
    ];
  }

pub passed_ahead : {g : List Triple} {lengths left : List ℕ} → ArePassed g lengths left → {number : ℕ} {behind : List ℕ} → left ≡ number ∷ behind → ArePassed g lengths (number ∷ behind)
passed_ahead {g} {lengths} {left} p e = subst (ArePassed g lengths) e p

pub all_passed : (g : List Triple) (lengths left : List ℕ) → length left ≡ 0 → ArePassed g lengths left → AreLengths g lengths
all_passed g lengths [] e p = record {
  of_cell = λ number label at cell. elim (p.all number (slice_get_within (blank_nodes g) number label at)) [
    | inl m ↦ p.known number m label at cell
    | inr m ↦ absurd (in_none number m)
  ];
}
all_passed g lengths (number ∷ left) e p = absurd (omega arith)
