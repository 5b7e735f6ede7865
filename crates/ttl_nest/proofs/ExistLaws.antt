-- Each graph has a nested form.
use Rattle.std.specs.Prelude.{◌≡◌, ◌⊎◌, ◌<◌, ℕ, zero, suc, nat_le, List, [], ◌∷◌, ◌++◌, Contains, Some, length, slice_get, slice_index}
use Rattle.std.proofs.Common.{inl, inr, refl, sym, ap, ◌∙◌, subst, arith}
use Rattle.std.proofs.lemmas.Bool.{cases_Bool, leb-false, leb-true}
use Rattle.std.proofs.lemmas.List.{append-nil, append_assoc, length-map}
use Rattle.std.proofs.lemmas.Option.{slice_get_within}
use Rattle.owl_list.proofs.AscendingLaws.{in_cases, in_head, in_none, in_tail}
use Rattle.owl_list.proofs.EachOnceLaws.{there}
use Rattle.rdf_graph.specs.declared.term.Term.{Term}
use Rattle.rdf_graph.specs.declared.term.Term.TheVariants.{Iri, Blank, Literal}
use Rattle.rdf_graph.specs.declared.triple.Triple.{Triple}
use Rattle.rdf_meaning.specs.Nodes.{of_subject}
use Rattle.rdf_roles.proofs.NodeLaws.{same_label}
use Rattle.rdf_roles.specs.OrderLaws.{is_in_order, leads_to_front}
use Rattle.rdf_roles.specs.Tables.{IsTableOf, LeadsBetween, RoleTable, blank_nodes, with_role}
use Rattle.ttl_levels.proofs.LevelLaws.{count_told, level_told, nested_told, not_nested_by_depth, not_nested_by_none}
use Rattle.ttl_levels.proofs.NestLaws.{leads_down, nestable_number, own_triple}
use Rattle.ttl_levels.specs.Nested.{HasCells, IsNestableCell, IsNested, IsRound, most_levels}
use Rattle.ttl_levels.specs.NestTables.{IsCellCount, IsLevelOf, IsNestTable, IsValueOf, NestTable}
use Rattle.ttl_levels.specs.NestTables.IsValueOf.{of_node, of_none}
use Rattle.ttl_nested.proofs.NumberLaws.{numbered_or_not}
use Rattle.ttl_nested.specs.Forms.{Cells, Form, Line, Pairs}
use Rattle.ttl_nested.specs.Forms.Form.{plain, round, square}
use Rattle.ttl_nested.specs.Forms.Cells.{cell, no_cells}
use Rattle.ttl_nested.specs.Forms.Pairs.{no_pairs, pair}
use Rattle.ttl_nest.proofs.FormLaws.{first_of_cell, nested_nestable, rest_nested, rest_of_cell, round_form_is}
use Rattle.ttl_nest.proofs.Parts.{from_parts}
use Rattle.ttl_nest.specs.NestedForm.{AreCellsFrom, AreLinesFor, ArePairsOf, IsFormOf, IsNestedForm}
use Rattle.ttl_nest.specs.NestedForm.AreLinesFor.{inside, no_lines, one_line}

no_blank : (x : Term) (label : List ℕ) → x ≡ Blank label → (iri : List ℕ) → x ≡ Iri iri → ⊥
no_blank x label e iri f = let both : Blank label ≡ Iri iri = sym e ∙ f in absurd (cc)

module _ (g : List Triple) (table : RoleTable) (is : IsTableOf g table) (nests : NestTable) (are : IsNestTable g nests) where
  -- a term stands for a node or for none
  value_somewhere : (values : List ℕ) (x : Term) → (n : ℕ) × IsValueOf g values x n
  value_somewhere values (Iri iri) = (0, of_none (λ number node. no_blank (Iri iri) node.label node.is iri refl))
  value_somewhere values (Blank label) = elim (numbered_or_not (blank_nodes g) 0 label) as (λ _. (n : ℕ) × IsValueOf g values (Blank label) n) [
    | inl h ↦ (slice_index values h.place, of_node h.place (record { label = label; is = refl; at = h.at }))
    | inr h ↦ (0, of_none (λ number node. h.out (subst (Contains (blank_nodes g)) (same_label node.label label (sym node.is)) (there (blank_nodes g) number node.label node.at))))
  ]
  value_somewhere values (Literal literal) = (0, of_none (λ number node. let e : Literal literal ≡ Blank node.label = node.is in absurd (cc)))

  by_level : (x : Term) (n : ℕ) → IsLevelOf g x n → IsNested g x ⊎ (IsNested g x → ⊥)
  by_level x zero h = inr (not_nested_by_none g x 0 h refl)
  by_level x (suc n) h = elim (cases_Bool (nat_le (suc n) most_levels)) as (λ _. IsNested g x ⊎ (IsNested g x → ⊥)) [
    | inl t ↦ inl (nested_told g x (suc n) h (λ e. absurd (omega (arith, e))) (leb-true (suc n) most_levels t))
    | inr f ↦ inr (not_nested_by_depth g x (suc n) h (leb-false (suc n) most_levels f))
  ]

  pub nested_or_not : (x : Term) → IsNested g x ⊎ (IsNested g x → ⊥)
  nested_or_not x = let v = value_somewhere nests.levels x in by_level x v.0 (level_told g nests.levels x v.0 are.levels v.1)

  by_count : (x : Term) (n : ℕ) → IsCellCount g x n → IsRound g x ⊎ (IsRound g x → ⊥)
  by_count x zero h = inr h
  by_count x (suc n) h = inl (n, h)

  round_or_not : (x : Term) → IsRound g x ⊎ (IsRound g x → ⊥)
  round_or_not x = let v = value_somewhere nests.cells x in by_count x v.0 (count_told g nests.cells x v.0 are.cells v.1)

  -- forms

  record HasForm (x : Term) : Type 0 where
    form : Form
    is_form : IsFormOf g x form

  abbrev HasFormAt : ℕ → Type 0
  HasFormAt number = (label : List ℕ) → slice_get (blank_nodes g) number ≡ Some label → HasForm (Blank label)

  pairs_for : (ts : List Triple) → ((t : Triple) → Contains ts t → HasForm t.object) → (pairs : Pairs) × ArePairsOf g ts pairs
  pairs_for [] have = (no_pairs, tt)
  pairs_for (t ∷ ts) have =
      let one = have t (in_head t ts) in
      let more = pairs_for ts (λ u m. have u (in_tail t ts u m)) in
      (pair t.predicate one.form more.0, (refl, one.is_form, more.1))

  -- the form of a node, by those of the nodes to which it leads
  module _ (number : ℕ) (below : (next : ℕ) → LeadsBetween g number next → HasFormAt next) (label : List ℕ) (at : slice_get (blank_nodes g) number ≡ Some label) where
    kid_form : (t : Triple) → IsNested g (Blank label) → Contains g t → t.subject ≡ Blank label → HasForm t.object
    kid_form t nested m s = elim (nested_or_not t.object) as (λ _. HasForm t.object) [
      | inl kid ↦
          let node = nestable_number g t.object (nested_nestable g t.object kid) in
          let leads = leads_down g (Blank label) t number node.number (nested_nestable g (Blank label) nested) m s (record { label = label; is = refl; at = at }) (record { label = node.label; is = node.is; at = node.at }) in
          subst HasForm (sym node.is) (below node.number leads node.label node.at)
      | inr not ↦ record { form = plain t.object; is_form = (refl, not) }
    ]

    cells_for : (first rest : Term) (n : ℕ) → IsNested g (Blank label) → IsNestableCell g (Blank label) first rest → HasCells g n rest → (cells : Cells) × AreCellsFrom g rest cells
    cells_for first rest zero nested c cells = (no_cells, cells)
    cells_for first rest (suc n) nested c cells =
        let rest_is = rest_nested g (Blank label) first rest c nested 0 n cells in
        let found = kid_form _ nested (rest_of_cell g (Blank label) first rest c) refl in
        let r = round_form_is g rest found.form rest_is (n, cells) found.is_form in
        (cell r.label r.element r.cells, r.are)

    by_round : IsNested g (Blank label) → IsRound g (Blank label) ⊎ (IsRound g (Blank label) → ⊥) → HasForm (Blank label)
    by_round nested (inl r) =
        let element = kid_form _ nested (first_of_cell g (Blank label) r.1.0 r.1.1 r.1.2) refl in
        let cells = cells_for r.1.0 r.1.1 r.0 nested r.1.2 r.1.3 in
        record { form = round label element.form cells.0; is_form = (r.1.0, r.1.1, record { is = refl; nested = nested; cell = r.1.2 }, element.is_form, cells.1) }
    by_round nested (inr not) =
        let pairs = pairs_for (of_subject g (Blank label)) (λ t m. let own = own_triple g (Blank label) t m in kid_form t nested own.0 own.1) in
        record { form = square label pairs.0; is_form = (record { is = refl; nested = nested; not_round = not }, pairs.1) }

    node_form : HasForm (Blank label)
    node_form = elim (nested_or_not (Blank label)) as (λ _. HasForm (Blank label)) [
      | inl nested ↦ by_round nested (round_or_not (Blank label))
      | inr not ↦ record { form = plain (Blank label); is_form = (refl, not) }
    ]

  forms_on : (left passed : List ℕ) → table.order ≡ passed ++ left → ((k : ℕ) → Contains passed k → HasFormAt k) → (k : ℕ) → Contains table.order k → HasFormAt k
  forms_on [] passed split known k m = known k (subst (λ (xs : List ℕ). Contains xs k) (split ∙ append-nil passed) m)
  forms_on (n ∷ left) passed split known k m =
      forms_on left (passed ++ n ∷ []) (split ∙ sym (append_assoc passed (n ∷ []) left))
      (λ j q. elim (from_parts passed (n ∷ []) j q) as (λ _. HasFormAt j) [
        | inl p ↦ known j p
        | inr o ↦ elim (in_cases n [] j o) as (λ _. HasFormAt j) [
          | inl e ↦ subst HasFormAt e (λ label at. node_form n (λ next leads. known next (leads_to_front g table.order is.order passed n left split next leads)) label at)
          | inr none ↦ absurd (in_none j none)
        ]
      ]) k m

  form_at : (number : ℕ) → HasFormAt number
  form_at number label at =
      let within = slice_get_within (blank_nodes g) number label at in
      let ordered = is_in_order g table is number (subst (λ n. number < n) (sym (ap length is.nodes ∙ length-map (blank_nodes g) (with_role g))) within) in
      forms_on table.order [] refl (λ k m. absurd (in_none k m)) number ordered label at

  any_form : (x : Term) → HasForm x
  any_form x = elim (nested_or_not x) as (λ _. HasForm x) [
    | inl nested ↦ let node = nestable_number g x (nested_nestable g x nested) in subst HasForm (sym node.is) (form_at node.number node.label node.at)
    | inr not ↦ record { form = plain x; is_form = (refl, not) }
  ]

  lines_for : (ts : List Triple) → (lines : List Line) × AreLinesFor g ts lines
  lines_for [] = ([], no_lines)
  lines_for (t ∷ ts) = elim (nested_or_not t.subject) as (λ _. (lines : List Line) × AreLinesFor g (t ∷ ts) lines) [
    | inl nested ↦ let more = lines_for ts in (more.0, inside t ts more.0 nested more.1)
    | inr not ↦
        let more = lines_for ts in
        let o = any_form t.object in
        let line : Line = record { subject = t.subject; predicate = t.predicate; object = o.form } in
        (line ∷ more.0, one_line t ts line more.0 (record { not_nested = not; subject = refl; predicate = refl; object = o.is_form }) more.1)
  ]

  pub graphs_have_a_form : (lines : List Line) × IsNestedForm g lines
  graphs_have_a_form = lines_for g
