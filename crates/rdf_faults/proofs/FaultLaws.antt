-- A graph that says an ontology has no fault.
use Rattle.std.specs.Prelude.{◌≡◌, ◌≤◌, ℕ, List, [], length}
use Rattle.std.proofs.Common.{inl, inr, sym, ◌∙◌, subst, arith}
use Rattle.std.proofs.lemmas.Bool.{both_ways}
use Rattle.owl_kind.specs.Kinds.{Entity}
use Rattle.owl_tree.specs.Ontologies.{Ontology}
use Rattle.rdf_graph.specs.declared.term.Term.{Term}
use Rattle.rdf_graph.specs.declared.term.Term.TheVariants.{Blank}
use Rattle.rdf_graph.specs.declared.triple.Triple.{Triple}
use Rattle.rdf_meaning.specs.declared.role.Role.TheVariants as role
use Rattle.rdf_meaning.proofs.ListLaws.{nothing_else, same_only}
use Rattle.rdf_meaning.proofs.NodeLaws.{nodes_are}
use Rattle.rdf_meaning.specs.Statements.{IsHeadOf, Says, headers}
use Rattle.rdf_faults.specs.Faults.{IsBadCell, IsBadHeader, IsBadNode, IsCyclic, IsMixed, IsOfNothing, IsOrphan, IsReservedTriple, IsUntypedPart, IsUntypedStatement, no_axiom, no_note}
use Rattle.rdf_faults.proofs.MeantLaws.{triple_axiom}
use Rattle.rdf_faults.proofs.NoteLaws.{note_typed}
use Rattle.rdf_faults.proofs.ReservedLaws.{takes_none}
use Rattle.rdf_faults.proofs.TypedLaws.{axiom_typed, node_formed, triple_typed}

two_of_one : 2 ≤ 1 → ⊥
two_of_one h = omega arith

module _ (g : List Triple) (k : List Entity) (o : Ontology) (h : Says g k o) where
  pub no_mixed : (label : List ℕ) → IsMixed g label → ⊥
  no_mixed label m = both_ways _ (h.whole.one_role label) m

  pub no_bad_cell : (label : List ℕ) → IsBadCell g label → ⊥
  no_bad_cell label bad = bad.not_formed (node_formed g k o h label)

  pub no_bad_node : (label : List ℕ) → IsBadNode g label → ⊥
  no_bad_node label bad = bad.not_formed (node_formed g k o h label)

  pub no_cyclic : (label : List ℕ) → IsCyclic g label → ⊥
  no_cyclic label (inl c) = h.whole.no_cycle (Blank label) c
  no_cyclic label (inr c) = h.whole.no_cycle_of_notes (Blank label) c

  pub no_missing_header : headers g ≡ [] → ⊥
  no_missing_header e = nothing_else h.states.header [] (sym e ∙ h.states.one_header)

  pub no_second_header : 2 ≤ length (headers g) → ⊥
  no_second_header n = two_of_one (subst (λ xs. 2 ≤ length xs) h.states.one_header n)

  pub no_bad_header : (x : Term) → IsBadHeader g x → ⊥
  no_bad_header x bad =
      bad.no_head h.states.said
      (subst (λ y. IsHeadOf g y h.states.said) (same_only h.states.header x (sym h.states.one_header ∙ bad.one_header)) h.states.is_head)

  pub no_orphan : (label : List ℕ) → IsOrphan g k h.states.header label → ⊥
  no_orphan label bad = bad.unreached (h.whole.reached label bad.part)

  pub no_note_of_nothing : (label : List ℕ) → IsOfNothing g k h.states.header label → ⊥
  no_note_of_nothing label bad =
      bad.nothing (h.whole.reifications (Blank label) ((nodes_are g role.Note (Blank label) (λ e. cc)).1 bad.note))

  pub no_reservation : (t : Triple) → IsReservedTriple g k h.states.header t → ⊥
  no_reservation t bad = takes_none g k t (triple_axiom g k o h t bad.main) bad.takes

  pub no_untyped_part : (t : Triple) → IsUntypedPart g k t → ⊥
  no_untyped_part t bad = bad.untyped (triple_typed g k o h t bad.inside bad.structural)

  pub no_untyped_statement : (t : Triple) → IsUntypedStatement g k h.states.header t → ⊥
  no_untyped_statement t (no_axiom m untyped) = untyped (axiom_typed g k o h t m)
  no_untyped_statement t (no_note m a untyped) = untyped (note_typed g k o h t m a)
