-- The graph of an ontology says it, since each of its axioms is drawn well and read back; and so does any graph that is drawn of it with
-- other names of its nodes.
use Rattle.std.proofs.Common.{◌≤◌, ◌+◌, ◌*◌, ◌^◌, ℕ, List, ◌++◌, length, subst, arith}
use Rattle.std.specs.Prelude.{Contains}
use Rattle.std.proofs.lemmas.List.Elements.{Contains-append_right}
use Rattle.owl_kind.specs.Kinds.{Entity}
use Rattle.owl_list.proofs.AscendingLaws.{all_in}
use Rattle.owl_tree.specs.Ontologies.{Ontology}
use Rattle.owl_tree.specs.Trees.{Tree}
use Rattle.rdf_graph.specs.declared.triple.Triple.{Triple}
use Rattle.rdf_meaning.specs.Kinds.{HaveNoClash}
use Rattle.rdf_meaning.specs.Statements.{Says}
use Rattle.blank_labels.specs.FreshLabels.{fresh_name}
use Rattle.blank_labels.proofs.FreshLabelLaws.{fresh_new}
use Rattle.rdf_mapping.specs.GraphEntries.{made_nodes}
use Rattle.rdf_mapping.specs.GraphLaws.{graph_apart, graph_holds}
use Rattle.rdf_mapping.specs.Graphs.{graph_of, labels_of}
use Rattle.rdf_mapping.proofs.WholeFrameLaws.{fresh_named_apart}
use Rattle.rdf_mapping.specs.FormLaws.{same_label}
use Rattle.rdf_axioms.specs.AxiomReading.{IsSayableAxiom}
use Rattle.rdf_axioms.proofs.NormalAxiomLaws.{axioms_sayable}
use Rattle.rdf_axioms.proofs.ReadBackLaws.{axiom_read_back}
use Rattle.rdf_axioms.proofs.WellDrawnLaws.{axiom_well_drawn}
use Rattle.rdf_states.proofs.GraphOf.{AreReadBack, AreWellDrawn, IsDrawnBy}
use Rattle.rdf_states.proofs.GraphStatesLaws.{graph_says, single}
use Rattle.rdf_states.proofs.ReadLaws.{axiom_single, labels_among}
use Rattle.rdf_states.specs.Stated.{CanBeDrawn}

pub axiom_said : (k : List Entity) (o : Ontology) → CanBeDrawn k o → (a : Tree) → Contains o.axioms a → IsSayableAxiom k a
axiom_said k o c a m =
    all_in (IsSayableAxiom k) o.axioms a (axioms_sayable k o c.is_ontology c.normal c.sayable c.typed_axioms) m

module _ (k : List Entity) (o : Ontology) (c : CanBeDrawn k o) (name : ℕ → List ℕ) (g : List Triple) (d : IsDrawnBy name g o) where
  pub all_drawn : AreWellDrawn name o
  all_drawn a m =
      axiom_well_drawn name (made_nodes o) k a (axiom_said k o c a m)
      (λ label i. d.fresh label (labels_among (o.annotations ++ o.axioms) a label (Contains-append_right o.annotations o.axioms a m) i))

  pub all_read : AreReadBack name g k o
  all_read a m =
      axiom_read_back name (made_nodes o) d.differ g k d.apart a (axiom_said k o c a m) (axiom_single g o (single k o c name g d all_drawn) a m)

  pub drawing_says : HaveNoClash k → Says g k o
  drawing_says = graph_says k o c name g d all_drawn all_read

-- with fresh names
pub fresh_drawn : (o : Ontology) → made_nodes o + length (labels_of o) ≤ 9 * 10 ^ 18 → IsDrawnBy (fresh_name (labels_of o)) (graph_of o) o
fresh_drawn o few = record {
  differ = fresh_named_apart (labels_of o) (made_nodes o) few;
  apart = graph_apart o;
  holds = graph_holds o;
  fresh = λ label m n l e.
      fresh_new (labels_of o) n (omega (arith, few, l)) (subst (λ (x : List ℕ). Contains (labels_of o) x) (same_label label (fresh_name (labels_of o) n) e) m);
}

pub ontology_said : (k : List Entity) (o : Ontology) → CanBeDrawn k o → HaveNoClash k → Says (graph_of o) k o
ontology_said k o c = drawing_says k o c (fresh_name (labels_of o)) (graph_of o) (fresh_drawn o c.few)
