-- Graphs of which nothing that is asked before the limits is wrong say an ontology.
use Rattle.std.specs.Prelude.{◌≡◌, ℕ, IsTrue, List, Contains}
use Rattle.std.proofs.Common.{sym, ◌∙◌, subst}
use Rattle.owl_kind.specs.Kinds.{Entity}
use Rattle.owl_list.proofs.AscendingLaws.{all_in}
use Rattle.owl_tree.specs.Ontologies.{Ontology}
use Rattle.rdf_graph.specs.declared.term.Term.{Term}
use Rattle.rdf_graph.specs.declared.term.Term.TheVariants.{Blank}
use Rattle.rdf_graph.specs.declared.triple.Triple.{Triple}
use Rattle.rdf_meaning.specs.Kinds.{HaveNoClash}
use Rattle.owl_list.proofs.FilterLaws.{from_filter}
use Rattle.rdf_meaning.specs.Nodes.{role_of}
use Rattle.rdf_meaning.proofs.ListLaws.{same_only}
use Rattle.rdf_meaning.specs.Statements.{HasAxiom, IsPartOfAxiom, Says, is_annotation_triple, main_triples}
use Rattle.rdf_annotations.specs.Held.{AreTypedNotes}
use Rattle.rdf_faults.specs.Asked.{IsTypedNote}
use Rattle.rdf_faults.proofs.ConverseLaws.{faultless_says}
use Rattle.rdf_faults.specs.Faultless.{IsFaultless}
use Rattle.rdf_faults.specs.Faults.{IsBadCell, IsBadHeader, IsBadNode, IsCyclic, IsMixed, IsOfNothing, IsOrphan, IsReservedTriple, IsUntypedPart, IsUntypedStatement, no_axiom, no_note}
use Rattle.rdf_faults.specs.Firsts.{HoldsForNone}
use Rattle.rdf_faults.proofs.NoteLaws.{note_typed}
use Rattle.rdf_faults.proofs.MeantLaws.{node_axiom, node_meant, triple_axiom}
use Rattle.rdf_nodes.proofs.AmongLaws.{cell_among, cyclic_among, mixed_among, node_among, none_of, with_role}
use Rattle.rdf_nodes.proofs.ExpressionLaws.{expression_is_part, meant_denotes}
use Rattle.rdf_nodes.specs.Large.{HasLargeNumber}
use Rattle.rdf_nodes.specs.Numbers.{DenoteTrees}
use Rattle.rdf_roles.specs.Tables.{blank_nodes}
use Rattle.rdf_scans.specs.declared.reading.Reading.{Reading}
use Rattle.rdf_scans.specs.Sorts.{IsReading}
use Rattle.rdf_statements.specs.GraphTrees.{StatesAxioms}

-- all triples name what they may
pub record AreTyped (g : List Triple) (k : List Entity) (header : Term) : Type 0 where
  pub parts : (t : Triple) → IsUntypedPart g k t → ⊥
  pub statements : HoldsForNone (IsUntypedStatement g k header) g

-- No reification is of nothing, no triple takes a reserved IRI, all nodes are reached, and all triples name what they may.
pub record AreScanned (g : List Triple) (k : List Entity) (header : Term) : Type 0 where
  pub reifications : HoldsForNone (IsOfNothing g k header) (blank_nodes g)
  pub names : HoldsForNone (IsReservedTriple g k header) g
  pub reach : HoldsForNone (IsOrphan g k header) (blank_nodes g)
  pub typed : AreTyped g k header

-- Neither kinds, header and nodes are wrong, nor anything that is scanned.
pub record IsClear (reading : Reading) : Type 0 where
  pub no_clash : HaveNoClash reading.kinds.now
  pub good_header : IsBadHeader reading.graph.now reading.header.now → ⊥
  pub is_reading : IsReading reading
  pub scanned : AreScanned reading.graph.now reading.kinds.now reading.header.now

module _ (g : List Triple) where
  note_among : (k : List Entity) (header : Term) (label : List ℕ) → IsOfNothing g k header label → Contains (blank_nodes g) label
  note_among k header label bad = with_role g label (λ e. let both = sym bad.note ∙ e in cc)

  orphan_among : (k : List Entity) (header : Term) (label : List ℕ) → IsOrphan g k header label → Contains (blank_nodes g) label
  orphan_among k header label bad = with_role g label (λ e. subst IsPartOfAxiom e bad.part)

  statement_among : (k : List Entity) (header : Term) (t : Triple) → IsUntypedStatement g k header t → Contains g t
  unfolding main_triples
  statement_among k header t (no_axiom m n) = (from_filter _ g t m).inside
  statement_among k header t (no_note m a n) = m

module _ (reading : Reading) (clear : IsClear reading) where
  abbrev g : List Triple
  g = reading.graph.now

  abbrev k : List Entity
  k = reading.kinds.now

  abbrev header : Term
  header = reading.header.now

  clear_is_faultless : IsFaultless g k
  clear_is_faultless = record {
    no_clash = clear.no_clash;
    header = header;
    one_header = clear.is_reading.one_header;
    good_header = clear.good_header;
    no_mixed = none_of g (IsMixed g) clear.is_reading.formed.one_role (mixed_among g);
    no_bad_cell = none_of g (IsBadCell g) clear.is_reading.formed.cells (cell_among g);
    no_cyclic = none_of g (IsCyclic g) clear.is_reading.formed.no_cycle (cyclic_among g);
    no_bad_node = none_of g (IsBadNode g) clear.is_reading.formed.forms (node_among g);
    no_note_of_nothing = none_of g (IsOfNothing g k header) clear.scanned.reifications (note_among g k header);
    no_untyped_part = clear.scanned.typed.parts;
    no_untyped_statement = λ t bad. all_in (λ u. IsUntypedStatement g k header u → ⊥) g t clear.scanned.typed.statements (statement_among g k header t bad) bad;
    no_orphan = none_of g (IsOrphan g k header) clear.scanned.reach (orphan_among g k header);
  }

  pub clear_says : (o : Ontology) × Says g k o
  clear_says = faultless_says g k clear_is_faultless

  pub clear_header : (o : Ontology) (says : Says g k o) → says.states.header ≡ header
  clear_header o says = same_only says.states.header header (sym says.states.one_header ∙ clear.is_reading.one_header)

  pub clear_states : StatesAxioms g k header
  clear_states =
      let o = clear_says.0 in
      let says = clear_says.1 in
      record {
        triples = subst (λ x. (t : Triple) → Contains (main_triples g k x) t → HasAxiom g k t) (clear_header o says) (triple_axiom g k o says);
        nodes = node_axiom g k o says;
      }

  pub clear_notes : AreTypedNotes g k header
  clear_notes =
      let o = clear_says.0 in
      let says = clear_says.1 in
      subst (λ x. (t : Triple) → Contains g t → IsTrue (is_annotation_triple g k x t) → IsTypedNote g k t) (clear_header o says) (note_typed g k o says)

  pub clear_denotes : (HasLargeNumber g → ⊥) → DenoteTrees g k
  clear_denotes small = record {
    small = small;
    trees = λ label s gives.
        meant_denotes g k (Blank label) s gives (node_meant g k clear_says.0 clear_says.1 (Blank label) (expression_is_part (role_of g (Blank label)) s gives));
  }
