-- A graph that holds what is drawn of an ontology says it, where its axioms have places of their own and are read back.
use Rattle.std.proofs.Common.{ℕ, List, sym, ap, ◌∙◌, subst, arith}
use Rattle.std.specs.Prelude.{◌↔◌, [], ◌∷◌, ◌+◌, Contains}
use Rattle.owl_kind.specs.Kinds.{Entity}
use Rattle.owl_list.proofs.AscendingLaws.{all_from}
use Rattle.owl_tree.specs.Ontologies.{Ontology}
use Rattle.rdf_graph.specs.declared.triple.Triple.{Triple}
use Rattle.rdf_graph.proofs.GraphLaws.{set_holds}
use Rattle.rdf_graph.specs.Graphs.{set_of}
use Rattle.rdf_meaning.specs.Kinds.{HaveNoClash}
use Rattle.rdf_meaning.specs.Statements.{Says}
use Rattle.rdf_mapping.specs.Drawing.{Statement}
use Rattle.rdf_mapping.specs.Entries.{AreAllBeside, AreEntries}
use Rattle.rdf_mapping.specs.GraphEntries.{made_entries, made_nodes}
use Rattle.rdf_mapping.specs.GroupFrames.{AreStatedApart, EachGroupKept, StatesApart}
use Rattle.rdf_mapping.specs.Graphs.{Group, bare, groups_of, made_triples, statement_nodes}
use Rattle.rdf_mapping.proofs.GroupLaws.{group_of_axiom}
use Rattle.rdf_mapping.specs.Notes.{Notes}
use Rattle.rdf_mapping.proofs.WholeFrameLaws.{made_kept}
use Rattle.rdf_axioms.specs.AxiomReading.{IsWellDrawn}
use Rattle.rdf_states.proofs.GraphOf.{AreReadBack, AreWellDrawn, IsDrawnBy, IsGraphOf, LabelsAreSingle}
use Rattle.rdf_states.proofs.NamedEntryLaws.{named_entries}
use Rattle.rdf_states.specs.Places.{first_number}
use Rattle.rdf_states.proofs.RoleLaws.{no_note_marks}
use Rattle.rdf_states.proofs.SideLaws.{header_beside, labels_single, set_beside}
use Rattle.rdf_states.specs.Stated.{CanBeDrawn}
use Rattle.rdf_states.proofs.StatedLaws.{bare_statement}
use Rattle.rdf_states.proofs.WholeStateLaws.{says}

-- each statement is drawn apart from all else
pub group_drawn : (name : ℕ → List ℕ) (o : Ontology) → AreWellDrawn name o → (q : Group) → Contains (groups_of o.axioms) q → IsWellDrawn name (made_nodes o) q.statement
group_drawn name o drawn q m =
    let a = group_of_axiom o.axioms q m in
    subst (λ (s : Statement). IsWellDrawn name (made_nodes o) s) (sym (bare_statement a.0) ∙ ap (λ (r : Group). r.statement) a.2) (drawn a.0 a.1)

-- what one graph keeps, another with the same triples does
kept_too : (name : ℕ → List ℕ) (g h : List Triple) → ((t : Triple) → Contains g t ↔ Contains h t) → (gs : List Group) (n : ℕ) → EachGroupKept name g gs n → EachGroupKept name h gs n
kept_too name g h same [] n k = tt
kept_too name g h same (q ∷ gs) n k = (
  record { there = λ t m. (same t).0 (k.0.there t m); back = λ t l c m. k.0.back t l c ((same t).1 m) },
  kept_too name g h same gs (n + statement_nodes q.statement q.sets) k.1,
)

module _ (k : List Entity) (o : Ontology) (c : CanBeDrawn k o) (name : ℕ → List ℕ) (g : List Triple) (d : IsDrawnBy name g o) (drawn : AreWellDrawn name o) where
  stated_apart : AreStatedApart name (made_nodes o) (groups_of o.axioms)
  stated_apart = all_from (λ q. StatesApart name (made_nodes o) q.statement) (groups_of o.axioms) (λ q m. (group_drawn name o drawn q m).apart)

  pub graph_is : IsGraphOf name g o
  graph_is = record {
    differ = d.differ;
    apart = d.apart;
    holds = d.holds;
    fresh = d.fresh;
    kept =
        let ts = made_triples name o in
        kept_too name (set_of ts) g (λ t. (λ m. (d.holds t).1 ((set_holds ts t).0 m), λ m. (set_holds ts t).1 ((d.holds t).0 m))) (groups_of o.axioms) (first_number o)
        (made_kept name (made_nodes o) d.differ o (omega arith) stated_apart);
  }

  pub single : LabelsAreSingle g o
  single = labels_single name g o graph_is drawn

  beside : (q : Group) (ns : Notes) → Contains (groups_of o.axioms) q → Contains q.sets ns → AreAllBeside ns
  beside q ns m i =
      let a = group_of_axiom o.axioms q m in
      set_beside k o c (bare a.0) ns (subst (λ (r : Group). Contains r.sets ns) (sym a.2) i)

  module _ (read : AreReadBack name g k o) where
    pub entries : AreEntries name g (made_entries name o)
    entries = named_entries name g o graph_is stated_apart (header_beside k o c) beside (no_note_marks k o c name g graph_is drawn single read)

    pub graph_says : HaveNoClash k → Says g k o
    graph_says apart = says k o (record { no_clash = apart; can_be_drawn = c }) name g graph_is drawn single read entries
