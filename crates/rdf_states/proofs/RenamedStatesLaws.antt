-- A graph that holds the graph of an ontology under other labels says the ontology, where the labels of the ontology stay.
use Rattle.std.proofs.Common.{◌≡◌, ◌≤◌, ◌<◌, ℕ, List, ap, sym, ◌∙◌, subst}
use Rattle.std.specs.Prelude.{◌↔◌, Contains, map}
use Rattle.std.specs.List.{AllByRecursion}
use Rattle.blank_labels.specs.FreshLabels.{fresh_name}
use Rattle.owl_arena.specs.Shared.{heaviest}
use Rattle.owl_doc.specs.Entities.{AreWellTyped, entities, entities_of}
use Rattle.owl_kind.specs.Kinds.{Entity}
use Rattle.owl_list.specs.Ascending.{AreApart}
use Rattle.owl_list.proofs.AscendingLaws.{same_map}
use Rattle.owl_tree.specs.Ontologies.{IsOntology, Ontology, ontology_weight}
use Rattle.owl_tree.specs.Trees.{kids_of}
use Rattle.rdf_graph.specs.declared.term.Term.TheVariants.{Blank}
use Rattle.rdf_graph.specs.declared.triple.Triple.{Triple}
use Rattle.rdf_meaning.specs.declared.role.Role.TheVariants as role
use Rattle.rdf_meaning.specs.Kinds.{HaveNoClash}
use Rattle.rdf_meaning.specs.Nodes.{role_of}
use Rattle.rdf_meaning.specs.Statements.{Says}
use Rattle.rdf_normal.specs.NormalForms.{normal_form}
use Rattle.rdf_sayable.specs.Sayable.{CanSayAll}
use Rattle.rdf_mapping.specs.FormLaws.{same_label}
use Rattle.rdf_mapping.specs.GraphEntries.{made_nodes}
use Rattle.rdf_mapping.specs.Graphs.{Group, graph_of, groups_of, labels_of, made_triples}
use Rattle.rdf_mapping.proofs.GroupLaws.{group_of_axiom}
use Rattle.rdf_states.proofs.GraphOf.{IsDrawnBy}
use Rattle.rdf_states.proofs.GraphStatesLaws.{single}
use Rattle.rdf_states.proofs.LabelStandLaws.{label_stands}
use Rattle.rdf_states.proofs.NormalStatesLaws.{form_drawn}
use Rattle.rdf_states.proofs.NumberStandLaws.{HasOwnArc, axiom_has_arc, in_more, made_stand}
use Rattle.rdf_states.proofs.OntologyLaws.{all_drawn, axiom_said, drawing_says, fresh_drawn}
use Rattle.rdf_states.proofs.OwnKindLaws.{own_axioms_typed, own_kinds, own_notes_typed}
use Rattle.rdf_states.proofs.RenamedDrawingLaws.{drawing_alike, other}
use Rattle.rdf_states.proofs.ThinLaws.{drawing_is_thin}
use Rattle.rdf_thin.specs.Thinned.{thinned}
use Rattle.rdf_states.specs.Renamed.{IsLabelIn, IsRenaming, renamed}
use Rattle.rdf_states.specs.Stated.{CanBeDrawn, CanBeStated}
use Rattle.rdf_states.proofs.StatedLaws.{bare_statement}

module _ (k : List Entity) (o : Ontology) (c : CanBeStated k o) (name : ℕ → List ℕ) (h : List Triple) (d : IsDrawnBy name h o) (rename : List ℕ → List ℕ) (r : IsRenaming rename h (labels_of o)) (g : List Triple) (apart : AreApart g) (holds : (t : Triple) → Contains g t ↔ Contains (map (renamed rename) h) t) where
  group_has_arc : (q : Group) → Contains (groups_of o.axioms) q → HasOwnArc q.statement
  group_has_arc q m =
      let a = group_of_axiom o.axioms q m in
      subst HasOwnArc (sym (bare_statement a.0) ∙ ap (λ (p : Group). p.statement) a.2) (axiom_has_arc k a.0 (axiom_said k o c.can_be_drawn a.0 a.1))

  -- the nodes of all numbers stand in the graph, and all labels
  number_stands : (n : ℕ) → n < made_nodes o → IsLabelIn h (name n)
  number_stands n less =
      in_more (made_triples name o) h (name n) (λ t. (d.holds t).1) (made_stand name o (all_drawn k o c.can_be_drawn name h d) group_has_arc n less)

  stands : (label : List ℕ) → Contains (labels_of o) label → IsLabelIn h label
  stands label m = label_stands h k label o (drawing_says k o c.can_be_drawn name h d c.no_clash).states m

  pub renamed_drawn : IsDrawnBy (other rename name) g o
  renamed_drawn = record {
    differ = λ m n a b e. d.differ m n a b (r.one_to_one (name m) (name n) (number_stands m a) (number_stands n b) e);
    apart = apart;
    holds = λ t.
        let same = same_map (renamed rename) h (made_triples name o) d.holds t in
        let is = drawing_alike rename name o r.keeps in (
          λ m. subst (λ (ts : List Triple). Contains ts t) (sym is) (same.0 ((holds t).0 m)),
          λ m. (holds t).1 (same.1 (subst (λ (ts : List Triple). Contains ts t) is m)),
        );
    fresh = λ label m n less e.
        let same = r.one_to_one label (name n) (stands label m) (number_stands n less) (r.keeps label m ∙ same_label label (rename (name n)) e) in
        d.fresh label m n less (ap Blank same);
  }

  pub renamed_says : Says g k o
  renamed_says = drawing_says k o c.can_be_drawn (other rename name) g renamed_drawn c.no_clash

pub renamed_graph_says : (k : List Entity) (o : Ontology) (rename : List ℕ → List ℕ) (g : List Triple) → CanBeStated k o → IsRenaming rename (graph_of o) (labels_of o) → AreApart g → ((t : Triple) → Contains g t ↔ Contains (map (renamed rename) (graph_of o)) t) → Says g k o
renamed_graph_says k o rename g c r apart holds =
    renamed_says k o c (fresh_name (labels_of o)) (graph_of o) (fresh_drawn o c.can_be_drawn.few) rename r g apart holds

-- and no triple of it is redundant
renamed_graph_is_thin : (k : List Entity) (o : Ontology) (rename : List ℕ → List ℕ) (g : List Triple) → CanBeStated k o → IsRenaming rename (graph_of o) (labels_of o) → AreApart g → ((t : Triple) → Contains g t ↔ Contains (map (renamed rename) (graph_of o)) t) → thinned g ≡ g
renamed_graph_is_thin k o rename g c r apart holds =
    let name = fresh_name (labels_of o) in
    let can = c.can_be_drawn in
    drawing_is_thin o (other rename name) g (renamed_drawn k o c name (graph_of o) (fresh_drawn o can.few) rename r g apart holds) can.is_ontology can.normal can.sayable can.few

-- in the graph itself the labels are those of individuals
pub graph_labels : (k : List Entity) (o : Ontology) → CanBeDrawn k o → (label : List ℕ) → Contains (labels_of o) label → role_of (graph_of o) (Blank label) ≡ role.Individual
graph_labels k o c label m =
    let name = fresh_name (labels_of o) in
    let d = fresh_drawn o c.few in
    single k o c name (graph_of o) d (all_drawn k o c name (graph_of o) d) label m

-- Normal forms.

pub form_labels : (o : Ontology) → IsOntology o → CanSayAll o → ontology_weight (normal_form o) ≤ heaviest → (label : List ℕ) → Contains (labels_of (normal_form o)) label → role_of (graph_of (normal_form o)) (Blank label) ≡ role.Individual
form_labels o is said light =
    let p = normal_form o in
    graph_labels (own_kinds p) p (form_drawn (own_kinds p) o is said light (own_notes_typed p) (own_axioms_typed p))

pub renamed_form_says : (k : List Entity) (o : Ontology) → IsOntology o → CanSayAll o → ontology_weight (normal_form o) ≤ heaviest → HaveNoClash k → AreWellTyped k (entities_of (kids_of (normal_form o).annotations)) → AllByRecursion (λ t. AreWellTyped k (entities t)) (normal_form o).axioms → (rename : List ℕ → List ℕ) (g : List Triple) → IsRenaming rename (graph_of (normal_form o)) (labels_of (normal_form o)) → AreApart g → ((t : Triple) → Contains g t ↔ Contains (map (renamed rename) (graph_of (normal_form o))) t) → Says g k (normal_form o)
renamed_form_says k o is said light no_clash notes axioms rename g =
    renamed_graph_says k (normal_form o) rename g (record { no_clash = no_clash; can_be_drawn = form_drawn k o is said light notes axioms })

pub renamed_form_is_thin : (k : List Entity) (o : Ontology) → IsOntology o → CanSayAll o → ontology_weight (normal_form o) ≤ heaviest → HaveNoClash k → AreWellTyped k (entities_of (kids_of (normal_form o).annotations)) → AllByRecursion (λ t. AreWellTyped k (entities t)) (normal_form o).axioms → (rename : List ℕ → List ℕ) (g : List Triple) → IsRenaming rename (graph_of (normal_form o)) (labels_of (normal_form o)) → AreApart g → ((t : Triple) → Contains g t ↔ Contains (map (renamed rename) (graph_of (normal_form o))) t) → thinned g ≡ g
renamed_form_is_thin k o is said light no_clash notes axioms rename g =
    renamed_graph_is_thin k (normal_form o) rename g (record { no_clash = no_clash; can_be_drawn = form_drawn k o is said light notes axioms })
