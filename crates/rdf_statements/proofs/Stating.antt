-- What the graph states, and that all that it says is held.
use Rattle.std.specs.Prelude.{◌≡◌, Bool, List, [], Option}
use Rattle.std.proofs.Common.{inl, inr, subst, sym}
use Rattle.owl_kind.specs.Kinds.{Entity}
use Rattle.owl_tree.specs.Trees.{Tree}
use Rattle.rdf_graph.specs.declared.term.Term.{Term}
use Rattle.rdf_graph.specs.declared.triple.Triple.{Triple}
use Rattle.rdf_meaning.specs.declared.role.Role.TheVariants as role
use Rattle.rdf_meaning.specs.Kinds.{HaveNoClash}
use Rattle.rdf_meaning.specs.Nodes.{nodes_of}
use Rattle.rdf_meaning.specs.Statements.{Annotates, AreAxioms, AreNodeAxioms, main_triples, IsNotedTree}
use Rattle.tree_stores.specs.Stores.{Keeps, StandFor}
use Rattle.tree_stores.proofs.KidLaws.{many_kids_of}
use Rattle.tree_stores.proofs.StoreLaws.{stand_still}
use Rattle.tree_stores.specs.declared.fault.TreeFault.{TreeFault}
use Rattle.tree_stores.specs.declared.fault.TreeFault.TheVariants.{TooDeep, TooHeavy, Memory}
use Rattle.rdf_annotations.specs.Annotations.{AreAnnotations, AreSets, IsFaultOfSome}
use Rattle.rdf_annotations.proofs.AnnotationLaws.{annotations_of_header, sets_kept}
use Rattle.rdf_annotations.specs.Held.{IsAnnotated}
use Rattle.rdf_nodes.specs.Numbers.{AreAllHeld, AreKnown, AreNumbered, IsNodeTree, IsNumbersFault}
use Rattle.rdf_statements.specs.declared.known.Known.{Known}
use Rattle.rdf_statements.specs.GraphTrees.{AreStatements, IsStatementFault, IsTreeOf, StatesAxioms, of_node, of_annotation}
use Rattle.rdf_statements.specs.Holding.{Adds, HoldAll, IsKnown, StandForAxioms}
use Rattle.rdf_statements.proofs.Faults.{fault_of_some}
use Rattle.rdf_statements.proofs.Held.{all_held}

module _ (g : List Triple) (k : List Entity) (header : Term) where
  pub noted_fault : {H : Type 0} (f : TreeFault H) → IsFaultOfSome (IsNotedTree g k header) f → IsFaultOfSome (IsTreeOf g k header) f
  noted_fault f h = fault_of_some (IsNotedTree g k header) (IsTreeOf g k header) (λ t is. of_annotation t is) f h

  pub tree_fault : {H : Type 0} (f : TreeFault H) → IsFaultOfSome (IsTreeOf g k header) f → IsStatementFault g k header f
  tree_fault TooDeep h = h
  tree_fault (TooHeavy _) h = inl h
  tree_fault Memory h = tt

  pub node_fault : {H : Type 0} (limited : Bool) (f : TreeFault H) → IsNumbersFault g k limited f → IsStatementFault g k header f
  node_fault limited TooDeep h = (h.1.0, of_node h.0 h.1.0 h.1.1, h.1.2)
  node_fault limited (TooHeavy _) (inl h) = inl (h.1.0, of_node h.0 h.1.0 h.1.1, h.1.2)
  node_fault limited (TooHeavy _) (inr h) = inr (many_kids_of (IsNodeTree g k) (IsTreeOf g k header) (λ t own. of_node own.0 t own.1) h.1)
  node_fault limited Memory h = tt

  -- the axioms of triples, and then those of nodes
  pub both_stand_for : {N : Type 0} (A B C : Tree → N → Type 0) (os ms ns : List N) → os ≡ [] → Adds A B (AreAxioms g k (main_triples g k header)) os ms →
      Adds B C (AreNodeAxioms g k (nodes_of g role.Main)) ms ns → StandForAxioms C g k header ns
  both_stand_for A B C os ms ns none first second = record {
    by_triples = first.trees;
    are_axioms = first.are;
    by_nodes = second.trees;
    are_node_axioms = second.are;
    stand = second.stand first.trees (first.stand [] (subst (StandFor A []) (sym none) tt));
  }

  pub statements_are : {N : Type 0} (Old New : Tree → N → Type 0) → Keeps Old New → (annotations axioms : List N) → AreAnnotations Old g k header header annotations →
      StandForAxioms New g k header axioms → AreStatements New g k header annotations axioms
  statements_are Old New kept annotations axioms noted stand = record {
    notes_in = noted.trees;
    are_notes = subst (λ ts. Annotates g k ts noted.trees) (sym (annotations_of_header g k header)) noted.annotates;
    notes_stand = stand_still Old New kept noted.trees annotations noted.stand;
    by_triples = stand.by_triples;
    are_axioms = stand.are_axioms;
    by_nodes = stand.by_nodes;
    are_node_axioms = stand.are_node_axioms;
    axioms_stand = stand.stand;
  }

-- with the numbers of nodes, all is known

pub known_with : {N : Type 0} (Old New : Tree → N → Type 0) → Keeps Old New → (known : Known N) (ids : List (Option N)) → known.ids.now ≡ ids → IsAnnotated known.annotated →
    StatesAxioms known.annotated.reading.graph.now known.annotated.reading.kinds.now known.annotated.reading.header.now →
    AreSets Old known.annotated.reading.graph.now known.annotated.reading.kinds.now known.annotated.reading.roles.now known.sets.now.of_nodes.items known.sets.now.empty →
    AreNumbered known.annotated.reading.graph.now known.annotated.reading.kinds.now known.annotated.reading.roles.now New ids →
    AreKnown known.annotated.reading.graph.now known.annotated.reading.roles.now ids → IsKnown New known
known_with Old New kept known ids same annotated axioms sets numbered all =
    let reading = known.annotated.reading in
    record {
      annotated = annotated;
      axioms = axioms;
      numbered = subst (AreNumbered reading.graph.now reading.kinds.now reading.roles.now New) (sym same) numbered;
      all = subst (AreKnown reading.graph.now reading.roles.now) (sym same) all;
      sets = sets_kept Old New kept reading.graph.now reading.kinds.now reading.roles.now known.sets.now.of_nodes.items known.sets.now.empty sets;
    }

module _ {N : Type 0} (Old New : Tree → N → Type 0) (kept : Keeps Old New) (known : Known N) where
  pub all_stated : HaveNoClash known.annotated.reading.kinds.now → IsKnown Old known → AreAllHeld known.annotated.reading.graph.now known.annotated.reading.kinds.now Old → (annotations axioms : List N) →
      AreStatements New known.annotated.reading.graph.now known.annotated.reading.kinds.now known.annotated.reading.header.now annotations axioms →
      HoldAll New known.annotated.reading.graph.now known.annotated.reading.kinds.now known.annotated.reading.header.now annotations axioms
  all_stated none h nodes annotations axioms said =
      let reading = known.annotated.reading in
      let graph = reading.graph.now in
      let kinds = reading.kinds.now in
      let roles = reading.roles.now in
      let of_nodes = known.sets.now.of_nodes.items in
      let empty = known.sets.now.empty in
      record {
        stated = said;
        held =
            all_held New graph kinds roles reading.header.now none h.annotated.reading.table of_nodes empty annotations axioms
            (λ label t own. let n = nodes label t own in record { number = n.number; stands = kept t n.number n.stands })
            (sets_kept Old New kept graph kinds roles of_nodes empty h.sets) said;
      }
