use Rattle.std.proofs.Common.{subst, sym}
use Rattle.std.proofs.lemmas.Bool.{both_ways}
use Rattle.tree_stores.specs.Stores.{HasNumber}
use Rattle.rdf_nodes.specs.Numbers.{AreKnown, AreNumbered}
use Rattle.rdf_nodes.proofs.DenotedLaws.{typed_denote_trees}
use Rattle.rdf_nodes.proofs.nodes.denote.Goals as goal

pub are_shallow-requires-clause-trees : goal.are_shallow-requires-clause-trees
are_shallow-requires-clause-trees c =
    typed_denote_trees c.args.graph.now c.args.kinds.now c.requires.kinds c.requires.formed c.requires.typed
    (λ h. both_ways c.has_large_number.result c.if-has_large_number.false (c.has_large_number.ensures.1 h))

pub numbers-requires-clause-trees : goal.numbers-requires-clause-trees
numbers-requires-clause-trees c =
    typed_denote_trees c.args.graph.now c.args.kinds.now c.requires.kinds c.requires.formed c.requires.typed
    (λ h. both_ways c.has_large_number.result c.if-has_large_number.false (c.has_large_number.ensures.1 h))

pub by_label-requires-clause-known : goal.by_label-requires-clause-known
by_label-requires-clause-known c = subst (AreKnown c.args.graph.now c.args.roles.now) (sym c.deref.ensures.value) c.in_ok-ids.ensures.known

pub returns-clause-nodes : goal.returns-clause-nodes
returns-clause-nodes c =
    let trees = c.numbers.new.store.trees in
    let numbered = subst (AreNumbered c.args.graph.now c.args.kinds.now c.args.roles.now (HasNumber trees)) (sym c.deref.ensures.value) c.in_ok-ids.ensures.numbered in
    record {
      small = λ h. both_ways c.has_large_number.result c.if-has_large_number.false (c.has_large_number.ensures.1 h);
      numbers = c.in_ok-table.ensures trees numbered;
    }
