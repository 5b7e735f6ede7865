use Rattle.std.proofs.Common.{inl, refl, subst, sym}
use Rattle.rdf_statements.specs.GraphTrees.{IsStatementFault}
use Rattle.rdf_reverse.specs.Clear.{clear_denotes, clear_notes, clear_states}
use Rattle.rdf_reverse.specs.Reverse.{IsFoundBy, limits}
use Rattle.rdf_reverse.proofs.Limiting.{deep_tree_found, heavy_found, none_beyond}
use Rattle.rdf_reverse.proofs.trees.fault_by_depths.Goals as goal
use Rattle.rdf_reverse.proofs.trees.fault_by_depths.Goals.{in-Ok, in-Err-TooDeep, in-Err-Memory}

pub hold_statements-requires-clause-axioms : goal.hold_statements-requires-clause-axioms
hold_statements-requires-clause-axioms c = clear_states c.args.reading.now c.requires.clear

pub hold_statements-requires-clause-notes : goal.hold_statements-requires-clause-notes
hold_statements-requires-clause-notes c = clear_notes c.args.reading.now c.requires.clear

pub hold_statements-requires-clause-nodes : goal.hold_statements-requires-clause-nodes
hold_statements-requires-clause-nodes c = clear_denotes c.args.reading.now c.requires.clear c.requires.small

pub returns : goal.returns
returns c =
    let reading = c.args.reading.now in
    let Found = IsFoundBy reading.graph.now reading.kinds.now limits in
    elim c.match-hold_statements.branch [
      | in-Ok w ↦
          subst Found (sym w.result-is)
          (heavy_found reading c.requires.clear.is_reading.one_header (record { small = c.requires.small; shallow = none_beyond reading w.in-Ok.ensures.held }) c.requires.heavy)
      | in-Err-TooDeep w ↦
          subst Found (sym w.result-is)
          (deep_tree_found reading c.requires.clear.is_reading.one_header c.requires.small
          (subst (IsStatementFault reading.graph.now reading.kinds.now reading.header.now) w.in-Err-TooDeep.field-0-is w.in-Err-TooDeep.ensures.fault))
      | in-Err-Memory w ↦ subst Found (sym w.result-is) (inl refl)
    ]
