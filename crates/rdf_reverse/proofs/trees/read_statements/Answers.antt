use Rattle.std.proofs.Common.{subst}
use Rattle.rdf_statements.specs.GraphTrees.{IsStatementFault}
use Rattle.rdf_reverse.specs.Clear.{clear_denotes, clear_notes, clear_states}
use Rattle.rdf_reverse.proofs.Limiting.{deep_tree_found, heavy_said, within_limits}
use Rattle.rdf_reverse.proofs.trees.read_statements.Goals as goal

pub hold_statements-requires-clause-axioms : goal.hold_statements-requires-clause-axioms
hold_statements-requires-clause-axioms c = clear_states c.args.reading.now c.requires

pub hold_statements-requires-clause-notes : goal.hold_statements-requires-clause-notes
hold_statements-requires-clause-notes c = clear_notes c.args.reading.now c.requires

pub hold_statements-requires-clause-nodes : goal.hold_statements-requires-clause-nodes
hold_statements-requires-clause-nodes c =
    clear_denotes c.args.reading.now c.requires (λ large. let is = c.has_large_number.ensures.1 large in let isnt = c.if-has_large_number.false in cc)

pub returns-in-Ok-clause-within : goal.returns-in-Ok-clause-within
returns-in-Ok-clause-within c =
    within_limits c.args.reading.now c.hold_statements.new.store.trees (λ large. let is = c.has_large_number.ensures.1 large in let isnt = c.if-has_large_number.false in cc) c.in-Ok.ensures.held c.fits.ensures

pub returns-in-Err-TooDeep-clause-fault : goal.returns-in-Err-TooDeep-clause-fault
returns-in-Err-TooDeep-clause-fault c =
    let reading = c.args.reading.now in
    deep_tree_found reading c.requires.is_reading.one_header (λ large. let is = c.has_large_number.ensures.1 large in let isnt = c.if-has_large_number.false in cc)
    (subst (IsStatementFault reading.graph.now reading.kinds.now reading.header.now) c.in-Err-TooDeep.field-0-is c.in-Err-TooDeep.ensures.fault)

pub fault_of_heavy-requires-clause-heavy : goal.fault_of_heavy-requires-clause-heavy
fault_of_heavy-requires-clause-heavy c =
    let reading = c.args.reading.now in
    heavy_said reading c.requires
    (subst (IsStatementFault reading.graph.now reading.kinds.now reading.header.now) c.in-Err-TooHeavy.field-0-is c.in-Err-TooHeavy.ensures.fault)
