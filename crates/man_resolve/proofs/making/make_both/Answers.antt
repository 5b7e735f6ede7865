use Rattle.owl_characters.proofs.ResultLaws.{passed}
use Rattle.tree_stores.proofs.StoreLaws.{stand_still}
use Rattle.man_resolve.specs.Making.{trees_of}
use Rattle.man_resolve.proofs.MakingLaws.{fault_behind, fault_in_front}
use Rattle.man_resolve.proofs.making.make_both.Goals as goal

pub returns-in_err-notes-clause-fault : goal.returns-in_err-notes-clause-fault
returns-in_err-notes-clause-fault g c =
    let fault = c.in_err-notes.field-0.0 in
    passed c.from_residual.result fault _ c.from_residual.ensures.1
    (fault_in_front (trees_of c.args.notes.now) (trees_of c.args.axioms.now) fault c.in_err-notes.ensures.fault)

pub returns-in_err-axioms-clause-fault : goal.returns-in_err-axioms-clause-fault
returns-in_err-axioms-clause-fault g c =
    let fault = c.in_err-axioms.field-0.0 in
    passed c.from_residual-in_err-axioms.result fault _ c.from_residual-in_err-axioms.ensures.1
    (fault_behind (trees_of c.args.notes.now) (trees_of c.args.axioms.now) fault c.in_err-axioms.ensures.fault)

pub returns-clause-made : goal.returns-clause-made
returns-clause-made g c =
    let stands = g.S.TreeStore.stands in
    record {
      notes_stand = stand_still (stands c.make_trees.new.store) (stands c.make_trees-2.new.store) c.in_ok-axioms.ensures.kept (trees_of c.args.notes.now) c.in_ok-notes.notes.items c.in_ok-notes.ensures.made;
      axioms_stand = c.in_ok-axioms.ensures.made;
    }
