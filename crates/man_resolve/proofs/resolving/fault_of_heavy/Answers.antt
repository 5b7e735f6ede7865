use Rattle.std.proofs.Common.{◌++◌, inl, inr, refl, subst, sym}
use Rattle.tree_stores.specs.Stores.{HasDepth}
use Rattle.tree_stores.proofs.StoreLaws.{shallow_tree}
use Rattle.man_resolve.specs.Limits.{IsLimitFault, ontology_made, too_deep, too_heavy}
use Rattle.man_resolve.specs.Making.{IsFaultAmong, trees_of}
use Rattle.man_resolve.proofs.LimitLaws.{made_shallow, some_deep}
use Rattle.man_resolve.proofs.resolving.fault_of_heavy.Goals as goal
use Rattle.man_resolve.proofs.resolving.fault_of_heavy.Goals.{in-Ok, in-Err-TooDeep, in-Err-Memory}

pub returns : goal.returns
returns c =
    let head = c.args.raw.now.head in
    let notes = c.args.notes.now in
    let axioms = c.args.axioms.now in
    let o = ontology_made head notes axioms in
    elim c.match-make_both.branch [
      | in-Ok w ↦
          let made = w.in-Ok.field-0 in
          subst (IsLimitFault o) (sym w.result-is) (inr (too_heavy (made_shallow HasDepth head notes axioms made.notes.items made.axioms.items w.in-Ok.ensures.made shallow_tree) c.requires))
      | in-Err-TooDeep w ↦
          let fault = w.in-Err-TooDeep.field-0 in
          subst (IsLimitFault o) (sym w.result-is) (inr (too_deep (some_deep o (subst (IsFaultAmong (trees_of notes ++ trees_of axioms)) w.in-Err-TooDeep.field-0-is w.in-Err-TooDeep.ensures.fault))))
      | in-Err-Memory w ↦ subst (IsLimitFault o) (sym w.result-is) (inl refl)
    ]
