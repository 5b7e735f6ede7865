use Rattle.fss_acts.proofs.Exits.{not_refused}
use Rattle.fss_acts.proofs.Items.{axiom_added, axiom_refused, item_work, only_refusal}
use Rattle.owl_maker.specs.declared.fault.MakeFault.TheVariants as make
use Rattle.fss_acts.proofs.assembler.Assembler.add_axiom.Goals as goal

pub returns-in-Ok : goal.returns-in-Ok
returns-in-Ok c = λ next m h ready.
    let work = item_work c.args.self.now c.made.ensures.begun c.made.ensures.shared m h ready.tree ready.keeps in
    axiom_added c.args.self.now c.made.ensures.begun c.made.ensures.shared m h ready.tree ready.keeps ready.none_open c.add_axiom.new.self c.in-Ok.ensures.done next (c.in-Ok.ensures.added ready.tree work) (not_refused c.add_axiom.result c.in-Ok.field-0 make.TooHeavy c.in-Ok.is (c.add_axiom.ensures.too_heavy ready.tree work))

pub returns-in-Err : goal.returns-in-Err
returns-in-Err c = λ next m h ready ne.
    let work = item_work c.args.self.now c.made.ensures.begun c.made.ensures.shared m h ready.tree ready.keeps in
    only_refusal c.add_axiom.result c.in-Err.fault make.TooHeavy c.of_making.result c.in-Err.is c.in-Err.ensures.refusals c.of_making.ensures ne (λ e told.
    axiom_refused c.args.self.now c.made.ensures.begun c.made.ensures.shared m h ready.tree ready.keeps c.of_making.result told ((c.add_axiom.ensures.too_heavy ready.tree work).0 e))
