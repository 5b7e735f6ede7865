use Rattle.owl_doc.specs.Documents.{ontology_of}
use Rattle.rdf_normal.specs.NormalForms.{settled, unsettled_annotations, unsettled_axioms}
use Rattle.rdf_normal.proofs.Extending.{extends_itself}
use Rattle.rdf_normal.proofs.SettleTrees.{absorbed_is, as_many, made_on, settle_made, settled_at}
use Rattle.rdf_normal.proofs.settling.settle_all.Goals as goal

pub returns-clause-settled : goal.returns-clause-settled
returns-clause-settled c =
    let ts = c.args.arena.now.trees in
    let us = c.behind_third.new.arena.trees in
    let vs = c.tidied_all.new.arena.trees in
    let ws = c.settle.new.arena.trees in
    let xs = c.settle-2.new.arena.trees in
    let o = ontology_of c.args.doc.now in
    let known = c.in_ok-known.ensures.made in
    let axioms = settled_at ts us vs ws xs c.in_ok-known.known.items c.in_ok-unsettled.unsettled.axioms.items c.in_ok-axioms.axioms.items (unsettled_axioms o) c.in_ok-unsettled.ensures.made.axioms known c.in_ok-notes.ensures.made.extends (settle_made ws xs c.deref-3.result.now c.in_ok-known.known.items c.deref-4.result.now c.in_ok-unsettled.unsettled.axioms.items c.in_ok-axioms.axioms.items c.deref-3.ensures.value c.deref-4.ensures.value c.in_ok-axioms.ensures.made) in
    record {
      notes = made_on ts ws xs c.in_ok-notes.notes.items _ (settled_at ts us vs vs ws c.in_ok-known.known.items c.in_ok-unsettled.unsettled.notes.items c.in_ok-notes.notes.items (unsettled_annotations o) c.in_ok-unsettled.ensures.made.notes known (extends_itself vs) (settle_made vs ws c.deref.result.now c.in_ok-known.known.items c.deref-2.result.now c.in_ok-unsettled.unsettled.notes.items c.in_ok-notes.notes.items c.deref.ensures.value c.deref-2.ensures.value c.in_ok-notes.ensures.made)) c.in_ok-axioms.ensures.made.extends;
      axioms = axioms;
      absorbed = let before = as_many ts us c.in_ok-unsettled.unsettled.axioms.items (unsettled_axioms o) c.in_ok-unsettled.ensures.made.axioms in let after = as_many ts xs c.in_ok-axioms.axioms.items (settled (unsettled_axioms o)) axioms in absorbed_is c.deref-5.result.now c.deref-6.result.now c.in_ok-unsettled.unsettled.axioms.items c.in_ok-axioms.axioms.items _ _ c.fewer-absorbed.result c.fewer-absorbed.ensures c.deref-5.ensures.value c.deref-6.ensures.value before after;
    }
