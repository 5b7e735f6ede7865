use Rattle.std.proofs.Common.{◌≡◌, ◌+◌, ap, ◌∙◌, subst, sym}
use Rattle.owl_list.specs.Ascending.{HoldSame}
use Rattle.owl_tree.specs.Ontologies.{canonical_ontology}
use Rattle.owl_tree.specs.OrderLaws.{only_equal_texts_tie}
use Rattle.owl_doc.specs.Documents.{Document, ontology_of}
use Rattle.owl_doc.specs.Kept.{begun_of}
use Rattle.owl_doc.proofs.Finished.{finished, ontology_finished}
use Rattle.owl_doc.proofs.builder.Builder.finish_with.Goals as goal

pub arrange-requires : goal.arrange-requires
arrange-requires c = only_equal_texts_tie

ontology : (c : goal.After-in_order-axioms) → ontology_of (record { arena = c.self.inside.arena; prefixes = c.self.inside.prefixes; head = record { name = (begun_of c.self.inside).head.name; imports = c.arrange.new.items.items }; notes = c.in_order-notes.result.items; axioms = c.in_order-axioms.result.items }) ≡ canonical_ontology (ontology_of (begun_of c.self.inside))
ontology c = ontology_finished (begun_of c.self.inside) _ _ _ c.arrange.ensures c.in_order-notes.ensures.order c.in_order-axioms.ensures.order

pub invariant_of-result : goal.invariant_of-result
invariant_of-result c = record {
  document = finished (begun_of c.self.inside) _ record {
    ontology = ontology c;
    notes = c.in_order-notes.ensures.held;
    axioms = c.in_order-axioms.ensures.held;
    weight = λ i. c.in_order-notes.ensures.weight i + c.in_order-axioms.ensures.weight i;
  } c.self.invariant.begun;
  weight = c.self.invariant.weight ∙ (λ i. sym c.in_order-notes.ensures.weight i + sym c.in_order-axioms.ensures.weight i);
  version = c.self.invariant.version;
}

pub returns : goal.returns
returns c = record {
  arena = ap (λ (d : Document). d.arena) c.self.view_is;
  prefixes = ap (λ (d : Document). d.prefixes) c.self.view_is;
  notes = subst (λ (d : Document). HoldSame c.in_order-notes.result.items d.notes) c.self.view_is c.in_order-notes.ensures.same;
  axioms = subst (λ (d : Document). HoldSame c.in_order-axioms.result.items d.axioms) c.self.view_is c.in_order-axioms.ensures.same;
  ontology = ontology c ∙ ap (λ (d : Document). canonical_ontology (ontology_of d)) c.self.view_is;
}
