use Rattle.std.proofs.Common.{ap, ◌∙◌, subst}
use Rattle.owl_arena.specs.Held.{Held}
use Rattle.owl_arena.specs.Shared.{AreShared}
use Rattle.owl_doc.specs.Documents.{ontology_of}
use Rattle.owl_maker.specs.Makings.{Making}
use Rattle.owl_tree.specs.Ontologies.{canonical_ontology}
use Rattle.fss_acts.proofs.Documents.{says_canonical, within_limits}
use Rattle.fss_acts.proofs.assembler.Assembler.finish.Goals as goal

pub returns-clause-same : goal.returns-clause-same
returns-clause-same c = λ m h.
    says_canonical c.args.self.maker.document m.document.ontology (ontology_of c.finish-doc.result) h.says (c.finish-doc.ensures.ontology ∙ ap (λ (w : Making). canonical_ontology (ontology_of w.document)) c.set_prefixes.ensures)

pub returns-clause-within : goal.returns-clause-within
returns-clause-within c =
    within_limits c.finish-doc.result c.head.ensures.document (subst (λ (a : Held). AreShared a.trees) c.arena.ensures c.distinct.ensures.shared)
