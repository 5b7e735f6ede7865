use Rattle.std.proofs.Common.{Err, ℕ, List, ap, subst, sym}
use Rattle.owl_arena.specs.Held.{AreHeld, trees_at}
use Rattle.owl_assembly.specs.Filling.{AreAnnotations, AreAxioms}
use Rattle.rdf_reverse.proofs.Assembling.{document_said, lent_stated, too_heavy}
use Rattle.rdf_reverse.proofs.Finding.{given_by}
use Rattle.rdf_reverse.proofs.Limiting.{assembling_found, numbers_held}
use Rattle.rdf_reverse.proofs.Tagging.{stated_annotations, stated_axioms}
use Rattle.rdf_reverse.proofs.mapping.read_clear.Goals as goal

pub assemble-requires-clause-annotations : goal.assemble-requires-clause-annotations
assemble-requires-clause-annotations c =
    let trees = c.read_statements.new.arena.trees in
    let stated = c.in_ok-said.ensures.stated in
    subst (AreHeld trees) (sym c.deref.ensures.value) (numbers_held trees stated.notes_in c.in_ok-said.said.annotations.items stated.notes_stand)

pub assemble-requires-clause-axioms : goal.assemble-requires-clause-axioms
assemble-requires-clause-axioms c =
    let trees = c.read_statements.new.arena.trees in
    let stated = c.in_ok-said.ensures.stated in
    subst (AreHeld trees) (sym c.deref-2.ensures.value) (numbers_held trees _ c.in_ok-said.said.axioms.items stated.axioms_stand)

pub assemble-requires-clause-are_annotations : goal.assemble-requires-clause-are_annotations
assemble-requires-clause-are_annotations c =
    let trees = c.read_statements.new.arena.trees in
    subst (λ (ids : List ℕ). AreAnnotations (trees_at trees ids)) (sym c.deref.ensures.value)
    (stated_annotations c.args.reading.now trees c.in_ok-said.said.annotations.items c.in_ok-said.said.axioms.items c.in_ok-said.ensures.stated)

pub assemble-requires-clause-are_axioms : goal.assemble-requires-clause-are_axioms
assemble-requires-clause-are_axioms c =
    let trees = c.read_statements.new.arena.trees in
    subst (λ (ids : List ℕ). AreAxioms (trees_at trees ids)) (sym c.deref-2.ensures.value)
    (stated_axioms c.args.reading.now trees c.in_ok-said.said.annotations.items c.in_ok-said.said.axioms.items c.in_ok-said.ensures.stated c.requires.clear.no_clash)

pub returns-in_err-assemble-clause-fault : goal.returns-in_err-assemble-clause-fault
returns-in_err-assemble-clause-fault c =
    let reading = c.args.reading.now in
    let trees = c.read_statements.new.arena.trees in
    let stated =
    lent_stated reading trees _ _ c.deref.result.now c.deref-2.result.now c.deref.ensures.value c.deref-2.ensures.value c.in_ok-said.ensures.stated in
    given_by c.from_residual-in_err-assemble.result c.from_residual-in_err-assemble.ensures.1 (λ f e.
    assembling_found reading c.requires.clear.is_reading.one_header c.in_ok-said.ensures.within.are_shallow c.in_err-assemble.field-0.0 f e (λ heavy.
    too_heavy reading c.requires.clear c.args.head c.requires.head trees c.deref.result.now c.deref-2.result.now stated (c.in_err-assemble.ensures.heavy (ap Err heavy))))

pub returns-clause-said : goal.returns-clause-said
returns-clause-said c =
    let reading = c.args.reading.now in
    let trees = c.read_statements.new.arena.trees in
    let stated =
    lent_stated reading trees _ _ c.deref.result.now c.deref-2.result.now c.deref.ensures.value c.deref-2.ensures.value c.in_ok-said.ensures.stated in
    document_said reading c.requires.clear c.args.head c.requires.head trees c.deref.result.now c.deref-2.result.now stated c.in_ok-said.ensures.within
    c.in_ok-assemble.ensures.light _ c.in_ok-assemble.ensures.ontology
