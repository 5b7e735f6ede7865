use Rattle.std.proofs.Common.{◌≡◌, [], subst}
use Rattle.rdf_graph.specs.declared.term.Term.TheVariants.{Blank}
use Rattle.rdf_meaning.specs.Statements.{notes_of}
use Rattle.rdf_statements.proofs.WithoutNotes.{no_notes}
use Rattle.rdf_statements.proofs.bare.is_bare.Goals as goal

pub returns : goal.returns
returns c same =
    let graph = c.args.source.now.graph.now in
    subst (λ l. notes_of graph (Blank l) ≡ []) c.in_ok-copy.ensures
    (no_notes graph (Blank c.in_ok-copy.field-0) c.about.result.now c.about.ensures (c.are_structural.ensures graph c.requires same))
