use Rattle.std.proofs.Common.{sym, ap, ◌∙◌}
use Rattle.rdf_forward.specs.Walks.{drawn_form}
use Rattle.rdf_mapping.specs.Forms.{term_of}
use Rattle.rdf_forward.proofs.Terms.{listed_term}
use Rattle.rdf_forward.proofs.ends.drawn_end.Goals as goal

pub returns-in-Trees : goal.returns-in-Trees
returns-in-Trees c = λ name.
    let e = ap (λ d. term_of name (drawn_form c.args.arena.now.trees d) c.args.number) c.in-Trees.is ∙ listed_term _ _ _ _ _ in
    c.list_end.ensures name ∙ sym e
