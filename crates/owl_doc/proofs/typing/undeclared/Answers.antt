use Rattle.std.proofs.Common.{◌∙◌, List, ap, subst, sym}
use Rattle.owl_arena.specs.Held.{Held, tree_at}
use Rattle.owl_kind.specs.Kinds.{Entity}
use Rattle.owl_doc.specs.Entities.{FindsUndeclared, entities, entities_at, entities_in}
use Rattle.owl_doc.proofs.FirstUndeclared.{none_found}
use Rattle.owl_doc.proofs.typing.undeclared.Goals as goal

pub returns-in-Header-clause-none : goal.returns-in-Header-clause-none
returns-in-Header-clause-none c =
    let d = c.args.doc.now in
    let found = c.first_undeclared.result in
    let held =
    ap (λ (arena : Held). entities_at arena.trees c.notes.result.now) c.arena.ensures
    ∙ ap (entities_at d.arena.trees) c.notes.ensures.notes
    ∙ ap (entities_in d) (sym c.in-Header.is) in
    none_found c.args.kinds.now (entities_in d c.args.item) found (subst (λ (es : List Entity). FindsUndeclared c.args.kinds.now es found) held c.first_undeclared.ensures)

pub returns-in-Axiom-clause-none : goal.returns-in-Axiom-clause-none
returns-in-Axiom-clause-none c =
    let d = c.args.doc.now in
    let found = c.undeclared_in.result in
    let held =
    ap (λ (arena : Held). entities (tree_at arena.trees c.in-Axiom.id)) c.arena-in-Axiom.ensures
    ∙ ap (entities_in d) (sym c.in-Axiom.is) in
    none_found c.args.kinds.now (entities_in d c.args.item) found (subst (λ (es : List Entity). FindsUndeclared c.args.kinds.now es found) held c.undeclared_in.ensures)
