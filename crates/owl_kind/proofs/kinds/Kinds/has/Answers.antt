use Rattle.std.proofs.Common.{◌≡◌, ◌↔◌, Bool, true, List, ap, sym, subst, ◌∙◌}
use Rattle.owl_kind.specs.declared.marks.Marks.{Marks}
use Rattle.owl_kind.specs.Kinds.{Entity, HasKind}
use Rattle.owl_kind.specs.Marks.{declared_by, is_of}
use Rattle.owl_kind.proofs.Declarations.{has_kind}
use Rattle.owl_kind.proofs.kinds.Kinds.has.Goals as goal

pub returns : goal.returns
returns c =
    let e = c.are_of.ensures ∙ ap (λ (marks : Marks). is_of (c.args.iri.now, marks) c.args.kind) c.marks_of.ensures in
    subst (λ (kinds : List Entity). (c.are_of.result ≡ true) ↔ HasKind kinds c.args.kind c.args.iri.now) c.self.view_is
    (subst (λ (b : Bool). (b ≡ true) ↔ HasKind (declared_by c.self.inside.table.entries) c.args.kind c.args.iri.now) (sym e) (has_kind c.self.inside.table.entries c.self.invariant c.args.iri.now c.args.kind))
