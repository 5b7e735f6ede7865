use Rattle.std.proofs.Common.{◌≡◌, ◌↔◌, ◌⊎◌, List, subst}
use Rattle.owl_kind.specs.Kinds.{Entity, IsDeclared}
use Rattle.owl_kind.specs.Marks.{declared_by}
use Rattle.owl_kind.proofs.kinds.Kinds.declare.Goals as goal

pub returns-clause-ok : goal.returns-clause-ok
returns-clause-ok c = λ k i.
    subst (λ (kinds : List Entity). IsDeclared (declared_by c.mark.new.table.entries) k i ↔ (IsDeclared kinds k i ⊎ ((k ≡ c.args.kind) × (i ≡ c.args.iri)))) c.self.view_is
    (c.in_ok-mark.ensures.ok k i)
