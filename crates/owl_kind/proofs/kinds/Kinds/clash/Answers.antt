use Rattle.std.proofs.Common.{◌↔◌, ℕ, List, IsNone, IfSome, subst}
use Rattle.owl_kind.specs.Kinds.{Entity, HasClash, IsFirstClash}
use Rattle.owl_kind.proofs.Clashes.{no_clash, some_clash}
use Rattle.owl_kind.proofs.kinds.Kinds.clash.Goals as goal

pub returns-clause-some : goal.returns-clause-some
returns-clause-some c =
    subst (λ (kinds : List Entity). IfSome c.first_clash.result (λ iri. IsFirstClash kinds iri.now)) c.self.view_is
    (some_clash c.self.inside.table.entries c.self.invariant c.first_clash.result c.first_clash.ensures)

pub returns-clause-none : goal.returns-clause-none
returns-clause-none c =
    subst (λ (kinds : List Entity). IsNone c.first_clash.result ↔ ((iri : List ℕ) → HasClash kinds iri → ⊥)) c.self.view_is
    (no_clash c.self.inside.table.entries c.self.invariant c.first_clash.result c.first_clash.ensures)
