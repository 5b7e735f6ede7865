use Rattle.std.proofs.Common.{◌≡◌, ◌↔◌, [], subst}
use Rattle.owl_kind.specs.Order.{AreOrdered}
use Rattle.owl_kind.proofs.Ordered.{declared_in_order, empty_by_length, none_where_empty}
use Rattle.owl_kind.proofs.kinds.Kinds.is_empty.Goals as goal

-- src/kinds.rt:59:5
pub returns-clause-empty : goal.returns-clause-empty
returns-clause-empty c =
    let is = empty_by_length c.self.inside.table.entries in
    let none = subst (λ ks. (c.self.inside.table.entries ≡ []) ↔ (ks ≡ [])) c.self.view_is (none_where_empty c.self.inside.table.entries c.self.invariant) in
    (λ h. none.0 (is.0 (c.is_empty.ensures.0 h)), λ h. c.is_empty.ensures.1 (is.1 (none.1 h)))

-- src/kinds.rt:59:5
pub returns-clause-ordered : goal.returns-clause-ordered
returns-clause-ordered c = subst AreOrdered (c.self.view_is) (declared_in_order c.self.inside.table.entries)
