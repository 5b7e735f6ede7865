-- The order of needs.
use Rattle.std.specs.declared.cmp.Ordering.{Ordering}
use Rattle.std.specs.Cmp.{IsEquivalence, IsTotalOrder}
use Rattle.std.specs.Ordering.{eq_by_cmp, on}
use Rattle.std.proofs.lemmas.Cmp.{eq_by_cmp_equiv, nat_cmp_total, on_total, then_total}
use Rattle.owl_characters.specs.OrderLaws.{texts_total}
use Rattle.owl_kind.specs.Kinds.{Entity}
use Rattle.owl_kind.specs.Order.{kind_number}
use Rattle.owl_declare.specs.Needed.{by_kind, entity_of}
use Rattle.owl_declare.specs.declared.need.Need.{Need}

abbrev pub need_cmp : Need → Need → Ordering
need_cmp = on entity_of by_kind

entities_total : IsTotalOrder by_kind
entities_total = then_total (on_total (λ (e : Entity). kind_number e.kind) nat_cmp_total) (on_total (λ (e : Entity). e.iri) texts_total)

pub needs_total : IsTotalOrder need_cmp
needs_total = on_total entity_of entities_total

pub needs_alike : IsEquivalence (eq_by_cmp need_cmp)
needs_alike = eq_by_cmp_equiv needs_total
