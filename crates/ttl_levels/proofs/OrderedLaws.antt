-- A walk through an order of all nodes passes each of them.
use Rattle.std.specs.Prelude.{◌≡◌, ◌<◌, ℕ, List, Contains, length}
use Rattle.std.proofs.Common.{sym, ap, ◌∙◌, subst}
use Rattle.std.proofs.lemmas.List.{length-map}
use Rattle.std.proofs.lemmas.Option.{slice_get_within}
use Rattle.rdf_graph.specs.declared.triple.Triple.{Triple}
use Rattle.rdf_roles.specs.OrderLaws.{is_in_order}
use Rattle.rdf_roles.specs.Tables.{IsTableOf, RoleTable, blank_nodes, with_role}
use Rattle.ttl_levels.specs.NestTables.{AreCounts, AreLevels, IsCellCountAt, IsLevelAt}
use Rattle.ttl_levels.proofs.WalkLaws.{IsBackward, IsForward, backward_last, forward_last}

pub all_in_order : (g : List Triple) (table : RoleTable) → IsTableOf g table → (number : ℕ) → number < length (blank_nodes g) → Contains table.order number
all_in_order g table is number h = is_in_order g table is number (subst (λ n. number < n) (sym (ap length is.nodes ∙ length-map (blank_nodes g) (with_role g))) h)

pub all_counts : (g : List Triple) (table : RoleTable) (values left : List ℕ) → IsTableOf g table → length left ≡ 0 → IsForward (IsCellCountAt g) g table.order values left → AreCounts g values
all_counts g table values left is none w = record {
  size = w.size;
  each = λ number label at.
      forward_last (IsCellCountAt g) g table.order is.order values left none w number (all_in_order g table is number (slice_get_within (blank_nodes g) number label at)) label at;
}

pub all_levels : (g : List Triple) (table : RoleTable) (values left : List ℕ) → IsTableOf g table → length left ≡ 0 → IsBackward (IsLevelAt g) g table.order values left → AreLevels g values
all_levels g table values left is none w = record {
  size = w.size;
  each = λ number label at.
      backward_last (IsLevelAt g) g table.order is.order values left none w number (all_in_order g table is number (slice_get_within (blank_nodes g) number label at)) label at;
}
