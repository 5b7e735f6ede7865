-- Classes that are imposed on properties, as what walks reach.
use Rattle.std.specs.Prelude.{◌↔◌, List, ℕ}
use Rattle.graph_walks.specs.Edges.{AreEdges, successors}
use Rattle.graph_walks.specs.Walks.{IsReached, backwards}
use Rattle.graph_walks.proofs.WalkLaws.{from_backwards, to_backwards, walk_back}
use Rattle.chain_ranges.specs.Imposed.{IsImposed}

-- it is imposed where steps that are turned round lead to from the properties that have it as range
pub imposed_reached : (steps ranges : List (ℕ × ℕ)) (holders : List (List ℕ)) → AreEdges (backwards ranges) holders → (class property : ℕ) →
    IsReached (backwards steps) (successors holders class) property ↔ IsImposed steps ranges class property
imposed_reached steps ranges holders are class property = (
  λ r. record {
    on = r.start;
    leads = walk_back (backwards steps) steps (from_backwards steps) r.start property r.way;
    range = from_backwards ranges class r.start ((are class r.start).0 r.among);
  },
  λ i. record {
    start = i.on;
    among = (are class i.on).1 (to_backwards ranges i.on class i.range);
    way = walk_back steps (backwards steps) (to_backwards steps) property i.on i.leads;
  },
)
