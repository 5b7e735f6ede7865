-- What is written, and how deep it may be.
use Rattle.std.specs.Prelude.{◌<◌, ◌≤◌, ◌+◌, ℕ, zero, suc, List}
use Rattle.rdf_graph.specs.declared.term.Term.{Term}
use Rattle.rdf_graph.specs.declared.triple.Triple.{Triple}
use Rattle.rdf_roles.specs.Tables.{IsTableOf}
use Rattle.ttl_levels.specs.Nested.{HasLevel, IsNested, most_levels}
use Rattle.ttl_levels.specs.NestTables.{IsNestTable}
use Rattle.ttl_nested.specs.Forms.{Form, Line}
use Rattle.ttl_nest.specs.declared.source.Source.{Source}

-- the roles and the table of nested nodes are those of the graph
pub record IsSource (source : Source) : Type 0 where
  pub table : IsTableOf source.graph.now source.roles.now
  pub nests : IsNestTable source.graph.now source.nests.now

-- so many levels are left from the term on
abbrev pub IsShallow : List Triple → Term → ℕ → Type 0
IsShallow g x depth = (n : ℕ) → HasLevel g x n → n ≤ most_levels → most_levels < n + depth

-- of the cells from this one on
abbrev pub AreShallowCells : List Triple → Term → ℕ → ℕ → Type 0
AreShallowCells g x zero depth = Unit {0}
AreShallowCells g x (suc n) depth = IsNested g x × IsShallow g x (suc depth)

-- the line of a triple whose object has this form
abbrev pub line_of : Triple → Form → Line
line_of t form = record { subject = t.subject; predicate = t.predicate; object = form }
