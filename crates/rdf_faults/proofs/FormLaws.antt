-- A node that has its form is sound.
use Rattle.std.specs.Prelude.{List}
use Rattle.rdf_graph.specs.declared.term.Term.{Term}
use Rattle.rdf_graph.specs.declared.triple.Triple.{Triple}
use Rattle.rdf_meaning.specs.declared.role.Role.{Role}
use Rattle.rdf_meaning.specs.declared.role.Role.TheVariants as role
use Rattle.rdf_meaning.specs.Rows.{Row}
use Rattle.rdf_meaning.specs.Statements.{HasRow, IsSoundAs}
use Rattle.rdf_faults.specs.Formed.{HasFormedRow, IsFormedAs}

has_row : (g : List Triple) (rows : List Row) (x : Term) → HasFormedRow g rows x → HasRow g rows x
has_row g rows x h = record { row = h.row; among = h.among; fits = h.fits }

pub formed_is_sound : (g : List Triple) (r : Role) (x : Term) → IsFormedAs g r x → IsSoundAs g r x
formed_is_sound g role.List x h = h
formed_is_sound g role.Property x h = has_row g _ x h
formed_is_sound g role.Class x h = has_row g _ x h
formed_is_sound g role.Range x h = has_row g _ x h
formed_is_sound g role.Facet x h = h
formed_is_sound g role.Main x h = has_row g _ x h
formed_is_sound g role.Note x h = h
formed_is_sound g role.Header x h = h
formed_is_sound g role.Individual x h = h
