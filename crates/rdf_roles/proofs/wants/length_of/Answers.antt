use Rattle.std.proofs.Common.{◌∙◌, sym}
use Rattle.rdf_faults.specs.Formed.{no_element}
use Rattle.rdf_roles.proofs.ListLengths.{cell_has_number}
use Rattle.rdf_roles.proofs.wants.length_of.Goals as goal

pub returns-then-is_nil : goal.returns-then-is_nil
returns-then-is_nil c g e known = no_element c.args.term.now (c.is_nil.ensures.0 c.if-is_nil.true)

pub returns-in-None : goal.returns-in-None
returns-in-None c g e known n has =
    cell_has_number g c.args.term.now (sym (c.role_of.ensures g e) ∙ c.is_cell.ensures.0 c.if-not-is_cell.false) (c.in-None.ensures g e)
