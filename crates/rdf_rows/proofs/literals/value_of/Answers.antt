use Rattle.rdf_rows.proofs.Digits.{number_read, too_large}
use Rattle.rdf_rows.proofs.literals.value_of.Goals as goal

pub returns-in-Ok : goal.returns-in-Ok
returns-in-Ok c = number_read c.args.digits.now c.utf8.digits c.requires c.parse.result c.parse.ensures.value.0 c.in-Ok.number c.in-Ok.is

pub returns-in-Err : goal.returns-in-Err
returns-in-Err c = too_large c.args.digits.now c.utf8.digits c.requires c.parse.result c.parse.ensures.value.0 c.in-Err.field-0 c.in-Err.is
