use Rattle.lexical_values.proofs.Digits.{number_large, number_value}
use Rattle.lexical_values.proofs.numbers.number_of.Goals as goal

pub returns-in-Ok : goal.returns-in-Ok
returns-in-Ok c =
    number_value c.as_str.result.now c.args.digits.now c.parse.result c.in-Ok.number c.in-Ok.is c.as_str.ensures.bytes c.requires c.parse.ensures.value.0

pub returns-in-Err : goal.returns-in-Err
returns-in-Err c =
    number_large c.as_str.result.now c.args.digits.now c.parse.result c.in-Err.field-0 c.in-Err.is c.as_str.ensures.bytes c.requires c.parse.ensures.value.0
