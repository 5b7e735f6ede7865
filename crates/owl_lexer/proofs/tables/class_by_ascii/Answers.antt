-- The class at the character's place is its own.
use Rattle.std.proofs.Common.{◌∙◌, ap, arith}
use Rattle.owl_lexer.specs.Tables.{class_in}
use Rattle.owl_lexer.proofs.Classes.{class_there}
use Rattle.owl_lexer.proofs.tables.class_by_ascii.Goals as goal

pub returns-in-Some : goal.returns-in-Some
returns-in-Some c =
    c.in-Some.ensures.lookup.3.1 0
    ∙ class_there 0 c.args.intervals.now c.args.others c.args.ascii.now c.args.c 0 c.requires.classes c.in-Some.ensures.lookup.3.0
    ∙ ap (class_in c.args.intervals.now c.args.others) (omega arith)
