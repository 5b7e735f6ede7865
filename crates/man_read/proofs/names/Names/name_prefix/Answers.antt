use Rattle.std.proofs.Common.{sym, subst}
use Rattle.owl_reader.specs.Computing.{TurnsTo}
use Rattle.man_grammar.specs.States.{name_declared}
use Rattle.man_read.specs.NameTables.{AreNames}
use Rattle.man_read.proofs.names.Names.name_prefix.Goals as goal

pub returns-in-Some : goal.returns-in-Some
returns-in-Some c = λ names h.
    let named = c.in-Some.ensures.some in
    subst (λ next. TurnsTo AreNames c.keep_name.result c.keep_name.new.self (name_declared names next)) (sym named.1) (c.keep_name.ensures names named.0 h)
