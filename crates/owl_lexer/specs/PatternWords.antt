-- Words in which patterns read as grammars do.
use Rattle.owl_lexer.specs.Patterns.{Pattern}
use Rattle.owl_lexer.specs.Patterns.Pattern.{empty, both, either, many}

infixr 6 ◌then◌
abbrev pub ◌then◌ : Pattern → Pattern → Pattern
p then q = both p q

infixr 5 ◌or◌
abbrev pub ◌or◌ : Pattern → Pattern → Pattern
p or q = either p q

-- once or not at all
abbrev pub maybe : Pattern → Pattern
maybe p = either p empty

-- once at least
abbrev pub some : Pattern → Pattern
some p = both p (many p)
