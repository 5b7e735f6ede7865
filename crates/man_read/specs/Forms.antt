-- What tokens hold (Manchester Syntax, section 2.1).
use Rattle.std.specs.Prelude.{Option, IfSome}
use Rattle.owl_characters.specs.Iri.{AllAre, IsIri, is_iri_character}
use Rattle.owl_characters.specs.Names.{IsLabel, IsLanguageTag, IsPrefixName}
use Rattle.owl_lexer.specs.declared.placed.Placed.{Placed}
use Rattle.owl_tokens.specs.ManchesterSpellings.{IsInteger}
use Rattle.owl_tokens.specs.declared.token.Token.{Token}
use Rattle.owl_tokens.specs.declared.token.Token.TheVariants.{Iri, Name, Blank, At, Word, Int}

-- What the token holds is what its name says. Of the others nothing is said here.
abbrev pub IsFormed : Token → Type 0
IsFormed (Iri iri) = IsIri iri
IsFormed (Name prefix local) = IsPrefixName prefix × AllAre is_iri_character local
IsFormed (Blank label) = IsLabel label
IsFormed (At tag) = IsLanguageTag tag
IsFormed (Word word) = AllAre is_iri_character word
IsFormed (Int number) = IsInteger number
IsFormed token = Unit {0}

abbrev pub ComesFormed : Option (Placed Token) → Type 0
ComesFormed next = IfSome next (λ p. IsFormed p.token)
