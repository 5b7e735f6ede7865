-- What tokens hold (RDF 1.1 Turtle, sections 2.4, 2.5, 2.6 and 6.5).
use Rattle.owl_characters.specs.Iri.{AllAre, is_iri_character}
use Rattle.owl_characters.specs.Names.{IsLabel, IsLanguageTag, IsPrefixName}
use Rattle.ttl_tokens.specs.declared.token.Token.{Token}
use Rattle.ttl_tokens.specs.declared.token.Token.TheVariants.{At, Label, Name}

-- What the token holds is what its name says. Of the others nothing is said here.
abbrev pub IsFormed : Token → Type 0
IsFormed (Label label) = IsLabel label
IsFormed (At tag) = IsLanguageTag tag
IsFormed (Name prefix local) = IsPrefixName prefix × AllAre is_iri_character local
IsFormed token = Unit {0}
