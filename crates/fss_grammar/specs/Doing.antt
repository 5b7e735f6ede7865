-- What acts do on the way along a derivation, where each name stands for an IRI by the declarations before it.
use Rattle.std.specs.Prelude.{◌≡◌, true, List, [], ◌∷◌, ◌++◌, map, Option}
use Rattle.grammar.specs.Derivations.{Event}
use Rattle.grammar.specs.Derivations.Event.{Do, Take}
use Rattle.owl_atom.specs.declared.prefixes.Prefix.{Prefix}
use Rattle.owl_atom.specs.Prefixes.{fixed_prefixes, is_fixed}
use Rattle.owl_tokens.specs.declared.token.Token.{Token}
use Rattle.fss_terms.specs.Functional.{PrefixDeclaration}
use Rattle.fss_grammar.specs.Making.{DoneThen, Maker, Performs, next_token}
use Rattle.fss_grammar.specs.declared.acts.Act.{Act}

-- the prefix that a declaration makes
abbrev pub prefix_of : PrefixDeclaration → Prefix
prefix_of d = record { name = d.name; iri = d.iri; fixed = is_fixed fixed_prefixes d.name; declared = true }

-- the prefixes by which names stand for IRIs behind these declarations: those that are declared, and else those that are there
-- beforehand
abbrev pub prefixes_behind : List PrefixDeclaration → List Prefix
prefixes_behind declarations = map prefix_of declarations ++ fixed_prefixes

-- the act makes n of m, where this token comes behind it
abbrev pub Acts : Act → Option Token → Maker → Maker → Type 0
Acts act next m n = Performs (prefixes_behind m.document.declarations) act next m n

-- These events, in order, make n of m.
abbrev pub Does : List (Event Token) → Maker → Maker → Type 0
Does [] m n = m ≡ n
Does (Take x ∷ events) m n = Does events m n
Does (Do a ∷ events) m n = DoneThen (prefixes_behind m.document.declarations) a (next_token events) m (λ middle. Does events middle n)
