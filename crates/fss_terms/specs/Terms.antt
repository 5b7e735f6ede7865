-- The terms of Functional-Style Syntax: keywords, brackets, and what leaves hold (Structural Specification, sections 2.4,
-- 5.6.2, 5.7 and 8.3). A literal is a term of one token, two or three; each other term is one token.
use Rattle.std.specs.Prelude.{◌≡◌, ℕ, List, [], ◌∷◌, map, Option, None, Some}
use Rattle.std.specs.Str.Parse.{digits_value}
use Rattle.owl_lexer.specs.declared.placed.Placed.{Placed}
use Rattle.owl_tokens.specs.declared.token.Token.{Token}
use Rattle.owl_tokens.specs.declared.token.Token.TheVariants as token
use Rattle.owl_tokens.specs.declared.token.Sign.TheVariants as sign
use Rattle.owl_atom.specs.declared.prefixes.Prefix.{Prefix}
use Rattle.rdf_terms.specs.Literals.{DenotesLiteral, LiteralParts}
use Rattle.owl_atom.specs.Prefixes.{expansion}
use Rattle.owl_tree.specs.declared.atom.Atom.{Atom}
use Rattle.owl_tree.specs.declared.atom.Atom.TheVariants.{Iri, Label, Literal, Number}
use Rattle.fss_terms.specs.declared.term.Term.{Term}
use Rattle.fss_terms.specs.declared.term.Term.TheVariants as term

-- the IRI that a token stands for: a full one, or a name, by its prefix
abbrev pub iri_of_token : List Prefix → Token → Option (List ℕ)
iri_of_token prefixes (token.Iri iri) = Some iri
iri_of_token prefixes (token.Name name local) = expansion prefixes name local
iri_of_token prefixes (token.Blank label) = None
iri_of_token prefixes (token.Str text) = None
iri_of_token prefixes (token.At tag) = None
iri_of_token prefixes (token.Word word) = None
iri_of_token prefixes (token.Int digits) = None
iri_of_token prefixes (token.Dec number) = None
iri_of_token prefixes (token.Sign mark) = None

-- The tokens are a literal and then the rest: a string alone, one with its language tag, or one with its datatype.
pub data BeginsLiteral (prefixes : List Prefix) (tokens : List Token) (literal : LiteralParts) (rest : List Token) : Type 0 where
  plain : (form : List ℕ) → tokens ≡ token.Str form ∷ rest → DenotesLiteral form None None literal → BeginsLiteral prefixes tokens literal rest
  tagged : (form tag : List ℕ) → tokens ≡ token.Str form ∷ token.At tag ∷ rest → DenotesLiteral form None (Some tag) literal → BeginsLiteral prefixes tokens literal rest
  typed : (form datatype : List ℕ) (name : Token) → tokens ≡ token.Str form ∷ token.Sign sign.Carets ∷ name ∷ rest → iri_of_token prefixes name ≡ Some datatype → DenotesLiteral form (Some datatype) None literal → BeginsLiteral prefixes tokens literal rest

-- The tokens are what is written for the atom, and then the rest.
abbrev pub BeginsAtom : List Prefix → List Token → Atom → List Token → Type 0
BeginsAtom prefixes tokens (Iri iri) rest = (name : Token) × (tokens ≡ name ∷ rest) × (iri_of_token prefixes name ≡ Some iri)
BeginsAtom prefixes tokens (Label label) rest = tokens ≡ token.Blank label ∷ rest
BeginsAtom prefixes tokens (Literal literal) rest = BeginsLiteral prefixes tokens literal rest
BeginsAtom prefixes tokens (Number number) rest = (digits : List ℕ) × (tokens ≡ token.Int digits ∷ rest) × (number ≡ digits_value 10 digits)

abbrev pub BeginsTerm : List Prefix → List Token → Term → List Token → Type 0
BeginsTerm prefixes tokens (term.Keyword word) rest = tokens ≡ token.Word word ∷ rest
BeginsTerm prefixes tokens term.Opening rest = tokens ≡ token.Sign sign.Open ∷ rest
BeginsTerm prefixes tokens term.Closing rest = tokens ≡ token.Sign sign.Close ∷ rest
BeginsTerm prefixes tokens (term.Atom held) rest = BeginsAtom prefixes tokens held rest

-- The tokens are these terms in turn, where names stand for IRIs by these prefixes.
abbrev pub AreTerms : List Prefix → List Token → List Term → Type 0
AreTerms prefixes tokens [] = tokens ≡ []
AreTerms prefixes tokens (first ∷ others) = (rest : List Token) × BeginsTerm prefixes tokens first rest × AreTerms prefixes rest others

abbrev pub tokens_of : List (Placed Token) → List Token
tokens_of placed = map (λ (p : Placed Token). p.token) placed
