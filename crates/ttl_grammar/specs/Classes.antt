-- The classes of tokens of Turtle: what its grammar tells apart (RDF 1.1 Turtle, section 6.5).
use Rattle.std.specs.Prelude.{ℕ, List, [], ◌∷◌, codes, if◌then◌else◌}
use Rattle.owl_characters.specs.Order.{text_eq}
use Rattle.ttl_tokens.specs.declared.token.Token.{Token}
use Rattle.ttl_tokens.specs.declared.token.Token.TheVariants as token
use Rattle.ttl_tokens.specs.declared.token.Symbol.{Symbol}
use Rattle.ttl_tokens.specs.declared.token.Symbol.TheVariants as symbol
use Rattle.ttl_grammar.specs.declared.class.Class.{Class}
use Rattle.ttl_grammar.specs.declared.class.Class.TheVariants.{IriRef, Prefixed, Namespace, Label, Text, Language, AtPrefix, AtBase, Integer, Decimal, Double, WordA, WordTrue, WordFalse, WordPrefix, WordBase, Dot, Semicolon, Comma, OpenBracket, CloseBracket, OpenParenthesis, CloseParenthesis, Carets}

abbrev pub class_number : Class → ℕ
class_number IriRef = 0
class_number Prefixed = 1
class_number Namespace = 2
class_number Label = 3
class_number Text = 4
class_number Language = 5
class_number AtPrefix = 6
class_number AtBase = 7
class_number Integer = 8
class_number Decimal = 9
class_number Double = 10
class_number WordA = 11
class_number WordTrue = 12
class_number WordFalse = 13
class_number WordPrefix = 14
class_number WordBase = 15
class_number Dot = 16
class_number Semicolon = 17
class_number Comma = 18
class_number OpenBracket = 19
class_number CloseBracket = 20
class_number OpenParenthesis = 21
class_number CloseParenthesis = 22
class_number Carets = 23

-- a name with this local part
abbrev pub name_class : List ℕ → Class
name_class [] = Namespace
name_class (c ∷ cs) = Prefixed

-- The words of the two directives may be language tags too, behind a string.
abbrev pub tag_class : List ℕ → Class
tag_class tag = if text_eq tag (codes "prefix") then AtPrefix else (if text_eq tag (codes "base") then AtBase else Language)

abbrev pub symbol_class : Symbol → Class
symbol_class symbol.A = WordA
symbol_class symbol.True = WordTrue
symbol_class symbol.False = WordFalse
symbol_class symbol.Prefix = WordPrefix
symbol_class symbol.Base = WordBase
symbol_class symbol.Dot = Dot
symbol_class symbol.Semicolon = Semicolon
symbol_class symbol.Comma = Comma
symbol_class symbol.OpenBracket = OpenBracket
symbol_class symbol.CloseBracket = CloseBracket
symbol_class symbol.OpenParenthesis = OpenParenthesis
symbol_class symbol.CloseParenthesis = CloseParenthesis
symbol_class symbol.Carets = Carets

abbrev pub token_class : Token → Class
token_class (token.Iri reference) = IriRef
token_class (token.Name prefix local) = name_class local
token_class (token.Label label) = Label
token_class (token.Str form) = Text
token_class (token.At tag) = tag_class tag
token_class (token.Integer form) = Integer
token_class (token.Decimal form) = Decimal
token_class (token.Double form) = Double
token_class (token.Symbol symbol) = symbol_class symbol

unfoldable pub class_of : Token → ℕ
class_of x = class_number (token_class x)
