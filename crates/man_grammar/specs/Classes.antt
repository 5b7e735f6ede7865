-- The classes of tokens: what the grammar tells apart (Manchester Syntax, section 2.1).
use Rattle.std.specs.Prelude.{ℕ, List, [], ◌∷◌, find, unwrap_or, if◌then◌else◌}
use Rattle.std.specs.Char.{is_ascii_digit}
use Rattle.std.specs.List.{list_all}
use Rattle.owl_characters.specs.Order.{text_eq}
use Rattle.owl_tokens.specs.declared.token.Sign.{Sign}
use Rattle.owl_tokens.specs.declared.token.Sign.TheVariants as sign
use Rattle.owl_tokens.specs.declared.token.Token.{Token}
use Rattle.owl_tokens.specs.declared.token.Token.TheVariants as token
use Rattle.man_grammar.specs.ClassNumbers.{class_number, colon_keywords, word_keywords, word_of}
use Rattle.man_grammar.specs.declared.class.Class.{Class}
use Rattle.man_grammar.specs.declared.class.Class.TheVariants as class

-- the keyword that a word is, or else this class
unfoldable pub keyword_or : Class → List Class → List ℕ → Class
keyword_or other keywords word = unwrap_or (find (λ k. text_eq word (word_of k)) keywords) other

-- A name without a local part is a keyword, a name with one prefix for all, or what a prefix declaration names.
abbrev pub name_class : List ℕ → List ℕ → Class
name_class prefix [] = keyword_or class.Namespace colon_keywords prefix
name_class prefix (c ∷ cs) = class.Prefixed

abbrev pub word_class : List ℕ → Class
word_class word = keyword_or class.PlainWord word_keywords word

abbrev pub integer_class : List ℕ → Class
integer_class number = if list_all is_ascii_digit number then class.Digits else class.Signed

abbrev pub sign_class : Sign → Class
sign_class sign.Open = class.OpenParenthesis
sign_class sign.Close = class.CloseParenthesis
sign_class sign.Equals = class.Equals
sign_class sign.Carets = class.Carets
sign_class sign.OpenBrace = class.OpenBrace
sign_class sign.CloseBrace = class.CloseBrace
sign_class sign.OpenBracket = class.OpenBracket
sign_class sign.CloseBracket = class.CloseBracket
sign_class sign.Comma = class.Comma
sign_class sign.Less = class.LessThan
sign_class sign.AtMost = class.AtMost
sign_class sign.Greater = class.MoreThan
sign_class sign.AtLeast = class.AtLeast

abbrev pub token_class : Token → Class
token_class (token.Iri iri) = class.IriRef
token_class (token.Name prefix local) = name_class prefix local
token_class (token.Blank label) = class.Blank
token_class (token.Str text) = class.Text
token_class (token.At tag) = class.Language
token_class (token.Word word) = word_class word
token_class (token.Int number) = integer_class number
token_class (token.Dec number) = class.Decimal
token_class (token.Sign mark) = sign_class mark

unfoldable pub class_of : Token → ℕ
class_of x = class_number (token_class x)
