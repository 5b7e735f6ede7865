-- The classes of tokens of Functional-Style Syntax: what its grammar tells apart.
use Rattle.std.specs.Prelude.{ℕ, List, [], ◌∷◌, Option, None, Some, codes, find, if◌then◌else◌}
use Rattle.owl_characters.specs.Order.{text_eq}
use Rattle.owl_tokens.specs.declared.token.Token.{Token}
use Rattle.owl_tokens.specs.declared.token.Token.TheVariants as token
use Rattle.owl_tokens.specs.declared.token.Sign.{Sign}
use Rattle.owl_tokens.specs.declared.token.Sign.TheVariants as sign
use Rattle.owl_tree.specs.declared.tag.Tag.{Tag}
use Rattle.owl_tree.specs.Tags.{all_tags, keyword_of, number_of}

-- A word is the keyword of a tag, one of the three that head parts of a document, or another word. A name has a local part,
-- or it stands alone.
pub data Class : Type 0 where
  other_word : Class
  keyword : Tag → Class
  prefix ontology imports : Class
  iri name alone label text language digits opening closing equals carets other : Class

abbrev pub class_number : Class → ℕ
class_number other_word = 0
class_number (keyword t) = number_of t
class_number prefix = 78
class_number ontology = 79
class_number imports = 80
class_number iri = 81
class_number name = 82
class_number alone = 83
class_number label = 84
class_number text = 85
class_number language = 86
class_number digits = 87
class_number opening = 88
class_number closing = 89
class_number equals = 90
class_number carets = 91
class_number other = 92

-- the tag with this keyword
unfoldable pub tag_named : List ℕ → Option Tag
tag_named w = find (λ t. text_eq (keyword_of t) w) all_tags

abbrev pub head_class : List ℕ → Class
head_class w =
    if text_eq (codes "Prefix") w then prefix
    else (if text_eq (codes "Ontology") w then ontology
    else (if text_eq (codes "Import") w then imports else other_word))

abbrev pub named_class : Option Tag → List ℕ → Class
named_class (Some t) w = keyword t
named_class None w = head_class w

abbrev pub name_class : List ℕ → Class
name_class [] = alone
name_class (c ∷ cs) = name

abbrev pub sign_class : Sign → Class
sign_class sign.Open = opening
sign_class sign.Close = closing
sign_class sign.Equals = equals
sign_class sign.Carets = carets
sign_class _ = other

abbrev pub class_in : Token → Class
class_in (token.Iri i) = iri
class_in (token.Name p local) = name_class local
class_in (token.Blank l) = label
class_in (token.Str s) = text
class_in (token.At tag) = language
class_in (token.Word w) = named_class (tag_named w) w
class_in (token.Int ds) = digits
class_in (token.Dec number) = other
class_in (token.Sign mark) = sign_class mark

unfoldable pub class_of : Token → ℕ
class_of x = class_number (class_in x)
