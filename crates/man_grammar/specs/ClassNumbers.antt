-- The classes of tokens of Manchester Syntax (sections 2.1 and 2.3 to 2.6), and the words of those that are keywords;
-- `tools/make_page.py` made it.
use Rattle.std.specs.Prelude.{ℕ, List, [], ◌∷◌, codes}
use Rattle.man_grammar.specs.declared.class.Class.{Class}
use Rattle.man_grammar.specs.declared.class.Class.TheVariants as class

abbrev pub class_number : Class → ℕ
class_number class.Prefix = 0
class_number class.Ontology = 1
class_number class.Import = 2
class_number class.Annotations = 3
class_number class.Class = 4
class_number class.Datatype = 5
class_number class.ObjectProperty = 6
class_number class.DataProperty = 7
class_number class.AnnotationProperty = 8
class_number class.Individual = 9
class_number class.EquivalentClasses = 10
class_number class.DisjointClasses = 11
class_number class.EquivalentProperties = 12
class_number class.DisjointProperties = 13
class_number class.SameIndividual = 14
class_number class.DifferentIndividuals = 15
class_number class.SubClassOf = 16
class_number class.EquivalentTo = 17
class_number class.DisjointWith = 18
class_number class.DisjointUnionOf = 19
class_number class.HasKey = 20
class_number class.Domain = 21
class_number class.Range = 22
class_number class.Characteristics = 23
class_number class.SubPropertyOf = 24
class_number class.InverseOf = 25
class_number class.SubPropertyChain = 26
class_number class.Types = 27
class_number class.Facts = 28
class_number class.SameAs = 29
class_number class.DifferentFrom = 30
class_number class.And = 31
class_number class.Or = 32
class_number class.Not = 33
class_number class.That = 34
class_number class.Some = 35
class_number class.Only = 36
class_number class.Value = 37
class_number class.SelfWord = 38
class_number class.Min = 39
class_number class.Max = 40
class_number class.Exactly = 41
class_number class.Inverse = 42
class_number class.Composed = 43
class_number class.Length = 44
class_number class.MinLength = 45
class_number class.MaxLength = 46
class_number class.Pattern = 47
class_number class.LangRange = 48
class_number class.IntegerWord = 49
class_number class.DecimalWord = 50
class_number class.FloatWord = 51
class_number class.StringWord = 52
class_number class.TrueWord = 53
class_number class.FalseWord = 54
class_number class.Functional = 55
class_number class.InverseFunctional = 56
class_number class.Reflexive = 57
class_number class.Irreflexive = 58
class_number class.Symmetric = 59
class_number class.Asymmetric = 60
class_number class.Transitive = 61
class_number class.PlainWord = 62
class_number class.IriRef = 63
class_number class.Prefixed = 64
class_number class.Namespace = 65
class_number class.Blank = 66
class_number class.Text = 67
class_number class.Language = 68
class_number class.Digits = 69
class_number class.Signed = 70
class_number class.Decimal = 71
class_number class.OpenParenthesis = 72
class_number class.CloseParenthesis = 73
class_number class.OpenBrace = 74
class_number class.CloseBrace = 75
class_number class.OpenBracket = 76
class_number class.CloseBracket = 77
class_number class.Comma = 78
class_number class.Carets = 79
class_number class.AtMost = 80
class_number class.LessThan = 81
class_number class.AtLeast = 82
class_number class.MoreThan = 83
class_number class.Equals = 84

-- the word of a keyword
unfoldable pub word_of : Class → List ℕ
word_of class.Prefix = codes "Prefix"
word_of class.Ontology = codes "Ontology"
word_of class.Import = codes "Import"
word_of class.Annotations = codes "Annotations"
word_of class.Class = codes "Class"
word_of class.Datatype = codes "Datatype"
word_of class.ObjectProperty = codes "ObjectProperty"
word_of class.DataProperty = codes "DataProperty"
word_of class.AnnotationProperty = codes "AnnotationProperty"
word_of class.Individual = codes "Individual"
word_of class.EquivalentClasses = codes "EquivalentClasses"
word_of class.DisjointClasses = codes "DisjointClasses"
word_of class.EquivalentProperties = codes "EquivalentProperties"
word_of class.DisjointProperties = codes "DisjointProperties"
word_of class.SameIndividual = codes "SameIndividual"
word_of class.DifferentIndividuals = codes "DifferentIndividuals"
word_of class.SubClassOf = codes "SubClassOf"
word_of class.EquivalentTo = codes "EquivalentTo"
word_of class.DisjointWith = codes "DisjointWith"
word_of class.DisjointUnionOf = codes "DisjointUnionOf"
word_of class.HasKey = codes "HasKey"
word_of class.Domain = codes "Domain"
word_of class.Range = codes "Range"
word_of class.Characteristics = codes "Characteristics"
word_of class.SubPropertyOf = codes "SubPropertyOf"
word_of class.InverseOf = codes "InverseOf"
word_of class.SubPropertyChain = codes "SubPropertyChain"
word_of class.Types = codes "Types"
word_of class.Facts = codes "Facts"
word_of class.SameAs = codes "SameAs"
word_of class.DifferentFrom = codes "DifferentFrom"
word_of class.And = codes "and"
word_of class.Or = codes "or"
word_of class.Not = codes "not"
word_of class.That = codes "that"
word_of class.Some = codes "some"
word_of class.Only = codes "only"
word_of class.Value = codes "value"
word_of class.SelfWord = codes "Self"
word_of class.Min = codes "min"
word_of class.Max = codes "max"
word_of class.Exactly = codes "exactly"
word_of class.Inverse = codes "inverse"
word_of class.Composed = codes "o"
word_of class.Length = codes "length"
word_of class.MinLength = codes "minLength"
word_of class.MaxLength = codes "maxLength"
word_of class.Pattern = codes "pattern"
word_of class.LangRange = codes "langRange"
word_of class.IntegerWord = codes "integer"
word_of class.DecimalWord = codes "decimal"
word_of class.FloatWord = codes "float"
word_of class.StringWord = codes "string"
word_of class.TrueWord = codes "true"
word_of class.FalseWord = codes "false"
word_of class.Functional = codes "Functional"
word_of class.InverseFunctional = codes "InverseFunctional"
word_of class.Reflexive = codes "Reflexive"
word_of class.Irreflexive = codes "Irreflexive"
word_of class.Symmetric = codes "Symmetric"
word_of class.Asymmetric = codes "Asymmetric"
word_of class.Transitive = codes "Transitive"
word_of _ = []

-- the keywords in front of a colon
abbrev pub colon_keywords : List Class
colon_keywords =
    class.Prefix ∷ class.Ontology ∷ class.Import ∷ class.Annotations ∷ class.Class ∷ class.Datatype ∷
    class.ObjectProperty ∷ class.DataProperty ∷ class.AnnotationProperty ∷ class.Individual ∷
    class.EquivalentClasses ∷ class.DisjointClasses ∷ class.EquivalentProperties ∷ class.DisjointProperties ∷
    class.SameIndividual ∷ class.DifferentIndividuals ∷ class.SubClassOf ∷ class.EquivalentTo ∷ class.DisjointWith ∷
    class.DisjointUnionOf ∷ class.HasKey ∷ class.Domain ∷ class.Range ∷ class.Characteristics ∷ class.SubPropertyOf ∷
    class.InverseOf ∷ class.SubPropertyChain ∷ class.Types ∷ class.Facts ∷ class.SameAs ∷ class.DifferentFrom ∷ []

-- the keywords that are words
abbrev pub word_keywords : List Class
word_keywords =
    class.And ∷ class.Or ∷ class.Not ∷ class.That ∷ class.Some ∷ class.Only ∷ class.Value ∷ class.SelfWord ∷
    class.Min ∷ class.Max ∷ class.Exactly ∷ class.Inverse ∷ class.Composed ∷ class.Length ∷ class.MinLength ∷
    class.MaxLength ∷ class.Pattern ∷ class.LangRange ∷ class.IntegerWord ∷ class.DecimalWord ∷ class.FloatWord ∷
    class.StringWord ∷ class.TrueWord ∷ class.FalseWord ∷ class.Functional ∷ class.InverseFunctional ∷
    class.Reflexive ∷ class.Irreflexive ∷ class.Symmetric ∷ class.Asymmetric ∷ class.Transitive ∷ []
