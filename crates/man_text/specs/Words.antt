-- The words of Manchester Syntax around the parts of what is written (sections 2.3 to 2.6).
use Rattle.std.specs.Prelude.{ℕ, List, [], ◌++◌, codes}
use Rattle.man_grammar.specs.ClassNumbers.{word_of}
use Rattle.man_grammar.specs.declared.class.Class.{Class}
use Rattle.man_grammar.specs.declared.class.Class.TheVariants as class
use Rattle.man_raw.specs.declared.form.Characteristic.{Characteristic}
use Rattle.man_raw.specs.declared.form.Characteristic.TheVariants as characteristic
use Rattle.man_raw.specs.declared.form.Facet.{Facet}
use Rattle.man_raw.specs.declared.form.Facet.TheVariants as facet
use Rattle.man_raw.specs.declared.form.Form.{Form}
use Rattle.man_raw.specs.declared.form.Form.TheVariants as form
use Rattle.man_raw.specs.declared.heading.Heading.{Heading}
use Rattle.man_raw.specs.declared.heading.Heading.TheVariants as heading
use Rattle.man_raw.specs.declared.heading.Section.{Section}
use Rattle.man_raw.specs.declared.heading.Section.TheVariants as section

-- ---- the keywords of items and sections

unfoldable pub heading_class : Heading → Class
heading_class heading.Class = class.Class
heading_class heading.Datatype = class.Datatype
heading_class heading.ObjectProperty = class.ObjectProperty
heading_class heading.DataProperty = class.DataProperty
heading_class heading.AnnotationProperty = class.AnnotationProperty
heading_class heading.Individual = class.Individual
heading_class heading.EquivalentClasses = class.EquivalentClasses
heading_class heading.DisjointClasses = class.DisjointClasses
heading_class heading.EquivalentProperties = class.EquivalentProperties
heading_class heading.DisjointProperties = class.DisjointProperties
heading_class heading.SameIndividual = class.SameIndividual
heading_class heading.DifferentIndividuals = class.DifferentIndividuals

-- the members of an item that is no frame stand behind its own keyword
unfoldable pub section_class : Section → Class
section_class section.Annotations = class.Annotations
section_class section.SubClassOf = class.SubClassOf
section_class section.EquivalentTo = class.EquivalentTo
section_class section.DisjointWith = class.DisjointWith
section_class section.DisjointUnionOf = class.DisjointUnionOf
section_class section.HasKey = class.HasKey
section_class section.Domain = class.Domain
section_class section.Range = class.Range
section_class section.Characteristics = class.Characteristics
section_class section.SubPropertyOf = class.SubPropertyOf
section_class section.InverseOf = class.InverseOf
section_class section.SubPropertyChain = class.SubPropertyChain
section_class section.Types = class.Types
section_class section.Facts = class.Facts
section_class section.SameAs = class.SameAs
section_class section.DifferentFrom = class.DifferentFrom
section_class section.Members = class.Comma

-- a keyword in front of a colon
abbrev pub colon : Class → List ℕ
colon c = word_of c ++ codes ":"

-- ---- the words of characteristics and facets

unfoldable pub characteristic_class : Characteristic → Class
characteristic_class characteristic.Functional = class.Functional
characteristic_class characteristic.InverseFunctional = class.InverseFunctional
characteristic_class characteristic.Reflexive = class.Reflexive
characteristic_class characteristic.Irreflexive = class.Irreflexive
characteristic_class characteristic.Symmetric = class.Symmetric
characteristic_class characteristic.Asymmetric = class.Asymmetric
characteristic_class characteristic.Transitive = class.Transitive

-- by its word, or by a sign
unfoldable pub facet_text : Facet → List ℕ
facet_text facet.AtMost = codes "<="
facet_text facet.LessThan = codes "<"
facet_text facet.AtLeast = codes ">="
facet_text facet.MoreThan = codes ">"
facet_text facet.Length = word_of class.Length
facet_text facet.MinLength = word_of class.MinLength
facet_text facet.MaxLength = word_of class.MaxLength
facet_text facet.Pattern = word_of class.Pattern
facet_text facet.LangRange = word_of class.LangRange

-- ---- what stands around the parts of a form

-- in front of all, between the first two, between the others, and behind all
pub record Words : Type 0 where
  pub front : List ℕ
  pub first : List ℕ
  pub others : List ℕ
  pub last : List ℕ

-- the same between any two
abbrev pub between : List ℕ → Words
between gap = record { front = []; first = gap; others = gap; last = [] }

abbrev pub enclosed : List ℕ → List ℕ → Words
enclosed front last = record { front = front; first = codes ", "; others = codes ", "; last = last }

abbrev pub in_front : List ℕ → Words
in_front front = record { front = front; first = codes " "; others = codes " "; last = [] }

-- a word with a space on each side, and the number or filler behind it
abbrev pub spaced : Class → Words
spaced c = record { front = []; first = codes " " ++ (word_of c ++ codes " "); others = codes " "; last = [] }

unfoldable pub words_of : Form → Words
words_of form.Notes = enclosed (colon class.Annotations ++ codes " ") (codes " ")
words_of form.Note = record { front = []; first = []; others = codes " "; last = [] }
words_of form.Inverse = in_front (word_of class.Inverse ++ codes " ")
words_of form.Or = between (codes " " ++ (word_of class.Or ++ codes " "))
words_of form.And = between (codes " " ++ (word_of class.And ++ codes " "))
words_of form.That = between (codes " " ++ (word_of class.That ++ codes " "))
words_of form.Not = in_front (word_of class.Not ++ codes " ")
words_of form.SomeOf = spaced class.Some
words_of form.OnlyOf = spaced class.Only
words_of form.HasValue = spaced class.Value
words_of form.HasSelf = record { front = []; first = []; others = []; last = codes " " ++ word_of class.SelfWord }
words_of form.Min = spaced class.Min
words_of form.Max = spaced class.Max
words_of form.Exactly = spaced class.Exactly
words_of form.Restricted = record { front = []; first = codes "["; others = codes ", "; last = codes "]" }
words_of form.FacetPair = between (codes " ")
words_of form.Individuals = enclosed (codes "{") (codes "}")
words_of form.Literals = enclosed (codes "{") (codes "}")
words_of form.Bracket = enclosed (codes "(") (codes ")")
words_of form.Assertion = between (codes " ")
words_of form.Fact = between (codes " ")
words_of form.NegativeFact = in_front (word_of class.Not ++ codes " ")
words_of form.List = between (codes ", ")

-- what stands between the members of a list in this section: a comma, but spaces between keys, and `o` between the links of a chain
unfoldable pub list_gap : Section → List ℕ
list_gap section.HasKey = codes " "
list_gap section.SubPropertyChain = codes " " ++ (word_of class.Composed ++ codes " ")
list_gap _ = codes ", "
