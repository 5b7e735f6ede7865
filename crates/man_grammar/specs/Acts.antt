-- The numbers of acts; `tools/make_page.py` made it.
use Rattle.std.specs.Prelude.{ℕ, List, [], ◌∷◌, Option}
use Rattle.std.specs.List.{slice_get}
use Rattle.man_raw.specs.declared.heading.Heading.TheVariants as heading
use Rattle.man_raw.specs.declared.heading.Section.TheVariants as section
use Rattle.man_raw.specs.declared.form.Characteristic.TheVariants as characteristic
use Rattle.man_raw.specs.declared.form.Facet.TheVariants as facet
use Rattle.man_raw.specs.declared.form.Form.TheVariants as form
use Rattle.man_grammar.specs.declared.act.Act.{Act}
use Rattle.man_grammar.specs.declared.act.Act.TheVariants.{NamePrefix, DeclarePrefix, OntologyIri, VersionIri, ImportIri, HeadNotes, Open, Subject, Part, Nest, Unnest, NoNotes, Wrap, Number, Name, TypeName, Label, Text, Plain, Tagged, Typed, Shorthand, Item, Section, Word, Facet, Shut}

abbrev pub act_number : Act → ℕ
act_number NamePrefix = 0
act_number DeclarePrefix = 1
act_number OntologyIri = 2
act_number VersionIri = 3
act_number ImportIri = 4
act_number HeadNotes = 5
act_number Open = 6
act_number Subject = 7
act_number Part = 8
act_number Nest = 9
act_number Unnest = 10
act_number NoNotes = 11
act_number Wrap = 12
act_number Number = 13
act_number Name = 14
act_number TypeName = 15
act_number Label = 16
act_number Text = 17
act_number Plain = 18
act_number Tagged = 19
act_number Typed = 20
act_number Shorthand = 21
act_number (Item heading.Class) = 22
act_number (Item heading.Datatype) = 23
act_number (Item heading.ObjectProperty) = 24
act_number (Item heading.DataProperty) = 25
act_number (Item heading.AnnotationProperty) = 26
act_number (Item heading.Individual) = 27
act_number (Item heading.EquivalentClasses) = 28
act_number (Item heading.DisjointClasses) = 29
act_number (Item heading.EquivalentProperties) = 30
act_number (Item heading.DisjointProperties) = 31
act_number (Item heading.SameIndividual) = 32
act_number (Item heading.DifferentIndividuals) = 33
act_number (Section section.Annotations) = 34
act_number (Section section.SubClassOf) = 35
act_number (Section section.EquivalentTo) = 36
act_number (Section section.DisjointWith) = 37
act_number (Section section.DisjointUnionOf) = 38
act_number (Section section.HasKey) = 39
act_number (Section section.Domain) = 40
act_number (Section section.Range) = 41
act_number (Section section.Characteristics) = 42
act_number (Section section.SubPropertyOf) = 43
act_number (Section section.InverseOf) = 44
act_number (Section section.SubPropertyChain) = 45
act_number (Section section.Types) = 46
act_number (Section section.Facts) = 47
act_number (Section section.SameAs) = 48
act_number (Section section.DifferentFrom) = 49
act_number (Section section.Members) = 50
act_number (Word characteristic.Functional) = 51
act_number (Word characteristic.InverseFunctional) = 52
act_number (Word characteristic.Reflexive) = 53
act_number (Word characteristic.Irreflexive) = 54
act_number (Word characteristic.Symmetric) = 55
act_number (Word characteristic.Asymmetric) = 56
act_number (Word characteristic.Transitive) = 57
act_number (Facet facet.AtMost) = 58
act_number (Facet facet.LessThan) = 59
act_number (Facet facet.AtLeast) = 60
act_number (Facet facet.MoreThan) = 61
act_number (Facet facet.Length) = 62
act_number (Facet facet.MinLength) = 63
act_number (Facet facet.MaxLength) = 64
act_number (Facet facet.Pattern) = 65
act_number (Facet facet.LangRange) = 66
act_number (Shut form.Notes) = 67
act_number (Shut form.Note) = 68
act_number (Shut form.Inverse) = 69
act_number (Shut form.Or) = 70
act_number (Shut form.And) = 71
act_number (Shut form.That) = 72
act_number (Shut form.Not) = 73
act_number (Shut form.SomeOf) = 74
act_number (Shut form.OnlyOf) = 75
act_number (Shut form.HasValue) = 76
act_number (Shut form.HasSelf) = 77
act_number (Shut form.Min) = 78
act_number (Shut form.Max) = 79
act_number (Shut form.Exactly) = 80
act_number (Shut form.Restricted) = 81
act_number (Shut form.FacetPair) = 82
act_number (Shut form.Individuals) = 83
act_number (Shut form.Literals) = 84
act_number (Shut form.Bracket) = 85
act_number (Shut form.Assertion) = 86
act_number (Shut form.Fact) = 87
act_number (Shut form.NegativeFact) = 88
act_number (Shut form.List) = 89

-- the acts in the order of their numbers
abbrev pub all_acts : List Act
all_acts =
    NamePrefix ∷ DeclarePrefix ∷ OntologyIri ∷ VersionIri ∷ ImportIri ∷ HeadNotes ∷ Open ∷ Subject ∷ Part ∷ Nest ∷
    Unnest ∷ NoNotes ∷ Wrap ∷ Number ∷ Name ∷ TypeName ∷ Label ∷ Text ∷ Plain ∷ Tagged ∷ Typed ∷ Shorthand ∷
    (Item heading.Class) ∷ (Item heading.Datatype) ∷ (Item heading.ObjectProperty) ∷ (Item heading.DataProperty) ∷
    (Item heading.AnnotationProperty) ∷ (Item heading.Individual) ∷ (Item heading.EquivalentClasses) ∷
    (Item heading.DisjointClasses) ∷ (Item heading.EquivalentProperties) ∷ (Item heading.DisjointProperties) ∷
    (Item heading.SameIndividual) ∷ (Item heading.DifferentIndividuals) ∷ (Section section.Annotations) ∷
    (Section section.SubClassOf) ∷ (Section section.EquivalentTo) ∷ (Section section.DisjointWith) ∷
    (Section section.DisjointUnionOf) ∷ (Section section.HasKey) ∷ (Section section.Domain) ∷
    (Section section.Range) ∷ (Section section.Characteristics) ∷ (Section section.SubPropertyOf) ∷
    (Section section.InverseOf) ∷ (Section section.SubPropertyChain) ∷ (Section section.Types) ∷
    (Section section.Facts) ∷ (Section section.SameAs) ∷ (Section section.DifferentFrom) ∷
    (Section section.Members) ∷ (Word characteristic.Functional) ∷ (Word characteristic.InverseFunctional) ∷
    (Word characteristic.Reflexive) ∷ (Word characteristic.Irreflexive) ∷ (Word characteristic.Symmetric) ∷
    (Word characteristic.Asymmetric) ∷ (Word characteristic.Transitive) ∷ (Facet facet.AtMost) ∷
    (Facet facet.LessThan) ∷ (Facet facet.AtLeast) ∷ (Facet facet.MoreThan) ∷ (Facet facet.Length) ∷
    (Facet facet.MinLength) ∷ (Facet facet.MaxLength) ∷ (Facet facet.Pattern) ∷ (Facet facet.LangRange) ∷
    (Shut form.Notes) ∷ (Shut form.Note) ∷ (Shut form.Inverse) ∷ (Shut form.Or) ∷ (Shut form.And) ∷
    (Shut form.That) ∷ (Shut form.Not) ∷ (Shut form.SomeOf) ∷ (Shut form.OnlyOf) ∷ (Shut form.HasValue) ∷
    (Shut form.HasSelf) ∷ (Shut form.Min) ∷ (Shut form.Max) ∷ (Shut form.Exactly) ∷ (Shut form.Restricted) ∷
    (Shut form.FacetPair) ∷ (Shut form.Individuals) ∷ (Shut form.Literals) ∷ (Shut form.Bracket) ∷
    (Shut form.Assertion) ∷ (Shut form.Fact) ∷ (Shut form.NegativeFact) ∷ (Shut form.List) ∷ []

-- the act with this number
abbrev pub act_numbered : ℕ → Option Act
act_numbered n = slice_get all_acts n
