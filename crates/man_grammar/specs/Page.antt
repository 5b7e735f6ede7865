-- The grammar of Manchester Syntax (sections 2.1 to 2.6), left-factored: each alternative of a rule begins with other tokens.
-- Acts stand in front of the tokens that they concern. `tools/make_page.py` made it.
use Rattle.std.specs.Prelude.{ℕ, List, [], ◌∷◌}
use Rattle.grammar.specs.Grammars.{Entry}
use Rattle.grammar.specs.Pages.{Named, Page, grammar_of}
use Rattle.grammar.specs.Pages.Named.{action, part, token}
use Rattle.man_raw.specs.declared.heading.Heading.TheVariants as heading
use Rattle.man_raw.specs.declared.heading.Section.TheVariants as section
use Rattle.man_raw.specs.declared.form.Characteristic.TheVariants as characteristic
use Rattle.man_raw.specs.declared.form.Facet.TheVariants as facet
use Rattle.man_raw.specs.declared.form.Form.TheVariants as form
use Rattle.man_grammar.specs.Acts.{act_number}
use Rattle.man_grammar.specs.ClassNumbers.{class_number}
use Rattle.man_grammar.specs.declared.act.Act.{Act}
use Rattle.man_grammar.specs.declared.act.Act.TheVariants as act
use Rattle.man_grammar.specs.declared.class.Class.{Class}
use Rattle.man_grammar.specs.declared.class.Class.TheVariants as class

-- the parts of a document
pub data Rule : Type 0 where
  document prefixes header version imports head_notes items item class_sections class_section datatype_sections note_sections object_sections object_section data_sections data_section annotation_sections annotation_section individual_sections individual_section note_section note_parts other_note_parts expression_parts other_expression_parts property_parts other_property_parts name_parts other_name_parts individual_parts other_individual_parts word_parts other_word_parts one_characteristic fact_parts other_fact_parts fact opt_notes notes note_list other_notes expressions other_expressions properties other_properties individuals other_individuals other_keys other_links expression other_operands conjunction behind_first_name other_conjuncts that_part other_that_parts primary unnamed positive grouped behind_name restriction restricted filler property inverse inverse_name members other_member_individuals other_member_literals facets other_facets one_facet value individual name name_word type_word iri literal suffix shorthand : Rule

abbrev pub Names : Type 0
Names = List (Named Class Rule Act)

abbrev pub alternatives : Rule → List Names
-- section 2.4
alternatives document =
    (part prefixes ∷ token class.Ontology ∷ part header ∷ part imports ∷ part head_notes ∷ part items ∷ [])
    ∷ []
alternatives prefixes =
    []
    ∷ (token class.Prefix ∷ action act.NamePrefix ∷ token class.Namespace ∷ action act.DeclarePrefix ∷ token class.IriRef ∷ part prefixes ∷ [])
    ∷ []
alternatives header = [] ∷ (action act.OntologyIri ∷ part iri ∷ part version ∷ []) ∷ []
alternatives version = [] ∷ (action act.VersionIri ∷ part iri ∷ []) ∷ []
alternatives imports = [] ∷ (token class.Import ∷ action act.ImportIri ∷ part iri ∷ part imports ∷ []) ∷ []
alternatives head_notes = [] ∷ (action act.Open ∷ part notes ∷ action act.HeadNotes ∷ part head_notes ∷ []) ∷ []
alternatives items = [] ∷ (part item ∷ part items ∷ []) ∷ []
-- sections 2.5 and 2.6
alternatives item =
    (action (act.Item heading.Class) ∷ token class.Class ∷ action act.Open ∷ part name ∷ action act.Subject ∷ part class_sections ∷ [])
    ∷ (action (act.Item heading.Datatype) ∷ token class.Datatype ∷ action act.Open ∷ part name ∷ action act.Subject ∷ part datatype_sections ∷ [])
    ∷ (action (act.Item heading.ObjectProperty) ∷ token class.ObjectProperty ∷ action act.Open ∷ part name ∷ action act.Subject ∷ part object_sections ∷ [])
    ∷ (action (act.Item heading.DataProperty) ∷ token class.DataProperty ∷ action act.Open ∷ part name ∷ action act.Subject ∷ part data_sections ∷ [])
    ∷ (action (act.Item heading.AnnotationProperty) ∷ token class.AnnotationProperty ∷ action act.Open ∷ part name ∷ action act.Subject ∷ part annotation_sections ∷ [])
    ∷ (action (act.Item heading.Individual) ∷ token class.Individual ∷ action act.Open ∷ part individual ∷ action act.Subject ∷ part individual_sections ∷ [])
    ∷ (action (act.Item heading.EquivalentClasses) ∷ token class.EquivalentClasses ∷ action act.Open ∷ part opt_notes ∷ part expressions ∷ action act.Part ∷ [])
    ∷ (action (act.Item heading.DisjointClasses) ∷ token class.DisjointClasses ∷ action act.Open ∷ part opt_notes ∷ part expressions ∷ action act.Part ∷ [])
    ∷ (action (act.Item heading.EquivalentProperties) ∷ token class.EquivalentProperties ∷ action act.Open ∷ part opt_notes ∷ part properties ∷ action act.Part ∷ [])
    ∷ (action (act.Item heading.DisjointProperties) ∷ token class.DisjointProperties ∷ action act.Open ∷ part opt_notes ∷ part properties ∷ action act.Part ∷ [])
    ∷ (action (act.Item heading.SameIndividual) ∷ token class.SameIndividual ∷ action act.Open ∷ part opt_notes ∷ part individuals ∷ action act.Part ∷ [])
    ∷ (action (act.Item heading.DifferentIndividuals) ∷ token class.DifferentIndividuals ∷ action act.Open ∷ part opt_notes ∷ part individuals ∷ action act.Part ∷ [])
    ∷ []
alternatives class_sections = [] ∷ (part class_section ∷ part class_sections ∷ []) ∷ []
alternatives class_section =
    (part note_section ∷ [])
    ∷ (action (act.Section section.SubClassOf) ∷ token class.SubClassOf ∷ part expression_parts ∷ [])
    ∷ (action (act.Section section.EquivalentTo) ∷ token class.EquivalentTo ∷ part expression_parts ∷ [])
    ∷ (action (act.Section section.DisjointWith) ∷ token class.DisjointWith ∷ part expression_parts ∷ [])
    ∷ (action (act.Section section.DisjointUnionOf) ∷ token class.DisjointUnionOf ∷ action act.Open ∷ part opt_notes ∷ part expressions ∷ action act.Part ∷ [])
    ∷ (action (act.Section section.HasKey) ∷ token class.HasKey ∷ action act.Open ∷ part opt_notes ∷ action act.Open ∷ part property ∷ part other_keys ∷ action act.Part ∷ [])
    ∷ []
alternatives datatype_sections =
    []
    ∷ (part note_section ∷ part datatype_sections ∷ [])
    ∷ (action (act.Section section.EquivalentTo) ∷ token class.EquivalentTo ∷ action act.Open ∷ part opt_notes ∷ part expression ∷ action act.Part ∷ part note_sections ∷ [])
    ∷ []
alternatives note_sections = [] ∷ (part note_section ∷ part note_sections ∷ []) ∷ []
alternatives object_sections = [] ∷ (part object_section ∷ part object_sections ∷ []) ∷ []
alternatives object_section =
    (part note_section ∷ [])
    ∷ (action (act.Section section.Domain) ∷ token class.Domain ∷ part expression_parts ∷ [])
    ∷ (action (act.Section section.Range) ∷ token class.Range ∷ part expression_parts ∷ [])
    ∷ (action (act.Section section.Characteristics) ∷ token class.Characteristics ∷ part word_parts ∷ [])
    ∷ (action (act.Section section.SubPropertyOf) ∷ token class.SubPropertyOf ∷ part property_parts ∷ [])
    ∷ (action (act.Section section.EquivalentTo) ∷ token class.EquivalentTo ∷ part property_parts ∷ [])
    ∷ (action (act.Section section.DisjointWith) ∷ token class.DisjointWith ∷ part property_parts ∷ [])
    ∷ (action (act.Section section.InverseOf) ∷ token class.InverseOf ∷ part property_parts ∷ [])
    ∷ (action (act.Section section.SubPropertyChain) ∷ token class.SubPropertyChain ∷ action act.Open ∷ part opt_notes ∷ action act.Open ∷ part property ∷ token class.Composed ∷ part property ∷ part other_links ∷ action act.Part ∷ [])
    ∷ []
alternatives data_sections = [] ∷ (part data_section ∷ part data_sections ∷ []) ∷ []
alternatives data_section =
    (part note_section ∷ [])
    ∷ (action (act.Section section.Domain) ∷ token class.Domain ∷ part expression_parts ∷ [])
    ∷ (action (act.Section section.Range) ∷ token class.Range ∷ part expression_parts ∷ [])
    ∷ (action (act.Section section.Characteristics) ∷ token class.Characteristics ∷ action act.Open ∷ part opt_notes ∷ action (act.Word characteristic.Functional) ∷ token class.Functional ∷ action act.Part ∷ [])
    ∷ (action (act.Section section.SubPropertyOf) ∷ token class.SubPropertyOf ∷ part name_parts ∷ [])
    ∷ (action (act.Section section.EquivalentTo) ∷ token class.EquivalentTo ∷ part name_parts ∷ [])
    ∷ (action (act.Section section.DisjointWith) ∷ token class.DisjointWith ∷ part name_parts ∷ [])
    ∷ []
alternatives annotation_sections = [] ∷ (part annotation_section ∷ part annotation_sections ∷ []) ∷ []
alternatives annotation_section =
    (part note_section ∷ [])
    ∷ (action (act.Section section.Domain) ∷ token class.Domain ∷ part name_parts ∷ [])
    ∷ (action (act.Section section.Range) ∷ token class.Range ∷ part name_parts ∷ [])
    ∷ (action (act.Section section.SubPropertyOf) ∷ token class.SubPropertyOf ∷ part name_parts ∷ [])
    ∷ []
alternatives individual_sections = [] ∷ (part individual_section ∷ part individual_sections ∷ []) ∷ []
alternatives individual_section =
    (part note_section ∷ [])
    ∷ (action (act.Section section.Types) ∷ token class.Types ∷ part expression_parts ∷ [])
    ∷ (action (act.Section section.Facts) ∷ token class.Facts ∷ part fact_parts ∷ [])
    ∷ (action (act.Section section.SameAs) ∷ token class.SameAs ∷ part individual_parts ∷ [])
    ∷ (action (act.Section section.DifferentFrom) ∷ token class.DifferentFrom ∷ part individual_parts ∷ [])
    ∷ []
alternatives note_section =
    (action (act.Section section.Annotations) ∷ action act.Nest ∷ token class.Annotations ∷ part note_parts ∷ action act.Unnest ∷ [])
    ∷ []
alternatives note_parts =
    (action act.Open ∷ part opt_notes ∷ action act.Open ∷ part name ∷ part value ∷ action (act.Shut form.Assertion) ∷ action act.Part ∷ part other_note_parts ∷ [])
    ∷ []
alternatives other_note_parts = [] ∷ (token class.Comma ∷ part note_parts ∷ []) ∷ []
alternatives expression_parts =
    (action act.Open ∷ part opt_notes ∷ part expression ∷ action act.Part ∷ part other_expression_parts ∷ [])
    ∷ []
alternatives other_expression_parts = [] ∷ (token class.Comma ∷ part expression_parts ∷ []) ∷ []
alternatives property_parts =
    (action act.Open ∷ part opt_notes ∷ part property ∷ action act.Part ∷ part other_property_parts ∷ [])
    ∷ []
alternatives other_property_parts = [] ∷ (token class.Comma ∷ part property_parts ∷ []) ∷ []
alternatives name_parts =
    (action act.Open ∷ part opt_notes ∷ part name ∷ action act.Part ∷ part other_name_parts ∷ [])
    ∷ []
alternatives other_name_parts = [] ∷ (token class.Comma ∷ part name_parts ∷ []) ∷ []
alternatives individual_parts =
    (action act.Open ∷ part opt_notes ∷ part individual ∷ action act.Part ∷ part other_individual_parts ∷ [])
    ∷ []
alternatives other_individual_parts = [] ∷ (token class.Comma ∷ part individual_parts ∷ []) ∷ []
alternatives word_parts =
    (action act.Open ∷ part opt_notes ∷ part one_characteristic ∷ action act.Part ∷ part other_word_parts ∷ [])
    ∷ []
alternatives other_word_parts = [] ∷ (token class.Comma ∷ part word_parts ∷ []) ∷ []
alternatives one_characteristic =
    (action (act.Word characteristic.Functional) ∷ token class.Functional ∷ [])
    ∷ (action (act.Word characteristic.InverseFunctional) ∷ token class.InverseFunctional ∷ [])
    ∷ (action (act.Word characteristic.Reflexive) ∷ token class.Reflexive ∷ [])
    ∷ (action (act.Word characteristic.Irreflexive) ∷ token class.Irreflexive ∷ [])
    ∷ (action (act.Word characteristic.Symmetric) ∷ token class.Symmetric ∷ [])
    ∷ (action (act.Word characteristic.Asymmetric) ∷ token class.Asymmetric ∷ [])
    ∷ (action (act.Word characteristic.Transitive) ∷ token class.Transitive ∷ [])
    ∷ []
alternatives fact_parts =
    (action act.Open ∷ part opt_notes ∷ part fact ∷ action act.Part ∷ part other_fact_parts ∷ [])
    ∷ []
alternatives other_fact_parts = [] ∷ (token class.Comma ∷ part fact_parts ∷ []) ∷ []
alternatives fact =
    (action act.Open ∷ part name ∷ part value ∷ action (act.Shut form.Fact) ∷ [])
    ∷ (action act.Open ∷ action act.Nest ∷ token class.Not ∷ part name ∷ part value ∷ action act.Unnest ∷ action (act.Shut form.NegativeFact) ∷ [])
    ∷ []
alternatives opt_notes = (action act.NoNotes ∷ []) ∷ (part notes ∷ []) ∷ []
alternatives notes =
    (action act.Open ∷ action act.Nest ∷ token class.Annotations ∷ part note_list ∷ action act.Unnest ∷ action (act.Shut form.Notes) ∷ [])
    ∷ []
alternatives note_list =
    (action act.Open ∷ part opt_notes ∷ part name ∷ part value ∷ action (act.Shut form.Note) ∷ part other_notes ∷ [])
    ∷ []
alternatives other_notes = [] ∷ (token class.Comma ∷ part note_list ∷ []) ∷ []
alternatives expressions =
    (action act.Open ∷ part expression ∷ token class.Comma ∷ part expression ∷ part other_expressions ∷ [])
    ∷ []
alternatives other_expressions =
    (action (act.Shut form.List) ∷ [])
    ∷ (token class.Comma ∷ part expression ∷ part other_expressions ∷ [])
    ∷ []
alternatives properties =
    (action act.Open ∷ part property ∷ token class.Comma ∷ part property ∷ part other_properties ∷ [])
    ∷ []
alternatives other_properties =
    (action (act.Shut form.List) ∷ [])
    ∷ (token class.Comma ∷ part property ∷ part other_properties ∷ [])
    ∷ []
alternatives individuals =
    (action act.Open ∷ part individual ∷ token class.Comma ∷ part individual ∷ part other_individuals ∷ [])
    ∷ []
alternatives other_individuals =
    (action (act.Shut form.List) ∷ [])
    ∷ (token class.Comma ∷ part individual ∷ part other_individuals ∷ [])
    ∷ []
alternatives other_keys = (action (act.Shut form.List) ∷ []) ∷ (part property ∷ part other_keys ∷ []) ∷ []
alternatives other_links =
    (action (act.Shut form.List) ∷ [])
    ∷ (token class.Composed ∷ part property ∷ part other_links ∷ [])
    ∷ []
-- section 2.3
alternatives expression = (action act.Open ∷ part conjunction ∷ part other_operands ∷ []) ∷ []
alternatives other_operands =
    (action (act.Shut form.Or) ∷ [])
    ∷ (token class.Or ∷ part conjunction ∷ part other_operands ∷ [])
    ∷ []
alternatives conjunction =
    (action act.Open ∷ part name ∷ part behind_first_name ∷ [])
    ∷ (action act.Open ∷ part unnamed ∷ part other_conjuncts ∷ [])
    ∷ []
alternatives behind_first_name =
    (token class.That ∷ part that_part ∷ part other_that_parts ∷ [])
    ∷ (part behind_name ∷ part other_conjuncts ∷ [])
    ∷ []
alternatives other_conjuncts =
    (action (act.Shut form.And) ∷ [])
    ∷ (token class.And ∷ part primary ∷ part other_conjuncts ∷ [])
    ∷ []
alternatives that_part =
    (part restriction ∷ [])
    ∷ (action act.Open ∷ action act.Nest ∷ token class.Not ∷ part restriction ∷ action act.Unnest ∷ action (act.Shut form.Not) ∷ [])
    ∷ []
alternatives other_that_parts =
    (action (act.Shut form.That) ∷ [])
    ∷ (token class.And ∷ part that_part ∷ part other_that_parts ∷ [])
    ∷ []
alternatives primary = (part name ∷ part behind_name ∷ []) ∷ (part unnamed ∷ []) ∷ []
alternatives unnamed =
    (part grouped ∷ [])
    ∷ (action act.Open ∷ action act.Nest ∷ token class.Not ∷ part positive ∷ action act.Unnest ∷ action (act.Shut form.Not) ∷ [])
    ∷ []
alternatives positive = (part name ∷ part behind_name ∷ []) ∷ (part grouped ∷ []) ∷ []
alternatives grouped =
    (part inverse ∷ part restricted ∷ [])
    ∷ (action act.Open ∷ action act.Nest ∷ token class.OpenBrace ∷ part members ∷ [])
    ∷ (action act.Open ∷ action act.Nest ∷ token class.OpenParenthesis ∷ part expression ∷ action (act.Shut form.Bracket) ∷ action act.Unnest ∷ token class.CloseParenthesis ∷ [])
    ∷ []
alternatives behind_name =
    []
    ∷ (part restricted ∷ [])
    ∷ (action act.Wrap ∷ action act.Nest ∷ token class.OpenBracket ∷ part facets ∷ action (act.Shut form.Restricted) ∷ action act.Unnest ∷ token class.CloseBracket ∷ [])
    ∷ []
alternatives restriction = (part property ∷ part restricted ∷ []) ∷ []
alternatives restricted =
    (action act.Wrap ∷ action act.Nest ∷ token class.Some ∷ part primary ∷ action act.Unnest ∷ action (act.Shut form.SomeOf) ∷ [])
    ∷ (action act.Wrap ∷ action act.Nest ∷ token class.Only ∷ part primary ∷ action act.Unnest ∷ action (act.Shut form.OnlyOf) ∷ [])
    ∷ (action act.Wrap ∷ token class.Value ∷ part value ∷ action (act.Shut form.HasValue) ∷ [])
    ∷ (action act.Wrap ∷ token class.SelfWord ∷ action (act.Shut form.HasSelf) ∷ [])
    ∷ (action act.Wrap ∷ action act.Nest ∷ token class.Min ∷ action act.Number ∷ token class.Digits ∷ part filler ∷ action act.Unnest ∷ action (act.Shut form.Min) ∷ [])
    ∷ (action act.Wrap ∷ action act.Nest ∷ token class.Max ∷ action act.Number ∷ token class.Digits ∷ part filler ∷ action act.Unnest ∷ action (act.Shut form.Max) ∷ [])
    ∷ (action act.Wrap ∷ action act.Nest ∷ token class.Exactly ∷ action act.Number ∷ token class.Digits ∷ part filler ∷ action act.Unnest ∷ action (act.Shut form.Exactly) ∷ [])
    ∷ []
alternatives filler = [] ∷ (part primary ∷ []) ∷ []
alternatives property = (part name ∷ []) ∷ (part inverse ∷ []) ∷ []
alternatives inverse =
    (action act.Open ∷ token class.Inverse ∷ part inverse_name ∷ action (act.Shut form.Inverse) ∷ [])
    ∷ []
alternatives inverse_name =
    (part name ∷ [])
    ∷ (action act.Nest ∷ token class.OpenParenthesis ∷ part name ∷ action act.Unnest ∷ token class.CloseParenthesis ∷ [])
    ∷ []
alternatives members =
    (part individual ∷ part other_member_individuals ∷ [])
    ∷ (part literal ∷ part other_member_literals ∷ [])
    ∷ []
alternatives other_member_individuals =
    (action (act.Shut form.Individuals) ∷ action act.Unnest ∷ token class.CloseBrace ∷ [])
    ∷ (token class.Comma ∷ part individual ∷ part other_member_individuals ∷ [])
    ∷ []
alternatives other_member_literals =
    (action (act.Shut form.Literals) ∷ action act.Unnest ∷ token class.CloseBrace ∷ [])
    ∷ (token class.Comma ∷ part literal ∷ part other_member_literals ∷ [])
    ∷ []
alternatives facets =
    (action act.Open ∷ part one_facet ∷ part literal ∷ action (act.Shut form.FacetPair) ∷ part other_facets ∷ [])
    ∷ []
alternatives other_facets = [] ∷ (token class.Comma ∷ part facets ∷ []) ∷ []
alternatives one_facet =
    (action (act.Facet facet.AtMost) ∷ token class.AtMost ∷ [])
    ∷ (action (act.Facet facet.LessThan) ∷ token class.LessThan ∷ [])
    ∷ (action (act.Facet facet.AtLeast) ∷ token class.AtLeast ∷ [])
    ∷ (action (act.Facet facet.MoreThan) ∷ token class.MoreThan ∷ [])
    ∷ (action (act.Facet facet.Length) ∷ token class.Length ∷ [])
    ∷ (action (act.Facet facet.MinLength) ∷ token class.MinLength ∷ [])
    ∷ (action (act.Facet facet.MaxLength) ∷ token class.MaxLength ∷ [])
    ∷ (action (act.Facet facet.Pattern) ∷ token class.Pattern ∷ [])
    ∷ (action (act.Facet facet.LangRange) ∷ token class.LangRange ∷ [])
    ∷ []
-- section 2.1
alternatives value = (part individual ∷ []) ∷ (part literal ∷ []) ∷ []
alternatives individual = (part name ∷ []) ∷ (action act.Label ∷ token class.Blank ∷ []) ∷ []
alternatives name = (action act.Name ∷ part name_word ∷ []) ∷ (action act.TypeName ∷ part type_word ∷ []) ∷ []
alternatives name_word =
    (token class.IriRef ∷ [])
    ∷ (token class.Prefixed ∷ [])
    ∷ (token class.Namespace ∷ [])
    ∷ (token class.PlainWord ∷ [])
    ∷ []
alternatives type_word =
    (token class.IntegerWord ∷ [])
    ∷ (token class.DecimalWord ∷ [])
    ∷ (token class.FloatWord ∷ [])
    ∷ (token class.StringWord ∷ [])
    ∷ []
alternatives iri = (token class.IriRef ∷ []) ∷ (token class.Prefixed ∷ []) ∷ (token class.Namespace ∷ []) ∷ []
alternatives literal =
    (action act.Text ∷ token class.Text ∷ part suffix ∷ [])
    ∷ (action act.Shorthand ∷ part shorthand ∷ [])
    ∷ []
alternatives suffix =
    (action act.Plain ∷ [])
    ∷ (action act.Tagged ∷ token class.Language ∷ [])
    ∷ (token class.Carets ∷ action act.Typed ∷ part iri ∷ [])
    ∷ []
alternatives shorthand =
    (token class.Digits ∷ [])
    ∷ (token class.Signed ∷ [])
    ∷ (token class.Decimal ∷ [])
    ∷ (token class.TrueWord ∷ [])
    ∷ (token class.FalseWord ∷ [])
    ∷ []

abbrev pub rule_number : Rule → ℕ
rule_number document = 0
rule_number prefixes = 1
rule_number header = 2
rule_number version = 3
rule_number imports = 4
rule_number head_notes = 5
rule_number items = 6
rule_number item = 7
rule_number class_sections = 8
rule_number class_section = 9
rule_number datatype_sections = 10
rule_number note_sections = 11
rule_number object_sections = 12
rule_number object_section = 13
rule_number data_sections = 14
rule_number data_section = 15
rule_number annotation_sections = 16
rule_number annotation_section = 17
rule_number individual_sections = 18
rule_number individual_section = 19
rule_number note_section = 20
rule_number note_parts = 21
rule_number other_note_parts = 22
rule_number expression_parts = 23
rule_number other_expression_parts = 24
rule_number property_parts = 25
rule_number other_property_parts = 26
rule_number name_parts = 27
rule_number other_name_parts = 28
rule_number individual_parts = 29
rule_number other_individual_parts = 30
rule_number word_parts = 31
rule_number other_word_parts = 32
rule_number one_characteristic = 33
rule_number fact_parts = 34
rule_number other_fact_parts = 35
rule_number fact = 36
rule_number opt_notes = 37
rule_number notes = 38
rule_number note_list = 39
rule_number other_notes = 40
rule_number expressions = 41
rule_number other_expressions = 42
rule_number properties = 43
rule_number other_properties = 44
rule_number individuals = 45
rule_number other_individuals = 46
rule_number other_keys = 47
rule_number other_links = 48
rule_number expression = 49
rule_number other_operands = 50
rule_number conjunction = 51
rule_number behind_first_name = 52
rule_number other_conjuncts = 53
rule_number that_part = 54
rule_number other_that_parts = 55
rule_number primary = 56
rule_number unnamed = 57
rule_number positive = 58
rule_number grouped = 59
rule_number behind_name = 60
rule_number restriction = 61
rule_number restricted = 62
rule_number filler = 63
rule_number property = 64
rule_number inverse = 65
rule_number inverse_name = 66
rule_number members = 67
rule_number other_member_individuals = 68
rule_number other_member_literals = 69
rule_number facets = 70
rule_number other_facets = 71
rule_number one_facet = 72
rule_number value = 73
rule_number individual = 74
rule_number name = 75
rule_number name_word = 76
rule_number type_word = 77
rule_number iri = 78
rule_number literal = 79
rule_number suffix = 80
rule_number shorthand = 81

-- the rules in the order of their numbers
abbrev pub rules : List Rule
rules =
    document ∷ prefixes ∷ header ∷ version ∷ imports ∷ head_notes ∷ items ∷ item ∷ class_sections ∷ class_section ∷
    datatype_sections ∷ note_sections ∷ object_sections ∷ object_section ∷ data_sections ∷ data_section ∷
    annotation_sections ∷ annotation_section ∷ individual_sections ∷ individual_section ∷ note_section ∷ note_parts ∷
    other_note_parts ∷ expression_parts ∷ other_expression_parts ∷ property_parts ∷ other_property_parts ∷
    name_parts ∷ other_name_parts ∷ individual_parts ∷ other_individual_parts ∷ word_parts ∷ other_word_parts ∷
    one_characteristic ∷ fact_parts ∷ other_fact_parts ∷ fact ∷ opt_notes ∷ notes ∷ note_list ∷ other_notes ∷
    expressions ∷ other_expressions ∷ properties ∷ other_properties ∷ individuals ∷ other_individuals ∷ other_keys ∷
    other_links ∷ expression ∷ other_operands ∷ conjunction ∷ behind_first_name ∷ other_conjuncts ∷ that_part ∷
    other_that_parts ∷ primary ∷ unnamed ∷ positive ∷ grouped ∷ behind_name ∷ restriction ∷ restricted ∷ filler ∷
    property ∷ inverse ∷ inverse_name ∷ members ∷ other_member_individuals ∷ other_member_literals ∷ facets ∷
    other_facets ∷ one_facet ∷ value ∷ individual ∷ name ∷ name_word ∷ type_word ∷ iri ∷ literal ∷ suffix ∷
    shorthand ∷ []

abbrev pub page : Page Class Rule Act
page = record {
  class_number = class_number;
  rule_number = rule_number;
  act_number = act_number;
  alternatives = alternatives;
  rules = rules;
}

-- the same as a list of rules, from which documents derive
unfoldable pub manchester_page : List Entry
manchester_page = grammar_of page
