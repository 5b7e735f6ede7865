-- The grammar of Turtle (RDF 1.1 Turtle, section 6.5), left-factored: each alternative of a rule begins with other tokens. Acts
-- stand in front of the tokens that they concern.
use Rattle.std.specs.Prelude.{ℕ, List, [], ◌∷◌}
use Rattle.grammar.specs.Grammars.{Entry}
use Rattle.grammar.specs.Pages.{Named, Page, grammar_of}
use Rattle.grammar.specs.Pages.Named.{action, part, token}
use Rattle.ttl_grammar.specs.Acts.{act_number}
use Rattle.ttl_grammar.specs.Classes.{class_number}
use Rattle.ttl_grammar.specs.declared.act.Act.{Act}
use Rattle.ttl_grammar.specs.declared.act.Act.TheVariants as act
use Rattle.ttl_grammar.specs.declared.class.Class.{Class}
use Rattle.ttl_grammar.specs.declared.class.Class.TheVariants as class

-- The parts of a document. What follows an object, a verb with its objects, or the brackets of a subject has a rule of its own.
pub data Rule : Type 0 where
  document statement triples bracketed_subject more_predicates subject predicates other_verbs next_verb verb objects other_objects object collection items literal suffix tag shorthand iri iri_name : Rule

abbrev pub Names : Type 0
Names = List (Named Class Rule Act)

abbrev pub alternatives : Rule → List Names
-- [1] turtleDoc
alternatives document = [] ∷ (part statement ∷ part document ∷ []) ∷ []
-- [2] statement: [4] prefixID, [5] base, [6s] sparqlPrefix, [5s] sparqlBase, and [6] triples with a dot
alternatives statement =
    (token class.AtPrefix ∷ action act.NamePrefix ∷ token class.Namespace ∷ action act.DeclarePrefix ∷ token class.IriRef ∷ action act.EndStatement ∷ token class.Dot ∷ [])
    ∷ (token class.AtBase ∷ action act.DeclareBase ∷ token class.IriRef ∷ action act.EndStatement ∷ token class.Dot ∷ [])
    ∷ (token class.WordPrefix ∷ action act.NamePrefix ∷ token class.Namespace ∷ action act.DeclarePrefix ∷ action act.EndStatement ∷ token class.IriRef ∷ [])
    ∷ (token class.WordBase ∷ action act.DeclareBase ∷ action act.EndStatement ∷ token class.IriRef ∷ [])
    ∷ (part triples ∷ action act.EndStatement ∷ token class.Dot ∷ [])
    ∷ []
-- [6] triples; brackets around nothing, [163s] ANON, are a subject, which wants predicates
alternatives triples =
    (part subject ∷ action act.Subject ∷ part predicates ∷ [])
    ∷ (action act.OpenBracket ∷ token class.OpenBracket ∷ part bracketed_subject ∷ [])
    ∷ []
alternatives bracketed_subject =
    (action act.CloseBracket ∷ token class.CloseBracket ∷ action act.Subject ∷ part predicates ∷ [])
    ∷ (part predicates ∷ action act.CloseBracket ∷ token class.CloseBracket ∷ action act.Subject ∷ part more_predicates ∷ [])
    ∷ []
alternatives more_predicates = [] ∷ (part predicates ∷ []) ∷ []
-- [10] subject, but for brackets
alternatives subject =
    (part iri ∷ []) ∷ (action act.Label ∷ token class.Label ∷ []) ∷ (part collection ∷ []) ∷ []
-- [7] predicateObjectList
alternatives predicates = (part verb ∷ action act.Predicate ∷ part objects ∷ part other_verbs ∷ []) ∷ []
alternatives other_verbs = [] ∷ (token class.Semicolon ∷ part next_verb ∷ []) ∷ []
alternatives next_verb = (part predicates ∷ []) ∷ (part other_verbs ∷ []) ∷ []
-- [9] verb, [11] predicate
alternatives verb = (action act.RdfType ∷ token class.WordA ∷ []) ∷ (part iri ∷ []) ∷ []
-- [8] objectList
alternatives objects = (part object ∷ action act.Object ∷ part other_objects ∷ []) ∷ []
alternatives other_objects = [] ∷ (token class.Comma ∷ part objects ∷ []) ∷ []
-- [12] object, [14] blankNodePropertyList, [137s] BlankNode
alternatives object =
    (part iri ∷ [])
    ∷ (action act.Label ∷ token class.Label ∷ [])
    ∷ (part collection ∷ [])
    ∷ (part literal ∷ [])
    ∷ (action act.OpenBracket ∷ token class.OpenBracket ∷ part more_predicates ∷ action act.CloseBracket ∷ token class.CloseBracket ∷ [])
    ∷ []
-- [15] collection
alternatives collection =
    (action act.OpenCollection ∷ token class.OpenParenthesis ∷ part items ∷ action act.CloseCollection ∷ token class.CloseParenthesis ∷ [])
    ∷ []
alternatives items = [] ∷ (action act.Item ∷ part object ∷ action act.Element ∷ part items ∷ []) ∷ []
-- [13] literal, [128s] RDFLiteral, [16] NumericLiteral, [133s] BooleanLiteral
alternatives literal =
    (action act.Text ∷ token class.Text ∷ part suffix ∷ []) ∷ (action act.Shorthand ∷ part shorthand ∷ []) ∷ []
alternatives suffix =
    (action act.Plain ∷ [])
    ∷ (action act.Tagged ∷ part tag ∷ [])
    ∷ (token class.Carets ∷ action act.Typed ∷ part iri_name ∷ [])
    ∷ []
alternatives tag = (token class.Language ∷ []) ∷ (token class.AtPrefix ∷ []) ∷ (token class.AtBase ∷ []) ∷ []
alternatives shorthand =
    (token class.Integer ∷ []) ∷ (token class.Decimal ∷ []) ∷ (token class.Double ∷ [])
    ∷ (token class.WordTrue ∷ []) ∷ (token class.WordFalse ∷ []) ∷ []
-- [135s] iri, [136s] PrefixedName
alternatives iri = (action act.Iri ∷ part iri_name ∷ []) ∷ []
alternatives iri_name = (token class.IriRef ∷ []) ∷ (token class.Prefixed ∷ []) ∷ (token class.Namespace ∷ []) ∷ []

abbrev pub rule_number : Rule → ℕ
rule_number document = 0
rule_number statement = 1
rule_number triples = 2
rule_number bracketed_subject = 3
rule_number more_predicates = 4
rule_number subject = 5
rule_number predicates = 6
rule_number other_verbs = 7
rule_number next_verb = 8
rule_number verb = 9
rule_number objects = 10
rule_number other_objects = 11
rule_number object = 12
rule_number collection = 13
rule_number items = 14
rule_number literal = 15
rule_number suffix = 16
rule_number tag = 17
rule_number shorthand = 18
rule_number iri = 19
rule_number iri_name = 20

-- the rules in the order of their numbers
abbrev pub rules : List Rule
rules =
    document ∷ statement ∷ triples ∷ bracketed_subject ∷ more_predicates ∷ subject ∷ predicates ∷ other_verbs ∷ next_verb ∷
    verb ∷ objects ∷ other_objects ∷ object ∷ collection ∷ items ∷ literal ∷ suffix ∷ tag ∷ shorthand ∷ iri ∷ iri_name ∷ []

abbrev pub page : Page Class Rule Act
page = record {
  class_number = class_number;
  rule_number = rule_number;
  act_number = act_number;
  alternatives = alternatives;
  rules = rules;
}

-- the same as a list of rules, from which documents derive
unfoldable pub turtle_page : List Entry
turtle_page = grammar_of page
