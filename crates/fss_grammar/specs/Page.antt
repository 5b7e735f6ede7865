-- The grammar of Functional-Style Syntax (Structural Specification, sections 3.7 and 5 to 10; the whole in section 13). What
-- stands in a construct is told by the row of its tag.
use Rattle.std.specs.Prelude.{ℕ, zero, suc, Bool, true, false, List, [], ◌∷◌, map, filter, if◌then◌else◌}
use Rattle.grammar.specs.Grammars.{Entry}
use Rattle.grammar.specs.Pages.{Named, Page, grammar_of}
use Rattle.grammar.specs.Pages.Named.{action, part, token}
use Rattle.owl_tree.specs.declared.tag.Tag.{Tag}
use Rattle.owl_tree.specs.declared.tag.Tag.TheVariants as tag
use Rattle.owl_tree.specs.declared.row.AtomSort.{AtomSort}
use Rattle.owl_tree.specs.declared.row.AtomSort.TheVariants as atom
use Rattle.owl_tree.specs.declared.row.Sort.{Sort}
use Rattle.owl_tree.specs.declared.row.Sort.TheVariants as sort
use Rattle.owl_tree.specs.declared.row.Rest.{Rest}
use Rattle.owl_tree.specs.declared.row.Rest.TheVariants.{Nothing, Optional, AtLeast, SomeThen, Set}
use Rattle.owl_tree.specs.Rows.{Row, Leaf, Node, admits, is_bare, is_group, is_tag, row_of}
use Rattle.owl_tree.specs.Tags.{all_tags, is_axiom}
use Rattle.fss_grammar.specs.Acts.{act_number}
use Rattle.fss_grammar.specs.Classes.{Class, class_number}
use Rattle.fss_grammar.specs.Classes.Class.{alone, carets, closing, digits, equals, iri, keyword, label, language, name, opening, text}
use Rattle.fss_grammar.specs.declared.acts.Act.{Act}
use Rattle.fss_grammar.specs.declared.acts.Act.TheVariants.{AddAnnotation, AddAxiom, Begin, DeclareIri, DeclareName, EndItem, HeldDatatype, HeldProperty, Hold, ImportIri, OntologyIri, Plain, Shut, Tagged, Typed, VersionIri}

-- The parts of a document; and one tree of a sort, many, or perhaps one.
pub data Rule : Type 0 where
  document prefixes header version imports annotations axioms axiom_item iri_part suffix after behind : Rule
  one many maybe : Sort → Rule

abbrev pub Names : Type 0
Names = List (Named Class Rule Act)

-- ---- a tree, by the row of its tag

-- an atom of a leaf
abbrev pub atom_symbols : AtomSort → Names → Names
atom_symbols atom.Iri more = part iri_part ∷ more
atom_symbols atom.Label more = token label ∷ more
atom_symbols atom.Literal more = token text ∷ part suffix ∷ more
atom_symbols atom.Number more = token digits ∷ more

-- A leaf is its atom; in a Declaration it stands in the brackets of its keyword.
abbrev pub leaf_symbols : Bool → Tag → AtomSort → Names → Names
leaf_symbols false t held more = action (Begin t) ∷ atom_symbols held more
leaf_symbols true t held more =
    token (keyword t) ∷ token opening ∷ action (Begin t) ∷ atom_symbols held (token closing ∷ more)

-- so many trees of a sort
abbrev pub times : ℕ → Sort → Names → Names
times zero s more = more
times (suc n) s more = part (one s) ∷ times n s more

-- Two object property expressions are inverse to each other. Any other construct with a set may have more members than its row
-- asks for.
abbrev pub more_members : Tag → Sort → Names → Names
more_members t s more = if is_tag tag.InverseObjectProperties t then more else part (many s) ∷ more

abbrev pub rest_symbols : Tag → Rest → Names → Names
rest_symbols t Nothing more = more
rest_symbols t (Optional s) more = part (maybe s) ∷ more
rest_symbols t (AtLeast s least) more = times least s (part (many s) ∷ more)
rest_symbols t (SomeThen s last) more = part (one s) ∷ part after ∷ more
rest_symbols t (Set s least) more = times least s (more_members t s more)

abbrev pub front_symbols : Tag → List Sort → Rest → Names → Names
front_symbols t [] rest more = rest_symbols t rest more
front_symbols t (s ∷ front) rest more = part (one s) ∷ front_symbols t front rest more

-- Annotations of an axiom, and a facet with its value, stand without brackets; the groups of a HasKey without a keyword.
abbrev pub opening_symbols : Tag → Names → Names
opening_symbols t more =
    if is_bare t then more else (if is_group t then token opening ∷ more else token (keyword t) ∷ token opening ∷ more)

abbrev pub closing_symbols : Tag → Names → Names
closing_symbols t more = if is_bare t then more else token closing ∷ more

-- a construct, and what its end is followed by
abbrev pub node_symbols : Tag → List Sort → Rest → Names → Names
node_symbols t front rest more =
    action (Begin t) ∷ opening_symbols t (front_symbols t front rest (action Shut ∷ more))

abbrev pub tree_symbols : Bool → Tag → Row → Names
tree_symbols declared t (Leaf held) = leaf_symbols declared t held []
tree_symbols declared t (Node front rest) = node_symbols t front rest (closing_symbols t [])

-- an item of the document: an annotation or an axiom, which is added behind its end
abbrev pub item_symbols : Act → Tag → Row → Names → Names
item_symbols add t (Leaf held) more = []
item_symbols add t (Node front rest) more =
    node_symbols t front rest (action add ∷ action EndItem ∷ closing_symbols t more)

abbrev pub is_entity : Sort → Bool
is_entity sort.Entity = true
is_entity _ = false

abbrev pub is_leaf : Row → Bool
is_leaf (Leaf held) = true
is_leaf (Node front rest) = false

abbrev pub sort_alternatives : Sort → List Names
sort_alternatives s = map (λ t. tree_symbols (is_entity s) t (row_of t)) (filter (admits s) all_tags)

-- a data range that is more than the name of a datatype
abbrev pub is_range_construct : Tag → Bool
is_range_construct t = if is_leaf (row_of t) then false else admits sort.DataRange t

-- ---- the rules

-- Behind the first of some data properties come further ones, and then a data range. Which of the two a name is, the token
-- behind it tells.
abbrev pub alternatives : Rule → List Names
alternatives document =
    (part prefixes ∷ token Class.ontology ∷ action EndItem ∷ token opening ∷ part header ∷ part imports ∷ part annotations ∷ part axioms ∷ action EndItem ∷ token closing ∷ [])
    ∷ []
alternatives prefixes =
    []
    ∷ (token Class.prefix ∷ token opening ∷ action DeclareName ∷ token alone ∷ token equals ∷ action DeclareIri ∷ token iri ∷ action EndItem ∷ token closing ∷ part prefixes ∷ [])
    ∷ []
alternatives header = [] ∷ (action OntologyIri ∷ action EndItem ∷ part iri_part ∷ part version ∷ []) ∷ []
alternatives version = [] ∷ (action VersionIri ∷ action EndItem ∷ part iri_part ∷ []) ∷ []
alternatives imports =
    []
    ∷ (token Class.imports ∷ token opening ∷ action ImportIri ∷ part iri_part ∷ action EndItem ∷ token closing ∷ part imports ∷ [])
    ∷ []
alternatives annotations = [] ∷ item_symbols AddAnnotation tag.Annotation (row_of tag.Annotation) (part annotations ∷ []) ∷ []
alternatives axioms = [] ∷ (part axiom_item ∷ part axioms ∷ []) ∷ []
alternatives axiom_item = map (λ t. item_symbols AddAxiom t (row_of t) []) (filter is_axiom all_tags)
alternatives iri_part = (token iri ∷ []) ∷ (token name ∷ []) ∷ (token alone ∷ []) ∷ []
alternatives suffix =
    (action Plain ∷ [])
    ∷ (action Tagged ∷ token language ∷ [])
    ∷ (token carets ∷ action Typed ∷ part iri_part ∷ [])
    ∷ []
alternatives after =
    (action Hold ∷ part iri_part ∷ part behind ∷ [])
    ∷ map (λ t. tree_symbols false t (row_of t)) (filter is_range_construct all_tags)
alternatives behind = (action HeldDatatype ∷ []) ∷ (action HeldProperty ∷ part after ∷ []) ∷ []
alternatives (one s) = sort_alternatives s
alternatives (many s) = [] ∷ (part (one s) ∷ part (many s) ∷ []) ∷ []
alternatives (maybe s) = [] ∷ (part (one s) ∷ []) ∷ []

-- ---- their numbers

abbrev pub one_number : Sort → ℕ
one_number sort.Notes = 12
one_number sort.Annotation = 13
one_number sort.AnnotationProperty = 14
one_number sort.AnnotationSubject = 15
one_number sort.AnnotationValue = 16
one_number sort.Iri = 17
one_number sort.ClassExpression = 18
one_number sort.Class = 19
one_number sort.DataRange = 20
one_number sort.Datatype = 21
one_number sort.ObjectPropertyExpression = 22
one_number sort.ObjectProperty = 23
one_number sort.SubObjectPropertyExpression = 24
one_number sort.DataPropertyExpression = 25
one_number sort.Individual = 26
one_number sort.Literal = 27
one_number sort.Number = 28
one_number sort.Facet = 29
one_number sort.FacetPair = 30
one_number sort.ObjectKeys = 31
one_number sort.DataKeys = 32
one_number sort.Entity = 33

-- The number of a rule that no other needs: the table ends before it.
abbrev pub no_rule : ℕ
no_rule = 44

abbrev pub many_number : Sort → ℕ
many_number sort.Annotation = 34
many_number sort.ClassExpression = 35
many_number sort.DataRange = 36
many_number sort.ObjectPropertyExpression = 37
many_number sort.DataPropertyExpression = 38
many_number sort.Individual = 39
many_number sort.Literal = 40
many_number sort.FacetPair = 41
many_number _ = no_rule

abbrev pub maybe_number : Sort → ℕ
maybe_number sort.ClassExpression = 42
maybe_number sort.DataRange = 43
maybe_number _ = no_rule

abbrev pub rule_number : Rule → ℕ
rule_number document = 0
rule_number prefixes = 1
rule_number header = 2
rule_number version = 3
rule_number imports = 4
rule_number annotations = 5
rule_number axioms = 6
rule_number axiom_item = 7
rule_number iri_part = 8
rule_number suffix = 9
rule_number after = 10
rule_number behind = 11
rule_number (one s) = one_number s
rule_number (many s) = many_number s
rule_number (maybe s) = maybe_number s

-- the rules in the order of their numbers
abbrev pub rules : List Rule
rules =
    document ∷ prefixes ∷ header ∷ version ∷ imports ∷ annotations ∷ axioms ∷ axiom_item ∷ iri_part ∷ suffix ∷ after ∷ behind ∷
    one sort.Notes ∷ one sort.Annotation ∷ one sort.AnnotationProperty ∷ one sort.AnnotationSubject ∷
    one sort.AnnotationValue ∷ one sort.Iri ∷ one sort.ClassExpression ∷ one sort.Class ∷ one sort.DataRange ∷
    one sort.Datatype ∷ one sort.ObjectPropertyExpression ∷ one sort.ObjectProperty ∷ one sort.SubObjectPropertyExpression ∷
    one sort.DataPropertyExpression ∷ one sort.Individual ∷ one sort.Literal ∷ one sort.Number ∷ one sort.Facet ∷
    one sort.FacetPair ∷ one sort.ObjectKeys ∷ one sort.DataKeys ∷ one sort.Entity ∷
    many sort.Annotation ∷ many sort.ClassExpression ∷ many sort.DataRange ∷ many sort.ObjectPropertyExpression ∷
    many sort.DataPropertyExpression ∷ many sort.Individual ∷ many sort.Literal ∷ many sort.FacetPair ∷
    maybe sort.ClassExpression ∷ maybe sort.DataRange ∷ []

abbrev pub page : Page Class Rule Act
page = record {
  class_number = class_number;
  rule_number = rule_number;
  act_number = act_number;
  alternatives = alternatives;
  rules = rules;
}

-- the same as a list of rules, from which documents derive
unfoldable pub functional_page : List Entry
functional_page = grammar_of page
