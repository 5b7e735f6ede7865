-- Worked cases: what the events of some documents state, written out by hand.
use lib.Utf8.{encode}
use Rattle.std.specs.Prelude.{◌≡◌, ℕ, List, [], ◌∷◌, ◌++◌, codes, Option, None, Some, Result, Ok, Err, refl}
use Rattle.std.specs.Fmt.{digits}
use Rattle.blank_labels.specs.FreshLabels.{far_numbers, numbered_label}
use Rattle.grammar.specs.Derivations.{Event}
use Rattle.grammar.specs.Derivations.Event.{Do, Take}
use Rattle.iri_references.specs.DotSegments.{without_dot_segments}
use Rattle.iri_references.specs.References.{parts_of}
use Rattle.iri_references.specs.Resolution.{recomposed, resolved, resolved_without_scheme, target}
use Rattle.owl_reader.specs.declared.fault.Reason.TheVariants.{BadLiteral, RelativeWithoutBase, UnknownPrefix}
use Rattle.owl_reader.specs.declared.fault.TokenFault.{TokenFault}
use Rattle.owl_reader.specs.declared.fault.TokenFault.TheVariants.{Defect}
use Rattle.rdf_graph.specs.declared.term.Term.{Term}
use Rattle.rdf_graph.specs.declared.term.Term.TheVariants as term
use Rattle.rdf_graph.specs.declared.triple.Triple.{Triple}
use Rattle.rdf_terms.specs.Literals.{of_datatype, with_tag}
use Rattle.rdf_terms.specs.Vocabulary.{rdf, xsd}
use Rattle.ttl_tokens.specs.declared.token.Token.{Token}
use Rattle.ttl_tokens.specs.declared.token.Token.TheVariants.{At, Integer, Iri, Label, Name, Str, Symbol}
use Rattle.ttl_tokens.specs.declared.token.Symbol.TheVariants as symbol
use Rattle.ttl_grammar.specs.Acts.{act_number}
use Rattle.ttl_grammar.specs.Labels.{graph_of, named_triples}
use Rattle.ttl_grammar.specs.Runs.{and_then, run}
use Rattle.ttl_grammar.specs.States.{namespace_in, start}
use Rattle.ttl_grammar.specs.declared.act.Act.{Act}
use Rattle.ttl_grammar.specs.declared.act.Act.TheVariants as act

-- ---- documents as events

abbrev Events : Type 0
Events = List (Event Token)

abbrev does : Act → Event Token
does a = Do (act_number a)

-- `:local`, as a term
abbrev name : List ℕ → Events
name local = does act.Iri ∷ Take (Name [] local) ∷ []

-- `<reference>`, as a term
abbrev iri : List ℕ → Events
iri reference = does act.Iri ∷ Take (Iri (Some reference)) ∷ []

abbrev end : Events
end = does act.EndStatement ∷ Take (Symbol symbol.Dot) ∷ []

-- `@prefix p: <reference> .`
abbrev at_prefix : List ℕ → List ℕ → Events
at_prefix p reference =
    Take (At (codes "prefix")) ∷ does act.NamePrefix ∷ Take (Name p []) ∷ does act.DeclarePrefix ∷ Take (Iri (Some reference)) ∷ end

-- `@base <reference> .`
abbrev at_base : List ℕ → Events
at_base reference = Take (At (codes "base")) ∷ does act.DeclareBase ∷ Take (Iri (Some reference)) ∷ end

-- a subject, a verb and one object
abbrev says : Events → Events → Events → Events
says s v o = s ++ does act.Subject ∷ (v ++ does act.Predicate ∷ (o ++ does act.Object ∷ end))

-- the graph against a base, or the first fault
abbrev graph_against : Option (List ℕ) → Events → Result (List Triple) TokenFault
graph_against base events = and_then (run events (start base)) (λ state. Ok (graph_of state.facts.triples))

abbrev graph : Events → Result (List Triple) TokenFault
graph events = graph_against None events

-- the triples in the order in which they are stated
abbrev states : Events → Result (List Triple) TokenFault
states events = and_then (run events (start None)) (λ state. Ok (named_triples state.facts.triples))

-- the IRI that is declared for a prefix, against a base
abbrev declares : Option (List ℕ) → List ℕ → Events → Result (Option (List ℕ)) TokenFault
declares base p events = and_then (run events (start base)) (λ state. Ok (namespace_in state.names.namespaces p))

abbrev triple : Term → List ℕ → Term → Triple
triple s p o = record { subject = s; predicate = p; object = o }

-- ---- @prefix : <http://e/> . :a :b [ :c ( 1 ) ] , _:gen3 .

-- ( 1 )
abbrev one_in_a_list : Events
one_in_a_list =
    does act.OpenCollection ∷ Take (Symbol symbol.OpenParenthesis)
    ∷ does act.Item ∷ does act.Shorthand ∷ Take (Integer (codes "1")) ∷ does act.Element
    ∷ does act.CloseCollection ∷ Take (Symbol symbol.CloseParenthesis) ∷ []

-- [ :c ( 1 ) ]
abbrev bracketed : Events
bracketed =
    does act.OpenBracket ∷ Take (Symbol symbol.OpenBracket)
    ∷ (name (codes "c") ++ does act.Predicate ∷ (one_in_a_list ++ does act.Object ∷ does act.CloseBracket ∷ Take (Symbol symbol.CloseBracket) ∷ []))

abbrev nested : Events
nested =
    at_prefix [] (codes "http://e/")
    ++ (name (codes "a") ++ does act.Subject ∷ (name (codes "b") ++ does act.Predicate
    ∷ (bracketed ++ does act.Object ∷ Take (Symbol symbol.Comma) ∷ does act.Label ∷ Take (Label (codes "gen3")) ∷ does act.Object ∷ end)))

abbrev a : Term
a = term.Iri (codes "http://e/a")

abbrev blank : List ℕ → Term
blank label = term.Blank label

abbrev one : Term
one = term.Literal (of_datatype (codes "1") (xsd (codes "integer")))

-- The nodes without labels are numbered behind gen3. A list is stated before the triple that it stands in.
nested_states : states nested ≡ Ok (
    triple (blank (codes "gen5")) (rdf (codes "first")) one
    ∷ triple (blank (codes "gen5")) (rdf (codes "rest")) (term.Iri (rdf (codes "nil")))
    ∷ triple (blank (codes "gen4")) (codes "http://e/c") (blank (codes "gen5"))
    ∷ triple a (codes "http://e/b") (blank (codes "gen4"))
    ∷ triple a (codes "http://e/b") (blank (codes "gen3"))
    ∷ []
    )
unfolding digits far_numbers numbered_label
nested_states = refl

-- and in the order of the graph
nested_graph : graph nested ≡ Ok (
    triple a (codes "http://e/b") (blank (codes "gen3"))
    ∷ triple a (codes "http://e/b") (blank (codes "gen4"))
    ∷ triple (blank (codes "gen4")) (codes "http://e/c") (blank (codes "gen5"))
    ∷ triple (blank (codes "gen5")) (rdf (codes "first")) one
    ∷ triple (blank (codes "gen5")) (rdf (codes "rest")) (term.Iri (rdf (codes "nil")))
    ∷ []
    )
unfolding digits far_numbers numbered_label encode graph_of
nested_graph = refl

-- ---- labels of which the numbers have 19 digits

-- `_:label a <http://e/C> .`
abbrev labelled : List ℕ → Events
labelled label = says (does act.Label ∷ Take (Label label) ∷ []) (does act.RdfType ∷ Take (Symbol symbol.A) ∷ []) (iri (codes "http://e/C"))

-- `[] a <http://e/C> .`
abbrev unlabelled : Events
unlabelled =
    says (does act.OpenBracket ∷ Take (Symbol symbol.OpenBracket) ∷ does act.CloseBracket ∷ Take (Symbol symbol.CloseBracket) ∷ [])
    (does act.RdfType ∷ Take (Symbol symbol.A) ∷ []) (iri (codes "http://e/C"))

abbrev is_typed : List ℕ → Triple
is_typed label = triple (blank label) (rdf (codes "type")) (term.Iri (codes "http://e/C"))

-- the greatest number that is counted
abbrev most : Events
most = labelled (codes "gen999999999999999999")

-- The number behind it is passed over, since its label stands there.
behind_is_taken : states (most ++ labelled (codes "gen1000000000000000000") ++ unlabelled) ≡ Ok (
    is_typed (codes "gen999999999999999999")
    ∷ is_typed (codes "gen1000000000000000000")
    ∷ is_typed (codes "gen1000000000000000001")
    ∷ []
    )
unfolding digits far_numbers numbered_label
behind_is_taken = refl

-- So are two of them,
two_are_taken : states (most ++ labelled (codes "gen1000000000000000001") ++ labelled (codes "gen1000000000000000000") ++ unlabelled ++ unlabelled) ≡ Ok (
    is_typed (codes "gen999999999999999999")
    ∷ is_typed (codes "gen1000000000000000001")
    ∷ is_typed (codes "gen1000000000000000000")
    ∷ is_typed (codes "gen1000000000000000002")
    ∷ is_typed (codes "gen1000000000000000003")
    ∷ []
    )
unfolding digits far_numbers numbered_label
two_are_taken = refl

-- and one of a label that stands behind the node.
taken_behind : states (most ++ unlabelled ++ labelled (codes "gen1000000000000000000")) ≡ Ok (
    is_typed (codes "gen999999999999999999")
    ∷ is_typed (codes "gen1000000000000000001")
    ∷ is_typed (codes "gen1000000000000000000")
    ∷ []
    )
unfolding digits far_numbers numbered_label
taken_behind = refl

-- ---- references

-- <a> <b> <c> .
relative_without_base : graph (says (iri (codes "a")) (iri (codes "b")) (iri (codes "c"))) ≡ Err (Defect RelativeWithoutBase)
relative_without_base = refl

-- @base <http://e/x> . <a> a <#b> .
against_base : graph (at_base (codes "http://e/x") ++ says (iri (codes "a")) (does act.RdfType ∷ Take (Symbol symbol.A) ∷ []) (iri (codes "#b"))) ≡ Ok (triple a (rdf (codes "type")) (term.Iri (codes "http://e/x#b")) ∷ [])
unfolding parts_of recomposed resolved resolved_without_scheme target without_dot_segments graph_of
against_base = refl

-- @base <http://e/x/> . @base <y/> . <z> a </a> .
base_against_base : graph (at_base (codes "http://e/x/") ++ at_base (codes "y/") ++ says (iri (codes "z")) (does act.RdfType ∷ Take (Symbol symbol.A) ∷ []) (iri (codes "/a"))) ≡ Ok (triple (term.Iri (codes "http://e/x/y/z")) (rdf (codes "type")) a ∷ [])
unfolding parts_of recomposed resolved resolved_without_scheme target without_dot_segments graph_of
base_against_base = refl

-- ---- references against a base that is given

-- <z> a </a> .
abbrev relative : Events
relative = says (iri (codes "z")) (does act.RdfType ∷ Take (Symbol symbol.A) ∷ []) (iri (codes "/a"))

against_given : graph_against (Some (codes "http://e/x/y")) relative ≡ Ok (triple (term.Iri (codes "http://e/x/z")) (rdf (codes "type")) a ∷ [])
unfolding parts_of recomposed resolved resolved_without_scheme target without_dot_segments graph_of
against_given = refl

-- @base <y/> . goes against it,
declared_against_given : graph_against (Some (codes "http://e/x/")) (at_base (codes "y/") ++ relative) ≡ Ok (triple (term.Iri (codes "http://e/x/y/z")) (rdf (codes "type")) a ∷ [])
unfolding parts_of recomposed resolved resolved_without_scheme target without_dot_segments graph_of
declared_against_given = refl

-- and @base <http://e/x/> . takes its place.
declared_for_given : graph_against (Some (codes "http://f/")) (at_base (codes "http://e/x/") ++ relative) ≡ Ok (triple (term.Iri (codes "http://e/x/z")) (rdf (codes "type")) a ∷ [])
unfolding parts_of recomposed resolved resolved_without_scheme target without_dot_segments graph_of
declared_for_given = refl

-- @prefix p: <y/> .
prefix_against_given : declares (Some (codes "http://e/x/")) (codes "p") (at_prefix (codes "p") (codes "y/")) ≡ Ok (Some (codes "http://e/x/y/"))
unfolding parts_of recomposed resolved resolved_without_scheme target without_dot_segments
prefix_against_given = refl

-- ---- prefixes

-- @prefix p: <http://e/> . @prefix p: <http://f/> .
abbrev twice : Events
twice = at_prefix (codes "p") (codes "http://e/") ++ at_prefix (codes "p") (codes "http://f/")

last_one_declared : declares None (codes "p") twice ≡ Ok (Some (codes "http://f/"))
last_one_declared = refl

unknown_prefix : declares None (codes "p") (twice ++ name (codes "a")) ≡ Err (Defect UnknownPrefix)
unknown_prefix = refl

-- ---- literals

-- <http://e/a> a "1"SUFFIX .
abbrev with_suffix : Events → Events
with_suffix suffix = says (iri (codes "http://e/a")) (iri (codes "http://e/b")) (does act.Text ∷ Take (Str (codes "1")) ∷ suffix)

-- ^^<datatype>
abbrev typed : List ℕ → Events
typed datatype = Take (Symbol symbol.Carets) ∷ does act.Typed ∷ Take (Iri (Some datatype)) ∷ []

plain_literal : graph (with_suffix (does act.Plain ∷ [])) ≡ Ok (triple a (codes "http://e/b") (term.Literal (of_datatype (codes "1") (xsd (codes "string")))) ∷ [])
unfolding graph_of
plain_literal = refl

tagged_literal : graph (with_suffix (does act.Tagged ∷ Take (At (codes "en")) ∷ [])) ≡ Ok (triple a (codes "http://e/b") (term.Literal (with_tag (codes "1") (codes "en"))) ∷ [])
unfolding graph_of
tagged_literal = refl

typed_literal : graph (with_suffix (typed (xsd (codes "integer")))) ≡ Ok (triple a (codes "http://e/b") one ∷ [])
unfolding graph_of
typed_literal = refl

no_form_of_tagged_strings : graph (with_suffix (typed (rdf (codes "langString")))) ≡ Err (Defect BadLiteral)
no_form_of_tagged_strings = refl
