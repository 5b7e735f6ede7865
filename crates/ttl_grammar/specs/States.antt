-- The state of a parser of Turtle (RDF 1.1 Turtle, section 7.1), and what acts make of it (sections 7.2 and 7.3).
use Rattle.std.specs.Prelude.{ℕ, ◌+◌, ◌-◌, nat_le, List, [], ◌∷◌, ◌++◌, length, take, codes, Option, None, Some, Result, Ok, Err, if◌then◌else◌}
use Rattle.std.specs.List.{list_all}
use Rattle.std.specs.Option.{option_or}
use Rattle.owl_characters.specs.Iri.{is_iri_character}
use Rattle.owl_characters.specs.Order.{text_eq}
use Rattle.iri_references.specs.Resolution.{absolute, resolved}
use Rattle.owl_reader.specs.declared.fault.Reason.TheVariants as reason
use Rattle.owl_reader.specs.declared.fault.TokenFault.{TokenFault}
use Rattle.owl_reader.specs.declared.fault.TokenFault.TheVariants.{Defect, TooDeep}
use Rattle.rdf_terms.specs.Literals.{LiteralParts, of_datatype, string, with_tag}
use Rattle.rdf_terms.specs.Vocabulary.{rdf, xsd}
use Rattle.ttl_tokens.specs.declared.token.Token.{Token}
use Rattle.ttl_tokens.specs.declared.token.Token.TheVariants as token
use Rattle.ttl_tokens.specs.declared.token.Symbol.TheVariants as symbol
use Rattle.lexical_values.specs.TypedLiterals.{typed_literal}
use Rattle.ttl_grammar.specs.declared.act.Act.{Act}
use Rattle.ttl_grammar.specs.declared.act.Act.TheVariants as act
use Rattle.ttl_grammar.specs.declared.node.Nest.{Nest}
use Rattle.ttl_grammar.specs.declared.node.Node.{Node}
use Rattle.ttl_grammar.specs.declared.node.Node.TheVariants as node
use Rattle.ttl_grammar.specs.declared.node.NodeTriple.{NodeTriple}
use Rattle.ttl_grammar.specs.declared.node.Object.{Object}
use Rattle.ttl_grammar.specs.declared.node.Object.TheVariants as object

-- ---- baseURI and namespaces

-- a prefix and its IRI
pub record Namespace : Type 0 where
  pub prefix : List ℕ
  pub iri : List ℕ

-- The base IRI, if there is one; the namespaces, the last one first; and the prefix that is being declared.
pub record Names : Type 0 where
  pub base : Option (List ℕ)
  pub namespaces : List Namespace
  pub declaring : List ℕ

-- the IRI that was declared last for a prefix
abbrev pub namespace_in : List Namespace → List ℕ → Option (List ℕ)
namespace_in [] prefix = None
namespace_in (n ∷ ns) prefix = if text_eq n.prefix prefix then Some n.iri else namespace_in ns prefix

-- ---- IRIs

abbrev pub alone : Option (List ℕ) → Result (List ℕ) TokenFault
alone None = Err (Defect reason.RelativeWithoutBase)
alone (Some iri) = Ok iri

-- a reference against the base, if there is one
abbrev pub against : Option (List ℕ) → List ℕ → Result (List ℕ) TokenFault
against None reference = alone (absolute reference)
against (Some base) reference = Ok (resolved base reference)

-- the IRI of a reference, which has no character that no IRI has
abbrev pub known_iri : Option (List ℕ) → List ℕ → Result (List ℕ) TokenFault
known_iri base reference =
    if list_all is_iri_character reference then against base reference else Err (Defect reason.BadIri)

-- and of which no escape is of no character
abbrev pub reference_iri : Names → Option (List ℕ) → Result (List ℕ) TokenFault
reference_iri names None = Err (Defect reason.BadIri)
reference_iri names (Some reference) = known_iri names.base reference

abbrev pub prefixed_iri : Option (List ℕ) → List ℕ → Result (List ℕ) TokenFault
prefixed_iri None local = Err (Defect reason.UnknownPrefix)
prefixed_iri (Some namespace) local = Ok (namespace ++ local)

-- the IRI of a token
abbrev pub iri_of : Names → Option Token → Result (List ℕ) TokenFault
iri_of names (Some (token.Iri reference)) = reference_iri names reference
iri_of names (Some (token.Name prefix local)) = prefixed_iri (namespace_in names.namespaces prefix) local
iri_of names _ = Err (Defect reason.NotHere)

-- ---- directives

-- the prefix of a name
abbrev pub prefix_in : Option Token → Option (List ℕ)
prefix_in (Some (token.Name prefix local)) = Some prefix
prefix_in _ = None

-- the prefix that is declared
abbrev pub with_prefix : Names → Option (List ℕ) → Result Names TokenFault
with_prefix names None = Err (Defect reason.NotHere)
with_prefix names (Some prefix) = Ok (record names { declaring = prefix })

abbrev pub with_namespace : Names → Result (List ℕ) TokenFault → Result Names TokenFault
with_namespace names (Ok iri) = Ok (record names { namespaces = record { prefix = names.declaring; iri = iri } ∷ names.namespaces })
with_namespace names (Err fault) = Err fault

abbrev pub with_base : Names → Result (List ℕ) TokenFault → Result Names TokenFault
with_base names (Ok iri) = Ok (record names { base = Some iri })
with_base names (Err fault) = Err fault

-- ---- terms

abbrev pub iri_term : Result (List ℕ) TokenFault → Result Object TokenFault
iri_term (Ok iri) = Ok (object.Node (node.Iri iri))
iri_term (Err fault) = Err fault

abbrev pub label_term : Option Token → Result Object TokenFault
label_term (Some (token.Label label)) = Ok (object.Node (node.Label label))
label_term _ = Err (Defect reason.NotHere)

-- a form with a language tag
abbrev pub tagged_term : List ℕ → Option Token → Result Object TokenFault
tagged_term form (Some (token.At tag)) = Ok (object.Literal (with_tag form tag))
tagged_term form _ = Err (Defect reason.NotHere)

-- a form with a datatype, which may have no such form
abbrev pub literal_term : Option LiteralParts → Result Object TokenFault
literal_term None = Err (Defect reason.BadLiteral)
literal_term (Some literal) = Ok (object.Literal literal)

abbrev pub typed_term : List ℕ → Result (List ℕ) TokenFault → Result Object TokenFault
typed_term form (Ok datatype) = literal_term (typed_literal form datatype)
typed_term form (Err fault) = Err fault

abbrev pub of_xsd : List ℕ → List ℕ → Result Object TokenFault
of_xsd form name = Ok (object.Literal (of_datatype form (xsd name)))

-- what a number or a word is short for (sections 2.5.2 and 2.5.3)
abbrev pub shorthand_term : Option Token → Result Object TokenFault
shorthand_term (Some (token.Integer form)) = of_xsd form (codes "integer")
shorthand_term (Some (token.Decimal form)) = of_xsd form (codes "decimal")
shorthand_term (Some (token.Double form)) = of_xsd form (codes "double")
shorthand_term (Some (token.Symbol symbol.True)) = of_xsd (codes "true") (codes "boolean")
shorthand_term (Some (token.Symbol symbol.False)) = of_xsd (codes "false") (codes "boolean")
shorthand_term _ = Err (Defect reason.NotHere)

-- ---- subjects, predicates and triples

-- What was read of triples: the term that was read last, what is open and what stands around it, how many blank nodes without
-- labels appeared, and the triples that were stated.
pub record Facts : Type 0 where
  pub term : Option Object
  pub nest : Nest
  pub outer : List Nest
  pub unlabelled : ℕ
  pub triples : List NodeTriple

abbrev pub no_nest : Nest
no_nest = record { whole = None; subject = None; predicate = None }

abbrev pub no_facts : Facts
no_facts = record { term = None; nest = no_nest; outer = []; unlabelled = 0; triples = [] }

abbrev pub first_iri : List ℕ
first_iri = rdf (codes "first")

abbrev pub rest_iri : List ℕ
rest_iri = rdf (codes "rest")

abbrev pub nil_iri : List ℕ
nil_iri = rdf (codes "nil")

-- the triple of these three, where they are there
abbrev pub stated : Option Node → Option (List ℕ) → Option Object → List NodeTriple
stated (Some s) (Some p) (Some o) = record { subject = s; predicate = p; object = o } ∷ []
stated _ _ _ = []

abbrev pub with_triple : Option Node → Option (List ℕ) → Option Object → Facts → Facts
with_triple s p o facts = record facts { triples = facts.triples ++ stated s p o }

-- the node that a term is, and the IRI
abbrev pub node_in : Option Object → Option Node
node_in (Some (object.Node n)) = Some n
node_in _ = None

abbrev pub iri_in : Option Object → Option (List ℕ)
iri_in (Some (object.Node (node.Iri iri))) = Some iri
iri_in _ = None

abbrev pub node_term : Option Node → Option Object
node_term None = None
node_term (Some n) = Some (object.Node n)

-- The term becomes the subject, the predicate, or an object of the current subject and predicate.
abbrev pub with_subject : Facts → Facts
with_subject facts = record facts { term = None; nest = record facts.nest { subject = node_in facts.term } }

abbrev pub with_predicate : Facts → Facts
with_predicate facts = record facts { term = None; nest = record facts.nest { predicate = iri_in facts.term } }

abbrev pub with_object : Facts → Facts
with_object facts = record (with_triple facts.nest.subject facts.nest.predicate facts.term facts) { term = None }

-- ---- brackets and lists

-- the brackets and lists that may be open at once
abbrev pub most_nests : ℕ
most_nests = 512

-- one more is open, unless there are as many as may be
abbrev pub opened : Nest → ℕ → Facts → Result Facts TokenFault
opened nest unlabelled facts =
    if nat_le most_nests (length facts.outer) then Err TooDeep
    else Ok (record facts { nest = nest; outer = facts.outer ++ facts.nest ∷ []; unlabelled = unlabelled })

-- a blank node appears
abbrev pub bracket_opened : Facts → Result Facts TokenFault
bracket_opened facts =
    let new = Some (node.Unlabelled facts.unlabelled) in
    opened (record { whole = new; subject = new; predicate = None }) (facts.unlabelled + 1) facts

abbrev pub collection_opened : Facts → Result Facts TokenFault
collection_opened facts = opened no_nest facts.unlabelled facts

-- the innermost of what stands around
abbrev pub last_nest : List Nest → Nest
last_nest [] = no_nest
last_nest (nest ∷ []) = nest
last_nest (nest ∷ next ∷ others) = last_nest (next ∷ others)

-- what is open is closed, and this node stands for it
abbrev pub closed : Option Node → Facts → Facts
closed whole facts = record facts { term = node_term whole; nest = last_nest facts.outer; outer = take (length facts.outer - 1) facts.outer }

-- a cell appears, behind the last one
abbrev pub cell_added : Facts → Facts
cell_added facts =
    let new = Some (node.Unlabelled facts.unlabelled) in
    record (with_triple facts.nest.subject (Some rest_iri) (node_term new) facts) {
      nest = record { whole = option_or facts.nest.whole new; subject = new; predicate = None };
      unlabelled = facts.unlabelled + 1;
    }

-- the term is the element of the cell
abbrev pub element_added : Facts → Facts
element_added facts = record (with_triple facts.nest.subject (Some first_iri) facts.term facts) { term = None }

-- behind the last cell, or in place of a first one, stands rdf:nil
abbrev pub collection_closed : Facts → Facts
collection_closed facts =
    let nil = Some (node.Iri nil_iri) in
    closed (option_or facts.nest.whole nil) (with_triple facts.nest.subject (Some rest_iri) (node_term nil) facts)

-- ---- the whole

-- The names; the facts; and the form of a literal, of which the datatype or the tag is not read yet.
pub record State : Type 0 where
  pub names : Names
  pub form : List ℕ
  pub facts : Facts

-- Before a document with this base IRI, if it has one: an IRI with a scheme, which holds until the document declares a base of
-- its own (section 6.3; RFC 3986, section 5.1).
abbrev pub start : Option (List ℕ) → State
start base = record {
  names = record { base = base; namespaces = []; declaring = [] };
  form = [];
  facts = no_facts;
}

abbrev pub naming : State → Result Names TokenFault → Result State TokenFault
naming state (Ok names) = Ok (record state { names = names })
naming state (Err fault) = Err fault

abbrev pub reading : State → Result Object TokenFault → Result State TokenFault
reading state (Ok term) = Ok (record state { facts = record state.facts { term = Some term } })
reading state (Err fault) = Err fault

abbrev pub stating : State → Result Facts TokenFault → Result State TokenFault
stating state (Ok facts) = Ok (record state { facts = facts })
stating state (Err fault) = Err fault

-- the form of a string
abbrev pub form_in : Option Token → Option (List ℕ)
form_in (Some (token.Str form)) = Some form
form_in _ = None

abbrev pub forming : State → Option (List ℕ) → Result State TokenFault
forming state None = Err (Defect reason.NotHere)
forming state (Some form) = Ok (record state { form = form })

-- An act in front of this token or of the end. It fails at a token that it can't stand in front of.
abbrev pub acted : Act → Option Token → State → Result State TokenFault
acted act.Iri next state = reading state (iri_term (iri_of state.names next))
acted act.Label next state = reading state (label_term next)
acted act.RdfType next state = reading state (Ok (object.Node (node.Iri (rdf (codes "type")))))
acted act.Subject next state = stating state (Ok (with_subject state.facts))
acted act.Predicate next state = stating state (Ok (with_predicate state.facts))
acted act.Object next state = stating state (Ok (with_object state.facts))
acted act.OpenBracket next state = stating state (bracket_opened state.facts)
acted act.CloseBracket next state = stating state (Ok (closed state.facts.nest.whole state.facts))
acted act.OpenCollection next state = stating state (collection_opened state.facts)
acted act.Item next state = stating state (Ok (cell_added state.facts))
acted act.Element next state = stating state (Ok (element_added state.facts))
acted act.CloseCollection next state = stating state (Ok (collection_closed state.facts))
acted act.Text next state = forming state (form_in next)
acted act.Plain next state = reading state (Ok (object.Literal (of_datatype state.form string)))
acted act.Tagged next state = reading state (tagged_term state.form next)
acted act.Typed next state = reading state (typed_term state.form (iri_of state.names next))
acted act.Shorthand next state = reading state (shorthand_term next)
acted act.NamePrefix next state = naming state (with_prefix state.names (prefix_in next))
acted act.DeclarePrefix next state = naming state (with_namespace state.names (iri_of state.names next))
acted act.DeclareBase next state = naming state (with_base state.names (iri_of state.names next))
acted act.EndStatement next state = Ok state
