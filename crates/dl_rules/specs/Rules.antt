-- OWL 2 DL (Structural Specification, section 3 and section 11): its rules, and what breaks them.
use Rattle.std.specs.Prelude.{◌≡◌, ◌⊎◌, ℕ, Bool, true, false, List, [], ◌∷◌, Contains, IsTrue}
use Rattle.owl_breaches.specs.Sites.{Ontologies, Site, axiom_closure, sites}
use Rattle.owl_breaches.specs.Those.{AreThose, HoldsOfOne, HoldsOfSome}
use Rattle.owl_doc.specs.declared.rule.Rule.{Rule}
use Rattle.owl_doc.specs.declared.rule.Rule.TheVariants.{Dl}
use Rattle.owl_doc.specs.Entities.{declaration}
use Rattle.owl_doc.specs.Parts.{Part, of_axiom, of_header, parts_of}
use Rattle.owl_kind.specs.Kinds.{Entity, SharesKinds}
use Rattle.owl_tree.specs.Ontologies.{Ontology, OntologyName}
use Rattle.owl_tree.specs.Trees.{Tree, kids_in, tag_of}
use Rattle.rdf_terms.specs.Vocabulary.{is_reserved}
use Rattle.dl_rules.specs.declared.rule.DlRule.{DlRule}
use Rattle.dl_rules.specs.declared.rule.DlRule.TheVariants.{Typing, Clash, ReservedName, Datatypes, DatatypeOrder, LexicalForms, DataRanges, TopDataProperty, SimpleProperties, Hierarchy, NamedIndividuals, Forest, OntologyIri}
use Rattle.dl_rules.specs.Assertions.{ClosesRing, ForestExists, link_of, links}
use Rattle.dl_rules.specs.Definitions.{DatatypeOrderExists, IsCyclic, definition_of}
use Rattle.dl_rules.specs.Hierarchy.{BreaksOrder, HierarchyOrderExists}
use Rattle.dl_rules.specs.Local.{AsksSimple, HasAnonymousKid, HasMisusedDatatype, HasWrongForm, HasWrongRange, IsMisnamed, IsTopData, IsUndeclared, barred_over}
use Rattle.dl_rules.specs.Logical.{all_within, logical, logical_within}
use Rattle.dl_rules.specs.Properties.{chain_of}

-- the rules in the order of their numbers
unfoldable pub dl_rules : List DlRule
dl_rules =
    Typing ∷ Clash ∷ ReservedName ∷ Datatypes ∷ DatatypeOrder ∷ LexicalForms ∷ DataRanges ∷ TopDataProperty ∷ SimpleProperties ∷
    Hierarchy ∷ NamedIndividuals ∷ Forest ∷ OntologyIri ∷ []

unfoldable pub number_of : DlRule → ℕ
number_of Typing = 1
number_of Clash = 2
number_of ReservedName = 3
number_of Datatypes = 4
number_of DatatypeOrder = 5
number_of LexicalForms = 6
number_of DataRanges = 7
number_of TopDataProperty = 8
number_of SimpleProperties = 9
number_of Hierarchy = 10
number_of NamedIndividuals = 11
number_of Forest = 12
number_of OntologyIri = 13

abbrev pub dl_name : DlRule → Rule
dl_name rule = Dl (number_of rule)

-- the part is an axiom of which it holds, or the header
abbrev pub IsAxiomWith : (Tree → Type 0) → Part → Type 0
IsAxiomWith Holds (of_header annotations) = ⊥
IsAxiomWith Holds (of_axiom t) = Holds t

abbrev pub IsHeader : Part → Type 0
IsHeader (of_header annotations) = Unit {0}
IsHeader (of_axiom t) = ⊥

-- the ontology IRI or the version IRI is reserved
abbrev pub HasReservedName : OntologyName → Type 0
HasReservedName name = IsTrue (is_reserved name.iri) ⊎ HoldsOfSome (λ version. IsTrue (is_reserved version)) name.version

-- the part of this ontology breaks the rule
unfoldable pub Breaks : Ontologies → DlRule → Ontology → Part → Type 0
Breaks c Typing o part = HoldsOfOne (IsUndeclared c.kinds) (all_within part)
Breaks c Clash o part = IsAxiomWith (λ t. HoldsOfSome (λ (e : Entity). SharesKinds c.kinds e.iri) (declaration t)) part
Breaks c ReservedName o part = HoldsOfOne IsMisnamed (all_within part)
Breaks c Datatypes o part = HoldsOfOne (HasMisusedDatatype (axiom_closure c)) (logical_within part)
Breaks c DatatypeOrder o part = IsAxiomWith (λ t. HoldsOfSome (IsCyclic (axiom_closure c)) (definition_of t)) part
Breaks c LexicalForms o part = HoldsOfOne HasWrongForm (logical_within part)
Breaks c DataRanges o part = HoldsOfOne HasWrongRange (logical_within part)
Breaks c TopDataProperty o part = IsAxiomWith (λ t. HoldsOfOne (λ u. HoldsOfOne IsTopData (logical u)) (barred_over (tag_of t) (kids_in t))) part
Breaks c SimpleProperties o part = HoldsOfOne (AsksSimple (axiom_closure c)) (logical_within part)
Breaks c Hierarchy o part = IsAxiomWith (λ t. HoldsOfSome (BreaksOrder (axiom_closure c)) (chain_of t)) part
Breaks c NamedIndividuals o part = HoldsOfOne HasAnonymousKid (logical_within part)
Breaks c Forest o part = IsAxiomWith (λ t. HoldsOfSome (ClosesRing (links o.axioms)) (link_of t)) part
Breaks c OntologyIri o part = IsHeader part × HoldsOfSome HasReservedName o.head.name

abbrev pub BreaksAt : Ontologies → Site DlRule → Type 0
BreaksAt c s = Breaks c s.rule s.ontology s.part

-- each rule with each part that breaks it, in order
abbrev pub AreDlBreaches : Ontologies → List (Site DlRule) → Type 0
AreDlBreaches c found = AreThose (BreaksAt c) (sites dl_rules c.all) found

-- the rules that ask for an order or a forest
unfoldable pub asks_order : DlRule → Bool
asks_order DatatypeOrder = true
asks_order Hierarchy = true
asks_order Forest = true
asks_order _ = false

-- The ontologies are in OWL 2 DL: no part breaks any other rule, and the order of datatypes, that of properties and the forests exist.
pub record IsInDL (c : Ontologies) : Type 0 where
  pub kept : (rule : DlRule) (o : Ontology) (part : Part) → asks_order rule ≡ false → Contains c.all o → Contains (parts_of o) part → Breaks c rule o part → ⊥
  pub datatypes : DatatypeOrderExists (axiom_closure c)
  pub hierarchy : HierarchyOrderExists (axiom_closure c)
  pub forests : (o : Ontology) → Contains c.all o → ForestExists (links o.axioms)
