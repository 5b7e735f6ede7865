-- What one tree breaks by itself (Structural Specification, section 11 and the sections that it names).
use Rattle.std.specs.Prelude.{ℕ, Bool, true, false, ◌&&◌, not, nat_le, List, [], ◌∷◌, length, Option, None, Some, IsTrue, codes}
use Rattle.std.specs.List.{filter_map, list_any}
use Rattle.std.specs.Option.{option_map, option_or}
use Rattle.owl_breaches.specs.Those.{HoldsOfOne, HoldsOfSome}
use Rattle.owl_characters.specs.Order.{text_eq}
use Rattle.owl_doc.specs.Entities.{declared_kind, entity_of, is_misused, kind_of}
use Rattle.owl_kind.specs.declared.kind.Kind.{Kind}
use Rattle.owl_kind.specs.Kinds.{Entity, HasKind}
use Rattle.owl_tree.specs.declared.atom.Atom.TheVariants as atom
use Rattle.owl_tree.specs.declared.tag.Tag.{Tag}
use Rattle.owl_tree.specs.declared.tag.Tag.TheVariants as tag
use Rattle.owl_tree.specs.Rows.{is_tag}
use Rattle.owl_tree.specs.Trees.{Tree, leaf, node, kids_in, tag_of}
use Rattle.rdf_terms.specs.Datatypes.{IsLexicalForm, allows_facet}
use Rattle.rdf_terms.specs.Literals.{LiteralParts}
use Rattle.rdf_terms.specs.Vocabulary.{owl}
use Rattle.dl_rules.specs.Definitions.{IsMisusedDatatype, datatype_in}
use Rattle.dl_rules.specs.Logical.{iri_in}
use Rattle.dl_rules.specs.Properties.{IsSimple, asked_simple}

-- the entity that a leaf names, as what it has to be declared
abbrev pub entity_in : Tree → Option Entity
entity_in (leaf t a) = entity_of (kind_of t) a
entity_in (node t ks) = None

-- it names a class, a datatype or a property that is neither declared nor built in
abbrev pub IsUndeclared : List Entity → Tree → Type 0
IsUndeclared kinds t = HoldsOfSome (λ e. HasKind kinds e.kind e.iri → ⊥) (entity_in t)

-- as what an IRI may not be reserved, unless it is built in so; datatypes have a rule of their own
unfoldable pub guarded_kind : Tag → Option Kind
guarded_kind tag.Datatype = None
guarded_kind t = declared_kind t

abbrev pub guarded_entity : Tree → Option Entity
guarded_entity (leaf t a) = entity_of (guarded_kind t) a
guarded_entity (node t ks) = None

-- it names a class, a property or an individual by an IRI that is reserved for something else
abbrev pub IsMisnamed : Tree → Type 0
IsMisnamed t = HoldsOfSome (λ e. IsTrue (is_misused e.kind e.iri)) (guarded_entity t)

-- the literal that a leaf holds
abbrev pub literal_in : Tree → Option LiteralParts
literal_in (leaf t (atom.Literal literal)) = Some literal
literal_in _ = None

-- it names a datatype, or holds a literal of a datatype, that may not be used
abbrev pub HasMisusedDatatype : List Tree → Tree → Type 0
HasMisusedDatatype axioms t = HoldsOfSome (IsMisusedDatatype axioms) (option_or (datatype_in t) (option_map (λ (literal : LiteralParts). literal.datatype) (literal_in t)))

-- its literal has a lexical form that its datatype doesn't have
abbrev pub HasWrongForm : Tree → Type 0
HasWrongForm t = HoldsOfSome (λ (literal : LiteralParts). IsLexicalForm literal.datatype literal.lexical → ⊥) (literal_in t)

-- the facet of a facet with its value
abbrev pub facet_in : Tree → Option (List ℕ)
facet_in pair = first_iri (kids_in pair)
  where
    first_iri : List Tree → Option (List ℕ)
    first_iri [] = None
    first_iri (t ∷ ts) = iri_in t

-- a facet of these is none of the datatype
abbrev pub is_off : Option (List ℕ) → List Tree → Bool
is_off None ts = false
is_off (Some datatype) ts = list_any (λ facet. not (allows_facet datatype facet)) (filter_map facet_in ts)

-- a restriction with a facet that its datatype doesn't have, or over more than one property, since all data ranges have one argument
unfoldable pub restricts_wrongly : Tag → List Tree → Bool
restricts_wrongly tag.DatatypeRestriction (t ∷ ts) = is_off (iri_in t) ts
restricts_wrongly tag.DataSomeValuesFrom ts = nat_le 3 (length ts)
restricts_wrongly tag.DataAllValuesFrom ts = nat_le 3 (length ts)
restricts_wrongly _ ts = false

abbrev pub HasWrongRange : Tree → Type 0
HasWrongRange t = IsTrue (restricts_wrongly (tag_of t) (kids_in t))

unfoldable pub top_data_property : List ℕ
top_data_property = owl (codes "topDataProperty")

-- it is the top data property
abbrev pub IsTopData : Tree → Type 0
IsTopData t = HoldsOfSome (λ iri. IsTrue (is_tag tag.DataProperty (tag_of t) && text_eq iri top_data_property)) (iri_in t)

-- where the top data property may not stand in an axiom: it may be a super property, and be declared
unfoldable pub barred_over : Tag → List Tree → List Tree
barred_over tag.Declaration ts = []
barred_over tag.SubDataPropertyOf (notes ∷ sub ∷ ts) = sub ∷ []
barred_over _ ts = ts

-- a property that is not simple is its kid, where it has to be simple
abbrev pub AsksSimple : List Tree → Tree → Type 0
AsksSimple axioms t = HoldsOfOne (λ p. IsSimple axioms p → ⊥) (asked_simple t)

-- where no anonymous individuals may stand (section 11.2)
unfoldable pub asks_named : Tag → Bool
asks_named tag.SameIndividual = true
asks_named tag.DifferentIndividuals = true
asks_named tag.NegativeObjectPropertyAssertion = true
asks_named tag.NegativeDataPropertyAssertion = true
asks_named tag.ObjectOneOf = true
asks_named tag.ObjectHasValue = true
asks_named _ = false

abbrev pub HasAnonymousKid : Tree → Type 0
HasAnonymousKid t = IsTrue (asks_named (tag_of t) && list_any (λ kid. is_tag tag.Anonymous (tag_of kid)) (kids_in t))
