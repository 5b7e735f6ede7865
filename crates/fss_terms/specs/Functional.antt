-- Documents in Functional-Style Syntax (Structural Specification, section 3.7).
use Rattle.std.specs.Prelude.{◌≡◌, ◌≤◌, ℕ, List, [], ◌∷◌, ◌++◌, length, map, codes, find, flat_map, Option, None, Some, IsTrue, true}
use Rattle.std.specs.List.{AllByRecursion}
use Rattle.owl_lexer.specs.Splitting.{Splits}
use Rattle.owl_lexer.specs.declared.placed.Placed.{Placed}
use Rattle.owl_tokens.specs.Tokens.{Spells}
use Rattle.owl_tokens.specs.declared.token.Token.{Token}
use Rattle.owl_tokens.specs.declared.token.Token.TheVariants as token
use Rattle.owl_tokens.specs.declared.token.Sign.TheVariants as sign
use Rattle.owl_characters.specs.Iri.{IsIri}
use Rattle.owl_characters.specs.Limit.{most_bytes}
use Rattle.owl_characters.specs.Names.{IsPrefixName}
use Rattle.owl_characters.specs.Order.{text_eq}
use Rattle.owl_list.specs.Ascending.{AreApart}
use Rattle.owl_atom.specs.declared.prefixes.Prefix.{Prefix}
use Rattle.owl_atom.specs.Prefixes.{IsTable, fixed_prefixes, iri_of, is_fixed, prefix_in}
use Rattle.owl_tree.specs.declared.atom.Atom.TheVariants.{Iri}
use Rattle.owl_tree.specs.declared.tag.Tag.TheVariants as tag
use Rattle.owl_tree.specs.Ontologies.{IsHead, IsSameOntology, Ontology, OntologyName, ontology_weight}
use Rattle.owl_tree.specs.Tags.{is_axiom}
use Rattle.owl_tree.specs.Trees.{Tree, depth, tag_of}
use Rattle.owl_arena.specs.Shared.{deepest, heaviest}
use Rattle.fss_terms.specs.Spelling.{IsWritten, spelling}
use Rattle.fss_terms.specs.Terms.{AreTerms, tokens_of}
use Rattle.fss_terms.specs.declared.term.Term.{Term}
use Rattle.fss_terms.specs.declared.term.Term.TheVariants.{Keyword, Opening, Closing, Atom}

-- the name of a prefix, and the IRI that it is declared to stand for
pub record PrefixDeclaration : Type 0 where
  pub name : List ℕ
  pub iri : List ℕ

-- Prefix(name:=<iri>)
abbrev pub declaration_tokens : PrefixDeclaration → List Token
declaration_tokens d =
    token.Word (codes "Prefix") ∷ token.Sign sign.Open ∷ token.Name d.name [] ∷ token.Sign sign.Equals ∷ token.Iri d.iri ∷ token.Sign sign.Close ∷ []

-- One of the four prefixes that are there beforehand may be declared with its own IRI alone (section 2.4).
pub record IsDeclarable (d : PrefixDeclaration) : Type 0 where
  pub name : IsPrefixName d.name
  pub iri : IsIri d.iri
  pub fixed : is_fixed fixed_prefixes d.name ≡ true → iri_of fixed_prefixes d.name ≡ Some d.iri

-- each can be declared, and no name twice
pub record AreDeclarable (ds : List PrefixDeclaration) : Type 0 where
  pub each : AllByRecursion IsDeclarable ds
  pub once : AreApart (map (λ (d : PrefixDeclaration). d.name) ds)

-- the declaration of the name
abbrev pub declaration_of : List PrefixDeclaration → List ℕ → Option PrefixDeclaration
declaration_of ds name = find (λ (d : PrefixDeclaration). text_eq d.name name) ds

-- the prefix that a declaration makes of the one that is there beforehand, if there is one
abbrev pub declared_prefix : Option PrefixDeclaration → List ℕ → Option Prefix
declared_prefix None name = prefix_in fixed_prefixes name
declared_prefix (Some d) name = Some (record { name = name; iri = d.iri; fixed = is_fixed fixed_prefixes name; declared = true })

-- The table has the prefixes that are declared, those that are there beforehand, and no others.
pub record IsTableOf (ds : List PrefixDeclaration) (prefixes : List Prefix) : Type 0 where
  pub table : IsTable prefixes
  pub each : (name : List ℕ) → prefix_in prefixes name ≡ declared_prefix (declaration_of ds name) name

abbrev pub iri_term : List ℕ → Term
iri_term iri = Atom (Iri iri)

abbrev pub version_terms : Option (List ℕ) → List Term
version_terms None = []
version_terms (Some iri) = iri_term iri ∷ []

abbrev pub name_terms : Option OntologyName → List Term
name_terms None = []
name_terms (Some name) = iri_term name.iri ∷ version_terms name.version

-- Import(iri)
abbrev pub import_terms : List ℕ → List Term
import_terms iri = Keyword (codes "Import") ∷ Opening ∷ iri_term iri ∷ Closing ∷ []

-- an annotation of the ontology, or an axiom
abbrev pub item_terms : Tree → List Term
item_terms t = spelling (tag_of t) t []

-- the imports, annotations and axioms, each in the order in which it is written, and the last bracket
abbrev pub body_terms : Ontology → List Term
body_terms o =
    flat_map import_terms o.head.imports ++ (flat_map item_terms o.annotations ++ (flat_map item_terms o.axioms ++ Closing ∷ []))

-- Ontology(name imports annotations axioms)
abbrev pub ontology_terms : Ontology → List Term
ontology_terms o = Keyword (codes "Ontology") ∷ Opening ∷ (name_terms o.head.name ++ body_terms o)

pub record IsWrittenAnnotation (t : Tree) : Type 0 where
  pub tag : tag_of t ≡ tag.Annotation
  pub written : IsWritten t

pub record IsWrittenAxiom (t : Tree) : Type 0 where
  pub tag : IsTrue (is_axiom (tag_of t))
  pub written : IsWritten t

-- an ontology as it may be written: with repeats, and in any order
pub record IsWrittenOntology (o : Ontology) : Type 0 where
  pub head : IsHead o.head
  pub annotations : AllByRecursion IsWrittenAnnotation o.annotations
  pub axioms : AllByRecursion IsWrittenAxiom o.axioms

-- The tokens are declarations of prefixes, and then an ontology that is structurally equivalent to this one, where each
-- name stands for an IRI by these prefixes.
pub record SpellsFunctional (prefixes : List Prefix) (o : Ontology) (tokens : List Token) : Type 0 where
  pub declarations : List PrefixDeclaration
  pub body : List Token
  pub written : Ontology
  pub parts : tokens ≡ flat_map declaration_tokens declarations ++ body
  pub declarable : AreDeclarable declarations
  pub table : IsTableOf declarations prefixes
  pub terms : AreTerms prefixes body (ontology_terms written)
  pub is_written : IsWrittenOntology written
  pub same : IsSameOntology written o

-- no annotation and no axiom is too deep, and together they are not too heavy
pub record IsWithinLimits (o : Ontology) : Type 0 where
  pub annotations : AllByRecursion (λ t. depth t ≤ deepest) o.annotations
  pub axioms : AllByRecursion (λ t. depth t ≤ deepest) o.axioms
  pub weight : ontology_weight o ≤ heaviest

-- The bytes are a document with these prefixes that says this ontology, or an equivalent one.
pub record ReadsFunctional (bytes : List ℕ) (prefixes : List Prefix) (o : Ontology) : Type 0 where
  pub placed : List (Placed Token)
  pub few : length bytes ≤ most_bytes
  pub splits : Splits Spells bytes placed None
  pub spells : SpellsFunctional prefixes o (tokens_of placed)
  pub within : IsWithinLimits o
