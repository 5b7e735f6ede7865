-- Bytes are read to one table of prefixes and one ontology, up to structural equivalence.
use Rattle.std.proofs.Common.{◌≡◌, ◌≤◌, List, [], ◌∷◌, ℕ, Option, None, true, refl, sym, ap, ◌∙◌, subst}
use Rattle.std.specs.List.{AllByRecursion}
use Rattle.grammar.specs.Derivations.{DerivesOf}
use Rattle.grammar.specs.Grammars.{has_rule}
use Rattle.grammar.specs.Predictions.{AreFollowed, IsPredictive}
use Rattle.grammar.proofs.PredictiveLaws.{followed_start, one_way, predictive}
use Rattle.grammar.specs.declared.symbol.Symbol.TheVariants.{Rule}
use Rattle.owl_arena.specs.Shared.{deepest, heaviest}
use Rattle.owl_atom.specs.declared.prefixes.Prefix.{Prefix}
use Rattle.owl_atom.specs.PrefixLaws.{tables_are_told_by_names}
use Rattle.owl_lexer.specs.Splitting.{Splits}
use Rattle.owl_lexer.specs.declared.fault.LexFault.{LexFault}
use Rattle.owl_lexer.specs.declared.placed.Placed.{Placed}
use Rattle.owl_list.proofs.AscendingLaws.{all_from, all_in}
use Rattle.owl_tokens.specs.Tokens.{Spells}
use Rattle.owl_tokens.specs.declared.token.Token.{Token}
use Rattle.owl_tree.proofs.CanonicalLaws.{equivalent_depth}
use Rattle.owl_tree.proofs.OntologyLaws.{same_ontology_sym, same_ontology_trans, same_ontology_weight}
use Rattle.owl_tree.specs.Ontologies.{HoldEquivalent, IsSameOntology, Ontology}
use Rattle.owl_tree.specs.Trees.{Tree, depth}
use Rattle.fss_terms.specs.Functional.{IsTableOf, IsWithinLimits, PrefixDeclaration, ReadsFunctional, SpellsFunctional}
use Rattle.fss_terms.specs.Terms.{tokens_of}
use Rattle.fss_grammar.specs.Classes.{class_of}
use Rattle.fss_grammar.specs.Doing.{Does}
use Rattle.fss_grammar.specs.Making.{Maker, beginning}
use Rattle.fss_grammar.specs.Meaning.{Events, between}
use Rattle.fss_grammar.proofs.OneWayLaws.{does_one_way}
use Rattle.fss_grammar.specs.Table.{functional, functional_document, functional_is_predictive}
use Rattle.fss_grammar.specs.WrittenDocuments.{DoesDocument}
use Rattle.fss_grammar.proofs.WritingLaws.{written_is_done}

-- Bytes are one list of tokens, and end in one way.
abbrev pub SplitOneWay : Type 0
SplitOneWay =
    (bytes : List ℕ) (ts us : List (Placed Token)) (e f : Option LexFault) → Splits Spells bytes ts e → Splits Spells bytes us f → (ts ≡ us) × (e ≡ f)

-- ---- tokens

has_document : has_rule functional 0 ≡ true
unfolding functional functional_document
has_document = refl

pub is_predictive : IsPredictive functional
is_predictive = predictive functional functional_is_predictive

pub document_followed : AreFollowed functional (Rule 0 ∷ [])
document_followed = followed_start is_predictive 0 has_document

-- the tokens of a document have one list of events
pub events_one_way : (tokens : List Token) (es fs : Events) → DerivesOf class_of functional (Rule 0 ∷ []) tokens es → DerivesOf class_of functional (Rule 0 ∷ []) tokens fs → es ≡ fs
events_one_way tokens es fs d e = one_way is_predictive document_followed d e

-- the tokens are done for the ontology that is written
pub spelled_is_done : (p : List Prefix) (tokens : List Token) (o : Ontology) (it : SpellsFunctional p o tokens) → DoesDocument tokens it.declarations it.written
spelled_is_done p tokens o it =
    written_is_done p tokens it.declarations it.written it.table (record { body = it.body; parts = it.parts; terms = it.terms; written = it.is_written })

-- what two documents of the same tokens make is the same
made_one_way : (tokens : List Token) (ds es : List PrefixDeclaration) (o u : Ontology) → DoesDocument tokens ds o → DoesDocument tokens es u → between (record { declarations = ds; ontology = o }) ≡ between (record { declarations = es; ontology = u })
made_one_way tokens ds es o u h k =
    let n : Maker = between (record { declarations = es; ontology = u }) in
    let same = events_one_way tokens k.events h.events k.derives h.derives in
    does_one_way h.events beginning (between (record { declarations = ds; ontology = o })) n h.does (subst (λ (l : Events). Does l beginning n) same k.does)

-- declarations have one table
table_one_way : (ds : List PrefixDeclaration) (p q : List Prefix) → IsTableOf ds p → IsTableOf ds q → p ≡ q
table_one_way ds p q h k = tables_are_told_by_names p q h.table.ascending k.table.ascending (λ name. h.each name ∙ sym (k.each name))

-- ---- bytes

abbrev pub ReadOneWay : Type 0
ReadOneWay =
    (bytes : List ℕ) (p q : List Prefix) (o u : Ontology) → ReadsFunctional bytes p o → ReadsFunctional bytes q u → (p ≡ q) × IsSameOntology o u

spelled_one_way : (tokens : List Token) (p q : List Prefix) (o u : Ontology) → SpellsFunctional p o tokens → SpellsFunctional q u tokens → (p ≡ q) × IsSameOntology o u
spelled_one_way tokens p q o u h k =
    let made = made_one_way tokens h.declarations k.declarations h.written k.written (spelled_is_done p tokens o h) (spelled_is_done q tokens u k) in
    let declared : h.declarations ≡ k.declarations = ap (λ (m : Maker). m.document.declarations) made in
    let written : h.written ≡ k.written = ap (λ (m : Maker). m.document.ontology) made in (
      table_one_way k.declarations p q (subst (λ ds. IsTableOf ds p) declared h.table) k.table,
      same_ontology_trans o h.written u (same_ontology_sym h.written o h.same) (subst (λ w. IsSameOntology w u) (sym written) k.same),
    )

pub read_one_way : SplitOneWay → ReadOneWay
read_one_way split bytes p q o u h k =
    let same = (split bytes k.placed h.placed None None k.splits h.splits).0 in
    spelled_one_way (tokens_of h.placed) p q o u h.spells (subst (λ l. SpellsFunctional q u (tokens_of l)) same k.spells)

-- ---- equivalent ontologies

abbrev pub ReadAlike : Type 0
ReadAlike = (bytes : List ℕ) (p : List Prefix) (o u : Ontology) → ReadsFunctional bytes p o → IsSameOntology o u → ReadsFunctional bytes p u

-- equivalent trees are as deep
within_alike : (ts us : List Tree) → HoldEquivalent ts us → AllByRecursion (λ t. depth t ≤ deepest) ts → AllByRecursion (λ t. depth t ≤ deepest) us
within_alike ts us same within =
    all_from (λ t. depth t ≤ deepest) us
    (λ u inside.
    let t = same.back u inside in
    let few = all_in (λ t. depth t ≤ deepest) ts t.0 within t.1 in
    subst (λ n. n ≤ deepest) (sym (equivalent_depth u t.0 t.2)) few)

pub limits_alike : (o u : Ontology) → IsSameOntology o u → IsWithinLimits o → IsWithinLimits u
limits_alike o u same within = record {
  annotations = within_alike o.annotations u.annotations same.annotations within.annotations;
  axioms = within_alike o.axioms u.axioms same.axioms within.axioms;
  weight = subst (λ n. n ≤ heaviest) (same_ontology_weight o u same) within.weight;
}

spelled_alike : (p : List Prefix) (o u : Ontology) (tokens : List Token) → SpellsFunctional p o tokens → IsSameOntology o u → SpellsFunctional p u tokens
spelled_alike p o u tokens it same = record {
  declarations = it.declarations;
  body = it.body;
  written = it.written;
  parts = it.parts;
  declarable = it.declarable;
  table = it.table;
  terms = it.terms;
  is_written = it.is_written;
  same = same_ontology_trans it.written o u it.same same;
}

pub read_alike : ReadAlike
read_alike bytes p o u h same = record {
  placed = h.placed;
  few = h.few;
  splits = h.splits;
  spells = spelled_alike p o u (tokens_of h.placed) h.spells same;
  within = limits_alike o u same h.within;
}
