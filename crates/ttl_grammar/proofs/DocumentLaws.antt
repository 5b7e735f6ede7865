-- Bytes are read to one graph and one table of prefixes, and have one first defect.
use Rattle.std.proofs.Common.{◌≡◌, ◌≤◌, ℕ, List, [], ◌∷◌, length, Option, None, Ok, Err, Result, sym, ap, ◌∙◌, subst}
use Rattle.grammar.specs.Derivations.{DerivesOf, Event}
use Rattle.grammar.proofs.AlikeLaws.{derives_alike}
use Rattle.grammar.specs.Predictions.{AreFollowed, IsPredictive}
use Rattle.grammar.proofs.PredictiveLaws.{followed_start, one_way, predictive}
use Rattle.grammar.specs.declared.symbol.Symbol.TheVariants.{Rule}
use Rattle.owl_atom.specs.Prefixes.{iri_of}
use Rattle.owl_atom.specs.declared.prefixes.Prefix.{Prefix}
use Rattle.owl_characters.specs.Limit.{most_bytes}
use Rattle.owl_lexer.proofs.OneWayLaws.{same_splits}
use Rattle.owl_lexer.specs.Tables.{automaton_of}
use Rattle.owl_reader.proofs.AlikeLaws.{first_defect_alike}
use Rattle.owl_reader.proofs.OneDefectLaws as defects
use Rattle.owl_reader.specs.declared.fault.ReadFault.{ReadFault}
use Rattle.owl_reader.specs.declared.fault.TokenFault.{TokenFault}
use Rattle.rdf_graph.specs.declared.triple.Triple.{Triple}
use Rattle.ttl_tokens.specs.TurtleSpellingLaws.{turtle_is_language}
use Rattle.ttl_tokens.specs.TurtleSpellings as tokens
use Rattle.ttl_tokens.specs.TurtleTable.{turtle_table}
use Rattle.ttl_tokens.specs.TurtleValues.{token_of}
use Rattle.ttl_tokens.specs.declared.token.Token.{Token}
use Rattle.ttl_grammar.specs.Classes.{class_of}
use Rattle.ttl_grammar.specs.Documents.{IsFirstDefect, ReadsTurtle, SpellsTurtle, tokens_of}
use Rattle.ttl_grammar.specs.Labels.{graph_of}
use Rattle.ttl_grammar.proofs.PageLaws.{page_to_table}
use Rattle.ttl_grammar.specs.Rules.{turtle_rules}
use Rattle.ttl_grammar.specs.Runs.{run}
use Rattle.ttl_grammar.specs.StartLaws.{has_document}
use Rattle.ttl_grammar.specs.States.{State, namespace_in, start}
use Rattle.ttl_grammar.specs.Table.{turtle, turtle_is_predictive}

-- ---- tokens

pub is_predictive : IsPredictive turtle
is_predictive = predictive turtle turtle_is_predictive

-- the rule of documents, which is the same against each base
abbrev document : ℕ
document = (turtle_rules None).document

pub document_followed : AreFollowed turtle (Rule document ∷ [])
document_followed = followed_start is_predictive document (has_document None)

-- the tokens of a document have one list of events
pub events_one_way : (tokens : List Token) (es fs : List (Event Token)) → DerivesOf class_of turtle (Rule document ∷ []) tokens es → DerivesOf class_of turtle (Rule document ∷ []) tokens fs → es ≡ fs
events_one_way tokens es fs d e = one_way is_predictive document_followed d e

-- which lead to one state
same_state : (base : Option (List ℕ)) (es fs : List (Event Token)) (s t : State) → es ≡ fs → run es (start base) ≡ Ok s → run fs (start base) ≡ Ok t → s ≡ t
same_state base es fs s t e h k =
    let same = sym h ∙ ap (λ (l : List (Event Token)). run l (start base)) e ∙ k in
    cc

abbrev pub AreAlike : List Prefix → List Prefix → List Triple → List Triple → Type 0
AreAlike p q g h = (g ≡ h) × ((name : List ℕ) → iri_of p name ≡ iri_of q name)

pub spelled_one_way : (base : Option (List ℕ)) (tokens : List Token) (p q : List Prefix) (g h : List Triple) → SpellsTurtle base p g tokens → SpellsTurtle base q h tokens → AreAlike p q g h
spelled_one_way base tokens p q g h one other =
    let events = events_one_way tokens one.events other.events (derives_alike page_to_table one.derives) (derives_alike page_to_table other.derives) in
    let state = same_state base one.events other.events one.state other.state events one.states other.states in (
      one.graph_is ∙ ap (λ (s : State). graph_of s.facts.triples) state ∙ sym other.graph_is,
      λ name. one.namespaces name ∙ ap (λ (s : State). namespace_in s.names.namespaces name) state ∙ sym (other.namespaces name),
    )

-- ---- bytes

pub splits_one_way : defects.ComeOneWay tokens.Spells
splits_one_way = same_splits (automaton_of turtle_table) token_of tokens.Spells turtle_is_language

pub read_one_way : (base : Option (List ℕ)) (bytes : List ℕ) (p q : List Prefix) (g h : List Triple) → ReadsTurtle base bytes p g → ReadsTurtle base bytes q h → AreAlike p q g h
read_one_way base bytes p q g h one other =
    let same = (splits_one_way bytes other.placed one.placed None None other.splits one.splits).0 in
    spelled_one_way base (tokens_of one.placed) p q g h one.spells (subst (λ l. SpellsTurtle base q h (tokens_of l)) same other.spells)

-- acts are barred for one reason, since what they answer is computed
same_fault : (r : Result State TokenFault) (f h : TokenFault) → r ≡ Err f → r ≡ Err h → f ≡ h
same_fault r f h e k = cc

bars_one_way : (base : Option (List ℕ)) → defects.BarOneWay (turtle_rules base)
bars_one_way base events acts next f h e k = same_fault _ f h e k

pub one_first_defect : (base : Option (List ℕ)) (bytes : List ℕ) (fault other : ReadFault) → length bytes ≤ most_bytes → IsFirstDefect base bytes fault → IsFirstDefect base bytes other → fault ≡ other
one_first_defect base bytes fault other few h k =
    defects.one_first_defect splits_one_way turtle_is_predictive (has_document base) (bars_one_way base) bytes fault other few
    (first_defect_alike page_to_table h) (first_defect_alike page_to_table k)
