-- Bytes are read to one document, have one first defect, and are no document where they have one.
use Rattle.std.proofs.Common.{◌≡◌, ◌≤◌, ℕ, List, length, None, Result, Ok, Err, sym, ap, ◌∙◌, subst, arith}
use Rattle.std.specs.Prelude.{reverse}
use Rattle.grammar.proofs.AlikeLaws.{derives_alike}
use Rattle.grammar.proofs.PredictiveLaws.{predictive}
use Rattle.grammar.specs.Predictions.{IsPredictive}
use Rattle.man_raw.specs.Documents.{DocumentTree}
use Rattle.owl_atom.specs.Prefixes.{prefix_in}
use Rattle.owl_characters.specs.Limit.{most_bytes}
use Rattle.owl_lexer.proofs.OneWayLaws.{same_splits}
use Rattle.owl_lexer.specs.Tables.{automaton_of}
use Rattle.owl_reader.proofs.AlikeLaws.{defect_alike, first_defect_alike}
use Rattle.owl_reader.proofs.NoDefectLaws.{ends_follow, read_begins, read_has_no_defect}
use Rattle.owl_reader.proofs.OneDefectLaws as defects
use Rattle.owl_reader.proofs.SameStepsLaws.{same_acts_next, same_steps}
use Rattle.owl_reader.specs.Defects.IsFirstDefect.{beyond, too_long, within}
use Rattle.owl_reader.specs.Following.{MayFollow}
use Rattle.owl_reader.specs.Readings.{IsRead}
use Rattle.owl_reader.specs.Steps.{Step, events_of, tokens_in}
use Rattle.owl_reader.specs.declared.fault.ReadFault.{ReadFault}
use Rattle.owl_reader.specs.declared.fault.TokenFault.{TokenFault}
use Rattle.owl_tokens.specs.ManchesterSpellings.{SpellsManchester}
use Rattle.owl_tokens.specs.ManchesterSpellingLaws.{manchester_is_language}
use Rattle.owl_tokens.specs.ManchesterTable.{manchester_table}
use Rattle.owl_tokens.specs.Values.{value_of}
use Rattle.owl_tokens.specs.declared.token.Token.{Token}
use Rattle.man_grammar.proofs.PageLaws.{page_to_table}
use Rattle.man_grammar.proofs.RunLaws.{answered_runs, none_barred}
use Rattle.man_grammar.specs.Documents.{AreSameDocuments, IsFirstDefect, IsReadTo, ReadsManchester}
use Rattle.man_grammar.specs.Rules.{manchester_rules}
use Rattle.man_grammar.specs.Runs.{answer}
use Rattle.man_grammar.specs.StartLaws.{has_document}
use Rattle.man_grammar.specs.States.{State}
use Rattle.man_grammar.specs.Table.{manchester, manchester_is_predictive}

is_predictive : IsPredictive manchester
is_predictive = predictive manchester manchester_is_predictive

splits_one_way : defects.ComeOneWay SpellsManchester
splits_one_way = same_splits (automaton_of manchester_table) value_of SpellsManchester manchester_is_language

-- ---- what a document says, as what is read

abbrev Says : List (Step Token) → List ℕ → State → Type 0
Says steps acts state = answer steps acts None ≡ Ok state

says_is_free : (steps : List (Step Token)) (acts : List ℕ) (state : State) (f : TokenFault) → Says steps acts state → answer steps acts None ≡ Err f → ⊥
says_is_free steps acts state f e k = cc

abbrev reads_as : (bytes : List ℕ) (d : DocumentTree) → (r : ReadsManchester bytes d) → IsRead SpellsManchester manchester manchester_rules Says bytes r.spells.state
reads_as bytes d r =
    let ran = answered_runs r.steps r.spells.acts None r.spells.state r.spells.says in
    record {
      steps = r.steps;
      few = r.few;
      splits = r.splits;
      none_barred = none_barred r.steps ran.state ran.runs;
      ends = record {
        acts = r.spells.acts;
        derives = derives_alike page_to_table r.spells.derives;
        made_by = r.spells.says;
        free = λ f. says_is_free r.steps r.spells.acts r.spells.state f r.spells.says;
      };
    }

-- ---- one document

one_state : (steps others : List (Step Token)) (acts bs : List ℕ) (s t : State) → steps ≡ others → acts ≡ bs → answer steps acts None ≡ Ok s → answer others bs None ≡ Ok t → s ≡ t
one_state steps others acts bs s t same also e k =
    let one = sym e ∙ (λ i. answer (same i) (also i) None) ∙ k in
    cc

to_one : (d e : DocumentTree) (s t : State) → s ≡ t → IsReadTo d s → IsReadTo e t → AreSameDocuments d e
to_one d e s t same one other = record {
  prefixes = λ name. one.prefixes name ∙ ap (λ (u : State). prefix_in u.names.prefixes name) same ∙ sym (other.prefixes name);
  head = one.head ∙ ap (λ (u : State). u.head) same ∙ sym other.head;
  notes = one.notes ∙ ap (λ (u : State). u.notes) same ∙ sym other.notes;
  items = one.items ∙ ap (λ (u : State). reverse u.listing.items) same ∙ sym other.items;
}

pub read_one_way : (bytes : List ℕ) (d e : DocumentTree) → ReadsManchester bytes d → ReadsManchester bytes e → AreSameDocuments d e
read_one_way bytes d e one other =
    let a = reads_as bytes d one in
    let b = reads_as bytes e other in
    let tokens = (splits_one_way bytes (tokens_in a.steps) (tokens_in b.steps) None None a.splits b.splits).0 in
    let steps = same_steps is_predictive has_document a.steps b.steps tokens (read_begins is_predictive has_document a) (read_begins is_predictive has_document b) in
    let acts = same_acts_next is_predictive has_document b.steps None
    (subst (λ (l : List (Step Token)). MayFollow manchester manchester_rules (events_of l) a.ends.acts None) steps (ends_follow is_predictive has_document a.steps a.ends))
    (ends_follow is_predictive has_document b.steps b.ends) in
    to_one d e one.spells.state other.spells.state
    (one_state a.steps b.steps a.ends.acts b.ends.acts one.spells.state other.spells.state steps acts one.spells.says other.spells.says)
    one.spells.is other.spells.is

-- ---- defects

same_fault : (r : Result State TokenFault) (f h : TokenFault) → r ≡ Err f → r ≡ Err h → f ≡ h
same_fault r f h e k = cc

bars_one_way : defects.BarOneWay manchester_rules
bars_one_way steps acts next f h e k = same_fault (answer steps acts next) f h e k

pub one_first_defect : (bytes : List ℕ) (fault other : ReadFault) → length bytes ≤ most_bytes → IsFirstDefect bytes fault → IsFirstDefect bytes other → fault ≡ other
one_first_defect bytes fault other few h k =
    defects.one_first_defect splits_one_way manchester_is_predictive has_document bars_one_way bytes fault other few
    (first_defect_alike page_to_table h) (first_defect_alike page_to_table k)

pub defect_is_of_none : (bytes : List ℕ) (fault : ReadFault) (d : DocumentTree) → IsFirstDefect bytes fault → ReadsManchester bytes d → ⊥
defect_is_of_none bytes fault d (within few defect) r =
    read_has_no_defect is_predictive has_document splits_one_way bytes fault (reads_as bytes d r) (defect_alike page_to_table defect)
defect_is_of_none bytes fault d (beyond many defect) r = let few = r.few in omega (arith, many, few)
defect_is_of_none bytes fault d (too_long many is none) r = let few = r.few in omega (arith, many, few)
