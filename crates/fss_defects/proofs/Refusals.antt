-- Bytes with a defect are no document.
use Rattle.std.proofs.Common.{◌≡◌, inl, inr, ℕ, List, [], ◌∷◌, ◌++◌, length, map, None, Option, Some, append-nil, append_assoc, refl, sym, ap, ◌∙◌, subst, arith}
use Rattle.std.specs.Option.{option_map}
use Rattle.std.proofs.lemmas.List.{map-append}
use Rattle.grammar.specs.Derivations.{Begins, Derives, DerivesOf, Event, own_class}
use Rattle.grammar.specs.Derivations.Event.{Do, Take}
use Rattle.grammar.specs.Lowering.{lower, tokens_of}
use Rattle.grammar.proofs.LoweringLaws.{lowered}
use Rattle.grammar.specs.Predictions.{ahead}
use Rattle.grammar.specs.declared.symbol.Symbol.TheVariants.{Rule}
use Rattle.owl_atom.specs.declared.prefixes.Prefix.{Prefix}
use Rattle.owl_lexer.specs.declared.fault.LexFault.{LexFault}
use Rattle.owl_lexer.specs.declared.placed.Placed.{Placed}
use Rattle.owl_reader.proofs.AlikeLaws.{defect_alike}
use Rattle.owl_reader.specs.Defects.{HasDefect, IsRefused}
use Rattle.owl_reader.specs.Defects.HasDefect.{at_end, at_token, no_token}
use Rattle.owl_reader.specs.Defects.IsFirstDefect.{beyond, too_long, within}
use Rattle.owl_reader.specs.Defects.IsRefused.{barred, wrong_end, wrong_token}
use Rattle.owl_reader.specs.Following.{ComesNext, MayFollow}
use Rattle.owl_reader.specs.Steps.{Step, events_of, plain, token_in, tokens_in}
use Rattle.owl_reader.specs.declared.fault.ReadFault.{ReadFault}
use Rattle.owl_reader.specs.declared.fault.TokenFault.{TokenFault}
use Rattle.owl_tokens.specs.Tokens.{Spells}
use Rattle.owl_tokens.specs.declared.token.Token.{Token}
use Rattle.owl_tree.proofs.OntologyLaws.{same_ontology_sym}
use Rattle.owl_tree.specs.Ontologies.{Ontology}
use Rattle.fss_terms.specs.Functional.{AreDeclarable, IsWithinLimits, ReadsFunctional}
use Rattle.fss_terms.specs.Terms as terms
use Rattle.fss_grammar.specs.Classes.{class_of}
use Rattle.fss_grammar.specs.Doing.{Does}
use Rattle.fss_grammar.specs.DoingLaws.{EndTaken}
use Rattle.fss_grammar.specs.Making.{Document, Maker, beginning, next_token}
use Rattle.fss_grammar.specs.Meaning.{Events, between}
use Rattle.fss_grammar.proofs.PageLaws.{page_to_table}
use Rattle.fss_grammar.specs.Table.{functional}
use Rattle.fss_defects.proofs.DocumentLaws.{SplitOneWay, document_followed, is_predictive, limits_alike, spelled_is_done}
use Rattle.fss_defects.specs.Faults.{Bars, Told}
use Rattle.fss_defects.specs.FirstDefects.{IsFirstDefect}
use Rattle.fss_defects.specs.Rules.{functional_rules}
use Rattle.fss_defects.proofs.Courses.{Runs, document_runs, runs_on}
use Rattle.fss_defects.proofs.Failures.{fails_first}
use Rattle.fss_defects.proofs.Fronts.{GoesOn, goes_on}
use Rattle.fss_defects.proofs.Unknown.{unknown_is_unused}

-- ---- a document

-- the tokens are a document, which may be
pub record IsDocument (tokens : List Token) : Type 0 where
  pub document : Document
  pub events : Events
  pub derives : DerivesOf class_of functional (Rule 0 ∷ []) tokens events
  pub does : Does events beginning (between document)
  pub declarable : AreDeclarable document.declarations
  pub limits : IsWithinLimits document.ontology

read_is_document : (bytes : List ℕ) (p : List Prefix) (o : Ontology) (h : ReadsFunctional bytes p o) → IsDocument (terms.tokens_of h.placed)
read_is_document bytes p o h =
    let it = spelled_is_done p (terms.tokens_of h.placed) o h.spells in
    record {
      document = record { declarations = h.spells.declarations; ontology = h.spells.written };
      events = it.events;
      derives = it.derives;
      does = it.does;
      declarable = h.spells.declarable;
      limits = limits_alike o h.spells.written (same_ontology_sym h.spells.written o h.spells.same) h.within;
    }

-- ---- steps

acts_end : (acts : List ℕ) (x : Token) (es : Events) → EndTaken es → EndTaken (map Do acts ++ Take x ∷ es)
acts_end [] x es h = h
acts_end (a ∷ []) x es h = h
acts_end (a ∷ b ∷ acts) x es h = acts_end (b ∷ acts) x es h

steps_end : (steps : List (Step Token)) → EndTaken (events_of steps)
steps_end [] = tt
steps_end (s ∷ steps) = acts_end s.acts s.token.token (events_of steps) (steps_end steps)

no_tokens : (acts : List ℕ) (es : Events) → tokens_of (map Do acts ++ es) ≡ tokens_of es
no_tokens [] es = refl
no_tokens (a ∷ acts) es = no_tokens acts es

acts_take_none : (acts : List ℕ) → tokens_of {X = Token} (map Do acts) ≡ []
acts_take_none [] = refl
acts_take_none (a ∷ acts) = acts_take_none acts

steps_take : (steps : List (Step Token)) (acts : List ℕ) → tokens_of (events_of steps ++ map Do acts) ≡ plain steps
steps_take [] acts = acts_take_none acts
steps_take (s ∷ steps) acts =
    ap (λ (l : Events). tokens_of l) (append_assoc (map Do s.acts) (Take s.token.token ∷ events_of steps) (map Do acts))
    ∙ no_tokens s.acts (Take s.token.token ∷ (events_of steps ++ map Do acts))
    ∙ ap (λ (l : List Token). s.token.token ∷ l) (steps_take steps acts)

plain_tokens : (steps : List (Step Token)) (others : List (Placed Token)) → terms.tokens_of (tokens_in steps ++ others) ≡ plain steps ++ terms.tokens_of others
plain_tokens [] others = refl
plain_tokens (s ∷ steps) others = ap (λ (l : List Token). s.token.token ∷ l) (plain_tokens steps others)

acts_lowered : (acts : List ℕ) → map (lower class_of) (map Do acts) ≡ map Do acts
acts_lowered [] = refl
acts_lowered (a ∷ acts) = ap (λ (l : List (Event ℕ)). Do a ∷ l) (acts_lowered acts)

front_lowered : (es : Events) (acts : List ℕ) (rest : List (Event ℕ)) → map (lower class_of) es ++ (map Do acts ++ rest) ≡ map (lower class_of) (es ++ map Do acts) ++ rest
front_lowered es acts rest =
    let low = map (lower class_of) es in
    sym (append_assoc low (map Do acts) rest)
    ∙ ap (λ (l : List (Event ℕ)). (low ++ l) ++ rest) (sym (acts_lowered acts))
    ∙ ap (λ (l : List (Event ℕ)). l ++ rest) (sym (map-append (lower class_of) es (map Do acts)))

-- ---- what comes next

abbrev first_of : List Token → Option Token
first_of [] = None
first_of (x ∷ xs) = Some x

next_is_first : (es : Events) → next_token es ≡ first_of (tokens_of es)
next_is_first [] = refl
next_is_first (Take x ∷ es) = refl
next_is_first (Do a ∷ es) = next_is_first es

comes_ahead : (rest : List (Event ℕ)) (more : List Token) → ComesNext rest (option_map class_of (first_of more)) → ahead own_class (tokens_of rest) ≡ ahead class_of more
comes_ahead [] [] h = refl
comes_ahead [] (x ∷ more) h = absurd (cc)
comes_ahead (Take c ∷ rest) [] h = absurd (cc)
comes_ahead (Take c ∷ rest) (x ∷ more) h = cc
comes_ahead (Do a ∷ rest) more h = absurd h

-- ---- what is refused

module _ (steps : List (Step Token)) (more : List Token) (it : IsDocument (plain steps ++ more)) where
  told_of_none : (acts : List ℕ) (f : TokenFault) (follow : MayFollow functional functional_rules (events_of steps) acts (first_of more)) (m : Maker) (later : Events) → next_token later ≡ first_of more → Runs (map Do acts ++ later) m (between it.document) → Told acts (first_of more) m f → ⊥
  told_of_none acts f follow m later e r (inl u) =
      unknown_is_unused follow.classes steps acts (first_of more) follow.rest later m (between it.document) follow.derives follow.comes e u.0 r
  told_of_none acts f follow m later e r (inr h) = fails_first it.document it.declarable it.limits acts (first_of more) m f later e h.1 r

  none_barred : (acts : List ℕ) (f : TokenFault) → MayFollow functional functional_rules (events_of steps) acts (first_of more) → Bars (events_of steps) acts (first_of more) f → ⊥
  none_barred acts f follow bars =
      let front = events_of steps ++ map Do acts in
      let on : GoesOn front more it.events =
      goes_on is_predictive document_followed follow.derives it.derives front follow.rest more (front_lowered (events_of steps) acts follow.rest)
      (ap (λ (l : List Token). l ++ more) (sym (steps_take steps acts))) (comes_ahead follow.rest more follow.comes) in
      let parts = on.events_are ∙ append_assoc (events_of steps) (map Do acts) on.rest in
      let runs = subst (λ (l : Events). Runs l beginning (between it.document)) parts (document_runs (plain steps ++ more) it.events (between it.document) it.derives it.does) in
      let here = runs_on (events_of steps) (map Do acts ++ on.rest) beginning bars.maker (between it.document) (steps_end steps) bars.does runs in
      told_of_none acts f follow bars.maker on.rest (next_is_first on.rest ∙ ap first_of on.takes) here bars.told

  classes_derive : Derives functional (Rule 0 ∷ []) (map class_of (plain steps) ++ map class_of more) (map (lower class_of) it.events)
  classes_derive = subst (λ (l : List ℕ). Derives functional (Rule 0 ∷ []) l (map (lower class_of) it.events)) (map-append class_of (plain steps) more) (lowered it.derives)

  begins_with : (x : Token) (others : List Token) → more ≡ x ∷ others → Begins functional (Rule 0 ∷ []) (map class_of (plain steps) ++ class_of x ∷ [])
  begins_with x others e = record {
    more = map class_of others;
    events = map (lower class_of) it.events;
    derives =
        subst (λ (l : List ℕ). Derives functional (Rule 0 ∷ []) l (map (lower class_of) it.events))
        (ap (λ (l : List Token). map class_of (plain steps) ++ map class_of l) e ∙ sym (append_assoc (map class_of (plain steps)) (class_of x ∷ []) (map class_of others)))
        classes_derive;
  }

  no_wrong_token : (x : Token) (all : List Token) → more ≡ all → first_of all ≡ Some x → (Begins functional (Rule 0 ∷ []) (map class_of (plain steps) ++ class_of x ∷ []) → ⊥) → ⊥
  no_wrong_token x [] e first never = cc
  no_wrong_token x (y ∷ others) e first never =
      let same : y ≡ x = cc in
      never (begins_with x others (subst (λ (z : Token). more ≡ z ∷ others) same e))

  no_wrong_end : (all : List Token) → more ≡ all → first_of all ≡ None → ((events : List (Event ℕ)) → Derives functional (Rule 0 ∷ []) (map class_of (plain steps)) events → ⊥) → ⊥
  no_wrong_end [] e first never =
      never (map (lower class_of) it.events)
      (subst (λ (l : List ℕ). Derives functional (Rule 0 ∷ []) l (map (lower class_of) it.events))
      (ap (λ (l : List Token). map class_of (plain steps) ++ map class_of l) e ∙ append-nil (map class_of (plain steps))) classes_derive)
  no_wrong_end (y ∷ others) e first never = cc

  pub none_refused : (at : ℕ) (next : Option (Placed Token)) (refusal : ReadFault) → token_in next ≡ first_of more → IsRefused functional functional_rules steps at next refusal → ⊥
  none_refused at next refusal same (wrong_token p begins e never b is) = no_wrong_token p.token more refl (sym same ∙ ap token_in e) never
  none_refused at next refusal same (wrong_end begins e never b is) = no_wrong_end more refl (sym same ∙ ap token_in e) never
  none_refused at next refusal same (barred acts f told follow bars is) =
      none_barred acts f (subst (MayFollow functional functional_rules (events_of steps) acts) same follow)
      (subst (λ (x : Option Token). Bars (events_of steps) acts x f) same bars)

-- ---- bytes

one_fault : (fault : LexFault) → Some fault ≡ None → ⊥
one_fault fault e = cc

none_has_defect : SplitOneWay → (bytes : List ℕ) (fault : ReadFault) (p : List Prefix) (o : Ontology) → ReadsFunctional bytes p o → HasDefect Spells functional functional_rules bytes fault → ⊥
none_has_defect split bytes fault p o h (at_token steps x others ending splits begin refused) =
    let same = (split bytes h.placed (tokens_in steps ++ x ∷ others) None ending h.splits splits).0 in
    let tokens = ap terms.tokens_of same ∙ plain_tokens steps (x ∷ others) in
    none_refused steps (x.token ∷ terms.tokens_of others) (subst IsDocument tokens (read_is_document bytes p o h)) x.at (Some x) fault refl refused
none_has_defect split bytes fault p o h (at_end steps splits begin refused) =
    let same = (split bytes h.placed (tokens_in steps) None None h.splits splits).0 in
    let tokens = ap terms.tokens_of (same ∙ sym (append-nil (tokens_in steps))) ∙ plain_tokens steps [] in
    none_refused steps [] (subst IsDocument tokens (read_is_document bytes p o h)) (length bytes) None fault refl refused
none_has_defect split bytes fault p o h (no_token steps lexing splits begin is) =
    one_fault lexing (split bytes (tokens_in steps) h.placed (Some lexing) None splits h.splits).1

pub defect_is_of_none : SplitOneWay → (bytes : List ℕ) (fault : ReadFault) (p : List Prefix) (o : Ontology) → IsFirstDefect bytes fault → ReadsFunctional bytes p o → ⊥
defect_is_of_none split bytes fault p o (within few defect) h =
    none_has_defect split bytes fault p o h (defect_alike page_to_table defect)
defect_is_of_none split bytes fault p o (beyond many defect) h = let few = h.few in omega (arith, many, few)
defect_is_of_none split bytes fault p o (too_long many is none) h = let few = h.few in omega (arith, many, few)
