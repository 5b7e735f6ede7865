-- Bytes with a defect are no document.
use Rattle.std.proofs.Common.{◌≡◌, ◌≤◌, ℕ, Bool, true, false, List, [], ◌∷◌, ◌++◌, length, map, Option, None, Result, Ok, Err, append_assoc, refl, sym, ap, ◌∙◌, subst, arith}
use Rattle.std.specs.Prelude.{nat_lt, if◌then◌else◌}
use Rattle.grammar.specs.Derivations.{DerivesOf, Event}
use Rattle.grammar.specs.Derivations.Event.{Do, Take}
use Rattle.grammar.proofs.AlikeLaws.{derives_alike}
use Rattle.grammar.specs.Lowering as lowering
use Rattle.grammar.proofs.LoweringLaws.{taken}
use Rattle.grammar.specs.declared.symbol.Symbol.TheVariants.{Rule}
use Rattle.owl_atom.specs.declared.prefixes.Prefix.{Prefix}
use Rattle.owl_lexer.specs.Splitting.{Splits}
use Rattle.owl_lexer.specs.declared.placed.Placed.{Placed}
use Rattle.owl_reader.proofs.AlikeLaws.{defect_alike}
use Rattle.owl_reader.proofs.EventLaws.{events_with}
use Rattle.owl_reader.proofs.NoDefectLaws.{read_has_no_defect}
use Rattle.owl_reader.specs.Defects.{NoneBarred}
use Rattle.owl_reader.specs.Defects.IsFirstDefect.{beyond, too_long, within}
use Rattle.owl_reader.specs.Events.{WholeByEvents}
use Rattle.owl_reader.specs.Readings.{IsRead}
use Rattle.owl_reader.specs.Steps.{Step, events_of, plain, tokens_in}
use Rattle.owl_reader.specs.declared.fault.ReadFault.{ReadFault}
use Rattle.owl_reader.specs.declared.fault.TokenFault.{TokenFault}
use Rattle.owl_reader.specs.declared.fault.TokenFault.TheVariants.{TooMany}
use Rattle.rdf_graph.specs.Graphs.{most_triples}
use Rattle.rdf_graph.specs.declared.triple.Triple.{Triple}
use Rattle.ttl_tokens.specs.TurtleSpellings as tokens
use Rattle.ttl_tokens.specs.declared.token.Token.{Token}
use Rattle.ttl_grammar.specs.Classes.{class_of}
use Rattle.ttl_grammar.proofs.DocumentLaws.{is_predictive, splits_one_way}
use Rattle.ttl_grammar.specs.Documents.{IsFirstDefect, ReadsTurtle, tokens_of}
use Rattle.ttl_grammar.specs.Labels.{graph_of}
use Rattle.ttl_grammar.proofs.PageLaws.{page_to_table}
use Rattle.ttl_grammar.specs.Rules.{turtle_rules}
use Rattle.ttl_grammar.proofs.RunLaws.{run_steps}
use Rattle.ttl_grammar.specs.Runs.{and_then, limited, run}
use Rattle.ttl_grammar.specs.StartLaws.{has_document}
use Rattle.ttl_grammar.specs.States.{State, start}
use Rattle.ttl_grammar.specs.Table.{turtle}

-- ---- events as steps

-- tokens with their places, each with the acts in front of it, and the last acts
record Stepped (placed : List (Placed Token)) (events : List (Event Token)) : Type 0 where
  steps : List (Step Token)
  acts : List ℕ
  tokens_are : tokens_in steps ≡ placed
  events_are : events ≡ events_of steps ++ map Do acts

with_act : (a : ℕ) (placed : List (Placed Token)) (es : List (Event Token)) (steps : List (Step Token)) (acts : List ℕ) → tokens_in steps ≡ placed → es ≡ events_of steps ++ map Do acts → Stepped placed (Do a ∷ es)
with_act a placed es [] acts t e = record {
  steps = [];
  acts = a ∷ acts;
  tokens_are = t;
  events_are = ap (λ (l : List (Event Token)). Do a ∷ l) e;
}
with_act a placed es (s ∷ steps) acts t e = record {
  steps = record { acts = a ∷ s.acts; token = s.token } ∷ steps;
  acts = acts;
  tokens_are = t;
  events_are = ap (λ (l : List (Event Token)). Do a ∷ l) e;
}

with_token : (x : Token) (p : Placed Token) (placed : List (Placed Token)) (es : List (Event Token)) → x ≡ p.token → Stepped placed es → Stepped (p ∷ placed) (Take x ∷ es)
with_token x p placed es same it = record {
  steps = record { acts = []; token = p } ∷ it.steps;
  acts = it.acts;
  tokens_are = ap (λ (l : List (Placed Token)). p ∷ l) it.tokens_are;
  events_are = λ i. Take (same i) ∷ it.events_are i;
}

stepped : (placed : List (Placed Token)) (es : List (Event Token)) → lowering.tokens_of es ≡ tokens_of placed → Stepped placed es
stepped [] [] e = record { steps = []; acts = []; tokens_are = refl; events_are = refl }
stepped (p ∷ placed) [] e = absurd (cc)
stepped [] (Take x ∷ es) e = absurd (cc)
stepped (p ∷ placed) (Take x ∷ es) e = with_token x p placed es (cc) (stepped placed es (cc))
stepped placed (Do a ∷ es) e =
    let it = stepped placed es e in
    with_act a placed es it.steps it.acts it.tokens_are it.events_are

plain_tokens : (steps : List (Step Token)) → tokens_of (tokens_in steps) ≡ plain steps
plain_tokens [] = refl
plain_tokens (s ∷ steps) = ap (λ (l : List Token). s.token.token ∷ l) (plain_tokens steps)

-- ---- no act of a document is barred

events_in_parts : (before : List (Step Token)) (s : Step Token) (after : List (Step Token)) (more : List (Event Token)) → events_of (before ++ s ∷ after) ++ more ≡ events_of (before ++ s ∷ []) ++ (events_of after ++ more)
events_in_parts [] s after more =
    append_assoc (map Do s.acts) (Take s.token.token ∷ events_of after) more
    ∙ sym (append_assoc (map Do s.acts) (Take s.token.token ∷ []) (events_of after ++ more))
events_in_parts (t ∷ before) s after more =
    append_assoc (map Do t.acts) (Take t.token.token ∷ events_of (before ++ s ∷ after)) more
    ∙ ap (λ (l : List (Event Token)). map Do t.acts ++ Take t.token.token ∷ l) (events_in_parts before s after more)
    ∙ sym (append_assoc (map Do t.acts) (Take t.token.token ∷ events_of (before ++ s ∷ [])) (events_of after ++ more))

-- the fault of a front is that of the whole
front_fails : (base : Option (List ℕ)) (front : List (Step Token)) (more : List (Event Token)) (state : State) (f : TokenFault) → run (events_of front ++ more) (start base) ≡ Ok state → run (events_of front) (start base) ≡ Err f → ⊥
front_fails base front more state f h e =
    let whole = run_steps front more (Ok (start base)) ∙ ap (λ (r : Result State TokenFault). and_then r (λ s. run more s)) e in
    cc

module _ (base : Option (List ℕ)) (steps : List (Step Token)) (acts : List ℕ) (state : State) (runs : run (events_of steps ++ map Do acts) (start base) ≡ Ok state) where
  none_barred : NoneBarred (turtle_rules base) steps
  none_barred before after s f parts bars =
      let front = before ++ s ∷ [] in
      let cut = ap (λ (l : List (Step Token)). events_of l ++ map Do acts) parts ∙ events_in_parts before s after (map Do acts) in
      front_fails base front (events_of after ++ map Do acts) state f (sym (ap (λ (l : List (Event Token)). run l (start base)) cut) ∙ runs)
      (ap (λ (l : List (Event Token)). run l (start base)) (events_with before s) ∙ bars)

-- ---- nor at the end

limited_by : (state : State) (f : TokenFault) (many : Bool) → many ≡ false → (if many then Err TooMany else Ok state) ≡ Err f → ⊥
limited_by state f true few e = absurd (cc)
limited_by state f false few e = cc

few_is : (m n : ℕ) → n ≤ m → nat_lt m n ≡ false
few_is m n h = grind arith

end_is_free : (base : Option (List ℕ)) (events : List (Event Token)) (state : State) (f : TokenFault) → run events (start base) ≡ Ok state → length (graph_of state.facts.triples) ≤ most_triples → and_then (run events (start base)) limited ≡ Err f → ⊥
end_is_free base events state f runs few e =
    limited_by state f (nat_lt most_triples (length (graph_of state.facts.triples))) (few_is most_triples (length (graph_of state.facts.triples)) few)
    (sym (ap (λ (r : Result State TokenFault). and_then r limited) runs) ∙ e)

-- ---- a document is read

-- events of a document lead to a state
abbrev LeadTo : Option (List ℕ) → List (Event Token) → State → Type 0
LeadTo base events state = run events (start base) ≡ Ok state

read_is_read : (base : Option (List ℕ)) (bytes : List ℕ) (p : List Prefix) (g : List Triple) (d : ReadsTurtle base bytes p g) → IsRead tokens.Spells turtle (turtle_rules base) (WholeByEvents (LeadTo base)) bytes d.spells.state
read_is_read base bytes p g d =
    let it = stepped d.placed d.spells.events (taken d.spells.derives) in
    let runs = sym (ap (λ (l : List (Event Token)). run l (start base)) it.events_are) ∙ d.spells.states in
    let same = ap tokens_of (sym it.tokens_are) ∙ plain_tokens it.steps in
    let derives = subst (λ (l : List Token). DerivesOf class_of turtle (Rule (turtle_rules base).document ∷ []) l d.spells.events) same (derives_alike page_to_table d.spells.derives) in
    record {
      steps = it.steps;
      few = d.few;
      splits = subst (λ (l : List (Placed Token)). Splits tokens.Spells bytes l None) (sym it.tokens_are) d.splits;
      none_barred = none_barred base it.steps it.acts d.spells.state runs;
      ends = record {
        acts = it.acts;
        derives = subst (DerivesOf class_of turtle (Rule (turtle_rules base).document ∷ []) (plain it.steps)) it.events_are derives;
        made_by = runs;
        free = λ f. end_is_free base (events_of it.steps ++ map Do it.acts) d.spells.state f runs (subst (λ (ts : List Triple). length ts ≤ most_triples) d.spells.graph_is d.spells.few);
      };
    }

pub defect_is_of_none : (base : Option (List ℕ)) (bytes : List ℕ) (fault : ReadFault) (p : List Prefix) (g : List Triple) → IsFirstDefect base bytes fault → ReadsTurtle base bytes p g → ⊥
defect_is_of_none base bytes fault p g (within few defect) d =
    read_has_no_defect is_predictive (has_document base) splits_one_way bytes fault (read_is_read base bytes p g d) (defect_alike page_to_table defect)
defect_is_of_none base bytes fault p g (beyond many defect) d = let few = d.few in omega (arith, many, few)
defect_is_of_none base bytes fault p g (too_long many is none) d = let few = d.few in omega (arith, many, few)
