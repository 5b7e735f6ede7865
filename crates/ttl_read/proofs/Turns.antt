-- Acts in turn, and what a reader makes of them.
use Rattle.std.proofs.Common.{◌≡◌, ◌≢◌, ℕ, Bool, true, false, List, [], ◌∷◌, ◌++◌, map, Option, None, Some, Result, Ok, Err, sym, ap, ◌∙◌}
use Rattle.std.specs.Prelude.{IfErr, IfSome, OnOk, is_some, nat_lt, not, length, if◌then◌else◌}
use Rattle.std.proofs.lemmas.Bool.{true≢false}
use Rattle.std.proofs.lemmas.List.{append_assoc}
use Rattle.grammar.specs.Derivations.{Event}
use Rattle.grammar.specs.Derivations.Event.{Do, Take}
use Rattle.owl_lexer.specs.declared.placed.Placed.{Placed}
use Rattle.owl_reader.proofs.EventLaws.{EventsGoOn}
use Rattle.owl_reader.specs.Steps.{token_in}
use Rattle.owl_reader.specs.declared.fault.TokenFault.{TokenFault}
use Rattle.owl_reader.specs.declared.fault.TokenFault.TheVariants.{Memory, TooMany}
use Rattle.ttl_tokens.proofs.TokenFormLaws.{tokens_formed}
use Rattle.ttl_tokens.specs.TokenForms.{IsFormed}
use Rattle.ttl_tokens.specs.TurtleSpellings.{Spells}
use Rattle.ttl_tokens.specs.declared.token.Token.{Token}
use Rattle.rdf_graph.specs.Graphs.{most_triples}
use Rattle.ttl_grammar.specs.Labels.{graph_of}
use Rattle.ttl_grammar.proofs.RunLaws.{run_acts, run_last, run_nothing}
use Rattle.ttl_grammar.specs.Runs.{all_done, and_then, answer, limited, run}
use Rattle.ttl_grammar.specs.States.{State, start}
use Rattle.owl_reader.specs.Computing.{TurnsTo}
use Rattle.ttl_read.specs.Showing.{Made, Shows, TakesNext, Whole}
use Rattle.ttl_read.specs.declared.assembler.Assembler.{Assembler}

-- ---- tokens

pub next_formed : (next : Option (Placed Token)) → IfSome next (λ p. (spelling : List ℕ) × Spells p.token spelling) → IfSome (token_in next) IsFormed
next_formed None h = tt
next_formed (Some p) h = tokens_formed p.token h.0 h.1

-- ---- behind the events that made an assembler

-- what is answered in front of a token or of the end
abbrev wanted : List ℕ → Option Token → State → Result State TokenFault
wanted acts (Some x) state = all_done acts (Some x) state
wanted acts None state = and_then (all_done acts None state) limited

answer_is : (base : Option (List ℕ)) (events : List (Event Token)) (acts : List ℕ) (next : Option Token) (a : Assembler) (m : Made base events a) → answer base events acts next ≡ wanted acts next m.state
answer_is base events acts (Some x) a m =
    m.leads (map Do acts ++ Take x ∷ []) ∙ run_acts acts x [] (Ok m.state) ∙ run_nothing (all_done acts (Some x) m.state)
answer_is base events acts None a m = ap (λ r. and_then r limited) (m.leads (map Do acts) ∙ run_last acts (Ok m.state))

-- a run within the limit is the run
limited_by : (state t : State) (many : Bool) → (if many then Err TooMany else Ok state) ≡ Ok t → state ≡ t
limited_by state t true e = absurd (cc)
limited_by state t false e = cc

limited_is : (state t : State) → limited state ≡ Ok t → state ≡ t
limited_is state t e = limited_by state t (nat_lt most_triples (length (graph_of state.facts.triples))) e

within : (r : Result State TokenFault) (t : State) → and_then r limited ≡ Ok t → r ≡ Ok t
within (Ok s) t e = ap Ok (limited_is s t e)
within (Err fault) t e = absurd (cc)

goes_on_by : (base : Option (List ℕ)) (events : List (Event Token)) (acts : List ℕ) (next : Option Token) (old new : Assembler) (m : Made base events old) → TakesNext acts next m.state (Ok tt) new → EventsGoOn (Made base) (Whole base) events acts next new
goes_on_by base events acts (Some x) old new m h = record {
  state = h.0;
  leads = λ more.
      ap (λ l. run l (start base)) (append_assoc events (map Do acts ++ Take x ∷ []) more ∙ ap (λ l. events ++ l) (append_assoc (map Do acts) (Take x ∷ []) more))
      ∙ m.leads (map Do acts ++ Take x ∷ more) ∙ run_acts acts x more (Ok m.state) ∙ ap (λ r. and_then r (λ s. run more s)) h.1;
  shows = h.2;
}
goes_on_by base events acts None old new m h = record {
  state = h.0;
  ends = m.leads (map Do acts) ∙ run_last acts (Ok m.state) ∙ within (all_done acts None m.state) h.0 h.1;
  holds = h.2;
}

-- ---- the clauses of a syntax

pub goes_on : (base : Option (List ℕ)) (F : List (Event Token) → Type 0) (acts : List ℕ) (next : Option Token) (old new : Assembler) (r : Result (Unit {0}) TokenFault) → ((state : State) → Shows old state → TakesNext acts next state r new) → OnOk r ((events : List (Event Token)) → Made base events old → F events → EventsGoOn (Made base) (Whole base) events acts next new)
goes_on base F acts next old new (Ok done) h = λ events m f. goes_on_by base events acts next old new m (h m.state m.shows)
goes_on base F acts next old new (Err fault) h = tt

wanted_ok : (acts : List ℕ) (next : Option Token) (state : State) (new : Assembler) → TakesNext acts next state (Ok tt) new → (t : State) × (wanted acts next state ≡ Ok t)
wanted_ok acts (Some x) state new h = (h.0, h.1)
wanted_ok acts None state new h = (h.0, h.1)

wanted_err : (acts : List ℕ) (next : Option Token) (state : State) (fault : TokenFault) (new : Assembler) → TakesNext acts next state (Err fault) new → fault ≢ Memory → wanted acts next state ≡ Err fault
wanted_err acts (Some x) state fault new h = h
wanted_err acts None state fault new h = h

ok_not_err : (r : Result State TokenFault) (t : State) (fault : TokenFault) → r ≡ Ok t → r ≡ Err fault → ⊥
ok_not_err r t fault e f = cc

pub is_free : (base : Option (List ℕ)) (F : List (Event Token) → Type 0) (acts : List ℕ) (next : Option Token) (old new : Assembler) (r : Result (Unit {0}) TokenFault) → ((state : State) → Shows old state → TakesNext acts next state r new) → OnOk r ((events : List (Event Token)) → Made base events old → F events → (fault : TokenFault) → answer base events acts next ≡ Err fault → ⊥)
is_free base F acts next old new (Ok done) h = λ events m f fault e.
    let it = wanted_ok acts next m.state new (h m.state m.shows) in
    ok_not_err (answer base events acts next) it.0 fault (answer_is base events acts next old m ∙ it.1) e
is_free base F acts next old new (Err fault) h = tt

pub is_barred : (base : Option (List ℕ)) (F : List (Event Token) → Type 0) (acts : List ℕ) (next : Option Token) (old new : Assembler) (r : Result (Unit {0}) TokenFault) → ((state : State) → Shows old state → TakesNext acts next state r new) → IfErr r (λ fault. fault ≢ Memory → (events : List (Event Token)) → Made base events old → F events → answer base events acts next ≡ Err fault)
is_barred base F acts next old new (Ok done) h = tt
is_barred base F acts next old new (Err fault) h = λ other events m f.
    answer_is base events acts next old m ∙ wanted_err acts next m.state fault new (h m.state m.shows) other

-- where a token comes, the acts are all
pub token_taken : (acts : List ℕ) (next : Option Token) (state : State) (new : Assembler) (r : Bool) → is_some next ≡ not r → r ≡ false → TurnsTo Shows (Ok tt) new (all_done acts next state) → TakesNext acts next state (Ok tt) new
token_taken acts None state new r e f h = absurd (true≢false (sym (e ∙ ap not f)))
token_taken acts (Some x) state new r e f h = h
