-- What a reader makes of steps.
use Rattle.std.proofs.Common.{◌≡◌, ◌≢◌, ℕ, List, Option, None, Some, Result, Ok, Err, ap, ◌∙◌}
use Rattle.std.specs.Prelude.{IfErr, OnOk}
use Rattle.owl_lexer.specs.declared.placed.Placed.{Placed}
use Rattle.owl_reader.specs.Computing.{TurnsTo}
use Rattle.owl_reader.specs.Following.{GoesOn}
use Rattle.owl_reader.specs.Steps.{Step}
use Rattle.owl_reader.specs.declared.fault.TokenFault.{TokenFault}
use Rattle.owl_reader.specs.declared.fault.TokenFault.TheVariants.{Memory}
use Rattle.owl_tokens.specs.declared.token.Token.{Token}
use Rattle.man_grammar.proofs.RunLaws.{run_more}
use Rattle.man_grammar.specs.Rules.{Bars}
use Rattle.man_grammar.specs.Runs.{all_done, answer}
use Rattle.man_grammar.specs.States.{State, and_then}
use Rattle.man_read.specs.Showing.{Made, Shows, Whole}
use Rattle.man_read.specs.declared.assembler.Assembler.{Assembler}

-- what is answered behind the steps that made an assembler
answer_is : (steps : List (Step Token)) (acts : List ℕ) (next : Option (Placed Token)) (a : Assembler) (m : Made steps a) → answer steps acts next ≡ all_done acts next m.state
answer_is steps acts next a m = ap (λ r. and_then r (λ state. all_done acts next state)) m.runs

-- the acts were done from what is shown
abbrev pub Does : List ℕ → Option (Placed Token) → Assembler → Assembler → Result (Unit {0}) TokenFault → Type 0
Does acts next old new r = (state : State) → Shows old state → TurnsTo Shows r new (all_done acts next state)

goes_on_by : (steps : List (Step Token)) (acts : List ℕ) (next : Option (Placed Token)) (old new : Assembler) (m : Made steps old) → TurnsTo Shows (Ok tt) new (all_done acts next m.state) → GoesOn Made Whole steps acts next new
goes_on_by steps acts (Some p) old new m h = record {
  state = h.0;
  runs = run_more steps (record { acts = acts; token = p }) ∙ answer_is steps acts (Some p) old m ∙ h.1;
  shows = h.2;
}
goes_on_by steps acts None old new m h = record {
  state = h.0;
  ends = answer_is steps acts None old m ∙ h.1;
  shows = h.2;
}

pub goes_on : (F : List (Step Token) → Type 0) (acts : List ℕ) (next : Option (Placed Token)) (old new : Assembler) (r : Result (Unit {0}) TokenFault) → Does acts next old new r → OnOk r ((steps : List (Step Token)) → Made steps old → F steps → GoesOn Made Whole steps acts next new)
goes_on F acts next old new (Ok done) h = λ steps m f. goes_on_by steps acts next old new m (h m.state m.shows)
goes_on F acts next old new (Err fault) h = tt

ok_and_err : (r : Result State TokenFault) (s : State) (f : TokenFault) → r ≡ Ok s → r ≡ Err f → ⊥
ok_and_err r s f e k = cc

pub is_free : (F : List (Step Token) → Type 0) (acts : List ℕ) (next : Option (Placed Token)) (old new : Assembler) (r : Result (Unit {0}) TokenFault) → Does acts next old new r → OnOk r ((steps : List (Step Token)) → Made steps old → F steps → (fault : TokenFault) → Bars steps acts next fault → ⊥)
is_free F acts next old new (Ok done) h = λ steps m f fault bars.
    let it = h m.state m.shows in
    ok_and_err (answer steps acts next) it.0 fault (answer_is steps acts next old m ∙ it.1) bars
is_free F acts next old new (Err fault) h = tt

pub is_barred : (F : List (Step Token) → Type 0) (acts : List ℕ) (next : Option (Placed Token)) (old new : Assembler) (r : Result (Unit {0}) TokenFault) → Does acts next old new r → IfErr r (λ fault. fault ≢ Memory → (steps : List (Step Token)) → Made steps old → F steps → Bars steps acts next fault)
is_barred F acts next old new (Ok done) h = tt
is_barred F acts next old new (Err fault) h = λ other steps m f. answer_is steps acts next old m ∙ h m.state m.shows other
