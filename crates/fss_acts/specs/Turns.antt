-- Acts in turn, in front of one token.
use Rattle.std.specs.Prelude.{◌≡◌, ◌≢◌, ℕ, List, [], ◌∷◌, Option, Result, Ok, Err}
use Rattle.owl_reader.specs.declared.fault.TokenFault.{TokenFault}
use Rattle.owl_reader.specs.declared.fault.TokenFault.TheVariants as fault
use Rattle.owl_tokens.specs.declared.token.Token.{Token}
use Rattle.fss_grammar.specs.Acts.{act_number}
use Rattle.fss_grammar.specs.Doing.{Acts}
use Rattle.fss_grammar.specs.DoingLaws.{ActInTurn}
use Rattle.fss_grammar.specs.Making.{Maker}
use Rattle.fss_grammar.specs.Ready.{IsReady}
use Rattle.fss_grammar.specs.declared.acts.Act.{Act}
use Rattle.fss_acts.specs.declared.assembler.Assembler.{Assembler}
use Rattle.fss_acts.specs.Assembling.{Assembles}
use Rattle.fss_defects.specs.Faults.{FailsFirst, Told}

-- Each is ready in its turn.
abbrev pub AreReady : List ℕ → Option Token → Maker → Type 0
AreReady [] next m = Unit {0}
AreReady (a ∷ acts) next m =
    (act : Act) × (act_number act ≡ a) × IsReady act next m × ((n : Maker) → Acts act next m n → AreReady acts next n)

-- what is wrong with acts in front of a token
abbrev pub Faults : Type 1
Faults = List ℕ → Option Token → Maker → TokenFault → Type 0

-- the acts made this of a maker, and nothing was wrong with them
pub record Taken (AreAtFault : Faults) (acts : List ℕ) (next : Option Token) (m : Maker) (new : Assembler) : Type 0 where
  pub maker : Maker
  pub act : ActInTurn acts next m maker
  pub assembles : Assembles new maker
  pub free : (f : TokenFault) → AreAtFault acts next m f → ⊥

abbrev pub AnswersTurnsAt : Faults → List ℕ → Option Token → Maker → Result (Unit {0}) TokenFault → Assembler → Type 0
AnswersTurnsAt AreAtFault acts next m (Ok done) new = Taken AreAtFault acts next m new
AnswersTurnsAt AreAtFault acts next m (Err f) new = f ≢ fault.Memory → AreAtFault acts next m f

-- Wherever the grammar has the acts, they are done, or what is wrong with them is told, or there is no memory.
abbrev pub AnswersTurns : Faults → List ℕ → Option Token → Assembler → Result (Unit {0}) TokenFault → Assembler → Type 0
AnswersTurns AreAtFault acts next old r new =
    (m : Maker) → Assembles old m → AreReady acts next m → AnswersTurnsAt AreAtFault acts next m r new

-- the first act that fails is told
abbrev pub AnswersAll : List ℕ → Option Token → Assembler → Result (Unit {0}) TokenFault → Assembler → Type 0
AnswersAll = AnswersTurns FailsFirst

-- the same, where an unknown prefix is told before all else
abbrev pub AnswersToken : List ℕ → Option Token → Assembler → Result (Unit {0}) TokenFault → Assembler → Type 0
AnswersToken = AnswersTurns Told
