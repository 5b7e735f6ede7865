-- How what a reader holds stands to the state of a parser of Turtle.
use Rattle.std.specs.Prelude.{◌≡◌, ◌≤◌, ◌++◌, ℕ, List, Option, None, Some, Result, Ok, length}
use Rattle.grammar.specs.Derivations.{Event}
use Rattle.owl_reader.specs.declared.fault.TokenFault.{TokenFault}
use Rattle.rdf_graph.specs.Graphs.{most_triples}
use Rattle.ttl_tokens.specs.declared.token.Token.{Token}
use Rattle.ttl_grammar.specs.Labels.{graph_of}
use Rattle.ttl_grammar.specs.Runs.{all_done, and_then, limited, run}
use Rattle.ttl_grammar.specs.States.{State, start}
use Rattle.owl_reader.specs.Computing.{TurnsTo}
use Rattle.ttl_read.specs.Keeping.{AreSame, most_nodes}
use Rattle.ttl_read.specs.NameTables.{AreNames}
use Rattle.ttl_read.specs.declared.assembler.Assembler.{Assembler}

pub record Shows (assembler : Assembler) (state : State) : Type 0 where
  pub names : AreNames assembler.names state.names
  pub form : assembler.form ≡ state.form
  pub facts : AreSame assembler.facts state.facts
  pub counted : length state.facts.triples ≤ assembler.stated
  pub few : assembler.stated ≤ most_nodes

-- Against a base these events lead to what is shown, whatever follows them.
pub record Made (base : Option (List ℕ)) (events : List (Event Token)) (assembler : Assembler) : Type 0 where
  pub state : State
  pub leads : (more : List (Event Token)) → run (events ++ more) (start base) ≡ run more state
  pub shows : Shows assembler state

-- the document has ended: this is the graph that it says
pub record Holds (assembler : Assembler) (state : State) : Type 0 where
  pub names : AreNames assembler.names state.names
  pub graph : assembler.graph ≡ graph_of state.facts.triples
  pub few : length (graph_of state.facts.triples) ≤ most_triples

-- These are all events, and what is held is what they state.
pub record Whole (base : Option (List ℕ)) (events : List (Event Token)) (assembler : Assembler) : Type 0 where
  pub state : State
  pub ends : run events (start base) ≡ Ok state
  pub holds : Holds assembler state

-- behind acts in front of a token, or in front of the end
abbrev pub TakesNext : List ℕ → Option Token → State → Result Unit TokenFault → Assembler → Type 0
TakesNext acts (Some x) state result new = TurnsTo Shows result new (all_done acts (Some x) state)
TakesNext acts None state result new = TurnsTo Holds result new (and_then (all_done acts None state) limited)
