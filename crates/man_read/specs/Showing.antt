-- How what a reader holds stands to the state of a document.
use Rattle.std.specs.Prelude.{◌≡◌, ℕ, List, None, Ok}
use Rattle.owl_reader.specs.Steps.{Step}
use Rattle.owl_tokens.specs.declared.token.Token.{Token}
use Rattle.man_grammar.specs.Runs.{answer, run}
use Rattle.man_grammar.specs.States.{State}
use Rattle.man_raw.specs.Documents.{HeadTree}
use Rattle.man_raw.specs.declared.document.RawHead.{RawHead}
use Rattle.man_read.specs.NameTables.{AreNames}
use Rattle.man_read.specs.declared.assembler.Assembler.{Assembler}

abbrev pub head_of : RawHead → HeadTree
head_of head = record { iri = head.iri; version = head.version; imports = head.imports.items }

pub record Shows (assembler : Assembler) (state : State) : Type 0 where
  pub names : AreNames assembler.names state.names
  pub form_at : assembler.form_at ≡ state.form_at
  pub form : assembler.form ≡ state.form
  pub opening : assembler.opened ≡ state.opening
  pub head : head_of assembler.head ≡ state.head
  pub notes : assembler.notes.items ≡ state.notes
  pub listing : assembler.listed ≡ state.listing

-- these steps lead to what is shown
pub record Made (steps : List (Step Token)) (assembler : Assembler) : Type 0 where
  pub state : State
  pub runs : run steps ≡ Ok state
  pub shows : Shows assembler state

-- these are all steps, and the last acts, and they lead to what is shown
pub record Whole (steps : List (Step Token)) (acts : List ℕ) (assembler : Assembler) : Type 0 where
  pub state : State
  pub ends : answer steps acts None ≡ Ok state
  pub shows : Shows assembler state
