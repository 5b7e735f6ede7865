-- What a document of Manchester Syntax says before the kinds of names are known (sections 2.1 to 2.6).
use Rattle.std.specs.Prelude.{◌≡◌, ◌≤◌, ℕ, List, [], ◌∷◌, ◌++◌, length, map, reverse, None, Ok}
use Rattle.grammar.specs.Derivations.{DerivesOf}
use Rattle.grammar.specs.Derivations.Event.{Do}
use Rattle.grammar.specs.declared.symbol.Symbol.TheVariants.{Rule}
use Rattle.man_raw.specs.Documents.{DocumentTree}
use Rattle.owl_atom.specs.Prefixes.{prefix_in}
use Rattle.owl_atom.specs.declared.prefixes.Prefix.{Prefix}
use Rattle.owl_characters.specs.Limit.{most_bytes}
use Rattle.owl_lexer.specs.Splitting.{Splits}
use Rattle.owl_reader.specs.Defects as defects
use Rattle.owl_reader.specs.Steps.{Step, events_of, plain, tokens_in}
use Rattle.owl_reader.specs.declared.fault.ReadFault.{ReadFault}
use Rattle.owl_tokens.specs.ManchesterSpellings.{SpellsManchester}
use Rattle.owl_tokens.specs.declared.token.Token.{Token}
use Rattle.man_grammar.specs.Classes.{class_of}
use Rattle.man_grammar.specs.Page.{manchester_page}
use Rattle.man_grammar.specs.Rules.{manchester_rules}
use Rattle.man_grammar.specs.Runs.{answer}
use Rattle.man_grammar.specs.States.{State}

-- two lists of prefixes give each name the same
abbrev pub AreSamePrefixes : List Prefix → List Prefix → Type 0
AreSamePrefixes ps qs = (name : List ℕ) → prefix_in ps name ≡ prefix_in qs name

-- the document that was read where its tokens have ended
pub record IsReadTo (document : DocumentTree) (state : State) : Type 0 where
  pub prefixes : AreSamePrefixes document.prefixes state.names.prefixes
  pub head : document.head ≡ state.head
  pub notes : document.notes ≡ state.notes
  pub items : document.items ≡ reverse state.listing.items

-- The tokens are this document: they derive by the grammar, and the acts of the derivation, done in turn, give it.
pub record SpellsDocument (document : DocumentTree) (steps : List (Step Token)) : Type 0 where
  pub acts : List ℕ
  pub derives : DerivesOf class_of manchester_page (Rule manchester_rules.document ∷ []) (plain steps) (events_of steps ++ map Do acts)
  pub state : State
  pub says : answer steps acts None ≡ Ok state
  pub is : IsReadTo document state

-- the bytes are this document
pub record ReadsManchester (bytes : List ℕ) (document : DocumentTree) : Type 0 where
  pub steps : List (Step Token)
  pub few : length bytes ≤ most_bytes
  pub splits : Splits SpellsManchester bytes (tokens_in steps) None
  pub spells : SpellsDocument document steps

-- two documents say the same, and give each prefix the same
pub record AreSameDocuments (d e : DocumentTree) : Type 0 where
  pub prefixes : AreSamePrefixes d.prefixes e.prefixes
  pub head : d.head ≡ e.head
  pub notes : d.notes ≡ e.notes
  pub items : d.items ≡ e.items

-- the first defect of bytes that are none
abbrev pub IsFirstDefect : List ℕ → ReadFault → Type 0
IsFirstDefect bytes fault = defects.IsFirstDefect SpellsManchester manchester_page manchester_rules bytes fault
