-- The alternatives of the grammar that brackets and collections take, and their signs.
use Rattle.std.proofs.Common.{◌≡◌, ℕ, List, [], ◌∷◌, codes, refl}
use Rattle.grammar.specs.Grammars.Among.{here, behind}
use Rattle.grammar.specs.declared.symbol.Symbol.TheVariants.{Act, Need, Rule}
use Rattle.ttl_grammar.specs.Classes.{class_of}
use Rattle.ttl_grammar.specs.Table.{turtle, turtle_collection, turtle_items, turtle_more_predicates, turtle_next_verb, turtle_object, turtle_other_verbs}
use Rattle.ttl_tokens.specs.TurtleLaws.{turtle_knows}
use Rattle.ttl_tokens.specs.TurtleSpellings.{Spells}
use Rattle.ttl_tokens.specs.TurtleTable.{turtle_table}
use Rattle.ttl_tokens.specs.declared.kinds.TheConstants as kind
use Rattle.ttl_tokens.specs.declared.token.Symbol.{Symbol as Word}
use Rattle.ttl_tokens.specs.declared.token.Symbol.TheVariants.{CloseBracket, CloseParenthesis, OpenBracket, OpenParenthesis, Semicolon}
use Rattle.ttl_tokens.specs.declared.token.Token.TheVariants.{Symbol}
use Rattle.ttl_write.proofs.RowLaws.{Has}

pub no_predicates : Has 4 []
unfolding turtle turtle_more_predicates
no_predicates = record { mask = 0x80000000000000000000000000110000; among = here }

pub some_predicates : Has 4 (Rule 6 ∷ [])
unfolding turtle turtle_more_predicates
some_predicates = record { mask = 0x807; among = behind here }

pub verbs_more : Has 7 (Need 17 ∷ Rule 8 ∷ [])
unfolding turtle turtle_other_verbs
verbs_more = record { mask = 0x20000; among = behind here }

pub next_predicates : Has 8 (Rule 6 ∷ [])
unfolding turtle turtle_next_verb
next_predicates = record { mask = 0x807; among = here }

pub object_collection : Has 12 (Rule 13 ∷ [])
unfolding turtle turtle_object
object_collection = record { mask = 0x200000; among = behind (behind here) }

pub object_brackets : Has 12 (Act 6 ∷ Need 19 ∷ Rule 4 ∷ Act 7 ∷ Need 20 ∷ [])
unfolding turtle turtle_object
object_brackets = record { mask = 0x80000; among = behind (behind (behind (behind here))) }

pub collection_row : Has 13 (Act 8 ∷ Need 21 ∷ Rule 14 ∷ Act 11 ∷ Need 22 ∷ [])
unfolding turtle turtle_collection
collection_row = record { mask = 0x200000; among = here }

pub items_end : Has 14 []
unfolding turtle turtle_items
items_end = record { mask = 0x80000000000000000000000000400000; among = here }

pub items_more : Has 14 (Act 9 ∷ Rule 12 ∷ Act 10 ∷ Rule 14 ∷ [])
unfolding turtle turtle_items
items_more = record { mask = 0x28371f; among = behind here }

-- a sign with its class
pub record IsSign (word : Word) (cs : List ℕ) (class : ℕ) : Type 0 where
  pub spells : Spells (Symbol word) cs
  pub class_is : class_of (Symbol word) ≡ class

pub open_bracket : IsSign OpenBracket (codes "[") 19
unfolding turtle_table class_of
open_bracket = record { spells = (kind.OPEN_BRACKET, (turtle_knows kind.OPEN_BRACKET (codes "[")).0 refl, refl); class_is = refl }

pub close_bracket : IsSign CloseBracket (codes "]") 20
unfolding turtle_table class_of
close_bracket = record { spells = (kind.CLOSE_BRACKET, (turtle_knows kind.CLOSE_BRACKET (codes "]")).0 refl, refl); class_is = refl }

pub open_parenthesis : IsSign OpenParenthesis (codes "(") 21
unfolding turtle_table class_of
open_parenthesis = record { spells = (kind.OPEN_PARENTHESIS, (turtle_knows kind.OPEN_PARENTHESIS (codes "(")).0 refl, refl); class_is = refl }

pub close_parenthesis : IsSign CloseParenthesis (codes ")") 22
unfolding turtle_table class_of
close_parenthesis = record { spells = (kind.CLOSE_PARENTHESIS, (turtle_knows kind.CLOSE_PARENTHESIS (codes ")")).0 refl, refl); class_is = refl }

pub semicolon : IsSign Semicolon (codes ";") 17
unfolding turtle_table class_of
semicolon = record { spells = (kind.SEMICOLON, (turtle_knows kind.SEMICOLON (codes ";")).0 refl, refl); class_is = refl }
