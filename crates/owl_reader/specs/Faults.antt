-- The refusal of a document where a token is not taken.
use Rattle.std.specs.Prelude.{ℕ, Bool, false, Option}
use Rattle.grammar.specs.declared.fault.ParseFault.{ParseFault}
use Rattle.grammar.specs.declared.fault.ParseFault.TheVariants as parse
use Rattle.owl_lexer.specs.declared.fault.LexFault.{LexFault}
use Rattle.owl_lexer.specs.declared.fault.LexFault.TheVariants as lex
use Rattle.owl_reader.specs.Items.{item_start}
use Rattle.owl_reader.specs.declared.fault.Reason.TheVariants as reason
use Rattle.owl_reader.specs.declared.item.Item.{Item}
use Rattle.owl_reader.specs.declared.fault.ReadFault.{ReadFault}
use Rattle.owl_reader.specs.declared.fault.ReadFault.TheVariants as read
use Rattle.owl_reader.specs.declared.fault.TokenFault.{TokenFault}
use Rattle.owl_reader.specs.declared.fault.TokenFault.TheVariants as token

-- of the token at a byte, in the item that begins at a byte
abbrev pub fault_at : TokenFault → ℕ → ℕ → ReadFault
fault_at (token.Defect reason) item_at at = read.Refused item_at at reason
fault_at token.TooDeep item_at at = read.TooDeep
fault_at token.TooHeavy item_at at = read.TooHeavy
fault_at token.NumberTooLarge item_at at = read.NumberTooLarge
fault_at token.TooMany item_at at = read.TooMany
fault_at token.Memory item_at at = read.Memory

-- where a parser refuses the token or the end at a byte, which begins an item or not, behind this last item
abbrev pub parse_refusal : ParseFault → Bool → Option Item → ℕ → ReadFault
parse_refusal parse.Unexpected begins last at = read.Refused (item_start begins false last at) at reason.NotHere
parse_refusal parse.Memory begins last at = read.Memory

-- the refusal at a byte where no character, or no token begins
abbrev pub lexing_refusal : LexFault → Option Item → ReadFault
lexing_refusal (lex.BadUtf8 at) last = read.Refused (item_start false false last at) at reason.BadUtf8
lexing_refusal (lex.BadToken at) last = read.Refused (item_start false false last at) at reason.BadToken
lexing_refusal lex.Memory last = read.Memory
