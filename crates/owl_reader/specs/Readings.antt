-- What a reader is, and how it stands to the bytes that it was fed.
use Rattle.std.specs.Prelude.{◌≡◌, ◌≢◌, ◌+◌, ◌≤◌, ℕ, List, [], ◌++◌, length, Option, None, Some}
use Rattle.grammar.specs.Grammars.{Entry}
use Rattle.grammar.specs.Parsing.{Parsing}
use Rattle.owl_characters.specs.Limit.{most_bytes}
use Rattle.owl_lexer.specs.Lexing.{Continues, EndWith, Gives, Lexing, end_of, nothing_fed}
use Rattle.owl_lexer.specs.Splitting.{Splits}
use Rattle.owl_lexer.specs.declared.fault.LexFault.{LexFault}
use Rattle.owl_lexer.specs.declared.placed.Placed.{Placed}
use Rattle.owl_reader.specs.Defects.{HasDefect, IsFirstDefect, NoneBarred}
use Rattle.owl_reader.specs.Standing.{Ends, Stands}
use Rattle.owl_reader.specs.Steps.{Step, tokens_in}
use Rattle.owl_reader.specs.Syntaxes.{Rules}
use Rattle.owl_reader.specs.declared.fault.ReadFault.{ReadFault}
use Rattle.owl_reader.specs.declared.fault.ReadFault.TheVariants as read
use Rattle.owl_reader.specs.declared.item.Item.{Item}

-- What a reader has in hand: lexer, parser, what was made, the last item, how many bytes were fed, and the refusal that is kept.
pub record Reading (S : Type 0) : Type 0 where
  pub lexing : Lexing
  pub parsing : Parsing
  pub made : S
  pub last : Option Item
  pub fed : ℕ
  pub refused : Option ReadFault

-- Tokens were given by these bytes, whatever follows, and all were taken.
pub record IsOpen {T S : Type 0} (spells : T → List ℕ → Type 0) (g : List Entry) (rules : Rules T) (Made : List (Step T) → S → Type 0) (lexing : Lexing) (parsing : Parsing) (made : S) (last : Option Item) (bytes : List ℕ) : Type 0 where
  pub steps : List (Step T)
  pub lexer_open : lexing.refused ≡ None
  pub gives : Gives spells nothing_fed bytes (tokens_in steps) lexing.begun
  pub place : end_of lexing.begun ≡ length bytes
  pub ends : EndWith bytes lexing.begun
  pub stands : Stands g rules Made parsing made last steps

-- and so many bytes are there yet
pub record HasRoom {T S : Type 0} (spells : T → List ℕ → Type 0) (g : List Entry) (rules : Rules T) (Made : List (Step T) → S → Type 0) (lexing : Lexing) (parsing : Parsing) (made : S) (last : Option Item) (room : ℕ) : Type 0 where
  pub bytes : List ℕ
  pub open_yet : IsOpen spells g rules Made lexing parsing made last bytes
  pub few : length bytes + room ≤ most_bytes

-- The end behind the bytes was told, and some of their tokens were taken: those that come of the lexer follow them.
pub record IsEnding {T S : Type 0} (spells : T → List ℕ → Type 0) (g : List Entry) (rules : Rules T) (Made : List (Step T) → S → Type 0) (lexing : Lexing) (parsing : Parsing) (made : S) (last : Option Item) (bytes : List ℕ) : Type 0 where
  pub steps : List (Step T)
  pub lexer_open : lexing.refused ≡ None
  pub splits : (tokens : List (Placed T)) (ending : Option LexFault) → Continues spells lexing.begun [] tokens ending → Splits spells bytes (tokens_in steps ++ tokens) ending
  pub stands : Stands g rules Made parsing made last steps

-- some bytes end so
pub record CanEnd {T S : Type 0} (spells : T → List ℕ → Type 0) (g : List Entry) (rules : Rules T) (Made : List (Step T) → S → Type 0) (lexing : Lexing) (parsing : Parsing) (made : S) (last : Option Item) : Type 0 where
  pub bytes : List ℕ
  pub ending : IsEnding spells g rules Made lexing parsing made last bytes

-- All tokens of the bytes were taken.
pub record AreAllTaken {T S : Type 0} (spells : T → List ℕ → Type 0) (g : List Entry) (rules : Rules T) (Made : List (Step T) → S → Type 0) (parsing : Parsing) (made : S) (last : Option Item) (bytes : List ℕ) : Type 0 where
  pub steps : List (Step T)
  pub splits : Splits spells bytes (tokens_in steps) None
  pub stands : Stands g rules Made parsing made last steps

-- whatever follows, these bytes have this defect
abbrev pub HasDefectAlways : {T : Type 0} → (T → List ℕ → Type 0) → List Entry → Rules T → List ℕ → ReadFault → Type 0
HasDefectAlways spells g rules bytes refusal = (more : List ℕ) → HasDefect spells g rules (bytes ++ more) refusal

-- whatever follows, it is the first defect
abbrev pub Refuses : {T : Type 0} → (T → List ℕ → Type 0) → List Entry → Rules T → List ℕ → ReadFault → Type 0
Refuses spells g rules bytes refusal = (more : List ℕ) → IsFirstDefect spells g rules (bytes ++ more) refusal

-- A reader that has not refused took all tokens of these bytes; one that has keeps their first defect.
pub record HasRead {T S : Type 0} (spells : T → List ℕ → Type 0) (g : List Entry) (rules : Rules T) (Made : List (Step T) → S → Type 0) (r : Reading S) (bytes : List ℕ) : Type 0 where
  pub open_yet : r.refused ≡ None → IsOpen spells g rules Made r.lexing r.parsing r.made r.last bytes
  pub fed : r.refused ≡ None → r.fed ≡ length bytes
  pub refuses : (refusal : ReadFault) → r.refused ≡ Some refusal → refusal ≢ read.Memory → Refuses spells g rules bytes refusal

-- Some bytes were read that are not too many.
pub record CanRead {T S : Type 0} (spells : T → List ℕ → Type 0) (g : List Entry) (rules : Rules T) (Made : List (Step T) → S → Type 0) (r : Reading S) : Type 0 where
  pub bytes : List ℕ
  pub open_yet : IsOpen spells g rules Made r.lexing r.parsing r.made r.last bytes
  pub fed : r.fed ≡ length bytes
  pub few : r.fed ≤ most_bytes

-- The bytes are a whole document, of which this was made.
pub record IsRead {T S : Type 0} (spells : T → List ℕ → Type 0) (g : List Entry) (rules : Rules T) (Whole : List (Step T) → List ℕ → S → Type 0) (bytes : List ℕ) (made : S) : Type 0 where
  pub steps : List (Step T)
  pub few : length bytes ≤ most_bytes
  pub splits : Splits spells bytes (tokens_in steps) None
  pub none_barred : NoneBarred rules steps
  pub ends : Ends g rules Whole made steps
