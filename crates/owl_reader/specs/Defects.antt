-- The first defect of a document, and where it is told.
use Rattle.std.specs.Prelude.{◌≡◌, ◌≢◌, ◌<◌, ◌≤◌, ℕ, Bool, false, true, List, [], ◌∷◌, ◌++◌, length, map, take, get_or, Option, None, Some}
use Rattle.grammar.specs.Derivations.{Begins, Derives, Event}
use Rattle.grammar.specs.Grammars.{Entry}
use Rattle.grammar.specs.Lowering.{lower}
use Rattle.grammar.specs.declared.symbol.Symbol.TheVariants.{Rule}
use Rattle.owl_characters.specs.Limit.{most_bytes}
use Rattle.owl_characters.specs.Utf8.{behind_mark, mark_size}
use Rattle.owl_lexer.specs.Splitting.{Splits, SplitsFrom, is_space}
use Rattle.owl_lexer.specs.declared.fault.LexFault.{LexFault}
use Rattle.owl_lexer.specs.declared.placed.Placed.{Placed}
use Rattle.owl_reader.specs.Faults.{fault_at, lexing_refusal}
use Rattle.owl_reader.specs.Following.{MayFollow}
use Rattle.owl_reader.specs.Items.{BeginsItem, item_start, last_item, resumes_item}
use Rattle.owl_reader.specs.Steps.{Step, events_of, plain, token_in, tokens_in}
use Rattle.owl_reader.specs.Syntaxes.{HoldsQuotes, Rules}
use Rattle.owl_reader.specs.declared.fault.ReadFault.{ReadFault}
use Rattle.owl_reader.specs.declared.fault.ReadFault.TheVariants as read
use Rattle.owl_reader.specs.declared.fault.Reason.TheVariants as reason
use Rattle.owl_reader.specs.declared.fault.TokenFault.{TokenFault}
use Rattle.owl_reader.specs.declared.fault.TokenFault.TheVariants as token

-- Acts in front of none of these tokens were barred.
abbrev pub NoneBarred : {T : Type 0} → Rules T → List (Step T) → Type 0
NoneBarred {T} rules steps =
    (before after : List (Step T)) (s : Step T) (f : TokenFault) → steps ≡ before ++ s ∷ after → rules.Bars before s.acts (Some s.token) f → ⊥

-- Some document of the grammar begins with these tokens, each behind these acts, and none of the acts were barred.
pub record Begin {T : Type 0} (g : List Entry) (rules : Rules T) (steps : List (Step T)) : Type 0 where
  pub more : List ℕ
  pub rest : List (Event ℕ)
  pub derives : Derives g (Rule rules.document ∷ []) (map rules.class (plain steps) ++ more) (map (lower rules.class) (events_of steps) ++ rest)
  pub none_barred : NoneBarred rules steps

-- The token or the end at this byte is refused behind these tokens: no document goes on with it, or acts in front of it are
-- barred. The refusal has the place of the item that it belongs to.
pub data IsRefused {T : Type 0} (g : List Entry) (rules : Rules T) (steps : List (Step T)) (at : ℕ) (next : Option (Placed T)) (refusal : ReadFault) : Type 0 where
  wrong_token : (p : Placed T) (begins : Bool) → next ≡ Some p → (Begins g (Rule rules.document ∷ []) (map rules.class (plain steps) ++ rules.class p.token ∷ []) → ⊥) → BeginsItem g rules steps (token_in next) begins → refusal ≡ read.Refused (item_start begins false (last_item rules steps) at) at reason.NotHere → IsRefused g rules steps at next refusal
  wrong_end : (begins : Bool) → next ≡ None → ((events : List (Event ℕ)) → Derives g (Rule rules.document ∷ []) (map rules.class (plain steps)) events → ⊥) → BeginsItem g rules steps (token_in next) begins → refusal ≡ read.Refused (item_start begins false (last_item rules steps) at) at reason.NotHere → IsRefused g rules steps at next refusal
  barred : (acts : List ℕ) (f : TokenFault) → f ≢ token.Memory → MayFollow g rules (events_of steps) acts (token_in next) → rules.Bars steps acts next f → refusal ≡ fault_at f (item_start (rules.begins (token_in next)) (resumes_item rules.mark acts) (last_item rules steps) at) at → IsRefused g rules steps at next refusal

-- Bytes of any number have this defect: the tokens before it begin a document, and it is the next token, the end, or what is no
-- token.
pub data HasDefect {T : Type 0} (spells : T → List ℕ → Type 0) (g : List Entry) (rules : Rules T) (bytes : List ℕ) (refusal : ReadFault) : Type 0 where
  at_token : (steps : List (Step T)) (p : Placed T) (others : List (Placed T)) (ending : Option LexFault) → Splits spells bytes (tokens_in steps ++ p ∷ others) ending → Begin g rules steps → IsRefused g rules steps p.at (Some p) refusal → HasDefect spells g rules bytes refusal
  at_end : (steps : List (Step T)) → Splits spells bytes (tokens_in steps) None → Begin g rules steps → IsRefused g rules steps (length bytes) None refusal → HasDefect spells g rules bytes refusal
  no_token : (steps : List (Step T)) (fault : LexFault) → Splits spells bytes (tokens_in steps) (Some fault) → Begin g rules steps → refusal ≡ lexing_refusal fault (last_item rules steps) → HasDefect spells g rules bytes refusal

-- the byte behind the token that stands behind these
abbrev pub end_from : {T : Type 0} (spells : T → List ℕ → Type 0) (place : ℕ) (cs tail : List ℕ) (before : List (Placed T)) (p : Placed T) (others : List (Placed T)) (ending : Option LexFault) → SplitsFrom spells place cs tail (before ++ p ∷ others) ending → ℕ
end_from spells place cs tail [] p others ending s = s.0
end_from spells place cs tail (first ∷ before) p others ending s = end_from spells s.0 s.1 tail before p others ending s.3

-- the same in all the bytes
abbrev pub end_in : {T : Type 0} (spells : T → List ℕ → Type 0) (bytes : List ℕ) (before : List (Placed T)) (p : Placed T) (others : List (Placed T)) (ending : Option LexFault) → Splits spells bytes (before ++ p ∷ others) ending → ℕ
end_in spells bytes before p others ending s =
    end_from spells (mark_size s.characters) (behind_mark s.characters) s.tail before p others ending s.splits

-- The bytes have this defect at a token, and the byte behind the token is white space.
pub record HasDefectBeforeSpace {T : Type 0} (spells : T → List ℕ → Type 0) (g : List Entry) (rules : Rules T) (bytes : List ℕ) (refusal : ReadFault) : Type 0 where
  pub steps : List (Step T)
  pub token : Placed T
  pub others : List (Placed T)
  pub ending : Option LexFault
  pub splits : Splits spells bytes (tokens_in steps ++ token ∷ others) ending
  pub begin : Begin g rules steps
  pub refused : IsRefused g rules steps token.at (Some token) refusal
  pub space : is_space (get_or bytes (end_in spells bytes (tokens_in steps) token others ending splits) 0) ≡ true

-- The bytes have no such defect, unless they hold long quotes.
abbrev pub HasNoneBeforeSpace : {T : Type 0} → (T → List ℕ → Type 0) → List Entry → Rules T → List ℕ → Type 0
HasNoneBeforeSpace spells g rules bytes =
    (HoldsQuotes rules bytes → ⊥) → (refusal : ReadFault) → HasDefectBeforeSpace spells g rules bytes refusal → ⊥

-- The first defect of these bytes. Where there are more than a document may have, it is one that the first so many have however
-- they go on, or else their number, where the first so many have none at a token that white space follows.
pub data IsFirstDefect {T : Type 0} (spells : T → List ℕ → Type 0) (g : List Entry) (rules : Rules T) (bytes : List ℕ) (refusal : ReadFault) : Type 0 where
  within : length bytes ≤ most_bytes → HasDefect spells g rules bytes refusal → IsFirstDefect spells g rules bytes refusal
  beyond : most_bytes < length bytes → ((more : List ℕ) → HasDefect spells g rules (take most_bytes bytes ++ more) refusal) → IsFirstDefect spells g rules bytes refusal
  too_long : most_bytes < length bytes → refusal ≡ read.TooLong → HasNoneBeforeSpace spells g rules (take most_bytes bytes) → IsFirstDefect spells g rules bytes refusal
