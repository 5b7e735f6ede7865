-- The items that a document is made of. An act in front of the last token of an item marks it, or a token that begins an item
-- ends the one before.
use Rattle.std.specs.Prelude.{◌≡◌, ℕ, Bool, true, false, not, ◌&&◌, ◌||◌, if◌then◌else◌, List, [], ◌∷◌, ◌++◌, map, Option, None, Some}
use Rattle.std.specs.List.{Contains, list_any}
use Rattle.grammar.specs.Derivations.{Begins}
use Rattle.grammar.specs.Grammars.{Entry}
use Rattle.grammar.specs.declared.symbol.Symbol.TheVariants.{Rule}
use Rattle.owl_reader.specs.Steps.{Step, plain}
use Rattle.owl_reader.specs.Syntaxes.{Rules}
use Rattle.owl_reader.specs.declared.item.Item.{Item}
use Rattle.owl_reader.specs.declared.item.Mark.{Mark}
use Rattle.owl_reader.specs.declared.item.Mark.TheVariants.{Again, Last}

abbrev pub is_last : Mark → Bool
is_last Last = true
is_last _ = false

abbrev pub is_again : Mark → Bool
is_again Again = true
is_again _ = false

-- the token behind these acts ends its item
abbrev pub ends_item : (ℕ → Mark) → List ℕ → Bool
ends_item mark acts = list_any (λ a. is_last (mark a)) acts

-- the token behind these acts belongs to the item before, though it was whole
abbrev pub resumes_item : (ℕ → Mark) → List ℕ → Bool
resumes_item mark acts = list_any (λ a. is_again (mark a)) acts

-- Behind this last item, the byte at which the item begins that a token at this byte belongs to, which begins one or not.
abbrev pub item_start : Bool → Bool → Option Item → ℕ → ℕ
item_start begins resumes None at = at
item_start begins resumes (Some i) at = if not begins && (resumes || not i.is_whole) then i.at else at

-- the last item, with one token more
abbrev pub item_with : {T : Type 0} → Rules T → Option Item → Step T → Item
item_with rules last s = record {
  at = item_start (rules.begins (Some s.token.token)) (resumes_item rules.mark s.acts) last s.token.at;
  is_whole = ends_item rules.mark s.acts;
}

-- the last item of these tokens, behind this one
abbrev pub last_item_from : {T : Type 0} → Rules T → Option Item → List (Step T) → Option Item
last_item_from rules last [] = last
last_item_from rules last (s ∷ steps) = last_item_from rules (Some (item_with rules last s)) steps

abbrev pub last_item : {T : Type 0} → Rules T → List (Step T) → Option Item
last_item rules steps = last_item_from rules None steps

-- Some document goes on from these tokens with a token that may stand behind each whole item.
pub record IsWhole {T : Type 0} (g : List Entry) (rules : Rules T) (steps : List (Step T)) : Type 0 where
  pub class : ℕ
  pub behind : Contains rules.behind class
  pub goes_on : Begins g (Rule rules.document ∷ []) (map rules.class (plain steps) ++ class ∷ [])

-- Whether a token or the end begins an item behind these tokens, where no document goes on with it.
pub data BeginsItem {T : Type 0} (g : List Entry) (rules : Rules T) (steps : List (Step T)) (next : Option T) : Bool → Type 0 where
  anew : rules.begins next ≡ true → IsWhole g rules steps → BeginsItem g rules steps next true
  inside : (rules.begins next ≡ true → IsWhole g rules steps → ⊥) → BeginsItem g rules steps next false
