-- How Manchester Syntax is read where tokens have no places: its acts in front of tokens at the first byte, and the alternatives
-- of its rules by their names.
use Rattle.std.proofs.Common.{◌≡◌, ℕ, zero, suc, Option, None, Some, Result, Ok, List, [], ◌∷◌, ◌++◌, map, slice_get, refl, sym, subst}
use Rattle.grammar.specs.Grammars.{Among, Entry, entry}
use Rattle.grammar.specs.Grammars.Among.{behind, here}
use Rattle.grammar.specs.Pages.{numbered, numbered_alternatives, plain_entry}
use Rattle.grammar.specs.Pages.Named.{token}
use Rattle.grammar.specs.declared.symbol.Symbol.{Symbol}
use Rattle.grammar.specs.declared.symbol.Symbol.TheVariants.{Act, Rule}
use Rattle.man_grammar.specs.Acts.{act_numbered}
use Rattle.man_grammar.specs.ClassNumbers.{class_number}
use Rattle.man_grammar.specs.Classes.{class_of}
use Rattle.man_grammar.specs.Page.{Names, Rule as RuleName, alternatives, manchester_page, page, rule_number, rules}
use Rattle.man_grammar.specs.Page.Rule.{document}
use Rattle.man_grammar.specs.Runs.{done}
use Rattle.man_grammar.specs.States.{State}
use Rattle.man_grammar.specs.declared.class.Class.{Class}
use Rattle.owl_lexer.specs.Splitting.{IsLongest}
use Rattle.owl_lexer.specs.declared.placed.Placed.{Placed}
use Rattle.owl_reader.specs.declared.fault.TokenFault.{TokenFault}
use Rattle.owl_tokens.specs.ManchesterSpellings.{SpellsManchester}
use Rattle.owl_tokens.specs.declared.token.Token.{Token}
use Rattle.man_read_back.proofs.Steps as steps
use Rattle.man_read_back.proofs.Steps.{Machine, Starts}

abbrev pub at_zero : Option Token → Option (Placed Token)
at_zero None = None
at_zero (Some x) = Some (record { token = x; at = 0 })

abbrev pub acted_at_zero : ℕ → Option Token → State → Result State TokenFault
acted_at_zero a next state = done (act_numbered a) (at_zero next) state

abbrev pub manchester : Machine Token State
manchester = record { class_of = class_of; grammar = manchester_page; spells = SpellsManchester; act = acted_at_zero }

-- ---- the alternatives of rules

entry_at : {R : Type 0} (f : R → Entry) (all : List R) (n : ℕ) (r : R) → slice_get all n ≡ Some r → entry (map f all) n ≡ f r
entry_at f [] n r e = absurd (cc)
entry_at f (r ∷ all) zero q e = let same : r ≡ q = cc in λ i. f (same i)
entry_at f (r ∷ all) (suc n) q e = entry_at f all n q e

number_at : (r : RuleName) → slice_get rules (rule_number r) ≡ Some r
number_at document = refl
number_at _ = refl

among_at : (lists : List Names) (n : ℕ) (names : Names) → slice_get lists n ≡ Some names
    → Among (record { mask = 0; symbols = map (numbered page) names }) (plain_entry (map (map (numbered page)) lists)).rows
among_at [] n names e = absurd (cc)
among_at (l ∷ lists) zero names e = let same : l ≡ names = cc in subst (λ (x : Names). Among (record { mask = 0; symbols = map (numbered page) x }) (plain_entry (map (map (numbered page)) (l ∷ lists))).rows) same here
among_at (l ∷ lists) (suc n) names e = behind (among_at lists n names e)

has : (r : RuleName) (n : ℕ) (names : Names) → slice_get (alternatives r) n ≡ Some names → Among (record { mask = 0; symbols = map (numbered page) names }) (entry manchester_page (rule_number r)).rows
unfolding manchester_page
has r n names e =
    subst (λ (x : Entry). Among (record { mask = 0; symbols = map (numbered page) names }) x.rows) (sym (entry_at (λ (q : RuleName). plain_entry (numbered_alternatives page q)) rules (rule_number r) r (number_at r)))
    (among_at (alternatives r) n names e)

module _ {wanted : State → Type 0} where
  -- the rule by its alternative at this place
  pub by : (r : RuleName) (n : ℕ) {names : Names} → slice_get (alternatives r) n ≡ Some names
      → {ss : List Symbol} {state : State} {cs : List ℕ} → Starts manchester wanted (map (numbered page) names ++ ss) state cs → Starts manchester wanted (Rule (rule_number r) ∷ ss) state cs
  by r n {names = names} e k = steps.rule (record { mask = 0; symbols = map (numbered page) names }) (has r n names e) k

  -- an act that does the same in front of each token and of the end
  pub act : {a : ℕ} {ss : List Symbol} {state new : State} {cs : List ℕ} → acted_at_zero a None state ≡ Ok new → ((x : Token) → acted_at_zero a (Some x) state ≡ Ok new)
      → Starts manchester wanted ss new cs → Starts manchester wanted (Act a ∷ ss) state cs
  act {a = a} {state = state} {new = new} none some k = steps.act by_next k
    where
      by_next : (next : Option Token) → acted_at_zero a next state ≡ Ok new
      by_next None = none
      by_next (Some x) = some x

  -- an act in front of a token that the rule stands for
  pub acted_by : (r : RuleName) (n : ℕ) {c : Class} → slice_get (alternatives r) n ≡ Some (token c ∷ [])
      → {a : ℕ} {ss : List Symbol} {state new : State} {rest : List ℕ} (x : Token) (spelling : List ℕ) → SpellsManchester x spelling → IsLongest SpellsManchester spelling rest → class_of x ≡ class_number c
      → acted_at_zero a (Some x) state ≡ Ok new → Starts manchester wanted ss new rest → Starts manchester wanted (Act a ∷ Rule (rule_number r) ∷ ss) state (spelling ++ rest)
  acted_by r n {c = c} e x spelling spelled longest class says k = steps.acted_rule x spelling (has r n (token c ∷ []) e) spelled longest class says k
