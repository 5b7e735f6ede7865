-- What a text says, told from its end: each token, act and rule that is put in front.
use Rattle.std.proofs.Common.{◌≡◌, ℕ, true, Option, None, Some, Ok, List, [], ◌∷◌, ◌++◌, refl, ap, ◌∙◌}
use Rattle.grammar.specs.Derivations.{DerivesOf, Event}
use Rattle.grammar.specs.Derivations.DerivesOf.{nothing, need, act, rule}
use Rattle.grammar.specs.Derivations.Event.{Do, Take}
use Rattle.grammar.specs.Grammars.{Among, Row, entry}
use Rattle.grammar.specs.declared.symbol.Symbol.{Symbol}
use Rattle.grammar.specs.declared.symbol.Symbol.TheVariants.{Act, Need, Rule}
use Rattle.owl_lexer.specs.Splitting.{IsLongest, is_space}
use Rattle.ttl_grammar.specs.Acts.{act_numbered}
use Rattle.ttl_grammar.specs.Classes.{class_of}
use Rattle.ttl_grammar.specs.Runs.{and_then, coming, done, run}
use Rattle.ttl_grammar.specs.States.{State}
use Rattle.ttl_grammar.specs.Table.{turtle}
use Rattle.ttl_tokens.specs.TurtleSpellings.{Spells}
use Rattle.ttl_tokens.specs.declared.token.Token.{Token}
use Rattle.ttl_write.proofs.RowLaws.{Has}
use Rattle.owl_writing.proofs.CutLaws.{Cuts, cuts_none, cuts_space, cuts_token, cuts_weaker}

abbrev pub first_of : List Token → Option Token
first_of [] = None
first_of (t ∷ ts) = Some t

-- the token that comes next is the first of those that are derived
coming_is : {ss : List Symbol} {ts : List Token} {es : List (Event Token)} → DerivesOf class_of turtle ss ts es → coming es ≡ first_of ts
coming_is nothing = refl
coming_is (need e d) = refl
coming_is (act d) = coming_is d
coming_is (rule row among d) = coming_is d

-- These tokens, of which this is the first, derive from these symbols, and their acts make such a state of this one.
pub record Reads (wanted : State → Type 0) (next : Option Token) (ss : List Symbol) (state : State) (ts : List Token) : Type 0 where
  pub events : List (Event Token)
  pub final : State
  pub begins : first_of ts ≡ next
  pub derives : DerivesOf class_of turtle ss ts events
  pub runs : run events state ≡ Ok final
  pub is : wanted final

-- the characters are cut into such tokens
abbrev pub Goes : (State → Type 0) → Option Token → List Symbol → State → List ℕ → Type 0
Goes wanted next ss state cs = Cuts Spells cs (Reads wanted next ss state)

module _ (wanted : State → Type 0) where
  pub goes_none : (state : State) → wanted state → Goes wanted None [] state []
  goes_none state h = cuts_none Spells (Reads wanted None [] state) (record { events = []; final = state; begins = refl; derives = nothing; runs = refl; is = h })

  reads_token : (token : Token) (c : ℕ) (ss : List Symbol) (state : State) (next : Option Token) → class_of token ≡ c → (ts : List Token) → Reads wanted next ss state ts → Reads wanted (Some token) (Need c ∷ ss) state (token ∷ ts)
  reads_token token c ss state next class ts h =
      record { events = Take token ∷ h.events; final = h.final; begins = refl; derives = need class h.derives; runs = h.runs; is = h.is }

  pub goes_token : (token : Token) (spelling rest : List ℕ) (c : ℕ) (ss : List Symbol) (state : State) (next : Option Token)
      → Spells token spelling → IsLongest Spells spelling rest → class_of token ≡ c → Goes wanted next ss state rest → Goes wanted (Some token) (Need c ∷ ss) state (spelling ++ rest)
  goes_token token spelling rest c ss state next spelled longest class k =
      cuts_token Spells (Reads wanted (Some token) (Need c ∷ ss) state) (Reads wanted next ss state) token spelling rest spelled longest (reads_token token c ss state next class) k

  pub goes_space : (c : ℕ) (cs : List ℕ) (next : Option Token) (ss : List Symbol) (state : State) → is_space c ≡ true → Goes wanted next ss state cs → Goes wanted next ss state (c ∷ cs)
  goes_space c cs next ss state h k = cuts_space Spells (Reads wanted next ss state) c cs h k

  reads_act : (a : ℕ) (ss : List Symbol) (state new : State) (next : Option Token) → done (act_numbered a) next state ≡ Ok new → (ts : List Token) → Reads wanted next ss new ts → Reads wanted next (Act a ∷ ss) state ts
  reads_act a ss state new next e ts h = record {
    events = Do a ∷ h.events;
    final = h.final;
    begins = h.begins;
    derives = act h.derives;
    runs =
        ap (λ (o : Option Token). and_then (done (act_numbered a) o state) (λ s. run h.events s)) (coming_is h.derives ∙ h.begins)
        ∙ ap (λ (r : _). and_then r (λ s. run h.events s)) e
        ∙ h.runs;
    is = h.is;
  }

  pub goes_act : (a : ℕ) (ss : List Symbol) (state new : State) (next : Option Token) (cs : List ℕ) → done (act_numbered a) next state ≡ Ok new → Goes wanted next ss new cs → Goes wanted next (Act a ∷ ss) state cs
  goes_act a ss state new next cs e k = cuts_weaker Spells (Reads wanted next ss new) (Reads wanted next (Act a ∷ ss) state) cs (reads_act a ss state new next e) k

  reads_rule : (r : ℕ) (row : Row) (ss : List Symbol) (state : State) (next : Option Token) → Among row (entry turtle r).rows → (ts : List Token) → Reads wanted next (row.symbols ++ ss) state ts → Reads wanted next (Rule r ∷ ss) state ts
  reads_rule r row ss state next among ts h =
      record { events = h.events; final = h.final; begins = h.begins; derives = rule row among h.derives; runs = h.runs; is = h.is }

  pub goes_rule : (r : ℕ) (row : Row) (ss : List Symbol) (state : State) (next : Option Token) (cs : List ℕ) → Among row (entry turtle r).rows → Goes wanted next (row.symbols ++ ss) state cs → Goes wanted next (Rule r ∷ ss) state cs
  goes_rule r row ss state next cs among k =
      cuts_weaker Spells (Reads wanted next (row.symbols ++ ss) state) (Reads wanted next (Rule r ∷ ss) state) cs (reads_rule r row ss state next among) k

  -- the same, whatever token comes next

  abbrev pub Starts : List Symbol → State → List ℕ → Type 0
  Starts ss state cs = (next : Option Token) × Goes wanted next ss state cs

  pub starts_token : (token : Token) (spelling rest : List ℕ) (c : ℕ) (ss : List Symbol) (state : State)
      → Spells token spelling → IsLongest Spells spelling rest → class_of token ≡ c → Starts ss state rest → Starts (Need c ∷ ss) state (spelling ++ rest)
  starts_token token spelling rest c ss state spelled longest class k = (Some token, goes_token token spelling rest c ss state k.0 spelled longest class k.1)

  pub starts_space : (c : ℕ) (cs : List ℕ) (ss : List Symbol) (state : State) → is_space c ≡ true → Starts ss state cs → Starts ss state (c ∷ cs)
  starts_space c cs ss state h k = (k.0, goes_space c cs k.0 ss state h k.1)

  -- an act that does the same in front of each token
  pub starts_act : (a : ℕ) (ss : List Symbol) (state new : State) (cs : List ℕ) → ((next : Option Token) → done (act_numbered a) next state ≡ Ok new) → Starts ss new cs → Starts (Act a ∷ ss) state cs
  starts_act a ss state new cs e k = (k.0, goes_act a ss state new k.0 cs (e k.0) k.1)

  pub starts_rule : (r : ℕ) (symbols ss : List Symbol) (state : State) (cs : List ℕ) → Has r symbols → Starts (symbols ++ ss) state cs → Starts (Rule r ∷ ss) state cs
  starts_rule r symbols ss state cs h k = (k.0, goes_rule r (record { mask = h.mask; symbols = symbols }) ss state k.0 cs h.among k.1)
