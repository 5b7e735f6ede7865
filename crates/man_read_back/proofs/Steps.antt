-- What a text says, told from its end: each token, act and rule that is put in front.
use Rattle.std.proofs.Common.{◌≡◌, ℕ, true, Option, None, Some, Result, Ok, List, [], ◌∷◌, ◌++◌, refl, ap, ◌∙◌}
use Rattle.grammar.specs.Derivations.{DerivesOf, Event}
use Rattle.grammar.specs.Derivations.DerivesOf.{nothing, need, act as done, rule as expanded}
use Rattle.grammar.specs.Derivations.Event.{Do, Take}
use Rattle.grammar.specs.Grammars.{Among, Entry, Row, entry}
use Rattle.grammar.specs.declared.symbol.Symbol.{Symbol}
use Rattle.grammar.specs.declared.symbol.Symbol.TheVariants.{Act, Need, Rule}
use Rattle.owl_lexer.specs.Splitting.{IsLongest, is_space}
use Rattle.owl_reader.specs.declared.fault.TokenFault.{TokenFault}
use Rattle.man_grammar.specs.States.{and_then}
use Rattle.owl_writing.proofs.CutLaws.{Cuts, cuts_none, cuts_space, cuts_token, cuts_weaker}

-- how tokens are told apart and written, what derives, and what an act does in front of a token or of the end
pub record Machine (T S : Type 0) : Type 1 where
  pub class_of : T → ℕ
  pub grammar : List Entry
  pub spells : T → List ℕ → Type 0
  pub act : ℕ → Option T → S → Result S TokenFault

abbrev pub first_of : {T : Type 0} → List T → Option T
first_of [] = None
first_of (t ∷ ts) = Some t

-- the token that comes next
abbrev pub coming : {T : Type 0} → List (Event T) → Option T
coming [] = None
coming (Take x ∷ es) = Some x
coming (Do a ∷ es) = coming es

-- events in turn
abbrev pub run : {T S : Type 0} → (ℕ → Option T → S → Result S TokenFault) → List (Event T) → S → Result S TokenFault
run act [] state = Ok state
run act (Take x ∷ es) state = run act es state
run act (Do a ∷ es) state = and_then (act a (coming es) state) (λ new. run act es new)

coming_is : {T : Type 0} {class_of : T → ℕ} {g : List Entry} {ss : List Symbol} {ts : List T} {es : List (Event T)} → DerivesOf class_of g ss ts es → coming es ≡ first_of ts
coming_is nothing = refl
coming_is (need e d) = refl
coming_is (done d) = coming_is d
coming_is (expanded row among d) = coming_is d

-- These tokens, of which this is the first, derive from these symbols, and their acts make such a state of this one.
pub record Reads {T S : Type 0} (m : Machine T S) (wanted : S → Type 0) (next : Option T) (ss : List Symbol) (state : S) (ts : List T) : Type 0 where
  pub events : List (Event T)
  pub final : S
  pub begins : first_of ts ≡ next
  pub derives : DerivesOf m.class_of m.grammar ss ts events
  pub runs : run m.act events state ≡ Ok final
  pub is : wanted final

-- the characters are cut into such tokens
pub record Starts {T S : Type 0} (m : Machine T S) (wanted : S → Type 0) (ss : List Symbol) (state : S) (cs : List ℕ) : Type 0 where
  pub next : Option T
  pub goes : Cuts m.spells cs (Reads m wanted next ss state)

module _ {T S : Type 0} {m : Machine T S} {wanted : S → Type 0} where
  pub nothing_more : {state : S} → wanted state → Starts m wanted [] state []
  nothing_more {state = state} h = record {
    next = None;
    goes = cuts_none m.spells (Reads m wanted None [] state) (record { events = []; final = state; begins = refl; derives = nothing; runs = refl; is = h });
  }

  reads_token : {c : ℕ} {ss : List Symbol} {state : S} {next : Option T} (token : T) → m.class_of token ≡ c → (ts : List T) → Reads m wanted next ss state ts → Reads m wanted (Some token) (Need c ∷ ss) state (token ∷ ts)
  reads_token token class ts h =
      record { events = Take token ∷ h.events; final = h.final; begins = refl; derives = need class h.derives; runs = h.runs; is = h.is }

  pub token : {c : ℕ} {ss : List Symbol} {state : S} {rest : List ℕ} (x : T) (spelling : List ℕ) → m.spells x spelling → IsLongest m.spells spelling rest → m.class_of x ≡ c → Starts m wanted ss state rest → Starts m wanted (Need c ∷ ss) state (spelling ++ rest)
  token {c = c} {ss = ss} {state = state} {rest = rest} x spelling spelled longest class k = record {
    next = Some x;
    goes = cuts_token m.spells (Reads m wanted (Some x) (Need c ∷ ss) state) (Reads m wanted k.next ss state) x spelling rest spelled longest (reads_token x class) k.goes;
  }

  pub space : {c : ℕ} {cs : List ℕ} {ss : List Symbol} {state : S} → is_space c ≡ true → Starts m wanted ss state cs → Starts m wanted ss state (c ∷ cs)
  space {c = c} {cs = cs} {ss = ss} {state = state} h k = record { next = k.next; goes = cuts_space m.spells (Reads m wanted k.next ss state) c cs h k.goes }

  reads_act : {a : ℕ} {ss : List Symbol} {state new : S} {next : Option T} → m.act a next state ≡ Ok new → (ts : List T) → Reads m wanted next ss new ts → Reads m wanted next (Act a ∷ ss) state ts
  reads_act {a = a} {state = state} e ts h = record {
    events = Do a ∷ h.events;
    final = h.final;
    begins = h.begins;
    derives = done h.derives;
    runs =
        ap (λ (o : Option T). and_then (m.act a o state) (λ s. run m.act h.events s)) (coming_is h.derives ∙ h.begins)
        ∙ ap (λ (r : Result S TokenFault). and_then r (λ s. run m.act h.events s)) e
        ∙ h.runs;
    is = h.is;
  }

  -- an act in front of the token that is known to come
  pub act_before : {a : ℕ} {ss : List Symbol} {state new : S} {cs : List ℕ} (k : Starts m wanted ss new cs) → m.act a k.next state ≡ Ok new → Starts m wanted (Act a ∷ ss) state cs
  act_before {a = a} {ss = ss} {state = state} {new = new} {cs = cs} k e =
      record { next = k.next; goes = cuts_weaker m.spells (Reads m wanted k.next ss new) (Reads m wanted k.next (Act a ∷ ss) state) cs (reads_act e) k.goes }

  -- one that does the same in front of each token
  pub act : {a : ℕ} {ss : List Symbol} {state new : S} {cs : List ℕ} → ((next : Option T) → m.act a next state ≡ Ok new) → Starts m wanted ss new cs → Starts m wanted (Act a ∷ ss) state cs
  act e k = act_before k (e k.next)

  reads_rule : {r : ℕ} {row : Row} {ss : List Symbol} {state : S} {next : Option T} → Among row (entry m.grammar r).rows → (ts : List T) → Reads m wanted next (row.symbols ++ ss) state ts → Reads m wanted next (Rule r ∷ ss) state ts
  reads_rule {row = row} among ts h =
      record { events = h.events; final = h.final; begins = h.begins; derives = expanded row among h.derives; runs = h.runs; is = h.is }

  pub rule : {r : ℕ} {ss : List Symbol} {state : S} {cs : List ℕ} (row : Row) → Among row (entry m.grammar r).rows → Starts m wanted (row.symbols ++ ss) state cs → Starts m wanted (Rule r ∷ ss) state cs
  rule {r = r} {ss = ss} {state = state} {cs = cs} row among k =
      record { next = k.next; goes = cuts_weaker m.spells (Reads m wanted k.next (row.symbols ++ ss) state) (Reads m wanted k.next (Rule r ∷ ss) state) cs (reads_rule {row = row} among) k.goes }

  -- an act in front of a token, which may be the only symbol of a rule

  pub acted_token : {a c : ℕ} {ss : List Symbol} {state new : S} {rest : List ℕ} (x : T) (spelling : List ℕ) → m.spells x spelling → IsLongest m.spells spelling rest → m.class_of x ≡ c
      → m.act a (Some x) state ≡ Ok new → Starts m wanted ss new rest → Starts m wanted (Act a ∷ Need c ∷ ss) state (spelling ++ rest)
  unfolding token
  acted_token x spelling spelled longest class e k = act_before (token x spelling spelled longest class k) e

  pub acted_rule : {a c r : ℕ} {mask : ℕ} {ss : List Symbol} {state new : S} {rest : List ℕ} (x : T) (spelling : List ℕ) → Among (record { mask = mask; symbols = Need c ∷ [] }) (entry m.grammar r).rows
      → m.spells x spelling → IsLongest m.spells spelling rest → m.class_of x ≡ c → m.act a (Some x) state ≡ Ok new → Starts m wanted ss new rest → Starts m wanted (Act a ∷ Rule r ∷ ss) state (spelling ++ rest)
  unfolding token rule
  acted_rule {c = c} {mask = mask} x spelling among spelled longest class e k = act_before (rule (record { mask = mask; symbols = Need c ∷ [] }) among (token x spelling spelled longest class k)) e
