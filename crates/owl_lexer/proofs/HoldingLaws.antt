-- The longest lexeme in front of the characters in hand stands first, once no longer one can come.
use Rattle.std.proofs.Common.{◌≡◌, inl, inr, ℕ, ◌+◌, ◌<◌, ◌≤◌, Option, None, Some, List, [], ◌∷◌, ◌++◌, length, take, drop, refl, sym, ap, ◌∙◌, subst, arith}
use Rattle.std.proofs.lemmas.Bool.{cases_lt}
use Rattle.std.proofs.lemmas.List.{append_assoc, length-append, length-take-le, take-append-drop, take-append-le, take_all}
use Rattle.std.proofs.Math.Seq.{take-append_seam}
use Rattle.owl_characters.proofs.CutLaws.{overhang_or_within}
use Rattle.owl_lexer.specs.Automata.{Automaton, Spells, kind_at, run, step_from}
use Rattle.owl_lexer.specs.Cutting.{BeginsNone, Stands}
use Rattle.owl_lexer.specs.Holding.{IsBarren, IsFront, LeadsTo, NoneBeyond}

-- runs

pub run-append : (a : Automaton) (state : Option ℕ) (xs ys : List ℕ) → run a state (xs ++ ys) ≡ run a (run a state xs) ys
run-append a state [] ys = refl
run-append a state (x ∷ xs) ys = run-append a (step_from a state x) xs ys

pub run-none : (a : Automaton) (cs : List ℕ) → run a None cs ≡ None
run-none a [] = refl
run-none a (c ∷ cs) = run-none a cs

pub leads_on : (a : Automaton) (held : List ℕ) (state c next : ℕ) → LeadsTo a held state → a.step state c ≡ Some next → LeadsTo a (held ++ c ∷ []) next
leads_on a held state c next h e = run-append a (Some a.start) held (c ∷ []) ∙ ap (λ (s : Option ℕ). step_from a s c) h ∙ e

-- what leads nowhere

pub nowhere_barren : (a : Automaton) (cs : List ℕ) → IsBarren a None cs
nowhere_barren a [] = tt
nowhere_barren a (c ∷ cs) = (refl, nowhere_barren a cs)

step_barren : (a : Automaton) (state : Option ℕ) (c : ℕ) (cs : List ℕ) → step_from a state c ≡ None → IsBarren a state (c ∷ cs)
step_barren a state c cs e = (ap (kind_at a) e, subst (λ (o : Option ℕ). IsBarren a o cs) (sym e) (nowhere_barren a cs))

pub stuck_barren : (a : Automaton) (state c : ℕ) (cs : List ℕ) → a.step state c ≡ None → IsBarren a (Some state) (c ∷ cs)
stuck_barren a state c cs e = step_barren a (Some state) c cs e

-- what goes on is no lexeme

barren_front : (a : Automaton) (state : Option ℕ) (next : ℕ) (others rest : List ℕ) → IsBarren a state (next ∷ (others ++ rest)) → kind_at a (run a state (next ∷ others)) ≡ None
barren_front a state next [] rest h = h.0
barren_front a state next (c ∷ others) rest h = barren_front a (step_from a state next) c others rest h.1

no_overhang : (a : Automaton) (held : List ℕ) (state : ℕ) (more : List ℕ) (kind next : ℕ) (others rest : List ℕ) → LeadsTo a held state → IsBarren a (Some state) more → more ≡ next ∷ (others ++ rest) → Spells a kind (held ++ next ∷ others) → ⊥
no_overhang a held state more kind next others rest h g e s =
    let runs : run a (Some a.start) (held ++ next ∷ others) ≡ run a (Some state) (next ∷ others) =
    run-append a (Some a.start) held (next ∷ others) ∙ ap (λ (t : Option ℕ). run a t (next ∷ others)) h in
    let none : None ≡ Some kind = sym (barren_front a (Some state) next others rest (subst (IsBarren a (Some state)) e g)) ∙ sym (ap (kind_at a) runs) ∙ s in
    cc

-- a front of a list that ends in another front of it is one of that
pub front_of_front : (xs ys a b : List ℕ) → length ys ≤ length xs → xs ++ a ≡ ys ++ b → ys ≡ take (length ys) xs
front_of_front xs ys a b h e =
    sym (take-append_seam ys b) ∙ ap (λ (l : List ℕ). take (length ys) l) (sym e) ∙ take-append-le (length ys) xs a h

-- a lexeme in front of what is held and of what is barren is no longer than the longest in front of what is held
pub no_longer : (a : Automaton) (held : List ℕ) (state count : ℕ) (more : List ℕ) → LeadsTo a held state → IsBarren a (Some state) more → NoneBeyond a held count → (kind : ℕ) (longer rest : List ℕ) → Spells a kind longer → held ++ more ≡ longer ++ rest → length longer ≤ count
no_longer a held state count more h g n kind longer rest s e = elim (cases_lt count (length longer)) [
  | inr le ↦ le
  | inl lt ↦ elim (overhang_or_within held longer more rest e) [
    | inl le ↦ absurd (n (length longer) kind lt le (subst (Spells a kind) (front_of_front held longer more rest le e) s))
    | inr o ↦ absurd (no_overhang a held state more kind o.next o.others rest h g o.rest (subst (Spells a kind) o.is s))
  ]
]

pub stands_first : (a : Automaton) (held : List ℕ) (state count kind : ℕ) (more : List ℕ) → LeadsTo a held state → IsBarren a (Some state) more → IsFront a held count kind → Stands (Spells a) kind (take count held) (drop count held ++ more)
stands_first a held state count kind more h g f =
    let size : length (take count held) ≡ count = length-take-le count held f.within in
    record {
      spelled = f.spelled;
      some = let some = f.some in omega arith;
      longest = λ other longer rest s e.
          let whole : held ++ more ≡ longer ++ rest =
          ap (λ (l : List ℕ). l ++ more) (sym (take-append-drop count held)) ∙ append_assoc (take count held) (drop count held) more ∙ e in
          let bound = no_longer a held state count more h g f.longest other longer rest s whole in
          omega arith;
    }

pub none_first : (a : Automaton) (held : List ℕ) (state : ℕ) (more : List ℕ) → LeadsTo a held state → IsBarren a (Some state) more → NoneBeyond a held 0 → BeginsNone (Spells a) (held ++ more)
none_first a held state more h g n kind spelling rest s some e =
    let bound = no_longer a held state 0 more h g n kind spelling rest s e in
    absurd (omega arith)

-- one more character in hand

pub nothing_held : (a : Automaton) → NoneBeyond a [] 0
nothing_held a n kind some within s = absurd (omega arith)

length-snoc : (held : List ℕ) (c : ℕ) → length (held ++ c ∷ []) ≡ length held + 1
length-snoc held c = length-append held (c ∷ [])

-- the characters lead to a state of no kind
pub none_more : (a : Automaton) (held : List ℕ) (c next count : ℕ) → LeadsTo a (held ++ c ∷ []) next → a.kind next ≡ None → NoneBeyond a held count → NoneBeyond a (held ++ c ∷ []) count
none_more a held c next count h e none n kind lt le s = elim (cases_lt (length held) n) [
  | inr within ↦ none n kind lt within (subst (Spells a kind) (take-append-le n held (c ∷ []) within) s)
  | inl beyond ↦
      let all : take n (held ++ c ∷ []) ≡ held ++ c ∷ [] = take_all n (held ++ c ∷ []) (let size = length-snoc held c in omega arith) in
      let is : Spells a kind (held ++ c ∷ []) = subst (Spells a kind) all s in
      let no_kind : None ≡ Some kind = sym (ap (kind_at a) h ∙ e) ∙ is in
      cc
]

pub front_more : (a : Automaton) (held : List ℕ) (c next count kind : ℕ) → LeadsTo a (held ++ c ∷ []) next → a.kind next ≡ None → IsFront a held count kind → IsFront a (held ++ c ∷ []) count kind
front_more a held c next count kind h e f = record {
  some = f.some;
  within = let within = f.within in let size = length-snoc held c in omega arith;
  spelled = subst (Spells a kind) (sym (take-append-le count held (c ∷ []) f.within)) f.spelled;
  longest = none_more a held c next count h e f.longest;
}

-- all that is held is a lexeme
pub front_all : (a : Automaton) (held : List ℕ) (state kind : ℕ) → 0 < length held → LeadsTo a held state → a.kind state ≡ Some kind → IsFront a held (length held) kind
front_all a held state kind some h e = record {
  some = some;
  within = omega arith;
  spelled = subst (Spells a kind) (sym (take_all (length held) held (omega arith))) (ap (kind_at a) h ∙ e);
  longest = λ n k lt le s. absurd (omega arith);
}
