-- Any characters are cut into lexemes in one way at least, by any automaton.
use Rattle.std.proofs.Common.{◌≡◌, ℕ, zero, suc, ◌+◌, ◌≤◌, Option, None, Some, List, [], ◌∷◌, ◌++◌, length, take, drop, refl, sym, ap, ◌∙◌, subst, arith}
use Rattle.std.proofs.lemmas.List.{append_assoc, length-append, take-append-drop}
use Rattle.owl_characters.specs.Utf8.{size}
use Rattle.owl_lexer.specs.declared.fault.LexFault.{LexFault}
use Rattle.owl_lexer.specs.declared.fault.LexFault.TheVariants.{BadToken, BadUtf8}
use Rattle.owl_lexer.specs.Automata.{Automaton, Spells}
use Rattle.owl_lexer.specs.Cutting.{BeginsNone, Cuts, Lexeme, Stands}
use Rattle.owl_lexer.specs.Holding.{IsBarren, IsFront, LeadsTo, NoneBeyond}
use Rattle.owl_lexer.proofs.HoldingLaws.{front_all, front_more, leads_on, none_first, none_more, nothing_held, stands_first, stuck_barren}

-- a lexeme stands first, or none does
data FirstIn (a : Automaton) (cs : List ℕ) : Type 0 where
  first : (kind : ℕ) (spelling rest : List ℕ) → cs ≡ spelling ++ rest → Stands (Spells a) kind spelling rest → FirstIn a cs
  nothing : BeginsNone (Spells a) cs → FirstIn a cs

-- the longest lexeme in front of what was scanned
data Scanned (a : Automaton) (held : List ℕ) : Type 0 where
  front : (count kind : ℕ) → IsFront a held count kind → Scanned a held
  no_front : NoneBeyond a held 0 → Scanned a held

scanned_first : (a : Automaton) (held : List ℕ) (state : ℕ) (more : List ℕ) → LeadsTo a held state → IsBarren a (Some state) more → Scanned a held → FirstIn a (held ++ more)
scanned_first a held state more h g (front count kind f) =
    first kind (take count held) (drop count held ++ more)
    (ap (λ (l : List ℕ). l ++ more) (sym (take-append-drop count held)) ∙ append_assoc (take count held) (drop count held) more)
    (stands_first a held state count kind more h g f)
scanned_first a held state more h g (no_front n) = nothing (none_first a held state more h g n)

scanned_more : (a : Automaton) (held : List ℕ) (c next : ℕ) (kind : Option ℕ) → LeadsTo a (held ++ c ∷ []) next → a.kind next ≡ kind → Scanned a held → Scanned a (held ++ c ∷ [])
scanned_more a held c next (Some kind) h e s = front (length (held ++ c ∷ [])) kind (front_all a (held ++ c ∷ []) next kind (let size = length-append held (c ∷ []) in omega arith) h e)
scanned_more a held c next None h e (front count kind f) = front count kind (front_more a held c next count kind h e f)
scanned_more a held c next None h e (no_front n) = no_front (none_more a held c next 0 h e n)

-- what comes of the characters behind one
Scans : Automaton → List ℕ → Type 0
Scans a more = (held : List ℕ) (state : ℕ) → LeadsTo a held state → Scanned a held → FirstIn a (held ++ more)

scan_on : (a : Automaton) (c : ℕ) (more : List ℕ) → Scans a more → (held : List ℕ) (state : ℕ) (next : Option ℕ) → a.step state c ≡ next → LeadsTo a held state → Scanned a held → FirstIn a (held ++ c ∷ more)
unfolding Scans
scan_on a c more scans held state None e h s = scanned_first a held state (c ∷ more) h (stuck_barren a state c more e) s
scan_on a c more scans held state (Some next) e h s =
    let leads = leads_on a held state c next h e in
    subst (FirstIn a) (append_assoc held (c ∷ []) more) (scans (held ++ c ∷ []) next leads (scanned_more a held c next (a.kind next) leads refl s))

scan : (a : Automaton) (more : List ℕ) → Scans a more
unfolding Scans
scan a [] held state h s = scanned_first a held state [] h tt s
scan a (c ∷ more) held state h s = scan_on a c more (scan a more) held state (a.step state c) refl h s

first_in : (a : Automaton) (cs : List ℕ) → FirstIn a cs
unfolding Scans
first_in a cs = scan a cs [] a.start refl (no_front (nothing_held a))

-- the lexemes of characters, and how they end
pub record IsCut (a : Automaton) (place : ℕ) (cs tail : List ℕ) : Type 0 where
  pub lexemes : List Lexeme
  pub ending : Option LexFault
  pub cuts : Cuts (Spells a) place cs tail lexemes ending

cut_end : (a : Automaton) (place : ℕ) (tail : List ℕ) → IsCut a place [] tail
cut_end a place [] = record { lexemes = []; ending = None; cuts = refl }
cut_end a place (b ∷ tail) = record { lexemes = []; ending = Some (BadUtf8 place); cuts = refl }

Cutting : Automaton → ℕ → Type 0
Cutting a n = (place : ℕ) (cs tail : List ℕ) → length cs ≤ n → IsCut a place cs tail

cut_first : (a : Automaton) (n : ℕ) → Cutting a n → (place c : ℕ) (cs tail : List ℕ) → length cs ≤ n → FirstIn a (c ∷ cs) → IsCut a place (c ∷ cs) tail
unfolding Cutting
cut_first a n cutting place c cs tail le (nothing none) = record { lexemes = []; ending = Some (BadToken place); cuts = (none, refl) }
cut_first a n cutting place c cs tail le (first kind spelling rest e s) =
    let sizes : length (c ∷ cs) ≡ length spelling + length rest = ap (λ (l : List ℕ). length l) e ∙ length-append spelling rest in
    let some = s.some in
    let here : length (c ∷ cs) ≡ length cs + 1 = omega arith in
    let others = cutting (place + size spelling) rest tail (omega arith) in
    record {
      lexemes = record { kind = kind; spelling = spelling; at = place } ∷ others.lexemes;
      ending = others.ending;
      cuts = (rest, record { parts = e; at = refl; stands = s }, others.cuts);
    }

cut_within : (a : Automaton) (n : ℕ) → Cutting a n
unfolding Cutting
cut_within a n place [] tail le = cut_end a place tail
cut_within a zero place (c ∷ cs) tail le = absurd (omega arith)
cut_within a (suc n) place (c ∷ cs) tail le = cut_first a n (cut_within a n) place c cs tail (omega arith) (first_in a (c ∷ cs))

pub cut : (a : Automaton) (place : ℕ) (cs tail : List ℕ) → IsCut a place cs tail
unfolding Cutting
cut a place cs tail = cut_within a (length cs) place cs tail (omega arith)
