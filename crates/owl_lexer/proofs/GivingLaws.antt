-- What a character makes of what is begun, and what several make of it.
use Rattle.std.proofs.Common.{◌≡◌, ℕ, ◌+◌, Option, None, Some, List, [], ◌∷◌, ◌++◌, take, drop, refl, sym, ap, ◌∙◌, subst}
use Rattle.std.proofs.lemmas.List.{append_assoc, append-nil, take-append-drop}
use Rattle.owl_characters.specs.Utf8.{size}
use Rattle.owl_lexer.specs.declared.fault.LexFault.{LexFault}
use Rattle.owl_lexer.specs.declared.fault.LexFault.TheVariants.{BadToken}
use Rattle.owl_lexer.specs.Automata.{Automaton, Spells}
use Rattle.owl_lexer.specs.Cutting.{CutsFirst, BeginsNone, Cuts, Lexeme, Stops}
use Rattle.owl_lexer.specs.Giving.{Begun, Continues, EndsAt, Gives, GivesSome}
use Rattle.owl_lexer.specs.Holding.{IsBarren, IsFront, LeadsTo, NoneBeyond}
use Rattle.owl_lexer.proofs.HoldingLaws.{none_first, stands_first, stuck_barren}
use Rattle.owl_lexer.proofs.TotalLaws.{cut}

move : (a : Automaton) (begun : Begun) (cs ds tail : List ℕ) (xs : List Lexeme) (e : Option LexFault) → cs ≡ ds → Continues a begun cs tail xs e → Continues a begun ds tail xs e
move a begun cs ds tail xs e same h = subst (λ (l : List ℕ). Continues a begun l tail xs e) same h

-- where it ends at a fault, what was given stands first

all_given : (a : Automaton) (old : Begun) (more tail : List ℕ) (xs : List Lexeme) (e : Option LexFault) → Continues a old more tail xs e → Continues a old more tail (xs ++ []) e
all_given a old more tail xs e k = subst (λ (l : List Lexeme). Continues a old more tail l e) (sym (append-nil xs)) k

pub ends_some : (a : Automaton) (old : Begun) (cs : List ℕ) (xs : List Lexeme) (fault : LexFault) → EndsAt a old cs xs fault → GivesSome a old cs xs
ends_some a old cs xs fault h more tail = ([], Some fault, all_given a old (cs ++ more) tail xs (Some fault) (h more tail))

-- nothing was given yet
pub some_none : (a : Automaton) (old : Begun) (cs : List ℕ) → GivesSome a old cs []
some_none a old cs more tail = let o = cut a old.at (old.held ++ (cs ++ more)) tail in (o.lexemes, o.ending, o.cuts)

-- a character is held
pub gives_held : (a : Automaton) (at c : ℕ) (held : List ℕ) → Gives a (record { at = at; held = held }) (c ∷ []) [] (record { at = at; held = held ++ c ∷ [] })
gives_held a at c held more tail rest e k = subst (λ (l : List ℕ). Cuts (Spells a) at l tail rest e) (append_assoc held (c ∷ []) more) k

-- the longest lexeme in front is given, and what stands behind it comes again

abbrev pub front_of : ℕ → List ℕ → ℕ → ℕ → Lexeme
front_of at held count kind = record { kind = kind; spelling = take count held; at = at }

abbrev pub behind_front : ℕ → List ℕ → ℕ → Begun
behind_front at held count = record { at = at + size (take count held); held = [] }

front_begins : (a : Automaton) (at : ℕ) (held : List ℕ) (state count kind : ℕ) (more : List ℕ) → LeadsTo a held state → IsFront a held count kind → IsBarren a (Some state) more → CutsFirst (Spells a) at (held ++ more) (front_of at held count kind) (drop count held ++ more)
front_begins a at held state count kind more h f g = record {
  parts = ap (λ (l : List ℕ). l ++ more) (sym (take-append-drop count held)) ∙ append_assoc (take count held) (drop count held) more;
  at = refl;
  stands = stands_first a held state count kind more h g f;
}

-- what comes of what is behind the lexeme comes of what is begun, behind it
pub comes_before : (a : Automaton) (at : ℕ) (held : List ℕ) (state count kind : ℕ) (more tail : List ℕ) (xs : List Lexeme) (e : Option LexFault) → LeadsTo a held state → IsFront a held count kind → IsBarren a (Some state) more → Continues a (behind_front at held count) (drop count held ++ more) tail xs e → Continues a (record { at = at; held = held }) more tail (front_of at held count kind ∷ xs) e
comes_before a at held state count kind more tail xs e h f g k = (drop count held ++ more, front_begins a at held state count kind more h f g, k)

-- a character that leads nowhere comes again too
front_before : (a : Automaton) (at : ℕ) (held : List ℕ) (state count kind c : ℕ) (more tail : List ℕ) (xs : List Lexeme) (e : Option LexFault) → LeadsTo a held state → IsFront a held count kind → a.step state c ≡ None → Continues a (behind_front at held count) ((drop count held ++ c ∷ []) ++ more) tail xs e → Continues a (record { at = at; held = held }) (c ∷ more) tail (front_of at held count kind ∷ xs) e
front_before a at held state count kind c more tail xs e h f stuck k =
    comes_before a at held state count kind (c ∷ more) tail xs e h f (stuck_barren a state c more stuck)
    (move a (behind_front at held count) ((drop count held ++ c ∷ []) ++ more) (drop count held ++ c ∷ more) tail xs e (append_assoc (drop count held) (c ∷ []) more) k)

pub gives_front : (a : Automaton) (at : ℕ) (held : List ℕ) (state count kind c : ℕ) (ys : List Lexeme) (new : Begun) → LeadsTo a held state → IsFront a held count kind → a.step state c ≡ None → Gives a (behind_front at held count) (drop count held ++ c ∷ []) ys new → Gives a (record { at = at; held = held }) (c ∷ []) (front_of at held count kind ∷ ys) new
gives_front a at held state count kind c ys new h f stuck g more tail rest e k = front_before a at held state count kind c more tail (ys ++ rest) e h f stuck (g more tail rest e k)

pub some_front : (a : Automaton) (at : ℕ) (held : List ℕ) (state count kind c : ℕ) (ys : List Lexeme) → LeadsTo a held state → IsFront a held count kind → a.step state c ≡ None → GivesSome a (behind_front at held count) (drop count held ++ c ∷ []) ys → GivesSome a (record { at = at; held = held }) (c ∷ []) (front_of at held count kind ∷ ys)
some_front a at held state count kind c ys h f stuck g more tail = let o = g more tail in (o.0, o.1, front_before a at held state count kind c more tail (ys ++ o.0) o.1 h f stuck o.2)

pub ends_front : (a : Automaton) (at : ℕ) (held : List ℕ) (state count kind c : ℕ) (ys : List Lexeme) (fault : LexFault) → LeadsTo a held state → IsFront a held count kind → a.step state c ≡ None → EndsAt a (behind_front at held count) (drop count held ++ c ∷ []) ys fault → EndsAt a (record { at = at; held = held }) (c ∷ []) (front_of at held count kind ∷ ys) fault
ends_front a at held state count kind c ys fault h f stuck g more tail = front_before a at held state count kind c more tail ys (Some fault) h f stuck (g more tail)

-- no lexeme stands in front
stops_here : (a : Automaton) (at : ℕ) (held : List ℕ) (c : ℕ) (more tail : List ℕ) → BeginsNone (Spells a) (held ++ c ∷ more) → Stops (Spells a) at (held ++ c ∷ more) tail (Some (BadToken at))
stops_here a at [] c more tail n = (n, refl)
stops_here a at (d ∷ held) c more tail n = (n, refl)

pub ends_here : (a : Automaton) (at : ℕ) (held : List ℕ) (state c : ℕ) → LeadsTo a held state → NoneBeyond a held 0 → a.step state c ≡ None → EndsAt a (record { at = at; held = held }) (c ∷ []) [] (BadToken at)
ends_here a at held state c h n stuck more tail = stops_here a at held c more tail (none_first a held state (c ∷ more) h (stuck_barren a state c more stuck) n)
