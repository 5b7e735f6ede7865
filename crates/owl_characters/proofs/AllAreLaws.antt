-- Characters that all pass a test.
use Rattle.std.proofs.Common.{◌≡◌, ℕ, ◌↔◌, Bool, true, List, [], ◌∷◌, ◌++◌, refl}
use Rattle.std.specs.List.{list_all}
use Rattle.std.proofs.lemmas.Bool.{and_from, and_parts}
use Rattle.owl_characters.specs.Iri.{AllAre}

-- the test of all characters, and the fact
pub all_are : (test : ℕ → Bool) (cs : List ℕ) → (list_all test cs ≡ true) ↔ AllAre test cs
all_are test [] = (λ _. tt, λ _. refl)
all_are test (c ∷ cs) =
    let rest = all_are test cs in (
      λ h. let both = and_parts (test c) (list_all test cs) h in (both.0, rest.0 both.1),
      λ h. and_from (test c) (list_all test cs) h.0 (rest.1 h.1),
    )

pub AllAre-append : (p : ℕ → Bool) (xs ys : List ℕ) → AllAre p xs → AllAre p ys → AllAre p (xs ++ ys)
AllAre-append p [] ys h k = k
AllAre-append p (x ∷ xs) ys h k = (h.0, AllAre-append p xs ys h.1 k)

-- what passes one test passes another
pub AllAre-weaker : (p q : ℕ → Bool) → ((c : ℕ) → p c ≡ true → q c ≡ true) → (xs : List ℕ) → AllAre p xs → AllAre q xs
AllAre-weaker p q f [] h = tt
AllAre-weaker p q f (x ∷ xs) h = (f x h.0, AllAre-weaker p q f xs h.1)

pub AllAre-back : (p : ℕ → Bool) (xs ys : List ℕ) → AllAre p (xs ++ ys) → AllAre p ys
AllAre-back p [] ys h = h
AllAre-back p (x ∷ xs) ys h = AllAre-back p xs ys h.1
