-- Tests of all characters of a text.
use Rattle.std.proofs.Common.{◌≡◌, IsTrue, inl, inr, ℕ, Bool, true, false, List}
use Rattle.std.specs.List.{list_all}
use Rattle.std.proofs.lemmas.Bool.{both_ways, cases_Bool}
use Rattle.owl_characters.proofs.AllAreLaws.{all_are}
use Rattle.owl_characters.specs.Iri.{AllAre, is_iri_character}

pub all_told : (cs : List ℕ) → AllAre is_iri_character cs → list_all is_iri_character cs ≡ true
all_told cs h = (all_are is_iri_character cs).1 h

pub none_told : (cs : List ℕ) (r : Bool) → (AllAre is_iri_character cs → IsTrue r) → r ≡ false → list_all is_iri_character cs ≡ false
none_told cs r told e = elim (cases_Bool (list_all is_iri_character cs)) as (λ _. list_all is_iri_character cs ≡ false) [
  | inl t ↦ absurd (both_ways r e (told ((all_are is_iri_character cs).0 t)))
  | inr f ↦ f
]
