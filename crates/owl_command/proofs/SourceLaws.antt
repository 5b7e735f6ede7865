-- The documents that are read, with their names and base IRIs.
use Rattle.std.proofs.Common.{◌≡◌, ◌<◌, ℕ, zero, suc, Option, None, Some, List, [], ◌∷◌, length, map, slice_get, arith, refl, ap, sym, ◌∙◌}
use Rattle.std.specs.Option.{option_map}
use Rattle.std.proofs.lemmas.Option.{same_Some}
use Rattle.owl_command.specs.Commands.{Request, Source, compares, names_of, of_main, sources_against, sources_of, tries, without_base}

names_without : (names : List (List ℕ)) → map (λ (s : Source). s.name) (map without_base names) ≡ names
names_without [] = refl
names_without (name ∷ names) = ap (λ (others : List (List ℕ)). name ∷ others) (names_without names)

names_against : (base : Option (List ℕ)) (names : List (List ℕ)) → map (λ (s : Source). s.name) (sources_against base names) ≡ names
names_against base [] = refl
names_against base (name ∷ names) = ap (λ (others : List (List ℕ)). name ∷ others) (names_without names)

-- they are the documents that are named
pub sources_are_named : (request : Request) → map (λ (s : Source). s.name) (sources_of request) ≡ names_of request
sources_are_named (of_main action options names) = names_against options.base names
sources_are_named (compares first second) = refl
sources_are_named (tries size) = refl

-- the name of the one at a place
name_in : (sources : List Source) (place : ℕ) (s : Source) → slice_get sources place ≡ Some s → slice_get (map (λ (s : Source). s.name) sources) place ≡ Some s.name
name_in [] place s e = absurd (cc)
name_in (first ∷ others) zero s e = ap (λ (o : Option Source). option_map (λ (x : Source). x.name) o) e
name_in (first ∷ others) (suc place) s e = name_in others place s e

pub name_at : (request : Request) (place : ℕ) (s : Source) → slice_get (sources_of request) place ≡ Some s → slice_get (names_of request) place ≡ Some s.name
name_at request place s e = ap (λ (names : List (List ℕ)). slice_get names place) (sym (sources_are_named request)) ∙ name_in (sources_of request) place s e

-- the one at a place, by its name and its base IRI
source_in : (sources : List Source) (place : ℕ) (name : List ℕ) (base : Option (List ℕ)) → slice_get (map (λ (s : Source). s.name) sources) place ≡ Some name → option_map (λ (s : Source). s.base) (slice_get sources place) ≡ Some base → slice_get sources place ≡ Some (record { name = name; base = base })
source_in [] place name base e f = absurd (cc)
source_in (first ∷ others) zero name base e f =
    let same : first ≡ record { name = name; base = base } = λ i. record { name = same_Some first.name name e i; base = same_Some first.base base f i } in
    ap Some same
source_in (first ∷ others) (suc place) name base e f = source_in others place name base e f

pub source_at : (request : Request) (place : ℕ) (name : List ℕ) (base : Option (List ℕ)) → slice_get (names_of request) place ≡ Some name → option_map (λ (s : Source). s.base) (slice_get (sources_of request) place) ≡ Some base → slice_get (sources_of request) place ≡ Some (record { name = name; base = base })
source_at request place name base e f =
    source_in (sources_of request) place name base (ap (λ (names : List (List ℕ)). slice_get names place) (sources_are_named request) ∙ e) f

-- the base IRI of the one at a place
none_without : (names : List (List ℕ)) (place : ℕ) → place < length names → option_map (λ (s : Source). s.base) (slice_get (map without_base names) place) ≡ Some None
none_without [] place h = absurd (omega arith)
none_without (name ∷ names) zero h = refl
none_without (name ∷ names) (suc place) h = none_without names place (omega arith)

pub base_of_other : (base : Option (List ℕ)) (names : List (List ℕ)) (place : ℕ) → (place ≡ 0 → ⊥) → place < length names → option_map (λ (s : Source). s.base) (slice_get (sources_against base names) place) ≡ Some None
base_of_other base [] place n h = absurd (omega arith)
base_of_other base (name ∷ names) zero n h = absurd (n refl)
base_of_other base (name ∷ names) (suc place) n h = none_without names place (omega arith)
