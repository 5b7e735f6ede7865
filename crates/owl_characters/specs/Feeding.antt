-- Characters that come in UTF-8, one byte after another.
use Rattle.std.specs.Prelude.{◌≡◌, ℕ, ◌+◌, ◌<◌, ◌≤◌, Bool, true, false, List, [], ◌∷◌, ◌++◌, length, ◌==◌, if◌then◌else◌}
use Rattle.std.specs.Char.{IsScalar, encode_utf8, len_utf8}
use Rattle.owl_characters.specs.Utf8.{BeginsNoCharacter}
use Rattle.owl_characters.specs.declared.utf8_step.Utf8Step.{Utf8Step}
use Rattle.owl_characters.specs.declared.utf8_step.Utf8Step.TheVariants.{More, Char, Bad}
use Rattle.owl_characters.specs.declared.utf8_states.Partial.{Partial}
use Rattle.owl_characters.specs.declared.utf8_states.Partial.TheVariants.{Nothing, One, Two, Three}
use Rattle.owl_characters.specs.declared.utf8_states.Judged.{Judged}
use Rattle.owl_characters.specs.declared.utf8_states.Judged.TheVariants.{Goes, Whole, Wrong}

-- The place of the character that is begun, its bytes, and whether none begins there.
pub record Feeding : Type 0 where
  pub at : ℕ
  pub held : List ℕ
  pub bad : Bool

-- no character begins these bytes, however they go on
abbrev pub BeginsNone : List ℕ → Type 0
BeginsNone bytes = (more : List ℕ) → BeginsNoCharacter (bytes ++ more)

-- the bytes are a proper front of a character
pub record IsUnfinished (bytes : List ℕ) : Type 0 where
  pub character : ℕ
  pub rest : List ℕ
  pub scalar : IsScalar character
  pub is : encode_utf8 character ≡ bytes ++ rest
  pub some : 0 < length rest

-- what a byte makes of what is begun
abbrev pub Steps : Feeding → ℕ → Utf8Step → Feeding → Type 0
Steps old b More new =
    IsUnfinished (old.held ++ b ∷ []) × (new ≡ record { at = old.at; held = old.held ++ b ∷ []; bad = false })
Steps old b (Char c at) new =
    (at ≡ old.at) × IsScalar c × (encode_utf8 c ≡ old.held ++ b ∷ []) × (new ≡ record { at = old.at + len_utf8 c; held = []; bad = false })
Steps old b (Bad at) new =
    (at ≡ old.at) × BeginsNone (old.held ++ b ∷ []) × (new ≡ record { at = old.at; held = old.held; bad = true })

abbrev pub held_of : Partial → List ℕ
held_of Nothing = []
held_of (One a) = a ∷ []
held_of (Two a b) = a ∷ b ∷ []
held_of (Three a b c) = a ∷ b ∷ c ∷ []

-- between which bytes the second one lies
abbrev pub least_second : ℕ → ℕ
least_second a = if a == 224 then 160 else (if a == 240 then 144 else 128)

abbrev pub last_second : ℕ → ℕ
last_second a = if a == 237 then 159 else (if a == 244 then 143 else 191)

-- the first two bytes of a longer character
pub record IsLead (a b : ℕ) : Type 0 where
  pub least : 224 ≤ a
  pub most : a ≤ 244
  pub second : (least_second a ≤ b) × (b ≤ last_second a)

-- the bytes of a character that is begun
abbrev pub IsBegun : List ℕ → Type 0
IsBegun [] = Unit {0}
IsBegun (a ∷ []) = (194 ≤ a) × (a ≤ 244)
IsBegun (a ∷ b ∷ []) = IsLead a b
IsBegun (a ∷ b ∷ c ∷ []) = IsLead a b × (240 ≤ a) × (128 ≤ c) × (c ≤ 191)
IsBegun (a ∷ b ∷ c ∷ d ∷ bytes) = ⊥

abbrev pub Judges : List ℕ → Judged → Type 0
Judges bytes (Goes partial) = (held_of partial ≡ bytes) × IsBegun bytes × IsUnfinished bytes
Judges bytes (Whole c) = IsScalar c × (encode_utf8 c ≡ bytes)
Judges bytes Wrong = BeginsNone bytes
