-- What a shelf in memory holds.
use Rattle.std.specs.Prelude.{ℕ, ◌-◌, ◌^◌, List, Option, find, unwrap_or}
use Rattle.std.specs.Option.{option_map}
use Rattle.std.specs.Str.{bytes_eq}

-- a document: its name as bytes, the bytes that are left of it, and how often a read of it failed
pub record Kept : Type 0 where
  pub name : List ℕ
  pub left : List ℕ
  pub faults : ℕ

-- the documents, the most bytes that a read gives, how many reads were made, and the number of the read that is to fail
pub record Shelved : Type 0 where
  pub documents : List Kept
  pub most : ℕ
  pub made : ℕ
  pub failing : Option ℕ

-- the document with this name
abbrev pub document_in : List Kept → List ℕ → Option Kept
document_in documents name = find (λ d. bytes_eq d.name name) documents

-- the bytes that are left under a name
abbrev pub left_in : List Kept → List ℕ → Option (List ℕ)
left_in documents name = option_map (λ d. d.left) (document_in documents name)

-- how often a read of a name failed; one that is not there has its count at the last value
abbrev pub faults_in : List Kept → List ℕ → ℕ
faults_in documents name = unwrap_or (option_map (λ d. d.faults) (document_in documents name)) (2 ^ 64 - 1)

-- the bytes that are left under a name on the shelf
abbrev pub left_on : Shelved → List ℕ → Option (List ℕ)
left_on shelf name = left_in shelf.documents name

-- the count of faults of a name on the shelf
abbrev pub faults_on : Shelved → List ℕ → ℕ
faults_on shelf name = faults_in shelf.documents name
