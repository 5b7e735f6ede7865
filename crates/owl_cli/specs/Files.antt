-- What is known of the files that a command line names.
use Rattle.std.specs.Prelude.{ℕ, ◌-◌, ◌^◌, List, Bool, false, Option, None, find, unwrap_or, IsTrue}
use Rattle.std.specs.Option.{option_map, option_and_then, IsSomeAnd}
use Rattle.std.specs.Str.{bytes_eq}

-- a word: its bytes, how often a read of its file failed, whether the file is open, and the bytes that are left of it, where it is open and tells them
pub record Word : Type 0 where
  pub name : List ℕ
  pub faults : ℕ
  pub is_open : Bool
  pub left : Option (List ℕ)

-- a word that was not read yet
abbrev pub unread : List ℕ → Word
unread name = record { name = name; faults = 0; is_open = false; left = None }

-- the first word with these bytes
abbrev pub word_in : List Word → List ℕ → Option Word
word_in words name = find (λ w. bytes_eq w.name name) words

-- how often a read of a name failed; one that is none of the words has its count at the last value
abbrev pub faults_of : List Word → List ℕ → ℕ
faults_of words name = unwrap_or (option_map (λ w. w.faults) (word_in words name)) (2 ^ 64 - 1)

-- the bytes that are left under a name, where its file is open and tells them
abbrev pub left_of : List Word → List ℕ → Option (List ℕ)
left_of words name = option_and_then (λ w. w.left) (word_in words name)

-- the name is a word, and its file is open
abbrev pub IsOpen : List Word → List ℕ → Type 0
IsOpen words name = IsSomeAnd (word_in words name) (λ w. IsTrue w.is_open)
