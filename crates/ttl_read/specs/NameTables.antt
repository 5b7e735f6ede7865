-- How what is held of IRIs stands to what a parser of Turtle knows of them.
use Rattle.std.specs.Prelude.{◌≡◌, ℕ, false, List, Option}
use Rattle.owl_atom.specs.Prefixes.{is_declared, is_fixed}
use Rattle.owl_atom.specs.declared.prefixes.Prefix.{Prefix}
use Rattle.ttl_grammar.specs.Documents.{AreNamespaces}
use Rattle.ttl_grammar.specs.States.{Names}

-- A name's prefix is marked neither as fixed nor as declared, as no prefix of Turtle is.
pub record IsPlain (prefixes : List Prefix) (name : List ℕ) : Type 0 where
  pub not_fixed : is_fixed prefixes name ≡ false
  pub not_declared : is_declared prefixes name ≡ false

abbrev pub ArePlain : List Prefix → Type 0
ArePlain prefixes = (name : List ℕ) → IsPlain prefixes name

-- what is held of IRIs
pub record NameTable : Type 0 where
  pub base : Option (List ℕ)
  pub prefixes : List Prefix
  pub declaring : List ℕ

pub record AreNames (table : NameTable) (names : Names) : Type 0 where
  pub base : table.base ≡ names.base
  pub declaring : table.declaring ≡ names.declaring
  pub namespaces : AreNamespaces table.prefixes names.namespaces
  pub plain : ArePlain table.prefixes
