-- How what is held of prefixes stands to what a document declares.
use Rattle.std.specs.Prelude.{◌≡◌, ℕ, List}
use Rattle.owl_atom.specs.declared.prefixes.Prefix.{Prefix}
use Rattle.man_grammar.specs.Documents.{AreSamePrefixes}
use Rattle.man_grammar.specs.States.{Names}

-- what is held of prefixes
pub record NameTable : Type 0 where
  pub prefixes : List Prefix
  pub declaring : List ℕ

pub record AreNames (table : NameTable) (names : Names) : Type 0 where
  pub prefixes : AreSamePrefixes table.prefixes names.prefixes
  pub declaring : table.declaring ≡ names.declaring
