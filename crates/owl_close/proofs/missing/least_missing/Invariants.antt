use Rattle.std.proofs.Common.{take}
use Rattle.std.specs.Option.{option_copied}
use Rattle.owl_close.specs.Imports.{heads_of}
use Rattle.owl_close.specs.Searches.{FindsLeast}
use Rattle.owl_close.proofs.missing.least_missing.Given as goal

abbrev pub invariant-imports : goal.invariant-imports
invariant-imports l = FindsLeast (heads_of l.heads) (take l.iri-index l.imports) (option_copied l.least)
