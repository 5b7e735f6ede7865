-- Why an import closure is refused.
use Rattle.std.specs.Prelude.{◌≡◌, Bool, false, List}
use Rattle.owl_close.specs.declared.fault.CloseFault.{CloseFault}
use Rattle.owl_close.specs.declared.fault.CloseFault.TheVariants.{MissingImport, Memory}
use Rattle.owl_close.specs.Imports.{IsFirstMissing}
use Rattle.owl_tree.specs.Ontologies.{Head}

-- where all has to be there, the first missing import is told; want of memory may be told at any time
abbrev pub IsRefusal : List Head → Bool → CloseFault → Type 0
IsRefusal heads partial (MissingImport document iri) = (partial ≡ false) × IsFirstMissing heads document iri
IsRefusal heads partial Memory = Unit {0}
