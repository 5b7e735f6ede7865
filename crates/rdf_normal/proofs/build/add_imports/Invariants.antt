use Rattle.std.proofs.Common.{◌≡◌, take}
use Rattle.rdf_normal.specs.Building.{with_imports}
use Rattle.rdf_normal.proofs.build.add_imports.Given as goal

abbrev pub invariant-iris : goal.invariant-iris
invariant-iris l = l.builder ≡ with_imports (take l.iri-index l.iris) l.fn.builder
