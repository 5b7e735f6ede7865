use Rattle.std.proofs.Common.{◌≡◌, ◌++◌, length}
use Rattle.std.specs.Vec.Iter.{into_iter_items, into_iter_len}
use Rattle.owl_assembly.specs.Filling.{with_imports}
use Rattle.owl_assembly.proofs.assembling.import_all.Given as goal

-- what was imported, and what is left
abbrev pub invariant-iris : goal.invariant-iris
invariant-iris l = record {
  all : with_imports (l.builder.head.imports ++ into_iter_items l.iri-iterator) l.builder ≡ with_imports l.fn.iris.items l.fn.builder;
  len : into_iter_len l.iri-iterator ≡ length (into_iter_items l.iri-iterator);
}
