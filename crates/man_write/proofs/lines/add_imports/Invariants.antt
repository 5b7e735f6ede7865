use Rattle.std.proofs.Common.{◌≡◌, ◌++◌, take}
use Rattle.std.specs.List.{flat_map}
use Rattle.man_write.specs.Plans.{import_text}
use Rattle.man_write.proofs.lines.add_imports.Given as goal

-- the lines so far
abbrev pub invariant-loop-iri : goal.invariant-loop-iri
invariant-loop-iri l = l.draft ≡ l.fn.draft ++ flat_map import_text (take l.iri-index l.imports)
