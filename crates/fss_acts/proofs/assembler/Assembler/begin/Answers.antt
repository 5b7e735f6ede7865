use Rattle.std.proofs.Common.{ap, sym, ◌∙◌}
use Rattle.owl_tree.specs.declared.row.AtomSort.TheVariants as atom
use Rattle.owl_tree.specs.Rows.{Leaf}
use Rattle.fss_acts.proofs.Begun.{may_within}
use Rattle.fss_acts.proofs.assembler.Assembler.begin.Goals as goal

pub begin_iri-requires-clause-may : goal.begin_iri-requires-clause-may
begin_iri-requires-clause-may c =
    may_within c.args.self.now c.args.tag atom.Iri c.args.next.now (sym c.in-Leaf-Iri.ensures ∙ ap Leaf c.in-Leaf-Iri.field-0-is) c.requires.may
