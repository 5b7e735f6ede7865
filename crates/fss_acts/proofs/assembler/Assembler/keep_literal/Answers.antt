use Rattle.std.proofs.Common.{refl}
use Rattle.owl_tree.specs.Rows.{row_of}
use Rattle.owl_tree.specs.declared.row.AtomSort.TheVariants as atom
use Rattle.owl_tree.specs.declared.tag.Tag.TheVariants as tag
use Rattle.fss_acts.proofs.Begun.{may_within}
use Rattle.fss_acts.proofs.assembler.Assembler.keep_literal.Goals as goal

pub take_form-form-requires : goal.take_form-form-requires
unfolding row_of
take_form-form-requires c = (may_within c.args.self.now tag.Literal atom.Literal c.args.next.now refl c.requires.may).ready.1

pub keep_text-requires : goal.keep_text-requires
unfolding row_of
keep_text-requires c = record { row = refl }
