use Rattle.std.proofs.Common.{refl, ap, ◌∙◌}
use Rattle.owl_doc.specs.Documents.{nothing_yet}
use Rattle.owl_maker.specs.Makings.{nothing_open}
use Rattle.owl_atom.specs.declared.prefixes.Prefix.{Prefix}
use Rattle.std.proofs.Common.{List}
use Rattle.fss_acts.proofs.Nothing.{nothing_done}
use Rattle.fss_acts.proofs.assembler.Assembler.new.Goals as goal

pub returns : goal.returns
returns c =
    nothing_done _ c.new-arena.result c.in_ok-prefixes.ensures c.len.ensures.table refl refl (c.new.ensures ∙ ap nothing_open (c.new-builder.ensures ∙ ap (λ (ps : List Prefix). nothing_yet ps c.new-arena.result) c.empty.ensures))
