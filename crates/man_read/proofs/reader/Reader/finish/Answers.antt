use Rattle.std.proofs.Common.{subst, sym}
use Rattle.owl_characters.proofs.ResultLaws.{passed}
use Rattle.owl_reader.proofs.AlikeLaws.{first_defect_alike, read_alike}
use Rattle.owl_reader.specs.Readings.{Reading}
use Rattle.man_grammar.proofs.PageLaws.{page_to_table, table_to_page}
use Rattle.man_read.specs.Reading.{HasRead}
use Rattle.man_read.proofs.Finished.{reads}
use Rattle.man_read.proofs.reader.Reader.finish.Goals as goal

pub returns-in_err-assembler-clause-refuses : goal.returns-in_err-assembler-clause-refuses
returns-in_err-assembler-clause-refuses c = passed c.from_residual.result c.in_err-assembler.field-0.0 _ c.from_residual.ensures.1
    (λ other bytes h. first_defect_alike table_to_page
    (c.in_err-assembler.ensures.refuses other tt bytes (read_alike page_to_table (subst (λ (r : Reading _). HasRead r bytes) (sym c.self.view_is) h))))

pub returns-clause-reads : goal.returns-clause-reads
returns-clause-reads c = λ bytes h.
    let read = c.in_ok-assembler.ensures.read tt bytes (read_alike page_to_table (subst (λ (r : Reading _). HasRead r bytes) (sym c.self.view_is) h)) in
    reads bytes c.in_ok-assembler.assembler read c.into_document.result c.into_document.ensures
