use Rattle.std.proofs.Common.{subst, sym}
use Rattle.owl_reader.proofs.AlikeLaws.{first_defect_alike, read_alike}
use Rattle.owl_reader.specs.Readings.{Reading}
use Rattle.owl_characters.proofs.ResultLaws.{passed}
use Rattle.ttl_grammar.proofs.PageLaws.{page_to_table, table_to_page}
use Rattle.ttl_read.specs.Reading.{HasRead}
use Rattle.ttl_read.proofs.Finished.{plain_prefixes, reads}
use Rattle.ttl_read.proofs.reader.Reader.finish.Goals as goal

pub returns-in_err-assembler-clause-refuses : goal.returns-in_err-assembler-clause-refuses
returns-in_err-assembler-clause-refuses c = passed c.from_residual.result c.in_err-assembler.field-0.0 _ c.from_residual.ensures.1
    (λ other base bytes h. first_defect_alike table_to_page
    (c.in_err-assembler.ensures.refuses other base bytes (read_alike page_to_table (subst (λ (r : Reading _). HasRead base r bytes) (sym c.self.view_is) h))))

pub returns-clause-reads : goal.returns-clause-reads
returns-clause-reads c = λ base bytes h.
    let read = c.in_ok-assembler.ensures.read base bytes (read_alike page_to_table (subst (λ (r : Reading _). HasRead base r bytes) (sym c.self.view_is) h)) in
    reads base bytes c.in_ok-assembler.assembler read c.into_prefixes.result c.into_prefixes.ensures

pub returns-clause-plain : goal.returns-clause-plain
returns-clause-plain c = λ base bytes h.
    let read = c.in_ok-assembler.ensures.read base bytes (read_alike page_to_table (subst (λ (r : Reading _). HasRead base r bytes) (sym c.self.view_is) h)) in
    plain_prefixes base bytes c.in_ok-assembler.assembler read c.into_prefixes.result c.into_prefixes.ensures
