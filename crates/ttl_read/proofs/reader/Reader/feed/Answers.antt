use Rattle.std.proofs.Common.{subst, sym}
use Rattle.std.proofs.lemmas.Result.{IfErr-weaker, on_ok_weaker}
use Rattle.owl_reader.proofs.AlikeLaws.{early_alike, read_alike, refuses_alike}
use Rattle.owl_reader.proofs.FedLaws.{fed}
use Rattle.owl_reader.specs.Readings.{Reading}
use Rattle.ttl_grammar.proofs.PageLaws.{page_to_table, table_to_page}
use Rattle.ttl_read.specs.Reading.{HasRead}
use Rattle.ttl_read.proofs.reader.Reader.feed.Goals as goal

pub returns-clause-reads : goal.returns-clause-reads
returns-clause-reads c = λ base bytes h.
    read_alike table_to_page
    (fed _ _ c.feed.result _ _ _ base bytes c.feed.ensures.reads c.feed.ensures.refuses c.feed.ensures.keeps
    (read_alike page_to_table (subst (λ (r : Reading _). HasRead base r bytes) (sym c.self.view_is) h)))

pub returns-clause-refuses : goal.returns-clause-refuses
returns-clause-refuses c = IfErr-weaker c.feed.result _ _
    (λ e refuses other base bytes h. refuses_alike _ table_to_page
    (refuses other base bytes (read_alike page_to_table (subst (λ (r : Reading _). HasRead base r bytes) (sym c.self.view_is) h))))
    c.feed.ensures.refuses

pub returns-clause-early : goal.returns-clause-early
returns-clause-early c = on_ok_weaker c.feed.result (λ early base. early_alike table_to_page (early base)) c.feed.ensures.early
