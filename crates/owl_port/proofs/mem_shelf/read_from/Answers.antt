use Rattle.owl_port.specs.MemShelf.{Kept}
use Rattle.owl_port.proofs.ByNameLaws.{absent, place_in, written_over, raised_where_absent}
use Rattle.owl_port.proofs.Documents.{failed_of, count_of, bytes_of, left_of, quiet_of, raised_of, grows_of, failed_where_absent}
use Rattle.owl_port.proofs.mem_shelf.read_from.Goals as goal

pub returns-in-None-clause-failed : goal.returns-in-None-clause-failed
returns-in-None-clause-failed c = failed_where_absent _ _ (absent (λ (d : Kept). d.name) c.args.documents.now.items c.args.name.now (place_in (λ (d : Kept). d.name) _ _ _ _ _ c.deref.ensures.value c.place_of.ensures c.in-None.is))

pub returns-in-None-clause-raised : goal.returns-in-None-clause-raised
returns-in-None-clause-raised c = raised_where_absent (λ (d : Kept). d.faults) _ (absent (λ (d : Kept). d.name) c.args.documents.now.items c.args.name.now (place_in (λ (d : Kept). d.name) _ _ _ _ _ c.deref.ensures.value c.place_of.ensures c.in-None.is))

-- what the read of the document does, said of its name
pub returns-in-Some : goal.returns-in-Some
returns-in-Some c =
    let over =
    written_over (λ (d : Kept). d.name) c.args.documents.now.items c.args.name.now c.in-Some.place c.index_mut.result.now c.read_one.new.document (place_in (λ (d : Kept). d.name) _ _ _ _ _ c.deref.ensures.value c.place_of.ensures c.in-Some.is) c.index_mut.ensures.value c.read_one.ensures.name in
    record {
      failed = failed_of _ _ _ _ over.was c.read_one.ensures.failed;
      count = count_of _ _ _ _ over.was c.read_one.ensures.count;
      bytes = bytes_of _ _ _ _ _ _ over.was over.becomes c.read_one.ensures.bytes;
      kept = left_of _ _ _ _ _ over.was over.becomes c.read_one.ensures.kept;
      quiet = quiet_of _ _ _ _ _ over.was over.becomes c.read_one.ensures.quiet;
      raised = raised_of _ _ _ _ _ over.was over.becomes c.read_one.ensures.raised;
      grows = grows_of _ _ _ _ over.was over.becomes c.read_one.ensures.grows;
      others = over.others;
    }
