use Rattle.owl_documents.proofs.OneWay.{never_both, read_same, refused_once}
use Rattle.owl_documents.proofs.laws.documents_are_read_one_way.Goals as goal

pub returns-clause-read : goal.returns-clause-read
returns-clause-read c = λ contents sources documents others r s.
    read_same (record {
      functional = c.documents_are_read_one_way.ensures.one_way;
      no_functional = c.defects_are_of_no_document.ensures;
      functional_defect = c.one_first_defect.ensures;
      turtle = c.documents_are_read_one_way-2.ensures;
      no_turtle = c.defects_are_of_no_document-2.ensures;
      turtle_defect = c.one_first_defect-2.ensures;
      canonical = c.bytes_are_read_once.ensures.once;
      manchester = c.documents_are_read_one_way-3.ensures;
      no_manchester = c.defects_are_of_no_document-3.ensures;
      manchester_defect = c.one_first_defect-3.ensures;
    }) contents 0 sources documents others r.0 s.0 r.1 s.1

pub returns-clause-refused : goal.returns-clause-refused
returns-clause-refused c = λ contents sources source other refusal another r s.
    refused_once (record {
      functional = c.documents_are_read_one_way.ensures.one_way;
      no_functional = c.defects_are_of_no_document.ensures;
      functional_defect = c.one_first_defect.ensures;
      turtle = c.documents_are_read_one_way-2.ensures;
      no_turtle = c.defects_are_of_no_document-2.ensures;
      turtle_defect = c.one_first_defect-2.ensures;
      canonical = c.bytes_are_read_once.ensures.once;
      manchester = c.documents_are_read_one_way-3.ensures;
      no_manchester = c.defects_are_of_no_document-3.ensures;
      manchester_defect = c.one_first_defect-3.ensures;
    }) contents 0 sources source other refusal another r s

pub returns-clause-apart : goal.returns-clause-apart
returns-clause-apart c = λ contents sources documents source refusal r s.
    never_both (record {
      functional = c.documents_are_read_one_way.ensures.one_way;
      no_functional = c.defects_are_of_no_document.ensures;
      functional_defect = c.one_first_defect.ensures;
      turtle = c.documents_are_read_one_way-2.ensures;
      no_turtle = c.defects_are_of_no_document-2.ensures;
      turtle_defect = c.one_first_defect-2.ensures;
      canonical = c.bytes_are_read_once.ensures.once;
      manchester = c.documents_are_read_one_way-3.ensures;
      no_manchester = c.defects_are_of_no_document-3.ensures;
      manchester_defect = c.one_first_defect-3.ensures;
    }) contents 0 sources documents r.0 source refusal r.1 s
