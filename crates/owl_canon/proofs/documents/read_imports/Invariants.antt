use Rattle.owl_canon.specs.Bytes.{text_bytes}
use Rattle.owl_canon.proofs.WholeDocuments.{IsGoodIri}
use Rattle.owl_canon.proofs.EachRead.{HasRead}
use Rattle.owl_canon.proofs.documents.read_imports.Given as goal

abbrev pub invariant-iris : goal.invariant-iris
invariant-iris l = HasRead IsGoodIri text_bytes l.count l.initial.input.rest.now l.iris.items l.input.rest.now l._iri
