-- A document with all that it imports, and what they declare.
use Rattle.std.specs.Prelude.{List, refl}
use Rattle.std.specs.Coded.{Coded, code_by, coded×, coded_list}
use Rattle.owl_kind.specs.contracts.kinds.Kinds as kinds
use Rattle.owl_kind.specs.Kinds.{Entity}
use Rattle.owl_doc.specs.Documents.{Document, document_code}

-- the documents, the main one first, and what they declare (Structural Specification, sections 3.4 and 5.8)
pub record ImportClosure : Type 0 where
  pub documents : List Document
  pub kinds : List Entity

-- it is stored as the pair of its fields
abbrev pub closure_code : Coded ImportClosure
closure_code = code_by (List Document × List Entity) (coded× (coded_list document_code) kinds.the_row.coded) (λ c. (c.documents, c.kinds)) (λ p. record { documents = p.0; kinds = p.1 }) (λ _. refl)
