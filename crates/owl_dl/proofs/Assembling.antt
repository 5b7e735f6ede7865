-- The list of what was added to nothing is whole.
use Rattle.std.proofs.Common.{List, [], map, sym, subst}
use Rattle.std.specs.List.{AllZip}
use Rattle.dl_rules.specs.Rules.{Breaks, dl_name, dl_rules}
use Rattle.owl_breaches.specs.Sites.{sites}
use Rattle.owl_doc.specs.Closures.{ImportClosure}
use Rattle.owl_doc.specs.declared.item.Breach.{Breach}
use Rattle.owl_doc.specs.Documents.{ontology_of}
use Rattle.breach_lists.specs.Adding.{AddsSites}
use Rattle.breach_lists.specs.Telling.{Tells, ontologies_of}
use Rattle.owl_dl.specs.Listing.{TellBreaches}

pub tells_all : (closure : ImportClosure) (found : List Breach) → AddsSites dl_name (Breaks (ontologies_of closure)) closure.documents (sites dl_rules (map ontology_of closure.documents)) [] found → TellBreaches closure found
tells_all closure found adds = record {
  breaches = adds.those;
  are = adds.are;
  told = subst (λ (bs : List Breach). AllZip (Tells dl_name closure.documents) adds.those bs) (sym adds.grown) adds.told;
}
