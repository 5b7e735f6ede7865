use Rattle.std.proofs.Common.{◌∙◌, ap, subst}
use Rattle.blank_labels.specs.LabelNumbers.{Counts, LabelNumbers, names_beside}
use Rattle.blank_labels.proofs.FreshLabelLaws.{names_are_fresh}
use Rattle.owl_doc.specs.Documents.{ontology_of}
use Rattle.rdf_mapping.specs.Graphs.{labels_of}
use Rattle.rdf_forward.proofs.labels.labels_beside.Goals as goal

pub returns : goal.returns
returns c =
    let all = labels_of (ontology_of c.args.doc.now) in
    ap names_beside c.fresh_labels.ensures
    ∙ names_are_fresh c.count_document.new.numbers all (subst (λ (old : LabelNumbers). Counts old c.count_document.new.numbers all) c.new-numbers.ensures c.in_ok-count_document.ensures)
