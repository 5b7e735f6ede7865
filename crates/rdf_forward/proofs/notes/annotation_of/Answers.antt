use Rattle.std.proofs.Common.{Some, sym, ap, ◌∙◌}
use Rattle.rdf_forward.proofs.Annotations.{is_note}
use Rattle.rdf_forward.proofs.Taking.{only_three}
use Rattle.rdf_forward.proofs.notes.annotation_of.Goals as goal

pub returns-clause-some : goal.returns-clause-some
returns-clause-some c =
    let three = only_three c.kids.result.now c.notes-item.result c.property-item.result c.value-item.result c.in-len3.len_below c.in-len3.len_at_least c.notes-item.is c.property-item.is c.value-item.is in
    is_note _ _ c.kids.result.now _ _ _ _ _ three c.kids.ensures.kids (sym c.in-Some-Iri.ensures.atom ∙ ap Some c.in-Some-Iri.field-0-is) (sym c.in_ok-value.ensures.atom)
