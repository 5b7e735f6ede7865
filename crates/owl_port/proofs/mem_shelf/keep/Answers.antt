use Rattle.std.proofs.Common.{ap, sym, ◌∙◌}
use Rattle.owl_port.specs.MemShelf.{Kept, document_in}
use Rattle.owl_port.proofs.ByNameLaws.{place_in, put_at, put_others}
use Rattle.owl_port.proofs.Documents.{added_one, added_others}
use Rattle.owl_port.proofs.mem_shelf.keep.Goals as goal

pub returns-in-Some-clause-kept : goal.returns-in-Some-clause-kept
returns-in-Some-clause-kept c =
    ap (document_in _) (sym c.name.ensures)
    ∙ put_at (λ (d : Kept). d.name) c.args.documents.now.items c.name.result.now c.in-Some.place c.args.document (place_in (λ (d : Kept). d.name) _ _ _ _ _ c.deref.ensures.value c.place_of.ensures c.in-Some.is) (sym c.name.ensures)

pub returns-in-Some-clause-others : goal.returns-in-Some-clause-others
returns-in-Some-clause-others c = λ other ne.
    put_others (λ (d : Kept). d.name) c.args.documents.now.items c.name.result.now c.in-Some.place c.args.document (place_in (λ (d : Kept). d.name) _ _ _ _ _ c.deref.ensures.value c.place_of.ensures c.in-Some.is) (sym c.name.ensures) other (λ e. ne (e ∙ c.name.ensures))

pub returns-in-None-clause-kept : goal.returns-in-None-clause-kept
returns-in-None-clause-kept c =
    added_one c.append.result c.args.documents.now.items _ c.name.result.now c.args.document (place_in (λ (d : Kept). d.name) _ _ _ _ _ c.deref.ensures.value c.place_of.ensures c.in-None.is) c.name.ensures c.append.ensures.ok

pub returns-in-None-clause-others : goal.returns-in-None-clause-others
returns-in-None-clause-others c =
    added_others c.append.result c.args.documents.now.items _ c.args.document c.append.ensures.ok c.append.ensures.err
