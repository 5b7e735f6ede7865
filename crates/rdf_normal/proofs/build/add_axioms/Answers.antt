use Rattle.std.proofs.Common.{Err, ap, ◌∙◌}
use Rattle.owl_doc.specs.declared.fault.AddFault.{AddFault}
use Rattle.owl_doc.specs.declared.fault.AddFault.TheVariants.{TooHeavy, WrongTag}
use Rattle.rdf_normal.proofs.Filling.{err_of, is_axiom_there, axiom_added, axioms_too_heavy}
use Rattle.rdf_normal.proofs.build.add_axioms.Goals as goal

pub returns-in-Err-TooHeavy-clause-too_heavy : goal.returns-in-Err-TooHeavy-clause-too_heavy
returns-in-Err-TooHeavy-clause-too_heavy c = λ _.
    axioms_too_heavy c.args.builder.now c.ids.builder c.args.ids.now c.ids.id-index c.id-item.result c.ids.invariant c.ids-test.true c.id-item.is
    (c.add.ensures.too_heavy.0 (err_of c.add.result TooHeavy (c.in-Err-TooHeavy.is ∙ ap (λ (e : AddFault). Err e) c.in-Err-TooHeavy.field-0-is))).1.heavy

pub unreachable-requires : goal.unreachable-requires
unreachable-requires c =
    c.add.ensures.wrong_tag.0 (err_of c.add.result WrongTag (c.in-Err-WrongTag.is ∙ ap (λ (e : AddFault). Err e) c.in-Err-WrongTag.field-0-is))
    (is_axiom_there c.args.builder.now c.ids.builder c.args.ids.now c.ids.id-index c.id-item.result c.ids-test.true c.id-item.is c.ids.invariant c.requires.are_axioms)

pub ids-preserved : goal.ids-preserved
ids-preserved c =
    axiom_added c.args.builder.now c.ids.builder c.add.new.self c.args.ids.now c.ids.id-index c.id-item.result c.in-Ok._new c.ids.invariant c.requires.apart c.ids-test.true c.id-item.is c.in-Ok.ensures.new c.in-Ok.ensures.added
