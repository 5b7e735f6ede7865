use Rattle.owl_top.proofs.Delivering.{told_first_fault, told_front, told_note, told_note_alone, told_note_front, told_note_front_alone}
use Rattle.owl_top.proofs.program.obey.Goals as goal

pub returns-in-Ok-clause-front : goal.returns-in-Ok-clause-front
returns-in-Ok-clause-front g c = λ shelf out failed. told_front _ _ _ c.in-Ok.ensures.answered c.deliver.result c.deliver.ensures.status _ _ (c.deliver.ensures.text failed) (c.deliver.ensures.front out failed) shelf

pub returns-in-Ok-clause-note : goal.returns-in-Ok-clause-note
returns-in-Ok-clause-note g c = λ shelf note quiet. told_note _ _ _ c.in-Ok.ensures.answered c.deliver.result c.deliver.ensures.status _ _ (c.deliver.ensures.line note quiet) shelf

pub returns-in-Ok-clause-note_alone : goal.returns-in-Ok-clause-note_alone
returns-in-Ok-clause-note_alone g c = λ note quiet. told_note_alone _ _ _ c.in-Ok.ensures.answered c.deliver.result c.deliver.ensures.status _ _ (c.deliver.ensures.line note quiet)

pub returns-in-Ok-clause-note_front : goal.returns-in-Ok-clause-note_front
returns-in-Ok-clause-note_front g c = λ shelf note. told_note_front _ _ _ c.in-Ok.ensures.answered c.deliver.result c.deliver.ensures.status _ _ (c.deliver.ensures.line_front note) shelf

pub returns-in-Ok-clause-note_front_alone : goal.returns-in-Ok-clause-note_front_alone
returns-in-Ok-clause-note_front_alone g c = λ note. told_note_front_alone _ _ _ c.in-Ok.ensures.answered c.deliver.result c.deliver.ensures.status _ _ (c.deliver.ensures.line_front note)

pub returns-in-Ok-clause-in_order : goal.returns-in-Ok-clause-in_order
returns-in-Ok-clause-in_order g c = λ shelf failed. told_first_fault _ _ _ c.in-Ok.ensures.answered c.deliver.result c.deliver.ensures.status shelf failed
