use Rattle.blank_labels.proofs.FreshLabelLaws.{fresh_apart, fresh_is_label, fresh_new}
use Rattle.blank_labels.proofs.laws.fresh_labels_are_told_apart.Goals as goal

pub returns-clause-apart : goal.returns-clause-apart
returns-clause-apart c = fresh_apart

pub returns-clause-fresh : goal.returns-clause-fresh
returns-clause-fresh c = fresh_new

pub returns-clause-labels : goal.returns-clause-labels
returns-clause-labels c = fresh_is_label
