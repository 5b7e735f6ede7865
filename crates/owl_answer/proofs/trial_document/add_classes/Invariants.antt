use Rattle.std.proofs.Common.{◌≡◌, ◌++◌, string_bytes}
use Rattle.owl_answer.specs.TrialDocument.{class_line, numbered}
use Rattle.owl_answer.proofs.trial_document.add_classes.Given as goal

abbrev pub invariant-loop-number : goal.invariant-loop-number
invariant-loop-number l = string_bytes l.text ≡ string_bytes l.fn.text ++ numbered class_line l.number
