use Rattle.std.proofs.Common.{◌≡◌, ◌++◌, string_bytes}
use Rattle.owl_answer.specs.TrialDocument.{link_lines, numbered}
use Rattle.owl_answer.proofs.trial_document.add_links.Given as goal

abbrev pub invariant-loop-number : goal.invariant-loop-number
invariant-loop-number l = string_bytes l.text ≡ string_bytes l.fn.text ++ numbered link_lines l.number
