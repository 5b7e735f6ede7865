use Rattle.std.proofs.Common.{arith, ap, drop, ◌∙◌, sym}
use Rattle.std.proofs.lemmas.List.{take_rest}
use Rattle.owl_port.proofs.Taken.{given_then}
use Rattle.owl_port.proofs.document.Document.give.Goals as goal

pub returns-clause-bytes : goal.returns-clause-bytes
returns-clause-bytes c =
    ap (λ d. d.left) (sym c.self.view_is)
    ∙ given_then c.min-count.result c.self.inside.given c.self.inside.bytes.items _ _ _ (take_rest c.deref.result.now c.self.inside.given ∙ ap (drop c.self.inside.given) c.deref.ensures.value) c.copy_from_slice.ensures.after (omega arith)
