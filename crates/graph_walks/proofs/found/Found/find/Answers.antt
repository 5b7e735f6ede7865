use Rattle.std.proofs.Common.{◌≡◌, ◌<◌, Bool, true, false, ℕ, List, length, get_or, sym, ◌∙◌, rules}
use Rattle.std.proofs.lemmas.List.{get_or_default}
use Rattle.graph_walks.proofs.Finding.{finds_new, finds_old}
use Rattle.graph_walks.proofs.found.Found.find.Goals as goal
use Rattle.graph_walks.proofs.found.Found.find.Goals.{else-node-len-via-then-node-len+else-not-index, else-node-len-via-else-node-len}

already : (marks : List Bool) (node : ℕ) (mark : Bool) → node < length marks → mark ≡ get_or marks node mark → mark ≡ true → get_or marks node false ≡ true
already marks node mark h is e = get_or_default marks node false mark h ∙ sym is ∙ e

pub returns-in_ok-push : goal.returns-in_ok-push
returns-in_ok-push c =
    finds_new c.args.self.now _ c.args.node c.requires (search rules) (search rules) (search rules)

pub returns-else-node-len : goal.returns-else-node-len
returns-else-node-len c =
    finds_old c.args.self.now c.args.node c.requires
    (elim c.else-node-len.branch [
      | else-node-len-via-then-node-len+else-not-index w ↦ λ h. already c.args.self.now.marks.items c.args.node w.index.result.now h (search rules) (search rules)
      | else-node-len-via-else-node-len w ↦ λ h. absurd (search rules)
    ])
