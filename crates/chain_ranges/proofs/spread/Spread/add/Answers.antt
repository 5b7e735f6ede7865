use Rattle.std.proofs.Common.{◌≡◌, get_or, set, bit_or, refl, ap, ◌∙◌, subst, rules}
use Rattle.chain_ranges.proofs.SpreadLaws.{adds_new, adds_old}
use Rattle.chain_ranges.proofs.spread.Spread.add.Goals as goal
use Rattle.chain_ranges.proofs.spread.Spread.add.Goals.{else-node-len-via-then-node-len+else-new-old, else-node-len-via-else-node-len}

pub returns-in_ok-wait_for : goal.returns-in_ok-wait_for
returns-in_ok-wait_for c =
    let sets = c.args.self.now.sets.items in
    let own : c.set_at-old.result ≡ get_or sets c.args.node 0 = c.set_at-old.ensures ∙ ap (λ xs. get_or xs c.args.node 0) c.deref.ensures.value in
    adds_new c.args.self.now _ c.wait_for.new.self c.args.node c.args.bits (search rules) (ap (λ old. set sets c.args.node (bit_or old c.args.bits)) own) refl refl c.in_ok-wait_for.ensures

pub returns-else-node-len : goal.returns-else-node-len
returns-else-node-len c =
    let sets = c.args.self.now.sets.items in
    let own : c.set_at-old.result ≡ get_or sets c.args.node 0 = c.set_at-old.ensures ∙ ap (λ xs. get_or xs c.args.node 0) c.deref.ensures.value in
    adds_old c.args.self.now c.args.node c.args.bits
    (elim c.else-node-len.branch [
      | else-node-len-via-then-node-len+else-new-old w ↦ λ _. subst (λ old. bit_or old c.args.bits ≡ old) own w.if-new-old.false
      | else-node-len-via-else-node-len w ↦ λ h. absurd (search rules)
    ])
