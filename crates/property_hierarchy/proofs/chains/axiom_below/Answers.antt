use Rattle.std.proofs.Common.{ap, sym, ◌∙◌}
use Rattle.std.specs.Option.{option_map}
use Rattle.std.proofs.lemmas.Result.{IfOk-weaker}
use Rattle.dl_rules.specs.Hierarchy.{below_over}
use Rattle.property_hierarchy.specs.Numbers.{chain_seen, inverse_number}
use Rattle.property_hierarchy.proofs.Chaining.{below_some}
use Rattle.property_hierarchy.proofs.chains.axiom_below.Goals as goal

pub returns-in-Some : goal.returns-in-Some
returns-in-Some c =
    IfOk-weaker c.below_over.result _ _
    (λ pairs e. below_some c.args.arena.now.trees c.args.id (chain_seen c.in-Some.chain) c.args.top pairs.items c.requires.shared c.requires.kids c.requires.axiom c.requires.top
    (ap (option_map chain_seen) (sym c.in-Some.is) ∙ c.in_ok-chain.ensures) (e ∙ ap (below_over inverse_number c.in-Some.chain.implied) c.needed.ensures)) c.below_over.ensures
