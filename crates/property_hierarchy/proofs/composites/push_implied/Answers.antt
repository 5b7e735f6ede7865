use Rattle.std.proofs.Common.{ap, sym, ◌∙◌}
use Rattle.std.specs.Option.{option_map}
use Rattle.std.proofs.lemmas.Result.{on_ok_weaker}
use Rattle.owl_arena.specs.Held.{tree_at}
use Rattle.property_hierarchy.specs.Numbers.{chain_seen}
use Rattle.property_hierarchy.proofs.Compositing.{implied_none, implied_one}
use Rattle.property_hierarchy.proofs.composites.push_implied.Goals as goal

pub returns-in-Some : goal.returns-in-Some
returns-in-Some c =
    on_ok_weaker c.push_both.result
    (λ e. implied_one c.args.arena.now.trees (tree_at c.args.arena.now.trees c.args.id) (chain_seen c.in-Some.chain) c.implied.result _ _
    (ap (option_map chain_seen) (sym c.in-Some.is) ∙ c.in_ok-chain.ensures) c.implied.ensures e) c.push_both.ensures

pub returns-in-None : goal.returns-in-None
returns-in-None c =
    implied_none c.args.arena.now.trees (tree_at c.args.arena.now.trees c.args.id) _ (ap (option_map chain_seen) (sym c.in-None.is) ∙ c.in_ok-chain.ensures)
