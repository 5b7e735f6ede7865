use Rattle.std.proofs.Common.{◌≡◌, ◌<◌, ◌++◌, ◌∷◌, ℕ, List, [], length, sym, subst, rules}
use Rattle.graph_walks.specs.Rings.{IsTurned, link_at}
use Rattle.graph_walks.proofs.MarkLaws.{pushed_at}
use Rattle.graph_walks.proofs.rings.turned_by.Goals as goal

pub links-preserved : goal.links-preserved
links-preserved c =
    let links = c.args.links.now in
    let turned = c.links.turned.items in
    let grown : c.push.new.self.items ≡ turned ++ c.turned_if.result ∷ [] = search rules in
    let own : IsTurned (link_at links c.links.link-index) c.turned_if.result = c.turned_if.ensures in
    let one : IsTurned (link_at links (length turned)) c.turned_if.result = subst (λ n. IsTurned (link_at links n) c.turned_if.result) (sym c.links.invariant.size) own in
    record {
      size = search rules;
      told = subst (λ (ts : List (ℕ × ℕ)). (place : ℕ) → place < length ts → IsTurned (link_at links place) (link_at ts place)) (sym grown) (pushed_at (λ (place : ℕ) (now : ℕ × ℕ). IsTurned (link_at links place) now) (0, 0) turned c.turned_if.result c.links.invariant.told one);
    }

pub returns : goal.returns
returns c = record { size = search rules; told = c.links.invariant.told }
