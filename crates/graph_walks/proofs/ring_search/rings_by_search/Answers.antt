use Rattle.std.proofs.Common.{◌≡◌, ◌<◌, ◌↔◌, ◌++◌, ◌∷◌, ℕ, Bool, List, [], true, false, length, get_or, sym, subst, rules}
use Rattle.graph_walks.specs.Rings.{ClosesRing, link_at}
use Rattle.graph_walks.proofs.MarkLaws.{marks_at, pushed_at}
use Rattle.graph_walks.proofs.ring_search.rings_by_search.Goals as goal

-- the mark of each place says whether its link closes a ring
abbrev IsTold : List (ℕ × ℕ) → ℕ → Bool → Type 0
IsTold links k mark = (mark ≡ true) ↔ ClosesRing links k (link_at links k)

pub loop-place-preserved : goal.loop-place-preserved
loop-place-preserved c =
    let links = c.args.links.now in
    let marks = c.loop-place.marks.items in
    let closes = c.in_ok-closes.closes in
    let grown : c.push.new.self.items ≡ marks ++ closes ∷ [] = search rules in
    let one : IsTold links (length marks) closes = subst (λ n. IsTold links n closes) (sym c.loop-place.invariant.size) c.in_ok-closes.ensures in
    record {
      size = search rules;
      told = subst (λ (ms : List Bool). (k : ℕ) → k < length ms → IsTold links k (get_or ms k false)) (sym grown) (pushed_at (IsTold links) false marks closes c.loop-place.invariant.told one);
    }

pub returns : goal.returns
returns c =
    let links = c.args.links.now in
    let marks = c.loop-place.marks.items in
    let size : length marks ≡ length links = search rules in
    marks_at (ClosesRing links) (0, 0) links marks size (λ k within. c.loop-place.invariant.told k (subst (λ n. k < n) (sym size) within))
