use Rattle.std.proofs.Common.{◌≡◌, ◌∙◌, ◌<◌, ◌∷◌, ℕ, Bool, List, [], false, length, get_or, ap, subst, sym}
use Rattle.std.proofs.lemmas.List.Elements.{Contains-get_or}
use Rattle.graph_walks.specs.Marks.{MarkNumbers}
use Rattle.graph_walks.specs.Rings.{link_at, without}
use Rattle.graph_walks.specs.Walks.{AreWithin, IsReached, both_ways}
use Rattle.graph_walks.proofs.WalkLaws.{among_within, both_within, from_one, to_one}
use Rattle.graph_walks.proofs.WithoutLaws.{among_without}
use Rattle.graph_walks.proofs.ring_search.closes_ring.Goals as goal

-- the ends of the link in a place are nodes, and the other links are of nodes
ends_within : (nodes : ℕ) (links : List (ℕ × ℕ)) (place : ℕ) → AreWithin nodes links → place < length links → ((link_at links place).0 < nodes) × ((link_at links place).1 < nodes)
ends_within nodes links place within inside =
    within (link_at links place).0 (link_at links place).1 (Contains-get_or links place (0, 0) inside)

ways_within : (nodes : ℕ) (links : List (ℕ × ℕ)) (place : ℕ) → AreWithin nodes links → AreWithin nodes (both_ways (without place links))
ways_within nodes links place within = both_within nodes (without place links) (among_within nodes (without place links) links (among_without links place) within)

pub reached-requires : goal.reached-requires
reached-requires c =
    let same : c.deref-2.result.now ≡ both_ways (without c.args.place c.args.links.now) = c.deref-2.ensures.value ∙ c.in_ok-ways.ensures ∙ ap (both_ways {P = ℕ}) (c.deref.ensures.value ∙ c.in_ok-others.ensures) in
    subst (λ (pairs : List (ℕ × ℕ)). AreWithin c.args.nodes pairs) (sym same) (ways_within c.args.nodes c.args.links.now c.args.place c.requires.links)

pub returns : goal.returns
returns c =
    let nodes = c.args.nodes in
    let links = c.args.links.now in
    let place = c.args.place in
    let ways : List (ℕ × ℕ) = both_ways (without place links) in
    let link : ℕ × ℕ = link_at links place in
    let same : c.deref-2.result.now ≡ ways = c.deref-2.ensures.value ∙ c.in_ok-ways.ensures ∙ ap (both_ways {P = ℕ}) (c.deref.ensures.value ∙ c.in_ok-others.ensures) in
    let told : MarkNumbers nodes (IsReached ways (link.0 ∷ [])) c.in_ok-marks.marks.items = subst (λ (pairs : List (ℕ × ℕ)). MarkNumbers nodes (IsReached pairs (link.0 ∷ [])) c.in_ok-marks.marks.items) same c.in_ok-marks.ensures in
    let reads : c.has_mark.result ≡ get_or c.in_ok-marks.marks.items link.1 false = c.has_mark.ensures ∙ ap (λ (marks : List Bool). get_or marks link.1 false) c.deref-3.ensures.value in
    let inside = (ends_within nodes links place c.requires.links c.requires.place).1 in (
      λ yes. from_one ways link.0 link.1 ((told.told link.1 inside).0 (sym reads ∙ yes)),
      λ ring. reads ∙ (told.told link.1 inside).1 (to_one ways link.0 link.1 ring),
    )
