use Rattle.std.proofs.Common.{◌≡◌, ◌∙◌, List, Option, ℕ, Bool, ap, map, length, subst, sym}
use Rattle.dl_rules.specs.Assertions.{ClosesRing, link_of, links}
use Rattle.graph_walks.specs.Marks.{MarkEach}
use Rattle.graph_walks.specs.Rings as ring
use Rattle.graph_walks.specs.Walks.{AreWithin}
use Rattle.owl_arena.specs.Held.{trees_at}
use Rattle.owl_breaches.specs.Those.{HoldsOfSome}
use Rattle.owl_tree.specs.Trees.{Tree}
use Rattle.dl_graphs.specs.Links.{mark_at}
use Rattle.dl_graphs.proofs.RingAssertionLaws.{marks_of_placed, places, places_within, told_of_links}
use Rattle.dl_graphs.proofs.rings.ring_assertions.Goals as goal

pub ring_marks-requires : goal.ring_marks-requires
ring_marks-requires c =
    let ts = c.args.arena.now.trees in
    let found = c.in_ok-links.ensures in
    let within = subst (λ (pairs : List (ℕ × ℕ)). AreWithin (length ts) pairs) (sym (c.deref.ensures.value ∙ found.ends)) (places_within ts found.links found.held) in
    subst (λ (n : ℕ). AreWithin n c.deref.result.now) (sym c.distinct-nodes.ensures.trees) within

pub returns : goal.returns
returns c =
    let ts = c.args.arena.now.trees in
    let axs = trees_at ts c.args.axioms.now in
    let found = c.in_ok-links.ensures in
    let ls = found.links in
    let marks = c.in_ok-marks.marks.items in
    let each : MarkEach (ring.ClosesRing (places ts ls found.held)) (places ts ls found.held) marks =
    subst (λ (pairs : List (ℕ × ℕ)). MarkEach (ring.ClosesRing pairs) pairs marks) (c.deref.ensures.value ∙ found.ends) c.in_ok-marks.ensures in
    let told = told_of_links ts ls found.held (links axs) marks found.same found.once each in
    let gathered : c.in_ok-marks_at.field-0.items ≡ map (mark_at marks) c.in_ok-links.links.places.items =
    c.in_ok-marks_at.ensures ∙ (ap (λ (bs : List Bool). map (mark_at bs) c.deref-2.result.now) c.deref-3.ensures.value ∙ ap (λ (ps : List (Option ℕ)). map (mark_at marks) ps) c.deref-2.ensures.value) in
    subst (λ (bs : List Bool). MarkEach (λ (place : ℕ) (t : Tree). HoldsOfSome (ClosesRing (links axs)) (link_of t)) axs bs) (sym gathered)
    (marks_of_placed (ClosesRing (links axs)) ls marks told axs c.in_ok-links.links.places.items found.placed)
