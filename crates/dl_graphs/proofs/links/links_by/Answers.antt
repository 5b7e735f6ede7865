use Rattle.std.proofs.Common.{◌≡◌, ◌∙◌, ap, eq-eqb, map, refl, true}
use Rattle.owl_arena.specs.Held.{trees_at}
use Rattle.dl_graphs.specs.contracts.links.LinkIdsPartialEq.TheImpl as equal_links
use Rattle.dl_graphs.specs.declared.links.LinkIds.{LinkIds}
use Rattle.dl_graphs.specs.Links.{ends_at}
use Rattle.dl_graphs.proofs.LinkLaws.{listed_links}
use Rattle.dl_graphs.proofs.links.links_by.Goals as goal

itself : (x : LinkIds) → equal_links.ghosts.eq x x ≡ true
itself x = rw (eq-eqb x.property x.property refl, eq-eqb x.subject x.subject refl, eq-eqb x.object x.object refl) refl

pub returns : goal.returns
returns c =
    listed_links c.args.arena.now.trees (trees_at c.args.arena.now.trees c.args.axioms.now) equal_links.ghosts.eq itself c.place_each.new.seen.keys (record { ends = c.in_ok-ends.ends; places = c.in_ok-places.places }) c.in_ok-places.ensures c.as_slice.ensures.unique (c.in_ok-ends.ensures ∙ ap (map ends_at) c.as_slice.ensures.keys)
