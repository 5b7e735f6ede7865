use Rattle.std.proofs.Common.{◌∙◌, ◌<◌, ℕ, List, ap, arith, length, subst, sym}
use Rattle.std.proofs.lemmas.List.{take_all}
use Rattle.std.proofs.lemmas.Result.{on_ok_weaker}
use Rattle.owl_arena.specs.Held.{tree_at}
use Rattle.owl_doc.proofs.FirstUndeclared.{leaf_is, node_entities}
use Rattle.owl_doc.proofs.SameTrees.{above_each, above_within}
use Rattle.owl_doc.specs.Entities.{entities, entities_at, entities_of}
use Rattle.owl_kind.specs.Kinds.{Entity}
use Rattle.owl_list.proofs.AscendingLaws.{all_in, all_later}
use Rattle.owl_tree.specs.Trees.{Tree, kids_of, leaf}
use Rattle.owl_tree.specs.declared.tag.Tag.{Tag}
use Rattle.owl_declare.proofs.FindingLaws.{one_more_found}
use Rattle.owl_declare.specs.Finding.{Finds}
use Rattle.owl_declare.proofs.finding.+finding.Goals as goal

pub find_all-find_in-requires : goal.find_all-find_in-requires
find_all-find_in-requires t c =
    let id = c.id-item.result in
    let trees = length c.args.arena.now.trees in
    let below = above_each c.args.ids.now c.ids.id-index id c.ids-test.true in
    let within = all_in (λ id. id < trees) c.args.ids.now id c.requires (c.ids.id-index, c.ids-test.true, sym c.id-item.is) in
    (omega arith, omega arith)

pub find_all-ids-preserved : goal.find_all-ids-preserved
find_all-ids-preserved t c =
    one_more_found c.args.kinds.now c.args.arena.now.trees c.args.ids.now c.ids.id-index c.id-item.result c.args.found.now c.ids.found c.find_in.new.found c.ids-test.true c.id-item.is c.ids.invariant c.in_ok-find_in.ensures

pub find_all-returns : goal.find_all-returns
find_all-returns t c =
    subst (λ (ids : List ℕ). Finds c.args.kinds.now (entities_at c.args.arena.now.trees ids) c.args.found.now c.ids.found) (take_all c.ids.id-index c.args.ids.now c.ids-test.false) c.ids.invariant

pub find_in-find_all-requires : goal.find_in-find_all-requires
find_in-find_all-requires t c = (
  omega (arith, above_within c.args.id c.kids.result.now c.kids.ensures.below),
  all_later (λ kid. kid < c.args.id) (λ kid. kid < length c.args.arena.now.trees) (λ kid h. omega arith) c.kids.result.now c.kids.ensures.below,
)

pub find_in-returns-in-Some : goal.find_in-returns-in-Some
find_in-returns-in-Some t c =
    let atom = c.in-Some.atom.now in
    let whole = ap (λ (u : Tag). leaf u atom) c.tag.ensures ∙ leaf_is (tree_at c.args.arena.now.trees c.args.id) atom c.in-Some.ensures.atom in
    on_ok_weaker c.find_leaf.result (λ h. subst (λ (u : Tree). Finds c.args.kinds.now (entities u) c.args.found.now c.find_leaf.new.found) whole h) c.find_leaf.ensures

pub find_in-returns-in-None : goal.find_in-returns-in-None
find_in-returns-in-None t c =
    let kids = ap (λ (us : List Tree). entities_of (kids_of us)) c.kids.ensures.kids ∙ node_entities (tree_at c.args.arena.now.trees c.args.id) c.in-None.ensures.atom in
    on_ok_weaker c.find_all.result (λ h. subst (λ (es : List Entity). Finds c.args.kinds.now es c.args.found.now c.find_all.new.found) kids h) c.find_all.ensures
