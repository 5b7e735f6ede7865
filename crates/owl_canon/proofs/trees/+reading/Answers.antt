use Rattle.std.proofs.Common.{◌≡◌, ◌++◌, ◌-◌, ◌+◌, ◌∙◌, List, ℕ, ap, arith, length, refl, sym}
use Rattle.std.specs.Prelude.{flat_map}
use Rattle.owl_arena.specs.Held.{node_over}
use Rattle.owl_canon.specs.Bytes.{tree_bytes}
use Rattle.owl_canon.proofs.Finding.{finds_later, if_ok_later, passed_on}
use Rattle.owl_canon.proofs.EachRead.{count_first, one_not_read}
use Rattle.owl_canon.proofs.Reading.{behind_tag, kept, leaf_read, node_read, one_tree_read, some_levels, tag_first}
use Rattle.owl_tree.specs.OrderLaws.{same_number}
use Rattle.owl_tree.specs.Tags.{number_of}
use Rattle.owl_tree.specs.Trees.{Tree, kids_of, node, tag_of}
use Rattle.rdf_normal.proofs.Extending.{extends_on}
use Rattle.owl_canon.proofs.trees.+reading.Goals as goal

pub read_tree-returns-in_err-byte-clause-found : goal.read_tree-returns-in_err-byte-clause-found
read_tree-returns-in_err-byte-clause-found t c = λ tree more h e.
    passed_on c.from_residual.result c.in_err-byte.field-0.0 _ c.from_residual.ensures.1 (c.in_err-byte.ensures (number_of (tag_of tree)) (behind_tag tree ++ more) (e ∙ tag_first tree more))

pub read_tree-returns-in_default-clause-found : goal.read_tree-returns-in_default-clause-found
read_tree-returns-in_default-clause-found t c = λ tree more h e.
    let begun = c.in_ok-byte.ensures (number_of (tag_of tree)) (behind_tag tree ++ more) (e ∙ tag_first tree more) in
    absurd (c.in_default.ensures.none refl (tag_of tree) (sym begun.0))

pub read_tree-returns-then-levels-eq0-clause-found : goal.read_tree-returns-then-levels-eq0-clause-found
read_tree-returns-then-levels-eq0-clause-found t c = λ tree more h e.
    absurd (some_levels tree c.args.levels (omega arith) h)

pub read_tree-returns-in-Leaf-clause-found : goal.read_tree-returns-in-Leaf-clause-found
read_tree-returns-in-Leaf-clause-found t c = λ tree more h e.
    let begun = c.in_ok-byte.ensures (number_of (tag_of tree)) (behind_tag tree ++ more) (e ∙ tag_first tree more) in
    let l = leaf_read tree c.in-Some.tag c.in-Leaf.sort (sym c.in-Leaf.ensures) (same_number c.in-Some.tag (tag_of tree) (c.in-Some.ensures.some ∙ begun.0)) h.shaped h.countable in
    finds_later c.read_leaf.result _ _ (λ id k. (k.0 ∙ sym l.is, k.1))
    (c.read_leaf.ensures.found l.atom more l.shaped l.texts (begun.1 ∙ ap (λ (bs : List ℕ). bs ++ more) l.bytes))

pub read_tree-returns-in_err-kids-in-Node-clause-found : goal.read_tree-returns-in_err-kids-in-Node-clause-found
read_tree-returns-in_err-kids-in-Node-clause-found t c = λ tree more h e.
    let begun = c.in_ok-byte.ensures (number_of (tag_of tree)) (behind_tag tree ++ more) (e ∙ tag_first tree more) in
    let some : (c.args.levels - 1) + 1 ≡ c.args.levels = omega arith in
    let n = node_read tree c.in-Some.tag _ _ c.args.levels (c.args.levels - 1) (sym c.in-Node.ensures) (same_number c.in-Some.tag (tag_of tree) (c.in-Some.ensures.some ∙ begun.0)) some h in
    passed_on c.from_residual-in_err-kids-in-Node.result c.in_err-kids-in-Node.field-0.0 _ c.from_residual-in_err-kids-in-Node.ensures.1
    (c.in_err-kids-in-Node.ensures.found n.kids more n.readable n.few (begun.1 ∙ ap (λ (bs : List ℕ). bs ++ more) n.bytes))

pub read_tree-returns-in_ok-kids-in-Node-clause-here : goal.read_tree-returns-in_ok-kids-in-Node-clause-here
read_tree-returns-in_ok-kids-in-Node-clause-here t c =
    if_ok_later c.node_of.result _ _ (λ id k. record { extends = extends_on _ _ _ c.in_ok-kids-in-Node.ensures.here.extends k.extends; held = k.held }) c.node_of.ensures.here

pub read_tree-returns-in_ok-kids-in-Node-clause-found : goal.read_tree-returns-in_ok-kids-in-Node-clause-found
read_tree-returns-in_ok-kids-in-Node-clause-found t c = λ tree more h e.
    let tag = c.in-Some.tag in
    let begun = c.in_ok-byte.ensures (number_of (tag_of tree)) (behind_tag tree ++ more) (e ∙ tag_first tree more) in
    let some : (c.args.levels - 1) + 1 ≡ c.args.levels = omega arith in
    let n = node_read tree tag _ _ c.args.levels (c.args.levels - 1) (sym c.in-Node.ensures) (same_number tag (tag_of tree) (c.in-Some.ensures.some ∙ begun.0)) some h in
    let found = c.in_ok-kids-in-Node.ensures.found n.kids more n.readable n.few (begun.1 ∙ ap (λ (bs : List ℕ). bs ++ more) n.bytes) in
    let over = node_over c.read_trees.new.arena.trees tag c.in_ok-kids-in-Node.kids.items in
    let same : over ≡ tree = ap (λ (ts : List Tree). node tag (kids_of ts)) found.0 ∙ sym n.is in
    let k = kept c.args.levels tree over same h in
    finds_later c.node_of.result _ _ (λ id m. (m ∙ same, found.1)) (c.node_of.ensures.found k.shaped k.depth k.weight k.canonical)

pub read_trees-returns-in_err-id-clause-found : goal.read_trees-returns-in_err-id-clause-found
read_trees-returns-in_err-id-clause-found t c = λ ts more r few e.
    let n = c.in_ok-count.ensures (length ts) (flat_map tree_bytes ts ++ more) few (e ∙ count_first tree_bytes ts more) in
    passed_on c.from_residual-in_err-id.result c.in_err-id.field-0.0 _ c.from_residual-in_err-id.ensures.1
    (one_not_read _ tree_bytes c.in_ok-count.count _ _ _ c.trees._tree c.trees.invariant.read c.in_err-id.field-0.0 c.trees-test.true c.in_err-id.ensures.found ts more r (sym n.0) n.1)

pub read_trees-trees-preserved : goal.read_trees-trees-preserved
read_trees-trees-preserved t c =
    one_tree_read c.args.levels c.in_ok-count.count _ _ _ _ _ c.trees._tree c.trees.invariant _ _ _ c.in_ok-id.id c.trees-test.true c.in_ok-id.ensures.here c.in_ok-id.ensures.found c.in_ok-push.ensures.pushed
