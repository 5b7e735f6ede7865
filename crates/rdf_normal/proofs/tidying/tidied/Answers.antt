use Rattle.std.proofs.Common.{arith, sym, ◌∙◌}
use Rattle.std.proofs.lemmas.Result.{IfOk-weaker}
use denote.Ref.{Bor}
use Rattle.owl_arena.specs.Held.{tree_at}
use Rattle.owl_tree.specs.declared.atom.Atom.{Atom}
use Rattle.owl_tree.specs.Trees.{atom_in}
use Rattle.rdf_normal.proofs.Extending.{made_after, made_at}
use Rattle.rdf_normal.proofs.TidyTrees.{images_there, images_tidied, no_value, notes_tidied, notes_told, tidied_over}
use Rattle.rdf_normal.proofs.tidying.tidied.Goals as goal

pub needed-requires : goal.needed-requires
needed-requires c = images_there c.args.arena.now.trees c.args.known.now c.args.id c.kids.result.now c.in_ok-kids.kids.items c.requires.id c.requires.held c.kids.ensures.below c.in_ok-kids.ensures.images

pub returns-then-is_notes-clause-made : goal.returns-then-is_notes-clause-made
returns-then-is_notes-clause-made c =
    let ts = c.args.arena.now.trees in
    let kept = c.in_ok-kids-2.ensures.made in
    IfOk-weaker c.make.result _ _
    (λ id h.
    made_after ts c.needed.new.arena.trees c.make.new.arena.trees id _ kept.extends
    (made_at c.needed.new.arena.trees c.make.new.arena.trees id _ _
    (notes_tidied ts c.needed.new.arena.trees (tree_at ts c.args.id) c.tag-tag.result c.kids.result.now c.in_ok-kids.kids.items c.in_ok-kids-2.kids.items c.distinct-trees-then-is_notes.ensures.shared c.tag-tag.ensures (no_value (λ (a : Bor Atom). a.now) c.atom.result (atom_in (tree_at ts c.args.id)) c.is_some.result c.atom.ensures.atom c.is_some.ensures c.if-is_some.false) (notes_told c.tag-tag.result (sym c.is_notes.ensures ∙ c.if-is_notes.true)) c.kids.ensures.kids
    (images_tidied ts c.args.known.now c.args.id c.kids.result.now c.in_ok-kids.kids.items c.requires.id (let e = c.requires.id in let m = c.requires.more in omega arith) c.requires.known c.kids.ensures.below c.in_ok-kids.ensures.images)
    kept) h))
    c.make.ensures.made

pub make-requires-2 : goal.make-requires-2
make-requires-2 c = images_there c.args.arena.now.trees c.args.known.now c.args.id c.kids.result.now c.in_ok-kids.kids.items c.requires.id c.requires.held c.kids.ensures.below c.in_ok-kids.ensures.images

pub returns-clause-made : goal.returns-clause-made
returns-clause-made c =
    let ts = c.args.arena.now.trees in
    IfOk-weaker c.make-2.result _ _
    (λ id h.
    made_at ts c.make-2.new.arena.trees id _ _
    (tidied_over ts (tree_at ts c.args.id) c.tag-tag.result c.kids.result.now c.in_ok-kids.kids.items c.distinct-trees.ensures.shared
    (images_there ts c.args.known.now c.args.id c.kids.result.now c.in_ok-kids.kids.items c.requires.id c.requires.held c.kids.ensures.below c.in_ok-kids.ensures.images)
    c.tag-tag.ensures (no_value (λ (a : Bor Atom). a.now) c.atom.result (atom_in (tree_at ts c.args.id)) c.is_some.result c.atom.ensures.atom c.is_some.ensures c.if-is_some.false) (sym c.is_notes.ensures ∙ c.if-is_notes.false) c.kids.ensures.kids
    (images_tidied ts c.args.known.now c.args.id c.kids.result.now c.in_ok-kids.kids.items c.requires.id (let e = c.requires.id in let m = c.requires.more in omega arith) c.requires.known c.kids.ensures.below c.in_ok-kids.ensures.images)) h)
    c.make-2.ensures.made
