use Rattle.std.proofs.Common.{rules}
use Rattle.std.proofs.lemmas.Result.{on_ok_weaker}
use Rattle.man_resolve.specs.Expressions.{knows}
use Rattle.owl_arena.specs.Held.{tree_at}
use Rattle.rdf_normal.proofs.Extending.{canonical_at}
use Rattle.man_normal.proofs.DeclaringLaws.{found_at, headed_annotated, headed_by_none, headed_named, made_so, none_more}
use Rattle.man_normal.proofs.heads.declare_head.Goals as goal

pub returns-in-Some-clause-made : goal.returns-in-Some-clause-made
returns-in-Some-clause-made c =
    let ts = c.args.arena.now.trees in
    let t = tree_at ts c.args.id in
    on_ok_weaker c.declare_annotated.result
    (made_so ts c.declare_annotated.new.arena.trees c.args.made.now.items c.declare_annotated.new.made.items _ _
    (headed_annotated (knows c.args.kinds.now) t (tree_at ts c.in-Some.about) c.requires.is_axiom (canonical_at ts c.args.id c.distinct-trees.ensures.shared c.requires.id) (search rules)
    (found_at ts c.subject.result c.in-Some.about _ c.subject.ensures.subject c.in-Some.is)))
    c.declare_annotated.ensures.made

pub returns-in-Some-2-clause-made : goal.returns-in-Some-2-clause-made
returns-in-Some-2-clause-made c =
    let ts = c.args.arena.now.trees in
    let t = tree_at ts c.args.id in
    on_ok_weaker c.declare.result
    (made_so ts c.declare.new.arena.trees c.args.made.now.items c.declare.new.made.items _ _
    (headed_named (knows c.args.kinds.now) t (tree_at ts c.in-Some.about) c.requires.is_axiom (canonical_at ts c.args.id c.distinct-trees.ensures.shared c.requires.id) (search rules)
    (found_at ts c.subject.result c.in-Some.about _ c.subject.ensures.subject c.in-Some.is)))
    c.declare.ensures.made

pub returns-in-None-clause-made : goal.returns-in-None-clause-made
returns-in-None-clause-made c =
    let ts = c.args.arena.now.trees in
    none_more ts c.args.made.now.items _ c.requires.held
    (headed_by_none (knows c.args.kinds.now) (tree_at ts c.args.id) c.requires.is_axiom (canonical_at ts c.args.id c.distinct-trees.ensures.shared c.requires.id)
    (search rules))
