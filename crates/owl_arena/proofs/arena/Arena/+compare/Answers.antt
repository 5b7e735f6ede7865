use Rattle.std.proofs.Common.{sym}
use Rattle.owl_arena.proofs.Comparing.{kids_decide}
use Rattle.owl_arena.proofs.arena.Arena.+compare.Goals as goal

pub returns-in-Some : goal.returns-in-Some
returns-in-Some t c =
    kids_decide c.args.self.now.trees c.distinct.ensures.shared.one_number c.args.a c.args.b _ _ c.kids-kids.result.now c.kids-others.result.now c.compare_roots-roots.result _ c.compare.result c.requires.a c.requires.b c.if-ne.ensures c.compare_roots-roots.ensures c.kids-kids.ensures.kids c.kids-others.ensures.kids
    c.kids-kids.ensures.below c.kids-others.ensures.below (sym c.in-Some.ensures) c.compare.ensures

pub returns-in-None : goal.returns-in-None
returns-in-None t c =
    kids_decide c.args.self.now.trees c.distinct.ensures.shared.one_number c.args.a c.args.b _ _ c.kids-kids.result.now c.kids-others.result.now c.compare_roots-roots.result _ c.cmp.result c.requires.a c.requires.b c.if-ne.ensures c.compare_roots-roots.ensures c.kids-kids.ensures.kids c.kids-others.ensures.kids
    c.kids-kids.ensures.below c.kids-others.ensures.below (sym c.in-None.ensures) c.cmp.ensures
