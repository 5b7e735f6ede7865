use Rattle.std.proofs.Common.{Bool, ◌&&◌, ap, ◌∙◌}
use Rattle.rdf_normal.proofs.Bare.{needless_told}
use Rattle.rdf_normal.proofs.needless.is_needless.Goals as goal

pub returns-then-is_one_triple : goal.returns-then-is_one_triple
returns-then-is_one_triple c = λ ids h.
    let e = needless_told c.args.arena.now.trees ids c.args.said.now c.args.id c.is_in.result c.distinct-trees.ensures.shared c.requires.id c.is_in.ensures h in
    ap (λ (b : Bool). b && c.is_in.result) c.if-is_one_triple.ensures ∙ e
