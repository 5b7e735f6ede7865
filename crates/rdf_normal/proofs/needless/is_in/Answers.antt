use Rattle.std.proofs.Common.{Bool, Contains, IsTrue, subst, sym}
use Rattle.std.specs.Prelude.{◌↔◌}
use Rattle.rdf_normal.proofs.Searched.{found}
use Rattle.rdf_normal.proofs.needless.is_in.Goals as goal

pub returns : goal.returns
returns c =
    subst (λ (b : Bool). IsTrue b ↔ Contains c.args.ids.now c.args.id) (sym c.is_ok.ensures.value)
    (found c.args.ids.now c.args.id c.binary_search.result c.requires c.binary_search.ensures.position)
