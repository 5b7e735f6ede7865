use Rattle.std.proofs.Common.{subst, sym, IfOk, IsTrue}
use Rattle.rdf_nodes.specs.Numbers.{AreShallow}
use Rattle.rdf_nodes.proofs.Knowing.{all_shallow}
use Rattle.rdf_nodes.proofs.source.Source.are_shallow.Goals.{in-Ok, in-Err-TooDeep, in-Err-Memory}
use Rattle.rdf_nodes.proofs.source.Source.are_shallow.Goals as goal

pub returns-clause-shallow : goal.returns-clause-shallow
returns-clause-shallow c =
    let g = c.args.self.now.graph.now in
    let k = c.args.self.now.kinds.now in
    elim c.match-numbers.branch [
      | in-Ok w ↦ subst (λ r. IfOk r (λ shallow. IsTrue shallow → AreShallow g k)) (sym w.result-is) (λ _. all_shallow g k (w.in-Ok.ensures.all c.requires.kinds))
      | in-Err-TooDeep w ↦ subst (λ r. IfOk r (λ shallow. IsTrue shallow → AreShallow g k)) (sym w.result-is) (λ e. cc)
      | in-Err-Memory w ↦ subst (λ r. IfOk r (λ shallow. IsTrue shallow → AreShallow g k)) (sym w.result-is) tt
    ]
