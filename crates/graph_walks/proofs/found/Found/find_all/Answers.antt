use Rattle.std.proofs.Common.{◌∷◌, [], get_or, take, sym, subst}
use Rattle.std.proofs.lemmas.List.{take_more}
use Rattle.graph_walks.specs.Searches.{Finds}
use Rattle.graph_walks.proofs.Finding.{finds_both}
use Rattle.graph_walks.proofs.found.Found.find_all.Goals as goal

pub nexts-preserved : goal.nexts-preserved
nexts-preserved c =
    let front = take c.nexts.next-index c.args.nexts.now in
    let next = get_or c.args.nexts.now c.nexts.next-index 0 in
    subst (λ xs. Finds xs c.args.self.now c.find.new.self) (sym (take_more c.args.nexts.now c.nexts.next-index 0 c.nexts-test.true))
    (finds_both front (next ∷ []) c.args.self.now c.nexts.self c.find.new.self c.nexts.invariant c.in_ok-find.ensures)
