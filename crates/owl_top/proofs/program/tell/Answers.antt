use Rattle.std.proofs.Common.{List, ℕ, ◌≡◌, ◌++◌, take, subst}
use Rattle.owl_top.proofs.Delivering.{front_of}
use Rattle.owl_top.proofs.program.tell.Goals as goal

pub returns-clause-front : goal.returns-clause-front
returns-clause-front g c = λ tells.
    let front = front_of c.put_all.result _ _ c.as_bytes.result.now (c.put_all.ensures.whole tells) (c.put_all.ensures.front tells) in
    subst (λ (l : List ℕ). (n : ℕ) × (g.N.Sink.written c.put_all.new.sink ≡ g.N.Sink.written c.args.note.now ++ take n l)) c.as_bytes.ensures.value front
