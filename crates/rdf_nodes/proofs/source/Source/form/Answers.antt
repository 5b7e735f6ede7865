use Rattle.std.proofs.Common.{List, ℕ, subst, sym}
use Rattle.rdf_graph.specs.declared.term.Term.TheVariants.{Blank}
use Rattle.rdf_meaning.specs.Denotation.{DenotesOwn}
use Rattle.rdf_nodes.proofs.source.Source.form.Goals as goal

pub returns-clause-none : goal.returns-clause-none
returns-clause-none c = λ small t own.
    c.form_of.ensures.none small t (subst (λ (l : List ℕ). DenotesOwn c.args.self.now.graph.now c.args.self.now.kinds.now (Blank l) t) (sym c.in_ok-copy.ensures) own)
