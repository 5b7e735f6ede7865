use Rattle.std.proofs.Common.{length, subst}
use Rattle.owl_atom.specs.Places.{IsBest, first}
use Rattle.owl_atom.specs.Prefixes.{AreAscending}
use Rattle.owl_atom.proofs.Shortening.{best_shortens, indexed, none_cuts}
use Rattle.owl_atom.proofs.prefixes.Prefixes.shorten.Goals as goal

pub returns-in-Some-clause-best : goal.returns-in-Some-clause-best
returns-in-Some-clause-best c =
    let it = indexed _ c.in-Some.index _ c.args.self.now c.in-Some.is c.self.view_is c.self.invariant in
    best_shortens c.args.self.now c.args.iri.now c.best_of.result it.0 (c.best_of.ensures c.args.self.now it.0 it.1)

pub returns-in-Some-clause-none : goal.returns-in-Some-clause-none
returns-in-Some-clause-none c =
    let it = indexed _ c.in-Some.index _ c.args.self.now c.in-Some.is c.self.view_is c.self.invariant in
    none_cuts c.args.self.now c.args.iri.now c.best_of.result (c.best_of.ensures c.args.self.now it.0 it.1)

pub returns-in-None-clause-best : goal.returns-in-None-clause-best
returns-in-None-clause-best c =
    best_shortens c.args.self.now c.args.iri.now c.best_of-in-None.result (subst AreAscending c.self.view_is c.self.invariant.0.ascending)
    (subst (λ held. IsBest held (first (length held)) c.args.iri.now c.best_of-in-None.result) c.self.view_is c.best_of-in-None.ensures)

pub returns-in-None-clause-none : goal.returns-in-None-clause-none
returns-in-None-clause-none c =
    none_cuts c.args.self.now c.args.iri.now c.best_of-in-None.result (subst (λ held. IsBest held (first (length held)) c.args.iri.now c.best_of-in-None.result) c.self.view_is c.best_of-in-None.ensures)
