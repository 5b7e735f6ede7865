use Rattle.owl_atom.proofs.ByIri.{index_of, only_equal_fronts_tie}
use Rattle.owl_atom.proofs.by_iri.ByIri.of.Goals as goal

pub arrange-requires : goal.arrange-requires
arrange-requires c = only_equal_fronts_tie

pub returns : goal.returns
returns c = index_of c.args.held.now c.in_ok-fronts.fronts.items c.in_ok-lengths.lengths.items _ _ c.in_ok-fronts.ensures c.arrange.ensures c.in_ok-lengths.ensures c.arrange-2.ensures c.reverse.ensures.permutation
