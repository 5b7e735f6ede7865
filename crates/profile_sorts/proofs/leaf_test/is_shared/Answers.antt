use Rattle.profile_sorts.specs.LeafTests.{shared_datatypes}
use Rattle.profile_sorts.proofs.leaf_test.is_shared.Goals as goal

pub returns : goal.returns
unfolding shared_datatypes
returns c = c.is_named.ensures
