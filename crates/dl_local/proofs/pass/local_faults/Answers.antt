use Rattle.std.proofs.Common.{arith, rules, ◌≡◌, length, ◌∙◌, subst}
use Rattle.dl_local.specs.Faults.{AreFaultsBelow}
use Rattle.dl_local.proofs.CountedLaws.{faults_more}
use Rattle.dl_local.proofs.pass.local_faults.Goals as goal

pub places-preserved : goal.places-preserved
places-preserved c = record {
  size = search rules;
  told = λ o known.
      faults_more o c.args.arena.now.trees c.places.found.items c.deref.result.now _ c.tree_faults-faults.result c.places.place c.at.result (search rules) c.places.invariant.size c.at.ensures c.deref.ensures.value (c.places.invariant.told o known) (c.tree_faults-faults.ensures o known);
}

pub returns : goal.returns
returns c = λ o known.
    let all : c.places.place ≡ length c.args.arena.now.trees = omega (arith, c.distinct-count.ensures.trees, c.places-test.false, c.places.auto.place-end) in
    record {
      size = c.places.invariant.size ∙ all;
      told = subst (λ n. AreFaultsBelow n o c.args.arena.now.trees c.places.found.items) all (c.places.invariant.told o known);
    }
