use Rattle.std.proofs.Common.{ℕ, below_more}
use Rattle.std.proofs.lemmas.Bool.{both_ways}
use Rattle.owl_close.specs.Imports.{IsNamedAt, heads_of}
use Rattle.owl_close.proofs.Places.{named_at, named_by}
use Rattle.owl_close.proofs.named.place_named.Goals as goal

pub returns-then-is_named-clause-some : goal.returns-then-is_named-clause-some
returns-then-is_named-clause-some c = record {
  named = named_at c.args.heads.now c.args.iri.now c.places.place c.index-heads-place.result c.places-test.true c.index-heads-place.is (c.is_named.ensures.0 c.if-is_named.true);
  first = c.places.invariant;
}

pub places-preserved : goal.places-preserved
places-preserved c =
    below_more (λ (other : ℕ). IsNamedAt (heads_of c.args.heads.now) c.args.iri.now other → ⊥) c.places.place c.places.invariant
    (λ n. both_ways c.is_named.result c.if-is_named.false (c.is_named.ensures.1 (named_by c.args.heads.now c.args.iri.now c.places.place c.index-heads-place.result c.places-test.true c.index-heads-place.is n)))
