use Rattle.std.proofs.Common.{◌≡◌, ◌<◌, ◌∷◌, ◌++◌, [], List, length, ap, refl, rules, subst, sym}
use Rattle.indexmap.specs.IndexSet.{insert_key}
use Rattle.rdf_graph.specs.Graphs.{most_triples}
use Rattle.ttl_grammar.specs.contracts.node.NodeTriplePartialEq.TheImpl as equal_triples
use Rattle.ttl_grammar.specs.States.{Facts}
use Rattle.ttl_grammar.specs.declared.node.NodeTriple.{NodeTriple}
use Rattle.ttl_read.specs.Keeping.{AreHeld, AreKept, IsNear}
use Rattle.ttl_read.proofs.Repeats.{inserted, inserted_kept, passed_over}
use Rattle.ttl_read.proofs.facts.Facts.keep.Goals as goal

pub returns-then-len-gt-MOST_TRIPLES : goal.returns-then-len-gt-MOST_TRIPLES
returns-then-len-gt-MOST_TRIPLES c =
    let many : most_triples < length c.self.inside.triples.keys = search rules in
    record {
      others = refl;
      triples =
          subst (λ (f : Facts). AreHeld f.triples (f.triples ++ c.args.triple ∷ [])) c.self.view_is
          (passed_over c.self.inside.triples.keys c.args.triple c.self.invariant.once many);
    }

pub invariant_of-self-2 : goal.invariant_of-self-2
invariant_of-self-2 c =
    let keys : c.insert.new.self.keys ≡ insert_key equal_triples.ghosts.eq c.self.inside.triples.keys c.args.triple = search rules in
    let near : IsNear c.args.triple = search rules in
    subst AreKept (sym keys) (inserted_kept c.self.inside.triples.keys c.args.triple c.self.invariant near)

pub returns : goal.returns
returns c =
    let keys : c.insert.new.self.keys ≡ insert_key equal_triples.ghosts.eq c.self.inside.triples.keys c.args.triple = search rules in
    let near : IsNear c.args.triple = search rules in
    let kept = inserted_kept c.self.inside.triples.keys c.args.triple c.self.invariant near in
    record {
      others = ap (λ (f : Facts). record f { triples = c.insert.new.self.keys }) c.self.view_is;
      triples =
          subst (λ (f : Facts). AreHeld c.insert.new.self.keys (f.triples ++ c.args.triple ∷ [])) c.self.view_is
          (subst (λ (ts : List NodeTriple). AreHeld ts (c.self.inside.triples.keys ++ c.args.triple ∷ [])) (sym keys) (inserted c.self.inside.triples.keys c.args.triple kept));
    }
