use Rattle.std.proofs.Common.{refl, rules, arith}
use Rattle.ttl_grammar.specs.States.{start}
use Rattle.ttl_read.proofs.SameFacts.{same_from}
use Rattle.ttl_read.proofs.assembler.Assembler.new.Goals as goal

pub returns : goal.returns
returns c = record {
  state = start c.args.base;
  leads = λ more. refl;
  shows = record { names = c.new.ensures; form = c.new-2.ensures; facts = same_from _ _ (search (rules, c.new-3.ensures)) c.new-3.ensures; counted = omega arith; few = omega arith };
}
