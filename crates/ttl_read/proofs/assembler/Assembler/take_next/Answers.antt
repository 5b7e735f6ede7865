use Rattle.std.proofs.Common.{subst}
use Rattle.ttl_grammar.specs.Runs.{all_done}
use Rattle.owl_reader.specs.Computing.{TurnsTo}
use Rattle.ttl_read.specs.Showing.{Shows}
use Rattle.ttl_read.proofs.Turns.{token_taken}
use Rattle.ttl_read.proofs.assembler.Assembler.take_next.Goals as goal

pub returns : goal.returns
returns c = λ state h.
    token_taken c.args.acts.now c.args.next state c.do_all.new.self c.is_none.result c.is_none.ensures c.if-is_none.false
    (subst (λ r. TurnsTo Shows r c.do_all.new.self (all_done c.args.acts.now c.args.next state)) c.in_ok-do_all.was (c.do_all.ensures state h))
