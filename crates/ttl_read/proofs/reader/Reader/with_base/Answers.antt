use Rattle.std.proofs.Common.{ℕ, List, Some, [], subst}
use Rattle.owl_reader.proofs.AlikeLaws.{read_alike}
use Rattle.ttl_grammar.proofs.PageLaws.{table_to_page}
use Rattle.ttl_read.specs.Showing.{Made}
use Rattle.ttl_read.proofs.reader.Reader.with_base.Goals as goal

pub returns : goal.returns
returns c =
    let made = subst (λ (base : List ℕ). Made (Some base) [] c.new-assembler.result) c.in_ok-base.ensures c.new-assembler.ensures in
    read_alike table_to_page (c.in_ok-new.ensures (Some c.args.base.now) made)
