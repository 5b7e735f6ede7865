use Rattle.std.proofs.Common.{Some}
use Rattle.owl_reader.specs.Steps.{token_in}
use Rattle.man_grammar.specs.States.{iri_in}
use Rattle.man_read.proofs.ShowingLaws.{head_read}
use Rattle.man_read.proofs.assembler.Assembler.name_version.Goals as goal

pub returns : goal.returns
returns c = λ state h.
    head_read c.args.self.now state h (iri_in state.names (token_in c.args.next.now)) c.in_ok-iri.iri (c.in_ok-iri.ensures state.names h.names) (λ iri. record state.head { version = Some iri }) (record c.args.self.now.head { version = Some c.in_ok-iri.iri })
    (λ i. record (h.head i) { version = Some c.in_ok-iri.iri })
