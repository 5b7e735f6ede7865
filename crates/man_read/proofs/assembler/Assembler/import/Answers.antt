use Rattle.std.proofs.Common.{◌++◌, ◌∷◌, [], ◌∙◌, ap, rules}
use Rattle.owl_reader.specs.Steps.{token_in}
use Rattle.man_grammar.specs.States.{iri_in}
use Rattle.man_raw.specs.Documents.{HeadTree}
use Rattle.man_read.specs.Showing.{head_of}
use Rattle.man_read.proofs.ShowingLaws.{head_read}
use Rattle.man_read.proofs.assembler.Assembler.import.Goals as goal

pub returns : goal.returns
returns c = λ state h.
    let head = record c.args.self.now.head { imports = c.push.new.self } in
    head_read c.args.self.now state h (iri_in state.names (token_in c.args.next.now)) c.in_ok-iri.iri (c.in_ok-iri.ensures state.names h.names) (λ iri. record state.head { imports = state.head.imports ++ iri ∷ [] }) head
    (ap (λ items. record (head_of c.args.self.now.head) { imports = items }) (search rules) ∙ ap (λ (k : HeadTree). record k { imports = k.imports ++ c.in_ok-iri.iri ∷ [] }) h.head)
