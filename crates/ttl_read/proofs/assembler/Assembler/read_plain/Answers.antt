use Rattle.std.proofs.Common.{Ok, subst}
use Rattle.rdf_terms.specs.Literals.{of_datatype, string}
use Rattle.ttl_grammar.specs.declared.node.Object.TheVariants as object
use Rattle.owl_reader.specs.Computing.{Computes}
use Rattle.ttl_read.proofs.assembler.Assembler.read_plain.Goals as goal

pub returns : goal.returns
returns c = λ state next h.
    c.read.ensures state (Ok (object.Literal (of_datatype state.form string))) h
    (subst (λ form. Computes c.plain_term-term.result (Ok (object.Literal (of_datatype form string)))) h.form c.plain_term-term.ensures)
