use Rattle.std.proofs.Common.{Ok, ap, refl, sym, subst, ◌∙◌}
use Rattle.ttl_grammar.specs.States.{iri_of}
use Rattle.owl_reader.specs.Computing.{Computes}
use Rattle.ttl_read.specs.NameTables.{AreNames}
use Rattle.ttl_read.proofs.Tables.{base_declared}
use Rattle.ttl_read.proofs.names.Names.declare_base.Goals as goal

pub returns : goal.returns
returns c = λ names h.
    let wanted = subst (λ r. Computes r (iri_of names c.args.next.now)) c.in_ok-iri.was (c.iri_of.ensures names h) in
    base_declared _ _ names (iri_of names c.args.next.now) c.in_ok-of.field-0 (wanted ∙ ap Ok (sym c.in_ok-of.ensures)) (subst (λ t. AreNames t names) (sym c.self.view_is) h) refl refl refl
