use Rattle.std.proofs.Common.{refl, sym, subst}
use Rattle.ttl_grammar.specs.States.{iri_of}
use Rattle.owl_reader.specs.Computing.{Computes}
use Rattle.ttl_read.specs.NameTables.{AreNames}
use Rattle.ttl_read.proofs.Tables.{prefix_declared}
use Rattle.ttl_read.proofs.names.Names.declare_prefix.Goals as goal

pub returns : goal.returns
returns c = λ names h.
    prefix_declared _ _ names (iri_of names c.args.next.now) c.in_ok-iri.iri (subst (λ r. Computes r (iri_of names c.args.next.now)) c.in_ok-iri.was (c.iri_of.ensures names h)) (subst (λ t. AreNames t names) (sym c.self.view_is) h) refl refl
    c.as_str.ensures.chars c.in_ok-set.ensures.here c.in_ok-set.ensures.others
