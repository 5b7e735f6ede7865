use Rattle.std.proofs.Common.{refl, ap, sym, subst, ◌∙◌}
use Rattle.std.specs.Str.{chars}
use Rattle.ttl_grammar.specs.States.{known_iri}
use Rattle.ttl_read.specs.NameTables.{AreNames}
use Rattle.ttl_read.proofs.Tables.{base_declared}
use Rattle.ttl_read.proofs.names.Names.move_base.Goals as goal

pub returns : goal.returns
returns c = λ names h.
    let reference = chars c.args.reference.now in
    let old = subst (λ t. AreNames t names) (sym c.self.view_is) h in
    base_declared _ _ names (known_iri names.base reference) c.in_ok-base.base (ap (λ b. known_iri b reference) (sym old.base ∙ sym c.take.ensures.value) ∙ c.in_ok-base.ensures) old refl refl refl
