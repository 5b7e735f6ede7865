use Rattle.std.proofs.Common.{refl, sym, subst}
use Rattle.man_read.specs.NameTables.{AreNames}
use Rattle.man_read.proofs.NameLaws.{is_declared_so, refused}
use Rattle.man_read.proofs.names.Names.declare.Goals as goal

pub returns-in-Err : goal.returns-in-Err
returns-in-Err c = λ names h.
    refused _ names (subst (λ t. AreNames t names) (sym c.self.view_is) h) _ c.args.iri c.as_str.ensures.chars c.declare.result c.in-Err.fault c.of_declaring.result c.in-Err.is
    c.declare.ensures.twice c.declare.ensures.fixed c.of_declaring.ensures

pub returns : goal.returns
returns c = λ names h.
    is_declared_so _ _ names (subst (λ t. AreNames t names) (sym c.self.view_is) h) _ c.args.iri c.as_str.ensures.chars c.declare.result c.in_default.field-0 c.in_default.is
    c.declare.ensures.twice c.declare.ensures.fixed c.in_default.ensures.here c.in_default.ensures.others refl
