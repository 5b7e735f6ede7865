use Rattle.std.proofs.Common.{refl, sym, subst, ◌∙◌}
use Rattle.ttl_read.specs.NameTables.{AreNames}
use Rattle.ttl_read.proofs.Tables.{prefix_named}
use Rattle.ttl_read.proofs.names.Names.name_prefix.Goals as goal

pub returns-in_ok-self-inside-in-Some : goal.returns-in_ok-self-inside-in-Some
returns-in_ok-self-inside-in-Some c = λ names h.
    prefix_named _ _ names _ c.in-Some.prefix.now (sym c.in-Some.ensures.prefix) (subst (λ t. AreNames t names) (sym c.self.view_is) h) refl refl (c.in_ok-self-inside-in-Some.ensures ∙ c.as_str.ensures.chars)
