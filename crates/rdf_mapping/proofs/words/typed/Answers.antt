use Rattle.std.proofs.Common.{inl, inr, refl, rules}
use Rattle.std.specs.Str.{chars}
use Rattle.rdf_terms.specs.Literals.{of_datatype}
use Rattle.rdf_mapping.proofs.words.typed.Goals as goal

pub returns-in-Ok : goal.returns-in-Ok
returns-in-Ok c =
    elim c.in-Ok.ensures.ok [
      | inl h ↦ absurd (c.requires.0 h.0)
      | inr h ↦ h.2
    ]

pub unreachable-requires : goal.unreachable-requires
unreachable-requires c =
    c.of.ensures.bad.0 (search rules) (of_datatype (chars c.args.form.now) c.args.datatype) (inr (c.requires.0, c.requires.1, refl))
