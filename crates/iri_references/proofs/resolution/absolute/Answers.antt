use Rattle.std.proofs.Common.{◌∙◌, Bool, None, Some, sym, ap}
use Rattle.std.specs.Prelude.{if◌then◌else◌}
use Rattle.std.specs.Str.{chars}
use Rattle.iri_references.proofs.Allowed.{with_scheme_iri}
use Rattle.iri_references.proofs.resolution.absolute.Goals as goal

pub known-requires : goal.known-requires
known-requires c = with_scheme_iri (chars c.args.reference.now) c.requires (sym c.has_scheme.ensures ∙ c.if-has_scheme.true)

pub returns-else-has_scheme : goal.returns-else-has_scheme
returns-else-has_scheme c = ap (λ (b : Bool). if b then Some (chars c.args.reference.now) else None) (sym c.if-has_scheme.false ∙ c.has_scheme.ensures)
