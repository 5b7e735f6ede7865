-- Copies of heads, as they are kept.
use Rattle.std.specs.Prelude.{◌≡◌}
use Rattle.owl_doc.specs.declared.head.Head as held

-- the same IRI, version and imports
pub record IsCopy (h copy : held.Head) : Type 0 where
  pub iri : copy.iri ≡ h.iri
  pub version : copy.version ≡ h.version
  pub imports : copy.imports.items ≡ h.imports.items
