-- Literals with datatypes, and why there are none.
use Rattle.std.proofs.Common.{◌≡◌, ◌≢◌, ℕ, List, Err, refl, sym, ap, ◌∙◌}
use Rattle.rdf_terms.specs.Literals.{DenotesTyped, LiteralParts}
use Rattle.rdf_terms.specs.declared.fault.LiteralFault.{LiteralFault}
use Rattle.rdf_terms.specs.declared.fault.LiteralFault.TheVariants as literal
use Rattle.owl_reader.specs.declared.fault.TokenFault.{TokenFault}
use Rattle.owl_reader.specs.declared.fault.TokenFault.TheVariants.{Memory}
use Rattle.ttl_grammar.specs.States.{literal_term}
use Rattle.lexical_values.proofs.TypedLiteralLaws.{nothing_is_denoted}
use Rattle.lexical_values.specs.TypedLiterals.{typed_literal}
use Rattle.ttl_read.specs.Refusals.{of_literal}

-- a form is refused where it denotes nothing
pub refused : (fault : LiteralFault) (form datatype : List ℕ) (told : TokenFault) → told ≡ of_literal fault → (fault ≡ literal.BadLiteral → (l : LiteralParts) → DenotesTyped form datatype l → ⊥) → told ≢ Memory → literal_term (typed_literal form datatype) ≡ Err told
refused literal.BadLiteral form datatype told e never other =
    ap literal_term (nothing_is_denoted form datatype (typed_literal form datatype) refl (never refl)) ∙ ap Err (sym e)
refused literal.Memory form datatype told e never other = absurd (other e)
