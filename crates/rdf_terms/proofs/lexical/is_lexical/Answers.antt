use Rattle.std.proofs.Common.{refl, sym, ◌∙◌}
use Rattle.std.specs.Str.{chars}
use Rattle.std.proofs.lemmas.Bool.{both_ways}
use Rattle.rdf_terms.specs.Datatypes.{integer_rows}
use Rattle.rdf_terms.proofs.IntegerRows.{fit_ranges, fit_rows}
use Rattle.rdf_terms.proofs.lexical.is_lexical.Goals as goal
use Rattle.rdf_terms.proofs.lexical.is_lexical.Goals.{then-fits_boolean, else-fits_boolean}

pub returns-then-fits_decimal : goal.returns-then-fits_decimal
unfolding integer_rows
returns-then-fits_decimal c = elim c.if-fits_boolean.branch [
  | then-fits_boolean w ↦ (
    λ t. record {
      boolean = c.fits_boolean.ensures.0 w.if-fits_boolean.true;
      decimal = w.fits_decimal.ensures.0 (sym w.value-is ∙ c.if-fits_decimal.true);
      integer = fit_ranges _ c.args.datatype.now (chars c.args.form.now) refl (c.fits_integers.ensures.0 t);
    },
    λ l. c.fits_integers.ensures.1 (fit_rows _ c.args.datatype.now (chars c.args.form.now) refl l.integer),
  )
  | else-fits_boolean w ↦ absurd (both_ways c.fits_boolean.result w.if-fits_boolean.false (sym w.value-is ∙ c.if-fits_decimal.true))
]
