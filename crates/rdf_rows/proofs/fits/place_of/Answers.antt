use Rattle.std.proofs.Common.{◌<◌, ℕ, sym, subst}
use Rattle.rdf_rows.proofs.Counting.{number_within}
use Rattle.rdf_rows.proofs.fits.place_of.Goals as goal

pub returns-clause-within : goal.returns-clause-within
returns-clause-within c = subst (λ (n : ℕ). n < 70) (sym c.number.ensures) (number_within c.args.word)
