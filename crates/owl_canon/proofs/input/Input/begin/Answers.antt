use Rattle.std.proofs.Common.{◌≡◌, ◌∙◌, List, ℕ, ap, nat_eq, refl, sym, true}
use Rattle.std.specs.Prelude.{codes}
use Rattle.std.specs.Cmp.Lexicographic.{pointwise}
use Rattle.std.proofs.lemmas.Bool.{false≢true}
use Rattle.owl_canon.proofs.Finding.{passed_on}
use Rattle.owl_canon.proofs.input.Input.begin.Goals as goal

pub returns-in_err-bytes : goal.returns-in_err-bytes
returns-in_err-bytes c = λ more e.
    passed_on c.from_residual.result c.in_err-bytes.field-0.0 _ c.from_residual.ensures.1 (c.in_err-bytes.ensures (codes "OWL2C1\n") more refl e)

pub returns-then-eq : goal.returns-then-eq
returns-then-eq c = λ more e. (c.in_ok-bytes.ensures (codes "OWL2C1\n") more refl e).1

pub returns-else-eq : goal.returns-else-eq
returns-else-eq c = λ more e.
    let found = c.in_ok-bytes.ensures (codes "OWL2C1\n") more refl e in
    let same : c.eq.result ≡ true =
    c.eq.ensures
    ∙ ap (λ (xs : List ℕ). pointwise nat_eq xs c.as_slice.result.now) found.0
    ∙ ap (λ (xs : List ℕ). pointwise nat_eq (codes "OWL2C1\n") xs) c.as_slice.ensures in
    absurd (false≢true (sym c.if-eq.false ∙ same))
