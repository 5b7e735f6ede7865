use Rattle.std.proofs.Common.{◌≡◌, ◌++◌, ◌∷◌, ◌∙◌, [], List, ℕ, ap, refl}
use Rattle.std.specs.Str.{chars}
use Rattle.std.proofs.lemmas.List.{append_assoc}
use Rattle.owl_canon.proofs.terms.tagged_form.Goals as goal

at_sign : chars (64 ∷ []) ≡ 64 ∷ []
unfolding chars
at_sign = refl

behind : (form marked whole lexical tag : List ℕ) → form ≡ lexical → marked ≡ form ++ chars (64 ∷ []) → whole ≡ marked ++ tag → whole ≡ lexical ++ 64 ∷ tag
behind form marked whole lexical tag e f g =
    g
    ∙ ap (λ (xs : List ℕ). xs ++ tag) (f ∙ ap (λ (xs : List ℕ). form ++ xs) at_sign ∙ ap (λ (xs : List ℕ). xs ++ 64 ∷ []) e)
    ∙ append_assoc lexical (64 ∷ []) tag

pub returns : goal.returns
returns c =
    behind c.in_ok-form.form c.push_str.new.self c.push_str-2.new.self _ _ c.in_ok-form.ensures c.in_ok-push_str.ensures.ok c.in_ok-push_str-2.ensures.ok
