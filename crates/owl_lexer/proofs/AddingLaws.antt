-- Tokens behind tokens.
use Rattle.std.proofs.Common.{◌≡◌, ℕ, Option, List, [], ◌∷◌, ◌++◌, refl, sym, ap, ◌∙◌}
use Rattle.std.proofs.lemmas.List.{append_assoc}
use Rattle.owl_lexer.specs.Adding.{placed_at, tokens_of}
use Rattle.owl_lexer.specs.Cutting.{Lexeme}
use Rattle.owl_lexer.specs.declared.placed.Placed.{Placed}

pub tokens-append : {T : Type 0} → (value : ℕ → List ℕ → Option T) (xs ys : List Lexeme) → tokens_of value (xs ++ ys) ≡ tokens_of value xs ++ tokens_of value ys
tokens-append value [] ys = refl
tokens-append value (x ∷ xs) ys =
    ap (λ l. placed_at x.at (value x.kind x.spelling) ++ l) (tokens-append value xs ys) ∙ sym (append_assoc (placed_at x.at (value x.kind x.spelling)) (tokens_of value xs) (tokens_of value ys))

-- tokens behind tokens
pub added_both : {T : Type 0} → (value : ℕ → List ℕ → Option T) (before between after : List (Placed T)) (xs ys : List Lexeme) → between ≡ before ++ tokens_of value xs → after ≡ between ++ tokens_of value ys → after ≡ before ++ tokens_of value (xs ++ ys)
added_both value before between after xs ys e f =
    f ∙ ap (λ l. l ++ tokens_of value ys) e ∙ append_assoc before (tokens_of value xs) (tokens_of value ys) ∙ ap (λ l. before ++ l) (sym (tokens-append value xs ys))
