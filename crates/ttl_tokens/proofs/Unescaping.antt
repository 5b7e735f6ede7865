-- Escapes undone from front to back.
use Rattle.std.proofs.Common.{◌≡◌, ℕ, Option, None, Some, List, [], ◌∷◌, ◌++◌, drop, refl, sym, ap, ◌∙◌, subst}
use Rattle.std.proofs.lemmas.List.{append_assoc}
use Rattle.ttl_tokens.specs.EscapedText.{behind_text}
use Rattle.ttl_tokens.proofs.EscapeLaws.{unescaped_behind-drop}
use Rattle.ttl_tokens.specs.Escapes.{first_character, in_front, length_behind, unescaped, unescaped_behind}

pub behind_text-in_front : (text : List ℕ) (c : ℕ) (others : Option (List ℕ)) → behind_text text (in_front (Some c) others) ≡ behind_text (text ++ c ∷ []) others
behind_text-in_front text c None = refl
behind_text-in_front text c (Some others) = ap (λ (l : List ℕ). Some l) (sym (append_assoc text (c ∷ []) others))

-- one character more is undone
undone_first : (text behind : List ℕ) (first c : ℕ) (all : Option (List ℕ)) → behind_text text (unescaped (first ∷ behind)) ≡ all → first_character first behind ≡ Some c → behind_text (text ++ c ∷ []) (unescaped (drop (length_behind first behind) behind)) ≡ all
undone_first text behind first c all h e =
    let others = unescaped_behind (length_behind first behind) behind in
    let left : behind_text text (in_front (Some c) others) ≡ all = subst (λ (o : Option ℕ). behind_text text (in_front o others) ≡ all) e h in
    ap (λ (o : Option (List ℕ)). behind_text (text ++ c ∷ []) o) (sym (unescaped_behind-drop (length_behind first behind) behind))
    ∙ sym (behind_text-in_front text c others) ∙ left

pub behind_first : (text behind rest after others : List ℕ) (first c count : ℕ) (all : Option (List ℕ)) → rest ≡ first ∷ behind → Some c ≡ first_character first behind → after ≡ text ++ c ∷ [] → count ≡ length_behind first behind → others ≡ drop count behind → behind_text text (unescaped rest) ≡ all → behind_text after (unescaped others) ≡ all
behind_first text behind rest after others first c count all r f a n o h =
    let here : behind_text text (unescaped (first ∷ behind)) ≡ all = subst (λ (x : List ℕ). behind_text text (unescaped x) ≡ all) r h in
    let there : others ≡ drop (length_behind first behind) behind = o ∙ ap (λ (k : ℕ). drop k behind) n in
    ap (λ (x : List ℕ). behind_text x (unescaped others)) a
    ∙ ap (λ (x : List ℕ). behind_text (text ++ c ∷ []) (unescaped x)) there
    ∙ undone_first text behind first c all here (sym f)
