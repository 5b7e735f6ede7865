-- Where the authority of a reference stands.
use Rattle.std.proofs.Common.{◌≡◌, ℕ, true, false, List, ◌++◌, Some, None, cond, sym, ap, ◌∙◌, drop, refl}
use Rattle.std.specs.Prelude.{codes}
use Rattle.std.specs.Str.{IsUtf8, chars, encode_utf8_all}
use Rattle.std.proofs.lemmas.Bool.{false_from_ne_true}
use Rattle.std.proofs.lemmas.Bool.Decides.{Decides-eqb}
use Rattle.std.proofs.lemmas.Str.{chars-append, encodes-append, encodes-chars, IsUtf8-from_ascii}
use Rattle.owl_characters.proofs.AsciiLaws.{ascii_bytes, ascii_chars, ascii_text}
use Rattle.std.proofs.lemmas.Slice.Eq.{starts_is}
use Rattle.iri_references.specs.References.{authority_of, before, from_mark, has_authority, path_of, slash}

-- behind `//`
pub behind_slashes : (cs rest : List ℕ) → cs ≡ codes "//" ++ rest → has_authority cs ≡ true
behind_slashes cs rest e = (starts_is Decides-eqb cs (codes "//") (has_authority cs) refl).1 rest e

pub authority_at : (cs rest : List ℕ) → cs ≡ codes "//" ++ rest → authority_of cs ≡ Some (before slash rest)
authority_at cs rest e = ap (λ b. cond b (Some (before slash (drop 2 cs))) None) (behind_slashes cs rest e) ∙ ap (λ x. Some (before slash (drop 2 x))) e

pub path_at : (cs rest : List ℕ) → cs ≡ codes "//" ++ rest → path_of cs ≡ from_mark slash rest
path_at cs rest e = ap (λ b. cond b (from_mark slash (drop 2 cs)) cs) (behind_slashes cs rest e) ∙ ap (λ x. from_mark slash (drop 2 x)) e

-- without `//`
no_slashes : (cs : List ℕ) → ((rest : List ℕ) → cs ≡ codes "//" ++ rest → ⊥) → has_authority cs ≡ false
no_slashes cs none = false_from_ne_true (has_authority cs) (λ t. none (drop 2 cs) ((starts_is Decides-eqb cs (codes "//") (has_authority cs) refl).0 t))

pub no_authority : (cs : List ℕ) → ((rest : List ℕ) → cs ≡ codes "//" ++ rest → ⊥) → authority_of cs ≡ None
no_authority cs none = ap (λ b. cond b (Some (before slash (drop 2 cs))) None) (no_slashes cs none)

pub whole_path : (cs : List ℕ) → ((rest : List ℕ) → cs ≡ codes "//" ++ rest → ⊥) → path_of cs ≡ cs
whole_path cs none = ap (λ b. cond b (from_mark slash (drop 2 cs)) cs) (no_slashes cs none)

-- what `strip_prefix` tells of the characters
pub slashes_chars : (bs rest : List ℕ) → bs ≡ codes "//" ++ rest → chars bs ≡ codes "//" ++ chars rest
slashes_chars bs rest e =
    ap chars e ∙ chars-append (codes "//") rest (IsUtf8-from_ascii (codes "//") (ascii_text (codes "//") refl)) ∙ ap (λ x. x ++ chars rest) (ascii_chars (codes "//") refl)

pub lacks_slashes : (bs : List ℕ) → IsUtf8 bs → ((rest : List ℕ) → bs ≡ codes "//" ++ rest → ⊥) → (rest : List ℕ) → chars bs ≡ codes "//" ++ rest → ⊥
lacks_slashes bs u none rest e =
    none (encode_utf8_all rest)
    (sym (encodes-chars bs u) ∙ ap encode_utf8_all e ∙ encodes-append (codes "//") rest ∙ ap (λ x. x ++ encode_utf8_all rest) (ascii_bytes (codes "//") refl))
