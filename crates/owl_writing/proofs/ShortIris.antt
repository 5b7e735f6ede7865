-- Abbreviated IRIs.
use Rattle.std.proofs.Common.{◌≡◌, ℕ, true, List, ◌++◌, length, drop, Option, Some, sym, ap, ◌∙◌, codes}
use Rattle.std.specs.Prelude.{slice_get}
use Rattle.std.proofs.Math.Seq.{drop-append_seam}
use Rattle.std.specs.Str.{all_scalars, chars, encode_utf8_all}
use Rattle.std.proofs.lemmas.Str.{chars-encodes, encodes-append}
use Rattle.owl_characters.proofs.Utf8Laws.{scalars_behind}
use Rattle.owl_atom.specs.declared.prefixes.Prefix.{Prefix}
use Rattle.owl_atom.specs.Prefixes.{AreAscending, Shortens}
use Rattle.owl_writing.specs.Terms.{iri_text, shortened_by}
use Rattle.owl_writing.proofs.AbbreviationLaws.{best_is_shortest, shortest_local}

-- the text of an IRI that a prefix shortens
pub short_text : (prefixes : List Prefix) (iri : List ℕ) (place begin : ℕ) → AreAscending prefixes → (s : Shortens prefixes iri place begin) → iri_text prefixes iri ≡ s.prefix.name ++ (codes ":" ++ s.local)
short_text prefixes iri place begin ascending s =
    ap (λ (best : Option Prefix). shortened_by best iri) (best_is_shortest prefixes iri place begin ascending s)
    ∙ ap (λ (local : List ℕ). s.prefix.name ++ (codes ":" ++ local)) (shortest_local prefixes iri place begin s)

-- the prefix that stands at the place
pub short_name : (prefixes : List Prefix) (iri : List ℕ) (place begin : ℕ) (s : Shortens prefixes iri place begin) (prefix : Prefix) → slice_get prefixes place ≡ Some prefix → prefix.name ≡ s.prefix.name
short_name prefixes iri place begin s prefix e = let f = s.stands in cc

-- what stands behind the front of an IRI
pub local_chars : (iri bytes : List ℕ) (begin : ℕ) (front local : List ℕ) → all_scalars iri ≡ true → bytes ≡ encode_utf8_all iri → iri ≡ front ++ local → begin ≡ length (encode_utf8_all front) → chars (drop begin bytes) ≡ local
local_chars iri bytes begin front local scalars is parts e =
    let whole : bytes ≡ encode_utf8_all front ++ encode_utf8_all local = is ∙ ap encode_utf8_all parts ∙ encodes-append front local in
    ap (λ (n : ℕ). chars (drop n bytes)) e
    ∙ ap (λ (x : List ℕ). chars (drop (length (encode_utf8_all front)) x)) whole
    ∙ ap chars (drop-append_seam (encode_utf8_all front) (encode_utf8_all local))
    ∙ chars-encodes local (scalars_behind front local (sym (ap all_scalars parts) ∙ scalars))
