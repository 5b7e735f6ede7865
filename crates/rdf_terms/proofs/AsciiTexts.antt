-- Names of ASCII: what a test of their bytes tells of characters.
use Rattle.std.proofs.Common.{◌≡◌, ℕ, Bool, true, false, not, List, refl, sym, ap, ◌∙◌, nat_eq}
use Rattle.std.specs.List.{list_all, list_any, starts_with}
use Rattle.std.specs.Str.{IsUtf8, all_scalars, bytes_eq, chars, encode_utf8_all}
use denote.Ref.{Bor}
use Rattle.std.proofs.lemmas.Slice.Eq.{bytes_eq-Decides}
use Rattle.std.proofs.lemmas.Str.{encodes-chars}
use Rattle.owl_characters.specs.Iri.{is_ascii}
use Rattle.owl_characters.proofs.AsciiLaws.{from_bytes, front_is}
use Rattle.rdf_terms.specs.Datatypes.{has}
use Rattle.rdf_terms.specs.Tables.{begins_with_name, is_name, are_ascii, shown}
use Rattle.rdf_terms.proofs.TableLaws.{any_same, is_name-ascii}

pub one_of : (result : Bool) (names : List (Bor (List ℕ))) (text : List ℕ) → IsUtf8 text → result ≡ is_name names text → are_ascii names ≡ true → result ≡ has (shown names) (chars text)
one_of result names text u e h = e ∙ ap (is_name names) (sym (encodes-chars text u)) ∙ is_name-ascii names (chars text) h

true_by : (b : Bool) → not b ≡ false → b ≡ true
true_by true h = refl
true_by false h = sym h

-- a test that a text is not the name
pub is_same : (result : Bool) (text name cs : List ℕ) → result ≡ not (bytes_eq text name) → result ≡ false → text ≡ encode_utf8_all cs → list_all is_ascii name ≡ true → cs ≡ name
is_same result text name cs e f t h =
    from_bytes name cs h (sym ((bytes_eq-Decides text name).0 (true_by (bytes_eq text name) (sym e ∙ f))) ∙ t)

pub fronts_are : (result : Bool) (names : List (Bor (List ℕ))) (text cs : List ℕ) → result ≡ begins_with_name names text → text ≡ encode_utf8_all cs → all_scalars cs ≡ true → are_ascii names ≡ true → result ≡ list_any (λ front. starts_with nat_eq cs front) (shown names)
unfolding begins_with_name
fronts_are result names text cs e t s h =
    e
    ∙ ap (begins_with_name names) t
    ∙ any_same (λ name. list_all is_ascii name.now) (λ name. starts_with nat_eq (encode_utf8_all cs) name.now) (λ front. starts_with nat_eq cs front) (λ name. name.now) (λ name p. front_is name.now cs s p) names h
