-- What the code writes out in ASCII, by its characters.
use Rattle.std.proofs.Common.{◌≡◌, ℕ, Bool, true, List, ◌++◌, refl, sym, subst, drop, nat_eq}
use Rattle.std.specs.Prelude.{◌&&◌, codes}
use Rattle.std.specs.List.{list_all, starts_with}
use Rattle.std.specs.Str.{chars}
use Rattle.std.proofs.lemmas.Bool.{and_parts}
use Rattle.std.proofs.lemmas.Bool.Decides.{Decides-eqb}
use Rattle.std.proofs.lemmas.Slice.Eq.{starts_is}
use Rattle.owl_characters.specs.Iri.{AllAre, IsIri, is_ascii, is_iri_character}
use Rattle.owl_characters.specs.Names.{IsLanguageTag}
use Rattle.owl_characters.proofs.AllAreLaws.{all_are}
use Rattle.owl_characters.proofs.AsciiLaws.{ascii_chars}
use Rattle.owl_characters.proofs.IriLaws.{written_iri}
use Rattle.rdf_terms.specs.Tables.{is_ascii_iri}

-- tests of the characters of a word
pub word_passes : (test : ℕ → Bool) (word : List ℕ) → list_all is_ascii word ≡ true → list_all test word ≡ true → AllAre test (chars word)
word_passes test word ascii h = subst (AllAre test) (sym (ascii_chars word ascii)) ((all_are test word).0 h)

-- a language tag of letters
pub tag_of_letters : (word : List ℕ) → list_all is_ascii word ≡ true → IsLanguageTag word → IsLanguageTag (chars word)
tag_of_letters word ascii h = subst IsLanguageTag (sym (ascii_chars word ascii)) h

-- an IRI that is written out
pub http_iri : (rest : List ℕ) → list_all is_iri_character rest ≡ true → list_all is_ascii (codes "http:" ++ rest) ≡ true → IsIri (chars (codes "http:" ++ rest))
http_iri rest h ascii = subst IsIri (sym (ascii_chars (codes "http:" ++ rest) ascii)) (written_iri rest h)

pub ascii_iri : (text : List ℕ) → is_ascii_iri text ≡ true → IsIri (chars text) × (chars text ≡ text)
ascii_iri text h =
    let front = and_parts (starts_with nat_eq text (codes "http:")) (list_all is_ascii text && list_all is_iri_character text) h in
    let all = and_parts (list_all is_ascii text) (list_all is_iri_character text) front.1 in
    let is : text ≡ codes "http:" ++ drop 5 text = (starts_is Decides-eqb text (codes "http:") (starts_with nat_eq text (codes "http:")) refl).0 front.0 in
    let allowed = subst (λ (t : List ℕ). list_all is_iri_character t ≡ true) is all.1 in
    let ascii = subst (λ (t : List ℕ). list_all is_ascii t ≡ true) is all.0 in
    (subst (λ (t : List ℕ). IsIri (chars t)) (sym is) (http_iri (drop 5 text) allowed ascii), ascii_chars text all.0)
