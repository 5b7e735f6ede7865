-- The prefixes that are declared beforehand.
use Rattle.std.proofs.Common.{◌≡◌, ℕ, ◌↔◌, Bool, true, false, IsTrue, List, [], ◌∷◌, ◌++◌, Some, None, refl, sym, ap, ◌∙◌}
use Rattle.std.specs.Prelude.{codes}
use Rattle.std.specs.List.{list_all}
use Rattle.std.specs.Str.{IsUtf8, bytes_eq, chars, encode_utf8_all}
use Rattle.std.proofs.lemmas.Bool.{false≢true}
use Rattle.std.proofs.lemmas.Option.{same_Some}
use Rattle.std.proofs.lemmas.Slice.Eq.{bytes_eq-Decides}
use Rattle.std.proofs.lemmas.Str.{encodes-chars}
use Rattle.owl_characters.specs.Iri.{is_ascii}
use Rattle.owl_characters.specs.Order.{text_eq}
use Rattle.owl_characters.specs.OrderLaws.{unequal}
use Rattle.owl_characters.proofs.AsciiLaws.{ascii_chars, ascii_bytes}
use Rattle.owl_characters.proofs.NameLaws.{written_name}
use Rattle.owl_atom.specs.Prefixes.{AreAscending, IsTable, iri_of, fixed, fixed_prefixes}
use Rattle.rdf_terms.specs.Vocabulary.{owl, rdf, rdfs, xsd}
use Rattle.owl_atom.specs.declared.prefixes.Prefix.{Prefix}

ascending : AreAscending fixed_prefixes
unfolding lib.Utf8.encode
ascending = ((refl, (refl, (refl, tt))), ((refl, (refl, tt)), ((refl, tt), (tt, tt))))

pub fixed_table : IsTable fixed_prefixes
fixed_table = record {
  ascending = ascending;
  names = (written_name 111 (codes "wl") refl refl refl, (written_name 114 (codes "df") refl refl refl, (written_name 114 (codes "dfs") refl refl refl, (written_name 120 (codes "sd") refl refl refl, tt))));
}

-- the table that is pushed together
pub four : (h0 h1 h2 h3 h4 : List Prefix) (a b c d : Prefix) → h0 ≡ [] → h1 ≡ h0 ++ a ∷ [] → h2 ≡ h1 ++ b ∷ [] → h3 ≡ h2 ++ c ∷ [] → h4 ≡ h3 ++ d ∷ []
    → a ≡ fixed (chars (codes "owl")) (chars (owl [])) → b ≡ fixed (chars (codes "rdf")) (chars (rdf []))
    → c ≡ fixed (chars (codes "rdfs")) (chars (rdfs [])) → d ≡ fixed (chars (codes "xsd")) (chars (xsd [])) → h4 ≡ fixed_prefixes
four h0 h1 h2 h3 h4 a b c d e0 e1 e2 e3 e4 is_a is_b is_c is_d =
    let own_a : a ≡ fixed (codes "owl") (owl []) = is_a ∙ ap (λ n. fixed n (chars (owl []))) (ascii_chars (codes "owl") refl) ∙ ap (fixed (codes "owl")) (ascii_chars (owl []) refl) in
    let own_b : b ≡ fixed (codes "rdf") (rdf []) = is_b ∙ ap (λ n. fixed n (chars (rdf []))) (ascii_chars (codes "rdf") refl) ∙ ap (fixed (codes "rdf")) (ascii_chars (rdf []) refl) in
    let own_c : c ≡ fixed (codes "rdfs") (rdfs []) = is_c ∙ ap (λ n. fixed n (chars (rdfs []))) (ascii_chars (codes "rdfs") refl) ∙ ap (fixed (codes "rdfs")) (ascii_chars (rdfs []) refl) in
    let own_d : d ≡ fixed (codes "xsd") (xsd []) = is_d ∙ ap (λ n. fixed n (chars (xsd []))) (ascii_chars (codes "xsd") refl) ∙ ap (fixed (codes "xsd")) (ascii_chars (xsd []) refl) in
    rw (e4, e3, e2, e1, e0, own_a, own_b, own_c, own_d)

-- a name with an IRI of its ascii_chars has that alone
pub fixed_here : (name word : List ℕ) (iri text own_iri : List ℕ) (b : Bool) → name ≡ word → list_all is_ascii word ≡ true → iri_of fixed_prefixes word ≡ Some own_iri → list_all is_ascii own_iri ≡ true → b ≡ bytes_eq text own_iri → IsUtf8 text → chars text ≡ iri → IsTrue b ↔ (iri_of fixed_prefixes (chars name) ≡ Some iri)
fixed_here name word iri text own_iri b e o at oi test u is_iri =
    let here : iri_of fixed_prefixes (chars name) ≡ Some own_iri = ap (iri_of fixed_prefixes) (ap chars e ∙ ascii_chars word o) ∙ at in
    let d = bytes_eq-Decides text own_iri in (
      λ t. here ∙ ap Some (sym (ascii_chars own_iri oi) ∙ sym (ap chars (d.0 (sym test ∙ t))) ∙ is_iri),
      λ k. test ∙ d.1 (sym (encodes-chars text u) ∙ ap encode_utf8_all (is_iri ∙ sym (same_Some own_iri iri (sym here ∙ k))) ∙ ascii_bytes own_iri oi),
    )

other_word : (name word : List ℕ) → IsUtf8 name → list_all is_ascii word ≡ true → (name ≡ word → ⊥) → text_eq word (chars name) ≡ false
other_word name word u e ne = unequal word (chars name) (λ same. ne (sym (encodes-chars name u) ∙ ap encode_utf8_all (sym same) ∙ ascii_bytes word e))

pub fixed_nowhere : (name iri : List ℕ) → IsUtf8 name → (name ≡ codes "owl" → ⊥) → (name ≡ codes "rdf" → ⊥) → (name ≡ codes "rdfs" → ⊥) → (name ≡ codes "xsd" → ⊥) → IsTrue false ↔ (iri_of fixed_prefixes (chars name) ≡ Some iri)
fixed_nowhere name iri u no_owl no_rdf no_rdfs no_xsd =
    let not_owl = other_word name (codes "owl") u refl no_owl in
    let not_rdf = other_word name (codes "rdf") u refl no_rdf in
    let not_rdfs = other_word name (codes "rdfs") u refl no_rdfs in
    let not_xsd = other_word name (codes "xsd") u refl no_xsd in
    let none : iri_of fixed_prefixes (chars name) ≡ None = rw (not_owl, not_rdf, not_rdfs, not_xsd) in
    (λ t. absurd (false≢true t), λ k. absurd (cc))
