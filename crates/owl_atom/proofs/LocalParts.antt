-- Local parts: how an IRI is cut behind the IRI of a prefix.
use Rattle.std.proofs.Common.{◌≡◌, ◌<◌, ◌≤◌, ◌-◌, inl, inr, ℕ, zero, suc, ◌↔◌, true, false, List, [], ◌∷◌, ◌++◌, arith, drop, get_or, length, length-drop, sym, ap, ◌∙◌, subst}
use Rattle.std.specs.List.{list_all}
use Rattle.std.proofs.lemmas.Bool.{true≢false}
use Rattle.std.proofs.lemmas.Bool.Decides.{leb_tells, nat_tests}
use Rattle.std.proofs.lemmas.List.{drop-drop, get_or-drop}
use Rattle.std.proofs.lemmas.Str.{encodes-chars}
use Rattle.owl_characters.proofs.AllAreLaws.{AllAre-weaker, all_are}
use Rattle.owl_characters.proofs.AsciiLaws.{ascii_bytes, ascii_chars}
use Rattle.std.specs.Str.{IsUtf8, chars, encode_utf8_all}
use Rattle.std.specs.Str.Pattern.{LacksTextAt}
use Rattle.std.proofs.lemmas.List.{append_cancel_left}
use Rattle.std.proofs.lemmas.Str.{chars-append, encodes-append}
use Rattle.owl_characters.specs.Iri.{AllAre, is_ascii}
use Rattle.owl_atom.specs.ByIri.{IsPlainFrom}
use Rattle.owl_characters.specs.Names.{begins_with}
use Rattle.owl_atom.specs.declared.prefixes.Prefix.{Prefix}
use Rattle.owl_atom.specs.Prefixes.{IsPlainLocal, is_plain_start, is_plain_character}
use Rattle.owl_atom.specs.Places.{CutsNowhere}
use Rattle.owl_atom.specs.PrefixLaws.{start_is_plain}

pub plain_behind_start : (cs : List ℕ) → begins_with is_plain_start cs ≡ true → AllAre is_plain_character cs ↔ IsPlainLocal cs
plain_behind_start [] h = absurd (cc)
plain_behind_start (c ∷ cs) h = (λ all. (h, all.1), λ plain. (start_is_plain c h, plain.1))

pub plain_begins : (cs : List ℕ) → begins_with is_plain_start cs ≡ false → IsPlainLocal cs → ⊥
plain_begins [] h plain = plain
plain_begins (c ∷ cs) h plain = let start = plain.0 in absurd (cc)

-- the characters of a text that is cut behind another
pub cut_characters : (bs front back cs fs : List ℕ) → IsUtf8 front → bs ≡ front ++ back → chars bs ≡ cs → chars front ≡ fs → cs ≡ fs ++ chars back
cut_characters bs front back cs fs u e is_cs is_fs = sym is_cs ∙ ap chars e ∙ chars-append front back u ∙ ap (λ x. x ++ chars back) is_fs

pub no_other_rest : (prefix : Prefix) (iri rest : List ℕ) → iri ≡ prefix.iri ++ rest → (IsPlainLocal rest → ⊥) → CutsNowhere prefix iri
no_other_rest prefix iri rest e no_plain local cut =
    no_plain (subst IsPlainLocal (append_cancel_left prefix.iri local rest (sym cut.parts ∙ e)) cut.plain)

pub no_front : (prefix : Prefix) (iri bs front : List ℕ) → bs ≡ encode_utf8_all iri → front ≡ encode_utf8_all prefix.iri → LacksTextAt front bs 0 → CutsNowhere prefix iri
no_front prefix iri bs front is_bs is_front lacks local cut =
    lacks (encode_utf8_all local) (is_bs ∙ ap encode_utf8_all cut.parts ∙ encodes-append prefix.iri local ∙ ap (λ x. x ++ encode_utf8_all local) (sym is_front))

-- bytes of plain local parts are their characters
plain_is_ascii : (c : ℕ) → is_plain_character c ≡ true → is_ascii c ≡ true
plain_is_ascii c h = grind (arith, nat_tests)

plain_bytes : (bytes : List ℕ) → AllAre is_plain_character bytes → list_all is_ascii bytes ≡ true
plain_bytes bytes all = (all_are is_ascii bytes).1 (AllAre-weaker is_plain_character is_ascii plain_is_ascii bytes all)

plain_characters : (bytes : List ℕ) → AllAre is_plain_character bytes → AllAre is_plain_character (chars bytes)
plain_characters bytes all = subst (AllAre is_plain_character) (sym (ascii_chars bytes (plain_bytes bytes all))) all

plain_encoded : (bytes : List ℕ) → IsUtf8 bytes → AllAre is_plain_character (chars bytes) → AllAre is_plain_character bytes
plain_encoded bytes utf8 all =
    subst (AllAre is_plain_character) (sym (ascii_bytes (chars bytes) (plain_bytes (chars bytes) all)) ∙ encodes-chars bytes utf8) all

plain_at : (bytes : List ℕ) (k : ℕ) → AllAre is_plain_character bytes → k < length bytes → is_plain_character (get_or bytes k 0) ≡ true
plain_at [] k all within = absurd (omega arith)
plain_at (c ∷ cs) zero all within = all.0
plain_at (c ∷ cs) (suc k) all within = plain_at cs k all.1 (omega arith)

plain_dropped : (bytes : List ℕ) (n : ℕ) → AllAre is_plain_character bytes → AllAre is_plain_character (drop n bytes)
plain_dropped bytes zero all = all
plain_dropped [] (suc n) all = all
plain_dropped (c ∷ cs) (suc n) all = plain_dropped cs n all.1

-- what stands behind a byte is plain exactly where it stands at the plain end
pub plain_behind_byte : (bytes local : List ℕ) (from n : ℕ) → IsPlainFrom bytes from → n ≤ length bytes → IsUtf8 local → local ≡ drop n bytes → (from ≤ n) ↔ AllAre is_plain_character (chars local)
plain_behind_byte bytes local from n tail within utf8 e = (
  λ le.
      let behind : drop (n - from) (drop from bytes) ≡ local = drop-drop (n - from) from bytes ∙ ap (λ k. drop k bytes) (omega arith) ∙ sym e in
      plain_characters local (subst (AllAre is_plain_character) behind (plain_dropped (drop from bytes) (n - from) tail.plain)),
  λ all. elim (leb_tells from n) as (λ _. from ≤ n) [
    | inl past ↦ past.1
    | inr before ↦
        let lt = before.1 in
        let in_local : is_plain_character (get_or local (from - 1 - n) 0) ≡ true =
        plain_at local (from - 1 - n) (plain_encoded local utf8 all) (let l = tail.within in omega (arith, ap (λ (xs : List ℕ). length xs) e, length-drop n bytes)) in
        let here : get_or local (from - 1 - n) 0 ≡ get_or bytes (from - 1) 0 =
        ap (λ xs. get_or xs (from - 1 - n) 0) e ∙ get_or-drop n bytes (from - 1 - n) 0 ∙ ap (λ k. get_or bytes k 0) (omega arith) in
        absurd (true≢false (sym in_local ∙ ap is_plain_character here ∙ tail.before (from - 1) (omega arith)))
  ],
)
