-- The lines of breaches are those of the sites that they tell of.
use Rattle.std.specs.Prelude.{codes, if◌then◌else◌, slice_get}
use Rattle.std.specs.Fmt.{decimal, digit_glyph, digits, digits_onto}
use Rattle.std.specs.List.{All, AllZip, flat_map, list_all}
use Rattle.std.proofs.Common.{◌≡◌, ◌<◌, ◌≤◌, ◌%◌, ◌/◌, Bool, true, false, ℕ, zero, suc, ◌+◌, List, [], ◌∷◌, ◌++◌, Option, get_or, length, nat_eq, refl, sym, ap, ◌∙◌, subst, arith}
use Rattle.std.specs.Str.{encode_utf8_all}
use Rattle.std.proofs.lemmas.Bool.{and_from}
use Rattle.std.proofs.lemmas.Bool.Decides.{nat_tests}
use Rattle.std.proofs.lemmas.List.{append_assoc}
use Rattle.std.proofs.lemmas.List.Folds.{list_all-append}
use Rattle.std.proofs.lemmas.Slice.Zip.{AllZip-long}
use Rattle.breach_lists.specs.Telling.{Tells}
use Rattle.owl_breaches.specs.Sites.{Site}
use Rattle.owl_characters.specs.Iri.{is_ascii}
use Rattle.owl_characters.specs.Limit.{most_bytes}
use Rattle.owl_characters.proofs.Utf8Laws.{size_append, size_is}
use Rattle.owl_command.specs.declared.command.Profile.{Profile}
use Rattle.owl_command.specs.declared.status.Status.TheVariants.{No}
use Rattle.owl_doc.specs.declared.item.Breach.{Breach}
use Rattle.owl_doc.specs.declared.rule.Rule.{Rule}
use Rattle.owl_doc.specs.declared.rule.Rule.TheVariants.{Dl, El, Ql, Rl}
use Rattle.owl_doc.specs.Documents.{Document}
use Rattle.owl_doc.specs.Rules.{rule_name}
use Rattle.owl_profiles.specs.Profiles.{ProfileRule, name_of}
use Rattle.owl_writing.specs.Limits.{IsTooLong}
use Rattle.owl_writing.proofs.DraftLaws.{too_long_in_bytes}
use Rattle.owl_messages.specs.Outcome.{IsLimited, Outcome, fits, passes, too_long_output}
use Rattle.owl_messages.specs.Verdicts.{breach_line, breach_lines, no_line, part_text, verdict}
use Rattle.owl_messages.specs.VerdictLines.{IsHeldBreach, found_line, found_lines, held_text, part_line}

-- the front of a line is ASCII

both_ascii : (xs ys : List ℕ) → list_all is_ascii xs ≡ true → list_all is_ascii ys ≡ true → list_all is_ascii (xs ++ ys) ≡ true
both_ascii xs ys h k = list_all-append is_ascii xs ys ∙ and_from (list_all is_ascii xs) (list_all is_ascii ys) h k

either_ascii : (b : Bool) (xs ys : List ℕ) → list_all is_ascii xs ≡ true → list_all is_ascii ys ≡ true → list_all is_ascii (if b then xs else ys) ≡ true
either_ascii true xs ys h k = h
either_ascii false xs ys h k = k

digit_ascii : (n : ℕ) → is_ascii (digit_glyph false (n % 10)) ≡ true
digit_ascii n = grind (arith, nat_tests)

digits_ascii : (k n : ℕ) (behind : List ℕ) → list_all is_ascii behind ≡ true → list_all is_ascii (digits_onto k 10 false n behind) ≡ true
digits_ascii zero n behind h = h
digits_ascii (suc k) n behind h =
    let next : List ℕ = digit_glyph false (n % 10) ∷ behind in
    let here = and_from (is_ascii (digit_glyph false (n % 10))) (list_all is_ascii behind) (digit_ascii n) h in
    either_ascii (nat_eq (n / 10) 0) next (digits_onto k 10 false (n / 10) next) here (digits_ascii k (n / 10) next here)

decimal_ascii : (n : ℕ) → list_all is_ascii (decimal n) ≡ true
unfolding digits
decimal_ascii n = digits_ascii 64 n [] refl

rule_ascii : (rule : Rule) → list_all is_ascii (rule_name rule) ≡ true
rule_ascii (Dl n) = both_ascii (codes "DL-") (decimal n) refl (decimal_ascii n)
rule_ascii (El n) = both_ascii (codes "EL-") (decimal n) refl (decimal_ascii n)
rule_ascii (Ql n) = both_ascii (codes "QL-") (decimal n) refl (decimal_ascii n)
rule_ascii (Rl n) = both_ascii (codes "RL-") (decimal n) refl (decimal_ascii n)

pub front_ascii : (rule : Rule) (number : ℕ) (bytes : List ℕ) → bytes ≡ rule_name rule ++ (codes " " ++ (decimal number ++ codes " ")) → list_all is_ascii bytes ≡ true
front_ascii rule number bytes e =
    let last = decimal number ++ codes " " in
    ap (list_all is_ascii) e
    ∙ both_ascii (rule_name rule) (codes " " ++ last) (rule_ascii rule) (both_ascii (codes " ") last refl (both_ascii (decimal number) (codes " ") (decimal_ascii number) refl))

-- a part alone that is too long
pub long_behind : (front text : List ℕ) → most_bytes < length (encode_utf8_all text) → IsTooLong (front ++ text)
long_behind front text h = omega (arith, size_append front text, size_is text)

joined : (a b c d e f : List ℕ) → (a ++ (b ++ (c ++ d))) ++ (e ++ f) ≡ a ++ (b ++ (c ++ (d ++ (e ++ f))))
joined a b c d e f = simp append_assoc

module _ (docs : List Document) (places : List ℕ) where
  part_told : (s : Site ProfileRule) (b : Breach) → Tells name_of docs s b → held_text (slice_get docs b.document) b.item ≡ part_text s.part
  part_told s b t =
      ap (λ (place : ℕ). held_text (slice_get docs place) b.item) t.document
      ∙ ap (λ (d : Option Document). held_text d b.item) t.is
      ∙ ap part_text t.part

  line_told : (s : Site ProfileRule) (b : Breach) → Tells name_of docs s b → found_line docs places b ≡ breach_line places s
  line_told s b t =
      ap (λ (part : List ℕ). part_line b.rule (get_or places b.document 0) part) (part_told s b t)
      ∙ ap (λ (rule : Rule). part_line rule (get_or places b.document 0) (part_text s.part)) t.rule
      ∙ ap (λ (place : ℕ). part_line (name_of s.rule) (get_or places place 0) (part_text s.part)) t.document
      ∙ joined (rule_name (name_of s.rule)) (codes " ") (decimal (get_or places s.place 0 + 1)) (codes " ") (part_text s.part) (codes "\n")

  each_told : (breaches : List (Site ProfileRule)) (found : List Breach) → AllZip (Tells name_of docs) breaches found → flat_map (found_line docs places) found ≡ breach_lines places breaches
  each_told [] [] h = refl
  each_told [] (b ∷ bs) h = elim h [ ]
  each_told (s ∷ ss) [] h = elim h [ ]
  each_told (s ∷ ss) (b ∷ bs) h =
      ap (λ (x : List ℕ). x ++ flat_map (found_line docs places) bs) (line_told s b h.0) ∙ ap (λ (x : List ℕ). breach_line places s ++ x) (each_told ss bs h.1)

  pub lines_told : (breaches : List (Site ProfileRule)) (found : List Breach) → AllZip (Tells name_of docs) breaches found → found_lines docs places found ≡ codes "no\n" ++ breach_lines places breaches
  lines_told breaches found h = ap (λ (x : List ℕ). codes "no\n" ++ x) (each_told breaches found h)

-- each part stands where it is told
pub held_told : (docs : List Document) (breaches : List (Site ProfileRule)) (found : List Breach) → AllZip (Tells name_of docs) breaches found → All (IsHeldBreach docs) found
held_told docs [] [] h k d l = absurd (omega arith)
held_told docs [] (b ∷ bs) h k d l = elim h [ ]
held_told docs (s ∷ ss) [] h k d l = elim h [ ]
held_told docs (s ∷ ss) (b ∷ bs) h zero d l = record { there = h.0.there; is = ap (slice_get docs) h.0.document ∙ h.0.is; held = h.0.held }
held_told docs (s ∷ ss) (b ∷ bs) h (suc k) d l = held_told docs ss bs h.1 k d (omega arith)

-- what is told of breaches

module _ (profile : Profile) (docs : List Document) (places : List ℕ) where
  abbrev pub IsAnswer : List (Site ProfileRule) → Outcome → Type 0
  IsAnswer breaches answer = IsLimited (λ wanted. wanted ≡ verdict profile places breaches) answer

  pub answered : (breaches : List (Site ProfileRule)) (found : List Breach) (text : List ℕ) (answer : Outcome) → AllZip (Tells name_of docs) breaches found → nat_eq (length found) 0 ≡ false
      → answer ≡ record { status = No; text = encode_utf8_all text; line = no_line profile (length found) } → text ≡ found_lines docs places found → length (encode_utf8_all text) ≤ most_bytes → IsAnswer breaches answer
  answered [] [] text answer h some e is within = absurd (cc)
  answered [] (b ∷ bs) text answer h some e is within = elim h [ ]
  answered (s ∷ ss) [] text answer h some e is within = elim h [ ]
  answered (s ∷ ss) (b ∷ bs) text answer h some e is within =
      let same = ap encode_utf8_all (is ∙ lines_told docs places (s ∷ ss) (b ∷ bs) h) in
      let count = ap (no_line profile) (AllZip-long (Tells name_of docs) (s ∷ ss) (b ∷ bs) h) in
      fits (cc) (subst (λ (o : Outcome). length o.text ≤ most_bytes) (sym e) within)

  pub too_long_told : (breaches : List (Site ProfileRule)) (found : List Breach) (answer : Outcome) → AllZip (Tells name_of docs) breaches found → nat_eq (length found) 0 ≡ false
      → answer ≡ too_long_output → IsTooLong (found_lines docs places found) → IsAnswer breaches answer
  too_long_told [] [] answer h some e long = absurd (cc)
  too_long_told [] (b ∷ bs) answer h some e long = elim h [ ]
  too_long_told (s ∷ ss) [] answer h some e long = elim h [ ]
  too_long_told (s ∷ ss) (b ∷ bs) answer h some e long =
      passes (verdict profile places (s ∷ ss)) refl
      (too_long_in_bytes (codes "no\n" ++ breach_lines places (s ∷ ss)) (subst IsTooLong (lines_told docs places (s ∷ ss) (b ∷ bs) h) long)) e
