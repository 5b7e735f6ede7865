-- Keywords and punctuation marks are read as they are written.
use Rattle.std.proofs.Common.{◌≡◌, Ok, Some, ◌&&◌, ◌||◌, ℕ, Bool, true, not, List, [], ◌∷◌, ◌++◌, refl}
use Rattle.std.specs.Prelude.{nat_eq, nat_le, nat_lt}
use Rattle.std.specs.List.{list_all}
use Rattle.std.proofs.lemmas.Bool.{and_parts, eqb-true, not-true}
use Rattle.grammar.specs.declared.symbol.Symbol.{Symbol}
use Rattle.grammar.specs.declared.symbol.Symbol.TheVariants.{Act, Need, Rule}
use Rattle.man_grammar.specs.ClassNumbers.{class_number, word_of}
use Rattle.man_grammar.specs.Classes.{class_of, keyword_or, sign_class, token_class}
use Rattle.man_grammar.specs.Page.{rule_number}
use Rattle.man_grammar.specs.Page.Rule.{iri as iri_rule}
use Rattle.man_grammar.specs.States.{State}
use Rattle.man_grammar.specs.declared.class.Class.{Class}
use Rattle.man_grammar.specs.declared.class.Class.TheVariants as class
use Rattle.man_text.specs.Words.{colon}
use Rattle.owl_characters.proofs.AllAreLaws.{all_are}
use Rattle.owl_characters.specs.Iri.{IsIri}
use Rattle.owl_characters.specs.Names.{IsNameFrom, IsPrefixName, begins_with, ends_in_dot, is_base, is_inner, is_start}
use Rattle.owl_lexer.proofs.GapTestLaws.{implied}
use Rattle.owl_tokens.specs.ManchesterSpellings.{SpellsMark, SpellsManchester}
use Rattle.owl_tokens.specs.declared.token.Sign.{Sign as Mark}
use Rattle.owl_tokens.specs.declared.token.Token.{Token}
use Rattle.owl_tokens.specs.declared.token.Token.TheVariants as token
use Rattle.owl_writing.proofs.PlainLocalLaws.{spells_nothing}
use Rattle.owl_writing.specs.Terms.{full_iri}
use Rattle.man_read_back.proofs.Reading.{acted_at_zero, acted_by, manchester}
use Rattle.man_read_back.proofs.Steps as steps
use Rattle.man_read_back.proofs.Steps.{Starts}
use Rattle.man_read_back.proofs.Stops.{Ends, is_closed_mark, longest_before_stop, longest_closed}

is_name : (ℕ → Bool) → List ℕ → Bool
is_name test cs = begins_with test cs && (list_all is_inner cs && not (ends_in_dot cs))

name_fits : (test : ℕ → Bool) (cs : List ℕ) → is_name test cs ≡ true → IsNameFrom test cs
unfolding is_name
name_fits test [] h = absurd (cc)
name_fits test (c ∷ cs) h =
    let first = and_parts (test c) (list_all is_inner (c ∷ cs) && not (ends_in_dot (c ∷ cs))) h in
    let rest = and_parts (list_all is_inner (c ∷ cs)) (not (ends_in_dot (c ∷ cs))) first.1 in
    (first.0, ((all_are is_inner (c ∷ cs)).0 rest.0).1, not-true (ends_in_dot (c ∷ cs)) rest.1)

prefix_fits : (cs : List ℕ) → IsNameFrom is_base cs → IsPrefixName cs
prefix_fits [] h = tt
prefix_fits (c ∷ cs) h = h

-- ---- which classes are those of keywords

abbrev pub is_word_class : Class → Bool
is_word_class c = nat_le 31 (class_number c) && nat_le (class_number c) 61

abbrev pub is_colon_class : Class → Bool
is_colon_class c = nat_lt (class_number c) 31

words_are : (c : Class) → (not (is_word_class c) || (is_name is_start (word_of c) && nat_eq (class_of (token.Word (word_of c))) (class_number c))) ≡ true
unfolding is_name word_of class_of keyword_or
words_are class.Prefix = refl
words_are _ = refl

colons_are : (c : Class) → (not (is_colon_class c) || (is_name is_base (word_of c) && nat_eq (class_of (token.Name (word_of c) [])) (class_number c))) ≡ true
unfolding is_name word_of class_of keyword_or
colons_are class.Prefix = refl
colons_are _ = refl

pub class_is : (x : Token) → class_of x ≡ class_number (token_class x)
unfolding class_of
class_is x = refl

module _ {wanted : State → Type 0} {ss : List Symbol} {state : State} {rest : List ℕ} where
  pub word : (c : Class) → is_word_class c ≡ true → Ends rest → Starts manchester wanted ss state rest → Starts manchester wanted (Need (class_number c) ∷ ss) state (word_of c ++ rest)
  word c is ends k =
      let x = token.Word (word_of c) in
      let parts = and_parts (is_name is_start (word_of c)) (nat_eq (class_of x) (class_number c)) (implied (is_word_class c) (is_name is_start (word_of c) && nat_eq (class_of x) (class_number c)) (words_are c) is) in
      let spelled : SpellsManchester x (word_of c) = (name_fits is_start (word_of c) parts.0, refl) in
      steps.token x (word_of c) spelled (longest_before_stop x (word_of c) rest spelled ends) (eqb-true (class_of x) (class_number c) parts.1) k

  pub colon_word : (c : Class) → is_colon_class c ≡ true → Ends rest → Starts manchester wanted ss state rest → Starts manchester wanted (Need (class_number c) ∷ ss) state (colon c ++ rest)
  colon_word c is ends k =
      let x = token.Name (word_of c) [] in
      let parts = and_parts (is_name is_base (word_of c)) (nat_eq (class_of x) (class_number c)) (implied (is_colon_class c) (is_name is_base (word_of c) && nat_eq (class_of x) (class_number c)) (colons_are c) is) in
      let spelled : SpellsManchester x (colon c) = ([], prefix_fits (word_of c) (name_fits is_base (word_of c) parts.0), spells_nothing, refl) in
      steps.token x (colon c) spelled (longest_before_stop x (colon c) rest spelled ends) (eqb-true (class_of x) (class_number c) parts.1) k

  -- behind which nothing goes on
  pub mark : (m : Mark) (spelling : List ℕ) → SpellsMark m spelling → is_closed_mark m ≡ true → Starts manchester wanted ss state rest → Starts manchester wanted (Need (class_number (sign_class m)) ∷ ss) state (spelling ++ rest)
  mark m spelling spelled closed k = steps.token (token.Sign m) spelling spelled (longest_closed (token.Sign m) spelling rest spelled closed) (class_is (token.Sign m)) k

  -- behind which a space stands
  pub mark_before : (m : Mark) (spelling : List ℕ) → SpellsMark m spelling → Ends rest → Starts manchester wanted ss state rest → Starts manchester wanted (Need (class_number (sign_class m)) ∷ ss) state (spelling ++ rest)
  mark_before m spelling spelled ends k = steps.token (token.Sign m) spelling spelled (longest_before_stop (token.Sign m) spelling rest spelled ends) (class_is (token.Sign m)) k

  -- an IRI in full, behind an act
  pub full : {a : ℕ} {new : State} (iri : List ℕ) → IsIri iri → acted_at_zero a (Some (token.Iri iri)) state ≡ Ok new → Starts manchester wanted ss new rest → Starts manchester wanted (Act a ∷ Rule (rule_number iri_rule) ∷ ss) state (full_iri iri ++ rest)
  full iri h is k = acted_by iri_rule 0 refl (token.Iri iri) (full_iri iri) (h, refl) (longest_closed (token.Iri iri) (full_iri iri) rest (h, refl) refl) (class_is (token.Iri iri)) is k
