-- Prefixes are declared as they were written.
use Rattle.std.proofs.Common.{◌≡◌, ◌⊎◌, inl, inr, ◌||◌, ℕ, Bool, true, false, not, Option, None, Some, Ok, Err, List, [], ◌∷◌, ◌++◌, codes, refl, sym, ap, ◌∙◌, subst}
use Rattle.std.specs.Prelude.{find, if◌then◌else◌, unwrap_or}
use Rattle.std.specs.List.{AllByRecursion, list_any}
use Rattle.std.specs.Option.{option_map}
use Rattle.std.proofs.lemmas.Bool.{both_ways, or_parts, or_right}
use Rattle.std.proofs.lemmas.List.{append_assoc}
use Rattle.grammar.specs.declared.symbol.Symbol.{Symbol}
use Rattle.grammar.specs.declared.symbol.Symbol.TheVariants.{Rule}
use Rattle.man_grammar.specs.ClassNumbers.{class_number, colon_keywords, word_of}
use Rattle.man_grammar.specs.Classes.{class_of, keyword_or}
use Rattle.man_grammar.specs.Page.{rule_number}
use Rattle.man_grammar.specs.Page.Rule.{prefixes as prefixes_rule}
use Rattle.man_grammar.specs.States.{State, may_stand_for, naming, start}
use Rattle.man_grammar.specs.declared.class.Class.{Class}
use Rattle.man_grammar.specs.declared.class.Class.TheVariants as class
use Rattle.man_text.specs.Text.{is_keyword, prefix_line, prefix_lines}
use Rattle.owl_atom.specs.Prefixes.{AreAscending, fixed_prefixes, iri_of, is_declared, is_fixed, prefix_in}
use Rattle.owl_atom.specs.declared.prefixes.Prefix.{Prefix}
use Rattle.owl_characters.specs.Order.{text_eq}
use Rattle.owl_characters.specs.OrderLaws.{equal, unequal}
use Rattle.owl_reader.specs.declared.fault.Reason.TheVariants as reason
use Rattle.owl_reader.specs.declared.fault.TokenFault.TheVariants.{Defect}
use Rattle.owl_tokens.specs.ManchesterSpellings.{SpellsManchester}
use Rattle.owl_tokens.specs.declared.token.Token.TheVariants as token
use Rattle.owl_writing.proofs.PlainLocalLaws.{spells_nothing}
use Rattle.owl_writing.specs.Tables.{as_declared}
use Rattle.owl_writing.specs.Terms.{full_iri}
use Rattle.man_read_back.proofs.Reading.{by, manchester}
use Rattle.man_read_back.proofs.Steps as steps
use Rattle.man_read_back.proofs.Steps.{Starts}
use Rattle.man_read_back.proofs.Stops.{longest_before_stop, longest_closed}
use Rattle.man_read_back.proofs.TableLaws.{AreFree, IsDeclarable, declared, never_declared, still_free}
use Rattle.man_read_back.proofs.Words.{class_is, colon_word}

-- while prefixes are declared
abbrev pub declaring : List Prefix → List ℕ → State
declaring prefixes name = record start { names = record { prefixes = prefixes; declaring = name } }

-- ---- a name that is no keyword

differs : (word name : List ℕ) → text_eq word name ≡ false → text_eq name word ≡ false
differs word name f = unequal name word (λ e. both_ways (text_eq word name) f (equal word name (sym e)))

none_found : (ks : List Class) (name : List ℕ) → list_any (λ c. text_eq (word_of c) name) ks ≡ false → find (λ k. text_eq name (word_of k)) ks ≡ None
none_found [] name h = refl
none_found (c ∷ ks) name h =
    let parts = or_parts (text_eq (word_of c) name) (list_any (λ k. text_eq (word_of k) name) ks) h in
    rw (differs (word_of c) name parts.0) (none_found ks name parts.1)

namespace_class : (name : List ℕ) → is_keyword name ≡ false → class_of (token.Name name []) ≡ class_number class.Namespace
unfolding class_of keyword_or is_keyword
namespace_class name h = ap (λ (o : Option Class). class_number (unwrap_or o class.Namespace)) (none_found colon_keywords name h)

-- ---- one prefix

stands_by : (name iri : List ℕ) (prefixes : List Prefix) → prefix_in prefixes name ≡ prefix_in fixed_prefixes name → (prefix_in fixed_prefixes name ≡ None) ⊎ (iri_of fixed_prefixes name ≡ Some iri)
    → may_stand_for (record { prefixes = prefixes; declaring = name }) iri ≡ true
stands_by name iri prefixes free (inl none) =
    let unfixed = ap (λ (o : Option Prefix). unwrap_or (option_map (λ (p : Prefix). p.fixed) o) false) (free ∙ none) in
    ap (λ (b : Bool). not b || unwrap_or (option_map (λ own. text_eq own iri) (iri_of fixed_prefixes name)) false) unfixed
stands_by name iri prefixes free (inr own) =
    or_right (not (is_fixed prefixes name)) (unwrap_or (option_map (λ x. text_eq x iri) (iri_of fixed_prefixes name)) false)
    (ap (λ (o : Option (List ℕ)). unwrap_or (option_map (λ x. text_eq x iri) o) false) own ∙ equal iri iri refl)

module _ {wanted : State → Type 0} where
  says_prefix : (p : Prefix) (prefixes : List Prefix) (old : List ℕ) (ss : List Symbol) (cs : List ℕ) → IsDeclarable p → prefix_in prefixes p.name ≡ prefix_in fixed_prefixes p.name
      → Starts manchester wanted (Rule (rule_number prefixes_rule) ∷ ss) (declaring (as_declared p ∷ prefixes) p.name) cs → Starts manchester wanted (Rule (rule_number prefixes_rule) ∷ ss) (declaring prefixes old) (prefix_line p cs)
  unfolding word_of
  says_prefix p prefixes old ss cs h free k =
      let x = token.Name p.name [] in
      let spelled : SpellsManchester x (p.name ++ codes ":") = ([], h.name, spells_nothing, refl) in
      let behind = full_iri p.iri ++ (codes "\n" ++ cs) in
      let undeclared : is_declared prefixes p.name ≡ false = ap (λ (o : Option Prefix). unwrap_or (option_map (λ (q : Prefix). q.declared) o) false) free ∙ never_declared p.name in
      let fixed : is_fixed prefixes p.name ≡ is_fixed fixed_prefixes p.name = ap (λ (o : Option Prefix). unwrap_or (option_map (λ (q : Prefix). q.fixed) o) false) free in
      let stands = stands_by p.name p.iri prefixes free h.fixed in
      let named = ap (λ (b : Bool). naming (declaring prefixes old) (if b then Err (Defect reason.PrefixTwice) else Ok (record { prefixes = prefixes; declaring = p.name }))) undeclared in
      let taken = λ (d s f : Bool). naming (declaring prefixes p.name)
      (if d then Err (Defect reason.PrefixTwice) else (if s then Ok (record { prefixes = record { name = p.name; iri = p.iri; fixed = f; declared = true } ∷ prefixes; declaring = p.name }) else Err (Defect reason.PrefixFixed))) in
      let is : taken (is_declared prefixes p.name) (may_stand_for (record { prefixes = prefixes; declaring = p.name }) p.iri) (is_fixed prefixes p.name) ≡ taken false true (is_fixed fixed_prefixes p.name) = λ i. taken (undeclared i) (stands i) (fixed i) in
      by prefixes_rule 1 refl (colon_word class.Prefix refl refl (steps.space refl
      (subst (Starts manchester wanted _ (declaring prefixes old)) (append_assoc p.name (codes ":") (codes " " ++ behind))
      (steps.acted_token x (p.name ++ codes ":") spelled (longest_before_stop x (p.name ++ codes ":") (codes " " ++ behind) spelled refl) (namespace_class p.name h.no_keyword) named
      (steps.space refl (steps.acted_token (token.Iri p.iri) (full_iri p.iri) (h.iri, refl) (longest_closed (token.Iri p.iri) (full_iri p.iri) (codes "\n" ++ cs) (h.iri, refl) refl) (class_is (token.Iri p.iri)) is (steps.space refl k)))))))

  pub says_prefixes : (ps prefixes : List Prefix) (old : List ℕ) (ss : List Symbol) (cs : List ℕ) → AreAscending ps → AllByRecursion IsDeclarable ps → AreFree ps prefixes
      → ((name : List ℕ) → Starts manchester wanted ss (declaring (declared ps prefixes) name) cs) → Starts manchester wanted (Rule (rule_number prefixes_rule) ∷ ss) (declaring prefixes old) (prefix_lines ps cs)
  says_prefixes [] prefixes old ss cs up h free k = by prefixes_rule 0 refl (k old)
  says_prefixes (p ∷ ps) prefixes old ss cs up h free k =
      says_prefix p prefixes old ss (prefix_lines ps cs) h.0 free.0 (says_prefixes ps (as_declared p ∷ prefixes) p.name ss cs up.1 h.1 (still_free p ps prefixes up.0 free.1) k)
