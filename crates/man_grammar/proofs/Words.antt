-- The words of keywords.
use Rattle.std.proofs.Common.{◌≡◌, ◌↔◌, ◌≤◌, IsTrue, ℕ, Bool, true, false, List, [], ◌∷◌, None, refl, sym, ap, ◌∙◌}
use Rattle.std.proofs.lemmas.Bool.{true≢false}
use Rattle.std.specs.List.{list_all}
use Rattle.std.specs.Str.{chars}
use Rattle.std.proofs.lemmas.Option.{slice_get_past}
use Rattle.owl_characters.proofs.AsciiLaws.{ascii_chars}
use Rattle.owl_characters.specs.Iri.{is_ascii}
use Rattle.man_grammar.specs.Acts.{act_numbered, all_acts}
use Rattle.man_grammar.specs.ClassNumbers.{colon_keywords, word_of}
use Rattle.man_grammar.specs.Classes.{keyword_or, name_class}
use Rattle.man_grammar.specs.declared.class.Class.{Class}
use Rattle.man_grammar.specs.declared.class.Class.TheVariants as class

is_ascii_word : (k : Class) → list_all is_ascii (word_of k) ≡ true
unfolding word_of
is_ascii_word class.Prefix = refl
is_ascii_word _ = refl

-- its characters are its bytes
pub own_characters : (k : Class) (text : List ℕ) → text ≡ word_of k → chars text ≡ word_of k
own_characters k text e = ap chars e ∙ ascii_chars (word_of k) (is_ascii_word k)

-- no act has a number behind the last
pub no_act : (n : ℕ) → 90 ≤ n → act_numbered n ≡ None
no_act n h = slice_get_past all_acts n h

-- ---- a name by its local part

pub named_alone : (prefix local literal : List ℕ) (r : Bool) → IsTrue r ↔ (local ≡ chars literal) → chars literal ≡ [] → r ≡ true → keyword_or class.Namespace colon_keywords prefix ≡ name_class prefix local
named_alone prefix local literal r told e h = ap (λ l. name_class prefix l) (sym (told.0 h ∙ e))

pub named_with : (prefix local literal : List ℕ) (r : Bool) → IsTrue r ↔ (local ≡ chars literal) → chars literal ≡ [] → r ≡ false → name_class prefix local ≡ class.Prefixed
named_with prefix [] literal r told e h = absurd (true≢false (sym (told.1 (sym e)) ∙ h))
named_with prefix (c ∷ cs) literal r told e h = refl
