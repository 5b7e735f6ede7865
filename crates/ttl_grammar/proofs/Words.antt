-- Tests of words.
use Rattle.std.proofs.Common.{◌≡◌, ◌↔◌, IsTrue, ℕ, Bool, true, false, List, [], ◌∷◌, refl, sym, ap, ◌∙◌}
use Rattle.std.specs.Prelude.{codes, if◌then◌else◌}
use Rattle.std.specs.Str.{chars}
use Rattle.std.proofs.lemmas.Bool.{true≢false}
use Rattle.owl_characters.specs.Order.{text_eq}
use Rattle.owl_characters.specs.OrderLaws.{equal, unequal}
use Rattle.ttl_grammar.specs.Classes.{name_class, tag_class}
use Rattle.ttl_grammar.specs.declared.class.Class.TheVariants.{AtBase, AtPrefix, Language, Namespace, Prefixed}

-- whether a text is a word that is written out
pub word_told : (text word literal : List ℕ) (r : Bool) → IsTrue r ↔ (text ≡ chars literal) → chars literal ≡ word → (b : Bool) → r ≡ b → text_eq text word ≡ b
word_told text word literal r told e true h = equal text word (told.0 h ∙ e)
word_told text word literal r told e false h = unequal text word (λ same. true≢false (sym (told.1 (same ∙ sym e)) ∙ h))

pub name_told : (local literal : List ℕ) (r : Bool) → IsTrue r ↔ (local ≡ chars literal) → chars literal ≡ [] → (b : Bool) → r ≡ b → name_class local ≡ (if b then Namespace else Prefixed)
name_told local literal r told e true h = ap name_class (told.0 h ∙ e)
name_told [] literal r told e false h = absurd (true≢false (sym (told.1 (sym e)) ∙ h))
name_told (c ∷ cs) literal r told e false h = refl

pub tag_told : (tag : List ℕ) (a b : Bool) → text_eq tag (codes "prefix") ≡ a → text_eq tag (codes "base") ≡ b → tag_class tag ≡ (if a then AtPrefix else (if b then AtBase else Language))
tag_told tag a b h k = λ i. if h i then AtPrefix else (if k i then AtBase else Language)
