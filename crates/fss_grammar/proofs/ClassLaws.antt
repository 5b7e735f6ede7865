-- What a token of each class is, and the class of each.
use Rattle.std.proofs.Common.{◌≡◌, ℕ, Bool, true, false, cond, List, [], ◌∷◌, ◌++◌, map, Option, Some, None, find, slice_get, codes, chars, IsTrue, ◌↔◌, true≢false, refl, sym, ap, ◌∙◌, subst}
use Rattle.std.specs.Prelude.{if◌then◌else◌}
use Rattle.std.proofs.lemmas.Slice.Eq.{bytes_eq-Decides}
use Rattle.owl_characters.specs.Order.{text_eq}
use Rattle.owl_characters.specs.OrderLaws.{equal, unequal}
use Rattle.owl_tokens.specs.declared.token.Token.{Token}
use Rattle.owl_tokens.specs.declared.token.Token.TheVariants as token
use Rattle.owl_tokens.specs.declared.token.Sign.{Sign}
use Rattle.owl_tokens.specs.declared.token.Sign.TheVariants as sign
use Rattle.owl_tree.specs.declared.tag.Tag.{Tag}
use Rattle.owl_tree.specs.declared.tag.Tag.TheVariants as tag
use Rattle.owl_tree.specs.Tags.{all_tags, keyword_of, number_of}
use Rattle.fss_grammar.specs.Classes.{Class, class_in, class_number, class_of, head_class, name_class, named_class, sign_class, tag_named}
use Rattle.fss_grammar.specs.Classes.Class.{alone, carets, closing, digits, equals, imports, iri, keyword, label, language, name, ontology, opening, other, other_word, prefix, text}

-- ---- no two classes have one number

abbrev all_classes : List Class
all_classes =
    other_word ∷ (map keyword all_tags ++ (prefix ∷ ontology ∷ imports ∷ iri ∷ name ∷ alone ∷ label ∷ text ∷ language ∷ digits ∷ opening ∷ closing ∷ equals ∷ carets ∷ other ∷ []))

class_at : (c : Class) → slice_get all_classes (class_number c) ≡ Some c
unfolding all_tags number_of
class_at (keyword tag.Class) = refl
class_at (keyword _) = refl
class_at _ = refl

pub same_class : (c d : Class) → class_number c ≡ class_number d → c ≡ d
same_class c d e = let same = sym (class_at c) ∙ ap (λ n. slice_get all_classes n) e ∙ class_at d in cc

-- ---- a token of a class

abbrev pub IsOf : Class → Token → Type 0
IsOf other_word x = Unit {0}
IsOf (keyword t) x = x ≡ token.Word (keyword_of t)
IsOf prefix x = x ≡ token.Word (codes "Prefix")
IsOf ontology x = x ≡ token.Word (codes "Ontology")
IsOf imports x = x ≡ token.Word (codes "Import")
IsOf iri x = (i : List ℕ) × (x ≡ token.Iri i)
IsOf name x = (p : List ℕ) × (local : List ℕ) × (x ≡ token.Name p local)
IsOf alone x = (p : List ℕ) × (x ≡ token.Name p [])
IsOf label x = (l : List ℕ) × (x ≡ token.Blank l)
IsOf text x = (s : List ℕ) × (x ≡ token.Str s)
IsOf language x = (l : List ℕ) × (x ≡ token.At l)
IsOf digits x = (ds : List ℕ) × (x ≡ token.Int ds)
IsOf opening x = x ≡ token.Sign sign.Open
IsOf closing x = x ≡ token.Sign sign.Close
IsOf equals x = x ≡ token.Sign sign.Equals
IsOf carets x = x ≡ token.Sign sign.Carets
IsOf other x = Unit {0}

same_text : (v w : List ℕ) → text_eq v w ≡ true → token.Word w ≡ token.Word v
same_text v w e = ap token.Word (sym ((bytes_eq-Decides v w).0 e))

found_keyword : (tags : List Tag) (w : List ℕ) (t : Tag) → find (λ u. text_eq (keyword_of u) w) tags ≡ Some t → text_eq (keyword_of t) w ≡ true
found_keyword [] w t e = absurd (cc)
found_keyword (u ∷ tags) w t e = first_or_later (found_keyword tags w t) (text_eq (keyword_of u) w) refl e
  where
    first_or_later : (find (λ v. text_eq (keyword_of v) w) tags ≡ Some t → text_eq (keyword_of t) w ≡ true) → (b : Bool) → text_eq (keyword_of u) w ≡ b → cond b (Some u) (find (λ v. text_eq (keyword_of v) w) tags) ≡ Some t → text_eq (keyword_of t) w ≡ true
    first_or_later go true h f = let same : u ≡ t = cc in subst (λ v. text_eq (keyword_of v) w ≡ true) same h
    first_or_later go false h f = go f

head_is : (w : List ℕ) → IsOf (head_class w) (token.Word w)
head_is w = by (text_eq (codes "Prefix") w) (text_eq (codes "Ontology") w) (text_eq (codes "Import") w) refl refl refl
  where
    by : (a b c : Bool) → text_eq (codes "Prefix") w ≡ a → text_eq (codes "Ontology") w ≡ b → text_eq (codes "Import") w ≡ c → IsOf (if a then prefix else (if b then ontology else (if c then imports else other_word))) (token.Word w)
    by true b c h k l = same_text (codes "Prefix") w h
    by false true c h k l = same_text (codes "Ontology") w k
    by false false true h k l = same_text (codes "Import") w l
    by false false false h k l = tt

word_is : (found : Option Tag) (w : List ℕ) → tag_named w ≡ found → IsOf (named_class found w) (token.Word w)
unfolding tag_named
word_is (Some t) w e = same_text (keyword_of t) w (found_keyword all_tags w t e)
word_is None w e = head_is w

name_is : (p local : List ℕ) → IsOf (name_class local) (token.Name p local)
name_is p [] = (p, refl)
name_is p (c ∷ cs) = (p, c ∷ cs, refl)

sign_is : (mark : Sign) → IsOf (sign_class mark) (token.Sign mark)
sign_is sign.Open = refl
sign_is sign.Close = refl
sign_is sign.Equals = refl
sign_is sign.Carets = refl
sign_is _ = tt

is_of_own : (x : Token) → IsOf (class_in x) x
is_of_own (token.Iri i) = (i, refl)
is_of_own (token.Name p local) = name_is p local
is_of_own (token.Blank l) = (l, refl)
is_of_own (token.Str s) = (s, refl)
is_of_own (token.At l) = (l, refl)
is_of_own (token.Word w) = word_is (tag_named w) w refl
is_of_own (token.Int ds) = (ds, refl)
is_of_own (token.Dec number) = tt
is_of_own (token.Sign mark) = sign_is mark

-- a token by the number of its class
pub is_of : (c : Class) (x : Token) → class_of x ≡ class_number c → IsOf c x
unfolding class_of
is_of c x e = subst (λ d. IsOf d x) (same_class (class_in x) c e) (is_of_own x)

-- ---- the class of a token

pub keyword_class : (t : Tag) → class_of (token.Word (keyword_of t)) ≡ class_number (keyword t)
unfolding class_of tag_named all_tags keyword_of number_of
keyword_class tag.Class = refl
keyword_class _ = refl

pub head_classes : (class_of (token.Word (codes "Prefix")) ≡ 78) × (class_of (token.Word (codes "Ontology")) ≡ 79) × (class_of (token.Word (codes "Import")) ≡ 80)
unfolding class_of tag_named all_tags keyword_of number_of
head_classes = (refl, refl, refl)

pub class_is : (x : Token) → class_of x ≡ class_number (class_in x)
unfolding class_of
class_is x = refl

-- ---- what the code asks

-- a test of two texts, where one of them is this literal
pub text_told : (v w literal : List ℕ) (r : Bool) → IsTrue r ↔ (w ≡ chars literal) → chars literal ≡ v → (b : Bool) → r ≡ b → text_eq v w ≡ b
text_told v w literal r told e true h = equal v w (sym (told.0 h ∙ e))
text_told v w literal r told e false h = unequal v w (λ same. true≢false (sym (told.1 (sym (e ∙ same))) ∙ h))

pub head_told : (w : List ℕ) (a b c : Bool) → text_eq (codes "Prefix") w ≡ a → text_eq (codes "Ontology") w ≡ b → text_eq (codes "Import") w ≡ c → head_class w ≡ (if a then prefix else (if b then ontology else (if c then imports else other_word)))
head_told w a b c h k l = λ i. if h i then prefix else (if k i then ontology else (if l i then imports else other_word))

pub name_told : (local literal : List ℕ) (r : Bool) → IsTrue r ↔ (local ≡ chars literal) → chars literal ≡ [] → (b : Bool) → r ≡ b → name_class local ≡ (if b then alone else name)
name_told local literal r told e true h = ap name_class (told.0 h ∙ e)
name_told [] literal r told e false h = absurd (true≢false (sym (told.1 (sym e)) ∙ h))
name_told (c ∷ cs) literal r told e false h = refl

named_own : (t : Tag) → tag_named (keyword_of t) ≡ Some t
unfolding tag_named all_tags keyword_of
named_own tag.Class = refl
named_own _ = refl

pub named_some : (w word : List ℕ) (t : Tag) → keyword_of t ≡ chars word → chars word ≡ w → tag_named w ≡ Some t
named_some w word t e h = ap tag_named (sym (e ∙ h)) ∙ named_own t

pub named_none : (w word : List ℕ) → ((t : Tag) → keyword_of t ≡ chars word → ⊥) → chars word ≡ w → tag_named w ≡ None
unfolding tag_named
named_none w word none e = by (tag_named w) refl
  where
    by : (found : Option Tag) → tag_named w ≡ found → tag_named w ≡ None
    by None h = h
    by (Some t) h = absurd (none t ((bytes_eq-Decides (keyword_of t) w).0 (found_keyword all_tags w t h) ∙ sym e))
