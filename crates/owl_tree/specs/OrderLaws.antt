-- The laws of the order of trees.
use Rattle.std.specs.declared.cmp.Ordering.{Ordering}
use Rattle.std.specs.declared.cmp.Ordering.TheVariants.{Less, Equal, Greater}
use Rattle.std.specs.Cmp.{IsTotalOrder, unsigned_tied}
use Rattle.std.specs.Cmp.Lexicographic.{lists_total, options_total, slice_cmp}
use base.Stored.{coded_via}
use Rattle.std.specs.Coded.{Coded, coded_list, coded_option, coded_ℕ, coded×}
use Rattle.std.specs.FinMap.{IsAntisymmetric, nat_cmp-IsAntisymmetric, slice_cmp-IsAntisymmetric}
use Rattle.std.specs.Option.{option_cmp}
use Rattle.std.specs.Ordering.{eq_by_cmp, is_eq, nat_cmp, on, ordering_then, then_cmp}
use Rattle.std.proofs.Common.{◌≡◌, ◌↔◌, IsTrue, ◌==◌, ℕ, ◌-◌, List, [], ◌∷◌, Option, None, Some, refl, sym, ap, ◌∙◌, subst}
use Rattle.std.specs.List.{slice_get}
use Rattle.std.proofs.lemmas.Cmp.{nat_cmp_total, on_total, then_total, tied_itself}
use Rattle.std.proofs.lemmas.Str.{encodes_same}
use Rattle.owl_characters.specs.Order.{text_cmp}
use Rattle.owl_characters.specs.OrderLaws.{equal_ties, texts_total}
use Rattle.rdf_terms.specs.Literals.{LiteralParts, literal_cmp}
use Rattle.rdf_terms.specs.LiteralLaws as literals
use Rattle.rdf_terms.specs.LiteralLaws.{total_order}
use Rattle.owl_tree.specs.contracts.atom.Atom as atom
use Rattle.owl_tree.specs.contracts.atom.AtomPartialEq.TheImpl as derived
use Rattle.owl_tree.specs.declared.atom.Atom.{Atom}
use Rattle.owl_tree.specs.declared.atom.Atom.TheVariants.{Iri, Label, Literal, Number}
use Rattle.owl_tree.specs.declared.tag.Tag.{Tag}
use Rattle.owl_tree.specs.declared.tag.Tag.TheVariants as tag
use Rattle.owl_tree.specs.Order.{atom_cmp, kids_cmp, tag_cmp, tree_cmp}
use Rattle.owl_tree.specs.Tags.{all_tags, number_of}
use Rattle.owl_tree.specs.Trees.{Tree, Kids, leaf, node, no_kids, kid}

-- a tag stands at its number
pub stands : (t : Tag) → slice_get all_tags (number_of t - 1) ≡ Some t
unfolding all_tags number_of
stands tag.Class = refl
stands _ = refl

-- no two tags have one number
pub same_number : (t u : Tag) → number_of t ≡ number_of u → t ≡ u
same_number t u e = let same = sym (stands t) ∙ ap (λ n. slice_get all_tags (n - 1)) e ∙ stands u in cc

pub tags_total : IsTotalOrder tag_cmp
tags_total = on_total number_of nat_cmp_total

pub only_equal_tags_tie : (t u : Tag) → tag_cmp t u ≡ Equal → t ≡ u
only_equal_tags_tie t u e = same_number t u (nat_cmp-IsAntisymmetric _ _ e)

then_first : (o p : Ordering) → ordering_then o p ≡ Equal → o ≡ Equal
then_first Less p e = cc
then_first Equal p e = refl
then_first Greater p e = cc

pub then_second : (o p : Ordering) → ordering_then o p ≡ Equal → p ≡ Equal
then_second Less p e = cc
then_second Equal p e = e
then_second Greater p e = cc

pub then_nothing : (o : Ordering) → ordering_then o Equal ≡ o
then_nothing Less = refl
then_nothing Equal = refl
then_nothing Greater = refl

then_regroups : (o p q : Ordering) → ordering_then (ordering_then o p) q ≡ ordering_then o (ordering_then p q)
then_regroups Less p q = refl
then_regroups Equal p q = refl
then_regroups Greater p q = refl

-- texts with the same bytes are equal
pub only_equal_texts_tie : IsAntisymmetric text_cmp
only_equal_texts_tie a b e = encodes_same a b (slice_cmp-IsAntisymmetric nat_cmp-IsAntisymmetric _ _ e)

only_equal_options_tie : {X : Type 0} {R : X → X → Ordering} → IsAntisymmetric R → IsAntisymmetric (option_cmp R)
only_equal_options_tie same None None e = refl
only_equal_options_tie same None (Some y) e = cc
only_equal_options_tie same (Some x) None e = cc
only_equal_options_tie same (Some x) (Some y) e = ap Some (same x y e)

only_equal_literals_tie : IsAntisymmetric literal_cmp
only_equal_literals_tie a b e =
    let lexical = only_equal_texts_tie a.lexical b.lexical (then_first _ _ e) in
    let rest = then_second (text_cmp a.lexical b.lexical) _ e in
    let datatype = only_equal_texts_tie a.datatype b.datatype (then_first _ _ rest) in
    let tag = only_equal_options_tie only_equal_texts_tie a.tag b.tag (then_second (text_cmp a.datatype b.datatype) _ rest) in
    λ i. record { lexical = lexical i; datatype = datatype i; tag = tag i }

-- atoms by their kind and then by what they hold
abbrev kind_of : Atom → ℕ
kind_of (Iri iri) = 0
kind_of (Label label) = 1
kind_of (Literal literal) = 2
kind_of (Number number) = 3

text_in : Atom → List ℕ
text_in (Iri iri) = iri
text_in (Label label) = label
text_in (Literal literal) = []
text_in (Number number) = []

literal_in : Atom → Option LiteralParts
literal_in (Iri iri) = None
literal_in (Label label) = None
literal_in (Literal literal) = Some literal
literal_in (Number number) = None

number_in : Atom → ℕ
number_in (Iri iri) = 0
number_in (Label label) = 0
number_in (Literal literal) = 0
number_in (Number number) = number

by_parts : Atom → Atom → Ordering
by_parts = then_cmp (on kind_of nat_cmp) (then_cmp (on text_in text_cmp) (then_cmp (on literal_in (option_cmp literal_cmp)) (on number_in nat_cmp)))

by_parts_total : IsTotalOrder by_parts
unfolding by_parts
by_parts_total = then_total (on_total kind_of nat_cmp_total) (then_total (on_total text_in texts_total) (then_total (on_total literal_in (options_total total_order)) (on_total number_in nat_cmp_total)))

same_by_parts : (a b : Atom) → by_parts a b ≡ atom_cmp a b
unfolding by_parts text_in literal_in number_in
same_by_parts (Iri a) (Iri b) = then_nothing (text_cmp a b)
same_by_parts (Iri a) (Label b) = refl
same_by_parts (Iri a) (Literal b) = refl
same_by_parts (Iri a) (Number b) = refl
same_by_parts (Label a) (Iri b) = refl
same_by_parts (Label a) (Label b) = then_nothing (text_cmp a b)
same_by_parts (Label a) (Literal b) = refl
same_by_parts (Label a) (Number b) = refl
same_by_parts (Literal a) (Iri b) = refl
same_by_parts (Literal a) (Label b) = refl
same_by_parts (Literal a) (Literal b) = then_nothing (literal_cmp a b)
same_by_parts (Literal a) (Number b) = refl
same_by_parts (Number a) (Iri b) = refl
same_by_parts (Number a) (Label b) = refl
same_by_parts (Number a) (Literal b) = refl
same_by_parts (Number a) (Number b) = refl

pub atoms_total : IsTotalOrder atom_cmp
atoms_total = subst IsTotalOrder (λ i a b. same_by_parts a b i) by_parts_total

pub only_equal_atoms_tie : (a b : Atom) → atom_cmp a b ≡ Equal → a ≡ b
only_equal_atoms_tie (Iri a) (Iri b) e = ap Iri (only_equal_texts_tie a b e)
only_equal_atoms_tie (Iri a) (Label b) e = cc
only_equal_atoms_tie (Iri a) (Literal b) e = cc
only_equal_atoms_tie (Iri a) (Number b) e = cc
only_equal_atoms_tie (Label a) (Iri b) e = cc
only_equal_atoms_tie (Label a) (Label b) e = ap Label (only_equal_texts_tie a b e)
only_equal_atoms_tie (Label a) (Literal b) e = cc
only_equal_atoms_tie (Label a) (Number b) e = cc
only_equal_atoms_tie (Literal a) (Iri b) e = cc
only_equal_atoms_tie (Literal a) (Label b) e = cc
only_equal_atoms_tie (Literal a) (Literal b) e = ap Literal (only_equal_literals_tie a b e)
only_equal_atoms_tie (Literal a) (Number b) e = cc
only_equal_atoms_tie (Number a) (Iri b) e = cc
only_equal_atoms_tie (Number a) (Label b) e = cc
only_equal_atoms_tie (Number a) (Literal b) e = cc
only_equal_atoms_tie (Number a) (Number b) e = ap Number (nat_cmp-IsAntisymmetric a b e)

-- the derived test of equality
pub only_equals_tie : (a b : Atom) → derived.ghosts.eq a b ≡ eq_by_cmp atom_cmp a b
only_equals_tie (Iri a) (Iri b) = equal_ties a b
only_equals_tie (Iri a) (Label b) = refl
only_equals_tie (Iri a) (Literal b) = refl
only_equals_tie (Iri a) (Number b) = refl
only_equals_tie (Label a) (Iri b) = refl
only_equals_tie (Label a) (Label b) = equal_ties a b
only_equals_tie (Label a) (Literal b) = refl
only_equals_tie (Label a) (Number b) = refl
only_equals_tie (Literal a) (Iri b) = refl
only_equals_tie (Literal a) (Label b) = refl
only_equals_tie (Literal a) (Literal b) = literals.only_equals_tie a b
only_equals_tie (Literal a) (Number b) = refl
only_equals_tie (Number a) (Iri b) = refl
only_equals_tie (Number a) (Label b) = refl
only_equals_tie (Number a) (Literal b) = refl
only_equals_tie (Number a) (Number b) = sym (unsigned_tied a b)

is_equal : (o : Ordering) → IsTrue (is_eq o) → o ≡ Equal
is_equal Less h = cc
is_equal Equal h = refl
is_equal Greater h = cc

-- the tests of equality of the program
pub same_atom : (a b : Atom) → IsTrue (derived.ghosts.eq a b) ↔ (a ≡ b)
same_atom a b = (
  λ h. only_equal_atoms_tie a b (is_equal _ (sym (only_equals_tie a b) ∙ h)),
  λ e. only_equals_tie a b ∙ ap is_eq (subst (λ (c : Atom). atom_cmp a c ≡ Equal) e (tied_itself atoms_total a)),
)

pub same_tag : (t u : Tag) → IsTrue (on number_of ◌==◌ t u) ↔ (t ≡ u)
same_tag t u = (
  λ h. only_equal_tags_tie t u (is_equal _ (unsigned_tied (number_of t) (number_of u) ∙ h)),
  λ e. sym (unsigned_tied (number_of t) (number_of u)) ∙ ap is_eq (subst (λ (v : Tag). tag_cmp t v ≡ Equal) e (tied_itself tags_total t)),
)

-- Trees as words, with what follows as a second argument. A letter is the number of a tag, or marks what comes: none and no atom that kids end, none and an atom that a leaf has it, and 0 that kids begin.
abbrev Letter : Type 0
Letter = Option ℕ × Option Atom

abbrev mutual
  word : Tree → List Letter → List Letter
  word (leaf t a) more = (Some (number_of t), None) ∷ (None, Some a) ∷ more
  word (node t ks) more = (Some (number_of t), None) ∷ (Some 0, None) ∷ words ks more

  words : Kids → List Letter → List Letter
  words no_kids more = (None, None) ∷ more
  words (kid t ks) more = word t (words ks more)

abbrev letter_cmp : Letter → Letter → Ordering
letter_cmp = then_cmp (on (λ l. l.0) (option_cmp nat_cmp)) (on (λ l. l.1) (option_cmp atom_cmp))

letters_total : IsTotalOrder letter_cmp
letters_total = then_total (on_total (λ l. l.0) (options_total nat_cmp_total)) (on_total (λ l. l.1) (options_total atoms_total))

only_equal_letters_tie : IsAntisymmetric letter_cmp
only_equal_letters_tie l m e =
    let number = only_equal_options_tie nat_cmp-IsAntisymmetric l.0 m.0 (then_first _ _ e) in
    let atom = only_equal_options_tie only_equal_atoms_tie l.1 m.1 (then_second (option_cmp nat_cmp l.0 m.0) _ e) in
    λ i. (number i, atom i)

-- a list that ends comes before one that goes on
end_before : (t : Tree) (x y : List Letter) → slice_cmp letter_cmp ((None, None) ∷ x) (word t y) ≡ Less
end_before (leaf t a) x y = refl
end_before (node t ks) x y = refl

end_behind : (t : Tree) (x y : List Letter) → slice_cmp letter_cmp (word t x) ((None, None) ∷ y) ≡ Greater
end_behind (leaf t a) x y = refl
end_behind (node t ks) x y = refl

mutual
  cmp_word : (a b : Tree) (x y : List Letter) → slice_cmp letter_cmp (word a x) (word b y) ≡ ordering_then (tree_cmp a b) (slice_cmp letter_cmp x y)
  cmp_word (leaf t a) (leaf u b) x y = simp (then_nothing, then_regroups)
  cmp_word (leaf t a) (node u ls) x y = simp (then_nothing, then_regroups)
  cmp_word (node t ks) (leaf u b) x y = simp (then_nothing, then_regroups)
  cmp_word (node t ks) (node u ls) x y = simp (then_nothing, then_regroups, cmp_words ks ls x y)

  cmp_words : (ks ls : Kids) (x y : List Letter) → slice_cmp letter_cmp (words ks x) (words ls y) ≡ ordering_then (kids_cmp ks ls) (slice_cmp letter_cmp x y)
  cmp_words no_kids no_kids x y = refl
  cmp_words no_kids (kid u ls) x y = end_before u x (words ls y)
  cmp_words (kid t ks) no_kids x y = end_behind t (words ks x) y
  cmp_words (kid t ks) (kid u ls) x y = simp (cmp_word t u (words ks x) (words ls y), cmp_words ks ls x y, then_regroups)

same_by_words : (a b : Tree) → slice_cmp letter_cmp (word a []) (word b []) ≡ tree_cmp a b
same_by_words a b = cmp_word a b [] [] ∙ then_nothing (tree_cmp a b)

pub trees_total : IsTotalOrder tree_cmp
trees_total = subst IsTotalOrder (λ i a b. same_by_words a b i) (on_total (λ t. word t []) (lists_total letters_total))

mutual
  pub only_equal_trees_tie : (a b : Tree) → tree_cmp a b ≡ Equal → a ≡ b
  only_equal_trees_tie (leaf t a) (leaf u b) e =
      let tags = only_equal_tags_tie t u (then_first _ _ e) in
      let atoms = only_equal_atoms_tie a b (then_second (tag_cmp t u) _ e) in
      λ i. leaf (tags i) (atoms i)
  only_equal_trees_tie (leaf t a) (node u ls) e = let apart = then_second (tag_cmp t u) Less e in cc
  only_equal_trees_tie (node t ks) (leaf u b) e = let apart = then_second (tag_cmp t u) Greater e in cc
  only_equal_trees_tie (node t ks) (node u ls) e =
      let tags = only_equal_tags_tie t u (then_first _ _ e) in
      let kids = only_equal_kids_tie ks ls (then_second (tag_cmp t u) _ e) in
      λ i. node (tags i) (kids i)

  only_equal_kids_tie : (ks ls : Kids) → kids_cmp ks ls ≡ Equal → ks ≡ ls
  only_equal_kids_tie no_kids no_kids e = refl
  only_equal_kids_tie no_kids (kid u ls) e = cc
  only_equal_kids_tie (kid t ks) no_kids e = cc
  only_equal_kids_tie (kid t ks) (kid u ls) e =
      let first = only_equal_trees_tie t u (then_first _ _ e) in
      let rest = only_equal_kids_tie ks ls (then_second (tree_cmp t u) _ e) in
      λ i. kid (first i) (rest i)

pub same_word : (a b : Tree) → word a [] ≡ word b [] → a ≡ b
same_word a b e = only_equal_trees_tie a b (sym (same_by_words a b) ∙ ap (λ w. slice_cmp letter_cmp w (word b [])) e ∙ tied_itself (lists_total letters_total) (word b []))

-- a tree is stored as its word
abbrev pub coded_tree : Coded Tree
coded_tree = coded_via (coded_list (coded× (coded_option coded_ℕ) (coded_option atom.the_row.coded))) (λ t. word t []) same_word
