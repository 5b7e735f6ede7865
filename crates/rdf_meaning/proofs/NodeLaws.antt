-- The triples of a node, the objects that its words choose, and its roles.
use lib.Utf8.{encode}
use Rattle.std.specs.Prelude.{◌≡◌, ◌↔◌, ℕ, true, false, ◌&&◌, ◌||◌, List, [], ◌∷◌, Contains, map}
use Rattle.std.specs.List.{filter, list_any}
use Rattle.std.specs.Str.{bytes_eq}
use Rattle.std.specs.declared.cmp.Ordering.{Ordering}
use Rattle.std.specs.declared.cmp.Ordering.TheVariants.{Less, Equal, Greater}
use Rattle.std.specs.Ordering.{is_eq}
use Rattle.std.proofs.Common.{inl, inr, refl, sym, ap, ◌∙◌, subst}
use Rattle.std.proofs.lemmas.Bool.{and_from, and_parts, both_ways, cases_Bool, cond-false, cond-true, or_left}
use Rattle.std.proofs.lemmas.Slice.Eq.{bytes_eq-Decides}
use Rattle.std.proofs.lemmas.Cmp.{tied_itself}
use Rattle.owl_list.proofs.AscendingLaws.{ascending_holds, from_map, in_head, in_map}
use Rattle.rdf_graph.specs.declared.term.Term.{Term}
use Rattle.rdf_graph.specs.declared.term.Term.TheVariants.{Iri, Blank, Literal}
use Rattle.rdf_graph.specs.declared.triple.Triple.{Triple}
use Rattle.rdf_graph.specs.Terms.{term_cmp}
use Rattle.rdf_graph.proofs.TermLaws.{only_equal_terms_tie, terms_total}
use Rattle.owl_list.proofs.FilterLaws.{from_filter, in_filter}
use Rattle.rdf_meaning.proofs.ListLaws.{some_passes}
use Rattle.rdf_meaning.specs.declared.role.Role.{Role}
use Rattle.rdf_meaning.specs.declared.role.Role.TheVariants as role
use Rattle.rdf_meaning.specs.declared.word.Word.{Word}
use Rattle.rdf_meaning.specs.declared.word.Word.TheVariants as word
use Rattle.rdf_meaning.specs.Nodes.{IsChosenBy, carries, chosen, first_role, is_blank, is_role, is_same, marked_roles, marks_role, nodes_of, of_subject, role_of, roles_of, subjects_of, type_iri}
use Rattle.rdf_meaning.proofs.RowLaws.{own_role, same_role}
use Rattle.rdf_meaning.proofs.WordLaws.{same_iri}
use Rattle.rdf_meaning.specs.Words.{is_type, word_iri}

tie : (o : Ordering) → is_eq o ≡ true → o ≡ Equal
tie Equal h = refl
tie Less h = cc
tie Greater h = cc

-- terms are the same where the test says so
pub same_term : (a b : Term) → is_same a b ≡ true → a ≡ b
same_term a b h = only_equal_terms_tie a b (tie (term_cmp a b) h)

pub own_term : (a : Term) → is_same a a ≡ true
own_term a = ap is_eq (tied_itself terms_total a)

-- the triples of a node
pub in_subject : (g : List Triple) (x : Term) (t : Triple) → Contains g t → t.subject ≡ x → Contains (of_subject g x) t
in_subject g x t m e = in_filter (λ u. is_same u.subject x) g t m (ap (λ (y : Term). is_same y x) e ∙ own_term x)

pub from_subject : (g : List Triple) (x : Term) (t : Triple) → Contains (of_subject g x) t → Contains g t × (t.subject ≡ x)
from_subject g x t m = let k = from_filter (λ u. is_same u.subject x) g t m in (k.inside, same_term t.subject x k.passes)

-- a triple of the node that has the word gives an object
pub in_chosen : (g : List Triple) (x : Term) (w : Word) (t : Triple) → Contains g t → t.subject ≡ x → carries w t ≡ true → Contains (chosen g x w) t.object
unfolding chosen
in_chosen g x w t m e h = in_map (λ u. u.object) (filter (carries w) (of_subject g x)) t (in_filter (carries w) (of_subject g x) t (in_subject g x t m e) h)

-- and each object comes from such a triple
pub from_chosen : (g : List Triple) (x : Term) (w : Word) (y : Term) → Contains (chosen g x w) y → IsChosenBy g x w y
unfolding chosen
from_chosen g x w y m =
    let v = from_map (λ u. u.object) (filter (carries w) (of_subject g x)) y m in
    let k = from_filter (carries w) (of_subject g x) v.element v.inside in
    let t = from_subject g x v.element k.inside in
    record { triple = v.element; inside = t.0; subject = t.1; object = v.value; carries = k.passes }

pub chosen_is : (g : List Triple) (x : Term) (w : Word) (y : Term) → Contains (chosen g x w) y ↔ IsChosenBy g x w y
chosen_is g x w y = (
  from_chosen g x w y,
  λ c. subst (λ z. Contains (chosen g x w) z) c.object (in_chosen g x w c.triple c.inside c.subject c.carries),
)

-- a triple carries one word at most

record IsTyped (w : Word) (t : Triple) : Type 0 where
  pub predicate : t.predicate ≡ type_iri
  pub object : t.object ≡ Iri (word_iri w)

typed : (w : Word) (t : Triple) → is_type w ≡ true → carries w t ≡ true → IsTyped w t
unfolding carries
typed w t type h =
    let says = and_parts (bytes_eq t.predicate type_iri) (is_same t.object (Iri (word_iri w))) (sym (cond-true (is_type w) _ _ type) ∙ h) in
    record { predicate = (bytes_eq-Decides t.predicate type_iri).0 says.0; object = same_term t.object (Iri (word_iri w)) says.1 }

linked : (w : Word) (t : Triple) → is_type w ≡ false → carries w t ≡ true → t.predicate ≡ word_iri w
unfolding carries
linked w t link h =
    let says = and_parts (bytes_eq t.predicate (word_iri w)) _ (sym (cond-false (is_type w) _ _ link) ∙ h) in
    (bytes_eq-Decides t.predicate (word_iri w)).0 says.0

other_predicate : (w : Word) → is_type w ≡ bytes_eq (word_iri w) type_iri || is_type w
unfolding is_type word_iri encode
other_predicate word.Class = refl
other_predicate _ = refl

no_type : (w : Word) → is_type w ≡ false → word_iri w ≡ type_iri → ⊥
no_type w link e =
    both_ways (is_type w) link
    (other_predicate w ∙ or_left (bytes_eq (word_iri w) type_iri) (is_type w) ((bytes_eq-Decides (word_iri w) type_iri).1 e))

pub same_iri_term : (a b : List ℕ) → Iri a ≡ Iri b → a ≡ b
same_iri_term a b e = cc

pub one_word : (v w : Word) (t : Triple) → carries v t ≡ true → carries w t ≡ true → v ≡ w
one_word v w t h k =
    elim (cases_Bool (is_type v)) [
      | inl a ↦
          let left = typed v t a h in
          elim (cases_Bool (is_type w)) [
            | inl b ↦ same_iri v w (a ∙ sym b) (same_iri_term (word_iri v) (word_iri w) (sym left.object ∙ (typed w t b k).object))
            | inr b ↦ absurd (no_type w b (sym (linked w t b k) ∙ left.predicate))
          ]
      | inr a ↦
          elim (cases_Bool (is_type w)) [
            | inl b ↦ absurd (no_type v a (sym (linked v t a h) ∙ (typed w t b k).predicate))
            | inr b ↦ same_iri v w (a ∙ sym b) (sym (linked v t a h) ∙ linked w t b k)
          ]
    ]

-- the object of a type is its class
pub typed_object : (w : Word) (t : Triple) → is_type w ≡ true → carries w t ≡ true → t.object ≡ Iri (word_iri w)
typed_object w t type h = (typed w t type h).object

-- a node with a role is the subject of a triple

pub subjects_are : (g : List Triple) (x : Term) → Contains (subjects_of g) x ↔ Contains (map (λ t. t.subject) g) x
subjects_are g x = ascending_holds term_cmp terms_total only_equal_terms_tie (map (λ t. t.subject) g) x

pub marked_subject : (g : List Triple) (x : Term) (r : Role) → Contains (roles_of g x) r → Contains (subjects_of g) x
unfolding roles_of
marked_subject g x r m =
    let kept = from_filter (λ q. list_any (marks_role q) (of_subject g x)) marked_roles r m in
    let p = some_passes (marks_role r) (of_subject g x) kept.passes in
    let t = from_subject g x p.element p.inside in
    (subjects_are g x).1 (subst (λ y. Contains (map (λ u. u.subject) g) y) t.1 (in_map (λ u. u.subject) g p.element t.0))

first_is : (rs : List Role) (r : Role) → first_role rs ≡ r → (r ≡ role.Individual → ⊥) → Contains rs r
first_is [] r e n = absurd (n (sym e))
first_is (q ∷ rs) r e n = subst (λ z. Contains (q ∷ rs) z) e (in_head q rs)

-- the nodes of a role, but for individuals, are those that have it
record IsNodeOf (g : List Triple) (r : Role) (x : Term) : Type 0 where
  pub blank : is_blank x ≡ true
  pub among : Contains (subjects_of g) x

node_of : (g : List Triple) (r : Role) (x : Term) → role_of g x ≡ r → (r ≡ role.Individual → ⊥) → IsNodeOf g r x
node_of g r (Iri iri) e n = absurd (n (sym e))
node_of g r (Blank label) e n = record { blank = refl; among = marked_subject g (Blank label) r (first_is (roles_of g (Blank label)) r e n) }
node_of g r (Literal literal) e n = absurd (n (sym e))

to_node : (g : List Triple) (r : Role) (x : Term) → (r ≡ role.Individual → ⊥) → role_of g x ≡ r → Contains (nodes_of g r) x
unfolding nodes_of
to_node g r x n e =
    let is = node_of g r x e n in
    in_filter (λ y. is_blank y && is_role r (role_of g y)) (subjects_of g) x is.among
    (and_from (is_blank x) (is_role r (role_of g x)) is.blank (ap (is_role r) e ∙ own_role r))

from_node : (g : List Triple) (r : Role) (x : Term) → Contains (nodes_of g r) x → role_of g x ≡ r
unfolding nodes_of
from_node g r x m =
    let kept = from_filter (λ y. is_blank y && is_role r (role_of g y)) (subjects_of g) x m in
    sym (same_role r (role_of g x) (and_parts (is_blank x) (is_role r (role_of g x)) kept.passes).1)

pub nodes_are : (g : List Triple) (r : Role) (x : Term) → (r ≡ role.Individual → ⊥) → Contains (nodes_of g r) x ↔ (role_of g x ≡ r)
nodes_are g r x n = (from_node g r x, to_node g r x n)
