-- A node of which a graph has exactly its own triples has their role, and its words choose their objects.
use Rattle.std.proofs.Common.{◌≡◌, ◌≤◌, ℕ, Bool, true, false, List, [], ◌∷◌, length, inl, inr, refl, sym, ap, ◌∙◌, subst, arith}
use Rattle.std.specs.Prelude.{◌↔◌, Contains, map}
use Rattle.std.specs.List.{filter, list_all, list_any}
use Rattle.std.proofs.lemmas.Bool.{cond_both, or_left, or_right}
use Rattle.owl_list.specs.Ascending.{AreApart, HoldSame}
use Rattle.owl_list.proofs.AscendingLaws.{in_cases, in_head, in_none, in_tail}
use Rattle.rdf_graph.specs.declared.term.Term.{Term}
use Rattle.rdf_graph.specs.declared.term.Term.TheVariants.{Blank}
use Rattle.rdf_graph.specs.declared.triple.Triple.{Triple}
use Rattle.rdf_meaning.specs.declared.role.Role.{Role}
use Rattle.rdf_meaning.specs.declared.role.Role.TheVariants as role
use Rattle.rdf_meaning.specs.declared.word.Word.{Word}
use Rattle.rdf_meaning.specs.declared.word.Word.TheVariants as word
use Rattle.rdf_meaning.specs.Denotation.{facets_of}
use Rattle.owl_list.proofs.FilterLaws.{from_filter, in_filter}
use Rattle.rdf_meaning.proofs.ListLaws.{passes, some_passes}
use Rattle.rdf_meaning.proofs.NodeLaws.{from_subject, in_subject}
use Rattle.rdf_meaning.specs.Nodes.{carries, chosen, first_role, is_facet, is_same, marked_roles, marks_role, of_subject, role_of, roles_of, words_of}
use Rattle.rdf_meaning.specs.Words.{word_number}
use Rattle.rdf_mapping.specs.Frames.{IsOfNode, IsOwn, by_facet, by_word, is_node_word}

-- Lists that have the same elements.

module _ {X : Type 0} where
  pub same_few : (xs ys : List X) → HoldSame xs ys → AreApart xs → length ys ≤ 1 → xs ≡ ys
  same_few [] [] h a f = refl
  same_few [] (y ∷ ys) h a f = absurd (in_none y ((h y).1 (in_head y ys)))
  same_few (x ∷ xs) [] h a f = absurd (in_none x ((h x).0 (in_head x xs)))
  same_few (x ∷ []) (y ∷ []) h a f =
      elim (in_cases y [] x ((h x).0 (in_head x []))) [ inl e ↦ ap (λ z. z ∷ []) (sym e) | inr o ↦ absurd (in_none x o) ]
  same_few (x ∷ z ∷ xs) (y ∷ []) h a f =
      elim (in_cases y [] x ((h x).0 (in_head x (z ∷ xs)))) [
        | inl e ↦
            elim (in_cases y [] z ((h z).0 (in_tail x (z ∷ xs) z (in_head z xs)))) [
              | inl d ↦ absurd (a.0 (subst (λ w. Contains (z ∷ xs) w) (sym d ∙ e) (in_head z xs)))
              | inr o ↦ absurd (in_none z o)
            ]
        | inr o ↦ absurd (in_none x o)
      ]
  same_few (x ∷ []) (y ∷ z ∷ ys) h a f = absurd (omega (arith, f))
  same_few (x ∷ w ∷ xs) (y ∷ z ∷ ys) h a f = absurd (omega (arith, f))

  pub apart_filter : (test : X → Bool) (xs : List X) → AreApart xs → AreApart (filter test xs)
  apart_filter test [] a = tt
  apart_filter test (x ∷ xs) a =
      cond_both (test x) (x ∷ filter test xs) (filter test xs) (λ ys. AreApart ys)
      (λ _. (λ m. a.0 (from_filter test xs x m).inside, apart_filter test xs a.1)) (λ _. apart_filter test xs a.1)

  pub filter_same : (test : X → Bool) (xs ys : List X) → ((x : X) → test x ≡ true → Contains xs x ↔ Contains ys x) → HoldSame (filter test xs) (filter test ys)
  filter_same test xs ys h =
      λ x. (
        λ m. let k = from_filter test xs x m in in_filter test ys x ((h x k.passes).0 k.inside) k.passes,
        λ m. let k = from_filter test ys x m in in_filter test xs x ((h x k.passes).1 k.inside) k.passes,
      )

  pub any_from : (test : X → Bool) (xs : List X) (x : X) → Contains xs x → test x ≡ true → list_any test xs ≡ true
  any_from test [] x m h = absurd (in_none x m)
  any_from test (y ∷ xs) x m h =
      elim (in_cases y xs x m) [
        | inl e ↦ or_left (test y) (list_any test xs) (subst (λ z. test z ≡ true) (sym e) h)
        | inr k ↦ or_right (test y) (list_any test xs) (any_from test xs x k h)
      ]

same_bools : (b c : Bool) → (b ≡ true → c ≡ true) → (c ≡ true → b ≡ true) → b ≡ c
same_bools true c f g = sym (f refl)
same_bools false true f g = g refl
same_bools false false f g = refl

pub any_same : {X : Type 0} (test : X → Bool) (xs ys : List X) → ((x : X) → test x ≡ true → Contains xs x ↔ Contains ys x) → list_any test xs ≡ list_any test ys
any_same test xs ys h =
    same_bools (list_any test xs) (list_any test ys)
    (λ a. let p = some_passes test xs a in any_from test ys p.element ((h p.element p.passes).0 p.inside) p.passes)
    (λ a. let p = some_passes test ys a in any_from test xs p.element ((h p.element p.passes).1 p.inside) p.passes)

-- A mark of a role is a triple of a node.

some_word : (words : List Word) (t : Triple) → list_all is_node_word words ≡ true → list_any (λ w. carries w t) words ≡ true → IsOfNode t
some_word words t all h =
    let p = some_passes (λ w. carries w t) words h in by_word p.element (passes is_node_word words p.element all p.inside) p.passes

pub marks_of_node : (r : Role) (t : Triple) → marks_role r t ≡ true → IsOfNode t
unfolding marks_role is_node_word word_number words_of
marks_of_node role.List t h = some_word (word.First ∷ word.Rest ∷ []) t refl h
marks_of_node role.Property t h = by_word word.InverseOf refl h
marks_of_node role.Class t h = some_word (word.Class ∷ word.Restriction ∷ []) t refl h
marks_of_node role.Range t h = by_word word.Datatype refl h
marks_of_node role.Facet t h = by_facet h
marks_of_node role.Main t h =
    some_word (word.AllDisjointClasses ∷ word.AllDisjointProperties ∷ word.AllDifferent ∷ word.NegativePropertyAssertion ∷ []) t refl h
marks_of_node role.Note t h = some_word (word.Axiom ∷ word.Annotation ∷ []) t refl h
marks_of_node role.Header t h = by_word word.Ontology refl h
marks_of_node role.Individual t h = cc

-- What the triples of a node are.

module _ (g : List Triple) (x : Term) (own : List Triple) (is : IsOwn IsOfNode g x own) where
  pub of_own : (t : Triple) → IsOfNode t → Contains (of_subject g x) t ↔ Contains own t
  of_own t c = (
    λ m. let k = from_subject g x t m in is.back t k.1 c k.0,
    λ m. in_subject g x t (is.there t m) (is.subject t m),
  )

  -- with one triple of a word at most, the word chooses its object
  pub chosen_own : AreApart g → (w : Word) → is_node_word w ≡ true → length (filter (carries w) own) ≤ 1 → chosen g x w ≡ map (λ t. t.object) (filter (carries w) own)
  unfolding chosen
  chosen_own a w n few =
      ap (map (λ (t : Triple). t.object))
      (same_few (filter (carries w) (of_subject g x)) (filter (carries w) own)
      (filter_same (carries w) (of_subject g x) own (λ t c. of_own t (by_word w n c)))
      (apart_filter (carries w) (of_subject g x) (apart_filter (λ t. is_same t.subject x) g a)) few)

  pub facets_own : AreApart g → length (filter (λ t. is_facet t.predicate) own) ≤ 1 → facets_of g x ≡ filter (λ t. is_facet t.predicate) own
  facets_own a few =
      same_few (facets_of g x) (filter (λ t. is_facet t.predicate) own)
      (filter_same (λ t. is_facet t.predicate) (of_subject g x) own (λ t c. of_own t (by_facet c)))
      (apart_filter (λ t. is_facet t.predicate) (of_subject g x) (apart_filter (λ t. is_same t.subject x) g a)) few

  marked_own : (r : Role) → list_any (marks_role r) (of_subject g x) ≡ list_any (marks_role r) own
  marked_own r = any_same (marks_role r) (of_subject g x) own (λ t m. of_own t (marks_of_node r t m))

  -- its roles are those of which its own triples are marks
  pub roles_own : roles_of g x ≡ filter (λ r. list_any (marks_role r) own) marked_roles
  unfolding roles_of
  roles_own = ap (λ (f : Role → Bool). filter f marked_roles) (λ i. λ r. marked_own r i)

pub role_own : (g : List Triple) (label : List ℕ) (own : List Triple) → IsOwn IsOfNode g (Blank label) own → role_of g (Blank label) ≡ first_role (filter (λ r. list_any (marks_role r) own) marked_roles)
role_own g label own is = ap first_role (roles_own g (Blank label) own is)
