-- What is left of a graph without its redundant triples.
use Rattle.std.specs.Prelude.{◌≡◌, ◌↔◌, ◌≤◌, ◌<◌, ℕ, Bool, true, false, not, IsTrue, Option, None, List, [], ◌∷◌, Contains, length, take}
use Rattle.std.specs.List.{cons_option, filter, filter_map, list_all, list_any}
use Rattle.std.specs.Str.{bytes_eq}
use Rattle.std.proofs.Common.{inl, inr, refl, ap, ◌∙◌, subst, sym, arith}
use Rattle.std.proofs.lemmas.Bool.{and_from, and_parts, both_ways, cases_Bool, cond-false, cond-true, false_from_ne_true, not-true, not-false}
use Rattle.std.proofs.lemmas.List.{take_all}
use Rattle.std.proofs.lemmas.List.Filters.{length-filter_both}
use Rattle.std.proofs.lemmas.List.Kept.{IsStrictlySortedBy-filter}
use Rattle.owl_list.proofs.AscendingLaws.{all_from, all_in, in_head, in_tail}
use Rattle.owl_list.proofs.FilterLaws.{from_filter}
use Rattle.rdf_graph.proofs.GraphLaws.{set_again}
use Rattle.rdf_meaning.proofs.ListLaws.{passes}
use Rattle.rdf_meaning.specs.Nodes.{carries_some, of_subject, type_iri}
use Rattle.rdf_graph.specs.declared.triple.Triple.{Triple}
use Rattle.rdf_graph.specs.Graphs.{IsGraph, most_triples, set_of}
use Rattle.rdf_graph.specs.Terms.{IsSubject, triple_cmp}
use Rattle.rdf_thin.specs.Thinned.{is_redundant, thinned, words_beside_type}

module _ {X : Type 0} (test : X → Bool) where
  no_longer : (xs : List X) → length (filter test xs) ≤ length xs
  no_longer xs = let both = length-filter_both test (λ x. not (test x)) (λ x. refl) xs in omega (arith, both)

  -- where all pass, none goes
  pub all_kept : (xs : List X) → ((x : X) → Contains xs x → test x ≡ true) → filter test xs ≡ xs
  all_kept [] h = refl
  all_kept (x ∷ xs) h =
      cond-true (test x) (x ∷ filter test xs) (filter test xs) (h x (in_head x xs))
      ∙ ap (λ ys. x ∷ ys) (all_kept xs (λ y m. h y (in_tail x xs y m)))

  all_true : (xs : List X) → ((x : X) → Contains xs x → test x ≡ true) → list_all test xs ≡ true
  all_true [] h = refl
  all_true (x ∷ xs) h = and_from (test x) (list_all test xs) (h x (in_head x xs)) (all_true xs (λ y m. h y (in_tail x xs y m)))

  -- and where none goes, all pass
  pub all_pass : (xs : List X) → filter test xs ≡ xs → (x : X) → Contains xs x → test x ≡ true
  all_pass xs e x m = (from_filter test xs x (subst (λ ys. Contains ys x) (sym e) m)).passes

-- What is made of those that pass is made of all, where nothing is made of the others.

given_passing : {X Y : Type 0} (find : X → Option Y) (test : X → Bool) → ((x : X) → test x ≡ false → find x ≡ None) → (xs : List X) → filter_map find (filter test xs) ≡ filter_map find xs
given_passing find test h [] = refl
given_passing {Y = Y} find test h (x ∷ xs) =
    let rest = given_passing find test h xs in
    elim (cases_Bool (test x)) [
      | inl y ↦
          ap (filter_map find) (cond-true (test x) (x ∷ filter test xs) (filter test xs) y)
          ∙ ap (cons_option (find x)) rest
      | inr n ↦
          ap (filter_map find) (cond-false (test x) (x ∷ filter test xs) (filter test xs) n) ∙ rest
          ∙ sym (ap (λ (o : Option Y). cons_option o (filter_map find xs)) (h x n))
    ]

pub nothing_beside : (ts : List Triple) → list_any (carries_some []) ts ≡ false
nothing_beside [] = refl
nothing_beside (t ∷ ts) = nothing_beside ts

module _ (g : List Triple) where
  abbrev stays : Triple → Bool
  stays t = not (is_redundant g t)

  pub thinned_is_graph : IsGraph g → IsGraph (thinned g)
  unfolding thinned
  thinned_is_graph is = record {
    ascending = IsStrictlySortedBy-filter triple_cmp stays g is.ascending;
    few = let few = is.few in let less = no_longer stays g in omega (arith, few, less);
    subjects = all_from (λ t. IsSubject t.subject) (filter stays g) (λ t m. all_in (λ u. IsSubject u.subject) g t is.subjects (from_filter stays g t m).inside);
  }

  -- it is a set of triples
  pub thinned_set : IsGraph g → set_of (thinned g) ≡ thinned g
  thinned_set is = set_again (thinned g) (thinned_is_graph is)

  -- a graph in which no triple is redundant stays as it is
  pub none_redundant : ((t : Triple) → Contains g t → is_redundant g t ≡ false) → thinned g ≡ g
  unfolding thinned
  none_redundant h = all_kept stays g (λ t m. ap not (h t m))

  -- and no other one does
  pub redundant_in_none : thinned g ≡ g → (t : Triple) → Contains g t → is_redundant g t ≡ false
  unfolding thinned
  redundant_in_none e t m = not-true (is_redundant g t) (all_pass stays g e t m)

  -- so all triples stay exactly where none is redundant
  pub all_stay : (b : Bool) (ts : List Triple) → b ≡ list_all stays ts → ts ≡ g → IsTrue b ↔ (thinned g ≡ g)
  unfolding thinned
  all_stay b ts is same = (
    λ h. all_kept stays g (λ t m. passes stays g t (sym (is ∙ ap (list_all stays) same) ∙ h) m),
    λ e. is ∙ ap (list_all stays) same ∙ all_true stays g (all_pass stays g e),
  )

  -- a type beside which no words stand is redundant in no graph
  pub never_redundant : (t : Triple) → words_beside_type t.subject t.object ≡ [] → is_redundant g t ≡ false
  unfolding is_redundant
  never_redundant t e =
      false_from_ne_true (is_redundant g t) (λ h.
      let beside = (and_parts (bytes_eq t.predicate type_iri) _ h).1 in
      both_ways (list_any (carries_some (words_beside_type t.subject t.object)) (of_subject g t.subject))
      (ap (λ ws. list_any (carries_some ws) (of_subject g t.subject)) e ∙ nothing_beside (of_subject g t.subject)) beside)

  pub thinned_given : {Y : Type 0} (find : Triple → Option Y) → ((t : Triple) → is_redundant g t ≡ true → find t ≡ None) → filter_map find (thinned g) ≡ filter_map find g
  unfolding thinned
  thinned_given find h = given_passing find stays (λ t n. h t (not-false (is_redundant g t) n)) g

  -- what was gathered when all triples were looked at
  gathered : (ts kept : List Triple) (place : ℕ) → ts ≡ g → length ts ≤ place → kept ≡ filter stays (take place ts) → kept ≡ thinned g
  unfolding thinned
  gathered ts kept place same past is = is ∙ ap (filter stays) (take_all place ts past ∙ same)

  pub gathered_set : (ts kept : List Triple) (place : ℕ) → ts ≡ g → length ts ≤ place → kept ≡ filter stays (take place ts) → IsGraph g → set_of kept ≡ thinned g
  gathered_set ts kept place same past is graph = ap set_of (gathered ts kept place same past is) ∙ thinned_set graph

  pub gathered_few : (ts kept : List Triple) (place : ℕ) → ts ≡ g → length ts ≤ place → kept ≡ filter stays (take place ts) → IsGraph g → most_triples < length (set_of kept) → ⊥
  gathered_few ts kept place same past is graph many =
      let few = (thinned_is_graph graph).few in
      let as_long = ap (λ us. length us) (gathered_set ts kept place same past is graph) in
      omega (arith, few, many, as_long)
