-- The numbers of the nodes by which triples are annotated, as node after node is added.
use Rattle.std.specs.Prelude.{◌≡◌, ◌+◌, ℕ, suc, Bool, true, false, ◌&&◌, cond, nat_eq, List, [], ◌∷◌, ◌++◌, Option, None, Some, length, map, option_map, slice_get, take}
use Rattle.std.specs.List.{filter}
use Rattle.std.specs.Map.{keys_of, lookup}
use Rattle.std.specs.Option.{unwrap_or}
use Rattle.std.specs.declared.vec.Vec.{Vec}
use Rattle.std.proofs.Common.{append-nil, arith, inl, inr, refl, sym, ap, ◌∙◌, subst}
use Rattle.std.proofs.Math.Seq.{take-length, take-suc}
use Rattle.std.proofs.lemmas.Bool.{both_ways, cases_Bool, cond-false, cond-true}
use Rattle.std.proofs.lemmas.Bool.Decides.{eqb_tells}
use Rattle.std.proofs.lemmas.List.{map-append}
use Rattle.std.proofs.lemmas.List.Elements.{filter-append}
use Rattle.std.proofs.lemmas.Option.{get_or_from_slice_get, same_Some, slice_get_within}
use Rattle.rdf_graph.specs.declared.term.Term.{Term}
use Rattle.rdf_graph.specs.declared.term.Term.TheVariants.{Iri, Blank, Literal}
use Rattle.rdf_graph.specs.declared.triple.Triple.{Triple}
use Rattle.rdf_meaning.specs.declared.role.Role.TheVariants as role
use Rattle.rdf_meaning.specs.Nodes.{is_blank, is_role, nodes_of, role_of, subjects_of}
use Rattle.rdf_meaning.specs.Statements.{noters}
use Rattle.rdf_roles.specs.Tables.{RoleTable, blank_nodes, labels_in}
use Rattle.rdf_annotations.proofs.AnnotationLaws.{filter_twice}
use Rattle.rdf_annotations.specs.Noters.{AnnotatesAt, AreNoters, AreNotersUpTo, AreNumbersOf, is_noter, numbers_at, numbers_of, shown, term_at, with_number}

abbrev blanks : List (List ℕ) → List Term
blanks = map (λ label. Blank label)

-- a test of nodes, and one of blank nodes alone
of_blanks : (p q : Term → Bool) (xs : List Term) → filter (λ x. (is_blank x && q x) && p x) xs ≡ filter (λ x. q x && p x) (blanks (labels_in xs))
of_blanks p q [] = refl
of_blanks p q (Iri iri ∷ xs) = of_blanks p q xs
of_blanks p q (Blank label ∷ xs) = ap (λ (ys : List Term). cond (q (Blank label) && p (Blank label)) (Blank label ∷ ys) ys) (of_blanks p q xs)
of_blanks p q (Literal literal ∷ xs) = of_blanks p q xs

noters_are : (g : List Triple) (t : Triple) → noters g t ≡ filter (is_noter g t) (blanks (blank_nodes g))
unfolding noters nodes_of blank_nodes
noters_are g t =
    filter_twice _ (λ x. is_blank x && is_role role.Note (role_of g x)) (subjects_of g)
    ∙ of_blanks _ (λ x. is_role role.Note (role_of g x)) (subjects_of g)

more_numbers : (roles : RoleTable) (xs : List Term) (ns : List ℕ) (x : Term) (n : ℕ) → AreNumbersOf roles xs ns → term_at roles n ≡ Some x → AreNumbersOf roles (xs ++ x ∷ []) (ns ++ n ∷ [])
more_numbers roles xs ns x n h at =
    map-append (term_at roles) ns (n ∷ []) ∙ (λ i. h i ++ (at i ∷ [])) ∙ sym (map-append (λ y. Some y) xs (x ∷ []))

taken : (all : List (List ℕ)) (n : ℕ) (label : List ℕ) → slice_get all n ≡ Some label → take (n + 1) all ≡ take n all ++ label ∷ []
taken all n label at =
    ap (λ m. take m all) (let e : n + 1 ≡ suc n = omega arith in e)
    ∙ take-suc all n label (slice_get_within all n label at)
    ∙ ap (λ l. take n all ++ l ∷ []) (get_or_from_slice_get all n label label at)

kept_one : (p : Term → Bool) (x : Term) (b : Bool) → p x ≡ b → filter p (x ∷ []) ≡ cond b (x ∷ []) []
kept_one p x b e = ap (λ c. cond c (x ∷ []) []) e

next_kept : (p : Term → Bool) (all : List (List ℕ)) (n : ℕ) (label : List ℕ) (b : Bool) → slice_get all n ≡ Some label → p (Blank label) ≡ b →
    filter p (blanks (take (n + 1) all)) ≡ filter p (blanks (take n all)) ++ cond b (Blank label ∷ []) []
next_kept p all n label b at e =
    ap (λ ls. filter p (blanks ls)) (taken all n label at)
    ∙ ap (filter p) (map-append (λ l. Blank l) (take n all) (label ∷ []))
    ∙ filter-append p (blanks (take n all)) (Blank label ∷ [])
    ∙ ap (λ ys. filter p (blanks (take n all)) ++ ys) (kept_one p (Blank label) b e)

some_items : {Z : Type 0} (b : Bool) (numbers : Vec ℕ Z) (found : Option (Vec ℕ Z)) (table : Option (List ℕ)) → option_map (λ v. v.items) found ≡ table →
    option_map (λ v. v.items) (cond b (Some numbers) found) ≡ cond b (Some numbers.items) table
some_items true numbers found table e = refl
some_items false numbers found table e = e

looked_up : {Z : Type 0} (entries : List (ℕ × Vec ℕ Z)) (place : ℕ) → option_map (λ v. v.items) (lookup (nat_eq place) entries) ≡ lookup (nat_eq place) (shown entries)
looked_up [] place = refl
looked_up (e ∷ es) place = some_items (nat_eq place e.0) e.1 (lookup (nat_eq place) es) (lookup (nat_eq place) (shown es)) (looked_up es place)

pub shown_at : {Z : Type 0} (entries : List (ℕ × Vec ℕ Z)) (place : ℕ) → numbers_at entries place ≡ numbers_of (shown entries) place
shown_at entries place = ap (λ (found : Option (List ℕ)). unwrap_or found []) (looked_up entries place)

-- the number is added at the place that was found, and nowhere else
pub IsAdded : Option ℕ → ℕ → ℕ → List ℕ → List ℕ → Type 0
IsAdded found n place old new = (found ≡ Some place → new ≡ old ++ n ∷ []) × ((found ≡ Some place → ⊥) → new ≡ old)

module _ (g : List Triple) (roles : RoleTable) where
  pub none_added : (numbers : ℕ → List ℕ) → ((place : ℕ) → numbers place ≡ []) → AreNotersUpTo g roles 0 numbers
  none_added numbers e = record { each = λ place t at. ap (map (term_at roles)) (e place) }

  pub all_added : {Z : Type 0} (count : ℕ) (entries : List (ℕ × Vec ℕ Z)) → count ≡ length (blank_nodes g) → AreNotersUpTo g roles count (numbers_at entries) → AreNoters g roles (shown entries)
  all_added count entries e h = record {
    each = λ place t at.
        ap (map (term_at roles)) (sym (shown_at entries place))
        ∙ h.each place t at
        ∙ ap (λ (ls : List (List ℕ)). map (λ x. Some x) (filter (is_noter g t) (blanks ls))) (ap (λ m. take m (blank_nodes g)) e ∙ take-length (blank_nodes g))
        ∙ ap (map (λ x. Some x)) (sym (noters_are g t));
  }

  pub one_added : (n : ℕ) (found : Option ℕ) (old new : ℕ → List ℕ) → keys_of roles.nodes ≡ blank_nodes g → AnnotatesAt g n found →
      ((place : ℕ) → IsAdded found n place (old place) (new place)) → AreNotersUpTo g roles n old → AreNotersUpTo g roles (n + 1) new
  unfolding IsAdded
  one_added n found old new keys a added h = record {
    each = λ place t at.
        let is = a.annotates place t at in
        let before = h.each place t at in
        elim (cases_Bool (is_noter g t (Blank a.label))) [
          | inl y ↦
              subst (λ ns. AreNumbersOf roles (filter (is_noter g t) (blanks (take (n + 1) (blank_nodes g)))) ns) (sym ((added place).0 (is.0 y)))
              (subst (λ xs. AreNumbersOf roles xs (old place ++ n ∷ [])) (sym (next_kept (is_noter g t) (blank_nodes g) n a.label true a.at y))
              (more_numbers roles _ (old place) (Blank a.label) n before (ap (option_map (λ label. Blank label)) (ap (λ ls. slice_get ls n) keys ∙ a.at))))
          | inr f ↦
              subst (λ ns. AreNumbersOf roles (filter (is_noter g t) (blanks (take (n + 1) (blank_nodes g)))) ns)
              (sym ((added place).1 (λ e. both_ways _ f (is.1 e))))
              (subst (λ xs. AreNumbersOf roles xs (old place)) (sym (next_kept (is_noter g t) (blank_nodes g) n a.label false a.at f))
              (before ∙ ap (map (λ x. Some x)) (sym (append-nil _))))
        ];
  }

pub not_added : (n place : ℕ) (old : List ℕ) → IsAdded None n place old old
unfolding IsAdded
not_added n place old = (λ e. cc, λ e. refl)

pub added_at : (n p place : ℕ) (old : ℕ → List ℕ) (new : List ℕ) → new ≡ with_number old p n place → IsAdded (Some p) n place (old place) new
unfolding IsAdded
added_at n p place old new e =
    elim (eqb_tells p place) [
      | inl h ↦ (λ s. e ∙ cond-true (nat_eq p place) (old place ++ n ∷ []) (old place) h.0, λ s. absurd (s (ap Some h.1)))
      | inr h ↦ (λ s. absurd (h.1 (same_Some p place s)), λ s. e ∙ cond-false (nat_eq p place) (old place ++ n ∷ []) (old place) h.0)
    ]
