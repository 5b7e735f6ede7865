-- Whether triples name what they may is decided, in a graph whose lists are well formed and that has no cycle.
use Rattle.std.specs.Prelude.{◌≡◌, ◌≤◌, ◌⊎◌, ℕ, Bool, true, nat_le, IsTrue, List, is_some, length}
use Rattle.std.specs.List.{AllByRecursion}
use Rattle.std.proofs.Common.{inl, inr, subst}
use Rattle.std.proofs.lemmas.Bool.{le-leb, leb-true}
use Rattle.owl_list.proofs.AscendingLaws.{all_from, all_in}
use Rattle.owl_kind.specs.Kinds.{Entity}
use Rattle.owl_tree.specs.declared.row.Sort.TheVariants as sort
use Rattle.rdf_graph.specs.declared.term.Term.{Term}
use Rattle.rdf_graph.specs.declared.term.Term.TheVariants.{Iri, Literal}
use Rattle.rdf_graph.specs.declared.triple.Triple.{Triple}
use Rattle.rdf_meaning.specs.declared.role.Role.{Role}
use Rattle.rdf_meaning.specs.declared.role.Role.TheVariants as role
use Rattle.rdf_meaning.specs.declared.word.Word.TheVariants as word
use Rattle.rdf_meaning.specs.declared.row.Part.{Part}
use Rattle.rdf_meaning.specs.declared.row.Want.{Want}
use Rattle.rdf_meaning.specs.declared.row.Want.TheVariants.{One, Many, Whole, Keys, Declared, Mark, True}
use Rattle.rdf_meaning.specs.Nodes.{carries, carries_some, nil_iri, role_of}
use Rattle.rdf_meaning.specs.Rows.{Row, axiom_rows}
use Rattle.rdf_meaning.specs.Denotation.{Fits, declared_entity, literal_leaf, of_node, of_triple, select, simple, true_literal}
use Rattle.rdf_meaning.specs.Statements.{IsCell}
use Rattle.rdf_faults.specs.Asked.{IsAskedFor, suited, not_asked, IsListOf, IsMet, IsMetAt, IsTypedAs, IsTypedAxiom, IsTypedNote, Suits, SuitsProperties, by_property, is_key, is_of_sort, is_place_of, rows}
use Rattle.rdf_faults.specs.Faults.{IsCyclic}
use Rattle.rdf_faults.proofs.BelowLaws.{elements_of, is_listed, same_elements}
use Rattle.rdf_faults.specs.DecidedLaws.{Decided, HasSome, decided_both, decided_by, decided_each, decided_either, decided_if, decided_not, decided_role, decided_some, decided_term, decided_test, decided_three}
use Rattle.rdf_faults.proofs.DecidedFormLaws.{decided_fits}

decided_least : (m n : ℕ) → Decided (m ≤ n)
decided_least m n = decided_by (λ t. leb-true m n t) (λ h. le-leb m n h) (decided_test (nat_le m n))

module _ (g : List Triple) (k : List Entity) (acyclic : (label : List ℕ) → IsCyclic g label → ⊥) (cells : (x : Term) → role_of g x ≡ role.List → IsCell g x) where
  decided_list : (test : Term → Bool) (least : ℕ) (x : Term) → Decided (IsListOf g test least x)
  decided_list test least x =
      elim (decided_either (decided_term x (Iri nil_iri)) (decided_role (role_of g x) role.List)) [
        | inr n ↦ inr (λ l. n (is_listed g x l.elements l.has_elements))
        | inl is ↦
            let ys = elements_of g acyclic cells x is in
            decided_by
            (λ p. record { elements = ys.0; has_elements = ys.1; many = p.0; each = p.1 })
            (λ l.
            let same = same_elements g x l.elements ys.0 l.has_elements ys.1 in
            (subst (λ zs. least ≤ length zs) same l.many, subst (AllByRecursion (λ y. IsTrue (test y))) same l.each))
            (decided_both (decided_least least (length ys.0)) (decided_each (λ y. IsTrue (test y)) ys.0 (λ y. decided_test (test y))))
      ]

  decided_met : (w : Want) (x : Term) → Decided (IsMet g k w x)
  decided_met (One s) x = decided_test (is_of_sort g k s x)
  decided_met (Many s least) x = decided_list (is_of_sort g k s) least x
  decided_met (Whole t s least) x = decided_list (is_of_sort g k s) least x
  decided_met Keys x = decided_list (is_key g k) 1 x
  decided_met (Declared t) x = decided_test (is_some (declared_entity k t x))
  decided_met Mark x = inl tt
  decided_met True x = decided_term x (Literal true_literal)

  decided_suits : (row : Row) (t : Triple) → Decided (Suits g k row t)
  decided_suits row t =
      decided_each (λ (p : Part). is_place_of t p.place ≡ true → IsMet g k p.want t.object) row.parts (λ p.
      decided_if (decided_test (is_place_of t p.place)) (decided_met p.want t.object))

  -- the row suits the triple, if that is of the node's property
  abbrev SuitsAsProperty : Row → Term → Triple → Type 0
  SuitsAsProperty row x t = t.subject ≡ x → IsTrue (carries word.OnProperty t) → Suits g k row t

  decided_properties : (row : Row) (x : Term) → Decided (SuitsProperties g k row x)
  decided_properties row x =
      decided_by
      (λ each t m e on. all_in (SuitsAsProperty row x) g t each m e on)
      (λ suits. all_from (SuitsAsProperty row x) g (λ t m e on. suits t m e on))
      (decided_each (SuitsAsProperty row x) g (λ t.
      decided_if (decided_term t.subject x) (decided_if (decided_test (carries word.OnProperty t)) (decided_suits row t))))

  -- what a triple of a node asks

  abbrev IsSuited : Triple → Row → Type 0
  IsSuited t row =
      Fits g (of_node t.subject) row × Suits g k row t × (IsTrue (carries_some by_property t) → SuitsProperties g k row t.subject)

  abbrev IsUnsuited : Triple → Row → Type 0
  IsUnsuited t row = Fits g (of_node t.subject) row → SuitsProperties g k row t.subject → ⊥

  decided_suited : (t : Triple) (row : Row) → Decided (IsSuited t row)
  decided_suited t row =
      decided_three (decided_fits g (of_node t.subject) row) (decided_suits row t)
      (decided_if (decided_test (carries_some by_property t)) (decided_properties row t.subject))

  decided_unsuited : (t : Triple) (row : Row) → Decided (IsUnsuited t row)
  decided_unsuited t row =
      decided_if (decided_fits g (of_node t.subject) row) (decided_not (decided_properties row t.subject))

  asked_by : (t : Triple) → (HasSome (IsSuited t) rows) ⊎ (IsTrue (carries_some by_property t) × AllByRecursion (IsUnsuited t) rows) → IsAskedFor g k t
  asked_by t (inl s) = suited s.element (record { among = s.inside; fits = s.holds.0 }) s.holds.1 s.holds.2
  asked_by t (inr n) = not_asked n.0 (λ row is. all_in (IsUnsuited t) rows row n.1 is.among is.fits)

  asked_is : (t : Triple) → IsAskedFor g k t → (HasSome (IsSuited t) rows) ⊎ (IsTrue (carries_some by_property t) × AllByRecursion (IsUnsuited t) rows)
  asked_is t (suited row is suits properties) =
      inl (record { element = row; inside = is.among; holds = (is.fits, suits, properties) })
  asked_is t (not_asked by none) =
      inr (by, all_from (IsUnsuited t) rows (λ row m f. none row (record { among = m; fits = f })))

  decided_asked : (t : Triple) → Decided (IsAskedFor g k t)
  decided_asked t =
      decided_by (asked_by t) (asked_is t)
      (decided_either (decided_some (IsSuited t) rows (decided_suited t))
      (decided_both (decided_test (carries_some by_property t)) (decided_each (IsUnsuited t) rows (decided_unsuited t))))

  pub decided_typed : (r : Role) (t : Triple) → Decided (IsTypedAs g k r t)
  decided_typed role.List t = inl tt
  decided_typed role.Property t = decided_asked t
  decided_typed role.Class t = decided_asked t
  decided_typed role.Range t = decided_asked t
  decided_typed role.Facet t = decided_test (is_some (literal_leaf t.object))
  decided_typed role.Main t = decided_asked t
  decided_typed role.Note t = inl tt
  decided_typed role.Header t = inl tt
  decided_typed role.Individual t = inl tt

  -- statements

  abbrev IsAxiomBy : Triple → Row → Type 0
  IsAxiomBy t row = Fits g (of_triple t) row × AllByRecursion (IsMetAt g k (of_triple t)) row.parts

  decided_axiom_row : (t : Triple) (row : Row) → Decided (IsAxiomBy t row)
  decided_axiom_row t row =
      decided_both (decided_fits g (of_triple t) row)
      (decided_each (IsMetAt g k (of_triple t)) row.parts (λ p.
      decided_each (IsMet g k p.want) (select g (of_triple t) p.place) (decided_met p.want)))

  pub decided_axiom : (t : Triple) → Decided (IsTypedAxiom g k t)
  decided_axiom t =
      decided_by
      (λ (s : HasSome (IsAxiomBy t) axiom_rows). record { row = s.element; among = s.inside; fits = s.holds.0; met = s.holds.1 })
      (λ a. record { element = a.row; inside = a.among; holds = (a.fits, a.met) })
      (decided_some (IsAxiomBy t) axiom_rows (decided_axiom_row t))

pub decided_note : (g : List Triple) (k : List Entity) (t : Triple) → Decided (IsTypedNote g k t)
decided_note g k t =
    decided_by (λ p. record { property = p.0; value = p.1 }) (λ n. (n.property, n.value))
    (decided_both (decided_test (is_some (simple g k sort.AnnotationProperty (Iri t.predicate))))
    (decided_test (is_some (simple g k sort.AnnotationValue t.object))))
