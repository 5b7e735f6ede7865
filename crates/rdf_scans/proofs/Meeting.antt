-- The tests say which triples are axioms by their terms.
use Rattle.std.specs.Prelude.{◌≡◌, ◌↔◌, ◌≤◌, ℕ, suc, Bool, true, nat_eq, IsTrue, List, [], ◌∷◌, Contains, length, map}
use Rattle.std.proofs.Common.{inl, inr, ◌<◌, ◌++◌, drop, drop-cons, get_or, take, sym, ap, arith, ◌∙◌, subst}
use Rattle.std.proofs.lemmas.List.{take-append-drop}
use Rattle.std.proofs.lemmas.List.Elements.{Contains-append_right}
use Rattle.owl_list.proofs.AscendingLaws.{all_in, from_map, in_head, in_map}
use Rattle.rdf_graph.specs.declared.term.Term.TheVariants.{Iri}
use Rattle.rdf_graph.specs.declared.triple.Triple.{Triple}
use Rattle.std.proofs.lemmas.Bool.{eq-eqb, eqb-true}
use Rattle.rdf_graph.specs.declared.term.Term.{Term}
use Rattle.rdf_meaning.specs.declared.role.Role.TheVariants as role
use Rattle.rdf_meaning.specs.declared.row.Site.{Site}
use Rattle.rdf_meaning.specs.declared.row.Site.TheVariants.{TypedBy, LinkedBy}
use Rattle.rdf_meaning.specs.declared.word.Word.{Word}
use Rattle.rdf_meaning.specs.Nodes.{is_word, nil_iri, role_of}
use Rattle.rdf_meaning.proofs.WordLaws.{same_word}
use Rattle.rdf_rows.proofs.CarryingLaws.{own_word}
use Rattle.rdf_faults.proofs.BelowLaws.{elements_are}
use Rattle.rdf_meaning.specs.Rows.{axiom_rows, row_seen}
use Rattle.rdf_meaning.specs.declared.row.Row as held
use Rattle.rdf_faults.specs.Asked.{IsListOf, IsTypedAxiom, no_element}
use Rattle.rdf_faults.specs.Firsts.{HoldsForNone}
use Rattle.rdf_scans.specs.declared.reading.Reading.{Reading}
use Rattle.rdf_scans.specs.Statements.{IsAxiomBy}

-- the row that the program has
abbrev pub IsAxiomAt : Reading → Triple → held.Row → Type 0
IsAxiomAt reading t row = IsAxiomBy reading t (row_seen row)

module _ (reading : Reading) (t : Triple) (rows : List held.Row) (are : map row_seen rows ≡ axiom_rows) where
  pub typed_by : (row : held.Row) → Contains rows row → IsAxiomAt reading t row → IsTypedAxiom reading.graph.now reading.kinds.now t
  typed_by row m is = record {
    row = row_seen row;
    among = subst (λ rs. Contains rs (row_seen row)) are (in_map row_seen rows row m);
    fits = is.0;
    met = is.1;
  }

  pub typed_at : (index : ℕ) (other : held.Row) → index < length rows → IsAxiomAt reading t (get_or rows index other) → IsTypedAxiom reading.graph.now reading.kinds.now t
  typed_at index other within is =
      let row = get_or rows index other in
      let split = ap (λ (rs : List held.Row). take index rows ++ rs) (sym (drop-cons rows index other within)) ∙ take-append-drop index rows in
      let among = Contains-append_right (take index rows) (row ∷ drop (suc index) rows) row (in_head row (drop (suc index) rows)) in
      typed_by row (subst (λ (rs : List held.Row). Contains rs row) split among) is

  pub typed_by_none : HoldsForNone (IsAxiomAt reading t) rows → IsTypedAxiom reading.graph.now reading.kinds.now t → ⊥
  typed_by_none none is =
      let v = from_map row_seen rows is.row (subst (λ rs. Contains rs is.row) (sym are) is.among) in
      all_in (λ r. IsAxiomAt reading t r → ⊥) rows v.element none v.inside (subst (IsAxiomBy reading t) (sym v.value) (is.fits, is.met))

-- sites

module _ (a b : Site) (v w : Word) (answer : Bool) (is : answer ≡ is_word v w) where
  same_by : IsTrue answer → v ≡ w
  same_by h = same_word v w (sym is ∙ h)

  by_same : v ≡ w → IsTrue answer
  by_same e = is ∙ ap (is_word v) (sym e) ∙ own_word v

  pub typed_sites : a ≡ TypedBy v → b ≡ TypedBy w → IsTrue answer ↔ (a ≡ b)
  typed_sites e f = (λ h. e ∙ ap TypedBy (same_by h) ∙ sym f, λ s. let same : TypedBy v ≡ TypedBy w = sym e ∙ s ∙ f in by_same (typed_word v w same))
    where
      typed_word : (v w : Word) → TypedBy v ≡ TypedBy w → v ≡ w
      typed_word v w e = cc

  pub linked_sites : a ≡ LinkedBy v → b ≡ LinkedBy w → IsTrue answer ↔ (a ≡ b)
  linked_sites e f = (λ h. e ∙ ap LinkedBy (same_by h) ∙ sym f, λ s. let same : LinkedBy v ≡ LinkedBy w = sym e ∙ s ∙ f in by_same (linked_word v w same))
    where
      linked_word : (v w : Word) → LinkedBy v ≡ LinkedBy w → v ≡ w
      linked_word v w e = cc

-- what is wanted of an IRI

no_list : (g : List Triple) (iri : List ℕ) → role_of g (Iri iri) ≡ role.List → ⊥
no_list g iri e = let same : role.Individual ≡ role.List = e in cc

nothing : (least : ℕ) → nat_eq least 0 ≡ true → least ≤ 0
nothing least h = let none : least ≡ 0 = eqb-true least 0 h in omega (arith, none)

module _ (g : List Triple) (test : Term → Bool) (least : ℕ) (iri : List ℕ) (nil : iri ≡ nil_iri) where
  pub nil_list : IsTrue (nat_eq least 0) ↔ IsListOf g test least (Iri iri)
  nil_list = (
    λ h. record { elements = []; has_elements = no_element (Iri iri) (ap Iri nil); many = nothing least h; each = tt },
    λ l. elim (elements_are g (Iri iri) l.elements l.has_elements) [
      | inl e ↦ let few : least ≤ 0 = subst (λ ys. least ≤ length ys) e.1 l.many in eq-eqb least 0 (omega (arith, few))
      | inr c ↦ absurd (no_list g iri c.list)
    ],
  )
