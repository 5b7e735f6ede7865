-- That nothing is found where there is no axiom.
use Rattle.std.specs.Prelude.{◌≡◌, ◌≤◌, ◌<◌, ◌+◌, ◌++◌, ℕ, Bool, true, IsNone, IsSome, IfOk, IsTrue, List, [], ◌∷◌, Option, None, Some, Contains, get_or, length, map}
use Rattle.std.specs.List.{AllByRecursion, list_all}
use Rattle.std.proofs.Common.{suc, arith, inl, inr, refl, sym, ap, ◌∙◌, subst}
use Rattle.std.specs.declared.result.Result.{Result}
use Rattle.std.specs.declared.result.Result.TheVariants.{Ok, Err}
use Rattle.std.proofs.lemmas.Bool.{and_parts, or_cases, or_left, or_right}
use Rattle.std.proofs.lemmas.Bool.Decides.{leb_tells}
use Rattle.std.proofs.lemmas.List.{length-append}
use Rattle.owl_list.proofs.AscendingLaws.{from_map}
use Rattle.owl_kind.specs.Kinds.{Entity}
use Rattle.owl_tree.specs.declared.row.Sort.{Sort}
use Rattle.owl_tree.specs.declared.row.Sort.TheVariants as sort
use Rattle.owl_tree.specs.declared.tag.Tag.{Tag}
use Rattle.owl_tree.specs.Trees.{Tree}
use Rattle.rdf_graph.specs.declared.term.Term.{Term}
use Rattle.rdf_graph.specs.declared.term.Term.TheVariants.{Blank, Iri, Literal}
use Rattle.rdf_graph.specs.declared.triple.Triple.{Triple}
use Rattle.rdf_meaning.specs.declared.row.Part.{Part}
use Rattle.rdf_meaning.specs.declared.row.Row as held
use Rattle.rdf_meaning.specs.Denotation.{Bearer, Fits, Holds, declared_entity, no_parts, part, select}
use Rattle.rdf_meaning.proofs.ListLaws.{passes, same_only}
use Rattle.rdf_meaning.specs.Rows.{Row, axiom_rows, row_seen}
use Rattle.rdf_faults.specs.Asked.{HasElements, no_element, element, IsListOf, IsMet, is_key, is_of_sort}
use Rattle.rdf_rows.specs.Chosen.{the_only}
use Rattle.rdf_faults.specs.WantLaws.{axiom_known, is_known, met}
use Rattle.rdf_asked.proofs.ListedLaws.{same_elements}
use Rattle.rdf_roles.specs.Tables.{RoleTable}
use Rattle.rdf_nodes.specs.declared.form.Operand.{Operand}
use Rattle.rdf_nodes.proofs.OfSortLaws.{as_many_elements, found_is_of_sort}
use Rattle.rdf_nodes.specs.Operands.{AreElements}
use Rattle.rdf_statements.specs.Forms.{AreKeyOperands, no_key, object_key, data_key, IsGivenAt, IsKeyAdded, an_object_key, a_data_key, IsNoAxiom, is_told}

-- a list of so many terms or more is a list
pub any_list : (g : List Triple) (test : Term → Bool) (least : ℕ) (x : Term) → IsListOf g test least x → IsListOf g test 0 x
any_list g test least x l = record { elements = l.elements; has_elements = l.has_elements; many = omega arith; each = l.each }

module _ (g : List Triple) (k : List Entity) (roles : RoleTable) where
  -- where too few elements are found the list is too short
  pub too_few : (s : Sort) (x : Term) (os : List Operand) (least : ℕ) → AreElements g k roles s x os → length os < least → IsListOf g (is_of_sort g k s) least x → ⊥
  too_few s x os least found few l =
      let many = as_many_elements g k roles s x os found l.elements l.has_elements in
      let enough = l.many in
      omega (arith, many, enough, few)

  pub key_is : (x : Term) (os ds os2 ds2 : List Operand) → IsKeyAdded g k roles x os ds os2 ds2 → IsTrue (is_key g k x)
  key_is x os ds _ _ (an_object_key o is) =
      or_left (is_of_sort g k sort.ObjectPropertyExpression x) (is_of_sort g k sort.DataPropertyExpression x) (found_is_of_sort g k roles sort.ObjectPropertyExpression x o is)
  key_is x os ds _ _ (a_data_key d is) =
      or_right (is_of_sort g k sort.ObjectPropertyExpression x) (is_of_sort g k sort.DataPropertyExpression x) (found_is_of_sort g k roles sort.DataPropertyExpression x d is)

  pub no_key_is : (x : Term) → (IsTrue (is_of_sort g k sort.ObjectPropertyExpression x) → ⊥) → (IsTrue (is_of_sort g k sort.DataPropertyExpression x) → ⊥) → IsTrue (is_key g k x) → ⊥
  no_key_is x a b h =
      elim (or_cases (is_of_sort g k sort.ObjectPropertyExpression x) (is_of_sort g k sort.DataPropertyExpression x) h) [
        | inl o ↦ a o
        | inr d ↦ b d
      ]

  has_keys : (x : Term) (os ds : List Operand) → AreKeyOperands g k roles x os ds → (ys : List Term) × HasElements g x ys × (length ys ≡ length (os ++ ds))
  has_keys _ _ _ (no_key x e) = ([], no_element x e, refl)
  has_keys _ _ _ (object_key x first rest o os ds c is more) =
      let r = has_keys rest os ds more in (first ∷ r.0, element x first rest r.0 c.list c.one_first c.one_rest r.1, ap suc r.2)
  has_keys _ _ _ (data_key x first rest d os ds c is more) =
      let r = has_keys rest os ds more in
      let longer : length (os ++ d ∷ ds) ≡ suc (length (os ++ ds)) = omega (arith, length-append os (d ∷ ds), length-append os ds) in
      (first ∷ r.0, element x first rest r.0 c.list c.one_first c.one_rest r.1, ap suc r.2 ∙ sym longer)

  -- where no key is found the list has none
  pub without_keys : (x : Term) (os ds : List Operand) → AreKeyOperands g k roles x os ds → (1 ≤ length (os ++ ds) → ⊥) → IsListOf g (is_key g k) 1 x → ⊥
  without_keys x os ds found none l =
      let r = has_keys x os ds found in
      let many : length l.elements ≡ length (os ++ ds) = ap length (same_elements g x l.elements r.0 l.has_elements r.1) ∙ r.2 in
      let enough = l.many in
      none (omega (arith, many, enough))

-- only an IRI is declared
pub declared_only : (k : List Entity) (t : Tag) (x : Term) → ((iri : List ℕ) → x ≡ Iri iri → ⊥) → IsSome (declared_entity k t x) → ⊥
unfolding declared_entity
declared_only k t (Iri iri) other some = other iri refl
declared_only k t (Blank label) other some = cc
declared_only k t (Literal literal) other some = cc

-- what is wanted of axioms is told by kinds and roles
axioms_told : list_all (λ row. list_all (λ p. is_told p.want) row.parts) axiom_rows ≡ true
unfolding axiom_rows
axioms_told = refl

axiom_told : (row : Row) → Contains axiom_rows row → list_all (λ p. is_told p.want) row.parts ≡ true
axiom_told row m = passes (λ row. list_all (λ p. is_told p.want) row.parts) axiom_rows row axioms_told m

-- where trees stand at the parts, these are given
parts_given : (g : List Triple) (k : List Entity) (b : Bearer) (ps : List Part) (ts : List Tree) → list_all (λ p. is_told p.want) ps ≡ true → list_all (λ p. is_known p.want) ps ≡ true →
    Holds g k b ps ts → AllByRecursion (IsGivenAt g k b) ps
parts_given g k _ _ _ told known (no_parts b) = tt
parts_given g k _ _ _ told known (part b p ps x ts us selected denotes more) =
    let t = and_parts (is_told p.want) (list_all (λ q. is_told q.want) ps) told in
    let n = and_parts (is_known p.want) (list_all (λ q. is_known q.want) ps) known in (
      record { object = x; selected = selected; told = t.0; met = met g k x p.want ts n.0 denotes },
      parts_given g k b ps us t.1 n.1 more,
    )

-- what is given at a part is the only term there
pub given_met : (g : List Triple) (k : List Entity) (b : Bearer) (p : Part) (x : Term) → select g b p.place ≡ x ∷ [] → IsGivenAt g k b p → IsMet g k p.want x
given_met g k b p x at given = subst (IsMet g k p.want) (same_only given.object x (sym given.selected ∙ at)) given.met

pub not_given : {A E : Type 0} (g : List Triple) (k : List Entity) (b : Bearer) (p : Part) (x : Term) → select g b p.place ≡ x ∷ [] → (r : Result (Option A) E) →
    (is_told p.want ≡ true → IfOk r (λ found. IsNone found → IsMet g k p.want x → ⊥)) → IfOk r (λ found. IsNone found → IsGivenAt g k b p → ⊥)
not_given g k b p x at (Ok found) h = λ none given. h given.told none (given_met g k b p x at given)
not_given g k b p x at (Err e) h = tt

pub none_given : (g : List Triple) (k : List Entity) (b : Bearer) (p : Part) → None ≡ the_only (select g b p.place) → IsGivenAt g k b p → ⊥
none_given g k b p none given = no_term given.object (none ∙ ap the_only given.selected)
  where
    no_term : (x : Term) → None ≡ Some x → ⊥
    no_term x e = cc

-- none of the first rows is one of the bearer that has all its parts
pub record NoneOfFirst (g : List Triple) (k : List Entity) (b : Bearer) (rows : List held.Row) (count : ℕ) : Type 0 where
  pub none : (i : ℕ) (d : held.Row) → i < count → Fits g b (row_seen (get_or rows i d)) → AllByRecursion (IsGivenAt g k b) (row_seen (get_or rows i d)).parts → ⊥

module _ (g : List Triple) (k : List Entity) (b : Bearer) (rows : List held.Row) where
  pub none_yet : NoneOfFirst g k b rows 0
  none_yet = record { none = λ i d less fits given. absurd (omega (arith, less)) }

  pub none_behind : (n : ℕ) → NoneOfFirst g k b rows n → ((d : held.Row) → Fits g b (row_seen (get_or rows n d)) → AllByRecursion (IsGivenAt g k b) (row_seen (get_or rows n d)).parts → ⊥) →
      NoneOfFirst g k b rows (n + 1)
  none_behind n before here = record {
    none = λ i d less fits given.
        elim (leb_tells n i) as (λ _. ⊥) [
          | inl le ↦
              let same : i ≡ n = omega (arith, le.1, less) in
              here d (subst (λ j. Fits g b (row_seen (get_or rows j d))) same fits) (subst (λ j. AllByRecursion (IsGivenAt g k b) (row_seen (get_or rows j d)).parts) same given)
          | inr lt ↦ before.none i d lt.1 fits given
        ];
  }

  -- no row is, so it is no axiom
  pub no_axiom : (n : ℕ) → map row_seen rows ≡ axiom_rows → length rows ≤ n → NoneOfFirst g k b rows n → IsNoAxiom g k b
  no_axiom n told all none t ts is =
      let from = from_map row_seen rows is.row (subst (λ (rs : List Row). Contains rs is.row) (sym told) is.among) in
      let at = from.inside in
      let seen : row_seen (get_or rows at.0 from.element) ≡ is.row = ap row_seen at.2 ∙ from.value in
      none.none at.0 from.element (let less = at.1 in omega (arith, less, all)) (subst (Fits g b) (sym seen) is.fits)
      (subst (λ (r : Row). AllByRecursion (IsGivenAt g k b) r.parts) (sym seen)
      (parts_given g k b is.row.parts ts (axiom_told is.row is.among) (axiom_known is.row is.among) is.parts))
