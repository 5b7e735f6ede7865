-- What is known of a list, by its first element and what is known of the rest.
use Rattle.std.specs.Prelude.{◌≡◌, ◌↔◌, ◌≤◌, ◌&&◌, ℕ, zero, suc, Bool, true, false, IfSome, IsTrue, List, [], ◌∷◌, ◌++◌, Option, None, Some, option_map, slice_get}
use Rattle.std.specs.Map.{keys_of}
use Rattle.std.specs.List.{AllByRecursion}
use Rattle.std.proofs.Common.{inl, inr, refl, sym, ◌∙◌, subst, arith}
use Rattle.std.proofs.lemmas.List.{length-append}
use Rattle.std.proofs.lemmas.Option.{same_Some}
use Rattle.owl_kind.specs.Kinds.{Entity}
use Rattle.owl_tree.specs.declared.row.Sort.TheVariants as sort
use Rattle.rdf_graph.specs.declared.term.Term.{Term}
use Rattle.rdf_graph.specs.declared.term.Term.TheVariants.{Iri, Blank}
use Rattle.rdf_graph.specs.declared.triple.Triple.{Triple}
use Rattle.rdf_meaning.specs.declared.role.Role.TheVariants as role
use Rattle.rdf_meaning.specs.declared.word.Word.TheVariants as word
use Rattle.rdf_meaning.proofs.DenotationLaws.{no_nil}
use Rattle.rdf_meaning.proofs.ListLaws.{same_only}
use Rattle.rdf_meaning.specs.Nodes.{chosen, nil_iri, role_of}
use Rattle.rdf_faults.specs.Asked.{HasElements, no_element, element, IsListOf}
use Rattle.rdf_faults.proofs.BelowLaws.{elements_are}
use Rattle.rdf_asked.specs.declared.elements.Element.{Element}
use Rattle.rdf_asked.specs.declared.elements.Element.TheVariants.{OfSort, Key}
use Rattle.rdf_asked.specs.declared.listed.Listed.{Listed}
use Rattle.rdf_asked.specs.Elements.{is_element}
use Rattle.rdf_asked.specs.Listed.{AreKnownLists, IsKnownAt, IsListed, told}
use Rattle.rdf_roles.proofs.NodeLaws.{keys_are}
use Rattle.rdf_roles.specs.Tables.{IsTableOf, RoleTable}
use Rattle.rdf_asked.proofs.ListedLaws.{IsWalked, all_behind, all_more}

-- what is told of a list is told by its elements
nil_is_list : (g : List Triple) (test : Term → Bool) → IsListOf g test 0 (Iri nil_iri)
nil_is_list g test = record { elements = []; has_elements = no_element (Iri nil_iri) refl; many = omega arith; each = tt }

module _ (g : List Triple) (test : Term → Bool) (x first rest : Term) (cell : role_of g x ≡ role.List) (one_first : chosen g x word.First ≡ first ∷ []) (one_rest : chosen g x word.Rest ≡ rest ∷ []) where
  longer : IsTrue (test first) → IsListOf g test 0 rest → IsListOf g test 0 x
  longer t l = record {
    elements = first ∷ l.elements;
    has_elements = element x first rest l.elements cell one_first one_rest l.has_elements;
    many = omega arith;
    each = (t, l.each);
  }

  shorter : IsListOf g test 0 x → IsTrue (test first) × IsListOf g test 0 rest
  shorter l =
      elim (elements_are g x l.elements l.has_elements) [
        | inl empty ↦ absurd (no_nil g x empty.0 cell)
        | inr c ↦
            let same = same_only c.first first (sym c.one_first ∙ one_first) in
            let behind = same_only c.rest rest (sym c.one_rest ∙ one_rest) in
            let each : AllByRecursion (λ y. IsTrue (test y)) (c.first ∷ c.more) = subst (AllByRecursion (λ y. IsTrue (test y))) c.joined l.each in (
              subst (λ y. IsTrue (test y)) same each.0,
              record { elements = c.more; has_elements = subst (λ y. HasElements g y c.more) behind c.has_elements; many = omega arith; each = each.1 },
            )
      ]

  list_behind : (b : Bool) → IsTrue b ↔ IsListOf g test 0 rest → IsTrue (b && test first) ↔ IsListOf g test 0 x
  list_behind true is = (λ t. longer t (is.0 refl), λ l. (shorter l).0)
  list_behind false is = (λ h. cc, λ l. is.1 (shorter l).1)

pub all_true : (l : Listed) → l.classes ≡ true → l.ranges ≡ true → l.object_properties ≡ true → l.data_properties ≡ true → l.individuals ≡ true → l.literals ≡ true → l.facets ≡ true → l.keys ≡ true
    → (e : Element) → IfSome (told l e) (λ known. known ≡ true)
all_true l a b c d i t f n (OfSort sort.ClassExpression) = a
all_true l a b c d i t f n (OfSort sort.DataRange) = b
all_true l a b c d i t f n (OfSort sort.ObjectPropertyExpression) = c
all_true l a b c d i t f n (OfSort sort.DataPropertyExpression) = d
all_true l a b c d i t f n (OfSort sort.Individual) = i
all_true l a b c d i t f n (OfSort sort.Literal) = t
all_true l a b c d i t f n (OfSort sort.FacetPair) = f
all_true l a b c d i t f n (OfSort _) = tt
all_true l a b c d i t f n Key = n

pub nil_listed : (g : List Triple) (k : List Entity) (l : Listed) → ((e : Element) → IfSome (told l e) (λ known. known ≡ true)) → IsListed g k (Iri nil_iri) l
nil_listed g k l all e = each (told l e) (all e)
  where
    each : (o : Option Bool) → IfSome o (λ known. known ≡ true) → IfSome o (λ known. IsTrue known ↔ IsListOf g (is_element g k e) 0 (Iri nil_iri))
    each None h = tt
    each (Some known) h = (λ t. nil_is_list g (is_element g k e), λ l. h)

pub cell_listed : (g : List Triple) (k : List Entity) (x first rest : Term) → role_of g x ≡ role.List → chosen g x word.First ≡ first ∷ [] → chosen g x word.Rest ≡ rest ∷ [] → (old new : Listed)
    → ((e : Element) → told new e ≡ option_map (λ b. b && is_element g k e first) (told old e)) → IsListed g k rest old → IsListed g k x new
cell_listed g k x first rest cell one_first one_rest old new is listed e =
    subst (λ o. IfSome o (λ known. IsTrue known ↔ IsListOf g (is_element g k e) 0 x)) (sym (is e)) (each (told old e) (listed e))
  where
    each : (o : Option Bool) → IfSome o (λ known. IsTrue known ↔ IsListOf g (is_element g k e) 0 rest)
        → IfSome (option_map (λ b. b && is_element g k e first) o) (λ known. IsTrue known ↔ IsListOf g (is_element g k e) 0 x)
    each None h = tt
    each (Some known) h = list_behind g (is_element g k e) x first rest cell one_first one_rest known h

-- where the walk comes to a list of which it is known, what was walked is known too
pub walk_known : (g : List Triple) (test : Term → Bool) (x : Term) (count : ℕ) (y : Term) → IsWalked g test x count y → (least : ℕ) (known : Bool) → least ≤ count
    → IsTrue known ↔ IsListOf g test 0 y → IsTrue known ↔ IsListOf g test least x
walk_known g test x count y w least known enough is = (
  λ t.
      let l = is.0 t in
      record {
        elements = w.before ++ l.elements;
        has_elements = w.onward l.elements l.has_elements;
        many = omega (arith, enough, length-append w.before l.elements, w.counted);
        each = all_more (λ z. IsTrue (test z)) w.before l.elements w.each l.each;
      },
  λ l.
      let left = w.back l.elements l.has_elements in
      is.1 (record {
        elements = left.0;
        has_elements = left.1;
        many = omega arith;
        each = all_behind (λ z. IsTrue (test z)) w.before left.0 (subst (AllByRecursion (λ z. IsTrue (test z))) left.2 l.each);
      }),
)

-- what is known by numbers

push_keeps : {X : Type 0} (P : ℕ → X → Type 0) (xs : List X) (x : X) → ((i : ℕ) → IfSome (slice_get xs i) (P i)) → ((i : ℕ) → P i x) → (i : ℕ) → IfSome (slice_get (xs ++ x ∷ []) i) (P i)
push_keeps P [] x old new zero = new zero
push_keeps P [] x old new (suc i) = old i
push_keeps P (y ∷ xs) x old new zero = old zero
push_keeps P (y ∷ xs) x old new (suc i) = push_keeps (λ m. P (suc m)) xs x (λ m. old (suc m)) (λ m. new (suc m)) i

module _ (g : List Triple) (k : List Entity) where
  pub one_unknown : (lists : List (Option Listed)) → AreKnownLists g k lists → AreKnownLists g k (lists ++ None ∷ [])
  one_unknown lists are = record { at = push_keeps (IsKnownAt g k) lists None are.at (λ number label is. tt) }

  pub known_here : (lists : List (Option Listed)) (roles : RoleTable) (number : ℕ) (label : List ℕ) (known : Option Listed) → AreKnownLists g k lists → IsTableOf g roles
      → slice_get (keys_of roles.nodes) number ≡ Some label → slice_get lists number ≡ Some known → IfSome known (IsListed g k (Blank label))
  known_here lists roles number label known are table is at =
      subst (λ o. IfSome o (IsKnownAt g k number)) at (are.at number) label (subst (λ ls. slice_get ls number ≡ Some label) (keys_are g roles.nodes table.nodes) is)

  pub known_at_node : (roles : RoleTable) (number : ℕ) (label : List ℕ) (known : Option Listed) → IsTableOf g roles → slice_get (keys_of roles.nodes) number ≡ Some label
      → IfSome known (IsListed g k (Blank label)) → IsKnownAt g k number known
  known_at_node roles number label known table is listed other at =
      let same = same_Some label other (sym (subst (λ ls. slice_get ls number ≡ Some label) (keys_are g roles.nodes table.nodes) is) ∙ at) in
      subst (λ l. IfSome known (IsListed g k (Blank l))) same listed
