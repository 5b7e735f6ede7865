-- What the triples of a node say by themselves is what the graph says of the node.
use Rattle.std.specs.Prelude.{◌≡◌, ◌↔◌, List, [], ◌∷◌, None, Option, Some}
use Rattle.std.proofs.Common.{refl, ap}
use Rattle.std.proofs.lemmas.Option.{same_Some}
use Rattle.rdf_graph.specs.declared.term.Term.{Term}
use Rattle.rdf_graph.specs.declared.triple.Triple.{Triple}
use Rattle.rdf_meaning.specs.declared.word.Word.{Word}
use Rattle.rdf_meaning.specs.declared.word.Word.TheVariants as word
use Rattle.rdf_meaning.specs.Denotation.{Fits, facets_of, of_node}
use Rattle.rdf_meaning.specs.Nodes.{chosen, of_subject, role_of, roles_of}
use Rattle.rdf_meaning.specs.Rows.{Row}
use Rattle.rdf_meaning.specs.Statements.{IsReification}
use Rattle.rdf_rows.specs.Chosen.{IsReificationOf, both_of, facets, has_facet, objects_with, the_cell, the_only}
use Rattle.rdf_rows.specs.Fits.{FitsRow}
use Rattle.rdf_rows.specs.Roles.{roles_in}

pub chosen_is : (g : List Triple) (x : Term) (w : Word) → chosen g x w ≡ objects_with w (of_subject g x)
unfolding chosen
chosen_is g x w = refl

pub roles_are : (g : List Triple) (x : Term) → roles_of g x ≡ roles_in (of_subject g x)
unfolding roles_of roles_in
roles_are g x = refl

pub facets_are : (g : List Triple) (x : Term) → facets_of g x ≡ facets (of_subject g x)
unfolding has_facet
facets_are g x = refl

pub fits_is : (g : List Triple) (x : Term) (row : Row) → Fits g (of_node x) row ↔ FitsRow (role_of g x) (of_subject g x) row
unfolding chosen
fits_is g x row = (λ f. f, λ f. f)

pub reification_is : (g : List Triple) (x : Term) → IsReification g x ↔ IsReificationOf (of_subject g x)
unfolding chosen
reification_is g x = (
  λ r. record { one_type = r.one_type; one_source = r.one_source; one_property = r.one_property; one_target = r.one_target },
  λ r. record { one_type = r.one_type; one_source = r.one_source; one_property = r.one_property; one_target = r.one_target },
)

-- the only element of a list

pub only_is : {X : Type 0} (xs : List X) (x : X) → (the_only xs ≡ Some x) ↔ (xs ≡ x ∷ [])
only_is [] x = (λ e. cc, λ e. cc)
only_is (y ∷ []) x = (λ e. ap (λ z. z ∷ []) (same_Some y x e), ap the_only)
only_is (y ∷ z ∷ xs) x = (λ e. cc, λ e. ap the_only e)

both_are : {X : Type 0} (first second : Option X) (x y : X) → (both_of first second ≡ Some (x, y)) ↔ ((first ≡ Some x) × (second ≡ Some y))
both_are None second x y = (λ e. cc, λ h. let e = h.0 in cc)
both_are (Some u) None x y = (λ e. cc, λ h. let e = h.1 in cc)
both_are (Some u) (Some v) x y = (
  λ e. let same = same_Some (u, v) (x, y) e in (ap (λ p. Some p.0) same, ap (λ p. Some p.1) same),
  λ h. let left = same_Some u x h.0 in let right = same_Some v y h.1 in λ i. Some (left i, right i),
)

pub cell_is : (ts : List Triple) (x y : Term) →
    (the_cell ts ≡ Some (x, y)) ↔ ((objects_with word.First ts ≡ x ∷ []) × (objects_with word.Rest ts ≡ y ∷ []))
cell_is ts x y =
    let both = both_are (the_only (objects_with word.First ts)) (the_only (objects_with word.Rest ts)) x y in
    let first = only_is (objects_with word.First ts) x in
    let rest = only_is (objects_with word.Rest ts) y in
    (λ e. (first.0 (both.0 e).0, rest.0 (both.0 e).1), λ h. both.1 (first.1 h.0, rest.1 h.1))
