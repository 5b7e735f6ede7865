-- Tests over the trees with some numbers, as tests over the numbers.
use Rattle.std.proofs.Common.{◌≡◌, ℕ, Bool, false, ◌||◌, not, List, [], ◌∷◌, Option, None, Some, map, refl, sym, ap, ◌∙◌}
use Rattle.std.proofs.Math.Bool.{or_assoc}
use Rattle.std.specs.List.{cons_option, filter_map, list_any}
use Rattle.owl_tree.specs.Trees.{Tree}
use Rattle.rdf_terms.specs.Datatypes.{allows_facet}
use Rattle.dl_rules.specs.Local.{facet_in, is_off}

pub any_map : {X Y : Type 0} (test : Y → Bool) (f : X → Y) (xs : List X) → list_any test (map f xs) ≡ list_any (λ x. test (f x)) xs
any_map test f [] = refl
any_map test f (x ∷ xs) = ap (λ (b : Bool). test (f x) || b) (any_map test f xs)

-- one more, where there is one
any_option : {X : Type 0} (test : X → Bool) (o : Option X) (xs : List X) → list_any test (cons_option o xs) ≡ (list_any test (cons_option o []) || list_any test xs)
any_option test None xs = refl
any_option test (Some x) xs = sym (or_assoc (test x) false (list_any test xs))

-- a facet of a list is off where the list is
pub off_each : (datatype : List ℕ) (f : ℕ → Tree) (ids : List ℕ) → is_off (Some datatype) (map f ids) ≡ list_any (λ id. is_off (Some datatype) (f id ∷ [])) ids
off_each datatype f [] = refl
off_each datatype f (id ∷ ids) =
    any_option (λ facet. not (allows_facet datatype facet)) (facet_in (f id)) (filter_map facet_in (map f ids))
    ∙ ap (λ (b : Bool). is_off (Some datatype) (f id ∷ []) || b) (off_each datatype f ids)
