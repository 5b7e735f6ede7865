-- Trees of two arenas that are equal.
use Rattle.std.proofs.Common.{◌≡◌, ◌<◌, ◌≤◌, ℕ, suc, zero, max, Bool, List, [], ◌∷◌, Option, None, Some, length, get_or, refl, sym, ap, ◌∙◌, arith}
use Rattle.std.specs.Prelude.{◌↔◌, IsTrue, map}
use Rattle.std.specs.Bool.{Decides}
use Rattle.std.specs.List.{AllByRecursion}
use Rattle.std.specs.Option.{option_eq, option_map}
use Rattle.std.proofs.lemmas.List.{get_or-map}
use Rattle.owl_doc.specs.Roots.{HaveSameRoot}
use Rattle.owl_tree.specs.Trees.{Tree, leaf, node, tag_of, atom_in, kids_in, kids_of}
use Rattle.owl_tree.proofs.TreeLaws.{kids_of_list_of}

-- the least number above all of the list
abbrev pub above : List ℕ → ℕ
above [] = 0
above (id ∷ ids) = max (suc id) (above ids)

pub above_within : (bound : ℕ) (ids : List ℕ) → AllByRecursion (λ id. id < bound) ids → above ids ≤ bound
above_within bound [] h = omega arith
above_within bound (id ∷ ids) h = omega (arith, h.0, above_within bound ids h.1)

pub above_each : (ids : List ℕ) (place d : ℕ) → place < length ids → get_or ids place d < above ids
above_each [] place d h = absurd (omega arith)
above_each (id ∷ ids) zero d h = omega arith
above_each (id ∷ ids) (suc place) d h = omega (arith, above_each ids place d (omega arith))

-- lists that are equal are so at each place
pub differ_at : (f g : ℕ → Tree) (ids others : List ℕ) (place x y : ℕ) → place < length ids → place < length others → x ≡ get_or ids place x → y ≡ get_or others place y → (f x ≡ g y → ⊥) → map f ids ≡ map g others → ⊥
differ_at f g ids others place x y h k e e' differ same =
    let first = get_or-map f ids place x (f x) h in
    let second = get_or-map g others place y (f x) k in
    let between = ap (λ (ts : List Tree). get_or ts place (f x)) same in
    differ (ap f e ∙ sym first ∙ between ∙ second ∙ sym (ap g e'))

-- a tree is known by its tag, atom and kids
pub same_parts : (t u : Tree) → tag_of t ≡ tag_of u → atom_in t ≡ atom_in u → kids_in t ≡ kids_in u → t ≡ u
same_parts (leaf t a) (leaf u b) e f g = cc
same_parts (leaf t a) (node u ls) e f g = cc
same_parts (node t ks) (leaf u b) e f g = cc
same_parts (node t ks) (node u ls) e f g =
    let kids = sym (kids_of_list_of ks) ∙ ap kids_of g ∙ kids_of_list_of ls in
    cc

pub same_tree : (t u : Tree) (b : Bool) (ts us : List Tree) → HaveSameRoot t u → ts ≡ kids_in t → us ≡ kids_in u → IsTrue b ↔ (ts ≡ us) → IsTrue b ↔ (t ≡ u)
same_tree t u b ts us root e f kids = (
  λ h. same_parts t u root.tag root.atom (sym e ∙ kids.0 h ∙ f),
  λ same. kids.1 (e ∙ ap kids_in same ∙ sym f),
)

-- where values are compared, so are options of what holds them
pub options_same : {X Y : Type 0} (f : X → Y) (eq : Y → Y → Bool) → ((x y : Y) → Decides (eq x y) (x ≡ y)) → (a b : Option X) → Decides (option_eq (λ x y. eq (f x) (f y)) a b) (option_map f a ≡ option_map f b)
options_same f eq same None None = (λ h. refl, λ e. refl)
options_same f eq same None (Some b) = (λ h. cc, λ e. cc)
options_same f eq same (Some a) None = (λ h. cc, λ e. cc)
options_same f eq same (Some a) (Some b) = (λ h. ap Some ((same (f a) (f b)).0 h), λ e. (same (f a) (f b)).1 cc)
