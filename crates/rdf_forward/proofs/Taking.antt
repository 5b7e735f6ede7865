-- What stands at parts, over the numbers of an arena.
use Rattle.std.proofs.Common.{◌≡◌, ◌<◌, ◌≤◌, ℕ, suc, ◌-◌, List, [], ◌∷◌, ◌++◌, length, map, take, drop, get_or, refl, sym, ap, ◌∙◌, subst, arith}
use Rattle.std.specs.List.{AllByRecursion}
use Rattle.std.proofs.lemmas.List.{drop-map, length-map, take-map}
use Rattle.std.proofs.Math.Seq.{take-length}
use Rattle.std.proofs.lemmas.Simd.{map-map}
use Rattle.owl_arena.specs.Held.{tree_at, trees_at}
use Rattle.owl_arena.proofs.HeldLaws.{below_later}
use Rattle.owl_tree.specs.Trees.{Tree, Kids, leaf, node, no_kids, kid, kids_in, list_of}
use Rattle.rdf_meaning.specs.declared.row.Want.{Want}
use Rattle.rdf_meaning.specs.declared.row.Want.TheVariants.{Many, Whole, Keys}
use Rattle.rdf_meaning.specs.declared.row.Part.{Part}
use Rattle.owl_tree.specs.declared.row.Sort.{Sort}
use Rattle.owl_tree.specs.declared.tag.Tag.{Tag}
use Rattle.rdf_mapping.specs.Forms.{Form, list_form}
use Rattle.rdf_mapping.specs.Drawing.{Kid, Placed, form_of, forms_of, kid_of, kids_seen, listed, placed_at, placed_by}
use Rattle.rdf_mapping.specs.Arenas.{forms_at, kids_at}

pub first_at : {X : Type 0} (xs : List X) (d : X) → 1 ≤ length xs → xs ≡ get_or xs 0 d ∷ take (length xs - 1) (drop 1 xs)
first_at {X} [] d h = absurd (omega arith)
first_at {X} (y ∷ ys) d h = let n : suc (length ys) - 1 ≡ length ys = omega arith in ap (λ (zs : List X). y ∷ zs) (sym (ap (λ (k : ℕ). take k ys) n ∙ take-length ys))

pub only_one : {X : Type 0} (xs : List X) (x : X) → length xs < 2 → 1 ≤ length xs → x ≡ get_or xs 0 x → xs ≡ x ∷ []
only_one {X} [] x h k e = absurd (omega arith)
only_one {X} (y ∷ []) x h k e = ap (λ (z : X). z ∷ []) (sym e)
only_one {X} (y ∷ z ∷ ys) x h k e = absurd (omega arith)

pub only_two : {X : Type 0} (xs : List X) (x y : X) → length xs < 3 → 2 ≤ length xs → x ≡ get_or xs 0 x → y ≡ get_or xs 1 y → xs ≡ x ∷ y ∷ []
only_two {X} [] x y h k e f = absurd (omega arith)
only_two {X} (z ∷ []) x y h k e f = absurd (omega arith)
only_two {X} (z ∷ w ∷ []) x y h k e f = ap (λ (v : X). v ∷ w ∷ []) (sym e) ∙ ap (λ (v : X). x ∷ v ∷ []) (sym f)
only_two {X} (z ∷ w ∷ v ∷ ys) x y h k e f = absurd (omega arith)

pub only_three : {X : Type 0} (xs : List X) (x y z : X) → length xs < 4 → 3 ≤ length xs → x ≡ get_or xs 0 x → y ≡ get_or xs 1 y → z ≡ get_or xs 2 z → xs ≡ x ∷ y ∷ z ∷ []
only_three {X} [] x y z h k e f g = absurd (omega arith)
only_three {X} (a ∷ []) x y z h k e f g = absurd (omega arith)
only_three {X} (a ∷ b ∷ []) x y z h k e f g = absurd (omega arith)
only_three {X} (a ∷ b ∷ c ∷ []) x y z h k e f g = ap (λ (v : X). v ∷ b ∷ c ∷ []) (sym e) ∙ ap (λ (v : X). x ∷ v ∷ c ∷ []) (sym f) ∙ ap (λ (v : X). x ∷ y ∷ v ∷ []) (sym g)
only_three {X} (a ∷ b ∷ c ∷ d ∷ ys) x y z h k e f g = absurd (omega arith)

pub two_and : {X : Type 0} (xs : List X) (x y : X) → 2 ≤ length xs → x ≡ get_or xs 0 x → y ≡ get_or xs 1 y → xs ≡ x ∷ y ∷ take (length xs - 2) (drop 2 xs)
two_and {X} [] x y h e f = absurd (omega arith)
two_and {X} (z ∷ []) x y h e f = absurd (omega arith)
two_and {X} (z ∷ w ∷ ys) x y h e f =
    let n : suc (suc (length ys)) - 2 ≡ length ys = omega arith in
    ap (λ (v : X). v ∷ w ∷ ys) (sym e) ∙ ap (λ (v : X). x ∷ v ∷ ys) (sym f) ∙ ap (λ (zs : List X). x ∷ y ∷ zs) (sym (ap (λ (k : ℕ). take k ys) n ∙ take-length ys))

forms_seen : (ks : Kids) → forms_of (kids_seen ks) ≡ map form_of (list_of ks)
forms_seen no_kids = refl
forms_seen (kid t ks) = ap (λ (fs : List Form). form_of t ∷ fs) (forms_seen ks)

members_are : (t : Tree) → (kid_of t).members ≡ map form_of (kids_in t)
members_are (leaf t a) = refl
members_are (node t ks) = forms_seen ks

-- the members of a tree, by the numbers of its kids
pub members_at : (trees : List Tree) (id : ℕ) (ids : List ℕ) → trees_at trees ids ≡ kids_in (tree_at trees id) → (kid_of (tree_at trees id)).members ≡ forms_at trees ids
members_at trees id ids e = members_are (tree_at trees id) ∙ ap (map form_of) (sym e) ∙ map-map form_of (tree_at trees) ids

pub forms_at_kids : (trees : List Tree) (ids : List ℕ) → forms_of (kids_at trees ids) ≡ forms_at trees ids
forms_at_kids trees ids = map-map (λ (k : Kid). k.form) (λ (id : ℕ). kid_of (tree_at trees id)) ids

-- a list takes all but so many
pub takes_list : (trees : List Tree) (part : Part) (s : Sort) (least left : ℕ) (ids front back : List ℕ) → part.want ≡ Many s least → front ≡ take (length ids - left) ids → back ≡ drop (length ids - left) ids → (behind : List Kid → List Placed) → placed_by part.want part.place left behind (kids_at trees ids) ≡ placed_at part.place (listed least (forms_at trees front)) ∷ behind (kids_at trees back)
takes_list trees part s least left ids front back w f b behind =
    let see : ℕ → Kid = λ id. kid_of (tree_at trees id) in
    let count : length (kids_at trees ids) ≡ length ids = length-map ids see in
    let fore : forms_of (take (length (kids_at trees ids) - left) (kids_at trees ids)) ≡ forms_at trees front =
    ap (λ (n : ℕ). forms_of (take (n - left) (kids_at trees ids))) count
    ∙ ap forms_of (take-map see (length ids - left) ids ∙ ap (map see) (sym f))
    ∙ forms_at_kids trees front in
    let rest : drop (length (kids_at trees ids) - left) (kids_at trees ids) ≡ kids_at trees back =
    ap (λ (n : ℕ). drop (n - left) (kids_at trees ids)) count ∙ drop-map see (length ids - left) ids ∙ ap (map see) (sym b) in
    ap (λ (u : Want). placed_by u part.place left behind (kids_at trees ids)) w
    ∙ ap (λ (fs : List Form). placed_at part.place (listed least fs) ∷ behind (drop (length (kids_at trees ids) - left) (kids_at trees ids))) fore
    ∙ ap (λ (ks : List Kid). placed_at part.place (listed least (forms_at trees front)) ∷ behind ks) rest

pub takes_whole : (trees : List Tree) (part : Part) (t : Tag) (s : Sort) (least left id : ℕ) (ids members others : List ℕ) → part.want ≡ Whole t s least → ids ≡ id ∷ others → trees_at trees members ≡ kids_in (tree_at trees id) → (behind : List Kid → List Placed) → placed_by part.want part.place left behind (kids_at trees ids) ≡ placed_at part.place (listed least (forms_at trees members)) ∷ behind (kids_at trees others)
takes_whole trees part t s least left id ids members others w e m behind =
    ap (λ (u : Want). placed_by u part.place left behind (kids_at trees ids)) w
    ∙ ap (λ (l : List ℕ). placed_by (Whole t s least) part.place left behind (kids_at trees l)) e
    ∙ ap (λ (fs : List Form). placed_at part.place (listed least fs) ∷ behind (kids_at trees others)) (members_at trees id members m)

pub takes_keys : (trees : List Tree) (part : Part) (left a b : ℕ) (ids objects keys others : List ℕ) → part.want ≡ Keys → ids ≡ a ∷ b ∷ others → trees_at trees objects ≡ kids_in (tree_at trees a) → trees_at trees keys ≡ kids_in (tree_at trees b) → (behind : List Kid → List Placed) → placed_by part.want part.place left behind (kids_at trees ids) ≡ placed_at part.place (list_form (forms_at trees objects ++ forms_at trees keys)) ∷ behind (kids_at trees others)
takes_keys trees part left a b ids objects keys others w e m n behind =
    ap (λ (u : Want). placed_by u part.place left behind (kids_at trees ids)) w
    ∙ ap (λ (l : List ℕ). placed_by Keys part.place left behind (kids_at trees l)) e
    ∙ ap (λ (fs : List Form). placed_at part.place (list_form (fs ++ (kid_of (tree_at trees b)).members)) ∷ behind (kids_at trees others)) (members_at trees a objects m)
    ∙ ap (λ (fs : List Form). placed_at part.place (list_form (forms_at trees objects ++ fs)) ∷ behind (kids_at trees others)) (members_at trees b keys n)

-- kids of a kid
pub below_kid : (ids : List ℕ) (id above : ℕ) → id < above → AllByRecursion (λ k. k < id) ids → AllByRecursion (λ k. k < above) ids
below_kid ids id above h all = below_later ids id above (omega (arith, h)) all

pub first_below : (ids : List ℕ) (id above : ℕ) (others : List ℕ) → ids ≡ id ∷ others → AllByRecursion (λ k. k < above) ids → id < above
first_below ids id above others e all = (subst (AllByRecursion (λ (k : ℕ). k < above)) e all).0

pub second_below : (ids : List ℕ) (id other above : ℕ) (others : List ℕ) → ids ≡ id ∷ other ∷ others → AllByRecursion (λ k. k < above) ids → other < above
second_below ids id other above others e all = (subst (AllByRecursion (λ (k : ℕ). k < above)) e all).1.0
