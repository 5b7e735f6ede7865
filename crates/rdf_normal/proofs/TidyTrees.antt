-- Trees that are tidied by their numbers.
use Rattle.std.proofs.Common.{◌≡◌, ◌<◌, ◌≤◌, ◌+◌, arith, ℕ, Bool, true, false, cond, not, List, [], ◌∷◌, ◌++◌, length, map, take, get_or, Option, None, Some, refl, sym, ap, ◌∙◌, subst}
use Rattle.std.specs.Option.{is_some, option_map}
use Rattle.std.specs.Cmp.{unsigned_Decides}
use Rattle.std.specs.List.{AllByRecursion}
use Rattle.std.proofs.lemmas.List.{get_or-map, get_or-take, get_or_default, length-take, length_push, map-append, take-append-le, take_more}
use Rattle.std.proofs.lemmas.List.Kept.{IsStrictlySortedBy-filter}
use Rattle.std.proofs.lemmas.Option.{none-some}
use Rattle.owl_arena.specs.Held.{AreHeld, node_over, tree_at, trees_at}
use Rattle.owl_arena.specs.Shared.{AreShared}
use Rattle.owl_list.specs.Ascending.{ascending}
use Rattle.owl_list.proofs.AscendingLaws.{all_in, ascending_again, ascending_ascends}
use Rattle.owl_tree.specs.declared.tag.Tag.{Tag}
use Rattle.owl_tree.specs.declared.tag.Tag.TheVariants as tags
use Rattle.owl_tree.specs.Canonical.{arranged, canonical}
use Rattle.owl_tree.proofs.CanonicalLaws.{node_of_forms}
use Rattle.owl_tree.specs.Order.{tree_cmp}
use Rattle.owl_tree.specs.OrderLaws.{same_number, only_equal_trees_tie, trees_total}
use Rattle.owl_tree.specs.Rows.{is_tag, row_of, set_start}
use Rattle.owl_tree.specs.Tags.{number_of}
use Rattle.owl_tree.specs.Trees.{Tree, leaf, node, atom_in, kids_in, tag_of}
use Rattle.rdf_normal.specs.Makings.{AreMade, IsMade, image}
use Rattle.rdf_normal.specs.NormalForms.{is_needless, needed, needed_in, over, tidied}
use Rattle.rdf_normal.proofs.Extending.{are_made_at, forms_at, made_at, made_more, tree_later}
use Rattle.rdf_normal.proofs.TidiedLaws.{tidieds_map}

-- a leaf stays
pub leaf_tidied : (t : Tree) → (None ≡ atom_in t → ⊥) → t ≡ tidied t
leaf_tidied (leaf u a) h = refl
leaf_tidied (node u ks) h = absurd (h refl)

-- the number that is known of a kid is that of the tidied kid
image_is : (ts : List Tree) (known : List ℕ) (id k : ℕ) → id ≡ length known → id ≤ length ts → trees_at ts known ≡ map tidied (take id ts) → k < id → tree_at ts (image known k) ≡ tidied (tree_at ts k)
image_is ts known id k e l f m =
    let long = length-take id ts in
    let d : Tree = tree_at ts 0 in
    sym (get_or-map (tree_at ts) known k 0 d (omega arith))
    ∙ ap (λ (xs : List Tree). get_or xs k d) f
    ∙ get_or-map tidied (take id ts) k d d (omega arith)
    ∙ ap tidied (get_or-take id ts k d m ∙ get_or_default ts k d _ (omega arith))

pub images_are : (ts : List Tree) (known : List ℕ) (id : ℕ) (ids : List ℕ) → id ≡ length known → id ≤ length ts → trees_at ts known ≡ map tidied (take id ts) → AllByRecursion (λ k. k < id) ids → trees_at ts (map (image known) ids) ≡ map tidied (trees_at ts ids)
images_are ts known id [] e l f below = refl
images_are ts known id (k ∷ ks) e l f below =
    let first = image_is ts known id k e l f below.0 in
    let rest = images_are ts known id ks e l f below.1 in
    cc

pub images_held : (ts : List Tree) (known : List ℕ) (ids : List ℕ) → AreHeld ts known → AllByRecursion (λ k. k < length known) ids → AreHeld ts (map (image known) ids)
images_held ts known [] held below = tt
images_held ts known (k ∷ ks) held below =
    (all_in (λ n. n < length ts) known (image known k) held (k, below.0, get_or_default known k _ 0 below.0), images_held ts known ks held below.1)

node_tidied : (t : Tree) (tag : Tag) (us : List Tree) → tag ≡ tag_of t → None ≡ atom_in t → us ≡ map tidied (kids_in t) → over tag (needed_in tag (arranged (set_start (row_of tag)) us)) ≡ tidied t
node_tidied (leaf u a) tag us e f g = absurd (none-some a f)
node_tidied (node u ks) tag us e f g = let same = g ∙ sym (tidieds_map ks) in cc

-- the tidied kids make a tidied node
pub tidied_over : (ts : List Tree) (t : Tree) (tag : Tag) (kids images : List ℕ) → AreShared ts → AreHeld ts images → tag ≡ tag_of t → None ≡ atom_in t → is_tag tags.Notes tag ≡ false → trees_at ts kids ≡ kids_in t → trees_at ts images ≡ map tidied (trees_at ts kids) → canonical (node_over ts tag images) ≡ tidied t
tidied_over ts t tag kids images shared held e f other g h =
    node_of_forms tag (trees_at ts images) (forms_at ts images shared held)
    ∙ ap (λ (b : Bool). over tag (cond b (needed (arranged (set_start (row_of tag)) (trees_at ts images))) (arranged (set_start (row_of tag)) (trees_at ts images)))) (sym other)
    ∙ node_tidied t tag (trees_at ts images) e f (h ∙ ap (map tidied) g)

-- what is needed stays in order
needed_again : (ts : List Tree) → ascending tree_cmp (needed (ascending tree_cmp ts)) ≡ needed (ascending tree_cmp ts)
needed_again ts =
    ascending_again tree_cmp trees_total only_equal_trees_tie (needed (ascending tree_cmp ts))
    (IsStrictlySortedBy-filter tree_cmp (λ t. not (is_needless (ascending tree_cmp ts) t)) (ascending tree_cmp ts) (ascending_ascends tree_cmp trees_total ts))

notes_from_first : (xs : List Tree) → arranged (set_start (row_of tags.Notes)) xs ≡ ascending tree_cmp xs
unfolding row_of
notes_from_first xs = refl

notes_are_notes : is_tag tags.Notes tags.Notes ≡ true
unfolding number_of
notes_are_notes = refl

-- and the needed ones of them make tidied annotations
pub notes_tidied : (ts us : List Tree) (t : Tree) (tag : Tag) (kids images kept : List ℕ) → AreShared us → tag ≡ tag_of t → None ≡ atom_in t → tags.Notes ≡ tag → trees_at ts kids ≡ kids_in t → trees_at ts images ≡ map tidied (trees_at ts kids) → AreMade ts us kept (needed (ascending tree_cmp (trees_at ts images))) → canonical (node_over us tag kept) ≡ tidied t
notes_tidied ts us t tag kids images kept shared e f is g h k =
    let xs : List Tree = trees_at ts images in
    let ns : List Tree = needed (ascending tree_cmp xs) in
    let whole : over tags.Notes (needed_in tags.Notes (arranged (set_start (row_of tags.Notes)) xs)) ≡ tidied t = node_tidied t tags.Notes xs (is ∙ e) f (h ∙ ap (map tidied) g) in
    let first : over tags.Notes ns ≡ over tags.Notes (needed_in tags.Notes (arranged (set_start (row_of tags.Notes)) xs)) =
    ap (λ (ys : List Tree). over tags.Notes (needed ys)) (sym (notes_from_first xs))
    ∙ ap (λ (b : Bool). over tags.Notes (cond b (needed (arranged (set_start (row_of tags.Notes)) xs)) (arranged (set_start (row_of tags.Notes)) xs))) (sym notes_are_notes) in
    ap (λ (u : Tag). canonical (node_over us u kept)) (sym is)
    ∙ node_of_forms tags.Notes (trees_at us kept) (forms_at us kept shared k.held)
    ∙ ap (λ (ys : List Tree). over tags.Notes ys) (notes_from_first (trees_at us kept) ∙ ap (ascending tree_cmp) k.trees ∙ needed_again xs)
    ∙ first
    ∙ whole

-- one tree further
pub tidied_more : (ts us vs : List Tree) (ids : List ℕ) (place new : ℕ) → AreMade ts us ids (map tidied (take place ts)) → place < length ts → IsMade us vs new (tidied (tree_at us place)) → AreMade ts vs (ids ++ new ∷ []) (map tidied (take (place + 1) ts))
tidied_more ts us vs ids place new h l k =
    are_made_at ts vs (ids ++ new ∷ []) _ _
    (sym (map-append tidied (take place ts) (tree_at ts place ∷ [])) ∙ ap (map tidied) (sym (take_more ts place _ l)))
    (made_more ts us vs ids _ new _ h (made_at us vs new _ _ (ap tidied (tree_later ts us place h.extends l)) k))

-- what was tidied of the first trees, in the arena as it is now
pub known_now : (ts us : List Tree) (ids : List ℕ) (place : ℕ) → AreMade ts us ids (map tidied (take place ts)) → place ≤ length ts → trees_at us ids ≡ map tidied (take place us)
known_now ts us ids place h l =
    h.trees ∙ ap (map tidied) (sym (take-append-le place ts h.extends.more l) ∙ ap (take place) (sym h.extends.trees))

pub images_there : (ts : List Tree) (known : List ℕ) (id : ℕ) (kids images : List ℕ) → id ≡ length known → AreHeld ts known → AllByRecursion (λ k. k < id) kids → images ≡ map (image known) kids → AreHeld ts images
images_there ts known id kids images e held below f =
    subst (AreHeld ts) (sym f) (images_held ts known kids held (subst (λ n. AllByRecursion (λ k. k < n) kids) e below))

pub images_tidied : (ts : List Tree) (known : List ℕ) (id : ℕ) (kids images : List ℕ) → id ≡ length known → id ≤ length ts → trees_at ts known ≡ map tidied (take id ts) → AllByRecursion (λ k. k < id) kids → images ≡ map (image known) kids → trees_at ts images ≡ map tidied (trees_at ts kids)
images_tidied ts known id kids images e l f below g = ap (trees_at ts) g ∙ images_are ts known id kids e l f below

pub notes_told : (t : Tag) → is_tag tags.Notes t ≡ true → tags.Notes ≡ t
notes_told t e = same_number tags.Notes t ((unsigned_Decides (number_of tags.Notes) (number_of t)).0 e)

pub no_value : {X Y : Type 0} (f : X → Y) (o : Option X) (y : Option Y) (b : Bool) → option_map f o ≡ y → b ≡ is_some o → b ≡ false → None ≡ y
no_value {X} {Y} f (Some x) y b e g h = cc
no_value {X} {Y} f None y b e g h = e

pub one_longer : (ids now : List ℕ) (id place : ℕ) → now ≡ ids ++ id ∷ [] → length ids ≡ place → length now ≡ place + 1
one_longer ids now id place e f = let more = length_push ids id in let same = ap length e in omega arith

pub tidied_further : (ts us vs : List Tree) (ids now : List ℕ) (place id new : ℕ) → AreMade ts us ids (map tidied (take place ts)) → place < length ts → id ≡ place → IsMade us vs new (tidied (tree_at us id)) → now ≡ ids ++ new ∷ [] → AreMade ts vs now (map tidied (take (place + 1) ts))
tidied_further ts us vs ids now place id new h l e k more =
    subst (λ (ns : List ℕ). AreMade ts vs ns (map tidied (take (place + 1) ts))) (sym more)
    (tidied_more ts us vs ids place new h l (subst (λ n. IsMade us vs new (tidied (tree_at us n))) e k))
