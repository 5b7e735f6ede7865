-- Axioms and annotations of an arena without their annotations.
use Rattle.std.proofs.Common.{◌≡◌, ◌<◌, ◌==◌, arith, ℕ, Bool, true, false, ◌&&◌, List, [], ◌∷◌, length, map, filter, Contains, IsTrue, slice_set, refl, sym, ap, ◌∙◌, subst}
use Rattle.std.specs.Prelude.{◌↔◌}
use Rattle.std.specs.FinMap.{nat_cmp-IsAntisymmetric}
use Rattle.std.specs.List.{AllByRecursion, list_any}
use Rattle.std.specs.Ordering.{nat_cmp}
use Rattle.std.proofs.lemmas.Cmp.{nat_cmp_total}
use Rattle.owl_arena.specs.Held.{AreHeld, node_over, tree_at, trees_at}
use Rattle.owl_arena.proofs.HeldLaws.{below_later}
use Rattle.owl_arena.specs.Shared.{AreShared}
use Rattle.owl_list.proofs.AscendingLaws.{all_ascending, all_in, ascending_ascends, ascending_holds, from_map, in_head, in_map, in_tail, same_from_equal, same_map, same_trans}
use Rattle.owl_list.specs.Ascending.{ascending}
use Rattle.owl_tree.specs.declared.tag.Tag.{Tag}
use Rattle.owl_tree.specs.declared.tag.Tag.TheVariants as tags
use Rattle.owl_tree.specs.Canonical.{canonical}
use Rattle.owl_tree.proofs.CanonicalLaws.{ascends_is_canonical}
use Rattle.owl_tree.specs.Order.{tree_cmp}
use Rattle.owl_tree.proofs.TreeLaws.{kids_of_list_of}
use Rattle.owl_tree.specs.Trees.{Tree, leaf, node, no_kids, kid, kids_in, kids_of, list_of, tag_of}
use Rattle.rdf_normal.specs.Makings.{AreMade, Extends, HasBareForms}
use Rattle.rdf_normal.proofs.NeedlessLaws.{any_if, any_told, bare_canonical, from_filter, in_filter, no_notes_ascend, says_more_if, says_more_told}
use Rattle.rdf_normal.specs.NormalForms.{bare, is_annotated, is_needless, needed, says_more}
use Rattle.rdf_normal.specs.OneTriple.{is_one_triple}
use Rattle.rdf_normal.proofs.Extending.{forms_at, held_later, trees_later}

-- over the kids of the tree
pub bare_is : (t : Tree) (tag : Tag) (k : Tree) (ts : List Tree) → tag ≡ tag_of t → k ∷ ts ≡ kids_in t → node tag (kid (node tags.Notes no_kids) (kids_of ts)) ≡ bare t
bare_is (leaf u a) t k ts e f = absurd (cc)
bare_is (node u no_kids) t k ts e f = absurd (cc)
bare_is (node u (kid n ks)) t k ts e f =
    let rest : ts ≡ list_of ks = cc in
    let same = ap kids_of rest ∙ kids_of_list_of ks in
    cc

pub no_kids_bare : (t : Tree) → [] ≡ kids_in t → bare t ≡ t
no_kids_bare (leaf u a) e = refl
no_kids_bare (node u no_kids) e = refl
no_kids_bare (node u (kid n ks)) e = absurd (cc)

pub set_held : (ts us : List Tree) (kids : List ℕ) (none : ℕ) → Extends ts us → AreHeld ts kids → none < length us → AreHeld us (slice_set kids 0 none)
set_held ts us [] none h held l = tt
set_held ts us (k ∷ ks) none h held l = (l, held_later ts us ks h held.1)

pub bare_over : (ts us : List Tree) (t : Tree) (tag : Tag) (kids : List ℕ) (none : ℕ) → Extends ts us → AreHeld ts kids → (length kids ≡ 0 → ⊥) → tag ≡ tag_of t → trees_at ts kids ≡ kids_in t → tree_at us none ≡ canonical (node tags.Notes no_kids) → node_over us tag (slice_set kids 0 none) ≡ bare t
bare_over ts us t tag [] none h held some e f g = absurd (some refl)
bare_over ts us t tag (k ∷ ks) none h held some e f g =
    let first : tree_at us none ≡ node tags.Notes no_kids = g ∙ (ascends_is_canonical (node tags.Notes no_kids)).0 no_notes_ascend in
    let rest = trees_later ts us ks h held.1 in
    ap (λ (xs : List Tree). node tag (kid (tree_at us none) (kids_of xs))) rest
    ∙ ap (λ (x : Tree). node tag (kid x (kids_of (trees_at ts ks)))) first
    ∙ bare_is t tag (tree_at ts k) (trees_at ts ks) e f

-- a number stands among those of the bare forms exactly if some tree of the list says more than its tree
bare_among : (ts : List Tree) (ids said : List ℕ) (id : ℕ) → AreShared ts → id < length ts → HasBareForms ts ids said → Contains said id ↔ (list_any (says_more (tree_at ts id)) (trees_at ts ids) ≡ true)
bare_among ts ids said id shared l h =
    let t = tree_at ts id in
    let us = trees_at ts ids in (
      λ m.
          let u = from_map bare (filter is_annotated us) t ((h.forms t).0 (in_map (tree_at ts) said id m)) in
          let p = from_filter is_annotated us u.element u.inside in
          any_if (says_more t) us u.element p.0 (ap (λ (v : Tree). says_more v u.element) (sym u.value) ∙ says_more_if u.element p.1),
      λ e.
          let u = any_told (says_more t) us e in
          let p = says_more_told t u.0 u.2 in
          let m = subst (λ (v : Tree). Contains (map bare (filter is_annotated us)) v) p.1 (in_map bare (filter is_annotated us) u.0 (in_filter is_annotated us u.0 u.1 p.0)) in
          let k = from_map (tree_at ts) said t ((h.forms t).1 m) in
          subst (Contains said) (shared.one_number k.element id (all_in (λ n. n < length ts) said k.element h.held k.inside) l k.value) k.inside,
    )

same_answer : (a b : Bool) → (IsTrue a → b ≡ true) → (b ≡ true → IsTrue a) → a ≡ b
same_answer true b f g = sym (f refl)
same_answer false true f g = absurd (let e = g refl in cc)
same_answer false false f g = refl

pub needless_told : (ts : List Tree) (ids said : List ℕ) (id : ℕ) (is : Bool) → AreShared ts → id < length ts → IsTrue is ↔ Contains said id → HasBareForms ts ids said → (is_one_triple (tree_at ts id) && is) ≡ is_needless (trees_at ts ids) (tree_at ts id)
needless_told ts ids said id is shared l found h =
    let among = bare_among ts ids said id shared l h in
    let same = same_answer is (list_any (says_more (tree_at ts id)) (trees_at ts ids)) (λ t. among.0 (found.0 t)) (λ e. found.1 (among.1 e)) in
    ap (λ (b : Bool). is_one_triple (tree_at ts id) && b) same

pub kids_held : (ts : List Tree) (id : ℕ) (kids : List ℕ) → id < length ts → AllByRecursion (λ k. k < id) kids → AreHeld ts kids
kids_held ts id kids l below = below_later kids id (length ts) (omega arith) below

each_form : (xs : List Tree) → map canonical xs ≡ xs → AllByRecursion (λ u. canonical u ≡ u) xs
each_form [] f = tt
each_form (x ∷ xs) f = (cc, each_form xs (cc))

each_bare : (xs : List Tree) → ((t : Tree) → Contains xs t → canonical (bare t) ≡ bare t) → map (λ t. canonical (bare t)) xs ≡ map bare xs
each_bare [] f = refl
each_bare (x ∷ xs) f = let first = f x (in_head x xs) in let rest = each_bare xs (λ t m. f t (in_tail x xs t m)) in cc

forms_are : (us : List Tree) → map canonical us ≡ us → map (λ t. canonical (bare t)) (filter is_annotated us) ≡ map bare (filter is_annotated us)
forms_are us e =
    each_bare (filter is_annotated us)
    (λ t m. let p = from_filter is_annotated us t m in bare_canonical t p.1 (all_in (λ u. canonical u ≡ u) us t (each_form us e) p.0))

pub some_kids : (n m : ℕ) (b : Bool) → b ≡ (m == 0) → b ≡ false → m ≡ n → n ≡ 0 → ⊥
some_kids n m b e f h g = let told : (0 == 0) ≡ false = subst (λ k. (k == 0) ≡ false) (h ∙ g) (sym e ∙ f) in cc

pub has_bare_forms : (ts us : List Tree) (ids said now : List ℕ) → AreShared ts → AreHeld ts ids → AreMade ts us said (map (λ t. canonical (bare t)) (filter is_annotated (trees_at ts ids))) → now ≡ ascending nat_cmp said → HasBareForms us ids now
has_bare_forms ts us ids said now shared held h e =
    let same = ascending_holds nat_cmp nat_cmp_total nat_cmp-IsAntisymmetric said in
    let forms : trees_at us said ≡ map bare (filter is_annotated (trees_at us ids)) =
    h.trees ∙ forms_are (trees_at ts ids) (forms_at ts ids shared held) ∙ ap (λ (xs : List Tree). map bare (filter is_annotated xs)) (sym (trees_later ts us ids h.extends held)) in
    let all : HasBareForms us ids (ascending nat_cmp said) = record {
      ascends = ascending_ascends nat_cmp nat_cmp_total said;
      held = all_ascending (λ n. n < length us) nat_cmp said h.held;
      forms =
          same_trans (trees_at us (ascending nat_cmp said)) (trees_at us said) (map bare (filter is_annotated (trees_at us ids)))
          (same_map (tree_at us) (ascending nat_cmp said) said same)
          (same_from_equal _ _ forms);
    } in
    subst (HasBareForms us ids) (sym e) all

-- what is kept of what was put in order
pub kept_made : (ts us : List Tree) (before ids kept : List ℕ) → Extends ts us → AreHeld ts ids → trees_at ts ids ≡ ascending tree_cmp (trees_at ts before) → AreMade us us kept (needed (trees_at us ids)) → AreMade ts us kept (needed (ascending tree_cmp (trees_at ts before)))
kept_made ts us before ids kept h held e k = record {
  extends = h;
  held = k.held;
  trees = k.trees ∙ ap needed (trees_later ts us ids h held ∙ e);
}
