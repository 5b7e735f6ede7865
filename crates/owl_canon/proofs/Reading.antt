-- Trees that are read, one after the other.
use Rattle.std.proofs.Common.{◌≡◌, ◌<◌, ◌≤◌, ◌+◌, ◌^◌, ℕ, List, [], ◌∷◌, ◌++◌, length, refl, sym, ap, ◌∙◌, subst, arith}
use Rattle.std.specs.Prelude.{map}
use Rattle.std.proofs.lemmas.List.{map-append}
use Rattle.owl_arena.specs.Held.{AreHeld, tree_at, trees_at}
use Rattle.owl_arena.specs.Shared.{deepest, heaviest}
use Rattle.owl_canon.specs.Bytes.{atom_bytes, counted, number_bytes, tree_bytes}
use Rattle.owl_canon.specs.Limits.{AreCountable, HasTexts, IsCountable}
use Rattle.owl_canon.specs.Readable.{AreReadable, IsHere, IsReadable}
use Rattle.owl_canon.proofs.EachRead.{HasRead, nothing_read, one_read}
use Rattle.owl_canon.proofs.PuttingTrees.{bytes_of_kids}
use Rattle.owl_tree.specs.declared.atom.Atom.{Atom}
use Rattle.owl_tree.specs.declared.row.AtomSort.{AtomSort}
use Rattle.owl_tree.specs.declared.row.Rest.{Rest}
use Rattle.owl_tree.specs.declared.row.Sort.{Sort}
use Rattle.owl_tree.specs.declared.tag.Tag.{Tag}
use Rattle.owl_tree.specs.Canonical.{EachSetsAscend, canonical}
use Rattle.owl_tree.specs.Rows.{Leaf, Node, Row, fits, row_of, takes}
use Rattle.owl_tree.specs.Shape.{AreShaped, IsShaped}
use Rattle.owl_tree.specs.Tags.{number_of}
use Rattle.owl_tree.specs.Trees.{Kids, Tree, depth, kid, kids_of, leaf, list_of, most_depth, no_kids, node, sum_weight, tag_of, weight}
use Rattle.owl_tree.proofs.CanonicalLaws.{ascends_canonical}
use Rattle.owl_tree.proofs.TreeLaws.{kids_of_list_of}
use Rattle.rdf_normal.specs.Makings.{Extends, IsMade}
use Rattle.rdf_normal.proofs.Extending.{extends_itself, extends_on, held_later, trees_later}
use Rattle.owl_list.proofs.AscendingLaws.{all_pushed}

pub here : (ts us : List Tree) (id : ℕ) (t : Tree) → IsMade ts us id t → IsHere ts us id
here ts us id t h = record { extends = h.extends; held = h.held }

-- ---- one after the other

-- so many are read, and the trees keep their numbers
pub record IsUnderWay (levels count : ℕ) (start : List ℕ) (old now : List Tree) (ids rest : List ℕ) (i : ℕ) : Type 0 where
  pub extends : Extends old now
  pub held : AreHeld now ids
  pub read : HasRead (IsReadable levels) tree_bytes count start (trees_at now ids) rest i

pub none_read : (levels count : ℕ) (start : List ℕ) (old : List Tree) → IsUnderWay levels count start old old [] start 0
none_read levels count start old = record { extends = extends_itself old; held = tt; read = nothing_read (IsReadable levels) tree_bytes count start }

-- the trees with one more number
one_further : (now new : List Tree) (ids : List ℕ) (id : ℕ) → Extends now new → AreHeld now ids → trees_at new (ids ++ id ∷ []) ≡ trees_at now ids ++ tree_at new id ∷ []
one_further now new ids id h k = map-append (tree_at new) ids (id ∷ []) ∙ ap (λ (ts : List Tree). ts ++ tree_at new id ∷ []) (trees_later now new ids h k)

module _ (levels count : ℕ) (start : List ℕ) (old now : List Tree) (ids rest : List ℕ) (i : ℕ) (h : IsUnderWay levels count start old now ids rest i) where
  pub one_tree_read : (new : List Tree) (after ids' : List ℕ) (id : ℕ) → i < count → IsHere now new id →
      ((t : Tree) (more : List ℕ) → IsReadable levels t → rest ≡ tree_bytes t ++ more → (tree_at new id ≡ t) × (after ≡ more)) →
      ids' ≡ ids ++ id ∷ [] → IsUnderWay levels count start old new ids' after (i + 1)
  one_tree_read new after ids' id l k found e =
      let more_trees = one_further now new ids id k.extends h.held in
      subst (λ (ns : List ℕ). IsUnderWay levels count start old new ns after (i + 1)) (sym e) record {
        extends = extends_on old now new h.extends k.extends;
        held = all_pushed (λ n. n < length new) ids id (held_later now new ids k.extends h.held) k.held;
        read =
            subst (λ (ts : List Tree). HasRead (IsReadable levels) tree_bytes count start ts after (i + 1)) (sym more_trees)
            (one_read (IsReadable levels) tree_bytes count start (trees_at now ids) rest i h.read (tree_at new id) after l found);
      }

-- ---- a tree

-- what stands behind the byte of the tag
abbrev pub behind_tag : Tree → List ℕ
behind_tag (leaf t a) = atom_bytes a
behind_tag (node t ks) = counted tree_bytes (list_of ks)

pub tag_first : (t : Tree) (more : List ℕ) → tree_bytes t ++ more ≡ number_of (tag_of t) ∷ (behind_tag t ++ more)
tag_first (leaf t a) more = refl
tag_first (node t ks) more = ap (λ (bs : List ℕ). number_of t ∷ ((number_bytes (length (list_of ks)) ++ bs) ++ more)) (bytes_of_kids ks)

-- what a leaf is read as
pub record IsLeafRead (tag : Tag) (t : Tree) : Type 0 where
  pub atom : Atom
  pub is : t ≡ leaf tag atom
  pub shaped : IsShaped (leaf tag atom)
  pub texts : HasTexts atom
  pub bytes : behind_tag t ≡ atom_bytes atom

pub no_leaf : (tag : Tag) (sort : AtomSort) (ks : Kids) → row_of tag ≡ Leaf sort → IsShaped (node tag ks) → ⊥
no_leaf tag sort ks e h = cc (ap (λ (r : Row). fits r (map tag_of (list_of ks))) e, h.0.row)

pub leaf_read : (t : Tree) (tag : Tag) (sort : AtomSort) → row_of tag ≡ Leaf sort → tag ≡ tag_of t → IsShaped t → IsCountable t → IsLeafRead tag t
leaf_read (leaf u a) tag sort row e h k = record {
  atom = a;
  is = ap (λ (v : Tag). leaf v a) (sym e);
  shaped = subst (λ (v : Tag). IsShaped (leaf v a)) (sym e) h;
  texts = k;
  bytes = refl;
}
leaf_read (node u ks) tag sort row e h k = absurd (no_leaf u sort ks (ap row_of (sym e) ∙ row) h)

-- what a node is read as
pub record IsNodeRead (levels : ℕ) (tag : Tag) (t : Tree) : Type 0 where
  pub kids : List Tree
  pub is : t ≡ node tag (kids_of kids)
  pub readable : AreReadable levels kids
  pub few : length kids < 2 ^ 64
  pub bytes : behind_tag t ≡ counted tree_bytes kids

readable_kids : (ks : Kids) (levels : ℕ) → AreShaped ks → EachSetsAscend ks → AreCountable ks → most_depth ks ≤ levels → levels ≤ deepest → sum_weight ks ≤ heaviest → AreReadable levels (list_of ks)
readable_kids no_kids levels shaped ascends countable d l w = tt
readable_kids (kid t ks) levels shaped ascends countable d l w = (
  record { shaped = shaped.0; ascends = ascends.0; countable = countable.0; depth = omega arith; limit = l; weight = omega arith },
  readable_kids ks levels shaped.1 ascends.1 countable.1 (omega arith) l (omega arith),
)

pub node_read : (t : Tree) (tag : Tag) (front : List Sort) (rest : Rest) (levels less : ℕ) → row_of tag ≡ Node front rest → tag ≡ tag_of t → less + 1 ≡ levels → IsReadable levels t → IsNodeRead less tag t
node_read (leaf u a) tag front rest levels less row e n h = absurd (cc (ap (λ (r : Row). takes r a) (ap row_of (sym e) ∙ row), h.shaped.0))
node_read (node u ks) tag front rest levels less row e n h = record {
  kids = list_of ks;
  is = ap (λ (v : Tag). node v ks) (sym e) ∙ ap (node tag) (sym (kids_of_list_of ks));
  readable =
      let deep : most_depth ks + 1 ≤ levels = h.depth in
      let low = h.limit in
      let heavy : sum_weight ks + 1 ≤ heaviest = h.weight in
      readable_kids ks less h.shaped.1 h.ascends.1 h.countable.1 (omega arith) (omega arith) (omega arith);
  few = h.countable.0;
  bytes = refl;
}

-- no tree has no levels
pub some_levels : (t : Tree) (levels : ℕ) → levels ≡ 0 → IsReadable levels t → ⊥
some_levels (leaf u a) levels e h = let d : 1 ≤ levels = h.depth in absurd (omega arith)
some_levels (node u ks) levels e h = let d : most_depth ks + 1 ≤ levels = h.depth in absurd (omega arith)

-- what is asked of a node in the arena
pub record IsKept (t : Tree) : Type 0 where
  pub shaped : IsShaped t
  pub depth : depth t ≤ deepest
  pub weight : weight t ≤ heaviest
  pub canonical : canonical t ≡ t

pub kept : (levels : ℕ) (t u : Tree) → u ≡ t → IsReadable levels t → IsKept u
kept levels t u e h = let low = h.limit in let deep = h.depth in subst IsKept (sym e) record { shaped = h.shaped; depth = omega arith; weight = h.weight; canonical = ascends_canonical t h.ascends }
