-- The kids of the trees that nodes denote, as numbers are found one by one.
use Rattle.std.specs.Prelude.{◌≡◌, ℕ, true, [], ◌∷◌, List, Option, Some, length, slice_get}
use Rattle.std.proofs.Common.{get_or, ltb, refl, sym, ap, subst, ◌∙◌}
use Rattle.std.proofs.lemmas.Bool.{ltb-true}
use Rattle.std.proofs.lemmas.Option.{slice_get_read}
use Rattle.owl_kind.specs.Kinds.{Entity}
use Rattle.owl_tree.specs.Trees.{Tree}
use Rattle.rdf_graph.specs.declared.triple.Triple.{Triple}
use Rattle.rdf_roles.specs.Tables.{RoleTable}
use Rattle.tree_stores.proofs.KidLaws.{passed_has_many, sum_has_kids}
use Rattle.tree_stores.specs.Stores.{AreStanding, HaveKids, HaveManyKids, IsSumWith, Keeps, PassesWith}
use Rattle.rdf_nodes.specs.Numbers.{AreNumbered, IsNodeTree}

-- what a slice has at a place stands there in the list that it is of
pub lent_at : {X : Type 0} (lent xs : List X) → lent ≡ xs → (i : ℕ) (x y : X) → true ≡ ltb i (length lent) → y ≡ get_or lent i y → y ≡ x → slice_get xs i ≡ Some x
lent_at lent xs same i x y within at is =
    subst (λ us. slice_get us i ≡ Some x) same (slice_get_read lent (length lent) i y refl (ltb-true i (length lent) (sym within)) at ∙ ap Some is)

-- the number stands for a tree that some node denotes
record IsOfNode (g : List Triple) (k : List Entity) {N : Type 0} (Stands : Tree → N → Type 0) (n : N) : Type 0 where
  tree : Tree
  own : IsNodeTree g k tree
  stands : Stands tree n

module _ (g : List Triple) (k : List Entity) (roles : RoleTable) {N : Type 0} (New : Tree → N → Type 0) (ns : List (Option N)) (node : ℕ) (n : N) (numbered : AreNumbered g k roles New ns) (at : slice_get ns node ≡ Some (Some n)) where
  of_node : IsOfNode g k New n
  of_node =
      let is = numbered node n at in
      record {
        tree = is.tree;
        own = (is.denoted.label, record { sort = is.denoted.sort; gives = is.denoted.gives; denotes = is.denoted.denotes });
        stands = is.held;
      }

  pub stands_alone : AreStanding New (n ∷ [])
  stands_alone = let is = of_node in record { trees = is.tree ∷ []; stand = (is.stands, tt) }

  module _ (Old : Tree → N → Type 0) (kept : Keeps Old New) (sum : ℕ) (have : HaveKids (IsNodeTree g k) Old sum) where
    pub counted : (more : ℕ) → ((t : Tree) → New t n → IsSumWith Old t sum more) → HaveKids (IsNodeTree g k) New more
    counted more with = let is = of_node in sum_has_kids (IsNodeTree g k) Old New sum more is.tree n kept have is.own is.stands (with is.tree is.stands)

    pub many_counted : ((t : Tree) → New t n → PassesWith Old t sum) → HaveManyKids (IsNodeTree g k)
    many_counted passes = let is = of_node in passed_has_many (IsNodeTree g k) Old New sum is.tree n kept have is.own is.stands (passes is.tree is.stands)
