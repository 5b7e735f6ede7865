-- The kids of the axioms, as these are held one by one.
use Rattle.std.specs.Prelude.{◌≡◌, ℕ, List, [], ◌∷◌, Contains}
use Rattle.std.proofs.Common.{inr, refl, subst, sym}
use Rattle.owl_kind.specs.Kinds.{Entity}
use Rattle.owl_list.proofs.AscendingLaws.{in_head}
use Rattle.owl_tree.specs.Trees.{Tree}
use Rattle.rdf_graph.specs.declared.term.Term.{Term}
use Rattle.rdf_graph.specs.declared.triple.Triple.{Triple}
use Rattle.rdf_meaning.specs.declared.role.Role.TheVariants as role
use Rattle.rdf_meaning.proofs.AxiomLaws.{of_nodes, of_triples}
use Rattle.rdf_meaning.proofs.ListLaws.{only_one}
use Rattle.rdf_meaning.specs.Nodes.{role_of}
use Rattle.rdf_meaning.specs.Statements.{AreAxioms, AreNodeAxioms, IsAxiomOf, IsAxiomOfNode, main_triples}
use Rattle.tree_stores.proofs.KidLaws.{kids_kept, passed_has_many, sum_has_kids}
use Rattle.tree_stores.proofs.StoreLaws.{are_standing}
use Rattle.tree_stores.specs.Stores.{AreStanding, HaveKids, IsFirstFault, IsSumWithFirst, Keeps, StandFor}
use Rattle.tree_stores.specs.declared.fault.TreeFault.{TreeFault}
use Rattle.tree_stores.specs.declared.fault.TreeFault.TheVariants.{TooDeep, TooHeavy, Memory}
use Rattle.rdf_statements.specs.GraphTrees.{IsStatementFault, IsTreeOf, of_axiom, of_axiom_node}
use Rattle.rdf_statements.specs.Holding.{StandForSome}

module _ (g : List Triple) (k : List Entity) (header : Term) where
  -- what a triple or a node gives are trees of the graph

  pub triple_trees : (t : Triple) → Contains (main_triples g k header) t → (ts : List Tree) → AreAxioms g k (t ∷ []) ts → (a : Tree) → Contains ts a → IsTreeOf g k header a
  triple_trees t main ts are a m =
      let is = of_triples g k (t ∷ []) ts are a m in
      let same = only_one (t ∷ []) t is.triple refl is.inside in
      of_axiom t a main (subst (λ u. IsAxiomOf g k u a) (sym same) is.axiom_of)

  pub node_trees : (x : Term) → role_of g x ≡ role.Main → (ts : List Tree) → AreNodeAxioms g k (x ∷ []) ts → (a : Tree) → Contains ts a → IsTreeOf g k header a
  node_trees x main ts are a m =
      let is = of_nodes g k (x ∷ []) ts are a m in
      let same = only_one (x ∷ []) x is.x refl is.inside in
      of_axiom_node x a main (subst (λ y. IsAxiomOfNode g k y a) (sym same) is.axiom_of)

  -- the sum, as the numbers are held of some of these trees
  module _ {N : Type 0} (Old New : Tree → N → Type 0) (kept : Keeps Old New) (sum : ℕ) (have : HaveKids (IsTreeOf g k header) Old sum)
      (Are : List Tree → Type 0) (own : (ts : List Tree) → Are ts → (t : Tree) → Contains ts t → IsTreeOf g k header t) (ns : List N)
      (held : StandForSome New Are ns) (lent : List N) (same : lent ≡ ns) where
    lent_stand : StandFor New held.trees lent
    lent_stand = subst (StandFor New held.trees) (sym same) held.stand

    pub are_lent : AreStanding New lent
    are_lent = are_standing New held.trees lent lent_stand

    pub counted : (other : ℕ) → ((ts : List Tree) → StandFor New ts lent → IsSumWithFirst Old ts sum other) → HaveKids (IsTreeOf g k header) New other
    counted other with = first held.trees lent (own held.trees held.are) lent_stand (with held.trees lent_stand)
      where
        first : (ts : List Tree) (ms : List N) → ((t : Tree) → Contains ts t → IsTreeOf g k header t) → StandFor New ts ms → IsSumWithFirst Old ts sum other →
            HaveKids (IsTreeOf g k header) New other
        first [] ms own stand is = subst (HaveKids (IsTreeOf g k header) New) (sym is) (kids_kept (IsTreeOf g k header) Old New sum kept have)
        first (t ∷ ts) [] own stand is = absurd stand
        first (t ∷ ts) (m ∷ ms) own stand is = sum_has_kids (IsTreeOf g k header) Old New sum other t m kept have (own t (in_head t ts)) stand.0 is

    pub faulty : {H : Type 0} (f : TreeFault H) → ((ts : List Tree) → StandFor New ts lent → IsFirstFault Old ts sum f) → IsStatementFault g k header f
    faulty {H} f with = first held.trees lent (own held.trees held.are) lent_stand f (with held.trees lent_stand)
      where
        first : (ts : List Tree) (ms : List N) → ((t : Tree) → Contains ts t → IsTreeOf g k header t) → StandFor New ts ms → (fault : TreeFault H) →
            IsFirstFault Old ts sum fault → IsStatementFault g k header fault
        first [] ms own stand fault h = absurd h
        first (t ∷ ts) [] own stand fault h = absurd stand
        first (t ∷ ts) (m ∷ ms) own stand TooDeep h = absurd h
        first (t ∷ ts) (m ∷ ms) own stand (TooHeavy _) h =
            inr (passed_has_many (IsTreeOf g k header) Old New sum t m kept have (own t (in_head t ts)) stand.0 h)
        first (t ∷ ts) (m ∷ ms) own stand Memory h = absurd h
