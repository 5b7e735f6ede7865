-- Numbers that stand for trees, as a store takes more.
use Rattle.std.specs.Prelude.{◌≡◌, ◌≤◌, ℕ, List, [], ◌∷◌, ◌++◌, get_or, length}
use Rattle.std.proofs.Common.{arith, refl, sym, subst}
use Rattle.owl_arena.specs.Shared.{deepest, heaviest}
use Rattle.owl_tree.proofs.CanonicalLaws.{canonical_weight}
use Rattle.owl_tree.specs.Trees.{Tree, depth, weight}
use Rattle.tree_stores.specs.declared.fault.TreeFault.{TreeFault}
use Rattle.tree_stores.specs.declared.fault.TreeFault.TheVariants.{TooDeep, TooHeavy, Memory}
use Rattle.tree_stores.specs.Stores.{AreStanding, HasDepth, IsSmall, IsTreeFault, Keeps, StandFor}

module _ {N : Type 0} where
  pub keeps_all : (Old : Tree → N → Type 0) → Keeps Old Old
  keeps_all Old t n h = h

  pub keeps_more : (Old Mid New : Tree → N → Type 0) → Keeps Old Mid → Keeps Mid New → Keeps Old New
  keeps_more Old Mid New first second t n h = second t n (first t n h)

  -- numbers that stand go on standing
  pub stand_still : (Old New : Tree → N → Type 0) → Keeps Old New → (ts : List Tree) (ns : List N) → StandFor Old ts ns → StandFor New ts ns
  stand_still Old New kept [] [] h = tt
  stand_still Old New kept [] (n ∷ ns) h = absurd h
  stand_still Old New kept (t ∷ ts) [] h = absurd h
  stand_still Old New kept (t ∷ ts) (n ∷ ns) h = (kept t n h.0, stand_still Old New kept ts ns h.1)

  -- numbers that stand, one behind the other
  pub both_stand : (Stands : Tree → N → Type 0) (ts us : List Tree) (ns ms : List N) → StandFor Stands ts ns → StandFor Stands us ms →
      StandFor Stands (ts ++ us) (ns ++ ms)
  both_stand Stands [] us [] ms h more = more
  both_stand Stands [] us (n ∷ ns) ms h more = absurd h
  both_stand Stands (t ∷ ts) us [] ms h more = absurd h
  both_stand Stands (t ∷ ts) us (n ∷ ns) ms h more = (h.0, both_stand Stands ts us ns ms h.1 more)

  -- one more tree, and its number
  pub one_more_stands : (Stands : Tree → N → Type 0) (ts : List Tree) (ns : List N) (t : Tree) (n : N) → StandFor Stands ts ns → Stands t n →
      StandFor Stands (ts ++ t ∷ []) (ns ++ n ∷ [])
  one_more_stands Stands ts ns t n h one = both_stand Stands ts (t ∷ []) ns (n ∷ []) h (one, tt)

  pub are_standing : (Stands : Tree → N → Type 0) (ts : List Tree) (ns : List N) → StandFor Stands ts ns → AreStanding Stands ns
  are_standing Stands ts ns h = record { trees = ts; stand = h }

  -- the first of numbers that stand stands alone
  pub first_stands : (Stands : Tree → N → Type 0) (ns : List N) (n : N) → 1 ≤ length ns → n ≡ get_or ns 0 n → AreStanding Stands ns → AreStanding Stands (n ∷ [])
  first_stands Stands [] n some at h = absurd (omega (arith, some))
  first_stands Stands (m ∷ ms) n some at h = first h.trees h.stand
    where
      first : (ts : List Tree) → StandFor Stands ts (m ∷ ms) → AreStanding Stands (n ∷ [])
      first [] stand = absurd stand
      first (t ∷ ts) stand = record { trees = t ∷ []; stand = (subst (Stands t) (sym at) stand.0, tt) }

-- what has a depth is not too deep
pub shallow_tree : (t : Tree) (d : ℕ) → HasDepth t d → depth t ≤ deepest
shallow_tree t d h = subst (λ n. n ≤ deepest) (sym h.is) h.shallow

-- a tree of few levels, nodes and leaves is taken, unless memory is wanting
pub few_are_small : (t : Tree) → depth t ≤ deepest → weight t ≤ heaviest → IsSmall t
few_are_small t shallow light = record { shallow = shallow; light = let less = canonical_weight t in omega (arith, less, light) }

pub only_memory : {H : Type 0} (t : Tree) → IsSmall t → (fault : TreeFault H) → IsTreeFault t fault → fault ≡ Memory
only_memory t small TooDeep h = absurd (omega (arith, small.shallow, h))
only_memory t small (TooHeavy _) h = absurd (omega (arith, small.light, h))
only_memory t small Memory h = refl
