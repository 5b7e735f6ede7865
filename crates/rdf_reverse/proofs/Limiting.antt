-- Which limit is passed, and that none is.
use Rattle.std.specs.Prelude.{◌≡◌, ◌<◌, ◌≤◌, ◌⊎◌, ℕ, List, [], ◌∷◌}
use Rattle.std.proofs.Common.{inl, inr, refl, sym, subst, arith}
use Rattle.std.proofs.lemmas.Option.{slice_get_within}
use Rattle.owl_arena.specs.Held.{AreHeld}
use Rattle.owl_arena.specs.Shared.{deepest, heaviest}
use Rattle.owl_assembly.specs.declared.fault.AssembleFault.{AssembleFault}
use Rattle.owl_assembly.specs.declared.fault.AssembleFault.TheVariants as assemble
use Rattle.owl_kind.specs.Kinds.{Entity}
use Rattle.owl_tree.specs.Canonical.{canonical}
use Rattle.owl_tree.specs.Trees.{Tree, depth, weight}
use Rattle.rdf_graph.specs.declared.term.Term.{Term}
use Rattle.rdf_graph.specs.declared.triple.Triple.{Triple}
use Rattle.rdf_meaning.specs.Statements.{headers}
use Rattle.rdf_scans.specs.declared.reading.Reading.{Reading}
use Rattle.rdf_statements.specs.GraphTrees.{IsHeldWithin, IsTreeOf}
use Rattle.rdf_statements.proofs.PartLaws.{part_depth, part_weight}
use Rattle.tree_stores.proofs.StoreLaws.{shallow_tree}
use Rattle.tree_stores.specs.Stores.{HasDepth, HasNumber, HaveManyKids, IsDeep, IsHeavy, IsSmall, StandFor}
use Rattle.rdf_reverse.specs.declared.fault.ReverseFault.{ReverseFault}
use Rattle.rdf_reverse.specs.declared.fault.ReverseFault.TheVariants.{TooDeep, TooHeavy}
use Rattle.rdf_reverse.specs.Faults.{assemble_fault}
use Rattle.rdf_nodes.specs.Large.{HasLargeNumber}
use Rattle.rdf_reverse.specs.Clear.{IsClear, clear_header, clear_says}
use Rattle.rdf_reverse.specs.Limits.{AreShallow, AreWithin}
use Rattle.rdf_reverse.specs.Reverse.{FindsNothing, HasDeepTree, HasHeavyTree, IsFoundBy, limits, of_depths, of_tree}
use Rattle.rdf_reverse.proofs.SumLaws.{many_are_heavy}
use Rattle.rdf_reverse.proofs.ReverseLaws.{same_header}

-- the numbers of trees are there
pub numbers_held : (trees ts : List Tree) (ids : List ℕ) → StandFor (HasNumber trees) ts ids → AreHeld trees ids
numbers_held trees [] [] h = tt
numbers_held trees [] (id ∷ ids) h = absurd h
numbers_held trees (t ∷ ts) [] h = absurd h
numbers_held trees (t ∷ ts) (id ∷ ids) h = (slice_get_within trees id (canonical t) h.0, numbers_held trees ts ids h.1)

module _ (reading : Reading) where
  abbrev g : List Triple
  g = reading.graph.now

  abbrev k : List Entity
  k = reading.kinds.now

  abbrev header : Term
  header = reading.header.now

  -- where what stands is not too deep, no tree is
  none_deep : {N : Type 0} (Stands : Tree → N → Type 0) → ((t : Tree) → IsTreeOf g k header t → IsHeldWithin Stands t) →
      ((t : Tree) (n : N) → Stands t n → depth t ≤ deepest) → HasDeepTree g k header → ⊥
  none_deep Stands held shallow d =
      let within = held d.tree d.of in
      let part = part_depth d.tree within.whole within.part in
      let whole = shallow within.whole within.number within.stands in
      let deep = d.deep in
      omega (arith, part, whole, deep)

  pub none_beyond : ((t : Tree) → IsTreeOf g k header t → IsHeldWithin HasDepth t) → HasDeepTree g k header → ⊥
  none_beyond held = none_deep HasDepth held shallow_tree

  none_heavy : (trees : List Tree) → ((t : Tree) → IsTreeOf g k header t → IsHeldWithin (HasNumber trees) t) →
      ((t : Tree) (id : ℕ) → HasNumber trees t id → IsSmall t) → (t : Tree) → IsTreeOf g k header t → heaviest < weight (canonical t) → ⊥
  none_heavy trees held small t of heavy =
      let within = held t of in
      let part = part_weight t within.whole within.part in
      let light = (small within.whole within.number within.stands).light in
      omega (arith, part, light, heavy)

  -- a graph whose trees an arena holds passes no limit
  pub within_limits : (trees : List Tree) → (HasLargeNumber g → ⊥) → ((t : Tree) → IsTreeOf g k header t → IsHeldWithin (HasNumber trees) t) →
      ((t : Tree) (id : ℕ) → HasNumber trees t id → IsSmall t) → AreWithin reading
  within_limits trees small held fits = record {
    are_shallow = record { small = small; shallow = none_deep (HasNumber trees) held (λ t id at. (fits t id at).shallow) };
    light = none_heavy trees held fits;
  }

  -- where nothing but limits is wrong, what is told as too heavy is so
  pub heavy_said : IsClear reading → ((t : Tree) × IsTreeOf g k header t × IsHeavy t) ⊎ HaveManyKids (IsTreeOf g k header) → HasHeavyTree g k header
  heavy_said clear (inl one) = of_tree one.0 one.1 one.2
  heavy_said clear (inr many) =
      let says = clear_says reading clear in
      let same = clear_header reading clear says.0 says.1 in
      subst (HasHeavyTree g k) same (many_are_heavy g k says.0 says.1 (subst (λ x. HaveManyKids (IsTreeOf g k x)) (sym same) many))

  module _ (one : headers g ≡ header ∷ []) where
    no_depths : AreShallow reading → FindsNothing g k of_depths
    no_depths are f h = are.shallow (subst (HasDeepTree g k) (same_header g h.0 header h.1 one) h.3)

    pub heavy_found : AreShallow reading → HasHeavyTree g k header → IsFoundBy g k limits TooHeavy
    heavy_found are heavy = inr (inr (λ f h. are.small h.1, inr (no_depths are, inl (header, one, refl, heavy))))

    pub deep_tree_found : (HasLargeNumber g → ⊥) → ((t : Tree) × IsTreeOf g k header t × IsDeep t) → IsFoundBy g k limits TooDeep
    deep_tree_found small fault =
        inr (inr (λ f h. small h.1, inl (header, one, refl, record { tree = fault.0; of = fault.1; deep = fault.2 })))

    pub assembling_found : AreShallow reading → (fault : AssembleFault) (f : ReverseFault) → f ≡ assemble_fault fault →
        (fault ≡ assemble.TooHeavy → HasHeavyTree g k header) → IsFoundBy g k limits f
    assembling_found are assemble.TooHeavy f e heavy = subst (IsFoundBy g k limits) (sym e) (heavy_found are (heavy refl))
    assembling_found are assemble.Memory f e heavy = inl e
