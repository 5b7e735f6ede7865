-- Steps, ranges and chains that are gathered axiom by axiom.
use Rattle.std.proofs.Common.{◌≡◌, ◌<◌, ◌+◌, ℕ, Option, List, [], ◌∷◌, ◌++◌, get_or, length, map, take, refl, sym, ap, ◌∙◌, subst}
use Rattle.std.specs.List.{AllByRecursion, flat_map}
use Rattle.std.proofs.lemmas.List.{flat_map_more, map-append, take_more}
use Rattle.dl_rules.specs.Logical.{operands}
use Rattle.owl_arena.specs.Held.{tree_at, trees_at}
use Rattle.owl_tree.specs.Trees.{Tree, tag_of}
use Rattle.range_restrictions.specs.Found.{AreFound, Notes}
use Rattle.range_restrictions.specs.Restrictions.{ranges_over, steps_over}
use Rattle.range_restrictions.specs.Statements.{ArePairs, IsStatementOf, chain_in, chain_of, range_in, step_in}
use Rattle.range_restrictions.specs.declared.found.Found.{Found}
use Rattle.range_restrictions.specs.declared.statements.Statement.{Statement}

all_both : {X : Type 0} (P : X → Type 0) (xs ys : List X) → AllByRecursion P xs → AllByRecursion P ys → AllByRecursion P (xs ++ ys)
all_both P [] ys h k = k
all_both P (x ∷ xs) ys h k = (h.0, all_both P xs ys h.1 k)

module _ (ts : List Tree) where
  abbrev pub trees_of : ℕ × ℕ → Tree × Tree
  trees_of pair = (tree_at ts pair.0, tree_at ts pair.1)

  abbrev pub IsHeld : ℕ × ℕ → Type 0
  IsHeld pair = (pair.0 < length ts) × (pair.1 < length ts)

  no_pairs : (numbers : List (ℕ × ℕ)) → numbers ≡ [] → ArePairs ts [] numbers
  no_pairs numbers e = subst (λ (ns : List (ℕ × ℕ)). ArePairs ts [] ns) (sym e) (record { trees = refl; held = tt })

  -- nothing is said by no axioms
  pub found_none : (found : Found) → found.steps.items ≡ [] → found.ranges.items ≡ [] → found.chains.items ≡ [] → AreFound ts [] found
  found_none found steps ranges chains = record {
    steps = no_pairs found.steps.items steps;
    ranges = no_pairs found.ranges.items ranges;
    chains = no_pairs found.chains.items chains;
  }

  both_are : (ps qs : List (Tree × Tree)) (ns ms : List (ℕ × ℕ)) → ArePairs ts ps ns → ArePairs ts qs ms → ArePairs ts (ps ++ qs) (ns ++ ms)
  both_are ps qs ns ms h k = record {
    trees = map-append trees_of ns ms ∙ (ap (λ (pairs : List (Tree × Tree)). pairs ++ map trees_of ms) h.trees ∙ ap (λ (pairs : List (Tree × Tree)). ps ++ pairs) k.trees);
    held = all_both IsHeld ns ms h.held k.held;
  }

  -- what one more axiom gives
  one_more : (give : Tree → List (Tree × Tree)) (axioms : List Tree) (t : Tree) (old more new : List (ℕ × ℕ)) → ArePairs ts (flat_map give axioms) old → ArePairs ts (give t) more → new ≡ old ++ more →
      ArePairs ts (flat_map give (axioms ++ t ∷ [])) new
  one_more give axioms t old more new h k grown =
      subst (λ (pairs : List (Tree × Tree)). ArePairs ts pairs new) (flat_map_more give [] axioms t)
      (subst (λ (numbers : List (ℕ × ℕ)). ArePairs ts (flat_map give axioms ++ give t) numbers) (sym grown) (both_are (flat_map give axioms) (give t) old more h k))

  front_and_next : (ids : List ℕ) (index id : ℕ) → index < length ids → id ≡ get_or ids index id → trees_at ts (take index ids) ++ tree_at ts id ∷ [] ≡ trees_at ts (take (index + 1) ids)
  front_and_next ids index id h is =
      sym (ap (trees_at ts) (take_more ids index id h ∙ ap (λ (next : ℕ). take index ids ++ next ∷ []) (sym is)) ∙ map-append (tree_at ts) (take index ids) (id ∷ []))

  pub found_more : (ids : List ℕ) (index id : ℕ) (said : Option Statement) (old new : Found) → index < length ids → id ≡ get_or ids index id → AreFound ts (trees_at ts (take index ids)) old → IsStatementOf ts (tree_at ts id) said →
      Notes said old new → AreFound ts (trees_at ts (take (index + 1) ids)) new
  found_more ids index id said old new h is front own notes =
      let axioms = trees_at ts (take index ids) in
      let t = tree_at ts id in
      subst (λ (all : List Tree). AreFound ts all new) (front_and_next ids index id h is)
      (record {
        steps = one_more (λ (u : Tree). steps_over (tag_of u) (operands u)) axioms t old.steps.items (step_in said) new.steps.items front.steps own.step notes.steps;
        ranges = one_more (λ (u : Tree). ranges_over (tag_of u) (operands u)) axioms t old.ranges.items (range_in said) new.ranges.items front.ranges own.range notes.ranges;
        chains = one_more chain_of axioms t old.chains.items (chain_in said) new.chains.items front.chains own.chain notes.chains;
      })
