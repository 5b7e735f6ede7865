-- What is reached from the main document.
use Rattle.std.proofs.Common.{◌≡◌, ◌<◌, ◌≤◌, ◌+◌, inl, inr, ℕ, suc, zero, List, [], ◌∷◌, ◌++◌, length, get_or, take, nat_eq, sym, ap, ◌∙◌, subst, arith}
use Rattle.std.specs.Prelude.{◌↔◌, Contains, IsSomeAnd, slice_get}
use Rattle.std.specs.FinMap.{nat_cmp-IsAntisymmetric}
use Rattle.std.specs.Ordering.{nat_cmp}
use Rattle.std.specs.List.{AllByRecursion, IsDistinct}
use Rattle.std.proofs.lemmas.Bool.{eqb-true}
use Rattle.std.proofs.lemmas.Cmp.{nat_cmp_total}
use Rattle.std.proofs.lemmas.List.{length-append, length-map, take_all, take-append-le}
use Rattle.std.proofs.lemmas.List.Elements.{Contains-append_cases, Contains-append_left}
use Rattle.std.proofs.lemmas.Map.Steps.{length-le_from_distinct_below}
use Rattle.std.proofs.lemmas.Map.Views.{Contains-from_any}
use Rattle.owl_close.specs.Imports.{AreReached, Imports, Reaches, heads_of, main, import}
use Rattle.owl_close.specs.Searches.{AddsImported, IsImported}
use Rattle.owl_doc.specs.Heads.{head_of}
use Rattle.owl_doc.specs.declared.head.Head as held
use Rattle.owl_close.proofs.Adding.{one_further}
use Rattle.owl_list.specs.Ascending.{ascending}
use Rattle.owl_list.proofs.AscendingLaws.{all_from, all_in, all_later, all_pushed, ascending_ascends, ascending_holds, in_head}
use Rattle.owl_tree.specs.Ontologies.{Head}

some_within : (hs : List Head) (place : ℕ) (P : Head → Type 0) → IsSomeAnd (slice_get hs place) P → place < length hs
some_within [] place P h = absurd h
some_within (x ∷ hs) zero P h = omega arith
some_within (x ∷ hs) (suc place) P h = let k = some_within hs place P h in omega arith

module _ (heads : List Head) where
  -- what is reached stands in the list
  pub reached_within : (place : ℕ) → 0 < length heads → Reaches heads place → place < length heads
  reached_within place h main = h
  reached_within place h (import from to r i) = some_within heads to _ i.names.named

  -- all that the document imports is among these places
  abbrev pub IsFollowed : List ℕ → ℕ → Type 0
  IsFollowed places from = (to : ℕ) → Imports heads from to → Contains places to

  -- the places found so far, of which those in front were followed
  pub record AreFound (places : List ℕ) (next : ℕ) : Type 0 where
    pub within : next ≤ length places
    pub main : Contains places 0
    pub reached : AllByRecursion (Reaches heads) places
    pub followed : AllByRecursion (IsFollowed places) (take next places)
    pub apart : IsDistinct nat_eq places

  pub begun : AreFound (0 ∷ []) 0
  unfolding IsDistinct
  begun = record { within = omega arith; main = in_head 0 []; reached = (main, tt); followed = tt; apart = (tt, tt) }

  pub found_within : (places : List ℕ) (next : ℕ) → 0 < length heads → AreFound places next → (from : ℕ) → Contains places from → from < length heads
  found_within places next h f from m = reached_within from h (all_in (Reaches heads) places from f.reached m)

  -- no more places than documents
  pub at_most : (places : List ℕ) (next : ℕ) → 0 < length heads → AreFound places next → length places ≤ length heads
  at_most places next h f = length-le_from_distinct_below places (length heads) f.apart (λ q t. found_within places next h f q (Contains-from_any eqb-true q places t))

  -- one more document is followed
  pub followed_further : (places new : List ℕ) (next from : ℕ) (imports : List (List ℕ)) → AreFound places next → next < length places → from ≡ get_or places next from → ((to : ℕ) → IsImported heads imports to ↔ Imports heads from to) → AddsImported heads imports places new → AreFound new (next + 1)
  followed_further places new next from imports f h e same a =
      let here : Contains places from = (next, h, sym e) in
      let front : (place : ℕ) → Contains places place → Contains new place =
      λ place m. subst (λ (ps : List ℕ). Contains ps place) (sym a.grown) (Contains-append_left places a.more place m) in
      let taken : take (next + 1) new ≡ take next places ++ from ∷ [] =
      ap (take (next + 1)) a.grown ∙ take-append-le (next + 1) places a.more (omega arith) ∙ one_further places next from h e in
      let grown : length new ≡ length places + length a.more = ap length a.grown ∙ length-append places a.more in
      record {
        within = omega arith;
        main = front 0 f.main;
        reached = subst (λ (ps : List ℕ). AllByRecursion (Reaches heads) ps) (sym a.grown) (all_from (Reaches heads) (places ++ a.more) (λ place m. elim (Contains-append_cases places a.more place m) [
          | inl k ↦ all_in (Reaches heads) places place f.reached k
          | inr k ↦ import from place (all_in (Reaches heads) places from f.reached here) ((same place).0 (all_in (IsImported heads imports) a.more place a.imported k))
        ]));
        followed = subst (λ (ps : List ℕ). AllByRecursion (IsFollowed new) ps) (sym taken) (all_pushed (IsFollowed new) (take next places) from
            (all_later (IsFollowed places) (IsFollowed new) (λ place known to i. front to (known to i)) (take next places) f.followed)
            (λ to i. a.all to ((same to).1 i)));
        apart = a.apart f.apart;
      }

  pub all_reached : (places : List ℕ) (next : ℕ) → AreFound places next → length places ≤ next → AreReached heads (ascending nat_cmp places)
  all_reached places next f h =
      let done : AllByRecursion (IsFollowed places) places = subst (λ (ps : List ℕ). AllByRecursion (IsFollowed places) ps) (take_all next places h) f.followed in
      record {
        ascending = ascending_ascends nat_cmp nat_cmp_total places;
        reached = λ place. (
          λ m. all_in (Reaches heads) places place f.reached ((ascending_holds nat_cmp nat_cmp_total nat_cmp-IsAntisymmetric places place).0 m),
          λ r. (ascending_holds nat_cmp nat_cmp_total nat_cmp-IsAntisymmetric places place).1 (there done place r),
        );
      }
    where
      there : AllByRecursion (IsFollowed places) places → (place : ℕ) → Reaches heads place → Contains places place
      there done place main = f.main
      there done place (import from to r i) = all_in (IsFollowed places) places from done (there done from r) to i

-- what is followed is the place of a document
pub place_within : (heads : List held.Head) (places : List ℕ) (next from : ℕ) → 0 < length heads → AreFound (heads_of heads) places next → next < length places → from ≡ get_or places next from → from < length heads
place_within heads places next from h f l e =
    let long = length-map heads head_of in
    let short = found_within (heads_of heads) places next (omega arith) f from (next, l, sym e) in
    omega arith
