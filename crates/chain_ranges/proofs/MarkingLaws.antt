-- Laws of marks that are set some classes at a time.
use Rattle.std.proofs.Common.{◌≡◌, ◌<◌, ◌++◌, ◌↔◌, ◌⊎◌, ◌||◌, inl, inr, ℕ, Bool, true, false, List, [], length, get_or, map, replicate, refl, sym, ap, ◌∙◌, subst}
use Rattle.std.proofs.lemmas.List.{get_or-replicate, get_or_default, length-replicate}
use Rattle.std.proofs.lemmas.List.Elements.{Contains-append_cases, Contains-append_left, Contains-append_right, Contains-get_or}
use Rattle.graph_walks.specs.Edges.{AreEdges, successors}
use Rattle.graph_walks.specs.Marks.{MarkEach}
use Rattle.graph_walks.specs.Walks.{AreWithin, IsReached, backwards}
use Rattle.graph_walks.proofs.MarkLaws.{marks_at}
use Rattle.owl_list.specs.Ascending.{HoldSame}
use Rattle.owl_list.proofs.AscendingLaws.{in_map, in_none}
use Rattle.chain_ranges.specs.Imposed.{LacksRange}
use Rattle.chain_ranges.specs.Marking.{AddsReaching, ReachesSecond, lacks, pair_at}
use Rattle.chain_ranges.specs.Spreads.{AreReachedSets}
use Rattle.chain_ranges.proofs.BitLaws.{has_more}
use Rattle.chain_ranges.proofs.ImposedLaws.{imposed_reached}

or_cases : (a b : Bool) → (a || b) ≡ true → (a ≡ true) ⊎ (b ≡ true)
or_cases true b e = inl refl
or_cases false b e = inr e

or_left : (a b : Bool) → a ≡ true → (a || b) ≡ true
or_left true b e = refl
or_left false b e = absurd (cc)

or_right : (a b : Bool) → b ≡ true → (a || b) ≡ true
or_right true b e = refl
or_right false b e = e

module _ (pairs : List (ℕ × ℕ)) (holders : List (List ℕ)) (chains : List (ℕ × ℕ)) where
  -- the sets tell of which classes only the second of a pair is reached
  reaches : (block : List ℕ) (count : ℕ) (sets : List ℕ) (chain : ℕ × ℕ) → chain.0 < count → chain.1 < count → AreReachedSets pairs holders block count sets → (lacks sets chain ≡ true) ↔ ReachesSecond pairs holders block chain
  reaches block count sets chain last implied told =
      let more = has_more (get_or sets chain.1 0) (get_or sets chain.0 0) in (
        λ e.
            let m = more.0 e in
            let is = (told chain.1 m.number implied).0 m.has in
            record {
              class = get_or block m.number 0;
              among = Contains-get_or block m.number 0 is.below;
              second = is.reached;
              first = λ r. m.lacks ((told chain.0 m.number last).1 (record { below = is.below; reached = r }));
            },
        λ r.
            let m = r.among in
            let here : get_or block m.0 0 ≡ r.class = get_or_default block m.0 0 r.class m.1 ∙ m.2 in
            more.1 (record {
              number = m.0;
              has = (told chain.1 m.0 implied).1 (record { below = m.1; reached = subst (λ (class : ℕ). IsReached pairs (successors holders class) chain.1) (sym here) r.second });
              lacks = λ has. r.first (subst (λ (class : ℕ). IsReached pairs (successors holders class) chain.0) here ((told chain.0 m.0 last).0 has).reached);
            }),
      )

  -- marks by sets
  pub reaching_added : (block : List ℕ) (count : ℕ) (sets : List ℕ) (old new : List Bool) → AreWithin count chains → AreReachedSets pairs holders block count sets → length new ≡ length old →
      ((place : ℕ) → place < length chains → get_or new place false ≡ (get_or old place false || lacks sets (pair_at chains place))) → AddsReaching pairs holders block chains old new
  reaching_added block count sets old new within told size each = record {
    size = size;
    told = λ place inside.
        let chain = pair_at chains place in
        let ends : (chain.0 < count) × (chain.1 < count) = within chain.0 chain.1 (Contains-get_or chains place (0, 0) inside) in
        let reach = reaches block count sets chain ends.0 ends.1 told in (
          λ e. elim (or_cases (get_or old place false) (lacks sets chain) (sym (each place inside) ∙ e)) as (λ _. (get_or old place false ≡ true) ⊎ ReachesSecond pairs holders block chain) [
            | inl was ↦ inl was
            | inr now ↦ inr (reach.0 now)
          ],
          λ h. each place inside ∙ (elim h as (λ _. (get_or old place false || lacks sets chain) ≡ true) [
            | inl was ↦ or_left (get_or old place false) (lacks sets chain) was
            | inr now ↦ or_right (get_or old place false) (lacks sets chain) (reach.1 now)
          ]),
        );
  }

  -- of no classes
  pub nothing_added : (marks : List Bool) → AddsReaching pairs holders [] chains marks marks
  nothing_added marks = record {
    size = refl;
    told = λ place inside. (λ e. inl e, λ h. elim h as (λ _. get_or marks place false ≡ true) [ inl was ↦ was | inr r ↦ absurd (in_none r.class r.among) ]);
  }

  -- of these classes, and then of those
  pub both_added : (xs ys : List ℕ) (old mid new : List Bool) → AddsReaching pairs holders xs chains old mid → AddsReaching pairs holders ys chains mid new → AddsReaching pairs holders (xs ++ ys) chains old new
  both_added xs ys old mid new a b = record {
    size = b.size ∙ a.size;
    told = λ place inside.
        let chain = pair_at chains place in (
          λ e. elim ((b.told place inside).0 e) as (λ _. (get_or old place false ≡ true) ⊎ ReachesSecond pairs holders (xs ++ ys) chain) [
            | inl before ↦ elim ((a.told place inside).0 before) as (λ _. (get_or old place false ≡ true) ⊎ ReachesSecond pairs holders (xs ++ ys) chain) [
              | inl was ↦ inl was
              | inr r ↦ inr (record { class = r.class; among = Contains-append_left xs ys r.class r.among; second = r.second; first = r.first })
            ]
            | inr r ↦ inr (record { class = r.class; among = Contains-append_right xs ys r.class r.among; second = r.second; first = r.first })
          ],
          λ h. (b.told place inside).1 (elim h as (λ _. (get_or mid place false ≡ true) ⊎ ReachesSecond pairs holders ys chain) [
            | inl was ↦ inl ((a.told place inside).1 (inl was))
            | inr r ↦ elim (Contains-append_cases xs ys r.class r.among) as (λ _. (get_or mid place false ≡ true) ⊎ ReachesSecond pairs holders ys chain) [
              | inl m ↦ inl ((a.told place inside).1 (inr (record { class = r.class; among = m; second = r.second; first = r.first })))
              | inr m ↦ inr (record { class = r.class; among = m; second = r.second; first = r.first })
            ]
          ]),
        );
  }

-- once all classes are looked at that are ranges
pub all_marked : (steps ranges chains : List (ℕ × ℕ)) (holders : List (List ℕ)) (classes : List ℕ) (old new : List Bool) → AreEdges (backwards ranges) holders → HoldSame classes (map (λ (range : ℕ × ℕ). range.1) ranges) →
    old ≡ replicate (length chains) false → AddsReaching (backwards steps) holders classes chains old new → MarkEach (λ _ chain. LacksRange steps ranges chain.0 chain.1) chains new
all_marked steps ranges chains holders classes old new are all none adds =
    marks_at (λ (_ : ℕ) (chain : ℕ × ℕ). LacksRange steps ranges chain.0 chain.1) (0, 0) chains new (adds.size ∙ ap length none ∙ length-replicate (length chains) false)
    (λ place inside.
    let chain = pair_at chains place in (
      λ e. elim ((adds.told place inside).0 e) as (λ _. LacksRange steps ranges chain.0 chain.1) [
        | inl was ↦ absurd (let clear = ap (λ (marks : List Bool). get_or marks place false) none ∙ get_or-replicate (length chains) place false false inside in cc)
        | inr r ↦ record {
          class = r.class;
          imposed = (imposed_reached steps ranges holders are r.class chain.1).0 r.second;
          lacks = λ i. r.first ((imposed_reached steps ranges holders are r.class chain.0).1 i);
        }
      ],
      λ l. (adds.told place inside).1 (inr (record {
        class = l.class;
        among = (all l.class).1 (in_map (λ (range : ℕ × ℕ). range.1) ranges (l.imposed.on, l.class) l.imposed.range);
        second = (imposed_reached steps ranges holders are l.class chain.1).1 l.imposed;
        first = λ r. l.lacks ((imposed_reached steps ranges holders are l.class chain.0).0 r);
      })),
    ))
