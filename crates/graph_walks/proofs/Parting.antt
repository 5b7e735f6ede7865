-- Parts by numbers.
use Rattle.std.proofs.Common.{◌≡◌, ◌<◌, ◌≤◌, ◌↔◌, inl, inr, ℕ, Bool, true, false, List, [], ◌∷◌, length, get_or, refl, sym, ap, ◌∙◌, subst, arith}
use Rattle.std.specs.Prelude.{Contains, slice_index}
use Rattle.std.proofs.lemmas.Bool.{cases_lt, cases_order, eq-eqb, eqb-true}
use Rattle.std.specs.List.{filter, range_with_len}
use Rattle.owl_list.proofs.FilterLaws.{IsKept, from_filter}
use Rattle.graph_walks.specs.Marks.{MarkNumbers}
use Rattle.graph_walks.specs.Parts.{AllReached, AreApart, AreBoth, AreJoined, AreParts, IsFirstOfBoth, IsLeast, NoneGoesUp, is_head, is_level, level}
use Rattle.graph_walks.specs.Walks.{AreWithin, IsReached, Walks, backwards, here, onward}
use Rattle.graph_walks.proofs.WalkLaws.{from_backwards, from_one, to_backwards, to_one, walk_among, walk_back, walk_on}

-- two nodes have one number exactly where they are joined
pub level_tells : (nodes : ℕ) (pairs : List (ℕ × ℕ)) (numbers : List ℕ) → AreParts nodes pairs numbers → (x y : ℕ) → x < nodes → y < nodes → (is_level numbers (x, y) ≡ true) ↔ AreJoined pairs x y
level_tells nodes pairs numbers parts x y hx hy = (
  λ h. (parts.told x y hx hy).0 (eqb-true (slice_index numbers x) (slice_index numbers y) h),
  λ joined. eq-eqb (slice_index numbers x) (slice_index numbers y) ((parts.told x y hx hy).1 joined),
)

module _ (pairs : List (ℕ × ℕ)) (numbers : List ℕ) where
  -- where no pair leads up, no walk does
  never_up : NoneGoesUp pairs numbers → (x y : ℕ) → Walks pairs x y → slice_index numbers y ≤ slice_index numbers x
  never_up none x y (here _) = omega arith
  never_up none x y (onward _ m _ way step) =
      let first : slice_index numbers m ≤ slice_index numbers x = never_up none x m way in
      let last : slice_index numbers y ≤ slice_index numbers m = none m y step in
      omega arith

  pub level_among : (x y : ℕ) → Contains (level numbers pairs) (x, y) → Contains pairs (x, y)
  level_among x y m = (from_filter (is_level numbers) pairs (x, y) m).inside

  level_same : (x y : ℕ) → Contains (level numbers pairs) (x, y) → slice_index numbers x ≡ slice_index numbers y
  level_same x y m =
      eqb-true (slice_index numbers x) (slice_index numbers y) (from_filter (is_level numbers) pairs (x, y) m).passes

  -- walks along pairs of nodes with one number keep it
  stays_level : (x y : ℕ) → Walks (level numbers pairs) x y → slice_index numbers x ≡ slice_index numbers y
  stays_level x y (here _) = refl
  stays_level x y (onward _ m _ way step) = stays_level x m way ∙ level_same m y step

  -- a node for each number: each node leads to one of these and is reached from one, so by that of its number nodes are joined
  module _ (nodes : ℕ) (roots : List ℕ) (apart : AreApart numbers roots) (forth : AllReached nodes (level numbers pairs) roots) (back : AllReached nodes (backwards (level numbers pairs)) roots) where
    joined_by_roots : (x y : ℕ) → x < nodes → y < nodes → slice_index numbers x ≡ slice_index numbers y → Walks pairs x y
    joined_by_roots x y hx hy same =
        let some = level numbers pairs in
        let behind = back x hx in
        let ahead = forth y hy in
        let out : Walks some x behind.start = walk_back (backwards some) some (from_backwards some) behind.start x behind.way in
        let one : behind.start ≡ ahead.start = apart behind.start ahead.start behind.among ahead.among
        (sym (stays_level x behind.start out) ∙ same ∙ sym (stays_level ahead.start y ahead.way)) in
        let into : Walks some behind.start y = subst (λ (r : ℕ). Walks some r y) (sym one) ahead.way in
        walk_among some pairs level_among x y (walk_on some x behind.start y out into)

    pub parts_by_roots : length numbers ≡ nodes → NoneGoesUp pairs numbers → AreParts nodes pairs numbers
    parts_by_roots size none = record {
      size = size;
      told = λ x y hx hy. (
        λ same. (joined_by_roots x y hx hy same, joined_by_roots y x hy hx (sym same)),
        λ joined.
            let down : slice_index numbers y ≤ slice_index numbers x = never_up none x y joined.0 in
            let up : slice_index numbers x ≤ slice_index numbers y = never_up none y x joined.1 in
            omega arith,
      );
    }

-- by the marks of a search
pub all_by_marks : (nodes : ℕ) (pairs : List (ℕ × ℕ)) (starts : List ℕ) (marks : List Bool) → MarkNumbers nodes (IsReached pairs starts) marks → ((place : ℕ) → place < length marks → get_or marks place false ≡ true) → AllReached nodes pairs starts
all_by_marks nodes pairs starts marks told all =
    λ x within. (told.told x within).0 (all x (subst (λ n. x < n) (sym told.size) within))

-- nodes that are noted for their numbers
module _ (nodes : ℕ) (numbers heads these : List ℕ) (is : these ≡ filter (is_head numbers heads) (range_with_len 0 nodes)) where
  kept_head : (x : ℕ) → Contains these x → IsKept (is_head numbers heads) (range_with_len 0 nodes) x
  kept_head x m = from_filter (is_head numbers heads) (range_with_len 0 nodes) x (subst (λ (xs : List ℕ). Contains xs x) is m)

  pub heads_apart : AreApart numbers these
  heads_apart =
      λ x y first second same.
      let own : (z : ℕ) → Contains these z → slice_index heads (slice_index numbers z) ≡ z = λ z m. eqb-true (slice_index heads (slice_index numbers z)) z (kept_head z m).passes in
      sym (own x first) ∙ ap (slice_index heads) same ∙ own y second

pub level_within : (nodes : ℕ) (pairs : List (ℕ × ℕ)) (numbers : List ℕ) (some : List (ℕ × ℕ)) → some ≡ level numbers pairs → AreWithin nodes pairs → AreWithin nodes some
level_within nodes pairs numbers some is within =
    λ x y m. within x y (level_among pairs numbers x y (subst (λ (ps : List (ℕ × ℕ)). Contains ps (x, y)) is m))

pub parts_by_joined : (nodes : ℕ) (pairs : List (ℕ × ℕ)) (numbers roots : List ℕ) (some : List (ℕ × ℕ)) → some ≡ level numbers pairs → AreApart numbers roots → AllReached nodes some roots → AllReached nodes (backwards some) roots → length numbers ≡ nodes → NoneGoesUp pairs numbers → AreParts nodes pairs numbers
parts_by_joined nodes pairs numbers roots some is apart forth back size none =
    parts_by_roots pairs numbers nodes roots apart (subst (λ (ps : List (ℕ × ℕ)). AllReached nodes ps roots) is forth) (subst (λ (ps : List (ℕ × ℕ)). AllReached nodes (backwards ps) roots) is back) size none

module _ (pairs : List (ℕ × ℕ)) where
  joined_through : (x m y : ℕ) → AreJoined pairs x m → AreJoined pairs m y → AreJoined pairs x y
  joined_through x m y a b = (walk_on pairs x m y a.0 b.0, walk_on pairs y m x b.1 a.1)

  -- nodes of one part have one least node
  same_least : (x y a b : ℕ) → IsLeast pairs x a → IsLeast pairs y b → AreJoined pairs x y → a ≡ b
  same_least x y a b first second joined =
      elim (cases_order a b) as (λ _. a ≡ b) [
        | inl e ↦ e
        | inr differs ↦ elim differs as (λ _. a ≡ b) [
          | inl lower ↦ absurd (second.first a lower (joined_through y x a (joined.1, joined.0) first.joined))
          | inr higher ↦ absurd (first.first b higher (joined_through x y b joined second.joined))
        ]
      ]

  pub parts_by_least : (nodes : ℕ) (numbers : List ℕ) → length numbers ≡ nodes → ((x : ℕ) → x < nodes → IsLeast pairs x (slice_index numbers x)) → AreParts nodes pairs numbers
  parts_by_least nodes numbers size least = record {
    size = size;
    told = λ x y hx hy. (
      λ same.
          let first : AreJoined pairs x (slice_index numbers x) = (least x hx).joined in
          let second : AreJoined pairs y (slice_index numbers x) = subst (λ (m : ℕ). AreJoined pairs y m) (sym same) (least y hy).joined in
          joined_through x (slice_index numbers x) y first (second.1, second.0),
      λ joined. same_least x y (slice_index numbers x) (slice_index numbers y) (least x hx) (least y hy) joined,
    );
  }

  -- by the marks of two searches from a node, along the pairs and against them
  module _ (nodes node first : ℕ) (forth back : List Bool) (inside : node < nodes) (ahead : MarkNumbers nodes (IsReached pairs (node ∷ [])) forth) (behind : MarkNumbers nodes (IsReached (backwards pairs) (node ∷ [])) back) where
    both_joined : (x : ℕ) → x < nodes → AreBoth forth back x → AreJoined pairs node x
    both_joined x within both = (
      from_one pairs node x ((ahead.told x within).0 both.0),
      walk_back (backwards pairs) pairs (from_backwards pairs) node x (from_one (backwards pairs) node x ((behind.told x within).0 both.1)),
    )

    joined_both : (x : ℕ) → x < nodes → AreJoined pairs node x → AreBoth forth back x
    joined_both x within joined = (
      (ahead.told x within).1 (to_one pairs node x joined.0),
      (behind.told x within).1 (to_one (backwards pairs) node x (walk_back pairs (backwards pairs) (to_backwards pairs) x node joined.1)),
    )

    pub least_by_marks : IsFirstOfBoth forth back first → IsLeast pairs node first
    least_by_marks h =
        let own : AreBoth forth back node = joined_both node inside (here node, here node) in
        let early : first ≤ node = elim (cases_lt node first) as (λ _. first ≤ node) [
          | inl late ↦ absurd (h.before node late own)
          | inr e ↦ e
        ] in
        let size = ahead.size in
        record {
          joined = both_joined first (omega arith) (h.there (omega arith));
          first = λ other lower joined. h.before other lower (joined_both other (omega arith) joined);
        }
