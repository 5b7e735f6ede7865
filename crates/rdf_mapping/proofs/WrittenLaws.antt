-- A tree as it is written is structurally equivalent to the tree.
use Rattle.std.proofs.Common.{◌≡◌, ◌-◌, ℕ, zero, suc, Bool, true, false, cond, List, [], ◌∷◌, ◌++◌, length, drop, take, inl, inr, refl, sym, ap, ◌∙◌, subst, arith}
use Rattle.std.specs.Prelude.{Contains, not, ◌&&◌, ◌||◌, nat_le, Option, Some, None}
use Rattle.std.specs.List.{filter, list_all}
use Rattle.std.proofs.Math.Seq.{take-length}
use Rattle.std.proofs.lemmas.Bool.{and_parts, both_ways, cond-false, not-true, or_cases}
use Rattle.std.proofs.lemmas.List.{append-nil, length-drop, take-append-drop}
use Rattle.owl_list.proofs.AscendingLaws.{in_head}
use Rattle.owl_tree.specs.declared.tag.Tag.{Tag}
use Rattle.owl_tree.specs.declared.tag.Tag.TheVariants as tag
use Rattle.owl_tree.specs.Equivalence.{Agree, AgreeAsSetFrom, AgreeByPlace, EachHoldsOfSome, IsEquivalent, SomeHoldsOfEach, equivalents}
use Rattle.owl_tree.specs.Rows.{admits, is_tag, row_of, set_start}
use Rattle.owl_tree.specs.Trees.{Tree, Kids, leaf, node, no_kids, kid, kids_of, list_of}
use Rattle.rdf_meaning.specs.declared.row.Part.{Part}
use Rattle.rdf_meaning.specs.declared.row.Place.{Place}
use Rattle.rdf_meaning.specs.declared.row.Want.{Want}
use Rattle.rdf_meaning.specs.declared.row.Want.TheVariants.{One, Many, Whole, Keys, Declared, Mark, True}
use Rattle.owl_list.proofs.FilterLaws.{from_filter}
use Rattle.rdf_meaning.proofs.ListLaws.{passes}
use Rattle.rdf_meaning.specs.Rows.{Row, node_rows}
use Rattle.rdf_mapping.specs.Drawing.{first_row, fit, kids_seen, row_for, singles, tags_of}
use Rattle.rdf_mapping.proofs.NodeDrawingLaws.{same_tag}
use Rattle.rdf_mapping.specs.Written.{all_written, doubled, given, given_of, next_given, written}

-- Trees that agree by place agree as sets.

each_more : (us : List Tree) (t : Tree) (ts : List Tree) → EachHoldsOfSome (equivalents (kids_of us)) ts → EachHoldsOfSome (equivalents (kids_of us)) (t ∷ ts)
each_more [] t ts h = tt
each_more (u ∷ us) t ts h = (inr h.0, each_more us t ts h.1)

some_more : (u : Tree) (us ts : List Tree) → SomeHoldsOfEach (equivalents (kids_of us)) ts → SomeHoldsOfEach (equivalents (kids_of (u ∷ us))) ts
some_more u us [] h = tt
some_more u us (t ∷ ts) h = (inr h.0, some_more u us ts h.1)

each_some : (us ts : List Tree) → AgreeByPlace (equivalents (kids_of us)) ts → EachHoldsOfSome (equivalents (kids_of us)) ts
each_some [] ts h = tt
each_some (u ∷ us) [] h = absurd h
each_some (u ∷ us) (t ∷ ts) h = (inl h.0, each_more us t ts (each_some us ts h.1))

some_each : (us ts : List Tree) → AgreeByPlace (equivalents (kids_of us)) ts → SomeHoldsOfEach (equivalents (kids_of us)) ts
some_each us [] h = tt
some_each [] (t ∷ ts) h = absurd h
some_each (u ∷ us) (t ∷ ts) h = (inl h.0, some_more u us ts (some_each us ts h.1))

pub set_agree : (n : ℕ) (us ts : List Tree) → AgreeByPlace (equivalents (kids_of us)) ts → AgreeAsSetFrom n (equivalents (kids_of us)) ts
set_agree zero us ts h = (each_some us ts h, some_each us ts h)
set_agree (suc n) [] [] h = tt
set_agree (suc n) [] (t ∷ ts) h = absurd h
set_agree (suc n) (u ∷ us) [] h = absurd h
set_agree (suc n) (u ∷ us) (t ∷ ts) h = (h.0, set_agree n us ts h.1)

pub place_agree : (o : Option ℕ) (us ts : List Tree) → AgreeByPlace (equivalents (kids_of us)) ts → Agree o (equivalents (kids_of us)) ts
place_agree None us ts h = h
place_agree (Some n) us ts h = set_agree n us ts h

-- and so one that is written twice
pub doubled_agree : (least : ℕ) (us ts : List Tree) → AgreeByPlace (equivalents (kids_of us)) ts → AgreeAsSetFrom 0 (equivalents (kids_of (doubled least us))) ts
doubled_agree least [] ts h = set_agree 0 [] ts h
doubled_agree least (u ∷ []) [] h = absurd h
doubled_agree least (u ∷ []) (t ∷ ts) h = by (nat_le 2 least)
  where
    by : (b : Bool) → AgreeAsSetFrom 0 (equivalents (kids_of (cond b (u ∷ u ∷ []) (u ∷ [])))) (t ∷ ts)
    by true = ((inl h.0, (inl h.0, tt)), some_more u (u ∷ []) (t ∷ ts) (some_each (u ∷ []) (t ∷ ts) h))
    by false = set_agree 0 (u ∷ []) (t ∷ ts) h
doubled_agree least (u ∷ v ∷ us) ts h = set_agree 0 (u ∷ v ∷ us) ts h

-- Parts give the kids that stand at them.

abbrev pub no_doubling : Want → Bool
no_doubling (One s) = true
no_doubling (Many s least) = not (nat_le 2 least)
no_doubling (Whole t s least) = true
no_doubling Keys = true
no_doubling (Declared t) = true
no_doubling Mark = true
no_doubling True = true

not_doubled : (least : ℕ) (us : List Tree) → nat_le 2 least ≡ false → doubled least us ≡ us
not_doubled least [] h = refl
not_doubled least (u ∷ []) h = cond-false (nat_le 2 least) (u ∷ u ∷ []) (u ∷ []) h
not_doubled least (u ∷ v ∷ us) h = refl

abbrev pub GivesSame : List Part → Type 0
GivesSame ps = (ts : List Tag) (us : List Tree) → fit ps ts ≡ true → length us ≡ length ts → given ps us ≡ us

next_same : (ps : List Part) → GivesSame ps → (ts : List Tag) (us : List Tree) → fit ps ts ≡ true → length us ≡ suc (length ts) → next_given (given ps) us ≡ us
next_same ps same ts [] f e = absurd (omega (arith, e))
next_same ps same ts (u ∷ us) f e = ap (λ (vs : List Tree). u ∷ vs) (same ts us f (omega (arith, e)))

gives_by : (pl : Place) (w : Want) (ps : List Part) → no_doubling w ≡ true → GivesSame ps → GivesSame (record { place = pl; want = w } ∷ ps)
unfolding fit given
gives_by pl (One s) ps h same [] us f e = absurd (both_ways false refl f)
gives_by pl (One s) ps h same (t ∷ ts) us f e = next_same ps same ts us (and_parts (admits s t) (fit ps ts) f).1 e
gives_by pl (Many s least) ps h same ts us f e =
    let j = length us - singles ps in
    let i = length ts - singles ps in
    let equal : i ≡ j = ap (λ (n : ℕ). n - singles ps) (sym e) in
    let fitting = (and_parts (list_all (admits s) (take i ts)) (fit ps (drop i ts)) (and_parts (nat_le _ i) _ f).1).1 in
    let behind : given ps (drop j us) ≡ drop j us =
    same (drop j ts) (drop j us) (ap (λ (n : ℕ). fit ps (drop n ts)) (sym equal) ∙ fitting)
    (length-drop j us ∙ ap (λ (n : ℕ). n - j) e ∙ sym (length-drop j ts)) in
    ap (λ (vs : List Tree). vs ++ given ps (drop j us)) (not_doubled least (take j us) (not-true (nat_le 2 least) h))
    ∙ ap (λ (vs : List Tree). take j us ++ vs) behind ∙ take-append-drop j us
gives_by pl (Whole u s least) ps h same [] us f e = absurd (both_ways false refl f)
gives_by pl (Whole u s least) ps h same (t ∷ ts) us f e = next_same ps same ts us (and_parts (is_tag u t) (fit ps ts) f).1 e
gives_by pl Keys ps h same [] us f e = absurd (both_ways false refl f)
gives_by pl Keys ps h same (t ∷ []) us f e = absurd (both_ways false refl f)
gives_by pl Keys ps h same (t ∷ v ∷ ts) [] f e = absurd (omega (arith, e))
gives_by pl Keys ps h same (t ∷ v ∷ ts) (u ∷ []) f e = absurd (omega (arith, e))
gives_by pl Keys ps h same (t ∷ v ∷ ts) (u ∷ w ∷ us) f e =
    let tags = and_parts (is_tag tag.ObjectKeys t) (is_tag tag.DataKeys v && fit ps ts) f in
    ap (λ (vs : List Tree). u ∷ w ∷ vs) (same ts us (and_parts (is_tag tag.DataKeys v) (fit ps ts) tags.1).1 (omega (arith, e)))
gives_by pl (Declared u) ps h same [] us f e = absurd (both_ways false refl f)
gives_by pl (Declared u) ps h same (t ∷ ts) us f e = next_same ps same ts us (and_parts (is_tag u t) (fit ps ts) f).1 e
gives_by pl Mark ps h same ts us f e = same ts us f e
gives_by pl True ps h same ts us f e = same ts us f e

none_given : GivesSame []
unfolding fit given
none_given ts [] f e = refl
none_given [] (u ∷ us) f e = absurd (omega (arith, e))
none_given (t ∷ ts) (u ∷ us) f e = absurd (both_ways false refl f)

pub gives_same : (ps : List Part) → list_all (λ p. no_doubling p.want) ps ≡ true → GivesSame ps
gives_same [] h = none_given
gives_same (p ∷ ps) h =
    let both = and_parts (no_doubling p.want) (list_all (λ q. no_doubling q.want) ps) h in
    gives_by p.place p.want ps both.0 (gives_same ps both.1)

-- a set alone, behind a mark
abbrev is_set : Want → Want → Bool
is_set Mark (Many s least) = true
is_set _ _ = false

abbrev is_set_alone : List Part → Bool
is_set_alone (p ∷ q ∷ []) = is_set p.want q.want
is_set_alone _ = false

set_by : (pl ql : Place) (w v : Want) → is_set w v ≡ true → (us : List Tree) → (least : ℕ) × (given (record { place = pl; want = w } ∷ record { place = ql; want = v } ∷ []) us ≡ doubled least us)
unfolding given
set_by pl ql Mark (Many s least) h us =
    let e : length us - 0 ≡ length us = omega arith in (
      least,
      append-nil (doubled least (take (length us - 0) us))
          ∙ ap (λ (n : ℕ). doubled least (take n us)) e ∙ ap (doubled least) (take-length us),
    )
set_by pl ql _ _ h us = absurd (both_ways false refl h)

set_given : (ps : List Part) → is_set_alone ps ≡ true → (us : List Tree) → (least : ℕ) × (given ps us ≡ doubled least us)
set_given (p ∷ q ∷ []) h us = set_by p.place q.place p.want q.want h us
set_given _ h us = absurd (both_ways false refl h)

abbrev starts_first : Option ℕ → Bool
starts_first None = false
starts_first (Some zero) = true
starts_first (Some (suc n)) = false

first_start : (o : Option ℕ) → starts_first o ≡ true → o ≡ Some 0
first_start None h = absurd (both_ways false refl h)
first_start (Some zero) h = refl
first_start (Some (suc n)) h = absurd (both_ways false refl h)

abbrev is_same_as_set : Row → Bool
is_same_as_set r = list_all (λ p. no_doubling p.want) r.parts || (is_set_alone r.parts && starts_first (set_start (row_of r.tag)))

all_same_as_sets : list_all is_same_as_set node_rows ≡ true
unfolding node_rows row_of
all_same_as_sets = refl

-- The row of a tree.

pub first_in : (rows : List Row) (r : Row) → first_row rows ≡ Some r → Contains rows r
first_in [] r e = cc
first_in (q ∷ rs) r e = let same : q ≡ r = cc in subst (λ p. Contains (q ∷ rs) p) same (in_head q rs)

record IsRowOf (t : Tag) (ts : List Tag) (r : Row) : Type 0 where
  among : Contains node_rows r
  tag : is_tag r.tag t ≡ true
  fits : fit r.parts ts ≡ true

row_kept : (t : Tag) (ts : List Tag) (r : Row) → row_for node_rows t ts ≡ Some r → IsRowOf t ts r
unfolding row_for
row_kept t ts r e =
    let kept = from_filter (λ q. is_tag q.tag t && fit q.parts ts) node_rows r (first_in (filter (λ q. is_tag q.tag t && fit q.parts ts) node_rows) r e) in
    let both = and_parts (is_tag r.tag t) (fit r.parts ts) kept.passes in
    record { among = kept.inside; tag = both.0; fits = both.1 }

same_length : (ks : Kids) → length (all_written ks) ≡ length (tags_of (kids_seen ks))
same_length no_kids = refl
same_length (kid t ks) = ap suc (same_length ks)

row_agrees : (t : Tag) (ts : List Tag) (us vs : List Tree) (r : Row) → IsRowOf t ts r → length us ≡ length ts → AgreeByPlace (equivalents (kids_of us)) vs → Agree (set_start (row_of t)) (equivalents (kids_of (given r.parts us))) vs
row_agrees t ts us vs r is e h =
    elim (or_cases (list_all (λ p. no_doubling p.want) r.parts) (is_set_alone r.parts && starts_first (set_start (row_of r.tag))) (passes is_same_as_set node_rows r all_same_as_sets is.among)) [
      | inl n ↦
          subst (λ ws. Agree (set_start (row_of t)) (equivalents (kids_of ws)) vs) (sym (gives_same r.parts n ts us is.fits e))
          (place_agree (set_start (row_of t)) us vs h)
      | inr d ↦
          let both = and_parts (is_set_alone r.parts) (starts_first (set_start (row_of r.tag))) d in
          let set = set_given r.parts both.0 us in
          let start : set_start (row_of t) ≡ Some 0 =
          ap (λ (u : Tag). set_start (row_of u)) (sym (same_tag r.tag t is.tag)) ∙ first_start (set_start (row_of r.tag)) both.1 in
          subst (λ o. Agree o (equivalents (kids_of (given r.parts us))) vs) (sym start)
          (subst (λ ws. AgreeAsSetFrom 0 (equivalents (kids_of ws)) vs) (sym set.1) (doubled_agree set.0 us vs h))
    ]

kids_agree : (t : Tag) (ks : Kids) (o : Option Row) → row_for node_rows t (tags_of (kids_seen ks)) ≡ o → AgreeByPlace (equivalents (kids_of (all_written ks))) (list_of ks) → Agree (set_start (row_of t)) (equivalents (kids_of (given_of o (all_written ks)))) (list_of ks)
kids_agree t ks None e h = place_agree (set_start (row_of t)) (all_written ks) (list_of ks) h
kids_agree t ks (Some r) e h =
    row_agrees t (tags_of (kids_seen ks)) (all_written ks) (list_of ks) r (row_kept t (tags_of (kids_seen ks)) r e) (same_length ks) h

mutual
  pub written_equivalent : (t : Tree) → IsEquivalent (written t) t
  written_equivalent (leaf t a) = (refl, refl)
  written_equivalent (node t ks) = (refl, kids_agree t ks (row_for node_rows t (tags_of (kids_seen ks))) refl (each_equivalent ks))

  pub each_equivalent : (ks : Kids) → AgreeByPlace (equivalents (kids_of (all_written ks))) (list_of ks)
  each_equivalent no_kids = tt
  each_equivalent (kid t ks) = (written_equivalent t, each_equivalent ks)
