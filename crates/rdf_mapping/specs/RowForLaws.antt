-- Each expression has a row that its kids fit.
use Rattle.std.proofs.Common.{◌≡◌, ◌-◌, ℕ, suc, Bool, true, false, List, [], ◌∷◌, ◌++◌, length, drop, take, refl, sym, ap, ◌∙◌, subst, arith}
use Rattle.std.specs.Prelude.{Contains, map, min, ◌&&◌, nat_le, Some}
use Rattle.std.specs.List.{filter, list_all}
use Rattle.std.proofs.lemmas.Bool.{and_from, and_parts, both_ways, le-leb, leb-true}
use Rattle.std.proofs.Math.Seq.{take-length, drop-length}
use Rattle.std.proofs.lemmas.List.Sums.{length-filter}
use Rattle.owl_list.proofs.AscendingLaws.{from_map, in_head, in_map, in_none, in_tail}
use Rattle.owl_tree.specs.declared.row.Sort.{Sort}
use Rattle.owl_tree.specs.declared.row.Rest.{Rest}
use Rattle.owl_tree.specs.declared.row.Rest.TheVariants.{Nothing, Optional, AtLeast, SomeThen, Set}
use Rattle.owl_tree.specs.declared.tag.Tag.{Tag}
use Rattle.owl_tree.specs.declared.tag.Tag.TheVariants as tag
use Rattle.owl_tree.specs.Rows.{admits, ends_in, fits, fits_front, fits_rest, is_tag, row_of}
use Rattle.owl_tree.specs.Rows as tree
use Rattle.rdf_meaning.specs.declared.row.Part.{Part}
use Rattle.rdf_meaning.specs.declared.row.Place.{Place}
use Rattle.rdf_meaning.specs.declared.row.Place.TheVariants.{Subject}
use Rattle.rdf_meaning.specs.declared.row.Want.{Want}
use Rattle.rdf_meaning.specs.declared.row.Want.TheVariants.{One, Many, Whole, Keys, Declared, Mark, True}
use Rattle.owl_list.proofs.FilterLaws.{from_filter, in_filter}
use Rattle.rdf_meaning.specs.RowShapes.{is_expression, kid_wants, ways, ways_behind, ways_of_rows}
use Rattle.rdf_meaning.specs.Rows.{Row, node_rows}
use Rattle.rdf_meaning.proofs.ShapeLaws.{each_way_has_a_row}
use Rattle.rdf_mapping.specs.Drawing.{first_row, fit, row_for, singles, takes_one}

-- parts with these wants, wherever they stand
abbrev pub part : Want → Part
part w = record { place = Subject; want = w }

abbrev pub parts_for : List Want → List Part
parts_for ws = map part ws

-- Marks take no kid.

-- the parts that take one kid each
abbrev taking : List Part → ℕ
taking ps = length (filter (λ p. takes_one p.want) ps)

taking_by : (pl : Place) (w : Want) (ps : List Part) → taking ps ≡ taking (parts_for (kid_wants ps)) → taking (record { place = pl; want = w } ∷ ps) ≡ taking (parts_for (kid_wants (record { place = pl; want = w } ∷ ps)))
taking_by pl (One s) ps e = ap suc e
taking_by pl (Many s least) ps e = e
taking_by pl (Whole t s least) ps e = ap suc e
taking_by pl Keys ps e = e
taking_by pl (Declared t) ps e = ap suc e
taking_by pl Mark ps e = e
taking_by pl True ps e = e

same_taking : (ps : List Part) → taking ps ≡ taking (parts_for (kid_wants ps))
same_taking [] = refl
same_taking (p ∷ ps) = taking_by p.place p.want ps (same_taking ps)

same_singles : (ps : List Part) → singles ps ≡ singles (parts_for (kid_wants ps))
same_singles ps = sym (length-filter (λ (p : Part). takes_one p.want) ps) ∙ same_taking ps ∙ length-filter (λ (p : Part). takes_one p.want) (parts_for (kid_wants ps))

abbrev pub SameFit : List Part → Type 0
SameFit ps = (ts : List Tag) → fit ps ts ≡ fit (parts_for (kid_wants ps)) ts

fit_by : (pl : Place) (w : Want) (ps : List Part) → SameFit ps → SameFit (record { place = pl; want = w } ∷ ps)
unfolding fit
fit_by pl (One s) ps same [] = refl
fit_by pl (One s) ps same (t ∷ ts) = λ i. admits s t && same ts i
fit_by pl (Many s least) ps same ts =
    let k = singles ps in
    ap (λ (b : List Tag → Bool). nat_le (min least 1) (length ts - k) && (list_all (admits s) (take (length ts - k) ts) && b (drop (length ts - k) ts))) (λ i. λ us. same us i)
    ∙ ap (λ (n : ℕ). nat_le (min least 1) (length ts - n) && (list_all (admits s) (take (length ts - n) ts) && fit (parts_for (kid_wants ps)) (drop (length ts - n) ts))) (same_singles ps)
fit_by pl (Whole u s least) ps same [] = refl
fit_by pl (Whole u s least) ps same (t ∷ ts) = λ i. is_tag u t && same ts i
fit_by pl Keys ps same [] = refl
fit_by pl Keys ps same (t ∷ []) = refl
fit_by pl Keys ps same (t ∷ u ∷ ts) = λ i. is_tag tag.ObjectKeys t && (is_tag tag.DataKeys u && same ts i)
fit_by pl (Declared u) ps same [] = refl
fit_by pl (Declared u) ps same (t ∷ ts) = λ i. is_tag u t && same ts i
fit_by pl Mark ps same ts = same ts
fit_by pl True ps same ts = same ts

-- the same is asked by parts and by their wants
pub same_fit : (ps : List Part) → SameFit ps
unfolding fit
same_fit [] = λ ts. refl
same_fit (p ∷ ps) = fit_by p.place p.want ps (same_fit ps)

-- Tags that may stand below a tag fit one of its ways.

none_fits : fit [] [] ≡ true
unfolding fit
none_fits = refl

many_fits : (s : Sort) (n : ℕ) (ts : List Tag) → nat_le (min n 1) (length ts) ≡ true → list_all (admits s) ts ≡ true → fit (part (Many s n) ∷ []) ts ≡ true
unfolding fit
many_fits s n ts h all =
    let e : length ts - 0 ≡ length ts = omega arith in
    and_from (nat_le (min n 1) (length ts - 0)) _ (ap (nat_le (min n 1)) e ∙ h)
    (and_from (list_all (admits s) (take (length ts - 0) ts)) (fit [] (drop (length ts - 0) ts))
    (ap (λ (i : ℕ). list_all (admits s) (take i ts)) e ∙ ap (list_all (admits s)) (take-length ts) ∙ all)
    (ap (λ (i : ℕ). fit [] (drop i ts)) e ∙ ap (fit []) (drop-length ts) ∙ none_fits))

one_fits : (s : Sort) (t : Tag) → admits s t ≡ true → fit (part (One s) ∷ []) (t ∷ []) ≡ true
unfolding fit
one_fits s t h = and_from (admits s t) true h refl

-- all but the last are of the one sort, and the last of the other
ends : (s l : Sort) (t u : Tag) (ts : List Tag) → ends_in s l (t ∷ u ∷ ts) ≡ true → (list_all (admits s) (take (suc (length ts)) (t ∷ u ∷ ts)) ≡ true) × (fit (part (One l) ∷ []) (drop (suc (length ts)) (t ∷ u ∷ ts)) ≡ true)
ends s l t u [] h = let both = and_parts (admits s t) (admits l u) h in (and_from (admits s t) true both.0 refl, one_fits l u both.1)
ends s l t u (v ∷ ts) h =
    let both = and_parts (admits s t) (ends_in s l (u ∷ v ∷ ts)) h in
    let more = ends s l u v ts both.1 in
    (and_from (admits s t) (list_all (admits s) (take (suc (length ts)) (u ∷ v ∷ ts))) both.0 more.0, more.1)

ends_fit : (s l : Sort) (t u : Tag) (ts : List Tag) → ends_in s l (t ∷ u ∷ ts) ≡ true → fit (part (Many s 1) ∷ part (One l) ∷ []) (t ∷ u ∷ ts) ≡ true
unfolding fit
ends_fit s l t u ts h =
    let e : length (t ∷ u ∷ ts) - singles (part (One l) ∷ []) ≡ suc (length ts) = omega arith in
    let both = ends s l t u ts h in
    let n = length (t ∷ u ∷ ts) - singles (part (One l) ∷ []) in
    and_from (nat_le (min 1 1) n) _ (le-leb 1 n (omega (arith, e)))
    (and_from (list_all (admits s) (take n (t ∷ u ∷ ts))) (fit (part (One l) ∷ []) (drop n (t ∷ u ∷ ts)))
    (ap (λ (i : ℕ). list_all (admits s) (take i (t ∷ u ∷ ts))) e ∙ both.0)
    (ap (λ (i : ℕ). fit (part (One l) ∷ []) (drop i (t ∷ u ∷ ts))) e ∙ both.1))

-- they fit the parts of a way, with these in front
pub record FitsWay (all : List (List Want)) (front : List Want) (ts : List Tag) : Type 0 where
  pub behind : List Want
  pub among : Contains all behind
  pub fits_way : fit (parts_for (front ++ behind)) ts ≡ true

at_least_one : (n m : ℕ) → nat_le n m ≡ true → nat_le (min n 1) m ≡ true
at_least_one n m h = le-leb (min n 1) m (omega (arith, leb-true n m h))

rest_fits : (rest : Rest) (ts : List Tag) → fits_rest rest ts ≡ true → FitsWay (ways_behind rest) [] ts
rest_fits Nothing [] h = record { behind = []; among = in_head [] []; fits_way = none_fits }
rest_fits Nothing (t ∷ ts) h = absurd (both_ways false refl h)
rest_fits (Optional s) [] h = record { behind = []; among = in_head [] ((One s ∷ []) ∷ []); fits_way = none_fits }
rest_fits (Optional s) (t ∷ []) h =
    record { behind = One s ∷ []; among = in_tail [] ((One s ∷ []) ∷ []) (One s ∷ []) (in_head (One s ∷ []) []); fits_way = one_fits s t h }
rest_fits (Optional s) (t ∷ u ∷ ts) h = absurd (both_ways false refl h)
rest_fits (AtLeast s n) ts h =
    let both = and_parts (nat_le n (length ts)) (list_all (admits s) ts) h in
    record { behind = Many s n ∷ []; among = in_head (Many s n ∷ []) []; fits_way = many_fits s n ts (at_least_one n (length ts) both.0) both.1 }
rest_fits (SomeThen s l) [] h = absurd (both_ways false refl h)
rest_fits (SomeThen s l) (t ∷ []) h = absurd (both_ways false refl h)
rest_fits (SomeThen s l) (t ∷ u ∷ ts) h =
    record {
      behind = Many s 1 ∷ One l ∷ [];
      among = in_tail (One s ∷ One l ∷ []) ((Many s 1 ∷ One l ∷ []) ∷ []) (Many s 1 ∷ One l ∷ []) (in_head (Many s 1 ∷ One l ∷ []) []);
      fits_way = ends_fit s l t u ts h;
    }
rest_fits (Set s n) ts h =
    let both = and_parts (nat_le (min n 1) (length ts)) (list_all (admits s) ts) h in
    record { behind = Many s n ∷ []; among = in_head (Many s n ∷ []) []; fits_way = many_fits s n ts both.0 both.1 }

pub front_fits : (front : List Sort) (rest : Rest) (ts : List Tag) → fits_front front rest ts ≡ true → FitsWay (ways_behind rest) (map One front) ts
unfolding fit
front_fits [] rest ts h = rest_fits rest ts h
front_fits (s ∷ front) rest [] h = absurd (both_ways false refl h)
front_fits (s ∷ front) rest (t ∷ ts) h =
    let both = and_parts (admits s t) (fits_front front rest ts) h in
    let way = front_fits front rest ts both.1 in
    record { behind = way.behind; among = way.among; fits_way = and_from (admits s t) (fit (parts_for (map One front ++ way.behind)) ts) both.0 way.fits_way }

record IsWay (row : tree.Row) (ts : List Tag) : Type 0 where
  wants : List Want
  among : Contains (ways row) wants
  fits_way : fit (parts_for wants) ts ≡ true

some_way : (row : tree.Row) (ts : List Tag) → fits row ts ≡ true → IsWay row ts
some_way (tree.Leaf s) ts h = absurd (both_ways false refl h)
some_way (tree.Node front rest) ts h =
    let way = front_fits front rest ts h in
    record {
      wants = map One front ++ way.behind;
      among = in_map (λ behind. map One front ++ behind) (ways_behind rest) way.behind way.among;
      fits_way = way.fits_way;
    }

-- The first row that kids with these tags fit.

record FirstOf (rows : List Row) : Type 0 where
  row : Row
  is : first_row rows ≡ Some row
  among : Contains rows row

first_of : (rows : List Row) (q : Row) → Contains rows q → FirstOf rows
first_of [] q m = absurd (in_none q m)
first_of (r ∷ rs) q m = record { row = r; is = refl; among = in_head r rs }

pub record HasRowIn (rows : List Row) (t : Tag) (ts : List Tag) : Type 0 where
  pub row : Row
  pub is : row_for rows t ts ≡ Some row
  pub among : Contains rows row
  pub tag : is_tag row.tag t ≡ true
  pub fits : fit row.parts ts ≡ true

abbrev pub HasRowFor : Tag → List Tag → Type 0
HasRowFor t ts = HasRowIn node_rows t ts

row_of_first : (rows : List Row) (t : Tag) (ts : List Tag) → FirstOf (filter (λ r. is_tag r.tag t && fit r.parts ts) rows) → HasRowIn rows t ts
unfolding row_for
row_of_first rows t ts f =
    let kept = from_filter (λ r. is_tag r.tag t && fit r.parts ts) rows f.row f.among in
    let both = and_parts (is_tag f.row.tag t) (fit f.row.parts ts) kept.passes in
    record { row = f.row; is = f.is; among = kept.inside; tag = both.0; fits = both.1 }

-- where tags fit one of the ways that the rows of a tag write its kids, a row is found
pub row_by_way : (rows : List Row) (t : Tag) (ts : List Tag) (ws : List Want) → Contains (ways_of_rows rows t) ws → fit (parts_for ws) ts ≡ true → HasRowIn rows t ts
row_by_way rows t ts ws m h =
    let v = from_map (λ row. kid_wants row.parts) (filter (λ row. is_tag row.tag t) rows) ws m in
    let kept = from_filter (λ row. is_tag row.tag t) rows v.element v.inside in
    let fitting : fit v.element.parts ts ≡ true = same_fit v.element.parts ts ∙ ap (λ (us : List Want). fit (parts_for us) ts) v.value ∙ h in
    row_of_first rows t ts
    (first_of (filter (λ r. is_tag r.tag t && fit r.parts ts) rows) v.element
    (in_filter (λ r. is_tag r.tag t && fit r.parts ts) rows v.element kept.inside (and_from (is_tag v.element.tag t) (fit v.element.parts ts) kept.passes fitting)))

-- each expression has a row that its kids fit
pub has_row_for : (t : Tag) (ts : List Tag) → is_expression t ≡ true → fits (row_of t) ts ≡ true → HasRowFor t ts
has_row_for t ts e h =
    let way = some_way (row_of t) ts h in
    row_by_way node_rows t ts way.wants (subst (λ all. Contains all way.wants) (sym (each_way_has_a_row t e)) way.among) way.fits_way
