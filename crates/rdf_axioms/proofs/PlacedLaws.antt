-- The kids of an axiom stand at the parts of its row.
use Rattle.std.proofs.Common.{◌≡◌, ◌-◌, ℕ, true, false, List, [], ◌∷◌, ◌++◌, length, drop, take, refl, sym, ap, ◌∙◌, arith}
use Rattle.std.specs.Prelude.{map, min, nat_le}
use Rattle.std.specs.List.{AllByRecursion, list_all}
use Rattle.std.proofs.Math.Seq.{take-length}
use Rattle.std.proofs.lemmas.Bool.{and_parts, both_ways}
use Rattle.std.proofs.lemmas.List.{length-map}
use Rattle.std.proofs.lemmas.Simd.{map-map}
use Rattle.owl_tree.specs.declared.row.Sort.{Sort}
use Rattle.owl_tree.specs.declared.row.Sort.TheVariants as sort
use Rattle.owl_tree.specs.declared.tag.Tag.{Tag}
use Rattle.owl_tree.specs.Rows.{admits, is_tag}
use Rattle.owl_tree.specs.Trees.{Tree, tag_of}
use Rattle.rdf_meaning.specs.declared.row.Part.{Part}
use Rattle.rdf_meaning.specs.declared.row.Place.{Place}
use Rattle.rdf_meaning.specs.declared.row.Want.{Want}
use Rattle.rdf_meaning.specs.declared.row.Want.TheVariants.{One, Many, Whole, Keys, Declared, Mark, True}
use Rattle.rdf_mapping.specs.Drawing.{Kid, Placed, fit, form_of, forms_of, kid_of, listed, placed, placed_at, tags_of}
use Rattle.rdf_mapping.specs.Forms.{Form, list_form}
use Rattle.rdf_mapping.proofs.RowDrawingLaws.{tag_seen}
use Rattle.rdf_mapping.specs.Written.{doubled, given, is_wanted, written}
use Rattle.rdf_axioms.proofs.Placed.{StandAt, are_ends, is_chain, is_end}

pub tags_seen : (ts : List Tree) → tags_of (map kid_of ts) ≡ map tag_of ts
tags_seen [] = refl
tags_seen (t ∷ ts) = λ i. tag_seen t i ∷ tags_seen ts i

-- What is known of each tree gives what is known at each part.
pub record GivesEach (IsSo : Want → Form → List Tree → Type 0) (IsGood : Tree → Type 0) : Type 0 where
  pub one : (s : Sort) (t : Tree) → is_wanted s ≡ true → admits s (tag_of t) ≡ true → IsGood t → IsSo (One s) (form_of t) (written t ∷ [])
  pub many : (s : Sort) (least : ℕ) (ts : List Tree) → is_wanted s ≡ true → nat_le least 2 ≡ true →
      nat_le (min least 1) (length ts) ≡ true → list_all (admits s) (tags_of (map kid_of ts)) ≡ true → AllByRecursion IsGood ts →
      IsSo (Many s least) (listed least (map form_of ts)) (doubled least (map written ts))
  pub whole : (u : Tag) (s : Sort) (least : ℕ) (t : Tree) → is_chain u s least ≡ true → is_tag u (tag_of t) ≡ true → IsGood t →
      IsSo (Whole u s least) (listed least (kid_of t).members) (written t ∷ [])
  pub declared : (u : Tag) (t : Tree) → admits sort.Entity u ≡ true → is_tag u (tag_of t) ≡ true → IsGood t →
      IsSo (Declared u) (form_of t) (written t ∷ [])

module _ (IsSo : Want → Form → List Tree → Type 0) (IsGood : Tree → Type 0) (gives : GivesEach IsSo IsGood) where
  abbrev Stand : List Part → Type 0
  Stand ps = (ts : List Tree) → fit ps (tags_of (map kid_of ts)) ≡ true → AllByRecursion IsGood ts → StandAt IsSo ps ts

  abbrev part : Place → Want → Part
  part pl w = record { place = pl; want = w }

  -- one kid, and those behind it
  next_stands : (pl : Place) (w : Want) (ps : List Part) (t : Tree) (ts : List Tree) (f : Form) → IsSo w f (written t ∷ []) → placed (part pl w ∷ ps) (map kid_of (t ∷ ts)) ≡ placed_at pl f ∷ placed ps (map kid_of ts) → given (part pl w ∷ ps) (map written (t ∷ ts)) ≡ written t ∷ given ps (map written ts) → StandAt IsSo ps ts → StandAt IsSo (part pl w ∷ ps) (t ∷ ts)
  next_stands pl w ps t ts f so forms trees rest =
      record {
        placed_so = (record { form = f; trees = written t ∷ []; fact = so }, rest.placed_so);
        forms = forms ∙ ap (λ (qs : List Placed). placed_at pl f ∷ qs) rest.forms;
        trees = trees ∙ ap (λ (us : List Tree). written t ∷ us) rest.trees;
      }

  one_stands : (pl : Place) (s : Sort) (ps : List Part) → is_wanted s ≡ true → Stand ps → Stand (part pl (One s) ∷ ps)
  unfolding fit placed given
  one_stands pl s ps h next [] f all = absurd (both_ways false refl f)
  one_stands pl s ps h next (t ∷ ts) f all =
      let fits = and_parts (admits s (kid_of t).tag) (fit ps (tags_of (map kid_of ts))) f in
      next_stands pl (One s) ps t ts (form_of t) (gives.one s t h (ap (admits s) (sym (tag_seen t)) ∙ fits.0) all.0) refl refl (next ts fits.1 all.1)

  declared_stands : (pl : Place) (u : Tag) (ps : List Part) → admits sort.Entity u ≡ true → Stand ps → Stand (part pl (Declared u) ∷ ps)
  unfolding fit placed given
  declared_stands pl u ps h next [] f all = absurd (both_ways false refl f)
  declared_stands pl u ps h next (t ∷ ts) f all =
      let fits = and_parts (is_tag u (kid_of t).tag) (fit ps (tags_of (map kid_of ts))) f in
      next_stands pl (Declared u) ps t ts (form_of t) (gives.declared u t h (ap (is_tag u) (sym (tag_seen t)) ∙ fits.0) all.0) refl refl (next ts fits.1 all.1)

  whole_stands : (pl : Place) (u : Tag) (s : Sort) (least : ℕ) (ps : List Part) → is_chain u s least ≡ true → Stand ps → Stand (part pl (Whole u s least) ∷ ps)
  unfolding fit placed given
  whole_stands pl u s least ps h next [] f all = absurd (both_ways false refl f)
  whole_stands pl u s least ps h next (t ∷ ts) f all =
      let fits = and_parts (is_tag u (kid_of t).tag) (fit ps (tags_of (map kid_of ts))) f in
      next_stands pl (Whole u s least) ps t ts (listed least (kid_of t).members)
      (gives.whole u s least t h (ap (is_tag u) (sym (tag_seen t)) ∙ fits.0) all.0) refl refl (next ts fits.1 all.1)

  all_taken : {X : Type 0} (xs : List X) → take (length xs - 0) xs ≡ xs
  all_taken xs =
      let e : length xs - 0 ≡ length xs = omega arith in
      ap (λ (n : ℕ). take n xs) e ∙ take-length xs

  many_stands : (pl : Place) (s : Sort) (least : ℕ) → is_wanted s ≡ true → nat_le least 2 ≡ true → Stand (part pl (Many s least) ∷ [])
  unfolding fit placed given
  many_stands pl s least h small ts f all =
      let tags = tags_of (map kid_of ts) in
      let n : length tags - 0 ≡ length ts = omega (arith, length-map (map kid_of ts) (λ (q : Kid). q.tag), length-map ts kid_of) in
      let tests = and_parts (nat_le (min least 1) (length tags - 0)) _ f in
      let more = and_parts (list_all (admits s) (take (length tags - 0) tags)) (fit [] (drop (length tags - 0) tags)) tests.1 in
      record {
        placed_so = (
          record {
            form = listed least (map form_of ts);
            trees = doubled least (map written ts);
            fact =
                gives.many s least ts h small (ap (nat_le (min least 1)) (sym n) ∙ tests.0)
                (ap (list_all (admits s)) (sym (all_taken tags)) ∙ more.0) all;
          },
          tt,
        );
        forms =
            ap (λ (fs : List Form). placed_at pl (listed least fs) ∷ [])
            (ap forms_of (all_taken (map kid_of ts)) ∙ map-map (λ (q : Kid). q.form) kid_of ts);
        trees = ap (λ (us : List Tree). doubled least us ++ []) (all_taken (map written ts));
      }

  part_stands : (pl : Place) (w : Want) (ps : List Part) → is_end w ps ≡ true → Stand ps → Stand (part pl w ∷ ps)
  part_stands pl (One s) ps h next = one_stands pl s ps h next
  part_stands pl (Many s least) [] h next = let parts = and_parts (is_wanted s) (nat_le least 2) h in many_stands pl s least parts.0 parts.1
  part_stands pl (Many s least) (p ∷ ps) h next = absurd (both_ways false refl h)
  part_stands pl (Whole u s least) ps h next = whole_stands pl u s least ps h next
  part_stands pl Keys ps h next = absurd (both_ways false refl h)
  part_stands pl (Declared u) ps h next = declared_stands pl u ps h next
  part_stands pl Mark ps h next = absurd (both_ways false refl h)
  part_stands pl True ps h next = absurd (both_ways false refl h)

  none_stand : Stand []
  unfolding fit placed given
  none_stand [] f all = record { placed_so = tt; forms = refl; trees = refl }
  none_stand (t ∷ ts) f all = absurd (both_ways false refl f)

  -- kids that fit the parts stand at them
  pub kids_stand : (ps : List Part) → are_ends ps ≡ true → Stand ps
  kids_stand [] h = none_stand
  kids_stand (p ∷ ps) h =
      let parts = and_parts (is_end p.want ps) (are_ends ps) h in part_stands p.place p.want ps parts.0 (kids_stand ps parts.1)

  -- a kid, and then the two groups of keys
  pub keys_stand : (pl ql : Place) (s : Sort) → is_wanted s ≡ true → (c o d : Tree) → admits s (tag_of c) ≡ true → IsGood c → IsSo Keys (list_form ((kid_of o).members ++ (kid_of d).members)) (written o ∷ written d ∷ []) → StandAt IsSo (part pl (One s) ∷ part ql Keys ∷ []) (c ∷ o ∷ d ∷ [])
  unfolding placed given
  keys_stand pl ql s h c o d m good so =
      record {
        placed_so = (
          record { form = form_of c; trees = written c ∷ []; fact = gives.one s c h m good },
          (record { form = list_form ((kid_of o).members ++ (kid_of d).members); trees = written o ∷ written d ∷ []; fact = so }, tt),
        );
        forms = refl;
        trees = refl;
      }
