-- What steps make: the code that is added is that of what is meant.
use Rattle.std.proofs.Common.{◌≡◌, ◌-◌, ℕ, suc, List, [], ◌∷◌, ◌++◌, length, Some, Ok, Err, inl, inr, refl, sym, ap, ◌∙◌, arith, map, append_assoc, length-append}
use Rattle.std.specs.Prelude.{slice_get}
use Rattle.std.specs.Option.{option_map}
use Rattle.std.proofs.lemmas.List.{append-nil, length-map}
use Rattle.std.proofs.lemmas.Option.{slice_get-get_or, slice_get-map, same_Some}
use Rattle.std.proofs.Math.Seq.{get_or-append_seam}
use Rattle.owl_tree.specs.declared.tag.Tag.{Tag}
use Rattle.owl_tree.proofs.TreeLaws.{list_of_kids_of}
use Rattle.owl_tree.specs.Trees.{Tree, leaf, node, kids_of, list_of}
use Rattle.man_resolve.specs.declared.fault.ResolveFault.{ResolveFault}
use Rattle.man_resolve.specs.declared.place.Place.{Place}
use Rattle.man_resolve.specs.declared.step.Step.{Step}
use Rattle.man_resolve.specs.Building.{AddsKids, AddsTree, AddsTrees, Build, IsFaultOf, a_leaf, a_node, all_built, building, building_all, built, names_data, seen}
use Rattle.man_resolve.specs.Expressions.{Meaning, Stem, Told, all_of, in_front, is_data, node_of, placed, stem}

-- ---- several one behind the other

pub built_both : (ts us : List Tree) → all_built (ts ++ us) ≡ all_built ts ++ all_built us
built_both [] us = refl
built_both (t ∷ ts) us = ap (λ bs. building t ++ bs) (built_both ts us) ∙ sym (append_assoc (building t) (all_built ts) (all_built us))

pub built_one : (t : Tree) → all_built (t ∷ []) ≡ building t
built_one t = append-nil (building t)

one_longer : (t : Tree) (n : ℕ) (r : Told (List Tree)) → ((us : List Tree) → r ≡ Ok us → length us ≡ n) → (ts : List Tree) → in_front (Ok t) r ≡ Ok ts → length ts ≡ suc n
one_longer t n (Err f) h ts e = absurd (cc)
one_longer t n (Ok us) h ts e =
    let f : t ∷ us ≡ ts = cc in
    ap length (sym f) ∙ ap suc (h us refl)

pub all_length : (rs : List (Told Tree)) (ts : List Tree) → all_of rs ≡ Ok ts → length ts ≡ length rs
all_length [] ts e = let f : [] ≡ ts = cc in ap length (sym f)
all_length (Err f ∷ rs) ts e = absurd (cc)
all_length (Ok t ∷ rs) ts e = one_longer t (length rs) (all_of rs) (all_length rs) ts e

pub placed_length : (first second others : Place) (ms : List Meaning) → length (placed first second others ms) ≡ length ms
placed_length first second others [] = refl
placed_length first second others (m ∷ ms) = ap suc (placed_length second others others ms)

-- What is left to be meant makes the whole, with what was added.
pub record AreLeft (old now : List Step) (all left : Told (List Tree)) : Type 0 where
  pub means : (us : List Tree) → left ≡ Ok us → (ts : List Tree) × (all ≡ Ok ts) × (built old ++ all_built ts ≡ built now ++ all_built us)
  pub fails : (f : ResolveFault) → left ≡ Err f → all ≡ Err f

pub all_left : (steps : List Step) (all : Told (List Tree)) → AreLeft steps steps all all
all_left steps all = record { means = λ us e. (us, e, refl); fails = λ f e. e }

pub one_less : (old now new : List Step) (all left : Told (List Tree)) (t : Told Tree) → AreLeft old now all (in_front t left) → AddsTree now new t → AreLeft old new all left
one_less old now new all left t are adds = record {
  means = λ us e.
      let whole = are.means (adds.tree ∷ us) (λ i. in_front (adds.meant i) (e i)) in
      (whole.0, whole.1, whole.2 ∙ sym (append_assoc (built now) (building adds.tree) (all_built us)) ∙ ap (λ bs. bs ++ all_built us) (sym adds.added));
  fails = λ f e. are.fails f (λ i. in_front (adds.meant i) (e i));
}

pub none_left : (old now : List Step) (all : Told (List Tree)) (rs : List (Told Tree)) (count : ℕ) → all ≡ all_of rs → length rs ≡ count → AreLeft old now all (Ok []) → AddsTrees old now count all
none_left old now all rs count e n are =
    let whole = are.means [] refl in
    record {
      trees = whole.0;
      meant = whole.1;
      counted = all_length rs whole.0 (sym e ∙ whole.1) ∙ n;
      added = sym (whole.2 ∙ append-nil (built now));
    }

pub stopped : (old now : List Step) (all left : Told (List Tree)) (t : Told Tree) (f : ResolveFault) → AreLeft old now all (in_front t left) → IsFaultOf t f → IsFaultOf all f
stopped old now all left t f are (inl e) = inl e
stopped old now all left t f are (inr e) = inr (are.fails f (ap (λ u. in_front u left) e))

-- ---- nodes

pub over_kids : (t : Tag) (ks : List Tree) (n : ℕ) → length ks ≡ n → building (node t (kids_of ks)) ≡ all_built ks ++ a_node t n ∷ []
over_kids t ks n e = ap (λ m. all_built ks ++ a_node t m ∷ []) (ap length (list_of_kids_of ks) ∙ e)

pub node_added : (old now new : List Step) (t : Tag) (n : ℕ) (s : Told Stem) → AddsKids old now t n s → built new ≡ built now ++ a_node t n ∷ [] → AddsTree old new (node_of s)
node_added old now new t n s adds e =
    let k = adds.stem in
    record {
      tree = node k.tag (kids_of k.kids);
      meant = ap node_of adds.meant;
      added =
          e
          ∙ ap (λ bs. bs ++ a_node t n ∷ []) adds.added
          ∙ append_assoc (built old) (all_built k.kids) (a_node t n ∷ [])
          ∙ ap (λ bs. built old ++ bs) (ap (λ u. all_built k.kids ++ a_node u n ∷ []) (sym adds.tagged) ∙ sym (over_kids k.tag k.kids n adds.counted));
    }

pub stem_added : (old new : List Step) (t : Tag) (n : ℕ) (r : Told (List Tree)) → AddsTrees old new n r → AddsKids old new t n (stem t r)
stem_added old new t n r adds = record {
  stem = record { tag = t; kids = adds.trees };
  meant = ap (stem t) adds.meant;
  tagged = refl;
  counted = adds.counted;
  added = adds.added;
}

pub stem_failed : (t : Tag) (r : Told (List Tree)) (f : ResolveFault) → IsFaultOf r f → IsFaultOf (stem t r) f
stem_failed t r f (inl e) = inl e
stem_failed t r f (inr e) = inr (ap (stem t) e)

pub node_failed : (s : Told Stem) (f : ResolveFault) → IsFaultOf s f → IsFaultOf (node_of s) f
node_failed s f (inl e) = inl e
node_failed s f (inr e) = inr (ap node_of e)

-- ---- the last of the steps

last_of : (ts : List Step) (x : Build) → (s : Step) → (xs : List Build) → map seen ts ≡ xs ++ x ∷ [] → slice_get ts (length ts - 1) ≡ Some s → seen s ≡ x
last_of ts x s xs e h =
    let n : length ts ≡ suc (length xs) = sym (length-map ts seen) ∙ ap length e ∙ length-append xs (x ∷ []) ∙ omega arith in
    let m : length ts - 1 ≡ length xs = omega (arith, n) in
    let at : slice_get (map seen ts) (length xs) ≡ Some (seen s) = slice_get-map seen ts (length xs) ∙ ap (option_map seen) (ap (slice_get ts) (sym m) ∙ h) in
    let seam : slice_get (xs ++ x ∷ []) (length xs) ≡ Some x = slice_get-get_or (xs ++ x ∷ []) (length xs) x (simp (length-append) (omega arith)) ∙ ap Some (get_or-append_seam xs x [] x) in
    same_Some (seen s) x (sym at ∙ ap (λ bs. slice_get bs (length xs)) e ∙ seam)

pub ends_in : (steps : List Step) (s : Step) → slice_get steps (length steps - 1) ≡ Some s → (front : List Build) (t : Tree) → built steps ≡ front ++ building t → names_data (seen s) ≡ is_data t
ends_in steps s at front (leaf t a) e = ap names_data (last_of steps (a_leaf t a) s front e at)
ends_in steps s at front (node t ks) e =
    ap names_data (last_of steps (a_node t (length (list_of ks))) s (front ++ building_all ks) (e ∙ sym (append_assoc front (building_all ks) (a_node t (length (list_of ks)) ∷ []))) at)
