-- What the elements of lists make, one behind the other.
use Rattle.std.proofs.Common.{◌≡◌, ◌+◌, ◌<◌, ◌≤◌, ℕ, suc, Bool, true, List, [], ◌∷◌, ◌++◌, length, Some, Ok, Err, inl, inr, refl, sym, ap, ◌∙◌, subst, arith, map, append_assoc, drop, get_or, drop-cons, drop_of_length-le}
use Rattle.std.specs.List.{flat_map}
use Rattle.std.proofs.lemmas.List.{append-nil}
use Rattle.man_raw.specs.Raws.{RawTree, place_of}
use Rattle.owl_tree.specs.declared.tag.Tag.{Tag}
use Rattle.owl_tree.specs.Trees.{Tree}
use Rattle.man_resolve.specs.declared.fault.ResolveFault.{ResolveFault}
use Rattle.man_resolve.specs.declared.place.Place.{Place}
use Rattle.man_resolve.specs.declared.step.Step.{Step}
use Rattle.man_resolve.specs.Building.{AddsAll, AddsKids, AddsTree, AddsTrees, IsFaultOf, all_built, built}
use Rattle.man_resolve.specs.Expressions.{Knows, Told, after, all_of, in_front, meant, placed, stem, takes, where_takes}
use Rattle.man_resolve.specs.Items.{axiom_of, axioms_of, declaration_of, members, members_in, members_said, said_of, subject_of, where_found}
use Rattle.man_resolve.specs.Places.{name_place}
use Rattle.man_raw.specs.declared.document.RawPart.{RawPart}
use Rattle.man_raw.specs.Documents.{ItemTree}
use Rattle.man_resolve.proofs.BuildingLaws.{AreLeft, built_both, one_less, stopped}
use Rattle.man_resolve.proofs.PartLaws.{after_added}

-- ---- one list behind another

abbrev pub both : Told (List Tree) → Told (List Tree) → Told (List Tree)
both (Err f) s = Err f
both (Ok ts) s = after ts s

front_both : (t : Told Tree) (r s : Told (List Tree)) → in_front t (both r s) ≡ both (in_front t r) s
front_both (Err f) r s = refl
front_both (Ok t) (Err f) s = refl
front_both (Ok t) (Ok ts) (Err f) = refl
front_both (Ok t) (Ok ts) (Ok us) = refl

none_after : (s : Told (List Tree)) → s ≡ after [] s
none_after (Err f) = refl
none_after (Ok ts) = refl

pub all_both : (rs ss : List (Told Tree)) → all_of (rs ++ ss) ≡ both (all_of rs) (all_of ss)
all_both [] ss = none_after (all_of ss)
all_both (r ∷ rs) ss = ap (in_front r) (all_both rs ss) ∙ front_both r (all_of rs) (all_of ss)

all_ok : (ts : List Tree) → all_of (map Ok ts) ≡ Ok ts
all_ok [] = refl
all_ok (t ∷ ts) = ap (in_front (Ok t)) (all_ok ts)

pub ok_both : (ts : List Tree) (rs : List (Told Tree)) → all_of (map Ok ts ++ rs) ≡ after ts (all_of rs)
ok_both ts rs = all_both (map Ok ts) rs ∙ ap (λ r. both r (all_of rs)) (all_ok ts)

-- these trees were added, and what is behind them is left
pub more_added : (old now new : List Step) (all left : Told (List Tree)) (ts : List Tree) → AreLeft old now all (after ts left) → built new ≡ built now ++ all_built ts → AreLeft old new all left
more_added old now new all left ts are e = record {
  means = λ us f.
      let whole = are.means (ts ++ us) (ap (after ts) f) in
      (whole.0, whole.1, whole.2 ∙ ap (λ bs. built now ++ bs) (built_both ts us) ∙ sym (append_assoc (built now) (all_built ts) (all_built us)) ∙ ap (λ bs. bs ++ all_built us) (sym e));
  fails = λ f e. are.fails f (ap (after ts) e);
}

-- ---- what each element of a list means

module _ {X : Type 0} (means : X → List (Told Tree)) where
  abbrev pub all_meant : List X → Told (List Tree)
  all_meant xs = all_of (flat_map means xs)

  next_meant : (xs : List X) (i : ℕ) (x : X) → i < length xs → x ≡ get_or xs i x → all_meant (drop i xs) ≡ both (all_of (means x)) (all_meant (drop (i + 1) xs))
  next_meant xs i x h e =
      let n : suc i ≡ i + 1 = omega arith in
      ap all_meant (drop-cons xs i x h ∙ ap (λ y. y ∷ drop (suc i) xs) (sym e) ∙ ap (λ (m : ℕ). x ∷ drop m xs) n) ∙ all_both (means x) (flat_map means (drop (i + 1) xs))

  pub element_added : (old now new : List Step) (all : Told (List Tree)) (xs : List X) (i : ℕ) (x : X) → i < length xs → x ≡ get_or xs i x → AreLeft old now all (all_meant (drop i xs)) → AddsAll now new (all_of (means x)) →
      AreLeft old new all (all_meant (drop (i + 1) xs))
  element_added old now new all xs i x h e are adds =
      let left = subst (AreLeft old now all) (next_meant xs i x h e ∙ ap (λ r. both r (all_meant (drop (i + 1) xs))) adds.meant) are in
      more_added old now new all (all_meant (drop (i + 1) xs)) adds.trees left adds.added

  pub element_failed : (old now : List Step) (all : Told (List Tree)) (xs : List X) (i : ℕ) (x : X) → i < length xs → x ≡ get_or xs i x → AreLeft old now all (all_meant (drop i xs)) → (f : ResolveFault) →
      IsFaultOf (all_of (means x)) f → IsFaultOf all f
  element_failed old now all xs i x h e are f (inl m) = inl m
  element_failed old now all xs i x h e are f (inr m) = inr (are.fails f (next_meant xs i x h e ∙ ap (λ r. both r (all_meant (drop (i + 1) xs))) m))

  pub elements_added : (old now : List Step) (all : Told (List Tree)) (xs : List X) (i : ℕ) → length xs ≤ i → AreLeft old now all (all_meant (drop i xs)) → AddsAll old now all
  elements_added old now all xs i h are =
      let whole = are.means [] (ap all_meant (drop_of_length-le xs h)) in
      record { trees = whole.0; meant = whole.1; added = sym (whole.2 ∙ append-nil (built now)) }

-- ---- lists of members

pub members_added : (ks : Knows) (t : Tag) (p : Place) (subject : List Tree) (body : RawTree) (parts : List RawTree) (old one new : List Step) (given others : ℕ) (result : Bool) → Some parts ≡ members_in body →
    result ≡ takes t (1 + (given + length parts)) → result ≡ true → given ≡ length subject → built one ≡ built old ++ all_built subject → AddsTrees one new others (all_of (placed p p p (map (meant ks) parts))) →
    AddsKids old new t (given + others) (members ks t p subject body)
members_added ks t p subject body parts old one new given others result found e h few first adds =
    let kids = after_added old one new t subject given others (all_of (placed p p p (map (meant ks) parts))) first (sym few) adds in
    let n : 1 + (given + length parts) ≡ suc (length subject + length parts) = omega (arith, few) in
    let fits : true ≡ takes t (suc (length subject + length parts)) = sym h ∙ e ∙ ap (takes t) n in
    subst (λ o. AddsKids old new t (given + others) (where_found (place_of body) o (members_said ks t p subject (place_of body)))) found
    (subst (λ b. AddsKids old new t (given + others) (where_takes b (place_of body) (stem t (after subject (all_of (placed p p p (map (meant ks) parts))))))) fits kids)

-- ---- elements that mean a tree each

module _ {X : Type 0} (means : X → Told Tree) where
  abbrev pub one_each : List X → Told (List Tree)
  one_each xs = all_of (map means xs)

  next_one : (xs : List X) (i : ℕ) (x : X) → i < length xs → x ≡ get_or xs i x → one_each (drop i xs) ≡ in_front (means x) (one_each (drop (i + 1) xs))
  next_one xs i x h e =
      let n : suc i ≡ i + 1 = omega arith in
      ap one_each (drop-cons xs i x h ∙ ap (λ y. y ∷ drop (suc i) xs) (sym e) ∙ ap (λ (m : ℕ). x ∷ drop m xs) n)

  module _ (all : Told (List Tree)) (xs : List X) (i : ℕ) (x : X) (old now : List Step) (within : i < length xs) (is : x ≡ get_or xs i x) (are : AreLeft old now all (one_each (drop i xs))) where
    abbrev first : AreLeft old now all (in_front (means x) (one_each (drop (i + 1) xs)))
    first = subst (AreLeft old now all) (next_one xs i x within is) are

    pub one_added : (new : List Step) → AddsTree now new (means x) → AreLeft old new all (one_each (drop (i + 1) xs))
    one_added new adds = one_less old now new all (one_each (drop (i + 1) xs)) (means x) first adds

    pub one_failed : (f : ResolveFault) → IsFaultOf (means x) f → IsFaultOf all f
    one_failed f fault = stopped old now all (one_each (drop (i + 1) xs)) (means x) f first fault

  pub ones_added : (all : Told (List Tree)) (xs : List X) (i : ℕ) (old now : List Step) → length xs ≤ i → AreLeft old now all (one_each (drop i xs)) → AddsAll old now all
  ones_added all xs i old now h are =
      let whole = are.means [] (ap one_each (drop_of_length-le xs h)) in
      record { trees = whole.0; meant = whole.1; added = sym (whole.2 ∙ append-nil (built now)) }

pub item_means : (ks : Knows) (item : ItemTree) (subject : List Tree) (lent : List RawPart) → subject_of ks item.at (name_place item.heading) item.name ≡ Ok subject → lent ≡ item.parts →
    after (flat_map declaration_of subject) (one_each (axiom_of ks item.heading subject) lent) ≡ all_of (axioms_of ks item)
unfolding axioms_of
item_means ks item subject lent is same =
    ap (λ ps. after (flat_map declaration_of subject) (one_each (axiom_of ks item.heading subject) ps)) same
    ∙ sym (ok_both (flat_map declaration_of subject) (map (axiom_of ks item.heading subject) item.parts))
    ∙ ap (λ s. all_of (said_of ks item s)) (sym is)
