-- What the parts of a piece make.
use Rattle.std.proofs.Common.{◌≡◌, ◌+◌, ◌<◌, ◌≤◌, ℕ, suc, Bool, true, false, List, [], ◌∷◌, ◌++◌, length, Some, Ok, refl, sym, ap, ◌∙◌, subst, arith, map, append_assoc, drop, get_or, drop-cons, drop_of_length-le, length-append}
use Rattle.std.specs.Prelude.{if◌then◌else◌, slice_get}
use Rattle.std.proofs.lemmas.List.{drop-map, length-map}
use Rattle.std.proofs.lemmas.Option.{same_Some}
use Rattle.man_raw.specs.declared.form.Form.{Form}
use Rattle.man_raw.specs.declared.form.What.{What}
use Rattle.man_raw.specs.declared.form.What.TheVariants as what
use Rattle.man_raw.specs.Raws.{RawTree, list_of, raw, trees_of}
use Rattle.owl_tree.specs.declared.tag.Tag.{Tag}
use Rattle.owl_tree.specs.Trees.{Tree}
use Rattle.man_resolve.specs.declared.fault.ResolveFault.{ResolveFault}
use Rattle.man_resolve.specs.declared.place.Place.{Place}
use Rattle.man_resolve.specs.declared.place.Place.TheVariants as place
use Rattle.man_resolve.specs.declared.shape.ByKind.{ByKind}
use Rattle.man_resolve.specs.declared.shape.Shape.{Shape}
use Rattle.man_resolve.specs.declared.step.Step.{Step}
use Rattle.man_resolve.specs.Building.{AddsKids, AddsTree, AddsTrees, Build, IsFaultOf, all_built, building, built}
use Rattle.man_resolve.specs.Expressions.{Knows, Meaning, Stem, Told, after, all_at, all_of, behind, by_property, decided, in_front, is_data, meanings, meant, node_of, numbered, placed, shaped, stem, takes, where_takes}
use Rattle.man_resolve.specs.Items.{parts_of}
use Rattle.man_resolve.specs.Places.{shape_of}
use Rattle.man_resolve.proofs.BuildingLaws.{AreLeft, built_both, none_left, one_less, placed_length, stopped}

pub meanings_map : (ks : Knows) (ts : List RawTree) → meanings ks (trees_of ts) ≡ map (meant ks) ts
meanings_map ks [] = refl
meanings_map ks (t ∷ ts) = ap (λ ms. meant ks t ∷ ms) (meanings_map ks ts)

pub listed : (ts : List RawTree) → list_of (trees_of ts) ≡ ts
listed [] = refl
listed (t ∷ ts) = ap (λ us. t ∷ us) (listed ts)

-- the parts of a piece, as they are kept
pub parts_listed : (r : RawTree) (at : ℕ) (w : What) (parts lent : List RawTree) → raw at w (trees_of parts) ≡ r → lent ≡ parts → lent ≡ parts_of r
parts_listed r at w parts lent is same = same ∙ sym (listed parts) ∙ ap parts_of is

-- a piece of a form means what the shape of the form is over its parts
pub of_form : (ks : Knows) (p : Place) (r : RawTree) (at : ℕ) (w : What) (f : Form) (s : Shape) (parts lent : List RawTree) → raw at w (trees_of parts) ≡ r → w ≡ what.Form f → s ≡ shape_of p f → lent ≡ parts →
    shaped s p at (map (meant ks) lent) ≡ meant ks r p
of_form ks p r at w f s parts lent is form shape same =
    ap (λ ts. shaped s p at (map (meant ks) ts)) same
    ∙ ap (shaped s p at) (sym (meanings_map ks parts))
    ∙ ap (λ x. shaped x p at (meanings ks (trees_of parts))) shape
    ∙ ap (λ v. meant ks (raw at v (trees_of parts)) p) (sym form)
    ∙ ap (λ t. meant ks t p) is

-- ---- parts one by one

module _ (ks : Knows) where
  -- what these parts mean at these places
  abbrev pub each : Place → Place → Place → List RawTree → Told (List Tree)
  each first second others parts = all_of (placed first second others (map (meant ks) parts))

  pub each_but : (first second others : Place) (passed : ℕ) (parts rest : List RawTree) → rest ≡ drop passed parts →
      each first second others rest ≡ all_of (placed first second others (drop passed (map (meant ks) parts)))
  each_but first second others passed parts rest e =
      ap (each first second others) e ∙ ap (λ ms. all_of (placed first second others ms)) (sym (drop-map (meant ks) passed parts))

  pub each_next : (p q r : Place) (rest : List RawTree) (i : ℕ) (part : RawTree) → i < length rest → part ≡ get_or rest i part →
      each p q r (drop i rest) ≡ in_front (meant ks part p) (each q r r (drop (i + 1) rest))
  each_next p q r rest i part h e =
      let n : suc i ≡ i + 1 = omega arith in
      ap (each p q r) (drop-cons rest i part h ∙ ap (λ (t : RawTree). t ∷ drop (suc i) rest) (sym e) ∙ ap (λ (m : ℕ). part ∷ drop m rest) n)

  module _ (all : Told (List Tree)) (p q r : Place) (rest : List RawTree) (i : ℕ) (part : RawTree) (old now : List Step) (within : i < length rest) (is : part ≡ get_or rest i part) (are : AreLeft old now all (each p q r (drop i rest))) where
    abbrev first : AreLeft old now all (in_front (meant ks part p) (each q r r (drop (i + 1) rest)))
    first = subst (AreLeft old now all) (each_next p q r rest i part within is) are

    pub next_left : (new : List Step) → AddsTree now new (meant ks part p) → AreLeft old new all (each q r r (drop (i + 1) rest))
    next_left new adds = one_less old now new all (each q r r (drop (i + 1) rest)) (meant ks part p) first adds

    pub part_failed : (f : ResolveFault) → IsFaultOf (meant ks part p) f → IsFaultOf all f
    part_failed f fault = stopped old now all (each q r r (drop (i + 1) rest)) (meant ks part p) f first fault

  pub all_added : (first second others p q r : Place) (rest : List RawTree) (i : ℕ) (old now : List Step) → length rest ≤ i → AreLeft old now (each first second others rest) (each p q r (drop i rest)) →
      AddsTrees old now (length rest) (each first second others rest)
  all_added first second others p q r rest i old now past are =
      none_left old now (each first second others rest) (placed first second others (map (meant ks) rest)) (length rest) refl
      (placed_length first second others (map (meant ks) rest) ∙ length-map rest (meant ks))
      (subst (λ ts. AreLeft old now (each first second others rest) (each p q r ts)) (drop_of_length-le rest past) are)

-- ---- counts

pub counted : (f : RawTree → Meaning) (t : Tag) (parts : List RawTree) (result : Bool) → result ≡ takes t (length parts) → result ≡ true → takes t (length (map f parts)) ≡ true
counted f t parts result e h = ap (takes t) (length-map parts f) ∙ sym e ∙ h

pub taken : (old new : List Step) (b : Bool) (at : ℕ) (s : Told Stem) → b ≡ true → AddsTree old new (node_of s) → AddsTree old new (node_of (where_takes b at s))
taken old new b at s e adds = subst (λ c. AddsTree old new (node_of (where_takes c at s))) (sym e) adds

-- ---- properties

chosen : (old new : List Step) (b : Bool) (by : ByKind) (t : Tag) (p : Place) (n : ℕ) (ts : List Tree) (told : Place → Told (List Tree)) → t ≡ (if b then by.data_tag else by.object_tag) → p ≡ (if b then by.datas else by.objects) →
    AddsKids old new t n (stem t (after ts (told p))) →
    AddsKids old new t n (if b then stem by.data_tag (after ts (told by.datas)) else stem by.object_tag (after ts (told by.objects)))
chosen old new true by t p n ts told e f adds = subst (λ u. AddsKids old new t n (stem u (after ts (told by.datas)))) e (subst (λ q. AddsKids old new t n (stem t (after ts (told q)))) f adds)
chosen old new false by t p n ts told e f adds = subst (λ u. AddsKids old new t n (stem u (after ts (told by.objects)))) e (subst (λ q. AddsKids old new t n (stem t (after ts (told q)))) f adds)

pub after_added : (old one two : List Step) (tag : Tag) (ts : List Tree) (n count : ℕ) (r : Told (List Tree)) → built one ≡ built old ++ all_built ts → length ts ≡ n → AddsTrees one two count r →
    AddsKids old two tag (n + count) (stem tag (after ts r))
after_added old one two tag ts n count r first few adds = record {
  stem = record { tag = tag; kids = ts ++ adds.trees };
  meant = ap (λ u. stem tag (after ts u)) adds.meant;
  tagged = refl;
  counted = length-append ts adds.trees ∙ (λ i. few i + adds.counted i);
  added = adds.added ∙ ap (λ bs. bs ++ all_built adds.trees) first ∙ append_assoc (built old) (all_built ts) (all_built adds.trees) ∙ ap (λ bs. built old ++ bs) (sym (built_both ts adds.trees));
}

module _ (ks : Knows) (by : ByKind) (between : List Tree) (passed at : ℕ) (old one two new : List Step) (tag : Tag) (p : Place) (given others : ℕ) (b : Bool) where
  pub property_added : (parts : List RawTree) (property : RawTree) → Some property ≡ slice_get parts 0 → AddsTree old one (meant ks property place.Property) →
      ((front : List Build) (t : Tree) → built one ≡ front ++ building t → b ≡ is_data t) → tag ≡ (if b then by.data_tag else by.object_tag) → p ≡ (if b then by.datas else by.objects) →
      built two ≡ built one ++ all_built between → given ≡ length between → AddsTrees two new others (all_of (placed p p p (drop passed (map (meant ks) parts)))) →
      AddsKids old new tag (1 + given + others) (by_property by between passed at (map (meant ks) parts))
  property_added [] property first adds tells tag_is place_is more given_is rest = absurd (cc)
  property_added (q ∷ qs) property first adds tells tag_is place_is more given_is rest =
      let same : property ≡ q = same_Some property q first in
      let t = adds.tree in
      let ms = drop passed (map (meant ks) (q ∷ qs)) in
      let meant_is : meant ks q place.Property ≡ Ok t = ap (λ u. meant ks u place.Property) (sym same) ∙ adds.meant in
      let is : b ≡ is_data t = tells (built old) t adds.added in
      let front : built two ≡ built old ++ all_built (t ∷ between) = more ∙ ap (λ bs. bs ++ all_built between) adds.added ∙ append_assoc (built old) (building t) (all_built between) in
      let few : length (t ∷ between) ≡ 1 + given = omega (arith, given_is) in
      let kids = after_added old two new tag (t ∷ between) (1 + given) others (all_of (all_at p ms)) front few rest in
      let told = chosen old new b by tag p (1 + given + others) (t ∷ between) (λ place. all_of (all_at place ms)) tag_is place_is kids in
      subst (λ m. AddsKids old new tag (1 + given + others) (decided by between ms m)) (sym meant_is)
      (subst (λ c. AddsKids old new tag (1 + given + others) (if c then stem by.data_tag (after (t ∷ between) (all_of (all_at by.datas ms))) else stem by.object_tag (after (t ∷ between) (all_of (all_at by.objects ms))))) is told)

pub headed : (old one two : List Step) (tag : Tag) (count : ℕ) (t : Told Tree) (s : Told Stem) → AddsTree old one t → AddsKids one two tag count s → AddsKids old two tag (count + 1) (behind t s)
headed old one two tag count t s first adds =
    let k = adds.stem in
    record {
      stem = record { tag = k.tag; kids = first.tree ∷ k.kids };
      meant = (λ i. behind (first.meant i) (adds.meant i));
      tagged = adds.tagged;
      counted = let n = adds.counted in omega (arith, n);
      added = adds.added ∙ ap (λ bs. bs ++ all_built k.kids) first.added ∙ append_assoc (built old) (building first.tree) (all_built k.kids);
    }

pub numbered_added : (ks : Knows) (by : ByKind) (at : ℕ) (parts : List RawTree) (number : RawTree) (old one two : List Step) (tag : Tag) (count : ℕ) → 1 < length parts → number ≡ get_or parts 1 number →
    AddsTree old one (meant ks number place.Number) → AddsKids one two tag count (by_property by [] 2 at (map (meant ks) parts)) →
    AddsKids old two tag (count + 1) (numbered by at (map (meant ks) parts))
numbered_added ks by at [] number old one two tag count h e first adds = absurd (omega arith)
numbered_added ks by at (p ∷ []) number old one two tag count h e first adds = absurd (omega arith)
numbered_added ks by at (p ∷ q ∷ qs) number old one two tag count h e first adds =
    headed old one two tag count (meant ks q place.Number) (by_property by [] 2 at (map (meant ks) (p ∷ q ∷ qs))) (subst (λ n. AddsTree old one (meant ks n place.Number)) e first) adds
