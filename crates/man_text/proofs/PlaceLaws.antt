-- Places are of no matter to what is meant: what means something at place 0 means it anywhere.
use Rattle.std.proofs.Common.{◌≡◌, ℕ, zero, suc, Bool, true, false, not, if◌then◌else◌, Option, None, Some, Ok, Err, List, [], ◌∷◌, drop, length, map, refl, sym, ap, ◌∙◌, subst}
use Rattle.std.specs.Prelude.{◌==◌, ◌+◌}
use Rattle.std.specs.Option.{option_map}
use Rattle.man_raw.specs.declared.form.Facet.{Facet}
use Rattle.man_raw.specs.declared.form.Form.TheVariants as form
use Rattle.man_raw.specs.declared.form.What.{What}
use Rattle.man_raw.specs.declared.form.What.TheVariants as what
use Rattle.man_raw.specs.Raws.{RawTree, RawTrees, list_of, more, none, place_of, raw}
use Rattle.man_resolve.specs.declared.place.Place.{Place}
use Rattle.man_resolve.specs.declared.place.Place.TheVariants as place
use Rattle.man_resolve.specs.declared.shape.ByKind.{ByKind}
use Rattle.man_resolve.specs.declared.shape.Shape.{Shape}
use Rattle.man_resolve.specs.declared.shape.Shape.TheVariants as shape
use Rattle.man_resolve.specs.Expressions.{Knows, Meaning, Stem, Told, after, all_at, all_of, among, behind, by_property, decided, in_front, inside, is_data, leaf_of, meanings, meant, meant_atom, meant_facet, meant_what, node_of, numbered, placed, shaped, stem, takes, where_takes}
use Rattle.man_resolve.specs.Items.{group, groups, key, key_said, meanings_of, members, members_in, members_said, one, properties, where_found}
use Rattle.man_resolve.specs.Places.{shape_of, tags_at}
use Rattle.owl_tree.specs.declared.atom.Atom.{Atom}
use Rattle.owl_tree.specs.declared.tag.Tag.{Tag}
use Rattle.owl_tree.specs.declared.tag.Tag.TheVariants as tag
use Rattle.owl_tree.specs.Trees.{Tree}
use Rattle.man_text.specs.Undecided.{all_unplaced, unplaced}

-- where the one is told something, the other is told the same
abbrev pub Below : {X : Type 0} → Told X → Told X → Type 0
Below {X} y x = (v : X) → y ≡ Ok v → x ≡ Ok v

-- ---- trees and lists of them

pub front_below : (y x : Told Tree) (ys xs : Told (List Tree)) → Below y x → Below ys xs → Below (in_front y ys) (in_front x xs)
front_below (Err f) x ys xs h k = λ v e. absurd (cc)
front_below (Ok t) x (Err f) xs h k = λ v e. absurd (cc)
front_below (Ok t) x (Ok ts) xs h k = λ v e. ap (λ (r : Told Tree). in_front r xs) (h t refl) ∙ ap (λ (r : Told (List Tree)). in_front (Ok t) r) (k ts refl) ∙ e

pub after_below : (ts : List Tree) (ys xs : Told (List Tree)) → Below ys xs → Below (after ts ys) (after ts xs)
after_below ts (Err f) xs h = λ v e. absurd (cc)
after_below ts (Ok us) xs h = λ v e. ap (after ts) (h us refl) ∙ e

pub stem_below : (t : Tag) (ys xs : Told (List Tree)) → Below ys xs → Below (stem t ys) (stem t xs)
stem_below t (Err f) xs h = λ v e. absurd (cc)
stem_below t (Ok us) xs h = λ v e. ap (stem t) (h us refl) ∙ e

pub behind_below : (y x : Told Tree) (s r : Told Stem) → Below y x → Below s r → Below (behind y s) (behind x r)
behind_below (Err f) x s r h k = λ v e. absurd (cc)
behind_below (Ok t) x (Err f) r h k = λ v e. absurd (cc)
behind_below (Ok t) x (Ok s) r h k = λ v e. ap (λ (u : Told Tree). behind u r) (h t refl) ∙ ap (λ (u : Told Stem). behind (Ok t) u) (k s refl) ∙ e

pub node_below : (s r : Told Stem) → Below s r → Below (node_of s) (node_of r)
node_below (Err f) r h = λ v e. absurd (cc)
node_below (Ok s) r h = λ v e. ap node_of (h s refl) ∙ e

pub takes_below : (b : Bool) (at : ℕ) (s r : Told Stem) → Below s r → Below (where_takes b 0 s) (where_takes b at r)
takes_below true at s r h = λ v e. h v e
takes_below false at s r h = λ v e. absurd (cc)

pub one_below : (y x : Told Tree) → Below y x → Below (one y) (one x)
one_below y x h = front_below y x (Ok []) (Ok []) h (λ v e. e)

-- ---- names

pub leaf_below : (ks : Knows) (at : ℕ) (a : Atom) (o : Option Tag) → Below (leaf_of ks 0 a o) (leaf_of ks at a o)
leaf_below ks at a None = λ v e. absurd (cc)
leaf_below ks at a (Some t) = λ v e. e

pub among_below : (ks : Knows) (at : ℕ) (a : Atom) (ts : List Tag) → Below (among ks 0 a ts) (among ks at a ts)
among_below ks at a [] = λ v e. absurd (cc)
among_below ks at a (t ∷ ts) = λ v e. leaf_below ks at a _ v e

pub atom_below : (ks : Knows) (at : ℕ) (a : Atom) (p : Place) → Below (meant_atom ks 0 a p) (meant_atom ks at a p)
unfolding meant_atom
atom_below ks at a p = among_below ks at a (tags_at p a)

pub facet_below : (at : ℕ) (f : Facet) (p : Place) → Below (meant_facet 0 f p) (meant_facet at f p)
facet_below at f place.Facet = λ v e. e
facet_below at f _ = λ v e. absurd (cc)

-- ---- forms

-- piece by piece, at each place
abbrev pub EachBelow : List Meaning → List Meaning → Type 0
EachBelow [] [] = Unit {0}
EachBelow (m ∷ ms) (n ∷ ns) = ((p : Place) → Below (m p) (n p)) × EachBelow ms ns
EachBelow _ _ = ⊥

pub as_many : (ms ns : List Meaning) → EachBelow ms ns → length ms ≡ length ns
as_many [] [] h = refl
as_many (m ∷ ms) (n ∷ ns) h = ap suc (as_many ms ns h.1)
as_many [] (n ∷ ns) h = absurd h
as_many (m ∷ ms) [] h = absurd h

pub placed_below : (first second others : Place) (ms ns : List Meaning) → EachBelow ms ns → Below (all_of (placed first second others ms)) (all_of (placed first second others ns))
placed_below first second others [] [] h = λ v e. e
placed_below first second others (m ∷ ms) (n ∷ ns) h = front_below (m first) (n first) (all_of (placed second others others ms)) (all_of (placed second others others ns)) (h.0 first) (placed_below second others others ms ns h.1)
placed_below first second others [] (n ∷ ns) h = absurd h
placed_below first second others (m ∷ ms) [] h = absurd h

pub dropped : (k : ℕ) (ms ns : List Meaning) → EachBelow ms ns → EachBelow (drop k ms) (drop k ns)
dropped zero [] [] h = tt
dropped (suc k) [] [] h = tt
dropped zero (m ∷ ms) (n ∷ ns) h = h
dropped (suc k) (m ∷ ms) (n ∷ ns) h = dropped k ms ns h.1
dropped k [] (n ∷ ns) h = absurd h
dropped k (m ∷ ms) [] h = absurd h

pub side_below : (b : Bool) (by : ByKind) (ts : List Tree) (ms ns : List Meaning) → EachBelow ms ns
    → Below (if b then stem by.data_tag (after ts (all_of (all_at by.datas ms))) else stem by.object_tag (after ts (all_of (all_at by.objects ms)))) (if b then stem by.data_tag (after ts (all_of (all_at by.datas ns))) else stem by.object_tag (after ts (all_of (all_at by.objects ns))))
side_below true by ts ms ns h = stem_below by.data_tag _ _ (after_below ts _ _ (placed_below by.datas by.datas by.datas ms ns h))
side_below false by ts ms ns h = stem_below by.object_tag _ _ (after_below ts _ _ (placed_below by.objects by.objects by.objects ms ns h))

pub decided_below : (by : ByKind) (between : List Tree) (ms ns : List Meaning) (y x : Told Tree) → EachBelow ms ns → Below y x → Below (decided by between ms y) (decided by between ns x)
decided_below by between ms ns (Err f) x h k = λ v e. absurd (cc)
decided_below by between ms ns (Ok t) x h k = λ v e. ap (decided by between ns) (k t refl) ∙ side_below (is_data t) by (t ∷ between) ms ns h v e

pub property_below : (by : ByKind) (between : List Tree) (passed at : ℕ) (ms ns : List Meaning) → EachBelow ms ns → Below (by_property by between passed 0 ms) (by_property by between passed at ns)
property_below by between passed at [] [] h = λ v e. absurd (cc)
property_below by between passed at (m ∷ ms) (n ∷ ns) h = decided_below by between (drop passed (m ∷ ms)) (drop passed (n ∷ ns)) (m place.Property) (n place.Property) (dropped passed (m ∷ ms) (n ∷ ns) h) (h.0 place.Property)
property_below by between passed at [] (n ∷ ns) h = absurd h
property_below by between passed at (m ∷ ms) [] h = absurd h

pub numbered_below : (by : ByKind) (at : ℕ) (ms ns : List Meaning) → EachBelow ms ns → Below (numbered by 0 ms) (numbered by at ns)
numbered_below by at [] [] h = λ v e. absurd (cc)
numbered_below by at (m ∷ []) (n ∷ []) h = λ v e. absurd (cc)
numbered_below by at (m ∷ x ∷ ms) (n ∷ y ∷ ns) h = behind_below (x place.Number) (y place.Number) _ _ (h.1.0 place.Number) (property_below by [] 2 at (m ∷ x ∷ ms) (n ∷ y ∷ ns) h)
numbered_below by at [] (n ∷ ns) h = absurd h
numbered_below by at (m ∷ ms) [] h = absurd h
numbered_below by at (m ∷ []) (n ∷ y ∷ ns) h = absurd h.1
numbered_below by at (m ∷ x ∷ ms) (n ∷ []) h = absurd h.1

-- where as many are taken
pub counted_below : (t : Tag) (at : ℕ) (ms ns : List Meaning) (s r : Told Stem) → EachBelow ms ns → Below s r → Below (where_takes (takes t (length ms)) 0 s) (where_takes (takes t (length ns)) at r)
counted_below t at ms ns s r h k = subst (λ (n : ℕ). Below (where_takes (takes t (length ms)) 0 s) (where_takes (takes t n) at r)) (as_many ms ns h) (takes_below (takes t (length ms)) at s r k)

pub inside_below : (p : Place) (at : ℕ) (ms ns : List Meaning) → EachBelow ms ns → Below (inside p 0 ms) (inside p at ns)
inside_below p at [] [] h = λ v e. absurd (cc)
inside_below p at (m ∷ []) (n ∷ []) h = h.0 p
inside_below p at (m ∷ x ∷ ms) (n ∷ y ∷ ns) h = λ v e. absurd (cc)
inside_below p at [] (n ∷ ns) h = absurd h
inside_below p at (m ∷ ms) [] h = absurd h
inside_below p at (m ∷ []) (n ∷ y ∷ ns) h = absurd h.1
inside_below p at (m ∷ x ∷ ms) (n ∷ []) h = absurd h.1

pub shaped_below : (s : Shape) (p : Place) (at : ℕ) (ms ns : List Meaning) → EachBelow ms ns → Below (shaped s p 0 ms) (shaped s p at ns)
shaped_below shape.Inside p at ms ns h = inside_below p at ms ns h
shaped_below (shape.Over t ps) p at ms ns h = node_below _ _ (counted_below t at ms ns _ _ h (stem_below t _ _ (placed_below ps.first ps.second ps.others ms ns h)))
shaped_below (shape.Restriction by) p at ms ns h = node_below _ _ (counted_below by.object_tag at ms ns _ _ h (property_below by [] 1 at ms ns h))
shaped_below (shape.Cardinality by) p at ms ns h = node_below _ _ (counted_below by.object_tag at ms ns _ _ h (numbered_below by at ms ns h))
shaped_below shape.Wrong p at ms ns h = λ v e. absurd (cc)

pub list_unplaced : (ts : RawTrees) → list_of (all_unplaced ts) ≡ map unplaced (list_of ts)
list_unplaced none = refl
list_unplaced (more t ts) = ap (λ (l : List RawTree). unplaced t ∷ l) (list_unplaced ts)

pub length_unplaced : (ts : List RawTree) → length (map unplaced ts) ≡ length ts
length_unplaced [] = refl
length_unplaced (t ∷ ts) = ap suc (length_unplaced ts)

module _ (ks : Knows) where
  pub what_below : (at : ℕ) (w : What) (ms ns : List Meaning) (p : Place) → EachBelow ms ns → Below (meant_what ks 0 w ms p) (meant_what ks at w ns p)
  what_below at (what.Atom a) ms ns p h = atom_below ks at a p
  what_below at (what.Word w) ms ns p h = λ v e. absurd (cc)
  what_below at (what.Facet f) ms ns p h = facet_below at f p
  what_below at (what.Form f) ms ns p h = shaped_below (shape_of p f) p at ms ns h

  mutual
    pub meant_below : (r : RawTree) (p : Place) → Below (meant ks (unplaced r) p) (meant ks r p)
    meant_below (raw at w ts) p = what_below at w (meanings ks (all_unplaced ts)) (meanings ks ts) p (meanings_below ts)

    meanings_below : (ts : RawTrees) → EachBelow (meanings ks (all_unplaced ts)) (meanings ks ts)
    meanings_below none = tt
    meanings_below (more t ts) = (λ p. meant_below t p, meanings_below ts)

  -- ---- parts of items

  pub each_below : (ts : List RawTree) → EachBelow (meanings_of ks (map unplaced ts)) (meanings_of ks ts)
  each_below [] = tt
  each_below (t ∷ ts) = (λ p. meant_below t p, each_below ts)

  -- what is found of the piece without places is found of the piece
  pub members_found : (r : RawTree) → members_in (unplaced r) ≡ option_map (map unplaced) (members_in r)
  members_found (raw at (what.Atom a) ts) = refl
  members_found (raw at (what.Word w) ts) = refl
  members_found (raw at (what.Facet f) ts) = refl
  members_found (raw at (what.Form form.List) ts) = ap Some (list_unplaced ts)
  members_found (raw at (what.Form _) ts) = refl

  pub found_below : {X : Type 0} (f : X → X) (at : ℕ) (o : Option X) (y x : X → Told Stem) → ((z : X) → Below (y (f z)) (x z)) → Below (where_found 0 (option_map f o) y) (where_found at o x)
  found_below f at None y x h = λ v e. absurd (cc)
  found_below f at (Some z) y x h = h z

  pub list_below : (r : RawTree) (y x : List RawTree → Told Stem) → ((ts : List RawTree) → Below (y (map unplaced ts)) (x ts)) → Below (where_found (place_of (unplaced r)) (members_in (unplaced r)) y) (where_found (place_of r) (members_in r) x)
  list_below (raw at w ts) y x h =
      subst (λ (o : Option (List RawTree)). Below (where_found 0 o y) (where_found at (members_in (raw at w ts)) x)) (sym (members_found (raw at w ts))) (found_below (map unplaced) at (members_in (raw at w ts)) y x h)

  pub members_below : (t : Tag) (p : Place) (subject : List Tree) (r : RawTree) → Below (members ks t p subject (unplaced r)) (members ks t p subject r)
  members_below t p subject (raw at w us) = list_below (raw at w us) _ _ (λ ts.
      subst (λ (n : ℕ). Below (where_takes (takes t (suc (length subject + n))) 0 (stem t (after subject (all_of (all_at p (meanings_of ks (map unplaced ts))))))) (members_said ks t p subject at ts)) (sym (length_unplaced ts))
      (takes_below (takes t (suc (length subject + length ts))) at _ _ (stem_below t _ _ (after_below subject _ _ (placed_below p p p (meanings_of ks (map unplaced ts)) (meanings_of ks ts) (each_below ts))))))

  pub properties_below : (by : ByKind) (r : RawTree) → Below (properties ks by (unplaced r)) (properties ks by r)
  properties_below by (raw at w us) = list_below (raw at w us) _ _ (λ ts. property_below by [] 1 at (meanings_of ks (map unplaced ts)) (meanings_of ks ts) (each_below ts))

  pub group_below : (t : Tag) (b : Bool) (y x : Told (List Tree)) → Below y x → Below (group t b y) (group t b x)
  group_below t b (Err f) x h = λ v e. absurd (cc)
  group_below t b (Ok ts) x h = λ v e. ap (group t b) (h ts refl) ∙ e

  pub groups_below : (y x : Told (List Tree)) → Below y x → Below (groups y) (groups x)
  groups_below y x h = front_below (group tag.ObjectKeys false y) (group tag.ObjectKeys false x) _ _ (group_below tag.ObjectKeys false y x h) (one_below _ _ (group_below tag.DataKeys true y x h))

  pub key_below : (subject : List Tree) (r : RawTree) → Below (key ks subject (unplaced r)) (key ks subject r)
  key_below subject (raw at w us) = list_below (raw at w us) _ _ (λ ts.
      subst (λ (n : ℕ). Below (where_takes (not (n == 0)) 0 (stem tag.HasKey (after subject (groups (all_of (all_at place.Property (meanings_of ks (map unplaced ts)))))))) (key_said ks subject at ts)) (sym (length_unplaced ts))
      (takes_below (not (length ts == 0)) at _ _ (stem_below tag.HasKey _ _ (after_below subject _ _ (groups_below _ _ (placed_below place.Property place.Property place.Property (meanings_of ks (map unplaced ts)) (meanings_of ks ts) (each_below ts)))))))
