-- The kids of an axiom, as its row writes them, make an equivalent axiom.
use Rattle.std.proofs.Common.{◌≡◌, ◌-◌, ℕ, zero, suc, Bool, true, false, cond, List, [], ◌∷◌, ◌++◌, length, take, inl, inr, refl, sym, ap, ◌∙◌, subst, arith}
use Rattle.std.specs.Prelude.{Contains, map, ◌||◌, Option, None, Some}
use Rattle.std.specs.List.{list_all}
use Rattle.std.proofs.Math.Seq.{take-length}
use Rattle.std.proofs.lemmas.Bool.{both_ways, cond-true, or_cases}
use Rattle.std.proofs.lemmas.List.{append-nil, length-map}
use Rattle.owl_tree.specs.declared.tag.Tag.{Tag}
use Rattle.owl_tree.specs.declared.tag.Tag.TheVariants as tag
use Rattle.owl_tree.specs.Equivalence.{Agree, AgreeAsSetFrom, AgreeByPlace, IsEquivalent, equivalents}
use Rattle.owl_tree.specs.Rows.{row_of, set_start}
use Rattle.owl_tree.specs.Tags.{number_of}
use Rattle.owl_tree.specs.Trees.{Tree, Kids, node, no_kids, kid, kids_of, list_of}
use Rattle.rdf_meaning.specs.declared.row.Part.{Part}
use Rattle.rdf_meaning.specs.declared.row.Place.{Place}
use Rattle.rdf_meaning.specs.declared.row.Want.{Want}
use Rattle.rdf_meaning.specs.declared.row.Want.TheVariants.{One, Many, Whole, Keys, Declared, Mark, True}
use Rattle.rdf_meaning.proofs.ListLaws.{passes}
use Rattle.rdf_meaning.specs.Rows.{Row, axiom_rows}
use Rattle.rdf_mapping.specs.Drawing.{fit, is_pair, kid_of, tags_of}
use Rattle.rdf_mapping.proofs.NodeDrawingLaws.{written_each}
use Rattle.rdf_mapping.specs.Written.{doubled, given, written}
use Rattle.rdf_mapping.proofs.WrittenLaws.{doubled_agree, each_equivalent, gives_same, no_doubling, set_agree, written_equivalent}
use Rattle.rdf_axioms.proofs.Placed.{is_last}

-- Parts of which the last is a set, behind so many that want one kid each.

abbrev doubles_by : Want → List Part → (ℕ → Bool) → ℕ → Bool
doubles_by Mark ps behind n = behind n
doubles_by (One s) ps behind zero = false
doubles_by (One s) ps behind (suc n) = behind n
doubles_by (Many s least) ps behind zero = is_last ps
doubles_by (Many s least) ps behind (suc n) = false
doubles_by _ ps behind n = false

abbrev doubles_from : List Part → ℕ → Bool
doubles_from [] n = false
doubles_from (p ∷ ps) n = doubles_by p.want ps (λ m. doubles_from ps m) n

-- what is given agrees with the kids, as sets from there on
abbrev GivesSet : List Part → ℕ → Type 0
GivesSet ps n = (us vs : List Tree) → AgreeByPlace (equivalents (kids_of us)) vs → AgreeAsSetFrom n (equivalents (kids_of (given ps us))) vs

set_given : (pl : Place) (w : Want) (ps : List Part) (n : ℕ) → doubles_by w ps (λ m. doubles_from ps m) n ≡ true → ((m : ℕ) → doubles_from ps m ≡ true → GivesSet ps m) → GivesSet (record { place = pl; want = w } ∷ ps) n
unfolding given
set_given pl Mark ps n h next us vs a = next n h us vs a
set_given pl (One s) ps zero h next us vs a = absurd (both_ways false refl h)
set_given pl (One s) ps (suc n) h next [] [] a = tt
set_given pl (One s) ps (suc n) h next [] (v ∷ vs) a = absurd a
set_given pl (One s) ps (suc n) h next (u ∷ us) [] a = absurd a
set_given pl (One s) ps (suc n) h next (u ∷ us) (v ∷ vs) a = (a.0, next n h us vs a.1)
set_given pl (Many s least) [] zero h next us vs a =
    let e : length us - 0 ≡ length us = omega arith in
    let all : doubled least (take (length us - 0) us) ++ [] ≡ doubled least us =
    append-nil (doubled least (take (length us - 0) us)) ∙ ap (λ (n : ℕ). doubled least (take n us)) e ∙ ap (doubled least) (take-length us) in
    subst (λ ws. AgreeAsSetFrom 0 (equivalents (kids_of ws)) vs) (sym all) (doubled_agree least us vs a)
set_given pl (Many s least) (p ∷ ps) zero h next us vs a = absurd (both_ways false refl h)
set_given pl (Many s least) ps (suc n) h next us vs a = absurd (both_ways false refl h)
set_given pl (Whole t s least) ps n h next us vs a = absurd (both_ways false refl h)
set_given pl Keys ps n h next us vs a = absurd (both_ways false refl h)
set_given pl (Declared t) ps n h next us vs a = absurd (both_ways false refl h)
set_given pl True ps n h next us vs a = absurd (both_ways false refl h)

gives_set : (ps : List Part) (n : ℕ) → doubles_from ps n ≡ true → GivesSet ps n
gives_set [] n h = absurd (both_ways false refl h)
gives_set (p ∷ ps) n h = set_given p.place p.want ps n h (λ m e. gives_set ps m e)

-- Rows, by where the set part of their tag begins behind the annotations.

abbrev agrees_at : Option ℕ → List Part → Bool
agrees_at None ps = list_all (λ p. no_doubling p.want) ps
agrees_at (Some zero) ps = false
agrees_at (Some (suc n)) ps = list_all (λ p. no_doubling p.want) ps || doubles_from ps n

all_agree : list_all (λ r. agrees_at (set_start (row_of r.tag)) r.parts) axiom_rows ≡ true
unfolding axiom_rows row_of
all_agree = refl

same_agree : (ps : List Part) (ts : List Tag) (us vs : List Tree) → list_all (λ p. no_doubling p.want) ps ≡ true → fit ps ts ≡ true → length us ≡ length ts → AgreeByPlace (equivalents (kids_of us)) vs → AgreeByPlace (equivalents (kids_of (given ps us))) vs
same_agree ps ts us vs h f e a = subst (λ ws. AgreeByPlace (equivalents (kids_of ws)) vs) (sym (gives_same ps h ts us f e)) a

parts_agree : (start : Option ℕ) (ps : List Part) → agrees_at start ps ≡ true → (ts : List Tag) (us vs : List Tree) → fit ps ts ≡ true → length us ≡ length ts → AgreeByPlace (equivalents (kids_of us)) vs → (u v : Tree) → IsEquivalent u v → Agree start (equivalents (kids_of (u ∷ given ps us))) (v ∷ vs)
parts_agree None ps h ts us vs f e a u v same = (same, same_agree ps ts us vs h f e a)
parts_agree (Some zero) ps h ts us vs f e a u v same = absurd (both_ways false refl h)
parts_agree (Some (suc n)) ps h ts us vs f e a u v same =
    elim (or_cases (list_all (λ p. no_doubling p.want) ps) (doubles_from ps n) h) [
      | inl s ↦ (same, set_agree n (given ps us) vs (same_agree ps ts us vs s f e a))
      | inr d ↦ (same, gives_set ps n d us vs a)
    ]

kids_agree : (ks : Kids) → AgreeByPlace (equivalents (kids_of (map written (list_of ks)))) (list_of ks)
kids_agree ks = subst (λ us. AgreeByPlace (equivalents (kids_of us)) (list_of ks)) (written_each ks) (each_equivalent ks)

-- what a row gives makes an equivalent axiom, with equivalent annotations
pub row_agrees : (r : Row) → Contains axiom_rows r → (ks : Kids) → fit r.parts (tags_of (map kid_of (list_of ks))) ≡ true → (u v : Tree) → IsEquivalent u v → IsEquivalent (node r.tag (kids_of (u ∷ given r.parts (map written (list_of ks))))) (node r.tag (kid v ks))
row_agrees r m ks f u v same =
    let ts = list_of ks in
    let tags = tags_of (map kid_of ts) in
    let long : length (map written ts) ≡ length tags =
    length-map ts written ∙ sym (length-map (map kid_of ts) (λ q. q.tag) ∙ length-map ts kid_of) in
    (refl, parts_agree (set_start (row_of r.tag)) r.parts (passes (λ q. agrees_at (set_start (row_of q.tag)) q.parts) axiom_rows r all_agree m) tags (map written ts) ts f long (kids_agree ks) u v same)

-- A set of one, which is written twice.

pair_start_by : (t : Tag) → cond (is_pair t) (set_start (row_of t)) None ≡ cond (is_pair t) (Some 1) None
unfolding row_of number_of is_pair
pair_start_by tag.Class = refl
pair_start_by _ = refl

pub loop_agrees : (t : Tag) → is_pair t ≡ true → (w u v : Tree) → IsEquivalent u v → IsEquivalent (node t (kids_of (u ∷ written w ∷ written w ∷ []))) (node t (kid v (kid w no_kids)))
loop_agrees t h w u v same =
    let start : set_start (row_of t) ≡ Some 1 = sym (cond-true (is_pair t) (set_start (row_of t)) None h) ∙ pair_start_by t ∙ cond-true (is_pair t) (Some 1) None h in
    let agree : Agree (Some 1) (equivalents (kids_of (u ∷ written w ∷ written w ∷ []))) (v ∷ w ∷ []) = (same, doubled_agree 2 (written w ∷ []) (w ∷ []) (written_equivalent w, tt)) in
    (refl, subst (λ o. Agree o (equivalents (kids_of (u ∷ written w ∷ written w ∷ []))) (v ∷ w ∷ [])) (sym start) agree)
