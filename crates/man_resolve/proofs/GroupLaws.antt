-- What is made of those of some properties that are wanted.
use Rattle.std.proofs.Common.{◌≡◌, ◌+◌, ◌<◌, ◌≤◌, ℕ, Bool, true, false, List, [], ◌∷◌, ◌++◌, length, Ok, Err, inl, inr, refl, sym, ap, ◌∙◌, arith, append_assoc, drop, get_or, drop_of_length-le, length-append, take}
use Rattle.std.specs.Prelude.{filter, if◌then◌else◌}
use Rattle.std.proofs.lemmas.List.{append-nil, length-map, take-map}
use Rattle.std.proofs.Math.Seq.{take-append_seam}
use Rattle.man_raw.specs.Raws.{RawTree}
use Rattle.owl_tree.specs.declared.tag.Tag.{Tag}
use Rattle.owl_tree.specs.Trees.{Tree, kids_of, node}
use Rattle.man_resolve.specs.declared.fault.ResolveFault.{ResolveFault}
use Rattle.man_resolve.specs.declared.place.Place.TheVariants as place
use Rattle.man_resolve.specs.declared.step.Step.{Step}
use Rattle.man_resolve.specs.Building.{AddsTree, AddsWanted, Build, IsFaultOf, a_node, all_built, building, built, seen}
use Rattle.man_resolve.specs.Expressions.{Knows, Told, in_front, meant}
use Rattle.man_resolve.specs.Items.{group, is_wanted}
use Rattle.man_resolve.proofs.BuildingLaws.{built_both, built_one, over_kids}
use Rattle.man_resolve.proofs.PartLaws.{each, each_next}

alone : (w : Tree → Bool) (t : Tree) (b : Bool) → w t ≡ b → filter w (t ∷ []) ≡ (if b then t ∷ [] else [])
alone w t b e = ap (λ c. if c then t ∷ [] else []) e

filter_next : (w : Tree → Bool) (t : Tree) (ts : List Tree) → filter w (t ∷ ts) ≡ filter w (t ∷ []) ++ filter w ts
filter_next w t ts = by (w t) refl
  where
    by : (b : Bool) → w t ≡ b → filter w (t ∷ ts) ≡ filter w (t ∷ []) ++ filter w ts
    by true e = rw e refl
    by false e = rw e refl

pub wanted_kept : (old now : List Step) (datas b : Bool) (t : Told Tree) → AddsTree old now t → ((front : List Build) (u : Tree) → built now ≡ front ++ building u → b ≡ is_wanted datas u) → b ≡ true →
    AddsWanted old now datas 1 t
wanted_kept old now datas b t adds tells e =
    let is : is_wanted datas adds.tree ≡ true = sym (tells (built old) adds.tree adds.added) ∙ e in
    let one = alone (is_wanted datas) adds.tree true is in
    record {
      tree = adds.tree;
      meant = adds.meant;
      counted = ap length one;
      added = adds.added ∙ ap (λ bs. built old ++ bs) (sym (built_one adds.tree) ∙ ap all_built (sym one));
    }

cut : (old now : List Step) (bs : List Build) → built now ≡ built old ++ bs → built (take (length old) now) ≡ built old
cut old now bs e =
    sym (take-map seen (length old) now)
    ∙ ap (take (length old)) e
    ∙ ap (λ n. take n (built old ++ bs)) (sym (length-map old seen))
    ∙ take-append_seam (built old) bs

pub wanted_cut : (old now new : List Step) (before : ℕ) (datas b : Bool) (t : Told Tree) → before ≡ length old → AddsTree old now t → ((front : List Build) (u : Tree) → built now ≡ front ++ building u → b ≡ is_wanted datas u) → b ≡ false →
    new ≡ take before now → AddsWanted old new datas 0 t
wanted_cut old now new before datas b t n adds tells e is_cut =
    let is : is_wanted datas adds.tree ≡ false = sym (tells (built old) adds.tree adds.added) ∙ e in
    let none = alone (is_wanted datas) adds.tree false is in
    record {
      tree = adds.tree;
      meant = adds.meant;
      counted = ap length none;
      added =
          ap built (is_cut ∙ ap (λ m. take m now) n)
          ∙ cut old now (building adds.tree) adds.added
          ∙ sym (append-nil (built old))
          ∙ ap (λ ts. built old ++ all_built ts) (sym none);
    }

-- What is left makes the whole, with those that were wanted.
pub record AreGrouped (old now : List Step) (datas : Bool) (count : ℕ) (all left : Told (List Tree)) : Type 0 where
  pub means : (us : List Tree) → left ≡ Ok us →
      (ts : List Tree) × (all ≡ Ok ts) × (built old ++ all_built (filter (is_wanted datas) ts) ≡ built now ++ all_built (filter (is_wanted datas) us)) × (length (filter (is_wanted datas) ts) ≡ count + length (filter (is_wanted datas) us))
  pub fails : (f : ResolveFault) → left ≡ Err f → all ≡ Err f

pub all_grouped : (steps : List Step) (datas : Bool) (all : Told (List Tree)) → AreGrouped steps steps datas 0 all all
all_grouped steps datas all = record { means = λ us e. (us, e, refl, omega arith); fails = λ f e. e }

module _ (ks : Knows) (old now : List Step) (datas : Bool) (count : ℕ) (all : Told (List Tree)) (rest : List RawTree) (i : ℕ) (part : RawTree) (within : i < length rest) (is : part ≡ get_or rest i part) where
  abbrev left : ℕ → Told (List Tree)
  left n = each ks place.Property place.Property place.Property (drop n rest)

  abbrev first : left i ≡ in_front (meant ks part place.Property) (left (i + 1))
  first = each_next ks place.Property place.Property place.Property rest i part within is

  pub next_grouped : (new : List Step) (n : ℕ) → AreGrouped old now datas count all (left i) → AddsWanted now new datas n (meant ks part place.Property) → AreGrouped old new datas (count + n) all (left (i + 1))
  next_grouped new n are adds =
      let w = is_wanted datas in
      record {
        means = λ us e.
            let whole = are.means (adds.tree ∷ us) (first ∙ (λ j. in_front (adds.meant j) (e j))) in
            let split = filter_next w adds.tree us in
            let more : built now ++ all_built (filter w (adds.tree ∷ us)) ≡ built new ++ all_built (filter w us) =
            ap (λ ts. built now ++ all_built ts) split
            ∙ ap (λ bs. built now ++ bs) (built_both (filter w (adds.tree ∷ [])) (filter w us))
            ∙ sym (append_assoc (built now) (all_built (filter w (adds.tree ∷ []))) (all_built (filter w us)))
            ∙ ap (λ bs. bs ++ all_built (filter w us)) (sym adds.added) in
            let many : length (filter w (adds.tree ∷ us)) ≡ n + length (filter w us) =
            ap length split ∙ length-append (filter w (adds.tree ∷ [])) (filter w us) ∙ ap (λ m. m + length (filter w us)) adds.counted in
            let all_many = whole.3 in
            (whole.0, whole.1, whole.2 ∙ more, omega (arith, many, all_many));
        fails = λ f e. are.fails f (first ∙ (λ j. in_front (adds.meant j) (e j)));
      }

  pub grouping_failed : AreGrouped old now datas count all (left i) → (t : Tag) (f : ResolveFault) → IsFaultOf (meant ks part place.Property) f → IsFaultOf (group t datas all) f
  grouping_failed are t f (inl e) = inl e
  grouping_failed are t f (inr e) = inr (ap (group t datas) (are.fails f (first ∙ ap (λ u. in_front u (left (i + 1))) e)))

pub grouped : (ks : Knows) (old now new : List Step) (datas : Bool) (count : ℕ) (all : Told (List Tree)) (rest : List RawTree) (i : ℕ) (t : Tag) → length rest ≤ i →
    AreGrouped old now datas count all (each ks place.Property place.Property place.Property (drop i rest)) → built new ≡ built now ++ a_node t count ∷ [] → AddsTree old new (group t datas all)
grouped ks old now new datas count all rest i t past are e =
    let whole = are.means [] (ap (each ks place.Property place.Property place.Property) (drop_of_length-le rest past)) in
    let ts = filter (is_wanted datas) whole.0 in
    let n = whole.3 in
    record {
      tree = node t (kids_of ts);
      meant = ap (group t datas) whole.1;
      added =
          e
          ∙ ap (λ bs. bs ++ a_node t count ∷ []) (sym (whole.2 ∙ append-nil (built now)))
          ∙ append_assoc (built old) (all_built ts) (a_node t count ∷ [])
          ∙ ap (λ bs. built old ++ bs) (sym (over_kids t ts count (omega (arith, n))));
    }
