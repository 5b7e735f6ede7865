-- What is drawn by the parts of a row carries their words, and denotes what they want.
use Rattle.std.proofs.Common.{◌≡◌, ◌≤◌, ◌+◌, ◌-◌, ℕ, zero, suc, true, false, List, [], ◌∷◌, ◌++◌, length, drop, take, inl, inr, refl, sym, ap, ◌∙◌, subst, arith}
use Rattle.std.specs.Prelude.{map, min, not, ◌||◌, nat_le}
use Rattle.std.specs.List.{AllByRecursion, list_all}
use Rattle.std.proofs.lemmas.Bool.{and_parts, both_ways, leb-true, not-true, or_cases}
use Rattle.std.proofs.lemmas.List.{length-map, take-map, drop-map}
use Rattle.std.proofs.lemmas.Simd.{map-map}
use Rattle.owl_kind.specs.Kinds.{Entity}
use Rattle.owl_list.specs.Ascending.{AreApart}
use Rattle.owl_tree.specs.declared.row.Sort.{Sort}
use Rattle.owl_tree.specs.declared.row.Sort.TheVariants as sort
use Rattle.owl_tree.specs.Rows.{admits}
use Rattle.owl_tree.specs.Trees.{Tree, leaf, node, tag_of}
use Rattle.rdf_graph.specs.declared.term.Term.{Term}
use Rattle.rdf_graph.specs.declared.term.Term.TheVariants.{Iri, Literal}
use Rattle.rdf_graph.specs.declared.triple.Triple.{Triple}
use Rattle.rdf_meaning.specs.declared.row.Part.{Part}
use Rattle.rdf_meaning.specs.declared.row.Place.{Place}
use Rattle.rdf_meaning.specs.declared.row.Place.TheVariants.{At}
use Rattle.rdf_meaning.specs.declared.row.Want.{Want}
use Rattle.rdf_meaning.specs.declared.row.Want.TheVariants.{One, Many, Mark, True}
use Rattle.rdf_meaning.specs.declared.word.Word.{Word}
use Rattle.rdf_meaning.specs.declared.word.Word.TheVariants as word
use Rattle.rdf_meaning.specs.Denotation.{Denotes, is_true, mark, true_literal}
use Rattle.rdf_meaning.specs.Nodes.{carries, is_iri, is_word}
use Rattle.rdf_meaning.specs.Words.{is_type, word_iri}
use Rattle.rdf_mapping.specs.Forms.{Form, plain, Arcs, arc, arc_nodes, link, nodes, term_of}
use Rattle.rdf_mapping.specs.Drawing.{Kid, arc_iri, arcs_of, fit, form_of, forms_of, kid_of, listed, placed, singles, tags_of}
use Rattle.rdf_mapping.specs.Frames.{AreNamedApart, EachKept, IsOfNode, own_triples}
use Rattle.rdf_mapping.proofs.ListDrawingLaws.{carries_link, listed_drawn}
use Rattle.rdf_mapping.specs.Spelling.{DenoteParts, SpellParts, no_parts, one_part}
use Rattle.rdf_mapping.specs.Written.{IsDrawn, IsDrawnWell, doubled, draws_at, draws_part, given, is_object_property, is_wanted, written}

pub tag_seen : (t : Tree) → (kid_of t).tag ≡ tag_of t
tag_seen (leaf t a) = refl
tag_seen (node t ks) = refl

only_object_property : (s : Sort) → is_object_property s ≡ true → s ≡ sort.ObjectProperty
only_object_property sort.ObjectProperty h = refl
only_object_property _ h = absurd (both_ways false refl h)

no_type : (w : Word) → not (is_type w) ≡ true → is_type w ≡ true → ⊥
no_type w h t = both_ways (is_type w) (not-true (is_type w) h) t

no_inverse : (w : Word) → not (is_word w word.InverseOf) ≡ true → is_word w word.InverseOf ≡ true → ⊥
no_inverse w h t = both_ways (is_word w word.InverseOf) (not-true (is_word w word.InverseOf) h) t

same_take : {X Y : Type 0} (f : X → Y) (m n : ℕ) (xs : List X) → m ≡ n → take m (map f xs) ≡ map f (take n xs)
same_take f m n xs e = ap (λ (i : ℕ). take i (map f xs)) e ∙ take-map f n xs

same_drop : {X Y : Type 0} (f : X → Y) (m n : ℕ) (xs : List X) → m ≡ n → drop m (map f xs) ≡ map f (drop n xs)
same_drop f m n xs e = ap (λ (i : ℕ). drop i (map f xs)) e ∙ drop-map f n xs

pub all_take : {X : Type 0} (P : X → Type 0) (n : ℕ) (xs : List X) → AllByRecursion P xs → AllByRecursion P (take n xs)
all_take P zero [] all = tt
all_take P zero (x ∷ xs) all = tt
all_take P (suc n) [] all = tt
all_take P (suc n) (x ∷ xs) all = (all.0, all_take P n xs all.1)

pub all_drop : {X : Type 0} (P : X → Type 0) (n : ℕ) (xs : List X) → AllByRecursion P xs → AllByRecursion P (drop n xs)
all_drop P zero [] all = tt
all_drop P zero (x ∷ xs) all = all
all_drop P (suc n) [] all = tt
all_drop P (suc n) (x ∷ xs) all = all_drop P n xs all.1

length_take : {X : Type 0} (n : ℕ) (xs : List X) → n ≤ length xs → length (take n xs) ≡ n
length_take zero [] h = refl
length_take zero (x ∷ xs) h = refl
length_take (suc n) [] h = absurd (omega (arith, h))
length_take (suc n) (x ∷ xs) h = ap suc (length_take n xs (omega (arith, h)))

abbrev pub part_at : Word → Want → Part
part_at w want = record { place = At w; want = want }

-- What holds of no parts, and of each part that is drawn in front of others of which it holds, holds of all parts that are drawn.
module _ (P : List Part → Type 0) (none : P []) (one : (w : Word) (s : Sort) (ps : List Part) → draws_part w (One s) ≡ true → P ps → P (part_at w (One s) ∷ ps)) (many : (w : Word) (s : Sort) (least : ℕ) (ps : List Part) → draws_part w (Many s least) ≡ true → P ps → P (part_at w (Many s least) ∷ ps)) (marked : (w : Word) (ps : List Part) → P ps → P (part_at w Mark ∷ ps)) (true_one : (w : Word) (ps : List Part) → draws_part w True ≡ true → P ps → P (part_at w True ∷ ps)) where
  by_want : (w : Word) (want : Want) (ps : List Part) → draws_part w want ≡ true → P ps → P (part_at w want ∷ ps)
  by_want w (One s) ps h next = one w s ps h next
  by_want w (Many s least) ps h next = many w s least ps h next
  by_want w Mark ps h next = marked w ps next
  by_want w True ps h next = true_one w ps h next
  by_want w _ ps h next = absurd (both_ways false refl h)

  by_place : (p : Place) (want : Want) (ps : List Part) → draws_at p want ≡ true → P ps → P (record { place = p; want = want } ∷ ps)
  by_place (At w) want ps h next = by_want w want ps h next
  by_place _ want ps h next = absurd (both_ways false refl h)

  pub over_parts : (ps : List Part) → list_all (λ p. draws_at p.place p.want) ps ≡ true → P ps
  over_parts [] h = none
  over_parts (p ∷ ps) h =
      let parts = and_parts (draws_at p.place p.want) (list_all (λ q. draws_at q.place q.want) ps) h in
      by_place p.place p.want ps parts.0 (over_parts ps parts.1)

module _ (name : ℕ → List ℕ) (most : ℕ) (differ : AreNamedApart name most) (g : List Triple) (k : List Entity) (apart : AreApart g) (x : Term) where
  -- what is drawn by the parts
  abbrev Drawn : Arcs → ℕ → List Part → List Tree → Type 0
  Drawn arcs m ps us = SpellParts (own_triples name x arcs m) ps × DenoteParts g k (own_triples name x arcs m) ps us

  abbrev Draws : List Part → Type 0
  Draws ps =
      (ts : List Tree) (m : ℕ) → fit ps (tags_of (map kid_of ts)) ≡ true → AllByRecursion (IsDrawnWell name most g k) ts →
      m + arc_nodes (arcs_of (placed ps (map kid_of ts))) ≤ most → EachKept name IsOfNode g (arcs_of (placed ps (map kid_of ts))) m →
      Drawn (arcs_of (placed ps (map kid_of ts))) m ps (given ps (map written ts))

  -- a link, and those behind it
  linked : (w : Word) (want : Want) (f : Form) (more : Arcs) (m : ℕ) (ps : List Part) (us vs : List Tree) → carries w (link x (arc_iri w) (term_of name f m)) ≡ true → Denotes g k (term_of name f m) want us → Drawn more (m + nodes f) ps vs → Drawn (arc (arc_iri w) f more) m (part_at w want ∷ ps) (us ++ vs)
  linked w want f more m ps us vs c d rest = (
    (c, rest.0),
    one_part (link x (arc_iri w) (term_of name f m)) (own_triples name x more (m + nodes f)) (part_at w want) ps us vs d rest.1,
  )

  one_draws : (w : Word) (s : Sort) (ps : List Part) → draws_part w (One s) ≡ true → Draws ps → Draws (part_at w (One s) ∷ ps)
  unfolding fit placed given
  one_draws w s ps h next [] m f all few kept = absurd (both_ways false refl f)
  one_draws w s ps h next (t ∷ ts) m f all few kept =
      let parts = and_parts (is_wanted s) _ h in
      let words = and_parts (not (is_type w)) (not (is_word w word.InverseOf) || is_object_property s) parts.1 in
      let fits = and_parts (admits s (kid_of t).tag) (fit ps (tags_of (map kid_of ts))) f in
      let suits : admits s (tag_of t) ≡ true = subst (λ u. admits s u ≡ true) (tag_seen t) fits.0 in
      let o = term_of name (form_of t) m in
      let inverse : is_word w word.InverseOf ≡ true → is_iri o ≡ true =
      λ i. elim (or_cases (not (is_word w word.InverseOf)) (is_object_property s) words.1) [
        | inl n ↦ absurd (no_inverse w n i)
        | inr p ↦ all.0.named (subst (λ r. admits r (tag_of t) ≡ true) (only_object_property s p) suits) m
      ] in
      linked w (One s) (form_of t) (arcs_of (placed ps (map kid_of ts))) m ps (written t ∷ []) (given ps (map written ts))
      (carries_link w x o (λ a. absurd (no_type w words.0 a)) inverse)
      (all.0.drawn s parts.0 suits m (omega (arith, few)) kept.0)
      (next ts (m + nodes (form_of t)) fits.1 all.1 (omega (arith, few)) kept.1)

  mark_draws : (w : Word) (ps : List Part) → Draws ps → Draws (part_at w Mark ∷ ps)
  unfolding fit placed given
  mark_draws w ps next ts m f all few kept =
      linked w Mark (plain (Iri (word_iri w))) (arcs_of (placed ps (map kid_of ts))) m ps [] (given ps (map written ts))
      (carries_link w x (Iri (word_iri w)) (λ a. refl) (λ i. refl)) (mark (Iri (word_iri w)))
      (next ts (m + 0) f all (omega (arith, few)) kept.1)

  true_draws : (w : Word) (ps : List Part) → draws_part w True ≡ true → Draws ps → Draws (part_at w True ∷ ps)
  unfolding fit placed given
  true_draws w ps h next ts m f all few kept =
      let words = and_parts (not (is_type w)) (not (is_word w word.InverseOf)) h in
      linked w True (plain (Literal true_literal)) (arcs_of (placed ps (map kid_of ts))) m ps [] (given ps (map written ts))
      (carries_link w x (Literal true_literal) (λ a. absurd (no_type w words.0 a)) (λ i. absurd (no_inverse w words.1 i))) (is_true (Literal true_literal) refl)
      (next ts (m + 0) f all (omega (arith, few)) kept.1)

  admitted : (s : Sort) → is_wanted s ≡ true → (ts : List Tree) → list_all (admits s) (tags_of (map kid_of ts)) ≡ true → AllByRecursion (IsDrawnWell name most g k) ts → AllByRecursion (IsDrawn name most g k s) ts
  admitted s wanted [] h all = tt
  admitted s wanted (t ∷ ts) h all =
      let parts = and_parts (admits s (kid_of t).tag) (list_all (admits s) (tags_of (map kid_of ts))) h in
      (all.0.drawn s wanted (subst (λ u. admits s u ≡ true) (tag_seen t) parts.0), admitted s wanted ts parts.1 all.1)

  -- kids of which so many are a list, and the others stand behind it
  abbrev Splits : Word → Sort → ℕ → List Part → List Form → List Kid → List Tree → List Tree → ℕ → Type 0
  Splits w s least ps fs ks us vs m =
      m + arc_nodes (arc (arc_iri w) (listed least fs) (arcs_of (placed ps ks))) ≤ most →
      EachKept name IsOfNode g (arc (arc_iri w) (listed least fs) (arcs_of (placed ps ks))) m →
      Drawn (arc (arc_iri w) (listed least fs) (arcs_of (placed ps ks))) m (part_at w (Many s least) ∷ ps) (doubled least us ++ given ps vs)

  split_draws : (w : Word) (s : Sort) (least : ℕ) (ps : List Part) → draws_part w (Many s least) ≡ true → Draws ps → (front back : List Tree) (m : ℕ) → min least 1 ≤ length front → list_all (admits s) (tags_of (map kid_of front)) ≡ true → fit ps (tags_of (map kid_of back)) ≡ true → AllByRecursion (IsDrawnWell name most g k) front → AllByRecursion (IsDrawnWell name most g k) back → Splits w s least ps (map form_of front) (map kid_of back) (map written front) (map written back) m
  split_draws w s least ps h next front back m enough suits f all others few kept =
      let parts = and_parts (is_wanted s) _ h in
      let rest = and_parts (nat_le least 2) _ parts.1 in
      let words = and_parts (not (is_type w)) (not (is_word w word.InverseOf)) rest.1 in
      let fs = listed least (map form_of front) in
      linked w (Many s least) fs (arcs_of (placed ps (map kid_of back))) m ps (doubled least (map written front)) (given ps (map written back))
      (carries_link w x (term_of name fs m) (λ a. absurd (no_type w words.0 a)) (λ i. absurd (no_inverse w words.1 i)))
      (listed_drawn name most differ g k apart s least front (leb-true least 2 rest.0) enough (admitted s parts.0 front suits all) m (omega (arith, few)) kept.0)
      (next back (m + nodes fs) f others (omega (arith, few)) kept.1)

  many_draws : (w : Word) (s : Sort) (least : ℕ) (ps : List Part) → draws_part w (Many s least) ≡ true → Draws ps → Draws (part_at w (Many s least) ∷ ps)
  unfolding fit placed given
  many_draws w s least ps h next ts m f all few kept =
      let ks = map kid_of ts in
      let n = length ts - singles ps in
      let kids : length ks - singles ps ≡ n = ap (λ (i : ℕ). i - singles ps) (length-map ts kid_of) in
      let tags : length (tags_of ks) - singles ps ≡ n = ap (λ (i : ℕ). i - singles ps) (length-map ks (λ (q : Kid). q.tag)) ∙ kids in
      let trees : length (map written ts) - singles ps ≡ n = ap (λ (i : ℕ). i - singles ps) (length-map ts written) in
      let front = take n ts in
      let back = drop n ts in
      let tests = and_parts (nat_le (min least 1) (length (tags_of ks) - singles ps)) _ f in
      let more = and_parts (list_all (admits s) (take (length (tags_of ks) - singles ps) (tags_of ks))) (fit ps (drop (length (tags_of ks) - singles ps) (tags_of ks))) tests.1 in
      let kids_front : take (length ks - singles ps) ks ≡ map kid_of front = same_take kid_of (length ks - singles ps) n ts kids in
      let kids_back : drop (length ks - singles ps) ks ≡ map kid_of back = same_drop kid_of (length ks - singles ps) n ts kids in
      let tags_front : take (length (tags_of ks) - singles ps) (tags_of ks) ≡ tags_of (map kid_of front) =
      same_take (λ (q : Kid). q.tag) (length (tags_of ks) - singles ps) n ks tags ∙ ap tags_of (take-map kid_of n ts) in
      let tags_back : drop (length (tags_of ks) - singles ps) (tags_of ks) ≡ tags_of (map kid_of back) =
      same_drop (λ (q : Kid). q.tag) (length (tags_of ks) - singles ps) n ks tags ∙ ap tags_of (drop-map kid_of n ts) in
      let trees_front : take (length (map written ts) - singles ps) (map written ts) ≡ map written front = same_take written (length (map written ts) - singles ps) n ts trees in
      let trees_back : drop (length (map written ts) - singles ps) (map written ts) ≡ map written back = same_drop written (length (map written ts) - singles ps) n ts trees in
      let forms_front : forms_of (take (length ks - singles ps) ks) ≡ map form_of front = ap forms_of kids_front ∙ map-map (λ (q : Kid). q.form) kid_of front in
      let within : n ≤ length ts = omega arith in
      let done =
      split_draws w s least ps h next front back m
      (omega (arith, leb-true (min least 1) (length (tags_of ks) - singles ps) tests.0, tags, length_take n ts within))
      (ap (list_all (admits s)) (sym tags_front) ∙ more.0) (ap (fit ps) (sym tags_back) ∙ more.1)
      (all_take (IsDrawnWell name most g k) n ts all) (all_drop (IsDrawnWell name most g k) n ts all) in
      subst (λ fs. Splits w s least ps fs (drop (length ks - singles ps) ks) (take (length (map written ts) - singles ps) (map written ts)) (drop (length (map written ts) - singles ps) (map written ts)) m) (sym forms_front)
      (subst (λ qs. Splits w s least ps (map form_of front) qs (take (length (map written ts) - singles ps) (map written ts)) (drop (length (map written ts) - singles ps) (map written ts)) m) (sym kids_back)
      (subst (λ us. Splits w s least ps (map form_of front) (map kid_of back) us (drop (length (map written ts) - singles ps) (map written ts)) m) (sym trees_front)
      (subst (λ vs. Splits w s least ps (map form_of front) (map kid_of back) (map written front) vs m) (sym trees_back) done))) few kept

  none_draws : Draws []
  unfolding fit placed given
  none_draws [] m f all few kept = (tt, no_parts)
  none_draws (t ∷ ts) m f all few kept = absurd (both_ways false refl f)

  pub parts_drawn : (ps : List Part) → list_all (λ p. draws_at p.place p.want) ps ≡ true → Draws ps
  parts_drawn = over_parts Draws none_draws one_draws many_draws mark_draws true_draws
