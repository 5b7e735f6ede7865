-- The triples of an expression's node are its own.
use Rattle.std.proofs.Common.{◌≡◌, ◌-◌, ℕ, suc, Bool, true, false, cond, List, [], ◌∷◌, drop, take, length, inl, inr, refl, subst, arith}
use Rattle.std.specs.Prelude.{Contains, map, nat_le}
use Rattle.std.specs.List.{AllByRecursion, list_all, list_any}
use Rattle.std.proofs.lemmas.Bool.{and_parts, both_ways}
use Rattle.owl_kind.specs.Kinds.{Entity}
use Rattle.owl_list.specs.Ascending.{AreApart}
use Rattle.owl_list.proofs.AscendingLaws.{in_cases, in_none}
use Rattle.owl_tree.specs.declared.row.Sort.{Sort}
use Rattle.owl_tree.specs.Trees.{Tree}
use Rattle.rdf_graph.specs.declared.term.Term.TheVariants.{Iri, Literal}
use Rattle.rdf_graph.specs.declared.triple.Triple.{Triple}
use Rattle.rdf_meaning.specs.declared.role.Role.{Role}
use Rattle.rdf_meaning.specs.declared.role.Role.TheVariants as role
use Rattle.rdf_meaning.specs.declared.row.Part.{Part}
use Rattle.rdf_meaning.specs.declared.row.Place.{Place}
use Rattle.rdf_meaning.specs.declared.row.Place.TheVariants.{At, Subject, Predicate, Object}
use Rattle.rdf_meaning.specs.declared.row.Want.TheVariants.{One, Many, Mark, True}
use Rattle.rdf_meaning.specs.declared.word.Word.{Word}
use Rattle.rdf_meaning.specs.Denotation.{true_literal}
use Rattle.rdf_meaning.proofs.ListLaws.{passes, some_passes}
use Rattle.rdf_meaning.specs.Nodes.{carries, carries_some, is_own, is_word, words_of}
use Rattle.rdf_meaning.specs.Rows.{Row, node_rows}
use Rattle.rdf_meaning.proofs.WordLaws.{same_word}
use Rattle.rdf_meaning.specs.Words.{word_iri, word_number}
use Rattle.rdf_mapping.specs.Drawing.{Kid, arcs_of, fit, forms_of, kid_of, listed, placed, singles, tags_of}
use Rattle.rdf_mapping.specs.Forms.{Form, made, twice, blank, list_form}
use Rattle.rdf_mapping.specs.FormSorts.{AllForms, HasOwnSort, IsOfNodes}
use Rattle.rdf_mapping.proofs.FormSortLaws.{list_sort, made_sort, plain_sort, structural_as, twice_sort}
use Rattle.rdf_mapping.specs.Frames.{AreNamedApart}
use Rattle.rdf_mapping.specs.OwnLaws.{any_from}
use Rattle.rdf_mapping.proofs.RowDrawingLaws.{all_drop, all_take, over_parts, part_at, parts_drawn}
use Rattle.rdf_mapping.specs.Spelling.{CarriesAt, SpellParts, role_by}
use Rattle.rdf_mapping.proofs.SpellingLaws.{role_is}
use Rattle.rdf_mapping.specs.Written.{IsDrawnWell, draws_at}
use Rattle.rdf_mapping.proofs.NodeDrawingLaws.{row_draws}

-- each word of a row is one of the role that it makes

abbrev has_word : Role → Place → Bool
has_word r (At w) = list_any (is_word w) (words_of r)
has_word r Subject = false
has_word r Predicate = false
has_word r Object = false

own_words : list_all (λ row. list_all (λ p. has_word (role_by row.parts) p.place) row.parts) node_rows ≡ true
unfolding node_rows words_of word_number
own_words = refl

at_word : (r : Role) (p : Place) (t : Triple) → CarriesAt p t → has_word r p ≡ true → carries_some (words_of r) t ≡ true
at_word r (At w) t c h =
    let k = some_passes (is_word w) (words_of r) h in
    any_from (λ v. carries v t) (words_of r) k.element k.inside (subst (λ (v : Word). carries v t ≡ true) (same_word w k.element k.passes) c)
at_word r Subject t c h = absurd c
at_word r Predicate t c h = absurd c
at_word r Object t c h = absurd c

spelled_own : (r : Role) (own : List Triple) (ps : List Part) → SpellParts own ps → list_all (λ p. has_word r p.place) ps ≡ true → (t : Triple) → Contains own t → carries_some (words_of r) t ≡ true
spelled_own r [] ps s h t m = absurd (in_none t m)
spelled_own r (u ∷ own) [] s h t m = absurd s
spelled_own r (u ∷ own) (p ∷ ps) s h t m =
    let parts = and_parts (has_word r p.place) (list_all (λ q. has_word r q.place) ps) h in
    elim (in_cases u own t m) [
      | inl e ↦ subst (λ (v : Triple). carries_some (words_of r) v ≡ true) e (at_word r p.place u s.0 parts.0)
      | inr n ↦ spelled_own r own ps s.1 parts.1 t n
    ]

own_by_words : (r : Role) (t : Triple) → carries_some (words_of r) t ≡ true → is_own r t ≡ true
unfolding words_of
own_by_words role.List t h = h
own_by_words role.Property t h = h
own_by_words role.Class t h = h
own_by_words role.Range t h = h
own_by_words role.Facet t h = absurd (both_ways false refl h)
own_by_words role.Main t h = h
own_by_words role.Note t h = h
own_by_words role.Header t h = h
own_by_words role.Individual t h = h

module _ (name : ℕ → List ℕ) (most : ℕ) (differ : AreNamedApart name most) (g : List Triple) where
  abbrev P : Form → Type 0
  P f = IsOfNodes name most g f

  abbrev KidSort : Kid → Type 0
  KidSort q = P q.form

  pub form_sorts : (ks : List Kid) → AllByRecursion KidSort ks → AllByRecursion P (forms_of ks)
  form_sorts [] all = tt
  form_sorts (q ∷ ks) all = (all.0, form_sorts ks all.1)

  one_or_two : (b : Bool) (f : Form) → P f → P (cond b (twice f) (list_form (f ∷ [])))
  one_or_two true f h = twice_sort name most differ g f h
  one_or_two false f h = list_sort name most differ g (f ∷ []) (h, tt)

  pub listed_sort : (least : ℕ) (fs : List Form) → AllByRecursion P fs → P (listed least fs)
  listed_sort least [] all = list_sort name most differ g [] tt
  listed_sort least (f ∷ []) all = one_or_two (nat_le 2 least) f all.0
  listed_sort least (f ∷ h ∷ fs) all = list_sort name most differ g (f ∷ h ∷ fs) all

  abbrev Next : List Part → Type 0
  Next ps = (ks : List Kid) → AllByRecursion KidSort ks → AllForms P (arcs_of (placed ps ks))

  one_sort : (w : Word) (s : Sort) (ps : List Part) → Next ps → Next (part_at w (One s) ∷ ps)
  unfolding placed
  one_sort w s ps next [] all = tt
  one_sort w s ps next (q ∷ ks) all = (all.0, next ks all.1)

  many_sort : (w : Word) (s : Sort) (least : ℕ) (ps : List Part) → Next ps → Next (part_at w (Many s least) ∷ ps)
  unfolding placed
  many_sort w s least ps next ks all =
      let n = length ks - singles ps in
      (listed_sort least (forms_of (take n ks)) (form_sorts (take n ks) (all_take KidSort n ks all)), next (drop n ks) (all_drop KidSort n ks all))

  mark_sort : (w : Word) (ps : List Part) → Next ps → Next (part_at w Mark ∷ ps)
  unfolding placed
  mark_sort w ps next ks all = (plain_sort name most differ g (Iri (word_iri w)), next ks all)

  true_sort : (w : Word) (ps : List Part) → Next ps → Next (part_at w True ∷ ps)
  unfolding placed
  true_sort w ps next ks all = (plain_sort name most differ g (Literal true_literal), next ks all)

  none_sort : Next []
  unfolding placed
  none_sort ks all = tt

  placed_sort : (ps : List Part) → list_all (λ p. draws_at p.place p.want) ps ≡ true → Next ps
  placed_sort = over_parts Next none_sort (λ w s ps h. one_sort w s ps) (λ w s least ps h. many_sort w s least ps) mark_sort (λ w ps h. true_sort w ps)

  module _ (k : List Entity) (apart : AreApart g) where
    row_own : (r : Row) → Contains node_rows r → (ts : List Tree) → fit r.parts (tags_of (map kid_of ts)) ≡ true → AllByRecursion (IsDrawnWell name most g k) ts → HasOwnSort name most g (arcs_of (placed r.parts (map kid_of ts)))
    row_own r among ts fitting all n few kept t m =
        let drawn = parts_drawn name most differ g k apart (blank name n) r.parts (row_draws r among) ts (suc n) fitting all (omega (arith, few)) kept.each in
        let own = passes (λ row. list_all (λ p. has_word (role_by row.parts) p.place) row.parts) node_rows r own_words among in
        structural_as g t (blank name n) (role_by r.parts) (kept.own.subject t m) (role_is g k (name n) _ r apart kept.own drawn.0)
        (own_by_words (role_by r.parts) t (spelled_own (role_by r.parts) _ r.parts drawn.0 own t m))

    -- what is drawn of a tree by a row makes its nodes what they are, if it is so with its kids
    pub row_sort : (r : Row) → Contains node_rows r → (ts : List Tree) → fit r.parts (tags_of (map kid_of ts)) ≡ true → AllByRecursion (IsDrawnWell name most g k) ts → AllByRecursion KidSort (map kid_of ts) → P (made (arcs_of (placed r.parts (map kid_of ts))))
    row_sort r among ts fitting all sorts = made_sort name most differ g (arcs_of (placed r.parts (map kid_of ts))) (row_own r among ts fitting all) (placed_sort r.parts (row_draws r among) (map kid_of ts) sorts)
