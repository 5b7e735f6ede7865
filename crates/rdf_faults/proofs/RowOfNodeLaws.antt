-- Where each triple of a node is asked for by some row, one row is met by all of them: the one that the node's property suits.
use Rattle.std.specs.Prelude.{◌≡◌, ◌≤◌, ◌⊎◌, true, not, ◌&&◌, ◌||◌, IsTrue, nat_eq, List, [], Contains, length}
use Rattle.std.specs.List.{AllByRecursion, filter, list_all}
use Rattle.std.proofs.Common.{inl, inr, sym, ap, ◌∙◌, subst, arith}
use Rattle.std.proofs.lemmas.Bool.{and_from, and_parts, both_ways, cases_Bool, cond-false, cond-true, eqb-true, not-true, or_cases}
use Rattle.std.proofs.lemmas.Slice.Eq.{bytes_eq-Decides}
use Rattle.owl_list.proofs.AscendingLaws.{all_from, all_in, in_head}
use Rattle.owl_kind.specs.Kinds.{Entity}
use Rattle.rdf_graph.specs.declared.term.Term.{Term}
use Rattle.rdf_graph.specs.declared.triple.Triple.{Triple}
use Rattle.owl_list.proofs.FilterLaws.{from_filter}
use Rattle.rdf_meaning.proofs.ListLaws.{only_one, passes, some_of, some_passes}
use Rattle.rdf_meaning.specs.declared.word.Word.{Word}
use Rattle.rdf_meaning.specs.declared.word.Word.TheVariants as word
use Rattle.rdf_meaning.specs.declared.row.Place.{Place}
use Rattle.rdf_meaning.specs.declared.row.Place.TheVariants.{At, Subject, Predicate, Object}
use Rattle.rdf_meaning.specs.declared.row.Part.{Part}
use Rattle.rdf_meaning.specs.declared.row.Site.{Site}
use Rattle.rdf_meaning.specs.Kinds.{HaveNoClash}
use Rattle.rdf_meaning.proofs.WordLaws.{same_word}
use Rattle.rdf_meaning.specs.Nodes.{carries, carries_some, chosen, is_structural, is_word, role_of, words_of}
use Rattle.rdf_meaning.proofs.NodeLaws.{from_chosen, in_chosen, one_word}
use Rattle.rdf_meaning.specs.Rows.{Row}
use Rattle.rdf_meaning.specs.RowTests.{counts, has_same_form, is_site}
use Rattle.rdf_meaning.proofs.RowLaws.{own_site}
use Rattle.rdf_meaning.specs.Denotation.{of_node, select, stands_at, times}
use Rattle.rdf_faults.specs.Asked.{IsAskedFor, suited, not_asked, IsMet, IsMetAt, IsRow, Suits, SuitsProperties, by_property, is_place_of, rows}
use Rattle.rdf_faults.proofs.BelowLaws.{leads_by_words, passes_some, structural_by}
use Rattle.rdf_faults.proofs.RowPairLaws.{IsOwnPlace, aligned_with, decider_apart, no_property, none_or_some, one_and_none, own_place_at, pairs_joined, place_at, plain_met, rows_are_joined, rows_have_own_parts, same_at, told}
use Rattle.rdf_faults.proofs.RowPairTestLaws.{decider, has_own_parts, is_aligned, is_by, are_own_at, is_own_place, is_plain, joins, tells}
use Rattle.rdf_faults.specs.DecidedLaws.{IsOnly, only_of_length}

-- the row of a node, all of whose parts are met
pub record HasMetRow (g : List Triple) (k : List Entity) (x : Term) : Type 0 where
  pub row : Row
  pub is : IsRow g x row
  pub met : AllByRecursion (IsMetAt g k (of_node x)) row.parts

module _ (g : List Triple) (k : List Entity) (none : HaveNoClash k) (x : Term) (leads : leads_by_words (role_of g x) ≡ true) where
  abbrev w : Word
  w = decider (role_of g x)

  -- a triple of the node that tells its row
  record IsTold (row : Row) : Type 0 where
    pub triple : Triple
    pub inside : Contains g triple
    pub subject : triple.subject ≡ x
    pub word : carries w triple ≡ true
    pub suits : Suits g k row triple

  pub own_place : (row : Row) → IsRow g x row → (p : Part) → Contains row.parts p → IsOwnPlace (role_of g x) row.parts p.place
  own_place row is p m =
      let own : list_all (λ q. is_own_place (role_of g x) row.parts q.place) row.parts ≡ true =
      subst (λ (site : Site). are_own_at site row.parts ≡ true) is.fits.0 (passes has_own_parts rows row rows_have_own_parts is.among) in
      own_place_at (role_of g x) row.parts p.place (passes (λ q. is_own_place (role_of g x) row.parts q.place) row.parts p own m)

  -- what stands at the word of a part is one term
  pub one_chosen : (row : Row) → IsRow g x row → (p : Part) → (o : IsOwnPlace (role_of g x) row.parts p.place) → IsOnly (chosen g x o.w)
  one_chosen row is p o =
      only_of_length (chosen g x o.w)
      (same_at (λ v. length (chosen g x v)) (λ v. times v row.parts) (words_of (role_of g x)) o.w is.fits.1 o.among ∙ o.once)

  -- two rows of the node

  record IsJoined (a b : Row) : Type 0 where
    pub once : times w a.parts ≡ 1
    pub aligned : is_aligned w a.parts b.parts ≡ true

  same_form : (a b : Row) → IsRow g x a → IsRow g x b → has_same_form a b ≡ true
  same_form a b f h =
      and_from _ _
      (subst (λ (site : Site). is_site site b.site ≡ true) (sym (f.fits.0 ∙ sym h.fits.0)) (own_site b.site))
      ((bytes_eq-Decides (counts a.site a.parts) (counts b.site b.parts)).1
      (ap (λ (site : Site). counts site a.parts) f.fits.0 ∙ sym f.fits.1 ∙ h.fits.1
      ∙ sym (ap (λ (site : Site). counts site b.parts) h.fits.0)))

  joined : (a b : Row) → IsRow g x a → IsRow g x b → (a ≡ b) ⊎ IsJoined a b
  joined a b f h =
      elim (pairs_joined rows rows_are_joined a b f.among h.among) [
        | inl e ↦ inl e
        | inr j ↦
            let at = subst (λ (site : Site). joins site a b ≡ true) f.fits.0 j in
            elim (or_cases (not (has_same_form a b)) (nat_eq (times w a.parts) 1 && is_aligned w a.parts b.parts) at) [
              | inl n ↦ absurd (both_ways (has_same_form a b) (not-true _ n) (same_form a b f h))
              | inr both ↦
                  let tests = and_parts (nat_eq (times w a.parts) 1) (is_aligned w a.parts b.parts) both in
                  inr (record { once = eqb-true (times w a.parts) 1 tests.0; aligned = tests.1 })
            ]
      ]

  -- what a row that suits a triple wants of its object

  suited_at : (row : Row) (t : Triple) → Suits g k row t → (p : Part) → Contains row.parts p → is_place_of t p.place ≡ true → IsMet g k p.want t.object
  suited_at row t suits p m there = all_in (λ (q : Part). is_place_of t q.place ≡ true → IsMet g k q.want t.object) row.parts p suits m there

  of_place : (t : Triple) (a b : Place) → a ≡ b → is_place_of t a ≡ true → is_place_of t b ≡ true
  of_place t a b e h = subst (λ place. is_place_of t place ≡ true) e h

  abbrev MeansProperty : Row → Triple → Type 0
  MeansProperty row t = IsTrue (carries_some by_property t) → SuitsProperties g k row x

  -- the triple tells both rows, so they are no two
  never_two : (a b : Row) → IsRow g x a → IsTold a → IsJoined a b → is_word w word.OnProperty ≡ true → SuitsProperties g k b x → ⊥
  never_two a b is d j on properties =
      let some = some_of (filter (stands_at w) a.parts) (subst (λ n. 1 ≤ n) (sym j.once) (omega arith)) in
      let kept = from_filter (stands_at w) a.parts some.0 some.1 in
      let p = some.0 in
      let at = place_at w p.place p.want kept.passes in
      let there : is_place_of d.triple p.place ≡ true = of_place d.triple (At w) p.place (sym at) d.word in
      let other = aligned_with w a.parts b.parts j.aligned p kept.inside in
      let agree : tells p.want other.q.want || not (is_word w word.OnProperty) ≡ true = sym (cond-true (stands_at w p) _ _ kept.passes) ∙ other.agree in
      let on_property : carries word.OnProperty d.triple ≡ true = subst (λ v. carries v d.triple ≡ true) (same_word w word.OnProperty on) d.word in
      elim (or_cases (tells p.want other.q.want) (not (is_word w word.OnProperty)) agree) [
        | inl t ↦
            told g k none p.want other.q.want d.triple.object t (suited_at a d.triple d.suits p kept.inside there)
            (suited_at b d.triple (properties d.triple d.inside d.subject on_property) other.q other.inside (of_place d.triple p.place other.q.place other.place there))
        | inr n ↦ both_ways (is_word w word.OnProperty) (not-true _ n) on
      ]

  -- the object of the triple that tells the row is that of any with its word
  by_told : (a : Row) → IsRow g x a → IsTold a → (t : Triple) → Contains g t → t.subject ≡ x → (p : Part) → Contains a.parts p → p.place ≡ At w → is_place_of t p.place ≡ true → IsMet g k p.want t.object
  by_told a is d t m e p n at there =
      let own = own_place a is p n in
      let only = one_chosen a is p own in
      let its : (u : Triple) → Contains g u → u.subject ≡ x → is_place_of u p.place ≡ true → only.only ≡ u.object =
      λ u i s h. only_one (chosen g x own.w) only.only u.object only.one (in_chosen g x own.w u i s (of_place u p.place (At own.w) own.at h)) in
      let told_there : is_place_of d.triple p.place ≡ true = of_place d.triple (At w) p.place (sym at) d.word in
      subst (IsMet g k p.want) (sym (its d.triple d.inside d.subject told_there) ∙ its t m e there)
      (suited_at a d.triple d.suits p n told_there)

  -- a place told by the property is that of such a word
  by_such : (t : Triple) (place : Place) → is_by place ≡ true → is_place_of t place ≡ true → carries_some by_property t ≡ true
  by_such t (At v) by there =
      let p = some_passes (λ u. is_word u v) by_property by in
      passes_some (λ u. carries u t) by_property p.element p.inside
      (subst (λ u. carries u t ≡ true) (sym (same_word p.element v p.passes)) there)
  by_such t Subject by there = cc
  by_such t Predicate by there = cc
  by_such t Object by there = cc

  abbrev IsSettled : Row → Type 0
  IsSettled row = (times w row.parts ≡ 0) ⊎ IsTold row

  -- what some row of the node wants of the triple, this one does
  from_other : (a b : Row) → IsRow g x a → IsRow g x b → IsSettled a → (t : Triple) → Contains g t → t.subject ≡ x → Suits g k b t → MeansProperty b t → (p : Part) → Contains a.parts p → is_place_of t p.place ≡ true → IsMet g k p.want t.object
  from_other a b f h settled t m e suits properties p n there =
      elim (joined a b f h) [
        | inl same ↦ suited_at a t (subst (λ r. Suits g k r t) (sym same) suits) p n there
        | inr j ↦
            elim settled [
              | inl zero ↦ absurd (one_and_none (times w a.parts) j.once zero)
              | inr d ↦
                  let other = aligned_with w a.parts b.parts j.aligned p n in
                  elim (cases_Bool (stands_at w p)) [
                    | inl s ↦ by_told a f d t m e p n (place_at w p.place p.want s) there
                    | inr s ↦
                        elim (or_cases (is_plain p.want other.q.want) (is_word w word.OnProperty && is_by p.place) (sym (cond-false (stands_at w p) _ _ s) ∙ other.agree)) [
                          | inl plain ↦
                              plain_met g k p.want other.q.want t.object plain
                              (suited_at b t suits other.q other.inside (of_place t p.place other.q.place other.place there))
                          | inr by ↦
                              let tests = and_parts (is_word w word.OnProperty) (is_by p.place) by in
                              absurd (never_two a b f d j tests.0 (properties (by_such t p.place tests.1 there)))
                        ]
                  ]
            ]
      ]

  -- what is asked of each triple of the node

  module _ (asks : (t : Triple) → Contains g t → t.subject ≡ x → is_structural g t ≡ true → IsAskedFor g k t) where
    row_of : (t : Triple) → t.subject ≡ x → (row : Row) → IsRow g t.subject row → IsRow g x row
    row_of t e row is = subst (λ y. IsRow g y row) e is

    at_structural : (a : Row) → IsRow g x a → (t : Triple) → t.subject ≡ x → (p : Part) → Contains a.parts p → is_place_of t p.place ≡ true → is_structural g t ≡ true
    at_structural a is t e p n there =
        let own = own_place a is p n in
        structural_by g t x own.w e leads own.among (of_place t p.place (At own.w) own.at there)

    -- a property's triple is not asked by its property
    not_both : (t : Triple) → carries word.OnProperty t ≡ true → carries_some by_property t ≡ true → ⊥
    not_both t on by =
        let p = some_passes (λ u. carries u t) by_property by in
        no_property p.element p.inside (one_word p.element word.OnProperty t p.passes on)

    property_met : (a : Row) → IsRow g x a → IsSettled a → SuitsProperties g k a x
    property_met a is settled t m e on =
        all_from (λ (p : Part). is_place_of t p.place ≡ true → IsMet g k p.want t.object) a.parts (λ p n there.
        elim (asks t m e (at_structural a is t e p n there)) [
          | suited b h suits properties ↦
              from_other a b is (row_of t e b h) settled t m e suits (λ by. absurd (not_both t on by)) p n there
          | not_asked by _ ↦ absurd (not_both t on by)
        ])

    object_met : (a : Row) → IsRow g x a → IsSettled a → (t : Triple) → Contains g t → t.subject ≡ x → (p : Part) → Contains a.parts p → is_place_of t p.place ≡ true → IsMet g k p.want t.object
    object_met a is settled t m e p n there =
        elim (asks t m e (at_structural a is t e p n there)) [
          | suited b h suits properties ↦
              from_other a b is (row_of t e b h) settled t m e suits (λ by. subst (SuitsProperties g k b) e (properties by)) p n there
          | not_asked by unsuited ↦
              absurd (unsuited a (subst (λ y. IsRow g y a) (sym e) is) (subst (SuitsProperties g k a) (sym e) (property_met a is settled)))
        ]

    met_at : (a : Row) → IsRow g x a → IsSettled a → (p : Part) → Contains a.parts p → IsMetAt g k (of_node x) p
    met_at a is settled p n =
        let own = own_place a is p n in
        all_from (IsMet g k p.want) (select g (of_node x) p.place) (λ y m.
        let by = from_chosen g x own.w y (subst (λ place. Contains (select g (of_node x) place) y) own.at m) in
        subst (IsMet g k p.want) by.object
        (object_met a is settled by.triple by.inside by.subject p n (of_place by.triple (At own.w) p.place (sym own.at) by.carries)))

    settled_met : (a : Row) → IsRow g x a → IsSettled a → HasMetRow g k x
    settled_met a is settled = record { row = a; is = is; met = all_from (IsMetAt g k (of_node x)) a.parts (met_at a is settled) }

    -- the triple that tells the row, where there is one

    from_part : (a : Row) → IsRow g x a → (p : Part) → Contains a.parts p → stands_at w p ≡ true → HasMetRow g k x
    from_part a is p n s =
        let own = own_place a is p n in
        let only = one_chosen a is p own in
        let by = from_chosen g x own.w only.only (subst (λ ys. Contains ys only.only) (sym only.one) (in_head only.only [])) in
        let there : is_place_of by.triple p.place ≡ true = of_place by.triple (At own.w) p.place (sym own.at) by.carries in
        let word_there : carries w by.triple ≡ true = of_place by.triple p.place (At w) (place_at w p.place p.want s) there in
        elim (asks by.triple by.inside by.subject (at_structural a is by.triple by.subject p n there)) [
          | suited b h suits _ ↦
              settled_met b (row_of by.triple by.subject b h)
              (inr (record { triple = by.triple; inside = by.inside; subject = by.subject; word = word_there; suits = suits }))
          | not_asked such _ ↦
              let q = some_passes (λ u. carries u by.triple) by_property such in
              absurd (decider_apart (role_of g x) q.element q.inside (one_word q.element w by.triple q.passes word_there))
        ]

    pub met_row : (a : Row) → IsRow g x a → HasMetRow g k x
    met_row a is =
        elim (none_or_some (times w a.parts)) [
          | inl zero ↦ settled_met a is (inl zero)
          | inr n ↦
              let some = some_of (filter (stands_at w) a.parts) n in
              let kept = from_filter (stands_at w) a.parts some.0 some.1 in
              from_part a is some.0 kept.inside kept.passes
        ]
