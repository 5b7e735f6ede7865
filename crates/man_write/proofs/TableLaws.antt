-- A table to which prefixes are added in the order of their names.
use Rattle.std.proofs.Common.{◌≡◌, ℕ, zero, suc, ◌+◌, ◌<◌, Bool, true, false, cond, not, filter, List, [], ◌∷◌, ◌++◌, length, map, take, Some, get_or, refl, sym, ap, ◌∙◌}
use Rattle.std.specs.Prelude.{slice_get}
use Rattle.std.specs.declared.cmp.Ordering.{Ordering}
use Rattle.std.specs.declared.cmp.Ordering.TheVariants.{Less, Greater}
use Rattle.std.specs.Ordering.{ordering_reverse}
use Rattle.std.proofs.lemmas.List.{append-nil, map-append}
use Rattle.std.proofs.lemmas.List.Elements.{filter-append}
use Rattle.owl_atom.specs.declared.prefixes.Prefix.{Prefix}
use Rattle.owl_atom.specs.PrefixLaws.{Above, below_get}
use Rattle.owl_atom.specs.Prefixes.{AreAscending, IsTable}
use Rattle.owl_characters.specs.Order.{text_cmp}
use Rattle.owl_characters.specs.OrderLaws.{texts_total}
use Rattle.owl_list.specs.Ascending.{by_order}
use Rattle.owl_writing.specs.Tables.{with_prefix}
use Rattle.owl_writing.proofs.DraftLaws.{taken_one}
use Rattle.man_text.specs.Text.{is_keyword, unmarked}
use Rattle.man_read_back.proofs.TableLaws.{all_kept, all_unmarked}

-- a prefix behind all others
set_last : (p : Prefix) (table : List Prefix) → Above p.name table → with_prefix p.name p.iri table ≡ table ++ unmarked p ∷ []
set_last p [] above = refl
set_last p (q ∷ table) above =
    let greater : text_cmp p.name q.name ≡ Greater = texts_total.antisymm p.name q.name ∙ ap ordering_reverse above.0 in
    let new : Prefix = unmarked p in
    ap (λ (o : Ordering). by_order o (new ∷ q ∷ table) (record q { iri = p.iri } ∷ table) (q ∷ with_prefix p.name p.iri table)) greater
    ∙ ap (λ (qs : List Prefix). q ∷ qs) (set_last p table above.1)

front_above : (ps : List Prefix) (i : ℕ) (p : Prefix) → AreAscending ps → slice_get ps i ≡ Some p → Above p.name (take i ps)
front_above [] i p up e = absurd (cc)
front_above (q ∷ ps) zero p up e = tt
front_above (q ∷ ps) (suc i) p up e = (below_get q.name ps i p up.0 e, front_above ps i p up.1 e)

-- those that are no keywords, without their marks
abbrev pub is_kept : Prefix → Bool
is_kept p = not (is_keyword p.name)

abbrev pub kept_of : List Prefix → List Prefix
kept_of ps = map unmarked (filter is_kept ps)

kept_above : (name : List ℕ) (ps : List Prefix) → Above name ps → Above name (kept_of ps)
kept_above name ps above = all_unmarked (λ (q : Prefix). text_cmp q.name name ≡ Less) (filter is_kept ps) (λ q h. h) (all_kept (λ (q : Prefix). text_cmp q.name name ≡ Less) is_kept ps above)

one_kept : (ps : List Prefix) (p : Prefix) → kept_of (ps ++ p ∷ []) ≡ kept_of ps ++ kept_of (p ∷ [])
one_kept ps p = ap (map unmarked) (filter-append is_kept ps (p ∷ [])) ∙ map-append unmarked (filter is_kept ps) (filter is_kept (p ∷ []))

kept_by : (b : Bool) (p : Prefix) → is_keyword p.name ≡ b → kept_of (p ∷ []) ≡ map unmarked (cond (not b) (p ∷ []) [])
kept_by b p e = ap (λ (c : Bool). map unmarked (cond (not c) (p ∷ []) [])) e

module _ (ps : List Prefix) (i : ℕ) (p : Prefix) (is_table : IsTable ps) (inside : i < length ps) (at : slice_get ps i ≡ Some p) (is : p ≡ get_or ps i p) where
  -- with one more
  pub kept_one_more : (now later : List Prefix) → now ≡ kept_of (take i ps) → is_keyword p.name ≡ false → later ≡ with_prefix p.name p.iri now → later ≡ kept_of (take (i + 1) ps)
  kept_one_more now later e k f =
      f
      ∙ ap (with_prefix p.name p.iri) e
      ∙ set_last p (kept_of (take i ps)) (kept_above p.name (take i ps) (front_above ps i p is_table.ascending at))
      ∙ ap (λ (qs : List Prefix). kept_of (take i ps) ++ qs) (sym (kept_by false p k))
      ∙ sym (one_kept (take i ps) p)
      ∙ ap kept_of (sym (taken_one ps i p inside is))

  -- a keyword is passed over
  pub keyword_passed : (now : List Prefix) → now ≡ kept_of (take i ps) → is_keyword p.name ≡ true → now ≡ kept_of (take (i + 1) ps)
  keyword_passed now e k =
      e
      ∙ sym (append-nil (kept_of (take i ps)))
      ∙ ap (λ (qs : List Prefix). kept_of (take i ps) ++ qs) (sym (kept_by true p k))
      ∙ sym (one_kept (take i ps) p)
      ∙ ap kept_of (sym (taken_one ps i p inside is))
