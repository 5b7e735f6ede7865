-- Laws of the ranges of datatypes.
use Rattle.std.proofs.Common.{◌≡◌, ◌<◌, ◌+◌, ◌↔◌, ◌⊎◌, inl, inr, ℕ, Bool, true, false, List, [], ◌∷◌, ◌++◌, Option, None, Some, length, take, get_or, refl, sym, ap, ◌∙◌, subst, append-nil, eq-eqb}
use Rattle.std.specs.Prelude.{Contains, not, nat_eq, ◌||◌}
use Rattle.std.specs.List.{cons_option}
use Rattle.std.specs.Map.{lookup}
use Rattle.std.proofs.lemmas.Bool.{and_from, and_parts, cases_Bool, cond-false, cond-true, eqb-true, or_cases, or_left, or_right, not-true, false≢true}
use Rattle.std.proofs.lemmas.List.Elements.{Contains-append_cases, Contains-append_left, Contains-append_right, filter_map-append}
use Rattle.std.proofs.lemmas.Option.{none-some, same_Some}
use Rattle.std.proofs.lemmas.Slice.Eq.{bytes_eq-Decides}
use Rattle.dl_rules.specs.Definitions.{Defines, Definition, IsDefinedOnce, IsMisusedDatatype, datatype_in, definition_of, definitions, is_given, redefined, reserved, undefined}
use Rattle.owl_arena.specs.Held.{tree_at, trees_at}
use Rattle.owl_arena.specs.Shared.{HaveOneNumber}
use Rattle.owl_breaches.specs.Those.{HoldsOfSome}
use Rattle.owl_characters.specs.Order.{text_eq}
use Rattle.owl_list.proofs.AscendingLaws.{in_cases, in_head, in_none}
use Rattle.owl_tree.specs.Trees.{Tree}
use Rattle.rdf_terms.specs.Vocabulary.{is_reserved}
use Rattle.dl_graphs.specs.declared.definitions.DefinitionIds.{DefinitionIds}
use Rattle.dl_graphs.specs.declared.ranges.DefinedRange.{DefinedRange}
use Rattle.dl_graphs.specs.Ranges.{AreRanges, Entry, IsNoted, IsRange, IsRangeIf, NotesDefinition, NotesRange, is_misused, ranged}
use Rattle.dl_graphs.specs.Uses.{IsDefinitionIf}
use Rattle.dl_graphs.proofs.DefinitionLaws.{datatype_named}
use Rattle.dl_graphs.proofs.UseLaws.{front_and_next}

-- One more definition.

abbrev one_more : List Tree → Definition → List Definition
one_more axioms d = definitions axioms ++ d ∷ []

definitions_more : (us : List Tree) (u : Tree) (o : Option Definition) → definition_of u ≡ o → definitions (us ++ u ∷ []) ≡ definitions us ++ cons_option o []
definitions_more us u o e = filter_map-append definition_of us (u ∷ []) ∙ ap (λ (p : Option Definition). definitions us ++ cons_option p []) e

-- a definition is the last one, or one before
last_or_before : (us : List Tree) (d e : Definition) → Contains (one_more us d) e → Contains (definitions us) e ⊎ (d ≡ e)
last_or_before us d e m = elim (Contains-append_cases (definitions us) (d ∷ []) e m) as (λ _. Contains (definitions us) e ⊎ (d ≡ e)) [
  | inl n ↦ inl n
  | inr n ↦ elim (in_cases d [] e n) as (λ _. Contains (definitions us) e ⊎ (d ≡ e)) [
    | inl same ↦ inr same
    | inr none ↦ absurd (in_none e none)
  ]
]

module _ (ts : List Tree) (one : HaveOneNumber ts) (us : List Tree) (u : Tree) where
  -- what is so of an IRI by a list of definitions
  module _ (d : Definition) (e : definition_of u ≡ Some d) where
    more : definitions (us ++ u ∷ []) ≡ one_more us d
    more = definitions_more us u (Some d) e

    defined_now : (iri : List ℕ) (range : Tree) → Defines (us ++ u ∷ []) iri range → Defines us iri range ⊎ (d ≡ record { datatype = iri; range = range })
    defined_now iri range m = last_or_before us d (record { datatype = iri; range = range }) (subst (λ (ds : List Definition). Contains ds (record { datatype = iri; range = range })) more m)

    still_defined : (iri : List ℕ) (range : Tree) → Defines us iri range → Defines (us ++ u ∷ []) iri range
    still_defined iri range m = subst (λ (ds : List Definition). Contains ds (record { datatype = iri; range = range })) (sym more) (Contains-append_left (definitions us) (d ∷ []) (record { datatype = iri; range = range }) m)

    defined_here : Defines (us ++ u ∷ []) d.datatype d.range
    defined_here = subst (λ (ds : List Definition). Contains ds d) (sym more) (Contains-append_right (definitions us) (d ∷ []) d (in_head d []))

    -- other datatypes have the same ranges as before
    same_range : (iri : List ℕ) → (d.datatype ≡ iri → ⊥) → (o : Option DefinedRange) → IsRangeIf ts us iri o → IsRangeIf ts (us ++ u ∷ []) iri o
    same_range iri differs None none = λ range m. elim (defined_now iri range m) [
      | inl before ↦ none range before
      | inr now ↦ differs (ap (λ (f : Definition). f.datatype) now)
    ]
    same_range iri differs (Some known) h = record {
      held = h.held;
      given = still_defined iri (tree_at ts known.range) h.given;
      only = (
        λ is other m. elim (defined_now iri other m) as (λ _. other ≡ tree_at ts known.range) [
          | inl before ↦ h.only.0 is other before
          | inr now ↦ absurd (differs (ap (λ (f : Definition). f.datatype) now))
        ],
        λ all. h.only.1 (λ other m. all other (still_defined iri other m)),
      );
    }

    module _ (range : ℕ) (is : tree_at ts range ≡ d.range) (held : range < length ts) where
      -- what is defined now has the range that it had, or this one
      new_range : (o : Option DefinedRange) → IsRangeIf ts us d.datatype o → IsRange ts (us ++ u ∷ []) d.datatype (ranged o range)
      new_range None none = record {
        held = held;
        given = subst (λ (t : Tree). Defines (us ++ u ∷ []) d.datatype t) (sym is) defined_here;
        only = (
          λ _ other m. elim (defined_now d.datatype other m) as (λ _. other ≡ tree_at ts range) [
            | inl before ↦ absurd (none other before)
            | inr now ↦ sym (is ∙ ap (λ (f : Definition). f.range) now)
          ],
          λ _. refl,
        );
      }
      new_range (Some known) h = record {
        held = h.held;
        given = still_defined d.datatype (tree_at ts known.range) h.given;
        only = (
          λ both other m.
              let parts = and_parts known.is_only (nat_eq known.range range) both in
              let alike : known.range ≡ range = eqb-true known.range range parts.1 in
              elim (defined_now d.datatype other m) as (λ _. other ≡ tree_at ts known.range) [
                | inl before ↦ h.only.0 parts.0 other before
                | inr now ↦ sym (ap (tree_at ts) alike ∙ (is ∙ ap (λ (f : Definition). f.range) now))
              ],
          λ all.
              let own : d.range ≡ tree_at ts known.range = all d.range defined_here in
              let alike : known.range ≡ range = one known.range range h.held held (sym (is ∙ own)) in
              and_from known.is_only (nat_eq known.range range) (h.only.1 (λ other m. all other (still_defined d.datatype other m))) (eq-eqb known.range range alike),
        );
      }

    noted_range : (old new : List Entry) → IsNoted ts d old new → AreRanges ts us old → AreRanges ts (us ++ u ∷ []) new
    noted_range old new noted known q =
        let found : Option DefinedRange = lookup (text_eq d.datatype) old in
        let next : DefinedRange = ranged found noted.range in
        elim (cases_Bool (text_eq d.datatype q)) as (λ _. IsRangeIf ts (us ++ u ∷ []) q (lookup (text_eq q) new)) [
          | inl same ↦
              let reads : lookup (text_eq q) new ≡ Some next = noted.notes q ∙ cond-true (text_eq d.datatype q) (Some next) (lookup (text_eq q) old) same in
              subst (λ (o : Option DefinedRange). IsRangeIf ts (us ++ u ∷ []) q o) (sym reads)
              (subst (λ (iri : List ℕ). IsRange ts (us ++ u ∷ []) iri next) ((bytes_eq-Decides d.datatype q).0 same) (new_range noted.range noted.is noted.held found (known d.datatype)))
          | inr other ↦
              let reads : lookup (text_eq q) new ≡ lookup (text_eq q) old = noted.notes q ∙ cond-false (text_eq d.datatype q) (Some next) (lookup (text_eq q) old) other in
              let differs : d.datatype ≡ q → ⊥ = λ alike. false≢true (sym other ∙ (bytes_eq-Decides d.datatype q).1 alike) in
              subst (λ (o : Option DefinedRange). IsRangeIf ts (us ++ u ∷ []) q o) (sym reads) (same_range q differs (lookup (text_eq q) old) (known q))
        ]

  -- where the axiom defines nothing, the ranges stay
  ranges_stay : definition_of u ≡ None → (old : List Entry) → AreRanges ts us old → AreRanges ts (us ++ u ∷ []) old
  ranges_stay e old known q =
      stay (lookup (text_eq q) old) (known q)
    where
      same : definitions (us ++ u ∷ []) ≡ definitions us
      same = definitions_more us u None e ∙ append-nil (definitions us)

      back : (iri : List ℕ) (range : Tree) → Defines (us ++ u ∷ []) iri range → Defines us iri range
      back iri range m = subst (λ (ds : List Definition). Contains ds (record { datatype = iri; range = range })) same m

      forth : (iri : List ℕ) (range : Tree) → Defines us iri range → Defines (us ++ u ∷ []) iri range
      forth iri range m = subst (λ (ds : List Definition). Contains ds (record { datatype = iri; range = range })) (sym same) m

      stay : (o : Option DefinedRange) → IsRangeIf ts us q o → IsRangeIf ts (us ++ u ∷ []) q o
      stay None none = λ range m. none range (back q range m)
      stay (Some known) h = record {
        held = h.held;
        given = forth q (tree_at ts known.range) h.given;
        only = (λ is other m. h.only.0 is other (back q other m), λ all. h.only.1 (λ other m. all other (forth q other m)));
      }

  ranges_by : (o : Option Definition) → definition_of u ≡ o → (old new : List Entry) → NotesDefinition ts o old new → AreRanges ts us old → AreRanges ts (us ++ u ∷ []) new
  ranges_by None e old new same known = subst (λ (es : List Entry). AreRanges ts (us ++ u ∷ []) es) (sym same) (ranges_stay e old known)
  ranges_by (Some d) e old new noted known = noted_range d e old new noted known

pub ranges_next : (ts : List Tree) → HaveOneNumber ts → (ids : List ℕ) (index id : ℕ) (old new : List Entry) → index < length ids → id ≡ get_or ids index id → AreRanges ts (trees_at ts (take index ids)) old → NotesDefinition ts (definition_of (tree_at ts id)) old new → AreRanges ts (trees_at ts (take (index + 1) ids)) new
ranges_next ts one ids index id old new h is known notes =
    subst (λ (us : List Tree). AreRanges ts us new) (sym (front_and_next ts ids index id h is))
    (ranges_by ts one (trees_at ts (take index ids)) (tree_at ts id) (definition_of (tree_at ts id)) refl old new notes known)

-- Which datatypes may not be used.

module _ (ts axioms : List Tree) (iri : List ℕ) where
  -- a datatype is defined once exactly where its first range is the only one
  once_where : (known : DefinedRange) → IsRange ts axioms iri known → (known.is_only ≡ true) ↔ IsDefinedOnce axioms iri
  once_where known h = (
    λ is. record { range = tree_at ts known.range; defined = h.given; once = h.only.0 is },
    λ once. h.only.1 (λ other m. once.once other m ∙ sym (once.once (tree_at ts known.range) h.given)),
  )

  negated : (b : Bool) → (b ≡ true → ⊥) → not b ≡ true
  negated true h = absurd (h refl)
  negated false h = refl

  to_misused : (o : Option DefinedRange) → IsRangeIf ts axioms iri o → is_misused iri o ≡ true → IsMisusedDatatype axioms iri
  to_misused None none e = undefined (not-true (is_given iri) e) (λ once. none once.range once.defined)
  to_misused (Some known) h e = elim (cases_Bool (is_given iri)) as (λ _. IsMisusedDatatype axioms iri) [
    | inl given ↦ redefined (tree_at ts known.range) given h.given
    | inr own ↦ elim (or_cases (is_given iri || is_reserved iri) (not known.is_only) e) as (λ _. IsMisusedDatatype axioms iri) [
      | inl front ↦ elim (or_cases (is_given iri) (is_reserved iri) front) as (λ _. IsMisusedDatatype axioms iri) [
        | inl given ↦ redefined (tree_at ts known.range) given h.given
        | inr kept ↦ reserved own kept
      ]
      | inr many ↦ undefined own (λ once. false≢true (sym (not-true known.is_only many) ∙ (once_where known h).1 once))
    ]
  ]

  from_misused : (o : Option DefinedRange) → IsRangeIf ts axioms iri o → IsMisusedDatatype axioms iri → is_misused iri o ≡ true
  from_misused None none (redefined range given m) = absurd (none range m)
  from_misused None none (reserved own kept) = ap not own
  from_misused None none (undefined own m) = ap not own
  from_misused (Some known) h (redefined range given m) = or_left (is_given iri || is_reserved iri) (not known.is_only) (or_left (is_given iri) (is_reserved iri) given)
  from_misused (Some known) h (reserved own kept) = or_left (is_given iri || is_reserved iri) (not known.is_only) (or_right (is_given iri) (is_reserved iri) kept)
  from_misused (Some known) h (undefined own not_once) = or_right (is_given iri || is_reserved iri) (not known.is_only) (negated known.is_only (λ is. not_once ((once_where known h).0 is)))

  pub misused_where : (o : Option DefinedRange) → IsRangeIf ts axioms iri o → (is_misused iri o ≡ true) ↔ IsMisusedDatatype axioms iri
  misused_where o h = (to_misused o h, from_misused o h)

  pub misused_by : (table : List Entry) (o : Option (List ℕ)) → AreRanges ts axioms table → Some iri ≡ o → (is_misused iri (lookup (text_eq iri) table) ≡ true) ↔ HoldsOfSome (IsMisusedDatatype axioms) o
  misused_by table o known e = subst (λ (p : Option (List ℕ)). (is_misused iri (lookup (text_eq iri) table) ≡ true) ↔ HoldsOfSome (IsMisusedDatatype axioms) p) e (misused_where (lookup (text_eq iri) table) (known iri))

-- The definition that is noted.

module _ (ts : List Tree) (ids : DefinitionIds) where
  pub noted_by : (o : Option Definition) → IsDefinitionIf ts (Some ids) o → (iri copied : List ℕ) → Some iri ≡ datatype_in (tree_at ts ids.datatype) → copied ≡ iri → (old new : List Entry) → NotesRange copied ids.range old new → NotesDefinition ts o old new
  noted_by None h iri copied e same old new notes = absurd h
  noted_by (Some d) h iri copied e same old new notes =
      let is : copied ≡ d.datatype = same ∙ same_Some iri d.datatype (e ∙ (ap datatype_in h.datatype ∙ datatype_named d.datatype)) in
      record { range = ids.range; is = h.range; held = h.range_held; notes = subst (λ (named : List ℕ). NotesRange named ids.range old new) is notes }

  pub always_named : (o : Option Definition) → IsDefinitionIf ts (Some ids) o → None ≡ datatype_in (tree_at ts ids.datatype) → ⊥
  always_named None h e = h
  always_named (Some d) h e = none-some d.datatype (e ∙ (ap datatype_in h.datatype ∙ datatype_named d.datatype))
