-- What is denoted is sound, and so is all below it.
use Rattle.std.specs.Prelude.{◌≡◌, ◌⊎◌, ◌≤◌, ℕ, Bool, true, false, cond, not, ◌&&◌, ◌||◌, List, [], ◌∷◌, Contains, length, map, Some, option_map}
use Rattle.std.specs.List.{AllByRecursion, filter, list_all, list_any}
use Rattle.std.specs.Str.{bytes_eq}
use Rattle.std.proofs.Common.{inl, inr, refl, sym, ap, ◌∙◌, subst}
use Rattle.std.proofs.lemmas.Bool.{and_parts, both_ways, not-true, or_cases}
use Rattle.std.proofs.lemmas.Option.{none-some}
use Rattle.owl_list.proofs.AscendingLaws.{all_in, in_cases, in_head, in_none}
use Rattle.owl_kind.specs.Kinds.{Entity}
use Rattle.owl_tree.specs.declared.tag.Tag.{Tag}
use Rattle.owl_tree.specs.declared.row.Sort.{Sort}
use Rattle.owl_tree.specs.declared.row.Sort.TheVariants as sort
use Rattle.owl_tree.specs.Trees.{Tree}
use Rattle.rdf_graph.specs.declared.term.Term.{Term}
use Rattle.rdf_graph.specs.declared.term.Term.TheVariants.{Iri, Blank, Literal}
use Rattle.rdf_graph.specs.declared.triple.Triple.{Triple}
use Rattle.owl_list.proofs.FilterLaws.{from_filter, in_filter}
use Rattle.rdf_meaning.proofs.ListLaws.{Passing, one_at_least, only_one, passes, same_only, some_of, some_passes}
use Rattle.rdf_meaning.specs.declared.role.Role.{Role}
use Rattle.rdf_meaning.specs.declared.role.Role.TheVariants as role
use Rattle.rdf_meaning.specs.declared.word.Word.{Word}
use Rattle.rdf_meaning.specs.declared.word.Word.TheVariants as word
use Rattle.rdf_meaning.specs.declared.row.Place.{Place}
use Rattle.rdf_meaning.specs.declared.row.Place.TheVariants.{At, Subject, Predicate, Object}
use Rattle.rdf_meaning.specs.declared.row.Part.{Part}
use Rattle.rdf_meaning.specs.declared.row.Site.{Site}
use Rattle.rdf_meaning.specs.declared.row.Site.TheVariants.{Node, TypedBy, OtherType, LinkedBy, OtherLink}
use Rattle.rdf_meaning.specs.declared.row.Want.{Want}
use Rattle.rdf_meaning.specs.declared.row.Want.TheVariants.{One}
use Rattle.rdf_meaning.specs.Words.{is_type, word_iri}
use Rattle.rdf_meaning.proofs.WordLaws.{same_word}
use Rattle.rdf_meaning.specs.Nodes.{carries, chosen, is_facet, is_own, is_role, is_same, is_structural, nil_iri, of_subject, role_of, says_type, type_iri, words_of}
use Rattle.rdf_meaning.proofs.NodeLaws.{in_chosen, in_subject, same_term, typed_object}
use Rattle.rdf_meaning.specs.Rows.{Row, axiom_rows, node_rows}
use Rattle.rdf_meaning.specs.RowTests.{has_row, has_row_at, is_apart_from_facets, is_at_type, is_mark, is_marked_well, is_place}
use Rattle.rdf_meaning.proofs.RowLaws.{at_expression, axiom_marked_well, expression_marked_well, same_place, same_role}
use Rattle.rdf_meaning.specs.Denotation.{AreKeys, no_key, object_key, data_key, Bearer, of_node, of_triple, Denotes, by_itself, by_row, by_list, by_whole, by_keys, by_declaration, mark, is_true, Fits, Holds, no_parts, part, Lists, no_cell, cell, axiom_types, declared_entity, facet_pair, facets_of, first_of, literal_leaf, select, simple, site_of, stands_at, times}
use Rattle.rdf_meaning.proofs.DenotationLaws.{list_is, key_is, so, so_else, so_option}
use Rattle.rdf_meaning.proofs.ShapeLaws.{so_some}
use Rattle.rdf_meaning.specs.Statements.{HasRow, IsAxiomWith, IsPartOfAxiom, IsSoundAs}
use Rattle.rdf_meaning.specs.Sound.{IsSoundBelow, sound_below, IsSoundPart, IsStanding, LeadsToSound, HasSoundEnds}

-- the words by which a term is below a node

own_by_word : (r : Role) (t : Triple) → is_role role.Facet r ≡ false → is_own r t ≡ true → Passing (λ w. carries w t) (words_of r)
own_by_word role.Facet t f h = cc
own_by_word role.List t f h = some_passes (λ w. carries w t) (words_of role.List) h
own_by_word role.Property t f h = some_passes (λ w. carries w t) (words_of role.Property) h
own_by_word role.Class t f h = some_passes (λ w. carries w t) (words_of role.Class) h
own_by_word role.Range t f h = some_passes (λ w. carries w t) (words_of role.Range) h
own_by_word role.Main t f h = some_passes (λ w. carries w t) (words_of role.Main) h
own_by_word role.Note t f h = some_passes (λ w. carries w t) (words_of role.Note) h
own_by_word role.Header t f h = some_passes (λ w. carries w t) (words_of role.Header) h
own_by_word role.Individual t f h = some_passes (λ w. carries w t) (words_of role.Individual) h

structural_own : (g : List Triple) (t : Triple) (x : Term) (r : Role) → t.subject ≡ x → role_of g x ≡ r → is_structural g t ≡ true → is_own r t ≡ true
unfolding is_structural
structural_own g t x r s e h = subst (λ q. is_own q t ≡ true) (ap (role_of g) s ∙ e) h

-- the word that the triple carries
record IsByWord (g : List Triple) (t : Triple) (x : Term) (r : Role) : Type 0 where
  pub w : Word
  pub among : Contains (words_of r) w
  pub chosen_there : Contains (chosen g x w) t.object
  pub iri : is_type w ≡ true → role_of g t.object ≡ role.Individual

by_word : (g : List Triple) (t : Triple) (x : Term) (r : Role) → Contains g t → t.subject ≡ x → is_structural g t ≡ true → role_of g x ≡ r → is_role role.Facet r ≡ false → IsByWord g t x r
by_word g t x r m s h e f =
    let p = own_by_word r t f (structural_own g t x r s e h) in
    record {
      w = p.element;
      among = p.inside;
      chosen_there = in_chosen g x p.element t m s p.passes;
      iri = λ type. ap (role_of g) (typed_object p.element t type p.passes);
    }

-- what has no structural triple

no_words : (w : Word) → Contains (words_of role.Individual) w → ⊥
unfolding words_of
no_words w m = in_none w m

pub nothing_below : (g : List Triple) (x : Term) → role_of g x ≡ role.Individual → (t : Triple) → Contains g t → t.subject ≡ x → is_structural g t ≡ true → ⊥
nothing_below g x e t m s h = let by = by_word g t x role.Individual m s h e refl in no_words by.w by.among

individual_sound : (g : List Triple) (x : Term) → role_of g x ≡ role.Individual → IsSoundBelow g x
individual_sound g x e = sound_below x (inl e) (λ t m s h. absurd (nothing_below g x e t m s h))

-- what a node is by its role

as_part : (g : List Triple) (x : Term) (r : Role) → role_of g x ≡ r → IsPartOfAxiom r → IsSoundAs g r x → IsSoundPart g x
as_part g x r e p s = record { part = subst IsPartOfAxiom (sym e) p; sound = subst (λ (q : Role). IsSoundAs g q x) (sym e) s }

by_rows : (g : List Triple) (x : Term) (r : Role) → role_of g x ≡ r → has_row r ≡ true → HasRow g node_rows x → IsSoundPart g x
by_rows g x role.Property e h is = as_part g x role.Property e tt is
by_rows g x role.Class e h is = as_part g x role.Class e tt is
by_rows g x role.Range e h is = as_part g x role.Range e tt is
by_rows g x _ e h is = cc

-- a facet

literal_role : (g : List Triple) (f : Tree → Tree) (o : Term) (u : Tree) → option_map f (literal_leaf o) ≡ Some u → role_of g o ≡ role.Individual
literal_role g f (Iri iri) u e = absurd (none-some u e)
literal_role g f (Blank label) u e = absurd (none-some u e)
literal_role g f (Literal literal) u e = refl

record IsOnePair (g : List Triple) (ts : List Triple) : Type 0 where
  pub one : length ts ≡ 1
  pub literal : (t : Triple) → Contains ts t → role_of g t.object ≡ role.Individual

pair_of_literal : (g : List Triple) (ts : List Triple) (u : Tree) → facet_pair ts ≡ Some u → IsOnePair g ts
pair_of_literal g [] u e = absurd (none-some u e)
pair_of_literal g (v ∷ []) u e = record {
  one = refl;
  literal = λ t m.
      elim (in_cases v [] t m) [
        | inl same ↦ subst (λ (w : Triple). role_of g w.object ≡ role.Individual) same (literal_role g _ v.object u e)
        | inr n ↦ absurd (in_none t n)
      ];
}
pair_of_literal g (v ∷ w ∷ more) u e = absurd (none-some u e)

-- the triples of a facet are those with a predicate of facets
pub in_facets : (g : List Triple) (x : Term) → role_of g x ≡ role.Facet → (t : Triple) → Contains g t → t.subject ≡ x → is_structural g t ≡ true → Contains (facets_of g x) t
in_facets g x e t m s h =
    in_filter (λ v. is_facet v.predicate) (of_subject g x) t (in_subject g x t m s) (structural_own g t x role.Facet s e h)

facet_sound : (g : List Triple) (x : Term) (u : Tree) → role_of g x ≡ role.Facet → facet_pair (facets_of g x) ≡ Some u → IsSoundBelow g x
facet_sound g x u e f =
    let pair = pair_of_literal g (facets_of g x) u f in
    sound_below x (inr (as_part g x role.Facet e tt pair.one))
    (λ t m s h. individual_sound g t.object (pair.literal t (in_facets g x e t m s h)))

individual_role : (r : Role) → is_role role.Individual r ≡ true → r ≡ role.Individual
individual_role r h = sym (same_role role.Individual r h)

-- what stands for itself is no node but for an individual, or a facet with its value
abbrev pub IsPlain : List Triple → Term → Tree → Type 0
IsPlain g x t = (role_of g x ≡ role.Individual) ⊎ ((role_of g x ≡ role.Facet) × (facet_pair (facets_of g x) ≡ Some t))

plain_blank : (g : List Triple) (k : List Entity) (s : Sort) (label : List ℕ) (t : Tree) → simple g k s (Blank label) ≡ Some t → IsPlain g (Blank label) t
unfolding simple
plain_blank g k sort.Individual label t e = inl (individual_role _ (so _ _ t e))
plain_blank g k sort.AnnotationSubject label t e = inl (individual_role _ (so _ _ t e))
plain_blank g k sort.AnnotationValue label t e = inl (individual_role _ (so_else _ _ t e))
plain_blank g k sort.FacetPair label t e =
    inr (sym (same_role role.Facet _ (so_option _ _ t e)), so_some (is_role role.Facet (role_of g (Blank label))) _ t e)
plain_blank g k _ label t e = absurd (none-some t e)

pub plain_itself : (g : List Triple) (k : List Entity) (s : Sort) (x : Term) (t : Tree) → simple g k s x ≡ Some t → IsPlain g x t
plain_itself g k s (Iri iri) t e = inl refl
plain_itself g k s (Blank label) t e = plain_blank g k s label t e
plain_itself g k s (Literal literal) t e = inl refl

simple_sound : (g : List Triple) (k : List Entity) (s : Sort) (x : Term) (t : Tree) → simple g k s x ≡ Some t → IsSoundBelow g x
simple_sound g k s x t e = elim (plain_itself g k s x t e) [ inl i ↦ individual_sound g x i | inr f ↦ facet_sound g x t f.0 f.1 ]

pub declared_role : (g : List Triple) (k : List Entity) (t : Tag) (x : Term) (u : Tree) → declared_entity k t x ≡ Some u → role_of g x ≡ role.Individual
unfolding declared_entity
declared_role g k t (Iri iri) u e = refl
declared_role g k t (Blank label) u e = absurd (none-some u e)
declared_role g k t (Literal literal) u e = absurd (none-some u e)

-- a node of a row

pub same_at : (f h : Word → ℕ) (ws : List Word) (w : Word) → map f ws ≡ map h ws → Contains ws w → f w ≡ h w
same_at f h [] w e m = absurd (in_none w m)
same_at f h (v ∷ ws) w e m =
    let first : f v ≡ h v = cc in
    let rest : map f ws ≡ map h ws = cc in
    elim (in_cases v ws w m) [ inl s ↦ subst (λ u. f u ≡ h u) s first | inr n ↦ same_at f h ws w rest n ]

at_word : (w : Word) (place : Place) (want : Want) → stands_at w (record { place = place; want = want }) ≡ true → place ≡ At w
at_word w (At v) want h = ap At (sym (same_word w v h))
at_word w Subject want h = cc
at_word w Predicate want h = cc
at_word w Object want h = cc

-- a part of these stands at the word
pub record IsPartAt (w : Word) (ps : List Part) : Type 0 where
  pub p : Part
  pub inside : Contains ps p
  pub place : p.place ≡ At w

pub part_at : (w : Word) (ps : List Part) → 1 ≤ times w ps → IsPartAt w ps
part_at w ps n =
    let some = some_of (filter (stands_at w) ps) n in
    let kept = from_filter (stands_at w) ps some.0 some.1 in
    record { p = some.0; inside = kept.inside; place = at_word w some.0.place some.0.want kept.passes }

-- the part of a row at which the object of a structural triple of the node stands
pub record IsLedBy (g : List Triple) (x : Term) (row : Row) (t : Triple) : Type 0 where
  pub p : Part
  pub inside : Contains row.parts p
  pub chosen_there : Contains (select g (of_node x) p.place) t.object
  pub plain : (is_mark p.want ≡ false) ⊎ (role_of g t.object ≡ role.Individual)

pub led_by : (g : List Triple) (x : Term) (row : Row) → is_marked_well row ≡ true → Fits g (of_node x) row → (t : Triple) → Contains g t → t.subject ≡ x → is_structural g t ≡ true → IsLedBy g x row t
led_by g x row well f t m s h =
    let tests = and_parts (is_apart_from_facets row.site) (list_all (λ p. not (is_mark p.want) || is_at_type p.place) row.parts) well in
    let plain = not-true _ (subst (λ site. is_apart_from_facets site ≡ true) f.0 tests.0) in
    let by = by_word g t x (role_of g x) m s h refl plain in
    let count = same_at (λ w. length (chosen g x w)) (λ w. times w row.parts) (words_of (role_of g x)) by.w f.1 by.among in
    let at = part_at by.w row.parts (subst (λ n. 1 ≤ n) count (one_at_least (chosen g x by.w) t.object by.chosen_there)) in
    let marked = passes (λ p. not (is_mark p.want) || is_at_type p.place) row.parts at.p tests.1 at.inside in
    record {
      p = at.p;
      inside = at.inside;
      chosen_there = subst (λ place. Contains (select g (of_node x) place) t.object) (sym at.place) by.chosen_there;
      plain =
          elim (or_cases (not (is_mark at.p.want)) (is_at_type at.p.place) marked) [
            | inl n ↦ inl (not-true _ n)
            | inr type ↦ inr (by.iri (subst (λ q. is_at_type q ≡ true) at.place type))
          ];
    }

row_leads : (g : List Triple) (x : Term) (row : Row) → is_marked_well row ≡ true → Fits g (of_node x) row → AllByRecursion (IsStanding g (of_node x)) row.parts → LeadsToSound g x
row_leads g x row well f standing t m s h =
    let led = led_by g x row well f t m s h in
    let stands = all_in (IsStanding g (of_node x)) row.parts led.p standing led.inside in
    elim led.plain [
      | inl n ↦ subst (IsSoundBelow g) (only_one (select g (of_node x) led.p.place) stands.z t.object stands.one led.chosen_there) (stands.below n)
      | inr e ↦ individual_sound g t.object e
    ]

row_sound : (g : List Triple) (x : Term) (row : Row) → Contains node_rows row → Fits g (of_node x) row → AllByRecursion (IsStanding g (of_node x)) row.parts → IsSoundBelow g x
row_sound g x row m f standing =
    sound_below x
    (inr (by_rows g x (role_of g x) refl (sym (ap has_row_at f.0) ∙ at_expression row m) (record { row = row; among = m; fits = f })))
    (row_leads g x row (expression_marked_well row m) f standing)

-- a cell of a list

list_words : (w : Word) → Contains (words_of role.List) w → (w ≡ word.First) ⊎ (w ≡ word.Rest)
unfolding words_of
list_words w m =
    elim (in_cases word.First (word.Rest ∷ []) w m) [
      | inl e ↦ inl (sym e)
      | inr n ↦ elim (in_cases word.Rest [] w n) [ inl e ↦ inr (sym e) | inr l ↦ absurd (in_none w l) ]
    ]

-- the structural triples of a cell lead to its first and its rest
pub cell_leads : (g : List Triple) (x first rest : Term) → role_of g x ≡ role.List → chosen g x word.First ≡ first ∷ [] → chosen g x word.Rest ≡ rest ∷ [] → (t : Triple) → Contains g t → t.subject ≡ x → is_structural g t ≡ true → (first ≡ t.object) ⊎ (rest ≡ t.object)
cell_leads g x first rest l f r t m s h =
    let by = by_word g t x role.List m s h l refl in
    elim (list_words by.w by.among) [
      | inl e ↦ inl (only_one (chosen g x word.First) first t.object f (subst (λ w. Contains (chosen g x w) t.object) e by.chosen_there))
      | inr e ↦ inr (only_one (chosen g x word.Rest) rest t.object r (subst (λ w. Contains (chosen g x w) t.object) e by.chosen_there))
    ]

cell_sound : (g : List Triple) (x first rest : Term) → role_of g x ≡ role.List → chosen g x word.First ≡ first ∷ [] → chosen g x word.Rest ≡ rest ∷ [] → (rest ≡ Iri nil_iri) ⊎ (role_of g rest ≡ role.List) → IsSoundBelow g first → IsSoundBelow g rest → IsSoundBelow g x
cell_sound g x first rest l f r on first_is rest_is =
    sound_below x (inr (as_part g x role.List l tt (record { first = first; rest = rest; one_first = f; one_rest = r; goes_on = on }))) (λ t m s h.
    elim (cell_leads g x first rest l f r t m s h) [
      | inl e ↦ subst (IsSoundBelow g) e first_is
      | inr e ↦ subst (IsSoundBelow g) e rest_is
    ])

list_goes_on : (g : List Triple) (k : List Entity) (x : Term) (s : Sort) (ts : List Tree) → Lists g k x s ts → (x ≡ Iri nil_iri) ⊎ (role_of g x ≡ role.List)
list_goes_on g k x s ts h = elim (list_is g k x s ts h) [ inl e ↦ inl e.0 | inr c ↦ inr c.list ]

keys_go_on : (g : List Triple) (k : List Entity) (x : Term) (os ds : List Tree) → AreKeys g k x os ds → (x ≡ Iri nil_iri) ⊎ (role_of g x ≡ role.List)
keys_go_on g k x os ds h = elim (key_is g k x os ds h) [ inl e ↦ inl e.0 | inr c ↦ inr c.list ]

mutual
  denoted_sound : (g : List Triple) (k : List Entity) (x : Term) (w : Want) (ts : List Tree) → Denotes g k x w ts → is_mark w ≡ false → IsSoundBelow g x
  denoted_sound g k _ _ _ (by_itself s x t e) n = simple_sound g k s x t e
  denoted_sound g k _ _ _ (by_row s x row ts m a f h) n = row_sound g x row m f (parts_sound g k (of_node x) row.parts ts h)
  denoted_sound g k _ _ _ (by_list s x least ts _ l) n = list_sound g k x s ts l
  denoted_sound g k _ _ _ (by_whole t s x least ts _ l) n = list_sound g k x s ts l
  denoted_sound g k _ _ _ (by_keys x os ds _ h) n = keys_sound g k x os ds h
  denoted_sound g k _ _ _ (by_declaration t x u e) n = individual_sound g x (declared_role g k t x u e)
  denoted_sound g k _ _ _ (mark x) n = cc
  denoted_sound g k _ _ _ (is_true x e) n = individual_sound g x (ap (role_of g) e)

  pub list_sound : (g : List Triple) (k : List Entity) (x : Term) (s : Sort) (ts : List Tree) → Lists g k x s ts → IsSoundBelow g x
  list_sound g k _ _ _ (no_cell s x e) = individual_sound g x (ap (role_of g) e)
  list_sound g k _ _ _ (cell s x first rest ts us l f r d h) =
      cell_sound g x first rest l f r (list_goes_on g k rest s us h) (denoted_sound g k first (One s) ts d refl) (list_sound g k rest s us h)

  pub keys_sound : (g : List Triple) (k : List Entity) (x : Term) (os ds : List Tree) → AreKeys g k x os ds → IsSoundBelow g x
  keys_sound g k _ _ _ (no_key x e) = individual_sound g x (ap (role_of g) e)
  keys_sound g k _ _ _ (object_key x first rest ts os ds l f r d h) =
      cell_sound g x first rest l f r (keys_go_on g k rest os ds h) (denoted_sound g k first (One sort.ObjectPropertyExpression) ts d refl) (keys_sound g k rest os ds h)
  keys_sound g k _ _ _ (data_key x first rest ts os ds l f r d h) =
      cell_sound g x first rest l f r (keys_go_on g k rest os ds h) (denoted_sound g k first (One sort.DataPropertyExpression) ts d refl) (keys_sound g k rest os ds h)

  parts_sound : (g : List Triple) (k : List Entity) (b : Bearer) (ps : List Part) (ts : List Tree) → Holds g k b ps ts → AllByRecursion (IsStanding g b) ps
  parts_sound g k _ _ _ (no_parts b) = tt
  parts_sound g k _ _ _ (part b p ps x ts us e d h) =
      (record { z = x; one = e; below = λ n. denoted_sound g k x p.want ts d n }, parts_sound g k b ps us h)

pub one_sound : (g : List Triple) (k : List Entity) (x : Term) (s : Sort) (ts : List Tree) → Denotes g k x (One s) ts → IsSoundBelow g x
one_sound g k x s ts d = denoted_sound g k x (One s) ts d refl

-- a node that stands for an axiom
pub main_leads : (g : List Triple) (k : List Entity) (x : Term) (t : Tag) (ts : List Tree) → IsAxiomWith g k (of_node x) t ts → LeadsToSound g x
main_leads g k x t ts is =
    row_leads g x is.row (axiom_marked_well is.row is.among) is.fits (parts_sound g k (of_node x) is.row.parts ts is.parts)

-- a triple that is an axiom

abbrev pub wants_tree : Place → Part → Bool
wants_tree place p = is_place p.place place && not (is_mark p.want)

abbrev is_of_node : Site → Bool
is_of_node (Node r) = true
is_of_node _ = false

abbrev is_typed : Site → Bool
is_typed (TypedBy w) = true
is_typed _ = false

abbrev has_ends : Row → Bool
has_ends r = is_of_node r.site || (list_any (wants_tree Subject) r.parts && (is_typed r.site || list_any (wants_tree Object) r.parts))

rows_have_ends : list_all has_ends axiom_rows ≡ true
unfolding axiom_rows
rows_have_ends = refl

no_node_site : (t : Triple) (b : Bool) (ts us : List Word) → is_of_node (cond b (first_of TypedBy OtherType ts) (first_of LinkedBy OtherLink us)) ≡ false
no_node_site t true [] us = refl
no_node_site t true (w ∷ ts) us = refl
no_node_site t false ts [] = refl
no_node_site t false ts (w ∷ us) = refl

no_node : (t : Triple) → is_of_node (site_of t) ≡ false
unfolding site_of
no_node t = no_node_site t (bytes_eq t.predicate type_iri) _ _

typed_by : (g : List Triple) (t : Triple) (b : Bool) (ts us : List Word) → ((w : Word) → Contains ts w → role_of g t.object ≡ role.Individual) → is_typed (cond b (first_of TypedBy OtherType ts) (first_of LinkedBy OtherLink us)) ≡ true → role_of g t.object ≡ role.Individual
typed_by g t true [] us h e = cc
typed_by g t true (w ∷ ts) us h e = h w (in_head w ts)
typed_by g t false ts [] h e = cc
typed_by g t false ts (w ∷ us) h e = cc

class_object : (g : List Triple) (t : Triple) (w : Word) → says_type (word_iri w) t ≡ true → role_of g t.object ≡ role.Individual
class_object g t w h =
    ap (role_of g) (same_term t.object (Iri (word_iri w)) (and_parts (bytes_eq t.predicate type_iri) (is_same t.object (Iri (word_iri w))) h).1)

typed_site : (g : List Triple) (t : Triple) → is_typed (site_of t) ≡ true → role_of g t.object ≡ role.Individual
unfolding site_of
typed_site g t e =
    typed_by g t (bytes_eq t.predicate type_iri) (filter (λ w. says_type (word_iri w) t) axiom_types) _
    (λ w m. class_object g t w (from_filter (λ v. says_type (word_iri v) t) axiom_types w m).passes) e

-- the parts of a row at which the ends of a triple stand; the object may be a class that says which axiom it is
pub record HasEnds (g : List Triple) (t : Triple) (row : Row) : Type 0 where
  pub subject : Passing (wants_tree Subject) row.parts
  pub object : (role_of g t.object ≡ role.Individual) ⊎ Passing (wants_tree Object) row.parts

pub ends_of : (g : List Triple) (t : Triple) (row : Row) → Contains axiom_rows row → Fits g (of_triple t) row → HasEnds g t row
ends_of g t row m f =
    let other : is_of_node row.site ≡ false = ap is_of_node f ∙ no_node t in
    elim (or_cases (is_of_node row.site) _ (passes has_ends axiom_rows row rows_have_ends m)) [
      | inl n ↦ absurd (both_ways _ other n)
      | inr e ↦
          let both = and_parts (list_any (wants_tree Subject) row.parts) (is_typed row.site || list_any (wants_tree Object) row.parts) e in
          record {
            subject = some_passes (wants_tree Subject) row.parts both.0;
            object =
                elim (or_cases (is_typed row.site) (list_any (wants_tree Object) row.parts) both.1) [
                  | inl c ↦ inl (typed_site g t (sym (ap is_typed f) ∙ c))
                  | inr o ↦ inr (some_passes (wants_tree Object) row.parts o)
                ];
          }
    ]

end_sound : (g : List Triple) (t : Triple) (place : Place) (x : Term) (ps : List Part) → select g (of_triple t) place ≡ x ∷ [] → AllByRecursion (IsStanding g (of_triple t)) ps → Passing (wants_tree place) ps → IsSoundBelow g x
end_sound g t place x ps one standing p =
    let tests = and_parts (is_place p.element.place place) (not (is_mark p.element.want)) p.passes in
    let s = all_in (IsStanding g (of_triple t)) ps p.element standing p.inside in
    let same = same_only s.z x (sym s.one ∙ ap (select g (of_triple t)) (same_place p.element.place place tests.0) ∙ one) in
    subst (IsSoundBelow g) same (s.below (not-true _ tests.1))

pub ends_sound : (g : List Triple) (k : List Entity) (t : Triple) (a : Tag) (ts : List Tree) → IsAxiomWith g k (of_triple t) a ts → HasSoundEnds g t
ends_sound g k t a ts is =
    let standing = parts_sound g k (of_triple t) is.row.parts ts is.parts in
    let ends = ends_of g t is.row is.among is.fits in
    record {
      subject = end_sound g t Subject t.subject is.row.parts refl standing ends.subject;
      object =
          elim ends.object [
            | inl e ↦ individual_sound g t.object e
            | inr o ↦ end_sound g t Object t.object is.row.parts refl standing o
          ];
    }
