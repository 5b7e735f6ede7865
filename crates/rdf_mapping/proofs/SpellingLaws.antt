-- A node whose own triples spell the parts of a row is one of the row, and holds what their objects denote.
use lib.Utf8.{encode}
use Rattle.std.proofs.Common.{◌⊎◌, ◌≡◌, ℕ, suc, Bool, true, false, cond, List, [], ◌∷◌, length, inl, inr, refl, sym, ap, ◌∙◌, subst, arith}
use Rattle.std.specs.Prelude.{Contains, map, not, ◌&&◌, ◌||◌, nat_eq, nat_le}
use Rattle.std.specs.List.{filter, list_all, list_any}
use Rattle.std.specs.Str.{bytes_eq}
use Rattle.std.proofs.lemmas.Bool.{and_parts, both_ways, cases_Bool, cond-false, cond-true, eq-eqb, eqb-true, leb-true, not-true, or_cases}
use Rattle.std.proofs.lemmas.List.{length-map}
use Rattle.std.proofs.lemmas.Slice.Eq.{bytes_eq-Decides}
use Rattle.owl_kind.specs.Kinds.{Entity}
use Rattle.owl_list.specs.Ascending.{AreApart}
use Rattle.owl_list.proofs.AscendingLaws.{in_cases, in_head, in_none, in_tail}
use Rattle.owl_tree.specs.Trees.{Tree}
use Rattle.rdf_graph.specs.declared.term.Term.TheVariants.{Iri, Blank}
use Rattle.rdf_graph.specs.declared.triple.Triple.{Triple}
use Rattle.rdf_meaning.specs.declared.role.Role.{Role}
use Rattle.rdf_meaning.specs.declared.role.Role.TheVariants as role
use Rattle.rdf_meaning.specs.declared.row.Part.{Part}
use Rattle.rdf_meaning.specs.declared.row.Place.{Place}
use Rattle.rdf_meaning.specs.declared.row.Place.TheVariants.{At, Subject, Predicate, Object}
use Rattle.rdf_meaning.specs.declared.row.Site.{Site}
use Rattle.rdf_meaning.specs.declared.row.Site.TheVariants.{Node, TypedBy, OtherType, LinkedBy, OtherLink}
use Rattle.rdf_meaning.specs.declared.row.Want.{Want}
use Rattle.rdf_meaning.specs.declared.word.Word.{Word}
use Rattle.rdf_meaning.specs.declared.word.Word.TheVariants as word
use Rattle.rdf_meaning.specs.Denotation.{Fits, Holds, of_node, select, stands_at, times}
use Rattle.rdf_meaning.specs.Denotation as denotation
use Rattle.owl_list.proofs.FilterLaws.{in_filter}
use Rattle.rdf_meaning.proofs.ListLaws.{passes}
use Rattle.rdf_meaning.proofs.NodeLaws.{one_word}
use Rattle.rdf_meaning.specs.Nodes.{carries, chosen, first_role, is_facet, is_same, is_word, marked_roles, marks_role, role_of, says_type, type_iri, words_of}
use Rattle.rdf_meaning.proofs.RowLaws.{same_role}
use Rattle.rdf_meaning.specs.RowTests.{is_site}
use Rattle.rdf_meaning.specs.Rows.{Row, axiom_rows, node_rows}
use Rattle.rdf_meaning.specs.Words.{is_type, word_iri, word_number}
use Rattle.rdf_meaning.proofs.WordLaws.{same_word}
use Rattle.rdf_mapping.specs.Drawing.{arc_iri}
use Rattle.rdf_mapping.specs.Frames.{IsOfNode, IsOwn, is_node_word}
use Rattle.rdf_mapping.specs.OwnLaws.{chosen_own, role_own}
use Rattle.rdf_mapping.specs.Spelling.{CarriesAt, DenoteParts, SpellParts, is_at_node, is_written_well, marks_at, marks_word, no_parts, one_part, role_by, stands_once}

-- A triple that carries a word carries no other.

own_word : (w : Word) → is_word w w ≡ true
own_word w = eq-eqb (word_number w) (word_number w) refl

pub carried : (v w : Word) (t : Triple) → carries w t ≡ true → carries v t ≡ is_word v w
carried v w t h =
    elim (cases_Bool (is_word v w)) [
      | inl a ↦ subst (λ u. carries u t ≡ true) (sym (same_word v w a)) h ∙ sym a
      | inr a ↦
          elim (cases_Bool (carries v t)) [
            | inl b ↦ absurd (both_ways (is_word v w) a (subst (λ u. is_word v u ≡ true) (one_word v w t b h) (own_word v)))
            | inr b ↦ b ∙ sym a
          ]
    ]

pub predicate_of : (w : Word) (t : Triple) → carries w t ≡ true → t.predicate ≡ arc_iri w
unfolding carries
predicate_of w t h =
    elim (cases_Bool (is_type w)) [
      | inl a ↦
          (bytes_eq-Decides t.predicate type_iri).0 (and_parts (bytes_eq t.predicate type_iri) (is_same t.object (Iri (word_iri w))) (sym (cond-true (is_type w) (says_type (word_iri w) t) _ a) ∙ h)).0
          ∙ sym (cond-true (is_type w) type_iri (word_iri w) a)
      | inr a ↦
          (bytes_eq-Decides t.predicate (word_iri w)).0 (and_parts (bytes_eq t.predicate (word_iri w)) _ (sym (cond-false (is_type w) (says_type (word_iri w) t) _ a) ∙ h)).0
          ∙ sym (cond-false (is_type w) type_iri (word_iri w) a)
    ]

pub predicate_cases : (w : Word) (t : Triple) → carries w t ≡ true → (t.predicate ≡ type_iri) ⊎ (t.predicate ≡ word_iri w)
predicate_cases w t h =
    elim (cases_Bool (is_type w)) [
      | inl y ↦ inl (predicate_of w t h ∙ cond-true (is_type w) type_iri (word_iri w) y)
      | inr n ↦ inr (predicate_of w t h ∙ cond-false (is_type w) type_iri (word_iri w) n)
    ]

pub no_facet : (w : Word) → is_facet (arc_iri w) ≡ false
unfolding is_facet is_type word_iri encode
no_facet word.Class = refl
no_facet _ = refl

marked_word : (r : Role) (w : Word) (t : Triple) → carries w t ≡ true → marks_role r t ≡ marks_word r w
unfolding marks_role
marked_word role.List w t h = λ i. carried word.First w t h i || (carried word.Rest w t h i || false)
marked_word role.Property w t h = carried word.InverseOf w t h
marked_word role.Class w t h = λ i. carried word.Class w t h i || (carried word.Restriction w t h i || false)
marked_word role.Range w t h = carried word.Datatype w t h
marked_word role.Facet w t h = ap is_facet (predicate_of w t h) ∙ no_facet w
marked_word role.Main w t h =
    λ i.
    carried word.AllDisjointClasses w t h i
    || (carried word.AllDisjointProperties w t h i || (carried word.AllDifferent w t h i || (carried word.NegativePropertyAssertion w t h i || false)))
marked_word role.Note w t h = λ i. carried word.Axiom w t h i || (carried word.Annotation w t h i || false)
marked_word role.Header w t h = carried word.Ontology w t h
marked_word role.Individual w t h = refl

marked_at : (r : Role) (t : Triple) (p : Place) → CarriesAt p t → marks_role r t ≡ marks_at r p
marked_at r t (At w) c = marked_word r w t c
marked_at r t Subject c = absurd c
marked_at r t Predicate c = absurd c
marked_at r t Object c = absurd c

carried_at : (w : Word) (t : Triple) (p : Place) (want : Want) → CarriesAt p t → carries w t ≡ stands_at w (record { place = p; want = want })
carried_at w t (At v) want c = carried w v t c
carried_at w t Subject want c = absurd c
carried_at w t Predicate want c = absurd c
carried_at w t Object want c = absurd c

any_spelled : (r : Role) (ts : List Triple) (ps : List Part) → SpellParts ts ps → list_any (marks_role r) ts ≡ list_any (λ p. marks_at r p.place) ps
any_spelled r [] [] s = refl
any_spelled r [] (p ∷ ps) s = absurd s
any_spelled r (t ∷ ts) [] s = absurd s
any_spelled r (t ∷ ts) (p ∷ ps) s = λ i. marked_at r t p.place s.0 i || any_spelled r ts ps s.1 i

both_counted : {X Y : Type 0} (b c : Bool) (x : X) (y : Y) (xs : List X) (ys : List Y) → b ≡ c → length xs ≡ length ys → length (cond b (x ∷ xs) xs) ≡ length (cond c (y ∷ ys) ys)
both_counted true true x y xs ys e h = ap suc h
both_counted false false x y xs ys e h = h
both_counted true false x y xs ys e h = absurd (both_ways true e refl)
both_counted false true x y xs ys e h = absurd (both_ways false refl e)

-- a word stands as often among the triples as among the parts
pub count_spelled : (w : Word) (ts : List Triple) (ps : List Part) → SpellParts ts ps → length (filter (carries w) ts) ≡ times w ps
count_spelled w [] [] s = refl
count_spelled w [] (p ∷ ps) s = absurd s
count_spelled w (t ∷ ts) [] s = absurd s
count_spelled w (t ∷ ts) (p ∷ ps) s =
    both_counted (carries w t) (stands_at w p) t p (filter (carries w) ts) (filter (stands_at w) ps) (carried_at w t p.place p.want s.0) (count_spelled w ts ps s.1)

the_only : {X : Type 0} (xs : List X) (x : X) → length xs ≡ 1 → Contains xs x → xs ≡ x ∷ []
the_only [] x h m = absurd (omega (arith, h))
the_only (y ∷ []) x h m = elim (in_cases y [] x m) [ inl e ↦ ap (λ z. z ∷ []) e | inr o ↦ absurd (in_none x o) ]
the_only (y ∷ z ∷ ys) x h m = absurd (omega (arith, h))

same_map : {X Y : Type 0} (test : X → Bool) (f h : X → Y) (xs : List X) → list_all test xs ≡ true → ((x : X) → test x ≡ true → f x ≡ h x) → map f xs ≡ map h xs
same_map test f h [] all e = refl
same_map test f h (x ∷ xs) all e =
    let parts = and_parts (test x) (list_all test xs) all in
    λ i. e x parts.0 i ∷ same_map test f h xs parts.1 e i

same_node_site : (s : Site) (r : Role) → is_site s (Node r) ≡ true → s ≡ Node r
same_node_site (Node a) r h = ap Node (same_role a r h)
same_node_site (TypedBy w) r h = absurd (both_ways false refl h)
same_node_site OtherType r h = absurd (both_ways false refl h)
same_node_site (LinkedBy w) r h = absurd (both_ways false refl h)
same_node_site OtherLink r h = absurd (both_ways false refl h)

-- What a node that spells the parts of a row chooses, and is.

module _ (g : List Triple) (k : List Entity) (label : List ℕ) (own : List Triple) (row : Row) (apart : AreApart g) (is : IsOwn IsOfNode g (Blank label) own) (spells : SpellParts own row.parts) where
  pub select_one : (p : Place) (t : Triple) → CarriesAt p t → Contains own t → stands_once row.parts p ≡ true → select g (of_node (Blank label)) p ≡ t.object ∷ []
  select_one (At w) t c m once =
      let parts = and_parts (is_node_word w) (nat_eq (times w row.parts) 1) once in
      let one : length (filter (carries w) own) ≡ 1 = count_spelled w own row.parts spells ∙ eqb-true (times w row.parts) 1 parts.1 in
      chosen_own g (Blank label) own is apart w parts.0 (omega (arith, one))
      ∙ ap (map (λ (u : Triple). u.object)) (the_only (filter (carries w) own) t one (in_filter (carries w) own t m c))
  select_one Subject t c m once = absurd c
  select_one Predicate t c m once = absurd c
  select_one Object t c m once = absurd c

  holds_from : (ts : List Triple) (ps : List Part) (us : List Tree) → DenoteParts g k ts ps us → SpellParts ts ps → ((t : Triple) → Contains ts t → Contains own t) → list_all (λ p. stands_once row.parts p.place) ps ≡ true → Holds g k (of_node (Blank label)) ps us
  holds_from _ _ _ no_parts s m once = denotation.no_parts (of_node (Blank label))
  holds_from _ _ _ (one_part t ts p ps vs ws d more) s m once =
      let parts = and_parts (stands_once row.parts p.place) (list_all (λ q. stands_once row.parts q.place) ps) once in
      denotation.part (of_node (Blank label)) p ps t.object vs ws (select_one p.place t s.0 (m t (in_head t ts)) parts.0) d
      (holds_from ts ps ws more s.1 (λ u n. m u (in_tail t ts u n)) parts.1)

  pub role_is : role_of g (Blank label) ≡ role_by row.parts
  role_is =
      role_own g label own is
      ∙ ap (λ (f : Role → Bool). first_role (filter f marked_roles)) (λ i. λ r. any_spelled r own row.parts spells i)

  count_one : (w : Word) → (is_node_word w && nat_le (times w row.parts) 1) ≡ true → length (chosen g (Blank label) w) ≡ times w row.parts
  count_one w h =
      let parts = and_parts (is_node_word w) (nat_le (times w row.parts) 1) h in
      let same = count_spelled w own row.parts spells in
      ap length (chosen_own g (Blank label) own is apart w parts.0 (omega (arith, same, leb-true (times w row.parts) 1 parts.1)))
      ∙ length-map (filter (carries w) own) (λ (u : Triple). u.object) ∙ same

  fits : is_written_well row ≡ true → Fits g (of_node (Blank label)) row
  fits h =
      let site = and_parts (is_site row.site (Node (role_by row.parts))) _ h in
      let rest = and_parts (list_all (λ p. stands_once row.parts p.place) row.parts) (list_all (λ w. is_node_word w && nat_le (times w row.parts) 1) (words_of (role_by row.parts))) site.1 in (
        same_node_site row.site (role_by row.parts) site.0 ∙ ap Node (sym role_is),
        subst (λ r. map (λ w. length (chosen g (Blank label) w)) (words_of r) ≡ map (λ w. times w row.parts) (words_of r)) (sym role_is)
            (same_map (λ w. is_node_word w && nat_le (times w row.parts) 1) (λ w. length (chosen g (Blank label) w)) (λ w. times w row.parts) (words_of (role_by row.parts)) rest.1 count_one),
      )

  holds : is_written_well row ≡ true → (us : List Tree) → DenoteParts g k own row.parts us → Holds g k (of_node (Blank label)) row.parts us
  holds h us d =
      let site = and_parts (is_site row.site (Node (role_by row.parts))) _ h in
      let rest = and_parts (list_all (λ p. stands_once row.parts p.place) row.parts) (list_all (λ w. is_node_word w && nat_le (times w row.parts) 1) (words_of (role_by row.parts))) site.1 in
      holds_from own row.parts us d spells (λ t m. m) rest.0

-- The rows are written so.

expressions_written_well : list_all is_written_well node_rows ≡ true
unfolding node_rows words_of word_number is_node_word
expressions_written_well = refl

axioms_written_well : list_all (λ row. not (is_at_node row.site) || is_written_well row) axiom_rows ≡ true
unfolding axiom_rows words_of word_number is_node_word
axioms_written_well = refl

pub node_row_written_well : (row : Row) → Contains node_rows row → is_written_well row ≡ true
node_row_written_well row = passes is_written_well node_rows row expressions_written_well

pub axiom_row_written_well : (row : Row) → Contains axiom_rows row → is_at_node row.site ≡ true → is_written_well row ≡ true
axiom_row_written_well row m n =
    elim (or_cases (not (is_at_node row.site)) (is_written_well row) (passes (λ r. not (is_at_node r.site) || is_written_well r) axiom_rows row axioms_written_well m)) [
      | inl a ↦ absurd (both_ways (is_at_node row.site) (not-true (is_at_node row.site) a) n)
      | inr b ↦ b
    ]

pub spelled_fits : (g : List Triple) (label : List ℕ) (own : List Triple) (row : Row) → AreApart g → IsOwn IsOfNode g (Blank label) own → SpellParts own row.parts → is_written_well row ≡ true → Fits g (of_node (Blank label)) row
spelled_fits g label own row apart is spells h = fits g [] label own row apart is spells h

pub spelled_holds : (g : List Triple) (k : List Entity) (label : List ℕ) (own : List Triple) (row : Row) (us : List Tree) → AreApart g → IsOwn IsOfNode g (Blank label) own → SpellParts own row.parts → DenoteParts g k own row.parts us → is_written_well row ≡ true → Holds g k (of_node (Blank label)) row.parts us
spelled_holds g k label own row us apart is spells d h = holds g k label own row apart is spells h us d
