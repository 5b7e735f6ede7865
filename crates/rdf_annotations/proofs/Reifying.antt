-- Which triple a reification reifies, and whether it has annotations.
use Rattle.std.specs.Prelude.{◌≡◌, ◌↔◌, cond, ◌&&◌, ◌||◌, ℕ, Bool, true, false, not, IsTrue, List, [], ◌∷◌, Option, None, Some, length, slice_get}
use Rattle.std.specs.List.{filter, list_any}
use Rattle.std.proofs.Common.{arith, refl, sym, ap, ◌∙◌, subst}
use Rattle.std.proofs.lemmas.Bool.{and_from, and_parts}
use Rattle.std.proofs.lemmas.Option.{get_or_from_slice_get, slice_get_within}
use Rattle.owl_list.proofs.AscendingLaws.{all_in}
use Rattle.rdf_faults.specs.Faults.{IsBadNode}
use Rattle.rdf_faults.proofs.DecidedFormLaws.{decided_formed}
use Rattle.rdf_faults.specs.DecidedLaws.{stable}
use Rattle.rdf_faults.specs.Formed.{IsFormedAs}
use Rattle.rdf_graph.specs.declared.term.Term.{Term}
use Rattle.rdf_graph.specs.declared.term.Term.TheVariants.{Iri, Blank}
use Rattle.rdf_graph.specs.declared.triple.Triple.{Triple}
use Rattle.rdf_meaning.specs.declared.role.Role.{Role}
use Rattle.rdf_meaning.specs.declared.role.Role.TheVariants as role
use Rattle.rdf_meaning.specs.declared.word.Word.TheVariants as word
use Rattle.rdf_meaning.specs.Nodes.{chosen, is_own, is_role, is_same, is_structural, of_subject, role_of}
use Rattle.rdf_meaning.proofs.NodeLaws.{from_subject, own_term, same_iri_term, same_term}
use Rattle.rdf_meaning.proofs.RowLaws.{own_role, same_role}
use Rattle.rdf_meaning.specs.Statements.{IsReification, notes_of, reifies}
use Rattle.rdf_rows.specs.Chosen.{IsReificationOf, objects_with, the_only}
use Rattle.rdf_rows.proofs.NodeTripleLaws.{only_is, reification_is}
use Rattle.rdf_roles.specs.Refusals.{AreNodesFormed, HaveForms}
use Rattle.rdf_roles.specs.Tables.{blank_nodes}
use Rattle.rdf_roles.specs.Ways.{reifies_with}
use Rattle.rdf_annotations.proofs.AnnotationLaws.{same_filter}
use Rattle.rdf_annotations.specs.Noters.{AnnotatesAt, IsPlaceNoted, IsPlaceOf, IsPlaceReified, has_annotation, is_noter}

abbrev has_some : List Triple → Bool
has_some [] = false
has_some (t ∷ ts) = true

some_kept : (b : Bool) (x : Triple) (xs : List Triple) → has_some (cond b (x ∷ xs) xs) ≡ b || has_some xs
some_kept true x xs = refl
some_kept false x xs = refl

some_passes : (p : Triple → Bool) (xs : List Triple) → has_some (filter p xs) ≡ list_any p xs
some_passes p [] = refl
some_passes p (x ∷ xs) = some_kept (p x) x (filter p xs) ∙ ap (λ b. p x || b) (some_passes p xs)

own_is : (g : List Triple) (t : Triple) (r : Term) → t.subject ≡ r → role_of g r ≡ role.Note → is_structural g t ≡ is_own role.Note t
unfolding is_structural
own_is g t r e f = ap (λ q. is_own q t) (ap (role_of g) e ∙ f)

annotated_is : (g note : List Triple) (s : Term) → note ≡ of_subject g s → role_of g s ≡ role.Note → has_some (notes_of g s) ≡ has_annotation note
unfolding notes_of
annotated_is g note s about is_note =
    ap has_some (same_filter (λ t. not (is_structural g t)) (λ t. not (is_own role.Note t)) (of_subject g s)
    (λ t m. ap not (own_is g t s (from_subject g s t m).1 is_note)))
    ∙ some_passes (λ t. not (is_own role.Note t)) (of_subject g s)
    ∙ ap has_annotation (sym about)

reifies_is : (g note : List Triple) (s : Term) (t : Triple) → note ≡ of_subject g s → reifies g s t ≡ reifies_with note t
unfolding reifies chosen
reifies_is g note s t about = ap (λ ts. reifies_with ts t) (sym about)

noter_by : (a b c d e : Bool) → a ≡ true → b ≡ d → c ≡ e → a && (b && c) ≡ d && e
noter_by true b c d e h f k = λ i. f i && k i
noter_by false b c d e h f k = cc

noter_is : (g note : List Triple) (s : Term) (t : Triple) → note ≡ of_subject g s → role_of g s ≡ role.Note → is_noter g t s ≡ reifies_with note t && has_annotation note
noter_is g note s t about is_note =
    noter_by (is_role role.Note (role_of g s)) (reifies g s t) _ (reifies_with note t) (has_annotation note) (ap (is_role role.Note) is_note ∙ own_role role.Note)
    (reifies_is g note s t about) (annotated_is g note s about is_note)

no_noter : (g : List Triple) (s : Term) (t : Triple) → (role_of g s ≡ role.Note → ⊥) → is_noter g t s ≡ true → ⊥
no_noter g s t n h = n (sym (same_role role.Note (role_of g s) (and_parts (is_role role.Note (role_of g s)) _ h).0))

module _ (g : List Triple) (number : ℕ) (label : List ℕ) (at : slice_get (blank_nodes g) number ≡ Some label) where
  -- a node that is no reification annotates nothing
  pub other_node : (role_of g (Blank label) ≡ role.Note → ⊥) → AnnotatesAt g number None
  other_node n = record { label = label; at = at; annotates = λ place t here. (λ h. absurd (no_noter g (Blank label) t n h), λ e. cc) }

  module _ (note : List Triple) (about : note ≡ of_subject g (Blank label)) (is_note : role_of g (Blank label) ≡ role.Note) where
    pub noted_node : (found : Option ℕ) → IsPlaceNoted g note found → AnnotatesAt g number found
    noted_node found place_is = record {
      label = label;
      at = at;
      annotates = λ place t here.
          let same = noter_is g note (Blank label) t about is_note in
          (λ h. (place_is place t here).0 (sym same ∙ h), λ e. same ∙ (place_is place t here).1 e);
    }

    formed_forms : HaveForms g → IsReificationOf note
    formed_forms forms =
        let inside = slice_get_within (blank_nodes g) number label at in
        let bad : IsBadNode g label → ⊥ =
        all_in (λ l. IsBadNode g l → ⊥) (blank_nodes g) label forms (number, inside, get_or_from_slice_get (blank_nodes g) number label label at) in
        let formed : IsReification g (Blank label) = stable (decided_formed g role.Note (Blank label)) (λ n.
        bad (record { no_cell = λ e. let f = is_note in cc; not_formed = λ f. n (subst (λ (r : Role). IsFormedAs g r (Blank label)) is_note f) })) in
        subst IsReificationOf (sym about) ((reification_is g (Blank label)).0 formed)

    pub is_formed : AreNodesFormed g → IsReificationOf note
    is_formed formed = formed_forms formed.forms

-- a reification annotates nothing where it has no annotations
pub bare_place : (g note : List Triple) → has_annotation note ≡ false → IsPlaceNoted g note None
bare_place g note none = λ place t at. (λ h. let both = and_parts (reifies_with note t) (has_annotation note) h in cc (both.1, none), λ e. cc)

pub noted_place : (g note : List Triple) (found : Option ℕ) → has_annotation note ≡ true → IsPlaceReified g note found → IsPlaceNoted g note found
noted_place g note found some is = λ place t at. (
  λ h. (is place t at).0 (and_parts (reifies_with note t) (has_annotation note) h).0,
  λ e. and_from (reifies_with note t) (has_annotation note) ((is place t at).1 e) some,
)

no_only : (xs : List Term) → length xs ≡ 1 → the_only xs ≡ None → ⊥
no_only [] e f = absurd (omega arith)
no_only (x ∷ []) e f = cc
no_only (x ∷ y ∷ xs) e f = absurd (omega arith)

-- what is named once
any_one : (x y : Term) (ys : List Term) → ys ≡ y ∷ [] → list_any (is_same x) ys ≡ is_same x y
any_one x y ys e = ap (list_any (is_same x)) e ∙ or_none (is_same x y)
  where
    or_none : (b : Bool) → b || false ≡ b
    or_none true = refl
    or_none false = refl

-- what a reification names, by its triples
pub record Names (note : List Triple) (wanted : Triple) : Type 0 where
  pub source : objects_with word.AnnotatedSource note ≡ wanted.subject ∷ []
  pub property : objects_with word.AnnotatedProperty note ≡ Iri wanted.predicate ∷ []
  pub target : objects_with word.AnnotatedTarget note ≡ wanted.object ∷ []

reified_is : (note : List Triple) (wanted t : Triple) → Names note wanted → IsTrue (reifies_with note t) ↔ (t ≡ wanted)
reified_is note wanted t n =
    let source = any_one t.subject wanted.subject (objects_with word.AnnotatedSource note) n.source in
    let property = any_one (Iri t.predicate) (Iri wanted.predicate) (objects_with word.AnnotatedProperty note) n.property in
    let target = any_one t.object wanted.object (objects_with word.AnnotatedTarget note) n.target in
    let a = list_any (is_same t.subject) (objects_with word.AnnotatedSource note) in
    let b = list_any (is_same (Iri t.predicate)) (objects_with word.AnnotatedProperty note) in
    let c = list_any (is_same t.object) (objects_with word.AnnotatedTarget note) in (
      λ h.
          let most = and_parts (a && b) c h in
          let first = and_parts a b most.0 in
          let s = same_term t.subject wanted.subject (sym source ∙ first.0) in
          let p = same_iri_term t.predicate wanted.predicate (same_term (Iri t.predicate) (Iri wanted.predicate) (sym property ∙ first.1)) in
          let o = same_term t.object wanted.object (sym target ∙ most.1) in
          λ i. record { subject = s i; predicate = p i; object = o i },
      λ e.
          and_from (a && b) c
          (and_from a b (source ∙ ap (λ (u : Triple). is_same u.subject wanted.subject) e ∙ own_term wanted.subject)
          (property ∙ ap (λ (u : Triple). is_same (Iri u.predicate) (Iri wanted.predicate)) e ∙ own_term (Iri wanted.predicate)))
          (target ∙ ap (λ (u : Triple). is_same u.object wanted.object) e ∙ own_term wanted.object),
    )

pub reified_at : (g note : List Triple) (wanted : Triple) (found : Option ℕ) → Names note wanted → IsPlaceOf g wanted found → IsPlaceReified g note found
reified_at g note wanted found n h = λ place t at.
    let is = reified_is note wanted t n in (λ r. (h place t at).0 (is.0 r), λ e. is.1 ((h place t at).1 e))

pub names_by : (note : List Triple) (s o : Term) (p : List ℕ) → the_only (objects_with word.AnnotatedSource note) ≡ Some s →
    the_only (objects_with word.AnnotatedProperty note) ≡ Some (Iri p) → the_only (objects_with word.AnnotatedTarget note) ≡ Some o →
    Names note (record { subject = s; predicate = p; object = o })
names_by note s o p a b c = record {
  source = (only_is (objects_with word.AnnotatedSource note) s).0 a;
  property = (only_is (objects_with word.AnnotatedProperty note) (Iri p)).0 b;
  target = (only_is (objects_with word.AnnotatedTarget note) o).0 c;
}

-- a property that is no IRI is that of no triple
pub no_property : (g note : List Triple) (y : Term) → the_only (objects_with word.AnnotatedProperty note) ≡ Some y → ((iri : List ℕ) → y ≡ Iri iri → ⊥) → IsPlaceReified g note None
no_property g note y e no_iri = λ place t at. (
  λ h.
      let a = list_any (is_same t.subject) (objects_with word.AnnotatedSource note) in
      let b = list_any (is_same (Iri t.predicate)) (objects_with word.AnnotatedProperty note) in
      let c = list_any (is_same t.object) (objects_with word.AnnotatedTarget note) in
      let named = (and_parts a b (and_parts (a && b) c h).0).1 in
      let one = any_one (Iri t.predicate) y (objects_with word.AnnotatedProperty note) ((only_is (objects_with word.AnnotatedProperty note) y).0 e) in
      absurd (no_iri t.predicate (sym (same_term (Iri t.predicate) y (sym one ∙ named)))),
  λ f. cc,
)

-- and one of each is named
pub none_named : (g note : List Triple) (xs : List Term) → length xs ≡ 1 → the_only xs ≡ None → IsPlaceReified g note None
none_named g note xs e none = absurd (no_only xs e none)
