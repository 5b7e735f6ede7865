-- The graph that states an ontology in `WorkedCases` is whole, so that it says it.
use lib.Utf8.{encode}
use Rattle.std.specs.Prelude.{◌≡◌, ◌⊎◌, ◌≤◌, ℕ, true, false, not, ◌||◌, IsTrue, List, [], ◌∷◌, Contains, length}
use Rattle.std.specs.List.{list_all}
use Rattle.std.proofs.Common.{arith, inl, inr, refl, sym, ap, ◌∙◌, subst}
use Rattle.std.proofs.lemmas.Bool.{both_ways, cases_Bool, leb-true, not-true, or_cases}
use Rattle.owl_list.proofs.AscendingLaws.{in_cases, in_none}
use Rattle.owl_kind.specs.Kinds.{annotation_properties, is_built_in}
use Rattle.rdf_graph.specs.declared.term.Term.{Term}
use Rattle.rdf_graph.specs.declared.term.Term.TheVariants.{Blank}
use Rattle.rdf_graph.specs.declared.triple.Triple.{Triple}
use Rattle.rdf_meaning.proofs.ListLaws.{passes, some_of}
use Rattle.rdf_meaning.specs.declared.role.Role.{Role}
use Rattle.rdf_meaning.specs.declared.role.Role.TheVariants as role
use Rattle.rdf_meaning.specs.Kinds.{has_kind}
use Rattle.rdf_meaning.specs.Nodes.{carries, chosen, is_facet, is_mixed, is_role, is_same, is_structural, marks_role, nodes_of, role_of, roles_of, subjects_of, words_of}
use Rattle.rdf_meaning.proofs.NodeLaws.{marked_subject, nodes_are, own_term}
use Rattle.rdf_meaning.proofs.RowLaws.{same_role}
use Rattle.rdf_meaning.specs.Words.{is_type, word_iri, word_number}
use Rattle.rdf_meaning.specs.Denotation.{axiom_predicates}
use Rattle.rdf_meaning.specs.Statements.{InSteps, one_step, one_more, IsDirectlyBelow, IsDirectlyNotedUnder, IsPartOfAxiom, IsReification, IsSoundAs, IsWhole, ReifiesSome, an_axiom, an_annotation, Says, is_annotation_triple, is_header_triple, main_triples, notes_of, reifies}
use Rattle.rdf_meaning.specs.Examples.{classes, small, stated, x, y}
use Rattle.rdf_meaning.proofs.WorkedCases.{header, inner_triple, outer_triple, small_header, small_states, subclass_triple}

-- which nodes it has

lists : nodes_of small role.List ≡ []
unfolding nodes_of roles_of marks_role carries is_type word_iri word_number is_facet encode
lists = refl

properties : nodes_of small role.Property ≡ []
unfolding nodes_of roles_of marks_role carries is_type word_iri word_number is_facet encode
properties = refl

class_nodes : nodes_of small role.Class ≡ []
unfolding nodes_of roles_of marks_role carries is_type word_iri word_number is_facet encode
class_nodes = refl

ranges : nodes_of small role.Range ≡ []
unfolding nodes_of roles_of marks_role carries is_type word_iri word_number is_facet encode
ranges = refl

facets : nodes_of small role.Facet ≡ []
unfolding nodes_of roles_of marks_role carries is_type word_iri word_number is_facet encode
facets = refl

mains : nodes_of small role.Main ≡ []
unfolding nodes_of roles_of marks_role carries is_type word_iri word_number is_facet encode
mains = refl

reifications : nodes_of small role.Note ≡ x ∷ y ∷ []
unfolding nodes_of roles_of marks_role carries is_type word_iri word_number is_facet encode
reifications = refl

none_of : (r : Role) (z : Term) → (r ≡ role.Individual → ⊥) → nodes_of small r ≡ [] → role_of small z ≡ r → ⊥
none_of r z n e h = in_none z (subst (λ zs. Contains zs z) e ((nodes_are small r z n).1 h))

listed : (z : Term) → Contains (x ∷ y ∷ []) z → (z ≡ x) ⊎ (z ≡ y)
listed z m =
    elim (in_cases x (y ∷ []) z m) [
      | inl e ↦ inl (sym e)
      | inr n ↦ elim (in_cases y [] z n) [ inl e ↦ inr (sym e) | inr l ↦ absurd (in_none z l) ]
    ]

note_is : (z : Term) → role_of small z ≡ role.Note → (z ≡ x) ⊎ (z ≡ y)
note_is z h = listed z (subst (λ zs. Contains zs z) reifications ((nodes_are small role.Note z (λ e. cc)).1 h))

-- each is one thing, and sound

none_mixed : list_all (λ z. not (is_mixed small z)) (subjects_of small) ≡ true
unfolding roles_of marks_role carries is_type word_iri word_number is_facet encode
none_mixed = refl

one_role : (label : List ℕ) → is_mixed small (Blank label) ≡ false
one_role label =
    elim (cases_Bool (is_mixed small (Blank label))) [
      | inr f ↦ f
      | inl t ↦
          let two : 2 ≤ length (roles_of small (Blank label)) = leb-true 2 (length (roles_of small (Blank label))) t in
          let some = some_of (roles_of small (Blank label)) (omega (arith, two)) in
          let among = marked_subject small (Blank label) some.0 some.1 in
          not-true _ (passes (λ z. not (is_mixed small z)) (subjects_of small) (Blank label) none_mixed among)
    ]

x_sound : IsReification small x
unfolding chosen carries is_type word_iri word_number encode
x_sound = record { one_type = refl; one_source = refl; one_property = refl; one_target = refl }

y_sound : IsReification small y
unfolding chosen carries is_type word_iri word_number encode
y_sound = record { one_type = refl; one_source = refl; one_property = refl; one_target = refl }

sound_as : (r : Role) (z : Term) → role_of small z ≡ r → IsSoundAs small r z
sound_as role.List z h = absurd (none_of role.List z (λ e. cc) lists h)
sound_as role.Property z h = absurd (none_of role.Property z (λ e. cc) properties h)
sound_as role.Class z h = absurd (none_of role.Class z (λ e. cc) class_nodes h)
sound_as role.Range z h = absurd (none_of role.Range z (λ e. cc) ranges h)
sound_as role.Facet z h = absurd (none_of role.Facet z (λ e. cc) facets h)
sound_as role.Main z h = absurd (none_of role.Main z (λ e. cc) mains h)
sound_as role.Note z h =
    elim (note_is z h) [ inl e ↦ subst (IsReification small) (sym e) x_sound | inr e ↦ subst (IsReification small) (sym e) y_sound ]
sound_as role.Header z h = tt
sound_as role.Individual z h = tt

part_of_axiom : (r : Role) (z : Term) → role_of small z ≡ r → IsPartOfAxiom r → ⊥
part_of_axiom role.List z h p = none_of role.List z (λ e. cc) lists h
part_of_axiom role.Property z h p = none_of role.Property z (λ e. cc) properties h
part_of_axiom role.Class z h p = none_of role.Class z (λ e. cc) class_nodes h
part_of_axiom role.Range z h p = none_of role.Range z (λ e. cc) ranges h
part_of_axiom role.Facet z h p = none_of role.Facet z (λ e. cc) facets h
part_of_axiom role.Main z h p = p
part_of_axiom role.Note z h p = p
part_of_axiom role.Header z h p = p
part_of_axiom role.Individual z h p = p

-- no node is below another

notes_alone : list_all (λ t. not (is_structural small t) || is_role role.Note (role_of small t.subject)) small ≡ true
unfolding is_structural words_of roles_of marks_role carries is_type word_iri word_number is_facet encode
notes_alone = refl

none_below : (z v : Term) → IsDirectlyBelow small z v → ⊥
none_below z v b =
    elim (or_cases (not (is_structural small b.triple)) (is_role role.Note (role_of small b.triple.subject))
    (passes (λ t. not (is_structural small t) || is_role role.Note (role_of small t.subject)) small b.triple notes_alone b.inside)) [
      | inl plain ↦ both_ways _ (not-true _ plain) b.structural
      | inr note ↦ b.no_note (ap (role_of small) (sym b.subject) ∙ sym (same_role role.Note (role_of small b.triple.subject) note))
    ]

no_cycle : (z v : Term) → InSteps (IsDirectlyBelow small) z v → ⊥
no_cycle _ _ (one_step z v b) = none_below z v b
no_cycle _ _ (one_more z v w b h) = none_below z v b

-- the one reification is noted under the other

x_notes : notes_of small x ≡ outer_triple ∷ []
unfolding notes_of is_structural words_of roles_of marks_role carries is_type word_iri word_number is_facet encode
x_notes = refl

y_notes : notes_of small y ≡ inner_triple ∷ []
unfolding notes_of is_structural words_of roles_of marks_role carries is_type word_iri word_number is_facet encode
y_notes = refl

x_not_outer : reifies small x outer_triple ≡ false
unfolding reifies chosen carries is_type word_iri word_number encode
x_not_outer = refl

x_not_inner : reifies small x inner_triple ≡ false
unfolding reifies chosen carries is_type word_iri word_number encode
x_not_inner = refl

y_not_inner : reifies small y inner_triple ≡ false
unfolding reifies chosen carries is_type word_iri word_number encode
y_not_inner = refl

single : (t v : Triple) (ts : List Triple) → ts ≡ v ∷ [] → Contains ts t → t ≡ v
single t v ts e m =
    elim (in_cases v [] t (subst (λ us. Contains us t) e m)) [ inl s ↦ sym s | inr n ↦ absurd (in_none t n) ]

-- what it reifies
noted_under_x : (s r : Term) → r ≡ x → IsDirectlyNotedUnder small s r → IsTrue (reifies small s outer_triple)
noted_under_x s r e n =
    subst (λ t. IsTrue (reifies small s t)) (single n.triple outer_triple (notes_of small r) (ap (notes_of small) e ∙ x_notes) n.annotation) n.reified

noted_under_y : (s r : Term) → r ≡ y → IsDirectlyNotedUnder small s r → IsTrue (reifies small s inner_triple)
noted_under_y s r e n =
    subst (λ t. IsTrue (reifies small s t)) (single n.triple inner_triple (notes_of small r) (ap (notes_of small) e ∙ y_notes) n.annotation) n.reified

record AreXAndY (s r : Term) : Type 0 where
  pub first : s ≡ y
  pub second : r ≡ x

one_noting : (s r : Term) → IsDirectlyNotedUnder small s r → AreXAndY s r
one_noting s r n =
    elim (note_is r n.under) [
      | inl e ↦
          elim (note_is s n.note) [
            | inl f ↦ absurd (both_ways (reifies small x outer_triple) x_not_outer (subst (λ z. IsTrue (reifies small z outer_triple)) f (noted_under_x s r e n)))
            | inr f ↦ record { first = f; second = e }
          ]
      | inr e ↦
          elim (note_is s n.note) [
            | inl f ↦ absurd (both_ways (reifies small x inner_triple) x_not_inner (subst (λ z. IsTrue (reifies small z inner_triple)) f (noted_under_y s r e n)))
            | inr f ↦ absurd (both_ways (reifies small y inner_triple) y_not_inner (subst (λ z. IsTrue (reifies small z inner_triple)) f (noted_under_y s r e n)))
          ]
    ]

apart : is_same x y ≡ false
unfolding encode
apart = refl

not_both : (z : Term) → z ≡ y → z ≡ x → ⊥
not_both z e f = both_ways (is_same x y) apart (subst (λ v. is_same x v ≡ true) (sym f ∙ e) (own_term x))

no_way : (s r : Term) → InSteps (IsDirectlyNotedUnder small) s r → s ≡ x → ⊥
no_way _ _ (one_step s r n) e = not_both s (one_noting s r n).first e
no_way _ _ (one_more s z r n h) e = not_both s (one_noting s z n).first e

no_cycle_of_notes : (s r : Term) → InSteps (IsDirectlyNotedUnder small) s r → s ≡ r → ⊥
no_cycle_of_notes _ _ (one_step s r n) e = let one = one_noting s r n in not_both s one.first (e ∙ one.second)
no_cycle_of_notes _ _ (one_more s z r n h) e = no_way z r h (one_noting s z n).second

-- each reifies something

x_reifies : ReifiesSome small classes header x
unfolding main_triples is_header_triple is_annotation_triple is_structural has_kind is_built_in annotation_properties axiom_predicates words_of reifies chosen roles_of marks_role carries is_type word_iri word_number is_facet encode
x_reifies = an_axiom subclass_triple (1, omega arith, refl) refl

y_reifies : ReifiesSome small classes header y
unfolding is_annotation_triple is_structural words_of reifies chosen roles_of marks_role carries is_type word_iri word_number is_facet encode
y_reifies = an_annotation outer_triple (4, omega arith, refl) refl refl

reify : (s : Term) → Contains (nodes_of small role.Note) s → ReifiesSome small classes header s
reify s m =
    elim (listed s (subst (λ zs. Contains zs s) reifications m)) [
      | inl e ↦ subst (ReifiesSome small classes header) (sym e) x_reifies
      | inr e ↦ subst (ReifiesSome small classes header) (sym e) y_reifies
    ]

small_whole : IsWhole small classes header
small_whole = record {
  one_role = one_role;
  sound = λ label. sound_as (role_of small (Blank label)) (Blank label) refl;
  no_cycle = λ z h. no_cycle z z h;
  no_cycle_of_notes = λ s h. no_cycle_of_notes s s h refl;
  reifications = reify;
  reached = λ label p. absurd (part_of_axiom (role_of small (Blank label)) (Blank label) refl p);
}

pub small_says : Says small classes stated
small_says = record { states = small_states; whole = subst (IsWhole small classes) (sym small_header) small_whole }
