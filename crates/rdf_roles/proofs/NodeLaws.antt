-- The laws of the blank nodes of a graph.
use Rattle.std.specs.Prelude.{◌≡◌, ◌↔◌, ℕ, List, [], ◌∷◌, Contains, length, map, None, Some}
use Rattle.std.specs.Option.{unwrap_or}
use Rattle.std.specs.Map.{keys_of, lookup}
use Rattle.std.proofs.Common.{inl, inr, refl, sym, ap, ◌∙◌, subst}
use Rattle.std.proofs.lemmas.Bool.{both_ways, cases_Bool, cond-false, cond-true}
use Rattle.std.proofs.lemmas.List.{length-map}
use Rattle.std.proofs.lemmas.Slice.Eq.{bytes_eq-Decides}
use Rattle.owl_characters.specs.Order.{text_eq}
use Rattle.owl_list.proofs.AscendingLaws.{in_cases, in_head, in_none, in_tail}
use Rattle.rdf_graph.specs.declared.term.Term.{Term}
use Rattle.rdf_graph.specs.declared.term.Term.TheVariants.{Iri, Blank, Literal}
use Rattle.rdf_graph.specs.declared.triple.Triple.{Triple}
use Rattle.rdf_meaning.specs.declared.role.Role.{Role}
use Rattle.rdf_meaning.specs.declared.role.Role.TheVariants as role
use Rattle.rdf_meaning.specs.Nodes.{first_role, role_of, roles_of, subjects_of}
use Rattle.rdf_meaning.proofs.NodeLaws.{marked_subject}
use Rattle.rdf_roles.specs.Tables.{HasNumber, blank_nodes, labels_in, table_of, with_role}

pub same_label : (a b : List ℕ) → Blank a ≡ Blank b → a ≡ b
same_label a b e = cc

pub in_labels : (xs : List Term) (label : List ℕ) → Contains xs (Blank label) → Contains (labels_in xs) label
in_labels [] label m = absurd (in_none (Blank label) m)
in_labels (Iri iri ∷ xs) label m = elim (in_cases (Iri iri) xs (Blank label) m) [ inl e ↦ cc | inr k ↦ in_labels xs label k ]
in_labels (Blank other ∷ xs) label m =
    elim (in_cases (Blank other) xs (Blank label) m) [
      | inl e ↦ subst (λ l. Contains (other ∷ labels_in xs) l) (same_label other label e) (in_head other (labels_in xs))
      | inr k ↦ in_tail other (labels_in xs) label (in_labels xs label k)
    ]
in_labels (Literal literal ∷ xs) label m = elim (in_cases (Literal literal) xs (Blank label) m) [ inl e ↦ cc | inr k ↦ in_labels xs label k ]

pub from_labels : (xs : List Term) (label : List ℕ) → Contains (labels_in xs) label → Contains xs (Blank label)
from_labels [] label m = absurd (in_none label m)
from_labels (Iri iri ∷ xs) label m = in_tail (Iri iri) xs (Blank label) (from_labels xs label m)
from_labels (Blank other ∷ xs) label m =
    elim (in_cases other (labels_in xs) label m) [
      | inl e ↦ subst (λ x. Contains (Blank other ∷ xs) x) (ap Blank e) (in_head (Blank other) xs)
      | inr k ↦ in_tail (Blank other) xs (Blank label) (from_labels xs label k)
    ]
from_labels (Literal literal ∷ xs) label m = in_tail (Literal literal) xs (Blank label) (from_labels xs label m)

-- the blank nodes are the labels of the blank subjects
pub blank_nodes_are : (g : List Triple) (label : List ℕ) → Contains (blank_nodes g) label ↔ Contains (subjects_of g) (Blank label)
unfolding blank_nodes
blank_nodes_are g label = (from_labels (subjects_of g) label, in_labels (subjects_of g) label)

-- a node that is not among them has no role
individual : (g : List Triple) (label : List ℕ) → (Contains (blank_nodes g) label → ⊥) → (rs : List Role) → roles_of g (Blank label) ≡ rs → first_role rs ≡ role.Individual
individual g label none [] e = refl
individual g label none (r ∷ rs) e =
    absurd (none ((blank_nodes_are g label).1 (marked_subject g (Blank label) r (subst (λ (all : List Role). Contains all r) (sym e) (in_head r rs)))))

pub no_role_of_others : (g : List Triple) (label : List ℕ) → (Contains (blank_nodes g) label → ⊥) → role_of g (Blank label) ≡ role.Individual
no_role_of_others g label none = individual g label none (roles_of g (Blank label)) refl

-- the labels of a table

keys_with_role : (g : List Triple) (all : List (List ℕ)) → keys_of (map (with_role g) all) ≡ all
keys_with_role g [] = refl
keys_with_role g (label ∷ all) = ap (λ more. label ∷ more) (keys_with_role g all)

pub keys_are : (g : List Triple) (entries : List (List ℕ × Role)) → entries ≡ map (with_role g) (blank_nodes g) → keys_of entries ≡ blank_nodes g
keys_are g entries is = ap keys_of is ∙ keys_with_role g (blank_nodes g)

-- a node with a role has a number
pub has_number : (g : List Triple) (entries : List (List ℕ × Role)) → entries ≡ map (with_role g) (blank_nodes g) → (label : List ℕ) → (role_of g (Blank label) ≡ role.Individual → ⊥)
    → HasNumber entries label None → ⊥
has_number g entries is label has_role none =
    has_role (no_role_of_others g label (λ m. none (subst (λ (ls : List (List ℕ)). Contains ls label) (sym (keys_are g entries is)) m)))

-- what the table tells of a label is its role

looked_up : (g : List Triple) (label : List ℕ) (all : List (List ℕ)) → ((Contains all label → ⊥) → role_of g (Blank label) ≡ role.Individual)
    → unwrap_or (lookup (text_eq label) (map (with_role g) all)) role.Individual ≡ role_of g (Blank label)
looked_up g label [] other = sym (other (in_none label))
looked_up g label (l ∷ all) other =
    elim (cases_Bool (text_eq label l)) [
      | inl h ↦
          ap (λ found. unwrap_or found role.Individual) (cond-true (text_eq label l) (Some (role_of g (Blank l))) (lookup (text_eq label) (map (with_role g) all)) h)
          ∙ ap (λ (k : List ℕ). role_of g (Blank k)) (sym ((bytes_eq-Decides label l).0 h))
      | inr h ↦
          ap (λ found. unwrap_or found role.Individual) (cond-false (text_eq label l) (Some (role_of g (Blank l))) (lookup (text_eq label) (map (with_role g) all)) h)
          ∙ looked_up g label all (λ none. other (λ m. elim (in_cases l all label m) [
            | inl e ↦ absurd (both_ways (text_eq label l) h ((bytes_eq-Decides label l).1 (sym e)))
            | inr k ↦ none k
          ]))
    ]

pub table_tells : (g : List Triple) (label : List ℕ) (entries : List (List ℕ × Role)) → entries ≡ map (with_role g) (blank_nodes g)
    → unwrap_or (lookup (text_eq label) entries) role.Individual ≡ role_of g (Blank label)
table_tells g label entries is =
    ap (λ es. unwrap_or (lookup (text_eq label) es) role.Individual) is ∙ looked_up g label (blank_nodes g) (no_role_of_others g label)

pub table_is : (g : List Triple) → table_of g ≡ map (with_role g) (blank_nodes g)
unfolding table_of
table_is g = refl

pub table_length : (g : List Triple) (entries : List (List ℕ × Role)) → entries ≡ table_of g → length entries ≡ length (blank_nodes g)
table_length g entries e = ap length (e ∙ table_is g) ∙ length-map (blank_nodes g) (with_role g)
