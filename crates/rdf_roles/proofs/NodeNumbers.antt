-- What the table tells of terms and numbers.
use Rattle.std.specs.Prelude.{◌≡◌, ℕ, List, [], ◌∷◌, Contains, Option, None, Some, map, option_map, slice_get}
use Rattle.std.specs.List.{position}
use Rattle.std.specs.Map.{keys_of, lookup_key}
use Rattle.std.proofs.Common.{inl, inr, refl, sym, ap, ◌∙◌, subst}
use Rattle.std.proofs.lemmas.Bool.{both_ways, cases_Bool, cond-false, cond-true}
use Rattle.std.proofs.lemmas.List.Quantifiers.{position-Some}
use Rattle.std.proofs.lemmas.Option.{same_Some, slice_get-get_or, slice_get-map}
use Rattle.std.proofs.lemmas.Slice.Eq.{bytes_eq-Decides}
use Rattle.std.proofs.Math.ListN.{get_or}
use Rattle.indexmap.proofs.MapLemmas.{Missing-position}
use Rattle.owl_characters.specs.Order.{text_eq}
use Rattle.owl_list.proofs.AscendingLaws.{in_cases, in_none}
use Rattle.rdf_graph.specs.declared.term.Term.{Term}
use Rattle.rdf_graph.specs.declared.term.Term.TheVariants.{Blank}
use Rattle.rdf_graph.specs.declared.triple.Triple.{Triple}
use Rattle.rdf_meaning.specs.declared.role.Role.{Role}
use Rattle.rdf_meaning.specs.Nodes.{role_of}
use Rattle.rdf_roles.proofs.NodeLaws.{same_label, table_is}
use Rattle.rdf_roles.specs.Tables.{HasNumber, IsNodeAt, IsNumber, blank_nodes, table_of, with_role}
use Rattle.rdf_roles.proofs.Down.{at_place}
use Rattle.rdf_roles.proofs.Walk.{names_are}

-- the place of a label in a table

placed : (labels : List (List ℕ)) (number : ℕ) (label : List ℕ) → position (text_eq label) labels ≡ Some number → slice_get labels number ≡ Some label
placed labels number label e =
    let at = position-Some (text_eq label) labels number label e in
    slice_get-get_or labels number label at.0 ∙ ap Some (sym ((bytes_eq-Decides label (get_or labels number label)).0 at.1))

key_missing : (label : List ℕ) (entries : List (List ℕ × Role)) → lookup_key (text_eq label) entries ≡ None → Contains (keys_of entries) label → ⊥
key_missing label [] e m = in_none label m
key_missing label (entry ∷ entries) e m =
    let rest = lookup_key (text_eq label) entries in
    elim (cases_Bool (text_eq label entry.0)) [
      | inl h ↦ let some : Some entry.0 ≡ None = sym (cond-true (text_eq label entry.0) (Some entry.0) rest h) ∙ e in cc
      | inr h ↦
          elim (in_cases entry.0 (keys_of entries) label m) [
            | inl same ↦ both_ways (text_eq label entry.0) h ((bytes_eq-Decides label entry.0).1 (sym same))
            | inr k ↦ key_missing label entries (sym (cond-false (text_eq label entry.0) (Some entry.0) rest h) ∙ e) k
          ]
    ]

pub has_number : (entries : List (List ℕ × Role)) (label : List ℕ) (found : Option ℕ) → found ≡ position (text_eq label) (keys_of entries) → HasNumber entries label found
has_number entries label None e = key_missing label entries (Missing-position (text_eq label) entries (sym e)).key
has_number entries label (Some number) e = placed (keys_of entries) number label (sym e)

numbered_by : (g : List Triple) (x : Term) (label : List ℕ) → x ≡ Blank label → (found : Option ℕ) → HasNumber (map (with_role g) (blank_nodes g)) label found → IsNumber g x found
numbered_by g x label is None none = λ number node.
    none
    (subst (λ labels. Contains labels label) (sym (names_are g (blank_nodes g)))
    (at_place (blank_nodes g) number label (node.at ∙ ap Some (same_label node.label label (sym node.is ∙ is)))))
numbered_by g x label is (Some k) at = record { label = label; is = is; at = ap (λ labels. slice_get labels k) (sym (names_are g (blank_nodes g))) ∙ at }

pub number_is : (g : List Triple) (x : Term) (label : List ℕ) (entries : List (List ℕ × Role)) (found : Option ℕ) → x ≡ Blank label → entries ≡ table_of g
    → found ≡ position (text_eq label) (keys_of entries) → IsNumber g x found
number_is g x label entries found is e f =
    numbered_by g x label is found (subst (λ es. HasNumber es label found) (e ∙ table_is g) (has_number entries label found f))

-- what stands in the table at a number
stands_at : (g : List Triple) (number : ℕ) (o : Option (List ℕ)) (found : Option (List ℕ × Role)) → slice_get (blank_nodes g) number ≡ o → found ≡ option_map (with_role g) o → IsNodeAt g number found
stands_at g number None None e f = e
stands_at g number None (Some node) e f = cc
stands_at g number (Some label) None e f = cc
stands_at g number (Some label) (Some node) e f =
    let same = same_Some node (with_role g label) f in (
      e ∙ ap (λ n. Some n.0) (sym same),
      ap (λ n. n.1) same ∙ ap (λ n. role_of g (Blank n.0)) (sym same),
    )

pub node_stands : (g : List Triple) (number : ℕ) (entries : List (List ℕ × Role)) (found : Option (List ℕ × Role)) → entries ≡ table_of g → found ≡ slice_get entries number → IsNodeAt g number found
node_stands g number entries found e f =
    stands_at g number (slice_get (blank_nodes g) number) found refl (f ∙ ap (λ es. slice_get es number) (e ∙ table_is g) ∙ slice_get-map (with_role g) (blank_nodes g) number)
