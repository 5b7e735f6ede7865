-- Lengths of lists, and what rows want of objects.
use Rattle.std.specs.Prelude.{◌≡◌, ◌↔◌, ◌<◌, ℕ, suc, Bool, true, IsTrue, List, ◌∷◌, None, slice_index, nat_lt}
use Rattle.std.specs.List.{AllByRecursion}
use Rattle.std.proofs.Common.{inl, inr, refl, sym, ap, ◌∙◌, subst}
use Rattle.std.proofs.lemmas.Bool.{both_ways, cases_lt, le-ltb, lt-ltb}
use Rattle.owl_list.proofs.AscendingLaws.{in_cases, in_head, in_tail}
use Rattle.owl_tree.specs.declared.row.Sort.{Sort}
use Rattle.owl_tree.specs.declared.row.Sort.TheVariants as sort
use Rattle.rdf_graph.specs.declared.term.Term.{Term}
use Rattle.rdf_graph.specs.declared.term.Term.TheVariants.{Iri}
use Rattle.rdf_graph.specs.declared.triple.Triple.{Triple}
use Rattle.rdf_meaning.specs.declared.role.Role.{Role}
use Rattle.rdf_meaning.specs.declared.role.Role.TheVariants as role
use Rattle.rdf_meaning.specs.declared.row.Want.TheVariants.{One}
use Rattle.rdf_meaning.proofs.ListLaws.{same_only}
use Rattle.rdf_meaning.specs.Nodes.{nil_iri, of_subject, role_of}
use Rattle.rdf_meaning.specs.Rows.{Row}
use Rattle.rdf_faults.specs.Formed.{HasForm, HasFormAt, HasFormedRow, HasLength, IsShort, no_element, one_more}
use Rattle.rdf_rows.specs.Fits.{FitsRow}
use Rattle.rdf_rows.proofs.NodeTripleLaws.{chosen_is, fits_is}
use Rattle.rdf_rows.specs.Chosen.{objects_with}
use Rattle.rdf_meaning.specs.declared.row.Part.{Part}
use Rattle.rdf_meaning.specs.declared.row.Place.TheVariants.{At}
use Rattle.rdf_meaning.specs.declared.word.Word.{Word}
use Rattle.rdf_meaning.specs.Denotation.{Fits, of_node, select}
use Rattle.rdf_roles.specs.Lengths.{AreLengths, IsFormedBy, IsSeen}
use Rattle.rdf_roles.specs.Tables.{IsNode, IsNumber}
use Rattle.rdf_roles.proofs.WayLaws.{numbered_by_role}

nil_is_no_cell : (g : List Triple) (x : Term) → x ≡ Iri nil_iri → role_of g x ≡ role.List → ⊥
nil_is_no_cell g x e is = let same : role.Individual ≡ role.List = sym (ap (role_of g) e) ∙ is in cc

-- a list has one length
one_length : (g : List Triple) (x : Term) (m n : ℕ) → HasLength g x m → HasLength g x n → m ≡ n
one_length g x _ _ (no_element _ e) (no_element _ f) = refl
one_length g x _ _ (no_element _ e) (one_more _ rest n is one more) = absurd (nil_is_no_cell g x e is)
one_length g x _ _ (one_more _ rest m is one more) (no_element _ f) = absurd (nil_is_no_cell g x f is)
one_length g x _ _ (one_more _ rest m is one more) (one_more _ rest_2 n is_2 one_2 more_2) =
    ap suc (one_length g rest m n more (subst (λ (y : Term). HasLength g y n) (sym (same_only rest rest_2 (sym one ∙ one_2))) more_2))

pub no_list : (g : List Triple) (x : Term) → (x ≡ Iri nil_iri → ⊥) → (role_of g x ≡ role.List → ⊥) → (n : ℕ) → HasLength g x n → ⊥
no_list g x not_nil no_cell _ (no_element _ e) = not_nil e
no_list g x not_nil no_cell _ (one_more _ rest n is one more) = no_cell is

pub short_is : (g : List Triple) (x : Term) (n least : ℕ) → HasLength g x n → (n < least) ↔ IsShort g least x
short_is g x n least has = (
  λ h. record { count = n; has_length = has; few = h },
  λ s. subst (λ k. k < least) (one_length g x s.count n s.has_length has) s.few,
)

pub length_at : (g : List Triple) (lengths : List ℕ) (x : Term) (number : ℕ) → AreLengths g lengths → IsNode g x number → role_of g x ≡ role.List → HasLength g x (slice_index lengths number)
length_at g lengths x number are node is =
    subst (λ (y : Term). HasLength g y (slice_index lengths number)) (sym node.is) (are.of_cell number node.label node.at (ap (role_of g) (sym node.is) ∙ is))

pub cell_has_number : (g : List Triple) (x : Term) → role_of g x ≡ role.List → IsNumber g x None → ⊥
cell_has_number g x is none =
    let n = numbered_by_role g x (λ e. let same : role.List ≡ role.Individual = sym is ∙ e in cc) in
    none n.number (record { label = n.label; is = n.is; at = n.at })

pub other_sort : (g : List Triple) (x : Term) (s : Sort) → (s ≡ sort.Number → ⊥) → HasForm g (One s) x
other_sort g x sort.Number n = absurd (n refl)
other_sort g x _ n = tt

-- the rows of which one is the node's
pub found_row : (g : List Triple) (x : Term) (row : Row) (behind : List Row) → IsFormedBy g x row → HasFormedRow g (row ∷ behind) x
found_row g x row behind is = record { row = row; among = in_head row behind; fits = is.0; formed = is.1 }

pub passed_row : (g : List Triple) (x : Term) (row : Row) (behind : List Row) → (IsFormedBy g x row → ⊥) → HasFormedRow g behind x ↔ HasFormedRow g (row ∷ behind) x
passed_row g x row behind none = (
  λ h. record { row = h.row; among = in_tail row behind h.row h.among; fits = h.fits; formed = h.formed },
  λ h. elim (in_cases row behind h.row h.among) [
    | inl e ↦ absurd (none (subst (IsFormedBy g x) (sym e) (h.fits, h.formed)))
    | inr m ↦ record { row = h.row; among = m; fits = h.fits; formed = h.formed }
  ],
)

pub formed_at : (g : List Triple) (x : Term) (triples : List Triple) (part : Part) (w : Word) (answer : Bool) → part.place ≡ At w → triples ≡ of_subject g x
    → IsTrue answer ↔ AllByRecursion (HasForm g part.want) (objects_with w triples) → IsTrue answer ↔ HasFormAt g x part
formed_at g x triples part w answer at about is =
    subst (λ p. IsTrue answer ↔ AllByRecursion (HasForm g part.want) (select g (of_node x) p)) (sym at)
    (subst (λ (ys : List Term). IsTrue answer ↔ AllByRecursion (HasForm g part.want) ys) (ap (objects_with w) about ∙ sym (chosen_is g x w)) is)

told_less : (m n : ℕ) → nat_lt m n ≡ true → m < n
told_less m n h = elim (cases_lt m n) [ inl less ↦ less | inr more ↦ absurd (both_ways (nat_lt m n) (le-ltb m n more) h) ]

pub short_told : (g : List Triple) (x : Term) (n least : ℕ) → HasLength g x n → IsTrue (nat_lt n least) ↔ IsShort g least x
short_told g x n least has = (λ h. (short_is g x n least has).0 (told_less n least h), λ s. lt-ltb n least ((short_is g x n least has).1 s))

pub fit_is : (g : List Triple) (x : Term) (entries : List (List ℕ × Role)) (lengths : List ℕ) (r : Role) (triples : List Triple) (row : Row) → IsSeen g x entries lengths r triples
    → FitsRow r triples row ↔ Fits g (of_node x) row
fit_is g x entries lengths r triples row seen = (
  λ f. (fits_is g x row).1 (subst (λ q. FitsRow q (of_subject g x) row) seen.role (subst (λ (ts : List Triple). FitsRow r ts row) seen.about f)),
  λ f. subst (λ (ts : List Triple). FitsRow r ts row) (sym seen.about) (subst (λ q. FitsRow q (of_subject g x) row) (sym seen.role) ((fits_is g x row).0 f)),
)
