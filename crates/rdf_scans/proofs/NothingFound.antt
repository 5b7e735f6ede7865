-- Each reification of nothing is found at the triple that makes it one.
use Rattle.std.specs.Prelude.{◌≡◌, ◌&&◌, ℕ, true, false, List, [], ◌∷◌, Contains, None, Some}
use Rattle.std.specs.List.{list_any}
use Rattle.std.proofs.Common.{◌∙◌, sym, ap, subst}
use Rattle.std.proofs.lemmas.Bool.{and_parts}
use Rattle.owl_list.proofs.AscendingLaws.{in_head}
use Rattle.rdf_graph.specs.declared.term.Term.TheVariants.{Blank}
use Rattle.rdf_graph.specs.declared.triple.Triple.{Triple}
use Rattle.rdf_meaning.specs.declared.role.Role.{Role}
use Rattle.rdf_meaning.specs.declared.role.Role.TheVariants as role
use Rattle.owl_list.proofs.FilterLaws.{from_filter}
use Rattle.rdf_meaning.proofs.ListLaws.{some_passes}
use Rattle.rdf_meaning.proofs.NodeLaws.{from_subject}
use Rattle.rdf_meaning.specs.Nodes.{first_role, marked_roles, marks_role, of_subject, roles_of}
use Rattle.rdf_scans.specs.declared.reading.Reading.{Reading}
use Rattle.rdf_scans.specs.Notes.{FindsNothing, IsOfNothingIn, is_of_nothing, marks_nothing}
use Rattle.rdf_scans.proofs.FirstNodes.{HasMark}
use Rattle.rdf_scans.proofs.Noting.{nothing_so, something_so}

-- the triple makes its subject a reification, which is one of nothing
pub record MarksNothing (reading : Reading) (t : Triple) : Type 0 where
  pub label : List ℕ
  pub subject : t.subject ≡ Blank label
  pub mark : marks_role role.Note t ≡ true
  pub nothing : IsOfNothingIn reading label

among : (rs : List Role) → first_role rs ≡ role.Note → Contains rs role.Note
among [] e = cc
among (r ∷ rs) e = subst (Contains (r ∷ rs)) e (in_head r rs)

pub is_marked : (reading : Reading) (label : List ℕ) → IsOfNothingIn reading label → HasMark reading.graph.now (MarksNothing reading) label
unfolding roles_of
is_marked reading label n =
    let g = reading.graph.now in
    let x = Blank label in
    let kept = from_filter (λ r. list_any (marks_role r) (of_subject g x)) marked_roles role.Note (among (roles_of g x) n.note) in
    let p = some_passes (marks_role role.Note) (of_subject g x) kept.passes in
    let t = from_subject g x p.element p.inside in record {
      triple = p.element;
      inside = t.0;
      subject = t.1;
      mark = record { label = label; subject = t.1; mark = p.passes; nothing = n };
    }

module _ (reading : Reading) (t : Triple) where
  pub at_node : (label : List ℕ) → t.subject ≡ Blank label → marks_nothing reading t ≡ true → FindsNothing reading t (Some label)
  at_node label is h =
      let parts = and_parts (marks_role role.Note t) (is_of_nothing reading t.subject) h in
      (is, parts.0, nothing_so reading label (sym (ap (is_of_nothing reading) is) ∙ parts.1))

  pub not_at_node : marks_nothing reading t ≡ false → FindsNothing reading t None
  not_at_node h = λ label is mark n.
      something_so reading label (sym (ap (λ x. marks_role role.Note t && is_of_nothing reading x) is ∙ ap (λ b. b && is_of_nothing reading (Blank label)) mark) ∙ h) n

  pub found_at : (label : List ℕ) → FindsNothing reading t (Some label) → MarksNothing reading t
  found_at label f = record { label = label; subject = f.0; mark = f.1; nothing = f.2 }

  pub none_at : FindsNothing reading t None → MarksNothing reading t → ⊥
  none_at f m = f m.label m.subject m.mark m.nothing
