-- The roles of the nodes of axioms, and of those that are individuals.
use Rattle.std.proofs.Common.{◌≡◌, ℕ, true, false, List, [], inl, inr, refl, sym, ap, ◌∙◌}
use Rattle.std.specs.Prelude.{Contains, not, ◌||◌}
use Rattle.std.specs.List.{list_all}
use Rattle.std.proofs.lemmas.Bool.{both_ways, or_cases}
use Rattle.owl_list.specs.Ascending.{AreApart}
use Rattle.owl_list.proofs.AscendingLaws.{in_none}
use Rattle.rdf_graph.specs.declared.term.Term.TheVariants.{Blank}
use Rattle.rdf_graph.specs.declared.triple.Triple.{Triple}
use Rattle.rdf_meaning.specs.declared.role.Role.TheVariants as role
use Rattle.rdf_meaning.proofs.ListLaws.{passes}
use Rattle.rdf_meaning.specs.Nodes.{is_role, role_of}
use Rattle.rdf_meaning.proofs.RowLaws.{same_role}
use Rattle.rdf_meaning.specs.Rows.{Row, axiom_rows}
use Rattle.rdf_meaning.specs.Words.{word_number}
use Rattle.rdf_mapping.specs.Frames.{IsOfNode, IsOwn}
use Rattle.rdf_mapping.specs.OwnLaws.{role_own}
use Rattle.rdf_mapping.specs.Spelling.{SpellParts, is_at_node, role_by}
use Rattle.rdf_mapping.proofs.SpellingLaws.{role_is}

-- a node that is the subject of no triple that makes a node what it is
pub individual_role : (g : List Triple) (label : List ℕ) → ((t : Triple) → Contains g t → t.subject ≡ Blank label → IsOfNode t → ⊥) → role_of g (Blank label) ≡ role.Individual
individual_role g label h =
    role_own g label [] (record { there = λ t m. absurd (in_none t m); subject = λ t m. absurd (in_none t m); back = λ t e c m. absurd (h t m e c) })

main_rows : list_all (λ row. not (is_at_node row.site) || is_role role.Main (role_by row.parts)) axiom_rows ≡ true
unfolding axiom_rows word_number
main_rows = refl

-- a node that spells the row of an axiom
pub main_role : (g : List Triple) (label : List ℕ) (own : List Triple) (row : Row) → AreApart g → IsOwn IsOfNode g (Blank label) own → SpellParts own row.parts → Contains axiom_rows row → is_at_node row.site ≡ true → role_of g (Blank label) ≡ role.Main
main_role g label own row apart is spells m n =
    elim (or_cases (not (is_at_node row.site)) (is_role role.Main (role_by row.parts)) (passes (λ r. not (is_at_node r.site) || is_role role.Main (role_by r.parts)) axiom_rows row main_rows m)) [
      | inl a ↦ absurd (both_ways false refl (sym (ap not n) ∙ a))
      | inr b ↦ role_is g [] label own row apart is spells ∙ sym (same_role role.Main (role_by row.parts) b)
    ]
