-- A node that would be a part of an axiom is an orphan exactly where it has no mark.
use Rattle.std.specs.Prelude.{◌≡◌, ℕ, true, false, Bool, List, Some, slice_get}
use Rattle.std.proofs.Common.{sym, subst}
use Rattle.std.proofs.lemmas.Bool.{both_ways}
use Rattle.rdf_graph.specs.declared.term.Term.TheVariants.{Blank}
use Rattle.rdf_meaning.specs.declared.role.Role.{Role}
use Rattle.rdf_meaning.specs.declared.role.Role.TheVariants as role
use Rattle.rdf_meaning.specs.Nodes.{role_of}
use Rattle.rdf_meaning.specs.Statements.{IsPartOfAxiom}
use Rattle.rdf_roles.specs.Tables.{blank_nodes}
use Rattle.rdf_scans.specs.declared.reading.Reading.{Reading}
use Rattle.rdf_scans.specs.Reach.{AreMarked, IsOrphanIn, IsReachedIn, has_mark}

part_has_role : (r : Role) → IsPartOfAxiom r → r ≡ role.Individual → ⊥
part_has_role r part e = subst IsPartOfAxiom e part

module _ (reading : Reading) (marks : List Bool) (number : ℕ) (label : List ℕ) (are : AreMarked reading.graph.now (IsReachedIn reading) marks) (at : slice_get (blank_nodes reading.graph.now) number ≡ Some label) where
  pub orphan_here : (r : Role) → r ≡ role_of reading.graph.now (Blank label) → IsPartOfAxiom r → has_mark marks number ≡ false → IsOrphanIn reading label
  orphan_here r is part none =
      let here = subst IsPartOfAxiom is part in
      record {
        part = here;
        unreached = λ reached. both_ways (has_mark marks number) none ((are.told number label at (part_has_role (role_of reading.graph.now (Blank label)) here)).1 reached);
      }

  pub no_orphan : (r : Role) → r ≡ role_of reading.graph.now (Blank label) → (IsPartOfAxiom r → ⊥) → IsOrphanIn reading label → ⊥
  no_orphan r is other o = other (subst IsPartOfAxiom (sym is) o.part)

  pub reached_is_no_orphan : has_mark marks number ≡ true → IsOrphanIn reading label → ⊥
  reached_is_no_orphan m o = o.unreached ((are.told number label at (part_has_role (role_of reading.graph.now (Blank label)) o.part)).0 m)
