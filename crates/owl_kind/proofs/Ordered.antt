-- What a table of marks declares, in order.
use Rattle.std.specs.Prelude.{◌≡◌, ◌↔◌, List, [], ◌∷◌, length}
use Rattle.std.specs.List.{AllByRecursion}
use Rattle.std.specs.Map.{values_of}
use Rattle.std.proofs.Common.{refl, ap, ◌∙◌, subst}
use Rattle.owl_kind.specs.Kinds.{IsDeclared}
use Rattle.owl_kind.specs.Marks.{Entry, HasMark, IsTable, declared_by, entities_of}
use Rattle.owl_kind.specs.Order.{AreOrdered, entity_cmp}
use Rattle.owl_kind.proofs.OrderLaws.{entities_total}
use Rattle.owl_kind.proofs.Declarations.{declared_of_marks}
use Rattle.owl_list.proofs.AscendingLaws.{ascending_ascends, in_head, in_none}

pub declared_in_order : (es : List Entry) → AreOrdered (declared_by es)
declared_in_order es = ascending_ascends entity_cmp entities_total (entities_of es)

nothing_declared : declared_by [] ≡ []
unfolding entities_of
nothing_declared = refl

no_entries : (es : List Entry) → AllByRecursion HasMark (values_of es) → declared_by es ≡ [] → es ≡ []
no_entries [] m e = refl
no_entries (entry ∷ es) m e =
    absurd (in_none _ (subst (λ ds. IsDeclared ds m.0.0 entry.0) e (declared_of_marks (entry ∷ es) m.0.0 entry (in_head entry es) m.0.1)))

-- nothing is declared exactly where there are no entries
pub none_where_empty : (es : List Entry) → IsTable es → (es ≡ []) ↔ (declared_by es ≡ [])
none_where_empty es t = (λ e. ap declared_by e ∙ nothing_declared, λ e. no_entries es t.marked e)

-- a list without elements
pub empty_by_length : {A : Type 0} (xs : List A) → (length xs ≡ 0) ↔ (xs ≡ [])
empty_by_length [] = (λ e. refl, λ e. refl)
empty_by_length (x ∷ xs) = (λ e. cc, λ e. cc)
