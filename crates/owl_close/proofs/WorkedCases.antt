-- What the definitions say of some documents, worked out by hand. Their names are letters.
use Rattle.std.proofs.Common.{◌≡◌, ◌<◌, inl, inr, ℕ, suc, zero, List, [], ◌∷◌, Option, None, Some, get_or, refl, sym, ap, subst, arith}
use Rattle.std.specs.Prelude.{Contains, codes}
use Rattle.std.specs.Ordering.{nat_cmp}
use Rattle.std.proofs.lemmas.Option.{none-some}
use Rattle.owl_close.specs.Imports.{AreReached, HasImport, Imports, IsMissing, IsNamedAt, MissesNone, Names, NamesNone, Reaches, main, import}
use Rattle.owl_close.proofs.ReachingLaws.{reached_within}
use Rattle.owl_list.proofs.AscendingLaws.{ascends, in_cases, in_head, in_none, in_tail, nothing_ascends}
use Rattle.owl_tree.specs.Ontologies.{Head}

-- a document with this name that imports these
abbrev called : List ℕ → Option (List ℕ) → List (List ℕ) → Head
called iri version imports = record { name = Some (record { iri = iri; version = version }); imports = imports }

abbrev unnamed : List (List ℕ) → Head
unnamed imports = record { name = None; imports = imports }

-- an import that nothing names is missing
abbrev alone : List Head
alone = unnamed (codes "a" ∷ []) ∷ []

none_called_a : NamesNone alone (codes "a")
none_called_a zero h = h
none_called_a (suc place) h = h

import_is_missing : IsMissing alone 0 (codes "a")
import_is_missing = record { reached = main; import = in_head (codes "a") []; none = none_called_a }

-- main and a document that import each other: both are reached
abbrev cycle : List Head
cycle = called (codes "m") None (codes "a" ∷ []) ∷ called (codes "a") None (codes "m" ∷ []) ∷ []

not_called_a : (place : ℕ) → place < 1 → IsNamedAt cycle (codes "a") place → ⊥
not_called_a zero h (inl e) = let f = ap (λ (iri : List ℕ). get_or iri 0 0) e in absurd (omega arith)
not_called_a zero h (inr e) = none-some (codes "a") e
not_called_a (suc place) h n = absurd (omega arith)

main_imports_second : Imports cycle 0 1
main_imports_second = record { iri = codes "a"; import = in_head (codes "a") []; names = record { named = inl refl; first = not_called_a } }

second_imports_main : Imports cycle 1 0
second_imports_main = record { iri = codes "m"; import = in_head (codes "m") []; names = record { named = inl refl; first = λ other h n. absurd (omega arith) } }

two_at_most : (place : ℕ) → place < 2 → Contains (0 ∷ 1 ∷ []) place
two_at_most zero h = in_head 0 (1 ∷ [])
two_at_most (suc zero) h = in_tail 0 (1 ∷ []) 1 (in_head 1 [])
two_at_most (suc (suc place)) h = absurd (omega arith)

both_are_reached : AreReached cycle (0 ∷ 1 ∷ [])
both_are_reached = record {
  ascending = ascends nat_cmp 0 (1 ∷ []) (refl, tt) (ascends nat_cmp 1 [] tt (nothing_ascends nat_cmp));
  reached = λ place. (
    λ m. elim (in_cases 0 (1 ∷ []) place m) [
      | inl e ↦ subst (λ (p : ℕ). Reaches cycle p) e main
      | inr n ↦ elim (in_cases 1 [] place n) [
        | inl e ↦ subst (λ (p : ℕ). Reaches cycle p) e (import 0 1 main main_imports_second)
        | inr o ↦ absurd (in_none place o)
      ]
    ],
    λ r. two_at_most place (reached_within cycle place (omega arith) r),
  );
}

-- of two documents with one name the first counts
abbrev twins : List Head
twins = unnamed (codes "a" ∷ []) ∷ called (codes "a") None [] ∷ called (codes "a") None [] ∷ []

first_counts : Names twins (codes "a") 2 → ⊥
first_counts h = h.first 1 (omega arith) (inl refl)

-- a version IRI is a name too
abbrev versions : List Head
versions = unnamed (codes "v" ∷ []) ∷ called (codes "a") (Some (codes "v")) [] ∷ []

version_is_named : IsNamedAt versions (codes "v") 1
version_is_named = inr refl

-- a document that is not reached is not asked for its imports
abbrev unasked : List Head
unasked = unnamed [] ∷ called (codes "b") None (codes "c" ∷ []) ∷ []

main_has_no_import : (place : ℕ) (iri : List ℕ) → 0 ≡ place → HasImport unasked place iri → ⊥
main_has_no_import place iri e h = in_none iri (subst (λ (p : ℕ). HasImport unasked p iri) (sym e) h)

main_alone_is_reached : (place : ℕ) → Reaches unasked place → 0 ≡ place
main_alone_is_reached place main = refl
main_alone_is_reached place (import from to r i) = absurd (main_has_no_import from i.iri (main_alone_is_reached from r) i.import)

nothing_is_missing : MissesNone unasked
nothing_is_missing place iri m = main_has_no_import place iri (main_alone_is_reached place m.reached) m.import
