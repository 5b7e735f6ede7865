-- Documents that are filled.
use Rattle.std.specs.Prelude.{ℕ, List}
use Rattle.owl_arena.specs.Held.{Held}
use Rattle.owl_doc.specs.Documents.{Document, with_head}

abbrev pub with_notes : List ℕ → Document → Document
with_notes notes d = record { arena = d.arena; prefixes = d.prefixes; head = d.head; notes = notes; axioms = d.axioms }

abbrev pub with_axioms : List ℕ → Document → Document
with_axioms axioms d = record { arena = d.arena; prefixes = d.prefixes; head = d.head; notes = d.notes; axioms = axioms }

-- the head and prefixes of this one, over another arena
abbrev pub document_with : Document → Held → List ℕ → List ℕ → Document
document_with d arena notes axioms = record { arena = arena; prefixes = d.prefixes; head = d.head; notes = notes; axioms = axioms }

abbrev pub with_imports : List (List ℕ) → Document → Document
with_imports imports d = with_head (record { name = d.head.name; imports = imports }) d
