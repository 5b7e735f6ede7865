-- The lines of breaches, each as its part stands in a document.
use Rattle.std.specs.Prelude.{◌≡◌, ℕ, List, [], ◌++◌, ◌+◌, Option, None, Some, codes, get_or, slice_get}
use Rattle.std.specs.Fmt.{decimal}
use Rattle.std.specs.List.{flat_map}
use Rattle.owl_doc.specs.declared.item.Breach.{Breach}
use Rattle.owl_doc.specs.declared.item.Item.{Item}
use Rattle.owl_doc.specs.declared.rule.Rule.{Rule}
use Rattle.owl_doc.specs.Documents.{Document}
use Rattle.owl_doc.specs.Entities.{IsHeldItem}
use Rattle.owl_doc.specs.Parts.{part_at}
use Rattle.owl_doc.specs.Rules.{rule_name}
use Rattle.owl_messages.specs.Verdicts.{part_text}

-- The part stands in one of these documents.
pub record IsHeldBreach (docs : List Document) (breach : Breach) : Type 0 where
  pub there : Document
  pub is : slice_get docs breach.document ≡ Some there
  pub held : IsHeldItem there breach.item

-- the rule, and the number of the document in this place
abbrev pub line_front : Rule → ℕ → List ℕ
line_front rule place = rule_name rule ++ (codes " " ++ (decimal (place + 1) ++ codes " "))

-- the line of a part of that document
abbrev pub part_line : Rule → ℕ → List ℕ → List ℕ
part_line rule place part = line_front rule place ++ (part ++ codes "\n")

-- the part, where there is a document
abbrev pub held_text : Option Document → Item → List ℕ
held_text None item = []
held_text (Some document) item = part_text (part_at document item)

-- The line of a breach: it is that of the site which the breach tells of.
abbrev pub found_line : List Document → List ℕ → Breach → List ℕ
found_line docs places breach =
    part_line breach.rule (get_or places breach.document 0) (held_text (slice_get docs breach.document) breach.item)

abbrev pub found_lines : List Document → List ℕ → List Breach → List ℕ
found_lines docs places found = codes "no\n" ++ flat_map (found_line docs places) found
