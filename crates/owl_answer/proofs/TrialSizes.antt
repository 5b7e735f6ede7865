-- The document of a trial is what is written, and it is not too long.
use Rattle.std.proofs.Common.{◌≡◌, ◌<◌, ◌≤◌, ◌+◌, ◌*◌, ◌-◌, ℕ, zero, suc, List, ◌++◌, codes, length, append_assoc, ap, ◌∙◌, arith}
use Rattle.std.specs.Fmt.{decimal}
use Rattle.std.proofs.lemmas.Fmt.{length-decimal-le}
use Rattle.std.proofs.lemmas.List.{length-append}
use Rattle.owl_characters.specs.Limit.{most_bytes}
use Rattle.owl_command.specs.Commands.{IsTrialSize, most_classes}
use Rattle.owl_answer.specs.TrialDocument.{class_line, class_name, link_lines, numbered, opening, trial_document}

name_short : (i : ℕ) → i ≤ most_classes → length (class_name i) ≤ 7
name_short i few = omega (arith, length-append (codes ":C") (decimal i), length-decimal-le 5 i (omega arith) (omega arith) (omega arith))

class_short : (i : ℕ) → i ≤ most_classes → length (class_line i) ≤ 100
class_short i few =
    omega (arith, length-append (codes "Declaration(Class(") (class_name i ++ codes "))\n"), length-append (class_name i) (codes "))\n"), name_short i few)

link_short : (i : ℕ) → i < most_classes → length (link_lines i) ≤ 200
link_short i few =
    let name = class_name i in
    let next = class_name (i + 1) in
    let own = name_short i (omega arith) in
    let behind = name_short (i + 1) (omega arith) in
    let last = name ++ codes "))\n" in
    let some = codes " ObjectSomeValuesFrom(:p " ++ last in
    let second = codes ")\nSubClassOf(" ++ (next ++ some) in
    let first = codes " " ++ (name ++ second) in
    omega (
      arith,
      own,
      behind,
      length-append (codes "SubClassOf(") (next ++ first),
      length-append next first,
      length-append (codes " ") (name ++ second),
      length-append name second,
      length-append (codes ")\nSubClassOf(") (next ++ some),
      length-append next some,
      length-append (codes " ObjectSomeValuesFrom(:p ") last,
      length-append name (codes "))\n"),
    )

numbered_short : (lines : ℕ → List ℕ) (most n : ℕ) → ((i : ℕ) → i < n → length (lines i) ≤ most) → length (numbered lines n) ≤ n * most
numbered_short lines most zero each = omega arith
numbered_short lines most (suc n) each =
    omega (arith, length-append (numbered lines n) (lines n), numbered_short lines most n (λ i l. each i (omega arith)), each n (omega arith))

pub document_short : (size : ℕ) → IsTrialSize size → length (trial_document size) ≤ most_bytes
unfolding trial_document
document_short size t =
    let classes = numbered class_line size in
    let links = numbered link_lines (size - 1) in
    let few = t.few in
    omega (
      arith,
      few,
      length-append opening (classes ++ (links ++ codes ")\n")),
      length-append classes (links ++ codes ")\n"),
      length-append links (codes ")\n"),
      numbered_short class_line 100 size (λ i l. class_short i (omega arith)),
      numbered_short link_lines 200 (size - 1) (λ i l. link_short i (omega arith)),
    )

-- parts that are put behind each other
pub document_is : (size : ℕ) (front classes links whole : List ℕ) → front ≡ opening → classes ≡ front ++ numbered class_line size → links ≡ classes ++ numbered link_lines (size - 1) → whole ≡ links ++ codes ")\n" → whole ≡ trial_document size
unfolding trial_document
document_is size front classes links whole o c l w =
    let first = numbered class_line size in
    let second = numbered link_lines (size - 1) in
    let end = codes ")\n" in
    w ∙ ap (λ (x : List ℕ). x ++ end) (l ∙ ap (λ (x : List ℕ). x ++ second) (c ∙ ap (λ (x : List ℕ). x ++ first) o))
    ∙ append_assoc (opening ++ first) second end ∙ append_assoc opening first (second ++ end)
