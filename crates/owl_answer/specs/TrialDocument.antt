-- The document that a trial makes, in Functional-Style Syntax.
use Rattle.std.specs.Prelude.{ℕ, zero, suc, List, [], ◌++◌, ◌+◌, ◌-◌, codes}
use Rattle.std.specs.Fmt.{decimal}

-- a prefix, the ontology's IRI, and a property
abbrev pub opening : List ℕ
opening =
    codes "Prefix(:=<http://t.example/>)\nOntology(<http://t.example/o>\nDeclaration(ObjectProperty(:p))\n"

-- the class with this number
abbrev pub class_name : ℕ → List ℕ
class_name i = codes ":C" ++ decimal i

abbrev pub class_line : ℕ → List ℕ
class_line i = codes "Declaration(Class(" ++ (class_name i ++ codes "))\n")

-- The next class lies below this one, and below what has something in this one.
abbrev pub link_lines : ℕ → List ℕ
link_lines i =
    codes "SubClassOf(" ++ (class_name (i + 1) ++ (codes " " ++ (class_name i ++ (codes ")\nSubClassOf(" ++ (class_name (i + 1) ++ (codes " ObjectSomeValuesFrom(:p " ++ (class_name i ++ codes "))\n")))))))

-- these lines of each number below this one, in order
abbrev pub numbered : (ℕ → List ℕ) → ℕ → List ℕ
numbered lines zero = []
numbered lines (suc n) = numbered lines n ++ lines n

-- so many classes, in a chain
unfoldable pub trial_document : ℕ → List ℕ
trial_document size = opening ++ (numbered class_line size ++ (numbered link_lines (size - 1) ++ codes ")\n"))
