-- The syntax that a suffix tells.
use Rattle.std.proofs.Common.{◌≡◌, ℕ, Bool, List, codes, nat_eq, sym}
use Rattle.std.specs.List.{ends_with}
use Rattle.std.specs.Prelude.{if◌then◌else◌}
use Rattle.owl_documents.specs.Documents.{syntax_of}
use Rattle.owl_documents.specs.declared.document.Syntax.TheVariants.{Functional, Turtle, Manchester, Canonical}

pub told : (name : List ℕ) (ttl omn owc : Bool) → ends_with nat_eq name (codes ".ttl") ≡ ttl → ends_with nat_eq name (codes ".omn") ≡ omn → ends_with nat_eq name (codes ".owc") ≡ owc → (if ttl then Turtle else (if omn then Manchester else (if owc then Canonical else Functional))) ≡ syntax_of name
told name ttl omn owc e k h = sym (λ i. if e i then Turtle else (if k i then Manchester else (if h i then Canonical else Functional)))
