-- The loop that removes dot segments, rule by rule (RFC 3986, section 5.2.4): from an input and an output it comes to a
-- result. `DotSegments` says the same of whole paths.
use Rattle.std.specs.Prelude.{◌≡◌, ℕ, Bool, true, false, not, ◌==◌, List, [], ◌∷◌, ◌++◌, codes}
use Rattle.owl_characters.specs.Iri.{AllAre}
use Rattle.iri_references.specs.References.{slash}
use Rattle.iri_references.specs.DotSegments.{is_dot_segment, without_last_segment}

-- at the end of the input, or before a slash
abbrev pub ends_segment : List ℕ → Bool
ends_segment [] = true
ends_segment (c ∷ cs) = c == slash

-- The first segment of an input, without the slash in front of it, and what stands behind it: no rule before E takes it.
pub record IsFirstSegment (segment rest : List ℕ) : Type 0 where
  pub whole : AllAre (λ c. not (c == slash)) segment
  pub ends : ends_segment rest ≡ true
  pub other : is_dot_segment segment ≡ false

pub data Removes : List ℕ → List ℕ → List ℕ → Type 0 where
  ended : (output : List ℕ) → Removes [] output output
  rule_a_double : {input output result : List ℕ} (rest : List ℕ) → input ≡ codes "../" ++ rest → Removes rest output result → Removes input output result
  rule_a_single : {input output result : List ℕ} (rest : List ℕ) → input ≡ codes "./" ++ rest → Removes rest output result → Removes input output result
  rule_b : {input output result : List ℕ} (rest : List ℕ) → input ≡ codes "/./" ++ rest → Removes (codes "/" ++ rest) output result → Removes input output result
  rule_b_at_end : {input output result : List ℕ} → input ≡ codes "/." → Removes (codes "/") output result → Removes input output result
  rule_c : {input output result : List ℕ} (rest : List ℕ) → input ≡ codes "/../" ++ rest → Removes (codes "/" ++ rest) (without_last_segment output) result → Removes input output result
  rule_c_at_end : {input output result : List ℕ} → input ≡ codes "/.." → Removes (codes "/") (without_last_segment output) result → Removes input output result
  rule_d_single : {input output result : List ℕ} → input ≡ codes "." → Removes [] output result → Removes input output result
  rule_d_double : {input output result : List ℕ} → input ≡ codes ".." → Removes [] output result → Removes input output result
  rule_e : {input output result : List ℕ} (c : ℕ) (cs rest : List ℕ) → input ≡ c ∷ cs ++ rest → IsFirstSegment (c ∷ cs) rest → Removes rest (output ++ c ∷ cs) result → Removes input output result
  rule_e_slash : {input output result : List ℕ} (segment rest : List ℕ) → input ≡ codes "/" ++ segment ++ rest → IsFirstSegment segment rest → Removes rest (output ++ codes "/" ++ segment) result → Removes input output result
