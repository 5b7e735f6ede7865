-- Paths without their dot segments (RFC 3986, section 5.2.4). A path is cut at each slash into a segment in front of any
-- slash, and segments that each stand behind one. They go to the output one by one, as the rules of the section say.
use Rattle.std.specs.Prelude.{ℕ, Bool, ◌||◌, ◌==◌, List, [], ◌∷◌, ◌++◌, codes, if◌then◌else◌}
use Rattle.std.specs.List.{before_last, slice_split}
use Rattle.owl_characters.specs.Order.{text_eq}
use Rattle.iri_references.specs.References.{is_empty, slash}

abbrev pub segments_of : List ℕ → List (List ℕ)
segments_of path = slice_split (λ c. c == slash) path

abbrev pub is_single_dot : List ℕ → Bool
is_single_dot segment = text_eq segment (codes ".")

abbrev pub is_double_dot : List ℕ → Bool
is_double_dot segment = text_eq segment (codes "..")

abbrev pub is_dot_segment : List ℕ → Bool
is_dot_segment segment = is_single_dot segment || is_double_dot segment

-- The output without its last segment, and without the slash in front of that, if there is one.
abbrev pub without_last_segment : List ℕ → List ℕ
without_last_segment output = before_last (λ c. c == slash) output

-- Rules B and C put a slash in place of a dot segment with its slash. It is that of the next segment, or the last of the
-- path, which rule E moves.
abbrev pub last_slash : Bool → List ℕ
last_slash is_last = if is_last then codes "/" else []

-- The output with one more segment, which stands behind a slash: `.` is dropped (rule B), `..` drops the last segment of
-- the output too (rule C), and any other is moved with its slash (rule E).
abbrev pub with_segment : List ℕ → List ℕ → Bool → List ℕ
with_segment output segment is_last =
    if is_single_dot segment then output ++ last_slash is_last
    else (if is_double_dot segment then without_last_segment output ++ last_slash is_last else output ++ codes "/" ++ segment)

-- the output with segments that each stand behind a slash
abbrev pub with_segments : List ℕ → List (List ℕ) → List ℕ
with_segments output [] = output
with_segments output (segment ∷ others) = with_segments (with_segment output segment (is_empty others)) others

-- In front of any slash a dot segment is dropped with the slash behind it (rule A), also where there is none (rule D). The
-- first segment that is none is moved (rule E), and then there is no way back to rules A and D.
abbrev pub output_of : List (List ℕ) → List ℕ
output_of [] = []
output_of (segment ∷ others) = if is_dot_segment segment then output_of others else with_segments segment others

unfoldable pub without_dot_segments : List ℕ → List ℕ
without_dot_segments path = output_of (segments_of path)
