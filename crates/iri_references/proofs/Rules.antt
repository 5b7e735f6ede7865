-- The loop of RFC 3986, section 5.2.4, and paths without their dot segments.
use Rattle.std.proofs.Common.{◌≡◌, ◌↔◌, inl, inr, ℕ, true, false, not, List, [], ◌∷◌, ◌++◌, cond, refl, sym, ap, ◌∙◌, subst}
use Rattle.std.specs.Prelude.{◌==◌, codes}
use Rattle.std.specs.List.{AllByRecursion, join_with_byte, onto_first}
use Rattle.std.proofs.lemmas.Bool.{cases_Bool, not_from_false, or_from, or_parts}
use Rattle.std.proofs.lemmas.List.{append-nil}
use Rattle.std.proofs.lemmas.List.Splits.{join_with_byte-slice_split, slice_split-cons_no, slice_split-cons_yes}
use Rattle.std.proofs.lemmas.Slice.Eq.{bytes_eq-Decides}
use Rattle.iri_references.specs.References.{is_empty, slash}
use Rattle.iri_references.specs.DotSegments.{is_dot_segment, is_double_dot, is_single_dot, last_slash, output_of, segments_of, with_segments, without_dot_segments, without_last_segment}
use Rattle.iri_references.specs.DotSegmentRules.{IsFirstSegment, Removes, ends_segment}
use Rattle.iri_references.specs.DotSegmentRules.Removes.{ended, rule_a_double, rule_a_single, rule_b, rule_b_at_end, rule_c, rule_c_at_end, rule_d_double, rule_d_single, rule_e, rule_e_slash}
use Rattle.iri_references.proofs.Marks.{NoneAre, split_cut, split_none}
use Rattle.iri_references.proofs.Outputs.{other_segment}
use Rattle.iri_references.proofs.Paths.{segments_cut}

-- ---- the loop comes to the path without its dot segments

-- segments that each stand behind a slash, as a text
abbrev text_behind : List (List ℕ) → List ℕ
text_behind [] = []
text_behind (segment ∷ others) = slash ∷ segment ++ text_behind others

joined : (segment : List ℕ) (others : List (List ℕ)) → join_with_byte slash (segment ∷ others) ≡ segment ++ text_behind others
joined segment [] = sym (append-nil segment)
joined segment (next ∷ others) = ap (λ x. segment ++ slash ∷ x) (joined next others)

abbrev AreWhole : List (List ℕ) → Type 0
AreWhole segments = AllByRecursion (NoneAre (λ c. c == slash)) segments

whole_onto : (c : ℕ) (segments : List (List ℕ)) → not (c == slash) ≡ true → AreWhole segments → AreWhole (onto_first c segments)
whole_onto c [] h k = ((h, tt), tt)
whole_onto c (segment ∷ others) h k = ((h, k.0), k.1)

whole_segments : (cs : List ℕ) → AreWhole (segments_of cs)
whole_segments [] = (tt, tt)
whole_segments (c ∷ cs) = elim (cases_Bool (c == slash)) [
  | inl same ↦ subst AreWhole (sym (slice_split-cons_yes (λ c. c == slash) c cs same)) (tt, whole_segments cs)
  | inr other ↦ subst AreWhole (sym (slice_split-cons_no (λ c. c == slash) c cs other)) (whole_onto c (segments_of cs) (not_from_false (c == slash) other) (whole_segments cs))
]

single : (segment : List ℕ) → is_single_dot segment ≡ true → segment ≡ codes "."
single segment h = (bytes_eq-Decides segment (codes ".")).0 h

double : (segment : List ℕ) → is_double_dot segment ≡ true → segment ≡ codes ".."
double segment h = (bytes_eq-Decides segment (codes "..")).0 h

ends_behind : (segments : List (List ℕ)) → ends_segment (text_behind segments) ≡ true
ends_behind [] = refl
ends_behind (segment ∷ others) = refl

lone_slash : (output : List ℕ) → Removes (codes "/") output (output ++ codes "/")
lone_slash output =
    rule_e_slash [] [] refl (record { whole = tt; ends = refl; other = refl })
    (subst (λ x. Removes [] x (output ++ codes "/")) (sym (append-nil (output ++ codes "/"))) (ended (output ++ codes "/")))

-- what is to be shown of segments behind slashes
abbrev Follows : List (List ℕ) → Type 0
Follows segments = (output : List ℕ) → Removes (text_behind segments) output (with_segments output segments)

behind_single : (others : List (List ℕ)) → Follows others → Follows (codes "." ∷ others)
behind_single [] follows output = rule_b_at_end refl (lone_slash output)
behind_single (next ∷ others) follows output =
    rule_b (next ++ text_behind others) refl
    (subst (λ x. Removes (text_behind (next ∷ others)) output (with_segments x (next ∷ others))) (sym (append-nil output)) (follows output))

behind_double : (others : List (List ℕ)) → Follows others → Follows (codes ".." ∷ others)
behind_double [] follows output = rule_c_at_end refl (lone_slash (without_last_segment output))
behind_double (next ∷ others) follows output =
    let before = without_last_segment output in
    rule_c (next ++ text_behind others) refl
    (subst (λ x. Removes (text_behind (next ∷ others)) before (with_segments x (next ∷ others))) (sym (append-nil before)) (follows before))

behind_other : (segment : List ℕ) (others : List (List ℕ)) → NoneAre (λ c. c == slash) segment → is_single_dot segment ≡ false → is_double_dot segment ≡ false → Follows others → Follows (segment ∷ others)
behind_other segment others whole one two follows output =
    rule_e_slash segment (text_behind others) refl
    (record { whole = whole; ends = ends_behind others; other = or_from (is_single_dot segment) (is_double_dot segment) one two })
    (subst (λ x. Removes (text_behind others) (output ++ codes "/" ++ segment) (with_segments x others)) (sym (other_segment output segment (is_empty others) one two)) (follows (output ++ codes "/" ++ segment)))

behind : (segments : List (List ℕ)) → AreWhole segments → Follows segments
behind [] h output = ended output
behind (segment ∷ others) h output = elim (cases_Bool (is_single_dot segment)) [
  | inl one ↦ subst (λ x. Follows (x ∷ others)) (sym (single segment one)) (behind_single others (behind others h.1)) output
  | inr one ↦ elim (cases_Bool (is_double_dot segment)) [
    | inl two ↦ subst (λ x. Follows (x ∷ others)) (sym (double segment two)) (behind_double others (behind others h.1)) output
    | inr two ↦ behind_other segment others h.0 one two (behind others h.1) output
  ]
]

-- what is to be shown of whole paths
abbrev Ends : List (List ℕ) → Type 0
Ends segments = Removes (join_with_byte slash segments) [] (output_of segments)

front_single : (others : List (List ℕ)) → Ends others → Ends (codes "." ∷ others)
front_single [] ends = rule_d_single refl (ended [])
front_single (next ∷ others) ends = rule_a_single (join_with_byte slash (next ∷ others)) refl ends

front_double : (others : List (List ℕ)) → Ends others → Ends (codes ".." ∷ others)
front_double [] ends = rule_d_double refl (ended [])
front_double (next ∷ others) ends = rule_a_double (join_with_byte slash (next ∷ others)) refl ends

front_moved : (segment : List ℕ) (others : List (List ℕ)) → NoneAre (λ c. c == slash) segment → AreWhole others → is_dot_segment segment ≡ false → Removes (segment ++ text_behind others) [] (with_segments segment others)
front_moved [] others whole h other = behind others h []
front_moved (c ∷ cs) others whole h other =
    rule_e c cs (text_behind others) refl (record { whole = whole; ends = ends_behind others; other = other }) (behind others h (c ∷ cs))

front_other : (segment : List ℕ) (others : List (List ℕ)) → NoneAre (λ c. c == slash) segment → AreWhole others → is_dot_segment segment ≡ false → Ends (segment ∷ others)
front_other segment others whole h other =
    let moved = subst (λ x. Removes x [] (with_segments segment others)) (sym (joined segment others)) (front_moved segment others whole h other) in
    subst (Removes (join_with_byte slash (segment ∷ others)) []) (sym (ap (λ b. cond b (output_of others) (with_segments segment others)) other)) moved

front : (segments : List (List ℕ)) → AreWhole segments → Ends segments
front [] h = ended []
front (segment ∷ others) h = elim (cases_Bool (is_single_dot segment)) [
  | inl one ↦ subst (λ x. Ends (x ∷ others)) (sym (single segment one)) (front_single others (front others h.1))
  | inr one ↦ elim (cases_Bool (is_double_dot segment)) [
    | inl two ↦ subst (λ x. Ends (x ∷ others)) (sym (double segment two)) (front_double others (front others h.1))
    | inr two ↦ front_other segment others h.0 h.1 (or_from (is_single_dot segment) (is_double_dot segment) one two)
  ]
]

ends_so : (path : List ℕ) → Removes path [] (without_dot_segments path)
unfolding without_dot_segments
ends_so path = subst (λ x. Removes x [] (output_of (segments_of path))) (join_with_byte-slice_split slash path) (front (segments_of path) (whole_segments path))

-- ---- and to nothing else

-- what is left to be done from an output on
abbrev outcome : List ℕ → List (List ℕ) → List ℕ
outcome output [] = output
outcome output (segment ∷ others) = cond (is_dot_segment segment) (outcome output others) (with_segments (output ++ segment) others)

outcome_at_first : (segments : List (List ℕ)) → outcome [] segments ≡ output_of segments
outcome_at_first [] = refl
outcome_at_first (segment ∷ others) = ap (λ x. cond (is_dot_segment segment) x (with_segments segment others)) (outcome_at_first others)

some_segments : (cs : List ℕ) → is_empty (segments_of cs) ≡ false
some_segments cs = ap is_empty (segments_cut cs)

single_step : (output rest : List ℕ) → with_segments output (codes "." ∷ segments_of rest) ≡ with_segments output (segments_of rest)
single_step output rest =
    ap (λ b. with_segments (output ++ last_slash b) (segments_of rest)) (some_segments rest) ∙ ap (λ x. with_segments x (segments_of rest)) (append-nil output)

double_step : (output rest : List ℕ) → with_segments output (codes ".." ∷ segments_of rest) ≡ with_segments (without_last_segment output) (segments_of rest)
double_step output rest =
    ap (λ b. with_segments (without_last_segment output ++ last_slash b) (segments_of rest)) (some_segments rest)
    ∙ ap (λ x. with_segments x (segments_of rest)) (append-nil (without_last_segment output))

-- the segments behind the end of a segment
abbrev others_of : List ℕ → List (List ℕ)
others_of [] = []
others_of (c ∷ cs) = segments_of cs

cut_segments : (segment rest : List ℕ) → NoneAre (λ c. c == slash) segment → ends_segment rest ≡ true → segments_of (segment ++ rest) ≡ segment ∷ others_of rest
cut_segments segment [] whole ends = ap segments_of (append-nil segment) ∙ split_none (λ c. c == slash) segment whole
cut_segments segment (c ∷ cs) whole ends = split_cut (λ c. c == slash) segment c cs whole ends

moved : (output segment rest : List ℕ) → IsFirstSegment segment rest → outcome (output ++ segment) (segments_of rest) ≡ outcome output (segments_of (segment ++ rest))
moved output segment rest f =
    ap (outcome (output ++ segment)) (cut_segments [] rest tt f.ends)
    ∙ ap (λ x. with_segments x (others_of rest)) (append-nil (output ++ segment))
    ∙ sym (ap (λ b. cond b (outcome output (others_of rest)) (with_segments (output ++ segment) (others_of rest))) f.other)
    ∙ sym (ap (outcome output) (cut_segments segment rest f.whole f.ends))

moved_slash : (output segment rest : List ℕ) → IsFirstSegment segment rest → outcome (output ++ codes "/" ++ segment) (segments_of rest) ≡ with_segments (output ++ []) (segments_of (segment ++ rest))
moved_slash output segment rest f =
    let dots = or_parts (is_single_dot segment) (is_double_dot segment) f.other in
    ap (outcome (output ++ codes "/" ++ segment)) (cut_segments [] rest tt f.ends)
    ∙ ap (λ x. with_segments x (others_of rest)) (append-nil (output ++ codes "/" ++ segment))
    ∙ ap (λ x. with_segments (x ++ codes "/" ++ segment) (others_of rest)) (sym (append-nil output))
    ∙ sym (ap (λ x. with_segments x (others_of rest)) (other_segment (output ++ []) segment (is_empty (others_of rest)) dots.0 dots.1))
    ∙ sym (ap (with_segments (output ++ [])) (cut_segments segment rest f.whole f.ends))

comes : (input output result : List ℕ) → Removes input output result → result ≡ outcome output (segments_of input)
comes input output result (ended same) = sym (append-nil output)
comes input output result (rule_a_double rest e r) = comes rest output result r ∙ sym (ap (λ x. outcome output (segments_of x)) e)
comes input output result (rule_a_single rest e r) = comes rest output result r ∙ sym (ap (λ x. outcome output (segments_of x)) e)
comes input output result (rule_b rest e r) =
    comes (codes "/" ++ rest) output result r ∙ sym (single_step (output ++ []) rest) ∙ sym (ap (λ x. outcome output (segments_of x)) e)
comes input output result (rule_b_at_end e r) =
    comes (codes "/") output result r ∙ append-nil (output ++ [] ++ codes "/") ∙ sym (ap (λ x. outcome output (segments_of x)) e)
comes input output result (rule_c rest e r) =
    comes (codes "/" ++ rest) (without_last_segment output) result r
    ∙ ap (λ x. with_segments x (segments_of rest)) (append-nil (without_last_segment output) ∙ ap without_last_segment (sym (append-nil output)))
    ∙ sym (double_step (output ++ []) rest)
    ∙ sym (ap (λ x. outcome output (segments_of x)) e)
comes input output result (rule_c_at_end e r) =
    comes (codes "/") (without_last_segment output) result r
    ∙ append-nil (without_last_segment output ++ [] ++ codes "/")
    ∙ ap (λ x. x ++ codes "/") (append-nil (without_last_segment output) ∙ ap without_last_segment (sym (append-nil output)))
    ∙ sym (ap (λ x. outcome output (segments_of x)) e)
comes input output result (rule_d_single e r) = comes [] output result r ∙ append-nil output ∙ sym (ap (λ x. outcome output (segments_of x)) e)
comes input output result (rule_d_double e r) = comes [] output result r ∙ append-nil output ∙ sym (ap (λ x. outcome output (segments_of x)) e)
comes input output result (rule_e c cs rest e f r) =
    comes rest (output ++ c ∷ cs) result r ∙ moved output (c ∷ cs) rest f ∙ sym (ap (λ x. outcome output (segments_of x)) e)
comes input output result (rule_e_slash segment rest e f r) =
    comes rest (output ++ codes "/" ++ segment) result r ∙ moved_slash output segment rest f ∙ sym (ap (λ x. outcome output (segments_of x)) e)

comes_so : (path result : List ℕ) → Removes path [] result → result ≡ without_dot_segments path
unfolding without_dot_segments
comes_so path result r = comes path [] result r ∙ outcome_at_first (segments_of path)

pub by_the_rules : (path result : List ℕ) → Removes path [] result ↔ (result ≡ without_dot_segments path)
by_the_rules path result = (comes_so path result, λ e. subst (Removes path []) (sym e) (ends_so path))
