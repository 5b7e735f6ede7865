-- Paths, segment by segment.
use Rattle.std.proofs.Common.{◌≡◌, ℕ, ◌+◌, ◌<◌, arith, length, length-append, Bool, true, false, List, [], ◌∷◌, ◌++◌, Option, Some, None, cond, refl, sym, ap, ◌∙◌}
use Rattle.std.specs.Prelude.{◌==◌, ◌||◌, is_none}
use Rattle.std.proofs.lemmas.Option.{none-some, same_Some}
use Rattle.std.specs.List.{before_last, list_any}
use Rattle.iri_references.specs.References.{before, behind, is_empty, slash}
use Rattle.iri_references.specs.DotSegments.{is_dot_segment, output_of, segments_of, with_segment, with_segments, without_dot_segments, without_last_segment}
use Rattle.iri_references.specs.Resolution.{through_last_slash}
use Rattle.iri_references.specs.Views.{segments_behind}
use Rattle.iri_references.proofs.Marks.{FirstMark, NoneAre, any_cut, any_none, at_mark, before_last_cut, before_last_none, first_mark, split_cut, split_none, without_mark}
use Rattle.iri_references.proofs.Marks.FirstMark.{nowhere, between}

-- the last slash of a path
pub through_at : (cs xs ys : List ℕ) → cs ≡ xs ++ slash ∷ ys → NoneAre (λ c. c == slash) ys → through_last_slash cs ≡ xs ++ slash ∷ []
through_at cs xs ys e last =
    let p : ℕ → Bool = λ c. c == slash in
    ap (λ b. cond b (before_last p cs ++ slash ∷ []) []) (ap (list_any p) e ∙ any_cut p xs slash ys refl)
    ∙ ap (λ x. x ++ slash ∷ []) (before_last_cut p cs xs slash ys e refl last)

pub through_none : (cs : List ℕ) → NoneAre (λ c. c == slash) cs → through_last_slash cs ≡ []
through_none cs none =
    let p : ℕ → Bool = λ c. c == slash in
    ap (λ b. cond b (before_last p cs ++ slash ∷ []) []) (any_none p cs none)

pub without_last_at : (cs xs ys : List ℕ) → cs ≡ xs ++ slash ∷ ys → NoneAre (λ c. c == slash) ys → without_last_segment cs ≡ xs
without_last_at cs xs ys e last = before_last_cut (λ c. c == slash) cs xs slash ys e refl last

pub without_last_none : (cs : List ℕ) → NoneAre (λ c. c == slash) cs → without_last_segment cs ≡ []
without_last_none cs none = before_last_none (λ c. c == slash) cs none

segments_by : (cs : List ℕ) → FirstMark slash cs → segments_of cs ≡ before slash cs ∷ segments_behind (behind slash cs)
segments_by cs (nowhere fresh) =
    let un = without_mark slash cs fresh in
    split_none (λ c. c == slash) cs fresh ∙ ap (λ x. x ∷ []) (sym un.front) ∙ ap (λ o. before slash cs ∷ segments_behind o) (sym un.back)
segments_by cs (between xs ys e fresh) =
    let cut = at_mark slash cs xs ys e fresh in
    ap segments_of e
    ∙ split_cut (λ c. c == slash) xs slash ys fresh refl
    ∙ ap (λ x. x ∷ segments_of ys) (sym cut.front)
    ∙ ap (λ o. before slash cs ∷ segments_behind o) (sym cut.back)

-- the segments of a path are what stands before its first slash, and those of the rest
pub segments_cut : (cs : List ℕ) → segments_of cs ≡ before slash cs ∷ segments_behind (behind slash cs)
segments_cut cs = segments_by cs (first_mark slash cs)

output_cut : (cs : List ℕ) → without_dot_segments cs ≡ output_of (before slash cs ∷ segments_behind (behind slash cs))
unfolding without_dot_segments
output_cut cs = ap output_of (segments_cut cs)

-- a dot segment in front of any slash, and any other
pub front_by : (segment : List ℕ) (others : List (List ℕ)) (b : Bool) → is_dot_segment segment ≡ b → output_of (segment ∷ others) ≡ cond b (output_of others) (with_segments segment others)
front_by segment others b h = ap (λ b. cond b (output_of others) (with_segments segment others)) h

pub front_dots : (cs : List ℕ) (others : Option (List ℕ)) → is_dot_segment (before slash cs) ≡ true → others ≡ behind slash cs → without_dot_segments cs ≡ output_of (segments_behind others)
front_dots cs others h e = output_cut cs ∙ front_by (before slash cs) (segments_behind (behind slash cs)) true h ∙ ap (λ o. output_of (segments_behind o)) (sym e)

pub front_segment : (cs : List ℕ) → is_dot_segment (before slash cs) ≡ false → without_dot_segments cs ≡ with_segments (before slash cs) (segments_behind (behind slash cs))
front_segment cs h = output_cut cs ∙ front_by (before slash cs) (segments_behind (behind slash cs)) false h

pub output_of_some : (text : List ℕ) → output_of (segments_behind (Some text)) ≡ without_dot_segments text
unfolding without_dot_segments
output_of_some text = refl

none_behind : (others : Option (List ℕ)) → is_empty (segments_behind others) ≡ is_none others
none_behind None = refl
none_behind (Some text) = ap is_empty (segments_cut text)

-- one more segment behind a slash
pub one_more : (output text : List ℕ) → with_segments output (segments_behind (Some text)) ≡ with_segments (with_segment output (before slash text) (is_none (behind slash text))) (segments_behind (behind slash text))
one_more output text =
    ap (with_segments output) (segments_cut text)
    ∙ ap (λ b. with_segments (with_segment output (before slash text) b) (segments_behind (behind slash text))) (none_behind (behind slash text))

-- what stands behind the first slash is shorter
shorter_by : (cs others : List ℕ) → FirstMark slash cs → Some others ≡ behind slash cs → length others < length cs
shorter_by cs others (nowhere fresh) e = absurd (none-some others (sym (e ∙ (without_mark slash cs fresh).back)))
shorter_by cs others (between xs ys parts fresh) e =
    let same : others ≡ ys = same_Some others ys (e ∙ (at_mark slash cs xs ys parts fresh).back) in
    let size : length cs ≡ length xs + length (slash ∷ ys) = ap (λ (x : List ℕ). length x) parts ∙ length-append xs (slash ∷ ys) in
    let as_long : length others ≡ length ys = ap (λ (x : List ℕ). length x) same in
    omega arith

pub shorter : (cs others : List ℕ) → Some others ≡ behind slash cs → length others < length cs
shorter cs others e = shorter_by cs others (first_mark slash cs) e

abbrev pub size_behind : Option (List ℕ) → ℕ
size_behind None = 0
size_behind (Some text) = length text + 1

pub falls : (text : List ℕ) (others : Option (List ℕ)) → others ≡ behind slash text → size_behind others < length text + 1
falls text None e = omega arith
falls text (Some others) e = let less = shorter text others e in omega arith

pub empty_path : without_dot_segments [] ≡ []
unfolding without_dot_segments
empty_path = refl

-- where a dot segment in front of any slash is dropped
pub next_front : (cs others : List ℕ) → is_dot_segment (before slash cs) ≡ true → Some others ≡ behind slash cs → without_dot_segments others ≡ without_dot_segments cs
next_front cs others h e = sym (front_dots cs (Some others) h e ∙ output_of_some others)

pub no_front : (cs : List ℕ) → is_dot_segment (before slash cs) ≡ true → None ≡ behind slash cs → without_dot_segments [] ≡ without_dot_segments cs
no_front cs h e = empty_path ∙ sym (front_dots cs None h e)

-- dot segments, one segment after the other
pub dots_behind : (text segment : List ℕ) (others : Option (List ℕ)) → segment ≡ before slash text → others ≡ behind slash text → is_dot_segment segment ≡ false → list_any is_dot_segment (segments_behind others) ≡ list_any is_dot_segment (segments_behind (Some text))
dots_behind text segment others s b other =
    ap (λ o. list_any is_dot_segment (segments_behind o)) b
    ∙ sym (ap (list_any is_dot_segment) (segments_cut text) ∙ ap (λ d. d || list_any is_dot_segment (segments_behind (behind slash text))) (ap is_dot_segment (sym s) ∙ other))
