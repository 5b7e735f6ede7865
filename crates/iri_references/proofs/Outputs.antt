-- The output of a path, as the code adds to it.
use Rattle.std.proofs.Common.{◌≡◌, ℕ, lit<, Bool, false, not, List, ◌++◌, Option, Some, None, Result, Ok, Err, cond, sym, ap, ◌∙◌, take}
use Rattle.std.specs.Prelude.{OnOk, codes, is_none, is_ok, is_some, unwrap_or}
use Rattle.std.specs.Char.{encode_utf8}
use Rattle.std.specs.Option.{MatchOption}
use Rattle.std.specs.Str.{IsUtf8, chars}
use Rattle.std.specs.Str.Pattern.{MatchBeginsAt, RFindsChar}
use Rattle.std.proofs.lemmas.Bool.{not-false, not-true}
use Rattle.std.proofs.lemmas.Str.{chars-append, chars-nil}
use Rattle.iri_references.specs.References.{before, behind, slash}
use Rattle.iri_references.specs.DotSegments.{is_double_dot, is_single_dot, last_slash, with_segment, with_segments, without_last_segment}
use Rattle.iri_references.specs.Views.{seen, segments_behind}
use denote.Ref.{Bor}
use Rattle.iri_references.proofs.Characters.{chars_push, none_of, rfind_cut}
use Rattle.iri_references.proofs.Paths.{one_more, without_last_at, without_last_none}

-- a slash was pushed, where there was memory
pub pushed : {T E : Type 0} (r : Result T E) (old new : List ℕ) → IsUtf8 old → new ≡ cond (is_ok r) (old ++ encode_utf8 slash) old → OnOk r (chars new ≡ chars old ++ codes "/")
pushed (Ok u) old new utf8 e = ap chars e ∙ chars_push old slash utf8 (lit< tt)
pushed (Err e) old new utf8 h = tt

pub other_segment : (output segment : List ℕ) (is_last : Bool) → is_single_dot segment ≡ false → is_double_dot segment ≡ false → with_segment output segment is_last ≡ output ++ codes "/" ++ segment
other_segment output segment is_last single double =
    ap (λ b. cond b (output ++ last_slash is_last) (cond (is_double_dot segment) (without_last_segment output ++ last_slash is_last) (output ++ codes "/" ++ segment))) single
    ∙ ap (λ b. cond b (without_last_segment output ++ last_slash is_last) (output ++ codes "/" ++ segment)) double

-- a segment that is no dot segment was pushed behind a slash
pub added : {T E : Type 0} (r : Result T E) (old middle new segment : List ℕ) (is_last : Bool) → IsUtf8 old → IsUtf8 middle → middle ≡ old ++ encode_utf8 slash → new ≡ cond (is_ok r) (middle ++ segment) middle → is_single_dot (chars segment) ≡ false → is_double_dot (chars segment) ≡ false → OnOk r (chars new ≡ with_segment (chars old) (chars segment) is_last)
added (Ok u) old middle new segment is_last utf8 whole m e single double =
    ap chars e
    ∙ chars-append middle segment whole
    ∙ ap (λ x. x ++ chars segment) (ap chars m ∙ chars_push old slash utf8 (lit< tt))
    ∙ sym (other_segment (chars old) (chars segment) is_last single double)
added (Err e) old middle new segment is_last utf8 whole m h single double = tt

-- what `rfind` finds is cut off
pub removed : (o : Option ℕ) (bs : List ℕ) → IsUtf8 bs → MatchOption o (RFindsChar slash bs None) (MatchBeginsAt (RFindsChar slash) bs) → chars (take (unwrap_or o 0) bs) ≡ without_last_segment (chars bs)
removed None bs u h = chars-nil ∙ sym (without_last_none (chars bs) (none_of _ bs u h))
removed (Some i) bs u h =
    let found = rfind_cut slash bs i u h (lit< tt) in
    sym (without_last_at (chars bs) (chars (take i bs)) found.behind found.parts found.last)

is_last_by : (others : Option (Bor (List ℕ))) (is_last : Bool) → is_some others ≡ not is_last → is_last ≡ is_none (seen others)
is_last_by None is_last h = not-false is_last (sym h)
is_last_by (Some text) is_last h = not-true is_last (sym h)

-- one more segment, where what is cut at a slash has it and the rest
pub added_more : (output new segment text : List ℕ) (others : Option (Bor (List ℕ))) (is_last : Bool) → segment ≡ before slash text → seen others ≡ behind slash text → is_some others ≡ not is_last → new ≡ with_segment output segment is_last → with_segments new (segments_behind (seen others)) ≡ with_segments output (segments_behind (Some text))
added_more output new segment text others is_last s b l n =
    let last : is_last ≡ is_none (behind slash text) = is_last_by others is_last l ∙ ap is_none b in
    ap (λ x. with_segments x (segments_behind (seen others))) (n ∙ ap (λ x. with_segment output x is_last) s ∙ ap (with_segment output (before slash text)) last)
    ∙ ap (λ x. with_segments (with_segment output (before slash text) (is_none (behind slash text))) (segments_behind x)) b
    ∙ sym (one_more output text)
