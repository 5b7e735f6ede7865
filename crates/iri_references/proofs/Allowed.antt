-- What is made of characters that an IRI may have has no others.
use Rattle.std.proofs.Common.{◌≡◌, inl, inr, ℕ, Bool, true, false, not, arith, List, [], ◌∷◌, ◌++◌, Option, Some, None, cond, refl, sym, ◌∙◌, subst, take, drop, take-append-drop, append_assoc}
use Rattle.std.specs.Prelude.{◌==◌, ◌&&◌, IfSome, codes, is_some}
use Rattle.std.specs.Char.{is_ascii_alphabetic}
use Rattle.std.specs.List.{AllByRecursion, after_first, before_last, list_all, list_any, onto_first, position_or_len}
use Rattle.std.proofs.lemmas.Bool.{and_parts, cases_Bool, false≢true}
use Rattle.std.proofs.lemmas.Bool.Decides.{nat_tests}
use Rattle.std.proofs.lemmas.List.Splits.{slice_split-cons_no, slice_split-cons_yes}
use Rattle.owl_characters.specs.Iri.{AllAre, IsIri, IsScheme, is_iri_character, is_scheme_character}
use Rattle.owl_characters.proofs.IriLaws.{scheme_characters}
use Rattle.owl_characters.proofs.AllAreLaws.{AllAre-append, AllAre-back, AllAre-weaker, all_are}
use Rattle.iri_references.specs.References.{Parts, before, behind, colon, from_mark, has_authority, has_scheme, hierarchy_of, is_empty, is_scheme, parts_of, slash}
use Rattle.iri_references.specs.DotSegments.{is_dot_segment, is_double_dot, is_single_dot, last_slash, output_of, segments_of, with_segment, with_segments, without_dot_segments, without_last_segment}
use Rattle.iri_references.specs.Resolution.{front_of, marked, merged, recomposed, resolved_without_scheme, target, target_by, through_last_slash}
use Rattle.iri_references.proofs.Marks.{FirstMark, IsCut, at_mark, first_mark, without_mark}
use Rattle.iri_references.proofs.Marks.FirstMark.{nowhere, between}

abbrev Fit : List ℕ → Type 0
Fit cs = AllAre is_iri_character cs

abbrev MayFit : Option (List ℕ) → Type 0
MayFit part = IfSome part Fit

pub all_front : (p : ℕ → Bool) (xs ys : List ℕ) → AllAre p (xs ++ ys) → AllAre p xs
all_front p [] ys h = tt
all_front p (x ∷ xs) ys h = (h.0, all_front p xs ys h.1)

pub all_take : (p : ℕ → Bool) (n : ℕ) (cs : List ℕ) → AllAre p cs → AllAre p (take n cs)
all_take p n cs h = all_front p (take n cs) (drop n cs) (subst (AllAre p) (sym (take-append-drop n cs)) h)

all_drop : (p : ℕ → Bool) (n : ℕ) (cs : List ℕ) → AllAre p cs → AllAre p (drop n cs)
all_drop p n cs h = AllAre-back p (take n cs) (drop n cs) (subst (AllAre p) (sym (take-append-drop n cs)) h)

-- one of two, whichever the test says
fit_cond : (b : Bool) (xs ys : List ℕ) → Fit xs → Fit ys → Fit (cond b xs ys)
fit_cond true xs ys h k = h
fit_cond false xs ys h k = k

may_fit : (b : Bool) (xs : List ℕ) → Fit xs → MayFit (cond b (Some xs) None)
may_fit true xs h = h
may_fit false xs h = tt

fit_before : (mark : ℕ) (cs : List ℕ) → Fit cs → Fit (before mark cs)
fit_before mark cs h = all_take is_iri_character (position_or_len (λ c. c == mark) cs) cs h

fit_behind : (mark : ℕ) (cs : List ℕ) → Fit cs → MayFit (behind mark cs)
fit_behind mark cs h = may_fit (list_any (λ c. c == mark) cs) (after_first (λ c. c == mark) cs) (all_drop is_iri_character _ cs h)

-- the parts of a text
record AreFit (parts : Parts) : Type 0 where
  authority : MayFit parts.authority
  path : Fit parts.path
  query : MayFit parts.query
  fragment : MayFit parts.fragment

fit_parts : (cs : List ℕ) → Fit cs → AreFit (parts_of cs)
unfolding parts_of
fit_parts cs h =
    let front : Fit (before 0x23 cs) = fit_before 0x23 cs h in
    let hierarchy : Fit (hierarchy_of cs) = fit_before 0x3F (before 0x23 cs) front in
    let behind_slashes : Fit (drop 2 (hierarchy_of cs)) = all_drop is_iri_character 2 (hierarchy_of cs) hierarchy in
    record {
      authority = may_fit (has_authority (hierarchy_of cs)) (before slash (drop 2 (hierarchy_of cs))) (fit_before slash (drop 2 (hierarchy_of cs)) behind_slashes);
      path = fit_cond (has_authority (hierarchy_of cs)) (from_mark slash (drop 2 (hierarchy_of cs))) (hierarchy_of cs) (all_drop is_iri_character _ (drop 2 (hierarchy_of cs)) behind_slashes) hierarchy;
      query = fit_behind 0x3F (before 0x23 cs) front;
      fragment = fit_behind 0x23 cs h;
    }

-- the segments of a path
fit_onto : (c : ℕ) (parts : List (List ℕ)) → is_iri_character c ≡ true → AllByRecursion Fit parts → AllByRecursion Fit (onto_first c parts)
fit_onto c [] h k = ((h, tt), tt)
fit_onto c (part ∷ parts) h k = ((h, k.0), k.1)

fit_segments : (cs : List ℕ) → Fit cs → AllByRecursion Fit (segments_of cs)
fit_segments [] h = (tt, tt)
fit_segments (c ∷ cs) h = elim (cases_Bool (c == slash)) [
  | inl same ↦ subst (AllByRecursion Fit) (sym (slice_split-cons_yes (λ c. c == slash) c cs same)) (tt, fit_segments cs h.1)
  | inr other ↦ subst (AllByRecursion Fit) (sym (slice_split-cons_no (λ c. c == slash) c cs other)) (fit_onto c (segments_of cs) h.0 (fit_segments cs h.1))
]

fit_last : (is_last : Bool) → Fit (last_slash is_last)
fit_last true = (refl, tt)
fit_last false = tt

fit_append : (xs ys : List ℕ) → Fit xs → Fit ys → Fit (xs ++ ys)
fit_append xs ys h k = AllAre-append is_iri_character xs ys h k

fit_with : (output segment : List ℕ) (is_last : Bool) → Fit output → Fit segment → Fit (with_segment output segment is_last)
fit_with output segment is_last h k =
    fit_cond (is_single_dot segment) _ _ (fit_append output (last_slash is_last) h (fit_last is_last))
    (fit_cond (is_double_dot segment) _ _
    (fit_append (without_last_segment output) (last_slash is_last) (all_take is_iri_character _ output h) (fit_last is_last))
    (fit_append (output ++ codes "/") segment (fit_append output (codes "/") h (refl, tt)) k))

fit_output : (output : List ℕ) (segments : List (List ℕ)) → Fit output → AllByRecursion Fit segments → Fit (with_segments output segments)
fit_output output [] h k = h
fit_output output (segment ∷ others) h k = fit_output (with_segment output segment (is_empty others)) others (fit_with output segment (is_empty others) h k.0) k.1

fit_front : (segments : List (List ℕ)) → AllByRecursion Fit segments → Fit (output_of segments)
fit_front [] k = tt
fit_front (segment ∷ others) k = fit_cond (is_dot_segment segment) (output_of others) (with_segments segment others) (fit_front others k.1) (fit_output segment others k.0 k.1)

fit_path : (path : List ℕ) → Fit path → Fit (without_dot_segments path)
unfolding without_dot_segments
fit_path path h = fit_front (segments_of path) (fit_segments path h)

-- a path behind the base's
fit_merged : (base : Parts) (path : List ℕ) → Fit base.path → Fit path → Fit (merged base path)
fit_merged base path h k =
    let through : Fit (through_last_slash base.path) = fit_cond (list_any (λ c. c == slash) base.path) _ _ (fit_append (before_last (λ c. c == slash) base.path) (codes "/") (all_take is_iri_character _ base.path h) (refl, tt)) tt in
    fit_append (front_of base.authority base.path) path (fit_cond (is_some base.authority && is_empty base.path) _ _ (refl, tt) through) k

-- what a reference stands for
fit_either : (b : Bool) (parts others : Parts) → AreFit parts → AreFit others → AreFit (cond b parts others)
fit_either true parts others h k = h
fit_either false parts others h k = k

fit_target_by : (base : Parts) (authority : Option (List ℕ)) (path : List ℕ) (query fragment : Option (List ℕ)) → AreFit base → MayFit authority → Fit path → MayFit query → MayFit fragment → AreFit (target_by base authority path query fragment)
fit_target_by base (Some authority) path query fragment b a p q f = record { authority = a; path = fit_path path p; query = q; fragment = f }
fit_target_by base None [] None fragment b a p q f = record { authority = b.authority; path = b.path; query = b.query; fragment = f }
fit_target_by base None [] (Some query) fragment b a p q f = record { authority = b.authority; path = b.path; query = q; fragment = f }
fit_target_by base None (c ∷ cs) query fragment b a p q f =
    fit_either (c == slash) _ _
    (record { authority = b.authority; path = fit_path (c ∷ cs) p; query = q; fragment = f })
    (record { authority = b.authority; path = fit_path (merged base (c ∷ cs)) (fit_merged base (c ∷ cs) b.path p); query = q; fragment = f })

fit_target : (base reference : Parts) → AreFit base → AreFit reference → AreFit (target base reference)
unfolding target
fit_target base reference b r =
    fit_target_by base reference.authority reference.path reference.query reference.fragment b r.authority r.path r.query r.fragment

fit_marked : (mark : List ℕ) (part : Option (List ℕ)) → Fit mark → MayFit part → Fit (marked mark part)
fit_marked mark None h k = tt
fit_marked mark (Some part) h k = fit_append mark part h k

recomposed_iri : (scheme : List ℕ) (parts : Parts) → IsScheme scheme → AreFit parts → IsIri (recomposed scheme parts)
unfolding recomposed
recomposed_iri scheme parts named h =
    let authority = marked (codes "//") parts.authority in
    let query = marked (codes "?") parts.query in
    let fragment = marked (codes "#") parts.fragment in
    record {
      scheme = scheme;
      rest = authority ++ (parts.path ++ (query ++ fragment));
      parts = simp append_assoc;
      named = named;
      allowed =
          fit_append authority (parts.path ++ (query ++ fragment)) (fit_marked (codes "//") parts.authority (refl, (refl, tt)) h.authority)
          (fit_append parts.path (query ++ fragment) h.path
          (fit_append query fragment (fit_marked (codes "?") parts.query (refl, tt) h.query) (fit_marked (codes "#") parts.fragment (refl, tt) h.fragment)));
    }

-- the scheme of an IRI stands before its first colon
no_colon : (c : ℕ) → is_scheme_character c ≡ true → not (c == colon) ≡ true
no_colon c h = grind (arith, nat_tests)

iri_cut : (base : List ℕ) (i : IsIri base) → IsCut colon base i.scheme i.rest
iri_cut base i = at_mark colon base i.scheme i.rest i.parts (AllAre-weaker is_scheme_character (λ c. not (c == colon)) no_colon i.scheme (scheme_characters i.scheme i.named))

pub without_scheme_iri : (base reference : List ℕ) → IsIri base → Fit reference → IsIri (resolved_without_scheme base reference)
unfolding resolved_without_scheme
without_scheme_iri base reference i h =
    let cut = iri_cut base i in
    recomposed_iri (before colon base) (target (parts_of (after_first (λ c. c == colon) base)) (parts_of reference))
    (subst IsScheme (sym cut.front) i.named)
    (fit_target (parts_of (after_first (λ c. c == colon) base)) (parts_of reference) (fit_parts _ (subst Fit (sym cut.after) i.allowed)) (fit_parts reference h))

-- a reference with a scheme is an IRI
scheme_from_test : (cs : List ℕ) → is_scheme cs ≡ true → IsScheme cs
scheme_from_test [] h = false≢true h
scheme_from_test (c ∷ cs) h =
    let both = and_parts (is_ascii_alphabetic c) (list_all is_scheme_character (c ∷ cs)) h in
    (both.0, ((all_are is_scheme_character (c ∷ cs)).0 both.1).1)

iri_by : (cs : List ℕ) → FirstMark colon cs → Fit cs → has_scheme cs ≡ true → IsIri cs
iri_by cs (nowhere fresh) h t =
    absurd (false≢true (sym (without_mark colon cs fresh).any ∙ (and_parts (list_any (λ c. c == colon) cs) (is_scheme (before colon cs)) t).0))
iri_by cs (between xs ys e fresh) h t =
    let cut = at_mark colon cs xs ys e fresh in
    let named = (and_parts (list_any (λ c. c == colon) cs) (is_scheme (before colon cs)) t).1 in
    record {
      scheme = xs;
      rest = ys;
      parts = e;
      named = subst IsScheme cut.front (scheme_from_test (before colon cs) named);
      allowed = (AllAre-back is_iri_character xs (colon ∷ ys) (subst Fit e h)).1;
    }

pub with_scheme_iri : (cs : List ℕ) → Fit cs → has_scheme cs ≡ true → IsIri cs
with_scheme_iri cs h t = iri_by cs (first_mark colon cs) h t
