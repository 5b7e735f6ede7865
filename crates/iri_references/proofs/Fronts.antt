-- What a reference stands for behind the front of a base.
use Rattle.std.proofs.Common.{◌≡◌, ℕ, Bool, true, false, not, List, [], ◌∷◌, ◌++◌, Option, Some, None, inl, inr, cond, refl, sym, ap, ◌∙◌, subst, drop, append_assoc}
use Rattle.std.specs.Prelude.{◌==◌, ◌||◌, codes, is_some}
use Rattle.std.specs.List.{after_first, list_any, onto_first}
use Rattle.std.specs.Option.{option_or}
use Rattle.std.proofs.lemmas.Bool.{cases_Bool, eqb-true, not_from_false, or_parts, true≢false}
use Rattle.std.proofs.lemmas.List.{append-nil, append_cancel_left, append_cancel_right}
use Rattle.std.proofs.lemmas.Option.{none-some}
use Rattle.std.proofs.lemmas.List.Splits.{slice_split-cons_no, slice_split-cons_yes}
use Rattle.owl_characters.proofs.AllAreLaws.{AllAre-append}
use Rattle.owl_characters.specs.Iri.{AllAre, IsIri, is_iri_character}
use Rattle.owl_characters.specs.Names.{begins_with}
use Rattle.iri_references.specs.References.{Parts, authority_of, before, behind, colon, from_mark, has_authority, hierarchy_of, is_empty, number_sign, parts_of, path_of, question_mark, slash}
use Rattle.iri_references.specs.DotSegments.{is_dot_segment, is_double_dot, is_single_dot, output_of, segments_of, with_segments, without_dot_segments}
use Rattle.iri_references.specs.Resolution.{front_of, marked, merged, parts, recomposed, resolved, resolved_without_scheme, target, through_last_slash}
use Rattle.iri_references.specs.Views.{has_own_path, keeps_path, segments_behind}
use Rattle.iri_references.proofs.Allowed.{all_front, all_take, without_scheme_iri}
use Rattle.iri_references.specs.Bases.{EndsPath, HaveNoDots, IsBase, IsCutBehind, IsCutFront, IsFront, Lacks}
use Rattle.iri_references.proofs.Authorities.{authority_at, path_at}
use Rattle.iri_references.proofs.Marks.{FirstMark, at_mark, first_mark, split_cut, without_mark}
use Rattle.iri_references.proofs.Marks.FirstMark.{nowhere, between}
use Rattle.iri_references.proofs.Outputs.{other_segment}
use Rattle.iri_references.proofs.Paths.{front_by, segments_cut, through_at, through_none}
use Rattle.iri_references.proofs.Targets.{by_base, moved_target}

-- lists that are cut at a mark
lacks_by : (mark : ℕ) (cs : List ℕ) → FirstMark mark cs → Lacks mark (before mark cs)
lacks_by mark cs (nowhere fresh) = subst (Lacks mark) (sym (without_mark mark cs fresh).front) fresh
lacks_by mark cs (between xs ys e fresh) = subst (Lacks mark) (sym (at_mark mark cs xs ys e fresh).front) fresh

pub lacks_mark : (mark : ℕ) (cs : List ℕ) → Lacks mark (before mark cs)
lacks_mark mark cs = lacks_by mark cs (first_mark mark cs)

before_by : (mark : ℕ) (xs ys : List ℕ) → Lacks mark xs → FirstMark mark ys → before mark (xs ++ ys) ≡ xs ++ before mark ys
before_by mark xs ys h (nowhere fresh) =
    (without_mark mark (xs ++ ys) (AllAre-append (λ c. not (c == mark)) xs ys h fresh)).front ∙ ap (λ z. xs ++ z) (sym (without_mark mark ys fresh).front)
before_by mark xs ys h (between zs ws e fresh) =
    (at_mark mark (xs ++ ys) (xs ++ zs) ws (ap (λ z. xs ++ z) e ∙ sym (append_assoc xs zs (mark ∷ ws))) (AllAre-append (λ c. not (c == mark)) xs zs h fresh)).front
    ∙ ap (λ z. xs ++ z) (sym (at_mark mark ys zs ws e fresh).front)

before_behind : (mark : ℕ) (xs ys : List ℕ) → Lacks mark xs → before mark (xs ++ ys) ≡ xs ++ before mark ys
before_behind mark xs ys h = before_by mark xs ys h (first_mark mark ys)

pub hierarchy_behind : (xs ys : List ℕ) → Lacks question_mark xs → Lacks number_sign xs → hierarchy_of (xs ++ ys) ≡ xs ++ hierarchy_of ys
hierarchy_behind xs ys q f = ap (before question_mark) (before_behind number_sign xs ys f) ∙ before_behind question_mark xs (before number_sign ys) q

marked_by : (mark : ℕ) (cs : List ℕ) → FirstMark mark cs → before mark cs ++ marked (mark ∷ []) (behind mark cs) ≡ cs
marked_by mark cs (nowhere fresh) =
    let un = without_mark mark cs fresh in
    ap (λ x. x ++ marked (mark ∷ []) (behind mark cs)) un.front ∙ ap (λ o. cs ++ marked (mark ∷ []) o) un.back ∙ append-nil cs
marked_by mark cs (between xs ys e fresh) =
    let cut = at_mark mark cs xs ys e fresh in
    ap (λ x. x ++ marked (mark ∷ []) (behind mark cs)) cut.front ∙ ap (λ o. xs ++ marked (mark ∷ []) o) cut.back ∙ sym e

marked_again : (mark : ℕ) (cs : List ℕ) → before mark cs ++ marked (mark ∷ []) (behind mark cs) ≡ cs
marked_again mark cs = marked_by mark cs (first_mark mark cs)

-- paths without dot segments
abbrev tails : List (List ℕ) → List ℕ
tails [] = []
tails (segment ∷ others) = slash ∷ segment ++ tails others

abbrev joined : List (List ℕ) → List ℕ
joined [] = []
joined (segment ∷ others) = segment ++ tails others

with_tails : (output : List ℕ) (segments : List (List ℕ)) → HaveNoDots segments → with_segments output segments ≡ output ++ tails segments
with_tails output [] h = sym (append-nil output)
with_tails output (segment ∷ others) h =
    let no = or_parts (is_single_dot segment) (is_double_dot segment) h.0 in
    ap (λ o. with_segments o others) (other_segment output segment (is_empty others) no.0 no.1)
    ∙ with_tails (output ++ codes "/" ++ segment) others h.1
    ∙ ap (λ o. o ++ tails others) (append_assoc output (codes "/") segment)
    ∙ append_assoc output (slash ∷ segment) (tails others)

output_joined : (segments : List (List ℕ)) → HaveNoDots segments → output_of segments ≡ joined segments
output_joined [] h = refl
output_joined (segment ∷ others) h = front_by segment others false h.0 ∙ with_tails segment others h.1

joined_onto : (c : ℕ) (segments : List (List ℕ)) → joined (onto_first c segments) ≡ c ∷ joined segments
joined_onto c [] = refl
joined_onto c (segment ∷ others) = refl

tails_joined : (segments : List (List ℕ)) → is_empty segments ≡ false → tails segments ≡ slash ∷ joined segments
tails_joined [] h = absurd (true≢false h)
tails_joined (segment ∷ others) h = refl

joined_segments : (cs : List ℕ) → joined (segments_of cs) ≡ cs
joined_segments [] = refl
joined_segments (c ∷ cs) = elim (cases_Bool (c == slash)) [
  | inl same ↦
      ap joined (slice_split-cons_yes (λ c. c == slash) c cs same)
      ∙ tails_joined (segments_of cs) (ap is_empty (segments_cut cs))
      ∙ ap (λ x. slash ∷ x) (joined_segments cs)
      ∙ ap (λ d. d ∷ cs) (sym (eqb-true c slash same))
  | inr other ↦
      ap joined (slice_split-cons_no (λ c. c == slash) c cs other)
      ∙ joined_onto c (segments_of cs)
      ∙ ap (λ x. c ∷ x) (joined_segments cs)
]

plain_path : (cs : List ℕ) → HaveNoDots (segments_of cs) → without_dot_segments cs ≡ cs
unfolding without_dot_segments
plain_path cs h = output_joined (segments_of cs) h ∙ joined_segments cs

-- the segments before a slash and behind it
onto_more : (c : ℕ) (xs ys : List (List ℕ)) → is_empty xs ≡ false → onto_first c (xs ++ ys) ≡ onto_first c xs ++ ys
onto_more c [] ys h = absurd (true≢false h)
onto_more c (x ∷ xs) ys h = refl

pub segments_of_two : (xs ys : List ℕ) → segments_of (xs ++ slash ∷ ys) ≡ segments_of xs ++ segments_of ys
segments_of_two [] ys = slice_split-cons_yes (λ c. c == slash) slash ys refl
segments_of_two (x ∷ xs) ys = elim (cases_Bool (x == slash)) [
  | inl same ↦
      slice_split-cons_yes (λ c. c == slash) x (xs ++ slash ∷ ys) same
      ∙ ap (λ s. [] ∷ s) (segments_of_two xs ys)
      ∙ ap (λ s. s ++ segments_of ys) (sym (slice_split-cons_yes (λ c. c == slash) x xs same))
  | inr other ↦
      slice_split-cons_no (λ c. c == slash) x (xs ++ slash ∷ ys) other
      ∙ ap (onto_first x) (segments_of_two xs ys)
      ∙ onto_more x (segments_of xs) (segments_of ys) (ap is_empty (segments_cut xs))
      ∙ ap (λ s. s ++ segments_of ys) (sym (slice_split-cons_no (λ c. c == slash) x xs other))
]

pub no_dots_both : (xs ys : List (List ℕ)) → HaveNoDots xs → HaveNoDots ys → HaveNoDots (xs ++ ys)
no_dots_both [] ys h k = k
no_dots_both (x ∷ xs) ys h k = (h.0, no_dots_both xs ys h.1 k)

pub no_dots_front : (xs ys : List (List ℕ)) → HaveNoDots (xs ++ ys) → HaveNoDots xs
no_dots_front [] ys h = tt
no_dots_front (x ∷ xs) ys h = (h.0, no_dots_front xs ys h.1)

-- an authority, and the path behind it up to a slash
record IsPlace (place : List ℕ) : Type 0 where
  authority : List ℕ
  tail : List ℕ
  whole : place ≡ authority ++ tail
  plain : HaveNoDots (segments_of tail)
  first : (more : List ℕ) → before slash (place ++ slash ∷ more) ≡ authority
  path : (more : List ℕ) → from_mark slash (place ++ slash ∷ more) ≡ tail ++ slash ∷ more

place_by : (place : List ℕ) → HaveNoDots (drop 1 (segments_of place)) → FirstMark slash place → IsPlace place
place_by place h (nowhere fresh) = record {
  authority = place;
  tail = [];
  whole = sym (append-nil place);
  plain = (refl, tt);
  first = λ more. (at_mark slash (place ++ slash ∷ more) place more refl fresh).front;
  path = λ more. (at_mark slash (place ++ slash ∷ more) place more refl fresh).rest;
}
place_by place h (between xs ys e fresh) =
    let segments : segments_of place ≡ xs ∷ segments_of ys = ap segments_of e ∙ split_cut (λ c. c == slash) xs slash ys fresh refl in
    let at : (more : List ℕ) → place ++ slash ∷ more ≡ xs ++ (slash ∷ ys ++ slash ∷ more) = λ more. ap (λ x. x ++ slash ∷ more) e ∙ append_assoc xs (slash ∷ ys) (slash ∷ more) in
    record {
      authority = xs;
      tail = slash ∷ ys;
      whole = e;
      plain = subst HaveNoDots (sym (slice_split-cons_yes (λ c. c == slash) slash ys refl)) (refl, subst HaveNoDots (ap (drop 1) segments) h);
      first = λ more. (at_mark slash (place ++ slash ∷ more) xs (ys ++ slash ∷ more) (at more) fresh).front;
      path = λ more. (at_mark slash (place ++ slash ∷ more) xs (ys ++ slash ∷ more) (at more) fresh).rest;
    }

-- a reference that has no authority
path_by : (hierarchy : List ℕ) (begins b : Bool) → has_authority hierarchy ≡ b → (is_some (authority_of hierarchy) || begins) ≡ false → path_of hierarchy ≡ hierarchy
path_by hierarchy begins true e own =
    absurd (true≢false (sym (ap (λ b. is_some (cond b (Some (before slash (drop 2 hierarchy))) None) || begins) e) ∙ own))
path_by hierarchy begins false e own = ap (λ b. cond b (from_mark slash (drop 2 hierarchy)) hierarchy) e

pub own_hierarchy : (reference : List ℕ) → has_own_path (parts_of reference) ≡ false → (parts_of reference).path ≡ hierarchy_of reference
unfolding parts_of
own_hierarchy reference own = path_by (hierarchy_of reference) _ (has_authority (hierarchy_of reference)) refl own

no_authority_by : (authority : Option (List ℕ)) (begins : Bool) → (is_some authority || begins) ≡ false → authority ≡ None
no_authority_by None begins h = refl
no_authority_by (Some authority) begins h = absurd (true≢false h)

whole_reference : (reference : List ℕ) → has_own_path (parts_of reference) ≡ false → (parts_of reference).path ++ marked (codes "?") (parts_of reference).query ++ marked (codes "#") (parts_of reference).fragment ≡ reference
unfolding parts_of
whole_reference reference own =
    ap (λ p. p ++ marked (codes "?") (behind question_mark (before number_sign reference)) ++ marked (codes "#") (behind number_sign reference)) (own_hierarchy reference own)
    ∙ ap (λ x. x ++ marked (codes "#") (behind number_sign reference)) (marked_again question_mark (before number_sign reference))
    ∙ marked_again number_sign reference

-- behind a front
record IsBehind (front rest : List ℕ) (f : IsFront front) (p : IsPlace f.place) : Type 0 where
  scheme : before colon (front ++ rest) ≡ f.scheme
  authority : (parts_of (after_first (λ c. c == colon) (front ++ rest))).authority ≡ Some p.authority
  path : (parts_of (after_first (λ c. c == colon) (front ++ rest))).path ≡ p.tail ++ slash ∷ hierarchy_of rest

behind_scheme : (front rest : List ℕ) (f : IsFront front) → front ++ rest ≡ f.scheme ++ colon ∷ (codes "//" ++ (f.place ++ slash ∷ rest))
behind_scheme front rest f =
    let grouped : f.scheme ++ codes "://" ++ f.place ++ codes "/" ++ rest ≡ f.scheme ++ (codes "://" ++ (f.place ++ (codes "/" ++ rest))) = simp append_assoc in
    ap (λ x. x ++ rest) f.parts ∙ grouped

hierarchy_at : (place rest : List ℕ) → Lacks question_mark place → Lacks number_sign place → hierarchy_of (codes "//" ++ (place ++ slash ∷ rest)) ≡ codes "//" ++ (place ++ slash ∷ hierarchy_of rest)
hierarchy_at place rest q f =
    let lacks : (mark : ℕ) → not (slash == mark) ≡ true → Lacks mark place → Lacks mark (codes "//" ++ (place ++ codes "/")) = λ mark s h. (s, (s, AllAre-append (λ c. not (c == mark)) place (codes "/") h (s, tt))) in
    let grouped : (more : List ℕ) → codes "//" ++ (place ++ codes "/") ++ more ≡ codes "//" ++ (place ++ slash ∷ more) = λ more. ap (λ x. slash ∷ slash ∷ x) (append_assoc place (codes "/") more) in
    ap hierarchy_of (sym (grouped rest))
    ∙ hierarchy_behind (codes "//" ++ (place ++ codes "/")) rest (lacks question_mark refl q) (lacks number_sign refl f)
    ∙ grouped (hierarchy_of rest)

is_behind : (front rest : List ℕ) (f : IsFront front) (p : IsPlace f.place) → IsBehind front rest f p
unfolding parts_of
is_behind front rest f p =
    let after = codes "//" ++ (f.place ++ slash ∷ rest) in
    let cut = at_mark colon (front ++ rest) f.scheme after (behind_scheme front rest f) f.named in
    let hierarchy = hierarchy_at f.place rest f.no_query f.no_fragment in
    record {
      scheme = cut.front;
      authority = ap (λ x. authority_of (hierarchy_of x)) cut.after ∙ authority_at (hierarchy_of after) (f.place ++ slash ∷ hierarchy_of rest) hierarchy ∙ ap (λ x. Some x) (p.first (hierarchy_of rest));
      path = ap (λ x. path_of (hierarchy_of x)) cut.after ∙ path_at (hierarchy_of after) (f.place ++ slash ∷ hierarchy_of rest) hierarchy ∙ p.path (hierarchy_of rest);
    }

-- a reference is put behind the last slash of the front
not_empty : (xs : List ℕ) (y : ℕ) (ys : List ℕ) → is_empty (xs ++ y ∷ ys) ≡ false
not_empty [] y ys = refl
not_empty (x ∷ xs) y ys = refl

merged_at : (base : Parts) (authority tail last path : List ℕ) → base.authority ≡ Some authority → base.path ≡ tail ++ slash ∷ last → Lacks slash last → merged base path ≡ tail ++ slash ∷ path
merged_at base authority tail last path a b h =
    ap (λ x. front_of x base.path ++ path) a
    ∙ ap (λ x. front_of (Some authority) x ++ path) b
    ∙ ap (λ b. cond b (codes "/") (through_last_slash (tail ++ slash ∷ last)) ++ path) (not_empty tail slash last)
    ∙ ap (λ x. x ++ path) (through_at (tail ++ slash ∷ last) tail last refl h)
    ∙ append_assoc tail (codes "/") path

target_at : (base reference : Parts) (authority tail last : List ℕ) → base.authority ≡ Some authority → base.path ≡ tail ++ slash ∷ last → Lacks slash last → HaveNoDots (segments_of tail) → keeps_path reference ≡ false → has_own_path reference ≡ false → HaveNoDots (segments_of reference.path) → target base reference ≡ parts (Some authority) (tail ++ slash ∷ reference.path) reference.query reference.fragment
target_at base reference authority tail last a b h plain moves own dots =
    let none : reference.authority ≡ None = no_authority_by reference.authority (begins_with (λ c. c == slash) reference.path) own in
    let all : HaveNoDots (segments_of (tail ++ slash ∷ reference.path)) = subst HaveNoDots (sym (segments_of_two tail reference.path)) (no_dots_both (segments_of tail) (segments_of reference.path) plain dots) in
    moved_target base reference moves
    ∙ ap (λ x. parts (option_or x base.authority) (without_dot_segments (cond (has_own_path reference) reference.path (merged base reference.path))) reference.query reference.fragment) none
    ∙ ap (λ x. parts x (without_dot_segments (cond (has_own_path reference) reference.path (merged base reference.path))) reference.query reference.fragment) a
    ∙ ap (λ b. parts (Some authority) (without_dot_segments (cond b reference.path (merged base reference.path))) reference.query reference.fragment) own
    ∙ ap (λ x. parts (Some authority) (without_dot_segments x) reference.query reference.fragment) (merged_at base authority tail last reference.path a b h)
    ∙ ap (λ x. parts (Some authority) x reference.query reference.fragment) (plain_path (tail ++ slash ∷ reference.path) all)

text_at : (scheme authority tail path query fragment : List ℕ) → scheme ++ codes ":" ++ (codes "//" ++ authority) ++ (tail ++ slash ∷ path) ++ query ++ fragment ≡ scheme ++ codes "://" ++ (authority ++ tail) ++ codes "/" ++ (path ++ query ++ fragment)
text_at scheme authority tail path query fragment = simp append_assoc

pub resolved_behind : (front rest reference through more : List ℕ) → IsFront front → EndsPath rest → IsCutBehind reference through more → resolved (front ++ rest) reference ≡ front ++ reference
unfolding resolved_without_scheme recomposed
resolved_behind front rest reference through more f e i =
    let p = place_by f.place f.plain (first_mark slash f.place) in
    let b = is_behind front rest f p in
    let base = parts_of (after_first (λ c. c == colon) (front ++ rest)) in
    let r = parts_of reference in
    sym (by_base (front ++ rest) reference i.scheme)
    ∙ ap (λ s. recomposed s (target base r)) b.scheme
    ∙ ap (recomposed f.scheme) (target_at base r p.authority p.tail (hierarchy_of rest) b.authority b.path e p.plain i.moves i.relative i.plain)
    ∙ text_at f.scheme p.authority p.tail r.path (marked (codes "?") r.query) (marked (codes "#") r.fragment)
    ∙ ap (λ x. f.scheme ++ codes "://" ++ x ++ codes "/" ++ (r.path ++ marked (codes "?") r.query ++ marked (codes "#") r.fragment)) (sym p.whole)
    ∙ ap (λ x. x ++ (r.path ++ marked (codes "?") r.query ++ marked (codes "#") r.fragment)) (sym f.parts)
    ∙ ap (λ x. front ++ x) (whole_reference reference i.relative)

-- the last slash of a path
data LastMark (mark : ℕ) (cs : List ℕ) : Type 0 where
  none : Lacks mark cs → LastMark mark cs
  last : (xs ys : List ℕ) → cs ≡ xs ++ mark ∷ ys → Lacks mark ys → LastMark mark cs

last_by : (mark c : ℕ) (cs : List ℕ) → LastMark mark cs → LastMark mark (c ∷ cs)
last_by mark c cs (last xs ys e fresh) = last (c ∷ xs) ys (ap (λ x. c ∷ x) e) fresh
last_by mark c cs (none fresh) = elim (cases_Bool (c == mark)) [
  | inl same ↦ last [] cs (ap (λ d. d ∷ cs) (eqb-true c mark same)) fresh
  | inr other ↦ none (not_from_false (c == mark) other, fresh)
]

last_mark : (mark : ℕ) (cs : List ℕ) → LastMark mark cs
last_mark mark [] = none tt
last_mark mark (c ∷ cs) = last_by mark c cs (last_mark mark cs)

-- a text that is cut behind the last slash before its query
data CutHierarchy (text through rest : List ℕ) : Type 0 where
  without_slash : through ≡ [] → EndsPath rest → CutHierarchy text through rest
  behind_slash : (xs ys : List ℕ) → through ≡ xs ++ slash ∷ [] → hierarchy_of text ≡ xs ++ slash ∷ ys → Lacks question_mark xs → Lacks number_sign xs → EndsPath rest → CutHierarchy text through rest

cut_by : (text through rest : List ℕ) → text ≡ through ++ rest → through ≡ through_last_slash (hierarchy_of text) → LastMark slash (hierarchy_of text) → CutHierarchy text through rest
cut_by text through rest e t (none fresh) =
    let nothing : through ≡ [] = t ∙ through_none (hierarchy_of text) fresh in
    without_slash nothing (subst (λ x. Lacks slash (hierarchy_of x)) (e ∙ ap (λ x. x ++ rest) nothing) fresh)
cut_by text through rest e t (last xs ys h fresh) =
    let at : through ≡ xs ++ slash ∷ [] = t ∙ through_at (hierarchy_of text) xs ys h fresh in
    let q : Lacks question_mark (xs ++ slash ∷ ys) = subst (Lacks question_mark) h (lacks_mark question_mark (before number_sign text)) in
    let f : Lacks number_sign (xs ++ slash ∷ ys) = subst (Lacks number_sign) h (all_take (λ c. not (c == number_sign)) _ (before number_sign text) (lacks_mark number_sign text)) in
    let query = all_front (λ c. not (c == question_mark)) xs (slash ∷ ys) q in
    let fragment = all_front (λ c. not (c == number_sign)) xs (slash ∷ ys) f in
    let behind : hierarchy_of text ≡ through ++ hierarchy_of rest =
    ap hierarchy_of e
    ∙ hierarchy_behind through rest
    (subst (Lacks question_mark) (sym at) (AllAre-append (λ c. not (c == question_mark)) xs (codes "/") query (refl, tt)))
    (subst (Lacks number_sign) (sym at) (AllAre-append (λ c. not (c == number_sign)) xs (codes "/") fragment (refl, tt))) in
    let same : xs ++ codes "/" ++ hierarchy_of rest ≡ xs ++ codes "/" ++ ys =
    ap (λ x. x ++ hierarchy_of rest) (sym at) ∙ sym behind ∙ h ∙ sym (append_assoc xs (codes "/") ys) in
    behind_slash xs ys at h query fragment (subst (Lacks slash) (sym (append_cancel_left (xs ++ codes "/") (hierarchy_of rest) ys same)) fresh)

cut_hierarchy : (text through rest : List ℕ) → text ≡ through ++ rest → through ≡ through_last_slash (hierarchy_of text) → CutHierarchy text through rest
cut_hierarchy text through rest e t = cut_by text through rest e t (last_mark slash (hierarchy_of text))

-- a front is one with a reference up to its last slash behind it, too
no_dots_more : (xs ys : List (List ℕ)) → HaveNoDots (drop 1 xs) → is_empty xs ≡ false → HaveNoDots ys → HaveNoDots (drop 1 (xs ++ ys))
no_dots_more [] ys h some k = absurd (true≢false some)
no_dots_more (x ∷ xs) ys h some k = no_dots_both xs ys h k

grown_by : (front reference through rest : List ℕ) → IsFront front → IsCutBehind reference through rest → CutHierarchy reference through rest → IsFront (front ++ through) × EndsPath rest
grown_by front reference through rest f i (without_slash e ends) = (subst IsFront (sym (append-nil front) ∙ ap (λ x. front ++ x) (sym e)) f, ends)
grown_by front reference through rest f i (behind_slash xs ys e h q n ends) =
    let path : segments_of (parts_of reference).path ≡ segments_of xs ++ segments_of ys = ap segments_of (own_hierarchy reference i.relative ∙ h) ∙ segments_of_two xs ys in
    let dots : HaveNoDots (segments_of xs) = no_dots_front (segments_of xs) (segments_of ys) (subst HaveNoDots path i.plain) in
    let grouped : f.scheme ++ codes "://" ++ f.place ++ codes "/" ++ (xs ++ slash ∷ []) ≡ f.scheme ++ codes "://" ++ (f.place ++ slash ∷ xs) ++ codes "/" = simp append_assoc in (
      record {
        scheme = f.scheme;
        place = f.place ++ slash ∷ xs;
        parts = ap (λ x. front ++ x) e ∙ ap (λ x. x ++ (xs ++ slash ∷ [])) f.parts ∙ grouped;
        named = f.named;
        no_query = AllAre-append (λ c. not (c == question_mark)) f.place (slash ∷ xs) f.no_query (refl, q);
        no_fragment = AllAre-append (λ c. not (c == number_sign)) f.place (slash ∷ xs) f.no_fragment (refl, n);
        plain = subst (λ s. HaveNoDots (drop 1 s)) (sym (segments_of_two f.place xs)) (no_dots_more (segments_of f.place) (segments_of xs) f.plain (ap is_empty (segments_cut f.place)) dots);
      },
      ends,
    )

pub iri_behind : (front rest reference through more : List ℕ) → IsBase front rest true → IsCutBehind reference through more → AllAre is_iri_character reference → IsIri (front ++ reference)
unfolding resolved
iri_behind front rest reference through more b i h =
    let is = resolved_behind front rest reference through more (b.fronts refl) (b.ends refl) i in
    subst IsIri (by_base (front ++ rest) reference i.scheme ∙ is) (without_scheme_iri (front ++ rest) reference b.iri h)

pub grown_base : (front rest reference through more : List ℕ) → IsBase front rest true → IsCutBehind reference through more → AllAre is_iri_character reference → IsBase (front ++ through) more true
grown_base front rest reference through more b i h =
    let parts : through ≡ through_last_slash (hierarchy_of reference) = i.cut ∙ ap through_last_slash (own_hierarchy reference i.relative) in
    let grown = grown_by front reference through more (b.fronts refl) i (cut_hierarchy reference through more i.parts parts) in
    record {
      iri = subst IsIri (ap (λ x. front ++ x) i.parts ∙ sym (append_assoc front through more)) (iri_behind front rest reference through more b i h);
      fronts = λ _. grown.0;
      ends = λ _. grown.1;
    }

-- the front of an IRI
no_dots_less : (xs ys : List (List ℕ)) → HaveNoDots (drop 1 (xs ++ ys)) → HaveNoDots (drop 1 xs)
no_dots_less [] ys h = tt
no_dots_less (x ∷ xs) ys h = no_dots_front xs ys h

front_by_cut : (text scheme hierarchy through rest front path : List ℕ) → text ≡ scheme ++ colon ∷ (codes "//" ++ hierarchy) → Lacks colon scheme → through ≡ through_last_slash (hierarchy_of hierarchy) → behind slash through ≡ Some path → HaveNoDots (segments_of path) → text ≡ front ++ rest → hierarchy ≡ through ++ rest → CutHierarchy hierarchy through rest → IsCutFront text front rest
front_by_cut text scheme hierarchy through rest front path e named t some dots whole parts (without_slash nothing ends) =
    absurd (none-some path (sym (without_mark slash [] tt).back ∙ ap (behind slash) (sym nothing) ∙ some))
front_by_cut text scheme hierarchy through rest front path e named t some dots whole parts (behind_slash xs ys at h q n ends) =
    let segments : segments_of xs ++ segments_of [] ≡ before slash through ∷ segments_of path = sym (ap segments_of at ∙ segments_of_two xs []) ∙ segments_cut through ∙ ap (λ o. before slash through ∷ segments_behind o) some in
    let grouped : scheme ++ codes "://" ++ xs ++ codes "/" ++ rest ≡ scheme ++ colon ∷ (codes "//" ++ (xs ++ codes "/" ++ rest)) = simp append_assoc in
    let all : front ++ rest ≡ scheme ++ codes "://" ++ xs ++ codes "/" ++ rest =
    sym whole ∙ e ∙ ap (λ x. scheme ++ colon ∷ (codes "//" ++ x)) (parts ∙ ap (λ x. x ++ rest) at) ∙ sym grouped in
    record {
      whole = whole;
      fronts = record {
        scheme = scheme;
        place = xs;
        parts = append_cancel_right front (scheme ++ codes "://" ++ xs ++ codes "/") rest all;
        named = named;
        no_query = q;
        no_fragment = n;
        plain = no_dots_less (segments_of xs) (segments_of []) (subst (λ s. HaveNoDots (drop 1 s)) (sym segments) dots);
      };
      ends = ends;
    }

pub front_cut : (text scheme hierarchy through rest front path : List ℕ) → scheme ≡ before colon text → behind colon text ≡ Some (codes "//" ++ hierarchy) → through ≡ through_last_slash (hierarchy_of hierarchy) → behind slash through ≡ Some path → HaveNoDots (segments_of path) → text ≡ front ++ rest → hierarchy ≡ through ++ rest → IsCutFront text front rest
front_cut text scheme hierarchy through rest front path s b t some dots whole parts =
    let e : text ≡ scheme ++ colon ∷ (codes "//" ++ hierarchy) = sym (marked_again colon text) ∙ ap (λ o. before colon text ++ marked (codes ":") o) b ∙ ap (λ x. x ++ colon ∷ (codes "//" ++ hierarchy)) (sym s) in
    front_by_cut text scheme hierarchy through rest front path e (subst (Lacks colon) (sym s) (lacks_mark colon text)) t some dots whole parts (cut_hierarchy hierarchy through rest parts t)

-- what the code finds
pub none_found : (segments : List (List ℕ)) → list_any is_dot_segment segments ≡ false → HaveNoDots segments
none_found [] h = tt
none_found (segment ∷ others) h = let both = or_parts (is_dot_segment segment) (list_any is_dot_segment others) h in (both.0, none_found others both.1)

pub put_behind : (base front rest reference through more : List ℕ) → base ≡ front ++ rest → IsBase front rest true → IsCutBehind reference through more → front ++ reference ≡ resolved base reference
unfolding resolved
put_behind base front rest reference through more e b i = sym (ap (λ x. resolved x reference) e ∙ resolved_behind front rest reference through more (b.fronts refl) (b.ends refl) i)
