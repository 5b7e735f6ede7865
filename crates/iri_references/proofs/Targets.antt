-- The parts that a reference without a scheme stands for.
use Rattle.std.proofs.Common.{◌≡◌, ℕ, Bool, true, false, List, [], ◌∷◌, ◌++◌, Option, Some, None, cond, refl, ap, ◌∙◌, sym}
use Rattle.std.specs.Prelude.{◌==◌, ◌&&◌, ◌||◌, codes, is_none, is_some, unwrap_or}
use Rattle.std.specs.List.{after_first}
use Rattle.std.specs.Str.{chars}
use Rattle.owl_characters.proofs.AsciiLaws.{ascii_chars}
use denote.Ref.{Bor}
use Rattle.std.specs.Option.{option_or}
use Rattle.std.proofs.lemmas.Bool.{false≢true, true≢false}
use Rattle.owl_characters.specs.Names.{begins_with}
use Rattle.iri_references.specs.References.{Parts, before, colon, has_scheme, is_empty, parts_of, slash}
use Rattle.iri_references.specs.DotSegments.{without_dot_segments}
use Rattle.iri_references.specs.Resolution.{front_of, marked, merged, parts, recomposed, resolved, resolved_without_scheme, target, target_by, through_last_slash}
use Rattle.iri_references.specs.Views.{has_own_path, keeps_path, seen}

kept_by : (base : Parts) (authority : Option (List ℕ)) (path : List ℕ) (query fragment : Option (List ℕ)) → (is_none authority && is_empty path) ≡ true → target_by base authority path query fragment ≡ parts base.authority base.path (option_or query base.query) fragment
kept_by base None [] None fragment h = refl
kept_by base None [] (Some query) fragment h = refl
kept_by base None (c ∷ cs) query fragment h = absurd (false≢true h)
kept_by base (Some authority) path query fragment h = absurd (false≢true h)

-- where the reference has neither authority nor path
pub kept_target : (base reference : Parts) → keeps_path reference ≡ true → target base reference ≡ parts base.authority base.path (option_or reference.query base.query) reference.fragment
unfolding target
kept_target base reference h = kept_by base reference.authority reference.path reference.query reference.fragment h

one_of_two : (b : Bool) (authority query fragment : Option (List ℕ)) (path other : List ℕ) → cond b (parts authority path query fragment) (parts authority other query fragment) ≡ parts authority (cond b path other) query fragment
one_of_two true authority query fragment path other = refl
one_of_two false authority query fragment path other = refl

path_of_two : (b : Bool) (path other : List ℕ) → cond b (without_dot_segments path) (without_dot_segments other) ≡ without_dot_segments (cond b path other)
path_of_two true path other = refl
path_of_two false path other = refl

moved_by : (base : Parts) (authority : Option (List ℕ)) (path : List ℕ) (query fragment : Option (List ℕ)) → (is_none authority && is_empty path) ≡ false → target_by base authority path query fragment ≡ parts (option_or authority base.authority) (without_dot_segments (cond (is_some authority || begins_with (λ c. c == slash) path) path (merged base path))) query fragment
moved_by base (Some authority) path query fragment h = refl
moved_by base None [] query fragment h = absurd (true≢false h)
moved_by base None (c ∷ cs) query fragment h =
    one_of_two (c == slash) base.authority query fragment (without_dot_segments (c ∷ cs)) (without_dot_segments (merged base (c ∷ cs)))
    ∙ ap (λ path. parts base.authority path query fragment) (path_of_two (c == slash) (c ∷ cs) (merged base (c ∷ cs)))

-- where it has an authority or a path
pub moved_target : (base reference : Parts) → keeps_path reference ≡ false → target base reference ≡ parts (option_or reference.authority base.authority) (without_dot_segments (cond (has_own_path reference) reference.path (merged base reference.path))) reference.query reference.fragment
unfolding target
moved_target base reference h = moved_by base reference.authority reference.path reference.query reference.fragment h

path_by : (base reference : Parts) (b : Bool) → keeps_path reference ≡ false → has_own_path reference ≡ b → without_dot_segments (cond b reference.path (merged base reference.path)) ≡ (target base reference).path
path_by base reference b h own =
    ap (λ b. without_dot_segments (cond b reference.path (merged base reference.path))) (sym own) ∙ sym (ap (λ parts. parts.path) (moved_target base reference h))

pub own_path : (base reference : Parts) → keeps_path reference ≡ false → has_own_path reference ≡ true → without_dot_segments reference.path ≡ (target base reference).path
own_path base reference h own = path_by base reference true h own

pub merged_path : (base reference : Parts) → keeps_path reference ≡ false → has_own_path reference ≡ false → without_dot_segments (merged base reference.path) ≡ (target base reference).path
merged_path base reference h own = path_by base reference false h own

-- the text of what a reference stands for
pub kept_text : (base reference scheme rest : List ℕ) (b r : Parts) → scheme ≡ before colon base → rest ≡ after_first (λ c. c == colon) base → b ≡ parts_of rest → r ≡ parts_of reference → keeps_path r ≡ true → recomposed scheme (parts b.authority b.path (option_or r.query b.query) r.fragment) ≡ resolved_without_scheme base reference
unfolding resolved_without_scheme
kept_text base reference scheme rest b r s t e f h =
    ap (recomposed scheme) (sym (kept_target b r h))
    ∙ ap (λ x. recomposed x (target b r)) s
    ∙ ap (λ x. recomposed (before colon base) (target x r)) (e ∙ ap parts_of t)
    ∙ ap (λ x. recomposed (before colon base) (target (parts_of (after_first (λ c. c == colon) base)) x)) f

pub moved_text : (base reference scheme rest path : List ℕ) (b r : Parts) → scheme ≡ before colon base → rest ≡ after_first (λ c. c == colon) base → b ≡ parts_of rest → r ≡ parts_of reference → keeps_path r ≡ false → path ≡ (target b r).path → recomposed scheme (parts (option_or r.authority b.authority) path r.query r.fragment) ≡ resolved_without_scheme base reference
unfolding resolved_without_scheme
moved_text base reference scheme rest path b r s t e f h p =
    let made = moved_target b r h in
    ap (λ x. recomposed scheme (parts (option_or r.authority b.authority) x r.query r.fragment)) (p ∙ ap (λ parts. parts.path) made)
    ∙ ap (recomposed scheme) (sym made)
    ∙ ap (λ x. recomposed x (target b r)) s
    ∙ ap (λ x. recomposed (before colon base) (target x r)) (e ∙ ap parts_of t)
    ∙ ap (λ x. recomposed (before colon base) (target (parts_of (after_first (λ c. c == colon) base)) x)) f

-- what the code has of a part
pub or_seen : (part other : Option (Bor (List ℕ))) → seen (option_or part other) ≡ option_or (seen part) (seen other)
or_seen None other = refl
or_seen (Some text) other = refl

pub slash_front : (authority : Option (Bor (List ℕ))) (path : List ℕ) → is_some authority ≡ true → is_empty path ≡ true → codes "/" ≡ front_of (seen authority) path
slash_front None path h k = absurd (false≢true h)
slash_front (Some text) path h k = sym (ap (λ b. cond b (codes "/") (through_last_slash path)) k)

pub rest_seen : (rest : Option (Bor (List ℕ))) (none : Bor (List ℕ)) → chars none.now ≡ [] → chars (unwrap_or rest none).now ≡ unwrap_or (seen rest) []
rest_seen None none h = h
rest_seen (Some text) none h = refl

-- what the code makes of the parts, step by step
pub recomposed_by : (scheme : List ℕ) (p : Parts) (a b c d e f : List ℕ) → a ≡ scheme → b ≡ a ++ codes ":" → c ≡ b ++ marked (chars (codes "//")) p.authority → d ≡ c ++ p.path → e ≡ d ++ marked (chars (codes "?")) p.query → f ≡ e ++ marked (chars (codes "#")) p.fragment → f ≡ recomposed scheme p
unfolding recomposed
recomposed_by scheme p a b c d e f by_a by_b by_c by_d by_e by_f =
    let slashes : chars (codes "//") ≡ codes "//" = ascii_chars (codes "//") refl in
    let question_mark : chars (codes "?") ≡ codes "?" = ascii_chars (codes "?") refl in
    let number_sign : chars (codes "#") ≡ codes "#" = ascii_chars (codes "#") refl in
    cc

-- a reference with a scheme, and one without
pub as_written : (base reference : List ℕ) → has_scheme reference ≡ true → reference ≡ resolved base reference
unfolding resolved
as_written base reference h = sym (ap (λ b. cond b reference (resolved_without_scheme base reference)) h)

pub by_base : (base reference : List ℕ) → has_scheme reference ≡ false → resolved_without_scheme base reference ≡ resolved base reference
unfolding resolved
by_base base reference h = sym (ap (λ b. cond b reference (resolved_without_scheme base reference)) h)
