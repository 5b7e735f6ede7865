-- Acts do the same wherever tokens stand: a state without its places comes of one without its places.
use Rattle.std.proofs.Common.{◌≡◌, ℕ, Option, None, Some, Result, Ok, Err, List, [], ◌∷◌, ◌++◌, map, refl, sym, ap, ◌∙◌}
use Rattle.std.specs.Prelude.{reverse}
use Rattle.std.specs.Option.{option_map}
use Rattle.std.proofs.lemmas.List.{reverse-append}
use Rattle.man_grammar.specs.States.{State, notes_with, opening_frames}
use Rattle.man_raw.specs.Documents.{ItemTree}
use Rattle.man_raw.specs.Listed.{Listing, items_with, named_items, with_part}
use Rattle.man_raw.specs.Opened.{Frame, first_of, joined, last_pair, last_part, left_frames, made, pair_at, put_frames, raw_of, shut_frames, wrapped_frames}
use Rattle.man_raw.specs.Raws.{RawTree, more, place_of, raw, trees_of}
use Rattle.man_raw.specs.declared.document.RawPart.{RawPart}
use Rattle.man_raw.specs.declared.form.Form.{Form}
use Rattle.man_raw.specs.declared.form.Form.TheVariants as form
use Rattle.man_raw.specs.declared.form.What.TheVariants as what
use Rattle.man_raw.specs.declared.opened.Annotated.{Annotated}
use Rattle.man_text.specs.Undecided.{all_unplaced, unplaced}
use Rattle.owl_reader.specs.declared.fault.TokenFault.{TokenFault}
use Rattle.man_text.specs.Undecided.{unplaced_item, unplaced_part}

abbrev pub unplaced_frame : Frame → Frame
unplaced_frame f = record { at = 0; parts = map unplaced f.parts }

abbrev pub unplaced_frames : List Frame → List Frame
unplaced_frames fs = map unplaced_frame fs

abbrev pub unplaced_state : State → State
unplaced_state s = record s {
  form_at = 0;
  opening = record { frames = unplaced_frames s.opening.frames; nests = s.opening.nests };
  notes = map unplaced s.notes;
  listing = record { items = map unplaced_item s.listing.items; section = s.listing.section };
}

abbrev pub forgotten : Result State TokenFault → Result State TokenFault
forgotten (Ok s) = Ok (unplaced_state s)
forgotten (Err f) = Err f

-- ---- frames

parts_unplaced : (ts : List RawTree) → all_unplaced (trees_of ts) ≡ trees_of (map unplaced ts)
parts_unplaced [] = refl
parts_unplaced (t ∷ ts) = ap (more (unplaced t)) (parts_unplaced ts)

map_behind : {X : Type 0} (f : X → X) (xs ys : List X) → map f (xs ++ ys) ≡ map f xs ++ map f ys
map_behind f [] ys = refl
map_behind {X} f (x ∷ xs) ys = ap (λ (l : List X). f x ∷ l) (map_behind f xs ys)

pub map_reversed : {X : Type 0} (f : X → X) (xs : List X) → map f (reverse xs) ≡ reverse (map f xs)
map_reversed f [] = refl
map_reversed {X} f (x ∷ xs) =
    ap (map f) (reverse-append (x ∷ []) xs)
    ∙ map_behind f (reverse xs) (x ∷ [])
    ∙ ap (λ (l : List X). l ++ f x ∷ []) (map_reversed f xs)
    ∙ sym (reverse-append (f x ∷ []) (map f xs))

raw_unplaced : (f : Form) (at : ℕ) (ts : List RawTree) → unplaced (raw_of f at ts) ≡ raw_of f 0 (map unplaced ts)
raw_unplaced f at ts = ap (raw 0 (what.Form f)) (parts_unplaced (reverse ts) ∙ ap trees_of (map_reversed unplaced ts))

joined_unplaced : (f : Form) (at : ℕ) (ts : List RawTree) → unplaced (joined f at ts) ≡ joined f 0 (map unplaced ts)
joined_unplaced f at [] = raw_unplaced f at []
joined_unplaced f at (t ∷ []) = refl
joined_unplaced f at (t ∷ u ∷ ts) = raw_unplaced f at (t ∷ u ∷ ts)

made_unplaced : (f : Form) (at : ℕ) (ts : List RawTree) → unplaced (made f at ts) ≡ made f 0 (map unplaced ts)
made_unplaced form.Or at ts = joined_unplaced form.Or at ts
made_unplaced form.And at ts = joined_unplaced form.And at ts
made_unplaced f at ts = raw_unplaced f at ts

-- a change of frames, and the same of frames without places
abbrev pub AreAlike : (List Frame → List Frame) → (List Frame → List Frame) → Type 0
AreAlike change other = (fs : List Frame) → unplaced_frames (change fs) ≡ other (unplaced_frames fs)

pub put_alike : (t : RawTree) → AreAlike (put_frames t) (put_frames (unplaced t))
put_alike t [] = refl
put_alike t (f ∷ fs) = refl

place_unplaced : (t : RawTree) → place_of (unplaced t) ≡ 0
place_unplaced (raw at w ts) = refl

pub wrapped_alike : AreAlike wrapped_frames wrapped_frames
wrapped_alike [] = refl
wrapped_alike (f ∷ fs) = by_parts f.at f.parts
  where
    by_parts : (at : ℕ) (parts : List RawTree) → unplaced_frames (wrapped_frames (record { at = at; parts = parts } ∷ fs)) ≡ wrapped_frames (record { at = 0; parts = map unplaced parts } ∷ unplaced_frames fs)
    by_parts at [] = refl
    by_parts at (t ∷ ts) = ap (λ (n : ℕ). record { at = n; parts = unplaced t ∷ [] } ∷ record { at = 0; parts = map unplaced ts } ∷ unplaced_frames fs) (sym (place_unplaced t))

pub shut_alike : (f : Form) → AreAlike (shut_frames f) (shut_frames f)
shut_alike f [] = refl
shut_alike f (g ∷ fs) = put_alike (made f g.at g.parts) fs ∙ ap (λ (t : RawTree). put_frames t (unplaced_frames fs)) (made_unplaced f g.at g.parts)

pub left_alike : AreAlike left_frames left_frames
left_alike [] = refl
left_alike (f ∷ fs) = refl

pub changed : (s : State) (change other : List Frame → List Frame) → AreAlike change other → unplaced_state (opening_frames s change) ≡ opening_frames (unplaced_state s) other
changed s change other alike = ap (λ (fs : List Frame). opening_frames (unplaced_state s) (λ _. fs)) (alike s.opening.frames)

-- ---- what frames hold

pub part_unplaced : (fs : List Frame) → last_part (unplaced_frames fs) ≡ option_map unplaced (last_part fs)
part_unplaced [] = refl
part_unplaced (f ∷ fs) = by_parts f.parts
  where
    by_parts : (parts : List RawTree) → first_of (map unplaced parts) ≡ option_map unplaced (first_of parts)
    by_parts [] = refl
    by_parts (t ∷ ts) = refl

abbrev pub unplaced_pair : Annotated → Annotated
unplaced_pair a = record { at = 0; notes = unplaced a.notes; body = unplaced a.body }

pub pair_unplaced : (fs : List Frame) → last_pair (unplaced_frames fs) ≡ option_map unplaced_pair (last_pair fs)
pair_unplaced [] = refl
pair_unplaced (f ∷ fs) = by_parts f.at f.parts
  where
    by_parts : (at : ℕ) (parts : List RawTree) → pair_at 0 (map unplaced parts) ≡ option_map unplaced_pair (pair_at at parts)
    by_parts at [] = refl
    by_parts at (t ∷ []) = refl
    by_parts at (t ∷ u ∷ ts) = refl

abbrev pub unplaced_items : List ItemTree → List ItemTree
unplaced_items is = map unplaced_item is

pub named_unplaced : (o : Option RawTree) (is : List ItemTree) → unplaced_items (named_items o is) ≡ named_items (option_map unplaced o) (unplaced_items is)
named_unplaced o [] = refl
named_unplaced o (i ∷ is) = refl

with_unplaced : (part : RawPart) (is : List ItemTree) → unplaced_items (items_with part is) ≡ items_with (unplaced_part part) (unplaced_items is)
with_unplaced part [] = refl
with_unplaced part (i ∷ is) = ap (λ (l : List RawPart). record (unplaced_item i) { parts = l } ∷ unplaced_items is) (map_behind unplaced_part i.parts (part ∷ []))

abbrev pub unplaced_listing : Listing → Listing
unplaced_listing l = record { items = unplaced_items l.items; section = l.section }

pub part_listed : (o : Option Annotated) (l : Listing) → unplaced_listing (with_part o l) ≡ with_part (option_map unplaced_pair o) (unplaced_listing l)
part_listed None l = refl
part_listed (Some a) l = ap (λ (is : List ItemTree). record { items = is; section = l.section }) (with_unplaced (record { at = a.at; section = l.section; notes = a.notes; body = a.body }) l.items)

pub notes_unplaced : (o : Option RawTree) (ts : List RawTree) → map unplaced (notes_with o ts) ≡ notes_with (option_map unplaced o) (map unplaced ts)
notes_unplaced None ts = refl
notes_unplaced (Some t) ts = map_behind unplaced ts (t ∷ [])
