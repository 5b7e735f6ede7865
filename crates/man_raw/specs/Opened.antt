-- What is open while a document is read: frames, each with the parts that it has so far, the innermost frame and the last part first.
use Rattle.std.specs.Prelude.{ℕ, List, [], ◌∷◌, Option, None, Some, reverse}
use Rattle.man_raw.specs.Raws.{RawTree, place_of, raw, trees_of}
use Rattle.man_raw.specs.declared.form.Form.{Form}
use Rattle.man_raw.specs.declared.form.Form.TheVariants as form
use Rattle.man_raw.specs.declared.form.What.TheVariants as what
use Rattle.man_raw.specs.declared.opened.Annotated.{Annotated}

-- the byte at which it begins, and its parts
pub record Frame : Type 0 where
  pub at : ℕ
  pub parts : List RawTree

-- so many nests may be open at once
abbrev pub most_nests : ℕ
most_nests = 512

-- the frames, and how many nests are open
pub record Opening : Type 0 where
  pub frames : List Frame
  pub nests : ℕ

abbrev pub nothing_open : Opening
nothing_open = record { frames = []; nests = 0 }

abbrev pub opened_frames : ℕ → List Frame → List Frame
opened_frames at fs = record { at = at; parts = [] } ∷ fs

-- a part more in the innermost frame
abbrev pub put_frames : RawTree → List Frame → List Frame
put_frames t [] = []
put_frames t (f ∷ fs) = record f { parts = t ∷ f.parts } ∷ fs

-- The last part of a frame begins a frame.
abbrev pub wrapped_parts : Frame → List Frame → List RawTree → List Frame
wrapped_parts f fs [] = f ∷ fs
wrapped_parts f fs (t ∷ ts) = record { at = place_of t; parts = t ∷ [] } ∷ record f { parts = ts } ∷ fs

abbrev pub wrapped_frames : List Frame → List Frame
wrapped_frames [] = []
wrapped_frames (f ∷ fs) = wrapped_parts f fs f.parts

abbrev pub raw_of : Form → ℕ → List RawTree → RawTree
raw_of f at ts = raw at (what.Form f) (trees_of (reverse ts))

-- one operand alone is itself
abbrev pub joined : Form → ℕ → List RawTree → RawTree
joined f at (t ∷ []) = t
joined f at ts = raw_of f at ts

-- what a frame makes of its parts, the last one first
abbrev pub made : Form → ℕ → List RawTree → RawTree
made form.Or at ts = joined form.Or at ts
made form.And at ts = joined form.And at ts
made f at ts = raw_of f at ts

-- The innermost frame is shut, and what it makes is a part of the one around it.
abbrev pub shut_frames : Form → List Frame → List Frame
shut_frames f [] = []
shut_frames f (g ∷ fs) = put_frames (made f g.at g.parts) fs

abbrev pub with_frames : List Frame → Opening → Opening
with_frames fs o = record o { frames = fs }

-- the innermost frame is left
abbrev pub left_frames : List Frame → List Frame
left_frames [] = []
left_frames (f ∷ fs) = fs

-- the part that was read last
abbrev pub first_of : List RawTree → Option RawTree
first_of [] = None
first_of (t ∷ ts) = Some t

-- of the innermost frame
abbrev pub last_part : List Frame → Option RawTree
last_part [] = None
last_part (f ∷ fs) = first_of f.parts

-- the two parts that were read last, annotations and what they are of
abbrev pub pair_at : ℕ → List RawTree → Option Annotated
pair_at at (body ∷ notes ∷ ts) = Some (record { at = at; notes = notes; body = body })
pair_at at _ = None

abbrev pub last_pair : List Frame → Option Annotated
last_pair [] = None
last_pair (f ∷ fs) = pair_at f.at f.parts
