-- What it means that symbols of the grammar read a piece, wherever it stands.
use Rattle.std.proofs.Common.{◌≤◌, ◌+◌, ℕ, List, [], ◌∷◌, ◌++◌}
use Rattle.grammar.specs.declared.symbol.Symbol.{Symbol}
use Rattle.man_grammar.specs.States.{Names, State}
use Rattle.man_raw.specs.Documents.{HeadTree}
use Rattle.man_raw.specs.Listed.{Listing}
use Rattle.man_raw.specs.Opened.{Frame, most_nests}
use Rattle.man_raw.specs.Raws.{RawTree}
use Rattle.man_text.specs.Text.{text}
use Rattle.owl_atom.specs.declared.prefixes.Prefix.{Prefix}
use Rattle.owl_writing.proofs.WrittenTableLaws.{AreKnown}
use Rattle.man_read_back.proofs.Reading.{manchester}
use Rattle.man_read_back.proofs.Steps.{Starts}
use Rattle.man_read_back.proofs.Stops.{Ends}

-- the prefixes by which names are written, those by which they are read, and what is wanted of the state behind the text
pub record Reader : Type 1 where
  pub written : List Prefix
  pub names : Names
  pub known : AreKnown written names.prefixes
  pub wanted : State → Type 0

-- within a frame: its parts, the last one first, the frames around it, the nests that are open, and what was read of the document
pub record Point : Type 0 where
  pub parts : List RawTree
  pub frames : List Frame
  pub nests : ℕ
  pub head : HeadTree
  pub notes : List RawTree
  pub listing : Listing

abbrev pub frame_of : List RawTree → Frame
frame_of parts = record { at = 0; parts = parts }

abbrev pub there : Reader → Point → List ℕ → State
there r p form = record {
  names = r.names;
  form_at = 0;
  form = form;
  opening = record { frames = frame_of p.parts ∷ p.frames; nests = p.nests };
  head = p.head;
  notes = p.notes;
  listing = p.listing;
}

-- a part more
abbrev pub put : RawTree → Point → Point
put t p = record p { parts = t ∷ p.parts }

-- within one frame more, with these parts
abbrev pub inside : List RawTree → Point → Point
inside parts p = record p { parts = parts; frames = frame_of p.parts ∷ p.frames }

-- with one nest more
abbrev pub nest : Point → Point
nest p = record p { nests = p.nests + 1 }

abbrev pub Goes : Reader → List Symbol → Point → List ℕ → List ℕ → Type 0
Goes r ss p form cs = Starts manchester r.wanted ss (there r p form) cs

-- whatever literal was read last
abbrev pub GoesOn : Reader → List Symbol → Point → List ℕ → Type 0
GoesOn r ss p cs = (form : List ℕ) → Goes r ss p form cs

abbrev pub HasRoom : Point → ℕ → Type 0
HasRoom p need = p.nests + need ≤ most_nests

-- the symbols read the text of the piece, where so many nests more may be open
abbrev pub Says : Reader → List Symbol → RawTree → ℕ → Type 0
Says r symbols t need =
    (p : Point) (ss : List Symbol) (rest : List ℕ) → Ends rest → HasRoom p need → GoesOn r ss (put t p) rest → GoesOn r (symbols ++ ss) p (text r.written t rest)

-- ---- outside of all frames

pub record Outside : Type 0 where
  pub nests : ℕ
  pub head : HeadTree
  pub notes : List RawTree
  pub listing : Listing

abbrev pub outside : Reader → Outside → List ℕ → State
outside r o form = record {
  names = r.names;
  form_at = 0;
  form = form;
  opening = record { frames = []; nests = o.nests };
  head = o.head;
  notes = o.notes;
  listing = o.listing;
}

-- within a frame with these parts, which stands in no other
abbrev pub within : Outside → List RawTree → Point
within o parts = record { parts = parts; frames = []; nests = o.nests; head = o.head; notes = o.notes; listing = o.listing }

abbrev pub nested : Outside → Outside
nested o = record o { nests = o.nests + 1 }

abbrev pub Comes : Reader → List Symbol → Outside → List ℕ → List ℕ → Type 0
Comes r ss o form cs = Starts manchester r.wanted ss (outside r o form) cs

abbrev pub ComesOn : Reader → List Symbol → Outside → List ℕ → Type 0
ComesOn r ss o cs = (form : List ℕ) → Comes r ss o form cs
