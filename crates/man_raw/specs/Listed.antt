-- Items, while a document is read: those so far, the last one first, and the section that is read.
use Rattle.std.specs.Prelude.{ℕ, List, [], ◌∷◌, ◌++◌, Option, None, Some}
use Rattle.man_raw.specs.Documents.{ItemTree}
use Rattle.man_raw.specs.Raws.{RawTree}
use Rattle.man_raw.specs.declared.document.RawPart.{RawPart}
use Rattle.man_raw.specs.declared.heading.Heading.{Heading}
use Rattle.man_raw.specs.declared.heading.Section.{Section}
use Rattle.man_raw.specs.declared.heading.Section.TheVariants as section
use Rattle.man_raw.specs.declared.opened.Annotated.{Annotated}

pub record Listing : Type 0 where
  pub items : List ItemTree
  pub section : Section

abbrev pub nothing_listed : Listing
nothing_listed = record { items = []; section = section.Members }

abbrev pub begun_item : ℕ → Heading → Listing → Listing
begun_item at heading l = record { items = record { at = at; heading = heading; name = None; parts = [] } ∷ l.items; section = section.Members }

abbrev pub named_items : Option RawTree → List ItemTree → List ItemTree
named_items name [] = []
named_items name (i ∷ is) = record i { name = name } ∷ is

abbrev pub named_item : Option RawTree → Listing → Listing
named_item name l = record l { items = named_items name l.items }

abbrev pub in_section : Section → Listing → Listing
in_section s l = record l { section = s }

-- a part more of the last item
abbrev pub items_with : RawPart → List ItemTree → List ItemTree
items_with part [] = []
items_with part (i ∷ is) = record i { parts = i.parts ++ part ∷ [] } ∷ is

abbrev pub with_part : Option Annotated → Listing → Listing
with_part None l = l
with_part (Some a) l = record l { items = items_with (record { at = a.at; section = l.section; notes = a.notes; body = a.body }) l.items }
