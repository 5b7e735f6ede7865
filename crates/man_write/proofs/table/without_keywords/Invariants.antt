use Rattle.std.proofs.Common.{◌≡◌, take}
use Rattle.owl_writing.specs.Tables.{HaveIris}
use Rattle.man_write.proofs.TableLaws.{kept_of}
use Rattle.man_write.proofs.table.without_keywords.Given as goal

-- the prefixes so far that are no keywords, and what is known of the IRIs of all of them
abbrev pub invariant-loop-place : goal.invariant-loop-place
invariant-loop-place l = record {
  table : l.table ≡ kept_of (take l.place l.prefixes);
  iris : HaveIris (take l.place l.prefixes);
}
