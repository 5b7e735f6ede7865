-- Leaves that are put into the innermost construct.
use Rattle.std.proofs.Common.{◌≡◌, ◌↔◌, ◌<◌, ◌≤◌, ℕ, List, ◌∷◌, Result, Ok, inl, inr, sym, ap, ◌∙◌, subst, arith}
use Rattle.std.specs.Prelude.{IsErrOf}
use Rattle.std.proofs.lemmas.Bool.{cases_lt}
use Rattle.owl_arena.specs.Shared.{deepest}
use Rattle.owl_maker.specs.Constructs.{Constructs}
use Rattle.owl_maker.specs.Makings.{Follows, IsInside, Making}
use Rattle.owl_tree.specs.Frames.{Frame}
use Rattle.owl_tree.specs.Trees.{Tree}
use Rattle.fss_terms.specs.Functional.{IsTableOf}
use Rattle.fss_grammar.specs.Making.{Kept, Maker, put, put_in}
use Rattle.fss_grammar.specs.Making.Kept.{nothing}
use Rattle.fss_acts.specs.declared.assembler.Assembler.{Assembler}
use Rattle.fss_acts.specs.declared.kept.Kept.TheVariants as keeps
use Rattle.fss_acts.specs.Assembling.{Assembles, PutsLeaf, work_of}
use Rattle.fss_defects.specs.Faults.{IsFull}

pub roomy : {E : Type 0} (r : Result (Unit {0}) E) (e : E) (x : Unit {0}) (n : ℕ) → r ≡ Ok x → IsErrOf r e ↔ (deepest ≤ n) → n < deepest
roomy r e x n is h = elim (cases_lt n deepest) [ inl l ↦ l | inr g ↦ let k = h.1 g in absurd (cc) ]

-- where no item is in hand, the maker has the open constructs
pub constructs : (a : Assembler) (m : Maker) → Assembles a m → work_of m.kept m.frames ≡ Constructs m.frames → Follows a.maker (Constructs m.frames)
constructs a m h w = subst (Follows a.maker) w h.work

pub work_of_nothing : (m : Maker) → m.kept ≡ nothing → work_of m.kept m.frames ≡ Constructs m.frames
work_of_nothing m e = ap (λ (k : Kept). work_of k m.frames) e

pub inside : (a : Assembler) (m : Maker) (f : Frame) (fs : List Frame) → Assembles a m → work_of m.kept m.frames ≡ Constructs m.frames → m.frames ≡ f ∷ fs → IsInside a.maker
inside a m f fs h w e = record { frame = f; outer = fs; follows = subst (λ (gs : List Frame). Follows a.maker (Constructs gs)) e (constructs a m h w) }

-- ---- a leaf

module _ (old : Assembler) (m : Maker) (h : Assembles old m) (w : work_of m.kept m.frames ≡ Constructs m.frames) where
  pub leaf_put : (new : Assembler) (t : Tree) (f : Frame) (fs : List Frame) → m.frames ≡ f ∷ fs → new.prefixes ≡ old.prefixes → new.kept ≡ keeps.Nothing → new.name ≡ old.name → PutsLeaf t old.maker new.maker → Assembles new (put t m)
  leaf_put new t f fs e p k n l =
      subst (Assembles new) (sym (ap (λ (gs : List Frame). put_in gs t m) e)) record {
        table = subst (IsTableOf m.document.declarations) (sym p) h.table;
        declarable = h.declarable;
        kept = k;
        fit = tt;
        name = n ∙ h.name;
        work = l.added f fs (subst (λ (gs : List Frame). Follows old.maker (Constructs gs)) e (constructs old m h w));
        says = l.says m.document.ontology h.says;
      }

  pub leaf_room : (t : Tree) (new : Making) → PutsLeaf t old.maker new → IsFull m → ⊥
  leaf_room t new l full = let room = l.room m.frames (constructs old m h w) in omega arith
