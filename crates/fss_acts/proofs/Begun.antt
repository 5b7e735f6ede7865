-- Leaves and constructs that begin.
use Rattle.std.proofs.Common.{◌≡◌, ◌↔◌, Bool, false, IsTrue, ◌<◌, ◌≤◌, ◌^◌, ℕ, List, [], ◌∷◌, length, Option, Some, Result, Ok, Err, inl, inr, refl, sym, ap, ◌∙◌, subst, arith}
use Rattle.std.specs.Prelude.{IfSome}
use Rattle.std.specs.Str.Parse.{digits_value}
use Rattle.std.proofs.lemmas.Bool.{cases_lt}
use Rattle.owl_arena.specs.Shared.{deepest}
use Rattle.owl_characters.specs.Iri.{IsIri}
use Rattle.owl_characters.specs.Names.{IsLabel}
use Rattle.owl_maker.specs.Constructs.{Constructs}
use Rattle.owl_maker.specs.Makings.{Follows, Grows, Making}
use Rattle.owl_doc.specs.Documents.{IsBegun}
use Rattle.owl_atom.specs.declared.prefixes.Prefix.{Prefix}
use Rattle.owl_reader.specs.declared.fault.TokenFault.{TokenFault}
use Rattle.owl_reader.specs.declared.fault.TokenFault.TheVariants as fault
use Rattle.owl_tokens.specs.Tokens.{IsToken}
use Rattle.owl_tokens.specs.declared.token.Token.{Token}
use Rattle.owl_tokens.specs.declared.token.Token.TheVariants as token
use Rattle.owl_tree.specs.declared.atom.Atom.{Atom}
use Rattle.owl_tree.specs.declared.atom.Atom.TheVariants.{Iri, Label, Number}
use Rattle.owl_tree.specs.declared.row.AtomSort.{AtomSort}
use Rattle.owl_tree.specs.declared.row.AtomSort.TheVariants as atom
use Rattle.owl_tree.specs.declared.tag.Tag.{Tag}
use Rattle.owl_tree.specs.Frames.{Frame, opened}
use Rattle.owl_tree.specs.Rows.{Row, Leaf, Node, row_of}
use Rattle.owl_tree.specs.Trees.{leaf}
use Rattle.fss_grammar.specs.ActingLaws.{acts_by_table}
use Rattle.fss_grammar.proofs.ActLaws.{begin}
use Rattle.fss_grammar.specs.Doing.{Acts}
use Rattle.fss_grammar.specs.Making.{BeginsConstruct, BeginsLeaf, Comes, ComesAtom, Kept, Maker, put}
use Rattle.fss_grammar.specs.Making.Kept.{iri, nothing, string}
use Rattle.fss_grammar.specs.Ready.{ComesFor, ComesName, IsReadyToBegin, IsWithin}
use Rattle.fss_grammar.specs.declared.acts.Act.TheVariants.{Begin, Hold}
use Rattle.fss_acts.specs.declared.assembler.Assembler.{Assembler}
use Rattle.fss_acts.specs.declared.kept.Kept.TheVariants as keeps
use Rattle.fss_acts.specs.Assembling.{Answers, AnswersAt, AnswersLeaf, Assembles, IsFit, IsNode, May, Performed, kept_of}
use Rattle.fss_defects.specs.Faults.{FailsLeaf, IsFull}
use Rattle.fss_acts.proofs.Documents.{says_grown}
use Rattle.fss_acts.proofs.Put.{constructs, leaf_put, leaf_room, work_of_nothing}

-- what is required of a row
within : (t : Tag) (sort : AtomSort) (next : Option Token) (m : Maker) → row_of t ≡ Leaf sort → IsReadyToBegin (row_of t) next m → IsWithin m × ComesFor sort next
within t sort next m row ready = subst (λ (r : Row). IsReadyToBegin r next m) row ready

begins : (old : Assembler) (m n : Maker) (t : Tag) (row : Row) (next : Option Token) → Assembles old m → row_of t ≡ row → BeginsConstruct old.prefixes t row next m n → Acts (Begin t) next m n
begins old m n t row next h e b = (acts_by_table old.prefixes (Begin t) next m n h.table).1 (begin old.prefixes t next m n e b)

fails_not : (t : Tag) (row : Row) (next : Option Token) (m : Maker) (f : TokenFault) → row_of t ≡ row → (FailsLeaf row next m f → ⊥) → FailsLeaf (row_of t) next m f → ⊥
fails_not t row next m f e free h = free (subst (λ (r : Row). FailsLeaf r next m f) e h)

fails : (t : Tag) (row : Row) (next : Option Token) (m : Maker) (f : TokenFault) → row_of t ≡ row → FailsLeaf row next m f → FailsLeaf (row_of t) next m f
fails t row next m f e h = subst (λ (r : Row). FailsLeaf r next m f) (sym e) h

module _ (old : Assembler) (t : Tag) (sort : AtomSort) (row : row_of t ≡ Leaf sort) (next : Option Token) (m : Maker) (h : Assembles old m) (ready : IsWithin m) where
  abbrev with_maker : Making → Assembler
  with_maker made = record old { maker = made }

  -- a leaf of a sort that begins
  leaf_begun : (a : Atom) (made : Making) (r : Result (Unit {0}) TokenFault) → BeginsLeaf old.prefixes t sort next m (put (leaf t a) m) → ((f : TokenFault) → (IsFull m → ⊥) → FailsLeaf (Leaf sort) next m f → ⊥) → ((f : TokenFault) → f ≡ fault.TooDeep → IsFull m → FailsLeaf (Leaf sort) next m f) → AnswersLeaf (leaf t a) old.maker r made → AnswersAt (Begin t) next m r (with_maker made)
  leaf_begun a made (Ok done) b free deep l =
      let w = work_of_nothing m ready.nothing_kept in
      record {
        maker = put (leaf t a) m;
        acts = begins old m (put (leaf t a) m) t (Leaf sort) next h row b;
        assembles = leaf_put old m h w (with_maker made) (leaf t a) ready.frame ready.outer ready.frames_are refl (h.kept ∙ ap kept_of ready.nothing_kept) refl l;
        free = λ f. fails_not t (Leaf sort) next m f row (free f (leaf_room old m h w (leaf t a) made l));
      }
  leaf_begun a made (Err f) b free deep l = λ ne.
      let k = l ne in
      fails t (Leaf sort) next m f row (deep f k.told (k.full m.frames (constructs old m h (work_of_nothing m ready.nothing_kept))))

pub iri_begun : (old : Assembler) (made : Making) (r : Result (Unit {0}) TokenFault) (t : Tag) (next : Option Token) (i : List ℕ) → row_of t ≡ Leaf atom.Iri → Comes old.prefixes next i → IsIri i → AnswersLeaf (leaf t (Iri i)) old.maker r made → Answers (Begin t) next old r (record old { maker = made })
iri_begun old made r t next i row c is l m h ready =
    let it : ComesAtom old.prefixes next atom.Iri (Iri i) = record { written = c.name; comes = c.comes; sort_is = refl; stands = (c.name, refl, c.stands); is_atom = is } in
    leaf_begun old t atom.Iri row next m h (within t atom.Iri next m row ready).0 (Iri i) made r (Iri i, it, refl) (λ f room k. room k.1) (λ f e full. (e, full)) l

pub label_begun : (old : Assembler) (made : Making) (r : Result (Unit {0}) TokenFault) (t : Tag) (next : Option Token) (label l : List ℕ) → next ≡ Some (token.Blank label) → l ≡ label → row_of t ≡ Leaf atom.Label → IfSome next IsToken → AnswersLeaf (leaf t (Label l)) old.maker r made → Answers (Begin t) next old r (record old { maker = made })
label_begun old made r t next label l e same row is p m h ready =
    let label_is : IsLabel l = subst IsLabel (sym same) (subst (λ (n : Option Token). IfSome n IsToken) e is) in
    let it : ComesAtom old.prefixes next atom.Label (Label l) = record { written = token.Blank label; comes = e; sort_is = refl; stands = ap (λ (x : List ℕ). token.Blank x ∷ []) (sym same); is_atom = label_is } in
    leaf_begun old t atom.Label row next m h (within t atom.Label next m row ready).0 (Label l) made r (Label l, it, refl) (λ f room k. room k.1) (λ f told full. (told, full)) p

not_too_large : (next : Option Token) (digits other : List ℕ) (n : ℕ) → next ≡ Some (token.Int digits) → n ≡ digits_value 10 digits → n < 2 ^ 64 → next ≡ Some (token.Int other) → 2 ^ 64 ≤ digits_value 10 other → ⊥
not_too_large next digits other n is e small same large =
    let d : digits ≡ other = cc in
    let v = ap (λ (ds : List ℕ). digits_value 10 ds) d in
    omega (arith, v, e, small, large)

pub number_begun : (old : Assembler) (made : Making) (r : Result (Unit {0}) TokenFault) (t : Tag) (next : Option Token) (digits : List ℕ) (n : ℕ) → next ≡ Some (token.Int digits) → row_of t ≡ Leaf atom.Number → n ≡ digits_value 10 digits → n < 2 ^ 64 → AnswersLeaf (leaf t (Number n)) old.maker r made → Answers (Begin t) next old r (record old { maker = made })
number_begun old made r t next digits n is row e small p m h ready =
    let it : ComesAtom old.prefixes next atom.Number (Number n) = record { written = token.Int digits; comes = is; sort_is = refl; stands = (digits, refl, e); is_atom = small } in
    leaf_begun old t atom.Number row next m h (within t atom.Number next m row ready).0 (Number n) made r (Number n, it, refl)
    (λ f room k. elim k [ inl deep ↦ room deep.1 | inr large ↦ not_too_large next digits large.2.0 n is e small large.2.1 large.2.2 ])
    (λ f told full. inl (told, full)) p

-- ---- what is kept

-- there is room
room_by : (full : Bool) (n : ℕ) → full ≡ false → IsTrue full ↔ (deepest ≤ n) → n < deepest
room_by full n e h = elim (cases_lt n deepest) [ inl l ↦ l | inr g ↦ let k = h.1 g in absurd (cc) ]

abbrev TellsFull : Assembler → Bool → Type 0
TellsFull old full = (fs : List Frame) → Follows old.maker (Constructs fs) → IsTrue full ↔ (deepest ≤ length fs)

pub text_begun : (old : Assembler) (full : Bool) (t : Tag) (form : List ℕ) → row_of t ≡ Leaf atom.Literal → TellsFull old full → full ≡ false → (m : Maker) → Assembles old m → IsReadyToBegin (row_of t) (Some (token.Str form)) m → Performed (Begin t) (Some (token.Str form)) m (record old { kept = keeps.Text t form })
text_begun old full t form row tells e m h ready =
    let next = Some (token.Str form) in
    let is = (within t atom.Literal next m row ready).0 in
    let work = constructs old m h (work_of_nothing m is.nothing_kept) in
    let room = room_by full (length m.frames) e (tells m.frames work) in
    record {
      maker = record m { kept = string t form };
      acts = begins old m (record m { kept = string t form }) t (Leaf atom.Literal) next h row (form, refl, refl);
      assembles = record { table = h.table; declarable = h.declarable; kept = refl; fit = room; name = h.name; work = work; says = h.says };
      free = λ f. fails_not t (Leaf atom.Literal) next m f row (λ k. let full = k.1 in omega arith);
    }

pub iri_held : (old : Assembler) (full : Bool) (next : Option Token) (i : List ℕ) → Comes old.prefixes next i → IsIri i → TellsFull old full → full ≡ false → (m : Maker) → Assembles old m → IsWithin m × ComesName next → Performed Hold next m (record old { kept = keeps.Iri i })
iri_held old full next i c is tells e m h ready =
    let n = record m { kept = iri i } in
    let work = constructs old m h (work_of_nothing m ready.0.nothing_kept) in
    let room = room_by full (length m.frames) e (tells m.frames work) in
    record {
      maker = n;
      acts = (acts_by_table old.prefixes Hold next m n h.table).1 (i, c, is, refl);
      assembles = record { table = h.table; declarable = h.declarable; kept = refl; fit = room; name = h.name; work = work; says = h.says };
      free = λ f k. let full = k.1 in omega arith;
    }

-- ---- a construct

opens_node : (p : List Prefix) (t : Tag) (row : Row) (next : Option Token) (m : Maker) → IsNode row → BeginsConstruct p t row next m (record m { frames = opened t m.frames })
opens_node p t (Leaf sort) next m node = absurd node
opens_node p t (Node front rest) next m node = refl

ready_node : (row : Row) (next : Option Token) (m : Maker) → IsNode row → IsReadyToBegin row next m → m.kept ≡ nothing
ready_node (Leaf sort) next m node ready = absurd node
ready_node (Node front rest) next m node ready = ready

node_free : (row : Row) (next : Option Token) (m : Maker) (f : TokenFault) → IsNode row → length m.frames < deepest → FailsLeaf row next m f → ⊥
node_free (Leaf sort) next m f node room k = absurd node
node_free (Node front rest) next m f node room k = let full = k.1 in omega arith

pub construct_opened : (old : Assembler) (made : Making) (t : Tag) (row : Row) → row_of t ≡ row → IsNode row → (next : Option Token) → IsBegun old.maker.document → Grows old.maker.document made.document → ((fs : List Frame) → Follows old.maker (Constructs fs) → Follows made (Constructs (opened t fs))) → ((fs : List Frame) → Follows old.maker (Constructs fs) → length fs < deepest) → (m : Maker) → Assembles old m → IsReadyToBegin (row_of t) next m → Performed (Begin t) next m (record old { maker = made })
construct_opened old made t row e node next begun grows opens room m h ready =
    let none = ready_node row next m node (subst (λ (r : Row). IsReadyToBegin r next m) e ready) in
    let n = record m { frames = opened t m.frames } in
    let work = constructs old m h (work_of_nothing m none) in
    record {
      maker = n;
      acts = begins old m n t row next h e (opens_node old.prefixes t row next m node);
      assembles = record {
        table = h.table;
        declarable = h.declarable;
        kept = h.kept;
        fit = subst (λ (k : Kept). IsFit k n.frames m.document.declarations) (sym none) tt;
        name = h.name;
        work = subst (Follows made) (sym (work_of_nothing n none)) (opens m.frames work);
        says = says_grown old.maker.document made.document begun grows m.document.ontology h.says;
      };
      free = λ f. fails_not t row next m f e (node_free row next m f node (room m.frames work));
    }

pub may_within : (a : Assembler) (t : Tag) (sort : AtomSort) (next : Option Token) → row_of t ≡ Leaf sort → May (λ m. IsReadyToBegin (row_of t) next m) a → May (λ m. IsWithin m × ComesFor sort next) a
may_within a t sort next e may = record { maker = may.maker; assembles = may.assembles; ready = within t sort next may.maker e may.ready }
