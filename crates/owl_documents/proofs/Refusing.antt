-- What a document is read as, and why it is not.
use Rattle.std.proofs.Common.{Result, Ok, Err, IfErr, ◌≡◌, ◌≢◌, ◌<◌, ◌≤◌, ◌+◌, ℕ, Option, None, Some, List, [], ◌++◌, length, take, refl, sym, ap, ◌∙◌, subst, arith}
use Rattle.std.specs.Result.{IsErrAnd}
use Rattle.std.proofs.lemmas.List.{append_assoc, length-append, length-take-le, take-append-le}
use Rattle.owl_atom.specs.declared.prefixes.Prefix.{Prefix}
use Rattle.owl_canon.specs.Limits.{ReadsCanonical}
use Rattle.owl_canon.specs.declared.fault.CanonFault.{CanonFault}
use Rattle.owl_canon.specs.declared.fault.CanonFault.TheVariants as canon
use Rattle.owl_tree.specs.Ontologies.{Ontology}
use Rattle.owl_port.specs.Outside.{before}
use Rattle.owl_command.specs.Commands.{Source}
use Rattle.owl_port.specs.declared.whole.ReadFault as port
use Rattle.owl_port.specs.declared.whole.ReadFault.TheVariants as pf
use Rattle.owl_reader.specs.declared.fault.ReadFault.{ReadFault}
use Rattle.owl_reader.specs.declared.fault.ReadFault.TheVariants as read
use Rattle.rdf_graph.specs.declared.triple.Triple.{Triple}
use Rattle.rdf_scans.specs.Outlines.{IsOutlineFault}
use Rattle.rdf_scans.specs.declared.fault.OutlineFault.{OutlineFault}
use Rattle.rdf_scans.specs.declared.fault.OutlineFault.TheVariants as outline
use Rattle.ttl_grammar.specs.Documents.{ReadsTurtle}
use Rattle.owl_documents.specs.Documents.{AreFew, Contents, IsDefect, IsRefused, defective, of_bytes, of_header, syntax_of, IsProperRefusal}
use Rattle.owl_documents.specs.Reading.{IsDefectAgainst, IsLimit, IsLonger, IsProper, IsTroubleOf, IsTroubleOfShelf, failed, no_memory, too_long, trouble_of, trouble_of_bytes, trouble_of_header}
use Rattle.owl_documents.specs.declared.document.Syntax.{Syntax}
use Rattle.owl_documents.specs.declared.document.Syntax.TheVariants.{Canonical, Turtle}
use Rattle.owl_documents.specs.declared.trouble.Refusal.{Refusal}
use Rattle.owl_documents.specs.declared.trouble.Refusal.TheVariants.{DocumentBytes, AllBytes, Headless, NotCanon, Unreadable}
use Rattle.owl_documents.specs.declared.trouble.Trouble.{Trouble}
use Rattle.owl_documents.specs.declared.trouble.Trouble.TheVariants.{ReadFailed, Refused}

-- more was fed than may be
pub longer_by : (there now : Option (List ℕ)) (fed : List ℕ) (room : ℕ) → there ≡ before fed now → (now ≡ None → fed ≡ []) → room < length fed → IsLonger there room
longer_by there None fed room e lacks more =
    let none = ap (λ (xs : List ℕ). length xs) (lacks refl) in
    absurd (omega arith)
longer_by there (Some rest) fed room e lacks more =
    let both = length-append fed rest in
    record { bytes = fed ++ rest; are = e; more = omega arith }

-- a piece more was taken: what was put to the front of a buffer
pub taken_more : (there middle now : Option (List ℕ)) (fed into behind : List ℕ) (n : ℕ) → there ≡ before fed middle → middle ≡ before (take n into) now → n ≤ length into → there ≡ before (fed ++ take n (into ++ behind)) now
taken_more there middle None fed into behind n e f l = e ∙ ap (before fed) f
taken_more there middle (Some rest) fed into behind n e f l =
    e ∙ ap (before fed) f ∙ ap Some (sym (append_assoc fed (take n into) rest))
    ∙ ap (λ (piece : List ℕ). before (fed ++ piece) (Some rest)) (sym (take-append-le n into behind l))

pub counted_more : (size n : ℕ) (fed into behind : List ℕ) → size ≡ length fed → n ≤ length into → size + n ≡ length (fed ++ take n (into ++ behind))
counted_more size n fed into behind e l =
    let both = length-append fed (take n (into ++ behind)) in
    let piece = ap (λ (xs : List ℕ). length xs) (take-append-le n into behind l) in
    let taken = length-take-le n into l in
    omega arith

pub few_fed : (before size count : ℕ) → size ≡ count → AreFew before size → AreFew before count
few_fed before size count e few = subst (AreFew before) e few

-- what a reader refuses
refusal_of : (fault : ReadFault) (refusal : Refusal) → trouble_of fault ≡ Refused refusal → (refusal ≡ Unreadable fault) × (fault ≢ read.Memory)
refusal_of (read.Refused item at reason) refusal e = (cc, λ f. cc)
refusal_of read.TooLong refusal e = (cc, λ f. cc)
refusal_of read.TooDeep refusal e = (cc, λ f. cc)
refusal_of read.TooHeavy refusal e = (cc, λ f. cc)
refusal_of read.NumberTooLarge refusal e = (cc, λ f. cc)
refusal_of read.TooMany refusal e = (cc, λ f. cc)
refusal_of read.Memory refusal e = absurd (cc)

never_failed : (fault : ReadFault) → trouble_of fault ≡ ReadFailed → ⊥
never_failed (read.Refused item at reason) e = cc
never_failed read.TooLong e = cc
never_failed read.TooDeep e = cc
never_failed read.TooHeavy e = cc
never_failed read.NumberTooLarge e = cc
never_failed read.TooMany e = cc
never_failed read.Memory e = cc

-- what is wrong with a header
header_refusal_of : (fault : OutlineFault) (refusal : Refusal) → trouble_of_header fault ≡ Refused refusal → (refusal ≡ Headless fault) × (fault ≢ outline.Memory)
header_refusal_of outline.NoHeader refusal e = (cc, λ f. cc)
header_refusal_of outline.TwoHeaders refusal e = (cc, λ f. cc)
header_refusal_of (outline.BadHeader node) refusal e = (cc, λ f. cc)
header_refusal_of outline.Memory refusal e = absurd (cc)

header_never_failed : (fault : OutlineFault) → trouble_of_header fault ≡ ReadFailed → ⊥
header_never_failed outline.NoHeader e = cc
header_never_failed outline.TwoHeaders e = cc
header_never_failed (outline.BadHeader node) e = cc
header_never_failed outline.Memory e = cc

-- bytes that are not canonical
bytes_refusal_of : (fault : CanonFault) (refusal : Refusal) → trouble_of_bytes fault ≡ Refused refusal → (refusal ≡ NotCanon) × (fault ≡ canon.NotCanon)
bytes_refusal_of canon.NotCanon refusal e = (cc, refl)
bytes_refusal_of canon.Memory refusal e = absurd (cc)

bytes_never_failed : (fault : CanonFault) → trouble_of_bytes fault ≡ ReadFailed → ⊥
bytes_never_failed canon.NotCanon e = cc
bytes_never_failed canon.Memory e = cc

-- The trouble is what comes of this fault, whose refusal is of bytes that were fed.
module _ {T Fault : Type 0} (trouble : Fault → Trouble) (r : Result T Trouble) (fault : Fault) (refused : IsErrAnd r (λ y. y ≡ trouble fault)) where
  by_fault : (P : Trouble → Type 0) → P (trouble fault) → IfErr r P
  by_fault P p = by_result r refused
    where
      by_result : (r : Result T Trouble) → IsErrAnd r (λ y. y ≡ trouble fault) → IfErr r P
      by_result (Ok x) e = tt
      by_result (Err y) e = subst P (sym e) p

  not_failed : (trouble fault ≡ ReadFailed → ⊥) → r ≢ Err ReadFailed
  not_failed n f = n (sym (subst (λ (x : Result T Trouble). IsErrAnd x (λ y. y ≡ trouble fault)) f refused))

module _ {T : Type 0} (r : Result T Trouble) (fault : ReadFault) (refused : IsErrAnd r (λ y. y ≡ trouble_of fault)) where
  pub reader_defect : (syntax : Syntax) (Fed : Option (List ℕ) → List ℕ → Type 0) → (fault ≢ read.Memory → (base : Option (List ℕ)) (bytes : List ℕ) → Fed base bytes → (name : List ℕ) → syntax_of name ≡ syntax → IsDefect base name bytes (Unreadable fault)) → IfErr r (λ trouble. (base : Option (List ℕ)) (bytes : List ℕ) → Fed base bytes → IsDefectAgainst base syntax bytes trouble)
  reader_defect syntax Fed d = by_fault trouble_of r fault refused (λ trouble. (base : Option (List ℕ)) (bytes : List ℕ) → Fed base bytes → IsDefectAgainst base syntax bytes trouble) (λ base bytes fed refusal is name t.
      let told = refusal_of fault refusal is in
      subst (IsDefect base name bytes) (sym told.0) (d told.1 base bytes fed name t))

  pub reader_proper : IfErr r IsProper
  reader_proper = by_fault trouble_of r fault refused IsProper (λ refusal is.
      let told = refusal_of fault refusal is in
      subst IsProperRefusal (sym told.0) told.1)

  pub reader_never_failed : r ≢ Err ReadFailed
  reader_never_failed = not_failed trouble_of r fault refused (never_failed fault)

module _ {T : Type 0} (r : Result T Trouble) (fault : OutlineFault) (refused : IsErrAnd r (λ y. y ≡ trouble_of_header fault)) where
  pub header_defect : (Fed : Option (List ℕ) → List ℕ → Type 0) (prefixes : List Prefix) (triples : List Triple) → ((base : Option (List ℕ)) (bytes : List ℕ) → Fed base bytes → ReadsTurtle base bytes prefixes triples) → IsOutlineFault triples fault → IfErr r (λ trouble. (base : Option (List ℕ)) (bytes : List ℕ) → Fed base bytes → IsDefectAgainst base Turtle bytes trouble)
  header_defect Fed prefixes triples reads f = by_fault trouble_of_header r fault refused (λ trouble. (base : Option (List ℕ)) (bytes : List ℕ) → Fed base bytes → IsDefectAgainst base Turtle bytes trouble) (λ base bytes fed refusal is name t.
      let told = header_refusal_of fault refusal is in
      subst (IsDefect base name bytes) (sym told.0) (of_header fault prefixes triples t (reads base bytes fed) told.1 f))

  pub header_proper : IfErr r IsProper
  header_proper = by_fault trouble_of_header r fault refused IsProper (λ refusal is.
      let told = header_refusal_of fault refusal is in
      subst IsProperRefusal (sym told.0) told.1)

  pub header_not_failed : r ≢ Err ReadFailed
  header_not_failed = not_failed trouble_of_header r fault refused (header_never_failed fault)

module _ {T : Type 0} (r : Result T Trouble) (fault : CanonFault) (refused : IsErrAnd r (λ y. y ≡ trouble_of_bytes fault)) where
  pub bytes_defect : (bytes : List ℕ) → (fault ≡ canon.NotCanon → (o : Ontology) → ReadsCanonical bytes o → ⊥) → IfErr r (λ trouble. (base : Option (List ℕ)) → IsDefectAgainst base Canonical bytes trouble)
  bytes_defect bytes none = by_fault trouble_of_bytes r fault refused (λ trouble. (base : Option (List ℕ)) → IsDefectAgainst base Canonical bytes trouble) (λ base refusal is name t.
      let told = bytes_refusal_of fault refusal is in
      subst (IsDefect base name bytes) (sym told.0) (of_bytes t (none told.1)))

  pub bytes_proper : IfErr r IsProper
  bytes_proper = by_fault trouble_of_bytes r fault refused IsProper (λ refusal is. subst IsProperRefusal (sym (bytes_refusal_of fault refusal is).0) tt)

  pub bytes_not_failed : r ≢ Err ReadFailed
  bytes_not_failed = not_failed trouble_of_bytes r fault refused (bytes_never_failed fault)

-- the document under a name has the defect of its bytes
pub defect_trouble : (contents : Contents) (before : ℕ) (syntax : Syntax) (source : Source) (bytes : List ℕ) (trouble : Trouble) → syntax_of source.name ≡ syntax → contents source.name ≡ Some bytes → AreFew before (length bytes) → IsDefectAgainst source.base syntax bytes trouble → IsTroubleOf contents before source trouble
defect_trouble contents before syntax source bytes trouble t there few d = λ refusal is.
    record { bytes = bytes; there = there; refused = defective few (d refusal is source.name t) }

-- what a shelf refuses
module _ (before : ℕ) (fault : port.ReadFault) (trouble : Trouble) (of : IsTroubleOfShelf before fault trouble) where
  pub shelf_trouble : (contents : Contents) (source : Source) (room : ℕ) → ((size : ℕ) → AreFew before size → size ≤ room) → (fault ≡ pf.TooLong → IsLonger (contents source.name) room) → IsTroubleOf contents before source trouble
  shelf_trouble contents source room fits longer = by_cause of
    where
      by_cause : IsTroubleOfShelf before fault trouble → IsTroubleOf contents before source trouble
      by_cause (failed f e) = λ refusal is. absurd (cc)
      by_cause (too_long limit f l p e) = λ refusal is.
          let l = longer f in
          let same : limit ≡ refusal = cc in
          record { bytes = l.bytes; there = l.are; refused = subst (λ (x : Refusal). IsRefused before source l.bytes x) same (p source l.bytes (λ few. let most = fits (length l.bytes) few in let more = l.more in absurd (omega arith))) }
      by_cause (no_memory e) = λ refusal is. absurd (cc)

  pub shelf_proper : IsProper trouble
  shelf_proper = by_cause of
    where
      of_limit : (limit : Refusal) → IsLimit limit → IsProperRefusal limit
      of_limit DocumentBytes l = tt
      of_limit AllBytes l = tt
      of_limit (Unreadable f) l = absurd l
      of_limit (Headless f) l = absurd l
      of_limit NotCanon l = absurd l

      by_cause : IsTroubleOfShelf before fault trouble → IsProper trouble
      by_cause (failed f e) = λ refusal is. absurd (cc)
      by_cause (too_long limit f l p e) = λ refusal is. let same : limit ≡ refusal = cc in subst IsProperRefusal same (of_limit limit l)
      by_cause (no_memory e) = λ refusal is. absurd (cc)

  pub shelf_failed : trouble ≡ ReadFailed → fault ≡ pf.Failed
  shelf_failed is = by_cause of
    where
      by_cause : IsTroubleOfShelf before fault trouble → fault ≡ pf.Failed
      by_cause (failed f e) = f
      by_cause (too_long limit f l p e) = absurd (cc)
      by_cause (no_memory e) = absurd (cc)
