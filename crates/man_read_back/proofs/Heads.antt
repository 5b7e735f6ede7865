-- The name of the ontology, its imports and its annotations are read as they were written.
use Rattle.std.proofs.Common.{◌≡◌, ◌≤◌, ◌+◌, ℕ, Option, None, Some, List, [], ◌∷◌, ◌++◌, codes, refl, sym, subst}
use Rattle.std.specs.Prelude.{IfSome}
use Rattle.std.specs.List.{AllByRecursion}
use Rattle.std.proofs.lemmas.List.{append_assoc, append-nil}
use Rattle.grammar.specs.declared.symbol.Symbol.{Symbol}
use Rattle.grammar.specs.declared.symbol.Symbol.TheVariants.{Act, Rule}
use Rattle.man_grammar.specs.Acts.{act_number}
use Rattle.man_grammar.specs.ClassNumbers.{word_of}
use Rattle.man_grammar.specs.Page.{rule_number}
use Rattle.man_grammar.specs.Page.Rule.{head_notes as head_notes_rule, header, imports as imports_rule, notes as notes_rule, version as version_rule}
use Rattle.man_grammar.specs.declared.act.Act.TheVariants as act_named
use Rattle.man_grammar.specs.declared.class.Class.TheVariants as class
use Rattle.man_raw.specs.Documents.{HeadTree}
use Rattle.man_raw.specs.Opened.{most_nests}
use Rattle.man_raw.specs.Raws.{RawTree}
use Rattle.man_raw.specs.declared.form.Form.TheVariants as form_named
use Rattle.man_raw.specs.declared.form.What.TheVariants as what
use Rattle.man_text.specs.Text.{import_lines, iri_behind, notes_line, notes_lines}
use Rattle.man_text.specs.Undecided.{piece}
use Rattle.man_text.specs.Words.{words_of}
use Rattle.man_text.proofs.WritableLaws.{AreHeadNotes}
use Rattle.man_text.proofs.WritableLaws.AreHeadNotes.{head_notes}
use Rattle.owl_characters.specs.Iri.{IsIri}
use Rattle.man_read_back.proofs.Notes.{say_notes, says_noted}
use Rattle.man_read_back.proofs.Reading.{act, by}
use Rattle.man_read_back.proofs.Said.{Comes, ComesOn, Goes, GoesOn, Outside, Reader, within}
use Rattle.man_read_back.proofs.Sections.{begin_part}
use Rattle.man_read_back.proofs.Steps as steps
use Rattle.man_read_back.proofs.Words.{colon_word, full}

abbrev pub with_head : Outside → HeadTree → Outside
with_head o h = record o { head = h }

module _ (r : Reader) where
  -- ---- the name

  says_version : (iri : Option (List ℕ)) (version : Option (List ℕ)) → IfSome version IsIri → (o : Outside) (ss : List Symbol) (rest : List ℕ) → ComesOn r ss (with_head o (record { iri = iri; version = version; imports = o.head.imports })) rest
      → ComesOn r (Rule (rule_number version_rule) ∷ ss) (with_head o (record { iri = iri; version = None; imports = o.head.imports })) (iri_behind version rest)
  says_version iri None h o ss rest k form = by version_rule 0 refl (k form)
  says_version iri (Some version) h o ss rest k form =
      by version_rule 1 refl (steps.space refl (full version h refl (k form)))

  pub says_name_of : (iri version : Option (List ℕ)) → IfSome iri IsIri → IfSome version IsIri → (iri ≡ None → version ≡ None) → (imports : List (List ℕ)) (o : Outside) (ss : List Symbol) (rest : List ℕ)
      → ComesOn r ss (with_head o (record { iri = iri; version = version; imports = imports })) rest
      → ComesOn r (Rule (rule_number header) ∷ ss) (with_head o (record { iri = None; version = None; imports = imports })) (iri_behind iri (iri_behind version rest))
  says_name_of None None h v beside imports o ss rest k form = by header 0 refl (k form)
  says_name_of None (Some version) h v beside imports o ss rest k form = let none = beside refl in absurd (cc)
  says_name_of (Some iri) version h v beside imports o ss rest k form =
      let behind = iri_behind version rest in
      by header 1 refl (steps.space refl (full iri h refl
      (says_version (Some iri) version v (with_head o (record { iri = Some iri; version = None; imports = imports })) ss rest k form)))

  -- ---- imports

  abbrev pub with_imports : Outside → List (List ℕ) → Outside
  with_imports o iris = record o { head = record o.head { imports = iris } }

  pub says_imports : (iris : List (List ℕ)) → AllByRecursion IsIri iris → (o : Outside) (ss : List Symbol) (rest : List ℕ) → ComesOn r ss (with_imports o (o.head.imports ++ iris)) rest
      → ComesOn r (Rule (rule_number imports_rule) ∷ ss) o (import_lines iris rest)
  says_imports [] h o ss rest k form = by imports_rule 0 refl (subst (λ (l : List (List ℕ)). Comes r ss (with_imports o l) form rest) (append-nil o.head.imports) (k form))
  says_imports (iri ∷ iris) h o ss rest k form =
      let behind = codes "\n" ++ import_lines iris rest in
      by imports_rule 1 refl (colon_word class.Import refl refl (steps.space refl
      (full iri h.0 refl (steps.space refl
      (says_imports iris h.1 (with_imports o (o.head.imports ++ iri ∷ [])) ss rest
      (λ f. subst (λ (l : List (List ℕ)). Comes r ss (with_imports o l) f rest) (sym (append_assoc o.head.imports (iri ∷ []) iris)) (k f)) form)))))

  -- ---- annotations

  abbrev pub with_notes : Outside → List RawTree → Outside
  with_notes o ts = record o { notes = ts }

  notes_read : {ss : List Symbol} {form cs : List ℕ} (o : Outside) (t : RawTree) → Comes r ss (with_notes o (o.notes ++ t ∷ [])) form cs → Goes r (Act (act_number act_named.HeadNotes) ∷ ss) (within o (t ∷ [])) form cs
  notes_read o t k = act refl (λ x. refl) k

  says_line : (t : RawTree) (n : ℕ) → AreHeadNotes n t → (o : Outside) (ss : List Symbol) (rest : List ℕ) → o.nests + n ≤ most_nests → ComesOn r ss (with_notes o (o.notes ++ t ∷ [])) rest
      → GoesOn r (Rule (rule_number notes_rule) ∷ Act (act_number act_named.HeadNotes) ∷ ss) (within o []) (notes_line r.written t rest)
  unfolding words_of word_of
  says_line t n (head_notes m u us h) o ss rest few k form =
      says_noted r u us m (say_notes r h) (within o []) (Act (act_number act_named.HeadNotes) ∷ ss) (codes "\n" ++ rest) refl few (λ f. notes_read o (piece (what.Form form_named.Notes) (u ∷ us)) (steps.space refl (k f))) form

  pub says_head_notes : (n : ℕ) (ts : List RawTree) → AllByRecursion (AreHeadNotes n) ts → (o : Outside) (ss : List Symbol) (rest : List ℕ) → o.nests + n ≤ most_nests → ComesOn r ss (with_notes o (o.notes ++ ts)) rest
      → ComesOn r (Rule (rule_number head_notes_rule) ∷ ss) o (notes_lines r.written ts rest)
  says_head_notes n [] h o ss rest few k form = by head_notes_rule 0 refl (subst (λ (l : List RawTree). Comes r ss (with_notes o l) form rest) (append-nil o.notes) (k form))
  says_head_notes n (t ∷ ts) h o ss rest few k form =
      by head_notes_rule 1 refl (begin_part r o (says_line t n h.0 o (Rule (rule_number head_notes_rule) ∷ ss) (notes_lines r.written ts rest) few
      (says_head_notes n ts h.1 (with_notes o (o.notes ++ t ∷ [])) ss rest few
      (λ f. subst (λ (l : List RawTree). Comes r ss (with_notes o l) f rest) (sym (append_assoc o.notes (t ∷ []) ts)) (k f))) form))
