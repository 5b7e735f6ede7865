-- Annotations and facts are read as they were written.
use Rattle.std.proofs.Common.{ℕ, suc, List, [], ◌∷◌, ◌++◌, codes, refl}
use Rattle.std.specs.List.{AllByRecursion}
use Rattle.grammar.specs.declared.symbol.Symbol.{Symbol}
use Rattle.grammar.specs.declared.symbol.Symbol.TheVariants.{Act, Rule}
use Rattle.man_grammar.specs.Acts.{act_number}
use Rattle.man_grammar.specs.ClassNumbers.{word_of}
use Rattle.man_grammar.specs.Page.{rule_number}
use Rattle.man_grammar.specs.Page.Rule.{fact as fact_rule, name as name_rule, note_list, notes as notes_rule, opt_notes, other_notes, value as value_rule}
use Rattle.man_grammar.specs.declared.act.Act.TheVariants as act_named
use Rattle.man_grammar.specs.declared.class.Class.TheVariants as class
use Rattle.man_raw.specs.Raws.{RawTree, trees_of}
use Rattle.man_raw.specs.declared.form.Form.TheVariants as form_named
use Rattle.man_raw.specs.declared.form.What.TheVariants as what
use Rattle.man_text.specs.Text.{behind, text}
use Rattle.man_text.specs.Undecided.{piece}
use Rattle.man_text.specs.Words.{words_of}
use Rattle.man_text.proofs.WritableLaws.{AreNotes, IsFact, IsName, IsNotes, IsValue}
use Rattle.man_text.proofs.WritableLaws.AreNotes.{end_of_notes, note}
use Rattle.man_text.proofs.WritableLaws.IsFact.{pair}
use Rattle.man_text.proofs.WritableLaws.IsNotes.{no_notes, some_notes}
use Rattle.man_read_back.proofs.Atoms.{says_name, says_value}
use Rattle.man_read_back.proofs.Pieces.{comma, less_room, nesting, onto, opening, room_inside, says_list, shut_all, shutting, unnesting}
use Rattle.man_read_back.proofs.Reading.{act, by}
use Rattle.man_read_back.proofs.Said.{GoesOn, HasRoom, Point, Reader, Says, inside, nest, put}
use Rattle.man_read_back.proofs.Steps as steps
use Rattle.man_read_back.proofs.Stops.{Ends}
use Rattle.man_read_back.proofs.Words.{colon_word, word}

-- whatever stands behind
abbrev pub SaysNotes : Reader → RawTree → ℕ → Type 0
SaysNotes r t need = (p : Point) (ss : List Symbol) (rest : List ℕ) → HasRoom p need → GoesOn r ss (put t p) rest → GoesOn r (Rule (rule_number opt_notes) ∷ ss) p (text r.written t rest)

abbrev note_symbols : List Symbol
note_symbols = Act (act_number act_named.Open) ∷ Rule (rule_number opt_notes) ∷ Rule (rule_number name_rule) ∷ Rule (rule_number value_rule) ∷ Act (act_number (act_named.Shut form_named.Note)) ∷ []

-- an assertion of an annotation
abbrev pub assertion_symbols : List Symbol
assertion_symbols = Act (act_number act_named.Open) ∷ Rule (rule_number name_rule) ∷ Rule (rule_number value_rule) ∷ Act (act_number (act_named.Shut form_named.Assertion)) ∷ []

module _ (r : Reader) where
  -- a name and a value, in front of what a frame does with both
  pub says_pair : (property value : RawTree) → IsName property → IsValue value → (p : Point) (ss : List Symbol) (rest : List ℕ) → Ends rest → HasRoom p 0 → GoesOn r ss (put value (put property p)) rest
      → GoesOn r (Rule (rule_number name_rule) ∷ Rule (rule_number value_rule) ∷ ss) p (text r.written property (codes " " ++ text r.written value rest))
  says_pair property value h v p ss rest ends few k form =
      says_name r property h p (Rule (rule_number value_rule) ∷ ss) (codes " " ++ text r.written value rest) refl few (λ f. steps.space refl (says_value r value v (put property p) ss rest ends few k f)) form

  says_note : (above property value : RawTree) (n : ℕ) → SaysNotes r above n → IsName property → IsValue value → Says r note_symbols (piece (what.Form form_named.Note) (above ∷ property ∷ value ∷ [])) n
  unfolding words_of
  says_note above property value n a h v p ss rest ends few k form =
      opening r p (a (inside [] p) _ (text r.written property (codes " " ++ text r.written value rest)) few
      (says_pair property value h v (inside (above ∷ []) p) _ rest ends (less_room p n few) (λ f. shutting r form_named.Note refl (value ∷ property ∷ above ∷ []) p (k f))) form)

  -- the annotations behind their keyword
  pub says_noted : (t : RawTree) (ts : List RawTree) (n : ℕ) → AllByRecursion (λ u. Says r note_symbols u n) (t ∷ ts) → (p : Point) (ss : List Symbol) (rest : List ℕ) → Ends rest → HasRoom p (suc n)
      → GoesOn r ss (put (piece (what.Form form_named.Notes) (t ∷ ts)) p) rest → GoesOn r (Rule (rule_number notes_rule) ∷ ss) p (codes "Annotations: " ++ text r.written t (behind r.written (codes ", ") (codes ", ") (trees_of ts) rest))
  unfolding word_of
  says_noted t ts n h p ss rest ends few k form =
      by notes_rule 0 refl (opening r p (nesting r (inside [] p) n few (colon_word class.Annotations refl refl (steps.space refl (by note_list 0 refl
      (says_list r (rule_number other_notes) (codes ", ") note_symbols n (λ q tt f cs g. by other_notes 1 refl (comma r (by note_list 0 refl g))) (λ cs. refl) t ts h (inside [] (nest p)) _ rest ends (room_inside p n few)
      (λ f. by other_notes 0 refl (unnesting r (inside (onto (t ∷ ts) []) p) (shut_all r form_named.Notes refl (t ∷ ts) p (k f)))) form))))))

  says_some : (t : RawTree) (ts : List RawTree) (n : ℕ) → AllByRecursion (λ u. Says r note_symbols u n) (t ∷ ts) → SaysNotes r (piece (what.Form form_named.Notes) (t ∷ ts)) (suc n)
  unfolding words_of word_of
  says_some t ts n h p ss rest few k form = by opt_notes 1 refl (says_noted t ts n h p ss (codes " " ++ rest) refl few (λ f. steps.space refl (k f)) form)

  says_none : (n : ℕ) → SaysNotes r (piece (what.Form form_named.Notes) []) n
  says_none n p ss rest few k form = by opt_notes 0 refl (act refl (λ x. refl) (k form))

  mutual
    pub says_notes : {n : ℕ} {t : RawTree} → IsNotes n t → SaysNotes r t n
    says_notes (no_notes n) = says_none n
    says_notes (some_notes n t ts h) = says_some t ts n (say_notes h)

    pub say_notes : {n : ℕ} {ts : List RawTree} → AreNotes n ts → AllByRecursion (λ t. Says r note_symbols t n) ts
    say_notes (end_of_notes n) = tt
    say_notes (note n above property value ts a h v hs) = (says_note above property value n (says_notes a) h v, say_notes hs)

  -- ---- facts

  pub says_fact : (t : RawTree) → IsFact form_named.Fact t → Says r (Rule (rule_number fact_rule) ∷ []) t 0
  unfolding words_of
  says_fact t (pair f property value h v) p ss rest ends few k form =
      by fact_rule 0 refl (opening r p (says_pair property value h v (inside [] p) _ rest ends few (λ g. shutting r form_named.Fact refl (value ∷ property ∷ []) p (k g)) form))

  pub says_negative : (t : RawTree) → IsFact form_named.NegativeFact t → Says r (Rule (rule_number fact_rule) ∷ []) t 1
  unfolding words_of word_of
  says_negative t (pair f property value h v) p ss rest ends few k form =
      by fact_rule 1 refl (opening r p (nesting r (inside [] p) 0 few (word class.Not refl refl (steps.space refl
      (says_pair property value h v (inside [] (nest p)) _ rest ends (room_inside p 0 few) (λ g. unnesting r (inside (value ∷ property ∷ []) p) (shutting r form_named.NegativeFact refl (value ∷ property ∷ []) p (k g))) form)))))

  pub says_assertion : (t : RawTree) → IsFact form_named.Assertion t → Says r assertion_symbols t 0
  unfolding words_of
  says_assertion t (pair f property value h v) p ss rest ends few k form =
      opening r p (says_pair property value h v (inside [] p) _ rest ends few (λ g. shutting r form_named.Assertion refl (value ∷ property ∷ []) p (k g)) form)
