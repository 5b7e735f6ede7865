-- The text of a writable document reads back to it.
use Rattle.std.proofs.Common.{◌≡◌, ◌≤◌, ◌<◌, ℕ, true, Option, None, Some, Result, Ok, Err, List, [], ◌∷◌, ◌++◌, map, length, codes, refl, sym, ap, ◌∙◌, subst, arith}
use Rattle.std.specs.Prelude.{reverse}
use Rattle.std.specs.List.{AllByRecursion}
use Rattle.std.specs.Str.{all_scalars, encode_utf8_all}
use Rattle.std.proofs.lemmas.List.{append-nil}
use Rattle.grammar.proofs.LoweringLaws.{taken}
use Rattle.grammar.specs.Derivations.{DerivesOf, Event}
use Rattle.grammar.specs.declared.symbol.Symbol.TheVariants.{Need, Rule}
use Rattle.man_grammar.specs.Classes.{class_of}
use Rattle.man_grammar.specs.ClassNumbers.{class_number, word_of}
use Rattle.man_grammar.specs.Documents.{AreSamePrefixes}
use Rattle.man_grammar.specs.Page.{manchester_page, rule_number}
use Rattle.man_grammar.specs.Page.Rule.{document as document_rule, head_notes, header, imports as imports_rule, items as items_rule}
use Rattle.man_grammar.specs.Runs.{answer}
use Rattle.man_grammar.specs.States.{State, start}
use Rattle.man_grammar.specs.declared.class.Class.TheVariants as class
use Rattle.man_raw.specs.Documents.{DocumentTree}
use Rattle.man_raw.specs.Listed.{nothing_listed}
use Rattle.man_raw.specs.Opened.{most_nests}
use Rattle.man_read_back.specs.ReadsBack.{ReadsBack}
use Rattle.man_text.specs.Text.{document_text, head_lines, import_lines, iri_behind, items_text, manchester_prefixes, notes_lines, prefix_lines}
use Rattle.man_text.proofs.WritableLaws.{IsWritable}
use Rattle.man_text.specs.Undecided.{unplaced_document, unplaced_item}
use Rattle.owl_atom.specs.Prefixes.{AreAscending, IsTable, fixed_prefixes}
use Rattle.owl_atom.specs.declared.prefixes.Prefix.{Prefix}
use Rattle.owl_characters.proofs.Utf8Laws.{no_bytes}
use Rattle.owl_characters.specs.Limit.{most_bytes}
use Rattle.owl_characters.specs.Utf8.{behind_mark, mark_size}
use Rattle.owl_lexer.specs.Splitting.{Splits, SplitsFrom}
use Rattle.owl_lexer.specs.declared.placed.Placed.{Placed}
use Rattle.owl_reader.specs.Steps.{plain}
use Rattle.owl_reader.specs.declared.fault.TokenFault.{TokenFault}
use Rattle.owl_tokens.specs.ManchesterSpellings.{SpellsManchester}
use Rattle.owl_tokens.specs.declared.token.Token.{Token}
use Rattle.owl_writing.proofs.WrittenTableLaws.{AreKnown}
use Rattle.owl_writing.specs.Tables.{HaveIris, as_declared, written_prefixes}
use Rattle.man_read_back.proofs.EventSteps.{Stepped, plain_tokens, stepped}
use Rattle.man_read_back.proofs.Forgetting.{steps_forgotten}
use Rattle.man_read_back.proofs.Heads.{says_head_notes, says_imports, says_name_of, with_head, with_notes}
use Rattle.man_read_back.proofs.Items.{says_items}
use Rattle.man_read_back.proofs.Pieces.{onto_reversed}
use Rattle.man_read_back.proofs.Places.{forgotten, map_reversed, unplaced_state}
use Rattle.man_read_back.proofs.Prefixes.{says_prefixes}
use Rattle.man_read_back.proofs.Reading.{acted_at_zero, by, manchester}
use Rattle.man_read_back.proofs.Said.{Outside, Reader}
use Rattle.man_read_back.proofs.Steps as steps
use Rattle.man_read_back.proofs.Steps.{Reads, Starts, run}
use Rattle.man_read_back.proofs.Stops.{Ends}
use Rattle.man_read_back.proofs.TableLaws.{IsDeclarable, all_free, are_declarable, declared, kept_table, known_prefixes, read_prefixes}
use Rattle.man_read_back.proofs.Words.{colon_word}

-- what the state behind the text is
record IsBehind (d : DocumentTree) (s : State) : Type 0 where
  prefixes : s.names.prefixes ≡ declared d.prefixes fixed_prefixes
  head : s.head ≡ d.head
  notes : s.notes ≡ d.notes
  items : reverse s.listing.items ≡ d.items

-- ---- the whole without places

head_ends : (iri version : Option (List ℕ)) (cs : List ℕ) → Ends (iri_behind iri (iri_behind version (codes "\n" ++ cs)))
head_ends None None cs = refl
head_ends None (Some version) cs = refl
head_ends (Some iri) version cs = refl

abbrev at_start : Outside
at_start = record { nests = 0; head = start.head; notes = []; listing = nothing_listed }

says_document : (d : DocumentTree) (n : ℕ) → AreAscending d.prefixes → AllByRecursion IsDeclarable d.prefixes → AreKnown d.prefixes (declared d.prefixes fixed_prefixes) → IsWritable n d → n < most_nests
    → Starts manchester (IsBehind d) (Rule (rule_number document_rule) ∷ []) start (document_text d)
unfolding word_of
says_document d n up declarable known w few =
    let ps = d.prefixes in
    let items = items_text ps d.items [] in
    let notes = notes_lines ps d.notes items in
    let imports = import_lines d.head.imports notes in
    let behind_head = Rule (rule_number imports_rule) ∷ Rule (rule_number head_notes) ∷ Rule (rule_number items_rule) ∷ [] in
    by document_rule 0 refl (says_prefixes ps fixed_prefixes [] (Need (class_number class.Ontology) ∷ Rule (rule_number header) ∷ behind_head) (head_lines d.head notes) up declarable (all_free ps)
    (λ name.
    let r : Reader = record { written = ps; names = record { prefixes = declared ps fixed_prefixes; declaring = name }; known = known; wanted = IsBehind d } in
    let headed = with_head at_start (record { iri = d.head.iri; version = d.head.version; imports = [] }) in
    let imported = with_head at_start d.head in
    let noted = with_notes r imported d.notes in
    colon_word class.Ontology refl (head_ends d.head.iri d.head.version imports)
    (says_name_of r d.head.iri d.head.version w.head.iri w.head.version w.head.beside [] at_start behind_head (codes "\n" ++ imports)
    (λ f. steps.space refl (says_imports r d.head.imports w.head.imports headed (Rule (rule_number head_notes) ∷ Rule (rule_number items_rule) ∷ []) notes
    (says_head_notes r n d.notes w.notes imported (Rule (rule_number items_rule) ∷ []) items (omega (arith, few))
    (says_items r n d.items w.items noted (omega (arith, few))
    (λ s g. steps.nothing_more (record { prefixes = refl; head = refl; notes = refl; items = onto_reversed d.items [] })))) f)) [])))

-- ---- the whole with its places

-- no byte order mark stands in front
abbrev IsUnmarked : List ℕ → Type 0
IsUnmarked cs = (behind_mark cs ≡ cs) × (mark_size cs ≡ 0)

unmarked : (ps : List Prefix) (d : DocumentTree) (rest : List ℕ) → IsUnmarked (prefix_lines ps (head_lines d.head rest))
unfolding word_of
unmarked [] d rest = (refl, refl)
unmarked (p ∷ ps) d rest = (refl, refl)

splits_text : (cs : List ℕ) (placed : List (Placed Token)) → IsUnmarked cs → all_scalars cs ≡ true → SplitsFrom SpellsManchester 0 cs [] placed None → Splits SpellsManchester (encode_utf8_all cs) placed None
splits_text cs placed is_unmarked scalars splits = record {
  characters = cs;
  tail = [];
  decodes = record { parts = sym (append-nil (encode_utf8_all cs)); scalars = scalars; stops = no_bytes };
  splits =
      subst (λ (n : ℕ). SplitsFrom SpellsManchester n (behind_mark cs) [] placed None) (sym is_unmarked.1)
      (subst (λ (x : List ℕ). SplitsFrom SpellsManchester 0 x [] placed None) (sym is_unmarked.0) splits);
}

record Remembered (r : Result State TokenFault) (t : State) : Type 0 where
  state : State
  is : r ≡ Ok state
  same : unplaced_state state ≡ t

remembered : (r : Result State TokenFault) (t : State) → forgotten r ≡ Ok t → Remembered r t
remembered (Ok s) t e = record { state = s; is = refl; same = cc }
remembered (Err f) t e = absurd (cc)

-- what was read to a state
abbrev read_to : DocumentTree → State → DocumentTree
read_to d s = record { head = s.head; prefixes = map as_declared d.prefixes; notes = s.notes; items = reverse s.listing.items }

same_behind : (d : DocumentTree) (s t : State) → unplaced_state s ≡ t → IsBehind d t → unplaced_document (read_to d s) ≡ record d { prefixes = map as_declared d.prefixes }
same_behind d s t same is =
    let head = ap (λ (u : State). u.head) same ∙ is.head in
    let notes = ap (λ (u : State). u.notes) same ∙ is.notes in
    let items = map_reversed unplaced_item s.listing.items ∙ ap (λ (u : State). reverse u.listing.items) same ∙ is.items in
    λ i. record { head = head i; prefixes = map as_declared d.prefixes; notes = notes i; items = items i }

-- tokens that derive by these events, of which the acts, where no token has a place, lead to a state behind the text
module _ (d : DocumentTree) (bytes : List ℕ) (placed : List (Placed Token)) (events : List (Event Token)) (final : State) (known : AreSamePrefixes (map as_declared d.prefixes) (declared d.prefixes fixed_prefixes))
    (few : length bytes ≤ most_bytes) (splits : Splits SpellsManchester bytes placed None)
    (derives : DerivesOf class_of manchester_page (Rule (rule_number document_rule) ∷ []) (map (λ (p : Placed Token). p.token) placed) events)
    (runs : run acted_at_zero events start ≡ Ok final) (is : IsBehind d final) where
  by_state : (it : Stepped placed events) → Remembered (answer it.steps it.acts None) final → ReadsBack bytes d
  by_state it back =
      let names = ap (λ (t : State). t.names.prefixes) back.same ∙ is.prefixes in
      let tokens = ap (map (λ (p : Placed Token). p.token)) (sym it.tokens_are) ∙ plain_tokens it.steps in
      record {
        document = read_to d back.state;
        reads = record {
          steps = it.steps;
          few = few;
          splits = subst (λ (ps : List (Placed Token)). Splits SpellsManchester bytes ps None) (sym it.tokens_are) splits;
          spells = record {
            acts = it.acts;
            derives =
                subst (DerivesOf class_of manchester_page (Rule (rule_number document_rule) ∷ []) (plain it.steps)) it.events_are
                (subst (λ (ts : List Token). DerivesOf class_of manchester_page (Rule (rule_number document_rule) ∷ []) ts events) tokens derives);
            state = back.state;
            says = back.is;
            is = record { prefixes = subst (AreSamePrefixes (map as_declared d.prefixes)) (sym names) known; head = refl; notes = refl; items = refl };
          };
        };
        same = same_behind d back.state final back.same is;
      }

  by_steps : Stepped placed events → ReadsBack bytes d
  by_steps it =
      by_state it (remembered (answer it.steps it.acts None) final
      (steps_forgotten it.steps it.acts start ∙ sym (ap (λ (es : List (Event Token)). run acted_at_zero es start) it.events_are) ∙ runs))

-- ---- all of it

text_back : (d : DocumentTree) → AreSamePrefixes (map as_declared d.prefixes) (declared d.prefixes fixed_prefixes) → all_scalars (document_text d) ≡ true → length (encode_utf8_all (document_text d)) ≤ most_bytes
    → Starts manchester (IsBehind d) (Rule (rule_number document_rule) ∷ []) start (document_text d) → ReadsBack (encode_utf8_all (document_text d)) d
text_back d known scalars few k =
    let cut = k.goes 0 in
    let splits = splits_text (document_text d) cut.0 (unmarked d.prefixes d (notes_lines d.prefixes d.notes (items_text d.prefixes d.items []))) scalars cut.1 in
    by_steps d (encode_utf8_all (document_text d)) cut.0 cut.2.events cut.2.final known few splits cut.2.derives cut.2.runs cut.2.is (stepped cut.0 cut.2.events (taken cut.2.derives))

pub text_reads_back : (prefixes : List Prefix) (d : DocumentTree) (n : ℕ) → IsTable prefixes → HaveIris (written_prefixes prefixes) → d.prefixes ≡ manchester_prefixes prefixes → IsWritable n d → n < most_nests
    → all_scalars (document_text d) ≡ true → length (encode_utf8_all (document_text d)) ≤ most_bytes → ReadsBack (encode_utf8_all (document_text d)) d
text_reads_back prefixes d n table iris own w deep scalars few =
    let up = subst AreAscending (sym own) (kept_table prefixes table).ascending in
    let declarable = subst (AllByRecursion IsDeclarable) (sym own) (are_declarable prefixes table iris) in
    let known = subst (λ (ps : List Prefix). AreKnown ps (declared ps fixed_prefixes)) (sym own) (known_prefixes prefixes table) in
    let same = subst (λ (ps : List Prefix). AreSamePrefixes (map as_declared ps) (declared ps fixed_prefixes)) (sym own) (read_prefixes prefixes table) in
    text_back d same scalars few (says_document d n up declarable known w deep)
