-- The sections of frames are read as they were written: rows of how each begins, and one way to read them all.
use Rattle.std.proofs.Common.{◌≡◌, ◌≤◌, ◌+◌, ◌-◌, Ok, Err, ℕ, suc, Bool, true, false, List, [], ◌∷◌, ◌++◌, codes, refl, sym, ap, subst, arith}
use Rattle.std.specs.Prelude.{if◌then◌else◌}
use Rattle.std.proofs.lemmas.List.{append_assoc}
use Rattle.grammar.specs.declared.symbol.Symbol.{Symbol}
use Rattle.grammar.specs.declared.symbol.Symbol.TheVariants.{Act, Need, Rule}
use Rattle.man_grammar.specs.Acts.{act_number}
use Rattle.man_grammar.specs.ClassNumbers.{class_number}
use Rattle.man_grammar.specs.Page.{Rule as RuleName, rule_number}
use Rattle.man_grammar.specs.Page.Rule.{annotation_section, annotation_sections, class_section, class_sections, data_section, data_sections, datatype_sections, expression as expression_rule, expression_parts, expressions, fact as fact_rule, fact_parts, individual_section, individual_sections, items as items_rule, name as name_rule, name_parts, note_parts, note_section, note_sections, object_section, object_sections, one_characteristic, opt_notes, other_expression_parts, other_fact_parts, other_name_parts, other_note_parts, other_property_parts, other_word_parts, property as property_rule, property_parts, word_parts}
use Rattle.man_grammar.specs.declared.act.Act.TheVariants as act_named
use Rattle.man_raw.specs.Documents.{ItemTree}
use Rattle.man_raw.specs.Opened.{most_nests}
use Rattle.man_raw.specs.Raws.{RawTree}
use Rattle.man_raw.specs.declared.document.RawPart.{RawPart}
use Rattle.man_raw.specs.declared.form.Form.TheVariants as form_named
use Rattle.man_raw.specs.declared.heading.Heading.{Heading}
use Rattle.man_raw.specs.declared.heading.Heading.TheVariants as heading
use Rattle.man_raw.specs.declared.heading.Section.{Section}
use Rattle.man_raw.specs.declared.heading.Section.TheVariants as section
use Rattle.man_text.specs.Text.{body_text, parts_text, section_front, text}
use Rattle.man_text.specs.Words.{colon, list_gap, section_class}
use Rattle.man_text.proofs.WritableLaws.{IsBody, IsFact, IsNotes, one_part}
use Rattle.man_text.proofs.WritableLaws.IsBody.{annotation_domain, annotation_range, annotation_super, assertion, class_keys, class_members, class_super, data_domain, data_range, data_super, data_word, datatype_definition, individual_fact, individual_negative, individual_types, object_chain, object_domain, object_inverse, object_range, object_super, object_word}
use Rattle.owl_reader.specs.declared.fault.TokenFault.TheVariants.{TooDeep}
use Rattle.man_read_back.proofs.Bodies.{SaysBody, body_assertion, body_expression, body_fact, body_name, body_negative, body_property, chain_symbols, functional_symbols, key_symbols, says_chain, says_characteristic, says_expressions, says_functional, says_keys}
use Rattle.man_read_back.proofs.Notes.{says_notes}
use Rattle.man_read_back.proofs.Pieces.{room_passes}
use Rattle.man_read_back.proofs.Reading.{act, by}
use Rattle.man_read_back.proofs.Said.{Comes, ComesOn, Goes, Outside, Reader, nested, outside, within}
use Rattle.man_read_back.proofs.Steps as steps
use Rattle.man_read_back.proofs.Stops.{Ends}
use Rattle.man_read_back.proofs.Words.{colon_word, is_colon_class}

abbrev pub sections_of : Heading → RuleName
sections_of heading.Class = class_sections
sections_of heading.Datatype = datatype_sections
sections_of heading.ObjectProperty = object_sections
sections_of heading.DataProperty = data_sections
sections_of heading.AnnotationProperty = annotation_sections
sections_of heading.Individual = individual_sections
sections_of h = items_rule

-- the last item, and the section that is read
abbrev pub filled : Outside → ItemTree → List ItemTree → Section → Outside
filled o i is s = record o { listing = record { items = i ∷ is; section = s } }

abbrev pub with_parts : ItemTree → List RawPart → ItemTree
with_parts i parts = record i { parts = i.parts ++ parts }

-- the rest of a section behind its keyword: annotations, a body, and what ends it
record Opens (r : Reader) (body : List Symbol) : Type 0 where
  front : List Symbol
  after : List Symbol
  opens : (ss : List Symbol) (o : Outside) (form cs : List ℕ) → Comes r (Act (act_number act_named.Open) ∷ Rule (rule_number opt_notes) ∷ (body ++ (Act (act_number act_named.Part) ∷ (after ++ ss)))) o form cs → Comes r (front ++ ss) o form cs
  closes : (ss : List Symbol) (o : Outside) (form cs : List ℕ) → Comes r ss o form cs → Comes r (after ++ ss) o form cs

-- how a section of a frame begins, and what may stand behind it
record SectionRow (r : Reader) (h : Heading) (s : Section) (body : List Symbol) : Type 0 where
  front : section_front s ≡ codes "\n    " ++ (colon (section_class s) ++ codes " ")
  is_colon : is_colon_class (section_class s) ≡ true
  opens : Opens r body
  next : ℕ
  begins : (ss : List Symbol) (o : Outside) (form cs : List ℕ) → Comes r (Act (act_number (act_named.Section s)) ∷ Need (class_number (section_class s)) ∷ (opens.front ++ (Rule next ∷ ss))) o form cs → Comes r (Rule (rule_number (sections_of h)) ∷ ss) o form cs
  ends : (ss : List Symbol) (o : Outside) (form cs : List ℕ) → Comes r ss o form cs → Comes r (Rule next ∷ ss) o form cs

-- of the parts that the heading and the section allow, how this one is read
record Sectioned (r : Reader) (n : ℕ) (h : Heading) (s : Section) (t : RawTree) : Type 0 where
  symbols : List Symbol
  row : SectionRow r h s symbols
  says : SaysBody r s symbols t (suc n)

-- the rule of one section of these frames
abbrev section_of : Heading → RuleName
section_of heading.Class = class_section
section_of heading.ObjectProperty = object_section
section_of heading.DataProperty = data_section
section_of heading.AnnotationProperty = annotation_section
section_of heading.Individual = individual_section
section_of h = note_section

-- a part in its section, behind the name of a frame
abbrev pub SaysSection : Reader → ℕ → Heading → Section → RawTree → Type 0
SaysSection r n h s t =
    (notes : RawTree) → IsNotes n notes → (o : Outside) (i : ItemTree) (is : List ItemTree) (before : Section) (ss : List Symbol) (rest : List ℕ) → Ends rest → o.nests + suc n ≤ most_nests
    → ComesOn r ss (filled o (with_parts i (one_part s notes t)) is s) rest → ComesOn r (Rule (rule_number (sections_of h)) ∷ ss) (filled o i is before) (parts_text r.written (one_part s notes t) rest)

abbrev is_usual : Heading → Bool
is_usual heading.Class = true
is_usual heading.ObjectProperty = true
is_usual heading.DataProperty = true
is_usual heading.AnnotationProperty = true
is_usual heading.Individual = true
is_usual h = false

abbrev pub is_frame : Heading → Bool
is_frame heading.Datatype = true
is_frame h = is_usual h

module _ (r : Reader) where
  -- ---- acts outside of frames

  pub begin_part : {ss : List Symbol} {form cs : List ℕ} (o : Outside) → Goes r ss (within o []) form cs → Comes r (Act (act_number act_named.Open) ∷ ss) o form cs
  begin_part o k = act refl (λ x. refl) k

  pub part_read : {ss : List Symbol} {form cs : List ℕ} (o : Outside) (i : ItemTree) (is : List ItemTree) (s : Section) (notes body : RawTree) → Comes r ss (filled o (with_parts i (one_part s notes body)) is s) form cs
      → Goes r (Act (act_number act_named.Part) ∷ ss) (within (filled o i is s) (body ∷ notes ∷ [])) form cs
  part_read o i is s notes body k = act refl (λ x. refl) k

  section_read : {ss : List Symbol} {form cs : List ℕ} (s : Section) (o : Outside) (i : ItemTree) (is : List ItemTree) (before : Section) → Comes r ss (filled o i is s) form cs
      → Comes r (Act (act_number (act_named.Section s)) ∷ ss) (filled o i is before) form cs
  section_read section.Annotations o i is before k = act refl (λ x. refl) k
  section_read s o i is before k = act refl (λ x. refl) k

  nesting_outside : {ss : List Symbol} {form cs : List ℕ} (o : Outside) (n : ℕ) → o.nests + suc n ≤ most_nests → Comes r ss (nested o) form cs → Comes r (Act (act_number act_named.Nest) ∷ ss) o form cs
  nesting_outside {form = form} o n few k =
      let passes = room_passes (within o []) n few in
      let is = ap (λ (b : Bool). if b then Err TooDeep else Ok (outside r (nested o) form)) passes in
      act is (λ x. is) k

  unnesting_outside : {ss : List Symbol} {form cs : List ℕ} (o : Outside) → Comes r ss o form cs → Comes r (Act (act_number act_named.Unnest) ∷ ss) (nested o) form cs
  unnesting_outside {form = form} o k =
      let same : o.nests + 1 - 1 ≡ o.nests = omega arith in
      let is : Ok (outside r (record o { nests = o.nests + 1 - 1 }) form) ≡ Ok (outside r o form) = ap (λ (n : ℕ). Ok (outside r (record o { nests = n }) form)) same in
      act is (λ x. is) k

  -- ---- how sections go on

  -- one part, or the first of many
  abbrev expression_opens : Opens r (Rule (rule_number expression_rule) ∷ [])
  expression_opens = record {
    front = Rule (rule_number expression_parts) ∷ [];
    after = Rule (rule_number other_expression_parts) ∷ [];
    opens = λ ss o form cs k. by expression_parts 0 refl k;
    closes = λ ss o form cs k. by other_expression_parts 0 refl k;
  }

  abbrev property_opens : Opens r (Rule (rule_number property_rule) ∷ [])
  property_opens = record {
    front = Rule (rule_number property_parts) ∷ [];
    after = Rule (rule_number other_property_parts) ∷ [];
    opens = λ ss o form cs k. by property_parts 0 refl k;
    closes = λ ss o form cs k. by other_property_parts 0 refl k;
  }

  abbrev name_opens : Opens r (Rule (rule_number name_rule) ∷ [])
  name_opens = record {
    front = Rule (rule_number name_parts) ∷ [];
    after = Rule (rule_number other_name_parts) ∷ [];
    opens = λ ss o form cs k. by name_parts 0 refl k;
    closes = λ ss o form cs k. by other_name_parts 0 refl k;
  }

  abbrev word_opens : Opens r (Rule (rule_number one_characteristic) ∷ [])
  word_opens = record {
    front = Rule (rule_number word_parts) ∷ [];
    after = Rule (rule_number other_word_parts) ∷ [];
    opens = λ ss o form cs k. by word_parts 0 refl k;
    closes = λ ss o form cs k. by other_word_parts 0 refl k;
  }

  abbrev fact_opens : Opens r (Rule (rule_number fact_rule) ∷ [])
  fact_opens = record {
    front = Rule (rule_number fact_parts) ∷ [];
    after = Rule (rule_number other_fact_parts) ∷ [];
    opens = λ ss o form cs k. by fact_parts 0 refl k;
    closes = λ ss o form cs k. by other_fact_parts 0 refl k;
  }

  -- one part alone
  abbrev directly : (body : List Symbol) → Opens r body
  directly body = record {
    front = Act (act_number act_named.Open) ∷ Rule (rule_number opt_notes) ∷ (body ++ (Act (act_number act_named.Part) ∷ []));
    after = [];
    opens = λ ss o form cs k.
        subst (λ (symbols : List Symbol). Comes r (Act (act_number act_named.Open) ∷ Rule (rule_number opt_notes) ∷ symbols) o form cs) (sym (append_assoc body (Act (act_number act_named.Part) ∷ []) ss)) k;
    closes = λ ss o form cs k. k;
  }

  more_room : (s : Section) (symbols : List Symbol) (t : RawTree) (m n : ℕ) → m ≤ n → SaysBody r s symbols t m → SaysBody r s symbols t n
  more_room s symbols t m n le says p ss rest ends few k = says p ss rest ends (omega (arith, few, le)) k

  pub no_section : (h : Heading) → is_frame h ≡ true → (ss : List Symbol) (o : Outside) (form cs : List ℕ) → Comes r ss o form cs → Comes r (Rule (rule_number (sections_of h)) ∷ ss) o form cs
  no_section heading.Class e ss o form cs k = by class_sections 0 refl k
  no_section heading.Datatype e ss o form cs k = by datatype_sections 0 refl k
  no_section heading.ObjectProperty e ss o form cs k = by object_sections 0 refl k
  no_section heading.DataProperty e ss o form cs k = by data_sections 0 refl k
  no_section heading.AnnotationProperty e ss o form cs k = by annotation_sections 0 refl k
  no_section heading.Individual e ss o form cs k = by individual_sections 0 refl k
  no_section h e ss o form cs k = absurd (cc)

  usual_frame : (h : Heading) → is_usual h ≡ true → is_frame h ≡ true
  usual_frame heading.Datatype e = absurd (cc)
  usual_frame h e = e

  one_section : (h : Heading) → is_usual h ≡ true → (ss : List Symbol) (o : Outside) (form cs : List ℕ) → Comes r (Rule (rule_number (section_of h)) ∷ Rule (rule_number (sections_of h)) ∷ ss) o form cs
      → Comes r (Rule (rule_number (sections_of h)) ∷ ss) o form cs
  one_section heading.Class e ss o form cs k = by class_sections 1 refl k
  one_section heading.ObjectProperty e ss o form cs k = by object_sections 1 refl k
  one_section heading.DataProperty e ss o form cs k = by data_sections 1 refl k
  one_section heading.AnnotationProperty e ss o form cs k = by annotation_sections 1 refl k
  one_section heading.Individual e ss o form cs k = by individual_sections 1 refl k
  one_section h e ss o form cs k = absurd (cc)

  -- the section of annotations
  note_section_of : (h : Heading) → is_frame h ≡ true → (ss : List Symbol) (o : Outside) (form cs : List ℕ) → Comes r (Rule (rule_number note_section) ∷ Rule (rule_number (sections_of h)) ∷ ss) o form cs
      → Comes r (Rule (rule_number (sections_of h)) ∷ ss) o form cs
  note_section_of heading.Class e ss o form cs k = by class_sections 1 refl (by class_section 0 refl k)
  note_section_of heading.Datatype e ss o form cs k = by datatype_sections 1 refl k
  note_section_of heading.ObjectProperty e ss o form cs k = by object_sections 1 refl (by object_section 0 refl k)
  note_section_of heading.DataProperty e ss o form cs k = by data_sections 1 refl (by data_section 0 refl k)
  note_section_of heading.AnnotationProperty e ss o form cs k = by annotation_sections 1 refl (by annotation_section 0 refl k)
  note_section_of heading.Individual e ss o form cs k = by individual_sections 1 refl (by individual_section 0 refl k)
  note_section_of h e ss o form cs k = absurd (cc)

  -- a keyword with a line and four spaces in front of it, and one behind it
  says_keyword : {ss : List Symbol} {form cs : List ℕ} (s : Section) (o : Outside) → section_front s ≡ codes "\n    " ++ (colon (section_class s) ++ codes " ") → is_colon_class (section_class s) ≡ true
      → Comes r ss o form cs → Comes r (Need (class_number (section_class s)) ∷ ss) o form (section_front s ++ cs)
  says_keyword {ss = ss} {form = form} {cs = cs} s o front is_colon k =
      let c = section_class s in
      subst (λ (x : List ℕ). Comes r (Need (class_number c) ∷ ss) o form (x ++ cs)) (sym front)
      (steps.space refl (steps.space refl (steps.space refl (steps.space refl (steps.space refl
      (subst (Comes r (Need (class_number c) ∷ ss) o form) (sym (append_assoc (colon c) (codes " ") cs)) (colon_word c is_colon refl (steps.space refl k))))))))

  says_section : (n : ℕ) (h : Heading) (s : Section) (t : RawTree) → Sectioned r n h s t → SaysSection r n h s t
  says_section n h s t x notes hn o i is before ss rest ends few k form =
      let row = x.row in
      let new = filled o i is s in
      let after = body_text r.written s t rest in
      let closing = row.opens.after ++ (Rule row.next ∷ ss) in
      row.begins ss (filled o i is before) form (section_front s ++ text r.written notes after) (section_read s o i is before (says_keyword s new row.front row.is_colon
      (row.opens.opens (Rule row.next ∷ ss) new form (text r.written notes after) (begin_part new
      (says_notes r hn (within new []) (x.symbols ++ (Act (act_number act_named.Part) ∷ closing)) after (omega (arith, few))
      (x.says (within new (notes ∷ [])) (Act (act_number act_named.Part) ∷ closing) rest ends few
      (λ g. part_read o i is s notes t (row.opens.closes (Rule row.next ∷ ss) (filled o (with_parts i (one_part s notes t)) is s) g rest (row.ends ss (filled o (with_parts i (one_part s notes t)) is s) g rest (k g))))) form)))))

  says_assertions : (n : ℕ) (h : Heading) (t : RawTree) → is_frame h ≡ true → IsFact form_named.Assertion t → SaysSection r n h section.Annotations t
  unfolding section_front section_class
  says_assertions n h t frame fact notes hn o i is before ss rest ends few k form =
      let new = filled o i is section.Annotations in
      let last = filled o (with_parts i (one_part section.Annotations notes t)) is section.Annotations in
      let after = body_text r.written section.Annotations t rest in
      note_section_of h frame ss (filled o i is before) form (section_front section.Annotations ++ text r.written notes after) (by note_section 0 refl (section_read section.Annotations o i is before (nesting_outside new n few
      (says_keyword section.Annotations (nested new) refl refl (by note_parts 0 refl (begin_part (nested new)
      (says_notes r hn (within (nested new) []) _ after (omega (arith, few))
      (body_assertion r section.Annotations t fact (within (nested new) (notes ∷ [])) _ rest ends (omega (arith, few))
      (λ g. part_read (nested o) i is section.Annotations notes t (by other_note_parts 0 refl (unnesting_outside last (no_section h frame ss last g rest (k g)))))) form)))))))

  a_section : (n : ℕ) (h : Heading) (s : Section) (body : List Symbol) (opens : Opens r body) → section_front s ≡ codes "\n    " ++ (colon (section_class s) ++ codes " ") → is_colon_class (section_class s) ≡ true → is_usual h ≡ true
      → ((ss : List Symbol) (o : Outside) (form cs : List ℕ) → Comes r (Act (act_number (act_named.Section s)) ∷ Need (class_number (section_class s)) ∷ (opens.front ++ (Rule (rule_number (sections_of h)) ∷ ss))) o form cs
      → Comes r (Rule (rule_number (section_of h)) ∷ Rule (rule_number (sections_of h)) ∷ ss) o form cs)
      → (t : RawTree) (m : ℕ) → m ≤ suc n → SaysBody r s body t m → SaysSection r n h s t
  a_section n h s body opens front is_colon usual enter t m le says = says_section n h s t (record {
    symbols = body;
    row = record {
      front = front;
      is_colon = is_colon;
      opens = opens;
      next = rule_number (sections_of h);
      begins = λ ss o form cs k. one_section h usual ss o form cs (enter ss o form cs k);
      ends = λ ss o form cs k. no_section h (usual_frame h usual) ss o form cs k;
    };
    says = more_room s body t m (suc n) le says;
  })

  pub says_body : {n : ℕ} {h : Heading} {s : Section} {t : RawTree} → is_frame h ≡ true → IsBody n h s t → SaysSection r n h s t
  unfolding section_front section_class list_gap
  says_body {n = n} frame (class_super t e) = a_section n heading.Class section.SubClassOf (Rule (rule_number expression_rule) ∷ []) expression_opens refl refl refl (λ ss o form cs k. by class_section 1 refl k) t n (omega arith) (body_expression r n section.SubClassOf t e)
  says_body {n = n} frame (class_members t e) = a_section n heading.Class section.DisjointUnionOf (Rule (rule_number expressions) ∷ []) (directly (Rule (rule_number expressions) ∷ [])) refl refl refl (λ ss o form cs k. by class_section 4 refl k) t n (omega arith) (says_expressions r n section.DisjointUnionOf t refl e)
  says_body {n = n} frame (class_keys t e) = a_section n heading.Class section.HasKey (key_symbols) (directly key_symbols) refl refl refl (λ ss o form cs k. by class_section 5 refl k) t n (omega arith) (says_keys r n t e)
  says_body {n = n} frame (datatype_definition t e) = says_section n heading.Datatype section.EquivalentTo t (record {
    symbols = Rule (rule_number expression_rule) ∷ [];
    row = record {
      front = refl;
      is_colon = refl;
      opens = directly (Rule (rule_number expression_rule) ∷ []);
      next = rule_number note_sections;
      begins = λ ss o form cs k. by datatype_sections 2 refl k;
      ends = λ ss o form cs k. by note_sections 0 refl k;
    };
    says = more_room section.EquivalentTo (Rule (rule_number expression_rule) ∷ []) t n (suc n) (omega arith) (body_expression r n section.EquivalentTo t e);
  })
  says_body {n = n} frame (object_domain t e) = a_section n heading.ObjectProperty section.Domain (Rule (rule_number expression_rule) ∷ []) expression_opens refl refl refl (λ ss o form cs k. by object_section 1 refl k) t n (omega arith) (body_expression r n section.Domain t e)
  says_body {n = n} frame (object_range t e) = a_section n heading.ObjectProperty section.Range (Rule (rule_number expression_rule) ∷ []) expression_opens refl refl refl (λ ss o form cs k. by object_section 2 refl k) t n (omega arith) (body_expression r n section.Range t e)
  says_body {n = n} frame (object_word t e) = a_section n heading.ObjectProperty section.Characteristics (Rule (rule_number one_characteristic) ∷ []) word_opens refl refl refl (λ ss o form cs k. by object_section 3 refl k) t n (omega arith) (says_characteristic r n section.Characteristics t e)
  says_body {n = n} frame (object_super t e) = a_section n heading.ObjectProperty section.SubPropertyOf (Rule (rule_number property_rule) ∷ []) property_opens refl refl refl (λ ss o form cs k. by object_section 4 refl k) t n (omega arith) (body_property r n section.SubPropertyOf t e)
  says_body {n = n} frame (object_inverse t e) = a_section n heading.ObjectProperty section.InverseOf (Rule (rule_number property_rule) ∷ []) property_opens refl refl refl (λ ss o form cs k. by object_section 7 refl k) t n (omega arith) (body_property r n section.InverseOf t e)
  says_body {n = n} frame (object_chain t e) = a_section n heading.ObjectProperty section.SubPropertyChain (chain_symbols) (directly chain_symbols) refl refl refl (λ ss o form cs k. by object_section 8 refl k) t n (omega arith) (says_chain r n t e)
  says_body {n = n} frame (data_domain t e) = a_section n heading.DataProperty section.Domain (Rule (rule_number expression_rule) ∷ []) expression_opens refl refl refl (λ ss o form cs k. by data_section 1 refl k) t n (omega arith) (body_expression r n section.Domain t e)
  says_body {n = n} frame (data_range t e) = a_section n heading.DataProperty section.Range (Rule (rule_number expression_rule) ∷ []) expression_opens refl refl refl (λ ss o form cs k. by data_section 2 refl k) t n (omega arith) (body_expression r n section.Range t e)
  says_body {n = n} frame (data_word t e) = a_section n heading.DataProperty section.Characteristics (functional_symbols) (directly functional_symbols) refl refl refl (λ ss o form cs k. by data_section 3 refl k) t n (omega arith) (says_functional r n section.Characteristics t e)
  says_body {n = n} frame (data_super t e) = a_section n heading.DataProperty section.SubPropertyOf (Rule (rule_number name_rule) ∷ []) name_opens refl refl refl (λ ss o form cs k. by data_section 4 refl k) t n (omega arith) (body_name r n section.SubPropertyOf t e)
  says_body {n = n} frame (annotation_domain t e) = a_section n heading.AnnotationProperty section.Domain (Rule (rule_number name_rule) ∷ []) name_opens refl refl refl (λ ss o form cs k. by annotation_section 1 refl k) t n (omega arith) (body_name r n section.Domain t e)
  says_body {n = n} frame (annotation_range t e) = a_section n heading.AnnotationProperty section.Range (Rule (rule_number name_rule) ∷ []) name_opens refl refl refl (λ ss o form cs k. by annotation_section 2 refl k) t n (omega arith) (body_name r n section.Range t e)
  says_body {n = n} frame (annotation_super t e) = a_section n heading.AnnotationProperty section.SubPropertyOf (Rule (rule_number name_rule) ∷ []) name_opens refl refl refl (λ ss o form cs k. by annotation_section 3 refl k) t n (omega arith) (body_name r n section.SubPropertyOf t e)
  says_body {n = n} frame (individual_types t e) = a_section n heading.Individual section.Types (Rule (rule_number expression_rule) ∷ []) expression_opens refl refl refl (λ ss o form cs k. by individual_section 1 refl k) t n (omega arith) (body_expression r n section.Types t e)
  says_body {n = n} frame (individual_fact t e) = a_section n heading.Individual section.Facts (Rule (rule_number fact_rule) ∷ []) fact_opens refl refl refl (λ ss o form cs k. by individual_section 2 refl k) t 0 (omega arith) (body_fact r section.Facts t e)
  says_body {n = n} frame (individual_negative t e) = a_section n heading.Individual section.Facts (Rule (rule_number fact_rule) ∷ []) fact_opens refl refl refl (λ ss o form cs k. by individual_section 2 refl k) t 1 (omega arith) (body_negative r section.Facts t e)
  says_body {n = n} frame (assertion h t e) = says_assertions n h t frame e
