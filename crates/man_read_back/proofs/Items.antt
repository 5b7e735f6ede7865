-- Items are read as they were written: frames with no section or with one, and the items that stand alone.
use Rattle.std.proofs.Common.{◌≡◌, ◌≤◌, ◌+◌, ℕ, suc, true, None, Some, List, [], ◌∷◌, ◌++◌, codes, refl, arith}
use Rattle.std.specs.List.{AllByRecursion}
use Rattle.grammar.specs.declared.symbol.Symbol.{Symbol}
use Rattle.grammar.specs.declared.symbol.Symbol.TheVariants.{Act, Need, Rule}
use Rattle.man_grammar.specs.Acts.{act_number}
use Rattle.man_grammar.specs.ClassNumbers.{class_number}
use Rattle.man_grammar.specs.Page.{rule_number}
use Rattle.man_grammar.specs.Page.Rule.{expressions, individual as individual_rule, individuals as individuals_rule, item as item_rule, items as items_rule, name as name_rule, opt_notes, properties}
use Rattle.man_grammar.specs.declared.act.Act.TheVariants as act_named
use Rattle.man_raw.specs.Documents.{ItemTree}
use Rattle.man_raw.specs.Opened.{most_nests}
use Rattle.man_raw.specs.Raws.{RawTree}
use Rattle.man_raw.specs.declared.heading.Heading.{Heading}
use Rattle.man_raw.specs.declared.heading.Heading.TheVariants as heading
use Rattle.man_raw.specs.declared.heading.Section.{Section}
use Rattle.man_raw.specs.declared.heading.Section.TheVariants as section
use Rattle.man_text.specs.Text.{body_text, item_text, items_text, parts_text, section_front, text}
use Rattle.man_text.specs.Words.{colon, heading_class, list_gap}
use Rattle.man_text.proofs.WritableLaws.{AreMembers, IsItem, IsSubject, one_part}
use Rattle.man_text.proofs.WritableLaws.AreMembers.{different_individuals, disjoint_classes, disjoint_properties, equivalent_classes, equivalent_properties, same_individual}
use Rattle.man_text.proofs.WritableLaws.IsItem.{bare_frame, framed, unframed}
use Rattle.man_text.proofs.WritableLaws.IsSubject.{of_annotation_property, of_class, of_data_property, of_datatype, of_individual, of_object_property}
use Rattle.man_read_back.proofs.Atoms.{says_individual, says_name}
use Rattle.man_read_back.proofs.Bodies.{SaysBody, says_expressions, says_individuals, says_properties}
use Rattle.man_read_back.proofs.Notes.{says_notes}
use Rattle.man_read_back.proofs.Pieces.{onto}
use Rattle.man_read_back.proofs.Reading.{act, by}
use Rattle.man_read_back.proofs.Said.{Comes, ComesOn, Goes, Outside, Reader, Says, within}
use Rattle.man_read_back.proofs.Sections.{begin_part, filled, is_frame, no_section, part_read, says_body, sections_of}
use Rattle.man_read_back.proofs.Steps as steps
use Rattle.man_read_back.proofs.Stops.{Ends}
use Rattle.man_read_back.proofs.Words.{colon_word, is_colon_class}

abbrev begun : Heading → ItemTree
begun h = record { at = 0; heading = h; name = None; parts = [] }

abbrev called : Heading → RawTree → ItemTree
called h t = record { at = 0; heading = h; name = Some t; parts = [] }

-- how the frame of a subject begins
record FrameRow (r : Reader) (h : Heading) (t : RawTree) : Type 0 where
  naming : Symbol
  says : Says r (naming ∷ []) t 0
  frame : is_frame h ≡ true
  is_colon : is_colon_class (heading_class h) ≡ true
  begins : (ss : List Symbol) (o : Outside) (form cs : List ℕ) → Comes r (Act (act_number (act_named.Item h)) ∷ Need (class_number (heading_class h)) ∷ Act (act_number act_named.Open) ∷ naming ∷ Act (act_number act_named.Subject) ∷ Rule (rule_number (sections_of h)) ∷ ss) o form cs
      → Comes r (Rule (rule_number item_rule) ∷ ss) o form cs

-- how an item begins that stands alone
record AloneRow (r : Reader) (n : ℕ) (h : Heading) (t : RawTree) : Type 0 where
  members : Symbol
  says : SaysBody r section.Members (members ∷ []) t n
  is_colon : is_colon_class (heading_class h) ≡ true
  begins : (ss : List Symbol) (o : Outside) (form cs : List ℕ) → Comes r (Act (act_number (act_named.Item h)) ∷ Need (class_number (heading_class h)) ∷ Act (act_number act_named.Open) ∷ Rule (rule_number opt_notes) ∷ members ∷ Act (act_number act_named.Part) ∷ ss) o form cs
      → Comes r (Rule (rule_number item_rule) ∷ ss) o form cs

module _ (r : Reader) where
  front_ends : (s : Section) (cs : List ℕ) → Ends (section_front s ++ cs)
  unfolding section_front
  front_ends section.Members cs = refl
  front_ends s cs = refl

  item_read : {ss : List Symbol} {form cs : List ℕ} (h : Heading) (o : Outside) → Comes r ss (filled o (begun h) o.listing.items section.Members) form cs → Comes r (Act (act_number (act_named.Item h)) ∷ ss) o form cs
  item_read heading.Class o k = act refl (λ x. refl) k
  item_read h o k = act refl (λ x. refl) k

  subject_read : {ss : List Symbol} {form cs : List ℕ} (h : Heading) (t : RawTree) (o : Outside) (is : List ItemTree) (s : Section) → Comes r ss (filled o (called h t) is s) form cs → Goes r (Act (act_number act_named.Subject) ∷ ss) (within (filled o (begun h) is s) (t ∷ [])) form cs
  subject_read h t o is s k = act refl (λ x. refl) k

  frame_row : {h : Heading} {t : RawTree} → IsSubject h t → FrameRow r h t
  unfolding heading_class
  frame_row (of_class t e) = record { naming = Rule (rule_number name_rule); says = says_name r t e; frame = refl; is_colon = refl; begins = λ ss o form cs k. by item_rule 0 refl k }
  frame_row (of_datatype t e) = record { naming = Rule (rule_number name_rule); says = says_name r t e; frame = refl; is_colon = refl; begins = λ ss o form cs k. by item_rule 1 refl k }
  frame_row (of_object_property t e) = record { naming = Rule (rule_number name_rule); says = says_name r t e; frame = refl; is_colon = refl; begins = λ ss o form cs k. by item_rule 2 refl k }
  frame_row (of_data_property t e) = record { naming = Rule (rule_number name_rule); says = says_name r t e; frame = refl; is_colon = refl; begins = λ ss o form cs k. by item_rule 3 refl k }
  frame_row (of_annotation_property t e) = record { naming = Rule (rule_number name_rule); says = says_name r t e; frame = refl; is_colon = refl; begins = λ ss o form cs k. by item_rule 4 refl k }
  frame_row (of_individual t e) = record { naming = Rule (rule_number individual_rule); says = says_individual r t e; frame = refl; is_colon = refl; begins = λ ss o form cs k. by item_rule 5 refl k }

  alone_row : {n : ℕ} {h : Heading} {t : RawTree} → AreMembers n h t → AloneRow r n h t
  unfolding heading_class list_gap
  alone_row {n = n} (equivalent_classes t e) = record { members = Rule (rule_number expressions); says = says_expressions r n section.Members t refl e; is_colon = refl; begins = λ ss o form cs k. by item_rule 6 refl k }
  alone_row {n = n} (disjoint_classes t e) = record { members = Rule (rule_number expressions); says = says_expressions r n section.Members t refl e; is_colon = refl; begins = λ ss o form cs k. by item_rule 7 refl k }
  alone_row {n = n} (equivalent_properties t e) = record { members = Rule (rule_number properties); says = says_properties r n section.Members t refl e; is_colon = refl; begins = λ ss o form cs k. by item_rule 8 refl k }
  alone_row {n = n} (disjoint_properties t e) = record { members = Rule (rule_number properties); says = says_properties r n section.Members t refl e; is_colon = refl; begins = λ ss o form cs k. by item_rule 9 refl k }
  alone_row {n = n} (same_individual t e) = record { members = Rule (rule_number individuals_rule); says = says_individuals r n section.Members t refl e; is_colon = refl; begins = λ ss o form cs k. by item_rule 10 refl k }
  alone_row {n = n} (different_individuals t e) = record { members = Rule (rule_number individuals_rule); says = says_individuals r n section.Members t refl e; is_colon = refl; begins = λ ss o form cs k. by item_rule 11 refl k }

  -- a frame to behind what it is of
  says_frame : (h : Heading) (t : RawTree) (row : FrameRow r h t) (o : Outside) (ss : List Symbol) (cs : List ℕ) → Ends cs → o.nests ≤ most_nests → ComesOn r (Rule (rule_number (sections_of h)) ∷ ss) (filled o (called h t) o.listing.items section.Members) cs
      → ComesOn r (Rule (rule_number item_rule) ∷ ss) o (colon (heading_class h) ++ (codes " " ++ text r.written t cs))
  says_frame h t row o ss cs ends few k form =
      let new = filled o (begun h) o.listing.items section.Members in
      row.begins ss o form (colon (heading_class h) ++ (codes " " ++ text r.written t cs)) (item_read h o (colon_word (heading_class h) row.is_colon refl (steps.space refl (begin_part r new
      (row.says (within new []) (Act (act_number act_named.Subject) ∷ Rule (rule_number (sections_of h)) ∷ ss) cs ends (omega (arith, few))
      (λ f. subject_read h t o o.listing.items section.Members (k f)) form)))))

  pub says_item : {n : ℕ} {i : ItemTree} → IsItem n i → (o : Outside) (ss : List Symbol) (rest : List ℕ) → o.nests + suc n ≤ most_nests → ((s : Section) → ComesOn r ss (filled o i o.listing.items s) rest)
      → ComesOn r (Rule (rule_number item_rule) ∷ ss) o (item_text r.written i rest)
  unfolding section_front
  says_item (bare_frame h t subject) o ss rest few k form =
      let row = frame_row subject in
      says_frame h t row o ss (codes "\n" ++ rest) refl (omega (arith, few))
      (λ f. no_section r h row.frame ss (filled o (called h t) o.listing.items section.Members) f (codes "\n" ++ rest) (steps.space refl (k section.Members f))) form
  says_item (framed h t s notes body subject hn b) o ss rest few k form =
      let row = frame_row subject in
      let section_text = parts_text r.written (one_part s notes body) (codes "\n" ++ rest) in
      says_frame h t row o ss section_text (front_ends s (text r.written notes (body_text r.written s body (codes "\n" ++ rest)))) (omega (arith, few))
      (says_body r row.frame b notes hn o (called h t) o.listing.items section.Members ss (codes "\n" ++ rest) refl few (λ f. steps.space refl (k s f))) form
  says_item (unframed h notes body hn m) o ss rest few k form =
      let row = alone_row m in
      let new = filled o (begun h) o.listing.items section.Members in
      let after = body_text r.written section.Members body (codes "\n" ++ rest) in
      row.begins ss o form (colon (heading_class h) ++ (codes " " ++ text r.written notes after)) (item_read h o (colon_word (heading_class h) row.is_colon refl (steps.space refl (begin_part r new
      (says_notes r hn (within new []) (row.members ∷ Act (act_number act_named.Part) ∷ ss) after (omega (arith, few))
      (row.says (within new (notes ∷ [])) (Act (act_number act_named.Part) ∷ ss) (codes "\n" ++ rest) refl (omega (arith, few))
      (λ f. part_read r o (begun h) o.listing.items section.Members notes body (steps.space refl (k section.Members f)))) form)))))

  -- all of them, the last one first
  abbrev pub filled_all : Outside → List ItemTree → Section → Outside
  filled_all o is s = record o { listing = record { items = onto is o.listing.items; section = s } }

  pub says_items : (n : ℕ) (is : List ItemTree) → AllByRecursion (IsItem n) is → (o : Outside) → o.nests + suc n ≤ most_nests → ((s : Section) → ComesOn r [] (filled_all o is s) [])
      → ComesOn r (Rule (rule_number items_rule) ∷ []) o (items_text r.written is [])
  says_items n [] h o few k form = by items_rule 0 refl (k o.listing.section form)
  says_items n (i ∷ is) h o few k form =
      by items_rule 1 refl (says_item h.0 o (Rule (rule_number items_rule) ∷ []) (items_text r.written is []) few (λ s. says_items n is h.1 (filled o i o.listing.items s) few k) form)
