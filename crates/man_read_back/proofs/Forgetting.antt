-- Events that are done where tokens have no places give the state, without its places, that steps with places give.
use Rattle.std.proofs.Common.{◌≡◌, ◌+◌, ℕ, Bool, true, false, Option, None, Some, Result, Ok, Err, List, [], ◌∷◌, ◌++◌, map, refl, sym, ap, ◌∙◌}
use Rattle.std.specs.Prelude.{if◌then◌else◌, nat_le}
use Rattle.std.specs.List.{fold}
use Rattle.std.proofs.lemmas.List.{append_assoc, append-nil}
use Rattle.std.proofs.lemmas.List.Folds.{fold_stays}
use Rattle.grammar.specs.Derivations.{Event}
use Rattle.grammar.specs.Derivations.Event.{Do, Take}
use Rattle.man_grammar.specs.Acts.{act_numbered}
use Rattle.man_grammar.specs.Runs.{all_done, done, done_next, stepped}
use Rattle.man_grammar.specs.States.{Names, State, acted, and_then, annotated, form_in, heading, iri_in, item_begun, label_in, left, name_declared, naming, nested, notes_with, number_in, opening_frames, place_in, prefix_declared, put_leaf, putting, shorthand_in, tagged_in, type_in, typed_in, with_body, with_iri, with_literal, with_subject}
use Rattle.man_grammar.specs.declared.act.Act.{Act}
use Rattle.man_grammar.specs.declared.act.Act.TheVariants as act
use Rattle.man_raw.specs.Documents.{HeadTree, ItemTree}
use Rattle.man_raw.specs.Listed.{Listing, named_items, with_part}
use Rattle.man_raw.specs.Opened.{last_pair, last_part, left_frames, most_nests, opened_frames, put_frames, shut_frames, wrapped_frames}
use Rattle.man_raw.specs.Raws.{RawTree, none, raw}
use Rattle.man_raw.specs.declared.form.Form.TheVariants as form
use Rattle.man_raw.specs.declared.form.What.{What}
use Rattle.man_raw.specs.declared.form.What.TheVariants as what
use Rattle.man_raw.specs.declared.heading.Heading.{Heading}
use Rattle.man_raw.specs.declared.opened.Annotated.{Annotated}
use Rattle.owl_lexer.specs.declared.placed.Placed.{Placed}
use Rattle.owl_reader.specs.Steps.{Step, events_of, token_in}
use Rattle.owl_reader.specs.declared.fault.TokenFault.{TokenFault}
use Rattle.owl_reader.specs.declared.fault.TokenFault.TheVariants.{TooDeep}
use Rattle.owl_tokens.specs.declared.token.Token.{Token}
use Rattle.owl_tree.specs.declared.atom.Atom.{Atom}
use Rattle.owl_tree.specs.declared.atom.Atom.TheVariants as atom
use Rattle.rdf_terms.specs.Literals.{of_datatype, string}
use Rattle.man_read_back.proofs.Places.{changed, forgotten, left_alike, named_unplaced, notes_unplaced, pair_unplaced, part_listed, part_unplaced, put_alike, shut_alike, unplaced_items, unplaced_listing, unplaced_state, wrapped_alike}
use Rattle.man_read_back.proofs.Reading.{acted_at_zero, at_zero}
use Rattle.man_read_back.proofs.Steps.{coming, run}
use Rattle.man_text.specs.Undecided.{unplaced}

-- ---- one act

then_forgotten : {A : Type 0} (r : Result A TokenFault) (f g : A → State) → ((x : A) → unplaced_state (f x) ≡ g x) → forgotten (and_then r (λ x. Ok (f x))) ≡ and_then r (λ x. Ok (g x))
then_forgotten (Ok x) f g h = ap Ok (h x)
then_forgotten (Err fault) f g h = refl

leaf_forgotten : (at : ℕ) (w : What) (s : State) → unplaced_state (put_leaf at w s) ≡ put_leaf 0 w (unplaced_state s)
leaf_forgotten at w s = changed s (put_frames (raw at w none)) (put_frames (raw 0 w none)) (put_alike (raw at w none))

putting_forgotten : (s : State) (at : ℕ) (r : Result Atom TokenFault) → forgotten (putting s at r) ≡ putting (unplaced_state s) 0 r
putting_forgotten s at r = then_forgotten r (λ a. put_leaf at (what.Atom a) s) (λ a. put_leaf 0 (what.Atom a) (unplaced_state s)) (λ a. leaf_forgotten at (what.Atom a) s)

-- what an act makes of the token that comes, and of its place

abbrev behind : Option (Placed Token) → Option (Placed Token)
behind next = at_zero (token_in next)

naming_next : (s : State) (f : Option Token → Result Names TokenFault) (next : Option (Placed Token)) → forgotten (naming s (f (token_in next))) ≡ naming (unplaced_state s) (f (token_in (behind next)))
naming_next s f None = then_forgotten (f None) (λ n. record s { names = n }) (λ n. record (unplaced_state s) { names = n }) (λ n. refl)
naming_next s f (Some p) = then_forgotten (f (Some p.token)) (λ n. record s { names = n }) (λ n. record (unplaced_state s) { names = n }) (λ n. refl)

heading_next : (s : State) (f : Option Token → Result HeadTree TokenFault) (next : Option (Placed Token)) → forgotten (heading s (f (token_in next))) ≡ heading (unplaced_state s) (f (token_in (behind next)))
heading_next s f None = then_forgotten (f None) (λ h. record s { head = h }) (λ h. record (unplaced_state s) { head = h }) (λ h. refl)
heading_next s f (Some p) = then_forgotten (f (Some p.token)) (λ h. record s { head = h }) (λ h. record (unplaced_state s) { head = h }) (λ h. refl)

putting_next : (s : State) (f : Option Token → Result Atom TokenFault) (next : Option (Placed Token)) → forgotten (putting s (place_in next) (f (token_in next))) ≡ putting (unplaced_state s) (place_in (behind next)) (f (token_in (behind next)))
putting_next s f None = putting_forgotten s 0 (f None)
putting_next s f (Some p) = putting_forgotten s p.at (f (Some p.token))

literal_next : (s : State) (f : Option Token → Result Atom TokenFault) (next : Option (Placed Token)) → forgotten (putting s s.form_at (f (token_in next))) ≡ putting (unplaced_state s) 0 (f (token_in (behind next)))
literal_next s f None = putting_forgotten s s.form_at (f None)
literal_next s f (Some p) = putting_forgotten s s.form_at (f (Some p.token))

text_next : (s : State) (next : Option (Placed Token)) → forgotten (acted act.Text next s) ≡ acted act.Text (behind next) (unplaced_state s)
text_next s None = refl
text_next s (Some p) = then_forgotten (form_in (Some p.token)) (λ f. record s { form_at = p.at; form = f }) (λ f. record (unplaced_state s) { form_at = 0; form = f }) (λ f. refl)

leaf_next : (s : State) (w : What) (next : Option (Placed Token)) → unplaced_state (put_leaf (place_in next) w s) ≡ put_leaf (place_in (behind next)) w (unplaced_state s)
leaf_next s w None = leaf_forgotten 0 w s
leaf_next s w (Some p) = leaf_forgotten p.at w s

open_next : (s : State) (next : Option (Placed Token)) → unplaced_state (opening_frames s (opened_frames (place_in next))) ≡ opening_frames (unplaced_state s) (opened_frames (place_in (behind next)))
open_next s None = refl
open_next s (Some p) = refl

item_next : (s : State) (next : Option (Placed Token)) (h : Heading) → unplaced_state (item_begun (place_in next) h s) ≡ item_begun (place_in (behind next)) h (unplaced_state s)
item_next s None h = refl
item_next s (Some p) h = refl

-- what stands in frames that are left

annotated_forgotten : (s : State) → unplaced_state (annotated s) ≡ annotated (unplaced_state s)
annotated_forgotten s =
    ap (λ (t : State). record t { notes = map unplaced (annotated s).notes }) (changed s left_frames left_frames left_alike)
    ∙ ap (λ (ts : List RawTree). record (left (unplaced_state s)) { notes = ts }) (notes_unplaced (last_part s.opening.frames) s.notes
    ∙ ap (λ (o : Option RawTree). notes_with o (map unplaced s.notes)) (sym (part_unplaced s.opening.frames)))

subject_forgotten : (s : State) → unplaced_state (with_subject s) ≡ with_subject (unplaced_state s)
subject_forgotten s =
    ap (λ (t : State). record t { listing = unplaced_listing (with_subject s).listing }) (changed s left_frames left_frames left_alike)
    ∙ ap (λ (is : List ItemTree). record (left (unplaced_state s)) { listing = record { items = is; section = s.listing.section } }) (named_unplaced (last_part s.opening.frames) s.listing.items
    ∙ ap (λ (o : Option RawTree). named_items o (unplaced_items s.listing.items)) (sym (part_unplaced s.opening.frames)))

body_forgotten : (s : State) → unplaced_state (with_body s) ≡ with_body (unplaced_state s)
body_forgotten s =
    ap (λ (t : State). record t { listing = unplaced_listing (with_body s).listing }) (changed s left_frames left_frames left_alike)
    ∙ ap (λ (l : Listing). record (left (unplaced_state s)) { listing = l }) (part_listed (last_pair s.opening.frames) s.listing
    ∙ ap (λ (o : Option Annotated). with_part o (unplaced_listing s.listing)) (sym (pair_unplaced s.opening.frames)))

nested_forgotten : (s : State) → forgotten (nested s) ≡ nested (unplaced_state s)
nested_forgotten s = by_test (nat_le most_nests s.opening.nests)
  where
    by_test : (b : Bool) → forgotten (if b then Err TooDeep else Ok (record s { opening = record s.opening { nests = s.opening.nests + 1 } }))
        ≡ (if b then Err TooDeep else Ok (record (unplaced_state s) { opening = record (unplaced_state s).opening { nests = s.opening.nests + 1 } }))
    by_test true = refl
    by_test false = refl

acted_forgotten : (a : Act) (next : Option (Placed Token)) (s : State) → forgotten (acted a next s) ≡ acted a (behind next) (unplaced_state s)
acted_forgotten act.NamePrefix next s = naming_next s (name_declared s.names) next
acted_forgotten act.DeclarePrefix next s = naming_next s (prefix_declared s.names) next
acted_forgotten act.OntologyIri next s = heading_next s (λ o. and_then (iri_in s.names o) (λ iri. Ok (record s.head { iri = Some iri }))) next
acted_forgotten act.VersionIri next s = heading_next s (λ o. and_then (iri_in s.names o) (λ iri. Ok (record s.head { version = Some iri }))) next
acted_forgotten act.ImportIri next s = heading_next s (λ o. and_then (iri_in s.names o) (λ iri. Ok (record s.head { imports = s.head.imports ++ iri ∷ [] }))) next
acted_forgotten act.HeadNotes next s = ap Ok (annotated_forgotten s)
acted_forgotten act.Open next s = ap Ok (open_next s next)
acted_forgotten act.Subject next s = ap Ok (subject_forgotten s)
acted_forgotten act.Part next s = ap Ok (body_forgotten s)
acted_forgotten act.Nest next s = nested_forgotten s
acted_forgotten act.Unnest next s = refl
acted_forgotten act.NoNotes next s = ap Ok (leaf_next s (what.Form form.Notes) next)
acted_forgotten act.Wrap next s = ap Ok (changed s wrapped_frames wrapped_frames wrapped_alike)
acted_forgotten act.Number next s = putting_next s (λ o. and_then (number_in o) (λ n. Ok (atom.Number n))) next
acted_forgotten act.Name next s = putting_next s (λ o. with_iri (iri_in s.names o)) next
acted_forgotten act.TypeName next s = putting_next s (λ o. with_iri (type_in o)) next
acted_forgotten act.Label next s = putting_next s (λ o. and_then (label_in o) (λ label. Ok (atom.Label label))) next
acted_forgotten act.Text next s = text_next s next
acted_forgotten act.Plain next s = putting_forgotten s s.form_at (Ok (atom.Literal (of_datatype s.form string)))
acted_forgotten act.Tagged next s = literal_next s (λ o. with_literal (tagged_in s.form o)) next
acted_forgotten act.Typed next s = literal_next s (λ o. with_literal (typed_in s.form (iri_in s.names o))) next
acted_forgotten act.Shorthand next s = putting_next s (λ o. with_literal (shorthand_in o)) next
acted_forgotten (act.Item h) next s = ap Ok (item_next s next h)
acted_forgotten (act.Section section) next s = refl
acted_forgotten (act.Word w) next s = ap Ok (leaf_next s (what.Word w) next)
acted_forgotten (act.Facet f) next s = ap Ok (leaf_next s (what.Facet f) next)
acted_forgotten (act.Shut f) next s = ap Ok (changed s (shut_frames f) (shut_frames f) (shut_alike f))

done_forgotten : (a : Option Act) (next : Option (Placed Token)) (s : State) → forgotten (done a next s) ≡ done a (behind next) (unplaced_state s)
done_forgotten None next s = refl
done_forgotten (Some a) next s = acted_forgotten a next s

-- ---- acts and steps

coming_behind : (acts : List ℕ) (es : List (Event Token)) → coming (map Do acts ++ es) ≡ coming es
coming_behind [] es = refl
coming_behind (a ∷ acts) es = coming_behind acts es

-- acts in front of a token or of the end, and then these events
acts_forgotten : (acts : List ℕ) (next : Option (Placed Token)) (es : List (Event Token)) (s : State) → coming es ≡ token_in next
    → run acted_at_zero (map Do acts ++ es) (unplaced_state s) ≡ and_then (forgotten (all_done acts next s)) (λ t. run acted_at_zero es t)
acts_forgotten [] next es s e = refl
acts_forgotten (a ∷ acts) next es s e =
    ap (λ (o : Option Token). and_then (acted_at_zero a o (unplaced_state s)) (λ t. run acted_at_zero (map Do acts ++ es) t)) (coming_behind acts es ∙ e)
    ∙ ap (λ (r : Result State TokenFault). and_then r (λ t. run acted_at_zero (map Do acts ++ es) t)) (sym (done_forgotten (act_numbered a) next s))
    ∙ by_result (λ t. acts_forgotten acts next es t e) (done (act_numbered a) next s)
  where
    by_result : ((t : State) → run acted_at_zero (map Do acts ++ es) (unplaced_state t) ≡ and_then (forgotten (all_done acts next t)) (λ u. run acted_at_zero es u))
        → (r : Result State TokenFault) → and_then (forgotten r) (λ t. run acted_at_zero (map Do acts ++ es) t) ≡ and_then (forgotten (fold (done_next next) r acts)) (λ t. run acted_at_zero es t)
    by_result others (Ok t) = others t
    by_result others (Err f) = sym (ap (λ (r : Result State TokenFault). and_then (forgotten r) (λ t. run acted_at_zero es t)) (fold_stays (done_next next) (Err f) (λ b. refl) acts))

ends_there : (r : Result State TokenFault) → and_then r (λ t. Ok t) ≡ r
ends_there (Ok t) = refl
ends_there (Err f) = refl

-- steps, and then acts in front of the end
abbrev pub answered : List (Step Token) → List ℕ → Result State TokenFault → Result State TokenFault
answered steps acts r = and_then (fold stepped r steps) (λ t. all_done acts None t)

pub steps_forgotten : (steps : List (Step Token)) (acts : List ℕ) (s : State) → forgotten (answered steps acts (Ok s)) ≡ run acted_at_zero (events_of steps ++ map Do acts) (unplaced_state s)
steps_forgotten [] acts s =
    sym (ap (λ (es : List (Event Token)). run acted_at_zero es (unplaced_state s)) (sym (append-nil (map Do acts))) ∙ acts_forgotten acts None [] s refl ∙ ends_there (forgotten (all_done acts None s)))
steps_forgotten (x ∷ steps) acts s =
    sym (ap (λ (l : List (Event Token)). run acted_at_zero l (unplaced_state s)) (append_assoc (map Do x.acts) (Take x.token.token ∷ events_of steps) (map Do acts))
    ∙ acts_forgotten x.acts (Some x.token) (Take x.token.token ∷ (events_of steps ++ map Do acts)) s refl
    ∙ sym (by_result (λ t. steps_forgotten steps acts t) (all_done x.acts (Some x.token) s)))
  where
    by_result : ((t : State) → forgotten (answered steps acts (Ok t)) ≡ run acted_at_zero (events_of steps ++ map Do acts) (unplaced_state t))
        → (r : Result State TokenFault) → forgotten (answered steps acts r) ≡ and_then (forgotten r) (λ t. run acted_at_zero (Take x.token.token ∷ (events_of steps ++ map Do acts)) t)
    by_result others (Ok t) = others t
    by_result others (Err f) = ap (λ (r : Result State TokenFault). forgotten (and_then r (λ t. all_done acts None t))) (fold_stays stepped (Err f) (λ y. refl) steps)
