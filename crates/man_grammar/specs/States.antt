-- The state of a reader of Manchester Syntax, and what acts make of it (sections 2.1 to 2.6).
use Rattle.std.specs.Prelude.{ℕ, ◌+◌, ◌-◌, ◌^◌, Bool, true, false, ◌||◌, not, nat_le, nat_lt, List, [], ◌∷◌, ◌++◌, codes, Option, None, Some, Result, Ok, Err, unwrap_or, if◌then◌else◌}
use Rattle.std.specs.Char.{is_ascii_digit}
use Rattle.std.specs.List.{list_all}
use Rattle.std.specs.Option.{option_map}
use Rattle.std.specs.Str.Parse.{digits_value}
use Rattle.lexical_values.specs.TypedLiterals.{typed_literal}
use Rattle.man_raw.specs.Documents.{HeadTree}
use Rattle.man_raw.specs.Listed.{Listing, begun_item, in_section, named_item, nothing_listed, with_part}
use Rattle.man_raw.specs.Opened.{Frame, Opening, last_pair, last_part, left_frames, most_nests, nothing_open, opened_frames, put_frames, shut_frames, with_frames, wrapped_frames}
use Rattle.man_raw.specs.Raws.{RawTree, none, raw}
use Rattle.man_raw.specs.declared.form.Form.TheVariants.{Notes}
use Rattle.man_raw.specs.declared.heading.Heading.{Heading}
use Rattle.man_raw.specs.declared.heading.Section.{Section}
use Rattle.man_raw.specs.declared.form.What.{What}
use Rattle.man_raw.specs.declared.form.What.TheVariants as what
use Rattle.owl_atom.specs.Prefixes.{expansion, fixed_prefixes, iri_of, is_declared, is_fixed}
use Rattle.owl_atom.specs.declared.prefixes.Prefix.{Prefix}
use Rattle.owl_characters.specs.Order.{text_eq}
use Rattle.owl_lexer.specs.declared.placed.Placed.{Placed}
use Rattle.owl_reader.specs.Steps.{token_in}
use Rattle.owl_reader.specs.declared.fault.Reason.TheVariants as reason
use Rattle.owl_reader.specs.declared.fault.TokenFault.{TokenFault}
use Rattle.owl_reader.specs.declared.fault.TokenFault.TheVariants.{Defect, NumberTooLarge, TooDeep}
use Rattle.owl_tokens.specs.declared.token.Token.{Token}
use Rattle.owl_tokens.specs.declared.token.Token.TheVariants as token
use Rattle.owl_tree.specs.declared.atom.Atom.{Atom}
use Rattle.owl_tree.specs.declared.atom.Atom.TheVariants as atom
use Rattle.rdf_terms.specs.Literals.{LiteralParts, of_datatype, string, with_tag}
use Rattle.rdf_terms.specs.Vocabulary.{xsd}
use Rattle.man_grammar.specs.declared.act.Act.{Act}
use Rattle.man_grammar.specs.declared.act.Act.TheVariants as act

abbrev pub and_then : {A B : Type 0} → Result A TokenFault → (A → Result B TokenFault) → Result B TokenFault
and_then (Ok x) f = f x
and_then (Err fault) f = Err fault

-- what a token that can't stand there gives
abbrev pub nothing_here : {A : Type 0} → Result A TokenFault
nothing_here = Err (Defect reason.NotHere)

-- ---- prefixes

-- The prefixes, of one name the last that was declared first, and the name that is being declared.
pub record Names : Type 0 where
  pub prefixes : List Prefix
  pub declaring : List ℕ

-- No name is declared twice.
abbrev pub name_declared : Names → Option Token → Result Names TokenFault
name_declared names (Some (token.Name name local)) =
    if is_declared names.prefixes name then Err (Defect reason.PrefixTwice) else Ok (record names { declaring = name })
name_declared names _ = nothing_here

-- One of the four prefixes that are there beforehand may be declared with its own IRI alone.
abbrev pub may_stand_for : Names → List ℕ → Bool
may_stand_for names iri =
    not (is_fixed names.prefixes names.declaring) || unwrap_or (option_map (λ own. text_eq own iri) (iri_of fixed_prefixes names.declaring)) false

abbrev pub with_prefix : Names → List ℕ → Names
with_prefix names iri =
    record names { prefixes = record { name = names.declaring; iri = iri; fixed = is_fixed names.prefixes names.declaring; declared = true } ∷ names.prefixes }

abbrev pub prefix_declared : Names → Option Token → Result Names TokenFault
prefix_declared names (Some (token.Iri iri)) =
    if is_declared names.prefixes names.declaring then Err (Defect reason.PrefixTwice)
    else (if may_stand_for names iri then Ok (with_prefix names iri) else Err (Defect reason.PrefixFixed))
prefix_declared names _ = nothing_here

-- ---- atoms

abbrev pub known_iri : Option (List ℕ) → Result (List ℕ) TokenFault
known_iri None = Err (Defect reason.UnknownPrefix)
known_iri (Some iri) = Ok iri

-- the IRI of a token; a word stands behind the empty prefix (section 2.1)
abbrev pub iri_in : Names → Option Token → Result (List ℕ) TokenFault
iri_in names (Some (token.Iri iri)) = Ok iri
iri_in names (Some (token.Name prefix local)) = known_iri (expansion names.prefixes prefix local)
iri_in names (Some (token.Word word)) = known_iri (expansion names.prefixes [] word)
iri_in names _ = nothing_here

-- the datatype of XML Schema that a word names
abbrev pub type_in : Option Token → Result (List ℕ) TokenFault
type_in (Some (token.Word word)) = Ok (xsd word)
type_in _ = nothing_here

abbrev pub label_in : Option Token → Result (List ℕ) TokenFault
label_in (Some (token.Blank label)) = Ok label
label_in _ = nothing_here

-- a number has 64 bits
abbrev pub number_in : Option Token → Result ℕ TokenFault
number_in (Some (token.Int digits)) =
    if list_all is_ascii_digit digits
    then (if nat_lt (digits_value 10 digits) (2 ^ 64) then Ok (digits_value 10 digits) else Err NumberTooLarge)
    else nothing_here
number_in _ = nothing_here

abbrev pub form_in : Option Token → Result (List ℕ) TokenFault
form_in (Some (token.Str text)) = Ok text
form_in _ = nothing_here

abbrev pub tagged_in : List ℕ → Option Token → Result LiteralParts TokenFault
tagged_in form (Some (token.At tag)) = Ok (with_tag form tag)
tagged_in form _ = nothing_here

abbrev pub known_literal : Option LiteralParts → Result LiteralParts TokenFault
known_literal None = Err (Defect reason.BadLiteral)
known_literal (Some literal) = Ok literal

-- a form with a datatype, which may have no such form
abbrev pub typed_in : List ℕ → Result (List ℕ) TokenFault → Result LiteralParts TokenFault
typed_in form datatype = and_then datatype (λ iri. known_literal (typed_literal form iri))

-- what a number or a word is short for
abbrev pub shorthand_in : Option Token → Result LiteralParts TokenFault
shorthand_in (Some (token.Int number)) = known_literal (typed_literal number (xsd (codes "integer")))
shorthand_in (Some (token.Dec number)) = known_literal (typed_literal number (xsd (codes "decimal")))
shorthand_in (Some (token.Word word)) = known_literal (typed_literal word (xsd (codes "boolean")))
shorthand_in _ = nothing_here

-- ---- the whole

-- The prefixes; the string whose datatype or tag is not read yet, and its place; what is open; the head, the annotations of the
-- ontology, and the items.
pub record State : Type 0 where
  pub names : Names
  pub form_at : ℕ
  pub form : List ℕ
  pub opening : Opening
  pub head : HeadTree
  pub notes : List RawTree
  pub listing : Listing

abbrev pub start : State
start = record {
  names = record { prefixes = fixed_prefixes; declaring = [] };
  form_at = 0;
  form = [];
  opening = nothing_open;
  head = record { iri = None; version = None; imports = [] };
  notes = [];
  listing = nothing_listed;
}

-- the byte of the token that comes
abbrev pub place_in : Option (Placed Token) → ℕ
place_in None = 0
place_in (Some p) = p.at

abbrev pub naming : State → Result Names TokenFault → Result State TokenFault
naming state names = and_then names (λ names. Ok (record state { names = names }))

abbrev pub heading : State → Result HeadTree TokenFault → Result State TokenFault
heading state head = and_then head (λ head. Ok (record state { head = head }))

abbrev pub opening_frames : State → (List Frame → List Frame) → State
opening_frames state change = record state { opening = with_frames (change state.opening.frames) state.opening }

-- a piece without parts is read
abbrev pub put_leaf : ℕ → What → State → State
put_leaf at w state = opening_frames state (put_frames (raw at w none))

abbrev pub putting : State → ℕ → Result Atom TokenFault → Result State TokenFault
putting state at read = and_then read (λ read. Ok (put_leaf at (what.Atom read) state))

abbrev pub with_iri : Result (List ℕ) TokenFault → Result Atom TokenFault
with_iri iri = and_then iri (λ iri. Ok (atom.Iri iri))

abbrev pub with_literal : Result LiteralParts TokenFault → Result Atom TokenFault
with_literal literal = and_then literal (λ literal. Ok (atom.Literal literal))

-- the annotations of the ontology, with a piece more
abbrev pub notes_with : Option RawTree → List RawTree → List RawTree
notes_with None notes = notes
notes_with (Some t) notes = notes ++ t ∷ []

-- so many nests are open at once, at most
abbrev pub nested : State → Result State TokenFault
nested state =
    if nat_le most_nests state.opening.nests then Err TooDeep
    else Ok (record state { opening = record state.opening { nests = state.opening.nests + 1 } })

abbrev pub unnested : State → State
unnested state = record state { opening = record state.opening { nests = state.opening.nests - 1 } }

abbrev pub left : State → State
left state = opening_frames state left_frames

-- the piece that was read is annotations of the ontology, what the frame is of, or a part of the section
abbrev pub annotated : State → State
annotated state = record (left state) { notes = notes_with (last_part state.opening.frames) state.notes }

abbrev pub with_subject : State → State
with_subject state = record (left state) { listing = named_item (last_part state.opening.frames) state.listing }

abbrev pub with_body : State → State
with_body state = record (left state) { listing = with_part (last_pair state.opening.frames) state.listing }

abbrev pub item_begun : ℕ → Heading → State → State
item_begun at heading state = record state { listing = begun_item at heading state.listing }

abbrev pub section_begun : Section → State → State
section_begun section state = record state { listing = in_section section state.listing }

-- a literal of the string that was read
abbrev pub plain_read : State → Result State TokenFault
plain_read state = putting state state.form_at (Ok (atom.Literal (of_datatype state.form string)))

-- An act in front of this token or of the end. It fails at a token that it can't stand in front of.
abbrev pub acted : Act → Option (Placed Token) → State → Result State TokenFault
acted act.NamePrefix next state = naming state (name_declared state.names (token_in next))
acted act.DeclarePrefix next state = naming state (prefix_declared state.names (token_in next))
acted act.OntologyIri next state = heading state (and_then (iri_in state.names (token_in next)) (λ iri. Ok (record state.head { iri = Some iri })))
acted act.VersionIri next state = heading state (and_then (iri_in state.names (token_in next)) (λ iri. Ok (record state.head { version = Some iri })))
acted act.ImportIri next state =
    heading state (and_then (iri_in state.names (token_in next)) (λ iri. Ok (record state.head { imports = state.head.imports ++ iri ∷ [] })))
acted act.HeadNotes next state = Ok (annotated state)
acted act.Open next state = Ok (opening_frames state (opened_frames (place_in next)))
acted act.Subject next state = Ok (with_subject state)
acted act.Part next state = Ok (with_body state)
acted act.Nest next state = nested state
acted act.Unnest next state = Ok (unnested state)
acted act.NoNotes next state = Ok (put_leaf (place_in next) (what.Form Notes) state)
acted act.Wrap next state = Ok (opening_frames state wrapped_frames)
acted act.Number next state = putting state (place_in next) (and_then (number_in (token_in next)) (λ n. Ok (atom.Number n)))
acted act.Name next state = putting state (place_in next) (with_iri (iri_in state.names (token_in next)))
acted act.TypeName next state = putting state (place_in next) (with_iri (type_in (token_in next)))
acted act.Label next state = putting state (place_in next) (and_then (label_in (token_in next)) (λ label. Ok (atom.Label label)))
acted act.Text next state = and_then (form_in (token_in next)) (λ form. Ok (record state { form_at = place_in next; form = form }))
acted act.Plain next state = plain_read state
acted act.Tagged next state = putting state state.form_at (with_literal (tagged_in state.form (token_in next)))
acted act.Typed next state = putting state state.form_at (with_literal (typed_in state.form (iri_in state.names (token_in next))))
acted act.Shorthand next state = putting state (place_in next) (with_literal (shorthand_in (token_in next)))
acted (act.Item heading) next state = Ok (item_begun (place_in next) heading state)
acted (act.Section section) next state = Ok (section_begun section state)
acted (act.Word word) next state = Ok (put_leaf (place_in next) (what.Word word) state)
acted (act.Facet facet) next state = Ok (put_leaf (place_in next) (what.Facet facet) state)
acted (act.Shut form) next state = Ok (opening_frames state (shut_frames form))
