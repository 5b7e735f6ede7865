-- No two acts have one number.
use Rattle.std.proofs.Common.{◌≡◌, List, [], ◌∷◌, ◌++◌, map, Option, Some, pred, slice_get, refl, sym, ap, ◌∙◌, subst}
use Rattle.owl_atom.specs.declared.prefixes.Prefix.{Prefix}
use Rattle.owl_tokens.specs.declared.token.Token.{Token}
use Rattle.owl_tree.specs.declared.tag.Tag.{Tag}
use Rattle.owl_tree.specs.declared.tag.Tag.TheVariants as tag
use Rattle.owl_tree.specs.Rows.{Row, row_of}
use Rattle.owl_tree.specs.Tags.{all_tags, number_of}
use Rattle.fss_grammar.specs.Acts.{act_number}
use Rattle.fss_grammar.specs.Making.{BeginsConstruct, DoneThen, Maker, Performs}
use Rattle.fss_grammar.specs.declared.acts.Act.{Act}
use Rattle.fss_grammar.specs.declared.acts.Act.TheVariants.{AddAnnotation, AddAxiom, Begin, DeclareIri, DeclareName, EndItem, HeldDatatype, HeldProperty, Hold, ImportIri, OntologyIri, Plain, Shut, Tagged, Typed, VersionIri}

abbrev all_acts : List Act
all_acts =
    map Begin all_tags ++ (Shut ∷ Plain ∷ Tagged ∷ Typed ∷ Hold ∷ HeldProperty ∷ HeldDatatype ∷ DeclareName ∷ DeclareIri ∷ OntologyIri ∷ VersionIri ∷ ImportIri ∷ AddAnnotation ∷ AddAxiom ∷ EndItem ∷ [])

act_at : (a : Act) → slice_get all_acts (pred (act_number a)) ≡ Some a
unfolding all_tags number_of
act_at (Begin tag.Class) = refl
act_at (Begin _) = refl
act_at _ = refl

pub same_act : (a b : Act) → act_number a ≡ act_number b → a ≡ b
same_act a b e = let same = sym (act_at a) ∙ ap (λ n. slice_get all_acts (pred n)) e ∙ act_at b in cc

-- the act of this number is done
pub done : {p : List Prefix} (a : Act) {next : Option Token} {m : Maker} {Then : Maker → Type 0} → DoneThen p (act_number a) next m Then → (middle : Maker) × Performs p a next m middle × Then middle
done {p = p} a {next = next} {m = m} it =
    (it.middle, subst (λ b. Performs p b next m it.middle) (same_act it.act a it.number_is) it.performs, it.later)

pub done_by : {p : List Prefix} (a : Act) {next : Option Token} {m : Maker} {Then : Maker → Type 0} (middle : Maker) → Performs p a next m middle → Then middle → DoneThen p (act_number a) next m Then
done_by a middle h l = record { act = a; number_is = refl; middle = middle; performs = h; later = l }

-- a tag begins by its row
pub begun : (p : List Prefix) (t : Tag) {row : Row} (next : Option Token) (m n : Maker) → row_of t ≡ row → Performs p (Begin t) next m n → BeginsConstruct p t row next m n
begun p t next m n e h = subst (λ row. BeginsConstruct p t row next m n) e h

pub begin : (p : List Prefix) (t : Tag) {row : Row} (next : Option Token) (m n : Maker) → row_of t ≡ row → BeginsConstruct p t row next m n → Performs p (Begin t) next m n
begin p t next m n e h = subst (λ row. BeginsConstruct p t row next m n) (sym e) h
