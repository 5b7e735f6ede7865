-- The test says which nodes are reifications of nothing.
use Rattle.std.specs.Prelude.{◌≡◌, ◌↔◌, ℕ, Bool, true, false, not, ◌&&◌, ◌||◌, cond, List, [], ◌∷◌, Contains, map}
use Rattle.std.specs.List.{filter, list_any}
use Rattle.std.proofs.Common.{inl, inr, refl, sym, ap, ◌∙◌}
use Rattle.std.proofs.lemmas.Bool.{and_from, and_parts, both_ways, not-true, or_cases, or_left, or_right}
use Rattle.rdf_graph.specs.declared.term.Term.{Term}
use Rattle.rdf_graph.specs.declared.term.Term.TheVariants.{Iri, Blank}
use Rattle.rdf_graph.specs.declared.triple.Triple.{Triple}
use Rattle.rdf_meaning.specs.declared.role.Role.{Role}
use Rattle.rdf_meaning.specs.declared.role.Role.TheVariants as role
use Rattle.rdf_meaning.specs.declared.word.Word.{Word}
use Rattle.rdf_meaning.specs.declared.word.Word.TheVariants as word
use Rattle.rdf_meaning.proofs.ListLaws.{some_passes}
use Rattle.rdf_meaning.proofs.NodeLaws.{from_subject, in_subject, same_term}
use Rattle.rdf_meaning.specs.Nodes.{carries, chosen, is_role, is_same, of_subject, role_of}
use Rattle.rdf_meaning.specs.Statements.{ReifiesSome, an_axiom, an_annotation, reifies}
use Rattle.rdf_rows.specs.Chosen.{objects_with}
use Rattle.rdf_scans.specs.declared.reading.Reading.{Reading}
use Rattle.rdf_scans.specs.Notes.{IsOfNothingIn, is_of_nothing, is_stated, names, reified_by, reifies_at, reifies_some, states_reified}
use Rattle.rdf_scans.specs.Sorts.{annotates, is_main, sort_in}
use Rattle.rdf_scans.proofs.SortLaws.{main_is}
use Rattle.rdf_scans.proofs.Reserving.{main_sort}
use Rattle.rdf_scans.proofs.Subjects.{any_from}

names_are : (ts : List Triple) (w : Word) (x : Term) → names ts w x ≡ list_any (is_same x) (objects_with w ts)
names_are [] w x = refl
names_are (t ∷ ts) w x = at (names_are ts w x) (carries w t)
  where
    at : names ts w x ≡ list_any (is_same x) (objects_with w ts) → (b : Bool) →
        (b && is_same x t.object || names ts w x) ≡ list_any (is_same x) (map (λ u. u.object) (cond b (t ∷ filter (carries w) ts) (filter (carries w) ts)))
    at rest true = ap (λ c. is_same x t.object || c) rest
    at rest false = rest

module _ (g : List Triple) (s : Term) (t : Triple) where
  reified_is : reified_by (of_subject g s) t ≡ reifies g s t
  unfolding reifies chosen
  reified_is =
      let note = of_subject g s in
      let source = names_are note word.AnnotatedSource t.subject in
      let property = names_are note word.AnnotatedProperty (Iri t.predicate) in
      let target = names_are note word.AnnotatedTarget t.object in
      λ i. source i && property i && target i

module _ (reading : Reading) where
  abbrev g : List Triple
  g = reading.graph.now

  abbrev Reifies : Term → Type 0
  Reifies s = ReifiesSome g reading.kinds.now reading.header.now s

  reified : (s : Term) (t : Triple) → Contains g t → states_reified reading (of_subject g s) t ≡ true → Reifies s
  reified s t inside h =
      let parts = and_parts (reified_by (of_subject g s) t) (is_stated reading t) h in
      let so = sym (reified_is g s t) ∙ parts.0 in
      elim (or_cases (annotates reading t) (is_main (sort_in reading t)) parts.1) [
        | inl a ↦ an_annotation t inside a so
        | inr m ↦
            an_axiom t ((main_is g reading.kinds.now reading.header.now t).1 (inside, (main_sort (sort_in reading t)).0 m)) so
      ]

  so : (s : Term) → reifies_some reading (of_subject g s) ≡ true → Reifies s
  so s h =
      let p = some_passes (λ t. carries word.AnnotatedSource t && reifies_at reading (of_subject g s) t.object) (of_subject g s) h in
      let at = (and_parts (carries word.AnnotatedSource p.element) (reifies_at reading (of_subject g s) p.element.object) p.passes).1 in
      let q = some_passes (states_reified reading (of_subject g s)) (of_subject g p.element.object) at in
      reified s q.element (from_subject g p.element.object q.element q.inside).0 q.passes

  known : (s : Term) (t : Triple) → Contains g t → reifies g s t ≡ true → is_stated reading t ≡ true → reifies_some reading (of_subject g s) ≡ true
  known s t inside r stated =
      let note = of_subject g s in
      let by = reified_is g s t ∙ r in
      let source = names note word.AnnotatedSource t.subject in
      let property = names note word.AnnotatedProperty (Iri t.predicate) in
      let named = (and_parts source property (and_parts (source && property) (names note word.AnnotatedTarget t.object) by).0).0 in
      let p = some_passes (λ u. carries word.AnnotatedSource u && is_same t.subject u.object) note named in
      let parts = and_parts (carries word.AnnotatedSource p.element) (is_same t.subject p.element.object) p.passes in
      let among = in_subject g p.element.object t inside (same_term t.subject p.element.object parts.1) in
      let at = any_from (states_reified reading note) (of_subject g p.element.object) t among (and_from (reified_by note t) (is_stated reading t) by stated) in
      any_from (λ u. carries word.AnnotatedSource u && reifies_at reading note u.object) note p.element p.inside
      (and_from (carries word.AnnotatedSource p.element) (reifies_at reading note p.element.object) parts.0 at)

  told : (s : Term) → Reifies s → reifies_some reading (of_subject g s) ≡ true
  told s (an_axiom t m r) =
      let main = (main_is g reading.kinds.now reading.header.now t).0 m in
      known s t main.0 r (or_right (annotates reading t) (is_main (sort_in reading t)) ((main_sort (sort_in reading t)).1 main.1))
  told s (an_annotation t m a r) = known s t m r (or_left (annotates reading t) (is_main (sort_in reading t)) a)

  note_role : (r : Role) → (is_role role.Note r ≡ true) ↔ (r ≡ role.Note)
  note_role role.Note = (λ h. refl, λ e. refl)
  note_role role.List = (λ h. cc, λ e. cc)
  note_role role.Property = (λ h. cc, λ e. cc)
  note_role role.Class = (λ h. cc, λ e. cc)
  note_role role.Range = (λ h. cc, λ e. cc)
  note_role role.Facet = (λ h. cc, λ e. cc)
  note_role role.Main = (λ h. cc, λ e. cc)
  note_role role.Header = (λ h. cc, λ e. cc)
  note_role role.Individual = (λ h. cc, λ e. cc)

  pub nothing_so : (label : List ℕ) → is_of_nothing reading (Blank label) ≡ true → IsOfNothingIn reading label
  nothing_so label h =
      let parts = and_parts (is_role role.Note (role_of g (Blank label))) (not (reifies_some reading (of_subject g (Blank label)))) h in record {
        note = (note_role (role_of g (Blank label))).0 parts.0;
        nothing = λ r. both_ways _ (not-true (reifies_some reading (of_subject g (Blank label))) parts.1) (told (Blank label) r);
      }

  pub something_so : (label : List ℕ) → is_of_nothing reading (Blank label) ≡ false → IsOfNothingIn reading label → ⊥
  something_so label h n =
      let some = reifies_some reading (of_subject g (Blank label)) in
      both_ways (is_of_nothing reading (Blank label)) h
      (and_from (is_role role.Note (role_of g (Blank label))) (not some) ((note_role (role_of g (Blank label))).1 n.note)
      (nothing some refl n))
    where
      nothing : (b : Bool) → reifies_some reading (of_subject g (Blank label)) ≡ b → IsOfNothingIn reading label → not b ≡ true
      nothing true e n = absurd (n.nothing (so (Blank label) e))
      nothing false e n = refl
