use Rattle.std.proofs.Common.{◌≡◌, ◌≤◌, ◌-◌, ◌^◌, ◌∙◌, None, Some, IsErr, OnOk, OnErr, IsTrue, ap, sym, map}
use Rattle.std.specs.Prelude.{unwrap_or}
use Rattle.std.specs.Option.{option_map, option_and_then, IsSomeAnd}
use Rattle.std.specs.Io.KnownBytes.{ReadConsumes}
use Rattle.owl_port.specs.Outside.{Rose, raised}
use Rattle.owl_cli.specs.Files.{Word, word_in}
use Rattle.std.proofs.Math.Seq.{map-set_same}
use Rattle.owl_port.proofs.ByNameLaws.{place_in, absent, written_over, carried, raised_where_absent}
use Rattle.owl_cli.proofs.ByName.{rose_where_absent}
use Rattle.owl_cli.proofs.file_shelf.FileShelfShelf.read.Goals as goal

pub returns-in-None-clause-raised : goal.returns-in-None-clause-raised
returns-in-None-clause-raised g c = raised_where_absent (λ (w : Word). w.faults) _ (absent (λ (w : Word). w.name) c.args.self.now c.args.name.now (place_in (λ (w : Word). w.name) _ _ _ _ _ (c.deref.ensures.value ∙ c.self.view_is) c.place_of.ensures c.in-None.is))

pub returns-in-None-clause-cause : goal.returns-in-None-clause-cause
returns-in-None-clause-cause g c = rose_where_absent _ (absent (λ (w : Word). w.name) c.args.self.now c.args.name.now (place_in (λ (w : Word). w.name) _ _ _ _ _ (c.deref.ensures.value ∙ c.self.view_is) c.place_of.ensures c.in-None.is))

-- what the read of the word does, said of its name
pub returns-in-Some : goal.returns-in-Some
returns-in-Some g c =
    let over =
    written_over (λ (w : Word). w.name) c.self.inside.words.items c.args.name.now c.in-Some.place c.index_mut.result.now c.read.new.self (place_in (λ (w : Word). w.name) _ _ _ _ _ c.deref.ensures.value c.place_of.ensures c.in-Some.is) c.index_mut.ensures.value c.read.ensures.name in
    let was : word_in c.args.self.now c.args.name.now ≡ Some c.index_mut.result.now =
    ap (λ ws. word_in ws c.args.name.now) (sym c.self.view_is) ∙ over.was in
    record {
      bound = c.read.ensures.bound;
      unknown = carried (λ x y. x ≡ None → IsErr c.read.result) _ _ _ _ was over.becomes (λ e. absurd (cc));
      opened = carried (λ x y. OnOk c.read.result (IsSomeAnd y (λ w. IsTrue w.is_open))) _ _ _ _ was over.becomes c.read.ensures.opened;
      bytes = carried (λ x y. ReadConsumes (option_and_then (λ w. w.left) x) (option_and_then (λ w. w.left) y) c.read.result c.read.new.into) _ _ _ _ was over.becomes c.read.ensures.bytes;
      raised = carried (λ x y. OnErr c.read.result (unwrap_or (option_map (λ w. w.faults) y) (2 ^ 64 - 1) ≡ raised (unwrap_or (option_map (λ w. w.faults) x) (2 ^ 64 - 1)))) _ _ _ _ was over.becomes c.read.ensures.raised;
      kept = carried (λ x y. OnOk c.read.result (unwrap_or (option_map (λ w. w.faults) y) (2 ^ 64 - 1) ≡ unwrap_or (option_map (λ w. w.faults) x) (2 ^ 64 - 1))) _ _ _ _ was over.becomes c.read.ensures.kept;
      counts = λ other ne.
          ap (λ o. unwrap_or (option_map (λ w. w.faults) o) (2 ^ 64 - 1)) (over.others other ne ∙ ap (λ ws. word_in ws other) c.self.view_is);
      faults = carried (λ x y. unwrap_or (option_map (λ w. w.faults) x) (2 ^ 64 - 1) ≤ unwrap_or (option_map (λ w. w.faults) y) (2 ^ 64 - 1)) _ _ _ _ was over.becomes c.read.ensures.faults;
      cause = carried (λ x y. OnErr c.read.result (Rose (unwrap_or (option_map (λ w. w.faults) x) (2 ^ 64 - 1)) (unwrap_or (option_map (λ w. w.faults) y) (2 ^ 64 - 1)))) _ _ _ _ was over.becomes c.read.ensures.cause;
      words = map-set_same (λ (w : Word). w.name) c.self.inside.words.items c.in-Some.place c.read.new.self c.index_mut.result.now (c.read.ensures.name ∙ ap (λ (w : Word). w.name) c.index_mut.ensures.value) ∙ ap (map (λ (w : Word). w.name)) c.self.view_is;
      others = λ other ne. over.others other ne ∙ ap (λ ws. word_in ws other) c.self.view_is;
    }
