-- Where nothing was read.
use Rattle.std.proofs.Common.{◌≡◌, List, [], None, refl, sym, ap, subst}
use Rattle.owl_atom.specs.Prefixes.{IsTable, fixed_prefixes, prefix_in}
use Rattle.owl_atom.specs.declared.prefixes.Prefix.{Prefix}
use Rattle.owl_arena.specs.Held.{Held}
use Rattle.owl_doc.specs.Documents.{nothing_yet}
use Rattle.owl_list.proofs.AscendingLaws.{in_none}
use Rattle.owl_maker.specs.Constructs.{Constructs}
use Rattle.owl_maker.proofs.MakerLaws.{follows_nothing}
use Rattle.owl_maker.specs.Makings.{Follows, Making, nothing_open}
use Rattle.owl_tree.specs.Ontologies.{HoldEquivalent}
use Rattle.fss_grammar.specs.DoingLaws.{done_at_first}
use Rattle.fss_grammar.specs.Making.{beginning, no_ontology}
use Rattle.fss_acts.specs.declared.assembler.Assembler.{Assembler}
use Rattle.fss_acts.specs.declared.kept.Kept.TheVariants as keeps
use Rattle.fss_acts.specs.Assembling.{Made, IsBuiltAs}

nothing_held : HoldEquivalent [] []
nothing_held = record { there = λ t m. absurd (in_none t m); back = λ t m. absurd (in_none t m) }

pub nothing_done : (a : Assembler) (arena : Held) → a.prefixes ≡ fixed_prefixes → IsTable a.prefixes → a.kept ≡ keeps.Nothing → a.name ≡ None → a.maker ≡ nothing_open (nothing_yet [] arena) → Made [] a
nothing_done a arena p table k n e = record {
  maker = beginning;
  done = done_at_first;
  assembles = record {
    table = record { table = table; each = λ name. ap (λ (ps : List Prefix). prefix_in ps name) p };
    declarable = record { each = tt; once = tt };
    kept = k;
    fit = tt;
    name = n;
    work = subst (λ (w : Making). Follows w (Constructs [])) (sym e) (follows_nothing (nothing_yet [] arena));
    says = subst (λ (w : Making). IsBuiltAs w.document no_ontology) (sym e) record { head = refl; annotations = nothing_held; axioms = nothing_held };
  };
}
