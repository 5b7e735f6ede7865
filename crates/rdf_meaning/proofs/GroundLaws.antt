-- What is denoted is on no cycle below itself.
use Rattle.std.specs.Prelude.{◌≡◌, ◌⊎◌, List}
use Rattle.std.proofs.Common.{inl, inr, refl, subst}
use Rattle.owl_kind.specs.Kinds.{Entity}
use Rattle.owl_tree.specs.declared.tag.Tag.{Tag}
use Rattle.owl_tree.specs.declared.row.Sort.{Sort}
use Rattle.owl_tree.specs.Trees.{Tree}
use Rattle.rdf_graph.specs.declared.term.Term.{Term}
use Rattle.rdf_graph.specs.declared.triple.Triple.{Triple}
use Rattle.rdf_meaning.specs.Denotation.{AreKeys, Denotes, Lists, of_node}
use Rattle.rdf_meaning.specs.declared.row.Want.TheVariants.{One}
use Rattle.rdf_meaning.specs.Statements.{InSteps, one_step, one_more, IsAxiomWith, IsDirectlyBelow, IsGrounded, grounded}
use Rattle.rdf_meaning.specs.Sound.{IsSoundBelow, sound_below, LeadsToSound}
use Rattle.rdf_meaning.proofs.SoundLaws.{keys_sound, list_sound, main_leads, one_sound}

-- the last step up of a way
record IsUp (step : Term → Term → Type 0) (y x : Term) : Type 0 where
  pub z : Term
  pub last : step z x
  pub before : (y ≡ z) ⊎ InSteps step y z

up : (step : Term → Term → Type 0) (y x : Term) → InSteps step y x → IsUp step y x
up step _ _ (one_step y x s) = record { z = y; last = s; before = inl refl }
up step _ _ (one_more y z x s h) =
    let u = up step z x h in
    record {
      z = u.z;
      last = u.last;
      before = elim u.before [ inl e ↦ inr (one_step y u.z (subst (step y) e s)) | inr k ↦ inr (one_more y z u.z s k) ];
    }

turned : (step : Term → Term → Type 0) (x : Term) (u : IsUp step x x) → InSteps step u.z u.z
turned step x u =
    elim u.before [ inl e ↦ one_step u.z u.z (subst (step u.z) e u.last) | inr k ↦ one_more u.z x u.z u.last k ]

pub no_cycle : (g : List Triple) (x : Term) → IsGrounded g x → InSteps (IsDirectlyBelow g) x x → ⊥
no_cycle g _ (grounded x below) h =
    let u = up (IsDirectlyBelow g) x x h in
    no_cycle g u.z (below u.z u.last) (turned (IsDirectlyBelow g) x u)

-- what is sound is grounded, since it is so by its way down

pub sound_grounded : (g : List Triple) (x : Term) → IsSoundBelow g x → IsGrounded g x
sound_grounded g _ (sound_below x is below) =
    grounded x (λ y b. subst (IsGrounded g) b.object (sound_grounded g b.triple.object (below b.triple b.inside b.subject b.structural)))

pub leads_grounded : (g : List Triple) (x : Term) → LeadsToSound g x → IsGrounded g x
leads_grounded g x below =
    grounded x (λ y b. subst (IsGrounded g) b.object (sound_grounded g b.triple.object (below b.triple b.inside b.subject b.structural)))

pub one_grounded : (g : List Triple) (k : List Entity) (x : Term) (s : Sort) (ts : List Tree) → Denotes g k x (One s) ts → IsGrounded g x
one_grounded g k x s ts d = sound_grounded g x (one_sound g k x s ts d)

pub list_grounded : (g : List Triple) (k : List Entity) (x : Term) (s : Sort) (ts : List Tree) → Lists g k x s ts → IsGrounded g x
list_grounded g k x s ts l = sound_grounded g x (list_sound g k x s ts l)

pub keys_grounded : (g : List Triple) (k : List Entity) (x : Term) (os ds : List Tree) → AreKeys g k x os ds → IsGrounded g x
keys_grounded g k x os ds h = sound_grounded g x (keys_sound g k x os ds h)

-- a node that stands for an axiom
pub main_grounded : (g : List Triple) (k : List Entity) (x : Term) (t : Tag) (ts : List Tree) → IsAxiomWith g k (of_node x) t ts → IsGrounded g x
main_grounded g k x t ts is = leads_grounded g x (main_leads g k x t ts is)
