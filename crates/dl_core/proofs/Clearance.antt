-- Steps of two callers are at different objects, or only look: so they change places.
use Rattle.std.proofs.Common.{◌≡◌, ◌≢◌, ℕ, Option, Some, refl}
use Rattle.std.specs.FinMap as finite
use Rattle.dl_ir.specs.declared.names.Name.{Name}
use Rattle.dl_core.specs.declared.objects.Object.{Object}
use Rattle.dl_core.specs.Plans.{Plan, IsPlan}
use Rattle.dl_core.specs.Frames.{Frame, IsEntered}
use Rattle.dl_core.specs.declared.dues.Due.{Due}
use Rattle.dl_core.specs.declared.dues.Due.TheVariants.{Nothing, Reserves, TakesRoot, Enters, Reads, Writes, Takes, LetsGo, GivesUp, Seals, Makes, Finishes}
use Rattle.dl_core.specs.LocalSteps.{due}
use Rattle.dl_core.specs.Events.{aim}
use Rattle.dl_core.specs.Steps.{At}
use Rattle.dl_core.specs.Core.{Core, Shared, frame_of, rules_of, aim_of}
use Rattle.dl_core.specs.Reached.{Calls}
use Rattle.dl_core.specs.Reach.{ticket_in}
use Rattle.dl_core.specs.Changes.{May}
use Rattle.dl_core.specs.Lawful.{IsLawful}
use Rattle.dl_core.specs.Sound.{IsSound}
use Rattle.dl_core.proofs.Diamond.{Touch, Leaves, Puts, Acts, Moves, Clear, diamond}
use Rattle.dl_core.proofs.Clear.{apart_or_look}
use Rattle.dl_core.proofs.Events.{events_may}

at_at : {a b : Name} → At a ≡ At b → Some a ≡ Some b
at_at e = cc

aimed : (d : Due) (name : Name) → aim_of d ≡ At name → aim d ≡ Some name
aimed Nothing name e = absurd (cc)
aimed (Reserves need) name e = absurd (cc)
aimed (TakesRoot number) name e = at_at e
aimed Enters name e = absurd (cc)
aimed (Reads n field) name e = at_at e
aimed (Writes n field value) name e = at_at e
aimed (Takes n) name e = at_at e
aimed (LetsGo n) name e = at_at e
aimed (GivesUp n) name e = at_at e
aimed (Seals n) name e = at_at e
aimed (Makes n kind) name e = at_at e
aimed (Finishes end) name e = absurd (cc)

module _ (plan : Plan) (core : Core) (calls : Calls) (is : IsPlan plan) (lawful : IsLawful plan core calls) (sound : IsSound plan core calls) where
  -- a step by the rules at an object is a row
  pub moved_row : (caller : ℕ) (name : Name) (found : Option Object) (frame : Frame) → Acts (rules_of plan) core.world caller (Puts name found) frame
      → May core.world.heap (ticket_in core.world) caller name (finite.get core.world.heap name) found
  moved_row caller name found frame acts =
      events_may plan core calls caller is lawful sound name (aimed (due plan (frame_of core.world caller)) name acts.0) (frame, found) acts.1

  pub touches_clear : (i j : ℕ) → i ≢ j → IsEntered (frame_of core.world j) → (s t : Touch) (f g : Frame) → Acts (rules_of plan) core.world i s f → Acts (rules_of plan) core.world j t g
      → Clear (rules_of plan) core.world.heap s t
  touches_clear i j apart entered Leaves t f g a b = tt
  touches_clear i j apart entered (Puts x o) Leaves f g a b = tt
  touches_clear i j apart entered (Puts x o) (Puts y p) f g a b =
      apart_or_look core.world.heap (ticket_in core.world) sound.tickets.own lawful.free_refs i j apart entered x y (finite.get core.world.heap x) o (finite.get core.world.heap y) p refl refl (moved_row i x o f a) (moved_row j y p g b)

  -- a step of one caller and a step of another that has entered change places
  pub steps_commute : (i j : ℕ) → i ≢ j → IsEntered (frame_of core.world j) → (wi wj : Shared) → Moves (rules_of plan) core.world i wi → Moves (rules_of plan) core.world j wj
      → (end : Shared) × Moves (rules_of plan) wi j end × Moves (rules_of plan) wj i end
  steps_commute i j apart entered wi wj mi mj = diamond (rules_of plan) core.world wi wj i j apart mi mj (touches_clear i j apart entered mi.touch mj.touch mi.frame mj.frame mi.acts mj.acts)
