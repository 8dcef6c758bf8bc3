-- Steps of two callers that touch different objects can change places.
use Rattle.std.proofs.Common.{◌≡◌, ◌≢◌, ℕ, ◌⊎◌, inl, inr, Option, Some, None, refl, sym, ap, ap₂, ◌∙◌, subst, set, get_or}
use Rattle.std.specs.FinMap as map
use Rattle.std.proofs.lemmas.List.{set_comm, get_or-set_other}
use Rattle.dl_ir.specs.declared.names.Name.{Name}
use Rattle.dl_core.specs.declared.objects.Object.{Object as Obj}
use Rattle.dl_core.specs.Heaps.{Heap, put_at}
use Rattle.dl_core.specs.Steps.{World, Aim, Nowhere, Inside, At, Rules, frame_by, with_frame_by, acted_by, at_aim, step_by}
use Rattle.dl_shape.proofs.Names.{names}
use Rattle.dl_core.proofs.Maps.{get_there, put_at_comm, put_at_same}

-- what a step does to the heap
pub data Touch : Type 0 where
  Leaves : Touch
  Puts : (name : Name) (object : Option Obj) → Touch

abbrev pub touched : Heap → Touch → Heap
touched h Leaves = h
touched h (Puts n o) = put_at h n o

module _ {Frame : Type 0} (r : Rules Frame) where
  -- that the rules let the caller do this
  abbrev pub Acts : World Frame → ℕ → Touch → Frame → Type 0
  Acts w c Leaves f = (r.aim (frame_by r w c) ≡ Inside) × (r.alone c (frame_by r w c) ≡ f)
  Acts w c (Puts n o) f = (r.aim (frame_by r w c) ≡ At n) × (r.act c (frame_by r w c) (map.get w.heap n) ≡ Some (f, o))

  -- one step, taken apart
  pub record Moves (w : World Frame) (c : ℕ) (w' : World Frame) : Type 0 where
    pub touch : Touch
    pub frame : Frame
    pub acts : Acts w c touch frame
    pub is : w' ≡ record { heap = touched w.heap touch; frames = set w.frames c frame }

  pub moves→step : (w : World Frame) (c : ℕ) (w' : World Frame) → Moves w c w' → step_by r w c ≡ Some w'
  moves→step w c w' m = by m.touch m.acts ∙ ap Some (sym m.is)
    where
      by : (t : Touch) → Acts w c t m.frame → step_by r w c ≡ Some (record { heap = touched w.heap t; frames = set w.frames c m.frame })
      by Leaves a = ap (at_aim r w c) a.0 ∙ ap (λ f. Some (with_frame_by r w c f)) a.1
      by (Puts n o) a = ap (at_aim r w c) a.0 ∙ ap (acted_by r w c n) a.1

  pub step→moves : (w : World Frame) (c : ℕ) (w' : World Frame) → step_by r w c ≡ Some w' → Moves w c w'
  step→moves w c w' e = by (r.aim (frame_by r w c)) refl e
    where
      by' : (n : Name) → r.aim (frame_by r w c) ≡ At n → (p : Option (Frame × Option Obj)) → r.act c (frame_by r w c) (map.get w.heap n) ≡ p → acted_by r w c n p ≡ Some w' → Moves w c w'
      by' n f None a e = absurd (cc)
      by' n f (Some p) a e = record { touch = Puts n p.1; frame = p.0; acts = (f, a); is = cc }

      by : (o : Aim) → r.aim (frame_by r w c) ≡ o → at_aim r w c o ≡ Some w' → Moves w c w'
      by Nowhere f e = absurd (cc)
      by Inside f e = record { touch = Leaves; frame = r.alone c (frame_by r w c); acts = (f, refl); is = cc }
      by (At n) f e = by' n f _ refl e

  -- two touches are at different objects, or both only look
  abbrev pub Clear : Heap → Touch → Touch → Type 0
  Clear h Leaves t = Unit {0}
  Clear h (Puts x o) Leaves = Unit {0}
  Clear h (Puts x o) (Puts y p) = (x ≢ y) ⊎ ((o ≡ map.get h x) × (p ≡ map.get h y))

  looked : (h : Heap) (x : Name) (o : Option Obj) → o ≡ map.get h x → put_at h x o ≡ h
  looked h x o e = ap (put_at h x) e ∙ put_at_same names h x

  touched_comm : (h : Heap) (s t : Touch) → Clear h s t → touched (touched h s) t ≡ touched (touched h t) s
  touched_comm h Leaves Leaves c = refl
  touched_comm h Leaves (Puts y p) c = refl
  touched_comm h (Puts x o) Leaves c = refl
  touched_comm h (Puts x o) (Puts y p) (inl n) = put_at_comm names h x y o p n
  touched_comm h (Puts x o) (Puts y p) (inr b) =
      ap (λ h. put_at h y p) (looked h x o b.0) ∙ looked h y p b.1 ∙ sym (looked h x o b.0) ∙ ap (λ h. put_at h x o) (sym (looked h y p b.1))

  -- what the step of one leaves for the other
  stays : (h : Heap) (x y : Name) (o p : Option Obj) → (x ≢ y) ⊎ ((o ≡ map.get h x) × (p ≡ map.get h y)) → map.get (put_at h x o) y ≡ map.get h y
  stays h x y o p (inl n) = get_there names h x o y (λ e. n (sym e))
  stays h x y o p (inr b) = ap (λ h. map.get h y) (looked h x o b.0)

  acts_after : (w : World Frame) (i j : ℕ) (s : Touch) (f : Frame) → i ≢ j → (t : Touch) (g : Frame) → Clear w.heap s t → Acts w j t g → Acts (record { heap = touched w.heap s; frames = set w.frames i f }) j t g
  acts_after w i j s f n Leaves g c a =
      let e : get_or (set w.frames i f) j r.idle ≡ frame_by r w j = get_or-set_other w.frames i j f r.idle (λ e. n (sym e)) in
      (ap r.aim e ∙ a.0, ap (r.alone j) e ∙ a.1)
  acts_after w i j Leaves f n (Puts y p) g c a =
      let e : get_or (set w.frames i f) j r.idle ≡ frame_by r w j = get_or-set_other w.frames i j f r.idle (λ e. n (sym e)) in
      (ap r.aim e ∙ a.0, ap (λ k. r.act j k (map.get w.heap y)) e ∙ a.1)
  acts_after w i j (Puts x o) f n (Puts y p) g c a =
      let e : get_or (set w.frames i f) j r.idle ≡ frame_by r w j = get_or-set_other w.frames i j f r.idle (λ e. n (sym e)) in
      (ap r.aim e ∙ a.0, ap₂ (λ k o. r.act j k o) e (stays w.heap x y o p c) ∙ a.1)

  flip : (h : Heap) (s t : Touch) → Clear h s t → Clear h t s
  flip h Leaves Leaves c = tt
  flip h Leaves (Puts y p) c = tt
  flip h (Puts x o) Leaves c = tt
  flip h (Puts x o) (Puts y p) (inl n) = inl (λ e. n (sym e))
  flip h (Puts x o) (Puts y p) (inr b) = inr (b.1, b.0)

  after : (w wi : World Frame) (i j : ℕ) (mi : Moves w i wi) → i ≢ j → (wj : World Frame) (mj : Moves w j wj) → Clear w.heap mi.touch mj.touch
      → Moves wi j (record { heap = touched (touched w.heap mi.touch) mj.touch; frames = set (set w.frames i mi.frame) j mj.frame })
  after w wi i j mi n wj mj c = record {
    touch = mj.touch;
    frame = mj.frame;
    acts = subst (λ v. Acts v j mj.touch mj.frame) (sym mi.is) (acts_after w i j mi.touch mi.frame n mj.touch mj.frame c mj.acts);
    is = ap (λ (v : World Frame). record { heap = touched v.heap mj.touch; frames = set v.frames j mj.frame }) (sym mi.is);
  }

  -- either order leads to the same state
  pub diamond : (w wi wj : World Frame) (i j : ℕ) → i ≢ j → (mi : Moves w i wi) (mj : Moves w j wj) → Clear w.heap mi.touch mj.touch → (w' : World Frame) × Moves wi j w' × Moves wj i w'
  diamond w wi wj i j n mi mj c =
      let k = flip w.heap mi.touch mj.touch c in
      let one = after w wi i j mi n wj mj c in
      let two = after w wj j i mj (λ e. n (sym e)) wi mi k in
      let same : ◌≡◌ {A = World Frame} (record { heap = touched (touched w.heap mj.touch) mi.touch; frames = set (set w.frames j mj.frame) i mi.frame })
      (record { heap = touched (touched w.heap mi.touch) mj.touch; frames = set (set w.frames i mi.frame) j mj.frame })
      = λ t. record { heap = touched_comm w.heap mj.touch mi.touch k t; frames = set_comm w.frames j i mj.frame mi.frame (λ e. n (sym e)) t } in
      (_, one, subst (Moves wj i) same two)

  -- a change of another's frame alone changes nothing for a caller
  pub frame_aside : (w wj : World Frame) (i j : ℕ) (f : Frame) → i ≢ j → Moves w j wj → Moves (with_frame_by r w i f) j (with_frame_by r wj i f)
  frame_aside w wj i j f n m = record {
    touch = m.touch;
    frame = m.frame;
    acts = acts_after w i j Leaves f n m.touch m.frame tt m.acts;
    is = ap (λ (v : World Frame). with_frame_by r v i f) m.is ∙ (λ t. record { heap = touched w.heap m.touch; frames = set_comm w.frames j i m.frame f (λ e. n (sym e)) t });
  }
