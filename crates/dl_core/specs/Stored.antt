-- How the machine's state is stored, by which proofs tell states apart.
use Rattle.std.specs.Prelude.{◌≡◌, ◌⊎◌, ℕ, zero, suc, ℤ, Bool, true, false, Option, Some, None, List, refl}
use Rattle.std.specs.FinMap as finite
use Rattle.std.specs.Coded.{Coded, code_by, coded×, coded⊎, coded_ℕ, coded_ℤ, coded_bool, coded_list, coded_option}
use Rattle.std.proofs.Common.{inl, inr}
use Rattle.dl_ir.specs.declared.answers.Answer.{Answer}
use Rattle.dl_ir.specs.declared.answers.End.{End}
use Rattle.dl_ir.specs.declared.answers.End.TheVariants as ends
use Rattle.dl_ir.specs.declared.answers.Refusal.{Refusal}
use Rattle.dl_ir.specs.declared.calls.Call.{Call}
use Rattle.dl_ir.specs.declared.names.Name.{Name}
use Rattle.dl_ir.specs.declared.names.Value.{Value}
use Rattle.dl_ir.specs.Values.{coded_name, coded_value}
use Rattle.dl_core.specs.declared.objects.Mark.{Mark}
use Rattle.dl_core.specs.declared.objects.Mark.TheVariants as marks
use Rattle.dl_core.specs.declared.objects.Object.{Object}
use Rattle.dl_core.specs.declared.stages.Stage.{Stage}
use Rattle.dl_core.specs.declared.stages.Stage.TheVariants as stages
use Rattle.dl_core.specs.declared.stages.Booked.{Booked}
use Rattle.dl_core.specs.declared.stages.Finished.{Finished}
use Rattle.dl_core.specs.declared.stages.Versions.{Versions}
use Rattle.dl_core.specs.Heaps.{Heap}
use Rattle.dl_core.specs.Frames.{Frame, Book}
use Rattle.dl_core.specs.Core.{Account, Core, Pool, Shared}
use Rattle.dl_core.specs.Passes.{Glance, NoStep, Loaded, Stored, Compared, Added, Look}

-- an end is stored as its number and what it has
abbrev pub end_parts : End → Option (ℤ ⊎ (Name ⊎ ℕ))
end_parts (ends.Ok n) = Some (inl n)
end_parts ends.Null = None
end_parts ends.Overflow = Some (inr (inr 0))
end_parts ends.DivZero = Some (inr (inr 1))
end_parts ends.Fuel = Some (inr (inr 2))
end_parts ends.Quota = Some (inr (inr 3))
end_parts ends.Emits = Some (inr (inr 4))
end_parts (ends.Sealed name) = Some (inr (inl name))

abbrev pub end_numbered : ℕ → End
end_numbered zero = ends.Overflow
end_numbered (suc zero) = ends.DivZero
end_numbered (suc (suc zero)) = ends.Fuel
end_numbered (suc (suc (suc zero))) = ends.Quota
end_numbered (suc (suc (suc (suc n)))) = ends.Emits

abbrev pub end_of_parts : Option (ℤ ⊎ (Name ⊎ ℕ)) → End
end_of_parts None = ends.Null
end_of_parts (Some (inl n)) = ends.Ok n
end_of_parts (Some (inr (inl name))) = ends.Sealed name
end_of_parts (Some (inr (inr n))) = end_numbered n

pub same_end : (end : End) → end_of_parts (end_parts end) ≡ end
same_end (ends.Ok n) = refl
same_end ends.Null = refl
same_end ends.Overflow = refl
same_end ends.DivZero = refl
same_end ends.Fuel = refl
same_end ends.Quota = refl
same_end ends.Emits = refl
same_end (ends.Sealed name) = refl

abbrev pub coded_end : Coded End
coded_end = code_by (Option (ℤ ⊎ (Name ⊎ ℕ))) (coded_option (coded⊎ coded_ℤ (coded⊎ coded_name coded_ℕ))) end_parts end_of_parts same_end

abbrev pub coded_answer : Coded Answer
coded_answer = code_by (End × (Option Name × List ℤ)) (coded× coded_end (coded× (coded_option coded_name) (coded_list coded_ℤ))) (λ a. (a.end, (a.breach, a.emitted)))
    (λ p. record { end = p.0; breach = p.1.0; emitted = p.1.1 }) (λ _. refl)

abbrev pub coded_call : Coded Call
coded_call = code_by (ℕ × List ℤ) (coded× coded_ℕ (coded_list coded_ℤ)) (λ c. (c.op, c.args)) (λ p. record { op = p.0; args = p.1 }) (λ _. refl)

abbrev pub coded_refusal : Coded Refusal
coded_refusal = code_by (ℕ × (ℕ × (ℕ × (ℕ × ℕ)))) (coded× coded_ℕ (coded× coded_ℕ (coded× coded_ℕ (coded× coded_ℕ coded_ℕ))))
    (λ r. (r.caller, (r.index, (r.need, (r.found, r.version))))) (λ p. record { caller = p.0; index = p.1.0; need = p.1.1.0; found = p.1.1.1.0; version = p.1.1.1.1 }) (λ _. refl)

abbrev pub mark_parts : Mark → Option (ℕ ⊎ ℕ)
mark_parts marks.Free = None
mark_parts (marks.Held caller) = Some (inl caller)
mark_parts (marks.Sealed ticket) = Some (inr ticket)

abbrev pub mark_of_parts : Option (ℕ ⊎ ℕ) → Mark
mark_of_parts None = marks.Free
mark_of_parts (Some (inl caller)) = marks.Held caller
mark_of_parts (Some (inr ticket)) = marks.Sealed ticket

pub same_mark : (mark : Mark) → mark_of_parts (mark_parts mark) ≡ mark
same_mark marks.Free = refl
same_mark (marks.Held caller) = refl
same_mark (marks.Sealed ticket) = refl

abbrev pub coded_mark : Coded Mark
coded_mark = code_by (Option (ℕ ⊎ ℕ)) (coded_option (coded⊎ coded_ℕ coded_ℕ)) mark_parts mark_of_parts same_mark

abbrev pub coded_object : Coded Object
coded_object = code_by (ℕ × (Mark × List Value)) (coded× coded_ℕ (coded× coded_mark (coded_list coded_value))) (λ o. (o.kind, (o.mark, o.fields))) (λ p. record { kind = p.0; mark = p.1.0; fields = p.1.1 }) (λ _. refl)

abbrev pub stage_parts : Stage → Option (End ⊎ Bool)
stage_parts stages.Idle = None
stage_parts stages.Called = Some (inr true)
stage_parts stages.Running = Some (inr false)
stage_parts (stages.Ended end) = Some (inl end)

abbrev pub stage_of_parts : Option (End ⊎ Bool) → Stage
stage_of_parts None = stages.Idle
stage_of_parts (Some (inl end)) = stages.Ended end
stage_of_parts (Some (inr true)) = stages.Called
stage_of_parts (Some (inr false)) = stages.Running

pub same_stage : (stage : Stage) → stage_of_parts (stage_parts stage) ≡ stage
same_stage stages.Idle = refl
same_stage stages.Called = refl
same_stage stages.Running = refl
same_stage (stages.Ended end) = refl

abbrev pub coded_stage : Coded Stage
coded_stage = code_by (Option (End ⊎ Bool)) (coded_option (coded⊎ coded_end coded_bool)) stage_parts stage_of_parts same_stage

abbrev pub coded_booked : Coded Booked
coded_booked = code_by (ℕ × ℕ) (coded× coded_ℕ coded_ℕ) (λ b. (b.kind, b.fields)) (λ p. record { kind = p.0; fields = p.1 }) (λ _. refl)

abbrev pub coded_finished : Coded Finished
coded_finished = code_by (ℕ × (ℕ × (Answer × ℕ))) (coded× coded_ℕ (coded× coded_ℕ (coded× coded_answer coded_ℕ)))
    (λ f. (f.index, (f.ticket, (f.answer, f.returned)))) (λ p. record { index = p.0; ticket = p.1.0; answer = p.1.1.0; returned = p.1.1.1 }) (λ _. refl)

abbrev pub coded_versions : Coded Versions
coded_versions = code_by (ℕ × ℕ) (coded× coded_ℕ coded_ℕ) (λ v. (v.reserved_at, v.returned_at)) (λ p. record { reserved_at = p.0; returned_at = p.1 }) (λ _. refl)

-- a frame is stored as its parts, the first nine and the other nine
abbrev pub First : Type 0
First = Stage × (Call × (ℕ × (ℕ × (ℕ × (ℕ × (List Value × (Option Value × ℕ)))))))

abbrev pub Others : Type 0
Others = ℕ × (List ℤ × (ℕ × (Book × (List Name × (ℕ × (Bool × (Option Name × List Finished)))))))

abbrev pub coded_first : Coded First
coded_first = coded× coded_stage (coded× coded_call (coded× coded_ℕ (coded× coded_ℕ (coded× coded_ℕ (coded× coded_ℕ (coded× (coded_list coded_value) (coded× (coded_option coded_value) coded_ℕ)))))))

abbrev pub coded_others : Coded Others
coded_others = coded× coded_ℕ (coded× (coded_list coded_ℤ) (coded× coded_ℕ (coded× (finite.code coded_name coded_booked) (coded× (coded_list coded_name) (coded× coded_ℕ (coded× coded_bool (coded× (coded_option coded_name) (coded_list coded_finished))))))))

abbrev pub coded_frame : Coded Frame
coded_frame = code_by (First × Others) (coded× coded_first coded_others)
    (λ f. ((f.stage, (f.call, (f.index, (f.taken, (f.ticket, (f.place, (f.locals, (f.hand, f.turns)))))))), (f.made, (f.emitted, (f.spares, (f.book, (f.loose, (f.cursor, (f.seen, (f.breach, f.finished))))))))))
    (λ p. record {
      stage = p.0.0;
      call = p.0.1.0;
      index = p.0.1.1.0;
      taken = p.0.1.1.1.0;
      ticket = p.0.1.1.1.1.0;
      place = p.0.1.1.1.1.1.0;
      locals = p.0.1.1.1.1.1.1.0;
      hand = p.0.1.1.1.1.1.1.1.0;
      turns = p.0.1.1.1.1.1.1.1.1;
      made = p.1.0;
      emitted = p.1.1.0;
      spares = p.1.1.1.0;
      book = p.1.1.1.1.0;
      loose = p.1.1.1.1.1.0;
      cursor = p.1.1.1.1.1.1.0;
      seen = p.1.1.1.1.1.1.1.0;
      breach = p.1.1.1.1.1.1.1.1.0;
      finished = p.1.1.1.1.1.1.1.1.1;
    })
    (λ _. refl)

abbrev pub coded_account : Coded Account
coded_account = code_by (ℕ × (List Versions × List Refusal)) (coded× coded_ℕ (coded× (coded_list coded_versions) (coded_list coded_refusal)))
    (λ a. (a.reserved_at, (a.versions, a.refusals))) (λ p. record { reserved_at = p.0; versions = p.1.0; refusals = p.1.1 }) (λ _. refl)

abbrev pub coded_pool : Coded Pool
coded_pool = code_by (ℕ × (ℕ × List Account)) (coded× coded_ℕ (coded× coded_ℕ (coded_list coded_account))) (λ x. (x.version, (x.free, x.accounts))) (λ p. record { version = p.0; free = p.1.0; accounts = p.1.1 }) (λ _. refl)

abbrev pub coded_world : Coded Shared
coded_world = code_by (Heap × List Frame) (coded× (finite.code coded_name coded_object) (coded_list coded_frame)) (λ w. (w.heap, w.frames)) (λ p. record { heap = p.0; frames = p.1 }) (λ _. refl)

abbrev pub coded_core : Coded Core
coded_core = code_by (Shared × (ℕ × Pool)) (coded× coded_world (coded× coded_ℕ coded_pool)) (λ c. (c.world, (c.clock, c.pool))) (λ p. record { world = p.0; clock = p.1.0; pool = p.1.1 }) (λ _. refl)

-- a step on a shared word is stored as its kind, its word and what it found
abbrev pub glance_parts : Glance → Option ((ℕ × ℕ) ⊎ ((ℕ × ℕ) ⊎ ((ℕ × ℕ) ⊎ ℕ)))
glance_parts NoStep = None
glance_parts (Loaded word found) = Some (inl (word, found))
glance_parts (Compared word found) = Some (inr (inl (word, found)))
glance_parts (Added word found) = Some (inr (inr (inl (word, found))))
glance_parts (Stored word) = Some (inr (inr (inr word)))

abbrev pub glance_of_parts : Option ((ℕ × ℕ) ⊎ ((ℕ × ℕ) ⊎ ((ℕ × ℕ) ⊎ ℕ))) → Glance
glance_of_parts None = NoStep
glance_of_parts (Some (inl p)) = Loaded p.0 p.1
glance_of_parts (Some (inr (inl p))) = Compared p.0 p.1
glance_of_parts (Some (inr (inr (inl p)))) = Added p.0 p.1
glance_of_parts (Some (inr (inr (inr word)))) = Stored word

pub same_glance : (glance : Glance) → glance_of_parts (glance_parts glance) ≡ glance
same_glance NoStep = refl
same_glance (Loaded word found) = refl
same_glance (Compared word found) = refl
same_glance (Added word found) = refl
same_glance (Stored word) = refl

abbrev pub coded_glance : Coded Glance
coded_glance = code_by (Option ((ℕ × ℕ) ⊎ ((ℕ × ℕ) ⊎ ((ℕ × ℕ) ⊎ ℕ)))) (coded_option (coded⊎ (coded× coded_ℕ coded_ℕ) (coded⊎ (coded× coded_ℕ coded_ℕ) (coded⊎ (coded× coded_ℕ coded_ℕ) coded_ℕ)))) glance_parts glance_of_parts same_glance

abbrev pub coded_look : Coded Look
coded_look = code_by (ℕ × (Glance × Glance)) (coded× coded_ℕ (coded× coded_glance coded_glance)) (λ l. (l.count, (l.last, l.before))) (λ p. record { count = p.0; last = p.1.0; before = p.1.1 }) (λ _. refl)
