-- How a history and its replay change where a call is begun, and where an operation enters.
use Rattle.std.proofs.Common.{◌≡◌, ◌≢◌, inl, inr, ℕ, zero, suc, ◌+◌, ◌<◌, ◌≤◌, List, [], ◌∷◌, ◌++◌, map, length, set, get_or, Option, Some, refl, sym, ap, ap₂, subst, ◌∙◌, arith}
use Rattle.std.specs.Prelude.{slice_get, option_and_then}
use Rattle.std.specs.List.{flat_map}
use Rattle.std.specs.Option.{option_map_or}
use Rattle.std.proofs.lemmas.List.{append_assoc}
use Rattle.dl_ir.specs.declared.answers.Entry.{Entry}
use Rattle.dl_ir.specs.declared.calls.Call.{Call}
use Rattle.dl_ir.specs.declared.modules.Module.{Module}
use Rattle.dl_ir.specs.declared.modules.OpDecl.{OpDecl}
use Rattle.dl_ir.specs.Cover.{call_at}
use Rattle.dl_ir.specs.Heap.{Objects, hidden_count}
use Rattle.dl_shape.specs.Operation.{operated}
use Rattle.dl_shape.specs.Pool.{ReturnsFit, allocs_at}
use Rattle.dl_shape.specs.Replay.{after_call, replayed, IsLegalFrom}
use Rattle.dl_shape.specs.Rising.{in_rising}
use Rattle.dl_core.specs.declared.stages.Finished.{Finished}
use Rattle.dl_core.specs.Core.{Shared, frame_of, entry_of}
use Rattle.dl_core.specs.Reached.{Calls, with_begun}
use Rattle.dl_order.specs.Serial.{finished_entries as told_by, history_of}
use Rattle.dl_core.specs.Sound.{numbers_from}
use Rattle.dl_core.proofs.Names.{same_number}
use Rattle.dl_core.proofs.Elements.{Each, each_map, each_rising, rising_more}
use Rattle.dl_lemmas.proofs.Places.{in_first}
use Rattle.std.proofs.lemmas.List.{map_push}

-- ---- more calls

-- a call of the one list of calls is that of the other
abbrev pub StandsIn : List (List Call) → List (List Call) → Type 0
StandsIn files more = (caller index : ℕ) (call : Call) → call_at files caller index ≡ Some call → call_at more caller index ≡ Some call

later_there : (files : List (List Call)) (place k i : ℕ) (new call : Call) → option_and_then (λ (calls : List Call). slice_get calls i) (slice_get files k) ≡ Some call
    → option_and_then (λ (calls : List Call). slice_get calls i) (slice_get (set files place (get_or files place [] ++ new ∷ [])) k) ≡ Some call
later_there [] place k i new call e = e
later_there (f ∷ files) zero zero i new call e = in_first f (new ∷ []) i call e
later_there (f ∷ files) zero (suc k) i new call e = e
later_there (f ∷ files) (suc place) zero i new call e = e
later_there (f ∷ files) (suc place) (suc k) i new call e = later_there files place k i new call e

-- a begin leaves the calls begun before
pub begun_stands : (calls : Calls) (caller : ℕ) (call : Call) → StandsIn calls (with_begun calls caller call)
begun_stands calls zero new caller index call e = e
begun_stands calls (suc place) new zero index call e = e
begun_stands calls (suc place) new (suc caller) zero call e = e
begun_stands calls (suc place) new (suc caller) (suc index) call e = later_there calls place caller index new call e

module _ (source : Module) (files more : List (List Call)) where
  abbrev IsAlike : Entry → Type 0
  IsAlike entry = call_at more entry.caller entry.index ≡ call_at files entry.caller entry.index

  pub legal_alike : {ticket : ℕ} {heap : Objects} {history : List Entry} → StandsIn files more → IsLegalFrom source files ticket heap history → Each IsAlike history
  legal_alike stands IsLegalFrom.ends = tt
  legal_alike stands (IsLegalFrom.goes_on {entry = entry} call is_ticket is_call is_answer legal) = (stands entry.caller entry.index call is_call ∙ sym is_call, legal_alike stands legal)

  pub legal_more : {ticket : ℕ} {heap : Objects} {history : List Entry} → StandsIn files more → IsLegalFrom source files ticket heap history → IsLegalFrom source more ticket heap history
  legal_more stands IsLegalFrom.ends = IsLegalFrom.ends
  legal_more stands (IsLegalFrom.goes_on {entry = entry} call is_ticket is_call is_answer legal) = IsLegalFrom.goes_on call is_ticket (stands entry.caller entry.index call is_call) is_answer (legal_more stands legal)

  pub replay_more : (heap : Objects) (history : List Entry) → Each IsAlike history → replayed source more heap history ≡ replayed source files heap history
  replay_more heap [] alike = refl
  replay_more heap (entry ∷ rest) alike =
      ap (λ o. replayed source more (after_call source heap entry.ticket o) rest) alike.0 ∙ replay_more (after_call source heap entry.ticket (call_at files entry.caller entry.index)) rest alike.1

  pub returns_more : {heap : Objects} {history : List Entry} → Each IsAlike history → ReturnsFit source files heap history → ReturnsFit source more heap history
  returns_more alike ReturnsFit.ends = ReturnsFit.ends
  returns_more alike (ReturnsFit.goes_on {heap = heap} {entry = entry} {rest = rest} fits back) =
      ReturnsFit.goes_on
      (subst (λ (o : Option Call). option_map_or (λ (op : OpDecl). op.allocs) (option_and_then (λ (call : Call). slice_get source.ops call.op) o) 0 + hidden_count heap ≡ entry.returned + hidden_count (after_call source heap entry.ticket o)) (sym alike.0) fits)
      (subst (λ (o : Option Call). ReturnsFit source more (after_call source heap entry.ticket o) rest) (sym alike.0) (returns_more alike.1 back))

-- ---- one entry more

module _ (source : Module) (files : List (List Call)) where
  pub replay_push : (heap : Objects) (history : List Entry) (entry : Entry) → replayed source files heap (history ++ entry ∷ []) ≡ after_call source (replayed source files heap history) entry.ticket (call_at files entry.caller entry.index)
  replay_push heap [] entry = refl
  replay_push heap (first ∷ rest) entry = replay_push (after_call source heap first.ticket (call_at files first.caller first.index)) rest entry

  pub legal_push : {ticket : ℕ} {heap : Objects} {history : List Entry} (entry : Entry) (call : Call) → IsLegalFrom source files ticket heap history → entry.ticket ≡ ticket + length history
      → call_at files entry.caller entry.index ≡ Some call → entry.answer ≡ (operated source (replayed source files heap history) entry.ticket call).answer → IsLegalFrom source files ticket heap (history ++ entry ∷ [])
  legal_push {ticket = ticket} {heap = heap} entry call IsLegalFrom.ends at is answer =
      let same : entry.ticket ≡ ticket = at ∙ omega arith in
      IsLegalFrom.goes_on call same is (answer ∙ ap (λ t. (operated source heap t call).answer) same) IsLegalFrom.ends
  legal_push {ticket = ticket} {heap = heap} entry call (IsLegalFrom.goes_on {entry = first} {rest = rest} before is_ticket is_call is_answer legal) at is answer =
      let step : after_call source heap first.ticket (call_at files first.caller first.index) ≡ (operated source heap ticket before).objects = ap₂ (after_call source heap) is_ticket is_call in
      IsLegalFrom.goes_on before is_ticket is_call is_answer
      (legal_push entry call legal (omega (arith, at)) is (answer ∙ ap (λ h. (operated source (replayed source files h rest) entry.ticket call).answer) step))

  pub returns_push : {heap : Objects} {history : List Entry} (entry : Entry) → ReturnsFit source files heap history
      → allocs_at source files entry.caller entry.index + hidden_count (replayed source files heap history)
      ≡ entry.returned + hidden_count (after_call source (replayed source files heap history) entry.ticket (call_at files entry.caller entry.index))
      → ReturnsFit source files heap (history ++ entry ∷ [])
  returns_push entry ReturnsFit.ends fits = ReturnsFit.goes_on fits ReturnsFit.ends
  returns_push entry (ReturnsFit.goes_on first back) fits = ReturnsFit.goes_on first (returns_push entry back fits)

  -- the tickets of a legal history
  pub legal_tickets : {ticket : ℕ} {heap : Objects} {history : List Entry} → IsLegalFrom source files ticket heap history → Each (λ (entry : Entry). entry.ticket < ticket + length history) history
  legal_tickets IsLegalFrom.ends = tt
  legal_tickets {ticket = ticket} (IsLegalFrom.goes_on {entry = first} {rest = rest} before is_ticket is_call is_answer legal) =
      (omega (arith, is_ticket), each_map (λ (entry : Entry). entry.ticket < ticket + 1 + length rest) (λ (entry : Entry). entry.ticket < ticket + length (first ∷ rest)) rest (λ entry lt. omega (arith, lt)) (legal_tickets legal))

-- ---- the history of a world

-- an operation that a caller has finished, versions left aside
abbrev pub told : ℕ → Finished → Entry
told caller kept = entry_of caller (kept, record { reserved_at = 0; returned_at = 0 })

pub same_pieces : {X Y : Type 0} (f g : X → List Y) (xs : List X) → ((x : X) → f x ≡ g x) → flat_map f xs ≡ flat_map g xs
same_pieces f g [] same = refl
same_pieces f g (x ∷ xs) same = ap₂ (λ a b. a ++ b) (same x) (same_pieces f g xs same)

pub history_stays : (world after : Shared) → length after.frames ≡ length world.frames → ((caller : ℕ) → (frame_of after caller).finished ≡ (frame_of world caller).finished) → history_of after ≡ history_of world
history_stays world after long same =
    ap (in_rising (λ (entry : Entry). entry.ticket))
    (ap (λ n. flat_map (told_by after) (numbers_from 1 n)) long
    ∙ same_pieces (told_by after) (told_by world) (numbers_from 1 (length world.frames)) (λ caller. ap (map (told caller)) (same caller)))

-- a list of pieces in which one piece has got one element more
record HasMore {Y : Type 0} (was is : List Y) (new : Y) : Type 0 where
  before : List Y
  behind : List Y
  was_is : was ≡ before ++ behind
  is_now : is ≡ before ++ new ∷ behind

module _ {Y : Type 0} (f g : ℕ → List Y) (at : ℕ) (new : Y) (here : g at ≡ f at ++ new ∷ []) (there : (n : ℕ) → n ≢ at → g n ≡ f n) where
  pieces_past : (first count : ℕ) → at < first → flat_map g (numbers_from first count) ≡ flat_map f (numbers_from first count)
  pieces_past first zero lt = refl
  pieces_past first (suc count) lt = ap₂ (λ a b. a ++ b) (there first (λ same. omega arith)) (pieces_past (first + 1) count (omega arith))

  pieces_more : (first count : ℕ) → first ≤ at → at < first + count → HasMore (flat_map f (numbers_from first count)) (flat_map g (numbers_from first count)) new
  pieces_more first zero low high = absurd (omega arith)
  pieces_more first (suc count) low high = elim (same_number first at) [
    | inl same ↦ record {
      before = f first;
      behind = flat_map f (numbers_from (first + 1) count);
      was_is = refl;
      is_now =
          ap₂ (λ a b. a ++ b) (ap g same ∙ here ∙ ap (λ n. f n ++ new ∷ []) (sym same)) (pieces_past (first + 1) count (omega arith))
          ∙ append_assoc (f first) (new ∷ []) (flat_map f (numbers_from (first + 1) count));
    }
    | inr other ↦
        let on = pieces_more (first + 1) count (below first at low other) (omega arith) in
        record {
          before = f first ++ on.before;
          behind = on.behind;
          was_is = ap (λ l. f first ++ l) on.was_is ∙ sym (append_assoc (f first) on.before on.behind);
          is_now = ap₂ (λ a b. a ++ b) (there first other) on.is_now ∙ sym (append_assoc (f first) on.before (new ∷ on.behind));
        }
  ]
    where
      below : (a b : ℕ) → a ≤ b → a ≢ b → a + 1 ≤ b
      below a b le n = omega (arith, n)

-- a caller has finished one operation more, whose ticket is above those of the history
pub history_pushes : (world after : Shared) (caller : ℕ) (kept : Finished) → length after.frames ≡ length world.frames → 0 < caller → caller ≤ length world.frames
    → (frame_of after caller).finished ≡ (frame_of world caller).finished ++ kept ∷ [] → ((other : ℕ) → other ≢ caller → (frame_of after other).finished ≡ (frame_of world other).finished)
    → Each (λ (entry : Entry). entry.ticket < kept.ticket) (history_of world) → history_of after ≡ history_of world ++ told caller kept ∷ []
history_pushes world after caller kept long low high here there below =
    let more = pieces_more (told_by world) (told_by after) caller (told caller kept) (ap (map (told caller)) here ∙ map_push (told caller) (frame_of world caller).finished kept)
    (λ n other. ap (map (told n)) (there n other)) 1 (length world.frames) low (omega arith) in
    let under : Each (λ (entry : Entry). entry.ticket < kept.ticket) (more.before ++ more.behind)
    = subst (Each (λ (entry : Entry). entry.ticket < kept.ticket)) more.was_is
    (each_rising (λ (entry : Entry). entry.ticket) (λ (entry : Entry). entry.ticket < kept.ticket) (flat_map (told_by world) (numbers_from 1 (length world.frames))) below) in
    ap (λ n. in_rising (λ (entry : Entry). entry.ticket) (flat_map (told_by after) (numbers_from 1 n))) long
    ∙ ap (in_rising (λ (entry : Entry). entry.ticket)) more.is_now
    ∙ rising_more (λ (entry : Entry). entry.ticket) (told caller kept) more.before more.behind under
    ∙ ap (λ l. in_rising (λ (entry : Entry). entry.ticket) l ++ told caller kept ∷ []) (sym more.was_is)

-- where nobody has finished anything the history is empty
pub history_none : (world : Shared) → ((caller : ℕ) → (frame_of world caller).finished ≡ []) → history_of world ≡ []
history_none world none = ap (in_rising (λ (entry : Entry). entry.ticket)) (by (numbers_from 1 (length world.frames)))
  where
    by : (callers : List ℕ) → flat_map (told_by world) callers ≡ []
    by [] = refl
    by (caller ∷ callers) = ap₂ (λ a b. a ++ b) (ap (map (told caller)) (none caller)) (by callers)
