-- A pass that has run all that was begun on it, and runs one call more.
use Rattle.std.proofs.Common.{◌≡◌, ℕ, zero, suc, ◌+◌, ◌<◌, ◌≤◌, ◌==◌, ◌&&◌, Bool, cond, List, [], ◌∷◌, ◌++◌, length, length-append, refl, sym, ap, ◌∙◌, subst, arith, add-one, eq-eqb}
use Rattle.std.specs.Prelude.{slice_get, All}
use Rattle.std.proofs.lemmas.List.Elements.{All-push, All-weaker}
use Rattle.std.proofs.lemmas.List.Quantifiers.{all_pairs_push}
use Rattle.std.proofs.lemmas.Bool.{ne_eqb}
use Rattle.std.proofs.Math.Dec.{eqb-suc-suc}
use Rattle.dl_ir.specs.declared.answers.Entry.{Entry}
use Rattle.dl_ir.specs.declared.answers.Refusal.{Refusal}
use Rattle.dl_ir.specs.declared.calls.Call.{Call}
use Rattle.dl_ir.specs.Cover.{one_if_there}
use Rattle.dl_core.specs.Passes.{PassView, entries_in, refusals_in}
use Rattle.dl_machine.specs.declared.replies.Reply.{Reply}
use Rattle.dl_machine.specs.declared.replies.Reply.TheVariants.{Answered, NoRoom}
use Rattle.dl_machine.specs.Files.{call_in, Serves, HasServed}
use Rattle.dl_machine.specs.Replies.{Replies, HasRun}
use Rattle.dl_lemmas.proofs.Counts.{count-push}

no_test : (a b : ℕ) → (a ≡ b → ⊥) → cond {A = ℕ} (a == b) 1 0 ≡ 0
no_test a b apart = ap (λ (t : Bool). cond {A = ℕ} t 1 0) (ne_eqb a b apart)

-- 1 where the number is that, 0 elsewhere
abbrev one_at : ℕ → ℕ → ℕ
one_at n index = cond (n == index) 1 0

pushed_at : (calls : List Call) (call : Call) (place : ℕ) → one_if_there (slice_get (calls ++ call ∷ []) place) ≡ one_if_there (slice_get calls place) + one_at (length calls) place
pushed_at [] call zero = refl
pushed_at [] call (suc place) = sym (ap (λ (m : ℕ). 0 + m) (no_test 0 (suc place) (λ e. omega (arith, e))))
pushed_at (c ∷ calls) call zero = sym (ap (λ (m : ℕ). 1 + m) (no_test (suc (length calls)) 0 (λ e. omega (arith, e))))
pushed_at (c ∷ calls) call (suc place) =
    pushed_at calls call place ∙ ap (λ (t : Bool). one_if_there (slice_get calls place) + cond t 1 0) (sym (eqb-suc-suc (length calls) place))

pushed : (calls : List Call) (call : Call) (index : ℕ) → one_if_there (call_in (calls ++ call ∷ []) index) ≡ one_if_there (call_in calls index) + one_at (length calls + 1) index
pushed calls call zero = sym (ap (λ (m : ℕ). 0 + m) (no_test (length calls + 1) 0 (λ e. omega (arith, e))))
pushed calls call (suc place) = rw (add-one (length calls)) (pushed_at calls call place ∙ ap (λ (t : Bool). one_if_there (slice_get calls place) + cond t 1 0) (sym (eqb-suc-suc (length calls) place)))

same_test : (of_caller caller of_index index n : ℕ) → of_caller ≡ caller → of_index ≡ n → cond {A = ℕ} ((of_caller == caller) && (of_index == index)) 1 0 ≡ one_at n index
same_test of_caller caller of_index index n is_caller is_index =
    ap (λ (b : Bool). cond {A = ℕ} (b && (of_index == index)) 1 0) (eq-eqb of_caller caller is_caller) ∙ ap (λ (i : ℕ). cond {A = ℕ} (i == index) 1 0) is_index

module _ (caller front up : ℕ) (calls : List Call) (call : Call) (entries : List Entry) (refusals : List Refusal) (serves : Serves caller calls entries refusals front) (above : front ≤ up) where
  many : length (calls ++ call ∷ []) ≡ length calls + 1
  many = length-append calls (call ∷ [])

  indexes_on : All (λ (entry : Entry). entry.index ≤ length (calls ++ call ∷ [])) entries
  indexes_on = All-weaker (λ (entry : Entry). entry.index ≤ length calls) (λ (entry : Entry). entry.index ≤ length (calls ++ call ∷ [])) (λ entry within. omega (arith, many)) entries serves.indexes

  tickets_on : All (λ (entry : Entry). entry.ticket ≤ up) entries
  tickets_on = All-weaker (λ (entry : Entry). entry.ticket ≤ front) (λ (entry : Entry). entry.ticket ≤ up) (λ entry within. omega arith) entries serves.tickets

  answered_on : (entry : Entry) → entry.caller ≡ caller → entry.index ≡ length calls + 1 → front < entry.ticket → entry.ticket ≤ up
      → Serves caller (calls ++ call ∷ []) (entries ++ entry ∷ []) refusals up
  answered_on entry is_caller is_index drawn known = record {
    once = λ index.
        let old = serves.once index in
        let more = count-push (λ (d : Entry). (d.caller == caller) && (d.index == index)) entries entry in
        let same = same_test entry.caller caller entry.index index (length calls + 1) is_caller is_index in
        let there = pushed calls call index in
        omega (arith, old, more, same, there);
    own = All-push (λ (e : Entry). e.caller ≡ caller) entries entry serves.own is_caller;
    own_refusals = serves.own_refusals;
    indexes = All-push (λ (e : Entry). e.index ≤ length (calls ++ call ∷ [])) entries entry indexes_on (omega (arith, many, is_index));
    tickets = All-push (λ (e : Entry). e.ticket ≤ up) entries entry tickets_on known;
    rises = all_pairs_push (λ (earlier later : Entry). (earlier.index < later.index) × (earlier.ticket < later.ticket)) entries entry serves.rises
        (λ k d within. (omega (arith, serves.indexes k d within, is_index), omega (arith, serves.tickets k d within, drawn)));
  }

  refused_on : (refusal : Refusal) → refusal.caller ≡ caller → refusal.index ≡ length calls + 1 → Serves caller (calls ++ call ∷ []) entries (refusals ++ refusal ∷ []) up
  refused_on refusal is_caller is_index = record {
    once = λ index.
        let old = serves.once index in
        let more = count-push (λ (d : Refusal). (d.caller == caller) && (d.index == index)) refusals refusal in
        let same = same_test refusal.caller caller refusal.index index (length calls + 1) is_caller is_index in
        let there = pushed calls call index in
        omega (arith, old, more, same, there);
    own = serves.own;
    own_refusals = All-push (λ (r : Refusal). r.caller ≡ caller) refusals refusal serves.own_refusals is_caller;
    indexes = indexes_on;
    tickets = tickets_on;
    rises = serves.rises;
  }

-- the same, of what a pass has come to
moved_to : (caller caller' front : ℕ) (calls calls' : List Call) (entries entries' : List Entry) (refusals refusals' : List Refusal)
    → caller' ≡ caller → calls' ≡ calls → entries' ≡ entries → refusals' ≡ refusals → Serves caller calls entries refusals front → Serves caller' calls' entries' refusals' front
moved_to caller caller' front calls calls' entries entries' refusals refusals' same_caller same_calls same_entries same_refusals serves =
    subst (λ c. Serves c calls' entries' refusals' front) (sym same_caller)
    (subst (λ cs. Serves caller cs entries' refusals' front) (sym same_calls)
    (subst (λ es. Serves caller calls es refusals' front) (sym same_entries)
    (subst (λ rs. Serves caller calls entries rs front) (sym same_refusals) serves)))

pub served_on : (call : Call) (before after : PassView) (reply : Reply) → HasServed before → Replies call before reply after → HasServed after
served_on call before after (Answered entry) served is = record {
  idle = is.has_run.idle;
  serves = moved_to before.caller after.caller after.front (before.calls ++ call ∷ []) after.calls (entries_in before ++ entry ∷ []) (entries_in after) (refusals_in before) (refusals_in after)
      is.has_run.caller is.has_run.calls is.entries is.refusals
      (answered_on before.caller before.front after.front before.calls call (entries_in before) (refusals_in before) served.serves is.has_run.front entry is.caller is.index is.drawn is.front);
}
served_on call before after (NoRoom need found version) served is = record {
  idle = is.has_run.idle;
  serves = moved_to before.caller after.caller after.front (before.calls ++ call ∷ []) after.calls (entries_in before) (entries_in after) _ (refusals_in after)
      is.has_run.caller is.has_run.calls is.entries is.refusals
      (refused_on before.caller before.front after.front before.calls call (entries_in before) (refusals_in before) served.serves is.has_run.front
      (record { caller = before.caller; index = length before.calls + 1; need = need; found = found; version = version }) refl refl);
}

-- the pass has run one call more, whatever came of it
pub has_run : (call : Call) (before after : PassView) (reply : Reply) → Replies call before reply after → HasRun call before after
has_run call before after (Answered entry) is = is.has_run
has_run call before after (NoRoom need found version) is = is.has_run

-- a pass that has begun nothing has run all of that
pub serves_none : (caller front : ℕ) → Serves caller [] [] [] front
serves_none caller front = record {
  once = λ index. nothing_at index;
  own = λ k d within. absurd (omega arith);
  own_refusals = λ k d within. absurd (omega arith);
  indexes = λ k d within. absurd (omega arith);
  tickets = λ k d within. absurd (omega arith);
  rises = λ i j d before within. absurd (omega arith);
}
  where
    nothing_at : (index : ℕ) → 0 + 0 ≡ one_if_there (call_in [] index)
    nothing_at zero = refl
    nothing_at (suc place) = refl
