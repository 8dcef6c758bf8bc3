-- What lines say by the rules is what the function gives.
use Rattle.std.proofs.Common.{◌≡◌, ◌≢◌, ℕ, ◌+◌, ◌≤◌, Bool, true, false, List, [], ◌∷◌, refl, sym, ap, subst, ◌∙◌, inl, inr, arith, MatchOption, lit≤}
use Rattle.std.specs.Prelude.{Option, Some, None, Result, Ok, Err, IfOk, IfErr, find, nat_le, if◌then◌else◌, All}
use Rattle.std.specs.List.{AllByRecursion}
use Rattle.std.proofs.lemmas.Bool.Decides.{nat_tests}
use Rattle.std.proofs.lemmas.List.Elements.{All-push}
use Rattle.dl_syntax.specs.Line.{is_wrong, lines_of, words_of, before_comment, digits_of}
use Rattle.dl_syntax.specs.Rules.{MayStand, IsFirstWrong, HasWords}
use Rattle.dl_syntax.proofs.RuleLemmas.{find_tells, none_wrong, first_wrong, false_or}
use Rattle.dl_schedule.specs.declared.give.Give.{Give}
use Rattle.dl_schedule.specs.declared.give.ScheduleFault.{ScheduleFault}
use Rattle.dl_schedule.specs.declared.give.ScheduleFault.TheVariants.{NotAscii, BadByte, BadStep, NoCaller, TooMany, Memory}
use Rattle.dl_schedule.specs.Rules.{steps_in, IsStep, IsCaller, Says, with_give, LinesSay, SpellsSchedule, IsScheduleFault, IsGiveOf, AreGivesOf}
use Rattle.dl_schedule.specs.Reading.{from_one_to, give_of_numbers, give_of_words, give_unless_wrong, give_of_line, after_line, gives_from, Gives, times_of}
use Rattle.dl_schedule.proofs.Steps.{steps_with}

-- ---- numbers in a range
pub range_tells : (most n : ℕ) → from_one_to most n ≡ true → (1 ≤ n) × (n ≤ most)
range_tells most n e = (grind (arith, nat_tests), grind (arith, nat_tests))

pub in_range : (most n : ℕ) → 1 ≤ n → n ≤ most → from_one_to most n ≡ true
in_range most n low high =
    let a : nat_le 1 n ≡ true = grind (arith, nat_tests) in
    let b : nat_le n most ≡ true = grind (arith, nat_tests) in
    rw (a, b) refl

out_of_range : (most n : ℕ) → (1 ≤ n → n ≤ most → ⊥) → from_one_to most n ≡ false
out_of_range most n never = false_or (from_one_to most n) (λ yes. let t = range_tells most n yes in never t.0 t.1)

caller_tells : (callers caller : ℕ) → from_one_to callers caller ≡ true → IsCaller callers caller
caller_tells callers caller e = let t = range_tells callers caller e in record { low = t.0; high = t.1 }

-- ---- each line says what the function gives of it
module _ (callers line before : ℕ) (text : List ℕ) where
  wrong_byte : (b : ℕ) (v : Bool) → nat_le 128 b ≡ v → IsFirstWrong text b → Says callers line before text (Err (if v then NotAscii line else BadByte line))
  wrong_byte b true is wrong = Says.not_ascii wrong (grind (arith, nat_tests))
  wrong_byte b false is wrong = Says.bad_byte wrong (grind (arith, nat_tests))

  module _ (first second : List ℕ) (has : HasWords text (first ∷ second ∷ [])) where
    -- two numbers that are no step
    no_step : (a b : Option ℕ) → digits_of first ≡ a → digits_of second ≡ b
        → ((caller times : ℕ) → a ≡ Some caller → b ≡ Some times → 1 ≤ times → times ≤ 1000000 → ⊥) → Says callers line before text (Err (BadStep line))
    no_step a b is_a is_b never = Says.bad_step has (λ caller times is.
        let are : first ∷ second ∷ [] ≡ is.first ∷ is.second ∷ [] = is.are in
        let one : first ≡ is.first = cc in
        let two : second ≡ is.second = cc in
        never caller times (sym is_a ∙ ap digits_of one ∙ is.caller_is) (sym is_b ∙ ap digits_of two ∙ is.times_is) is.some is.few)

    module _ (caller times : ℕ) (caller_is : digits_of first ≡ Some caller) (times_is : digits_of second ≡ Some times) where
      on_room : (v : Bool) → nat_le (before + times) 1000000 ≡ v → IsStep (first ∷ second ∷ []) caller times → IsCaller callers caller
          → Says callers line before text (if v then Ok (Some (record { caller = caller; times = times })) else Err (TooMany line))
      on_room true room step is = Says.one_give has step is (grind (arith, nat_tests))
      on_room false full step is = Says.too_many has step is (grind (arith, nat_tests))

      on_caller : (v : Bool) → from_one_to callers caller ≡ v → IsStep (first ∷ second ∷ []) caller times
          → Says callers line before text (if v then (if nat_le (before + times) 1000000 then Ok (Some (record { caller = caller; times = times })) else Err (TooMany line)) else Err (NoCaller line))
      on_caller true is step = on_room (nat_le (before + times) 1000000) refl step (caller_tells callers caller is)
      on_caller false none step = Says.no_caller has step (λ is. let yes = in_range callers caller is.low is.high in absurd cc)

      on_times : (v : Bool) → from_one_to 1000000 times ≡ v
          → Says callers line before text (if v then (if from_one_to callers caller then (if nat_le (before + times) 1000000 then Ok (Some (record { caller = caller; times = times })) else Err (TooMany line)) else Err (NoCaller line)) else Err (BadStep line))
      on_times true is = let t = range_tells 1000000 times is in on_caller (from_one_to callers caller) refl
          (record { first = first; second = second; are = refl; caller_is = caller_is; times_is = times_is; some = t.0; few = t.1 })
      on_times false none = no_step (Some caller) (Some times) caller_is times_is (λ c t _ same low high.
          let is : times ≡ t = cc in
          let yes = in_range 1000000 t low high in
          let no : from_one_to 1000000 t ≡ false = ap (from_one_to 1000000) (sym is) ∙ none in
          absurd cc)

    on_numbers : (a b : Option ℕ) → digits_of first ≡ a → digits_of second ≡ b → Says callers line before text (give_of_numbers callers line before a b)
    on_numbers (Some caller) (Some times) is_a is_b = on_times caller times is_a is_b (from_one_to 1000000 times) refl
    on_numbers (Some caller) None is_a is_b = no_step (Some caller) None is_a is_b (λ c t _ same _ _. absurd cc)
    on_numbers None b is_a is_b = no_step None b is_a is_b (λ c t same _ _ _. absurd cc)

  on_words : (words : List (List ℕ)) → HasWords text words → Says callers line before text (give_of_words callers line before words)
  on_words [] has = Says.nothing has
  on_words (first ∷ []) has = Says.bad_step has (λ caller times is. let are = is.are in absurd cc)
  on_words (first ∷ second ∷ []) has = on_numbers first second has (digits_of first) (digits_of second) refl refl
  on_words (first ∷ second ∷ word ∷ words) has = Says.bad_step has (λ caller times is. let are = is.are in absurd cc)

  on_bytes : (o : Option ℕ) → MatchOption o (AllByRecursion MayStand text) (IsFirstWrong text) → Says callers line before text (give_unless_wrong callers line before text o)
  on_bytes (Some b) wrong = wrong_byte b (nat_le 128 b) refl wrong
  on_bytes None clean = on_words (words_of (before_comment text)) (record { clean = clean; has = refl })

  pub line_says_so : Says callers line before text (give_of_line callers line before text)
  line_says_so = on_bytes (find is_wrong text) (find_tells text)

  -- ---- and nothing else
  with_words : (words : List (List ℕ)) → HasWords text words → give_of_line callers line before text ≡ give_of_words callers line before words
  with_words words has = ap (give_unless_wrong callers line before text) (none_wrong text has.clean) ∙ ap (give_of_words callers line before) has.has

  with_step : (words : List (List ℕ)) (caller times : ℕ) → HasWords text words → IsStep words caller times
      → give_of_line callers line before text ≡ (if from_one_to callers caller then (if nat_le (before + times) 1000000 then Ok (Some (record { caller = caller; times = times })) else Err (TooMany line)) else Err (NoCaller line))
  with_step words caller times has is =
      with_words words has ∙ ap (give_of_words callers line before) is.are
      ∙ ap (λ a. give_of_numbers callers line before a (digits_of is.second)) is.caller_is
      ∙ ap (give_of_numbers callers line before (Some caller)) is.times_is
      ∙ ap (λ v. if v then (if from_one_to callers caller then (if nat_le (before + times) 1000000 then Ok (Some (record { caller = caller; times = times })) else Err (TooMany line)) else Err (NoCaller line)) else Err (BadStep line)) (in_range 1000000 times is.some is.few)

  with_caller : (words : List (List ℕ)) (caller times : ℕ) → HasWords text words → IsStep words caller times → IsCaller callers caller
      → give_of_line callers line before text ≡ (if nat_le (before + times) 1000000 then Ok (Some (record { caller = caller; times = times })) else Err (TooMany line))
  with_caller words caller times has is who =
      with_step words caller times has is
      ∙ ap (λ v. if v then (if nat_le (before + times) 1000000 then Ok (Some (record { caller = caller; times = times })) else Err (TooMany line)) else Err (NoCaller line)) (in_range callers caller who.low who.high)

  -- words that are no step are a bad one
  bad_numbers : (first second : List ℕ) (a b : Option ℕ) → digits_of first ≡ a → digits_of second ≡ b → ((caller times : ℕ) → IsStep (first ∷ second ∷ []) caller times → ⊥)
      → give_of_numbers callers line before a b ≡ Err (BadStep line)
  bad_numbers first second (Some caller) (Some times) is_a is_b never =
      let no : from_one_to 1000000 times ≡ false = out_of_range 1000000 times (λ low high. never caller times
      (record { first = first; second = second; are = refl; caller_is = is_a; times_is = is_b; some = low; few = high })) in
      ap (λ v. if v then (if from_one_to callers caller then (if nat_le (before + times) 1000000 then Ok (Some (record { caller = caller; times = times })) else Err (TooMany line)) else Err (NoCaller line)) else Err (BadStep line)) no
  bad_numbers first second (Some caller) None is_a is_b never = refl
  bad_numbers first second None b is_a is_b never = refl

  bad_words : (word : List ℕ) (words : List (List ℕ)) → ((caller times : ℕ) → IsStep (word ∷ words) caller times → ⊥) → give_of_words callers line before (word ∷ words) ≡ Err (BadStep line)
  bad_words first [] never = refl
  bad_words first (second ∷ []) never = bad_numbers first second (digits_of first) (digits_of second) refl refl never
  bad_words first (second ∷ word ∷ words) never = refl

  pub says_line : (r : Result (Option Give) ScheduleFault) → Says callers line before text r → give_of_line callers line before text ≡ r
  says_line r (Says.nothing has) = with_words [] has
  says_line r (Says.one_give {words = words} {caller = caller} {times = times} has is who room) =
      let yes : nat_le (before + times) 1000000 ≡ true = grind (arith, nat_tests) in
      with_caller words caller times has is who
      ∙ ap (λ v. if v then Ok (Some (record { caller = caller; times = times })) else Err (TooMany line)) yes
  says_line r (Says.not_ascii {b = b} wrong high) =
      let yes : nat_le 128 b ≡ true = grind (arith, nat_tests) in
      ap (give_unless_wrong callers line before text) (first_wrong text b wrong) ∙ ap (λ v. Err (if v then NotAscii line else BadByte line)) yes
  says_line r (Says.bad_byte {b = b} wrong low) =
      let no : nat_le 128 b ≡ false = grind (arith, nat_tests) in
      ap (give_unless_wrong callers line before text) (first_wrong text b wrong) ∙ ap (λ v. Err (if v then NotAscii line else BadByte line)) no
  says_line r (Says.bad_step {word = word} {words = words} has never) = with_words (word ∷ words) has ∙ bad_words word words never
  says_line r (Says.no_caller {words = words} {caller = caller} {times = times} has is never) =
      let no : from_one_to callers caller ≡ false = out_of_range callers caller (λ low high. never (record { low = low; high = high })) in
      with_step words caller times has is
      ∙ ap (λ v. if v then (if nat_le (before + times) 1000000 then Ok (Some (record { caller = caller; times = times })) else Err (TooMany line)) else Err (NoCaller line)) no
  says_line r (Says.too_many {words = words} {caller = caller} {times = times} has is who full) =
      let no : nat_le (before + times) 1000000 ≡ false = grind (arith, nat_tests) in
      with_caller words caller times has is who
      ∙ ap (λ v. if v then Ok (Some (record { caller = caller; times = times })) else Err (TooMany line)) no

-- ---- lines
module _ (callers : ℕ) (outcome : Result (List Give) ScheduleFault) where
  says_rest : (line : ℕ) (gives : List Give) (text : List ℕ) (rest : List (List ℕ)) (r : Result (Option Give) ScheduleFault) → Says callers line (steps_in gives) text r
      → ((next : List Give) → gives_from callers (line + 1) next rest ≡ outcome → LinesSay callers (line + 1) next rest outcome)
      → after_line gives r (λ next. gives_from callers (line + 1) next rest) ≡ outcome → LinesSay callers line gives (text ∷ rest) outcome
  says_rest line gives text rest (Err fault) says more is = inl (fault, says, sym is)
  says_rest line gives text rest (Ok give) says more is = inr (give, says, more (with_give gives give) is)

  -- what the function gives of lines, they say
  pub lines_say : (line : ℕ) (gives : List Give) (lines : List (List ℕ)) → gives_from callers line gives lines ≡ outcome → LinesSay callers line gives lines outcome
  lines_say line gives [] is = sym is
  lines_say line gives (text ∷ rest) is =
      says_rest line gives text rest (give_of_line callers line (steps_in gives) text) (line_says_so callers line (steps_in gives) text)
      (λ next from. lines_say (line + 1) next rest from) is

  -- and nothing else
  pub say_lines : (line : ℕ) (gives : List Give) (lines : List (List ℕ)) → LinesSay callers line gives lines outcome → gives_from callers line gives lines ≡ outcome
  say_lines line gives [] is = sym is
  say_lines line gives (text ∷ rest) (inl (fault, says, is)) =
      ap (λ r. after_line gives r (λ next. gives_from callers (line + 1) next rest)) (says_line callers line (steps_in gives) text (Err fault) says) ∙ sym is
  say_lines line gives (text ∷ rest) (inr (give, says, more)) =
      ap (λ r. after_line gives r (λ next. gives_from callers (line + 1) next rest)) (says_line callers line (steps_in gives) text (Ok give) says)
      ∙ say_lines (line + 1) (with_give gives give) rest more

-- what a reader that gives the outcome answers, the text says
pub gives_said : (callers : ℕ) (text : List ℕ) (result : Result (List Give) ScheduleFault) → Gives (gives_from callers 1 [] (lines_of text)) result → IfOk result (SpellsSchedule callers text)
gives_said callers text (Ok gives) is = lines_say callers (Ok gives) 1 [] (lines_of text) is
gives_said callers text (Err fault) is = tt

pub gives_why : (callers : ℕ) (text : List ℕ) (result : Result (List Give) ScheduleFault) → Gives (gives_from callers 1 [] (lines_of text)) result
    → IfErr result (λ fault. fault ≢ Memory → IsScheduleFault callers text fault)
gives_why callers text (Ok gives) is = tt
gives_why callers text (Err fault) is = λ other. lines_say callers (Err fault) 1 [] (lines_of text) (is other)

-- ---- what is read is in range
none_given : (callers : ℕ) → All (IsGiveOf callers) []
none_given callers k give within = absurd (omega (arith, within))

-- what a line gives keeps within the greatest number of steps
room_left : (callers line before : ℕ) (text : List ℕ) (r : Result (Option Give) ScheduleFault) → before ≤ 1000000 → Says callers line before text r
    → IfOk r (λ give. before + times_of give ≤ 1000000)
room_left callers line before text r few (Says.nothing has) = omega arith
room_left callers line before text r few (Says.one_give has is who room) = room
room_left callers line before text r few (Says.not_ascii wrong high) = tt
room_left callers line before text r few (Says.bad_byte wrong low) = tt
room_left callers line before text r few (Says.bad_step has never) = tt
room_left callers line before text r few (Says.no_caller has is never) = tt
room_left callers line before text r few (Says.too_many has is who full) = tt

pub room_behind : (callers line before : ℕ) (text : List ℕ) (give : Option Give) → before ≤ 1000000 → give_of_line callers line before text ≡ Ok give → before + times_of give ≤ 1000000
room_behind callers line before text give few is =
    room_left callers line before text (Ok give) few (subst (Says callers line before text) is (line_says_so callers line before text))

module _ (callers : ℕ) where
  step_in_range : (gives : List Give) (line : ℕ) (text : List ℕ) (r : Result (Option Give) ScheduleFault) → AreGivesOf callers gives
      → Says callers line (steps_in gives) text r → IfOk r (λ give. AreGivesOf callers (with_give gives give))
  step_in_range gives line text r are (Says.nothing has) = are
  step_in_range gives line text r are (Says.one_give {caller = caller} {times = times} has is who room) =
      let give : Give = record { caller = caller; times = times } in
      record {
        each = All-push (IsGiveOf callers) gives give are.each (record { caller = who; some = is.some; few = is.few });
        few = (let same = steps_with gives (Some give) in omega (arith, same, room));
      }
  step_in_range gives line text r are (Says.not_ascii wrong high) = tt
  step_in_range gives line text r are (Says.bad_byte wrong low) = tt
  step_in_range gives line text r are (Says.bad_step has never) = tt
  step_in_range gives line text r are (Says.no_caller has is never) = tt
  step_in_range gives line text r are (Says.too_many has is who full) = tt

  lines_in_range : (out : List Give) (line : ℕ) (gives : List Give) (lines : List (List ℕ)) → AreGivesOf callers gives → LinesSay callers line gives lines (Ok out) → AreGivesOf callers out
  lines_in_range out line gives [] are is = let same : gives ≡ out = cc in subst (AreGivesOf callers) same are
  lines_in_range out line gives (text ∷ rest) are (inl (fault, says, is)) = absurd cc
  lines_in_range out line gives (text ∷ rest) are (inr (give, says, more)) =
      lines_in_range out (line + 1) (with_give gives give) rest (step_in_range gives line text (Ok give) are says) more

  pub spelled_in_range : (text : List ℕ) (result : Result (List Give) ScheduleFault) → IfOk result (SpellsSchedule callers text) → IfOk result (AreGivesOf callers)
  spelled_in_range text (Ok gives) says = lines_in_range gives 1 [] (lines_of text) (record { each = none_given callers; few = lit≤ tt }) says
  spelled_in_range text (Err fault) says = tt
