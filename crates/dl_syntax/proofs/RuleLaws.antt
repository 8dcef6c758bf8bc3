-- What lines say by the rules is what the function gives.
use Rattle.std.proofs.Common.{◌≡◌, ◌≢◌, ℕ, ◌+◌, ◌<◌, Bool, true, false, List, [], ◌∷◌, length, refl, sym, ap, subst, ◌∙◌, inl, inr, arith, MatchOption}
use Rattle.std.specs.Prelude.{Option, Some, None, Result, Ok, Err, IfOk, IfErr, ℤ, slice_get, find, nat_le, ◌==◌, if◌then◌else◌}
use Rattle.std.specs.List.{AllByRecursion}
use Rattle.std.proofs.lemmas.Bool.Decides.{nat_tests}
use Rattle.dl_ir.specs.declared.calls.Call.{Call}
use Rattle.dl_ir.specs.declared.modules.Module.{Module}
use Rattle.dl_ir.specs.declared.modules.OpDecl.{OpDecl}
use Rattle.dl_syntax.specs.declared.calls.CallsFault.{CallsFault}
use Rattle.dl_syntax.specs.declared.calls.CallsFault.TheVariants.{NotAscii, BadByte, TooMany, ArgCount, NoRoot, Memory}
use Rattle.dl_syntax.specs.Line.{is_wrong, lines_of, words_of, before_comment, numbers_of}
use Rattle.dl_syntax.specs.Calls.{all_fit, call_with, call_of_op, op_named, call_of_found, call_of_words, call_unless_wrong, call_of_line, after_line, calls_from, Gives}
use Rattle.dl_syntax.specs.Rules.{MayStand, IsFirstWrong, HasWords, IsNamed, IsUnnamed, Say, SomeSaysNone, Says, with_call, LinesSay, IsCallsFile, IsCallsFault}
use Rattle.dl_syntax.proofs.CallsAreOf.{fits_all}
use Rattle.dl_syntax.proofs.RuleLemmas.{find_tells, none_wrong, first_wrong, op_tells, none_named, one_named, numbers_tell, numbers_said, none_said, say_long, all_fitting, fit_long, false_or}

-- ---- each line says what the function gives of it
module _ (source : Module) (line before : ℕ) (text : List ℕ) where
  wrong_byte : (b : ℕ) (v : Bool) → nat_le 128 b ≡ v → IsFirstWrong text b → Says source line before text (Err (if v then NotAscii line else BadByte line))
  wrong_byte b true is wrong = Says.not_ascii wrong (grind (arith, nat_tests))
  wrong_byte b false is wrong = Says.bad_byte wrong (grind (arith, nat_tests))

  module _ (name : List ℕ) (words : List (List ℕ)) (has : HasWords text (name ∷ words)) (room : before < 65536) where
    module _ (op : ℕ) (decl : OpDecl) (is : IsNamed source name op decl) where
      on_fit : (ns : List ℤ) (v : Bool) → all_fit source decl.params ns ≡ v → length words ≡ length decl.params → Say words ns
          → Says source line before text (if v then Ok (Some (record { op = op; args = ns })) else Err (NoRoot line))
      on_fit ns true fit same say = Says.one_call has room is say (fits_all source decl.params ns fit)
      on_fit ns false fit same say = Says.no_root ns has room is same say (λ all. let yes = all_fitting source decl.params ns all in absurd cc)

      on_numbers : (o : Option (List ℤ)) → MatchOption o (SomeSaysNone words) (Say words) → length words ≡ length decl.params
          → Says source line before text (call_with source line op decl.params o)
      on_numbers None there same = Says.not_number has room is same there
      on_numbers (Some ns) there same = on_fit ns (all_fit source decl.params ns) refl same there

      on_count : (v : Bool) → (length words == length decl.params) ≡ v
          → Says source line before text (if v then call_with source line op decl.params (numbers_of words) else Err (ArgCount line))
      on_count true same = on_numbers (numbers_of words) (numbers_tell words) (grind (arith, nat_tests))
      on_count false differ = Says.arg_count has room is (λ (same : length words ≡ length decl.params). grind (arith, nat_tests))

      on_decl : (o : Option OpDecl) → slice_get source.ops op ≡ o → Says source line before text (call_of_op source line words op o)
      on_decl None there = let t = is.there in absurd cc
      on_decl (Some other) there =
          let same : decl ≡ other = let t = is.there in cc in
          subst (λ (d : OpDecl). Says source line before text (call_of_op source line words op (Some d))) same (on_count (length words == length decl.params) refl)

    on_op : (o : Option ℕ) → MatchOption o (IsUnnamed source name) (λ op. (decl : OpDecl) × IsNamed source name op decl) → Says source line before text (call_of_found source line words o)
    on_op None there = Says.no_op has room there
    on_op (Some op) there = on_decl op there.0 there.1 (slice_get source.ops op) refl

  on_room : (name : List ℕ) (words : List (List ℕ)) (v : Bool) → nat_le 65536 before ≡ v → HasWords text (name ∷ words)
      → Says source line before text (if v then Err (TooMany line) else call_of_found source line words (op_named source name))
  on_room name words true full has = Says.too_many has (grind (arith, nat_tests))
  on_room name words false room has = on_op name words has (grind (arith, nat_tests)) (op_named source name) (op_tells source name)

  on_words : (words : List (List ℕ)) → HasWords text words → Says source line before text (call_of_words source line before words)
  on_words [] has = Says.nothing has
  on_words (name ∷ words) has = on_room name words (nat_le 65536 before) refl has

  on_bytes : (o : Option ℕ) → MatchOption o (AllByRecursion MayStand text) (IsFirstWrong text) → Says source line before text (call_unless_wrong source line before text o)
  on_bytes (Some b) wrong = wrong_byte b (nat_le 128 b) refl wrong
  on_bytes None clean = on_words (words_of (before_comment text)) (record { clean = clean; has = refl })

  pub line_says : Says source line before text (call_of_line source line before text)
  line_says = on_bytes (find is_wrong text) (find_tells text)

  -- ---- and nothing else
  with_words : (words : List (List ℕ)) → HasWords text words → call_of_line source line before text ≡ call_of_words source line before words
  with_words words has = ap (call_unless_wrong source line before text) (none_wrong text has.clean) ∙ ap (call_of_words source line before) has.has

  with_room : (name : List ℕ) (words : List (List ℕ)) → HasWords text (name ∷ words) → before < 65536
      → call_of_line source line before text ≡ call_of_found source line words (op_named source name)
  with_room name words has room =
      let no : nat_le 65536 before ≡ false = grind (arith, nat_tests) in
      with_words (name ∷ words) has ∙ ap (λ v. if v then Err (TooMany line) else call_of_found source line words (op_named source name)) no

  with_op : (name : List ℕ) (words : List (List ℕ)) (op : ℕ) (decl : OpDecl) → HasWords text (name ∷ words) → before < 65536 → IsNamed source name op decl
      → call_of_line source line before text ≡ (if length words == length decl.params then call_with source line op decl.params (numbers_of words) else Err (ArgCount line))
  with_op name words op decl has room is =
      with_room name words has room ∙ ap (call_of_found source line words) (one_named source name (op_named source name) op decl (op_tells source name) is)
      ∙ ap (call_of_op source line words op) is.there

  with_count : (name : List ℕ) (words : List (List ℕ)) (op : ℕ) (decl : OpDecl) → HasWords text (name ∷ words) → before < 65536 → IsNamed source name op decl
      → length words ≡ length decl.params → call_of_line source line before text ≡ call_with source line op decl.params (numbers_of words)
  with_count name words op decl has room is same =
      let yes : (length words == length decl.params) ≡ true = grind (arith, nat_tests) in
      with_op name words op decl has room is ∙ ap (λ v. if v then call_with source line op decl.params (numbers_of words) else Err (ArgCount line)) yes

  with_numbers : (name : List ℕ) (words : List (List ℕ)) (op : ℕ) (decl : OpDecl) (ns : List ℤ) → HasWords text (name ∷ words) → before < 65536 → IsNamed source name op decl
      → length words ≡ length decl.params → Say words ns
      → call_of_line source line before text ≡ (if all_fit source decl.params ns then Ok (Some (record { op = op; args = ns })) else Err (NoRoot line))
  with_numbers name words op decl ns has room is same say =
      with_count name words op decl has room is same ∙ ap (call_with source line op decl.params) (numbers_said words ns say)

  pub says_line : (r : Result (Option Call) CallsFault) → Says source line before text r → call_of_line source line before text ≡ r
  says_line r (Says.nothing has) = with_words [] has
  says_line r (Says.one_call {name = name} {words = words} {op = op} {decl = decl} {numbers = ns} has room is say all) =
      let same : length words ≡ length decl.params = say_long words ns say ∙ sym (fit_long source decl.params ns all) in
      with_numbers name words op decl ns has room is same say
      ∙ ap (λ v. if v then Ok (Some (record { op = op; args = ns })) else Err (NoRoot line)) (all_fitting source decl.params ns all)
  says_line r (Says.not_ascii {b = b} wrong high) =
      let yes : nat_le 128 b ≡ true = grind (arith, nat_tests) in
      ap (call_unless_wrong source line before text) (first_wrong text b wrong) ∙ ap (λ v. Err (if v then NotAscii line else BadByte line)) yes
  says_line r (Says.bad_byte {b = b} wrong low) =
      let no : nat_le 128 b ≡ false = grind (arith, nat_tests) in
      ap (call_unless_wrong source line before text) (first_wrong text b wrong) ∙ ap (λ v. Err (if v then NotAscii line else BadByte line)) no
  says_line r (Says.too_many {name = name} {words = words} has full) =
      let yes : nat_le 65536 before ≡ true = grind (arith, nat_tests) in
      with_words (name ∷ words) has ∙ ap (λ v. if v then Err (TooMany line) else call_of_found source line words (op_named source name)) yes
  says_line r (Says.no_op {name = name} {words = words} has room none) =
      with_room name words has room ∙ ap (call_of_found source line words) (none_named source name (op_named source name) (op_tells source name) none)
  says_line r (Says.arg_count {name = name} {words = words} {op = op} {decl = decl} has room is differ) =
      let no : (length words == length decl.params) ≡ false = false_or _ (λ (yes : (length words == length decl.params) ≡ true). differ (grind (arith, nat_tests))) in
      with_op name words op decl has room is ∙ ap (λ v. if v then call_with source line op decl.params (numbers_of words) else Err (ArgCount line)) no
  says_line r (Says.not_number {name = name} {words = words} {op = op} {decl = decl} has room is same none) =
      with_count name words op decl has room is same ∙ ap (call_with source line op decl.params) (none_said words (numbers_of words) (numbers_tell words) none)
  says_line r (Says.no_root {name = name} {words = words} {op = op} {decl = decl} ns has room is same say never) =
      let no : all_fit source decl.params ns ≡ false = false_or _ (λ (yes : all_fit source decl.params ns ≡ true). never (fits_all source decl.params ns yes)) in
      with_numbers name words op decl ns has room is same say
      ∙ ap (λ v. if v then Ok (Some (record { op = op; args = ns })) else Err (NoRoot line)) no

-- ---- lines
module _ (source : Module) (outcome : Result (List Call) CallsFault) where
  says_rest : (line : ℕ) (calls : List Call) (text : List ℕ) (rest : List (List ℕ)) (r : Result (Option Call) CallsFault) → Says source line (length calls) text r
      → ((next : List Call) → calls_from source (line + 1) next rest ≡ outcome → LinesSay source (line + 1) next rest outcome)
      → after_line calls r (λ next. calls_from source (line + 1) next rest) ≡ outcome → LinesSay source line calls (text ∷ rest) outcome
  says_rest line calls text rest (Err fault) says more is = inl (fault, says, sym is)
  says_rest line calls text rest (Ok call) says more is = inr (call, says, more (with_call calls call) is)

  -- what the function gives of lines, they say
  pub lines_say : (line : ℕ) (calls : List Call) (lines : List (List ℕ)) → calls_from source line calls lines ≡ outcome → LinesSay source line calls lines outcome
  lines_say line calls [] is = sym is
  lines_say line calls (text ∷ rest) is =
      says_rest line calls text rest (call_of_line source line (length calls) text) (line_says source line (length calls) text)
      (λ next from. lines_say (line + 1) next rest from) is

  -- and nothing else
  pub say_lines : (line : ℕ) (calls : List Call) (lines : List (List ℕ)) → LinesSay source line calls lines outcome → calls_from source line calls lines ≡ outcome
  say_lines line calls [] is = sym is
  say_lines line calls (text ∷ rest) (inl (fault, says, is)) =
      ap (λ r. after_line calls r (λ next. calls_from source (line + 1) next rest)) (says_line source line (length calls) text (Err fault) says) ∙ sym is
  say_lines line calls (text ∷ rest) (inr (call, says, more)) =
      ap (λ r. after_line calls r (λ next. calls_from source (line + 1) next rest)) (says_line source line (length calls) text (Ok call) says)
      ∙ say_lines (line + 1) (with_call calls call) rest more

-- a text says calls or has a fault, and one of these alone
pub one_outcome : (source : Module) (text : List ℕ) (a b : Result (List Call) CallsFault) → LinesSay source 1 [] (lines_of text) a → LinesSay source 1 [] (lines_of text) b → a ≡ b
one_outcome source text a b says_a says_b = sym (say_lines source a 1 [] (lines_of text) says_a) ∙ say_lines source b 1 [] (lines_of text) says_b

-- what a reader that gives the outcome answers, the text says
pub gives_said : (source : Module) (text : List ℕ) (result : Result (List Call) CallsFault) → Gives (calls_from source 1 [] (lines_of text)) result → IfOk result (IsCallsFile source text)
gives_said source text (Ok calls) gives = lines_say source (Ok calls) 1 [] (lines_of text) gives
gives_said source text (Err fault) gives = tt

pub gives_why : (source : Module) (text : List ℕ) (result : Result (List Call) CallsFault) → Gives (calls_from source 1 [] (lines_of text)) result
    → IfErr result (λ fault. fault ≢ Memory → IsCallsFault source text fault)
gives_why source text (Ok calls) gives = tt
gives_why source text (Err fault) gives = λ other. lines_say source (Err fault) 1 [] (lines_of text) (gives other)

-- a text has one fault, or says calls
pub one_calls_fault : (source : Module) (text : List ℕ) (a b : CallsFault) → IsCallsFault source text a → IsCallsFault source text b → a ≡ b
one_calls_fault source text a b is_a is_b = let same = one_outcome source text (Err a) (Err b) is_a is_b in cc

pub no_calls_fault : (source : Module) (text : List ℕ) (calls : List Call) (fault : CallsFault) → IsCallsFile source text calls → IsCallsFault source text fault → ⊥
no_calls_fault source text calls fault is at_fault = let same = one_outcome source text (Ok calls) (Err fault) is at_fault in cc
