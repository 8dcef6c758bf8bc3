-- What reading the words needs: numbers in texts, the range of the option, and what the table of commands asks for.
use Rattle.std.proofs.Common.{◌≡◌, ◌≢◌, ◌∙◌, ℕ, ◌-◌, ◌^◌, ◌<◌, ◌≤◌, Bool, true, false, true≢false, List, [], ◌∷◌, length, map, Option, Some, None, Result, Ok, Err, IfOk, refl, sym, ap, subst, inl, inr, arith}
use Rattle.std.specs.Prelude.{codes, bytes_eq, is_some, option_map, option_and_then, slice_get, not, pos, unwrap_or, nat_lt, ◌&&◌}
use Rattle.std.specs.List.{All, slice_index_or}
use Rattle.std.specs.Borrow.{Bor}
use Rattle.std.specs.Str.Parse.{ParsesUnsigned, digits_value, without_leading_plus}
use Rattle.std.proofs.lemmas.Bool.{cases_lt, eqb-true, ltb-false, not-true}
use Rattle.std.proofs.lemmas.List.{get_or-map, length-map}
use Rattle.std.proofs.lemmas.List.Elements.{All-cons, All-nil, All-get_or}
use Rattle.std.proofs.lemmas.Result.{IfOk-weaker}
use Rattle.std.proofs.lemmas.Slice.Eq.{bytes_eq-Decides}
use Rattle.clap.specs.Built.{IsAuto, IsParsedFrom, SameRules}
use Rattle.clap.specs.Facts.{Entry, EntryPasses, HasReading, PassesArg, args_of, groups_of, parser_of, parser_of_value}
use Rattle.clap.specs.Lexer.{without_minus}
use Rattle.clap.specs.Kinds.{HasKind, IsAmong, Kinds}
use Rattle.clap.specs.Faults.{fault_of, is_simple_and_free}
use Rattle.clap.specs.Matches.{ReadsOne, found_of, matched_of, one_text}
use Rattle.clap.specs.Simple.{App, HasMatchesOf, app_of, is_simple, matches_of}
use Rattle.clap.specs.Values.{Accepts, IsSignedIn, kind_of, read_as, reading_of}
use Rattle.clap.specs.ValueTests.{is_unsigned_in}
use Rattle.clap.specs.Walk.{Row, Rule, all_of, first_of, is_empty, one_of, rows_of, rule_of}
use Rattle.clap.specs.declared.builder.arg.Arg.{Arg}
use Rattle.clap.specs.declared.builder.command.Command.{Command}
use Rattle.clap.specs.declared.builder.command.Command.TheViews.{out-Command}
use Rattle.clap.specs.declared.builder.value_parser.Reading.{Reading}
use Rattle.clap.specs.declared.builder.value_parser.Reading.TheVariants as readings
use Rattle.clap.specs.declared.builder.value_parser.ValueParser.{ValueParser}
use Rattle.clap.specs.declared.builder.value_parser.ValueParser.TheVariants as parsers
use Rattle.clap.specs.declared.parser.matches.ArgMatches.{ArgMatches}
use Rattle.clap.specs.declared.parser.matches.MatchedArg.{MatchedArg}
use Rattle.clap.proofs.CallerLemmas.{entry_by_id}
use Rattle.clap.proofs.CallerReads.{signed_reads}
use Rattle.clap.proofs.ValueTestLemmas.{accepts-Accepts, Accepts-accepts}
use Rattle.clap.proofs.WalkLemmas.{both, one_text-rows}
use Rattle.clap.specs.declared.error.Error.{Error}
use Rattle.clap.specs.declared.error.kind.ErrorKind.TheVariants as kinds
use Rattle.dl_command.specs.Words.{Line, MayHave, Request, Bytes, command_line, command_rule, first_rule, heap_rule, line_of_matches, number_of, places_parser, places_rule, rest_rule, rules, request_by, request_of, request_of_line, request_of_matches, request_of_words}
use Rattle.dl_command.specs.declared.words.Command.{Command as Held}
use Rattle.dl_command.specs.declared.words.CommandRow.{CommandRow}
use Rattle.dl_command.specs.declared.words.Verb.TheVariants as verbs
use Rattle.dl_command.specs.declared.words.WordsFault.{WordsFault}

-- the numbers of 32 bits
abbrev numbers : ValueParser
numbers = parsers.Unsigned 0 (2 ^ 32 - 1)

-- what a number is read of a text is the number that the text says
pub read_number : {E : Type 0} (G : List ℕ → Result ℕ E → Type 0) (t : Bytes) (o : Option ℕ) → ReadsOne G t o
    → ((u : List ℕ) (x : Result ℕ E) → G u x → ParsesUnsigned 32 10 u x) → o ≡ number_of t
read_number G t (Some n) read only =
    let h = only t (Ok n) read in
    let value : n ≡ digits_value 10 (without_leading_plus t) = h.1 in
    let small = h.0.1 in
    let passes : is_unsigned_in 0 (2 ^ 32 - 1) t ≡ true = Accepts-accepts false numbers t (h.0.0, omega (arith, small), omega arith, omega (arith, small)) in
    rw passes (ap (λ v. Some v) value)
read_number G t None read only = go (is_unsigned_in 0 (2 ^ 32 - 1) t) refl
  where
    go : (b : Bool) → is_unsigned_in 0 (2 ^ 32 - 1) t ≡ b → None ≡ number_of t
    go false e = rw e refl
    go true e =
        let a = accepts-Accepts false numbers t e in
        let most = a.3 in
        absurd (only t (Err read.0) read.1 (a.0, omega (arith, most)))

-- the number that an option's text says, where it has one
pub number_read : (text : Option Bytes) (o : Option ℕ) → (text ≡ None → o ≡ None) → ((t : Bytes) → text ≡ Some t → o ≡ number_of t)
    → o ≡ option_and_then number_of text
number_read None o none value = none refl
number_read (Some t) o none value = value t refl

-- a text that says a number is read as it
said_number : (t : Bytes) (n : ℕ) → number_of t ≡ Some n → ParsesUnsigned {E = Unit {0}} 32 10 t (Ok n)
said_number t n said = go (is_unsigned_in 0 (2 ^ 32 - 1) t) refl
  where
    go : (b : Bool) → is_unsigned_in 0 (2 ^ 32 - 1) t ≡ b → ParsesUnsigned {E = Unit {0}} 32 10 t (Ok n)
    go false e =
        let none : None ≡ Some n = rw e at said in
        absurd (cc)
    go true e =
        let a = accepts-Accepts false numbers t e in
        let most = a.3 in
        let same : Some (digits_value 10 (without_leading_plus t)) ≡ Some n = rw e at said in
        ((a.0, omega (arith, most)), cc)

empty_is : {X : Type 0} (xs : List X) → is_empty xs ≡ true → xs ≡ []
empty_is [] e = refl
empty_is (x ∷ xs) e = let none = eqb-true _ _ e in absurd (omega (arith, none))

not_both : {P : Type 0} (b : Bool) → b ≡ false → b ≡ true → P
not_both b is_false is_true = absurd (true≢false (sym is_true ∙ is_false))

-- what holds of the rules of all arguments holds of each argument's rule
all_rules : (P : Rule → Type 0) (xs : List Arg) → All P (map rule_of xs) → All (λ a. P (rule_of a)) xs
all_rules P xs all k d lt =
    subst P (get_or-map rule_of xs k d (rule_of d) lt) (all k (rule_of d) (rw (length-map xs rule_of) lt))

-- what holds of the rules holds of the rule of each argument of the command line
each_rule : (P : Rule → Type 0) (line : Command) → app_of line ≡ command_line → All P rules → All (λ a. P (rule_of a)) (args_of line)
each_rule P line shape all =
    let same : map rule_of (args_of line) ≡ rules = ap (λ (a : App). a.top.rules) shape in
    all_rules P (args_of line) (subst (All P) (sym same) all)

-- an argument of the option's name has the option's numbers
abbrev HasNumbers : Rule → Type 0
HasNumbers rule = bytes_eq rule.id (codes "places") ≡ true → rule.parser ≡ Some places_parser

all_numbers : All HasNumbers rules
all_numbers =
    All-cons HasNumbers command_rule (first_rule ∷ rest_rule ∷ places_rule ∷ heap_rule ∷ []) (λ e. not_both (bytes_eq (codes "COMMAND") (codes "places")) refl e)
    (All-cons HasNumbers first_rule (rest_rule ∷ places_rule ∷ heap_rule ∷ []) (λ e. not_both (bytes_eq (codes "FIRST") (codes "places")) refl e)
    (All-cons HasNumbers rest_rule (places_rule ∷ heap_rule ∷ []) (λ e. not_both (bytes_eq (codes "REST") (codes "places")) refl e)
    (All-cons HasNumbers places_rule (heap_rule ∷ []) (λ e. refl)
    (All-cons HasNumbers heap_rule [] (λ e. not_both (bytes_eq (codes "heap") (codes "places")) refl e) (All-nil HasNumbers)))))

abbrev IsPlainRule : Rule → Type 0
IsPlainRule rule = rule.is_simple ≡ true

all_plain : All IsPlainRule rules
all_plain =
    All-cons IsPlainRule command_rule (first_rule ∷ rest_rule ∷ places_rule ∷ heap_rule ∷ []) refl
    (All-cons IsPlainRule first_rule (rest_rule ∷ places_rule ∷ heap_rule ∷ []) refl
    (All-cons IsPlainRule rest_rule (places_rule ∷ heap_rule ∷ []) refl
    (All-cons IsPlainRule places_rule (heap_rule ∷ []) refl
    (All-cons IsPlainRule heap_rule [] refl (All-nil IsPlainRule)))))

module _ (line : Command) (m : ArgMatches) (shape : app_of line ≡ command_line) (p : IsParsedFrom line m) where
  plain : ((out-Command line).groups.items ≡ []) × ((out-Command line).has_globals ≡ false)
  plain =
      let all : (app_of line).top.is_plain ≡ true = ap (λ (a : App). a.top.is_plain) shape in
      (empty_is _ (both _ _ all).0, not-true _ (both _ _ (both _ _ (both _ _ all).1).1).0)

  no_groups : groups_of p.built ≡ []
  no_groups =
      (p.from.same_groups (λ k d lt.
      let simple = each_rule IsPlainRule line shape all_plain k d lt in
      empty_is _ (both _ _ (both _ _ (both _ _ simple).1).1).0)).1
      ∙ plain.0

  -- each argument of the option's name, once the command line is built, has the option's numbers
  parser_is : (j : ℕ) (x : Arg) → j < length (args_of p.built) → slice_index_or (args_of p.built) j x ≡ x → bytes_eq x.id.now (codes "places") ≡ true
      → parser_of x ≡ places_parser
  parser_is j x high at same = elim (cases_lt j (length (args_of line))) [
    | inl under ↦
        let s = subst (λ w. SameRules (slice_index_or (args_of line) j x) w) at (p.from.kept j x under).1 in
        let id : bytes_eq (slice_index_or (args_of line) j x).id.now (codes "places") ≡ true = rw (← s.id) same in
        let own = each_rule HasNumbers line shape all_numbers j x under id in
        ap parser_of_value (s.parser places_parser own)
    | inr over ↦
        let flag = subst IsAuto at (p.from.extra j x over high) in
        absurd (elim flag [
          | inl h ↦ not_both (bytes_eq (codes "help") (codes "places")) refl (rw h at same)
          | inr h ↦ not_both (bytes_eq (codes "version") (codes "places")) refl (rw h at same)
        ])
  ]

  how : (id : Bytes) → bytes_eq id (codes "places") ≡ true → (r : Reading) → HasReading p.built id r → r ≡ readings.WithoutMinus
  how id same r any =
      let is : id ≡ codes "places" = (bytes_eq-Decides id (codes "places")).0 same in
      let key : bytes_eq any.1.id.now (codes "places") ≡ true = rw is at any.4.0 in
      sym any.4.1 ∙ ap reading_of (parser_is any.0 any.1 any.2 any.3 key)

  passed : (id v : Bytes) → bytes_eq id (codes "places") ≡ true → PassesArg p.built id v → IsSignedIn (pos 1) (pos 65536) v
  passed id v same pass =
      let is : id ≡ codes "places" = (bytes_eq-Decides id (codes "places")).0 same in
      let key : bytes_eq pass.1.id.now (codes "places") ≡ true = rw is at pass.4.0 in
      subst (λ (q : ValueParser). Accepts pass.1.ignore_case q v) (parser_is pass.0 pass.1 pass.2 pass.3 key) pass.4.1

  -- the first value of the option's entry is a number in its range
  in_range : (x : MatchedArg) (e : Entry) → e.1 ≡ x → bytes_eq e.0.now (codes "places") ≡ true → EntryPasses p.built e
      → (n : ℕ) → option_and_then number_of (option_map (λ s. read_as x.reading s.now) (slice_get x.vals.items 0)) ≡ Some n
      → (1 ≤ n) × (n ≤ 65536)
  in_range x e same_x key pass n said =
      let no_group : e.1.is_group ≡ true → ⊥ = λ g. elim (pass.3 g) [
        | inl empty ↦ not_both (bytes_eq [] (codes "places")) refl (rw empty at key)
        | inr lots ↦ let bad : 0 < 0 = rw no_groups at lots in absurd (omega arith)
      ] in
      let reading : x.reading ≡ readings.WithoutMinus = elim pass.4 [
        | inl g ↦ absurd (no_group g)
        | inr h ↦ let is = how e.0.now key e.1.reading h in ap (λ (y : MatchedArg). y.reading) (sym same_x) ∙ is
      ] in
      let all : All (λ v. PassesArg p.built e.0.now v.now) x.vals.items = elim pass.0 [
        | inl g ↦ absurd (no_group g)
        | inr vals ↦ rw same_x at vals
      ] in
      go x.vals.items all (rw reading at said)
    where
      go : (vals : List (Bor Bytes)) → All (λ v. PassesArg p.built e.0.now v.now) vals
          → option_and_then number_of (option_map (λ s. read_as readings.WithoutMinus s.now) (slice_get vals 0)) ≡ Some n → (1 ≤ n) × (n ≤ 65536)
      go [] all says = let none : None ≡ Some n = says in absurd (cc)
      go (v ∷ vs) all says =
          let ok = passed e.0.now v.now key (All-get_or (λ v. PassesArg p.built e.0.now v.now) (v ∷ vs) 0 v (omega arith) all) in
          let got = signed_reads (Unit {0}) (λ u r. ParsesUnsigned 32 10 u r) 32 1 65536 v.now (Some n) (said_number (without_minus v.now) n says) (λ u r g. g) (omega arith) ok in
          let same : Some n ≡ Some got.0 = got.1 in
          let is : n ≡ got.0 = cc in
          rw is (got.2, got.3)

  -- the number of the option is in its range
  places_in_range : (n : ℕ) → option_and_then number_of (one_text (found_of m) (codes "places")) ≡ Some n → (1 ≤ n) × (n ≤ 65536)
  places_in_range n said = go (matched_of (found_of m) (codes "places")) refl
    where
      go : (o : Option MatchedArg) → matched_of (found_of m) (codes "places") ≡ o → (1 ≤ n) × (n ≤ 65536)
      go None e = let none : None ≡ Some n = rw e at said in absurd (cc)
      go (Some x) e =
          let parsed = p.parsed (p.from.globals ∙ plain.1) in
          let got = entry_by_id (EntryPasses p.built) (found_of m).entries.items (codes "places") x parsed.values e in
          in_range x got.0 got.1 got.2 got.3 n (rw e at said)

  pub rows_in_range : (n : ℕ) → option_and_then number_of (one_of (codes "places") (rows_of (found_of m))) ≡ Some n → (1 ≤ n) × (n ≤ 65536)
  rows_in_range n said = places_in_range n (ap (option_and_then number_of) (one_text-rows (found_of m) (codes "places")) ∙ said)

-- what the matches give, piece by piece
module _ (rows : List Row) where
  pub no_command : first_of (codes "COMMAND") rows ≡ None → line_of_matches rows ≡ None
  no_command none = rw none refl

  pub no_first : (command : Bytes) → first_of (codes "COMMAND") rows ≡ Some command → first_of (codes "FIRST") rows ≡ None → line_of_matches rows ≡ None
  no_first command has none = rw (has, none) refl

  pub no_number : (command first : Bytes) → first_of (codes "COMMAND") rows ≡ Some command → first_of (codes "FIRST") rows ≡ Some first
      → option_and_then number_of (one_of (codes "places") rows) ≡ None → line_of_matches rows ≡ None
  no_number command first has has_first none = rw (has, has_first, none) refl

  pub line_given : (command first : Bytes) (rest : List Bytes) (places : ℕ) (heap : Option Bytes) → first_of (codes "COMMAND") rows ≡ Some command
      → first_of (codes "FIRST") rows ≡ Some first → option_and_then number_of (one_of (codes "places") rows) ≡ Some places
      → rest ≡ unwrap_or (all_of (codes "REST") rows) [] → heap ≡ first_of (codes "heap") rows
      → line_of_matches rows ≡ Some (record { command = command; first = first; rest = rest; places = places; heap = heap })
  line_given command first rest places heap has has_first has_number is_rest is_heap = rw (has, has_first, has_number, is_rest, is_heap) refl

  line_number : (line : Line) → line_of_matches rows ≡ Some line → option_and_then number_of (one_of (codes "places") rows) ≡ Some line.places
  line_number line given = go (first_of (codes "COMMAND") rows) (first_of (codes "FIRST") rows) (option_and_then number_of (one_of (codes "places") rows)) given
    where
      go : (a b : Option Bytes) (n : Option ℕ) → option_and_then (λ command. option_and_then (λ first. option_map (λ places. record {
        command = command;
        first = first;
        rest = unwrap_or (all_of (codes "REST") rows) [];
        places = places;
        heap = first_of (codes "heap") rows;
      }) n) b) a ≡ Some line → n ≡ Some line.places
      go None b n e = absurd (cc)
      go (Some x) None n e = absurd (cc)
      go (Some x) (Some y) None e = absurd (cc)
      go (Some x) (Some y) (Some n) e = ap (option_map (λ (l : Line). l.places)) e

-- a parse of the words by the command line
module _ (line : Command) (words : List Bytes) (shape : app_of line ≡ command_line) where
  pub rows_are : (m : ArgMatches) → HasMatchesOf (app_of line) words m → rows_of (found_of m) ≡ matches_of command_line words
  rows_are m has = (has (ap is_simple shape)).0 ∙ ap (λ a. matches_of a words) shape

  pub takes_words : (m : ArgMatches) → (is_simple_and_free (app_of line) ≡ true → fault_of (app_of line) words ≡ []) → fault_of command_line words ≡ []
  takes_words m none = sym (ap (λ a. fault_of a words) shape) ∙ none (ap is_simple_and_free shape)

  pub refuses_words : (e : Error) → (is_simple_and_free (app_of line) ≡ true → HasKind (fault_of (app_of line) words) e) → kind_of e ≢ kinds.OutOfMemory
      → request_of_words words ≡ None
  refuses_words e has memory = elim (subst (λ a. HasKind (fault_of a words) e) shape (has (ap is_simple_and_free shape))) [
    | inl out ↦ absurd (memory out)
    | inr among ↦ go (fault_of command_line words) refl among
  ]
    where
      go : (ks : Kinds) → fault_of command_line words ≡ ks → IsAmong (kind_of e) ks → request_of_words words ≡ None
      go [] is among = absurd among
      go (k ∷ ks) is among = rw is refl

-- words that the command line takes give what its matches give
pub words_give : (words : List Bytes) (rows : List Row) → fault_of command_line words ≡ [] → rows ≡ matches_of command_line words
    → request_of_words words ≡ request_of_matches rows
words_give words rows none same = rw (none, same) refl

-- the command that a row gives has as many words as the row asks for
abbrev IsBy : Line → CommandRow → Request → Type 0
IsBy line row request = (row.fewest ≤ length request.rest) × (length request.rest ≤ row.most) × (request.verb ≡ row.verb) × (request.places ≡ line.places)

abbrev made : Line → CommandRow → Request
made line row = record { verb = row.verb; first = line.first; rest = line.rest; places = line.places; heap = line.heap }

by_row : (line : Line) (row : CommandRow) (request : Request) → request_by line row ≡ Some request → IsBy line row request
by_row line row request given =
    go (nat_lt (length line.rest) row.fewest) refl (nat_lt row.most (length line.rest)) refl (is_some line.heap && not row.takes_heap) refl
  where
    go : (a : Bool) → nat_lt (length line.rest) row.fewest ≡ a → (b : Bool) → nat_lt row.most (length line.rest) ≡ b
        → (c : Bool) → is_some line.heap && not row.takes_heap ≡ c → IsBy line row request
    go true few b many c none_taken = let none : None ≡ Some request = rw few at given in absurd (cc)
    go false few true many c none_taken = let none : None ≡ Some request = rw (few, many) at given in absurd (cc)
    go false few false many true none_taken = let none : None ≡ Some request = rw (few, many, none_taken) at given in absurd (cc)
    go false few false many false taken =
        let same : Some (made line row) ≡ Some request = rw (few, many, taken) at given in
        let is : made line row ≡ request = ap (λ o. unwrap_or o (made line row)) same in
        subst (IsBy line row) is (ltb-false _ _ few, ltb-false _ _ many, refl, refl)

-- the table gives as many words REST as its row asks for
abbrev IsAsked : Request → Type 0
IsAsked request = MayHave request.verb (length request.rest)

asked : (line : Line) (row : CommandRow) (request : Request) → request_by line row ≡ Some request
    → (row.fewest ≤ length request.rest → length request.rest ≤ row.most → MayHave row.verb (length request.rest)) → IsAsked request × (request.places ≡ line.places)
asked line row request by may =
    let asks = by_row line row request by in
    (subst (λ verb. MayHave verb (length request.rest)) (sym asks.2) (may asks.0 asks.1), asks.3)

table_asks : (line : Line) (request : Request) → request_of_line line ≡ Some request → IsAsked request × (request.places ≡ line.places)
table_asks line request given =
    go (bytes_eq (codes "serial") line.command) refl (bytes_eq (codes "run") line.command) refl (bytes_eq (codes "step") line.command) refl (bytes_eq (codes "show") line.command) refl
    (bytes_eq (codes "work") line.command) refl
  where
    go : (a : Bool) → bytes_eq (codes "serial") line.command ≡ a → (r : Bool) → bytes_eq (codes "run") line.command ≡ r → (s : Bool) → bytes_eq (codes "step") line.command ≡ s
        → (b : Bool) → bytes_eq (codes "show") line.command ≡ b → (d : Bool) → bytes_eq (codes "work") line.command ≡ d → IsAsked request × (request.places ≡ line.places)
    go true serial r run s step b show d work =
        asked line (record { verb = verbs.Serial; fewest = 1; most = 1; takes_heap = true }) request (rw serial at given) (λ fewest most. omega (arith, fewest, most))
    go false serial true run s step b show d work =
        asked line (record { verb = verbs.Run; fewest = 1; most = 64; takes_heap = true }) request (rw (serial, run) at given) (λ fewest most. (fewest, most))
    go false serial false run true step b show d work =
        asked line (record { verb = verbs.Step; fewest = 2; most = 65; takes_heap = true }) request (rw (serial, run, step) at given) (λ fewest most. (fewest, most))
    go false serial false run false step true show d work =
        asked line (record { verb = verbs.Show; fewest = 0; most = 0; takes_heap = false }) request (rw (serial, run, step, show) at given) (λ fewest most. omega (arith, most))
    go false serial false run false step false show true work =
        asked line (record { verb = verbs.Work; fewest = 2; most = 2; takes_heap = false }) request (rw (serial, run, step, show, work) at given) (λ fewest most. omega (arith, fewest, most))
    go false serial false run false step false show false work = let none : None ≡ Some request = rw (serial, run, step, show, work) at given in absurd (cc)

-- what is asked of the command that the matches give
pub command_asks : (rows : List Row) (request : Request) → request_of_matches rows ≡ Some request
    → IsAsked request × (option_and_then number_of (one_of (codes "places") rows) ≡ Some request.places)
command_asks rows request given = go (line_of_matches rows) refl given
  where
    go : (o : Option Line) → line_of_matches rows ≡ o → option_and_then request_of_line o ≡ Some request
        → IsAsked request × (option_and_then number_of (one_of (codes "places") rows) ≡ Some request.places)
    go None e h = let none : None ≡ Some request = h in absurd (cc)
    go (Some line) e h =
        let asks = table_asks line request h in
        (asks.0, line_number rows line e ∙ ap (λ n. Some n) (sym asks.1))

-- what holds of the command that was read
module _ (result : Result Held WordsFault) where
  pub same_words : (a b : Option Request) → a ≡ b → IfOk result (λ command. b ≡ Some (request_of command)) → IfOk result (λ command. a ≡ Some (request_of command))
  same_words a b same = IfOk-weaker result (λ command. b ≡ Some (request_of command)) (λ command. a ≡ Some (request_of command)) (λ command given. same ∙ given)

  module _ (rows : List Row) (ok : IfOk result (λ command. request_of_matches rows ≡ Some (request_of command))) where
    pub given_rest : IfOk result (λ command. MayHave command.verb (length command.rest.items))
    given_rest = IfOk-weaker result (λ command. request_of_matches rows ≡ Some (request_of command)) (λ command. MayHave command.verb (length command.rest.items))
        (λ command given. let asks = command_asks rows (request_of command) given in
        subst (λ n. MayHave command.verb n) (length-map command.rest.items (λ path. path.now)) asks.0) ok

    pub given_places : ((n : ℕ) → option_and_then number_of (one_of (codes "places") rows) ≡ Some n → (1 ≤ n) × (n ≤ 65536))
        → IfOk result (λ command. (1 ≤ command.places) × (command.places ≤ 65536))
    given_places ranges = IfOk-weaker result (λ command. request_of_matches rows ≡ Some (request_of command)) (λ command. (1 ≤ command.places) × (command.places ≤ 65536))
        (λ command given. let asks = command_asks rows (request_of command) given in
        ranges command.places asks.1) ok
