-- The law of repetitions.
use Rattle.std.proofs.Common.{◌≡◌, ℕ, ◌≤◌, ◌<◌, Bool, true, false, cond, List, [], ◌∷◌, ◌++◌, length, Some, None, Ok, Err, arith, refl, sym, ap, ◌∙◌, subst, append_assoc, zero, suc, length-append}
use Rattle.dl_grammar.specs.declared.lexeme.Lexeme.{Lexeme}
use Rattle.dl_grammar.specs.Grammar.{Ending, Read, Passed, Rule, Then, Both, Cut, Many, NoMore, OneMore, CutShort, Ahead, ahead, Outcome, Reader, and_then, ◌>>=◌, pure, choose, repeat_from, repeat}
use Rattle.dl_grammar.proofs.Good.{answer, tail, Follows, ReadAt, ReadsAt, Text, Good, ahead-append}
use Rattle.dl_grammar.proofs.Rules.{Starts, reads_second, reads_first, stops_as}

module _ {A : Type 0} (test : Ahead → Bool) {step : A → Reader A} {N : A → Rule A} {may : Ahead → Bool} (turns : (a : A) → Good (step a) (N a) may) (starts : (a : A) → Starts (N a) test true) (none : test None ≡ false) where
  -- a turn takes a lexeme
  takes : (a b : A) (ws : List Lexeme) → N a (Read b) ws → 0 < length ws
  takes a b [] is = absurd (let h = starts a (Read b) [] [] is in cc)
  takes a b (w ∷ ws) is = omega arith

  pub shrinks : (a : A) (ts : List Lexeme) (b : A) (rest : List Lexeme) → step a ts ≡ Ok (b, rest) → length rest < length ts
  shrinks a ts b rest is =
      let r : ReadAt (step a) (N a) ts b rest = subst (ReadsAt (step a) (N a) ts) is ((turns a).reads ts) in
      omega (arith, takes a b r.ws r.text, ap length r.splits, length-append r.ws rest)

  same_turn : (n m : ℕ) (o : Outcome A) → ((b : A) (rest : List Lexeme) → o ≡ Ok (b, rest) → repeat_from test step n b rest ≡ repeat_from test step m b rest) → and_then o (repeat_from test step n) ≡ and_then o (repeat_from test step m)
  same_turn n m (Ok x) h = h x.0 x.1 refl
  same_turn n m (Err x) h = refl

  -- so many turns are enough
  enough : (n m : ℕ) (a : A) (ts : List Lexeme) → length ts ≤ n → length ts ≤ m → repeat_from test step n a ts ≡ repeat_from test step m a ts
  enough zero zero a ts h k = refl
  enough zero (suc m) a [] h k = sym (ap (λ b. cond b (and_then (step a []) (repeat_from test step m)) (Ok (a, []))) none)
  enough zero (suc m) a (t ∷ ts) h k = absurd (omega arith)
  enough (suc n) zero a [] h k = ap (λ b. cond b (and_then (step a []) (repeat_from test step n)) (Ok (a, []))) none
  enough (suc n) zero a (t ∷ ts) h k = absurd (omega arith)
  enough (suc n) (suc m) a ts h k =
      ap (λ o. cond (test (ahead ts)) o (Ok (a, ts))) (same_turn n m (step a ts) (λ b rest is. let s = shrinks a ts b rest is in enough n m b rest (omega arith) (omega arith)))

  turn_at : (n : ℕ) (ts : List Lexeme) (o : Outcome A) → ((b : A) (rest : List Lexeme) → o ≡ Ok (b, rest) → repeat_from test step n b rest ≡ repeat_from test step (length rest) b rest) → and_then o (repeat_from test step n) ≡ and_then o (repeat test step)
  unfolding repeat
  turn_at n ts (Ok x) h = h x.0 x.1 refl
  turn_at n ts (Err x) h = refl

  -- one turn more, where what comes next says so
  pub turn : (a : A) (ts : List Lexeme) → repeat test step a ts ≡ choose test (step a >>= repeat test step) (pure a) ts
  unfolding repeat
  turn a [] = sym (ap (λ b. cond b (and_then (step a []) (repeat test step)) (Ok (a, []))) none)
  turn a (t ∷ ts) =
      ap (λ o. cond (test (Some t)) o (Ok (a, t ∷ ts))) (turn_at (length ts) (t ∷ ts) (step a (t ∷ ts)) (λ b rest is. let s = shrinks a (t ∷ ts) b rest is in enough (length ts) (length rest) b rest (omega arith) (omega arith)))

  pub turn_stops : (a : A) (ts : List Lexeme) → test (ahead ts) ≡ false → repeat test step a ts ≡ Ok (a, ts)
  turn_stops a ts h = turn a ts ∙ ap (λ b. cond b ((step a >>= repeat test step) ts) (Ok (a, ts))) h

  pub turn_goes : (a : A) (ts : List Lexeme) → test (ahead ts) ≡ true → repeat test step a ts ≡ (step a >>= repeat test step) ts
  turn_goes a ts h = turn a ts ∙ ap (λ b. cond b ((step a >>= repeat test step) ts) (Ok (a, ts))) h

  to_many : (a : A) (e : Ending A) (ws : List Lexeme) → Then (N a) (Many N) e ws → Many N a e ws
  to_many a e _ (Both b is next) = OneMore b is next
  to_many a _ ws (Cut is) = CutShort is

  many_text : (a : A) → Text (Many N a)
  many_text a = record { ending = Read a; words = []; is = NoMore }

  same_front : (ts ws rest more : List Lexeme) → test (ahead ts) ≡ true → ts ≡ ws ++ rest → ahead more ≡ ahead rest → test (ahead (ws ++ more)) ≡ true
  same_front ts ws rest more h split same = ap test (ahead-append ws more rest same ∙ ap ahead (sym split)) ∙ h

  -- what the reader of a turn and the rest reads, the repetition reads
  going : (a : A) (ts : List Lexeme) → test (ahead ts) ≡ true → (o : Outcome A) → ReadsAt (step a >>= repeat test step) (Then (N a) (Many N)) ts o → ReadsAt (repeat test step a) (Many N a) ts o
  going a ts h (Ok x) r = record { ws = r.ws; splits = r.splits; text = to_many a (Read x.0) r.ws r.text; again = λ more same. turn_goes a (r.ws ++ more) (same_front ts r.ws x.1 more h r.splits same) ∙ r.again more same }
  going a ts h (Err x) r = record { ws = r.ws; splits = r.splits; stops = stops_as (to_many a) x.0 r.ws x.1 r.stops; again = λ more same. turn_goes a (r.ws ++ more) (same_front ts r.ws x.1 more h r.splits same) ∙ r.again more same }

  behind : (a : A) (ts : List Lexeme) (o : Outcome A) → step a ts ≡ o → ReadsAt (step a) (N a) ts o → ((b : A) (rest : List Lexeme) → step a ts ≡ Ok (b, rest) → ReadsAt (repeat test step b) (Many N b) rest (repeat test step b rest))
      → ReadsAt (step a >>= repeat test step) (Then (N a) (Many N)) ts (and_then o (repeat test step))
  behind a ts (Ok x) is r next = reads_second (step a) (N a) (repeat test step) (Many N) ts x.0 x.1 r (repeat test step x.0 x.1) (next x.0 x.1 is)
  behind a ts (Err x) is r next = reads_first (step a) (N a) (repeat test step) (Many N) many_text ts x.0 x.1 r

  reads_many : (n : ℕ) (a : A) (ts : List Lexeme) → length ts ≤ n → (b : Bool) → test (ahead ts) ≡ b → ReadsAt (repeat test step a) (Many N a) ts (repeat test step a ts)
  reads_many n a ts le false h =
      subst (ReadsAt (repeat test step a) (Many N a) ts) (sym (turn_stops a ts h))
      (record { ws = []; splits = refl; text = NoMore; again = λ more same. turn_stops a more (ap test same ∙ h) })
  reads_many zero a [] le true h = absurd (cc)
  reads_many zero a (t ∷ ts) le true h = absurd (omega arith)
  reads_many (suc n) a ts le true h =
      subst (ReadsAt (repeat test step a) (Many N a) ts) (sym (turn_goes a ts h))
      (going a ts h _ (behind a ts (step a ts) refl ((turns a).reads ts) (λ b rest is. let s = shrinks a ts b rest is in reads_many n b rest (omega arith) (test (ahead rest)) refl)))

  module _ (end : Ahead → Bool) (stops : (o : Ahead) → end o ≡ true → test o ≡ false) (may_end : (o : Ahead) → end o ≡ true → may o ≡ true) (may_turn : (o : Ahead) → test o ≡ true → may o ≡ true) where
    -- what follows a turn: another one, or the end
    pub follow : (a : A) (e : Ending A) (ws rest : List Lexeme) → Many N a e ws → Follows end e rest → may (ahead (ws ++ tail e rest)) ≡ true
    follow a _ _ rest (NoMore) h = may_end (ahead rest) h
    follow a e _ rest (OneMore {xs = xs} {ys = ys} b is next) h = may_turn _ (ap (λ ts. test (ahead ts)) (append_assoc xs ys (tail e rest)) ∙ starts a (Read b) xs (ys ++ tail e rest) is)
    follow a _ ws rest (CutShort {b = b} {t} is) h = may_turn _ (starts a (Passed b t) ws rest is)

    complete_many : (a : A) (e : Ending A) (ws : List Lexeme) → Many N a e ws → (rest : List Lexeme) → Follows end e rest → repeat test step a (ws ++ tail e rest) ≡ answer e rest
    complete_many a _ _ (NoMore) rest h = turn_stops a rest (stops (ahead rest) h)
    complete_many a e _ (OneMore {xs = xs} {ys = ys} b is next) rest h =
        ap (repeat test step a) (append_assoc xs ys (tail e rest))
        ∙ turn_goes a (xs ++ (ys ++ tail e rest)) (starts a (Read b) xs (ys ++ tail e rest) is)
        ∙ ap (λ o. and_then o (repeat test step)) ((turns a).complete (Read b) xs is (ys ++ tail e rest) (follow b e ys rest next h))
        ∙ complete_many b e ys next rest h
    complete_many a _ ws (CutShort {b = b} {t} is) rest h =
        turn_goes a (ws ++ t ∷ rest) (starts a (Passed b t) ws rest is) ∙ ap (λ o. and_then o (repeat test step)) ((turns a).complete (Passed b t) ws is rest tt)

    pub good_many : (a : A) → Good (repeat test step a) (Many N a) end
    good_many a = record {
      some = many_text a;
      reads = λ ts. reads_many (length ts) a ts (omega arith) (test (ahead ts)) refl;
      complete = complete_many a;
    }
