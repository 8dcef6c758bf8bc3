-- A good reader of whole texts finds the value of each text, and else the first fault.
use Rattle.std.proofs.Common.{◌≡◌, Bool, true, List, [], ◌∷◌, ◌++◌, None, Result, Ok, Err, refl, sym, ap, ◌∙◌, subst, append_assoc, append-nil}
use Rattle.dl_grammar.specs.declared.lexeme.Lexeme.{Lexeme}
use Rattle.dl_grammar.specs.declared.fault.Bound.{Bound}
use Rattle.dl_grammar.specs.declared.fault.Fault.{Fault}
use Rattle.dl_grammar.specs.declared.fault.Fault.TheVariants as fault
use Rattle.dl_grammar.specs.Grammar.{Ending, Read, Passed, Rule, whole, Begins, NoneGoesOn, StandsAt, Ahead, ahead, Outcome, Reader, nothing_left, finish}
use Rattle.dl_grammar.proofs.Good.{answer, tail, Follows, Stopped, Unexpected, AtLimit, ReadAt, ReadsAt, Good}

-- two ways to split a list: at one place, or the first or the second before the other
pub data Splits (a b c d : List Lexeme) : Type 0 where
  Same : a ≡ c → b ≡ d → Splits a b c d
  Sooner : (t : Lexeme) (u : List Lexeme) → c ≡ a ++ t ∷ u → b ≡ t ∷ u ++ d → Splits a b c d
  Later : (t : Lexeme) (u : List Lexeme) → a ≡ c ++ t ∷ u → d ≡ t ∷ u ++ b → Splits a b c d

splits_more : (x y : Lexeme) (a b c d : List Lexeme) → x ≡ y → Splits a b c d → Splits (x ∷ a) b (y ∷ c) d
splits_more x y a b c d h (Same p q) = Same (cc) q
splits_more x y a b c d h (Sooner t u p q) = Sooner t u (cc) q
splits_more x y a b c d h (Later t u p q) = Later t u (cc) q

pub splits : (a b c d : List Lexeme) → a ++ b ≡ c ++ d → Splits a b c d
splits [] b [] d h = Same refl h
splits [] b (y ∷ c) d h = Sooner y c refl h
splits (x ∷ a) b [] d h = Later x a refl (sym h)
splits (x ∷ a) b (y ∷ c) d h =
    let head : x ≡ y = cc in
    let rest : a ++ b ≡ c ++ d = cc in
    splits_more x y a b c d head (splits a b c d rest)

pub tail-nil : {A : Type 0} (e : Ending A) (ws : List Lexeme) → ws ++ tail e [] ≡ whole e ws
tail-nil (Read a) ws = append-nil ws
tail-nil (Passed b t) ws = refl

abbrev ok_of : {A : Type 0} → A × List Lexeme → Outcome A
ok_of x = Ok x

abbrev err_of : {A : Type 0} → Fault × List Lexeme → Outcome A
err_of x = Err x

-- the parts of equal answers are equal
pub ok_is : {A : Type 0} (x y : A × List Lexeme) → ok_of x ≡ ok_of y → x ≡ y
ok_is x y h = cc

pub err_is : {A : Type 0} (x y : Fault × List Lexeme) → err_of {A = A} x ≡ err_of y → x ≡ y
err_is x y h = cc

value_is : {A : Type 0} (E' : Type 0) (x y : A) → (let o : Result A E' = Ok x in o) ≡ Ok y → x ≡ y
value_is E' x y h = cc

module _ {A : Type 0} {p : Reader A} {L : Rule A} {may : Ahead → Bool} (good : Good p L may) (ends : may None ≡ true) where
  follows_end : (e : Ending A) → Follows may e []
  follows_end (Read a) = ends
  follows_end (Passed b t) = tt

  -- what the reader makes of a whole text
  reads_whole : (e : Ending A) (vs : List Lexeme) → L e vs → p (whole e vs) ≡ answer e []
  reads_whole e vs is = ap p (sym (tail-nil e vs)) ∙ good.complete e vs is [] (follows_end e)

  never_expected : (e : Ending A) (ts : List Lexeme) → answer e [] ≡ Err (fault.Expected, ts) → ⊥
  never_expected (Read a) ts h = cc
  never_expected (Passed b t) ts h = let f : fault.Passed b ≡ fault.Expected = ap (λ x. x.0) (err_is {A = A} (fault.Passed b, t ∷ []) (fault.Expected, ts) h) in absurd (cc)

  never_more : (e : Ending A) (a : A) (t : Lexeme) (ts : List Lexeme) → answer e [] ≡ Ok (a, t ∷ ts) → ⊥
  never_more (Read x) a t ts h = let f : [] ≡ t ∷ ts = ap (λ y. y.1) (ok_is (x, []) (a, t ∷ ts) h) in absurd (cc)
  never_more (Passed b u) a t ts h = cc

  -- a text is read
  pub only_read : (a : A) (ts : List Lexeme) → L (Read a) ts → finish (p ts) ≡ Ok a
  only_read a ts is = ap finish (reads_whole (Read a) ts is)

  pub one_value : (a b : A) (ts : List Lexeme) → L (Read a) ts → L (Read b) ts → a ≡ b
  one_value a b ts is is' = value_is (Fault × List Lexeme) a b (sym (only_read a ts is) ∙ only_read b ts is')

  -- where it stops with Expected no text goes on
  none_goes_on : (before rest : List Lexeme) → ((more : List Lexeme) → ahead more ≡ ahead rest → p (before ++ more) ≡ Err (fault.Expected, more)) → NoneGoesOn L before rest
  none_goes_on before [] again = λ a is. never_expected (Read a) [] (sym (reads_whole (Read a) before is) ∙ ap p (sym (append-nil before)) ∙ again [] refl)
  none_goes_on before (t ∷ rest) again = λ e vs more is split. never_expected e (t ∷ more) (sym (reads_whole e vs is) ∙ ap p split ∙ again (t ∷ more) refl)

  -- nor where it has read a whole text
  none_behind : (a : A) (before : List Lexeme) (t : Lexeme) (rest : List Lexeme) → ((more : List Lexeme) → ahead more ≡ ahead (t ∷ rest) → p (before ++ more) ≡ Ok (a, more)) → NoneGoesOn L before (t ∷ rest)
  none_behind a before t rest again = λ e vs more is split. never_more e a t more (sym (reads_whole e vs is) ∙ ap p split ∙ again (t ∷ more) refl)

  -- what is found, or what the fault is
  pub record Faulty (ts : List Lexeme) (g : Fault) (rest : List Lexeme) : Type 0 where
    pub before : List Lexeme
    pub splits : ts ≡ before ++ rest
    pub stands : StandsAt L g before rest

  abbrev pub Judged : List Lexeme → Result A (Fault × List Lexeme) → Type 0
  Judged ts (Ok a) = L (Read a) ts
  Judged ts (Err x) = Faulty ts x.0 x.1

  judged_stop : (ts : List Lexeme) (g : Fault) (ws rest : List Lexeme) → ts ≡ ws ++ rest → Stopped L g ws rest → ((more : List Lexeme) → ahead more ≡ ahead rest → p (ws ++ more) ≡ Err (g, more)) → Faulty ts g rest
  judged_stop ts _ ws rest split (Unexpected e vs more is front) again = record { before = ws; splits = split; stands = ((e, vs, more, is, front), none_goes_on ws rest again) }
  judged_stop ts _ ws _ split (AtLimit b t is) again = record { before = ws; splits = split; stands = is }

  judged_read : (ts : List Lexeme) (a : A) (rest : List Lexeme) → ReadAt p L ts a rest → Judged ts (nothing_left a rest)
  judged_read ts a [] r = subst (L (Read a)) (sym (r.splits ∙ append-nil r.ws)) r.text
  judged_read ts a (t ∷ rest) r = record { before = r.ws; splits = r.splits; stands = ((Read a, r.ws, [], r.text, sym (append-nil r.ws)), none_behind a r.ws t rest r.again) }

  judged_at : (ts : List Lexeme) (o : Outcome A) → ReadsAt p L ts o → Judged ts (finish o)
  judged_at ts (Ok x) r = judged_read ts x.0 x.1 r
  judged_at ts (Err x) r = judged_stop ts x.0 r.ws x.1 r.splits r.stops r.again

  pub judged : (ts : List Lexeme) → Judged ts (finish (p ts))
  judged ts = judged_at ts (p ts) (good.reads ts)

  -- at most one fault, and none where there is a value
  begins_on : (before : List Lexeme) (t : Lexeme) (u xs : List Lexeme) → xs ≡ before ++ t ∷ u → Begins L xs → (rest : List Lexeme) → NoneGoesOn L before (t ∷ rest) → ⊥
  begins_on before t u xs is b rest none = go b.0 b.1 b.2 b.3 b.4
    where
      go : (e : Ending A) (vs more : List Lexeme) → L e vs → vs ≡ xs ++ more → ⊥
      go (Read a) vs more text split = none (Read a) vs (u ++ more) text (split ∙ ap (λ ys. ys ++ more) is ∙ append_assoc before (t ∷ u) more)
      go (Passed c w) vs more text split =
          none (Passed c w) vs ((u ++ more) ++ w ∷ []) text
          (ap (λ ys. ys ++ w ∷ []) (split ∙ ap (λ ys. ys ++ more) is ∙ append_assoc before (t ∷ u) more) ∙ append_assoc before (t ∷ u ++ more) (w ∷ []))

  no_value_there : (a : A) (before rest : List Lexeme) → L (Read a) (before ++ rest) → NoneGoesOn L before rest → ⊥
  no_value_there a before [] is none = none a (subst (L (Read a)) (append-nil before) is)
  no_value_there a before (t ∷ rest) is none = none (Read a) (before ++ t ∷ rest) rest is refl

  -- a text that begins with these lexemes passes no limit at them
  no_limit : (b : Bound) (t : Lexeme) (front u xs : List Lexeme) → L (Passed b t) front → xs ≡ front ++ t ∷ u → Begins L xs → ⊥
  no_limit b t front u xs is split begins = go begins.0 begins.1 begins.2 begins.3 begins.4
    where
      stops_there : (ys : List Lexeme) → p (front ++ t ∷ ys) ≡ Err (fault.Passed b, t ∷ ys)
      stops_there ys = good.complete (Passed b t) front is ys tt

      go : (e : Ending A) (vs more : List Lexeme) → L e vs → vs ≡ xs ++ more → ⊥
      go (Read a) vs more text h =
          let at : vs ≡ front ++ t ∷ (u ++ more) = h ∙ ap (λ ys. ys ++ more) split ∙ append_assoc front (t ∷ u) more in
          let one = sym (reads_whole (Read a) vs text) ∙ ap p at ∙ stops_there (u ++ more) in absurd (cc)
      go (Passed c w) vs more text h =
          let at : vs ++ w ∷ [] ≡ front ++ t ∷ ((u ++ more) ++ w ∷ []) = ap (λ ys. ys ++ w ∷ []) (h ∙ ap (λ ys. ys ++ more) split ∙ append_assoc front (t ∷ u) more) ∙ append_assoc front (t ∷ u ++ more) (w ∷ []) in
          let one = sym (reads_whole (Passed c w) vs text) ∙ ap p at ∙ stops_there ((u ++ more) ++ w ∷ []) in
          let rest : t ∷ ((u ++ more) ++ w ∷ []) ≡ w ∷ [] = ap (λ x. x.1) (err_is {A = A} _ _ (sym one)) in
          not_empty (u ++ more) w (cc)
        where
          not_empty : (ys : List Lexeme) (x : Lexeme) → ys ++ x ∷ [] ≡ [] → ⊥
          not_empty [] x e = cc
          not_empty (y ∷ ys) x e = cc

  agree_at : (before rest : List Lexeme) → Begins L before → NoneGoesOn L before rest → (g : Fault) (before' rest' : List Lexeme) → StandsAt L g before' rest' → Splits before rest before' rest' → before ++ rest ≡ before' ++ rest' → (g ≡ fault.Expected) × (rest' ≡ rest)
  agree_at before rest begins none fault.Expected before' rest' stands (Same x y) whole = (refl, sym y)
  agree_at before rest begins none fault.Expected before' rest' stands (Sooner t u x y) whole = absurd (begins_on before t u before' x stands.0 (u ++ rest') (subst (NoneGoesOn L before) y none))
  agree_at before rest begins none fault.Expected before' rest' stands (Later t u x y) whole = absurd (begins_on before' t u before x begins (u ++ rest) (subst (NoneGoesOn L before') y stands.1))
  agree_at before rest begins none (fault.Passed b) before' [] stands same whole = absurd stands
  agree_at before rest begins none (fault.Passed b) before' (t ∷ rest') stands (Same x y) whole =
      absurd (passed_on b t before rest' (subst (L (Passed b t)) (sym x) stands) (subst (NoneGoesOn L before) y none))
    where
      passed_on : (b : Bound) (t : Lexeme) (before rest' : List Lexeme) → L (Passed b t) before → NoneGoesOn L before (t ∷ rest') → ⊥
      passed_on b t before rest' is none = none (Passed b t) before [] is refl
  agree_at before rest begins none (fault.Passed b) before' (t ∷ rest') stands (Sooner w u x y) whole =
      absurd (longer b t before w u before' rest' x stands (subst (NoneGoesOn L before) y none))
    where
      longer : (b : Bound) (t : Lexeme) (before : List Lexeme) (w : Lexeme) (u before' rest' : List Lexeme) → before' ≡ before ++ w ∷ u → L (Passed b t) before' → NoneGoesOn L before (w ∷ u ++ t ∷ rest') → ⊥
      longer b t before w u before' rest' x is none = none (Passed b t) before' (u ++ t ∷ []) is (ap (λ ys. ys ++ t ∷ []) x ∙ append_assoc before (w ∷ u) (t ∷ []))
  agree_at before rest begins none (fault.Passed b) before' (t ∷ rest') stands (Later w u x y) whole =
      absurd (no_limit b w before' u before (subst (λ z. L (Passed b z) before') (cc) stands) x begins)
  agree_at before rest begins none fault.Memory before' rest' stands same whole = absurd stands

  expected_only : (before rest : List Lexeme) → Begins L before → NoneGoesOn L before rest → (o : Result A (Fault × List Lexeme)) → Judged (before ++ rest) o → o ≡ Err (fault.Expected, rest)
  expected_only before rest begins none (Ok a) j = absurd (no_value_there a before rest j none)
  expected_only before rest begins none (Err x) j =
      let same = agree_at before rest begins none x.0 j.before x.1 j.stands (splits before rest j.before x.1 j.splits) j.splits in
      ap (λ g. Err (g, x.1)) same.0 ∙ ap (λ ys. Err (fault.Expected, ys)) same.1

  -- the fault that stands somewhere is answered
  pub only_fault : (g : Fault) (before rest : List Lexeme) → StandsAt L g before rest → finish (p (before ++ rest)) ≡ Err (g, rest)
  only_fault fault.Expected before rest stands = expected_only before rest stands.0 stands.1 (finish (p (before ++ rest))) (judged (before ++ rest))
  only_fault (fault.Passed b) before [] stands = absurd stands
  only_fault (fault.Passed b) before (t ∷ rest) stands = ap finish (good.complete (Passed b t) before stands rest tt)
  only_fault fault.Memory before rest stands = absurd stands
