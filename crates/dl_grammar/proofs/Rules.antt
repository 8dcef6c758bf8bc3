-- The laws of sequences, choices and repetitions.
use Rattle.std.proofs.Common.{◌≡◌, Bool, true, false, cond, List, ◌++◌, Option, Some, Ok, Err, refl, sym, ap, ◌∙◌, subst, append_assoc, inl, inr}
use Rattle.dl_grammar.specs.declared.lexeme.Lexeme.{Lexeme}
use Rattle.dl_grammar.specs.declared.fault.Bound.{Bound}
use Rattle.dl_grammar.specs.declared.fault.Fault.{Fault}
use Rattle.dl_grammar.specs.declared.fault.Fault.TheVariants as fault
use Rattle.dl_grammar.specs.Grammar.{Ending, Read, Passed, Rule, One, Within, Beyond, Then, Both, Cut, Or, Ahead, ahead, Outcome, Reader, and_then, ◌>>=◌, choose}
use Rattle.dl_grammar.proofs.Good.{answer, tail, Follows, Stopped, Unexpected, AtLimit, ReadAt, StopAt, ReadsAt, Text, Good, any, ahead-append}

-- a reader with what may follow it said more narrowly
pub good_narrow : {A : Type 0} {p : Reader A} {L : Rule A} {may : Ahead → Bool} → Good p L may → (less : Ahead → Bool) → ((o : Ahead) → less o ≡ true → may o ≡ true) → Good p L less
good_narrow {A} {p} {L} {may} g less h = record {
  some = g.some;
  reads = g.reads;
  complete = λ e ws is rest follows. g.complete e ws is rest (narrow e rest follows);
}
  where
    narrow : (e : Ending A) (rest : List Lexeme) → Follows less e rest → Follows may e rest
    narrow (Read a) rest f = h (ahead rest) f
    narrow (Passed b t) rest f = tt

-- ---- sequences
module _ {A B : Type 0} (p : Reader A) (L : Rule A) (f : A → Reader B) (M : A → Rule B) where
  stops_second : (a : A) (ws : List Lexeme) → L (Read a) ws → (g : Fault) (us rest : List Lexeme) → Stopped (M a) g us rest → Stopped (Then L M) g (ws ++ us) rest
  stops_second a ws text _ us rest (Unexpected e vs more is split) = Unexpected e (ws ++ vs) more (Both a text is) (ap (λ xs. ws ++ xs) split ∙ sym (append_assoc ws us more))
  stops_second a ws text _ us _ (AtLimit b t is) = AtLimit b t (Both a text is)

  -- what is read behind the first is read so again
  again_behind : (a : A) (ws us rest : List Lexeme) (mid : List Lexeme) → mid ≡ us ++ rest → ((more : List Lexeme) → ahead more ≡ ahead mid → p (ws ++ more) ≡ Ok (a, more)) → (more : List Lexeme) → ahead more ≡ ahead rest
      → (p >>= f) ((ws ++ us) ++ more) ≡ f a (us ++ more)
  again_behind a ws us rest mid split again more h =
      ap (p >>= f) (append_assoc ws us more) ∙ ap (λ o. and_then o f) (again (us ++ more) (ahead-append us more rest h ∙ ap ahead (sym split)))

  pub reads_second : (ts : List Lexeme) (a : A) (mid : List Lexeme) → ReadAt p L ts a mid → (o : Outcome B) → ReadsAt (f a) (M a) mid o → ReadsAt (p >>= f) (Then L M) ts o
  reads_second ts a mid r (Ok x) s = record {
    ws = r.ws ++ s.ws;
    splits = r.splits ∙ ap (λ xs. r.ws ++ xs) s.splits ∙ sym (append_assoc r.ws s.ws x.1);
    text = Both a r.text s.text;
    again = λ more h. again_behind a r.ws s.ws x.1 mid s.splits r.again more h ∙ s.again more h;
  }
  reads_second ts a mid r (Err x) s = record {
    ws = r.ws ++ s.ws;
    splits = r.splits ∙ ap (λ xs. r.ws ++ xs) s.splits ∙ sym (append_assoc r.ws s.ws x.1);
    stops = stops_second a r.ws r.text x.0 s.ws x.1 s.stops;
    again = λ more h. again_behind a r.ws s.ws x.1 mid s.splits r.again more h ∙ s.again more h;
  }

  -- a text of the first rule is the front of one of both, where each second rule has a text
  filled : ((a : A) → Text (M a)) → (ws rest : List Lexeme) (e : Ending A) (vs more : List Lexeme) → L e vs → vs ≡ ws ++ more → Stopped (Then L M) fault.Expected ws rest
  filled texts ws rest (Read a) vs more is split =
      let t = texts a in
      Unexpected t.ending (vs ++ t.words) (more ++ t.words) (Both a is t.is) (ap (λ xs. xs ++ t.words) split ∙ append_assoc ws more t.words)
  filled texts ws rest (Passed b t) vs more is split = Unexpected (Passed b t) vs more (Cut is) split

  pub stops_first : ((a : A) → Text (M a)) → (g : Fault) (ws rest : List Lexeme) → Stopped L g ws rest → Stopped (Then L M) g ws rest
  stops_first texts _ ws rest (Unexpected e vs more is split) = filled texts ws rest e vs more is split
  stops_first texts _ ws _ (AtLimit b t is) = AtLimit b t (Cut is)

  pub reads_first : ((a : A) → Text (M a)) → (ts : List Lexeme) (g : Fault) (rest : List Lexeme) → StopAt p L ts g rest → StopAt (p >>= f) (Then L M) ts g rest
  reads_first texts ts g rest r = record { ws = r.ws; splits = r.splits; stops = stops_first texts g r.ws rest r.stops; again = λ more h. ap (λ o. and_then o f) (r.again more h) }

module _ {A B : Type 0} {p : Reader A} {L : Rule A} {may : Ahead → Bool} (first : Good p L may) {f : A → Reader B} {M : A → Rule B} {end : Ahead → Bool} (second : (a : A) → Good (f a) (M a) end)
    (follow : (a : A) (e : Ending B) (ws rest : List Lexeme) → M a e ws → Follows end e rest → may (ahead (ws ++ tail e rest)) ≡ true) where
  reads_both : (ts : List Lexeme) (o : Outcome A) → ReadsAt p L ts o → ReadsAt (p >>= f) (Then L M) ts (and_then o f)
  reads_both ts (Ok x) r = reads_second p L f M ts x.0 x.1 r (f x.0 x.1) ((second x.0).reads x.1)
  reads_both ts (Err x) r = reads_first p L f M (λ a. (second a).some) ts x.0 x.1 r

  complete_both : (e : Ending B) (ws : List Lexeme) → Then L M e ws → (rest : List Lexeme) → Follows end e rest → (p >>= f) (ws ++ tail e rest) ≡ answer e rest
  complete_both e _ (Both {xs = xs} {ys = ys} a is next) rest h =
      ap (p >>= f) (append_assoc xs ys (tail e rest)) ∙ ap (λ o. and_then o f) (first.complete (Read a) xs is (ys ++ tail e rest) (follow a e ys rest next h)) ∙ (second a).complete e ys next rest h
  complete_both _ ws (Cut {b} {t} is) rest h = ap (λ o. and_then o f) (first.complete (Passed b t) ws is rest tt)

  some_both : (e : Ending A) (ws : List Lexeme) → L e ws → Text (Then L M)
  some_both (Read a) ws is = let t = (second a).some in record { ending = t.ending; words = ws ++ t.words; is = Both a is t.is }
  some_both (Passed b t) ws is = record { ending = Passed b t; words = ws; is = Cut is }

  pub good_follow : Good (p >>= f) (Then L M) end
  good_follow = record {
    some = some_both first.some.ending first.some.words first.some.is;
    reads = λ ts. reads_both ts (p ts) (first.reads ts);
    complete = complete_both;
  }

-- where anything may follow the first
pub good_then : {A B : Type 0} {p : Reader A} {L : Rule A} → Good p L any → {f : A → Reader B} {M : A → Rule B} {end : Ahead → Bool} → ((a : A) → Good (f a) (M a) end) → Good (p >>= f) (Then L M) end
good_then first second = good_follow first second (λ a e ws rest is h. refl)

-- ---- what a text begins with
abbrev pub Starts : {A : Type 0} → Rule A → (Ahead → Bool) → Bool → Type 0
Starts {A} L test b = (e : Ending A) (ws rest : List Lexeme) → L e ws → test (ahead (ws ++ tail e rest)) ≡ b

pub starts_one : {A : Type 0} (value : Lexeme → Option A) (limit : A → Option Bound) (test : Ahead → Bool) (b : Bool) → ((t : Lexeme) (a : A) → value t ≡ Some a → test (Some t) ≡ b) → Starts (One value limit) test b
starts_one value limit test b h _ _ rest (Within t a v l) = h t a v
starts_one value limit test b h _ _ rest (Beyond t a c v l) = h t a v

pub starts_then : {A B : Type 0} (L : Rule A) (M : A → Rule B) (test : Ahead → Bool) (b : Bool) → Starts L test b → Starts (Then L M) test b
starts_then L M test b h e _ rest (Both {xs = xs} {ys = ys} a is next) = ap (λ ts. test (ahead ts)) (append_assoc xs ys (tail e rest)) ∙ h (Read a) xs (ys ++ tail e rest) is
starts_then L M test b h _ ws rest (Cut {b = c} {t} is) = h (Passed c t) ws rest is

pub starts_or : {A : Type 0} (L M : Rule A) (test : Ahead → Bool) (b : Bool) → Starts L test b → Starts M test b → Starts (Or L M) test b
starts_or L M test b l m e ws rest (inl is) = l e ws rest is
starts_or L M test b l m e ws rest (inr is) = m e ws rest is

-- ---- choices
module _ {A : Type 0} (test : Ahead → Bool) {p q : Reader A} {L M : Rule A} {may : Ahead → Bool} (left : Good p L may) (right : Good q M may) (yes : Starts L test true)
    (no : (e : Ending A) (ws rest : List Lexeme) → M e ws → Follows may e rest → test (ahead (ws ++ tail e rest)) ≡ false) where
  chosen : (ts : List Lexeme) (b : Bool) → test (ahead ts) ≡ b → choose test p q ts ≡ cond b (p ts) (q ts)
  chosen ts b h = ap (λ x. cond x (p ts) (q ts)) h

  stops_left : (g : Fault) (ws rest : List Lexeme) → Stopped L g ws rest → Stopped (Or L M) g ws rest
  stops_left _ ws rest (Unexpected e vs more is split) = Unexpected e vs more (inl is) split
  stops_left _ ws _ (AtLimit b t is) = AtLimit b t (inl is)

  stops_right : (g : Fault) (ws rest : List Lexeme) → Stopped M g ws rest → Stopped (Or L M) g ws rest
  stops_right _ ws rest (Unexpected e vs more is split) = Unexpected e vs more (inr is) split
  stops_right _ ws _ (AtLimit b t is) = AtLimit b t (inr is)

  -- what comes first stays where what follows begins alike
  same_front : (ts ws rest more : List Lexeme) (b : Bool) → test (ahead ts) ≡ b → ts ≡ ws ++ rest → ahead more ≡ ahead rest → test (ahead (ws ++ more)) ≡ b
  same_front ts ws rest more b h split same = ap test (ahead-append ws more rest same ∙ ap ahead (sym split)) ∙ h

  reads_left : (ts : List Lexeme) → test (ahead ts) ≡ true → (o : Outcome A) → ReadsAt p L ts o → ReadsAt (choose test p q) (Or L M) ts o
  reads_left ts h (Ok x) r = record { ws = r.ws; splits = r.splits; text = inl r.text; again = λ more same. chosen (r.ws ++ more) true (same_front ts r.ws x.1 more true h r.splits same) ∙ r.again more same }
  reads_left ts h (Err x) r = record { ws = r.ws; splits = r.splits; stops = stops_left x.0 r.ws x.1 r.stops; again = λ more same. chosen (r.ws ++ more) true (same_front ts r.ws x.1 more true h r.splits same) ∙ r.again more same }

  reads_right : (ts : List Lexeme) → test (ahead ts) ≡ false → (o : Outcome A) → ReadsAt q M ts o → ReadsAt (choose test p q) (Or L M) ts o
  reads_right ts h (Ok x) r = record { ws = r.ws; splits = r.splits; text = inr r.text; again = λ more same. chosen (r.ws ++ more) false (same_front ts r.ws x.1 more false h r.splits same) ∙ r.again more same }
  reads_right ts h (Err x) r = record { ws = r.ws; splits = r.splits; stops = stops_right x.0 r.ws x.1 r.stops; again = λ more same. chosen (r.ws ++ more) false (same_front ts r.ws x.1 more false h r.splits same) ∙ r.again more same }

  reads_chosen : (ts : List Lexeme) (b : Bool) → test (ahead ts) ≡ b → ReadsAt (choose test p q) (Or L M) ts (cond b (p ts) (q ts))
  reads_chosen ts true h = reads_left ts h (p ts) (left.reads ts)
  reads_chosen ts false h = reads_right ts h (q ts) (right.reads ts)

  complete_chosen : (e : Ending A) (ws : List Lexeme) → Or L M e ws → (rest : List Lexeme) → Follows may e rest → choose test p q (ws ++ tail e rest) ≡ answer e rest
  complete_chosen e ws (inl is) rest h = chosen (ws ++ tail e rest) true (yes e ws rest is) ∙ left.complete e ws is rest h
  complete_chosen e ws (inr is) rest h = chosen (ws ++ tail e rest) false (no e ws rest is h) ∙ right.complete e ws is rest h

  pub good_choose : Good (choose test p q) (Or L M) may
  good_choose = record {
    some = record { ending = left.some.ending; words = left.some.words; is = inl left.some.is };
    reads = λ ts. reads_chosen ts (test (ahead ts)) refl;
    complete = complete_chosen;
  }

-- ---- the same reader, or a wider rule
pub stops_as : {A : Type 0} {L M : Rule A} → ((e : Ending A) (ws : List Lexeme) → L e ws → M e ws) → (g : Fault) (ws rest : List Lexeme) → Stopped L g ws rest → Stopped M g ws rest
stops_as h _ ws rest (Unexpected e vs more is split) = Unexpected e vs more (h e vs is) split
stops_as h _ ws _ (AtLimit b t is) = AtLimit b t (h (Passed b t) ws is)

pub reads_as : {A : Type 0} {p q : Reader A} {L M : Rule A} → ((ts : List Lexeme) → q ts ≡ p ts) → ((e : Ending A) (ws : List Lexeme) → L e ws → M e ws) → (ts : List Lexeme) (o : Outcome A) → ReadsAt p L ts o → ReadsAt q M ts o
reads_as same h ts (Ok x) r = record { ws = r.ws; splits = r.splits; text = h (Read x.0) r.ws r.text; again = λ more a. same (r.ws ++ more) ∙ r.again more a }
reads_as same h ts (Err x) r = record { ws = r.ws; splits = r.splits; stops = stops_as h x.0 r.ws x.1 r.stops; again = λ more a. same (r.ws ++ more) ∙ r.again more a }

-- a rule with the same texts, and a reader that makes the same
pub good_as : {A : Type 0} {p q : Reader A} {L M : Rule A} {may : Ahead → Bool} → Good p L may → ((ts : List Lexeme) → q ts ≡ p ts) → ((e : Ending A) (ws : List Lexeme) → L e ws → M e ws) → ((e : Ending A) (ws : List Lexeme) → M e ws → L e ws) → Good q M may
good_as {A} {p} {q} {L} {M} {may} g same to back = record {
  some = record { ending = g.some.ending; words = g.some.words; is = to g.some.ending g.some.words g.some.is };
  reads = λ ts. subst (ReadsAt q M ts) (sym (same ts)) (reads_as same to ts (p ts) (g.reads ts));
  complete = λ e ws is rest h. same (ws ++ tail e rest) ∙ g.complete e ws (back e ws is) rest h;
}

-- ---- a rule whose texts are told apart by what comes first, once they are written otherwise
abbrev pub Chosen : Bool → Type 0 → Type 0 → Type 0
Chosen true X Y = X
Chosen false X Y = Y

module _ {A : Type 0} (test : Ahead → Bool) {p q : Reader A} {L M W : Rule A} {may : Ahead → Bool} (left : Good p L may) (right : Good q M may)
    (from_left : (e : Ending A) (ws : List Lexeme) → L e ws → W e ws) (from_right : (e : Ending A) (ws : List Lexeme) → M e ws → W e ws)
    (apart : (e : Ending A) (ws rest : List Lexeme) → W e ws → (b : Bool) → test (ahead (ws ++ tail e rest)) ≡ b → Chosen b (L e ws) (M e ws)) where
  picks : (ts : List Lexeme) (b : Bool) → test (ahead ts) ≡ b → choose test p q ts ≡ cond b (p ts) (q ts)
  picks ts b h = ap (λ x. cond x (p ts) (q ts)) h

  stays : (ts ws rest more : List Lexeme) (b : Bool) → test (ahead ts) ≡ b → ts ≡ ws ++ rest → ahead more ≡ ahead rest → test (ahead (ws ++ more)) ≡ b
  stays ts ws rest more b h split same = ap test (ahead-append ws more rest same ∙ ap ahead (sym split)) ∙ h

  left_reads : (ts : List Lexeme) → test (ahead ts) ≡ true → (o : Outcome A) → ReadsAt p L ts o → ReadsAt (choose test p q) W ts o
  left_reads ts h (Ok x) r = record { ws = r.ws; splits = r.splits; text = from_left (Read x.0) r.ws r.text; again = λ more same. picks (r.ws ++ more) true (stays ts r.ws x.1 more true h r.splits same) ∙ r.again more same }
  left_reads ts h (Err x) r = record { ws = r.ws; splits = r.splits; stops = stops_as from_left x.0 r.ws x.1 r.stops; again = λ more same. picks (r.ws ++ more) true (stays ts r.ws x.1 more true h r.splits same) ∙ r.again more same }

  right_reads : (ts : List Lexeme) → test (ahead ts) ≡ false → (o : Outcome A) → ReadsAt q M ts o → ReadsAt (choose test p q) W ts o
  right_reads ts h (Ok x) r = record { ws = r.ws; splits = r.splits; text = from_right (Read x.0) r.ws r.text; again = λ more same. picks (r.ws ++ more) false (stays ts r.ws x.1 more false h r.splits same) ∙ r.again more same }
  right_reads ts h (Err x) r = record { ws = r.ws; splits = r.splits; stops = stops_as from_right x.0 r.ws x.1 r.stops; again = λ more same. picks (r.ws ++ more) false (stays ts r.ws x.1 more false h r.splits same) ∙ r.again more same }

  picked_reads : (ts : List Lexeme) (b : Bool) → test (ahead ts) ≡ b → ReadsAt (choose test p q) W ts (cond b (p ts) (q ts))
  picked_reads ts true h = left_reads ts h (p ts) (left.reads ts)
  picked_reads ts false h = right_reads ts h (q ts) (right.reads ts)

  picked_complete : (e : Ending A) (ws rest : List Lexeme) → Follows may e rest → (b : Bool) → test (ahead (ws ++ tail e rest)) ≡ b → Chosen b (L e ws) (M e ws) → choose test p q (ws ++ tail e rest) ≡ answer e rest
  picked_complete e ws rest h true t is = picks (ws ++ tail e rest) true t ∙ left.complete e ws is rest h
  picked_complete e ws rest h false t is = picks (ws ++ tail e rest) false t ∙ right.complete e ws is rest h

  pub good_branch : Good (choose test p q) W may
  good_branch = record {
    some = record { ending = left.some.ending; words = left.some.words; is = from_left left.some.ending left.some.words left.some.is };
    reads = λ ts. picked_reads ts (test (ahead ts)) refl;
    complete = λ e ws is rest h. picked_complete e ws rest h (test (ahead (ws ++ tail e rest))) refl (apart e ws rest is (test (ahead (ws ++ tail e rest))) refl);
  }
