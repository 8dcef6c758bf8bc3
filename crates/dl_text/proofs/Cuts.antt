-- Two cuts of the same bytes that go as far as they can are one.
use Rattle.std.proofs.Common.{◌≡◌, ℕ, ◌+◌, ◌≤◌, ◌<◌, List, [], ◌∷◌, ◌++◌, length, drop, arith, refl, sym, ap, ◌∙◌, subst}
use Rattle.std.specs.Prelude.{Option, Some, None}
use Rattle.std.proofs.Math.Seq.{drop-append_seam}
use Rattle.dl_text.specs.declared.class.Class.TheVariants as class
use Rattle.dl_text.specs.declared.scan.Piece.{Piece}
use Rattle.dl_text.specs.declared.scan.Piece.TheVariants as piece
use Rattle.dl_text.specs.declared.token.Token.{Token}
use Rattle.dl_text.specs.declared.token.TokenKind.{TokenKind}
use Rattle.dl_text.specs.declared.token.TextFault.{TextFault}
use Rattle.dl_text.specs.declared.token.TextFault.TheVariants.{NotAscii, BadByte, BigNumber, Memory}
use Rattle.dl_text.specs.Bytes.{class_of}
use Rattle.dl_text.specs.Text.{IsPiece, OneBlank, OneComment, OneWord, OneNumber, TwoMarks, OneMark, Cut, Done, Feed, Skip, Take, AreTokens, IsTextFault, IsForeign, IsStray, IsBig, InOrder}
use Rattle.dl_text.specs.Scan as spec
use Rattle.dl_text.proofs.Pieces.{piece_first, feed_first, foreign_first, stray_first, big_first}

-- a piece has a byte
pub piece_len : {text more : List ℕ} {kind : Option TokenKind} → IsPiece text more kind → 0 < length text
piece_len (OneBlank h) = omega arith
piece_len (OneComment h pass ends) = omega arith
piece_len (OneWord h pass ends) = omega arith
piece_len (OneNumber h pass ends small) = omega arith
piece_len (TwoMarks h) = omega arith
piece_len (OneMark h ends) = omega arith

-- one more line feed, blank or token behind a cut
pub feed_behind : {at line to end : ℕ} {bytes rest : List ℕ} {ts : List Token} → Cut at line bytes ts to end rest → (b : ℕ) (more : List ℕ) → rest ≡ b ∷ more → class_of b ≡ class.LineFeed → Cut at line bytes ts (to + 1) (end + 1) more
feed_behind {at} {line} (Done {rest}) b more is h = subst (λ r. Cut at line r [] (at + 1) (line + 1) more) (sym is) (Feed h Done)
feed_behind (Feed k c) b more is h = Feed k (feed_behind c b more is h)
feed_behind (Skip p c) b more is h = Skip p (feed_behind c b more is h)
feed_behind (Take p c) b more is h = Take p (feed_behind c b more is h)

pub skip_behind : {at line to end : ℕ} {bytes rest : List ℕ} {ts : List Token} → Cut at line bytes ts to end rest → (text more : List ℕ) → rest ≡ text ++ more → IsPiece text more None → Cut at line bytes ts (to + length text) end more
skip_behind {at} {line} (Done {rest}) text more is h = subst (λ r. Cut at line r [] (at + length text) line more) (sym is) (Skip h Done)
skip_behind (Feed k c) text more is h = Feed k (skip_behind c text more is h)
skip_behind (Skip p c) text more is h = Skip p (skip_behind c text more is h)
skip_behind (Take p c) text more is h = Take p (skip_behind c text more is h)

pub take_behind : {at line to end : ℕ} {bytes rest : List ℕ} {ts : List Token} → Cut at line bytes ts to end rest → (kind : TokenKind) (text more : List ℕ) → rest ≡ text ++ more → IsPiece text more (Some kind)
    → Cut at line bytes (ts ++ record { kind = kind; at = to; end = to + length text; line = end } ∷ []) (to + length text) end more
take_behind {at} {line} (Done {rest}) kind text more is h =
    subst (λ r. Cut at line r (record { kind = kind; at = at; end = at + length text; line = line } ∷ []) (at + length text) line more) (sym is) (Take h Done)
take_behind (Feed k c) kind text more is h = Feed k (take_behind c kind text more is h)
take_behind (Skip p c) kind text more is h = Skip p (take_behind c kind text more is h)
take_behind (Take p c) kind text more is h = Take p (take_behind c kind text more is h)

-- places are in order
in_order_from : (from from' size : ℕ) (ts : List Token) → from' ≤ from → InOrder from size ts → InOrder from' size ts
in_order_from from from' size [] le h = omega (arith, h)
in_order_from from from' size (t ∷ ts) le h = (omega (arith, h.0), h.1, h.2)

pub cut_in_order : {at line to end : ℕ} {bytes rest : List ℕ} {ts : List Token} → Cut at line bytes ts to end rest → (size : ℕ) → to ≤ size → InOrder at size ts
cut_in_order (Done {at}) size le = le
cut_in_order (Feed {at} {ts = ts} k c) size le = in_order_from (at + 1) at size ts (omega arith) (cut_in_order c size le)
cut_in_order (Skip {at} {text = text} {ts = ts} p c) size le = in_order_from (at + length text) at size ts (omega arith) (cut_in_order c size le)
cut_in_order (Take p c) size le = (omega arith, omega (arith, piece_len p), cut_in_order c size le)

-- nothing more is cut off what is left
abbrev pub IsStuck : List ℕ → Type 0
IsStuck rest = ((n : ℕ) → spec.first rest ≡ piece.Skip n → ⊥) × ((kind : TokenKind) (n : ℕ) → spec.first rest ≡ piece.Take kind n → ⊥) × (spec.first rest ≡ piece.Feed → ⊥)

pub end_stuck : IsStuck []
end_stuck = ((λ n h. cc), (λ kind n h. cc), (λ h. cc))

pub foreign_stuck : {rest : List ℕ} → IsForeign rest → IsStuck rest
foreign_stuck is = let f = foreign_first is in ((λ n h. cc), (λ kind n h. cc), (λ h. cc))

pub stray_stuck : {rest : List ℕ} → IsStray rest → IsStuck rest
stray_stuck is = let f = stray_first is in ((λ n h. cc), (λ kind n h. cc), (λ h. cc))

pub big_stuck : {rest : List ℕ} → IsBig rest → IsStuck rest
big_stuck is = let f = big_first is in ((λ n h. cc), (λ kind n h. cc), (λ h. cc))

-- the same front of the same bytes leaves the same
same_more : (text more text' more' : List ℕ) → text ++ more ≡ text' ++ more' → length text ≡ length text' → more ≡ more'
same_more text more text' more' is len = sym (drop-append_seam text more) ∙ ap (λ xs. drop (length text) xs) is ∙ ap (λ n. drop n (text' ++ more')) len ∙ drop-append_seam text' more'

pub record Same (ts us : List Token) (to to' end end' : ℕ) (rest rest' : List ℕ) : Type 0 where
  pub tokens : ts ≡ us
  pub to_is : to ≡ to'
  pub end_is : end ≡ end'
  pub rest_is : rest ≡ rest'

-- the cut of bytes that begin with a line feed, a blank or a token goes on behind it
feed_only : {at line to end : ℕ} {bytes rest : List ℕ} {ts : List Token} → Cut at line bytes ts to end rest → IsStuck rest → (b : ℕ) (more : List ℕ) → bytes ≡ b ∷ more → class_of b ≡ class.LineFeed → Cut (at + 1) (line + 1) more ts to end rest
feed_only (Done) stuck b more is h = absurd (stuck.2 (ap spec.first is ∙ feed_first b more h))
feed_only {at} {line} {to} {end} {rest = rest} {ts = ts} (Feed {b = b'} {more = more'} k c) stuck b more is h =
    let same : more' ≡ more = cc in subst (λ m. Cut (at + 1) (line + 1) m ts to end rest) same c
feed_only (Skip p c) stuck b more is h = let f = piece_first p in let g = feed_first b more h in let e = ap spec.first is in absurd (cc)
feed_only (Take p c) stuck b more is h = let f = piece_first p in let g = feed_first b more h in let e = ap spec.first is in absurd (cc)

skip_only : {at line to end : ℕ} {bytes rest : List ℕ} {ts : List Token} → Cut at line bytes ts to end rest → IsStuck rest → (text more : List ℕ) → bytes ≡ text ++ more → IsPiece text more None → Cut (at + length text) line more ts to end rest
skip_only (Done) stuck text more is h = absurd (stuck.0 (length text) (ap spec.first is ∙ piece_first h))
skip_only (Feed {b = b'} {more = more'} k c) stuck text more is h = let f = piece_first h in let g = feed_first b' more' k in let e = ap spec.first is in absurd (cc)
skip_only {at} {line} {to} {end} {rest = rest} {ts = ts} (Skip {text = text'} {more = more'} p c) stuck text more is h =
    let f = piece_first h in let g = piece_first p in let e = ap spec.first is in
    let len : length text' ≡ length text = cc in
    let same : more' ≡ more = same_more text' more' text more is len in
    subst (λ n. Cut (at + n) line more ts to end rest) len (subst (λ m. Cut (at + length text') line m ts to end rest) same c)
skip_only (Take p c) stuck text more is h = let f = piece_first h in let g = piece_first p in let e = ap spec.first is in absurd (cc)

record GoesOn (at line : ℕ) (kind : TokenKind) (text more : List ℕ) (ts : List Token) (to end : ℕ) (rest : List ℕ) : Type 0 where
  later : List Token
  begins : ts ≡ record { kind = kind; at = at; end = at + length text; line = line } ∷ later
  cut : Cut (at + length text) line more later to end rest

take_same : (at line to end : ℕ) (kind kind' : TokenKind) (text more text' more' : List ℕ) (ts : List Token) (rest : List ℕ) → kind' ≡ kind → length text' ≡ length text → more' ≡ more → Cut (at + length text') line more' ts to end rest
    → GoesOn at line kind text more (record { kind = kind'; at = at; end = at + length text'; line = line } ∷ ts) to end rest
take_same at line to end kind kind' text more text' more' ts rest kinds len same c = record {
  later = ts;
  begins = ap (λ k. record { kind = k; at = at; end = at + length text'; line = line } ∷ ts) kinds ∙ ap (λ n. record { kind = kind; at = at; end = at + n; line = line } ∷ ts) len;
  cut = subst (λ n. Cut (at + n) line more ts to end rest) len (subst (λ m. Cut (at + length text') line m ts to end rest) same c);
}

take_only : {at line to end : ℕ} {bytes rest : List ℕ} {ts : List Token} → Cut at line bytes ts to end rest → IsStuck rest → (kind : TokenKind) (text more : List ℕ) → bytes ≡ text ++ more → IsPiece text more (Some kind) → GoesOn at line kind text more ts to end rest
take_only (Done) stuck kind text more is h = absurd (stuck.1 kind (length text) (ap spec.first is ∙ piece_first h))
take_only (Feed {b = b'} {more = more'} k c) stuck kind text more is h = let f = piece_first h in let g = feed_first b' more' k in let e = ap spec.first is in absurd (cc)
take_only (Skip p c) stuck kind text more is h = let f = piece_first h in let g = piece_first p in let e = ap spec.first is in absurd (cc)
take_only {at} {line} {to} {end} {rest = rest} (Take {text = text'} {more = more'} {kind = kind'} {ts = ts} p c) stuck kind text more is h =
    let f = piece_first h in let g = piece_first p in let e = ap spec.first is in
    let len : length text' ≡ length text = cc in
    let kinds : kind' ≡ kind = cc in
    take_same at line to end kind kind' text more text' more' ts rest kinds len (same_more text' more' text more is len) c

-- so two cuts that go as far as they can are one
pub same_cut : {at line to end to' end' : ℕ} {bytes rest rest' : List ℕ} {ts us : List Token} → Cut at line bytes ts to end rest → IsStuck rest → Cut at line bytes us to' end' rest' → IsStuck rest' → Same ts us to to' end end' rest rest'
same_cut (Done) stuck d stuck' = stays d stuck
  where
    stays : {at line to' end' : ℕ} {bytes rest' : List ℕ} {us : List Token} → Cut at line bytes us to' end' rest' → IsStuck bytes → Same [] us at to' line end' bytes rest'
    stays (Done) stuck = record { tokens = refl; to_is = refl; end_is = refl; rest_is = refl }
    stays (Feed {b = b'} {more = more'} k c) stuck = absurd (stuck.2 (feed_first b' more' k))
    stays (Skip p c) stuck = absurd (stuck.0 _ (piece_first p))
    stays (Take p c) stuck = absurd (stuck.1 _ _ (piece_first p))
same_cut (Feed {b = b} {more = more} k c) stuck d stuck' = same_cut c stuck (feed_only d stuck' b more refl k) stuck'
same_cut (Skip {text = text} {more = more} p c) stuck d stuck' = same_cut c stuck (skip_only d stuck' text more refl p) stuck'
same_cut (Take {at} {line} {text = text} {more = more} {kind = kind} p c) stuck d stuck' =
    let g = take_only d stuck' kind text more refl p in
    let s = same_cut c stuck g.cut stuck' in
    record {
      tokens = ap (λ us. record { kind = kind; at = at; end = at + length text; line = line } ∷ us) s.tokens ∙ sym g.begins;
      to_is = s.to_is;
      end_is = s.end_is;
      rest_is = s.rest_is;
    }

-- the answer to what is left where no more is cut off
abbrev pub fault_answer : TextFault → Piece
fault_answer (NotAscii at line) = piece.Foreign
fault_answer (BadByte at line) = piece.Stray
fault_answer (BigNumber at line) = piece.Big
fault_answer Memory = piece.End

abbrev pub place_of : TextFault → ℕ × ℕ
place_of (NotAscii at line) = (at, line)
place_of (BadByte at line) = (at, line)
place_of (BigNumber at line) = (at, line)
place_of Memory = (0, 0)

-- a fault of a text, by the function
pub record Stops (bytes : List ℕ) (f : TextFault) : Type 0 where
  pub tokens : List Token
  pub rest : List ℕ
  pub cut : Cut 0 1 bytes tokens (place_of f).0 (place_of f).1 rest
  pub stuck : IsStuck rest
  pub answers : spec.first rest ≡ fault_answer f
  pub real : fault_answer f ≡ piece.End → ⊥

pub stops : (bytes : List ℕ) (f : TextFault) → IsTextFault bytes f → Stops bytes f
stops bytes (NotAscii at line) h = record { tokens = h.0; rest = h.1; cut = h.2; stuck = foreign_stuck h.3; answers = foreign_first h.3; real = λ e. cc }
stops bytes (BadByte at line) h = record { tokens = h.0; rest = h.1; cut = h.2; stuck = stray_stuck h.3; answers = stray_first h.3; real = λ e. cc }
stops bytes (BigNumber at line) h = record { tokens = h.0; rest = h.1; cut = h.2; stuck = big_stuck h.3; answers = big_first h.3; real = λ e. cc }
stops bytes Memory h = absurd h

same_fault : (e f : TextFault) → fault_answer e ≡ fault_answer f → (place_of e).0 ≡ (place_of f).0 → (place_of e).1 ≡ (place_of f).1 → (fault_answer e ≡ piece.End → ⊥) → e ≡ f
same_fault (NotAscii at line) (NotAscii to end) a p q r = cc
same_fault (NotAscii at line) (BadByte to end) a p q r = cc
same_fault (NotAscii at line) (BigNumber to end) a p q r = cc
same_fault (NotAscii at line) Memory a p q r = cc
same_fault (BadByte at line) (NotAscii to end) a p q r = cc
same_fault (BadByte at line) (BadByte to end) a p q r = cc
same_fault (BadByte at line) (BigNumber to end) a p q r = cc
same_fault (BadByte at line) Memory a p q r = cc
same_fault (BigNumber at line) (NotAscii to end) a p q r = cc
same_fault (BigNumber at line) (BadByte to end) a p q r = cc
same_fault (BigNumber at line) (BigNumber to end) a p q r = cc
same_fault (BigNumber at line) Memory a p q r = cc
same_fault Memory f a p q r = absurd (r refl)

-- one list of tokens, or one fault
pub one_list : (bytes : List ℕ) (ts us : List Token) → AreTokens bytes ts → AreTokens bytes us → ts ≡ us
one_list bytes ts us a b = (same_cut a.2 end_stuck b.2 end_stuck).tokens

pub one_fault : (bytes : List ℕ) (e f : TextFault) → IsTextFault bytes e → IsTextFault bytes f → e ≡ f
one_fault bytes e f a b =
    let s = stops bytes e a in
    let t = stops bytes f b in
    let same = same_cut s.cut s.stuck t.cut t.stuck in
    same_fault e f (sym s.answers ∙ ap spec.first same.rest_is ∙ t.answers) same.to_is same.end_is s.real

pub not_both : (bytes : List ℕ) (ts : List Token) (f : TextFault) → AreTokens bytes ts → IsTextFault bytes f → ⊥
not_both bytes ts f a b =
    let t = stops bytes f b in
    let same = same_cut a.2 end_stuck t.cut t.stuck in
    t.real (sym t.answers ∙ ap spec.first (sym same.rest_is))
