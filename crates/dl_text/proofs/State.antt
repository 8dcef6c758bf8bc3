-- What the scanner knows at each place, and what follows where it stops.
use Rattle.std.proofs.Common.{◌≡◌, ◌≢◌, ℕ, ◌+◌, ◌≤◌, ◌<◌, List, [], ◌∷◌, ◌++◌, length, drop, arith, sym, ap, ◌∙◌, subst, length-append}
use Rattle.std.specs.Prelude.{Option, Some, None}
use Rattle.std.proofs.Math.Seq.{drop-append_seam}
use Rattle.dl_text.specs.declared.scan.Piece.{Piece}
use Rattle.dl_text.specs.declared.scan.Piece.TheVariants as piece
use Rattle.dl_text.specs.declared.token.Token.{Token}
use Rattle.dl_text.specs.declared.token.TokenKind.{TokenKind}
use Rattle.dl_text.specs.declared.token.TextFault.{TextFault}
use Rattle.dl_text.specs.declared.token.TextFault.TheVariants.{Memory}
use Rattle.dl_text.specs.Text.{Cut, Done, AreTokens, IsTextFault, InOrder}
use Rattle.dl_text.specs.Scan as spec
use Rattle.dl_text.proofs.Pieces.{IsCutting, Meaning, means}
use Rattle.dl_text.proofs.Cuts.{one_list, one_fault, not_both, feed_behind, skip_behind, take_behind, cut_in_order, piece_len}

-- the bytes before the place are cut into the tokens so far
pub record State (bytes : List ℕ) (found : List Token) (at line : ℕ) (rest : List ℕ) : Type 0 where
  pub cut : Cut 0 1 bytes found at line rest
  pub place : at + length rest ≡ length bytes
  pub lines : line ≤ at + 1

pub begin : (bytes : List ℕ) (found : List Token) → found ≡ [] → State bytes found 0 1 bytes
begin bytes found none = subst (λ ts. State bytes ts 0 1 bytes) (sym none) (record { cut = Done; place = omega arith; lines = omega arith })

-- what the answer of the function means
pub meaning : (rest : List ℕ) (p : Piece) → p ≡ spec.first rest → Meaning rest p
meaning rest p is = subst (Meaning rest) (sym is) (means rest)

-- a piece of so many bytes fits the bytes that are left
pub record Fits (n : ℕ) (rest : List ℕ) : Type 0 where
  pub positive : 0 < n
  pub within : n ≤ length rest

pub cutting_fits : (rest : List ℕ) (n : ℕ) (kind : Option TokenKind) → IsCutting rest n kind → Fits n rest
cutting_fits rest n kind c = record {
  positive = omega (arith, c.len, piece_len c.is);
  within = omega (arith, c.len, ap length c.split, length-append c.text c.more);
}

pub skip_fits : (rest : List ℕ) (n : ℕ) → piece.Skip n ≡ spec.first rest → Fits n rest
skip_fits rest n is = cutting_fits rest n None (meaning rest (piece.Skip n) is)

pub take_fits : (rest : List ℕ) (kind : TokenKind) (n : ℕ) → piece.Take kind n ≡ spec.first rest → Fits n rest
take_fits rest kind n is = cutting_fits rest n (Some kind) (meaning rest (piece.Take kind n) is)

pub feed_fits : (rest : List ℕ) → piece.Feed ≡ spec.first rest → Fits 1 rest
feed_fits rest is = let m = meaning rest piece.Feed is in record { positive = omega arith; within = omega (arith, ap length m.2) }

left : (rest text more : List ℕ) (n : ℕ) → rest ≡ text ++ more → n ≡ length text → more ≡ drop n rest
left rest text more n split len = sym (drop-append_seam text more) ∙ ap (λ xs. drop (length text) xs) (sym split) ∙ ap (λ k. drop k rest) (sym len)

module _ {bytes : List ℕ} {found : List Token} {at line : ℕ} {rest : List ℕ} (s : State bytes found at line rest) where
  pub feed_next : piece.Feed ≡ spec.first rest → State bytes found (at + 1) (line + 1) (drop 1 rest)
  feed_next is =
      let m = meaning rest piece.Feed is in
      let more_is : m.1 ≡ drop 1 rest = ap (λ xs. drop 1 xs) (sym m.2) in
      subst (State bytes found (at + 1) (line + 1)) more_is
      (record { cut = feed_behind s.cut m.0 m.1 m.2 m.3; place = omega (arith, s.place, ap length m.2); lines = omega (arith, s.lines) })

  pub skip_next : (n : ℕ) → piece.Skip n ≡ spec.first rest → State bytes found (at + n) line (drop n rest)
  skip_next n is =
      let m = meaning rest (piece.Skip n) is in
      subst (λ k. State bytes found (at + k) line (drop n rest)) (sym m.len)
      (subst (State bytes found (at + length m.text) line) (left rest m.text m.more n m.split m.len)
      (record { cut = skip_behind s.cut m.text m.more m.split m.is; place = omega (arith, s.place, ap length m.split, length-append m.text m.more); lines = omega (arith, s.lines) }))

  pub take_next : (kind : TokenKind) (n : ℕ) → piece.Take kind n ≡ spec.first rest → State bytes (found ++ record { kind = kind; at = at; end = at + n; line = line } ∷ []) (at + n) line (drop n rest)
  take_next kind n is =
      let m = meaning rest (piece.Take kind n) is in
      subst (λ k. State bytes (found ++ record { kind = kind; at = at; end = at + k; line = line } ∷ []) (at + k) line (drop n rest)) (sym m.len)
      (subst (State bytes (found ++ record { kind = kind; at = at; end = at + length m.text; line = line } ∷ []) (at + length m.text) line) (left rest m.text m.more n m.split m.len)
      (record { cut = take_behind s.cut kind m.text m.more m.split m.is; place = omega (arith, s.place, ap length m.split, length-append m.text m.more); lines = omega (arith, s.lines) }))

  pub all_found : piece.End ≡ spec.first rest → AreTokens bytes found
  all_found is = (at, line, subst (Cut 0 1 bytes found at line) (meaning rest piece.End is) s.cut)

  pub only_found : piece.End ≡ spec.first rest → (ts : List Token) → AreTokens bytes ts → found ≡ ts
  only_found is ts h = one_list bytes found ts (all_found is) h

  pub no_fault : piece.End ≡ spec.first rest → (f : TextFault) → IsTextFault bytes f → ⊥
  no_fault is f h = not_both bytes found f (all_found is) h

  pub ordered : InOrder 0 (length bytes) found
  ordered = cut_in_order s.cut (length bytes) (omega (arith, s.place))

-- where a fault is found there are no tokens, and no other fault
pub not_tokens : (bytes : List ℕ) (f : TextFault) → IsTextFault bytes f → (ts : List Token) → AreTokens bytes ts → f ≡ Memory
not_tokens bytes f is ts h = absurd (not_both bytes ts f h is)

pub only_fault : (bytes : List ℕ) (f : TextFault) → IsTextFault bytes f → (g : TextFault) → IsTextFault bytes g → f ≢ Memory → f ≡ g
only_fault bytes f is g h real = one_fault bytes f g is h

-- one round: so many bytes are taken, and it is so behind them
pub record Round (bytes : List ℕ) (found : List Token) (at line n : ℕ) (rest : List ℕ) : Type 0 where
  pub fits : Fits n rest
  pub state : State bytes found (at + n) line (drop n rest)

pub same_round : {bytes : List ℕ} {found found' : List Token} {at line line' n n' : ℕ} {rest : List ℕ} → found' ≡ found → line' ≡ line → n' ≡ n → Round bytes found at line n rest → Round bytes found' at line' n' rest
same_round {bytes} {found} {found'} {at} {line} {line'} {n} {n'} {rest} f l k r =
    subst (λ ts. Round bytes ts at line' n' rest) (sym f) (subst (λ x. Round bytes found at x n' rest) (sym l) (subst (λ x. Round bytes found at line x rest) (sym k) r))
