-- Words and lines as the fronts of the bytes that are left.
use Rattle.std.proofs.Common.{◌≡◌, ◌≢◌, ℕ, suc, ◌+◌, ◌≤◌, Bool, true, false, not, List, [], ◌∷◌, length, take, drop, refl, ap, ◌∙◌, sym, subst, arith, filter}
use Rattle.std.specs.List.{prefix_len}
use Rattle.std.proofs.lemmas.List.Sums.{prefix_len-le-length}
use Rattle.dl_text.specs.Bytes.{is_blank}
use Rattle.dl_syntax.specs.Line.{with_first, pieces, is_filled, words_of}

-- a front is within the list
pub front_within : (p : ℕ → Bool) (xs : List ℕ) → prefix_len p xs ≤ length xs
front_within p xs = prefix_len-le-length p xs

-- one more, as a constructor
one_more : (n : ℕ) → 1 + n ≡ suc n
one_more n = omega arith

-- how long the first piece is
abbrev pub piece_len : (ℕ → Bool) → List ℕ → ℕ
piece_len test bytes = prefix_len (λ b. not (test b)) bytes

-- the pieces behind a byte that passes the test, if one is left
abbrev pub behind : (ℕ → Bool) → List ℕ → List (List ℕ)
behind test [] = []
behind test (b ∷ rest) = pieces test rest

cut_cons : (test : ℕ → Bool) (b : ℕ) (rest : List ℕ) (v : Bool) → test b ≡ v
    → pieces test rest ≡ take (piece_len test rest) rest ∷ behind test (drop (piece_len test rest) rest)
    → pieces test (b ∷ rest) ≡ take (piece_len test (b ∷ rest)) (b ∷ rest) ∷ behind test (drop (piece_len test (b ∷ rest)) (b ∷ rest))
cut_cons test b rest true e ih = rw e refl
cut_cons test b rest false e ih = rw (e, one_more (piece_len test rest)) (ap (with_first b) ih)

-- the first piece, and those behind it
pub pieces_cut : (test : ℕ → Bool) (bytes : List ℕ) → pieces test bytes ≡ take (piece_len test bytes) bytes ∷ behind test (drop (piece_len test bytes) bytes)
pieces_cut test [] = refl
pieces_cut test (b ∷ rest) = cut_cons test b rest (test b) refl (pieces_cut test rest)

behind_cons : (b : ℕ) (rest : List ℕ) (v : Bool) → is_blank b ≡ v
    → filter is_filled (behind is_blank (drop (piece_len is_blank rest) rest)) ≡ words_of (drop (piece_len is_blank rest) rest)
    → filter is_filled (behind is_blank (drop (piece_len is_blank (b ∷ rest)) (b ∷ rest))) ≡ words_of (drop (piece_len is_blank (b ∷ rest)) (b ∷ rest))
behind_cons b rest true e ih = rw (e, e) refl
behind_cons b rest false e ih = rw (e, one_more (piece_len is_blank rest)) ih

-- the words behind a word are those of the bytes behind it
pub words_behind : (bytes : List ℕ) → filter is_filled (behind is_blank (drop (piece_len is_blank bytes) bytes)) ≡ words_of (drop (piece_len is_blank bytes) bytes)
words_behind [] = refl
words_behind (b ∷ rest) = behind_cons b rest (is_blank b) refl (words_behind rest)

-- the bytes from the first word on
abbrev pub unblank : List ℕ → List ℕ
unblank bytes = drop (prefix_len is_blank bytes) bytes

word_cons : (b : ℕ) (rest : List ℕ) → is_blank b ≡ false → words_of (b ∷ rest) ≡ take (piece_len is_blank (b ∷ rest)) (b ∷ rest) ∷ words_of (drop (piece_len is_blank (b ∷ rest)) (b ∷ rest))
word_cons b rest e =
    ap (filter is_filled) (pieces_cut is_blank (b ∷ rest))
    ∙ rw (e, one_more (piece_len is_blank rest)) (ap (λ (ws : List (List ℕ)). (b ∷ take (piece_len is_blank rest) rest) ∷ ws) (words_behind rest))

-- bytes with no blank before them
unblank_word : (b : ℕ) (rest : List ℕ) → is_blank b ≡ false → unblank (b ∷ rest) ≡ b ∷ rest
unblank_word b rest e = rw e refl

-- bytes behind a blank
unblank_blank : (b : ℕ) (rest : List ℕ) → is_blank b ≡ true → unblank (b ∷ rest) ≡ unblank rest
unblank_blank b rest e = rw (e, one_more (prefix_len is_blank rest)) refl

words_blank : (b : ℕ) (rest : List ℕ) → is_blank b ≡ true → words_of (b ∷ rest) ≡ words_of rest
words_blank b rest e = rw e refl

long_word : (b : ℕ) (rest : List ℕ) → is_blank b ≡ false → piece_len is_blank (b ∷ rest) ≢ 0
long_word b rest e h = let z : 1 + piece_len is_blank rest ≡ 0 = rw e at h in absurd (omega (arith, z))

-- where the first word of some bytes stands, if they have one
pub record FirstWord (bytes from : List ℕ) : Type 0 where
  pub none : piece_len is_blank from ≡ 0 → words_of bytes ≡ []
  pub some : piece_len is_blank from ≢ 0 → words_of bytes ≡ take (piece_len is_blank from) from ∷ words_of (drop (piece_len is_blank from) from)

first_cons : (b : ℕ) (rest : List ℕ) (v : Bool) → is_blank b ≡ v → FirstWord rest (unblank rest) → FirstWord (b ∷ rest) (unblank (b ∷ rest))
first_cons b rest true e ih =
    subst (λ (from : List ℕ). FirstWord (b ∷ rest) from) (sym (unblank_blank b rest e)) (record {
      none = λ h. words_blank b rest e ∙ ih.none h;
      some = λ h. words_blank b rest e ∙ ih.some h;
    })
first_cons b rest false e ih =
    subst (λ (from : List ℕ). FirstWord (b ∷ rest) from) (sym (unblank_word b rest e)) (record {
      none = λ h. absurd (long_word b rest e h);
      some = λ h. word_cons b rest e;
    })

first_word : (bytes : List ℕ) → FirstWord bytes (unblank bytes)
first_word [] = record { none = λ h. refl; some = λ h. absurd (h refl) }
first_word (b ∷ rest) = first_cons b rest (is_blank b) refl (first_word rest)

-- no word is there
pub no_word : (bytes rest : List ℕ) (k n : ℕ) → k ≡ prefix_len is_blank bytes → rest ≡ drop k bytes → n ≡ piece_len is_blank rest → n ≡ 0 → words_of bytes ≡ []
no_word bytes rest k n a b c d =
    let from : rest ≡ unblank bytes = b ∙ ap (λ (i : ℕ). drop i bytes) a in
    (first_word bytes).none (ap (piece_len is_blank) (sym from) ∙ sym c ∙ d)

-- a word is there
pub a_word : (bytes rest word more : List ℕ) (k n : ℕ) → k ≡ prefix_len is_blank bytes → rest ≡ drop k bytes → n ≡ piece_len is_blank rest → n ≢ 0
    → word ≡ take n rest → more ≡ drop n rest → words_of bytes ≡ word ∷ words_of more
a_word bytes rest word more k n a b c d e f =
    let from : rest ≡ unblank bytes = b ∙ ap (λ (i : ℕ). drop i bytes) a in
    let len : n ≡ piece_len is_blank (unblank bytes) = c ∙ ap (piece_len is_blank) from in
    let cut = (first_word bytes).some (λ z. d (len ∙ z)) in
    cut ∙ sym (both_cut word more rest n (unblank bytes) (piece_len is_blank (unblank bytes)) from len e f)
  where
    both_cut : (word more rest : List ℕ) (n : ℕ) (from : List ℕ) (m : ℕ) → rest ≡ from → n ≡ m → word ≡ take n rest → more ≡ drop n rest
        → word ∷ words_of more ≡ take m from ∷ words_of (drop m from)
    both_cut word more rest n from m a b c d = cc
