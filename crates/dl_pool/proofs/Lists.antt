-- What holds of each member of a list, and lists whose versions rise.
use Rattle.std.proofs.Common.{◌≢◌, ◌<◌, List, [], ◌∷◌, ◌++◌}
use Rattle.dl_pool.specs.declared.views.Event.{Event}
use Rattle.dl_pool.specs.declared.views.Account.{Account}
use Rattle.dl_pool.specs.Rule.{Every, Later, Rises, AreApart}

module _ {A : Type 0} where
  pub every_map : (P Q : A → Type 0) → ((x : A) → P x → Q x) → (xs : List A) → Every P xs → Every Q xs
  every_map P Q f [] h = tt
  every_map P Q f (x ∷ xs) h = (f x h.0, every_map P Q f xs h.1)

  pub every_append : (P : A → Type 0) (xs ys : List A) → Every P xs → Every P ys → Every P (xs ++ ys)
  every_append P [] ys h i = i
  every_append P (x ∷ xs) ys h i = (h.0, every_append P xs ys h.1 i)

  pub every_snoc : (P : A → Type 0) (xs : List A) (y : A) → Every P xs → P y → Every P (xs ++ y ∷ [])
  every_snoc P [] y h i = (i, tt)
  every_snoc P (x ∷ xs) y h i = (h.0, every_snoc P xs y h.1 i)

  -- each of the one list beside each of the other
  pub every_pair : (P : A → A → Type 0) (Q R : A → Type 0) → ((x y : A) → Q x → R y → P x y) → (x : A) → Q x → (ys : List A) → Every R ys → Every (P x) ys
  every_pair P Q R f x q ys h = every_map R (P x) (λ y r. f x y q r) ys h

-- an event that is later than each of a rising list stands at its end
pub rises_snoc : (es : List Event) (e : Event) → Rises es → Every (λ x. Later x e) es → Rises (es ++ e ∷ [])
rises_snoc [] e h l = (tt, tt)
rises_snoc (x ∷ xs) e h l = (every_snoc (Later x) xs e h.0 l.0, rises_snoc xs e h.1 l.1)

-- two lists of accounts whose numbers differ
pub apart_append : (xs ys : List Account) (Q R : Account → Type 0) → ((x y : Account) → Q x → R y → 0 < x.number → x.number ≢ y.number) → AreApart xs → AreApart ys → Every Q xs → Every R ys → AreApart (xs ++ ys)
apart_append [] ys Q R f h i q r = i
apart_append (x ∷ xs) ys Q R f h i q r = (
  every_append (λ b. 0 < x.number → x.number ≢ b.number) xs ys h.0 (every_map R (λ b. 0 < x.number → x.number ≢ b.number) (λ y r'. f x y q.0 r') ys r),
  apart_append xs ys Q R f h.1 i q.1 r,
)

-- two things hold of each
pub every_both : {A : Type 0} (P Q R : A → Type 0) → ((x : A) → P x → Q x → R x) → (xs : List A) → Every P xs → Every Q xs → Every R xs
every_both P Q R f [] h i = tt
every_both P Q R f (x ∷ xs) h i = (f x h.0 i.0, every_both P Q R f xs h.1 i.1)
