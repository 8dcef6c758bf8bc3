-- The entries that are kept of a caller are its own.
use Rattle.std.proofs.Common.{◌≡◌, ◌++◌, [], ◌∷◌, ℕ, sym, ap, subst}
use Rattle.std.specs.Prelude.{All}
use Rattle.std.proofs.lemmas.List.Elements.{All-append, All-cons, All-nil}
use Rattle.dl_ir.specs.declared.answers.Entry.{Entry}
use Rattle.dl_core.specs.declared.frames.Frame.{Frame as Kept}
use Rattle.dl_core.specs.Parts.{HasOwn}
use Rattle.dl_core.specs.Rooms.{Roomed}
use Rattle.dl_core.specs.Shown.{Rooms, rooms_of}

abbrev OfCaller : ℕ → Entry → Type 0
OfCaller caller entry = entry.caller ≡ caller

-- so are they with another one behind
pub own_more : (caller : ℕ) (before after : Kept) (entry : Entry) → entry.caller ≡ caller → after.entries.items ≡ before.entries.items ++ entry ∷ [] → HasOwn caller before → HasOwn caller after
own_more caller before after entry is more own =
    subst (All (OfCaller caller)) (sym more) (All-append (OfCaller caller) before.entries.items (entry ∷ []) own (All-cons (OfCaller caller) entry [] is (All-nil (OfCaller caller))))

-- and where they stay
pub own_same : (caller : ℕ) (before after : Kept) → after.entries ≡ before.entries → HasOwn caller before → HasOwn caller after
own_same caller before after same own = subst (λ (entries : Roomed Entry). All (OfCaller caller) entries.items) (sym same) own

pub own_rooms : (caller : ℕ) (before after : Kept) → rooms_of after ≡ rooms_of before → HasOwn caller before → HasOwn caller after
own_rooms caller before after same own = own_same caller before after (ap (λ (r : Rooms). r.entries) same) own
