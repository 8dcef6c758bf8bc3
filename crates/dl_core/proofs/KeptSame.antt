-- A frame is what it shows, with its memory and what is kept beside it.
use Rattle.std.proofs.Common.{◌≡◌, ap}
use Rattle.dl_core.specs.declared.frames.Frame.{Frame as Kept}
use Rattle.dl_core.specs.Core.{Account}
use Rattle.dl_core.specs.Shown.{shown, rooms_of, memory_of, Rooms, Memory}
use Rattle.dl_core.specs.Accounts.{shown_account, versions_in}
use Rattle.std.specs.Prelude.{map}

pub kept_same : (a b : Kept) → shown a ≡ shown b → rooms_of a ≡ rooms_of b → a ≡ b
kept_same a b s r = λ i. record {
  stage = (s i).stage;
  op = (s i).call.op;
  args = record { items = (s i).call.args; room = (r i).args };
  roots = (r i).roots;
  index = (s i).index;
  taken = (s i).taken;
  ticket = (s i).ticket;
  place = (s i).place;
  locals = record { items = (s i).locals; room = (r i).locals };
  hand = (s i).hand;
  turns = (s i).turns;
  made = (s i).made;
  emitted = (s i).emitted;
  spares = (s i).spares;
  book = record { rows = (s i).book; room = (r i).book };
  loose = record { items = (s i).loose; room = (r i).loose };
  cursor = (s i).cursor;
  seen = (s i).seen;
  breach = (s i).breach;
  reserved_at = (r i).reserved_at;
  entries = (r i).entries;
  refusals = (r i).refusals;
}

-- with these the account stays, and the memory
pub account_same : (a b : Kept) → rooms_of a ≡ rooms_of b → shown_account a ≡ shown_account b
account_same a b r = ap (λ (k : Rooms). account_in k) r
  where
    account_in : Rooms → Account
    account_in k = record { reserved_at = k.reserved_at; versions = map versions_in k.entries.items; refusals = k.refusals.items }

pub memory_same : (a b : Kept) → rooms_of a ≡ rooms_of b → memory_of a ≡ memory_of b
memory_same a b r = ap (λ (k : Rooms). memory_in k) r
  where
    memory_in : Rooms → Memory
    memory_in k = record { args = k.args; roots = k.roots.room; locals = k.locals; book = k.book; loose = k.loose; entries = k.entries.room; refusals = k.refusals.room }
