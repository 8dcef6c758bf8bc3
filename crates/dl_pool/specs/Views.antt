-- What each step makes of the pool's part of a view.
use Rattle.std.specs.Prelude.{ℕ, ◌+◌, ◌-◌, [], ◌∷◌, ◌++◌, max}
use Rattle.dl_pool.specs.declared.views.Event.{Event}
use Rattle.dl_pool.specs.declared.views.Event.TheVariants.{Moved, Refused}
use Rattle.dl_pool.specs.declared.views.Seen.{Seen}
use Rattle.dl_pool.specs.declared.views.Seen.TheVariants.{Nothing, Load, Exchange, Added, Stored}
use Rattle.dl_pool.specs.declared.views.Look.{Look}
use Rattle.dl_pool.specs.declared.views.Part.{Part}
use Rattle.dl_pool.specs.declared.views.Member.{Member}
use Rattle.dl_pool.specs.Rule.{version_of, free_of, accounts, version_at}

-- the look after one more step
abbrev pub looking : Seen → Look → Look
looking s l = record { count = l.count + 1; last = s; before = l.last }

-- the look of a seat that has made no step
abbrev pub no_look : Look
no_look = record { count = 0; last = Nothing; before = Nothing }

-- the part after a step of which only the look tells
abbrev pub stepping : Seen → Part → Part
stepping s p = record p { look = looking s p.look }

abbrev pub member : {X : Type 0} → Part → X → Member X
member p x = record { pool = p; rest = x }

-- one more event at the end of the seat's own list
abbrev pub writing : Event → Part → Part
writing e p = record p { events = p.events ++ e ∷ []; known = version_at e }

-- a load of word 0 that found n, and enough
abbrev pub loaded : ℕ → Part → Part
loaded n p = stepping (Load 0 n) p

-- a load of word 0 that found n, and too little for `need`
abbrev pub refused : ℕ → ℕ → Part → Part
refused need n p = stepping (Load 0 n) (writing (Refused record { need = need; found = free_of n; version = version_of n }) p)

-- an exchange of word 0 that found n, which was expected
abbrev pub reserved : ℕ → ℕ → Part → Part
reserved need n p = record (stepping (Exchange 0 n) (writing (Moved record { version = version_of n + 1; taken = need; back = 0 }) p)) { spares = p.spares + need }

-- an exchange of word 0 that found n, which was not expected
abbrev pub raced : ℕ → Part → Part
raced n p = stepping (Exchange 0 n) p

-- an addition to word 0 that found n
abbrev pub gave_back : ℕ → ℕ → Part → Part
gave_back count n p = record (stepping (Added 0 n) (writing (Moved record { version = version_of n + 1; taken = 0; back = count }) p)) { spares = p.spares - count }

-- an exchange of the state of a place that found it vacant
abbrev pub claimed : ℕ → Part → Part
claimed word p = record (stepping (Exchange word 0) p) { spares = p.spares - 1 }

-- an exchange of another word that found n
abbrev pub looked : ℕ → ℕ → Part → Part
looked word n p = stepping (Exchange word n) p

-- a store of 0 to the state of a place
abbrev pub vacated : ℕ → Part → Part
vacated word p = record (stepping (Stored word) p) { spares = p.spares + 1 }

-- what a note has: the known version alone
abbrev pub note_part : Part → Part
note_part p = record { number = 0; events = []; others = []; dealing = 0; spares = 0; known = p.known; look = no_look }

-- the seat that a new number is dealt to
abbrev pub dealt_part : Part → Part
dealt_part p = record (note_part p) { number = p.dealing }

-- the seat that has dealt a number
abbrev pub dealing_on : Part → Part
dealing_on p = record p { dealing = p.dealing + 1 }

-- a note is taken in
abbrev pub learnt : Part → Part → Part
learnt p q = record p { known = max p.known q.known }

-- the seat of another caller is taken in: each keeps its own list
abbrev pub joined : Part → Part → Part
joined p q = record p { others = p.others ++ accounts q; spares = p.spares + q.spares; known = max p.known q.known }

-- what a view that was taken in leaves behind
abbrev pub spent_part : Part
spent_part = record { number = 0; events = []; others = []; dealing = 0; spares = 0; known = 0; look = no_look }

-- the first seat of a table, which may deal out every number from 1 on
abbrev pub first_part : Part
first_part = record spent_part { dealing = 1 }
