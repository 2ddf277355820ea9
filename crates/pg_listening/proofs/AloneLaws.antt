-- A listener on a pool of its own: the one participant of a pool of one, and what it begins with.
use Rattle.std.proofs.Common.{◌≡◌, ℕ, true, false, List, [], ◌∷◌, ◌++◌, ◌∙◌, Some, Result, Ok, ap, refl}
use Rattle.pg_wire.specs.declared.error.Error.{Error}
use Rattle.pg_options.specs.Options.{ConnectOptions}
use Rattle.pg_conn.specs.Dials.{DialSeen}
use Rattle.pg_pool.specs.declared.seat.Receipt.{Receipt}
use Rattle.pg_pool.specs.Seats.{SeatSeen}
use Rattle.pg_listen.specs.Handed.{FillingOf, HeldOf, PoolSeen}
use Rattle.pg_pool.specs.Pools.{new_seats, told_seats}
use Rattle.pg_listening.specs.Hearing.{fresh_hearing}
use Rattle.pg_listening.specs.Sources.{PoolSourceOf, pool_source}
use Rattle.pg_listening.specs.Listeners.{BeginsAlone, IsFirst, ListenerOf}

one_head : {T : Type 0} (x y : T) → x ∷ [] ≡ y ∷ [] → x ≡ y
one_head x y e = cc

first_by : (name : ℕ) (s : SeatSeen) → ◌≡◌ {A = ℕ × ℕ × List Receipt × List ℕ} (s.number, s.name, s.receipts, s.ids) (0, name, [], []) → IsFirst name s
first_by name s e = (ap (λ (p : ℕ × ℕ × List Receipt × List ℕ). p.0) e, ap (λ (p : ℕ × ℕ × List Receipt × List ℕ). p.1) e, ap (λ (p : ℕ × ℕ × List Receipt × List ℕ). p.2) e, ap (λ (p : ℕ × ℕ × List Receipt × List ℕ). p.3) e)

pub the_first : (name : ℕ) (xs : List SeatSeen) (s : SeatSeen) → told_seats (xs ++ s ∷ []) ≡ new_seats name 1 → IsFirst name s
the_first name [] s e = first_by name s (one_head (s.number, s.name, s.receipts, s.ids) (0, name, [], []) e)
the_first name (x ∷ []) s e = absurd cc
the_first name (x ∷ y ∷ xs) s e = absurd cc

-- it begins over such a pool, and ignores a close of it
pub begins_alone : {D A : Type 0} (dial_of : D → DialSeen) (most name : ℕ) (options : Result ConnectOptions Error) (read : ConnectOptions) (dial : D) (pool : PoolSeen) (seat : SeatSeen) (l : ListenerOf (PoolSourceOf PoolSeen SeatSeen D) (HeldOf A) (FillingOf A) A) → options ≡ Ok read → pool ≡ record { name = name; options = read } → IsFirst name seat
    → l.source ≡ pool_source (λ p. p) (λ s. s) dial_of most pool seat dial → l.hearing ≡ fresh_hearing pool.name true → BeginsAlone dial_of most name options dial (Some l) false
begins_alone {D} {A} dial_of most name options read dial pool seat l is made first over h =
    (read, l, is, refl, (seat, first, over ∙ ap (λ (p : PoolSeen). pool_source (λ p. p) (λ s. s) dial_of most p seat dial) made, h ∙ ap (λ (x : PoolSeen). fresh_hearing {C = HeldOf A} {S = FillingOf A} {A = A} x.name true) made), refl)
