-- Participants that are made one by one.
use Rattle.std.proofs.Common.{ℕ, ◌≡◌, List, [], ◌∷◌, ◌++◌, refl, ap}
use Rattle.pg_pool.specs.Seats.{SeatSeen}
use Rattle.pg_pool.specs.Pools.{told_seats}

pub told_seats_more : (ss : List SeatSeen) (s : SeatSeen) → told_seats (ss ++ s ∷ []) ≡ told_seats ss ++ (s.number, s.name, s.receipts, s.ids) ∷ []
told_seats_more [] s = refl
told_seats_more (x ∷ ss) s = ap (λ rest. (x.number, x.name, x.receipts, x.ids) ∷ rest) (told_seats_more ss s)
