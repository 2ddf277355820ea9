-- What is seen of a clock.
use Rattle.std.specs.Prelude.{◌≡◌, ◌⊎◌, ℕ, ◌+◌, ◌-◌, ◌^◌, ◌≤◌, min, max, nat_eq, Bool, if◌then◌else◌, List, [], ◌∷◌, ℤ, pos}
use Rattle.std.specs.List.{list_any}

-- How often a clock was read, what it told last, and how many readings failed. Each count stops at its type's end.
pub record ClockSeen : Type 0 where
  pub readings : ℕ
  pub last : ℕ
  pub faults : ℕ

abbrev pub nothing_read : ClockSeen
nothing_read = record { readings = 0; last = 0; faults = 0 }

abbrev pub one_more : ℕ → ℕ
one_more n = min (n + 1) (2 ^ 64 - 1)

-- a reading that told a time
abbrev pub told : ℕ → ClockSeen → ClockSeen
told now a = record { readings = one_more a.readings; last = now; faults = a.faults }

-- a reading that failed
abbrev pub failed : ClockSeen → ClockSeen
failed a = record { readings = one_more a.readings; last = a.last; faults = one_more a.faults }

-- Each reading is counted and never before the last one, which one that fails tells again.
pub record IsReading (a b : ClockSeen) (now : ℕ) : Type 0 where
  pub counted : b.readings ≡ one_more a.readings
  pub forward : a.last ≤ now
  pub last : b.last ≡ now
  pub faults : (b.faults ≡ a.faults) ⊎ ((b.faults ≡ one_more a.faults) × (now ≡ a.last))

-- ---- a clock in memory

-- The times that are left, the readings that fail, and what is seen of it.
pub record MemoryClockState : Type 0 where
  pub ahead : List ℕ
  pub failing : List ℕ
  pub seen : ClockSeen

-- the next reading is one of those that fail
abbrev pub fails_next : MemoryClockState → Bool
fails_next c = list_any (λ n. nat_eq n (one_more c.seen.readings)) c.failing

abbrev pub first_time : List ℕ → ℕ
first_time [] = 0
first_time (time ∷ _) = time

abbrev pub other_times : List ℕ → List ℕ
other_times [] = []
other_times (_ ∷ rest) = rest

-- A reading tells the next time, or the last one again where that is later, where no time is left, and where it is to fail.
pub record TellsNext (a : MemoryClockState) (now : ℕ) (b : MemoryClockState) : Type 0 where
  pub time : now ≡ (if fails_next a then a.seen.last else max a.seen.last (first_time a.ahead))
  pub ahead : b.ahead ≡ (if fails_next a then a.ahead else other_times a.ahead)
  pub failing : b.failing ≡ a.failing
  pub seen : b.seen ≡ (if fails_next a then failed a.seen else told now a.seen)

-- ---- spans of time

-- the greatest int8, where it is more
abbrev pub as_int8 : ℕ → ℤ
as_int8 nanos = pos (min nanos (2 ^ 63 - 1))
