-- Lookups in rounds, and why they come to an end.
use Rattle.std.specs.Prelude.{◌≡◌, ◌⊎◌, ℕ, zero, suc, ◌<◌, List, [], ◌∷◌, ◌++◌, map, Some, None, IsSome}
use Rattle.pg_resolve.specs.declared.row.TypeResolverRow.{TypeResolverRow}
use Rattle.pg_resolve.specs.Cached.{CacheSeen, known}
use Rattle.pg_resolve.specs.Resolving.{ResolverSeen, waiting_for, again, Queries}
use Rattle.pg_resolve.specs.Settling.{Has, IsWaiting, NeedsType, WaitsForUnknown, WaitsForNeeded, HasRows, Settles, KeepsSound}

-- what a resolver has reached that asked for these OIDs and has taken rows of those
pub record Reached (asked read : List ℕ) (s : ResolverSeen) (c : CacheSeen) : Type 0 where
  -- each row that was taken is kept or waits
  pub taken : (oid : ℕ) → Has read oid → IsSome (known c oid) ⊎ ((row : TypeResolverRow) × (row.oid ≡ oid) × IsWaiting s row)
  pub unknown : WaitsForUnknown s c
  pub needed : WaitsForNeeded s
  pub rows : HasRows s
  -- each type that is waited for was asked, or will be in the next lookup
  pub noted : (p : ℕ) (row : TypeResolverRow) → Has (waiting_for s p) row → Has s.began p ⊎ Has asked p

-- all that was asked was answered by a row
abbrev pub IsAnswered : List ℕ → List ℕ → Type 0
IsAnswered asked read = (oid : ℕ) → Has asked oid → Has read oid

-- no type needs itself, over any number of others: what a row that waits needs has a lower rank
abbrev pub IsAcyclic : (ℕ → ℕ) → ResolverSeen → Type 0
IsAcyclic rank s = (row : TypeResolverRow) (p : ℕ) → IsWaiting s row → NeedsType row p → rank p < rank row.oid

-- a type of which no row was taken, which a row waits for and the next lookup asks
pub record IsNew (read : List ℕ) (s : ResolverSeen) (c : CacheSeen) : Type 0 where
  pub oid : ℕ
  pub row : TypeResolverRow
  pub waits : Has (waiting_for s oid) row
  pub noted : Has s.began oid
  pub unknown : known c oid ≡ None
  pub unread : Has read oid → ⊥

-- these rows are taken one after another
abbrev pub TakesAll : List TypeResolverRow → ResolverSeen → CacheSeen → ResolverSeen → CacheSeen → Type 0
TakesAll [] s c t d = (t ≡ s) × (d ≡ c)
TakesAll (row ∷ rows) s c t d = (between : ResolverSeen) × (kept : CacheSeen) × Settles row s c [] between kept × TakesAll rows between kept t d × KeepsSound row s c kept

-- a round: a lookup, and all rows of its answer, in any order; what rows wait for was asked, and is answered by a row of each
pub record Round (asked read : List ℕ) (s : ResolverSeen) (c : CacheSeen) (asked_then read_then : List ℕ) (t : ResolverSeen) (d : CacheSeen) : Type 0 where
  pub text : List ℕ
  pub begun : ResolverSeen
  pub rows : List TypeResolverRow
  pub queries : Queries s (Some text) begun
  pub takes : TakesAll rows begun c t d
  pub asks : asked_then ≡ asked ++ again s.waiting [] s.began
  pub reads : read_then ≡ read ++ map (λ row. row.oid) rows
  pub answered : IsAnswered asked_then read_then

-- rows wait for no other types than these
abbrev pub IsAmong : List ℕ → ResolverSeen → Type 0
IsAmong types s = (p : ℕ) (row : TypeResolverRow) → Has (waiting_for s p) row → Has types p

-- so many rounds of a new resolver, where each after the first is begun while a row waits
abbrev pub Runs : (ℕ → ℕ) → List ℕ → ℕ → List ℕ → List ℕ → ResolverSeen → CacheSeen → Type 0
Runs rank types zero asked read s c = (asked ≡ []) × (read ≡ []) × (s.waiting ≡ [])
Runs rank types (suc n) asked read t d =
    (asked_before : List ℕ) × (read_before : List ℕ) × (s : ResolverSeen) × (c : CacheSeen) × Runs rank types n asked_before read_before s c × Round asked_before read_before s c asked read t d
    × (0 < n → (row : TypeResolverRow) × IsWaiting s row) × IsAcyclic rank s × IsAmong types s

-- the first of these rounds reads a row of one of the types
abbrev pub ReadsFirst : (rank : ℕ → ℕ) (types : List ℕ) (n : ℕ) (asked read : List ℕ) (s : ResolverSeen) (c : CacheSeen) → Runs rank types n asked read s c → Type 0
ReadsFirst rank types zero asked read s c runs = Unit {0}
ReadsFirst rank types (suc zero) asked read s c runs = (p : ℕ) × Has types p × Has read p
ReadsFirst rank types (suc (suc n)) asked read s c runs = ReadsFirst rank types (suc n) runs.0 runs.1 runs.2 runs.3 runs.4

-- the resolver had made no lookup before these rounds
abbrev pub BeginsNew : (rank : ℕ → ℕ) (types : List ℕ) (n : ℕ) (asked read : List ℕ) (s : ResolverSeen) (c : CacheSeen) → Runs rank types n asked read s c → Type 0
BeginsNew rank types zero asked read s c runs = s.rounds ≡ 0
BeginsNew rank types (suc n) asked read s c runs = BeginsNew rank types n runs.0 runs.1 runs.2 runs.3 runs.4
