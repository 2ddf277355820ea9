-- Lookups that come to an end leave no row waiting.
use Rattle.std.proofs.Common.{◌≡◌, inl, inr, ℕ, zero, suc, ◌+◌, ◌<◌, ◌≤◌, List, [], ◌∷◌, ◌++◌, length, map, max, refl, ap, ◌∙◌, None, Result, Ok, Err, arith}
use Rattle.pg_arguments.specs.Types.{most_levels}
use Rattle.pg_wire.specs.declared.error.Error.{Error}
use Rattle.pg_wire.specs.declared.error.Error.TheVariants as errors
use Rattle.pg_resolve.specs.declared.row.TypeResolverRow.{TypeResolverRow}
use Rattle.pg_resolve.specs.declared.entry.Entry.{Entry}
use Rattle.pg_resolve.specs.Rows.{custom_of}
use Rattle.pg_resolve.specs.Catalog.{Catalog, IsIn}
use Rattle.pg_resolve.specs.Cached.{CacheSeen}
use Rattle.pg_resolve.specs.Sound.{IsSound, IsComplete}
use Rattle.pg_resolve.specs.Resolving.{ResolverSeen, again, by_oid, Queries, Ends}
use Rattle.pg_resolve.specs.Settling.{AllOf, IsRefusal}
use Rattle.pg_resolve.specs.Rounds.{TakesAll, Reached, IsAnswered, IsAcyclic, IsAmong, Runs, ReadsFirst, BeginsNew}
use Rattle.pg_resolve.proofs.TriedLaws.{refused, refused_unknown}
use Rattle.pg_resolve.proofs.SettlingLaws.{has_in}
use Rattle.pg_resolve.proofs.SoundLaws.{held_in, described_means}
use Rattle.pg_resolve.proofs.RoundLaws.{new_row, asked_then, none_left, runs_reach, rounds_end, rounds_end_first}

-- ---- as many lookups as rounds

rounds_kept : (rows : List TypeResolverRow) (s t : ResolverSeen) (c d : CacheSeen) → TakesAll rows s c t d → t.rounds ≡ s.rounds
rounds_kept [] s t c d takes = ap (λ (x : ResolverSeen). x.rounds) takes.0
rounds_kept (row ∷ rows) s t c d takes = rounds_kept rows takes.0 t takes.1 d takes.3 ∙ takes.2.rounds

rounds_made : (rank : ℕ → ℕ) (types : List ℕ) (n : ℕ) (asked read : List ℕ) (s : ResolverSeen) (c : CacheSeen) (runs : Runs rank types n asked read s c) → BeginsNew rank types n asked read s c runs → s.rounds ≡ n
rounds_made rank types zero asked read s c runs new = new
rounds_made rank types (suc n) asked read t d runs new =
    let before = rounds_made rank types n runs.0 runs.1 runs.2 runs.3 runs.4 new in
    let begun : runs.5.begun.rounds ≡ runs.2.rounds + 1 = ap (λ (x : ResolverSeen). x.rounds) runs.5.queries.2 in
    let kept = rounds_kept runs.5.rows runs.5.begun t runs.3 d runs.5.takes in
    omega (arith, before, begun, kept)

-- ---- where nothing is asked, no row waits

no_more : (pushed : List Entry) (oids : List ℕ) → pushed ++ map by_oid oids ≡ [] → oids ≡ []
no_more [] [] e = refl
no_more [] (p ∷ ps) e = absurd cc
no_more (x ∷ xs) oids e = absurd cc

none_asked : (rank : ℕ → ℕ) (asked read : List ℕ) (s : ResolverSeen) (c : CacheSeen) → Reached asked read s c → IsAnswered asked read → IsAcyclic rank s → again s.waiting [] s.began ≡ [] → s.waiting ≡ []
none_asked rank asked read s c reached answered acyclic none =
    none_left s reached.rows (λ row w. let new = new_row rank asked read s c reached answered acyclic row w in has_in _ _ new.oid none (asked_then s new.oid new.row new.waits new.noted))

ended_well : (s t : ResolverSeen) (result : Result (Unit {0}) Error) → t ≡ s → s.waiting ≡ [] → Ends t result → result ≡ Ok tt
ended_well s t (Ok u) same none ends = refl
ended_well s t (Err e) same none ends = absurd (ends.1 (ap (λ (x : ResolverSeen). x.waiting) same ∙ none))

pub lookups_end : (rank : ℕ → ℕ) (types : List ℕ) (n : ℕ) (asked read : List ℕ) (s t : ResolverSeen) (c : CacheSeen) (result : Result (Unit {0}) Error) (runs : Runs rank types n asked read s c) → BeginsNew rank types n asked read s c runs
    → IsAcyclic rank s → IsAmong types s → length types < 64 → Queries s None t → Ends t result → result ≡ Ok tt
lookups_end rank types n asked read s t c result runs new acyclic among few queries ends =
    let reached = runs_reach rank types n asked read s c runs in
    let made = rounds_made rank types n asked read s c runs new in
    let none : s.waiting ≡ [] = elim queries.1 [
      | inl most ↦ rounds_end rank types n asked read s c runs acyclic among (omega (arith, most, made, few))
      | inr nothing ↦ none_asked rank asked read s c reached.0 reached.1 acyclic (no_more s.pushed (again s.waiting [] s.began) nothing)
    ] in
    ended_well s t result queries.0 none ends

pub lookups_end_first : (rank : ℕ → ℕ) (types : List ℕ) (n : ℕ) (asked read : List ℕ) (s t : ResolverSeen) (c : CacheSeen) (result : Result (Unit {0}) Error) (runs : Runs rank types (suc n) asked read s c) → BeginsNew rank types (suc n) asked read s c runs
    → ReadsFirst rank types (suc n) asked read s c runs → IsAcyclic rank s → IsAmong types s → length types ≤ 64 → Queries s None t → Ends t result → result ≡ Ok tt
lookups_end_first rank types n asked read s t c result runs new first acyclic among few queries ends =
    let reached = runs_reach rank types (suc n) asked read s c runs in
    let made = rounds_made rank types (suc n) asked read s c runs new in
    let none : s.waiting ≡ [] = elim queries.1 [
      | inl most ↦ rounds_end_first rank types n asked read s c runs first acyclic among (omega (arith, most, made, few))
      | inr nothing ↦ none_asked rank asked read s c reached.0 reached.1 acyclic (no_more s.pushed (again s.waiting [] s.began) nothing)
    ] in
    ended_well s t result queries.0 none ends

-- ---- rows of a complete catalog are taken

too_deep : (made : ℕ) → 64 ≤ made → max (made + 1) made ≤ 64 → ⊥
too_deep made l m = omega (arith, l, m)

pub taken_but_for_memory : (catalog : Catalog) (taken : TypeResolverRow) (s : ResolverSeen) (c : CacheSeen) (e : Error) → IsComplete catalog → IsIn catalog taken → AllOf catalog s → IsSound catalog c → IsRefusal taken s c e → e ≡ errors.OutOfMemory
taken_but_for_memory catalog taken s c e complete of all sound (inl memory) = memory
taken_but_for_memory catalog taken s c e complete of all sound (inr r) =
    let within : IsIn catalog r.0 = held_in catalog taken r.0 s of all r.2 in
    elim (refused r.0 r.1 r.4) [
      | inl lacks ↦ absurd (complete.parts r.0 within lacks)
      | inr deep ↦
          let meant = described_means catalog r.1 r.0 deep.0 (r.3 catalog of all sound) within (refused_unknown r.0 r.1 r.4) deep.1 in
          absurd (too_deep (most_levels deep.0) deep.2 (complete.levels r.0.oid (custom_of r.0 deep.0) meant))
    ]
