-- Rows that are taken one after the other, in any order.
use Rattle.std.proofs.Common.{◌⊎◌, inl, inr, List, [], ◌∷◌, refl, sym, subst}
use Rattle.pg_resolve.specs.declared.row.TypeResolverRow.{TypeResolverRow}
use Rattle.pg_resolve.specs.Cached.{CacheSeen, known}
use Rattle.pg_resolve.specs.Catalog.{Catalog, IsIn}
use Rattle.pg_resolve.specs.Sound.{IsSound}
use Rattle.pg_resolve.specs.Resolving.{ResolverSeen}
use Rattle.pg_resolve.specs.Settling.{Has, IsHeld, IsWaiting, IsEntered, AllOf, Settles}
use Rattle.pg_resolve.specs.Rounds.{TakesAll}
use Rattle.pg_resolve.proofs.SettlingLaws.{still_known}
use Rattle.pg_resolve.proofs.SoundLaws.{held_in}

still_entered : (q row : TypeResolverRow) (s t : ResolverSeen) (c d : CacheSeen) → Settles q s c [] t d → IsEntered c row → IsEntered d row
still_entered q row s t c d way e = record {
  type = still_known (known c row.oid) c d row.oid refl (λ t h. way.stays row.oid t h) e.type;
  names = λ name is. way.named name (e.names name is);
}

held_after : (q row : TypeResolverRow) (s t : ResolverSeen) (c d : CacheSeen) → Settles q s c [] t d → IsHeld (q ∷ []) s row → IsEntered d row ⊎ IsWaiting t row
held_after q row s t c d way h = elim (way.kept row h) [ inl entered ↦ inl entered | inr held ↦ elim held [ inl at_work ↦ absurd at_work | inr waits ↦ inr waits ] ]

all_entered : (rows : List TypeResolverRow) (row : TypeResolverRow) (s t : ResolverSeen) (c d : CacheSeen) → TakesAll rows s c t d → IsEntered c row → IsEntered d row
all_entered [] row s t c d takes e = subst (λ (x : CacheSeen). IsEntered x row) (sym takes.1) e
all_entered (q ∷ qs) row s t c d takes e = all_entered qs row takes.0 t takes.1 d takes.3 (still_entered q row s takes.0 c takes.1 takes.2 e)

all_waiting : (rows : List TypeResolverRow) (row : TypeResolverRow) (s t : ResolverSeen) (c d : CacheSeen) → TakesAll rows s c t d → IsWaiting s row → IsEntered d row ⊎ IsWaiting t row
all_waiting [] row s t c d takes w = inr (subst (λ (x : ResolverSeen). IsWaiting x row) (sym takes.0) w)
all_waiting (q ∷ qs) row s t c d takes w = elim (held_after q row s takes.0 c takes.1 takes.2 (inr w)) [
  | inl entered ↦ inl (all_entered qs row takes.0 t takes.1 d takes.3 entered)
  | inr waits ↦ all_waiting qs row takes.0 t takes.1 d takes.3 waits
]

pub all_kept : (rows : List TypeResolverRow) (s t : ResolverSeen) (c d : CacheSeen) → TakesAll rows s c t d → (row : TypeResolverRow) → Has rows row → IsEntered d row ⊎ IsWaiting t row
all_kept [] s t c d takes row h = absurd h
all_kept (q ∷ qs) s t c d takes row (inl e) = elim (held_after q row s takes.0 c takes.1 takes.2 (inl (inl e))) [
  | inl entered ↦ inl (all_entered qs row takes.0 t takes.1 d takes.3 entered)
  | inr waits ↦ all_waiting qs row takes.0 t takes.1 d takes.3 waits
]
all_kept (q ∷ qs) s t c d takes row (inr h) = all_kept qs takes.0 t takes.1 d takes.3 row h

pub all_sound : (catalog : Catalog) (rows : List TypeResolverRow) (s t : ResolverSeen) (c d : CacheSeen) → TakesAll rows s c t d → ((row : TypeResolverRow) → Has rows row → IsIn catalog row) → AllOf catalog s → IsSound catalog c → IsSound catalog d
all_sound catalog [] s t c d takes of all sound = subst (λ (x : CacheSeen). IsSound catalog x) (sym takes.1) sound
all_sound catalog (q ∷ qs) s t c d takes of all sound =
    all_sound catalog qs takes.0 t takes.1 d takes.3 (λ row h. of row (inr h)) (λ row w. held_in catalog q row s (of q (inl refl)) all (takes.2.only row (inr w))) (takes.4 catalog (of q (inl refl)) all sound)
